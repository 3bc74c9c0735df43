-- The noise in its buffer.
use Prim.Native.Nat.{ℕ, zero, suc, ◌+◌, ◌-◌, ◌≤◌}
use mathlib.Core.Path.{◌≡◌, refl, sym, ap, ◌∙◌}
use mathlib.Core.List.{List, ◌++◌, append-nil}
use native.Mathlib.Omega.{arith}
use native.Mathlib.Nat.{zero-add}
use borrow.Rule.Slice.PartMut.{put_mid}
use lib.ListN.{length, get_or, take, drop, length-append, length-drop, drop_of_length-le, get_or-append}
use lib.Seq.{take_at, drop_at, drop-append-le, get_or-drop}
use lib.IntN.{ℤ, pos, ◌+ℤ◌}
use Rattle.word.specs.Int.{sat16}
use Rattle.word.specs.Tabulate.{tabulate}
use Rattle.word.proofs.Lists.{length-tabulate, tabulate_cong}
use Rattle.sigproc.specs.Place.{put_at}
use Rattle.sigproc.specs.Synthesis.{prediction, synthesis, played}
use Rattle.sigproc.proofs.Filter.{synth_length}
use Rattle.sigproc.proofs.Fill.{filled}
use Rattle.decoder.specs.declared.SilkCNGState.{SilkCNGState}
use Rattle.cng.specs.Noise.{drawn, noise_signal, added_to}

-- only the first d coefficients count
coefs : (s a z : List ℤ) (d at j : ℕ) → j ≤ length a → prediction s (a ++ z) d at j ≡ prediction s a d at j
unfolding prediction
coefs s a z d at zero h = refl
coefs s a z d at (suc j) h = rw (coefs s a z d at j (omega arith), get_or-append a z (pos 0) j (omega arith)) refl

pub synthesis-coefs : (mem u a z : List ℤ) (d n : ℕ) → d ≤ length a → synthesis mem u (a ++ z) d n ≡ synthesis mem u a d n
unfolding synthesis
synthesis-coefs mem u a z d zero h = refl
synthesis-coefs mem u a z d (suc n) h =
    rw (synthesis-coefs mem u a z d n h, coefs (synthesis mem u a d n) a z d (16 + n) d h) refl

-- the memory at the front of a buffer, and the excitation after it
pub loaded : (buf mem u : List ℤ) → length mem ≡ 16 → 16 ≤ length buf → length u ≡ length buf - 16
    → put_mid 16 (length buf - 16) (put_at buf 0 mem) u ≡ mem ++ u
unfolding put_at
loaded buf mem u hm hb hu =
    let r = drop (length mem) buf in
    let l : length r ≤ length buf - 16 = rw (length-drop) (omega arith) in
    rw (zero-add, take_at mem r 16 hm, drop_at mem r 16 hm, drop_of_length-le r {i = length buf - 16} l) (ap (λ (x : List ℤ). mem ++ x) (append-nil u))

pub signal : (mem u a z : List ℤ) (d n : ℕ) → length mem ≡ 16 → length u ≡ n → length a ≡ d
    → synthesis (take 16 (mem ++ u)) (drop 16 (mem ++ u)) (a ++ z) d (length (mem ++ u) - 16) ≡ synthesis mem u a d n
signal mem u a z d n hm hu ha =
    let l : length (mem ++ u) - 16 ≡ n = rw (length-append) (omega arith) in
    rw (l, take_at mem u 16 hm, drop_at mem u 16 hm) (synthesis-coefs mem u a z d n (omega arith))

pub length-drawn : (exc : List ℤ) (mask : ℕ) (seed : ℤ) (n : ℕ) → length (drawn exc mask seed n) ≡ n
unfolding drawn
length-drawn exc mask seed n = length-tabulate n _

-- ---- the parts of the buffer after the synthesis
pub noise_length : (e : ℤ) (d : ℕ) (h : SilkCNGState) (n : ℕ) → length h.cng_synth_state ≡ 16 → length (noise_signal e d h n) ≡ 16 + n
unfolding noise_signal
noise_length e d h n l = synth_length h.cng_synth_state _ _ d n ∙ ap (λ (k : ℕ). k + n) l

module _ (s rest : List ℤ) (n : ℕ) (hs : length s ≡ 16 + n) where
  -- what comes after the first k, of which there are j
  after : (k j : ℕ) → k + j ≡ 16 + n → take j (drop k (s ++ rest)) ≡ drop k s
  after k j e =
      let l : length (drop k s) ≡ j = rw (length-drop) (omega arith) in
      rw (drop-append-le k s rest (omega arith)) (take_at (drop k s) rest j l)

  -- the last 16 are the new memory
  pub new_memory : (mem : List ℤ) → length mem ≡ 16 → put_at mem 0 (take (16 + n - n) (drop n (s ++ rest))) ≡ drop n s
  unfolding put_at
  new_memory mem hm =
      let e : 16 + n - n ≡ 16 = omega arith in
      let l : length (drop n s) ≡ 16 = rw (length-drop) (omega arith) in
      rw (e, after n 16 (omega arith), zero-add, drop_of_length-le mem {i = length (drop n s)} (omega arith)) (append-nil (drop n s))

  -- the others are added to the frame
  pub sum : (frame : List ℤ) (gain : ℤ) → length frame ≡ n
      → tabulate n (λ i. sat16 (get_or frame i (pos 0) +ℤ played gain (get_or (take (16 + n - 16) (drop 16 (s ++ rest))) i (pos 0)))) ≡ added_to frame s gain n
  unfolding added_to
  sum frame gain hf =
      let e : take (16 + n - 16) (drop 16 (s ++ rest)) ≡ drop 16 s = after 16 (16 + n - 16) (omega arith) in
      let f : ℕ → ℤ = λ i. sat16 (get_or frame i (pos 0) +ℤ played gain (get_or s (16 + i) (pos 0))) in
      tabulate_cong n _ f (λ i h. ap (λ (x : ℤ). sat16 (get_or frame i (pos 0) +ℤ played gain x)) (ap (λ (x : List ℤ). get_or x i (pos 0)) e ∙ get_or-drop 16 s i (pos 0)))
      ∙ sym (filled (tabulate n f) frame n (omega arith))
