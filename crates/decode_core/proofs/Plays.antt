-- A subframe, from what its parts leave.
use Prim.Native.Nat.{ℕ, ◌*◌, ◌/◌, ◌≤◌}
use mathlib.Core.Path.{◌≡◌, refl, ap, ◌∙◌}
use mathlib.Core.Bool.{Bool, true, false, cond}
use mathlib.Core.List.{List, [], ◌++◌, map}
use lib.IntN.{ℤ, pos}
use lib.ListN.{length, get_or, take, drop}
use lib.Seq.{take_at, drop_at, length-take-le}
use Rattle.macros.specs.Fixed.{smulww}
use Rattle.sigproc.specs.Synthesis.{synthesis, played}
use Rattle.std.proofs.lemmas.List.{length-map}
use Rattle.decoder.specs.declared.SilkDecoderControl.{SilkDecoderControl}
use Rattle.decode_core.specs.Core.{gain_adjustment, held_lag, smooth, smoothed, control_at, subframe}
use Rattle.decode_core.specs.Ready.{LongTerm, held}
use Rattle.decode_core.specs.declared.Setting.{Setting}
use Rattle.decode_core.specs.declared.Carried.{Carried}

-- a transition leaves the gains
pub control_at_gains : (f : Setting) (c : SilkDecoderControl) (k : ℕ) → (control_at f c k).gains_q16 ≡ c.gains_q16
unfolding control_at smoothed
control_at_gains f c k = go (smooth f k)
  where
    go : (b : Bool) → (cond b (smoothed c (held_lag f) k) c).gains_q16 ≡ c.gains_q16
    go true = refl
    go false = refl

module _ (f : Setting) (rows : List (List ℤ)) (exc : List ℤ) (k : ℕ) (b b' : Carried) (row : List ℤ) (adj : ℤ) (before after signal loaded mid signal' ob ob' samples res out : List ℤ)
    (hc : b'.control ≡ control_at f b.control k)
    (hr : row ≡ get_or rows (k / 2) [])
    (hg : b'.gain ≡ get_or b'.control.gains_q16 k (pos 0))
    (ha : adj ≡ gain_adjustment b.gain b'.gain)
    (hs : 16 ≤ length signal)
    (hl : loaded ≡ map (smulww adj) (take 16 signal) ++ take f.subfr_length (drop (f.subfr_length * k) exc))
    (ht : LongTerm f b'.control k row adj samples ob ob' before after (drop 16 loaded) res)
    (hm : mid ≡ take 16 loaded ++ res)
    (h' : take 16 signal' ≡ drop f.subfr_length (synthesis (take 16 mid) (drop 16 mid) row f.lpc_order f.subfr_length))
    (ho : out ≡ map (played b'.gain) (drop 16 (synthesis (take 16 mid) (drop 16 mid) row f.lpc_order f.subfr_length))) where
  pub one_more : held b' after signal' ob' (samples ++ out) ≡ subframe f rows exc k (held b before signal ob samples)
  unfolding subframe
  one_more =
      let m = map (smulww adj) (take 16 signal) in
      let lm : length m ≡ 16 = length-map (take 16 signal) (smulww adj) ∙ length-take-le 16 signal hs in
      let e = take f.subfr_length (drop (f.subfr_length * k) exc) in
      let tl : take 16 loaded ≡ m = ap (take 16) hl ∙ take_at m e 16 lm in
      let dl : drop 16 loaded ≡ e = ap (drop 16) hl ∙ drop_at m e 16 lm in
      let mm : mid ≡ m ++ res = hm ∙ ap (λ (x : List ℤ). x ++ res) tl in
      let tm : take 16 mid ≡ m = ap (take 16) mm ∙ take_at m res 16 lm in
      let dm : drop 16 mid ≡ _ = ap (drop 16) mm ∙ drop_at m res 16 lm ∙ ht.residual in
      let s : synthesis (take 16 mid) (drop 16 mid) row f.lpc_order f.subfr_length ≡ _ = λ i. synthesis (tm i) (dm i) row f.lpc_order f.subfr_length in
      rw (← hc, ← hr, ← hg, ← ha, ← dl)
      (λ i. record {
        control = b'.control;
        past = ht.past i;
        memory = (h' ∙ ap (drop f.subfr_length) s) i;
        gain = b'.gain;
        buffer = ht.buffer i;
        samples = samples ++ (ho ∙ ap (λ (x : List ℤ). map (played b'.gain) (drop 16 x)) s) i;
      })
