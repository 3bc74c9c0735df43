-- The synthesis in the buffer: the memory goes in front of the frame's excitation, and the samples replace it.
use Prim.Native.Nat.{ℕ, ◌+◌, ◌-◌, ◌≤◌}
use mathlib.Core.Path.{◌≡◌, ◌∙◌}
use mathlib.Core.List.{List, ◌++◌, append_assoc}
use native.Mathlib.Omega.{arith}
use borrow.Rule.Slice.PartMut.{put_mid, post_of}
use lib.IntN.{ℤ}
use lib.ListN.{length, take, drop, length-drop, length-append}
use lib.Seq.{take_at, drop_at, take-append-add, drop-append-add, drop-append-le, length-take-le}
use Rattle.std.proofs.lemmas.List.{drop-take}
use Rattle.sigproc.specs.Place.{put_at}
use Rattle.sigproc.specs.Synthesis.{synthesis}
use Rattle.sigproc.proofs.Filter.{synth_length}

-- the last elements of the second of three lists
inside : (p s q : List ℤ) (m j i : ℕ) → m ≡ length p + j → j + i ≡ length s → take i (drop m (p ++ (s ++ q))) ≡ drop j s
inside p s q m j i e h =
    let l : length (drop j s) ≡ i = simp length-drop (omega arith) in
    rw (e, drop-append-add p (s ++ q) j, drop-append-le j s q (omega arith)) (take_at (drop j s) q i l)

module _ (buf memory a : List ℤ) (d mem len : ℕ) (m16 : length memory ≡ 16) (h : 16 ≤ mem) (k : mem + len ≤ length buf) where
  -- what is lent to the synthesis
  lent : take (mem + len - (mem - 16)) (drop (mem - 16) (put_at buf (mem - 16) memory)) ≡ memory ++ drop mem (take (mem + len) buf)
  unfolding put_at
  lent =
      let base = mem - 16 in
      let e : mem + len - base ≡ length memory + len = omega arith in
      let f : base + length memory ≡ mem = omega arith in
      rw (e, f, append_assoc (take base buf) memory (drop mem buf), drop_at (take base buf) (memory ++ drop mem buf) base (length-take-le base buf (omega arith)), drop-take mem len buf)
      (take-append-add memory (drop mem buf) len)

  -- the memory and the samples
  abbrev made : List ℤ
  made = synthesis memory (drop mem (take (mem + len) buf)) a d len

  pub made_in : (x : List ℤ) → x ≡ take (mem + len - (mem - 16)) (drop (mem - 16) (put_at buf (mem - 16) memory)) → synthesis (take 16 x) (drop 16 x) a d (length x - 16) ≡ made
  made_in x e =
      let u = drop mem (take (mem + len) buf) in
      let lu : length u ≡ len = rw (drop-take mem len buf) (length-take-le len (drop mem buf) (simp length-drop (omega arith))) in
      let n : length (memory ++ u) - 16 ≡ len = simp length-append (omega arith) in
      rw (e, lent, n, take_at memory u 16 m16, drop_at memory u 16 m16)

  made-length : length made ≡ 16 + len
  made-length = synth_length memory (drop mem (take (mem + len) buf)) a d len ∙ omega arith

  module _ (b : List ℤ) (same : length b ≡ length buf) where
    start-length : length (take (mem - 16) b) ≡ mem - 16
    start-length = length-take-le (mem - 16) b (omega arith)

    -- the samples
    pub samples : take (mem + len - mem) (drop mem (put_mid (mem - 16) (mem + len - (mem - 16)) b made)) ≡ drop 16 made
    samples =
        inside (take (mem - 16) b) made (post_of (mem - 16) (mem + len - (mem - 16)) b) mem 16 (mem + len - mem) (omega (arith, start-length)) (omega (arith, made-length))

    -- the memory that they leave
    pub memory_after : take (mem + len - (mem + len - 16)) (drop (mem + len - 16) (put_mid (mem - 16) (mem + len - (mem - 16)) b made)) ≡ drop len made
    memory_after =
        inside (take (mem - 16) b) made (post_of (mem - 16) (mem + len - (mem - 16)) b) (mem + len - 16) len (mem + len - (mem + len - 16)) (omega (arith, start-length)) (omega (arith, made-length))
