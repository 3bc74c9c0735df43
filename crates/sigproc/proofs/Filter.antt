-- A frame of the short-term filter whose coefficients' sizes add up to at most 2,048. With excitation within U, any B from U + 128 on and a
-- memory within 2 B + D, its samples are within 2 B + D / 2, and after eight rounds of the order the memory is within 2 B + D / 256.
use Rattle.std.proofs.Common.{◌≡◌, ℕ, zero, suc, ◌+◌, ◌-◌, ◌*◌, ◌/◌, ◌^◌, ◌<◌, ◌≤◌, Bool, true, false, ltb, List, [], ◌∷◌, length, get_or, drop, ℤ, pos, sym, refl, ap, ◌∙◌, subst, le_refl, arith, length-drop, get_or-drop, ltb-false, ltb-true}
use lib.ListN.{get_or-append}
use lib.Seq.{get_or_at}
use Rattle.word.specs.Size.{size_at, sizes, Bounded}
use Rattle.word.proofs.Lists.{snoc_le, length_snoc, beyond}
use Rattle.sigproc.specs.Synthesis.{prediction, synthesised, synthesis}
use Rattle.sigproc.proofs.Predict.{sampled}

-- the last d of a memory of 16 are within M
abbrev pub Memory : ℕ → ℕ → List ℤ → Type 0
Memory d M mem = (k : ℕ) → 16 ≤ k + d → size_at mem k ≤ M

module _ (mem u a : List ℤ) (d : ℕ) where
  pub synth_length : (n : ℕ) → length (synthesis mem u a d n) ≡ length mem + n
  unfolding synthesis
  synth_length zero = omega arith
  synth_length (suc n) =
      let x = synthesised (get_or u n (pos 0)) (prediction (synthesis mem u a d n) a d (16 + n) d) in
      omega (arith, length_snoc (synthesis mem u a d n) x, synth_length n)

  -- the memory that a frame leaves is as long as the one that it had
  pub memory_length : (n : ℕ) → length (drop n (synthesis mem u a d n)) ≡ length mem
  memory_length n = length-drop n (synthesis mem u a d n) ∙ omega (arith, synth_length n)

  -- later samples leave earlier ones as they are
  pub synth_same : (k m i : ℕ) → k ≤ m → i < length mem + k → get_or (synthesis mem u a d m) i (pos 0) ≡ get_or (synthesis mem u a d k) i (pos 0)
  unfolding synthesis
  synth_same k m i hk h =
      let e : m - k + k ≡ m = omega arith in
      ap (λ (m : ℕ). get_or (synthesis mem u a d m) i (pos 0)) (sym e) ∙ more (m - k)
    where
      more : (m : ℕ) → get_or (synthesis mem u a d (m + k)) i (pos 0) ≡ get_or (synthesis mem u a d k) i (pos 0)
      more zero = let e : zero + k ≡ k = omega arith in rw e refl
      more (suc m) =
          let e : suc m + k ≡ suc (m + k) = omega arith in
          let s = synthesis mem u a d (m + k) in
          let x = synthesised (get_or u (m + k) (pos 0)) (prediction s a d (16 + (m + k)) d) in
          rw e (get_or-append s (x ∷ []) (pos 0) i (omega (arith, synth_length (m + k))) ∙ more m)

  module _ (hd : d ≤ 16) (hS : sizes a d ≤ 2048) (U W : ℕ) (hW : W ≤ 2 ^ 31) (hu : Bounded U u) where
    -- no sample leaves a bound that the memory keeps, if it is large enough for the excitation
    pub kept-within : U + 128 + W / 2 ≤ W → Memory d W mem → (n : ℕ) → Memory d W (synthesis mem u a d n)
    unfolding synthesis
    kept-within hV hm zero = hm
    kept-within hV hm (suc n) = λ k hk.
        let s = synthesis mem u a d n in
        let ih = kept-within hV hm n in
        let b = sampled s a d (16 + n) W hd hW hS (λ j hj. ih (16 + n - 1 - j) (omega arith)) (get_or u n (pos 0)) in
        snoc_le s (synthesised (get_or u n (pos 0)) (prediction s a d (16 + n) d)) k W (ih k hk) (omega (arith, hu n))

    module _ (hl : length mem ≡ 16) (n : ℕ) where
      -- one sample of a frame of n, from bounds on the samples of the frame that it reads
      one : (i : ℕ) → i < n → ((k : ℕ) → 16 + i ≤ k + d → k < 16 + i → size_at (synthesis mem u a d n) k ≤ W)
          → size_at (synthesis mem u a d n) (16 + i) ≤ U + 128 + W / 2
      unfolding synthesis
      one i hi hs =
          let s = synthesis mem u a d i in
          let x = synthesised (get_or u i (pos 0)) (prediction s a d (16 + i) d) in
          let l : length s ≡ 16 + i = rw (synth_length i, hl) refl in
          let f : get_or (synthesis mem u a d n) (16 + i) (pos 0) ≡ x =
          synth_same (suc i) n (16 + i) hi (omega arith) ∙ get_or_at s x [] (pos 0) (16 + i) l in
          rw f (omega (arith, hu i, sampled s a d (16 + i) W hd hW hS read (get_or u i (pos 0))))
        where
          read : (j : ℕ) → j < d → size_at (synthesis mem u a d i) (16 + i - 1 - j) ≤ W
          read j hj =
              let k = 16 + i - 1 - j in
              rw (synth_same i n k (omega arith) (omega arith)) at (hs k (omega arith) (omega arith))

      -- from round q on within W: from the next on within half of it and the excitation
      round : (q : ℕ) → ((k : ℕ) → 16 + d * q ≤ k + d → size_at (synthesis mem u a d n) k ≤ W)
          → (k : ℕ) → 16 + d * suc q ≤ k + d → size_at (synthesis mem u a d n) k ≤ U + 128 + W / 2
      round q h k hk = go (ltb k (16 + n)) refl
        where
          go : (b : Bool) → ltb k (16 + n) ≡ b → size_at (synthesis mem u a d n) k ≤ U + 128 + W / 2
          go true t =
              let lt = ltb-true k (16 + n) t in
              let e : 16 + (k - 16) ≡ k = omega arith in
              subst (λ (i : ℕ). size_at (synthesis mem u a d n) i ≤ U + 128 + W / 2) e
              (one (k - 16) (omega arith) (λ i hi lt. h i (omega arith)))
          go false t =
              let ge = ltb-false k (16 + n) t in
              omega (arith, beyond (synthesis mem u a d n) k (omega (arith, synth_length n)))

-- D, halved q times
abbrev halved : ℕ → ℕ → ℕ
halved D zero = D
halved D (suc q) = halved D q / 2

halved_le : (D q : ℕ) → halved D q ≤ D
halved_le D zero = le_refl D
halved_le D (suc q) = omega (arith, halved_le D q)

module _ (mem u a : List ℤ) (d U B D n : ℕ) (hl : length mem ≡ 16) (hd : d ≤ 16) (hV : U + 128 ≤ B) (hD : 2 * B + D ≤ 2 ^ 31)
    (hS : sizes a d ≤ 2048) (hu : Bounded U u) (hm : Memory d (2 * B + D) mem) where
  rounds : (q k : ℕ) → 16 + d * q ≤ k + d → size_at (synthesis mem u a d n) k ≤ 2 * B + halved D q
  rounds zero k hk = kept-within mem u a d hd hS U (2 * B + D) hD hu (omega arith) hm n k (omega arith)
  rounds (suc q) k hk =
      omega (arith, round mem u a d hd hS U (2 * B + halved D q) (omega (arith, halved_le D q)) hu hl n q (rounds q) k hk)

  -- every sample of the frame
  pub samples-within : (i : ℕ) → size_at (synthesis mem u a d n) (16 + i) ≤ 2 * B + D / 2
  samples-within i = rounds 1 (16 + i) (omega arith)

  -- the memory that the frame leaves
  pub memory_within : 8 * d ≤ n → Memory d (2 * B + D / 256) (drop n (synthesis mem u a d n))
  memory_within hn k hk =
      rw (get_or-drop n (synthesis mem u a d n) k (pos 0)) (omega (arith, rounds 8 (n + k) (omega arith)))
