-- Bytes that are taken one part after another.
use Rattle.std.proofs.Common.{List, ◌++◌, ℕ, ◌+◌, ◌-◌, ◌≤◌, length, take, drop, sym, ap, ◌∙◌, subst, le_refl, arith, length-append, length-take-le}
use Rattle.std.proofs.lemmas.List.{take-append-le}
use Rattle.std.proofs.lemmas.Slice.{take-put_mid_below}
use Rattle.std.proofs.Math.Seq.{take-append-add}
use borrow.Rule.Slice.PartMut.{put_mid}
use Rattle.std.specs.Prelude.{Option}
use Rattle.std.specs.Io.KnownBytes.{Consumes, Keeps}
use Rattle.std.proofs.KnownBytes.{Consumes-trans, Consumes-kept}

module _ (b p : List ℕ) (n : ℕ) (h : n ≤ length b) where
  -- the slice, with p from place n on
  abbrev pub filled : List ℕ
  filled = put_mid n (length b - n) b p

  -- it has room for a part of p
  pub part_room : (k : ℕ) → k ≤ length p → n + k ≤ length filled
  part_room k l =
      let rest = drop (length b - n) (drop n b) in
      omega (arith, length-take-le n b h, length-append (take n b) (p ++ rest), length-append p rest)

  -- which is taken behind what was there
  pub part_taken : (old mid new : Option (List ℕ)) (k : ℕ) → k ≤ length p → Consumes old mid (take n b) → Consumes mid new (take k p) → Consumes old new (take (n + k) filled)
  part_taken old mid new k l t u =
      let s = length-take-le n b h in
      let rest = drop (length b - n) (drop n b) in
      let e = ap (λ (m : ℕ). take (m + k) filled) (sym s) ∙ take-append-add (take n b) (p ++ rest) k ∙ ap (λ (w : List ℕ). take n b ++ w) (take-append-le k p rest l) in
      subst (Consumes old new) (sym e) (Consumes-trans old mid new _ _ t u)

  -- an interrupted read takes nothing
  pub none_taken : (old mid new : Option (List ℕ)) → Consumes old mid (take n b) → Keeps mid new → Consumes old new (take n filled)
  none_taken old mid new t u =
      subst (Consumes old new) (sym (take-put_mid_below _ _ _ _ n (le_refl n) h)) (Consumes-kept old mid new _ t u)
