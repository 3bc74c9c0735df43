-- Samples of the excitation fit their words.
use Prim.Native.Nat.{ℕ, zero, suc, ◌<◌, ◌≤◌}
use mathlib.Core.Path.{◌≡◌, refl, sym, ap, ◌∙◌}
use mathlib.Core.Bool.{Bool, true, false, cond}
use mathlib.Core.List.{List, ◌++◌}
use native.Mathlib.Omega.{arith}
use lib.Dec.{lit≤}
use lib.IntN.{ℤ, pos, negsuc, nat_abs, neg_ℤ, ◌+ℤ◌, ◌-ℤ◌, ◌*ℤ◌}
use lib.ListN.{length, get_or, set, drop}
use lib.Signed.{lt_z}
use mir.Syntax.{w16, w32}
use mir.Val.{SFits}
use Rattle.word.specs.Int.{wrap32}
use Rattle.word.proofs.Sizes.{abs-add, abs-sub, abs-mul, abs_neg, fits-abs, abs-fits}
use mir.Facts.{to_z-of_z}
use Rattle.word.proofs.Words.{kept, wrap_id, wrap_add_l, wrap_neg, wrap-wrap}
use Rattle.word.proofs.Lists.{length_snoc, grow}
use Rattle.macros.specs.Fixed.{rand}
use Rattle.excitation.specs.Excitation.{level, excited, generator_at, excitation}

nearer : (a b : Bool) → nat_abs (cond a (pos 1280) (cond b (negsuc 1279) (pos 0))) ≤ 1280
nearer true b = lit≤ tt
nearer false true = lit≤ tt
nearer false false = lit≤ tt

level-size : (p : ℤ) → SFits w16 p → nat_abs (level p) ≤ 536872192
unfolding level
level-size p h =
    let a = lt_z (pos 0) p in
    let b = lt_z p (pos 0) in
    omega (
      arith,
      abs-sub (p *ℤ pos 16384) (cond a (pos 1280) (cond b (negsuc 1279) (pos 0))),
      abs-mul p (pos 16384),
      nearer a b,
      fits-abs {w = w16} p h,
    )

-- a level by a difference of words
pub level-word : (p b : ℤ) → SFits w16 p → level p ≡ p *ℤ pos 16384 -ℤ b → wrap32 (wrap32 (p *ℤ pos 16384) -ℤ b) ≡ level p
level-word p b h e =
    wrap_add_l w32 (p *ℤ pos 16384) (neg_ℤ b) ∙ ap wrap32 (sym e)
    ∙ wrap_id {w = w32} {z = level p} (abs-fits (level p) (omega (arith, level-size p h)))

module _ (offset p : ℤ) (k : nat_abs offset ≤ 3840) (h : SFits w16 p) where
  pub sample_word : wrap32 (level p +ℤ offset) ≡ level p +ℤ offset
  sample_word =
      wrap_id {w = w32} {z = level p +ℤ offset} (abs-fits (level p +ℤ offset) (omega (arith, abs-add (level p) offset, level-size p h)))

  pub negated_word : wrap32 (neg_ℤ (wrap32 (level p +ℤ offset))) ≡ neg_ℤ (level p +ℤ offset)
  negated_word =
      let z = level p +ℤ offset in
      wrap_neg w32 z
      ∙ wrap_id {w = w32} {z = neg_ℤ z} (abs-fits (neg_ℤ z) (omega (arith, abs_neg z, abs-add (level p) offset, level-size p h)))

-- ---- the list of samples
pub length-excitation : (offset : ℤ) (pulses : List ℤ) (seed : ℤ) (n : ℕ) → length (excitation offset pulses seed n) ≡ n
unfolding excitation
length-excitation offset pulses seed zero = refl
length-excitation offset pulses seed (suc n) = length_snoc (excitation offset pulses seed n) _ ∙ ap suc (length-excitation offset pulses seed n)

-- one more
pub excite_turn : (offset : ℤ) (pulses : List ℤ) (seed : ℤ) (d : List ℤ) (i : ℕ) → i < length d
    → set (excitation offset pulses seed i ++ drop i d) i (excited offset (rand (generator_at pulses seed i)) (get_or pulses i (pos 0)))
    ≡ excitation offset pulses seed (suc i) ++ drop (suc i) d
unfolding excitation
excite_turn offset pulses seed d i h =
    grow (excitation offset pulses seed i) d i _ (length-excitation offset pulses seed i) h

pub ruleset levels = (kept, to_z-of_z, level-word, wrap-wrap)
