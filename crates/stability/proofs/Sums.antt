-- The coefficients before the steps, each in Q24.
use Prim.Native.Nat.{ℕ, suc, ◌^◌, ◌<◌}
use mathlib.Core.Path.{◌≡◌, sym, ap, ◌∙◌}
use mathlib.Core.List.{List, [], ◌∷◌, ◌++◌, map, map-append}
use native.Mathlib.Omega.{arith}
use lib.IntN.{ℤ, pos, ◌*ℤ◌}
use lib.ListN.{length, get_or, take, drop, set, length-map}
use lib.Seq.{take-suc, length-take-le}
use mir.Syntax.{w16}
use mir.Val.{SFits}
use Rattle.word.specs.Int.{wrap32}
use Rattle.word.proofs.Lists.{grow}
use Rattle.word.proofs.Sizes.{abs-mul, abs-fits, fits-abs}
use Rattle.word.proofs.Words.{wrap_id}

pub qa_kept : (x : ℤ) → SFits w16 x → wrap32 (x *ℤ pos (2 ^ 12)) ≡ x *ℤ pos (2 ^ 12)
qa_kept x f = wrap_id (abs-fits (x *ℤ pos (2 ^ 12)) (omega (arith, abs-mul x (pos (2 ^ 12)), fits-abs x f)))

-- a loop that fills a list from the front with the numbers of another, each changed by f
pub take_more : (f : ℤ → ℤ) (a z : List ℤ) (k : ℕ) → k < length a → k < length z → set (map f (take k a) ++ drop k z) k (f (get_or a k (pos 0))) ≡ map f (take (suc k) a) ++ drop (suc k) z
take_more f a z k h l =
    grow (map f (take k a)) z k (f (get_or a k (pos 0))) (length-map (take k a) f ∙ length-take-le k a (omega arith)) l
    ∙ ap (λ (xs : List ℤ). xs ++ drop (suc k) z) (sym (ap (map f) (take-suc a k (pos 0) h) ∙ map-append f (take k a) (get_or a k (pos 0) ∷ [])))
