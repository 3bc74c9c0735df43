-- The numbers of a step.
use Prim.Native.Nat.{ℕ, suc, ◌+◌, ◌-◌, ◌≤◌}
use mathlib.Core.Path.{◌≡◌, sym, ap, ◌∙◌}
use mathlib.Core.Bool.{Bool, ◌&&◌, and-true, and_assoc}
use mathlib.Core.List.{List, [], ◌∷◌, ◌++◌}
use native.Mathlib.Omega.{arith}
use lib.IntN.{ℤ, pos, ◌+ℤ◌, ◌-ℤ◌}
use mir.Syntax.{w32}
use Rattle.word.specs.Int.{wrap32}
use Rattle.word.specs.Tabulate.{tabulate}
use Rattle.word.proofs.Parts.{eq_parts, sub_parts_ℤ}
use Rattle.word.proofs.Words.{wrap_id}
use Rattle.stability.specs.Stability.{bit_length, fits32, all_fit}
use Rattle.word.proofs.Sizes.{abs-fits}

-- the bits that leading zeros leave of 32
pub bits_left : (n : ℕ) → n ≤ 32 → wrap32 (pos 32 -ℤ pos n) ≡ pos (32 - n)
bits_left n h =
    let e : pos 32 -ℤ pos n ≡ pos (32 - n) = eq_parts (pos 32 -ℤ pos n) (pos (32 - n)) (omega (arith, sub_parts_ℤ (pos 32) (pos n))) in
    rw e (wrap_id {w = w32} {z = pos (32 - n)} (abs-fits (pos (32 - n)) (omega arith)))

-- a few places more
pub more-places : (n : ℕ) → n ≤ 32 → wrap32 (pos n +ℤ pos 30) ≡ pos (n + 30)
more-places n h = wrap_id {w = w32} {z = pos (n + 30)} (abs-fits (pos (n + 30)) (omega arith))

pub bit_length_le : (m : ℤ) → bit_length m ≤ 32
unfolding bit_length
bit_length_le m = omega arith

all_fit_snoc : (xs : List ℤ) (x : ℤ) → all_fit (xs ++ x ∷ []) ≡ (all_fit xs && fits32 x)
unfolding all_fit
all_fit_snoc [] x = and-true (fits32 x)
all_fit_snoc (y ∷ ys) x =
    ap (λ (b : Bool). fits32 y && b) (all_fit_snoc ys x) ∙ sym (and_assoc (fits32 y) (all_fit ys) (fits32 x))

pub all_fit-more : (f : ℕ → ℤ) (i : ℕ) → all_fit (tabulate (suc i) f) ≡ (all_fit (tabulate i f) && fits32 (f i))
unfolding tabulate
all_fit-more f i = all_fit_snoc (tabulate i f) (f i)
