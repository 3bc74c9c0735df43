-- Taps and scale fade towards 0.
use Prim.Native.Nat.{ℕ, ◌*◌, ◌/◌, ◌^◌, ◌<◌, ◌≤◌}
use mathlib.Core.Path.{◌≡◌}
use native.Mathlib.Omega.{arith}
use native.Mathlib.Nat.{mul-le-mul, div-le_of_le-mul, le_refl}
use lib.IntN.{ℤ, pos, negsuc, nat_abs, *ℤ-zero}
use mir.Syntax.{w16}
use Rattle.word.specs.Int.{floor_div, wrap16}
use Rattle.word.proofs.Words.{wrap_id}
use Rattle.word.proofs.Sizes.{abs-parts, abs-fits, abs-div, abs-wrap}
use Rattle.macros.specs.Fixed.{smulbb}
use Rattle.macros.proofs.Scalars.{abs-smulbb}
use Rattle.decoder.proofs.Between.{Between}
use Rattle.decoder.proofs.Built.{in_range}
use Rattle.plc.specs.Conceal.{faded}
use Rattle.plc.proofs.Tap.{Middle}

-- of a size that both ends allow
small_tap : (b : ℤ) → nat_abs b ≤ 11456 → Middle b
small_tap b h = let k = abs-parts b in record { high = omega arith; low = omega arith }

-- the product of two numbers below 32,768, divided by m
pub product : (m a b : ℕ) → a < 32768 → b < 32768 → a * b / m < 32768 → wrap16 (floor_div (smulbb (pos a) (pos b)) m) ≡ pos (a * b / m)
unfolding smulbb
product m a b h k l = rw (wrap_id (abs-fits {w = w16} (pos a) h), wrap_id (abs-fits {w = w16} (pos b) k)) (wrap_id (abs-fits {w = w16} (pos (a * b / m)) l))

-- a number of 0 to B by a gain below one
pub faded-upto : (B g n : ℕ) → g < 32768 → n ≤ B → B < 32768 → Between 0 B (faded (pos g) (pos n))
unfolding faded
faded-upto B g n hg hn hB =
    let t : g * n / 32768 ≤ n = div-le_of_le-mul 32768 (mul-le-mul (omega arith) (le_refl n)) in
    rw (product 32768 g n hg (omega arith) (omega arith)) (in_range 0 B _ (omega arith) (omega arith))

pub faded_zero : (g : ℤ) → faded g (pos 0) ≡ pos 0
unfolding faded smulbb
faded_zero g = rw (wrap_id (abs-fits {w = w16} (pos 0) (omega arith)), *ℤ-zero (wrap16 g)) (wrap_id (abs-fits {w = w16} (pos 0) (omega arith)))

-- what a gain below one leaves is no larger
faded-size : (g : ℕ) (z : ℤ) → g < 32768 → nat_abs (faded (pos g) z) ≤ nat_abs z
unfolding faded
faded-size g z h =
    let a = abs-smulbb (pos g) z 32767 (nat_abs z) (omega arith) (le_refl (nat_abs z)) in
    omega (arith, abs-wrap w16 (floor_div (smulbb (pos g) z) (2 ^ 15)), abs-div (smulbb (pos g) z) (2 ^ 15) (omega arith))

-- a tap moves towards 0 and not past it
pub faded_tap : (g : ℕ) (b : ℤ) → g < 32768 → Middle b → Middle (faded (pos g) b)
faded_tap g (pos n) hg t =
    let f = faded-upto 15565 g n hg t.high (omega arith) in
    record { high = omega (arith, abs-parts (faded (pos g) (pos n))); low = rw f.is (omega arith) }
faded_tap g (negsuc n) hg t = small_tap _ (omega (arith, faded-size g (negsuc n) hg, t.low))
