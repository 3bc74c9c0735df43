-- How a statement about ℤ is handed to `omega`, which reads ℕ alone. A number z is P z - N z, and one of the two is 0. A sum, a difference, a
-- multiple and a quotient that rounds down each give a linear equation of the parts; an equation or an order of two numbers is one of their parts.
--     eq-parts (omega (arith, add_parts a b, ..))    proves an equation: list one law for each operation that occurs
--     le_parts a b (omega (..))                      proves a ≤ℤ b
use Prim.Native.Nat.{ℕ, zero, suc, ◌+◌, ◌*◌, ◌/◌, ◌<◌, ◌≤◌}
use mathlib.Core.Path.{◌≡◌, refl, ap}
use mathlib.Core.Bool.{Bool, true, false}
use native.Mathlib.Omega.{arith}
use native.Mathlib.Nat.{mod-lt, mod-add-div, mul-suc}
use borrow.Author.Tests.{ltb-true, ltb-false}
use lib.Dec.{T, ltb, leb→le, le→leb}
use lib.IntN.{ℤ, pos, negsuc, neg_ℤ, sub_ℕ, ◌+ℤ◌, ◌-ℤ◌, ◌*ℤ◌}
use lib.Signed.{mag, le_z, ◌≤ℤ◌}
use Rattle.word.specs.Int.{mod_ℤ, floor_div}
use Rattle.word.proofs.Mod.{mod_ℤ_lt}

-- the part above 0, and the part below
abbrev pub P : ℤ → ℕ
P (pos n) = n
P (negsuc n) = 0

abbrev pub N : ℤ → ℕ
N (pos n) = 0
N (negsuc n) = suc n

sub_parts : (a b : ℕ) → P (sub_ℕ a b) + b ≡ N (sub_ℕ a b) + a
sub_parts a b = go (ltb a b) refl
  where
    go : (t : Bool) → ltb a b ≡ t → P (sub_ℕ a b) + b ≡ N (sub_ℕ a b) + a
    go true e = let k = ltb-true a b e in rw e (omega arith)
    go false e = let k = ltb-false a b e in rw e (omega arith)

-- ---- the operations
pub add_parts : (a b : ℤ) → P (a +ℤ b) + N a + N b ≡ N (a +ℤ b) + P a + P b
add_parts (pos a) (pos b) = omega arith
add_parts (pos a) (negsuc b) = let k = sub_parts a (suc b) in omega arith
add_parts (negsuc a) (pos b) = let k = sub_parts b (suc a) in omega arith
add_parts (negsuc a) (negsuc b) = omega arith

pub neg_parts : (a : ℤ) → (P (neg_ℤ a) ≡ N a) × (N (neg_ℤ a) ≡ P a)
neg_parts (pos zero) = (refl, refl)
neg_parts (pos (suc n)) = (refl, refl)
neg_parts (negsuc n) = (refl, refl)

pub sub_parts_ℤ : (a b : ℤ) → P (a -ℤ b) + N a + P b ≡ N (a -ℤ b) + P a + N b
sub_parts_ℤ a b = let k = neg_parts b in omega (arith, add_parts a (neg_ℤ b))

-- exact, and linear where one factor is a numeral
pub mul-parts : (a b : ℤ) → (P (a *ℤ b) ≡ P a * P b + N a * N b) × (N (a *ℤ b) ≡ P a * N b + N a * P b)
mul-parts (pos a) (pos b) = (omega arith, omega arith)
mul-parts (pos a) (negsuc b) = let k = neg_parts (pos (a * suc b)) in (omega arith, omega arith)
mul-parts (negsuc a) (pos b) = let k = neg_parts (pos (suc a * b)) in (omega arith, omega arith)
mul-parts (negsuc a) (negsuc b) = (omega arith, omega arith)

-- z = m q + r, at a numeral m
pub div_parts : (z : ℤ) (m : ℕ) → 0 < m → (P z + m * N (floor_div z m) ≡ N z + m * P (floor_div z m) + mod_ℤ z m) × (mod_ℤ z m < m)
div_parts (pos n) m h = (omega (arith, mod-add-div n m), mod-lt n h)
div_parts (negsuc n) m h =
    (omega (arith, mod-add-div n m, mod-lt n h, mul-suc m (n / m)), mod_ℤ_lt (negsuc n) m h)

-- ---- equations and orders
pub eq_parts : (a b : ℤ) → P a + N b ≡ P b + N a → a ≡ b
eq_parts (pos a) (pos b) e = ap pos (omega arith)
eq_parts (pos a) (negsuc b) e = absurd (omega arith)
eq_parts (negsuc a) (pos b) e = absurd (omega arith)
eq_parts (negsuc a) (negsuc b) e = ap negsuc (omega arith)

pub le_parts : (a b : ℤ) → P a + N b ≤ P b + N a → a ≤ℤ b
le_parts (pos a) (pos b) h = record { le = le→leb a b (omega arith) }
le_parts (pos a) (negsuc b) h = absurd (omega arith)
le_parts (negsuc a) (pos b) h = record { le = tt }
le_parts (negsuc a) (negsuc b) h = record { le = le→leb b a (omega arith) }

le_of : (a b : ℤ) → T (le_z a b) → P a + N b ≤ P b + N a
le_of (pos a) (pos b) h = let k = leb→le a b h in omega arith
le_of (pos a) (negsuc b) h = absurd h
le_of (negsuc a) (pos b) h = omega arith
le_of (negsuc a) (negsuc b) h = let k = leb→le b a h in omega arith

pub parts_le : {a b : ℤ} → a ≤ℤ b → P a + N b ≤ P b + N a
parts_le {a} {b} h = le_of a b h.le

-- ---- sizes
pub mag_parts : (z : ℤ) (H : ℕ) → mag z < H → (P z < H) × (N z ≤ H)
mag_parts (pos n) H h = (h, omega arith)
mag_parts (negsuc n) H h = (omega arith, h)
