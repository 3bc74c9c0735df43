-- The lag (Q8) stays in 512r to 4,608r, so that the lag is in 2r to 18r.
use Prim.Native.Nat.{ℕ, zero, suc, ◌+◌, ◌*◌, ◌/◌, ◌^◌, ◌<◌, ◌≤◌}
use mathlib.Core.Path.{◌≡◌, refl, ap, ◌∙◌}
use mathlib.Core.Bool.{Bool, true, false}
use mathlib.Core.List.{List}
use native.Mathlib.Omega.{arith}
use native.Mathlib.Nat.{le_refl}
use borrow.Author.Tests.{ltb-true}
use lib.Dec.{ltb}
use lib.IntN.{ℤ, pos, nat_abs}
use mir.Syntax.{w16, w32}
use Rattle.word.specs.Int.{wrap, min_ℤ}
use Rattle.word.proofs.Words.{wrap_id}
use Rattle.word.proofs.Sizes.{abs-fits}
use Rattle.macros.specs.Fixed.{smulwb, smlawb, round_shift, rshift_round}
use Rattle.shape.specs.Shape.{Shape, subfr_length}
use Rattle.decoder.proofs.Between.{Between}
use Rattle.plc.specs.Conceal.{Voice, lag_of, faded_voice, voices}
use Rattle.plc.proofs.Excite.{times_pitch}

-- a lag (Q8) at a rate r
abbrev pub Pitched : ℕ → ℤ → Type 0
Pitched r z = Between (512 * r) (4608 * r) z

pub lag_is : (n : ℕ) → lag_of (pos n) ≡ pos ((n + 128) / 256)
unfolding rshift_round round_shift
lag_is n = refl

pub lag_range : (r : ℕ) (z : ℤ) → Pitched r z → Between (2 * r) (18 * r) (lag_of z)
lag_range r z h =
    let e : lag_of z ≡ pos ((nat_abs z + 128) / 256) = ap lag_of h.is ∙ lag_is (nat_abs z) in
    rw e (record { is = refl; low = omega (arith, h.low); high = omega (arith, h.high) })

-- the product that a lag (Q8) grows by
grown : (n : ℕ) → n ≤ 73728 → smlawb (pos n) (pos n) (pos 655) ≡ pos (n + n * 655 / 2 ^ 16)
unfolding smlawb smulwb
grown n h =
    let f : wrap w16 (pos 655) ≡ pos 655 = wrap_id (abs-fits {w = w16} (pos 655) (omega arith)) in
    let m : wrap w32 (pos (n * 655 / 2 ^ 16)) ≡ pos (n * 655 / 2 ^ 16) = wrap_id (abs-fits {w = w32} (pos (n * 655 / 2 ^ 16)) (omega arith)) in
    rw (f, m) (wrap_id (abs-fits {w = w32} (pos (n + n * 655 / 2 ^ 16)) (omega arith)))

pub drift_range : (r : ℕ) (z : ℤ) → r ≤ 16 → Pitched r z → Pitched r (min_ℤ (smlawb z z (pos 655)) (pos (4608 * r)))
unfolding min_ℤ
drift_range r z hr h =
    let n = nat_abs z in
    let e : smlawb z z (pos 655) ≡ pos (n + n * 655 / 2 ^ 16) = ap (λ (y : ℤ). smlawb y y (pos 655)) h.is ∙ grown n (omega (arith, h.high)) in
    rw e (go (ltb (n + n * 655 / 2 ^ 16) (4608 * r)) refl)
  where
    go : (t : Bool) → ltb (nat_abs z + nat_abs z * 655 / 2 ^ 16) (4608 * r) ≡ t → Pitched r (min_ℤ (pos (nat_abs z + nat_abs z * 655 / 2 ^ 16)) (pos (4608 * r)))
    go true t =
        let l : nat_abs z + nat_abs z * 655 / 2 ^ 16 < 4608 * r = ltb-true (nat_abs z + nat_abs z * 655 / 2 ^ 16) (4608 * r) t in
        rw t (record { is = refl; low = omega (arith, h.low); high = omega arith })
    go false t = rw t (record { is = refl; low = omega arith; high = le_refl _ })

-- after k subframes
pub voices_pitch : (p : Shape) (exc : List ℤ) (from : ℕ) (harm noise : ℤ) (k : ℕ) (v : Voice) → p.rate ≤ 16 → Pitched p.rate v.pitch → Pitched p.rate (voices p exc from harm noise k v).pitch
unfolding voices faded_voice
voices_pitch p exc from harm noise zero v hr h = h
voices_pitch p exc from harm noise (suc k) v hr h =
    let w = voices p exc from harm noise k v in
    rw (times_pitch exc from (nat_abs (lag_of w.pitch)) (subfr_length p) w) (drift_range p.rate w.pitch hr (voices_pitch p exc from harm noise k v hr h))
