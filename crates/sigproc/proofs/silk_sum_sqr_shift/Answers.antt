use Rattle.std.proofs.Common.{◌≡◌, ◌+◌, ◌-◌, ◌*◌, ◌^◌, ◌<◌, ◌≤◌, length, ap, mod-eq_of_lt, arith, w32}
use lib.Count.{count_leading_zeros}
use mir.Facts.{to_z_pos}
use Rattle.sigproc.specs.Energy.{energy_at, first_shift, energy_shift, sum_sqr_shift}
use Rattle.sigproc.proofs.Energies.{zeros-is, estimate, bounds}
use Rattle.sigproc.proofs.silk_sum_sqr_shift.Goals.{After-energy_at, After-energy_at-2, After-saturating_sub-shift, Start}
use Rattle.sigproc.proofs.silk_sum_sqr_shift.Goals as goal

first-is : (c : Start) → let x = c.args.x.now in 31 - count_leading_zeros 32 (length x) ≡ first_shift x
first-is c = ap (λ n. 31 - n) (zeros-is (length c.args.x.now) (omega arith))

-- the first estimate is within its samples' bound
within : (c : After-energy_at) → let x = c.args.x.now in 2 ^ first_shift x * energy_at x (first_shift x) ≤ 2 ^ 30 * length x
within c = rw (first-is c.before) at c.energy_at.ensures.1

-- and does not wrap
estimate-is : (c : After-energy_at) → let x = c.args.x.now in c.energy_at.result ≡ energy_at x (first_shift x)
estimate-is c =
    let p = c.requires in
    let e = estimate c.args.x.now p.0 p.1 (within c) in
    rw (c.energy_at.ensures.0, first-is c.before) (mod-eq_of_lt (omega arith))

shift_is : (c : After-saturating_sub-shift) → c.saturating_sub-shift.result ≡ energy_shift c.args.x.now
unfolding energy_shift
shift_is c =
    let x = c.args.x.now in
    let p = c.requires in
    let l = estimate x p.0 p.1 (within c.before) in
    rw (c.saturating_sub-shift.ensures, first-is c.before.before, estimate-is c.before, zeros-is (length x + energy_at x (first_shift x)) (omega arith))

limits : (c : After-saturating_sub-shift) → let x = c.args.x.now in (energy_at x (energy_shift x) < 2 ^ 29) × (energy_shift x ≤ 10)
limits c = let p = c.requires in bounds c.args.x.now p.0 p.1 (within c.before)

energy_is : (c : After-energy_at-2) → let x = c.args.x.now in c.energy_at-2.result ≡ energy_at x (energy_shift x)
energy_is c =
    let l = limits c.before in
    rw (c.energy_at-2.ensures.0, shift_is c.before) (mod-eq_of_lt (omega arith))

pub overflow_add-zeros : goal.overflow_add-zeros
overflow_add-zeros c =
    let p = c.requires in
    record { fits = omega (arith, estimate-is c, estimate c.args.x.now p.0 p.1 (within c)) }

pub energy_at-requires-2 : goal.energy_at-requires-2
energy_at-requires-2 c = omega (arith, shift_is c, limits c)

pub overflow_cast-result : goal.overflow_cast-result
overflow_cast-result c = record { sfits = omega (arith, energy_is c, limits c.before) }

pub returns : goal.returns
unfolding sum_sqr_shift
returns c =
    let l = limits c.before in
    let x = c.args.x.now in
    rw (energy_is c, shift_is c.before, to_z_pos w32 {n = energy_at x (energy_shift x)} (omega arith), to_z_pos w32 {n = energy_shift x} (omega arith))
