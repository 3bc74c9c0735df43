use Prim.Native.Nat.{ℕ, ◌-◌, ◌≤◌}
use mathlib.Core.Path.{◌≡◌, ap, ◌∙◌}
use mathlib.Core.List.{[], ◌∷◌, ◌++◌}
use native.Mathlib.Omega.{arith}
use borrow.Author.Rules.{rules}
use lib.IntN.{pos}
use lib.ListN.{get_or, take, drop}
use mir.Syntax.{w16, w32}
use mir.Facts.{to_z-of_z, to_z_pos}
use Rattle.word.specs.Int.{wrap16}
use Rattle.word.proofs.Words.{kept, got}
use Rattle.shape.specs.Shape.{shape, rate_of, count_of, order_of}
use Rattle.shape.proofs.Shapes.{rate_le, count_le, order_le}
use Rattle.plc.specs.Update.{middle, pulse_of, plc_updated}
use Rattle.plc.specs.declared.update.Pulse.{Pulse}
use Rattle.plc.proofs.Numbers.{rate_times}
use Rattle.plc.proofs.update.plc_updated.Goals.{After-count_of-n, After-lpc_order, After-pulse_of-b, After-subfr_length}
use Rattle.plc.proofs.update.plc_updated.Goals as goal

count : (c : After-count_of-n) → c.count_of-n.result ≡ count_of c.args.nb_subfr
count c = c.count_of-n.ensures ∙ rw (to_z-of_z c.ranges.nb_subfr)

few : (c : After-count_of-n) → c.count_of-n.result ≤ 4
few c = rw (count c) (count_le c.args.nb_subfr)

some : (c : After-count_of-n) → 2 ≤ c.count_of-n.result
some c = rw (count c) c.requires

order : (c : After-lpc_order) → c.lpc_order.result ≡ order_of (rate_of c.args.khz)
order c = c.lpc_order.ensures ∙ rw (to_z-of_z c.ranges.khz)

short : (c : After-subfr_length) → c.subfr_length.result ≤ 80
short c = omega (arith, rate_times 5 (to_z-of_z c.ranges.khz) c.subfr_length.ensures, rate_le c.args.khz)

-- the pulse
found : (c : After-pulse_of-b) → let a = c.args in c.pulse_of-b.result ≡ pulse_of (shape a.khz a.nb_subfr) a.voiced a.c a.h.pitch_l_q8
found c =
    let a = c.args in
    c.pulse_of-b.ensures ∙ rw (to_z-of_z c.ranges.khz, count c.before.before.before, kept w32 a.h.pitch_l_q8 (search rules))

pub pulse_of-b-requires : goal.pulse_of-b-requires
pulse_of-b-requires c = omega (arith, few (goal.at.pulse_of-b-requires c).After-count_of-n, some (goal.at.pulse_of-b-requires c).After-count_of-n)

pub with_front-requires : goal.with_front-requires
with_front-requires c = rw (order (goal.at.with_front-requires c).After-lpc_order) (order_le _)

pub last_gains-requires : goal.last_gains-requires
last_gains-requires c = (some (goal.at.last_gains-requires c).After-count_of-n, few (goal.at.last_gains-requires c).After-count_of-n)

pub overflow_cast-result : goal.overflow_cast-result
overflow_cast-result c = record { sfits = omega (arith, few (goal.at.overflow_cast-result c).After-count_of-n) }

pub overflow_cast-result-2 : goal.overflow_cast-result-2
overflow_cast-result-2 c = record { sfits = omega (arith, short (goal.at.overflow_cast-result-2 c).After-subfr_length) }

pub returns : goal.returns
unfolding plc_updated
returns c =
    let h = c.args.h in
    let b = c.pulse_of-b.result in
    let f = found (goal.at.returns c).After-pulse_of-b in
    let pitch = kept w32 b.pitch (search rules) ∙ ap (λ (x : Pulse). x.pitch) f in
    let tap = kept w16 b.tap (search rules) ∙ ap (λ (x : Pulse). x.tap) f in
    let taps = c.middle.ensures ∙ ap middle tap in
    let lpc = c.with_front.ensures ∙ ap (λ (d : ℕ). take d c.args.row ++ drop d h.prev_lpc_q12) (order (goal.at.returns c).After-lpc_order) in
    let scale = got w16 c.low16.type_inv (c.low16.ensures ∙ ap wrap16 (kept w32 c.args.c.ltp_scale_q14 (search rules))) in
    let gains = c.last_gains.ensures ∙ ap (λ (n : ℕ). get_or c.args.c.gains_q16 (n - 2) (pos 0) ∷ get_or c.args.c.gains_q16 (n - 1) (pos 0) ∷ []) (count (goal.at.returns c).After-count_of-n) in
    let n = to_z_pos w32 {n = c.count_of-n.result} (omega (arith, few (goal.at.returns c).After-count_of-n)) ∙ ap pos (count (goal.at.returns c).After-count_of-n) in
    let len = to_z_pos w32 {n = c.subfr_length.result} (omega (arith, short (goal.at.returns c).After-subfr_length)) ∙ ap pos (rate_times 5 (to_z-of_z c.ranges.khz) c.subfr_length.ensures) in
    rw (pitch, taps, lpc, scale, gains, n, len) (search rules)
