use Prim.Native.Nat.{◌*◌}
use mathlib.Core.Path.{◌≡◌, ap, ◌∙◌}
use mathlib.Core.List.{map}
use native.Mathlib.Omega.{arith}
use lib.IntN.{pos, nat_abs}
use lib.ListN.{take}
use mir.Syntax.{w16, w32}
use mir.Val.{to_z, of_z}
use Rattle.word.specs.Int.{min_ℤ}
use Rattle.word.proofs.Words.{kept, got}
use Rattle.macros.specs.Fixed.{smlawb}
use Rattle.shape.specs.Shape.{rate_of}
use Rattle.shape.proofs.Shapes.{rate_le, rate_range, rates, rate_back}
use Rattle.decoder.proofs.Between.{Between, between}
use Rattle.plc.specs.Conceal.{voice_of, lag_of, excited_times, faded, faded_voice}
use Rattle.plc.proofs.Numbers.{frame_times}
use Rattle.plc.proofs.Excite.{times_taps, times_scale, times_pitch}
use Rattle.plc.proofs.Pitch.{lag_range}
use Rattle.plc.proofs.conceal.subframe.Goals.{After-lag_of-lag, After-subfr_length}
use Rattle.plc.proofs.conceal.subframe.Goals as goal

-- the lag, and its range
lag_is : (c : After-lag_of-lag) → c.lag_of-lag.result ≡ lag_of c.args.k.pitch_q8
lag_is c =
    c.lag_of-lag.ensures ∙ ap lag_of (kept w32 c.args.k.pitch_q8 c.struct_told-1.given.1.1.0.1)

in_range : (c : After-lag_of-lag) → let a = c.args in Between (2 * rate_of a.frame.fs_khz) (18 * rate_of a.frame.fs_khz) (lag_of a.k.pitch_q8)
in_range c =
    let r = rate_of c.args.frame.fs_khz in
    lag_range r c.args.k.pitch_q8 (between (512 * r) (4608 * r) c.args.k.pitch_q8 c.requires.2)

-- the samples of the subframe
sub : (c : After-subfr_length) → c.subfr_length.result ≡ 5 * rate_of c.args.frame.fs_khz
sub c = frame_times c.args.frame 5 c.subfr_length.ensures

pub overflow_cast-lag : goal.overflow_cast-lag
overflow_cast-lag c =
    let b = in_range (goal.at.overflow_cast-lag c).After-lag_of-lag in
    rw (kept w32 c.lag_of-lag.result c.lag_of-lag.type_inv, lag_is (goal.at.overflow_cast-lag c).After-lag_of-lag, b.is) (tt, omega (arith, b.high, rate_le c.args.frame.fs_khz))

pub excite-seed-requires : goal.excite-seed-requires
excite-seed-requires c =
    let b = in_range (goal.at.excite-seed-requires c).After-lag_of-lag in
    rw (kept w32 c.lag_of-lag.result c.lag_of-lag.type_inv, lag_is (goal.at.excite-seed-requires c).After-lag_of-lag, sub (goal.at.excite-seed-requires c).After-subfr_length) (omega (arith, b.low, (rate_range (rates c.args.frame.fs_khz c.args.frame.rate)).0), omega (arith, b.high, (rate_range (rates c.args.frame.fs_khz c.args.frame.rate)).0, c.requires.0), c.requires.1)

pub returns : goal.returns
unfolding faded_voice
returns c =
    let a = c.args in
    let r = rate_of a.frame.fs_khz in
    let k = a.k in
    let v = voice_of (take a.at a.buf.now) k in
    let lag = nat_abs (lag_of k.pitch_q8) in
    let exc = a.noise.now in
    let w = excited_times exc 0 lag (5 * r) v in
    let u = kept w32 c.lag_of-lag.result c.lag_of-lag.type_inv in
    let e1 = rw (u, lag_is (goal.at.returns c).After-lag_of-lag, sub (goal.at.returns c).After-subfr_length) at c.excite-seed.ensures.1 in
    let e2 : c.faded_taps.result ≡ map (faded a.fading.harm_gain_q15) w.taps =
    c.faded_taps.ensures ∙ rw (kept w32 a.fading.harm_gain_q15 c.struct_told-3-1.given.0.1, times_taps exc 0 lag (5 * r) v) in
    let e3 : to_z w16 (of_z w16 c.faded.result) ≡ faded a.fading.rand_gain_q15 w.scale =
    got w16 c.faded.type_inv c.faded.ensures ∙ rw (kept w32 a.fading.rand_gain_q15 c.struct_told-3-1.given.1.0.1, kept w16 k.scale_q14 c.struct_told-1.given.1.0.1, times_scale exc 0 lag (5 * r) v) in
    let e4 : to_z w32 (of_z w32 c.drifted.result) ≡ min_ℤ (smlawb w.pitch w.pitch (pos 655)) (pos (4608 * r)) =
    got w32 c.drifted.type_inv c.drifted.ensures ∙ rw (kept w32 k.pitch_q8 c.struct_told-1.given.1.1.0.1, times_pitch exc 0 lag (5 * r) v, got w32 c.pitch_max_q8.type_inv c.pitch_max_q8.ensures, rate_back a.frame.fs_khz a.frame.rate) in
    let e5 : to_z w32 (of_z w32 c.excite-seed.result) ≡ w.seed =
    got w32 c.excite-seed.type_inv c.excite-seed.ensures.0 ∙ rw (u, lag_is (goal.at.returns c).After-lag_of-lag, sub (goal.at.returns c).After-subfr_length) in
    λ i. record { past = e1 i; taps = e2 i; scale = e3 i; pitch = e4 i; seed = e5 i }
