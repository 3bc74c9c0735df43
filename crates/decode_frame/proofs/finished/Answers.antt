use Prim.Native.Nat.{◌-◌, ◌≤◌}
use mathlib.Core.Path.{◌≡◌, ap, ◌∙◌}
use native.Mathlib.Omega.{arith}
use borrow.Author.Rules.{rules}
use lib.IntN.{pos}
use lib.ListN.{get_or}
use mir.Syntax.{w16, w32}
use Rattle.word.proofs.Words.{kept}
use Rattle.sigproc.specs.Energy.{energy_at, energy_shift}
use Rattle.shape.specs.Shape.{frame_length, lpc_order, count_of}
use Rattle.shape.proofs.Shapes.{shaped, frame_le, counts, count_range}
use Rattle.decoder.specs.With.{with_lag, with_noise, with_plc}
use Rattle.decoder.specs.Outcome.{Outcome}
use Rattle.decoder.specs.State.{shape_of}
use Rattle.cng.specs.Noise.{cng_ready, sounded}
use Rattle.glue.specs.Glue.{hold_energy}
use Rattle.decode_frame.proofs.Heard.{sound, faded, faded-is}
use Rattle.decode_frame.proofs.finished.Goals.{After-count_of-n}
use Rattle.decode_frame.proofs.finished.Goals as goal

count : (c : After-count_of-n) → let s = c.args.a.now.state in c.count_of-n.result ≡ count_of s.nb_subfr
count c = c.count_of-n.ensures ∙ ap count_of (kept w32 c.args.a.now.state.nb_subfr (search rules))

some : (c : After-count_of-n) → (2 ≤ c.count_of-n.result) × (c.count_of-n.result ≤ 4)
some c = rw (count c) (count_range (counts _ c.requires.1))

pub lost-requires : goal.lost-requires
lost-requires c =
    let s = c.args.a.now.state in
    rw (kept w32 s.fs_khz (search rules)) (c.requires.0, c.requires.2, omega (arith, c.requires.3, frame_le s.fs_khz s.nb_subfr))

pub leave_energy-a-requires : goal.leave_energy-a-requires
leave_energy-a-requires c =
    let s = c.args.a.now.state in
    let h = shaped _ _ c.requires.0 c.requires.1 in
    (omega (arith, c.lost.auto, c.requires.3, h.frame_low, h.rate_low), omega (arith, c.lost.auto, c.requires.3, frame_le s.fs_khz s.nb_subfr))

pub overflow_sub-a : goal.overflow_sub-a
overflow_sub-a c = let w = some (goal.at.overflow_sub-a c).After-count_of-n in omega (arith, w.0)

pub offset_bounds-a-n : goal.offset_bounds-a-n
offset_bounds-a-n c = let w = some (goal.at.offset_bounds-a-n c).After-count_of-n in omega (arith, w.1)

pub bounds-a-n : goal.bounds-a-n
bounds-a-n c = let w = some (goal.at.bounds-a-n c).After-count_of-n in omega (arith, w.0, w.1)

pub returns : goal.returns
returns c =
    let a = c.args.a.now in
    let s = a.state in
    let khz = kept w32 s.fs_khz (search rules) in
    let p = shape_of s in
    let x = c.args.xq.now in
    let h = cng_ready p.rate s.s_cng in
    let y = sound p s a.control x in
    let ed = kept w32 s.settings.edition (search rules) in
    let noise : c.lost.new.h ≡ sounded s.settings.edition (lpc_order p) h (frame_length p) = rw (c.lost.ensures.0, khz, ed, c.requires.3) in
    let heard : c.lost.new.frame ≡ y = rw (c.lost.ensures.1, khz, ed, c.requires.3, kept w16 s.s_plc.rand_scale_q14 (search rules), kept w32 (get_or s.s_plc.prev_gain_q16 1 (pos 0)) (search rules)) in
    let left = c.leave_energy-a.ensures ∙ λ i. hold_energy s.s_plc (pos 1) (pos (energy_at (heard i) (energy_shift (heard i)))) (pos (energy_shift (heard i))) in
    let lag = kept w32 (get_or a.control.pitch_l (c.count_of-n.result - 1) (pos 0)) (search rules) ∙ ap (λ n. get_or a.control.pitch_l (n - 1) (pos 0)) (count (goal.at.returns c).After-count_of-n) in
    let one : ◌≡◌ {A = Outcome} (record { state = _; control = a.control; samples = c.lost.new.frame }) (faded p s a.control x) =
    λ i. record {
      state = with_plc (with_noise (with_lag s (lag i)) (noise i)) (left i);
      control = a.control;
      samples = heard i;
    } in
    one ∙ faded-is p s a.control x c.requires.4
