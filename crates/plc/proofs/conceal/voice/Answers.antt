use Prim.Native.Nat.{◌+◌, ◌*◌, ◌≤◌}
use mathlib.Core.Path.{◌≡◌, ap, ◌∙◌}
use native.Mathlib.Omega.{arith}
use borrow.Author.Rules.{rules}
use lib.IntN.{ℤ}
use lib.ListN.{length, take, drop}
use mir.Syntax.{w32}
use mir.Val.{to_z, of_z}
use Rattle.word.proofs.Words.{kept, got}
use Rattle.shape.specs.Shape.{shape, rate_of, count_of, order_of}
use Rattle.shape.specs.Order.{size}
use Rattle.decoder.specs.declared.SilkPLCState.{SilkPLCState}
use Rattle.shape.proofs.Shapes.{rate_le}
use Rattle.decoder.proofs.Between.{between-back}
use Rattle.decoder.proofs.Bounds.{plc_held-bounds, subframes-fit}
use Rattle.plc.specs.declared.conceal.VoiceState.{VoiceState}
use Rattle.plc.specs.Conceal.{voice_of, voices, voice_by, harm_gain, noise_gain, noise_scale}
use Rattle.plc.proofs.Noise.{noise_room}
use Rattle.plc.proofs.Excite.{voices_part}
use Rattle.plc.proofs.conceal.voice.Goals.{After-place-from}
use Rattle.plc.proofs.conceal.voice.Goals as goal

-- the numbers that noise is drawn from are in the excitation
room : (c : After-place-from) → c.place-from.result + 128 ≤ 320
room c =
    let a = c.args in
    let r = rate_of a.frame.fs_khz in
    let b = plc_held-bounds r a.h c.requires.1 in
    rw c.place-from.ensures (noise_room (shape a.frame.fs_khz a.frame.nb_subfr) a.s.now a.h (rate_le a.frame.fs_khz) (subframes-fit r _ _ b.subframes))

pub rewhitened-requires : goal.rewhitened-requires
rewhitened-requires c =
    let b = plc_held-bounds (rate_of c.args.frame.fs_khz) c.args.h c.requires.1 in
    (c.requires.0, between-back _ b.pitch_l_q8)

pub place-from-requires : goal.place-from-requires
place-from-requires c =
    let r = rate_of c.args.frame.fs_khz in
    let b = plc_held-bounds r c.args.h c.requires.1 in
    subframes-fit r _ _ b.subframes

pub overflow_add-from : goal.overflow_add-from
overflow_add-from c = let h = room (goal.at.overflow_add-from c).After-place-from in record { fits = omega (arith, h) }

pub offset_bounds-s-from : goal.offset_bounds-s-from
offset_bounds-s-from c = let h = room (goal.at.offset_bounds-s-from c).After-place-from in record { fits = omega (arith, h) }

pub slice_bounds-try_into-end : goal.slice_bounds-try_into-end
slice_bounds-try_into-end c =
    let h = room (goal.at.slice_bounds-try_into-end c).After-place-from in
    let l : length c.args.s.now.exc_q14 ≡ 320 = search rules in
    omega (arith, h, l)

pub subframes-requires : goal.subframes-requires
subframes-requires c =
    let b = plc_held-bounds (rate_of c.args.frame.fs_khz) c.args.h c.requires.1 in
    rw c.starting-k.ensures (between-back _ b.pitch_l_q8)

-- what the subframes start from, but for the history
abbrev carried : SilkPLCState → ℤ → VoiceState
carried h scale =
    record { taps = h.ltp_coef_q14; scale_q14 = scale; pitch_q8 = h.pitch_l_q8; seed = h.rand_seed }

pub returns : goal.returns
unfolding voice_by
returns c =
    let a = c.args in
    let s = a.s.now in
    let h = a.h in
    let r = rate_of a.frame.fs_khz in
    let p = shape a.frame.fs_khz a.frame.nb_subfr in
    let n = count_of a.frame.nb_subfr in
    let lc = kept w32 s.loss_cnt c.starting-arg-1.given in
    let st = kept w32 s.prev_signal_type c.starting-arg-2-1.given in
    let ed = kept w32 s.settings.edition c.noise_gain-arg-3-1.given in
    let harm = got w32 c.harm_gain.type_inv c.harm_gain.ensures ∙ ap harm_gain lc in
    let o : size c.order.result ≡ order_of r = c.order.ensures in
    let noise = got w32 c.noise_gain.type_inv c.noise_gain.ensures ∙ (λ i. noise_gain (lc i) (st i) (ed i) (take (o i) a.a.now)) in
    let k = c.starting-k.ensures ∙ (λ i. carried h (noise_scale (lc i) (st i) h)) in
    let from = c.place-from.result in
    let g = to_z w32 (of_z w32 c.harm_gain.result) in
    let f = to_z w32 (of_z w32 c.noise_gain.result) in
    let v = voice_of (take (20 * r) c.rewhitened.new.buf) c.starting-k.result in
    let drawn : c.unwrap-noise.result.now ≡ take 128 (drop from s.exc_q14) = search rules in
    c.subframes.ensures
    ∙ (λ i. voices p (drawn i) 0 g f n v)
    ∙ voices_part p s.exc_q14 from g f n v
    ∙ (λ i. voices p s.exc_q14 (c.place-from.ensures i) (harm i) (noise i) n (voice_of (c.rewhitened.ensures i) (k i)))
