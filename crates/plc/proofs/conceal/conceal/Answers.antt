use Prim.Native.Nat.{◌+◌, ◌*◌}
use mathlib.Core.Path.{◌≡◌, ap, ◌∙◌}
use mathlib.Core.List.{◌++◌, map}
use borrow.Author.Rules.{rules}
use lib.IntN.{pos}
use lib.ListN.{get_or, take, drop}
use mir.Syntax.{w32}
use Rattle.word.proofs.Words.{kept, got}
use Rattle.sigproc.specs.Synthesis.{synthesis, played}
use Rattle.shape.specs.Shape.{shape, rate_of, count_of, order_of}
use Rattle.decoder.proofs.SetUps.{zero_at}
use Rattle.plc.specs.Conceal.{voice_of, noise_place, coefficients, voice, voice_by, lag_of, signal_by, signal, concealed, held_by, concealed_by}
use Rattle.plc.proofs.conceal.conceal.Goals as goal

pub voice-k-requires : goal.voice-k-requires
voice-k-requires c = (λ i. zero_at 640 i, c.requires.1)

pub returns : goal.returns
unfolding coefficients voice concealed_by signal_by signal concealed
returns c =
    let a = c.args in
    let s = a.s.now in
    let h = a.h in
    let r = rate_of a.frame.fs_khz in
    let p = shape a.frame.fs_khz a.frame.nb_subfr in
    let len = 5 * r * count_of a.frame.nb_subfr in
    let k = c.voice-k.result in
    let ea : c.coefficients-a.result ≡ coefficients p s h =
    c.coefficients-a.ensures ∙ rw (kept w32 s.first_frame_after_reset c.coefficients-arg-1.given, c.order.ensures) in
    let e : voice_of (take (20 * r + len) c.voice-k.new.buf) k ≡ voice p s h =
    c.voice-k.ensures ∙ (λ i. voice_by p s.loss_cnt s.prev_signal_type s.settings.edition s.exc_q14 s.out_buf (ea i) (noise_place p s h) h) in
    let g = kept w32 (get_or h.prev_gain_q16 1 (pos 0)) (search rules) in
    let f = got w32 c.lag_of.type_inv c.lag_of.ensures ∙ ap lag_of (kept w32 k.pitch_q8 c.struct_told-1.given.1.1.0.1) in
    let memory = c.synthesise-memory.ensures.0 ∙ (λ i. drop len (synthesis s.s_lpc_q14_buf (drop (20 * r) (e i).past) (ea i) (order_of r) len)) in
    let held = c.held_after.ensures ∙ (λ i. held_by (e i) (ea i) h) in
    let lag = f ∙ (λ i. lag_of (e i).pitch) in (
      λ i. record { plc = held i; memory = memory i; lag = lag i },
      c.synthesise-memory.ensures.1 ∙ (λ i. map (played (g i)) (drop 16 (synthesis s.s_lpc_q14_buf (drop (20 * r) (e i).past) (ea i) (order_of r) len)) ++ drop len a.xq.now),
    )
