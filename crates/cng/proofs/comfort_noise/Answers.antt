use mathlib.Core.Path.{◌≡◌, sym, ◌∙◌}
use mathlib.Core.Bool.{true, false}
use mathlib.Core.List.{List}
use borrow.Author.Rules.{rules}
use lib.Dec.{lit<}
use lib.IntN.{ℤ, pos}
use lib.ListN.{length, get_or}
use mir.Syntax.{w16, w32}
use mir.Val.{to_z, of_z}
use Rattle.word.specs.Int.{eq_ℤ}
use Rattle.word.proofs.Words.{kept}
use Rattle.word.proofs.Order.{is, isnt}
use Rattle.shape.specs.Shape.{shape, rate_of, order_of}
use Rattle.decoder.specs.State.{shape_of}
use Rattle.decoder.specs.Outcome.{Framed}
use Rattle.decoder.specs.With.{with_noise}
use Rattle.decoder.specs.declared.SilkDecoderState.{SilkDecoderState}
use Rattle.decoder.specs.declared.SilkCNGState.{SilkCNGState}
use Rattle.cng.specs.Noise.{cng_ready, heard_noise, sounding, sounded, comfort_noise}
use Rattle.cng.proofs.Cases.{received_is, lost-is}
use Rattle.cng.proofs.comfort_noise.Goals.{then-s-eq0, else-s-eq0}
use Rattle.cng.proofs.comfort_noise.Goals as goal

-- the noise and the frame after each of the two calls
module _ (s : SilkDecoderState) (gains frame : List ℤ) (h : SilkCNGState) (f : List ℤ) where
  followed : eq_ℤ s.loss_cnt (pos 0) ≡ true → h ≡ heard_noise (shape_of s) s.exc_q14 s.prev_nlsf_q15 gains s.prev_signal_type s.s_cng → f ≡ frame
      → record { state = with_noise s h; frame = f } ≡ comfort_noise (shape_of s) s gains (length frame) frame
  followed z e k =
      (λ i. record { state = with_noise s (e i); frame = k i }) ∙ sym (received_is (shape_of s) s gains (length frame) frame z)

  filled : let r = rate_of s.fs_khz in let v = s.settings.edition in let n = length frame in eq_ℤ s.loss_cnt (pos 0) ≡ false → h ≡ sounded v (order_of r) (cng_ready r s.s_cng) n
      → f ≡ sounding v (order_of r) s.s_plc.rand_scale_q14 (get_or s.s_plc.prev_gain_q16 1 (pos 0)) (cng_ready r s.s_cng) n frame
      → record { state = with_noise s h; frame = f } ≡ comfort_noise (shape_of s) s gains (length frame) frame
  filled z e k =
      (λ i. record { state = with_noise s (e i); frame = k i }) ∙ sym (lost-is (shape_of s) s gains (length frame) frame z)

pub returns : goal.returns
returns c =
    let a = c.args in
    let s = a.s in
    let n = length a.frame.now in
    let khz : to_z w32 (of_z w32 s.fs_khz) ≡ s.fs_khz = kept w32 s.fs_khz (search rules) in
    let count : to_z w32 (of_z w32 s.nb_subfr) ≡ s.nb_subfr = kept w32 s.nb_subfr (search rules) in
    let kind : to_z w32 (of_z w32 s.prev_signal_type) ≡ s.prev_signal_type = kept w32 s.prev_signal_type (search rules) in
    let v : to_z w32 (of_z w32 s.settings.edition) ≡ s.settings.edition = kept w32 s.settings.edition (search rules) in
    let scale : to_z w16 (of_z w16 s.s_plc.rand_scale_q14) ≡ s.s_plc.rand_scale_q14 = kept w16 s.s_plc.rand_scale_q14 (search rules) in
    let u : ◌≡◌ {A = Framed} (record { state = with_noise s c.if-s-eq0.s_cng; frame = c.if-s-eq0.frame }) (comfort_noise (shape_of s) s a.gains.now n a.frame.now) =
    elim c.if-s-eq0.branch [
      | then-s-eq0 w ↦ followed s a.gains.now a.frame.now _ _ (is w32 s.loss_cnt 0 (lit< tt) (record { sfits = search rules }) w.if-s-eq0.true)
          (w.s_cng-is ∙ w.received.ensures ∙ λ i. heard_noise (shape (khz i) (count i)) s.exc_q14 s.prev_nlsf_q15 a.gains.now (kind i) s.s_cng)
          w.frame-is
      | else-s-eq0 w ↦ filled s a.gains.now a.frame.now _ _ (isnt w32 s.loss_cnt 0 w.if-s-eq0.false)
          (w.s_cng-is ∙ w.lost.ensures.0 ∙ λ i. sounded (v i) (order_of (rate_of (khz i))) (cng_ready (rate_of (khz i)) s.s_cng) n)
          (w.frame-is ∙ w.lost.ensures.1 ∙ λ i. sounding (v i) (order_of (rate_of (khz i))) (scale i) (kept w32 (get_or s.s_plc.prev_gain_q16 1 (pos 0)) (search rules) i) (cng_ready (rate_of (khz i)) s.s_cng) n a.frame.now)
    ] in
    rw (
      kept w32 s.prev_gain_q16 (search rules),
      kept w32 s.lag_prev (search rules),
      khz,
      count,
      kept w32 s.frame_length (search rules),
      kept w32 s.subfr_length (search rules),
      kept w32 s.ltp_mem_length (search rules),
      kept w32 s.lpc_order (search rules),
      kept w32 s.first_frame_after_reset (search rules),
      kept w32 s.loss_cnt (search rules),
      kind,
    )
    u
