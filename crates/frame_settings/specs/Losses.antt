-- Document 02, Note 10: lost frames under both editions.
use Rattle.std.specs.Prelude.{◌≡◌, take}
use Rattle.edition.specs.Edition.{older, newer}
use Rattle.stability.specs.Stability.{stability}
use Rattle.nlsf.specs.Lines.{lpc_coefficients}
use Rattle.nlsf.specs.Fit.{lpc_fit}
use Rattle.editions.specs.Tests.{Fits}
use Rattle.editions.specs.Filters.{RoundsFit}
use Rattle.shape.specs.Shape.{lpc_order}
use Rattle.decoder.specs.declared.SilkDecoderState.{SilkDecoderState}
use Rattle.decoder.specs.declared.Frame.TheVariants.{Lost}
use Rattle.plc.specs.Hold.{plc_ready}
use Rattle.plc.specs.Conceal.{coefficients}
use Rattle.cng.specs.Noise.{cng_ready}
use Rattle.decode_frame.specs.Call.{Call, shape_at, state_at}
use Rattle.decode_frame.specs.Answer.{frame_answer, frame_output}
use Rattle.frame_settings.specs.Changed.{answer_by}
use Rattle.frame_settings.specs.Editions.{under}

-- no step leaves 32 bits in the test of concealment's filter, nor in those of the rounds that noise makes from its lines
abbrev pub LostFits : SilkDecoderState → Call → Type 0
LostFits s x =
    let p = shape_at x in
    let t = state_at s x in
    Fits (stability newer (take (lpc_order p) (coefficients p t (plc_ready p t.s_plc))))
    × RoundsFit 16 0 (lpc_fit 10 (lpc_coefficients (cng_ready p.rate t.s_cng).cng_smth_nlsf_q15 (lpc_order p)))

-- a lost frame in which none does is the same under both too
abbrev pub LostAlike : Type 0
LostAlike =
    (s : SilkDecoderState) (x : Call) → x.frame ≡ Lost → LostFits s x
    → (frame_answer (under older s) x ≡ answer_by (under older) (frame_answer (under newer s) x))
    × (frame_output (under older s) x ≡ frame_output (under newer s) x)
