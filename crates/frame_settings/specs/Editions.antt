-- Document 02, Note 10: received frames under both editions.
use Rattle.std.specs.Prelude.{◌≡◌, ℤ}
use Rattle.edition.specs.Edition.{older, newer}
use Rattle.decoder.specs.With.{with_settings}
use Rattle.decoder.specs.declared.SilkDecoderState.{SilkDecoderState}
use Rattle.decoder.specs.declared.Params.{Params}
use Rattle.decoder.specs.declared.Frame.TheVariants.{Received}
use Rattle.decode_frame.specs.Call.{Call}
use Rattle.decode_frame.specs.Answer.{frame_answer, frame_output}
use Rattle.frame_settings.specs.Changed.{answer_by}

-- a state under another edition
abbrev pub under : ℤ → SilkDecoderState → SilkDecoderState
under e s = with_settings s (record { squelch = s.settings.squelch; edition = e })

-- a received frame is answered alike, leaves the same description and, but for the edition, the same state, and plays the same samples
abbrev pub ReceivedAlike : Type 0
ReceivedAlike =
    (s : SilkDecoderState) (x : Call) (q : Params) → x.frame ≡ Received q
    → (frame_answer (under older s) x ≡ answer_by (under older) (frame_answer (under newer s) x))
    × (frame_output (under older s) x ≡ frame_output (under newer s) x)
