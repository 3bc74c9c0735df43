-- Demand 2: the excitation that core leaves in the state is 64 times RFC 6716's.
use Rattle.std.specs.Prelude.{◌≡◌, List, ℤ, take, IfOk}
use Rattle.shape.specs.Shape.{Shape, frame_length}
use Rattle.decoder.specs.Signals.{is_voiced}
use Rattle.decoder.specs.State.{shape_of}
use Rattle.decoder.specs.declared.SilkDecoderState.{SilkDecoderState}
use Rattle.decoder.specs.declared.SilkDecoderControl.{SilkDecoderControl}
use Rattle.decoder.specs.declared.Params.{Params}
use Rattle.excitation.specs.Standard.{standard64}
use Rattle.decode_core.specs.Answer.{core_answer}

-- a state's first 5rn places of exc_q14 are 64 times RFC 6716's for a frame's own type, offset type, seed and pulses
abbrev pub HoldsStandard : Shape → Params → List ℤ → SilkDecoderState → Type 0
HoldsStandard p q pulses s =
    take (frame_length p) s.exc_q14 ≡ standard64 (is_voiced q.signal) q.quant_offset_type q.seed pulses (frame_length p)

-- so does the new state of every frame that core accepts
abbrev pub CoreStandard : Type 0
CoreStandard =
    (s : SilkDecoderState) (q : Params) (c : SilkDecoderControl) (rows : List (List ℤ)) (pulses output : List ℤ)
    → IfOk (core_answer s q c rows pulses output) (λ a. HoldsStandard (shape_of s) q pulses a.state)
