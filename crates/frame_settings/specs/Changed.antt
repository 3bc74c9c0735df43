-- An answer on a changed state.
use Rattle.std.specs.Prelude.{Result, Ok, Err}
use Rattle.refusal.specs.declared.Refusal.{Refusal}
use Rattle.decoder.specs.declared.Answer.{Answer}
use Rattle.decoder.specs.declared.SilkDecoderState.{SilkDecoderState}

-- the same answer, but for its state
abbrev pub answer_by : (SilkDecoderState → SilkDecoderState) → Result Answer Refusal → Result Answer Refusal
answer_by change (Ok a) = Ok (record { state = change a.state; control = a.control })
answer_by change (Err r) = Err r
