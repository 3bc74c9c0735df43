-- Document 02, Note 3: what a squelch changes of whole-frame calls, and what it leaves.
use Rattle.std.specs.Prelude.{Ok, ◌≡◌, true, false, ◌++◌, ℤ, pos, drop, replicate}
use Rattle.shape.specs.Shape.{frame_length}
use Rattle.decoder.specs.Settings.{is_squelch, squelched}
use Rattle.decoder.specs.With.{with_settings}
use Rattle.decoder.specs.declared.SilkDecoderState.{SilkDecoderState}
use Rattle.decoder.specs.declared.Frame.TheVariants.{Lost}
use Rattle.decode_frame.specs.WholeFrame.{lost}
use Rattle.decode_frame.specs.Call.{Call, shape_at, state_at}
use Rattle.frame_settings.specs.Changed.{answer_by}
use Rattle.decode_frame.specs.Answer.{frame_refusal, frame_outcome, frame_answer, frame_output}

-- a state with another squelch
abbrev pub with_squelch : ℤ → SilkDecoderState → SilkDecoderState
with_squelch q s = with_settings s (record { squelch = q; edition = s.settings.edition })

-- a call on a state with a squelch Q is answered as on the same state with none, and leaves the same description and, but for Q, the same state
abbrev pub StateAsBefore : Type 0
StateAsBefore =
    (q : ℤ) (s : SilkDecoderState) (x : Call) → is_squelch q ≡ true
    → frame_answer (with_squelch q s) x ≡ answer_by (with_squelch q) (frame_answer (with_squelch (pos 0) s) x)

-- unless it is lost and squelched, it plays the same samples
abbrev pub SamplesAsBefore : Type 0
SamplesAsBefore =
    (q : ℤ) (s : SilkDecoderState) (x : Call) → is_squelch q ≡ true → (x.frame ≡ Lost → squelched (with_squelch q s) ≡ false)
    → frame_output (with_squelch q s) x ≡ frame_output (with_squelch (pos 0) s) x

-- a lost frame that is not squelched is that of silk_decode_frame
abbrev pub LostAsBefore : Type 0
LostAsBefore =
    (s : SilkDecoderState) (x : Call) → x.frame ≡ Lost → squelched s ≡ false → frame_outcome s x ≡ lost (shape_at x) (state_at s x) x.control

-- one that is squelched and played writes zeros over its 5rn samples, and nothing past them
abbrev pub PlaysZeros : Type 0
PlaysZeros =
    (s : SilkDecoderState) (x : Call) → x.frame ≡ Lost → squelched s ≡ true → frame_refusal s x ≡ Ok tt
    → frame_output s x ≡ replicate (frame_length (shape_at x)) (pos 0) ++ drop (frame_length (shape_at x)) x.output
