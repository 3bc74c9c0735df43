-- What is heard of a frame follows from the call's answer and its output.
use mathlib.Core.Path.{◌≡◌, refl}
use mathlib.Core.List.{List}
use lib.IntN.{ℤ}
use Rattle.std.specs.Prelude.{Result, Ok, Err}
use Rattle.refusal.specs.Refusals.{Judged}
use Rattle.refusal.specs.declared.Refusal.{Refusal}
use Rattle.decoder.specs.Answer.{answer}
use Rattle.decoder.specs.declared.Answer.{Answer}
use Rattle.decoder.specs.declared.SilkDecoderState.{SilkDecoderState}
use Rattle.decode_frame.specs.Answer.{frame_refusal, frame_outcome, frame_answer, frame_output}
use Rattle.refusal.specs.Refusals.{answered}
use Rattle.record.specs.declared.Sound.{Sound}
use Rattle.load_stream.specs.Stream.{call, heard_of}

abbrev pub with_samples : List ℤ → Result Answer Refusal → Result Sound Refusal
with_samples samples (Ok a) = Ok (record { state = a.state; samples = samples })
with_samples samples (Err r) = Err r

pub heard_with : (s : SilkDecoderState) (khz nb x : ℤ) → with_samples (frame_output s (call s khz nb x)) (frame_answer s (call s khz nb x)) ≡ heard_of s khz nb x
unfolding frame_answer heard_of
heard_with s khz nb x = go (frame_refusal s (call s khz nb x))
  where
    go : (j : Judged)
        → with_samples (frame_output s (call s khz nb x)) (answer j (frame_outcome s (call s khz nb x)))
        ≡ answered j (record { state = (frame_outcome s (call s khz nb x)).state; samples = frame_output s (call s khz nb x) })
    go (Ok u) = refl
    go (Err r) = refl
