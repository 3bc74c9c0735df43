-- Document 02, Note 11: the frames that a seed and a shape give. Frame i has draws 402 i to 402 i + 401, one for each number of its record from the kind on.
use Rattle.std.specs.Prelude.{ℕ, ◌+◌, ◌*◌, Bool, not, cond, List, [], ◌∷◌, ltb, ℤ, pos, negsuc}
use Rattle.word.specs.Int.{eq_ℤ}
use Rattle.refusal.specs.First.{◌gives◌, first_of}
use Rattle.refusal.specs.Refusals.{Judged}
use Rattle.refusal.specs.declared.Refusal.TheVariants.{Rate, Size, Length}
use Rattle.shape.specs.Shape.{is_rate, is_count}
use Rattle.decoder.specs.Signals.{signal_of}
use Rattle.decoder.specs.declared.Params.{Params}
use Rattle.decoder.specs.declared.Frame.{Frame}
use Rattle.decoder.specs.declared.Frame.TheVariants.{Received, Lost}
use Rattle.decoder.specs.declared.SilkDecoderControl.{SilkDecoderControl}
use Rattle.generator.specs.Draws.{drawn}
use Rattle.generator.specs.Scaled.{pick, picks}

-- the generator before frame i
unfoldable pub before : ℤ → ℕ → ℤ
before seed i = drawn seed (402 * i)

-- the frame whose draws follow the generator's value x; every frame has a description, lost or not
module _ (x : ℤ) where
  -- 0 lost, 1 received
  unfoldable pub is_received : Bool
  is_received = eq_ℤ (pick (pos 0) 2 x 0) (pos 1)

  -- type 0 to 2, offset 0 or 1, interpolation 0 to 4, every seed of 8 bits
  unfoldable pub params_of : Params
  params_of =
      record {
        signal = signal_of (pick (pos 0) 3 x 1);
        quant_offset_type = pick (pos 0) 2 x 2;
        nlsf_interp_coef_q2 = pick (pos 0) 5 x 3;
        seed = pick (negsuc 127) 256 x 4;
      }

  -- at a rate r: lags 2r to 18r, gains 81,920 to 1,686,110,208, taps -6,553 to 6,553, scale 0 to 16,384
  unfoldable pub control_of : ℕ → SilkDecoderControl
  control_of r =
      record {
        pitch_l = picks (pos (2 * r)) (16 * r + 1) x 5 4;
        gains_q16 = picks (pos 81920) 1686028289 x 9 4;
        ltp_coef_q14 = picks (negsuc 6552) 13107 x 45 20;
        ltp_scale_q14 = pick (pos 0) 16385 x 65;
      }

  -- every number of 16 bits
  unfoldable pub rows_of : List (List ℤ)
  rows_of = picks (negsuc 32767) 65536 x 13 16 ∷ picks (negsuc 32767) 65536 x 29 16 ∷ []

  -- lines 0 to 32,767
  unfoldable pub lines_of : List ℤ
  lines_of = picks (pos 0) 32768 x 66 16

  -- every number of 16 bits
  unfoldable pub pulses_of : List ℤ
  pulses_of = picks (negsuc 32767) 65536 x 82 320

  unfoldable pub frame_of : Frame
  frame_of = cond is_received (Received params_of) Lost

-- 1 and 2 where the shape is none, and 12 for a frame's number past the 2,147,483,647 that a post can play
unfoldable pub load_refusal : ℤ → ℤ → ℕ → Judged
load_refusal khz nb i =
    first_of ((not (is_rate khz) gives Rate) ∷ (not (is_count nb) gives Size) ∷ (ltb 2147483646 i gives Length) ∷ [])
