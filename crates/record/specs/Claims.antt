-- What is written is what is read, and what is read is what is written.
use Rattle.std.specs.Prelude.{ℕ, ◌≤◌, ◌≡◌, List, ◌++◌, ℤ, get_or, length, take, replicate}
use Rattle.std.specs.Int.{w8, w16}
use Rattle.std.proofs.Common.{SFits}
use Rattle.le.specs.Bytes.{Bytes}
use Rattle.decoder.specs.Signals.{signal_number, signal_of}
use Rattle.decoder.specs.Typed.{Words, TypedControl, TypedRows, TypedLines}
use Rattle.decoder.specs.declared.Params.{Params}
use Rattle.decoder.specs.declared.SilkDecoderControl.{SilkDecoderControl}
use Rattle.record.specs.Recorded.{Recorded, lost, received, recorded_in, record_bytes}

-- a received frame's numbers have the ranges of their types, and its lists their lengths
pub record TypedReceived (q : Params) (c : SilkDecoderControl) (rows : List (List ℤ)) (lines pulses : List ℤ) : Type 0 where
  pub signal : SFits w8 (signal_number q.signal)
  pub offset : SFits w8 q.quant_offset_type
  pub interpolation : SFits w8 q.nlsf_interp_coef_q2
  pub seed : SFits w8 q.seed
  pub control : TypedControl c
  pub both : length rows ≡ 2
  pub coefficients : TypedRows rows
  pub frequencies : TypedLines lines
  pub excitation : Words w16 320 pulses

abbrev pub TypedRecorded : Recorded → Type 0
TypedRecorded lost = Unit {0}
TypedRecorded (received q c rows lines pulses) = TypedReceived q c rows lines pulses

-- a frame whose signal type is that of its number
unfoldable pub by_number : Recorded → Recorded
by_number lost = lost
by_number (received q c rows lines pulses) =
    received
    (record { signal = signal_of (signal_number q.signal); quant_offset_type = q.quant_offset_type; nlsf_interp_coef_q2 = q.nlsf_interp_coef_q2; seed = q.seed })
    c
    rows
    lines
    pulses

-- bytes that are written are read as the same frame, whatever is behind them
abbrev pub WrittenIsRead : Type 0
WrittenIsRead = (x : Recorded) (q : List ℕ) → TypedRecorded x → recorded_in (record_bytes x ++ q) ≡ by_number x

-- bytes of kind 1, or of kind 0 with zeros behind it, are those of the frame that is read from them
abbrev pub ReadIsWritten : Type 0
ReadIsWritten =
    (b : List ℕ) → Bytes b → 817 ≤ length b
    → (get_or b 0 0 ≡ 1 → record_bytes (recorded_in b) ≡ take 817 b)
    × (take 817 b ≡ replicate 817 0 → record_bytes (recorded_in b) ≡ take 817 b)
