-- Document 02, Note 11: a load's frames as a list of whole-frame calls.
use Rattle.std.specs.Prelude.{ℕ, suc, Bool, cond, List, [], ◌∷◌, ℤ}
use Rattle.shape.specs.Shape.{rate_of}
use Rattle.decoder.specs.declared.Frame.TheVariants.{Received, Lost}
use Rattle.decode_frame.specs.Call.{Call, frame_call}
use Rattle.load.specs.Load.{before, is_received, params_of, control_of, rows_of, lines_of, pulses_of}

-- a load's rate, count of subframes and seed
module _ (khz nb seed : ℤ) where
  -- the frame whose draws follow the generator's value x, received or lost, and an output buffer
  unfoldable pub call_of : ℤ → Bool → List ℤ → Call
  call_of x received output =
      frame_call khz nb (cond received (Received (params_of x)) Lost) (control_of x (rate_of khz)) (rows_of x) (lines_of x) (pulses_of x) output

  -- frame i and those behind it, one for each output buffer; which are received is told by their numbers
  unfoldable pub calls_from : (ℕ → Bool) → ℕ → List (List ℤ) → List Call
  calls_from received i [] = []
  calls_from received i (o ∷ os) = call_of (before seed i) (received i) o ∷ calls_from received (suc i) os

  -- the load's own losses
  abbrev pub load_from : ℕ → List (List ℤ) → List Call
  load_from i outs = calls_from (λ j. is_received (before seed j)) i outs
