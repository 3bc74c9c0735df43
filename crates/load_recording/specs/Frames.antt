-- The frames of a load as they are recorded.
use Rattle.std.specs.Prelude.{ℕ, zero, suc, cond, List, [], ◌∷◌, ℤ}
use Rattle.shape.specs.Shape.{rate_of}
use Rattle.record.specs.Recorded.{Recorded, lost, received}
use Rattle.load.specs.Load.{before, is_received, params_of, control_of, rows_of, lines_of, pulses_of}

-- the frame whose draws follow the generator's value x; of a lost one nothing is kept
unfoldable pub recorded_of : ℤ → ℤ → Recorded
recorded_of rate x = cond (is_received x) (received (params_of x) (control_of x (rate_of rate)) (rows_of x) (lines_of x) (pulses_of x)) lost

-- n frames, from frame i of a seed on
unfoldable pub frames_from : ℤ → ℤ → ℕ → ℕ → List Recorded
frames_from rate seed i zero = []
frames_from rate seed i (suc n) = recorded_of rate (before seed i) ∷ frames_from rate seed (suc i) n
