-- What post_load_frame answers and leaves in its slices, from what it was lent.
use Rattle.std.specs.Prelude.{ℕ, Bool, cond, ◌||◌, List, ltb, ℤ, pos, negsuc, length}
use Rattle.refusal.specs.Refusals.{code_of, if_accepted}
use Rattle.sigproc.specs.Place.{put_at}
use Rattle.shape.specs.Shape.{rate_of}
use Rattle.layout.specs.Frame.{FRAME, COEFS}
use Rattle.numbers.specs.Numbers.{frame_numbers, coef_numbers}
use Rattle.load.specs.Load.{before, is_received, params_of, control_of, rows_of, lines_of, pulses_of, load_refusal}

-- a number, and the slices
pub record Called : Type 0 where
  pub answer : ℤ
  pub frame : List ℤ
  pub coefs : List ℤ
  pub pulses : List ℤ

abbrev pub called : ℤ → List ℤ → List ℤ → List ℤ → Called
called answer frame coefs pulses = record { answer = answer; frame = frame; coefs = coefs; pulses = pulses }

-- slices of these lengths are too short for a frame and 320 pulses
unfoldable pub short_load : ℕ → ℕ → ℕ → Bool
short_load frame coefs pulses = ltb frame FRAME || ltb coefs COEFS || ltb pulses 320

-- a load's frame, in a rate khz, whose draws follow the generator's value x, put into the slices
unfoldable pub framed : ℤ → ℤ → ℤ → List ℤ → List ℤ
framed khz nb x frame = put_at frame 0 (frame_numbers (is_received x) khz nb (params_of x) (control_of x (rate_of khz)))

unfoldable pub coefficiented : ℤ → ℤ → List ℤ → List ℤ
coefficiented khz x coefs = put_at coefs 0 (coef_numbers (control_of x (rate_of khz)) (rows_of x) (lines_of x))

unfoldable pub pulsed : ℤ → List ℤ → List ℤ
pulsed x pulses = put_at pulses 0 (pulses_of x)

-- -1 where a slice is too short; else the refusal's number, and only where that is 0 the slices are new
unfoldable pub load_frame_call : ℤ → ℤ → ℤ → ℕ → List ℤ → List ℤ → List ℤ → Called
load_frame_call khz nb seed number frame coefs pulses =
    let r = load_refusal khz nb number in
    let x = before seed number in
    cond (short_load (length frame) (length coefs) (length pulses)) (called (negsuc 0) frame coefs pulses)
    (called (pos (code_of r)) (if_accepted r (framed khz nb x frame) frame) (if_accepted r (coefficiented khz x coefs) coefs) (if_accepted r (pulsed x pulses) pulses))
