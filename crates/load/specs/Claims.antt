-- Document 02, Note 11: "a stream of valid descriptions".
use Rattle.std.specs.Prelude.{Ok, ◌≡◌, ℤ}
use Rattle.std.specs.Int.{w16}
use Rattle.refusal.specs.First.{first_of}
use Rattle.shape.specs.Shape.{shape, rate_of}
use Rattle.decoder.specs.Typed.{Words, TypedControl, TypedRows, TypedLines}
use Rattle.judge.specs.Rows.{description_rows}
use Rattle.load.specs.Load.{params_of, control_of, rows_of, lines_of, pulses_of}

-- whatever the generator's value, none of rows 5 to 9 applies to the frame that follows it, at any shape
abbrev pub DrawnValid : Type 0
DrawnValid =
    (x khz nb : ℤ) → first_of (description_rows (shape khz nb) (params_of x) (control_of x (rate_of khz)) (lines_of x)) ≡ Ok tt

-- its numbers have the ranges of their types, and its lists their lengths
pub record TypedDrawn (x khz : ℤ) : Type 0 where
  pub control : TypedControl (control_of x (rate_of khz))
  pub rows : TypedRows (rows_of x)
  pub lines : TypedLines (lines_of x)
  pub pulses : Words w16 320 (pulses_of x)

abbrev pub DrawnTyped : Type 0
DrawnTyped = (x khz : ℤ) → TypedDrawn x khz
