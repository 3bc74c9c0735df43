-- The sizes of the slices: a shorter one is refused by 21 before anything that it holds is looked at.
use Rattle.std.specs.Prelude.{ℕ, Bool, cond, ◌||◌, ltb, Err}
use Rattle.refusal.specs.Refusals.{Judged}
use Rattle.refusal.specs.declared.Refusal.TheVariants.{Record}
use Rattle.layout.specs.Frame.{FRAME, COEFS}

-- rate, subframes, count of frames, and 59 records
abbrev pub HEAD : ℕ
HEAD = 62

-- slices of these lengths are too short for a frame, and for a frame and its pulses
unfoldable pub short_numbers : ℕ → ℕ → Bool
short_numbers frame coefs = ltb frame FRAME || ltb coefs COEFS

unfoldable pub short_with_pulses : ℕ → ℕ → ℕ → Bool
short_with_pulses frame coefs pulses = short_numbers frame coefs || ltb pulses 320

-- 21 where a slice is too short, else the judgement of what the slices hold
unfoldable pub sized : Bool → Judged → Judged
sized short j = cond short (Err Record) j
