-- The signal types and their numbers (define.rs: TYPE_NO_VOICE_ACTIVITY, TYPE_UNVOICED, TYPE_VOICED).
use Rattle.std.specs.Prelude.{Bool, cond, ℤ, pos}
use Rattle.word.specs.Int.{eq_ℤ}
use Rattle.decoder.specs.Ranges.{within}
use Rattle.decoder.specs.declared.Signal.{Signal}
use Rattle.decoder.specs.declared.Signal.TheVariants.{NoVoiceActivity, Unvoiced, Voiced, Other}

unfoldable pub signal_number : Signal → ℤ
signal_number NoVoiceActivity = pos 0
signal_number Unvoiced = pos 1
signal_number Voiced = pos 2
signal_number (Other n) = n

-- the signal that a number stands for
unfoldable pub signal_of : ℤ → Signal
signal_of n =
    cond (eq_ℤ n (pos 0)) NoVoiceActivity (cond (eq_ℤ n (pos 1)) Unvoiced (cond (eq_ℤ n (pos 2)) Voiced (Other n)))

-- a signal's number is one of the three types
unfoldable pub is_type : Signal → Bool
is_type s = within (pos 0) (pos 2) (signal_number s)

unfoldable pub is_voiced : Signal → Bool
is_voiced s = eq_ℤ (signal_number s) (pos 2)
