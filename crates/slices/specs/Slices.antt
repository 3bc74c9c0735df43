-- The slices of a call on a state and a frame.
use Rattle.std.specs.Prelude.{List, ℤ, Result, Ok, Err}
use Rattle.refusal.specs.Refusals.{Judged}
use Rattle.refusal.specs.declared.Refusal.{Refusal}
use Rattle.decoder.specs.declared.SilkDecoderState.{SilkDecoderState}
use Rattle.decoder.specs.declared.SilkDecoderControl.{SilkDecoderControl}
use Rattle.layout.specs.declared.state.StateSlices.{StateSlices}
use Rattle.layout.specs.declared.frame.FrameSlices.{FrameSlices}
use Rattle.layout.specs.Layout.{state_in, with_words, with_halves}
use Rattle.layout.specs.Frame.{control_in, with_lags, with_taps}

-- the slices of a call; one that it does not take is empty
pub record Slices : Type 0 where
  pub words : List ℤ
  pub halves : List ℤ
  pub frame : List ℤ
  pub coefs : List ℤ
  pub pulses : List ℤ
  pub output : List ℤ

abbrev pub slices : (words halves frame coefs pulses output : List ℤ) → Slices
slices words halves frame coefs pulses output =
    record { words = words; halves = halves; frame = frame; coefs = coefs; pulses = pulses; output = output }

-- those that a program lends for a state and a frame, pulses and samples
abbrev pub lent : StateSlices → FrameSlices → (pulses output : List ℤ) → Slices
lent s f pulses output = slices s.words.now s.halves.now f.numbers.now f.coefs.now pulses output

module _ (m : Slices) where
  abbrev pub state_of : SilkDecoderState
  state_of = state_in m.words m.halves

  abbrev pub control_of : SilkDecoderControl
  control_of = control_in m.frame m.coefs

  -- the slices with a new state and new samples
  abbrev pub with_state : SilkDecoderState → List ℤ → Slices
  with_state s output = slices (with_words m.words s) (with_halves m.halves s) m.frame m.coefs m.pulses output

  -- and with a new description: its lags and taps
  abbrev pub with_control : SilkDecoderState → SilkDecoderControl → List ℤ → Slices
  with_control s c output =
      slices (with_words m.words s) (with_halves m.halves s) (with_lags m.frame c) (with_taps m.coefs c) m.pulses output

-- whether a call is turned down and why, and the slices after it
pub record Answered : Type 0 where
  pub judged : Judged
  pub after : Slices

-- the slices that a call leaves; refused, they are as they were lent
abbrev pub leaves : {A : Type 0} → Result A Refusal → (A → Slices) → Slices → Answered
leaves (Ok a) left lent = record { judged = Ok tt; after = left a }
leaves (Err r) left lent = record { judged = Err r; after = lent }
