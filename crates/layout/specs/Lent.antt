-- What the slices of a state and of a frame hold after a call.
use Rattle.std.specs.Prelude.{◌≡◌}
use Rattle.decoder.specs.declared.Answer.{Answer}
use Rattle.layout.specs.declared.state.StateSlices.{StateSlices}
use Rattle.layout.specs.declared.frame.FrameSlices.{FrameSlices}
use Rattle.layout.specs.Layout.{with_words, with_halves}
use Rattle.layout.specs.Frame.{with_lags, with_taps}

-- they are the references that they were
abbrev pub SameState : StateSlices → StateSlices → Type 0
SameState old new = (new.words.ghost_name ≡ old.words.ghost_name) × (new.halves.ghost_name ≡ old.halves.ghost_name)

abbrev pub SameFrame : FrameSlices → FrameSlices → Type 0
SameFrame old new = (new.numbers.ghost_name ≡ old.numbers.ghost_name) × (new.coefs.ghost_name ≡ old.coefs.ghost_name)

-- they hold an answer's state and its description's lags and taps; all else is as it was
abbrev pub IsStored : Answer → (s s' : StateSlices) → (f f' : FrameSlices) → Type 0
IsStored a s s' f f' =
    (s'.words.now ≡ with_words s.words.now a.state)
    × (s'.halves.now ≡ with_halves s.halves.now a.state)
    × (f'.numbers.now ≡ with_lags f.numbers.now a.control)
    × (f'.coefs.now ≡ with_taps f.coefs.now a.control)
