use mir.Syntax.{w8}
use Rattle.word.proofs.Words.{kept}
use Rattle.decoder.specs.Signals.{signal_number}
use borrow.Author.Rules.{rules}
use Rattle.decoder.proofs.I8FromSignal.from.Goals as goal

pub returns-in-NoVoiceActivity : goal.returns-in-NoVoiceActivity
unfolding signal_number
returns-in-NoVoiceActivity c = search rules

pub returns-in-Unvoiced : goal.returns-in-Unvoiced
unfolding signal_number
returns-in-Unvoiced c = search rules

pub returns-in-Voiced : goal.returns-in-Voiced
unfolding signal_number
returns-in-Voiced c = search rules

pub returns-in-Other : goal.returns-in-Other
unfolding signal_number
returns-in-Other c = rw (c.in-Other.is, kept w8 c.in-Other.n c.in-Other.known_told-1-own.given.0.1)
