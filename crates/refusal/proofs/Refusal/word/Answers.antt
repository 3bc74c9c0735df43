use mathlib.Core.Path.{refl}
use Rattle.refusal.proofs.Refusal.word.Goals as goal

pub returns-in-Rate : goal.returns-in-Rate
returns-in-Rate c = rw c.in-Rate.is refl

pub returns-in-Size : goal.returns-in-Size
returns-in-Size c = rw c.in-Size.is refl

pub returns-in-History : goal.returns-in-History
returns-in-History c = rw c.in-History.is refl

pub returns-in-RunFull : goal.returns-in-RunFull
returns-in-RunFull c = rw c.in-RunFull.is refl

pub returns-in-Signal : goal.returns-in-Signal
returns-in-Signal c = rw c.in-Signal.is refl

pub returns-in-Gain : goal.returns-in-Gain
returns-in-Gain c = rw c.in-Gain.is refl

pub returns-in-Lag : goal.returns-in-Lag
returns-in-Lag c = rw c.in-Lag.is refl

pub returns-in-Taps : goal.returns-in-Taps
returns-in-Taps c = rw c.in-Taps.is refl

pub returns-in-Line : goal.returns-in-Line
returns-in-Line c = rw c.in-Line.is refl

pub returns-in-Pulses : goal.returns-in-Pulses
returns-in-Pulses c = rw c.in-Pulses.is refl

pub returns-in-Speaker : goal.returns-in-Speaker
returns-in-Speaker c = rw c.in-Speaker.is refl

pub returns-in-Length : goal.returns-in-Length
returns-in-Length c = rw c.in-Length.is refl

pub returns-in-Order : goal.returns-in-Order
returns-in-Order c = rw c.in-Order.is refl

pub returns-in-Squelch : goal.returns-in-Squelch
returns-in-Squelch c = rw c.in-Squelch.is refl

pub returns-in-Weights : goal.returns-in-Weights
returns-in-Weights c = rw c.in-Weights.is refl

pub returns-in-Channels : goal.returns-in-Channels
returns-in-Channels c = rw c.in-Channels.is refl

pub returns-in-Place : goal.returns-in-Place
returns-in-Place c = rw c.in-Place.is refl

pub returns-in-Post : goal.returns-in-Post
returns-in-Post c = rw c.in-Post.is refl

pub returns-in-Waiting : goal.returns-in-Waiting
returns-in-Waiting c = rw c.in-Waiting.is refl

pub returns-in-Chain : goal.returns-in-Chain
returns-in-Chain c = rw c.in-Chain.is refl

pub returns-in-Record : goal.returns-in-Record
returns-in-Record c = rw c.in-Record.is refl

pub returns-in-Edition : goal.returns-in-Edition
returns-in-Edition c = rw c.in-Edition.is refl

pub returns-in-Limit : goal.returns-in-Limit
returns-in-Limit c = rw c.in-Limit.is refl
