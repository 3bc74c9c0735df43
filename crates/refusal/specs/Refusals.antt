-- Document 01, "Why a frame is turned down", and document 02's rows 14 to 23: the number and the word of each.
use Rattle.std.specs.Prelude.{ℕ, Result, Ok, Err}
use Prim.Native.String.{String}
use Rattle.refusal.specs.declared.Refusal.{Refusal}
use Rattle.refusal.specs.declared.Refusal.TheVariants.{Rate, Size, History, RunFull, Signal, Gain, Lag, Taps, Line, Pulses, Speaker, Length, Order, Squelch, Weights, Channels, Place, Post, Waiting, Chain, Record, Edition, Limit}

-- the column "No."
abbrev pub refusal_number : Refusal → ℕ
refusal_number Rate = 1
refusal_number Size = 2
refusal_number History = 3
refusal_number RunFull = 4
refusal_number Signal = 5
refusal_number Gain = 6
refusal_number Lag = 7
refusal_number Taps = 8
refusal_number Line = 9
refusal_number Pulses = 10
refusal_number Speaker = 11
refusal_number Length = 12
refusal_number Order = 13
refusal_number Squelch = 14
refusal_number Weights = 15
refusal_number Channels = 16
refusal_number Place = 17
refusal_number Post = 18
refusal_number Waiting = 19
refusal_number Chain = 20
refusal_number Record = 21
refusal_number Edition = 22
refusal_number Limit = 23

-- the column "Word"
abbrev pub refusal_word : Refusal → String
refusal_word Rate = "rate"
refusal_word Size = "size"
refusal_word History = "history"
refusal_word RunFull = "run full"
refusal_word Signal = "signal"
refusal_word Gain = "gain"
refusal_word Lag = "lag"
refusal_word Taps = "taps"
refusal_word Line = "line"
refusal_word Pulses = "pulses"
refusal_word Speaker = "speaker"
refusal_word Length = "length"
refusal_word Order = "order"
refusal_word Squelch = "squelch"
refusal_word Weights = "weights"
refusal_word Channels = "channels"
refusal_word Place = "place"
refusal_word Post = "post"
refusal_word Waiting = "waiting"
refusal_word Chain = "chain"
refusal_word Record = "record"
refusal_word Edition = "edition"
refusal_word Limit = "limit"

-- a judgement: nothing is refused, or the row that is given
abbrev pub Judged : Type 0
Judged = Result (Unit {0}) Refusal

-- its number, 0 where nothing is refused
abbrev pub code_of : Judged → ℕ
code_of (Ok u) = 0
code_of (Err r) = refusal_number r

-- the first of two values if nothing is refused, else the second
abbrev pub if_accepted {ℓ} : {A : Type ℓ} → Judged → A → A → A
if_accepted (Ok u) new old = new
if_accepted (Err r) new old = old

-- a call's answer: the row that it is refused by, or a value
abbrev pub answered : {A : Type 0} → Judged → A → Result A Refusal
answered (Ok u) x = Ok x
answered (Err r) x = Err r
