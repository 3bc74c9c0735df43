-- Document 02, Note 13: the calls of a post that follows a load behind a link, and what becomes of their frames.
use Rattle.std.specs.Prelude.{Ok, Err, Result, ℕ, ◌+◌, Bool, true, false, cond, not, ◌&&◌, List, [], ◌∷◌, eqb, ℤ, pos, replicate}
use Rattle.edition.specs.Edition.{newer}
use Rattle.refusal.specs.Refusals.{code_of}
use Rattle.refusal.specs.declared.Refusal.{Refusal}
use Rattle.decoder.specs.Settings.{squelched}
use Rattle.decoder.specs.SetUp.{set_up_with}
use Rattle.decoder.specs.declared.Frame.{Frame}
use Rattle.decoder.specs.declared.Frame.TheVariants.{Received, Lost}
use Rattle.decoder.specs.declared.SilkDecoderState.{SilkDecoderState}
use Rattle.decode_frame.specs.Call.{Call}
use Rattle.decode_frame.specs.Answer.{frame_refusal}
use Rattle.lists.specs.Lists.{Place, places}
use Rattle.load_lists.specs.Calls.{calls_from}
use Rattle.listener.specs.declared.Link.{Link}
use Rattle.listener.specs.Link.{good_at}
use Rattle.listener.specs.Heard.{Heard, as_received, as_concealed, as_squelched}

-- what becomes of a frame that is played: a lost one is squelched where Note 3 plays zeros for it
unfoldable pub is_heard : Heard → Frame → SilkDecoderState → Bool
is_heard as_received (Received q) s = true
is_heard as_received Lost s = false
is_heard as_concealed (Received q) s = false
is_heard as_concealed Lost s = not (squelched s)
is_heard as_squelched (Received q) s = false
is_heard as_squelched Lost s = squelched s

-- the calls of a list that are played, and heard so
unfoldable pub count_of : Heard → List Place → ℕ
count_of h [] = 0
count_of h (t ∷ ts) =
    cond (eqb (code_of (frame_refusal t.state t.call)) 0 && is_heard h t.call.frame t.state) 1 0 + count_of h ts

-- the calls of a list on a post that was set up; on none, no calls
abbrev pub places_on : Result SilkDecoderState Refusal → List Call → List Place
places_on (Ok s) xs = places s xs
places_on (Err r) xs = []

-- a load's rate, count of subframes and seed, a squelch, a link and a count of frames
module _ (khz nb seed q : ℤ) (k : Link) (n : ℕ) where
  -- the first n frames of the load, its losses replaced by those of a listener's link, each with an output buffer of 320 zeros
  unfoldable pub followed_by : ℤ → List Call
  followed_by listener = calls_from khz nb seed (good_at k listener) 0 (replicate n (replicate 320 (pos 0)))

  -- the calls on a post that was set up for the load's shape, with that squelch
  unfoldable pub heard_of : Heard → ℤ → ℕ
  heard_of h listener =
      count_of h (places_on (set_up_with khz nb (record { squelch = q; edition = newer })) (followed_by listener))
