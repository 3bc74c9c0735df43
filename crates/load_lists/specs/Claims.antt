-- Document 02, Note 11: "No frame of a load of at most 2,147,483,647 frames is refused by a post set up for its shape and lent 5rn samples".
use Rattle.std.specs.Prelude.{Ok, ℕ, ◌≤◌, ◌≡◌, Bool, List, ℤ, length}
use Rattle.shape.specs.Shape.{shape, frame_length}
use Rattle.decoder.specs.SetUp.{set_up_with}
use Rattle.decoder.specs.declared.Settings.{Settings}
use Rattle.decoder.specs.declared.SilkDecoderState.{SilkDecoderState}
use Rattle.decode_frame.specs.Call.{Call}
use Rattle.lists.specs.Lists.{places}
use Rattle.lists.specs.Claims.{Every, Played}
use Rattle.generator.specs.Draws.{drawn}
use Rattle.load_lists.specs.Calls.{calls_from, load_from}

-- up to 2,147,483,647 output buffers, each of 5rn samples or more
pub record Lent (khz nb : ℤ) (outs : List (List ℤ)) : Type 0 where
  pub few : length outs ≤ 2147483647
  pub room : Every (λ o. frame_length (shape khz nb) ≤ length o) outs

-- frames that a load sends are played by a post that was set up for their shape, whatever its settings
abbrev pub AllPlayed : (ℤ → ℤ → ℤ → ℕ → List (List ℤ) → List Call) → Type 0
AllPlayed sent =
    (khz nb : ℤ) (v : Settings) (s : SilkDecoderState) (seed : ℤ) (k i : ℕ) (outs : List (List ℤ)) → set_up_with khz nb v ≡ Ok s → Lent khz nb outs
    → Every Played (places s (sent khz nb (drawn seed k) i outs))

-- with the load's own losses, from any draw k and any frame i behind it
abbrev pub LoadPlayed : Type 0
LoadPlayed = AllPlayed load_from

-- and with any others in their place
abbrev pub AnyLosses : Type 0
AnyLosses = (received : ℕ → Bool) → AllPlayed (λ khz nb seed i outs. calls_from khz nb seed received i outs)
