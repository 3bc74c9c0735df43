-- Gluing after noise, and what concealment's reset leaves.
use Prim.Native.Nat.{ℕ}
use mathlib.Core.Path.{◌≡◌, refl}
use mathlib.Core.Bool.{Bool, true, false, cond}
use mathlib.Core.List.{List, ◌++◌, append-nil}
use native.Mathlib.Omega.{arith}
use lib.IntN.{ℤ, pos}
use lib.ListN.{length, drop, drop_of_length-le}
use Rattle.word.specs.Int.{eq_ℤ}
use Rattle.shape.specs.Shape.{Shape}
use Rattle.decoder.specs.declared.SilkPLCState.{SilkPLCState}
use Rattle.plc.specs.Hold.{plc_reset, plc_ready}
use Rattle.decoder.specs.Outcome.{Outcome, Framed}
use Rattle.decoder.specs.declared.SilkDecoderControl.{SilkDecoderControl}
use Rattle.glue.specs.Glue.{glue_frames}
use Rattle.decode_frame.specs.WholeFrame.{lag_kept}

-- a frame with noise in it, glued, with its lag kept
abbrev pub glued : Shape → SilkDecoderControl → Framed → Outcome
glued p c f =
    let g = glue_frames f.state f.frame in
    record { state = lag_kept p g.state c; control = c; samples = g.frame }

-- concealment's reset leaves what gluing holds
pub ready_energy : (p : Shape) (h : SilkPLCState) → ((plc_ready p h).conc_energy ≡ h.conc_energy) × ((plc_ready p h).conc_energy_shift ≡ h.conc_energy_shift)
unfolding plc_ready plc_reset
ready_energy p h = go (eq_ℤ (pos p.rate) h.fs_khz)
  where
    go : (b : Bool) → ((cond b h (plc_reset p h)).conc_energy ≡ h.conc_energy) × ((cond b h (plc_reset p h)).conc_energy_shift ≡ h.conc_energy_shift)
    go true = (refl, refl)
    go false = (refl, refl)

-- a whole frame of samples leaves nothing of what was lent
pub all_samples : (y x : List ℤ) (n : ℕ) → length x ≡ n → y ++ drop n x ≡ y
all_samples y x n e = rw (drop_of_length-le x {i = n} (omega (arith, e)), append-nil y)
