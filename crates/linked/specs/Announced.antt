-- Document 02, Note 6, for a program that links the library: the filter of a post's noise, from the lines in the post's slices.
use Rattle.std.specs.Prelude.{ℕ, ◌≤◌, ◌≡◌, List, ℤ, pos, length, take}
use Rattle.shape.specs.Shape.{rate_of, order_of}
use Rattle.decoder.specs.declared.SilkCNGState.{SilkCNGState}
use Rattle.cng.specs.Noise.{cng_ready, noise_filter}
use Rattle.layout.specs.Layout.{part, one}
use Rattle.post_filters.specs.Calls.{Called, filter_call}
use Rattle.linked.specs.Linked.{Held, state_of}
use Rattle.linked.specs.Claims.{FromAccepted}

-- ---- what the slices say
module _ (m : Held) where
  -- the order at the rate that is the number of words at 338
  abbrev pub order_held : ℕ
  order_held = order_of (rate_of (one m.words 338))

  -- the edition is the number of words at 697
  abbrev pub edition_held : ℤ
  edition_held = one m.words 697

  -- noise as a lost frame at that rate finds it, after its reset where it holds another
  abbrev pub noise_held : SilkCNGState
  noise_held = cng_ready (rate_of (one m.words 338)) (state_of m).s_cng

-- the call of post_filter at that order and under that edition
abbrev pub filter_of : Held → List ℤ → List ℤ → Called ℤ
filter_of m out lines = filter_call out lines (order_held m) (edition_held m)

-- ---- the claims
-- from slices that hold any accepted state, and lines that begin as noise's do, post_filter answers 0 and leaves the filter of noise
abbrev pub AnnouncedLinked : Type 0
AnnouncedLinked =
    (m : Held) (lines out : List ℤ) → FromAccepted m → order_held m ≤ length out
    → take (order_held m) lines ≡ take (order_held m) (noise_held m).cng_smth_nlsf_q15
    → ((filter_of m out lines).answer ≡ pos 0)
    × (take (order_held m) (filter_of m out lines).slice ≡ noise_filter (edition_held m) (order_held m) (noise_held m))

-- where noise's rate, the number of words at 695, is the state's, its lines are the numbers of halves from 519 on
abbrev pub LinesSeen : Type 0
LinesSeen =
    (m : Held) → FromAccepted m → one m.words 695 ≡ one m.words 338
    → take (order_held m) (noise_held m).cng_smth_nlsf_q15 ≡ part m.halves 519 (order_held m)
