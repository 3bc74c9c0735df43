-- Document 02, Note 9: why a recording is refused, and what is read of it.
use Rattle.std.specs.Prelude.{ℕ, not, ◌&&◌, List, [], ◌∷◌, length, Result}
use Rattle.refusal.specs.First.{◌gives◌}
use Rattle.refusal.specs.Refusals.{Judged, answered}
use Rattle.refusal.specs.declared.Refusal.{Refusal}
use Rattle.refusal.specs.declared.Refusal.TheVariants.{Rate, Size, Chain, Record}
use Rattle.shape.specs.Shape.{shape, is_rate, is_count}
use Rattle.chain.specs.Chain.{is_whole, chain_of, is_broken, on_chain, padded}
use Rattle.recording.specs.Rows.{first_then}
use Rattle.recording.specs.Frames.{is_head, are_frames, rate_in, count_in, frames_in, described_all}
use Rattle.recording.specs.declared.Recording.{Recording}

-- a bad length, then 20, the rest of 21, and last 1, 2 and, along the chain, 5 to 9
unfoldable pub read_refusal : List ℕ → Judged
read_refusal b =
    first_then
    ((not (is_whole (length b)) gives Record)
    ∷ (is_broken (chain_of b) gives Chain)
    ∷ (not (is_head b && are_frames b (on_chain (chain_of b))) gives Record)
    ∷ (not (is_rate (rate_in b)) gives Rate)
    ∷ (not (is_count (count_in b)) gives Size)
    ∷ [])
    (described_all (shape (rate_in b) (count_in b)) (frames_in b))

-- rate, subframes and the records of the frames
unfoldable pub read_of : List ℕ → Result Recording Refusal
read_of b =
    let ks = on_chain (chain_of b) in
    answered (read_refusal b) (record { rate = rate_in b; subframes = count_in b; frames = length ks; records = padded ks })
