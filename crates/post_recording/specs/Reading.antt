-- What the calls that read and play a recording answer and leave in their slices. One that isn't answered by 0 leaves them as lent.
use Rattle.std.specs.Prelude.{ℕ, ◌-◌, true, ◌||◌, List, [], ◌∷◌, ◌++◌, map, eqb, ltb, ℤ, pos, get_or, length, drop, replicate}
use Rattle.std.specs.List.{range_with_len}
use Rattle.refusal.specs.First.{◌gives◌, first_of}
use Rattle.refusal.specs.Refusals.{Judged, code_of, if_accepted}
use Rattle.refusal.specs.declared.Refusal.TheVariants.{Chain}
use Rattle.sigproc.specs.Place.{put_at}
use Rattle.numbers.specs.Numbers.{frame_numbers, coef_numbers}
use Rattle.record.specs.Recorded.{Recorded, lost, received}
use Rattle.chain.specs.Chain.{chain_of, on_chain}
use Rattle.recording.specs.Frames.{rate_in, count_in, frames_in}
use Rattle.recording.specs.Reading.{read_refusal}
use Rattle.recording.specs.declared.Recording.{Recording}
use Rattle.playback.specs.Playback.{played_samples, play_refusal}
use Rattle.post_recording.specs.Sizes.{HEAD, short_with_pulses, sized}

-- the answer, and the head
pub record Read : Type 0 where
  pub answer : ℤ
  pub head : List ℤ

-- the first 59 records of a list, and zeros where it is shorter
abbrev pub places : List ℕ → List ℤ
places ks = map (λ k. pos (get_or ks k 0)) (range_with_len 0 59)

-- rate, subframes, count of frames, and the frames' records
unfoldable pub head_numbers : List ℕ → List ℤ
head_numbers b =
    let ks = on_chain (chain_of b) in
    rate_in b ∷ count_in b ∷ pos (length ks) ∷ places ks

-- inner: those of what is read
unfoldable pub head_of : Recording → List ℤ
head_of r = r.rate ∷ r.subframes ∷ pos r.frames ∷ places r.records

-- 21 for a short head, else what reading answers
unfoldable pub read_judged : List ℕ → List ℤ → Judged
read_judged b head = sized (ltb (length head) HEAD) (read_refusal b)

-- what is told of a recording, at the front of the head
unfoldable pub read_call : List ℕ → List ℤ → Read
read_call b head =
    let j = read_judged b head in
    record { answer = pos (code_of j); head = if_accepted j (put_at head 0 (head_numbers b)) head }

-- the answer, and a frame in numbers
pub record Framed : Type 0 where
  pub answer : ℤ
  pub frame : List ℤ
  pub coefs : List ℤ
  pub pulses : List ℤ

-- a frame's numbers, coefficients and pulses; of a lost one there is the shape alone, and zeros
unfoldable pub frame_of : ℤ → ℤ → Recorded → List ℤ
frame_of khz nb lost = pos 0 ∷ khz ∷ nb ∷ replicate 13 (pos 0)
frame_of khz nb (received q c rows lines pulses) = frame_numbers true khz nb q c

unfoldable pub coefs_of : Recorded → List ℤ
coefs_of lost = replicate 68 (pos 0)
coefs_of (received q c rows lines pulses) = coef_numbers c rows lines

unfoldable pub pulses_of : Recorded → List ℤ
pulses_of lost = replicate 320 (pos 0)
pulses_of (received q c rows lines pulses) = pulses

-- frames are counted from 1 along the chain
unfoldable pub frame_at : List ℕ → ℕ → Recorded
frame_at b number = get_or (frames_in b) (number - 1) lost

-- what reading answers, then 20 for a number that is 0 or past the last frame's
unfoldable pub number_refusal : List ℕ → ℕ → Judged
number_refusal b number =
    if_accepted (read_refusal b) (first_of (((eqb number 0 || ltb (length (frames_in b)) number) gives Chain) ∷ [])) (read_refusal b)

-- 21 for a short slice, else the judgement of the recording and the number
unfoldable pub frame_judged : List ℕ → ℕ → List ℤ → List ℤ → List ℤ → Judged
frame_judged b number frame coefs pulses = sized (short_with_pulses (length frame) (length coefs) (length pulses)) (number_refusal b number)

-- the frame of a number, at the front of the slices
unfoldable pub frame_call : List ℕ → ℕ → List ℤ → List ℤ → List ℤ → Framed
frame_call b number frame coefs pulses =
    let j = frame_judged b number frame coefs pulses in
    let x = frame_at b number in
    record {
      answer = pos (code_of j);
      frame = if_accepted j (put_at frame 0 (frame_of (rate_in b) (count_in b) x)) frame;
      coefs = if_accepted j (put_at coefs 0 (coefs_of x)) coefs;
      pulses = if_accepted j (put_at pulses 0 (pulses_of x)) pulses;
    }

-- the answer, the samples, and their count
pub record Sounds : Type 0 where
  pub answer : ℤ
  pub output : List ℤ
  pub played : List ℤ

-- 21 where the count has no place, else what playing answers
unfoldable pub play_judged : List ℕ → List ℤ → List ℤ → Judged
play_judged b output played = sized (ltb (length played) 1) (play_refusal b (length output))

-- the samples of all frames at the front of the output, and their count
unfoldable pub play_call : List ℕ → List ℤ → List ℤ → Sounds
play_call b output played =
    let j = play_judged b output played in
    let xs = played_samples b in
    record {
      answer = pos (code_of j);
      output = if_accepted j (xs ++ drop (length xs) output) output;
      played = if_accepted j (put_at played 0 (pos (length xs) ∷ [])) played;
    }
