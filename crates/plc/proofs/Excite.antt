-- The excitation in a buffer: a prediction reads what stands before its place, and each sample stands after those before it.
use Prim.Native.Nat.{ℕ, zero, suc, ◌+◌, ◌-◌, ◌*◌, ◌^◌, ◌<◌, ◌≤◌}
use mathlib.Core.Path.{◌≡◌, refl, sym, ap, ◌∙◌}
use mathlib.Core.List.{List}
use native.Mathlib.Omega.{arith}
use native.Mathlib.Nat.{mul-le-mul, mul-suc}
use lib.IntN.{ℤ, pos, nat_abs, ◌*ℤ◌}
use lib.ListN.{length, get_or, set, take, drop, take-append-drop}
use lib.Dec.{lit<}
use lib.Seq.{length-take-le, take-suc-set, get_or-take, get_or-drop}
use Rattle.word.specs.Int.{floor_div, mod_ℤ, wrap32}
use Rattle.word.proofs.Mod.{mod_ℤ_lt}
use Rattle.macros.specs.Fixed.{smlawb, rand}
use Rattle.sigproc.specs.Synthesis.{ltp_prediction}
use Rattle.sigproc.proofs.InPlace.{ltp_front}
use Rattle.shape.specs.Shape.{Shape, subfr_length}
use Rattle.plc.specs.Conceal.{Voice, lag_of, excited, excited_times, voices}

pub ltp_take : (s taps : List ℤ) (m p j : ℕ) → p < m → m ≤ length s → ltp_prediction (take m s) taps p j ≡ ltp_prediction s taps p j
ltp_take s taps m p j h k =
    let l = length-take-le m s k in
    sym (ltp_front (take m s) (drop m s) taps p j (omega arith)) ∙ rw (take-append-drop m s)

module _ (exc : List ℤ) (from lag : ℕ) where
  pub times_taps : (n : ℕ) (v : Voice) → (excited_times exc from lag n v).taps ≡ v.taps
  unfolding excited_times excited
  times_taps zero v = refl
  times_taps (suc n) v = times_taps n v

  pub times_scale : (n : ℕ) (v : Voice) → (excited_times exc from lag n v).scale ≡ v.scale
  unfolding excited_times excited
  times_scale zero v = refl
  times_scale (suc n) v = times_scale n v

  pub times_pitch : (n : ℕ) (v : Voice) → (excited_times exc from lag n v).pitch ≡ v.pitch
  unfolding excited_times excited
  times_pitch zero v = refl
  times_pitch (suc n) v = times_pitch n v

  -- the seed of one more sample
  pub seed_more : (n : ℕ) (v : Voice) → rand (excited_times exc from lag n v).seed ≡ (excited_times exc from lag (suc n) v).seed
  unfolding excited_times excited
  seed_more n v = refl

  -- and the sample, in the buffer; the noise was read at place i
  pub past_more : (n : ℕ) (v : Voice) (buf : List ℤ) (m i : ℕ) → i ≡ from + mod_ℤ (floor_div (rand (excited_times exc from lag n v).seed) (2 ^ 25)) 128
      → m < length buf → 3 ≤ lag → lag ≤ m → take m buf ≡ (excited_times exc from lag n v).past
      → take (suc m) (set buf m (wrap32 (smlawb (ltp_prediction buf v.taps (m - lag + 2) 5) (get_or exc i (pos 0)) v.scale *ℤ pos 4)))
      ≡ (excited_times exc from lag (suc n) v).past
  unfolding excited_times excited
  past_more n v buf m i p h g k e =
      let l : length (take m buf) ≡ m = length-take-le m buf (omega arith) in
      rw (p, ← e, times_taps n v, times_scale n v, l, ltp_take buf v.taps m (m - lag + 2) 5 (omega arith) (omega arith)) (take-suc-set buf m _ h)

module _ (exc : List ℤ) (from lag : ℕ) where
  -- a sample draws of the 128 numbers from a place on
  part_once : (v : Voice) → excited (take 128 (drop from exc)) 0 lag v ≡ excited exc from lag v
  unfolding excited
  part_once v =
      let i = mod_ℤ (floor_div (rand v.seed) (2 ^ 25)) 128 in
      let e : 0 + i ≡ i = omega arith in
      rw (e, get_or-take 128 (drop from exc) i (pos 0) (mod_ℤ_lt (floor_div (rand v.seed) (2 ^ 25)) 128 (lit< tt)), get_or-drop from exc i (pos 0))

  pub times_part : (n : ℕ) (v : Voice) → excited_times (take 128 (drop from exc)) 0 lag n v ≡ excited_times exc from lag n v
  unfolding excited_times
  times_part zero v = refl
  times_part (suc n) v = ap (excited (take 128 (drop from exc)) 0 lag) (times_part n v) ∙ part_once (excited_times exc from lag n v)

-- and so of a whole frame
pub voices_part : (p : Shape) (exc : List ℤ) (from : ℕ) (harm noise : ℤ) (k : ℕ) (v : Voice)
    → voices p (take 128 (drop from exc)) 0 harm noise k v ≡ voices p exc from harm noise k v
unfolding voices
voices_part p exc from harm noise zero v = refl
voices_part p exc from harm noise (suc k) v =
    let w = voices p exc from harm noise k v in
    rw (voices_part p exc from harm noise k v, times_part exc from (nat_abs (lag_of w.pitch)) (subfr_length p) w)

-- a subframe stays within the buffer
pub room : (r j n : ℕ) → r ≤ 16 → j < n → n ≤ 4 → 5 * r * j + 5 * r ≤ 320
room r j n hr h k =
    let a : 5 * r ≤ 80 = omega arith in
    let b : suc j ≤ 4 = omega arith in
    omega (arith, mul-le-mul a b, mul-suc (5 * r) j)
