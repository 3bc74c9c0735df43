-- The excitation as it was played, its energies, and the place that noise is drawn from.
use Prim.Native.Nat.{ℕ, ◌+◌, ◌-◌, ◌*◌, ◌%◌, ◌^◌, ◌≤◌}
use mathlib.Core.Path.{◌≡◌, refl}
use mathlib.Core.Bool.{Bool, true, false, cond, ◌&&◌, ◌||◌}
use mathlib.Core.Logic.{inl, inr}
use mathlib.Core.List.{List}
use native.Mathlib.Omega.{arith}
use native.Mathlib.Nat.{mod-eq_of_lt, mul-le-mul}
use lib.IntN.{ℤ, pos, nat_abs}
use lib.ListN.{length, get_or}
use lib.Signed.{lt_z}
use Rattle.word.specs.Int.{floor_div, mod_ℤ, eq_ℤ, sat16}
use Rattle.word.specs.Size.{Bounded}
use Rattle.word.proofs.Lists.{map_le}
use Rattle.word.proofs.Order.{sat16-fits, eq_ℤ_true}
use Rattle.word.proofs.Sizes.{fits-abs}
use Rattle.word.proofs.Rows.{both}
use Rattle.macros.specs.Fixed.{smulww}
use Rattle.sigproc.specs.Energy.{energy_shift, sum_sqr_shift}
use Rattle.sigproc.proofs.Energies.{shift_small}
use Rattle.std.proofs.lemmas.List.{length-map}
use Rattle.shape.specs.Shape.{Shape}
use Rattle.shape.proofs.Shapes.{either}
use Rattle.decoder.specs.Ranges.{subframes_held}
use Rattle.decoder.specs.declared.SilkPLCState.{SilkPLCState}
use Rattle.decoder.specs.declared.SilkDecoderState.{SilkDecoderState}
use Rattle.plc.specs.Conceal.{heard_by, heard, older_smaller, place_from, noise_place}

pub length-heard_by : (gain : ℤ) (exc : List ℤ) → length (heard_by gain exc) ≡ length exc
unfolding heard_by
length-heard_by gain exc = length-map exc _

pub heard_by_bounded : (gain : ℤ) (exc : List ℤ) → Bounded 32768 (heard_by gain exc)
unfolding heard_by
heard_by_bounded gain exc i =
    map_le _ exc i 32768 (λ j. fits-abs (sat16 (floor_div (smulww (get_or exc j (pos 0)) (floor_div gain (2 ^ 6))) (2 ^ 8))) (sat16-fits _))

-- what the older energy is compared by
pub older-is : (old new : List ℤ) → Bounded 32768 old → Bounded 32768 new → 1 ≤ length old → length old ≤ 320 → 1 ≤ length new → length new ≤ 320
    → lt_z (floor_div (sum_sqr_shift old).energy (2 ^ mod_ℤ (sum_sqr_shift new).shift 32)) (floor_div (sum_sqr_shift new).energy (2 ^ mod_ℤ (sum_sqr_shift old).shift 32)) ≡ older_smaller old new
unfolding sum_sqr_shift older_smaller
older-is old new bo bn lo mo ln mn =
    let o : energy_shift old % 32 ≡ energy_shift old = mod-eq_of_lt (omega (arith, shift_small old bo lo mo)) in
    let n : energy_shift new % 32 ≡ energy_shift new = mod-eq_of_lt (omega (arith, shift_small new bn ln mn)) in
    rw (o, n)

-- ---- the subframes that concealment holds
pub record Held (n l : ℤ) : Type 0 where
  pub count : n ≡ pos (nat_abs n)
  pub length : l ≡ pos (nat_abs l)
  pub count_low : 2 ≤ nat_abs n
  pub count_high : nat_abs n ≤ 4
  pub length_high : nat_abs l ≤ 80

of_numbers : (n l : ℤ) (a b : ℕ) → n ≡ pos a → l ≡ pos b → 2 ≤ a → a ≤ 4 → b ≤ 80 → Held n l
of_numbers n l a b e f p q r =
    rw (e, f) (record { count = refl; length = refl; count_low = p; count_high = q; length_high = r })

pub held : (r : ℕ) (n l : ℤ) → r ≤ 16 → subframes_held r n l ≡ true → Held n l
unfolding subframes_held
held r n l h e = elim (either (eq_ℤ n (pos 2) && eq_ℤ l (pos 20)) ((eq_ℤ n (pos 2) || eq_ℤ n (pos 4)) && eq_ℤ l (pos (5 * r))) e) [
  | inl p ↦ let q = both (eq_ℤ n (pos 2)) (eq_ℤ l (pos 20)) p in
      of_numbers n l 2 20 (eq_ℤ_true n (pos 2) q.0) (eq_ℤ_true l (pos 20) q.1) (omega arith) (omega arith) (omega arith)
  | inr p ↦ let q = both (eq_ℤ n (pos 2) || eq_ℤ n (pos 4)) (eq_ℤ l (pos (5 * r))) p in
      elim (either (eq_ℤ n (pos 2)) (eq_ℤ n (pos 4)) q.0) [
        | inl t ↦ of_numbers n l 2 (5 * r) (eq_ℤ_true n (pos 2) t) (eq_ℤ_true l (pos (5 * r)) q.1) (omega arith) (omega arith) (omega arith)
        | inr t ↦ of_numbers n l 4 (5 * r) (eq_ℤ_true n (pos 4) t) (eq_ℤ_true l (pos (5 * r)) q.1) (omega arith) (omega arith) (omega arith)
      ]
]

-- noise is drawn from 128 places of the excitation's 320
pub noise_room : (p : Shape) (s : SilkDecoderState) (h : SilkPLCState) → p.rate ≤ 16 → subframes_held p.rate h.nb_subfr h.subfr_length ≡ true → noise_place p s h + 128 ≤ 320
unfolding noise_place place_from
noise_room p s h k e =
    let g = held p.rate h.nb_subfr h.subfr_length k e in
    go (older_smaller (heard p s h 0) (heard p s h 1)) g
  where
    go : (b : Bool) → Held h.nb_subfr h.subfr_length → cond b (nat_abs h.nb_subfr - 1) (nat_abs h.nb_subfr) * nat_abs h.subfr_length - 128 + 128 ≤ 320
    go true g =
        let a : nat_abs h.nb_subfr - 1 ≤ 4 = omega (arith, g.count_high) in
        omega (arith, mul-le-mul a g.length_high)
    go false g = omega (arith, mul-le-mul g.count_high g.length_high)
