-- Which lines the filter from lines takes: those that rise, and all others that are not negative.
use Prim.Native.Nat.{ℕ, zero, suc, ◌≤◌, ◌<◌}
use mathlib.Core.Path.{◌≡◌, refl, ap}
use mathlib.Core.Bool.{Bool, true, false, cond, not}
use mathlib.Core.Logic.{◌⊎◌, inl, inr}
use mathlib.Core.List.{List}
use native.Mathlib.Omega.{arith}
use borrow.Author.Tests.{le-ltb}
use lib.IntN.{ℤ, pos, negsuc}
use lib.ListN.{get_or, length}
use lib.Signed.{lt_z, ◌≤ℤ◌}
use Rattle.word.proofs.Parts.{add_parts, le_parts, parts_le}
use Rattle.word.proofs.Rows.{both}
use Rattle.edition.specs.Edition.{older, newer, is_edition}
use Rattle.std.specs.Prelude.{Result, Ok, Err}
use Rattle.refusal.specs.First.{first_of}
use Rattle.refusal.specs.Refusals.{Judged, code_of}
use Rattle.refusal.specs.declared.Refusal.{Refusal}
use Rattle.refusal.specs.declared.Refusal.TheVariants.{Place, Order, Edition}
use Rattle.nlsf.specs.Lines.{negative_line}
use Rattle.nlsf.specs.Filter.{order_refused, nlsf2a_refusal}
use Rattle.nlsf.proofs.Lines.{nonneg_lines}
use Rattle.announcement.specs.Rising.{below, apart_to, rising, rising_refused, rising_of}
use Rattle.announcement.specs.Claims.{RisingAccepted, AnyOrder}
use Rattle.announcement.proofs.Rises.{apart-at}

not_negative : (z : ℤ) → pos 0 ≤ℤ z → lt_z z (pos 0) ≡ false
not_negative (pos n) h = le-ltb n 0 (omega arith)
not_negative (negsuc n) h = absurd h.le

none_negative : (lines : List ℤ) (d : ℕ) → ((k : ℕ) → k < d → pos 0 ≤ℤ get_or lines k (pos 0)) → negative_line lines d ≡ false
none_negative lines d h = nonneg_lines lines d (λ k l. not_negative (get_or lines k (pos 0)) (h k l))

-- each line lies above the one before it, and the first above 0
rising-natural : (lines : List ℤ) (d : ℕ) → apart_to lines d ≡ true → (k : ℕ) → k < d → pos 0 ≤ℤ get_or lines k (pos 0)
unfolding below
rising-natural lines d e zero h = le_parts (pos 0) (get_or lines 0 (pos 0)) (omega (arith, parts_le (apart-at lines d e 0 h)))
rising-natural lines d e (suc k) h =
    let x = get_or lines k (pos 0) in
    le_parts (pos 0) (get_or lines (suc k) (pos 0))
    (omega (arith, parts_le (apart-at lines d e (suc k) h), parts_le (rising-natural lines d e k (omega arith)), add_parts x (pos 3)))

-- rows 13 and 22 have other numbers
other : (a b : Bool) → code_of (cond {A = Judged} a (Err Order) (cond b (Err Edition) (Ok tt))) ≡ 9 → ⊥
other true b k = absurd (omega arith)
other false true k = absurd (omega arith)
other false false k = absurd (omega arith)

pub never_nine : (n : ℕ) (lines : List ℤ) (d : ℕ) (e : ℤ) → rising lines d ≡ true → code_of (nlsf2a_refusal n lines d e) ≡ 9 → ⊥
unfolding nlsf2a_refusal first_of rising
never_nine n lines d e y =
    rw (none_negative lines d (rising-natural lines d (both (apart_to lines d) _ y).0)) (other (order_refused n (length lines) d) (not (is_edition e)))

-- a refused check answers no
yes_rises : (lines : List ℤ) (d : ℕ) → rising_of lines d ≡ Ok true → rising lines d ≡ true
unfolding rising_of
yes_rises lines d = go (rising_refused (length lines) d)
  where
    go : (b : Bool) → ◌≡◌ {A = Result Bool Refusal} (cond b (Err Place) (Ok (rising lines d))) (Ok true) → rising lines d ≡ true
    go true e = cc
    go false e = cc

pub rising_accepted : RisingAccepted
rising_accepted n lines d e y k = never_nine n lines d e (yes_rises lines d y) (ap code_of k)

order_taken : (n m d : ℕ) → (d ≡ 10) ⊎ (d ≡ 16) → d ≤ n → d ≤ m → order_refused n m d ≡ false
order_taken n m d (inl p) h k = rw (p, le-ltb n 10 (omega arith), le-ltb m 10 (omega arith)) refl
order_taken n m d (inr p) h k = rw (p, le-ltb n 16 (omega arith), le-ltb m 16 (omega arith)) refl

known : (e : ℤ) → (e ≡ older) ⊎ (e ≡ newer) → is_edition e ≡ true
unfolding is_edition
known e (inl p) = rw p refl
known e (inr p) = rw p refl

pub any_order : AnyOrder
unfolding nlsf2a_refusal first_of
any_order n lines d e o h k l v =
    rw (order_taken n (length lines) d o h k, none_negative lines d l, known e v) refl
