-- An array whose first places hold a list, and the rest of another.
use Prim.Native.Nat.{ℕ, suc, ◌+◌, ◌<◌, ◌≤◌, ◌^◌}
use mathlib.Core.Path.{◌≡◌, sym, ◌∙◌}
use mathlib.Core.List.{List, ◌∷◌, ◌++◌, map, append-nil}
use native.Mathlib.Numerals.{add-one}
use native.Mathlib.Omega.{arith}
use lib.IntN.{ℤ, pos, ◌*ℤ◌}
use lib.ListN.{length, get_or, set, take, drop, drop_of_length-le, get_or-append}
use lib.Seq.{drop-cons, take-length, take-suc, append_snoc, set_at, length-take-le, get_or-take}
use Rattle.word.specs.Int.{wrap32, sat16}
use Rattle.word.specs.Tabulate.{tabulate}
use Rattle.word.proofs.Lists.{length-tabulate, get_or-tabulate}
use Rattle.word.proofs.Order.{sat16-fits}
use Rattle.word.proofs.Sizes.{abs-mul, abs-fits, fits-abs}
use Rattle.word.proofs.Words.{wrap_id}

-- the loop's end: a list as long as another is filled
pub filled : (f : ℤ → ℤ) (a z : List ℤ) → length z ≡ length a → map f (take (length a) a) ++ drop (length a) z ≡ map f a
filled f a z e = rw (take-length a, drop_of_length-le z {i = length a} (omega (arith, e)), append-nil (map f a))

-- a saturated number in Q17
pub scaled-kept : (z : ℤ) → wrap32 (sat16 z *ℤ pos (2 ^ 5)) ≡ sat16 z *ℤ pos (2 ^ 5)
scaled-kept z =
    wrap_id (abs-fits (sat16 z *ℤ pos (2 ^ 5)) (omega (arith, abs-mul (sat16 z) (pos (2 ^ 5)), fits-abs (sat16 z) (sat16-fits z))))

-- a list p that is filled from its end with a table, down to place 1; place 0 is right already
module _ (f : ℕ → ℤ) (p : List ℤ) where
  abbrev table : List ℤ
  table = tabulate (length p) f

  pub back_start : p ≡ take (length p) p ++ drop (length p) table
  back_start =
      sym (rw (take-length p, drop_of_length-le table {i = length p} (omega (arith, length-tabulate (length p) f)), append-nil p))

  pub back_more : (n j : ℕ) → n ≡ j + 1 → j < length p → set (take n p ++ drop n table) j (f j) ≡ take j p ++ drop j table
  back_more n j e h =
      let d : get_or table j (pos 0) ∷ drop (suc j) table ≡ drop j table = sym (drop-cons table j (pos 0) (rw (length-tabulate (length p) f) h)) in
      rw (e, add-one, take-suc p j (pos 0) h, append_snoc (take j p) (get_or p j (pos 0)) (drop (suc j) table), set_at (take j p) (get_or p j (pos 0)) (drop (suc j) table) (f j) j (length-take-le j p (omega arith)), ← get_or-tabulate (length p) f j h, d)

  pub back_ends : f 0 ≡ get_or p 0 (pos 0) → 0 < length p → take 1 p ++ drop 1 table ≡ table
  back_ends e h =
      rw (take-suc p 0 (pos 0) h, ← e, ← get_or-tabulate (length p) f 0 h) (sym (drop-cons table 0 (pos 0) (rw (length-tabulate (length p) f) h)))

-- a place before the end of what is left
pub front_at : (old r : List ℤ) (i j : ℕ) → i < j → j ≤ length old → get_or (take j old ++ r) i (pos 0) ≡ get_or old i (pos 0)
front_at old r i j h k =
    get_or-append (take j old) r (pos 0) i (rw (length-take-le j old k) h) ∙ get_or-take j old i (pos 0) h
