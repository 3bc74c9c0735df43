-- Lists of words: how many, and each number fits, whatever is taken, dropped, stored or joined.
use Prim.Native.Nat.{ℕ, ◌+◌, ◌-◌, ◌≤◌}
use mathlib.Core.Path.{◌∙◌}
use mathlib.Core.List.{List, ◌++◌}
use native.Mathlib.Omega.{arith}
use lib.IntN.{ℤ, pos}
use lib.ListN.{length, take, drop, set, replicate, length-append, length-drop, length-set, length-replicate}
use lib.Seq.{length-take-le}
use mir.Syntax.{Width}
use mir.Val.{SFits}
use Rattle.word.proofs.Fits.{zero_fits, append-fits, take-fits, drop-fits, set-fits, replicate-fits}
use Rattle.decoder.specs.Typed.{Words}

module _ {w : Width} where
  pub append-words : {m n : ℕ} (xs ys : List ℤ) → Words w m xs → Words w n ys → Words w (m + n) (xs ++ ys)
  append-words xs ys h k =
      record {
        count = let a = h.count in let b = k.count in length-append xs ys ∙ omega arith;
        fits = append-fits xs ys h.fits k.fits;
      }

  pub take_words : {n : ℕ} (m : ℕ) (xs : List ℤ) → m ≤ n → Words w n xs → Words w m (take m xs)
  take_words m xs l h =
      record { count = let a = h.count in length-take-le m xs (omega arith); fits = take-fits m xs h.fits }

  pub drop-words : {n : ℕ} (m : ℕ) (xs : List ℤ) → Words w n xs → Words w (n - m) (drop m xs)
  drop-words m xs h =
      record { count = let a = h.count in length-drop m xs ∙ omega arith; fits = drop-fits m xs h.fits }

  pub set_words : {n : ℕ} (xs : List ℤ) (k : ℕ) {v : ℤ} → Words w n xs → SFits w v → Words w n (set xs k v)
  set_words xs k {v} h g =
      record { count = length-set xs k v ∙ h.count; fits = set-fits xs k h.fits g }

  pub replicate-words : (n : ℕ) {v : ℤ} → SFits w v → Words w n (replicate n v)
  replicate-words n {v} h = record { count = length-replicate n v; fits = replicate-fits n h }

  pub zeros-words : (n : ℕ) → Words w n (replicate n (pos 0))
  zeros-words n = replicate-words n (zero_fits w)
