use mathlib.Core.Path.{◌≡◌, refl, ◌∙◌}
use mathlib.Core.Bool.{Bool, true, false}
use native.Mathlib.Omega.{arith}
use borrow.Author.Tests.{leb-true, le-leb}
use lib.Dec.{leb}
use lib.IntN.{ℤ, pos, negsuc}
use mir.Syntax.{w8}
use mir.Val.{SFits}
use mir.Facts.{to_z-of_z}
use Rattle.std.specs.Prelude.{Result, Ok, Err, OkIff}
use Rattle.std.specs.Result.{result_unwrap_or}
use Rattle.word.proofs.Words.{kept}
use Rattle.std.proofs.lemmas.Bool.{and_parts}
use Rattle.decoder.specs.Ranges.{within}
use Rattle.layout.specs.Frame.{small}
use Rattle.layout.proofs.frame.small.Goals as goal

-- what lies in -128 to 127 is a number of 8 bits, and the other way round
eight : (z : ℤ) → within (negsuc 127) (pos 127) z ≡ true → SFits w8 z
unfolding within
eight (pos n) e = record { sfits = omega (arith, leb-true n 127 e) }
eight (negsuc n) e = record { sfits = omega (arith, leb-true n 127 (and_parts (leb n 127) true e).0) }

inside : (z : ℤ) → SFits w8 z → within (negsuc 127) (pos 127) z ≡ true
unfolding within
inside (pos n) f = le-leb n 127 (omega (arith, f.sfits))
inside (negsuc n) f = rw (le-leb n 127 (omega (arith, f.sfits))) refl

outside : (z : ℤ) → (SFits w8 z → ⊥) → within (negsuc 127) (pos 127) z ≡ false
outside z h = go (within (negsuc 127) (pos 127) z) refl
  where
    go : (b : Bool) → within (negsuc 127) (pos 127) z ≡ b → within (negsuc 127) (pos 127) z ≡ false
    go true e = absurd (h (eight z e))
    go false e = e

taken : {E : Type 0} (r : Result ℤ E) (z : ℤ) → OkIff r (SFits w8 z) z → result_unwrap_or r (negsuc 0) ≡ small z
unfolding small
taken (Ok x) z h = rw (inside z h.0) h.1
taken (Err e) z h = rw (outside z h) refl

pub returns : goal.returns
returns c =
    let z = c.args.z in
    let t = rw (to_z-of_z c.ranges.z) at c.try_from.ensures in
    kept w8 _ c.unwrap_or.type_inv ∙ c.unwrap_or.ensures ∙ taken c.try_from.result z t
