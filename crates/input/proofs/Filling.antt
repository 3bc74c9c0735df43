-- A buffer that was filled, and one that the reader's bytes did not fill.
use Rattle.std.proofs.Common.{◌≡◌, ℕ, ◌<◌, List, ◌++◌, Bool, true, false, length, take, sym, ap, ◌∙◌, subst, arith, take_all, append-nil, length-take-le}
use Rattle.std.proofs.lemmas.Bool.{eqb-true, eqb-false}
use Rattle.std.specs.Prelude.{Option, Some, None}
use Rattle.std.specs.Io.KnownBytes.{Consumes}
use Rattle.input.specs.Full.{Fills}

pub filled_whole : (old new : Option (List ℕ)) (v : Bool) (b : List ℕ) → Fills old new v b → v ≡ true → Consumes old new b
filled_whole old new v b f e =
    let k = eqb-true f.0 (length b) (sym f.2 ∙ e) in
    subst (Consumes old new) (take_all f.0 b (omega (arith, k))) f.1.taken

pub cut_before : (xs : List ℕ) (new : Option (List ℕ)) (v : Bool) (b : List ℕ) → Fills (Some xs) new v b → v ≡ false → length xs < length b
cut_before xs None v b f e = absurd f.1.taken
cut_before xs (Some ys) v b f e =
    let k = eqb-false f.0 (length b) (sym f.2 ∙ e) in
    let r = f.1.room in
    let short : f.0 < length b = omega (arith, k, r) in
    let x = f.1.taken ∙ ap (λ (w : List ℕ). take f.0 b ++ w) (f.1.all short) ∙ append-nil (take f.0 b) in
    omega (arith, short, ap length x, length-take-le f.0 b r)
