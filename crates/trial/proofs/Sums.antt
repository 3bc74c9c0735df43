-- The three counts of a listener add up to the frames sent.
use Prim.Native.Nat.{ℕ, zero, suc, ◌+◌}
use mathlib.Core.Path.{◌≡◌, refl, sym, ap, ◌∙◌}
use mathlib.Core.Bool.{Bool, true, false, cond, not}
use mathlib.Core.List.{List, [], ◌∷◌, map}
use native.Mathlib.Omega.{arith}
use Rattle.std.proofs.lemmas.List.{get_or-map}
use lib.IntN.{ℤ, pos, nat_abs}
use lib.ListN.{get_or}
use Rattle.refusal.proofs.Clear.{answered_is}
use Rattle.listener.specs.declared.Link.{Link}
use Rattle.listener.specs.Link.{good_at}
use Rattle.listener.specs.declared.Counts.{Counts}
use Rattle.listener.specs.Heard.{as_received, as_concealed, as_squelched, losses_at, silent, heard_by, count_to, each}
use Rattle.trial.specs.Calls.{heard_of}
use Rattle.trial.specs.Trial.{trial_refusal, trial_of}
use Rattle.trial.specs.Claims.{AddsUp}
use Rattle.trial.proofs.Counts.{heard_by_link}

one_of_three : (q : ℕ) (good : Bool) (n : ℕ) → cond (heard_by as_received q good n) 1 0 + cond (heard_by as_concealed q good n) 1 0 + cond (heard_by as_squelched q good n) 1 0 ≡ 1
unfolding heard_by
one_of_three q true n = refl
one_of_three q false n = go (silent q n)
  where
    go : (b : Bool) → 0 + cond (not b) 1 0 + cond b 1 0 ≡ 1
    go true = refl
    go false = refl

sum_to : (q : ℕ) (k : Link) (x : ℤ) (n : ℕ) → count_to as_received q k x n + count_to as_concealed q k x n + count_to as_squelched q k x n ≡ n
unfolding count_to
sum_to q k x zero = refl
sum_to q k x (suc n) =
    let a = sum_to q k x n in
    let b = one_of_three q (good_at k x n) (losses_at k x n) in
    omega (arith, a, b)

pub map_cong : (f g : ℤ → Counts) (xs : List ℤ) → ((x : ℤ) → f x ≡ g x) → map f xs ≡ map g xs
map_cong f g [] h = refl
map_cong f g (x ∷ xs) h = λ i. h x i ∷ map_cong f g xs h i

pub adds_up : AddsUp
unfolding trial_of
adds_up khz nb seed q n k seeds counts i e l =
    let x = get_or seeds i (pos 0) in
    let none : Counts = each (λ h. 0) in
    let heard : ℤ → Counts = λ y. each (λ h. heard_of khz nb seed q k n h y) in
    let a = answered_is (trial_refusal khz nb q n) (map heard seeds) counts e in
    let at = ap (λ (cs : List Counts). get_or cs i none) (sym a.1) ∙ get_or-map heard seeds i (pos 0) none l in
    let row = heard_by_link khz nb seed q n k x a.0 in
    ap (λ (c : Counts). c.received + c.concealed + c.squelched) at
    ∙ (λ j. row as_received j + row as_concealed j + row as_squelched j)
    ∙ sum_to (nat_abs q) k x n
