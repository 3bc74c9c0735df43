-- A header that is taken from a reader: the first 16 bytes, or all of fewer.
use Rattle.std.proofs.Common.{◌≡◌, ℕ, ◌<◌, ◌≤◌, List, ◌++◌, Bool, true, false, length, take, drop, refl, sym, ap, ◌∙◌, arith, length-take-le, take_all, append-nil, drop_at}
use lib.ListN.{drop_of_length-le}
use lib.Seq.{take_at}
use lib.Dec.{ltb}
use borrow.Author.Tests.{lt-ltb, ltb-true, ltb-false}
use Rattle.std.specs.Prelude.{Option, Some, None}
use Rattle.input.specs.Full.{Filled}
use Rattle.stream.specs.Header.{opened_of, Opened}

-- what there is of a header that is cut
cut : (b h : List ℕ) (n m : ℕ) → n < 16 → m < 16 → opened_of b n ≡ opened_of h m
unfolding opened_of
cut b h n m k l = rw (lt-ltb n 16 k, lt-ltb m 16 l) refl

pub opened : (old new : Option (List ℕ)) (n : ℕ) (b : List ℕ) → length b ≡ 16 → Filled old new n b → Opened old new (opened_of b n)
opened None new n b l f = tt
opened (Some xs) None n b l f = absurd f.taken
opened (Some xs) (Some ys) n b l f = go (ltb n 16) refl
  where
    go : (t : Bool) → ltb n 16 ≡ t → Opened (Some xs) (Some ys) (opened_of b n)
    go true e =
        let s : n < 16 = ltb-true n 16 e in
        let x : xs ≡ take n b = f.taken ∙ ap (λ (w : List ℕ). take n b ++ w) (f.all (omega (arith, s, l))) ∙ append-nil (take n b) in
        let z : length xs ≡ n = ap length x ∙ length-take-le n b f.room in
        let a : take 16 xs ≡ xs = take_all 16 xs (omega (arith, z, s)) in
        let m : length (take 16 xs) ≡ n = ap length a ∙ z in (
          cut b (take 16 xs) n (length (take 16 xs)) s (omega (arith, m, s)),
          ap Some (f.all (omega (arith, s, l)) ∙ sym (drop_of_length-le xs {i = 16} (omega (arith, z, s)))),
        )
    go false e =
        let s : 16 ≤ n = ltb-false n 16 e in
        let r = f.room in
        let x : xs ≡ b ++ ys = f.taken ∙ ap (λ (w : List ℕ). w ++ ys) (take_all n b (omega (arith, l, s))) in
        let t : take 16 xs ≡ b = ap (take 16) x ∙ take_at b ys 16 l in
        let k : n ≡ 16 = omega (arith, r, l, s) in
        let m : n ≡ length (take 16 xs) = k ∙ sym l ∙ ap length (sym t) in
        ((λ i. opened_of (sym t i) (m i)), ap Some (sym (ap (drop 16) x ∙ drop_at b ys 16 l)))
