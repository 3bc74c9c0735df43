-- A record that is taken from a reader: its kind, and then the rest.
use Rattle.std.proofs.Common.{◌≡◌, ℕ, ◌+◌, ◌-◌, ◌<◌, ◌≤◌, List, [], ◌∷◌, ◌++◌, Bool, true, false, length, take, replicate, get_or, refl, sym, ap, ◌∙◌, arith, subst, suc, length-append, length-take-le, drop_at}
use Rattle.std.proofs.lemmas.List.{take-append-le}
use borrow.Author.Tests.{lt-ltb, le-ltb}
use Rattle.std.specs.Prelude.{Option, Some, None, Ok, Err}
use Rattle.std.specs.Io.KnownBytes.{Consumes}
use Rattle.input.specs.Full.{Fills}
use Rattle.input.proofs.Filling.{filled_whole, cut_before}
use Rattle.stream.specs.declared.Unread.TheVariants.{Cut, Kind}
use Rattle.stream.specs.Records.{front, record_in, Taken}

-- a list of one
alone : (b : List ℕ) → length b ≡ 1 → b ≡ get_or b 0 0 ∷ []
alone [] l = absurd (omega (arith, l))
alone (x ∷ []) l = refl
alone (x ∷ y ∷ b) l = absurd (omega (arith, l))

-- a record's first byte, as it was read
module _ (i n : ℕ) (first : List ℕ) (l : length first ≡ 1) where
  abbrev kind : ℕ
  kind = get_or first 0 0

  -- no byte is left
  pub none_left : (old new : Option (List ℕ)) (v : Bool) → Fills old new v first → v ≡ false → Taken old new i n (Err (Cut i))
  unfolding record_in
  none_left None new v f e = tt
  none_left (Some []) new v f e = (refl, tt)
  none_left (Some (x ∷ xs)) new v f e = absurd (omega (arith, cut_before (x ∷ xs) new v first f e, l))

  begun : (old mid : Option (List ℕ)) (v : Bool) → Fills old mid v first → v ≡ true → Consumes old mid (kind ∷ [])
  begun old mid v f e = subst (Consumes old mid) (alone first l) (filled_whole old mid v first f e)

  -- it is the kind of no record
  unknown_of : (old mid : Option (List ℕ)) → Consumes old mid (kind ∷ []) → 1 < kind → Taken old mid i n (Err (Kind i kind))
  unfolding record_in
  unknown_of None mid t h = tt
  unknown_of (Some xs) None t h = absurd t
  unknown_of (Some xs) (Some ys) t h = rw (t, lt-ltb 1 kind h) (refl, tt)

  pub unknown : (old mid : Option (List ℕ)) (v : Bool) → Fills old mid v first → v ≡ true → 1 < kind → Taken old mid i n (Err (Kind i kind))
  unknown old mid v f e = unknown_of old mid (begun old mid v f e)

  -- it is the kind of one, whose other bytes are read to b
  module _ (b : List ℕ) (m : suc (length b) ≡ front kind n + n) (h : kind ≤ 1) where
    cut_of : (old mid new : Option (List ℕ)) (v : Bool) → Consumes old mid (kind ∷ []) → Fills mid new v b → v ≡ false → Taken old new i n (Err (Cut i))
    unfolding record_in
    cut_of None mid new v t f e = tt
    cut_of (Some xs) None new v t f e = absurd t
    cut_of (Some xs) (Some ys) new v t f e =
        let s = cut_before ys new v b f e in
        rw (t, le-ltb 1 kind h, lt-ltb (length (kind ∷ ys)) (front kind n + n) (omega (arith, s, m))) (refl, tt)

    -- they are not all there
    pub cut_within : (old mid new : Option (List ℕ)) (u v : Bool) → Fills old mid u first → u ≡ true → Fills mid new v b → v ≡ false → Taken old new i n (Err (Cut i))
    cut_within old mid new u v f e = cut_of old mid new v (begun old mid u f e)

    taken_of : (old mid new : Option (List ℕ)) → Consumes old mid (kind ∷ []) → Consumes mid new b → Taken old new i n (Ok (take (front kind n) (kind ∷ b) ++ replicate (817 - front kind n) 0))
    unfolding record_in
    taken_of None mid new t u = tt
    taken_of (Some xs) None new t u = absurd t
    taken_of (Some xs) (Some ys) None t u = absurd u
    taken_of (Some xs) (Some ys) (Some zs) t u =
        let all : xs ≡ kind ∷ b ++ zs = t ∙ ap (λ (w : List ℕ). kind ∷ w) u in
        let long : front kind n + n ≤ length (kind ∷ b ++ zs) = omega (arith, length-append b zs, m) in
        rw (all, le-ltb 1 kind h, le-ltb (length (kind ∷ b ++ zs)) (front kind n + n) long, take-append-le (front kind n) (kind ∷ b) zs (omega (arith, m)))
        (refl, ap Some (sym (drop_at (kind ∷ b) zs (front kind n + n) (omega (arith, m)))))

    -- they are: the record's are those before its last n
    pub record_taken : (old mid new : Option (List ℕ)) (u v : Bool) → Fills old mid u first → u ≡ true → Fills mid new v b → v ≡ true
        → (size : ℕ) (rest r : List ℕ) → front kind n ≡ suc size → r ≡ kind ∷ rest ++ replicate (816 - length rest) 0 → rest ≡ take size b → Taken old new i n (Ok r)
    record_taken old mid new u v f e g k size rest r s p q =
        let z : length rest ≡ size = ap length q ∙ length-take-le size b (omega (arith, m, s)) in
        let x : r ≡ take (front kind n) (kind ∷ b) ++ replicate (817 - front kind n) 0 = p ∙ rw (z, s, q) (ap (λ m. kind ∷ take size b ++ replicate m 0) (omega arith)) in
        subst (λ w. Taken old new i n (Ok w)) (sym x) (taken_of old mid new (begun old mid u f e) (filled_whole mid new v b g k))
