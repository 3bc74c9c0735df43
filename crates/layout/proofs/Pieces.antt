-- Lists stored one after the other.
use Prim.Native.Nat.{ℕ, ◌+◌, ◌≤◌, ◌<◌}
use mathlib.Core.Path.{◌≡◌, ap, ◌∙◌}
use mathlib.Core.List.{List, ◌++◌, append_assoc}
use native.Mathlib.Omega.{arith}
use native.Mathlib.Nat.{zero-add}
use lib.ListN.{length, take, drop, length-append, get_or-append}
use lib.Seq.{take-append_seam, drop_at, drop-append-add, drop-drop, get_or-take, length-take-le}
use lib.IntN.{ℤ, pos}
use Rattle.sigproc.specs.Place.{put_at}
use Rattle.layout.specs.Layout.{part, one}

-- a list stored from place `at` to m: what is read before it, there, and behind it
module _ (d s : List ℤ) (at m : ℕ) (e : at + length s ≡ m) (h : m ≤ length d) where
  head : length (take at d) ≡ at
  head = length-take-le at d (omega arith)

  pub put-before : (i : ℕ) → i < at → one (put_at d at s) i ≡ one d i
  unfolding put_at
  put-before i l = rw append_assoc (get_or-append (take at d) _ (pos 0) i (omega (arith, head)) ∙ get_or-take at d i (pos 0) l)

  pub put_there : part (put_at d at s) at (length s) ≡ s
  unfolding put_at
  put_there =
      rw (append_assoc, drop_at (take at d) (s ++ drop (at + length s) d) at head) (take-append_seam s (drop (at + length s) d))

  pub put-behind : (i : ℕ) → drop (m + i) (put_at d at s) ≡ drop (m + i) d
  unfolding put_at
  put-behind i =
      let l : length (take at d ++ s) ≡ m = length-append (take at d) s ∙ omega (arith, head) in
      let p : drop (length (take at d ++ s) + i) ((take at d ++ s) ++ drop m d) ≡ drop i (drop m d) = drop-append-add (take at d ++ s) (drop m d) i in
      rw (e, ← drop-drop i m d) (rw l at p)

-- what stands in v: w, with x from its first place on, which is k numbers
pub record Filled (w x : List ℤ) (k : ℕ) (v : List ℤ) : Type 0 where
  pub stored : v ≡ put_at w 0 x
  pub count : length x ≡ k

pub begun : {w v : List ℤ} (x : List ℤ) (k : ℕ) → length x ≡ k → v ≡ put_at w 0 x → Filled w x k v
begun x k l e = record { stored = e; count = l }

-- a list stored behind one that was stored
put_next : (w x y : List ℤ) → put_at (put_at w 0 x) (length x) y ≡ put_at w 0 (x ++ y)
unfolding put_at
put_next w x y =
    let d : List ℤ = drop (length x) w in
    rw (zero-add, take-append_seam x d, drop-append-add x d (length y), drop-drop (length y) (length x) w, length-append x y, zero-add)

pub next : {w x v v' : List ℤ} {k : ℕ} (y : List ℤ) (n m : ℕ) → Filled w x k v → length y ≡ n → k + n ≡ m → v' ≡ put_at v k y → Filled w (x ++ y) m v'
next {w} {x} {v} {v'} {k} y n m f l e p =
    record {
      stored = p ∙ ap (λ (u : List ℤ). put_at u k y) f.stored ∙ rw (← f.count) (put_next w x y);
      count = length-append x y ∙ rw (f.count, l) e;
    }
