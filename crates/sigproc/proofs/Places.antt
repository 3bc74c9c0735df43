-- Lists stored into a place of another, and the history of played samples.
use Rattle.std.proofs.Common.{◌≡◌, ℕ, zero, suc, ◌+◌, ◌-◌, ◌≤◌, List, [], ◌∷◌, ◌++◌, length, take, drop, ℤ, sym, refl, ap, ◌∙◌, append-nil, zero-add, arith, length-append, length-drop, drop_of_length-le, length-take, length-take-le, take-take, take_at, take-add, drop_at}
use lib.Seq.{take-nil, take-append-le}
use Rattle.sigproc.specs.Place.{put_at, rotate_left, update_out_buf}

-- a part of the front
pub part-take : (xs : List ℤ) (m a n : ℕ) → a + n ≤ m → take n (drop a (take m xs)) ≡ take n (drop a xs)
part-take [] m a n h = ap (λ (ys : List ℤ). take n (drop a ys)) (take-nil m)
part-take (x ∷ xs) zero a n h = let e : n ≡ 0 = omega arith in rw e refl
part-take (x ∷ xs) (suc m) zero n h = take-take n (suc m) (x ∷ xs) (omega arith)
part-take (x ∷ xs) (suc m) (suc a) n h = part-take xs m a n (omega arith)

pub length-put_at : (d : List ℤ) (at : ℕ) (s : List ℤ) → at + length s ≤ length d → length (put_at d at s) ≡ length d
unfolding put_at
length-put_at d at s h = simp (length-append, length-take, length-drop) (omega arith)

-- a list stored over one of its own length
pub put_whole : (d s : List ℤ) → length d ≡ length s → put_at d 0 s ≡ s
unfolding put_at
put_whole d s e = rw (zero-add (length s), drop_of_length-le d {i = length s} (omega arith)) (append-nil s)

pub length-rotate_left : (n : ℕ) (xs : List ℤ) → length (rotate_left n xs) ≡ length xs
unfolding rotate_left
length-rotate_left n xs = simp (length-append, length-take, length-drop) (omega arith)

pub length-update_out_buf : (ob : List ℤ) (mem : ℕ) (xq : List ℤ) → length xq ≤ mem → mem ≤ length ob → length (update_out_buf ob mem xq) ≡ length ob
unfolding update_out_buf
length-update_out_buf ob mem xq h k =
    length-put_at (rotate_left (length xq) ob) (mem - length xq) xq (omega (arith, length-rotate_left (length xq) ob))
    ∙ length-rotate_left (length xq) ob

-- the new history: the old one without its oldest samples, and the frame
pub history_update : (ob : List ℤ) (mem : ℕ) (xq : List ℤ) → length xq ≤ mem → mem ≤ length ob → take mem (update_out_buf ob mem xq) ≡ drop (length xq) (take mem ob) ++ xq
unfolding update_out_buf rotate_left put_at
history_update ob mem xq h k =
    let n = length xq in
    let m = mem - n in
    let e : n + m ≡ mem = omega arith in
    let old : drop n (take mem ob) ≡ take m (drop n ob) =
    ap (λ (i : ℕ). drop n (take i ob)) (sym e) ∙ ap (drop n) (take-add n m ob) ∙ drop_at (take n ob) (take m (drop n ob)) n (length-take-le n ob (omega arith)) in
    let fits : m ≤ length (drop n ob) = simp length-drop (omega arith) in
    let l : length (take m (drop n ob) ++ xq) ≡ mem = simp (length-append, length-take) (omega arith) in
    rw (take-append-le m (drop n ob) (take n ob) fits, old) (take_at (take m (drop n ob) ++ xq) _ mem l)
