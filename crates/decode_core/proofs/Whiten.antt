-- The end of the long-term state filled anew: rewhitened, or adjusted to a gain.
use Prim.Native.Nat.{ℕ, zero, suc, ◌+◌, ◌-◌, ◌<◌, ◌≤◌}
use mathlib.Core.Bool.{Bool, true, false, cond}
use mathlib.Core.Path.{◌≡◌, sym, ap, ◌∙◌}
use mathlib.Core.List.{List, ◌++◌, map, append_assoc, append-nil}
use native.Mathlib.Omega.{arith}
use borrow.Rule.Slice.PartMut.{put_mid}
use lib.IntN.{ℤ, pos, nat_abs}
use lib.ListN.{length, get_or, take, drop, length-append, length-take, length-drop, take-append-drop, drop_of_length-le}
use lib.Seq.{get_or-take, get_or-drop, drop-drop, take_at, drop_at, take-take, length-take-le, ext_get_or}
use mir.Syntax.{w32}
use mir.Val.{SFits}
use Rattle.word.specs.Tabulate.{tabulate}
use Rattle.word.proofs.Lists.{length-tabulate, get_or-tabulate}
use Rattle.word.proofs.Fits.{AllFit, append-fits, one-fits, take-fits, drop-fits, tabulate-fits}
use Rattle.macros.specs.Fixed.{smulww, smulwb}
use Rattle.sigproc.specs.Analysis.{residual}
use Rattle.std.proofs.lemmas.List.{length-map, get_or-map}
use Rattle.word.proofs.Words.{wrap-fits}
use Rattle.decoder.specs.declared.SilkDecoderControl.{SilkDecoderControl}
use Rattle.decode_core.specs.declared.Setting.{Setting}
use Rattle.decode_core.specs.Core.{refilled, ltp_past, inverse_gain_q31, rewhitens, past_at}
use Rattle.decoder.specs.Typed.{Words}
use Rattle.decode_core.proofs.Pasts.{unadjusted, length-ltp_past}

-- a part put back
pub mid_is : (a k : ℕ) (xs ys : List ℤ) → put_mid a k xs ys ≡ take a xs ++ ys ++ drop (a + k) xs
mid_is a k xs ys =
    sym (append_assoc (take a xs) ys _) ∙ ap (λ (r : List ℤ). take a xs ++ ys ++ r) (drop-drop k a xs)

-- the list up to the end of a part that was put back, and from there on
pub part-front : (a n : ℕ) (xs ys : List ℤ) → length ys ≡ n → a + n ≤ length xs → take (a + n) (put_mid a (a + n - a) xs ys) ≡ take a xs ++ ys
part-front a n xs ys e h =
    let l : length (take a xs ++ ys) ≡ a + n = length-append (take a xs) ys ∙ omega (arith, length-take-le a xs (omega arith)) in
    ap (take (a + n)) (mid_is a (a + n - a) xs ys) ∙ take_at (take a xs ++ ys) _ (a + n) l

pub part-back : (a n : ℕ) (xs ys : List ℤ) → length ys ≡ n → a + n ≤ length xs → drop (a + n) (put_mid a (a + n - a) xs ys) ≡ drop (a + n) xs
part-back a n xs ys e h =
    let l : length (take a xs ++ ys) ≡ a + n = length-append (take a xs) ys ∙ omega (arith, length-take-le a xs (omega arith)) in
    let k : a + (a + n - a) ≡ a + n = omega arith in
    ap (drop (a + n)) (mid_is a (a + n - a) xs ys) ∙ drop_at (take a xs ++ ys) _ (a + n) l ∙ ap (λ (i : ℕ). drop i xs) k

-- a part that runs to the end
pub part_end : (a : ℕ) (xs ys : List ℤ) → a ≤ length xs → put_mid a (length xs - a) xs ys ≡ take a xs ++ ys
part_end a xs ys h =
    mid_is a (length xs - a) xs ys ∙ (rw (drop_of_length-le xs {i = a + (length xs - a)} (omega arith)) (append-nil (take a xs ++ ys)))

-- a part of a list replaced by a table of its places
pub refill-part : (past : List ℤ) (m from idx : ℕ) (f : ℕ → ℤ) (ys : List ℤ) → from + m ≡ idx → idx ≤ length past → ys ≡ tabulate m (λ t. f (from + t))
    → put_mid from (idx - from) past ys ≡ refilled (take idx past) m f ++ drop idx past
unfolding refilled
refill-part past m from idx f ys e h y =
    let l : length (take idx past) ≡ idx = length-take-le idx past h in
    let a : idx - m ≡ from = omega arith in
    let b : from + (idx - from) ≡ idx = omega arith in
    mid_is from (idx - from) past ys ∙ (rw (l, a, b, y, take-take from idx past (omega arith)))

-- a part's elements in the whole
part_at : (x : List ℤ) (s n i : ℕ) → i < n → get_or (take n (drop s x)) i (pos 0) ≡ get_or x (s + i) (pos 0)
part_at x s n i h = get_or-take n (drop s x) i (pos 0) h ∙ get_or-drop s x i (pos 0)

pub adjusted : (past : List ℤ) (m from idx : ℕ) (adj : ℤ) → from + m ≡ idx → idx ≤ length past
    → put_mid from (idx - from) past (map (smulww adj) (take (idx - from) (drop from past)))
    ≡ refilled (take idx past) m (λ i. smulww adj (get_or (take idx past) i (pos 0))) ++ drop idx past
adjusted past m from idx adj f hp =
    let xs = take (idx - from) (drop from past) in
    let g : ℕ → ℤ = λ i. smulww adj (get_or (take idx past) i (pos 0)) in
    let l : length (map (smulww adj) xs) ≡ m = length-map xs (smulww adj) ∙ (simp (length-take, length-drop) (omega arith)) in
    refill-part past m from idx g _ f hp
    (ext_get_or (pos 0) (map (smulww adj) xs) (tabulate m (λ t. g (from + t))) (l ∙ sym (length-tabulate m (λ t. g (from + t))))
    (λ t ht.
    let k : t < m = rw l at ht in
    get_or-map (smulww adj) xs t (pos 0) (pos 0) (rw (length-map xs (smulww adj)) at ht)
    ∙ ap (smulww adj) (part_at past from (idx - from) t (omega arith) ∙ sym (get_or-take idx past (from + t) (pos 0) (omega arith)))
    ∙ sym (get_or-tabulate m (λ t. g (from + t)) t k)))

-- by one it stays as it was
pub unadjusted-part : (past : List ℤ) (m from idx : ℕ) → AllFit w32 past → from + m ≡ idx → idx ≤ length past
    → past ≡ refilled (take idx past) m (λ i. smulww (pos 65536) (get_or (take idx past) i (pos 0))) ++ drop idx past
unadjusted-part past m from idx h f hp =
    let xs = take (idx - from) (drop from past) in
    let same : put_mid from (idx - from) past xs ≡ past = ap (λ (r : List ℤ). take from past ++ r) (take-append-drop (idx - from) (drop from past)) ∙ take-append-drop from past in
    sym same ∙ ap (put_mid from (idx - from) past) (sym (unadjusted xs (take-fits (idx - from) (drop from past) (drop-fits from past h))))
    ∙ adjusted past m from idx (pos 65536) f hp

-- ---- lengths and ranges
length-refilled : (past : List ℤ) (m : ℕ) (f : ℕ → ℤ) → m ≤ length past → length (refilled past m f) ≡ length past
unfolding refilled
length-refilled past m f h =
    let g : ℕ → ℤ = λ t. f (length past - m + t) in
    length-append (take (length past - m) past) (tabulate m g) ∙ omega (arith, length-take-le (length past - m) past (omega arith), length-tabulate m g)

refilled-fits : (past : List ℤ) (m : ℕ) (f : ℕ → ℤ) → AllFit w32 past → ((i : ℕ) → SFits w32 (f i)) → AllFit w32 (refilled past m f)
unfolding refilled
refilled-fits past m f h k =
    append-fits (take (length past - m) past) (tabulate m (λ t. f (length past - m + t))) (take-fits (length past - m) past h) (tabulate-fits m (λ t. f (length past - m + t)) (λ i l. k (length past - m + i)))

-- the places in use of a long-term state
pub in_view : {past : List ℤ} (q : List ℤ) (idx : ℕ) → take idx q ≡ past → Words w32 640 q → idx ≤ 640 → length past ≡ idx
in_view q idx e v h = ap length (sym e) ∙ length-take-le idx q (omega (arith, v.count))

-- and of one that is filled anew
module _ (q : List ℤ) (idx m : ℕ) (f : ℕ → ℤ) (v : Words w32 640 q) (h : idx ≤ 640) (k : m ≤ idx) where
  length_front : length (refilled (take idx q) m f) ≡ idx
  length_front =
      let l : length (take idx q) ≡ idx = length-take-le idx q (omega (arith, v.count)) in
      length-refilled (take idx q) m f (omega arith) ∙ l

  pub refilled-view : take idx (refilled (take idx q) m f ++ drop idx q) ≡ refilled (take idx q) m f
  refilled-view = take_at (refilled (take idx q) m f) (drop idx q) idx length_front

  pub refilled-words : ((i : ℕ) → SFits w32 (f i)) → Words w32 640 (refilled (take idx q) m f ++ drop idx q)
  refilled-words g =
      record {
        count = length-append (refilled (take idx q) m f) (drop idx q) ∙ omega (arith, length_front, length-drop idx q, v.count);
        fits = append-fits (refilled (take idx q) m f) (drop idx q) (refilled-fits (take idx q) m f (take-fits idx q v.fits) g) (drop-fits idx q v.fits);
      }

module _ (f : Setting) (c : SilkDecoderControl) (k : ℕ) (row : List ℤ) (adj : ℤ) (buffer past : List ℤ) where
  pub length-past_at : nat_abs (get_or c.pitch_l k (pos 0)) + 2 ≤ length past → length (past_at f c k row adj buffer past) ≡ length past
  unfolding past_at
  length-past_at h = go (rewhitens f k)
    where
      m : ℕ
      m = nat_abs (get_or c.pitch_l k (pos 0)) + 2

      go : (b : Bool) → length (cond b (refilled past m (λ i. smulwb (inverse_gain_q31 c k) (residual buffer row f.lpc_order i))) (refilled past m (λ i. smulww adj (get_or past i (pos 0))))) ≡ length past
      go true = length-refilled past m (λ i. smulwb (inverse_gain_q31 c k) (residual buffer row f.lpc_order i)) h
      go false = length-refilled past m (λ i. smulww adj (get_or past i (pos 0))) h

pub ltp_past-fits : (past taps : List ℤ) (lag : ℕ) (e : List ℤ) (n : ℕ) → AllFit w32 past → AllFit w32 (ltp_past past taps lag e n)
unfolding ltp_past
ltp_past-fits past taps lag e zero h = h
ltp_past-fits past taps lag e (suc n) h =
    append-fits (ltp_past past taps lag e n) _ (ltp_past-fits past taps lag e n h) (one-fits _ (wrap-fits w32 _))

-- the places in use of a long-term state after a synthesis
module _ (q taps : List ℤ) (lag idx : ℕ) (e : List ℤ) (v : Words w32 640 q) (h : idx + length e ≤ 640) where
  X : List ℤ
  X = ltp_past (take idx q) taps lag e (length e)

  length-X : length X ≡ idx + length e
  unfolding X
  length-X =
      length-ltp_past (take idx q) taps e idx lag (length e) ∙ ap (λ (i : ℕ). i + length e) (length-take-le idx q (omega (arith, v.count)))

  pub synthesised-words : Words w32 640 (ltp_past (take idx q) taps lag e (length e) ++ drop (idx + length e) q)
  unfolding X
  synthesised-words =
      record {
        count = length-append X (drop (idx + length e) q) ∙ omega (arith, length-X, length-drop (idx + length e) q, v.count);
        fits = append-fits X (drop (idx + length e) q) (ltp_past-fits (take idx q) taps lag e (length e) (take-fits idx q v.fits)) (drop-fits (idx + length e) q v.fits);
      }
