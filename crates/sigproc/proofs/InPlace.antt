-- The synthesis in place: samples before a place, and the excitation that is left from it on.
use Rattle.std.proofs.Common.{◌≡◌, ℕ, zero, suc, ◌+◌, ◌-◌, ◌<◌, ◌≤◌, List, ◌++◌, length, get_or, take, drop, set, ℤ, pos, sym, refl, ap, ◌∙◌, arith, length-take-le, get_or-drop, drop-cons}
use lib.ListN.{get_or-append}
use lib.Seq.{get_or_at}
use Rattle.word.proofs.Lists.{grow}
use Rattle.sigproc.specs.Synthesis.{ltp_prediction, prediction, synthesised, synthesis}
use Rattle.sigproc.proofs.Filter.{synth_length}

-- a prediction reads only what stands before its place
pub prediction-front : (s r a : List ℤ) (d at j : ℕ) → 0 < at → at ≤ length s → prediction (s ++ r) a d at j ≡ prediction s a d at j
unfolding prediction
prediction-front s r a d at zero h k = refl
prediction-front s r a d at (suc j) h k =
    rw (prediction-front s r a d at j h k, get_or-append s r (pos 0) (at - 1 - j) (omega arith)) refl

pub ltp_front : (s r taps : List ℤ) (p j : ℕ) → p < length s → ltp_prediction (s ++ r) taps p j ≡ ltp_prediction s taps p j
unfolding ltp_prediction
ltp_front s r taps p zero h = refl
ltp_front s r taps p (suc j) h =
    rw (ltp_front s r taps p j h, get_or-append s r (pos 0) (p - j) (omega arith)) refl

-- one more sample
pub synthesis-turn : (buf a : List ℤ) (d i : ℕ) (b : List ℤ) → 16 + i < length buf
    → b ≡ synthesis (take 16 buf) (drop 16 buf) a d i ++ drop (16 + i) buf
    → set b (16 + i) (synthesised (get_or b (16 + i) (pos 0)) (prediction b a d (16 + i) d)) ≡ synthesis (take 16 buf) (drop 16 buf) a d (suc i) ++ drop (suc (16 + i)) buf
unfolding synthesis
synthesis-turn buf a d i b h e =
    let s = synthesis (take 16 buf) (drop 16 buf) a d i in
    let l : length s ≡ 16 + i = rw (synth_length (take 16 buf) (drop 16 buf) a d i, length-take-le 16 buf (omega arith)) refl in
    let u : get_or (s ++ drop (16 + i) buf) (16 + i) (pos 0) ≡ get_or (drop 16 buf) i (pos 0) =
    ap (λ (r : List ℤ). get_or (s ++ r) (16 + i) (pos 0)) (drop-cons buf (16 + i) (pos 0) h)
    ∙ get_or_at s _ _ (pos 0) (16 + i) l ∙ sym (get_or-drop 16 buf i (pos 0)) in
    rw (e, u, prediction-front s (drop (16 + i) buf) a d (16 + i) d (omega arith) (omega arith))
    (grow s buf (16 + i) (synthesised (get_or (drop 16 buf) i (pos 0)) (prediction s a d (16 + i) d)) l h)
