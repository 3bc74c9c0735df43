-- Where negative taps come to rest.
use Prim.Native.Nat.{ℕ, zero, suc, ◌+◌, ◌*◌, ◌/◌, ◌<◌, ◌≤◌}
use mathlib.Core.Path.{◌≡◌, refl, ap, ◌∙◌, subst}
use mathlib.Core.List.{List, map}
use native.Mathlib.Omega.{arith}
use lib.ListN.{get_or, get_or-map}
use lib.IntN.{ℤ, pos, negsuc, neg_ℤ, nat_abs, ◌*ℤ◌}
use mir.Syntax.{w16}
use mir.Val.{SFits}
use Rattle.word.specs.Int.{wrap}
use Rattle.word.proofs.Words.{wrap_id}
use Rattle.macros.specs.Fixed.{smulbb}
use Rattle.shape.specs.Shape.{Shape, subfr_length}
use Rattle.plc.specs.Conceal.{Voice, harm_gain, lag_of, faded, faded_voice, voices, voice_by, voice, held_after}
use Rattle.quiet.specs.Taps.{TapsRest}
use Rattle.plc.proofs.Excite.{times_taps}
use Rattle.plc.proofs.Fading.{faded_zero}
use Rattle.quiet.proofs.Voice.{times}

-- a subframe makes −(n + 1) by 31,130 (Q15) to −(sunk n + 1)
abbrev sunk : ℕ → ℕ
sunk n = (31130 * n + 31129) / 32768

fade : (n : ℕ) → n < 32768 → faded (pos 31130) (negsuc n) ≡ negsuc (sunk n)
unfolding faded smulbb
fade n h =
    let e : 31130 * suc n ≡ suc (31130 * n + 31129) = omega arith in
    let product : pos 31130 *ℤ negsuc n ≡ negsuc (31130 * n + 31129) = ap (λ (k : ℕ). neg_ℤ (pos k)) e in
    let a : SFits w16 (pos 31130) = record { sfits = omega arith } in
    let b : SFits w16 (negsuc n) = record { sfits = omega arith } in
    let c : SFits w16 (negsuc (sunk n)) = record { sfits = omega arith } in
    rw (wrap_id a, wrap_id b, product) (wrap_id c)

-- k subframes
sunk-times : (k n : ℕ) → times sunk k n ≤ n
unfolding times
sunk-times zero n = omega arith
sunk-times (suc k) n = omega (arith, sunk-times k n)

rests : (k n : ℕ) → n < 20 → times sunk k n ≡ n
unfolding times
rests zero n h = refl
rests (suc k) n h = omega (arith, rests k n h)

stops : (k n : ℕ) → 20 ≤ n → 19 ≤ times sunk k n
unfolding times
stops zero n h = omega arith
stops (suc k) n h = omega (arith, stops k n h)

nears : (k n : ℕ) → 0 < k → 20 ≤ n → times sunk k n < n
unfolding times
nears zero n l h = absurd (omega arith)
nears (suc k) n l h = omega (arith, stops k n h, sunk-times k n)

-- the middle tap after k subframes
faded_tap : (taps : List ℤ) → get_or (map (faded (pos 31130)) taps) 2 (pos 0) ≡ faded (pos 31130) (get_or taps 2 (pos 0))
faded_tap taps =
    subst (λ (d : ℤ). get_or (map (faded (pos 31130)) taps) 2 d ≡ faded (pos 31130) (get_or taps 2 (pos 0))) (faded_zero (pos 31130))
    (get_or-map (faded (pos 31130)) taps 2 (pos 0))

tap_after_lem : (p : Shape) (exc : List ℤ) (from : ℕ) (noise : ℤ) (k : ℕ) (v : Voice) (n : ℕ) → n < 32768 → get_or v.taps 2 (pos 0) ≡ negsuc n
    → get_or (voices p exc from (pos 31130) noise k v).taps 2 (pos 0) ≡ negsuc (times sunk k n)
unfolding voices faded_voice times
tap_after_lem p exc from noise zero v n h e = e
tap_after_lem p exc from noise (suc k) v n h e =
    let w = voices p exc from (pos 31130) noise k v in
    rw (times_taps exc from (nat_abs (lag_of w.pitch)) (subfr_length p) w)
    (faded_tap w.taps ∙ ap (faded (pos 31130)) (tap_after_lem p exc from noise k v n h e) ∙ fade (times sunk k n) (omega (arith, sunk-times k n)))

pub taps_rest : TapsRest
unfolding harm_gain voice voice_by held_after
taps_rest p s h zero later m l b e = absurd (omega arith)
taps_rest p s h (suc n) later m l b e =
    let t : get_or (voice p s h).taps 2 (pos 0) ≡ negsuc (times sunk p.subframes n) = rw later (tap_after_lem p _ _ _ p.subframes _ n b e) in
    let k = p.subframes in
    (λ i. t ∙ ap negsuc (rests k n i), λ i. let g : 20 ≤ n = omega arith in (suc (times sunk k n), t, omega (arith, stops k n g), omega (arith, nears k n m g)))
