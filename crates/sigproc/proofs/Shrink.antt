-- Bandwidth expansion: which places it changes, and how much smaller the coefficients get with the chirp of a lost frame.
use Rattle.std.proofs.Common.{◌≡◌, ℕ, zero, suc, ◌+◌, ◌-◌, ◌*◌, ◌/◌, ◌<◌, ◌≤◌, Bool, true, false, ltb, List, ◌++◌, length, get_or, take, drop, set, ℤ, pos, negsuc, ◌+ℤ◌, ◌*ℤ◌, nat_abs, refl, ◌∙◌, subst, le_refl, mul-le-mul_right, arith, length-set, get_or-set_other, length-take-le, take-append-drop, w16, w32, SFits, ltb-false, ltb-true}
use Rattle.std.proofs.lemmas.List.{get_or-take, set-append_left}
use Rattle.word.specs.Int.{floor_div}
use Rattle.word.specs.Size.{size_at, sizes}
use Rattle.word.proofs.Parts.{P, N, add_parts, mul-parts, div_parts}
use Rattle.word.proofs.Words.{wrap_id}
use Rattle.word.proofs.Sizes.{abs-parts, abs-mul, abs-wrap, abs-fits, abs_round, fits-abs}
use Rattle.word.proofs.Lists.{set_le}
use Rattle.macros.specs.Fixed.{round_shift}
use Rattle.sigproc.specs.Expand.{factor, shrunk, bwexpander}

-- ---- any chirp
pub length-bwexpander : (chirp : ℤ) (a : List ℤ) (d : ℕ) → length (bwexpander chirp a d) ≡ length a
unfolding bwexpander
length-bwexpander chirp a zero = refl
length-bwexpander chirp a (suc d) = length-set (bwexpander chirp a d) d _ ∙ length-bwexpander chirp a d

-- places from d on are as they were
pub expand_past : (chirp : ℤ) (a : List ℤ) (d i : ℕ) → d ≤ i → get_or (bwexpander chirp a d) i (pos 0) ≡ get_or a i (pos 0)
unfolding bwexpander
expand_past chirp a zero i h = refl
expand_past chirp a (suc d) i h =
    get_or-set_other (bwexpander chirp a d) d i (shrunk (factor chirp d) (get_or a d (pos 0))) (pos 0) (λ e. omega arith)
    ∙ expand_past chirp a d i (omega arith)

-- the front alone
pub expand_front : (chirp : ℤ) (a : List ℤ) (d j : ℕ) → j ≤ d → d ≤ length a → bwexpander chirp (take d a) j ++ drop d a ≡ bwexpander chirp a j
unfolding bwexpander
expand_front chirp a d zero h k = take-append-drop d a
expand_front chirp a d (suc j) h k =
    let b = bwexpander chirp (take d a) j in
    let n : length b ≡ d = length-bwexpander chirp (take d a) j ∙ length-take-le d a k in
    let v = shrunk (factor chirp j) (get_or a j (pos 0)) in
    rw (get_or-take d a j (pos 0) h, ← set-append_left b (drop d a) j v (omega arith), expand_front chirp a d j (omega arith) k) refl

-- ---- the chirp of a lost frame
-- from 0 to B
abbrev pub Upto : ℕ → ℤ → Type 0
Upto B z = (N z ≤ 0) × (P z ≤ B)

pub upto : (z : ℤ) (B : ℕ) → N z ≤ P z → P z ≤ N z + B → Upto B z
upto (pos n) B h k = (omega arith, omega arith)
upto (negsuc n) B h k = absurd (omega arith)

pub upto-abs : (z : ℤ) (B : ℕ) → Upto B z → nat_abs z ≤ B
upto-abs z B h = omega (arith, abs-parts z)

rounded : (z : ℤ) → Upto 64881 z → Upto 64881 (round_shift (z *ℤ pos 64881) 16)
unfolding round_shift
rounded z h =
    let y = z *ℤ pos 64881 in
    let m = mul-parts z (pos 64881) in
    let a = add_parts y (pos 32768) in
    let d = div_parts (y +ℤ pos 32768) 65536 (omega arith) in
    upto (floor_div (y +ℤ pos 32768) 65536) 64881 (omega arith) (omega arith)

kept-exact : (z : ℤ) → Upto 64881 z → SFits w32 z
kept-exact z h = abs-fits z (omega (arith, upto-abs z 64881 h))

pub factor-upto : (j : ℕ) → Upto 64881 (factor (pos 64881) j)
unfolding factor
factor-upto zero = (omega arith, omega arith)
factor-upto (suc j) =
    let r = rounded (factor (pos 64881) j) (factor-upto j) in
    rw (wrap_id (kept-exact _ r)) r

-- no factor wraps
pub factor-exact : (j : ℕ) → factor (pos 64881) (suc j) ≡ round_shift (factor (pos 64881) j *ℤ pos 64881) 16
unfolding factor
factor-exact j = wrap_id (kept-exact _ (rounded (factor (pos 64881) j) (factor-upto j)))

product_le : (j : ℕ) (x : ℤ) → nat_abs (factor (pos 64881) j *ℤ x) ≤ 64881 * nat_abs x
product_le j x =
    let f = factor (pos 64881) j in
    rw (abs-mul f x) (mul-le-mul_right (nat_abs x) (upto-abs f 64881 (factor-upto j)))

round_le : (j : ℕ) (x : ℤ) → 65536 * nat_abs (round_shift (factor (pos 64881) j *ℤ x) 16) ≤ 64881 * nat_abs x + 32768
unfolding round_shift
round_le j x =
    let y = factor (pos 64881) j *ℤ x in
    omega (arith, product_le j x, abs_round y 32768 65536 (omega arith) (omega arith))

-- and no coefficient does
pub shrunk-exact : (j : ℕ) (x : ℤ) → SFits w16 x → shrunk (factor (pos 64881) j) x ≡ round_shift (factor (pos 64881) j *ℤ x) 16
unfolding shrunk
shrunk-exact j x h = wrap_id (abs-fits _ (omega (arith, round_le j x, fits-abs x h)))

pub shrunk_le : (j : ℕ) (x : ℤ) → 65536 * nat_abs (shrunk (factor (pos 64881) j) x) ≤ 64881 * nat_abs x + 32768
unfolding shrunk
shrunk_le j x = omega (arith, round_le j x, abs-wrap w16 (round_shift (factor (pos 64881) j *ℤ x) 16))

pub expand_le : (a : List ℤ) (d i : ℕ) → i < d → 65536 * size_at (bwexpander (pos 64881) a d) i ≤ 64881 * size_at a i + 32768
unfolding bwexpander
expand_le a zero i h = absurd (omega arith)
expand_le a (suc d) i h = go (λ k. expand_le a d i k) (ltb i d) refl
  where
    b : List ℤ
    b = bwexpander (pos 64881) a d

    x : ℤ
    x = shrunk (factor (pos 64881) d) (get_or a d (pos 0))

    go : (i < d → 65536 * size_at b i ≤ 64881 * size_at a i + 32768) → (t : Bool) → ltb i d ≡ t → 65536 * size_at (set b d x) i ≤ 64881 * size_at a i + 32768
    go ih true t = let k = ltb-true i d t in rw (get_or-set_other b d i x (pos 0) (λ e. omega (arith, e, k))) (ih k)
    go ih false t =
        let k = ltb-false i d t in
        let e : d ≡ i = omega arith in
        subst (λ (m : ℕ). 65536 * size_at (set b d x) m ≤ 64881 * size_at a m + 32768) e
        (omega (arith, set_le b d x (nat_abs x) (le_refl (nat_abs x)), shrunk_le d (get_or a d (pos 0))))

-- ---- the sum of the sizes
sums : (a b : List ℤ) (j : ℕ) → ((i : ℕ) → i < j → 65536 * size_at b i ≤ 64881 * size_at a i + 32768) → 65536 * sizes b j ≤ 64881 * sizes a j + 32768 * j
unfolding sizes
sums a b zero h = omega arith
sums a b (suc j) h = omega (arith, sums a b j (λ i hi. h i (omega arith)), h j (omega arith))

-- the bound on the sum of up to 16 sizes after a loss, and after c losses
abbrev pub sigma : ℕ → ℕ
sigma x = (64881 * x + 524288) / 65536

unfoldable pub sigmas : ℕ → ℕ → ℕ
sigmas zero x = x
sigmas (suc c) x = sigma (sigmas c x)

pub shrunk-sum : (a : List ℤ) (d x : ℕ) → d ≤ 16 → sizes a d ≤ x → sizes (bwexpander (pos 64881) a d) d ≤ sigma x
shrunk-sum a d x hd h = omega (arith, sums a (bwexpander (pos 64881) a d) d (expand_le a d))

pub sigma-small : (x : ℕ) → x ≤ 2048 → sigma x ≤ 2048
sigma-small x h = omega arith

-- a sum that has come down to 2,048 stays there
stay : (c x : ℕ) → sigmas c x ≤ 2048 → (m : ℕ) → c ≤ m → sigmas m x ≤ 2048
unfolding sigmas
stay c x h m k =
    let e : m - c + c ≡ m = omega arith in
    subst (λ (n : ℕ). sigmas n x ≤ 2048) e (more (m - c))
  where
    more : (n : ℕ) → sigmas (n + c) x ≤ 2048
    more zero = let e : zero + c ≡ c = omega arith in rw e h
    more (suc n) =
        let e : suc n + c ≡ suc (n + c) = omega arith in
        rw e (sigma-small (sigmas (n + c) x) (more n))

-- from 16 coefficients of any size it does after 598 losses, from a sum of 4,096 after 95
sigmas_598 : sigmas 598 524288 ≡ 2040
unfolding sigmas
sigmas_598 = refl

sigmas_95 : sigmas 95 4096 ≤ 2048
unfolding sigmas
sigmas_95 = omega arith

pub sum-small : (c : ℕ) → 598 ≤ c → sigmas c 524288 ≤ 2048
sum-small c h = stay 598 524288 (omega (arith, sigmas_598)) c h

pub sum_small_sooner : (c : ℕ) → 95 ≤ c → sigmas c 4096 ≤ 2048
sum_small_sooner c h = stay 95 4096 sigmas_95 c h
