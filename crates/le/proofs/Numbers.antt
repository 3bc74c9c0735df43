-- A number and its bytes, over the count of bytes: each way back.
use Prim.Native.Nat.{ℕ, zero, suc, ◌+◌, ◌*◌, ◌/◌, ◌%◌, ◌^◌, ◌<◌}
use mathlib.Core.Path.{◌≡◌, refl, sym, ap, ◌∙◌, subst}
use mathlib.Core.List.{List, [], ◌∷◌}
use native.Mathlib.Omega.{arith}
use native.Mathlib.Nat.{mod-eq_of_lt}
use lib.IntN.{ℤ, pos, ◌+ℤ◌, ◌*ℤ◌, +ℤ_assoc, pos-+ℤ-pos, pos-*ℤ-pos}
use lib.ListN.{length}
use lib.Pow.{pow_pos}
use mir.Syntax.{Width, w8, w16, w32, w64, w128}
use mir.Val.{bits, hbits, to_z, of_z, SFits}
use mir.ValLaws.{of_z_fits}
use lib.Signed.{mag}
use Rattle.word.specs.Int.{floor_div, mod_ℤ, wrap}
use Rattle.word.proofs.Mod.{mod_ℤ_lt, add_multiple, div-mod}
use Rattle.word.proofs.Ring.{*ℤ_assoc, *ℤ_add_r}
use Rattle.word.proofs.Words.{kept, low_bits, mod-wrap, wrap_cong, wrap_id}
use Rattle.le.specs.Bytes.{Bytes, bytes_of, bytes_in, number_of, unsigned_at, signed_at}

-- a number by its lowest byte and what is above it, modulo 256 * K
mod-split : (z : ℤ) (K : ℕ) → 0 < K → mod_ℤ z (256 * K) ≡ mod_ℤ z 256 + 256 * mod_ℤ (floor_div z 256) K
mod-split z K h =
    let low : mod_ℤ z 256 < 256 = mod_ℤ_lt z 256 (omega arith) in
    let high : mod_ℤ (floor_div z 256) K < K = mod_ℤ_lt (floor_div z 256) K h in
    let top : mod_ℤ z 256 + 256 * mod_ℤ (floor_div z 256) K < 256 * K = omega (arith, low, high) in
    ap (λ (y : ℤ). mod_ℤ y (256 * K)) whole ∙ add_multiple (pos (mod_ℤ z 256 + 256 * mod_ℤ (floor_div z 256) K)) (floor_div (floor_div z 256) K) (256 * K) (omega (arith, h))
    ∙ mod-eq_of_lt top
  where
    low_part : pos (mod_ℤ z 256) +ℤ pos (mod_ℤ (floor_div z 256) K) *ℤ pos 256 ≡ pos (mod_ℤ z 256 + 256 * mod_ℤ (floor_div z 256) K)
    low_part =
        ap (λ (y : ℤ). pos (mod_ℤ z 256) +ℤ y) (pos-*ℤ-pos (mod_ℤ (floor_div z 256) K) 256)
        ∙ pos-+ℤ-pos (mod_ℤ z 256) (mod_ℤ (floor_div z 256) K * 256) ∙ ap pos (omega arith)

    high_part : floor_div (floor_div z 256) K *ℤ pos K *ℤ pos 256 ≡ floor_div (floor_div z 256) K *ℤ pos (256 * K)
    high_part =
        *ℤ_assoc (floor_div (floor_div z 256) K) (pos K) (pos 256)
        ∙ ap (λ (y : ℤ). floor_div (floor_div z 256) K *ℤ y) (pos-*ℤ-pos K 256 ∙ ap pos (omega arith))

    whole : z ≡ pos (mod_ℤ z 256 + 256 * mod_ℤ (floor_div z 256) K) +ℤ floor_div (floor_div z 256) K *ℤ pos (256 * K)
    whole =
        div-mod z 256 (omega arith) ∙ ap (λ (y : ℤ). pos (mod_ℤ z 256) +ℤ y *ℤ pos 256) (div-mod (floor_div z 256) K h)
        ∙ ap (λ (y : ℤ). pos (mod_ℤ z 256) +ℤ y) (*ℤ_add_r (pos (mod_ℤ (floor_div z 256) K)) (floor_div (floor_div z 256) K *ℤ pos K) (pos 256))
        ∙ sym (+ℤ_assoc (pos (mod_ℤ z 256)) (pos (mod_ℤ (floor_div z 256) K) *ℤ pos 256) (floor_div (floor_div z 256) K *ℤ pos K *ℤ pos 256))
        ∙ (λ i. low_part i +ℤ high_part i)

-- the lowest n bytes of a number are its remainder by 256 ^ n
pub number_of-bytes : (n : ℕ) (z : ℤ) → number_of (bytes_of n z) ≡ mod_ℤ z (256 ^ n)
unfolding number_of
number_of-bytes zero z = let h = mod_ℤ_lt z 1 (omega arith) in omega arith
number_of-bytes (suc n) z =
    let e : 256 * 256 ^ n ≡ 256 ^ suc n = omega arith in
    ap (λ (k : ℕ). mod_ℤ z 256 + 256 * k) (number_of-bytes n (floor_div z 256)) ∙ sym (mod-split z (256 ^ n) (positive n)) ∙ ap (mod_ℤ z) e
  where
    positive : (n : ℕ) → 0 < 256 ^ n
    positive zero = omega arith
    positive (suc n) = let h = positive n in omega arith

pub bytes_are : (n : ℕ) (z : ℤ) → Bytes (bytes_of n z)
bytes_are zero z i = omega arith
bytes_are (suc n) z zero = mod_ℤ_lt z 256 (omega arith)
bytes_are (suc n) z (suc i) = bytes_are n (floor_div z 256) i

pub length-bytes_of : (n : ℕ) (z : ℤ) → length (bytes_of n z) ≡ n
length-bytes_of zero z = refl
length-bytes_of (suc n) z = ap suc (length-bytes_of n (floor_div z 256))

-- the bytes of the number that bytes are
pub bytes_of-number : (b : List ℕ) → Bytes b → bytes_of (length b) (pos (number_of b)) ≡ b
unfolding number_of
bytes_of-number [] h = refl
bytes_of-number (x ∷ xs) h =
    let r : (x + 256 * number_of xs) % 256 ≡ x = omega (arith, h 0) in
    let q : (x + 256 * number_of xs) / 256 ≡ number_of xs = omega (arith, h 0) in
    rw (r, q) (ap (λ (b : List ℕ). x ∷ b) (bytes_of-number xs (λ i. h (suc i))))

-- equal remainders have equal bytes
pub bytes_cong : (n : ℕ) (y z : ℤ) → mod_ℤ y (256 ^ n) ≡ mod_ℤ z (256 ^ n) → bytes_of n y ≡ bytes_of n z
bytes_cong n y z e =
    sym (again y) ∙ ap (λ (k : ℕ). bytes_of n (pos k)) (number_of-bytes n y ∙ e ∙ sym (number_of-bytes n z)) ∙ again z
  where
    again : (z : ℤ) → bytes_of n (pos (number_of (bytes_of n z))) ≡ bytes_of n z
    again z = subst (λ (k : ℕ). bytes_of k (pos (number_of (bytes_of n z))) ≡ bytes_of n z) (length-bytes_of n z) (bytes_of-number (bytes_of n z) (bytes_are n z))

-- a word has the numbers of its bytes
word_bytes : (w : Width) → 256 ^ bytes_in w ≡ 2 ^ bits w
word_bytes w8 = refl
word_bytes w16 = refl
word_bytes w32 = refl
word_bytes w64 = refl
word_bytes w128 = refl

-- the bytes of the signed number that a word's bytes are
pub bytes_of-wrap : (w : Width) (b : List ℕ) → Bytes b → length b ≡ bytes_in w → bytes_of (bytes_in w) (wrap w (pos (number_of b))) ≡ b
bytes_of-wrap w b h e =
    bytes_cong (bytes_in w) (wrap w (pos (number_of b))) (pos (number_of b)) (subst (λ (m : ℕ). mod_ℤ (wrap w (pos (number_of b))) m ≡ mod_ℤ (pos (number_of b)) m) (sym (word_bytes w)) (mod-wrap w (pos (number_of b))))
    ∙ subst (λ (k : ℕ). bytes_of k (pos (number_of b)) ≡ b) e (bytes_of-number b h)

-- the signed number that its own bytes are
pub wrap_of_bytes : (w : Width) (z : ℤ) → SFits w z → wrap w (pos (number_of (bytes_of (bytes_in w) z))) ≡ z
wrap_of_bytes w z h =
    ap (λ (k : ℕ). wrap w (pos k)) (number_of-bytes (bytes_in w) z ∙ ap (mod_ℤ z) (word_bytes w))
    ∙ wrap_cong w (pos (mod_ℤ z (2 ^ bits w))) z (mod-eq_of_lt (mod_ℤ_lt z (2 ^ bits w) (pow_pos (bits w))))
    ∙ wrap_id h

-- the word that a number of its bytes is
pub signed_from : (w : Width) (b : List ℕ) (at u : ℕ) → unsigned_at (bytes_in w) b at ≡ u → u < 2 ^ bits w → to_z w u ≡ signed_at w b at
unfolding signed_at wrap
signed_from w b at u e h = ap (to_z w) (sym (mod-eq_of_lt h)) ∙ ap (λ (n : ℕ). to_z w (n % 2 ^ bits w)) (sym e)

-- the four bytes of a number, each by one division
pub four_low : (n : ℕ) → n % 256 ∷ n / 256 % 256 ∷ n / 65536 % 256 ∷ n / 16777216 % 256 ∷ [] ≡ bytes_of 4 (pos n)
four_low n =
    let two : n / 65536 ≡ n / 256 / 256 = omega arith in
    let three : n / 16777216 ≡ n / 256 / 256 / 256 = omega arith in
    λ i. n % 256 ∷ n / 256 % 256 ∷ two i % 256 ∷ three i % 256 ∷ []

-- the byte that a signed number's bits are
pub bits_byte : (z : ℤ) → SFits w8 z → of_z w8 z ≡ mod_ℤ z 256
bits_byte z h = sym (mod-eq_of_lt (of_z_fits w8 z h).fits) ∙ low_bits w8 0 8 z refl h

-- the same of what a call gave
pub byte_got : (z : ℤ) {r : ℕ} → mag z < 2 ^ hbits w8 → r ≡ of_z w8 (to_z w8 (of_z w8 z)) → r ≡ mod_ℤ z 256
byte_got z h e = e ∙ ap (of_z w8) (kept w8 z h) ∙ bits_byte z (record { sfits = h })
