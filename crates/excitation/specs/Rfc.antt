-- RFC 6716, 4.2.7.8.6: the excitation as the standard gives it (Q23). Standard.antt alone uses this file.
use Rattle.std.specs.Prelude.{ℕ, zero, suc, ◌+◌, ◌*◌, ◌%◌, ◌^◌, Bool, true, false, cond, List, [], ◌∷◌, ◌++◌, leb, ℤ, pos, negsuc, neg_ℤ, ◌+ℤ◌, ◌-ℤ◌, ◌*ℤ◌, get_or}
use Rattle.std.specs.Int.Signed.{lt_z}
use Rattle.word.specs.Int.{mod_ℤ}

-- the quantization offset for a signal that is voiced or not, and an offset type that is high or not
unfoldable pub offset_q23 : Bool → Bool → ℤ
offset_q23 false false = pos 25
offset_q23 false true = pos 60
offset_q23 true false = pos 8
offset_q23 true true = pos 25

-- 1 for a positive number, -1 for a negative one, 0 for 0
unfoldable pub sign : ℤ → ℤ
sign x = cond (lt_z (pos 0) x) (pos 1) (cond (lt_z x (pos 0)) (negsuc 0) (pos 0))

-- the generator, a number of 32 bits without sign
unfoldable pub next_seed : ℕ → ℕ
next_seed seed = (196314165 * seed + 907633515) % 2 ^ 32

-- a sample: 256 times the raw value, 20 nearer zero, and the offset; negated if the generator's top bit is set
unfoldable pub reconstructed : ℤ → ℕ → ℤ → ℤ
reconstructed offset seed raw =
    let e = raw *ℤ pos (2 ^ 8) -ℤ sign raw *ℤ pos 20 +ℤ offset in
    cond (leb (2 ^ 31) seed) (neg_ℤ e) e

-- the generator before sample i: after each sample its raw value is added
unfoldable pub seed_at : List ℤ → ℕ → ℕ → ℕ
seed_at raw seed zero = seed
seed_at raw seed (suc i) = mod_ℤ (pos (next_seed (seed_at raw seed i)) +ℤ get_or raw i (pos 0)) (2 ^ 32)

-- the first n samples
unfoldable pub excitation_q23 : ℤ → List ℤ → ℕ → ℕ → List ℤ
excitation_q23 offset raw seed zero = []
excitation_q23 offset raw seed (suc i) =
    excitation_q23 offset raw seed i ++ reconstructed offset (next_seed (seed_at raw seed i)) (get_or raw i (pos 0)) ∷ []
