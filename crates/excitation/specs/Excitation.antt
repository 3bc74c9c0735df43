-- Document 01, "Excitation and synthesis": the excitation (Q14).
use Rattle.std.specs.Prelude.{ℕ, zero, suc, Bool, cond, List, [], ◌∷◌, ◌++◌, ℤ, pos, negsuc, neg_ℤ, ◌+ℤ◌, ◌-ℤ◌, ◌*ℤ◌, get_or}
use Rattle.std.specs.Int.Signed.{lt_z}
use Rattle.word.specs.Int.{eq_ℤ, wrap32}
use Rattle.macros.specs.Fixed.{rand}

-- offsets 100, 240 (types 0, 1) and 32, 100 (type 2) are times 16
unfoldable pub offset_q14 : Bool → ℤ → ℤ
offset_q14 voiced offsetType =
    cond voiced (cond (eq_ℤ offsetType (pos 0)) (pos 32) (pos 100)) (cond (eq_ℤ offsetType (pos 0)) (pos 100) (pos 240))
    *ℤ pos 16

-- a pulse p gives 16384p, 1,280 nearer zero
unfoldable pub level : ℤ → ℤ
level p = p *ℤ pos 16384 -ℤ cond (lt_z (pos 0) p) (pos 1280) (cond (lt_z p (pos 0)) (negsuc 1279) (pos 0))

-- a sample: a negative generator value g negates
unfoldable pub excited : ℤ → ℤ → ℤ → ℤ
excited offset g p = cond (lt_z g (pos 0)) (neg_ℤ (level p +ℤ offset)) (level p +ℤ offset)

-- the generator before sample i: after each sample its pulse is added
unfoldable pub generator_at : List ℤ → ℤ → ℕ → ℤ
generator_at pulses seed zero = seed
generator_at pulses seed (suc i) = wrap32 (rand (generator_at pulses seed i) +ℤ get_or pulses i (pos 0))

-- the first n samples
unfoldable pub excitation : ℤ → List ℤ → ℤ → ℕ → List ℤ
excitation offset pulses seed zero = []
excitation offset pulses seed (suc i) =
    excitation offset pulses seed i ++ excited offset (rand (generator_at pulses seed i)) (get_or pulses i (pos 0)) ∷ []
