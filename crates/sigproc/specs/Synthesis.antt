-- Long-term prediction, short-term synthesis and the played sample, which core, concealment and noise share
-- (decode_core.rs, plc.rs, cng.rs).
use Rattle.std.specs.Prelude.{ℕ, zero, suc, ◌+◌, ◌-◌, ◌/◌, ◌^◌, List, [], ◌∷◌, ◌++◌, ℤ, pos, ◌+ℤ◌, slice_index_or}
use Rattle.word.specs.Int.{floor_div, sat16, sat32}
use Rattle.macros.specs.Fixed.{smulww, smlawb, lshift_sat32, rshift_round}

-- 2, and the first j taps times the values at p and the places below it
unfoldable pub ltp_prediction : List ℤ → List ℤ → ℕ → ℕ → ℤ
ltp_prediction past taps p zero = pos 2
ltp_prediction past taps p (suc j) =
    smlawb (ltp_prediction past taps p j) (slice_index_or past (p - j) (pos 0)) (slice_index_or taps j (pos 0))

-- half the order d, and the first j coefficients times the samples before place `at`, newest first
unfoldable pub prediction : List ℤ → List ℤ → ℕ → ℕ → ℕ → ℤ
prediction s a d at zero = pos (d / 2)
prediction s a d at (suc j) =
    smlawb (prediction s a d at j) (slice_index_or s (at - 1 - j) (pos 0)) (slice_index_or a j (pos 0))

-- the excitation and 16 times the prediction: the shift is limited after it, and the sum saturates
unfoldable pub synthesised : ℤ → ℤ → ℤ
synthesised u p = sat32 (u +ℤ lshift_sat32 p (pos 4))

-- a memory of 16 samples (Q14), and the first n samples that an excitation u makes after it
unfoldable pub synthesis : List ℤ → List ℤ → List ℤ → ℕ → ℕ → List ℤ
synthesis mem u a d zero = mem
synthesis mem u a d (suc i) =
    let s = synthesis mem u a d i in
    s ++ synthesised (slice_index_or u i (pos 0)) (prediction s a d (16 + i) d) ∷ []

-- a sample (Q14) as it is played by a gain (Q10), and by a gain (Q16)
unfoldable pub played_q10 : ℤ → ℤ → ℤ
played_q10 gain s = sat16 (rshift_round (smulww s gain) (pos 8))

unfoldable pub played : ℤ → ℤ → ℤ
played gain s = played_q10 (floor_div gain (2 ^ 6)) s
