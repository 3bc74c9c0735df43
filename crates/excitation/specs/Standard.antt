-- Document 01: "RFC 6716, 4.2.7.8.6 gives each sample; the Rust's is 64 times that."
use Rattle.std.specs.Prelude.{ℕ, ◌^◌, Bool, List, map, ℤ, pos, ◌*ℤ◌}
use Rattle.word.specs.Int.{eq_ℤ, mod_ℤ}
use Rattle.excitation.specs.Rfc.{offset_q23, excitation_q23}

-- 64 times the first n samples of RFC 6716 for a voiced signal or another, an offset type, a seed and pulses; RFC 6716's seed has no sign
unfoldable pub standard64 : Bool → ℤ → ℤ → List ℤ → ℕ → List ℤ
standard64 voiced offsetType seed pulses n =
    map (λ x. pos 64 *ℤ x) (excitation_q23 (offset_q23 voiced (eq_ℤ offsetType (pos 1))) pulses (mod_ℤ seed (2 ^ 32)) n)
