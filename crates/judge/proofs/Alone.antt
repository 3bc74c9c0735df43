-- A frame to an accepted state that row 3 refuses at no coming shape: 1 and 2 are given for the coming shape alone, and 3 never.
use Prim.Native.Nat.{ℕ, ◌<◌, ◌≤◌}
use mathlib.Core.Path.{◌≡◌, refl, ap}
use mathlib.Core.Bool.{Bool, true, false, not, cond}
use mathlib.Core.Logic.{◌⊎◌, inl, inr}
use mathlib.Core.List.{List, ◌++◌}
use native.Mathlib.Omega.{arith}
use lib.Dec.{lit<}
use lib.IntN.{ℤ}
use Rattle.std.specs.Prelude.{Err}
use Rattle.refusal.specs.First.{Row, first_of}
use Rattle.refusal.specs.Refusals.{Judged, code_of}
use Rattle.refusal.specs.declared.Refusal.TheVariants.{Rate, Size, History}
use Rattle.refusal.proofs.Clear.{passed, append_ok, from, refused-from}
use Rattle.shape.specs.Shape.{is_rate, is_count, rate_of}
use Rattle.decoder.specs.Reshape.{reshaped}
use Rattle.decoder.specs.Rows.{history_row, coming_rows}
use Rattle.decoder.specs.Accepted.{Accepted}
use Rattle.decoder.specs.declared.SilkDecoderState.{SilkDecoderState}
use Rattle.decoder.specs.declared.SilkDecoderControl.{SilkDecoderControl}
use Rattle.decoder.specs.declared.Frame.{Frame}
use Rattle.decoder.specs.declared.Frame.TheVariants.{Received, Lost}
use Rattle.judge.specs.Rows.{frame_rows}

-- nothing is refused, or a row from 4 on
abbrev Later : Judged → Type 0
Later j = (code_of j ≡ 0) ⊎ (4 ≤ code_of j)

not_early : (j : Judged) → Later j → (k : ℕ) → 0 < k → k < 4 → code_of j ≡ k → ⊥
not_early j f k l h e = elim f as (λ t. ⊥) [ inl z ↦ omega arith | inr z ↦ omega arith ]

-- which of a coming rate and count is none, by the judgement's number
abbrev pub ForShape : ℤ → ℤ → ℕ → Type 0
ForShape khz nb n = (n ≡ 1 → is_rate khz ≡ false) × (n ≡ 2 → is_count nb ≡ false) × (n ≡ 3 → ⊥)

past-rows : (b d e : Bool) (j : Judged) → Later j → (b ≡ true → e ≡ false)
    → let n = code_of (cond (not b) (Err Rate) (cond (not d) (Err Size) (cond e (Err History) j))) in (n ≡ 1 → b ≡ false) × (n ≡ 2 → d ≡ false) × (n ≡ 3 → ⊥)
past-rows false d e j f h = (λ z. refl, λ z. absurd (omega (arith, z)), λ z. omega (arith, z))
past-rows true false e j f h = (λ z. absurd (omega (arith, z)), λ z. refl, λ z. omega (arith, z))
past-rows true true e j f h =
    rw (h refl) (
      λ z. absurd (not_early j f 1 (lit< tt) (lit< tt) z),
      λ z. absurd (not_early j f 2 (lit< tt) (lit< tt) z),
      λ z. not_early j f 3 (lit< tt) (lit< tt) z,
    )

module _ (khz nb : ℤ) (s : SilkDecoderState) (a : Accepted (rate_of s.fs_khz) s) where
  past : (rows : List Row) → from 4 rows ≡ true → (is_rate khz ≡ true → history_row (rate_of khz) (reshaped khz nb s) ≡ false)
      → ForShape khz nb (code_of (first_of (coming_rows khz nb s ++ rows)))
  unfolding first_of
  past rows e h =
      rw (a.rate, a.size) (past-rows (is_rate khz) (is_count nb) (history_row (rate_of khz) (reshaped khz nb s)) (first_of rows) (refused-from 4 rows e) h)

  pub frame_refused : (f : Frame) (c : SilkDecoderControl) (lines : List ℤ) (pulses output : ℕ) → (is_rate khz ≡ true → history_row (rate_of khz) (reshaped khz nb s) ≡ false)
      → ForShape khz nb (code_of (first_of (frame_rows khz nb s f c lines pulses output)))
  frame_refused (Received q) c lines pulses output h = past _ refl h
  frame_refused Lost c lines pulses output h = past _ refl h

  -- the rows from 4 on alone decide, where the coming shape is one that row 3 lets pass
  pub past_coming : (rows : List Row) → is_rate khz ≡ true → is_count nb ≡ true → history_row (rate_of khz) (reshaped khz nb s) ≡ false
      → first_of (coming_rows khz nb s ++ rows) ≡ first_of rows
  past_coming rows e f h =
      append_ok (coming_rows khz nb s) rows (passed (coming_rows khz nb s) (a.rate, (ap not e, (a.size, (ap not f, (h, tt))))))
