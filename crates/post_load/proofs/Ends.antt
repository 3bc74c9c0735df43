-- A call's ends.
use Prim.Native.Nat.{ℕ, ◌≤◌}
use mathlib.Core.Path.{◌≡◌, refl, sym, ◌∙◌}
use mathlib.Core.Bool.{true, false, false≢true}
use mathlib.Core.List.{List}
use borrow.Author.Tests.{ltb-false}
use lib.Dec.{ltb}
use lib.IntN.{ℤ, pos, negsuc}
use lib.ListN.{length}
use Rattle.std.specs.Prelude.{Ok, Err, is_ok}
use Rattle.refusal.specs.Refusals.{Judged, code_of, if_accepted}
use Rattle.load.specs.Load.{before, load_refusal}
use Rattle.post_load.specs.Calls.{called, short_load, framed, coefficiented, pulsed, load_frame_call}
use Rattle.word.proofs.Rows.{neither}

pub long : (f k p : ℕ) → short_load f k p ≡ false → (16 ≤ f) × (68 ≤ k) × (320 ≤ p)
unfolding short_load
long f k p e =
    let a = neither _ (ltb p 320) e in
    let b = neither (ltb f 16) (ltb k 68) a.0 in
    (ltb-false f 16 b.0, ltb-false k 68 b.1, ltb-false p 320 a.1)

module _ (khz nb seed : ℤ) (n : ℕ) (frame coefs pulses : List ℤ) where
  pub too_short : short_load (length frame) (length coefs) (length pulses) ≡ true
      → called (negsuc 0) frame coefs pulses ≡ load_frame_call khz nb seed n frame coefs pulses
  unfolding load_frame_call
  too_short e = rw e refl

  -- the answer and the slices, judged and played or left
  module _ (s : short_load (length frame) (length coefs) (length pulses) ≡ false) (j : Judged) (e : j ≡ load_refusal khz nb n) where
    judged : called (pos (code_of j)) (if_accepted j (framed khz nb (before seed n) frame) frame) (if_accepted j (coefficiented khz (before seed n) coefs) coefs)
        (if_accepted j (pulsed (before seed n) pulses) pulses)
        ≡ load_frame_call khz nb seed n frame coefs pulses
    unfolding load_frame_call
    judged = rw (s, e) refl

    pub refused : is_ok j ≡ false → called (pos (code_of j)) frame coefs pulses ≡ load_frame_call khz nb seed n frame coefs pulses
    refused h = left j h ∙ judged
      where
        left : (i : Judged) → is_ok i ≡ false
            → called (pos (code_of j)) frame coefs pulses
            ≡ called (pos (code_of j)) (if_accepted i (framed khz nb (before seed n) frame) frame) (if_accepted i (coefficiented khz (before seed n) coefs) coefs)
            (if_accepted i (pulsed (before seed n) pulses) pulses)
        left (Ok u) z = absurd (false≢true (sym z))
        left (Err r) z = refl

    pub accepted : is_ok j ≡ true
        → let x = before seed n in called (pos (code_of j)) (framed khz nb x frame) (coefficiented khz x coefs) (pulsed x pulses) ≡ load_frame_call khz nb seed n frame coefs pulses
    accepted h = taken j h ∙ judged
      where
        taken : (i : Judged) → is_ok i ≡ true
            → called (pos (code_of j)) (framed khz nb (before seed n) frame) (coefficiented khz (before seed n) coefs) (pulsed (before seed n) pulses)
            ≡ called (pos (code_of j)) (if_accepted i (framed khz nb (before seed n) frame) frame) (if_accepted i (coefficiented khz (before seed n) coefs) coefs)
            (if_accepted i (pulsed (before seed n) pulses) pulses)
        taken (Ok u) z = refl
        taken (Err r) z = absurd (false≢true z)
