-- Bounds of a subframe's places.
use Prim.Native.Nat.{ℕ, ◌*◌, ◌<◌, ◌≤◌}
use mathlib.Core.Path.{◌≡◌, refl}
use mathlib.Core.Bool.{Bool, true, false, ◌&&◌, ◌||◌}
use native.Mathlib.Omega.{arith}
use native.Mathlib.Nat.{mul-le-mul}
use borrow.Author.Tests.{eqb-true}
use lib.Dec.{eqb}
use Rattle.decoder.specs.declared.SilkDecoderControl.{SilkDecoderControl}
use Rattle.decode_core.specs.Core.{rewhitens}
use Rattle.decode_core.specs.Ready.{Ready}
use Rattle.decode_core.specs.declared.Setting.{Setting}

-- rewhitening runs in subframes 0 and 2 alone
whitening : (f : Setting) (k : ℕ) → k < 4 → rewhitens f k ≡ true → k ≤ 2
whitening f k h e = go (eqb k 0) (eqb k 2) refl refl e
  where
    go : (a b : Bool) → eqb k 0 ≡ a → eqb k 2 ≡ b → (a || (b && f.interpolated)) ≡ true → k ≤ 2
    go true b p q e = omega (arith, eqb-true k 0 p)
    go false true p q e = omega (arith, eqb-true k 2 q)
    go false false p q e = let z : ◌≡◌ {A = ℕ} 0 1 = cc in absurd (omega arith)

module _ {f : Setting} {c : SilkDecoderControl} {k idx : ℕ} (r : Ready f c k idx) where
  -- the places in use
  pub in_use : idx ≤ 560
  in_use =
      let s = r.sized in
      let h : k ≤ 3 = omega (arith, r.place) in
      let m : f.subfr_length * k ≤ 80 * 3 = mul-le-mul s.subframe h in
      omega (arith, r.high, s.history, s.subframe)
