-- Set-up at a rate and a count: nothing is refused, and the state is accepted and typed.
use Prim.Native.Nat.{ℕ, zero, suc, zero-le}
use mathlib.Core.Path.{◌≡◌, refl, ap}
use mathlib.Core.Bool.{true, not, ◌&&◌}
use native.Mathlib.Omega.{arith}
use native.Mathlib.Nat.{not-suc-le-zero}
use lib.Dec.{lit≤, lit<}
use lib.IntN.{ℤ, pos, nat_abs}
use lib.ListN.{get_or, replicate}
use mir.Syntax.{w16, w32}
use mir.Val.{SFits}
use Rattle.word.proofs.Rows.{both}
use Rattle.word.proofs.Fits.{zero_fits}
use Rattle.word.proofs.Sizes.{abs-fits}
use Rattle.edition.specs.Edition.{is_edition}
use Rattle.edition.proofs.Editions.{edition_fits}
use Rattle.std.specs.Prelude.{Ok}
use Rattle.refusal.specs.First.{first_of}
use Rattle.refusal.specs.Refusals.{code_of}
use Rattle.refusal.proofs.Clear.{clear, answered_ok, answered_is}
use Rattle.shape.specs.Shape.{is_rate, is_count, rate_of, order_of}
use Rattle.shape.proofs.Shapes.{rates, rate_range, rate_kept, count_kept, count_le}
use Rattle.decoder.specs.Settings.{is_squelch, settings_fit, default_settings}
use Rattle.decoder.specs.With.{with_shape}
use Rattle.decoder.specs.SetUp.{cng_default, plc_default, silk_default, state_from, set_up_refusal, set_up_with}
use Rattle.decoder.specs.Typed.{Typed, TypedCng, TypedPlc, TypedSettings}
use Rattle.decoder.specs.Accepted.{Accepted}
use Rattle.decoder.specs.declared.Settings.{Settings}
use Rattle.decoder.specs.declared.SilkDecoderState.{SilkDecoderState}
use Rattle.decoder.proofs.Between.{between, passes, AllBetween}
use Rattle.decoder.proofs.Bounds.{size_fits, history-fits}
use Rattle.decoder.proofs.Built.{in_range, between_32, typed_settings, typed_sizes}
use Rattle.decoder.proofs.Tests.{small, small_rate, small_frame, small_order}
use Rattle.decoder.proofs.Types.{zeros-words}

pub set_up_accepts : (khz nb : ℤ) (v : Settings) → is_rate khz ≡ true → is_count nb ≡ true → settings_fit v ≡ true → set_up_refusal khz nb v ≡ Ok tt
unfolding set_up_refusal first_of settings_fit
set_up_accepts khz nb v e f g =
    let h = both (is_squelch v.squelch) (is_edition v.edition) g in
    rw (e, f, h.0, h.1)

pub set_up_state : (khz nb : ℤ) (v : Settings) → is_rate khz ≡ true → is_count nb ≡ true → settings_fit v ≡ true → set_up_with khz nb v ≡ Ok (state_from khz nb v)
unfolding set_up_with
set_up_state khz nb v e f g = answered_ok _ (state_from khz nb v) (set_up_accepts khz nb v e f g)

-- a set-up that is accepted has a rate, a count and settings in range, and gives the state for them
pub record Fresh (khz nb : ℤ) (v : Settings) (s : SilkDecoderState) : Type 0 where
  pub rate : is_rate khz ≡ true
  pub count : is_count nb ≡ true
  pub settings : settings_fit v ≡ true
  pub state : state_from khz nb v ≡ s

pub set_up-shaped : (khz nb : ℤ) (v : Settings) → code_of (set_up_refusal khz nb v) ≡ 0 → (is_rate khz ≡ true) × (is_count nb ≡ true) × (settings_fit v ≡ true)
unfolding set_up_refusal settings_fit
set_up-shaped khz nb v e =
    let h = clear _ e in
    let q = passes (is_squelch v.squelch) h.1.1.0 in
    let d = passes (is_edition v.edition) h.1.1.1.0 in
    (passes (is_rate khz) h.0, passes (is_count nb) h.1.0, (λ i. q i && d i))

pub set_up-fresh : (khz nb : ℤ) (v : Settings) (s : SilkDecoderState) → set_up_with khz nb v ≡ Ok s → Fresh khz nb v s
unfolding set_up_with
set_up-fresh khz nb v s e =
    let a = answered_is (set_up_refusal khz nb v) (state_from khz nb v) s e in
    let h = set_up-shaped khz nb v a.0 in
    record { rate = h.0; count = h.1; settings = h.2; state = a.1 }

-- ---- accepted
pub zero_at : (n i : ℕ) → get_or (replicate n (pos 0)) i (pos 0) ≡ pos 0
zero_at zero i = refl
zero_at (suc n) zero = refl
zero_at (suc n) (suc i) = zero_at n i

pub zeros-between : (b n k : ℕ) → AllBetween 0 b (replicate n (pos 0)) k
zeros-between b n k i h = rw (zero_at n i) (in_range 0 b 0 zero-le zero-le)

-- no rate is 0
pub no_rate_0 : (khz : ℤ) → is_rate khz ≡ true → pos 0 ≡ pos (rate_of khz) → ⊥
no_rate_0 khz e z =
    let b = (rate_range (rates khz e)).0 in
    let k : nat_abs (pos 0) ≡ nat_abs (pos (rate_of khz)) = ap nat_abs z in
    omega arith

pub fresh-accepted : (khz nb : ℤ) (v : Settings) → is_rate khz ≡ true → is_count nb ≡ true → settings_fit v ≡ true → Accepted (rate_of khz) (state_from khz nb v)
unfolding state_from silk_default cng_default plc_default
fresh-accepted khz nb v e f g =
    record {
      rate = ap not e;
      size = size_fits (state_from khz nb v) f refl refl refl refl;
      history = history-fits (rate_of khz) (state_from khz nb v)
          (record {
            loss_cnt = refl;
            lag_prev = λ l. absurd (not-suc-le-zero l);
            prev_signal_type = in_range 0 2 0 (lit≤ tt) (lit≤ tt);
            prev_gain_q16 = in_range 65536 1686110208 65536 (lit≤ tt) (lit≤ tt);
            first_frame_after_reset = in_range 0 1 1 (lit≤ tt) (lit≤ tt);
            prev_nlsf_q15 = zeros-between 32767 16 (order_of (rate_of khz));
          })
          (record {
            last_frame_lost = in_range 0 1 0 (lit≤ tt) (lit≤ tt);
            ltp_coef_q14 = record { first = refl; second = refl; low = zero-le; high = zero-le; fourth = refl; fifth = refl };
            rand_scale_q14 = in_range 0 27840 0 (lit≤ tt) (lit≤ tt);
            prev_ltp_scale_q14 = in_range 0 16384 0 (lit≤ tt) (lit≤ tt);
            conc_energy = refl;
            conc_energy_shift = in_range 0 31 0 (lit≤ tt) (lit≤ tt);
            held = λ z. absurd (no_rate_0 khz e z);
          })
          (λ z. absurd (no_rate_0 khz e z))
          g;
    }

-- ---- typed
cng_typed : TypedCng cng_default
unfolding cng_default
cng_typed =
    record {
      cng_exc_buf_q14 = zeros-words 320;
      cng_smth_nlsf_q15 = zeros-words 16;
      cng_synth_state = zeros-words 16;
      cng_smth_gain_q16 = zero_fits w32;
      rand_seed = zero_fits w32;
      fs_khz = zero_fits w32;
    }

plc_typed : TypedPlc plc_default
unfolding plc_default
plc_typed =
    record {
      pitch_l_q8 = zero_fits w32;
      ltp_coef_q14 = zeros-words 5;
      prev_lpc_q12 = zeros-words 16;
      last_frame_lost = zero_fits w32;
      rand_seed = zero_fits w32;
      rand_scale_q14 = zero_fits w16;
      conc_energy = zero_fits w32;
      conc_energy_shift = zero_fits w32;
      prev_ltp_scale_q14 = zero_fits w16;
      prev_gain_q16 = zeros-words 2;
      fs_khz = zero_fits w32;
      nb_subfr = zero_fits w32;
      subfr_length = zero_fits w32;
    }

default_typed : Typed silk_default
unfolding silk_default default_settings
default_typed =
    record {
      prev_gain_q16 = abs-fits (pos 65536) (lit< tt);
      exc_q14 = zeros-words 320;
      s_lpc_q14_buf = zeros-words 16;
      out_buf = zeros-words 480;
      lag_prev = abs-fits (pos 100) (lit< tt);
      fs_khz = zero_fits w32;
      nb_subfr = zero_fits w32;
      frame_length = zero_fits w32;
      subfr_length = zero_fits w32;
      ltp_mem_length = zero_fits w32;
      lpc_order = zero_fits w32;
      prev_nlsf_q15 = zeros-words 16;
      first_frame_after_reset = abs-fits (pos 1) (lit< tt);
      s_cng = cng_typed;
      loss_cnt = zero_fits w32;
      prev_signal_type = zero_fits w32;
      s_plc = plc_typed;
      settings = record { squelch = abs-fits (pos 50) (lit< tt); edition = abs-fits (pos 8251) (lit< tt) };
    }

-- ---- at a rate and a count
pub rate_fits : (khz : ℤ) → is_rate khz ≡ true → SFits w32 khz
rate_fits khz e = rw (rate_kept khz e) (abs-fits _ (small khz))

pub count_fits : (nb : ℤ) → is_count nb ≡ true → SFits w32 nb
count_fits nb e = rw (count_kept nb e) (abs-fits _ (omega (arith, count_le nb)))

-- a state with that shape
pub typed_shape : {s : SilkDecoderState} (khz nb : ℤ) → is_rate khz ≡ true → is_count nb ≡ true → Typed s → Typed (with_shape s khz nb)
typed_shape khz nb e f t =
    typed_sizes t (rate_fits khz e) (count_fits nb f) (abs-fits _ (small_frame khz nb)) (abs-fits _ (small_rate 5 khz (lit≤ tt))) (abs-fits _ (small_rate 20 khz (lit≤ tt)))
    (abs-fits _ (small_order (rate_of khz)))

pub settings_typed : (v : Settings) → settings_fit v ≡ true → TypedSettings v
unfolding settings_fit is_squelch
settings_typed v g =
    let h = both (is_squelch v.squelch) (is_edition v.edition) g in
    record { squelch = between_32 (between 0 10000 v.squelch h.0) (lit< tt); edition = edition_fits v.edition h.1 }

pub fresh_typed : (khz nb : ℤ) (v : Settings) → is_rate khz ≡ true → is_count nb ≡ true → settings_fit v ≡ true → Typed (state_from khz nb v)
unfolding state_from
fresh_typed khz nb v e f g = typed_settings (typed_shape khz nb e f default_typed) (settings_typed v g)
