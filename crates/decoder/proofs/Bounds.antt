-- What rows 1 to 3 say of a state to which they do not apply, as plain bounds, and the way back.
use Prim.Native.Nat.{ℕ, ◌*◌, ◌<◌, ◌≤◌, zero-le, suc-le-suc}
use mathlib.Core.Path.{◌≡◌, refl, ap}
use mathlib.Core.Bool.{Bool, true, false, not, ◌&&◌, ◌||◌}
use mathlib.Core.Logic.{inl, inr}
use mathlib.Core.List.{List, [], ◌∷◌}
use native.Mathlib.Nat.{le_of_suc-le-suc}
use borrow.Author.Tests.{leb-true, le-leb}
use lib.Dec.{leb}
use lib.IntN.{ℤ, pos, negsuc, nat_abs}
use lib.ListN.{get_or}
use lib.Signed.{le_z, lt_z}
use Rattle.std.proofs.lemmas.Bool.{or_right}
use Rattle.word.specs.Int.{eq_ℤ}
use Rattle.word.proofs.Order.{eq_ℤ_true, eq_ℤ_refl}
use Rattle.word.proofs.Parts.{P, N}
use Rattle.word.proofs.Rows.{both}
use Rattle.refusal.proofs.Clear.{Clear}
use Rattle.shape.specs.Shape.{is_rate, is_count, rate_of, count_of, order_of, subfr_length, frame_length, mem_length, lpc_order}
use Rattle.shape.proofs.Shapes.{Shaped, Counts, two, four, shaped, either, rate_kept, count_kept}
use Rattle.decoder.specs.State.{shape_of}
use Rattle.decoder.specs.Ranges.{within, all_within, only_if, is_lag, lines_fit, decoder_fits, taps_held, subframes_held, plc_held, plc_fits, cng_fits}
use Rattle.decoder.specs.Settings.{settings_fit}
use Rattle.decoder.specs.Rows.{rate_row, size_row, history_row, state_rows}
use Rattle.decoder.specs.Accepted.{Accepted}
use Rattle.decoder.specs.declared.SilkCNGState.{SilkCNGState}
use Rattle.decoder.specs.declared.SilkPLCState.{SilkPLCState}
use Rattle.decoder.specs.declared.SilkDecoderState.{SilkDecoderState}
use Rattle.decoder.proofs.Between.{conj, holds, together, passes, only, only_if_lem, Between, natural, natural-back, between, between-back, positive, is_positive, AllBetween, all_between, all_between_back}

-- ---- the sizes of the state
pub record SizeBounds (s : SilkDecoderState) : Type 0 where
  pub rate : is_rate s.fs_khz ≡ true
  pub count : is_count s.nb_subfr ≡ true
  pub bounds : Shaped (rate_of s.fs_khz) (count_of s.nb_subfr)
  pub fs_khz : s.fs_khz ≡ pos (rate_of s.fs_khz)
  pub nb_subfr : s.nb_subfr ≡ pos (count_of s.nb_subfr)
  pub frame_length : s.frame_length ≡ pos (frame_length (shape_of s))
  pub subfr_length : s.subfr_length ≡ pos (subfr_length (shape_of s))
  pub ltp_mem_length : s.ltp_mem_length ≡ pos (mem_length (shape_of s))
  pub lpc_order : s.lpc_order ≡ pos (lpc_order (shape_of s))

abbrev size_tests : SilkDecoderState → List Bool
size_tests s =
    eq_ℤ s.frame_length (pos (frame_length (shape_of s)))
    ∷ eq_ℤ s.subfr_length (pos (subfr_length (shape_of s)))
    ∷ eq_ℤ s.ltp_mem_length (pos (mem_length (shape_of s)))
    ∷ eq_ℤ s.lpc_order (pos (lpc_order (shape_of s)))
    ∷ []

pub size-bounds : (s : SilkDecoderState) → rate_row s ≡ false → size_row s ≡ false → SizeBounds s
unfolding size_row
size-bounds s e f =
    let r = passes (is_rate s.fs_khz) e in
    let h = holds (is_count s.nb_subfr) (size_tests s) (passes (conj (is_count s.nb_subfr) (size_tests s)) f) in
    record {
      rate = r;
      count = h.0;
      bounds = shaped s.fs_khz s.nb_subfr r h.0;
      fs_khz = rate_kept s.fs_khz r;
      nb_subfr = count_kept s.nb_subfr h.0;
      frame_length = eq_ℤ_true _ _ h.1.0;
      subfr_length = eq_ℤ_true _ _ h.1.1.0;
      ltp_mem_length = eq_ℤ_true _ _ h.1.1.1.0;
      lpc_order = eq_ℤ_true _ _ h.1.1.1.1.0;
    }

same : (a b : ℤ) → a ≡ b → eq_ℤ a b ≡ true
same a b e = rw e (eq_ℤ_refl b)

pub size_fits : (s : SilkDecoderState) → is_count s.nb_subfr ≡ true → s.frame_length ≡ pos (frame_length (shape_of s)) → s.subfr_length ≡ pos (subfr_length (shape_of s)) → s.ltp_mem_length ≡ pos (mem_length (shape_of s)) → s.lpc_order ≡ pos (lpc_order (shape_of s)) → size_row s ≡ false
unfolding size_row
size_fits s n a b c d =
    ap not (together (is_count s.nb_subfr) (size_tests s) (n, (same _ _ a, (same _ _ b, (same _ _ c, (same _ _ d, tt))))))

-- ---- the decoder's own fields
pub record DecoderBounds (r : ℕ) (s : SilkDecoderState) : Type 0 where
  pub loss_cnt : s.loss_cnt ≡ pos (nat_abs s.loss_cnt)
  pub lag_prev : 0 < nat_abs s.loss_cnt → Between (2 * r) (18 * r) s.lag_prev
  pub prev_signal_type : Between 0 2 s.prev_signal_type
  pub prev_gain_q16 : Between 65536 1686110208 s.prev_gain_q16
  pub first_frame_after_reset : Between 0 1 s.first_frame_after_reset
  pub prev_nlsf_q15 : AllBetween 0 32767 s.prev_nlsf_q15 (order_of r)

abbrev decoder_tests : ℕ → SilkDecoderState → List Bool
decoder_tests r s =
    only_if (lt_z (pos 0) s.loss_cnt) (is_lag r s.lag_prev)
    ∷ within (pos 0) (pos 2) s.prev_signal_type
    ∷ within (pos 65536) (pos 1686110208) s.prev_gain_q16
    ∷ within (pos 0) (pos 1) s.first_frame_after_reset
    ∷ lines_fit r s.prev_nlsf_q15
    ∷ []

pub decoder_bounds : (r : ℕ) (s : SilkDecoderState) → decoder_fits r s ≡ true → DecoderBounds r s
unfolding decoder_fits
decoder_bounds r s e =
    let h = holds (le_z (pos 0) s.loss_cnt) (decoder_tests r s) e in
    let n = natural s.loss_cnt h.0 in
    record {
      loss_cnt = n;
      lag_prev = λ l. between (2 * r) (18 * r) s.lag_prev (only (lt_z (pos 0) s.loss_cnt) (is_lag r s.lag_prev) h.1.0 (positive s.loss_cnt l n));
      prev_signal_type = between 0 2 _ h.1.1.0;
      prev_gain_q16 = between 65536 1686110208 _ h.1.1.1.0;
      first_frame_after_reset = between 0 1 _ h.1.1.1.1.0;
      prev_nlsf_q15 = all_between 0 32767 _ (order_of r) h.1.1.1.1.1.0;
    }

pub decoder_fits_lem : (r : ℕ) (s : SilkDecoderState) → DecoderBounds r s → decoder_fits r s ≡ true
unfolding decoder_fits
decoder_fits_lem r s b =
    together (le_z (pos 0) s.loss_cnt) (decoder_tests r s) (
      natural-back s.loss_cnt b.loss_cnt,
      (
        only_if_lem (lt_z (pos 0) s.loss_cnt) (is_lag r s.lag_prev) (λ l. between-back s.lag_prev (b.lag_prev (is_positive s.loss_cnt l))),
        (
          between-back s.prev_signal_type b.prev_signal_type,
          (
            between-back s.prev_gain_q16 b.prev_gain_q16,
            (
              between-back s.first_frame_after_reset b.first_frame_after_reset,
              (all_between_back 0 32767 s.prev_nlsf_q15 (order_of r) b.prev_nlsf_q15, tt),
            ),
          ),
        ),
      ),
    )

-- ---- concealment
-- the middle tap lies in -11,456 to 15,565, the others are 0
pub record TapBounds (taps : List ℤ) : Type 0 where
  pub first : get_or taps 0 (pos 0) ≡ pos 0
  pub second : get_or taps 1 (pos 0) ≡ pos 0
  pub low : N (get_or taps 2 (pos 0)) ≤ 11456
  pub high : P (get_or taps 2 (pos 0)) ≤ 15565
  pub fourth : get_or taps 3 (pos 0) ≡ pos 0
  pub fifth : get_or taps 4 (pos 0) ≡ pos 0

-- 2 subframes of 20 samples, or 2 or 4 of 5r
pub data SubframeBounds (r : ℕ) (n l : ℤ) : Type 0 where
  short : n ≡ pos 2 → l ≡ pos 20 → SubframeBounds r n l
  whole : {k : ℕ} → Counts k → n ≡ pos k → l ≡ pos (5 * r) → SubframeBounds r n l

pub record PlcHeldBounds (r : ℕ) (h : SilkPLCState) : Type 0 where
  pub pitch_l_q8 : Between (512 * r) (4608 * r) h.pitch_l_q8
  pub prev_gain_q16 : AllBetween 65536 1686110208 h.prev_gain_q16 2
  pub subframes : SubframeBounds r h.nb_subfr h.subfr_length

pub record PlcBounds (r : ℕ) (h : SilkPLCState) : Type 0 where
  pub last_frame_lost : Between 0 1 h.last_frame_lost
  pub ltp_coef_q14 : TapBounds h.ltp_coef_q14
  pub rand_scale_q14 : Between 0 27840 h.rand_scale_q14
  pub prev_ltp_scale_q14 : Between 0 16384 h.prev_ltp_scale_q14
  pub conc_energy : h.conc_energy ≡ pos (nat_abs h.conc_energy)
  pub conc_energy_shift : Between 0 31 h.conc_energy_shift
  pub held : h.fs_khz ≡ pos r → PlcHeldBounds r h

middle : (z : ℤ) → within (negsuc 11455) (pos 15565) z ≡ true → (N z ≤ 11456) × (P z ≤ 15565)
unfolding within
middle (pos n) e = (zero-le, leb-true n 15565 e)
middle (negsuc n) e = let p = both (leb n 11455) true e in (suc-le-suc (leb-true n 11455 p.0), zero-le)

middle-back : (z : ℤ) → N z ≤ 11456 → P z ≤ 15565 → within (negsuc 11455) (pos 15565) z ≡ true
unfolding within
middle-back (pos n) l h = le-leb n 15565 h
middle-back (negsuc n) l h = rw (le-leb n 11455 (le_of_suc-le-suc l)) refl

abbrev tap_tests : List ℤ → List Bool
tap_tests taps =
    eq_ℤ (get_or taps 1 (pos 0)) (pos 0)
    ∷ within (negsuc 11455) (pos 15565) (get_or taps 2 (pos 0))
    ∷ eq_ℤ (get_or taps 3 (pos 0)) (pos 0)
    ∷ eq_ℤ (get_or taps 4 (pos 0)) (pos 0)
    ∷ []

pub tap_bounds : (taps : List ℤ) → taps_held taps ≡ true → TapBounds taps
unfolding taps_held
tap_bounds taps e =
    let h = holds (eq_ℤ (get_or taps 0 (pos 0)) (pos 0)) (tap_tests taps) e in
    let m = middle (get_or taps 2 (pos 0)) h.1.1.0 in
    record {
      first = eq_ℤ_true _ _ h.0;
      second = eq_ℤ_true _ _ h.1.0;
      low = m.0;
      high = m.1;
      fourth = eq_ℤ_true _ _ h.1.1.1.0;
      fifth = eq_ℤ_true _ _ h.1.1.1.1.0;
    }

pub taps_fit_lem : (taps : List ℤ) → TapBounds taps → taps_held taps ≡ true
unfolding taps_held
taps_fit_lem taps b =
    together (eq_ℤ (get_or taps 0 (pos 0)) (pos 0)) (tap_tests taps) (same _ _ b.first, (same _ _ b.second, (middle-back (get_or taps 2 (pos 0)) b.low b.high, (same _ _ b.fourth, (same _ _ b.fifth, tt)))))

pub subframe-bounds : (r : ℕ) (n l : ℤ) → subframes_held r n l ≡ true → SubframeBounds r n l
unfolding subframes_held
subframe-bounds r n l e =
    elim (either (eq_ℤ n (pos 2) && eq_ℤ l (pos 20)) ((eq_ℤ n (pos 2) || eq_ℤ n (pos 4)) && eq_ℤ l (pos (5 * r))) e) [
      | inl p ↦ let q = both (eq_ℤ n (pos 2)) (eq_ℤ l (pos 20)) p in short (eq_ℤ_true n (pos 2) q.0) (eq_ℤ_true l (pos 20) q.1)
      | inr p ↦
          let q = both (eq_ℤ n (pos 2) || eq_ℤ n (pos 4)) (eq_ℤ l (pos (5 * r))) p in
          let k = eq_ℤ_true l (pos (5 * r)) q.1 in
          elim (either (eq_ℤ n (pos 2)) (eq_ℤ n (pos 4)) q.0) [
            | inl m ↦ whole (two refl) (eq_ℤ_true n (pos 2) m) k
            | inr m ↦ whole (four refl) (eq_ℤ_true n (pos 4) m) k
          ]
    ]

pub subframes-fit : (r : ℕ) (n l : ℤ) → SubframeBounds r n l → subframes_held r n l ≡ true
unfolding subframes_held
subframes-fit r n l (short e f) = rw (e, f)
subframes-fit r n l (whole (two k) e f) = or_right (eq_ℤ n (pos 2) && eq_ℤ l (pos 20)) _ (rw (e, k, f) (eq_ℤ_refl (pos (5 * r))))
subframes-fit r n l (whole (four k) e f) = or_right (eq_ℤ n (pos 2) && eq_ℤ l (pos 20)) _ (rw (e, k, f) (eq_ℤ_refl (pos (5 * r))))

abbrev plc_held_tests : ℕ → SilkPLCState → List Bool
plc_held_tests r h =
    all_within (pos 65536) (pos 1686110208) h.prev_gain_q16 2
    ∷ subframes_held r h.nb_subfr h.subfr_length
    ∷ []

pub plc_held-bounds : (r : ℕ) (h : SilkPLCState) → plc_held r h ≡ true → PlcHeldBounds r h
unfolding plc_held
plc_held-bounds r h e =
    let p = holds (within (pos (512 * r)) (pos (4608 * r)) h.pitch_l_q8) (plc_held_tests r h) e in
    record {
      pitch_l_q8 = between (512 * r) (4608 * r) _ p.0;
      prev_gain_q16 = all_between 65536 1686110208 _ 2 p.1.0;
      subframes = subframe-bounds r _ _ p.1.1.0;
    }

pub plc_held-fits : (r : ℕ) (h : SilkPLCState) → PlcHeldBounds r h → plc_held r h ≡ true
unfolding plc_held
plc_held-fits r h b =
    together (within (pos (512 * r)) (pos (4608 * r)) h.pitch_l_q8) (plc_held_tests r h) (between-back h.pitch_l_q8 b.pitch_l_q8, (all_between_back 65536 1686110208 h.prev_gain_q16 2 b.prev_gain_q16, (subframes-fit r _ _ b.subframes, tt)))

abbrev plc_tests : ℕ → SilkPLCState → List Bool
plc_tests r h =
    taps_held h.ltp_coef_q14
    ∷ within (pos 0) (pos 27840) h.rand_scale_q14
    ∷ within (pos 0) (pos 16384) h.prev_ltp_scale_q14
    ∷ le_z (pos 0) h.conc_energy
    ∷ within (pos 0) (pos 31) h.conc_energy_shift
    ∷ only_if (eq_ℤ h.fs_khz (pos r)) (plc_held r h)
    ∷ []

pub plc_bounds : (r : ℕ) (h : SilkPLCState) → plc_fits r h ≡ true → PlcBounds r h
unfolding plc_fits
plc_bounds r h e =
    let p = holds (within (pos 0) (pos 1) h.last_frame_lost) (plc_tests r h) e in
    record {
      last_frame_lost = between 0 1 _ p.0;
      ltp_coef_q14 = tap_bounds _ p.1.0;
      rand_scale_q14 = between 0 27840 _ p.1.1.0;
      prev_ltp_scale_q14 = between 0 16384 _ p.1.1.1.0;
      conc_energy = natural _ p.1.1.1.1.0;
      conc_energy_shift = between 0 31 _ p.1.1.1.1.1.0;
      held = λ k. plc_held-bounds r h (only (eq_ℤ h.fs_khz (pos r)) (plc_held r h) p.1.1.1.1.1.1.0 (same _ _ k));
    }

pub plc_fits_lem : (r : ℕ) (h : SilkPLCState) → PlcBounds r h → plc_fits r h ≡ true
unfolding plc_fits
plc_fits_lem r h b =
    together (within (pos 0) (pos 1) h.last_frame_lost) (plc_tests r h) (between-back _ b.last_frame_lost, (taps_fit_lem _ b.ltp_coef_q14, (between-back _ b.rand_scale_q14, (between-back _ b.prev_ltp_scale_q14, (natural-back _ b.conc_energy, (between-back _ b.conc_energy_shift, (only_if_lem (eq_ℤ h.fs_khz (pos r)) (plc_held r h) (λ k. plc_held-fits r h (b.held (eq_ℤ_true _ _ k))), tt)))))))

-- ---- noise
pub record CngHeldBounds (r : ℕ) (h : SilkCNGState) : Type 0 where
  pub cng_smth_nlsf_q15 : AllBetween 0 32767 h.cng_smth_nlsf_q15 (order_of r)
  pub cng_smth_gain_q16 : Between 0 1686110208 h.cng_smth_gain_q16

abbrev pub CngBounds : ℕ → SilkCNGState → Type 0
CngBounds r h = h.fs_khz ≡ pos r → CngHeldBounds r h

abbrev cng_held : ℕ → SilkCNGState → Bool
cng_held r h = lines_fit r h.cng_smth_nlsf_q15 && within (pos 0) (pos 1686110208) h.cng_smth_gain_q16

pub cng_bounds : (r : ℕ) (h : SilkCNGState) → cng_fits r h ≡ true → CngBounds r h
unfolding cng_fits
cng_bounds r h e k =
    let p = both (lines_fit r h.cng_smth_nlsf_q15) _ (only (eq_ℤ h.fs_khz (pos r)) (cng_held r h) e (same _ _ k)) in
    record {
      cng_smth_nlsf_q15 = all_between 0 32767 _ (order_of r) p.0;
      cng_smth_gain_q16 = between 0 1686110208 _ p.1;
    }

pub cng_fits_lem : (r : ℕ) (h : SilkCNGState) → CngBounds r h → cng_fits r h ≡ true
unfolding cng_fits
cng_fits_lem r h b =
    only_if_lem (eq_ℤ h.fs_khz (pos r)) (cng_held r h) (λ k. let p = b (eq_ℤ_true _ _ k) in rw (all_between_back 0 32767 h.cng_smth_nlsf_q15 (order_of r) p.cng_smth_nlsf_q15) (between-back h.cng_smth_gain_q16 p.cng_smth_gain_q16))

-- ---- the whole state
pub record Bounds (r : ℕ) (s : SilkDecoderState) : Type 0 where
  pub sizes : SizeBounds s
  pub decoder : DecoderBounds r s
  pub plc : PlcBounds r s.s_plc
  pub cng : CngBounds r s.s_cng
  pub settings : settings_fit s.settings ≡ true

pub bounds : (r : ℕ) (s : SilkDecoderState) → Accepted r s → Bounds r s
unfolding history_row
bounds r s a =
    let t = passes (decoder_fits r s && plc_fits r s.s_plc && cng_fits r s.s_cng && settings_fit s.settings) a.history in
    let h = holds (decoder_fits r s) (plc_fits r s.s_plc ∷ cng_fits r s.s_cng ∷ settings_fit s.settings ∷ []) t in
    record {
      sizes = size-bounds s a.rate a.size;
      decoder = decoder_bounds r s h.0;
      plc = plc_bounds r _ h.1.0;
      cng = cng_bounds r _ h.1.1.0;
      settings = h.1.1.1.0;
    }

pub history-fits : (r : ℕ) (s : SilkDecoderState) → DecoderBounds r s → PlcBounds r s.s_plc → CngBounds r s.s_cng → settings_fit s.settings ≡ true → history_row r s ≡ false
unfolding history_row
history-fits r s d p c v = rw (decoder_fits_lem r s d, plc_fits_lem r _ p, cng_fits_lem r _ c, v)

-- none of rows 1 to 3 applies
pub state_clear : (s : SilkDecoderState) → Clear (state_rows s) → Accepted (rate_of s.fs_khz) s
state_clear s h = record { rate = h.0; size = h.1.0; history = h.1.1.0 }
