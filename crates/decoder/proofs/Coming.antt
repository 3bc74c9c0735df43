-- The state as a coming shape leaves it (document 02, Note 1).
use Prim.Native.Nat.{ℕ, ◌*◌}
use mathlib.Core.Path.{◌≡◌, refl, sym, ap, ◌∙◌, subst}
use mathlib.Core.Bool.{Bool, true, false, not}
use mathlib.Core.Logic.{◌⊎◌, inl, inr}
use mathlib.Core.List.{[], ◌∷◌}
use native.Mathlib.Omega.{arith}
use native.Mathlib.Nat.{le_trans}
use lib.Dec.{lit≤, lit<}
use lib.IntN.{ℤ, pos, nat_abs}
use mir.Syntax.{w16, w32}
use mir.Val.{SFits}
use Rattle.word.specs.Int.{eq_ℤ}
use Rattle.word.proofs.Order.{eq_ℤ_true, eq_ℤ_refl}
use Rattle.word.proofs.Sizes.{abs-fits}
use Rattle.refusal.specs.First.{◌gives◌, first_of}
use Rattle.refusal.specs.declared.Refusal.TheVariants.{Rate, Size, History}
use Rattle.refusal.proofs.Clear.{Clear}
use Rattle.shape.specs.Shape.{is_rate, is_count, rate_of}
use Rattle.shape.proofs.Shapes.{rates, rate_range, order_le}
use Rattle.decoder.specs.Ranges.{decoder_fits}
use Rattle.decoder.specs.With.{with_sizes}
use Rattle.decoder.specs.Reshape.{reshaped_by, reshaped}
use Rattle.decoder.specs.Rows.{rate_row, size_row, history_row, state_rows, coming_rows}
use Rattle.decoder.specs.SetUp.{cng_default, plc_default, silk_default, state_from}
use Rattle.decoder.specs.Accepted.{Accepted}
use Rattle.decoder.specs.Typed.{Words, Typed}
use Rattle.decoder.specs.Claims.{SameShape}
use Rattle.decoder.specs.declared.SilkCNGState.{SilkCNGState}
use Rattle.decoder.specs.declared.SilkPLCState.{SilkPLCState}
use Rattle.decoder.specs.declared.Settings.{Settings}
use Rattle.decoder.specs.declared.SilkDecoderState.{SilkDecoderState}
use Rattle.decoder.proofs.Between.{either, passes, AllBetween}
use Rattle.decoder.proofs.Bounds.{size-bounds, size_fits, DecoderBounds, PlcHeldBounds, PlcBounds, CngHeldBounds, CngBounds, bounds, history-fits}
use Rattle.decoder.proofs.Built.{in_range, typed_out_buf, typed_memory, typed_lag, typed_type, typed_first}
use Rattle.decoder.proofs.Types.{zeros-words}
use Rattle.decoder.proofs.SetUps.{zeros-between, no_rate_0, typed_shape}

-- ---- the shape that a state holds
pub same_shape : SameShape
unfolding reshaped reshaped_by
same_shape s e f =
    let b = size-bounds s e f in
    rw (eq_ℤ_refl s.fs_khz)
    (λ i.
    with_sizes s s.fs_khz s.nb_subfr (sym b.frame_length i) (sym b.subfr_length i) (sym b.ltp_mem_length i)
    (sym b.lpc_order i))

-- the rate that a state holds leaves what row 3 judges
held-history : (nb : ℤ) (s : SilkDecoderState) → history_row (rate_of s.fs_khz) (reshaped s.fs_khz nb s) ≡ history_row (rate_of s.fs_khz) s
unfolding history_row decoder_fits reshaped reshaped_by
held-history nb s = rw (eq_ℤ_refl s.fs_khz) refl

-- so the shape that it holds meets the rows of the state alone
pub held_rows : (s : SilkDecoderState) → first_of (coming_rows s.fs_khz s.nb_subfr s) ≡ first_of (state_rows s)
unfolding first_of
held_rows s = go (rate_row s) (size_row s) refl refl
  where
    khz : ℤ
    khz = s.fs_khz

    nb : ℤ
    nb = s.nb_subfr

    go : (a b : Bool) → rate_row s ≡ a → size_row s ≡ b
        → first_of ((a gives Rate) ∷ (a gives Rate) ∷ (b gives Size) ∷ (not (is_count nb) gives Size) ∷ (history_row (rate_of khz) (reshaped khz nb s) gives History) ∷ [])
        ≡ first_of ((a gives Rate) ∷ (b gives Size) ∷ (history_row (rate_of khz) s gives History) ∷ [])
    go true b e f = refl
    go false true e f = refl
    go false false e f = rw ((size-bounds s e f).count, held-history nb s) refl

-- ---- a coming shape that no row refuses
module _ (khz nb : ℤ) (s : SilkDecoderState) where
  coming-size : is_count nb ≡ true → size_row (reshaped khz nb s) ≡ false
  unfolding reshaped reshaped_by
  coming-size f = size_fits (reshaped khz nb s) f refl refl refl refl

  -- the state as it leaves it is accepted at that shape
  pub coming_accepted : Clear (coming_rows khz nb s) → Accepted (rate_of (reshaped khz nb s).fs_khz) (reshaped khz nb s)
  unfolding reshaped reshaped_by
  coming_accepted h =
      record { rate = h.1.0; size = coming-size (passes (is_count nb) h.1.1.1.0); history = h.1.1.1.1.0 }

  -- and typed
  pub coming_typed : is_rate khz ≡ true → is_count nb ≡ true → Typed s → Typed (reshaped khz nb s)
  unfolding reshaped reshaped_by
  coming_typed e f t =
      let b = eq_ℤ khz s.fs_khz in
      let o = typed_out_buf (typed_shape khz nb e f t) (either (Words w16 480) b t.out_buf (zeros-words 480)) in
      let m = typed_memory o (either (Words w32 16) b t.s_lpc_q14_buf (zeros-words 16)) in
      let l = typed_lag m (either (SFits w32) b t.lag_prev (abs-fits (pos 100) (lit< tt))) in
      let k = typed_type l (either (SFits w32) b t.prev_signal_type (abs-fits (pos 0) (lit< tt))) in
      typed_first k (either (SFits w32) b t.first_frame_after_reset (abs-fits (pos 1) (lit< tt)))

-- ---- a state that every coming shape leaves accepted
-- concealment or noise holds its numbers for no rate, or for that of the state
abbrev pub OwnRate : ℤ → ℤ → Type 0
OwnRate khz z = (z ≡ pos 0) ⊎ (z ≡ khz)

-- what row 3 doesn't ask at the rate held: all 16 lines, and whose numbers concealment and noise hold
pub record Own (s : SilkDecoderState) : Type 0 where
  pub lines : AllBetween 0 32767 s.prev_nlsf_q15 16
  pub plc : OwnRate s.fs_khz s.s_plc.fs_khz
  pub cng : OwnRate s.fs_khz s.s_cng.fs_khz

pub fresh_own : (khz nb : ℤ) (v : Settings) → Own (state_from khz nb v)
unfolding state_from silk_default plc_default cng_default
fresh_own khz nb v = record { lines = zeros-between 32767 16 16; plc = inl refl; cng = inl refl }

-- numbers held for the rate of the state or for none are held for a coming one only if it is the same
module _ (khz : ℤ) (e : is_rate khz ≡ true) (held : ℤ) (r : ℕ) (is : held ≡ pos r) where
  same-rate : {z : ℤ} → OwnRate held z → z ≡ pos (rate_of khz) → (z ≡ pos r) × (r ≡ rate_of khz)
  same-rate (inl p) k = absurd (no_rate_0 khz e (sym p ∙ k))
  same-rate (inr p) k =
      let q = p ∙ is in
      (q, ap nat_abs (sym q ∙ k))

  plc-any : (h : SilkPLCState) → OwnRate held h.fs_khz → PlcBounds r h → PlcBounds (rate_of khz) h
  plc-any h o b =
      record {
        last_frame_lost = b.last_frame_lost;
        ltp_coef_q14 = b.ltp_coef_q14;
        rand_scale_q14 = b.rand_scale_q14;
        prev_ltp_scale_q14 = b.prev_ltp_scale_q14;
        conc_energy = b.conc_energy;
        conc_energy_shift = b.conc_energy_shift;
        held = λ k. let q = same-rate o k in subst (λ (r : ℕ). PlcHeldBounds r h) q.1 (b.held q.0);
      }

  cng-any : (h : SilkCNGState) → OwnRate held h.fs_khz → CngBounds r h → CngBounds (rate_of khz) h
  cng-any h o b k = let q = same-rate o k in subst (λ (r : ℕ). CngHeldBounds r h) q.1 (b q.0)

-- row 3 applies at no coming shape
pub any_shape : (khz nb : ℤ) (s : SilkDecoderState) → Accepted (rate_of s.fs_khz) s → Own s → is_rate khz ≡ true → history_row (rate_of khz) (reshaped khz nb s) ≡ false
unfolding reshaped reshaped_by
any_shape khz nb s a o e =
    let b = bounds (rate_of s.fs_khz) s a in
    history-fits (rate_of khz) (reshaped khz nb s) (decoder_any khz nb s (eq_ℤ khz s.fs_khz) refl e o.lines b.decoder)
    (plc-any khz e s.fs_khz (rate_of s.fs_khz) b.sizes.fs_khz s.s_plc o.plc b.plc)
    (cng-any khz e s.fs_khz (rate_of s.fs_khz) b.sizes.fs_khz s.s_cng o.cng b.cng)
    b.settings
  where
    decoder_any : (khz nb : ℤ) (s : SilkDecoderState) (b : Bool) → eq_ℤ khz s.fs_khz ≡ b → is_rate khz ≡ true → AllBetween 0 32767 s.prev_nlsf_q15 16 → DecoderBounds (rate_of s.fs_khz) s
        → DecoderBounds (rate_of khz) (reshaped_by b khz nb s)
    decoder_any khz nb s true z e l d =
        subst (λ (x : ℤ). DecoderBounds (rate_of x) (reshaped_by true x nb s)) (sym (eq_ℤ_true khz s.fs_khz z))
        (record {
          loss_cnt = d.loss_cnt;
          lag_prev = d.lag_prev;
          prev_signal_type = d.prev_signal_type;
          prev_gain_q16 = d.prev_gain_q16;
          first_frame_after_reset = d.first_frame_after_reset;
          prev_nlsf_q15 = d.prev_nlsf_q15;
        })
    decoder_any khz nb s false z e l d =
        let q = rate_range (rates khz e) in
        record {
          loss_cnt = d.loss_cnt;
          lag_prev = λ k. in_range (2 * rate_of khz) (18 * rate_of khz) 100 (omega (arith, q.1)) (omega (arith, q.0));
          prev_signal_type = in_range 0 2 0 (lit≤ tt) (lit≤ tt);
          prev_gain_q16 = d.prev_gain_q16;
          first_frame_after_reset = in_range 0 1 1 (lit≤ tt) (lit≤ tt);
          prev_nlsf_q15 = λ i k. l i (le_trans k (order_le (rate_of khz)));
        }
