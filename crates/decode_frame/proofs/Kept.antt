-- A whole frame that is played keeps a state accepted and in the ranges of its types (demand 3, its first half).
use Prim.Native.Nat.{ℕ, ◌+◌, ◌-◌}
use mathlib.Core.Path.{◌≡◌, refl, sym, ap, subst, ◌∙◌}
use mathlib.Core.Bool.{true, false, not}
use mathlib.Core.List.{List, []}
use native.Mathlib.Omega.{arith}
use native.Mathlib.Nat.{le_refl}
use borrow.Author.Tests.{eqb-false}
use lib.IntN.{ℤ, pos, negsuc, nat_abs, ◌+ℤ◌, pos-ne-negsuc}
use lib.ListN.{get_or}
use mir.Syntax.{w16, w32}
use mir.Val.{SFits}
use Rattle.word.specs.Int.{eq_ℤ}
use Rattle.word.proofs.Order.{eq_ℤ_true}
use Rattle.word.proofs.Fits.{AllFit}
use Rattle.shape.specs.Shape.{Shape, frame_length, lpc_order, is_rate, rate_of}
use Rattle.shape.proofs.Shapes.{Shaped}
use Rattle.decoder.specs.Signals.{signal_number, is_voiced}
use Rattle.decoder.specs.State.{shape_of}
use Rattle.decoder.specs.Ranges.{lines_fit}
use Rattle.decoder.specs.Settings.{settings_fit}
use Rattle.decoder.specs.Rows.{size_row, history_row}
use Rattle.decoder.specs.Accepted.{Accepted}
use Rattle.decoder.specs.Outcome.{Outcome}
use Rattle.decoder.specs.Typed.{Words, Typed, TypedControl, TypedRows, TypedLines, TypedPlc}
use Rattle.decoder.specs.declared.SilkDecoderState.{SilkDecoderState}
use Rattle.decoder.specs.declared.SilkDecoderControl.{SilkDecoderControl}
use Rattle.decoder.specs.declared.Params.{Params}
use Rattle.decoder.proofs.Between.{Between, AllBetween, all_between}
use Rattle.decoder.proofs.Bounds.{PlcBounds, CngBounds, bounds, history-fits}
use Rattle.decoder.proofs.Built.{in_range, wider, between_32, typed_type, typed_plc, typed_losses, typed_first}
use Rattle.judge.proofs.Bounds.{ParamsFit}
use Rattle.glue.specs.Glue.{glue_frames}
use Rattle.decode_core.specs.Core.{decode_core}
use Rattle.decode_core.proofs.Kept.{core_typed, core_gain, core-samples, core_control, core_gains, core_scale, core-same}
use Rattle.plc.specs.Hold.{plc_ready}
use Rattle.plc.specs.Update.{plc_updated, plc_update}
use Rattle.plc.specs.Conceal.{plc_conceal}
use Rattle.plc.proofs.Updated.{updated}
use Rattle.plc.proofs.Types.{updated_typed}
use Rattle.plc.proofs.Concealed.{conceal_bounds, conceal_typed, conceal_samples, conceal_control, conceal_lag}
use Rattle.decode_frame.specs.WholeFrame.{lined, remembered, resumed, lag_kept, received, lost}
use Rattle.decode_frame.proofs.Finishing.{Fine, Before, lined_typed, lined_lines, remembered_typed, finished-keeps, finished-fine}

-- ---- a lost frame
-- one loss more fits a word below the top
next_loss : (z : ℤ) → z ≡ pos (nat_abs z) → SFits w32 z → eq_ℤ z (pos 2147483647) ≡ false → z +ℤ pos 1 ≡ pos (nat_abs z + 1) × SFits w32 (z +ℤ pos 1)
next_loss (pos n) e f g = (refl, record { sfits = omega (arith, f.sfits, eqb-false n 2147483647 g) })
next_loss (negsuc n) e f g = absurd (pos-ne-negsuc _ n (sym e))

some_loss : (z : ℤ) (n : ℕ) → z ≡ pos (n + 1) → z ≡ pos 0 → ⊥
some_loss z n e f = let h : n + 1 ≡ 0 = ap nat_abs (sym e ∙ f) in omega arith

module _ (p : Shape) (q : Shaped p.rate p.subframes) (s : SilkDecoderState) (shape : shape_of s ≡ p) (k : Fine p.rate s) where
  module _ (c : SilkDecoderControl) (tc : TypedControl c) (free : eq_ℤ s.loss_cnt (pos 2147483647) ≡ false) where
    lost-before : Before p (record { state = remembered p (plc_conceal p s c).state (plc_conceal p s c).samples; control = (plc_conceal p s c).control; samples = (plc_conceal p s c).samples })
    unfolding remembered plc_conceal
    lost-before =
        let d = k.decoder in
        let n = next_loss s.loss_cnt d.loss_cnt k.typed.loss_cnt free in
        let w = conceal_samples p q s k.typed c k.plc in
        record {
          shape = shape;
          typed = remembered_typed p q _ _ (conceal_typed p q s k.typed c k.plc n.1) w;
          control = conceal_control p q s k.typed c k.plc tc;
          samples = w;
          loss = n.0 ∙ ap (λ (z : ℤ). pos (nat_abs z)) (sym n.0);
          lag = λ l. conceal_lag p q s k.typed c k.plc (p.subframes - 1) (omega (arith, q.count_high, q.count_low));
          type = d.prev_signal_type;
          gain = d.prev_gain_q16;
          first = d.first_frame_after_reset;
          lines = d.prev_nlsf_q15;
          plc = conceal_bounds p q s k.typed c k.plc;
          cng = k.cng;
          gains = λ e i l. absurd (some_loss _ _ n.0 (eq_ℤ_true _ _ e));
        }

    pub lost-fine : Fine p.rate (lost p s c).state
    unfolding lost
    lost-fine = finished-fine p q _ lost-before

  -- ---- a received frame
  module _ (f : Params) (c : SilkDecoderControl) (tc : TypedControl c) (rows : List (List ℤ)) (tr : TypedRows rows) (lines : List ℤ) (tl : Words w16 16 lines) (pulses : List ℤ) (tp : AllFit w16 pulses)
      (fit : ParamsFit p f c) (lf : AllBetween 0 32767 lines (lpc_order p)) where
    abbrev start : SilkDecoderState
    start = lined p s lines

    start-typed : Typed start
    start-typed = lined_typed p q s lines k.typed tl

    abbrev decoded : Outcome
    decoded = decode_core p start f c rows pulses

    last_gain : Between 81920 1686110208 (get_or c.gains_q16 (p.subframes - 1) (pos 0))
    last_gain = fit.gains (p.subframes - 1) (omega (arith, q.count_low))

    gains-kept : AllBetween 81920 1686110208 decoded.control.gains_q16 p.subframes
    gains-kept = rw (core_gains p q start start-typed f c tc rows pulses tp) (λ i l. fit.gains i l)

    samples-kept : Words w16 (frame_length p) decoded.samples
    samples-kept = core-samples p q start start-typed f c tc rows pulses tp

    control-kept : TypedControl decoded.control
    control-kept = core_control p q start start-typed f c tc rows pulses tp

    abbrev history : SilkDecoderState
    history = remembered p decoded.state decoded.samples

    history-typed : Typed history
    history-typed =
        remembered_typed p q decoded.state decoded.samples (core_typed p q start start-typed f c tc rows pulses tp (between_32 last_gain (omega arith))) samples-kept

    same : is_voiced f.signal ≡ true → decoded.control ≡ c
    same = core-same p q start start-typed f c tc rows pulses tp

    history-plc : PlcBounds p.rate history.s_plc
    unfolding remembered decode_core lined
    history-plc = k.plc

    decoded-fit : ParamsFit p f decoded.control
    decoded-fit =
        record {
          type = fit.type;
          offset = fit.offset;
          interpolation = fit.interpolation;
          gains = gains-kept;
          lags = λ v i l. rw (same v) (fit.lags v i l);
          scale = rw (core_scale p q start start-typed f c tc rows pulses tp) fit.scale;
          taps = λ v i l. rw (same v) (fit.taps v i l);
        }

    held-bounds : PlcBounds p.rate (plc_updated p (is_voiced f.signal) decoded.control (get_or rows 1 []) (plc_ready p history.s_plc))
    held-bounds = let d = decoded-fit in updated p history.s_plc q history-plc (is_voiced f.signal) decoded.control (get_or rows 1 []) d.gains d.scale d.lags d.taps

    held-typed : TypedPlc (plc_updated p (is_voiced f.signal) decoded.control (get_or rows 1 []) (plc_ready p history.s_plc))
    held-typed = let d = decoded-fit in updated_typed p history.s_plc q history-plc history-typed.s_plc (is_voiced f.signal) decoded.control (get_or rows 1 []) tr.second d.gains d.scale d.lags d.taps

    abbrev after : SilkDecoderState
    after = resumed (plc_update p history f.signal decoded.control rows) (signal_number f.signal)

    after-typed : Typed after
    unfolding resumed plc_update
    after-typed =
        let t = typed_plc (typed_type history-typed (between_32 fit.type (omega arith))) held-typed in
        typed_first (typed_losses (typed_type t (between_32 fit.type (omega arith))) (record { sfits = omega arith })) (record { sfits = omega arith })

    gain-kept : Between 65536 1686110208 decoded.state.prev_gain_q16
    gain-kept = rw (core_gain p q start start-typed f c tc rows pulses tp) (wider 65536 1686110208 (omega arith) (le_refl _) last_gain)

    decoded-lines : AllBetween 0 32767 decoded.state.prev_nlsf_q15 (lpc_order p)
    unfolding decode_core
    decoded-lines = lined_lines p q s lines tl lf

    decoded-shape : shape_of decoded.state ≡ p
    unfolding decode_core lined
    decoded-shape = shape

    decoded-cng : CngBounds p.rate decoded.state.s_cng
    unfolding decode_core lined
    decoded-cng = k.cng

    received-before : Before p (record { state = after; control = decoded.control; samples = decoded.samples })
    unfolding resumed plc_update remembered
    received-before =
        record {
          shape = decoded-shape;
          typed = after-typed;
          control = control-kept;
          samples = samples-kept;
          loss = refl;
          lag = λ l. absurd (omega arith);
          type = fit.type;
          gain = gain-kept;
          first = in_range 0 1 0 (omega arith) (omega arith);
          lines = decoded-lines;
          plc = held-bounds;
          cng = decoded-cng;
          gains = λ e. gains-kept;
        }

    pub received-fine : Fine p.rate (received p s f c rows lines pulses).state
    unfolding received
    received-fine = finished-fine p q _ received-before

-- ---- a whole frame
-- what a state has that stands in a list
pub record Good (s : SilkDecoderState) : Type 0 where
  pub accepted : Accepted (rate_of s.fs_khz) s
  pub typed : Typed s

fine : (s : SilkDecoderState) → Good s → Fine (rate_of s.fs_khz) s
fine s g =
    let b = bounds (rate_of s.fs_khz) s g.accepted in
    record { typed = g.typed; decoder = b.decoder; plc = b.plc; cng = b.cng }

shaped : (s : SilkDecoderState) → Good s → Shaped (shape_of s).rate (shape_of s).subframes
shaped s g = (bounds (rate_of s.fs_khz) s g.accepted).sizes.bounds

-- the sizes and the settings, which a frame leaves
abbrev SameSizes : SilkDecoderState → SilkDecoderState → Type 0
SameSizes s t = (t.fs_khz ≡ s.fs_khz) × (size_row t ≡ size_row s) × (t.settings ≡ s.settings)

-- a state of the same sizes and settings
good : (s t : SilkDecoderState) → Good s → SameSizes s t → Fine (rate_of s.fs_khz) t → Good t
good s t g z k =
    record {
      accepted =
          record {
            rate = ap (λ (z : ℤ). not (is_rate z)) z.0 ∙ g.accepted.rate;
            size = z.1 ∙ g.accepted.size;
            history =
                subst (λ (r : ℕ). history_row r t ≡ false) (ap rate_of (sym z.0))
                (history-fits (rate_of s.fs_khz) t k.decoder k.plc k.cng (ap settings_fit z.2 ∙ (bounds (rate_of s.fs_khz) s g.accepted).settings));
          };
      typed = k.typed;
    }

lost-sizes : (p : Shape) (s : SilkDecoderState) (c : SilkDecoderControl) → SameSizes s (lost p s c).state
unfolding size_row lost lag_kept glue_frames remembered plc_conceal
lost-sizes p s c = finished-keeps p _ (SameSizes s) (λ h frame. (refl, refl, refl))

received-sizes : (p : Shape) (s : SilkDecoderState) (f : Params) (c : SilkDecoderControl) (rows : List (List ℤ)) (lines pulses : List ℤ) → SameSizes s (received p s f c rows lines pulses).state
unfolding size_row received lag_kept glue_frames resumed plc_update remembered decode_core lined
received-sizes p s f c rows lines pulses = finished-keeps p _ (SameSizes s) (λ h frame. (refl, refl, refl))

pub lost-good : (s : SilkDecoderState) (c : SilkDecoderControl) → Good s → TypedControl c → eq_ℤ s.loss_cnt (pos 2147483647) ≡ false → Good (lost (shape_of s) s c).state
lost-good s c g tc free =
    good s _ g (lost-sizes (shape_of s) s c) (lost-fine (shape_of s) (shaped s g) s refl (fine s g) c tc free)

pub received-good : (s : SilkDecoderState) (f : Params) (c : SilkDecoderControl) (rows : List (List ℤ)) (lines pulses : List ℤ) → Good s → TypedControl c → TypedRows rows → TypedLines lines → AllFit w16 pulses → ParamsFit (shape_of s) f c → lines_fit (shape_of s).rate lines ≡ true → Good (received (shape_of s) s f c rows lines pulses).state
received-good s f c rows lines pulses g tc tr tl tp fit lf =
    good s _ g (received-sizes (shape_of s) s f c rows lines pulses)
    (received-fine (shape_of s) (shaped s g) s refl (fine s g) f c tc rows tr lines tl pulses tp fit (all_between 0 32767 lines (lpc_order (shape_of s)) lf))
