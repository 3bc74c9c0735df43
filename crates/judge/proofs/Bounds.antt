-- What holds of a call that is not refused.
use Prim.Native.Nat.{ℕ, ◌*◌, ◌<◌, ◌≤◌}
use mathlib.Core.Path.{◌≡◌, refl, sym, ap, ◌∙◌}
use mathlib.Core.Bool.{Bool, true, false, ◌&&◌, ◌||◌, false≢true}
use mathlib.Core.List.{List, ◌++◌}
use native.Mathlib.Nat.{pos_of_ne-zero}
use borrow.Author.Tests.{not-false, ltb-false, eqb-false}
use lib.Dec.{eqb, ltb}
use lib.IntN.{ℤ, pos}
use lib.ListN.{get_or}
use mir.Syntax.{w16}
use mir.Val.{SFits}
use Rattle.word.specs.Int.{eq_ℤ}
use Rattle.refusal.specs.First.{Row, first_of}
use Rattle.std.specs.Prelude.{Ok, Err}
use Rattle.refusal.specs.Refusals.{Judged, code_of, if_accepted}
use Rattle.refusal.proofs.Clear.{Clear, refuses, clear, first-append}
use Rattle.shape.specs.Shape.{Shape, shape, rate_of, frame_length}
use Rattle.decoder.specs.Signals.{signal_number, is_type, is_voiced}
use Rattle.decoder.specs.State.{shape_of}
use Rattle.decoder.specs.Ranges.{within, all_within, only_if, lines_fit}
use Rattle.decoder.specs.Reshape.{reshaped_by, reshaped}
use Rattle.decoder.specs.Rows.{state_rows, coming_rows}
use Rattle.decoder.specs.Accepted.{Accepted}
use Rattle.decoder.specs.declared.SilkDecoderState.{SilkDecoderState}
use Rattle.decoder.specs.declared.SilkDecoderControl.{SilkDecoderControl}
use Rattle.decoder.specs.declared.Params.{Params}
use Rattle.decoder.specs.declared.Frame.{Frame}
use Rattle.decoder.specs.declared.Frame.TheVariants.{Received, Lost}
use Rattle.judge.specs.Taps.{tap_sum, taps_fit}
use Rattle.judge.specs.Rows.{signal_row, gain_row, lag_row, taps_row, length_row, param_rows, received_rows, lost_rows, frame_rows, core_rows, plc_received_rows, plc_lost_rows, glue_rows, cng_rows}
use Rattle.word.proofs.Rows.{both, neither}
use Rattle.decoder.proofs.Bounds.{state_clear}
use Rattle.decoder.proofs.Between.{Between, only, between, all_between}
use Rattle.decoder.proofs.Coming.{coming_accepted}
use Rattle.judge.proofs.Sums.{each_fits}

-- ---- rows 5 to 8
-- each of the n gains is in its range
abbrev pub GainsFit : Shape → SilkDecoderControl → Type 0
GainsFit p c = (k : ℕ) → k < p.subframes → Between 81920 1686110208 (get_or c.gains_q16 k (pos 0))

pub record ParamsFit (p : Shape) (q : Params) (c : SilkDecoderControl) : Type 0 where
  pub type : Between 0 2 (signal_number q.signal)
  pub offset : Between 0 1 q.quant_offset_type
  pub interpolation : Between 0 4 q.nlsf_interp_coef_q2
  pub gains : GainsFit p c
  pub lags : is_voiced q.signal ≡ true → (k : ℕ) → k < p.subframes → Between (2 * p.rate) (18 * p.rate) (get_or c.pitch_l k (pos 0))
  pub scale : Between 0 16384 c.ltp_scale_q14
  pub taps : is_voiced q.signal ≡ true → (k : ℕ) → k < p.subframes → SFits w16 (tap_sum c.ltp_coef_q14 k)

gains_fit : (p : Shape) (c : SilkDecoderControl) → gain_row p.subframes c ≡ false → GainsFit p c
unfolding gain_row
gains_fit p c e = all_between 81920 1686110208 c.gains_q16 p.subframes (not-false _ e)

params_fit : (p : Shape) (q : Params) (c : SilkDecoderControl) → Clear (param_rows p q c) → ParamsFit p q c
unfolding signal_row is_type lag_row taps_row
params_fit p q c h =
    let v = is_voiced q.signal in
    let s = both (is_type q.signal && within (pos 0) (pos 1) q.quant_offset_type) (within (pos 0) (pos 4) q.nlsf_interp_coef_q2) (not-false _ h.0) in
    let t = both (is_type q.signal) (within (pos 0) (pos 1) q.quant_offset_type) s.0 in
    let l = only v (all_within (pos (2 * p.rate)) (pos (18 * p.rate)) c.pitch_l p.subframes) (not-false _ h.1.1.0) in
    let u = both (within (pos 0) (pos 16384) c.ltp_scale_q14) (only_if v (taps_fit c.ltp_coef_q14 p.subframes)) (not-false _ h.1.1.1.0) in
    record {
      type = between 0 2 (signal_number q.signal) t.0;
      offset = between 0 1 q.quant_offset_type t.1;
      interpolation = between 0 4 q.nlsf_interp_coef_q2 s.1;
      gains = gains_fit p c h.1.0;
      lags = λ e. all_between (2 * p.rate) (18 * p.rate) c.pitch_l p.subframes (l e);
      scale = between 0 16384 c.ltp_scale_q14 u.0;
      taps = λ e. each_fits c.ltp_coef_q14 p.subframes (only v (taps_fit c.ltp_coef_q14 p.subframes) u.1 e);
    }

-- ---- row 12
pub record LengthFits (lent n : ℕ) : Type 0 where
  pub some : 1 ≤ n
  pub most : n ≤ 320
  pub room : n ≤ lent

length-fits : (lent n : ℕ) → length_row lent n ≡ false → LengthFits lent n
unfolding length_row
length-fits lent n e =
    let a = neither (eqb n 0 || ltb 320 n) (ltb lent n) e in
    let b = neither (eqb n 0) (ltb 320 n) a.0 in
    let z = eqb-false n 0 b.0 in
    record { some = pos_of_ne-zero z; most = ltb-false 320 n b.1; room = ltb-false lent n a.1 }

-- ---- a call of each kind
pub record CoreFits (s : SilkDecoderState) (q : Params) (c : SilkDecoderControl) (pulses output : ℕ) : Type 0 where
  pub accepted : Accepted (rate_of s.fs_khz) s
  pub params : ParamsFit (shape_of s) q c
  pub pulses_lent : frame_length (shape_of s) ≤ pulses
  pub output_lent : frame_length (shape_of s) ≤ output

pub record ReceivedFits (s : SilkDecoderState) (q : Params) (c : SilkDecoderControl) (lines : List ℤ) (pulses output : ℕ) : Type 0 where
  pub core : CoreFits s q c pulses output
  pub lines_fit : lines_fit (rate_of s.fs_khz) lines ≡ true

pub record LostFits (s : SilkDecoderState) (output : ℕ) : Type 0 where
  pub accepted : Accepted (rate_of s.fs_khz) s
  pub not_full : eq_ℤ s.loss_cnt (pos 2147483647) ≡ false
  pub output_lent : frame_length (shape_of s) ≤ output

pub record PlcReceivedFits (s : SilkDecoderState) (q : Params) (c : SilkDecoderControl) : Type 0 where
  pub accepted : Accepted (rate_of s.fs_khz) s
  pub params : ParamsFit (shape_of s) q c

pub record GlueFits (s : SilkDecoderState) (lent n : ℕ) : Type 0 where
  pub accepted : Accepted (rate_of s.fs_khz) s
  pub length_fit : LengthFits lent n

pub record CngFits (s : SilkDecoderState) (c : SilkDecoderControl) (lent n : ℕ) : Type 0 where
  pub accepted : Accepted (rate_of s.fs_khz) s
  pub gains : eq_ℤ s.loss_cnt (pos 0) ≡ true → GainsFit (shape_of s) c
  pub length_fit : LengthFits lent n

-- of two runs of rows: the first are clear, and the rest is met
met : (xs ys : List Row) → code_of (first_of (xs ++ ys)) ≡ 0 → Clear xs × (code_of (first_of ys) ≡ 0)
met xs ys e = go (first_of xs) refl (ap code_of (sym (first-append xs ys)) ∙ e)
  where
    go : (j : Judged) → first_of xs ≡ j → code_of (if_accepted j (first_of ys) j) ≡ 0 → Clear xs × (code_of (first_of ys) ≡ 0)
    go (Ok u) h z = (clear xs (ap code_of h), z)
    go (Err r) h z = absurd (refuses r z)

-- a row that is met only under a condition, where the condition holds
only-off : (a b : Bool) → a ≡ true → (a && b) ≡ false → b ≡ false
only-off true b h e = e
only-off false b h e = absurd (false≢true h)

-- a whole frame: on the state as the coming shape leaves it
module _ (khz nb : ℤ) (s : SilkDecoderState) where
  pub received-fits : (q : Params) (c : SilkDecoderControl) (lines : List ℤ) (pulses output : ℕ) → code_of (first_of (received_rows khz nb s q c lines pulses output)) ≡ 0
      → ReceivedFits (reshaped khz nb s) q c lines pulses output
  unfolding reshaped reshaped_by
  received-fits q c lines pulses output e =
      let p = shape khz nb in
      let f = met (coming_rows khz nb s) _ e in
      let g = met (param_rows p q c) _ f.1 in
      let h = (clear _ g.1) in
      record {
        core =
            record {
              accepted = coming_accepted khz nb s f.0;
              params = params_fit p q c g.0;
              pulses_lent = ltb-false pulses (frame_length p) h.1.0;
              output_lent = ltb-false output (frame_length p) h.1.1.0;
            };
        lines_fit = not-false _ h.0;
      }

  pub lost-fits : (output : ℕ) → code_of (first_of (lost_rows khz nb s output)) ≡ 0 → LostFits (reshaped khz nb s) output
  unfolding reshaped reshaped_by
  lost-fits output e =
      let f = met (coming_rows khz nb s) _ e in
      let h = (clear _ f.1) in
      record {
        accepted = coming_accepted khz nb s f.0;
        not_full = h.0;
        output_lent = ltb-false output (frame_length (shape khz nb)) h.1.0;
      }

  pub frame-accepted : (f : Frame) (c : SilkDecoderControl) (lines : List ℤ) (pulses output : ℕ) → code_of (first_of (frame_rows khz nb s f c lines pulses output)) ≡ 0
      → Accepted (rate_of (reshaped khz nb s).fs_khz) (reshaped khz nb s)
  frame-accepted (Received q) c lines pulses output e = (received-fits q c lines pulses output e).core.accepted
  frame-accepted Lost c lines pulses output e = (lost-fits output e).accepted

pub core-fits : (s : SilkDecoderState) (q : Params) (c : SilkDecoderControl) (pulses output : ℕ) → code_of (first_of (core_rows s q c pulses output)) ≡ 0 → CoreFits s q c pulses output
core-fits s q c pulses output e =
    let f = met (state_rows s) _ e in
    let g = met (param_rows (shape_of s) q c) _ f.1 in
    let h = (clear _ g.1) in
    record {
      accepted = state_clear s f.0;
      params = params_fit (shape_of s) q c g.0;
      pulses_lent = ltb-false pulses (frame_length (shape_of s)) h.0;
      output_lent = ltb-false output (frame_length (shape_of s)) h.1.0;
    }

pub plc_received-fits : (s : SilkDecoderState) (q : Params) (c : SilkDecoderControl) → code_of (first_of (plc_received_rows s q c)) ≡ 0 → PlcReceivedFits s q c
plc_received-fits s q c e =
    let f = met (state_rows s) _ e in
    record { accepted = state_clear s f.0; params = params_fit (shape_of s) q c (clear _ f.1) }

pub plc_lost-fits : (s : SilkDecoderState) (output : ℕ) → code_of (first_of (plc_lost_rows s output)) ≡ 0 → LostFits s output
plc_lost-fits s output e =
    let f = met (state_rows s) _ e in
    let h = (clear _ f.1) in
    record {
      accepted = state_clear s f.0;
      not_full = h.0;
      output_lent = ltb-false output (frame_length (shape_of s)) h.1.0;
    }

pub glue_fits : (s : SilkDecoderState) (lent n : ℕ) → code_of (first_of (glue_rows s lent n)) ≡ 0 → GlueFits s lent n
glue_fits s lent n e =
    let f = met (state_rows s) _ e in
    record { accepted = state_clear s f.0; length_fit = length-fits lent n (clear _ f.1).0 }

pub cng_fits_lem : (s : SilkDecoderState) (c : SilkDecoderControl) (lent n : ℕ) → code_of (first_of (cng_rows s c lent n)) ≡ 0 → CngFits s c lent n
cng_fits_lem s c lent n e =
    let f = met (state_rows s) _ e in
    let h = (clear _ f.1) in
    record {
      accepted = state_clear s f.0;
      gains = λ z. gains_fit (shape_of s) c (only-off (eq_ℤ s.loss_cnt (pos 0)) (gain_row (shape_of s).subframes c) z h.0);
      length_fit = length-fits lent n h.1.0;
    }
