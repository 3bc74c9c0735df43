-- Lags and taps that are put are those that are read, and all else is read as before.
use Prim.Native.Nat.{ℕ, ◌+◌, ◌≤◌, ◌<◌}
use mathlib.Core.Path.{◌≡◌, sym, ap, ◌∙◌}
use mathlib.Core.Bool.{cond}
use mathlib.Core.List.{List, [], ◌∷◌}
use native.Mathlib.Omega.{arith}
use lib.Dec.{lit<}
use lib.IntN.{ℤ, pos}
use lib.ListN.{length, take, drop}
use lib.Seq.{get_or-drop}
use mir.Syntax.{w8}
use Rattle.word.specs.Int.{eq_ℤ, wrap}
use Rattle.decoder.specs.Signals.{signal_of}
use Rattle.decoder.specs.Typed.{TypedControl}
use Rattle.decoder.specs.declared.Frame.TheVariants.{Received, Lost}
use Rattle.decoder.specs.declared.SilkDecoderControl.{SilkDecoderControl}
use Rattle.layout.specs.Layout.{part, one}
use Rattle.layout.specs.Frame.{FRAME, COEFS, small, params_in, frame_in, control_in, rows_in, with_lags, with_taps, FrameStored}
use Rattle.layout.proofs.Pieces.{put-before, put_there, put-behind}

module _ (frame coefs : List ℤ) (c : SilkDecoderControl) (f : FRAME ≤ length frame) (k : COEFS ≤ length coefs) (t : TypedControl c) where
  lags : part (with_lags frame c) 7 4 ≡ c.pitch_l
  unfolding with_lags
  lags = rw t.pitch_l.count at (put_there frame c.pitch_l 7 11 (rw t.pitch_l.count) (omega arith))

  -- the numbers before the lags, and from the gains on
  before : (i : ℕ) → i < 7 → one (with_lags frame c) i ≡ one frame i
  unfolding with_lags
  before = put-before frame c.pitch_l 7 11 (rw t.pitch_l.count) (omega arith)

  behind : (i : ℕ) → drop (11 + i) (with_lags frame c) ≡ drop (11 + i) frame
  unfolding with_lags
  behind = put-behind frame c.pitch_l 7 11 (rw t.pitch_l.count) (omega arith)

  scale : one (with_lags frame c) 15 ≡ one frame 15
  scale = sym (get_or-drop 15 (with_lags frame c) 0 (pos 0)) ∙ ap (λ (xs : List ℤ). one xs 0) (behind 4) ∙ get_or-drop 15 frame 0 (pos 0)

  taps : part (with_taps coefs c) 0 20 ≡ c.ltp_coef_q14
  unfolding with_taps
  taps = rw t.ltp_coef_q14.count at (put_there coefs c.ltp_coef_q14 0 20 (rw t.ltp_coef_q14.count) (omega arith))

  -- 16 coefficients behind the taps
  beside : (i : ℕ) → part (with_taps coefs c) (20 + i) 16 ≡ part coefs (20 + i) 16
  unfolding with_taps
  beside i = ap (take 16) (put-behind coefs c.ltp_coef_q14 0 20 (rw t.ltp_coef_q14.count) (omega arith) i)

  pub control_stored : control_in (with_lags frame c) (with_taps coefs c) ≡ record { pitch_l = c.pitch_l; gains_q16 = part frame 11 4; ltp_coef_q14 = c.ltp_coef_q14; ltp_scale_q14 = one frame 15 }
  unfolding control_in
  control_stored = λ i. record { pitch_l = lags i; gains_q16 = take 4 (behind 0 i); ltp_coef_q14 = taps i; ltp_scale_q14 = scale i }

  params-kept : params_in (with_lags frame c) ≡ params_in frame
  unfolding params_in
  params-kept = λ i. record {
    signal = signal_of (small (before 3 (lit< tt) i));
    quant_offset_type = small (before 4 (lit< tt) i);
    nlsf_interp_coef_q2 = small (before 5 (lit< tt) i);
    seed = wrap w8 (before 6 (lit< tt) i);
  }

  pub frame-kept : frame_in (with_lags frame c) ≡ frame_in frame
  unfolding frame_in
  frame-kept = λ i. cond (eq_ℤ (before 0 (lit< tt) i) (pos 0)) Lost (Received (params-kept i))

  pub rows-kept : rows_in (with_taps coefs c) ≡ rows_in coefs
  unfolding rows_in
  rows-kept = λ i. beside 0 i ∷ beside 16 i ∷ []

  pub lines_kept : part (with_taps coefs c) 52 16 ≡ part coefs 52 16
  lines_kept = beside 32

pub frame-stored : FrameStored
frame-stored frame coefs c f k t =
    (control_stored frame coefs c f k t, frame-kept frame coefs c f k t, rows-kept frame coefs c f k t, lines_kept frame coefs c f k t)
