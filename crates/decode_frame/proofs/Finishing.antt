-- What the parts of a whole frame keep of a state: its types and row 3's bounds.
use Prim.Native.Nat.{ℕ, ◌-◌, ◌*◌, ◌<◌, ◌≤◌}
use mathlib.Core.Path.{◌≡◌, sym, subst, ◌∙◌}
use mathlib.Core.Bool.{true}
use mathlib.Core.List.{List}
use native.Mathlib.Omega.{arith}
use native.Mathlib.Nat.{le_refl}
use lib.IntN.{ℤ, pos, nat_abs}
use lib.ListN.{get_or, take, drop, get_or-append}
use lib.Seq.{length-take-le, get_or-take}
use mir.Syntax.{w16}
use Rattle.word.specs.Int.{eq_ℤ}
use Rattle.sigproc.proofs.Places.{length-update_out_buf}
use Rattle.sigproc.proofs.Ranges.{update_out_buf-fits}
use Rattle.shape.specs.Shape.{Shape, frame_length, mem_length, lpc_order}
use Rattle.shape.proofs.Shapes.{Shaped}
use Rattle.decoder.specs.State.{shape_of}
use Rattle.decoder.specs.Outcome.{Outcome, Framed}
use Rattle.decoder.specs.Typed.{Words, Typed, TypedControl}
use Rattle.decoder.specs.declared.SilkCNGState.{SilkCNGState}
use Rattle.decoder.specs.declared.SilkDecoderState.{SilkDecoderState}
use Rattle.decoder.proofs.Between.{Between, AllBetween}
use Rattle.decoder.proofs.Bounds.{DecoderBounds, PlcBounds, CngHeldBounds, CngBounds}
use Rattle.decoder.proofs.Types.{take_words}
use Rattle.decoder.proofs.Built.{words, words-front, typed_lines, typed_out_buf, typed_lag}
use Rattle.decoder.specs.With.{with_noise}
use Rattle.cng.specs.Noise.{comfort_noise}
use Rattle.cng.proofs.Cases.{by_cases}
use Rattle.cng.proofs.Kept.{comfort_held, comfort_typed, comfort_frame}
use Rattle.glue.specs.Glue.{glue_frames}
use Rattle.glue.proofs.Glued.{glued-bounds, glued_typed}
use Rattle.decode_frame.specs.WholeFrame.{lined, remembered, lag_kept, finished}

-- the types and row 3's bounds at a rate
pub record Fine (r : ℕ) (s : SilkDecoderState) : Type 0 where
  pub typed : Typed s
  pub decoder : DecoderBounds r s
  pub plc : PlcBounds r s.s_plc
  pub cng : CngBounds r s.s_cng

-- what holds before noise: lag_prev is not yet written
pub record Before (p : Shape) (o : Outcome) : Type 0 where
  pub shape : shape_of o.state ≡ p
  pub typed : Typed o.state
  pub control : TypedControl o.control
  pub samples : Words w16 (frame_length p) o.samples
  pub loss : o.state.loss_cnt ≡ pos (nat_abs o.state.loss_cnt)
  pub lag : 0 < nat_abs o.state.loss_cnt → Between (2 * p.rate) (18 * p.rate) (get_or o.control.pitch_l (p.subframes - 1) (pos 0))
  pub type : Between 0 2 o.state.prev_signal_type
  pub gain : Between 65536 1686110208 o.state.prev_gain_q16
  pub first : Between 0 1 o.state.first_frame_after_reset
  pub lines : AllBetween 0 32767 o.state.prev_nlsf_q15 (lpc_order p)
  pub plc : PlcBounds p.rate o.state.s_plc
  pub cng : CngBounds p.rate o.state.s_cng
  pub gains : eq_ℤ o.state.loss_cnt (pos 0) ≡ true → AllBetween 81920 1686110208 o.control.gains_q16 p.subframes

-- noise changes its own part of the state alone
noised-keeps : (p : Shape) (s : SilkDecoderState) (gains : List ℤ) (n : ℕ) (frame : List ℤ) (Q : SilkDecoderState → Type 0) → ((h : SilkCNGState) → Q (with_noise s h)) → Q (comfort_noise p s gains n frame).state
noised-keeps p s gains n frame Q f = by_cases p s gains n frame (λ (x : Framed). Q x.state) (λ e. f _) (λ gain. f _)

-- what holds of every state that differs in noise and gluing's part holds after both
pub finished-keeps : (p : Shape) (o : Outcome) (Q : SilkDecoderState → Type 0) → ((h : SilkCNGState) (frame : List ℤ) → Q (lag_kept p (glue_frames (with_noise o.state h) frame).state o.control)) → Q (finished p o).state
unfolding finished
finished-keeps p o Q f =
    let frame = (comfort_noise p o.state o.control.gains_q16 (frame_length p) o.samples).frame in
    noised-keeps p o.state o.control.gains_q16 (frame_length p) o.samples (λ x. Q (lag_kept p (glue_frames x frame).state o.control)) (λ h. f h frame)

module _ (p : Shape) (q : Shaped p.rate p.subframes) where
  -- ---- lines and history
  pub lined_typed : (s : SilkDecoderState) (lines : List ℤ) → Typed s → Words w16 16 lines → Typed (lined p s lines)
  unfolding lined
  lined_typed s lines t w =
      typed_lines t (words-front (take (lpc_order p) lines) s.prev_nlsf_q15 (take_words (lpc_order p) lines q.order_high w) t.prev_nlsf_q15 q.order_high)

  pub lined_lines : (s : SilkDecoderState) (lines : List ℤ) → Words w16 16 lines → AllBetween 0 32767 lines (lpc_order p) → AllBetween 0 32767 (lined p s lines).prev_nlsf_q15 (lpc_order p)
  unfolding lined
  lined_lines s lines w h k l =
      let d = lpc_order p in
      let n = length-take-le d lines (omega (arith, w.count, q.order_high)) in
      rw (get_or-append (take d lines) (drop d s.prev_nlsf_q15) (pos 0) k (omega arith), get_or-take d lines k (pos 0) l) (h k l)

  pub remembered_typed : (s : SilkDecoderState) (frame : List ℤ) → Typed s → Words w16 (frame_length p) frame → Typed (remembered p s frame)
  unfolding remembered
  remembered_typed s frame t w =
      let b = t.out_buf in
      typed_out_buf t
      (words (length-update_out_buf s.out_buf (mem_length p) frame (omega (arith, w.count, q.frame_high)) (omega (arith, b.count, q.rate_high)) ∙ b.count) (update_out_buf-fits s.out_buf (mem_length p) frame b.fits w.fits))

  -- ---- noise, gluing and lag_prev
  module _ (o : Outcome) (b : Before p o) where
    abbrev noised : SilkDecoderState
    noised = (comfort_noise p o.state o.control.gains_q16 (frame_length p) o.samples).state

    abbrev frame : List ℤ
    frame = (comfort_noise p o.state o.control.gains_q16 (frame_length p) o.samples).frame

    -- the state's own shape
    shaped : Shaped (shape_of o.state).rate (shape_of o.state).subframes
    shaped = subst (λ (x : Shape). Shaped x.rate x.subframes) (sym b.shape) q

    noised-fine : Typed noised
    noised-fine =
        subst (λ (x : Shape). Typed (comfort_noise x o.state o.control.gains_q16 (frame_length p) o.samples).state) b.shape
        (comfort_typed o.state o.control.gains_q16 (frame_length p) o.samples shaped b.control.gains_q16.fits b.typed)

    frame-fine : Words w16 (frame_length p) frame
    frame-fine =
        subst (λ (x : Shape). Words w16 (frame_length p) (comfort_noise x o.state o.control.gains_q16 (frame_length p) o.samples).frame) b.shape
        (comfort_frame o.state o.control.gains_q16 (frame_length p) (frame_length p) o.samples (le_refl _) b.samples)

    least : 1 ≤ frame_length p
    least = omega (arith, q.frame_low, q.rate_low)

    most : frame_length p ≤ 320
    most = omega (arith, q.frame_high, q.rate_high)

    noised-plc : PlcBounds p.rate noised.s_plc
    noised-plc = noised-keeps p o.state o.control.gains_q16 (frame_length p) o.samples (λ x. PlcBounds p.rate x.s_plc) (λ h. b.plc)

    noised-cng : CngBounds p.rate noised.s_cng
    noised-cng e =
        subst (λ (x : Shape). CngHeldBounds x.rate (comfort_noise x o.state o.control.gains_q16 (frame_length p) o.samples).state.s_cng) b.shape
        (comfort_held o.state o.control.gains_q16 (frame_length p) o.samples 81920 (subst (λ (x : Shape). CngBounds x.rate o.state.s_cng) (sym b.shape) b.cng)
        (subst (λ (x : Shape). AllBetween 0 32767 o.state.prev_nlsf_q15 (lpc_order x)) (sym b.shape) b.lines)
        (subst (λ (x : Shape). eq_ℤ o.state.loss_cnt (pos 0) ≡ true → AllBetween 81920 1686110208 o.control.gains_q16 x.subframes) (sym b.shape) b.gains))

    cng-kept : CngBounds p.rate (finished p o).state.s_cng
    unfolding finished lag_kept glue_frames
    cng-kept = noised-cng

    plc-kept : PlcBounds p.rate (finished p o).state.s_plc
    unfolding finished lag_kept
    plc-kept = glued-bounds p.rate noised frame (omega (arith, frame-fine.count, most)) noised-plc

    typed-kept : Typed (finished p o).state
    unfolding finished lag_kept
    typed-kept =
        typed_lag (glued_typed noised (frame_length p) frame least most frame-fine noised-fine) (b.control.pitch_l.fits (p.subframes - 1))

    decoder-kept : DecoderBounds p.rate (finished p o).state
    unfolding lag_kept glue_frames
    decoder-kept =
        finished-keeps p o (DecoderBounds p.rate)
        (λ h frame. record {
          loss_cnt = b.loss;
          lag_prev = b.lag;
          prev_signal_type = b.type;
          prev_gain_q16 = b.gain;
          first_frame_after_reset = b.first;
          prev_nlsf_q15 = b.lines;
        })

    pub finished-fine : Fine p.rate (finished p o).state
    finished-fine = record { typed = typed-kept; decoder = decoder-kept; plc = plc-kept; cng = cng-kept }
