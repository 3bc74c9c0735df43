-- A whole frame on a state with other settings.
use Prim.Native.Nat.{ℕ}
use mathlib.Core.Path.{◌≡◌, refl, sym, ap, ◌∙◌}
use mathlib.Core.Bool.{Bool, true, false, not, cond, ◌&&◌}
use mathlib.Core.List.{List, [], ◌∷◌, ◌++◌, map}
use lib.IntN.{ℤ, pos, ◌+ℤ◌}
use lib.ListN.{length, get_or, take, drop}
use Rattle.word.specs.Int.{eq_ℤ}
use Rattle.std.specs.Prelude.{Result, Ok, Err}
use Rattle.refusal.specs.Refusals.{Judged, if_accepted, answered}
use Rattle.refusal.specs.declared.Refusal.{Refusal}
use Rattle.refusal.specs.First.{Row, ◌gives◌, first_of}
use Rattle.refusal.specs.declared.Refusal.TheVariants.{Rate, Size, History, Line}
use Rattle.shape.specs.Shape.{Shape, shape, is_rate, is_count, rate_of, frame_length, lpc_order}
use Rattle.decoder.specs.Ranges.{decoder_fits, plc_fits, cng_fits}
use Rattle.decoder.specs.Settings.{settings_fit, squelched}
use Rattle.decoder.specs.With.{with_settings}
use Rattle.decoder.specs.Rows.{rate_row, size_row, history_row, coming_rows}
use Rattle.decoder.specs.Reshape.{reshaped_by, reshaped}
use Rattle.decoder.specs.Outcome.{Outcome, Framed}
use Rattle.decoder.specs.declared.Answer.{Answer}
use Rattle.decoder.specs.declared.Settings.{Settings}
use Rattle.decoder.specs.declared.SilkDecoderState.{SilkDecoderState}
use Rattle.decoder.specs.declared.SilkDecoderControl.{SilkDecoderControl}
use Rattle.decoder.specs.declared.Params.{Params}
use Rattle.decoder.specs.declared.Frame.{Frame}
use Rattle.decoder.specs.declared.Frame.TheVariants.{Received, Lost}
use Rattle.judge.specs.Rows.{line_row, param_rows, room_rows, loss_rows, frame_rows}
use Rattle.decode_core.specs.Core.{transition, setting_of, start, decode_core}
use Rattle.plc.specs.Update.{plc_update}
use Rattle.plc.specs.Hold.{plc_ready}
use Rattle.plc.specs.Conceal.{heard, noise_place, coefficients, harm_gain, noise_gain, noise_scale, later_gain, lag_of, rewhitened, voices, voice_by, voice, signal_by, signal, concealed, held_by, held_after, lagged, plc_conceal}
use Rattle.decoder.specs.With.{with_memory, with_losses, with_plc, with_noise}
use Rattle.cng.specs.Noise.{cng_ready, hold_noise, heard_noise, exc_mask, seed_at, drawn, noise_filter, noise_signal, sounded, added_to, comfort_noise}
use Rattle.cng.specs.Noise as noise
use Rattle.sigproc.specs.Synthesis.{synthesis, played}
use Rattle.glue.specs.Glue.{glue_frames}
use Rattle.decode_frame.specs.WholeFrame.{lined, remembered, resumed, lag_kept, finished, received, lost, muted, whole_frame}
use Rattle.decode_frame.specs.Call.{Call, shape_at, state_at}
use Rattle.decode_frame.specs.Answer.{frame_refusal, frame_answer, frame_output}
use Rattle.decode_frame.proofs.Noised.{glued}

-- a squelch with an edition
abbrev pub by : ℤ → ℤ → Settings
by q e = record { squelch = q; edition = e }

abbrev outcome_with : Settings → Outcome → Outcome
outcome_with v o = record { state = with_settings o.state v; control = o.control; samples = o.samples }

abbrev framed_with : Settings → Framed → Framed
framed_with v f = record { state = with_settings f.state v; frame = f.frame }

either-with : (v : Settings) (b : Bool) (f g : Framed) → cond b (framed_with v f) (framed_with v g) ≡ framed_with v (cond b f g)
either-with v true f g = refl
either-with v false f g = refl

-- the noise's gain of a lost frame, and the filter of its noise, under an edition: a lost frame reads no other of its settings
abbrev pub gain_at : ℤ → Shape → SilkDecoderState → ℤ
gain_at e p s = noise_gain s.loss_cnt s.prev_signal_type e (take (lpc_order p) (coefficients p s (plc_ready p s.s_plc)))

abbrev pub filter_at : ℤ → Shape → SilkDecoderState → List ℤ
filter_at e p s = noise_filter e (lpc_order p) (cng_ready p.rate s.s_cng)

noised-with : (v : Settings) (p : Shape) (s : SilkDecoderState) (gains : List ℤ) (n : ℕ) (frame : List ℤ) → filter_at v.edition p s ≡ filter_at s.settings.edition p s → comfort_noise p (with_settings s v) gains n frame ≡ framed_with v (comfort_noise p s gains n frame)
unfolding comfort_noise sounded noise_signal
noised-with v p s gains n frame k =
    let h = cng_ready p.rate s.s_cng in
    let d = lpc_order p in
    let drew = drawn h.cng_exc_buf_q14 (exc_mask n) h.rand_seed n in
    ap (λ (a : List ℤ). cond (eq_ℤ s.loss_cnt (pos 0)) (framed_with v (record { state = with_noise s (heard_noise p s.exc_q14 s.prev_nlsf_q15 gains s.prev_signal_type s.s_cng); frame = frame }))
    (framed_with v (record {
      state = with_noise s (hold_noise h.cng_exc_buf_q14 h.cng_smth_nlsf_q15 (drop n (synthesis h.cng_synth_state drew a d n)) h.cng_smth_gain_q16 (seed_at h.rand_seed n) h.fs_khz);
      frame = added_to frame (synthesis h.cng_synth_state drew a d n) (noise.noise_gain s.s_plc.rand_scale_q14 (get_or s.s_plc.prev_gain_q16 1 (pos 0)) h.cng_smth_gain_q16) n;
    }))) k
    ∙ either-with v (eq_ℤ s.loss_cnt (pos 0)) _ _

finished-with : (v : Settings) (p : Shape) (o : Outcome) → filter_at v.edition p o.state ≡ filter_at o.state.settings.edition p o.state → finished p (outcome_with v o) ≡ outcome_with v (finished p o)
unfolding finished glue_frames lag_kept
finished-with v p o k =
    ap (glued p o.control) (noised-with v p o.state o.control.gains_q16 (frame_length p) o.samples k)

-- a lost frame on a state with settings v leaves what it leaves on the state as it is
abbrev pub LostWith : Settings → Shape → SilkDecoderState → SilkDecoderControl → Type 0
LostWith v p s c = lost p (with_settings s v) c ≡ outcome_with v (lost p s c)

pub lost-with : (v : Settings) (p : Shape) (s : SilkDecoderState) (c : SilkDecoderControl) → gain_at v.edition p s ≡ gain_at s.settings.edition p s → filter_at v.edition p s ≡ filter_at s.settings.edition p s → LostWith v p s c
unfolding lost remembered plc_conceal signal voice voice_by coefficients noise_place heard concealed held_after
lost-with v p s c g k =
    let h = plc_ready p s.s_plc in
    let a = coefficients p s h in
    let o = plc_conceal p s c in
    ap (λ (gain : ℤ).
    let w = voices p s.exc_q14 (noise_place p s h) (harm_gain s.loss_cnt) gain p.subframes (record { past = rewhitened p s.out_buf a h; taps = h.ltp_coef_q14; scale = noise_scale s.loss_cnt s.prev_signal_type h; pitch = h.pitch_l_q8; seed = h.rand_seed }) in
    let t = with_plc (with_losses (with_memory s (drop (frame_length p) (signal_by p w s.s_lpc_q14_buf a))) (s.loss_cnt +ℤ pos 1)) (held_by w a h) in
    let heard = map (played (later_gain h)) (drop 16 (signal_by p w s.s_lpc_q14_buf a)) in
    finished p (outcome_with v (record { state = remembered p t heard; control = lagged c (lag_of w.pitch); samples = heard }))) g
    ∙ finished-with v p (record { state = remembered p o.state o.samples; control = o.control; samples = o.samples }) k

-- a received one with any settings
received-with : (v : Settings) (p : Shape) (s : SilkDecoderState) (q : Params) (c : SilkDecoderControl) (rows : List (List ℤ)) (lines pulses : List ℤ)
    → received p (with_settings s v) q c rows lines pulses ≡ outcome_with v (received p s q c rows lines pulses)
unfolding received finished comfort_noise glue_frames lag_kept decode_core lined remembered plc_update resumed setting_of transition start
received-with v p s q c rows lines pulses = refl

-- ---- the rows
module _ (khz nb : ℤ) (v w : Settings) (s : SilkDecoderState) (e : settings_fit v ≡ settings_fit w) where
  history-with : history_row (rate_of khz) (reshaped khz nb (with_settings s v)) ≡ history_row (rate_of khz) (reshaped khz nb (with_settings s w))
  unfolding history_row decoder_fits reshaped reshaped_by
  history-with =
      ap (λ b. not (decoder_fits (rate_of khz) (reshaped khz nb s) && plc_fits (rate_of khz) s.s_plc && cng_fits (rate_of khz) s.s_cng && b)) e

  coming-with : coming_rows khz nb (with_settings s v) ≡ coming_rows khz nb (with_settings s w)
  unfolding size_row
  coming-with =
      ap (λ (b : Bool). (rate_row s gives Rate) ∷ (not (is_rate khz) gives Rate) ∷ (size_row s gives Size) ∷ (not (is_count nb) gives Size) ∷ (b gives History) ∷ []) history-with

  rows-with : (f : Frame) (c : SilkDecoderControl) (lines : List ℤ) (pulses output : ℕ) → first_of (frame_rows khz nb (with_settings s v) f c lines pulses output) ≡ first_of (frame_rows khz nb (with_settings s w) f c lines pulses output)
  rows-with (Received q) c lines pulses output =
      let p = shape khz nb in
      ap (λ (r : List Row). first_of (r ++ param_rows p q c ++ (line_row p lines gives Line) ∷ room_rows p pulses output)) coming-with
  rows-with Lost c lines pulses output = ap (λ (r : List Row). first_of (r ++ loss_rows (shape khz nb) s output)) coming-with

pub refusal_with : (v w : Settings) (s : SilkDecoderState) (x : Call) → settings_fit v ≡ settings_fit w → frame_refusal (with_settings s v) x ≡ frame_refusal (with_settings s w) x
unfolding frame_refusal
refusal_with v w s x e = rows-with x.rate x.subframes v w s e x.frame x.control x.lines (length x.pulses) (length x.output)

-- ---- the whole frame
module _ (p : Shape) (s : SilkDecoderState) (c : SilkDecoderControl) (rows : List (List ℤ)) (lines pulses : List ℤ) where
  -- the samples before a squelch
  abbrev plain : Frame → List ℤ
  plain (Received q) = (received p s q c rows lines pulses).samples
  plain Lost = (lost p s c).samples

  module _ (v : Settings) where
    state-with : (f : Frame) → (f ≡ Lost → LostWith v p s c) → (whole_frame p (with_settings s v) f c rows lines pulses).state ≡ with_settings (whole_frame p s f c rows lines pulses).state v
    unfolding whole_frame muted
    state-with (Received q) k = ap (λ (o : Outcome). o.state) (received-with v p s q c rows lines pulses)
    state-with Lost k = ap (λ (o : Outcome). o.state) (k refl)

    control-with : (f : Frame) → (f ≡ Lost → LostWith v p s c) → (whole_frame p (with_settings s v) f c rows lines pulses).control ≡ (whole_frame p s f c rows lines pulses).control
    unfolding whole_frame muted
    control-with (Received q) k = ap (λ (o : Outcome). o.control) (received-with v p s q c rows lines pulses)
    control-with Lost k = ap (λ (o : Outcome). o.control) (k refl)

    samples-with : (f : Frame) → (f ≡ Lost → LostWith v p s c) → (f ≡ Lost → squelched (with_settings s v) ≡ false) → (whole_frame p (with_settings s v) f c rows lines pulses).samples ≡ plain f
    unfolding whole_frame muted
    samples-with (Received q) k e = ap (λ (o : Outcome). o.samples) (received-with v p s q c rows lines pulses)
    samples-with Lost k e = rw (e refl) (ap (λ (o : Outcome). o.samples) (k refl))

-- ---- a call on a state with settings v, as it is judged
module _ (s : SilkDecoderState) (x : Call) (j : Judged) (v : Settings) (e : frame_refusal (with_settings s v) x ≡ j) (k : x.frame ≡ Lost → LostWith v (shape_at x) (state_at s x) x.control) where
  abbrev p : Shape
  p = shape_at x

  abbrev t : SilkDecoderState
  t = state_at s x

  -- what a frame that is taken leaves, whatever the settings
  abbrev new : Outcome
  new = whole_frame p t x.frame x.control x.rows x.lines x.pulses

  pub answer_left : frame_answer (with_settings s v) x ≡ answered j (record { state = with_settings new.state v; control = new.control })
  unfolding frame_answer reshaped reshaped_by
  answer_left i =
      answered (e i)
      (record {
        state = state-with p t x.control x.rows x.lines x.pulses v x.frame k i;
        control = control-with p t x.control x.rows x.lines x.pulses v x.frame k i;
      })

  pub output-left : (x.frame ≡ Lost → squelched (with_settings s v) ≡ false) → frame_output (with_settings s v) x ≡ if_accepted j (plain p t x.control x.rows x.lines x.pulses x.frame ++ drop (frame_length p) x.output) x.output
  unfolding frame_output squelched reshaped reshaped_by
  output-left l i =
      if_accepted (e i) (samples-with p t x.control x.rows x.lines x.pulses v x.frame k l i ++ drop (frame_length p) x.output) x.output

-- an answer that is changed where it has a value
pub changed : (f : Result Answer Refusal → Result Answer Refusal) (j : Judged) (a b : Answer) → Ok b ≡ f (Ok a) → ((r : Refusal) → Err r ≡ f (Err r)) → answered j b ≡ f (answered j a)
changed f (Ok u) a b h g = h
changed f (Err r) a b h g = g r

-- a lost frame with settings of the same edition
pub same_edition : (s : SilkDecoderState) (x : Call) (v : Settings) → v.edition ≡ s.settings.edition → x.frame ≡ Lost → LostWith v (shape_at x) (state_at s x) x.control
unfolding reshaped reshaped_by
same_edition s x v e z =
    let p = shape_at x in
    let t = state_at s x in
    lost-with v p t x.control (ap (λ (e : ℤ). gain_at e p t) e) (ap (λ (e : ℤ). filter_at e p t) e)
