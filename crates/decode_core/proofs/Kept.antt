-- Core keeps a state and a description in the ranges of their types; the gain that it leaves, its samples.
use Prim.Native.Nat.{ℕ, zero, suc, ◌+◌, ◌-◌, ◌*◌, ◌<◌, ◌≤◌}
use mathlib.Core.Path.{◌≡◌, refl, sym, ap, subst, ◌∙◌}
use mathlib.Core.Bool.{Bool, true, false, cond, ◌&&◌, false≢true}
use mathlib.Core.List.{List, [], ◌∷◌, map}
use native.Mathlib.Omega.{arith}
use native.Mathlib.Nat.{mul-suc, mul-zero}
use borrow.Author.Tests.{eqb-true, ltb-true}
use lib.Dec.{eqb, ltb}
use lib.IntN.{ℤ, pos, negsuc, nat_abs, neg_ℤ, ◌+ℤ◌, ◌-ℤ◌, ◌*ℤ◌}
use lib.ListN.{get_or, length, replicate, length-append}
use lib.Signed.{lt_z}
use mir.Syntax.{w16, w32}
use mir.Val.{SFits}
use Rattle.std.specs.Bool.{then_some}
use Rattle.std.specs.Option.{unwrap_or}
use Rattle.word.specs.Int.{eq_ℤ}
use Rattle.word.proofs.Lists.{length_snoc}
use Rattle.word.proofs.Sizes.{abs-add, abs-sub, abs-mul, abs_neg, abs-fits, fits-abs}
use Rattle.macros.specs.Fixed.{rand, smulww}
use Rattle.word.proofs.Fits.{zero_fits, AllFit, append-fits, one-fits, drop-fits, set-fits, replicate-fits, map-fits}
use Rattle.macros.proofs.Ranges.{smulww-fits}
use Rattle.sigproc.specs.Place.{put_at}
use Rattle.std.proofs.Math.Bool.{and-false}
use Rattle.std.proofs.lemmas.List.{length-map}
use Rattle.sigproc.proofs.Places.{length-put_at}
use Rattle.sigproc.proofs.Filter.{memory_length}
use Rattle.sigproc.proofs.Ranges.{put_at-fits, synthesis-fits}
use Rattle.sigproc.proofs.Frames.{played-length, played-frame}
use Rattle.shape.specs.Shape.{Shape, subfr_length, frame_length}
use Rattle.shape.proofs.Shapes.{Shaped}
use Rattle.decoder.specs.Signals.{is_voiced}
use Rattle.decoder.specs.Typed.{Words, Typed, TypedControl}
use Rattle.decoder.specs.declared.SilkDecoderState.{SilkDecoderState}
use Rattle.decoder.specs.declared.SilkDecoderControl.{SilkDecoderControl}
use Rattle.decoder.specs.declared.Params.{Params}
use Rattle.decoder.proofs.Types.{set_words}
use Rattle.decoder.proofs.Built.{words, words-front, typed_gain, typed_exc, typed_memory, typed_out_buf}
use Rattle.excitation.specs.Excitation.{offset_q14, level, excited, generator_at, excitation}
use Rattle.decode_core.specs.Core.{Core, transition, transits, held_lag, smoothed, gain_adjustment, setting_of, long, rewhitens, control_at, buffer_at, subframe, subframes, start, core_excitation, decode_core}
use Rattle.decode_core.specs.declared.Setting.{Setting}

-- ---- the excitation
level-small : (x : ℤ) → SFits w16 x → nat_abs (level x) ≤ 32768 * 16384 + 1280
unfolding level
level-small x f = go (lt_z (pos 0) x) (lt_z x (pos 0))
  where
    go : (a b : Bool) → nat_abs (x *ℤ pos 16384 -ℤ cond a (pos 1280) (cond b (negsuc 1279) (pos 0))) ≤ 32768 * 16384 + 1280
    go true b = omega (arith, abs-sub (x *ℤ pos 16384) (pos 1280), abs-mul x (pos 16384), fits-abs x f)
    go false true = omega (arith, abs-sub (x *ℤ pos 16384) (negsuc 1279), abs-mul x (pos 16384), fits-abs x f)
    go false false = omega (arith, abs-sub (x *ℤ pos 16384) (pos 0), abs-mul x (pos 16384), fits-abs x f)

offset_small : (v : Bool) (o : ℤ) → nat_abs (offset_q14 v o) ≤ 3840
unfolding offset_q14
offset_small v o = go v (eq_ℤ o (pos 0))
  where
    go : (v b : Bool) → nat_abs (cond v (cond b (pos 32) (pos 100)) (cond b (pos 100) (pos 240)) *ℤ pos 16) ≤ 3840
    go true true = omega arith
    go true false = omega arith
    go false true = omega arith
    go false false = omega arith

excited-fits : (o g x : ℤ) → nat_abs o ≤ 3840 → SFits w16 x → SFits w32 (excited o g x)
unfolding excited
excited-fits o g x h f = go (lt_z g (pos 0))
  where
    small : nat_abs (level x +ℤ o) ≤ 536877312
    small = omega (arith, abs-add (level x) o, level-small x f)

    go : (b : Bool) → SFits w32 (cond b (neg_ℤ (level x +ℤ o)) (level x +ℤ o))
    go true = abs-fits _ (omega (arith, abs_neg (level x +ℤ o), small))
    go false = abs-fits _ (omega (arith, small))

excitation-words : (o : ℤ) (pulses : List ℤ) (seed : ℤ) → nat_abs o ≤ 3840 → AllFit w16 pulses → (n : ℕ) → Words w32 n (excitation o pulses seed n)
unfolding excitation
excitation-words o pulses seed h f zero = words refl (λ i. record { sfits = omega arith })
excitation-words o pulses seed h f (suc n) =
    let e = excitation-words o pulses seed h f n in
    let x = excited o (rand (generator_at pulses seed n)) (get_or pulses n (pos 0)) in
    words (length_snoc (excitation o pulses seed n) x ∙ ap suc e.count)
    (append-fits (excitation o pulses seed n) (x ∷ []) e.fits (one-fits x (excited-fits o _ _ h (f n))))

-- ---- a subframe
-- a setting whose lengths fit the buffers
pub record SettingFits (f : Setting) : Type 0 where
  pub length-fits : f.subfr_length ≤ 80
  pub history-fits : f.ltp_mem_length ≤ 320
  pub lag_fits : SFits w32 (held_lag f)
  pub kept : f.voiced ≡ true → transits f ≡ false

-- what holds of the core after k subframes of a description c
pub record CoreFits (f : Setting) (c : SilkDecoderControl) (k : ℕ) (b : Core) : Type 0 where
  pub memory : Words w32 16 b.memory
  pub buffer : Words w16 480 b.buffer
  pub samples : Words w16 (f.subfr_length * k) b.samples
  pub control : TypedControl b.control
  pub gains : b.control.gains_q16 ≡ c.gains_q16
  pub scale : b.control.ltp_scale_q14 ≡ c.ltp_scale_q14
  pub same : f.voiced ≡ true → b.control ≡ c

-- the description of a smoothed subframe
smoothed_typed : (c : SilkDecoderControl) (lag : ℤ) (k : ℕ) → TypedControl c → SFits w32 lag → k < 2 → TypedControl (smoothed c lag k)
unfolding smoothed
smoothed_typed c lag k t l h =
    record {
      pitch_l = set_words c.pitch_l k t.pitch_l l;
      gains_q16 = t.gains_q16;
      ltp_coef_q14 =
          words (length-put_at c.ltp_coef_q14 (5 * k) middle (omega (arith, t.ltp_coef_q14.count)) ∙ t.ltp_coef_q14.count)
          (put_at-fits c.ltp_coef_q14 (5 * k) middle t.ltp_coef_q14.fits middle-fits);
      ltp_scale_q14 = t.ltp_scale_q14;
    }
  where
    middle : List ℤ
    middle = pos 0 ∷ pos 0 ∷ pos 4096 ∷ pos 0 ∷ pos 0 ∷ []

    middle-fits : AllFit w16 middle
    middle-fits = set-fits (replicate 5 (pos 0)) 2 (replicate-fits 5 (zero_fits w16)) (record { sfits = omega arith })

held-fits : (b : Bool) (z : ℤ) → SFits w32 z → SFits w32 (unwrap_or (then_some b z) (pos 0))
held-fits true z h = h
held-fits false z h = record { sfits = omega arith }

more : (n k a x : ℕ) → a ≡ n * k → x ≡ n → a + x ≡ n * suc k
more n k a x e f = omega (arith, mul-suc n k)

either : (x : Bool) {a b : List ℤ} → Words w16 480 a → Words w16 480 b → Words w16 480 (cond x a b)
either true h k = h
either false h k = k

module _ (f : Setting) (g : SettingFits f) where
  control-kept : (c : SilkDecoderControl) (k : ℕ) (P : SilkDecoderControl → Type 0) → (transits f ≡ true → k < 2 → P (smoothed c (held_lag f) k)) → P c → P (control_at f c k)
  unfolding control_at
  control-kept c k P h d = go (transits f) (ltb k 2) refl refl
    where
      go : (a b : Bool) → transits f ≡ a → ltb k 2 ≡ b → P (cond (a && b) (smoothed c (held_lag f) k) c)
      go true true e l = h e (ltb-true k 2 l)
      go true false e l = d
      go false b e l = d

  buffer-kept : (k : ℕ) (buffer samples : List ℤ) → Words w16 480 buffer → Words w16 (f.subfr_length * k) samples → Words w16 480 (buffer_at f k buffer samples)
  unfolding buffer_at
  buffer-kept k buffer samples h w = go (eqb k 2) refl
    where
      go : (x : Bool) → eqb k 2 ≡ x → Words w16 480 (cond x (put_at buffer f.ltp_mem_length samples) buffer)
      go true e =
          let two = eqb-true k 2 e in
          let n : length samples ≡ f.subfr_length * 2 = subst (λ (j : ℕ). length samples ≡ f.subfr_length * j) two w.count in
          words (length-put_at buffer f.ltp_mem_length samples (omega (arith, h.count, g.length-fits, g.history-fits)) ∙ h.count)
          (put_at-fits buffer f.ltp_mem_length samples h.fits w.fits)
      go false e = h

  module _ (rows : List (List ℤ)) (exc : List ℤ) (c : SilkDecoderControl) where
    pub subframe-fits : (k : ℕ) (b : Core) → CoreFits f c k b → CoreFits f c (suc k) (subframe f rows exc k b)
    unfolding subframe smoothed
    subframe-fits k b h =
        let n = f.subfr_length in
        let d = f.lpc_order in
        let gain = get_or (control_at f b.control k).gains_q16 k (pos 0) in
        let a = smulww (gain_adjustment b.gain gain) in
        let m : Words w32 16 (map a b.memory) = words (length-map b.memory a ∙ h.memory.count) (map-fits a b.memory (smulww-fits _)) in
        record {
          memory = words (memory_length (map a b.memory) _ _ d n ∙ m.count) (drop-fits n _ (synthesis-fits (map a b.memory) _ _ d n m.fits));
          buffer = either (long f k && rewhitens f k) (buffer-kept k b.buffer b.samples h.buffer h.samples) h.buffer;
          samples =
              words (length-append b.samples _ ∙ more n k _ _ h.samples.count (played-length gain (map a b.memory) _ _ d n m.count))
              (append-fits b.samples _ h.samples.fits (played-frame gain (map a b.memory) _ _ d n));
          control = control-kept b.control k TypedControl (λ e l. smoothed_typed b.control (held_lag f) k h.control g.lag_fits l) h.control;
          gains = control-kept b.control k (λ x. x.gains_q16 ≡ c.gains_q16) (λ e l. h.gains) h.gains;
          scale = control-kept b.control k (λ x. x.ltp_scale_q14 ≡ c.ltp_scale_q14) (λ e l. h.scale) h.scale;
          same = λ v. control-kept b.control k (λ x. x ≡ c) (λ e l. absurd (false≢true (sym (g.kept v) ∙ e))) (h.same v);
        }

    -- after k subframes
    pub subframes-fit : (b : Core) → CoreFits f c 0 b → (k : ℕ) → CoreFits f c k (subframes f rows exc b k)
    unfolding subframes
    subframes-fit b h zero = h
    subframes-fit b h (suc k) = subframe-fits k _ (subframes-fit b h k)

    -- the gain that the last of them leaves
    pub last_gain : (b : Core) → CoreFits f c 0 b → (k : ℕ) → (subframes f rows exc b (suc k)).gain ≡ get_or c.gains_q16 k (pos 0)
    unfolding subframes subframe
    last_gain b h k = ap (λ (x : List ℤ). get_or x k (pos 0)) (subframes-fit b h (suc k)).gains

-- ---- the stage
module _ (p : Shape) (n : Shaped p.rate p.subframes) (s : SilkDecoderState) (t : Typed s) (q : Params) (c : SilkDecoderControl) (tc : TypedControl c) (rows : List (List ℤ)) (pulses : List ℤ) (tp : AllFit w16 pulses) where
  setting-fits : SettingFits (setting_of p s q)
  unfolding setting_of transition
  setting-fits =
      record {
        length-fits = omega (arith, n.rate_high);
        history-fits = omega (arith, n.rate_high);
        lag_fits = held-fits (transition s (is_voiced q.signal)) s.lag_prev t.lag_prev;
        kept = λ v. rw (v, and-false (lt_z (pos 0) s.loss_cnt && eq_ℤ s.prev_signal_type (pos 2))) refl;
      }

  start_fits : CoreFits (setting_of p s q) c 0 (start p s c)
  unfolding start setting_of
  start_fits =
      record {
        memory = t.s_lpc_q14_buf;
        buffer = t.out_buf;
        samples = words (sym (mul-zero (subfr_length p))) (λ i. record { sfits = omega arith });
        control = tc;
        gains = refl;
        scale = refl;
        same = λ v. refl;
      }

  abbrev core : Core
  core = subframes (setting_of p s q) rows (core_excitation p q pulses) (start p s c) p.subframes

  core-fits : CoreFits (setting_of p s q) c p.subframes core
  core-fits = subframes-fit (setting_of p s q) setting-fits rows (core_excitation p q pulses) c (start p s c) start_fits p.subframes

  gain-left : core.gain ≡ get_or c.gains_q16 (p.subframes - 1) (pos 0)
  gain-left =
      let f = setting_of p s q in
      let exc = core_excitation p q pulses in
      let m = p.subframes - 1 in
      let e : suc m ≡ p.subframes = omega (arith, n.count_low) in
      subst (λ (k : ℕ). (subframes f rows exc (start p s c) k).gain ≡ get_or c.gains_q16 m (pos 0)) e
      (last_gain f setting-fits rows exc c (start p s c) start_fits m)

  excitation-fits : Words w32 (frame_length p) (core_excitation p q pulses)
  unfolding core_excitation
  excitation-fits = excitation-words _ pulses q.seed (offset_small (is_voiced q.signal) q.quant_offset_type) tp (frame_length p)

  pub core_typed : SFits w32 (get_or c.gains_q16 (p.subframes - 1) (pos 0)) → Typed (decode_core p s q c rows pulses).state
  unfolding decode_core
  core_typed g =
      let exc = core_excitation p q pulses in
      let h = core-fits in
      let x = excitation-fits in
      let e = typed_exc (typed_gain t {gain = core.gain} (rw gain-left g)) (words-front exc s.exc_q14 x t.exc_q14 (omega (arith, n.frame_high, n.rate_high))) in
      typed_out_buf (typed_memory e h.memory) h.buffer

  pub core_gain : (decode_core p s q c rows pulses).state.prev_gain_q16 ≡ get_or c.gains_q16 (p.subframes - 1) (pos 0)
  unfolding decode_core
  core_gain = gain-left

  pub core-samples : Words w16 (frame_length p) (decode_core p s q c rows pulses).samples
  unfolding decode_core setting_of
  core-samples = core-fits.samples

  pub core_control : TypedControl (decode_core p s q c rows pulses).control
  unfolding decode_core
  core_control = core-fits.control

  -- gains and scale are the frame's; in a voiced frame all of the description is
  pub core_gains : (decode_core p s q c rows pulses).control.gains_q16 ≡ c.gains_q16
  unfolding decode_core
  core_gains = core-fits.gains

  pub core_scale : (decode_core p s q c rows pulses).control.ltp_scale_q14 ≡ c.ltp_scale_q14
  unfolding decode_core
  core_scale = core-fits.scale

  pub core-same : is_voiced q.signal ≡ true → (decode_core p s q c rows pulses).control ≡ c
  unfolding decode_core setting_of
  core-same = core-fits.same
