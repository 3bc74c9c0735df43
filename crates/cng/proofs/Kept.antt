-- Comfort noise keeps its part of the state in range, the types, and the frame's length.
use Prim.Native.Nat.{ℕ, zero, suc, ◌-◌, ◌*◌, ◌<◌, ◌≤◌}
use mathlib.Core.Path.{◌≡◌, refl, sym, ◌∙◌}
use mathlib.Core.Bool.{Bool, true, false, cond}
use mathlib.Core.List.{List, ◌++◌}
use native.Mathlib.Omega.{arith}
use lib.IntN.{ℤ, pos, ◌+ℤ◌, ◌-ℤ◌}
use lib.ListN.{get_or, take, drop, replicate, length-append, length-drop, get_or-append}
use lib.Signed.{lt_z}
use mir.Syntax.{Width, w16, w32}
use mir.Val.{SFits}
use Rattle.word.specs.Int.{eq_ℤ, wrap32}
use Rattle.word.specs.Tabulate.{tabulate}
use Rattle.word.proofs.Lists.{length-tabulate, get_or-tabulate}
use Rattle.word.proofs.Fits.{zero_fits, AllFit, append-fits, drop-fits, tabulate-fits}
use Rattle.word.proofs.Order.{eq_ℤ_true, cond_fits, sat16-fits}
use Rattle.word.proofs.Sizes.{abs-fits}
use Rattle.word.proofs.Words.{wrap-fits}
use Rattle.macros.specs.Fixed.{smulww, smulwb}
use Rattle.macros.proofs.Ranges.{rand-fits}
use Rattle.sigproc.proofs.Ranges.{synthesis-fits}
use Rattle.shape.specs.Shape.{Shape, order_of, rate_of, count_of}
use Rattle.shape.proofs.Shapes.{Shaped}
use Rattle.decoder.specs.Ranges.{cng_fits}
use Rattle.decoder.specs.State.{shape_of}
use Rattle.decoder.specs.Outcome.{Framed}
use Rattle.decoder.specs.Typed.{Words, TypedCng, Typed}
use Rattle.decoder.specs.declared.SilkCNGState.{SilkCNGState}
use Rattle.decoder.specs.declared.SilkDecoderState.{SilkDecoderState}
use Rattle.decoder.proofs.Between.{either, AllBetween}
use Rattle.decoder.proofs.Bounds.{CngHeldBounds, CngBounds, cng_fits_lem}
use Rattle.decoder.proofs.Built.{typed_noise}
use Rattle.decoder.proofs.Types.{append-words, take_words, drop-words, zeros-words}
use Rattle.cng.specs.Noise.{flat_line, cng_reset, cng_ready, smoothed_line, smoothed_lines, next_gain, smoothed_gain, moved_in, tracked, seed_at, noise_signal, silenced, sounded, added_to, comfort_noise}
use Rattle.cng.proofs.Numbers.{flat_le}
use Rattle.cng.proofs.Places.{room, place_lt}
use Rattle.cng.proofs.Signals.{noise_length}
use Rattle.cng.proofs.Lines.{ready_held}
use Rattle.cng.proofs.Cases.{by_cases}
use Rattle.cng.proofs.Toward.{smoothed_line-between, smoothed_gain-between}

-- ---- ranges
smoothed_lines-between : (held lines : List ℤ) (d : ℕ) → AllBetween 0 32767 held d → AllBetween 0 32767 lines d → AllBetween 0 32767 (smoothed_lines held lines d) d
unfolding smoothed_lines
smoothed_lines-between held lines d h k i l =
    let f : ℕ → ℤ = λ i. smoothed_line (get_or held i (pos 0)) (get_or lines i (pos 0)) in
    let e : get_or (tabulate d f ++ drop d held) i (pos 0) ≡ f i =
    get_or-append (tabulate d f) (drop d held) (pos 0) i (rw (length-tabulate d f) l) ∙ get_or-tabulate d f i l in
    rw e (smoothed_line-between (get_or held i (pos 0)) (get_or lines i (pos 0)) (h i l) (k i l))

silenced-held : (r d : ℕ) (h : SilkCNGState) → CngHeldBounds r h → CngHeldBounds r (silenced d h)
unfolding silenced
silenced-held r d h b =
    record { cng_smth_nlsf_q15 = b.cng_smth_nlsf_q15; cng_smth_gain_q16 = b.cng_smth_gain_q16 }

sounded-held : (e : ℤ) (r d n : ℕ) (h : SilkCNGState) → CngHeldBounds r h → CngHeldBounds r (sounded e d h n)
unfolding sounded
sounded-held e r d n h b =
    record { cng_smth_nlsf_q15 = b.cng_smth_nlsf_q15; cng_smth_gain_q16 = b.cng_smth_gain_q16 }

tracked-held : (p : Shape) (exc lines gains : List ℤ) (h : SilkCNGState) (low : ℕ) → CngHeldBounds p.rate h → AllBetween 0 32767 lines (order_of p.rate) → AllBetween low 1686110208 gains p.subframes
    → CngHeldBounds p.rate (tracked p exc lines gains h)
unfolding tracked
tracked-held p exc lines gains h low b k g =
    record {
      cng_smth_nlsf_q15 = smoothed_lines-between h.cng_smth_nlsf_q15 lines (order_of p.rate) b.cng_smth_nlsf_q15 k;
      cng_smth_gain_q16 = smoothed_gain-between low h.cng_smth_gain_q16 gains p.subframes b.cng_smth_gain_q16 g;
    }

-- at the state's rate the noise's part stays in range; where no frame is lost the gains have to be
pub comfort_held : (s : SilkDecoderState) (gains : List ℤ) (n : ℕ) (frame : List ℤ) (low : ℕ) → CngBounds (rate_of s.fs_khz) s.s_cng
    → AllBetween 0 32767 s.prev_nlsf_q15 (order_of (rate_of s.fs_khz))
    → (eq_ℤ s.loss_cnt (pos 0) ≡ true → AllBetween low 1686110208 gains (count_of s.nb_subfr))
    → CngHeldBounds (rate_of s.fs_khz) (comfort_noise (shape_of s) s gains n frame).state.s_cng
comfort_held s gains n frame low b lines g =
    let p = shape_of s in
    let r = p.rate in
    let h = cng_ready r s.s_cng in
    let held = ready_held r s.s_cng b in
    by_cases p s gains n frame (λ (x : Framed). CngHeldBounds r x.state.s_cng)
    (λ e. silenced-held r (order_of r) _ (either (CngHeldBounds r) (eq_ℤ s.prev_signal_type (pos 0)) (tracked-held p s.exc_q14 s.prev_nlsf_q15 gains h low held lines (g e)) held))
    (λ gain. sounded-held s.settings.edition r (order_of r) n h held)

-- ---- types
-- the first n of m numbers replaced by a table
table-words : {w : Width} (m n : ℕ) (f : ℕ → ℤ) (xs : List ℤ) → n ≤ m → ((i : ℕ) → i < n → SFits w (f i)) → Words w m xs → Words w m (tabulate n f ++ drop n xs)
table-words m n f xs l h k =
    record {
      count = let c = k.count in length-append (tabulate n f) (drop n xs) ∙ omega (arith, length-tabulate n f, length-drop n xs);
      fits = append-fits (tabulate n f) (drop n xs) (tabulate-fits n f h) (drop-fits n xs k.fits);
    }

flat_fits : (d i : ℕ) → i < d → SFits w16 (flat_line d i)
unfolding flat_line
flat_fits d i h = abs-fits _ (omega (arith, flat_le d i h))

reset_typed : (r : ℕ) (h : SilkCNGState) → r ≤ 16 → order_of r ≤ 16 → TypedCng h → TypedCng (cng_reset r h)
unfolding cng_reset
reset_typed r h l o t =
    record {
      cng_exc_buf_q14 = t.cng_exc_buf_q14;
      cng_smth_nlsf_q15 = table-words 16 (order_of r) (flat_line (order_of r)) h.cng_smth_nlsf_q15 o (flat_fits (order_of r)) t.cng_smth_nlsf_q15;
      cng_synth_state = t.cng_synth_state;
      cng_smth_gain_q16 = zero_fits w32;
      rand_seed = abs-fits (pos 3176576) (omega arith);
      fs_khz = abs-fits (pos r) (omega arith);
    }

pub ready_typed : (r : ℕ) (h : SilkCNGState) → r ≤ 16 → order_of r ≤ 16 → TypedCng h → TypedCng (cng_ready r h)
unfolding cng_ready
ready_typed r h l o t = either TypedCng (eq_ℤ (pos r) h.fs_khz) t (reset_typed r h l o t)

moved-words : (exc held : List ℤ) (l n k : ℕ) → k < n → n ≤ 4 → l ≤ 80 → Words w32 320 exc → Words w32 320 held → Words w32 320 (moved_in l n exc held k)
unfolding moved_in
moved-words exc held l n k hk hn hl e h =
    let r = room k n l hk hn hl in
    let a = take_words l (drop (k * l) exc) (omega arith) (drop-words (k * l) exc e) in
    let b = take_words ((n - 1) * l) held (omega arith) h in
    let c = drop-words (n * l) held h in
    let w = append-words (take l (drop (k * l) exc) ++ take ((n - 1) * l) held) (drop (n * l) held) (append-words (take l (drop (k * l) exc)) (take ((n - 1) * l) held) a b) c in
    record { count = w.count ∙ omega arith; fits = w.fits }

next_fits : (held g : ℤ) → SFits w32 g → SFits w32 (next_gain held g)
unfolding next_gain
next_fits held g h =
    let next = wrap32 (held +ℤ smulwb (wrap32 (g -ℤ held)) (pos 4634)) in
    cond_fits (lt_z g (smulww next (pos 46396))) {a = g} {b = next} h (wrap-fits w32 _)

gain_fits : (held : ℤ) (gains : List ℤ) (n : ℕ) → SFits w32 held → AllFit w32 gains → SFits w32 (smoothed_gain held gains n)
unfolding smoothed_gain
gain_fits held gains zero h k = h
gain_fits held gains (suc n) h k = next_fits (smoothed_gain held gains n) (get_or gains n (pos 0)) (k n)

line_fits : (held line : ℤ) → SFits w16 (smoothed_line held line)
unfolding smoothed_line
line_fits held line = wrap-fits w16 _

tracked_typed : (p : Shape) (exc lines gains : List ℤ) (h : SilkCNGState) → Shaped p.rate p.subframes → Words w32 320 exc → AllFit w32 gains → TypedCng h → TypedCng (tracked p exc lines gains h)
unfolding tracked smoothed_lines
tracked_typed p exc lines gains h b e g t =
    record {
      cng_exc_buf_q14 = moved-words exc h.cng_exc_buf_q14 (5 * p.rate) p.subframes _ (place_lt gains p.subframes (omega (arith, b.count_low))) b.count_high (omega (arith, b.rate_high)) e t.cng_exc_buf_q14;
      cng_smth_nlsf_q15 = table-words 16 (order_of p.rate) _ h.cng_smth_nlsf_q15 b.order_high (λ i l. line_fits _ _) t.cng_smth_nlsf_q15;
      cng_synth_state = t.cng_synth_state;
      cng_smth_gain_q16 = gain_fits h.cng_smth_gain_q16 gains p.subframes t.cng_smth_gain_q16 g;
      rand_seed = t.rand_seed;
      fs_khz = t.fs_khz;
    }

silenced_typed : (d : ℕ) (h : SilkCNGState) → d ≤ 16 → TypedCng h → TypedCng (silenced d h)
unfolding silenced
silenced_typed d h l t =
    let w = append-words (replicate d (pos 0)) (drop d h.cng_synth_state) (zeros-words d) (drop-words d h.cng_synth_state t.cng_synth_state) in
    record {
      cng_exc_buf_q14 = t.cng_exc_buf_q14;
      cng_smth_nlsf_q15 = t.cng_smth_nlsf_q15;
      cng_synth_state = record { count = w.count ∙ omega arith; fits = w.fits };
      cng_smth_gain_q16 = t.cng_smth_gain_q16;
      rand_seed = t.rand_seed;
      fs_khz = t.fs_khz;
    }

seed_fits : (seed : ℤ) (n : ℕ) → SFits w32 seed → SFits w32 (seed_at seed n)
unfolding seed_at
seed_fits seed zero h = h
seed_fits seed (suc n) h = rand-fits _

signal-fits : (e : ℤ) (d : ℕ) (h : SilkCNGState) (n : ℕ) → AllFit w32 h.cng_synth_state → AllFit w32 (noise_signal e d h n)
unfolding noise_signal
signal-fits e d h n k = synthesis-fits h.cng_synth_state _ _ d n k

sounded_typed : (e : ℤ) (d n : ℕ) (h : SilkCNGState) → TypedCng h → TypedCng (sounded e d h n)
unfolding sounded
sounded_typed e d n h t =
    let s = noise_signal e d h n in
    record {
      cng_exc_buf_q14 = t.cng_exc_buf_q14;
      cng_smth_nlsf_q15 = t.cng_smth_nlsf_q15;
      cng_synth_state =
          record {
            count = length-drop n s ∙ omega (arith, noise_length e d h n t.cng_synth_state.count);
            fits = drop-fits n s (signal-fits e d h n t.cng_synth_state.fits);
          };
      cng_smth_gain_q16 = t.cng_smth_gain_q16;
      rand_seed = seed_fits h.rand_seed n t.rand_seed;
      fs_khz = t.fs_khz;
    }

pub comfort_typed : (s : SilkDecoderState) (gains : List ℤ) (n : ℕ) (frame : List ℤ) → Shaped (rate_of s.fs_khz) (count_of s.nb_subfr)
    → AllFit w32 gains → Typed s → Typed (comfort_noise (shape_of s) s gains n frame).state
comfort_typed s gains n frame b g t =
    let p = shape_of s in
    let h = cng_ready p.rate s.s_cng in
    let th = ready_typed p.rate s.s_cng b.rate_high b.order_high t.s_cng in
    by_cases p s gains n frame (λ (x : Framed). Typed x.state)
    (λ e. typed_noise t (silenced_typed (order_of p.rate) _ b.order_high (either TypedCng (eq_ℤ s.prev_signal_type (pos 0)) (tracked_typed p s.exc_q14 s.prev_nlsf_q15 gains h b t.exc_q14 g th) th)))
    (λ gain. typed_noise t (sounded_typed s.settings.edition (order_of p.rate) n h th))

-- ---- the frame
added_words : (m n : ℕ) (frame signal : List ℤ) (gain : ℤ) → n ≤ m → Words w16 m frame → Words w16 m (added_to frame signal gain n)
unfolding added_to
added_words m n frame signal gain l h = table-words m n _ frame l (λ i k. sat16-fits _) h

-- as long as it was, each sample of 16 bits
pub comfort_frame : (s : SilkDecoderState) (gains : List ℤ) (m n : ℕ) (frame : List ℤ) → n ≤ m → Words w16 m frame → Words w16 m (comfort_noise (shape_of s) s gains n frame).frame
comfort_frame s gains m n frame l h =
    by_cases (shape_of s) s gains n frame (λ (x : Framed). Words w16 m x.frame) (λ e. h) (λ gain. added_words m n frame _ gain l h)

-- noise is then held for the frame's rate
ready_rate : (r : ℕ) (h : SilkCNGState) → (cng_ready r h).fs_khz ≡ pos r
unfolding cng_ready cng_reset
ready_rate r h = go (eq_ℤ (pos r) h.fs_khz) refl
  where
    go : (b : Bool) → eq_ℤ (pos r) h.fs_khz ≡ b → (cond b h (cng_reset r h)).fs_khz ≡ pos r
    go true e = sym (eq_ℤ_true (pos r) h.fs_khz e)
    go false e = refl

pub comfort_rate : (p : Shape) (s : SilkDecoderState) (gains : List ℤ) (n : ℕ) (frame : List ℤ) → (comfort_noise p s gains n frame).state.s_cng.fs_khz ≡ pos p.rate
unfolding silenced sounded tracked
comfort_rate p s gains n frame =
    let e = ready_rate p.rate s.s_cng in
    by_cases p s gains n frame (λ (x : Framed). x.state.s_cng.fs_khz ≡ pos p.rate)
    (λ l. either (λ (h : SilkCNGState). h.fs_khz ≡ pos p.rate) (eq_ℤ s.prev_signal_type (pos 0)) e e)
    (λ gain. e)
