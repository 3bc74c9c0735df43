-- A state that is stored is the state that the next call reads.
use Prim.Native.Nat.{ℕ, zero, suc, ◌+◌, ◌<◌}
use mathlib.Core.Path.{◌≡◌, refl, sym, ap, ◌∙◌, subst}
use mathlib.Core.List.{List, [], ◌∷◌, ◌++◌, append_assoc}
use native.Mathlib.Omega.{arith}
use lib.Dec.{lit<}
use lib.ListN.{length, get_or, drop, length-append}
use lib.Seq.{take_at, drop-append-add, get_or-take, get_or-drop, ext_get_or}
use lib.IntN.{ℤ, pos}
use Rattle.sigproc.specs.Place.{put_at}
use Rattle.decoder.specs.Typed.{Typed}
use Rattle.decoder.specs.declared.SilkDecoderState.{SilkDecoderState}
use Rattle.layout.specs.Layout.{WORDS, HALVES, part, one, cng_in, plc_in, settings_in, state_in, numbers, last_numbers, state_words, state_halves}

-- ---- lists one after the other
-- and what stands behind them
abbrev laid : List (List ℤ) → List ℤ → List ℤ
laid [] rest = rest
laid (x ∷ xs) rest = x ++ laid xs rest

-- the lists have these lengths
abbrev Lengths : List (List ℤ) → List ℕ → Type 0
Lengths [] ns = Unit {0}
Lengths (x ∷ xs) [] = ⊥
Lengths (x ∷ xs) (n ∷ ns) = (length x ≡ n) × Lengths xs ns

-- where list i begins
abbrev place : List ℕ → ℕ → ℕ
place ns zero = 0
place [] (suc i) = 0
place (n ∷ ns) (suc i) = n + place ns i

-- list i is read from its place
piece : (xs : List (List ℤ)) (ns : List ℕ) (rest : List ℤ) → Lengths xs ns → (i : ℕ) → i < length xs → part (laid xs rest) (place ns i) (get_or ns i 0) ≡ get_or xs i []
piece [] ns rest c i h = absurd (omega arith)
piece (x ∷ xs) [] rest c i h = absurd c
piece (x ∷ xs) (n ∷ ns) rest c zero h = take_at x (laid xs rest) n c.0
piece (x ∷ xs) (n ∷ ns) rest c (suc i) h =
    subst (λ (k : ℕ). part (x ++ laid xs rest) (k + place ns i) (get_or ns i 0) ≡ get_or xs i []) c.0
    (rw (drop-append-add x (laid xs rest) (place ns i)) (piece xs ns rest c.1 i (omega arith)))

-- a number of a part
number : (w x : List ℤ) (at n i : ℕ) → part w at n ≡ x → i < n → one w (at + i) ≡ one x i
number w x at n i e h =
    sym (get_or-drop at w i (pos 0)) ∙ sym (get_or-take n (drop at w) i (pos 0) h) ∙ ap (λ (v : List ℤ). one v i) e

-- two numbers, each by itself
two : (g : List ℤ) → length g ≡ 2 → one g 0 ∷ one g 1 ∷ [] ≡ g
two g e = ext_get_or (pos 0) (one g 0 ∷ one g 1 ∷ []) g (sym e) at
  where
    at : (i : ℕ) → i < 2 → get_or (one g 0 ∷ one g 1 ∷ []) i (pos 0) ≡ get_or g i (pos 0)
    at zero h = refl
    at (suc zero) h = refl
    at (suc (suc i)) h = absurd (omega arith)

-- ---- a state
-- the lengths of its lists in words and in halves
abbrev word_sizes : List ℕ
word_sizes = 1 ∷ 320 ∷ 16 ∷ 15 ∷ 2 ∷ 3 ∷ 320 ∷ 16 ∷ 5 ∷ []

abbrev half_sizes : List ℕ
half_sizes = 480 ∷ 16 ∷ 5 ∷ 16 ∷ 2 ∷ 16 ∷ []

module _ (s : SilkDecoderState) (t : Typed s) where
  abbrev word_lists : List (List ℤ)
  word_lists =
      let h = s.s_plc in
      let n = s.s_cng in
      (s.prev_gain_q16 ∷ [])
      ∷ s.exc_q14
      ∷ s.s_lpc_q14_buf
      ∷ (s.lag_prev ∷ s.fs_khz ∷ s.nb_subfr ∷ s.frame_length ∷ s.subfr_length ∷ s.ltp_mem_length ∷ s.lpc_order ∷ s.first_frame_after_reset ∷ s.loss_cnt ∷ s.prev_signal_type ∷ h.pitch_l_q8 ∷ h.last_frame_lost ∷ h.rand_seed ∷ h.conc_energy ∷ h.conc_energy_shift ∷ [])
      ∷ (one h.prev_gain_q16 0 ∷ one h.prev_gain_q16 1 ∷ [])
      ∷ (h.fs_khz ∷ h.nb_subfr ∷ h.subfr_length ∷ [])
      ∷ n.cng_exc_buf_q14
      ∷ n.cng_synth_state
      ∷ (n.cng_smth_gain_q16 ∷ n.rand_seed ∷ n.fs_khz ∷ s.settings.squelch ∷ s.settings.edition ∷ [])
      ∷ []

  word-lengths : Lengths word_lists word_sizes
  word-lengths =
      (refl, (t.exc_q14.count, (t.s_lpc_q14_buf.count, (refl, (refl, (refl, (t.s_cng.cng_exc_buf_q14.count, (t.s_cng.cng_synth_state.count, (refl, tt)))))))))

  words-laid : (rest : List ℤ) → state_words s ++ rest ≡ laid word_lists rest
  unfolding state_words numbers last_numbers
  words-laid rest = simp append_assoc

  abbrev half_lists : List (List ℤ)
  half_lists =
      let h = s.s_plc in
      s.out_buf
      ∷ s.prev_nlsf_q15
      ∷ h.ltp_coef_q14
      ∷ h.prev_lpc_q12
      ∷ (h.rand_scale_q14 ∷ h.prev_ltp_scale_q14 ∷ [])
      ∷ s.s_cng.cng_smth_nlsf_q15
      ∷ []

  half-lengths : Lengths half_lists half_sizes
  half-lengths =
      (t.out_buf.count, (t.prev_nlsf_q15.count, (t.s_plc.ltp_coef_q14.count, (t.s_plc.prev_lpc_q12.count, (refl, (t.s_cng.cng_smth_nlsf_q15.count, tt))))))

  halves-laid : (rest : List ℤ) → state_halves s ++ rest ≡ laid half_lists rest
  unfolding state_halves
  halves-laid rest = simp append_assoc

  pub words_count : length (state_words s) ≡ WORDS
  unfolding state_words numbers last_numbers
  words_count =
      simp length-append (omega (arith, t.exc_q14.count, t.s_lpc_q14_buf.count, t.s_cng.cng_exc_buf_q14.count, t.s_cng.cng_synth_state.count))

  pub halves_count : length (state_halves s) ≡ HALVES
  unfolding state_halves
  halves_count =
      simp length-append (omega (arith, t.out_buf.count, t.prev_nlsf_q15.count, t.s_plc.ltp_coef_q14.count, t.s_plc.prev_lpc_q12.count, t.s_cng.cng_smth_nlsf_q15.count))

  module _ (words halves : List ℤ) where
    abbrev W : List ℤ
    W = put_at words 0 (state_words s)

    abbrev H : List ℤ
    H = put_at halves 0 (state_halves s)

    -- what is read at the place of each list
    word : (i : ℕ) → i < 9 → part W (place word_sizes i) (get_or word_sizes i 0) ≡ get_or word_lists i []
    unfolding put_at
    word i h =
        ap (λ (v : List ℤ). part v (place word_sizes i) (get_or word_sizes i 0)) (words-laid _) ∙ piece word_lists word_sizes _ word-lengths i h

    half : (i : ℕ) → i < 6 → part H (place half_sizes i) (get_or half_sizes i 0) ≡ get_or half_lists i []
    unfolding put_at
    half i h =
        ap (λ (v : List ℤ). part v (place half_sizes i) (get_or half_sizes i 0)) (halves-laid _) ∙ piece half_lists half_sizes _ half-lengths i h

    -- number i of list 0, 3, 5 and 8 of the words, and of list 4 of the halves
    n0 : one W (0 + 0) ≡ s.prev_gain_q16
    n0 = number W _ 0 1 0 (word 0 (lit< tt)) (lit< tt)

    n3 : (i : ℕ) → i < 15 → one W (337 + i) ≡ one (get_or word_lists 3 []) i
    n3 i h = number W _ 337 15 i (word 3 (lit< tt)) h

    n5 : (i : ℕ) → i < 3 → one W (354 + i) ≡ one (get_or word_lists 5 []) i
    n5 i h = number W _ 354 3 i (word 5 (lit< tt)) h

    n8 : (i : ℕ) → i < 5 → one W (693 + i) ≡ one (get_or word_lists 8 []) i
    n8 i h = number W _ 693 5 i (word 8 (lit< tt)) h

    m4 : (i : ℕ) → i < 2 → one H (517 + i) ≡ one (get_or half_lists 4 []) i
    m4 i h = number H _ 517 2 i (half 4 (lit< tt)) h

    plc-stored : plc_in W H ≡ s.s_plc
    unfolding plc_in
    plc-stored = λ i.
        record {
          pitch_l_q8 = n3 10 (lit< tt) i;
          ltp_coef_q14 = half 2 (lit< tt) i;
          prev_lpc_q12 = half 3 (lit< tt) i;
          last_frame_lost = n3 11 (lit< tt) i;
          rand_seed = n3 12 (lit< tt) i;
          rand_scale_q14 = m4 0 (lit< tt) i;
          conc_energy = n3 13 (lit< tt) i;
          conc_energy_shift = n3 14 (lit< tt) i;
          prev_ltp_scale_q14 = m4 1 (lit< tt) i;
          prev_gain_q16 = (word 4 (lit< tt) ∙ two s.s_plc.prev_gain_q16 t.s_plc.prev_gain_q16.count) i;
          fs_khz = n5 0 (lit< tt) i;
          nb_subfr = n5 1 (lit< tt) i;
          subfr_length = n5 2 (lit< tt) i;
        }

    cng-stored : cng_in W H ≡ s.s_cng
    unfolding cng_in
    cng-stored = λ i.
        record {
          cng_exc_buf_q14 = word 6 (lit< tt) i;
          cng_smth_nlsf_q15 = half 5 (lit< tt) i;
          cng_synth_state = word 7 (lit< tt) i;
          cng_smth_gain_q16 = n8 0 (lit< tt) i;
          rand_seed = n8 1 (lit< tt) i;
          fs_khz = n8 2 (lit< tt) i;
        }

    pub stored : state_in W H ≡ s
    unfolding state_in settings_in
    stored = λ i.
        record {
          prev_gain_q16 = n0 i;
          exc_q14 = word 1 (lit< tt) i;
          s_lpc_q14_buf = word 2 (lit< tt) i;
          out_buf = half 0 (lit< tt) i;
          lag_prev = n3 0 (lit< tt) i;
          fs_khz = n3 1 (lit< tt) i;
          nb_subfr = n3 2 (lit< tt) i;
          frame_length = n3 3 (lit< tt) i;
          subfr_length = n3 4 (lit< tt) i;
          ltp_mem_length = n3 5 (lit< tt) i;
          lpc_order = n3 6 (lit< tt) i;
          prev_nlsf_q15 = half 1 (lit< tt) i;
          first_frame_after_reset = n3 7 (lit< tt) i;
          s_cng = cng-stored i;
          loss_cnt = n3 8 (lit< tt) i;
          prev_signal_type = n3 9 (lit< tt) i;
          s_plc = plc-stored i;
          settings = record { squelch = n8 3 (lit< tt) i; edition = n8 4 (lit< tt) i };
        }
