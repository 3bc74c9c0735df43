-- Document 01, "A lost frame": comfort noise (cng.rs).
use Rattle.std.specs.Prelude.{ℕ, zero, suc, ◌+◌, ◌-◌, ◌*◌, ◌/◌, ◌^◌, ◌≤◌, ◌≡◌, cond, ◌||◌, List, ◌++◌, ltb, ℤ, pos, ◌+ℤ◌, ◌-ℤ◌, ◌*ℤ◌, get_or, take, drop, replicate}
use Rattle.std.specs.Int.Signed.{lt_z, le_z}
use Rattle.word.specs.Int.{floor_div, mod_ℤ, eq_ℤ, wrap16, wrap32, sat16}
use Rattle.word.specs.Tabulate.{tabulate}
use Rattle.macros.specs.Fixed.{smulww, smulwb, smultt, rand, sqrt_approx}
use Rattle.sigproc.specs.Synthesis.{synthesis, played}
use Rattle.nlsf.specs.declared.Largest.{Largest}
use Rattle.nlsf.specs.Fit.{largest_by}
use Rattle.nlsf.specs.Filter.{nlsf2a}
use Rattle.shape.specs.Shape.{Shape, subfr_length, order_of, lpc_order}
use Rattle.decoder.specs.With.{with_noise}
use Rattle.decoder.specs.Outcome.{Framed}
use Rattle.decoder.specs.declared.SilkCNGState.{SilkCNGState}
use Rattle.decoder.specs.declared.SilkDecoderState.{SilkDecoderState}

abbrev pub hold_noise : List ℤ → List ℤ → List ℤ → ℤ → ℤ → ℤ → SilkCNGState
hold_noise exc lines memory gain seed rate =
    record {
      cng_exc_buf_q14 = exc;
      cng_smth_nlsf_q15 = lines;
      cng_synth_state = memory;
      cng_smth_gain_q16 = gain;
      rand_seed = seed;
      fs_khz = rate;
    }

-- line i of a flat spectrum: multiples of 32,767/(order+1), rounded down
unfoldable pub flat_line : ℕ → ℕ → ℤ
flat_line d i = pos (suc i * (32767 / (d + 1)))

-- silk_cng_reset, at a rate
unfoldable pub cng_reset : ℕ → SilkCNGState → SilkCNGState
cng_reset r h =
    let d = order_of r in
    hold_noise h.cng_exc_buf_q14 (tabulate d (flat_line d) ++ drop d h.cng_smth_nlsf_q15) h.cng_synth_state (pos 0)
    (pos 3176576)
    (pos r)

-- noise resets if its rate differs
unfoldable pub cng_ready : ℕ → SilkCNGState → SilkCNGState
cng_ready r h = cond (eq_ℤ (pos r) h.fs_khz) h (cng_reset r h)

-- a line a quarter of the way to the frame's
unfoldable pub smoothed_line : ℤ → ℤ → ℤ
smoothed_line held line = wrap16 (held +ℤ smulwb (line -ℤ held) (pos 16348))

-- the largest of the first k gains and its place
abbrev pub loudest : List ℤ → ℕ → Largest
loudest gains k = largest_by (λ g. g) gains k

-- the held gain moved towards a gain, and down to one that lies 3 dB below it
unfoldable pub next_gain : ℤ → ℤ → ℤ
next_gain held g =
    let next = wrap32 (held +ℤ smulwb (wrap32 (g -ℤ held)) (pos 4634)) in
    cond (lt_z g (smulww next (pos 46396))) g next

-- towards each of the first k gains
unfoldable pub smoothed_gain : ℤ → List ℤ → ℕ → ℤ
smoothed_gain held gains zero = held
smoothed_gain held gains (suc k) = next_gain (smoothed_gain held gains k) (get_or gains k (pos 0))

-- subframe k of the excitation, of l samples, in front of the held ones, the oldest of n dropped
unfoldable pub moved_in : ℕ → ℕ → List ℤ → List ℤ → ℕ → List ℤ
moved_in l n exc held k = take l (drop (k * l) exc) ++ take ((n - 1) * l) held ++ drop (n * l) held

-- the first d held lines moved towards a frame's
unfoldable pub smoothed_lines : List ℤ → List ℤ → ℕ → List ℤ
smoothed_lines held lines d =
    tabulate d (λ i. smoothed_line (get_or held i (pos 0)) (get_or lines i (pos 0))) ++ drop d held

-- the background followed in a frame without voice activity, of excitation exc and lines
unfoldable pub tracked : Shape → List ℤ → List ℤ → List ℤ → SilkCNGState → SilkCNGState
tracked p exc lines gains h =
    hold_noise (moved_in (subfr_length p) p.subframes exc h.cng_exc_buf_q14 (loudest gains p.subframes).place)
    (smoothed_lines h.cng_smth_nlsf_q15 lines (lpc_order p))
    h.cng_synth_state
    (smoothed_gain h.cng_smth_gain_q16 gains p.subframes)
    h.rand_seed
    h.fs_khz

-- the root of the smoothed gain's square less that of concealment's noise (Q16): loud gains by their high halves
unfoldable pub noise_gain : ℤ → ℤ → ℤ → ℤ
noise_gain scale last smoothed =
    let g = smulww scale last in
    cond (le_z (pos (2 ^ 21)) g || lt_z (pos (2 ^ 23)) smoothed)
    (wrap32 (sqrt_approx (wrap32 (smultt smoothed smoothed -ℤ wrap32 (smultt g g *ℤ pos (2 ^ 5)))) *ℤ pos (2 ^ 16)))
    (wrap32 (sqrt_approx (wrap32 (smulww smoothed smoothed -ℤ wrap32 (smulww g g *ℤ pos (2 ^ 5)))) *ℤ pos (2 ^ 8)))

-- a mask halved while it lies above n
unfoldable pub halved_mask : ℕ → ℕ → ℕ → ℕ
halved_mask n mask zero = mask
halved_mask n mask (suc k) = cond (ltb n mask) (halved_mask n (mask / 2) k) mask

-- the excitation mask is 255, halved while above the length
abbrev pub exc_mask : ℕ → ℕ
exc_mask n = halved_mask n 255 8

-- a mask of up to 8 bits, all set
pub record Mask (mask : ℕ) : Type 0 where
  pub count : ℕ
  pub small : count ≤ 8
  pub set : mask ≡ 2 ^ count - 1

-- the generator after i samples
unfoldable pub seed_at : ℤ → ℕ → ℤ
seed_at seed zero = seed
seed_at seed (suc i) = rand (seed_at seed i)

-- n values of the held excitation, each drawn by the generator's top bits
unfoldable pub drawn : List ℤ → ℕ → ℤ → ℕ → List ℤ
drawn exc mask seed n = tabulate n (λ i. get_or exc (mod_ℤ (floor_div (seed_at seed (suc i)) (2 ^ 24)) (mask + 1)) (pos 0))

-- the filter of noise of order d under an edition: that of the smoothed lines
unfoldable pub noise_filter : ℤ → ℕ → SilkCNGState → List ℤ
noise_filter e d h = nlsf2a e h.cng_smth_nlsf_q15 d

-- the memory of 16 samples (Q14), and n of noise of order d under an edition
unfoldable pub noise_signal : ℤ → ℕ → SilkCNGState → ℕ → List ℤ
noise_signal e d h n =
    synthesis h.cng_synth_state (drawn h.cng_exc_buf_q14 (exc_mask n) h.rand_seed n) (noise_filter e d h) d n

-- the first d places of the memory zeroed
unfoldable pub silenced : ℕ → SilkCNGState → SilkCNGState
silenced d h =
    hold_noise h.cng_exc_buf_q14 h.cng_smth_nlsf_q15 (replicate d (pos 0) ++ drop d h.cng_synth_state) h.cng_smth_gain_q16
    h.rand_seed
    h.fs_khz

-- after n samples of noise of order d under an edition
unfoldable pub sounded : ℤ → ℕ → SilkCNGState → ℕ → SilkCNGState
sounded e d h n =
    hold_noise h.cng_exc_buf_q14 h.cng_smth_nlsf_q15 (drop n (noise_signal e d h n)) h.cng_smth_gain_q16
    (seed_at h.rand_seed n)
    h.fs_khz

-- n samples of a signal, after its memory, played by a gain and added to a frame's
unfoldable pub added_to : List ℤ → List ℤ → ℤ → ℕ → List ℤ
added_to frame signal gain n =
    tabulate n (λ i. sat16 (get_or frame i (pos 0) +ℤ played gain (get_or signal (16 + i) (pos 0)))) ++ drop n frame

-- n samples of a frame with noise of order d under an edition added, by concealment's noise scale and its last gain
abbrev pub sounding : ℤ → ℕ → ℤ → ℤ → SilkCNGState → ℕ → List ℤ → List ℤ
sounding e d scale last h n frame =
    added_to frame (noise_signal e d h n) (noise_gain scale last h.cng_smth_gain_q16) n

-- what is held after a received frame of a type: the background is followed in one without voice activity
abbrev pub heard_noise : Shape → List ℤ → List ℤ → List ℤ → ℤ → SilkCNGState → SilkCNGState
heard_noise p exc lines gains type held =
    let h = cng_ready p.rate held in
    silenced (lpc_order p) (cond (eq_ℤ type (pos 0)) (tracked p exc lines gains h) h)

-- silk_cng on the first n samples of a frame: with no loss it leaves the frame and zeroes the first order places of its memory
unfoldable pub comfort_noise : Shape → SilkDecoderState → List ℤ → ℕ → List ℤ → Framed
comfort_noise p s gains n frame =
    let d = lpc_order p in
    let e = s.settings.edition in
    let h = cng_ready p.rate s.s_cng in
    let plc = s.s_plc in
    cond (eq_ℤ s.loss_cnt (pos 0))
    (record {
      state = with_noise s (heard_noise p s.exc_q14 s.prev_nlsf_q15 gains s.prev_signal_type s.s_cng);
      frame = frame;
    })
    (record {
      state = with_noise s (sounded e d h n);
      frame = sounding e d plc.rand_scale_q14 (get_or plc.prev_gain_q16 1 (pos 0)) h n frame;
    })
