-- What the code of a subframe asks for and leaves.
use Rattle.std.specs.Prelude.{ℕ, ◌+◌, ◌*◌, ◌<◌, ◌≤◌, ◌≡◌, true, cond, ◌&&◌, List, [], ◌++◌, ◌⊎◌, ℤ, pos, nat_abs, get_or, take, drop, replicate}
use Rattle.decoder.specs.declared.SilkDecoderControl.{SilkDecoderControl}
use Rattle.decode_core.specs.Core.{Core, ltp_past, ltp_synthesis, transits, held_lag, long, rewhitens, control_at, buffer_at, past_at}
use Rattle.decode_core.specs.declared.Carried.{Carried}
use Rattle.decode_core.specs.declared.Setting.{Setting}

-- a frame's lengths, and a filter's order
pub record Sized (f : Setting) : Type 0 where
  pub order : (f.lpc_order ≡ 10) ⊎ (f.lpc_order ≡ 16)
  pub subframe : f.subfr_length ≤ 80
  pub history : f.ltp_mem_length ≡ 4 * f.subfr_length

-- a lag of at least 3 within the history, less what the filter needs before it
pub record Lag (f : Setting) (z : ℤ) : Type 0 where
  pub whole : z ≡ pos (nat_abs z)
  pub low : 3 ≤ nat_abs z
  pub high : f.lpc_order + nat_abs z + 2 ≤ f.ltp_mem_length

-- subframe k with long-term prediction, idx places of the long-term state in use
pub record Ready (f : Setting) (c : SilkDecoderControl) (k idx : ℕ) : Type 0 where
  pub sized : Sized f
  pub place : k < 4
  pub lag : Lag f (get_or c.pitch_l k (pos 0))
  pub low : f.ltp_mem_length ≤ idx
  pub high : idx ≤ f.ltp_mem_length + f.subfr_length * k

-- what long-term prediction of subframe k leaves: of the history ob, the long-term state before, and the residual from e
pub record LongTerm (f : Setting) (c : SilkDecoderControl) (k : ℕ) (row : List ℤ) (adjustment : ℤ) (samples ob ob' before after e res : List ℤ) : Type 0 where
  pub buffer : ob' ≡ cond (long f k && rewhitens f k) (buffer_at f k ob samples) ob
  pub past : after ≡ cond (long f k) (ltp_past (past_at f c k row adjustment (buffer_at f k ob samples) before) (take 5 (drop (5 * k) c.ltp_coef_q14)) (nat_abs (get_or c.pitch_l k (pos 0))) e f.subfr_length) before
  pub residual : res ≡ cond (long f k) (ltp_synthesis (past_at f c k row adjustment (buffer_at f k ob samples) before) (take 5 (drop (5 * k) c.ltp_coef_q14)) (nat_abs (get_or c.pitch_l k (pos 0))) e f.subfr_length) e

-- subframe k by a description c, idx places of the long-term state in use
pub record Playable (f : Setting) (c : SilkDecoderControl) (k idx : ℕ) : Type 0 where
  pub sized : Sized f
  pub place : k < 4
  pub gain : get_or c.gains_q16 k (pos 0) ≡ pos 0 → ⊥
  pub lag : long f k ≡ true → Lag f (get_or (control_at f c k).pitch_l k (pos 0))
  pub low : f.ltp_mem_length ≤ idx
  pub high : idx ≤ f.ltp_mem_length + f.subfr_length * k

-- what the code holds of the definition's values
abbrev pub held : Carried → List ℤ → List ℤ → List ℤ → List ℤ → Core
held b past signal buffer samples =
    record {
      control = b.control;
      past = past;
      memory = take 16 signal;
      gain = b.gain;
      buffer = buffer;
      samples = samples;
    }

-- a frame of n subframes by a description c
pub record Framed (f : Setting) (c : SilkDecoderControl) (n : ℕ) : Type 0 where
  pub sized : Sized f
  pub count : n ≤ 4
  pub gains : (k : ℕ) → k < n → get_or c.gains_q16 k (pos 0) ≡ pos 0 → ⊥
  pub lags : f.voiced ≡ true → (k : ℕ) → k < n → Lag f (get_or c.pitch_l k (pos 0))
  pub smooth : transits f ≡ true → Lag f (held_lag f)

-- what the first subframe starts from
abbrev pub begin : Setting → Carried → List ℤ → List ℤ → Core
begin f b memory buffer =
    record {
      control = b.control;
      past = replicate f.ltp_mem_length (pos 0);
      memory = memory;
      gain = b.gain;
      buffer = buffer;
      samples = [];
    }

-- what is left of a frame's values: the samples stand in front of the rest of the output
pub record Left (b : Core) (r : Carried) (m o xq rest : List ℤ) : Type 0 where
  pub control : r.control ≡ b.control
  pub gain : r.gain ≡ b.gain
  pub memory : m ≡ b.memory
  pub buffer : o ≡ b.buffer
  pub samples : xq ≡ b.samples ++ rest
