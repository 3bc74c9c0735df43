-- Ranges by types, and a state that a stage builds.
use Prim.Native.Nat.{ℕ, ◌<◌, ◌≤◌}
use mathlib.Core.Path.{◌≡◌, refl, ◌∙◌}
use mathlib.Core.List.{List, ◌++◌}
use native.Mathlib.Omega.{arith}
use lib.IntN.{ℤ, pos}
use lib.ListN.{length, drop}
use mir.Syntax.{Width, w16, w32}
use mir.Val.{SFits}
use Rattle.word.proofs.Fits.{AllFit}
use Rattle.word.proofs.Sizes.{abs-fits}
use Rattle.decoder.specs.With.{build, with_gain, with_exc, with_memory, with_out_buf, with_lag, with_lines, with_first, with_noise, with_losses, with_type, with_plc, with_settings, with_sizes}
use Rattle.decoder.specs.Typed.{Words, TypedCng, TypedPlc, TypedSettings, Typed}
use Rattle.decoder.specs.declared.SilkCNGState.{SilkCNGState}
use Rattle.decoder.specs.declared.SilkPLCState.{SilkPLCState}
use Rattle.decoder.specs.declared.Settings.{Settings}
use Rattle.decoder.specs.declared.SilkDecoderState.{SilkDecoderState}
use Rattle.decoder.proofs.Between.{Between}
use Rattle.decoder.proofs.Types.{append-words, drop-words}

pub words : {w : Width} {n : ℕ} {xs : List ℤ} → length xs ≡ n → AllFit w xs → Words w n xs
words e f = record { count = e; fits = f }

-- the first d places of a list anew, the rest kept
pub words-front : {w : Width} {d n : ℕ} (xs ys : List ℤ) → Words w d xs → Words w n ys → d ≤ n → Words w n (xs ++ drop d ys)
words-front {w} {d} {n} xs ys a b h =
    let k = append-words xs (drop d ys) a (drop-words d ys b) in
    words (k.count ∙ omega arith) k.fits

-- ---- a number of a range
pub in_range : (l h n : ℕ) → l ≤ n → n ≤ h → Between l h (pos n)
in_range l h n a b = record { is = refl; low = a; high = b }

pub wider : {l h : ℕ} {z : ℤ} (l' h' : ℕ) → l' ≤ l → h ≤ h' → Between l h z → Between l' h' z
wider l' h' a b k = record { is = k.is; low = omega (arith, k.low); high = omega (arith, k.high) }

pub between_32 : {l h : ℕ} {z : ℤ} → Between l h z → h < 2147483648 → SFits w32 z
between_32 {l} {h} {z} b k = abs-fits z (omega (arith, b.high))

pub between_16 : {l h : ℕ} {z : ℤ} → Between l h z → h < 32768 → SFits w16 z
between_16 {l} {h} {z} b k = abs-fits z (omega (arith, b.high))

-- ---- a state with some of its fields changed
typed_build : {s : SilkDecoderState} {gain : ℤ} {exc : List ℤ} {memory : List ℤ} {buf : List ℤ} {lag : ℤ} {lines : List ℤ} {first : ℤ} {noise : SilkCNGState} {losses : ℤ} {type : ℤ} {plc : SilkPLCState} {settings : Settings} → Typed s
    → SFits w32 gain → Words w32 320 exc → Words w32 16 memory → Words w16 480 buf → SFits w32 lag → Words w16 16 lines → SFits w32 first → TypedCng noise → SFits w32 losses → SFits w32 type → TypedPlc plc → TypedSettings settings
    → Typed (build s gain exc memory buf lag lines first noise losses type plc settings)
typed_build t gain exc memory buf lag lines first noise losses type plc settings =
    record {
      prev_gain_q16 = gain;
      exc_q14 = exc;
      s_lpc_q14_buf = memory;
      out_buf = buf;
      lag_prev = lag;
      fs_khz = t.fs_khz;
      nb_subfr = t.nb_subfr;
      frame_length = t.frame_length;
      subfr_length = t.subfr_length;
      ltp_mem_length = t.ltp_mem_length;
      lpc_order = t.lpc_order;
      prev_nlsf_q15 = lines;
      first_frame_after_reset = first;
      s_cng = noise;
      loss_cnt = losses;
      prev_signal_type = type;
      s_plc = plc;
      settings = settings;
    }

module _ {s : SilkDecoderState} (t : Typed s) where
  pub typed_gain : {gain : ℤ} → SFits w32 gain → Typed (with_gain s gain)
  typed_gain h = typed_build t h t.exc_q14 t.s_lpc_q14_buf t.out_buf t.lag_prev t.prev_nlsf_q15 t.first_frame_after_reset t.s_cng t.loss_cnt t.prev_signal_type t.s_plc t.settings

  pub typed_exc : {exc : List ℤ} → Words w32 320 exc → Typed (with_exc s exc)
  typed_exc h = typed_build t t.prev_gain_q16 h t.s_lpc_q14_buf t.out_buf t.lag_prev t.prev_nlsf_q15 t.first_frame_after_reset t.s_cng t.loss_cnt t.prev_signal_type t.s_plc t.settings

  pub typed_memory : {memory : List ℤ} → Words w32 16 memory → Typed (with_memory s memory)
  typed_memory h = typed_build t t.prev_gain_q16 t.exc_q14 h t.out_buf t.lag_prev t.prev_nlsf_q15 t.first_frame_after_reset t.s_cng t.loss_cnt t.prev_signal_type t.s_plc t.settings

  pub typed_out_buf : {buf : List ℤ} → Words w16 480 buf → Typed (with_out_buf s buf)
  typed_out_buf h = typed_build t t.prev_gain_q16 t.exc_q14 t.s_lpc_q14_buf h t.lag_prev t.prev_nlsf_q15 t.first_frame_after_reset t.s_cng t.loss_cnt t.prev_signal_type t.s_plc t.settings

  pub typed_lag : {lag : ℤ} → SFits w32 lag → Typed (with_lag s lag)
  typed_lag h = typed_build t t.prev_gain_q16 t.exc_q14 t.s_lpc_q14_buf t.out_buf h t.prev_nlsf_q15 t.first_frame_after_reset t.s_cng t.loss_cnt t.prev_signal_type t.s_plc t.settings

  pub typed_lines : {lines : List ℤ} → Words w16 16 lines → Typed (with_lines s lines)
  typed_lines h = typed_build t t.prev_gain_q16 t.exc_q14 t.s_lpc_q14_buf t.out_buf t.lag_prev h t.first_frame_after_reset t.s_cng t.loss_cnt t.prev_signal_type t.s_plc t.settings

  pub typed_first : {first : ℤ} → SFits w32 first → Typed (with_first s first)
  typed_first h = typed_build t t.prev_gain_q16 t.exc_q14 t.s_lpc_q14_buf t.out_buf t.lag_prev t.prev_nlsf_q15 h t.s_cng t.loss_cnt t.prev_signal_type t.s_plc t.settings

  pub typed_noise : {noise : SilkCNGState} → TypedCng noise → Typed (with_noise s noise)
  typed_noise h = typed_build t t.prev_gain_q16 t.exc_q14 t.s_lpc_q14_buf t.out_buf t.lag_prev t.prev_nlsf_q15 t.first_frame_after_reset h t.loss_cnt t.prev_signal_type t.s_plc t.settings

  pub typed_losses : {losses : ℤ} → SFits w32 losses → Typed (with_losses s losses)
  typed_losses h = typed_build t t.prev_gain_q16 t.exc_q14 t.s_lpc_q14_buf t.out_buf t.lag_prev t.prev_nlsf_q15 t.first_frame_after_reset t.s_cng h t.prev_signal_type t.s_plc t.settings

  pub typed_type : {type : ℤ} → SFits w32 type → Typed (with_type s type)
  typed_type h = typed_build t t.prev_gain_q16 t.exc_q14 t.s_lpc_q14_buf t.out_buf t.lag_prev t.prev_nlsf_q15 t.first_frame_after_reset t.s_cng t.loss_cnt h t.s_plc t.settings

  pub typed_plc : {plc : SilkPLCState} → TypedPlc plc → Typed (with_plc s plc)
  typed_plc h = typed_build t t.prev_gain_q16 t.exc_q14 t.s_lpc_q14_buf t.out_buf t.lag_prev t.prev_nlsf_q15 t.first_frame_after_reset t.s_cng t.loss_cnt t.prev_signal_type h t.settings

  pub typed_settings : {settings : Settings} → TypedSettings settings → Typed (with_settings s settings)
  typed_settings h = typed_build t t.prev_gain_q16 t.exc_q14 t.s_lpc_q14_buf t.out_buf t.lag_prev t.prev_nlsf_q15 t.first_frame_after_reset t.s_cng t.loss_cnt t.prev_signal_type t.s_plc h

  pub typed_sizes : {khz nb frame subfr mem order : ℤ} → SFits w32 khz → SFits w32 nb → SFits w32 frame → SFits w32 subfr → SFits w32 mem → SFits w32 order → Typed (with_sizes s khz nb frame subfr mem order)
  typed_sizes khz nb frame subfr mem order =
      record {
        prev_gain_q16 = t.prev_gain_q16;
        exc_q14 = t.exc_q14;
        s_lpc_q14_buf = t.s_lpc_q14_buf;
        out_buf = t.out_buf;
        lag_prev = t.lag_prev;
        fs_khz = khz;
        nb_subfr = nb;
        frame_length = frame;
        subfr_length = subfr;
        ltp_mem_length = mem;
        lpc_order = order;
        prev_nlsf_q15 = t.prev_nlsf_q15;
        first_frame_after_reset = t.first_frame_after_reset;
        s_cng = t.s_cng;
        loss_cnt = t.loss_cnt;
        prev_signal_type = t.prev_signal_type;
        s_plc = t.s_plc;
        settings = t.settings;
      }
