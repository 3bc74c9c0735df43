-- What slices of their types hold has the ranges of its types; what the tests of their lengths say.
use Prim.Native.Nat.{ℕ, ◌+◌, ◌≤◌}
use mathlib.Core.Path.{◌≡◌}
use mathlib.Core.Bool.{false}
use mathlib.Core.List.{List}
use native.Mathlib.Omega.{arith}
use borrow.Author.Tests.{ltb-false}
use lib.Dec.{ltb}
use lib.IntN.{ℤ}
use lib.ListN.{length, drop}
use mir.Syntax.{Width, w16, w32}
use Rattle.word.proofs.Fits.{AllFit, take-fits, drop-fits}
use Rattle.word.proofs.Lists.{length_part}
use Rattle.std.proofs.lemmas.Bool.{or_parts}
use Rattle.decoder.specs.Typed.{Words, Typed, TypedControl, TypedRows}
use Rattle.layout.specs.Layout.{WORDS, HALVES, part, short_state, cng_in, plc_in, settings_in, state_in}
use Rattle.layout.specs.Frame.{FRAME, COEFS, short_frame, short_call, control_in, rows_in}

pub part-words : {w : Width} (xs : List ℤ) (at n : ℕ) → AllFit w xs → at + n ≤ length xs → Words w n (part xs at n)
part-words xs at n f h = record { count = length_part xs at n h; fits = take-fits n (drop at xs) (drop-fits at xs f) }

pub state_typed : (words halves : List ℤ) → AllFit w32 words → AllFit w16 halves → WORDS ≤ length words → HALVES ≤ length halves → Typed (state_in words halves)
unfolding state_in plc_in cng_in settings_in
state_typed words halves f g l k =
    record {
      prev_gain_q16 = f 0;
      exc_q14 = part-words words 1 320 f (omega arith);
      s_lpc_q14_buf = part-words words 321 16 f (omega arith);
      out_buf = part-words halves 0 480 g (omega arith);
      lag_prev = f 337;
      fs_khz = f 338;
      nb_subfr = f 339;
      frame_length = f 340;
      subfr_length = f 341;
      ltp_mem_length = f 342;
      lpc_order = f 343;
      prev_nlsf_q15 = part-words halves 480 16 g (omega arith);
      first_frame_after_reset = f 344;
      s_cng = record {
        cng_exc_buf_q14 = part-words words 357 320 f (omega arith);
        cng_smth_nlsf_q15 = part-words halves 519 16 g (omega arith);
        cng_synth_state = part-words words 677 16 f (omega arith);
        cng_smth_gain_q16 = f 693;
        rand_seed = f 694;
        fs_khz = f 695;
      };
      loss_cnt = f 345;
      prev_signal_type = f 346;
      s_plc = record {
        pitch_l_q8 = f 347;
        ltp_coef_q14 = part-words halves 496 5 g (omega arith);
        prev_lpc_q12 = part-words halves 501 16 g (omega arith);
        last_frame_lost = f 348;
        rand_seed = f 349;
        rand_scale_q14 = g 517;
        conc_energy = f 350;
        conc_energy_shift = f 351;
        prev_ltp_scale_q14 = g 518;
        prev_gain_q16 = part-words words 352 2 f (omega arith);
        fs_khz = f 354;
        nb_subfr = f 355;
        subfr_length = f 356;
      };
      settings = record { squelch = f 696; edition = f 697 };
    }

pub control_typed : (frame coefs : List ℤ) → AllFit w32 frame → AllFit w16 coefs → FRAME ≤ length frame → 20 ≤ length coefs → TypedControl (control_in frame coefs)
unfolding control_in
control_typed frame coefs f g l k =
    record {
      pitch_l = part-words frame 7 4 f (omega arith);
      gains_q16 = part-words frame 11 4 f (omega arith);
      ltp_coef_q14 = part-words coefs 0 20 g (omega arith);
      ltp_scale_q14 = f 15;
    }

pub rows_typed : (coefs : List ℤ) → AllFit w16 coefs → COEFS ≤ length coefs → TypedRows (rows_in coefs)
unfolding rows_in
rows_typed coefs f l =
    record { first = part-words coefs 20 16 f (omega arith); second = part-words coefs 36 16 f (omega arith) }

-- ---- lengths that are not too short
pub state_long : (words halves : ℕ) → short_state words halves ≡ false → (WORDS ≤ words) × (HALVES ≤ halves)
unfolding short_state
state_long words halves e =
    let b = or_parts (ltb words WORDS) (ltb halves HALVES) e in
    (ltb-false words WORDS b.0, ltb-false halves HALVES b.1)

pub frame_long : (words halves frame : ℕ) → short_frame words halves frame ≡ false → (WORDS ≤ words) × (HALVES ≤ halves) × (FRAME ≤ frame)
unfolding short_frame
frame_long words halves frame e =
    let b = or_parts (short_state words halves) (ltb frame FRAME) e in
    let l = state_long words halves b.0 in
    (l.0, l.1, ltb-false frame FRAME b.1)

pub call_long : (words halves frame coefs : ℕ) → short_call words halves frame coefs ≡ false → (WORDS ≤ words) × (HALVES ≤ halves) × (FRAME ≤ frame) × (COEFS ≤ coefs)
unfolding short_call
call_long words halves frame coefs e =
    let b = or_parts (short_frame words halves frame) (ltb coefs COEFS) e in
    let l = frame_long words halves frame b.0 in
    (l.0, l.1, l.2, ltb-false coefs COEFS b.1)
