-- Document 02, Note 1: the state as a coming shape leaves it.
use Rattle.std.specs.Prelude.{Bool, cond, ℤ, pos, replicate}
use Rattle.word.specs.Int.{eq_ℤ}
use Rattle.decoder.specs.With.{with_memory, with_out_buf, with_lag, with_first, with_type, with_shape}
use Rattle.decoder.specs.declared.SilkDecoderState.{SilkDecoderState}

-- a state with a rate, a count and the sizes that follow from them; unless the rate is the same, with no history and no memory
unfoldable pub reshaped_by : Bool → ℤ → ℤ → SilkDecoderState → SilkDecoderState
reshaped_by same khz nb s =
    let a = with_out_buf (with_shape s khz nb) (cond same s.out_buf (replicate 480 (pos 0))) in
    let b = with_memory a (cond same s.s_lpc_q14_buf (replicate 16 (pos 0))) in
    let c = with_lag b (cond same s.lag_prev (pos 100)) in
    let d = with_type c (cond same s.prev_signal_type (pos 0)) in
    with_first d (cond same s.first_frame_after_reset (pos 1))

-- the state as a coming rate and count leave it
unfoldable pub reshaped : ℤ → ℤ → SilkDecoderState → SilkDecoderState
reshaped khz nb s = reshaped_by (eq_ℤ khz s.fs_khz) khz nb s
