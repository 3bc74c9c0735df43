-- Set-up and the stages alone, on what slices hold: why a call is turned down, and the slices after it.
use Rattle.std.specs.Prelude.{ℕ, ℤ, Result}
use Rattle.refusal.specs.declared.Refusal.{Refusal}
use Rattle.decoder.specs.SetUp.{set_up_with}
use Rattle.decoder.specs.declared.Settings.{Settings}
use Rattle.decoder.specs.declared.SilkDecoderState.{SilkDecoderState}
use Rattle.glue.specs.Answer.{glue_answer, glue_output}
use Rattle.cng.specs.Answer.{cng_answer, cng_output}
use Rattle.plc.specs.Answer.{plc_received, plc_lost, plc_lost_output}
use Rattle.decode_core.specs.Answer.{core_answer, core_output}
use Rattle.layout.specs.Layout.{with_words, with_halves}
use Rattle.layout.specs.Frame.{params_in, tapless, rows_in, with_lags}
use Rattle.slices.specs.Slices.{Slices, slices, state_of, control_of, with_state, with_control, Answered, leaves}

-- a call that answers a and changes the state alone
abbrev pub stored_on : Result SilkDecoderState Refusal → Slices → Answered
stored_on a m = leaves a (λ s. with_state m s m.output) m

-- a state for a rate, a count of subframes and settings
unfoldable pub set_up_on : ℤ → ℤ → Settings → Slices → Answered
set_up_on rate subframes v m = stored_on (set_up_with rate subframes v) m

-- the synthesis of a received frame
unfoldable pub core_on : Slices → Answered
core_on m =
    let q = params_in m.frame in
    let played = core_output (state_of m) q (control_of m) (rows_in m.coefs) m.pulses m.output in
    leaves (core_answer (state_of m) q (control_of m) (rows_in m.coefs) m.pulses m.output)
    (λ a. with_control m a.state a.control played) m

-- what concealment keeps of a received frame
unfoldable pub plc_received_on : Slices → Answered
plc_received_on m =
    stored_on (plc_received (state_of m) (params_in m.frame) (control_of m) (rows_in m.coefs)) m

-- the concealment of a lost frame, of whose description it writes the lags alone
unfoldable pub plc_lost_on : Slices → Answered
plc_lost_on m =
    let c = tapless m.frame in
    let concealed = plc_lost_output (state_of m) c m.output in
    leaves (plc_lost (state_of m) c m.output)
    (λ a. slices (with_words m.words a.state) (with_halves m.halves a.state) (with_lags m.frame a.control) m.coefs m.pulses concealed)
    m

-- gluing of the first n samples
unfoldable pub glue_on : ℕ → Slices → Answered
glue_on n m =
    leaves (glue_answer (state_of m) m.output n) (λ s. with_state m s (glue_output (state_of m) m.output n)) m

-- comfort noise on the first n samples
unfoldable pub noise_on : ℕ → Slices → Answered
noise_on n m =
    let c = tapless m.frame in
    leaves (cng_answer (state_of m) c m.output n) (λ s. with_state m s (cng_output (state_of m) c m.output n)) m
