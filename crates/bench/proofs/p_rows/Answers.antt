use mathlib.Core.Path.{◌≡◌, refl}
use mathlib.Core.Bool.{true}
use lib.Count.{count_leading_zeros}
use Rattle.word.specs.Int.{wrap, clamp, min_ℤ, max_ℤ}
use Rattle.word.specs.Row.{agree}
use Rattle.word.specs.Tabulate.{tabulate}
use Rattle.word.proofs.Rows.{row_agrees}
use Rattle.macros.specs.Fixed.{smulww, smulwb, smulbb, smmul, smlaww, smlawb, lshift_sat32, rand, round_shift, rshift_round, clz32, frac_q7, sqrt_start, sqrt_approx}
use Rattle.macros.specs.Quotient.{headroom, shift_up, shift_down, normal, first_inverse, second_inverse, inverse32_varq}
use Rattle.stability.specs.Stability.{a_limit, reflection, rc_mult1, next_gain, step, and_then, steps, total, stability_by, stability, answer_number, answer_value, test_refusal, tested_under}
use Rattle.edition.specs.Edition.{is_edition}
use Rattle.refusal.specs.First.{first_of}
use Rattle.shape.specs.Shape.{order_of, is_rate, is_count, rate_of, count_of}
use Rattle.decoder.specs.Signals.{signal_number, is_voiced}
use Rattle.decoder.specs.SetUp.{cng_default, plc_default, silk_default, state_from, set_up_refusal, set_up_with}
use Rattle.decoder.specs.Ranges.{within}
use Rattle.decoder.specs.Settings.{is_squelch, default_settings}
use Rattle.judge.specs.Taps.{tap_sum}
use Rattle.excitation.specs.Excitation.{offset_q14, level, generator_at, excitation}
use Rattle.excitation.specs.Excitation as E
use Rattle.decode_core.specs.Core.{core_excitation, decode_core}
use Rattle.plc.specs.Hold.{plc_reset, plc_ready}
use Rattle.plc.specs.Update.{stronger, strongest, scaled_by, scaled_tap, pulse_of, plc_updated, plc_update}
use Rattle.plc.specs.Conceal.{excited, excited_times, faded_voice, voices, voice_by, voice, held_after, plc_conceal}
use Rattle.cng.specs.Noise.{flat_line, cng_reset, cng_ready, halved_mask, sounded, comfort_noise}
use Rattle.bench.specs.Bench.{bench}
use Rattle.bench.proofs.p_rows.Goals as goal

bench_agrees : agree bench ≡ true
unfolding bench agree rand wrap clamp count_leading_zeros smulww smulwb smulbb smmul smlaww smlawb lshift_sat32 round_shift rshift_round clz32 frac_q7 sqrt_start sqrt_approx headroom shift_up shift_down normal first_inverse second_inverse inverse32_varq stability stability_by steps step and_then total answer_number answer_value test_refusal tested_under is_edition a_limit next_gain rc_mult1 reflection first_of order_of is_rate is_count rate_of count_of signal_number is_voiced within is_squelch default_settings set_up_with set_up_refusal state_from silk_default plc_default cng_default tap_sum offset_q14 level E.excited generator_at excitation core_excitation decode_core plc_reset plc_ready stronger strongest scaled_by scaled_tap pulse_of plc_updated plc_update min_ℤ max_ℤ plc_conceal held_after voice voice_by voices faded_voice excited_times excited flat_line cng_reset cng_ready halved_mask sounded comfort_noise tabulate
bench_agrees = refl

pub returns : goal.returns
returns c = (bench_agrees, λ k d h. row_agrees bench k d bench_agrees h)
