use borrow.Author.Rules.{rules}
use mir.Syntax.{w8, w32}
use Rattle.word.proofs.Words.{kept}
use Rattle.decode_core.specs.Core.{transition, setting_of}
use Rattle.decode_core.proofs.setting_of.Goals as goal

pub returns : goal.returns
unfolding setting_of transition
returns c =
    let s = c.args.s.now in
    rw (
      c.count_of-nb_subfr.ensures,
      c.subfr_length-subfr_length.ensures,
      c.ltp_mem_length-ltp_mem_length.ensures,
      c.lpc_order-lpc_order.ensures,
      c.then_some-transition.ensures,
      c.transition.ensures,
      c.interpolates-interpolated.ensures,
      c.is_voiced-voiced.ensures,
      kept w32 s.fs_khz (search rules),
      kept w32 s.nb_subfr (search rules),
      kept w32 s.loss_cnt (search rules),
      kept w32 s.prev_signal_type (search rules),
      kept w8 c.args.q.nlsf_interp_coef_q2 (search rules),
      kept w32 s.lag_prev (search rules),
    )
