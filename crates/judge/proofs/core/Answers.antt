use mir.Syntax.{w32}
use Rattle.word.proofs.Words.{kept}
use borrow.Author.Rules.{rules}
use Rattle.refusal.proofs.Clear.{run_stops, run_passes}
use Rattle.decoder.specs.State.{shape_of}
use Rattle.decoder.specs.Rows.{state_rows}
use Rattle.judge.specs.Rows.{param_rows}
use Rattle.judge.proofs.core.Goals as goal

pub returns-in_err-param_rows : goal.returns-in_err-param_rows
returns-in_err-param_rows c =
    let s = c.args.s.now in
    run_passes (state_rows s) _ c.state_rows.ensures c.in_ok-state_rows.was
    (run_stops (param_rows (shape_of s) c.args.q c.args.c.now) _ (rw (c.param_rows.ensures, kept w32 s.fs_khz (search rules), kept w32 s.nb_subfr (search rules))) c.in_err-param_rows.was c.from_residual-in_err-param_rows.ensures.1)
