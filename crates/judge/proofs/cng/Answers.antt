use lib.Dec.{lit<}
use mir.Syntax.{w32}
use Rattle.word.proofs.Words.{kept}
use borrow.Author.Rules.{rules}
use Rattle.refusal.proofs.Clear.{row_stops, row_passes, run_stops, run_passes}
use Rattle.decoder.specs.Rows.{state_rows}
use Rattle.decoder.proofs.Tests.{is_key}
use Rattle.judge.proofs.cng.Goals as goal

pub returns-in_err-state_rows : goal.returns-in_err-state_rows
returns-in_err-state_rows c = run_stops (state_rows c.args.s.now) _ c.state_rows.ensures c.in_err-state_rows.was c.from_residual.ensures.1

pub returns-in_err-refuse_if : goal.returns-in_err-refuse_if
returns-in_err-refuse_if c =
    let s = c.args.s.now in
    run_passes (state_rows s) _ c.state_rows.ensures c.in_ok-state_rows.was
    (row_stops _ _ c.refuse_if.ensures (rw (is_key w32 s.loss_cnt 0 (lit< tt) (record { sfits = search rules }), c.gain_row.ensures, kept w32 s.nb_subfr (search rules))) c.in_err-refuse_if.was c.from_residual-in_err-refuse_if.ensures.1)

pub returns : goal.returns
returns c =
    let s = c.args.s.now in
    run_passes (state_rows s) _ c.state_rows.ensures c.in_ok-state_rows.was
    (row_passes _ _ c.refuse_if.ensures (rw (is_key w32 s.loss_cnt 0 (lit< tt) (record { sfits = search rules }), c.gain_row.ensures, kept w32 s.nb_subfr (search rules))) c.in_ok-refuse_if.was (rw (c.refuse_if-2.ensures, c.length_row.ensures)))
