use mir.Syntax.{w32}
use Rattle.word.proofs.Words.{kept, eq_words}
use Rattle.refusal.proofs.Clear.{row_stops, row_passes}
use Rattle.recorder.proofs.head_rows.Goals as goal

pub returns-in_err-refuse_if : goal.returns-in_err-refuse_if
returns-in_err-refuse_if c = row_stops _ _ c.refuse_if.ensures (rw c.is_head.ensures) c.in_err-refuse_if.was c.from_residual.ensures.1

pub returns-in_err-refuse_if-2 : goal.returns-in_err-refuse_if-2
returns-in_err-refuse_if-2 c =
    row_passes _ _ c.refuse_if.ensures (rw c.is_head.ensures) c.in_ok-refuse_if.was
    (row_stops _ _ c.refuse_if-2.ensures
    (rw (c.is_rate.ensures, kept w32 c.from-khz.result c.from-khz.type_inv, eq_words w32 c.args.rate c.from-khz.result c.ranges.rate (record { sfits = c.from-khz.type_inv }), c.from-khz.ensures))
    c.in_err-refuse_if-2.was c.from_residual-in_err-refuse_if-2.ensures.1)

pub returns : goal.returns
returns c =
    row_passes _ _ c.refuse_if.ensures (rw c.is_head.ensures) c.in_ok-refuse_if.was
    (row_passes _ _ c.refuse_if-2.ensures
    (rw (c.is_rate.ensures, kept w32 c.from-khz.result c.from-khz.type_inv, eq_words w32 c.args.rate c.from-khz.result c.ranges.rate (record { sfits = c.from-khz.type_inv }), c.from-khz.ensures))
    c.in_ok-refuse_if-2.was
    (rw (c.refuse_if-3.ensures, c.is_count.ensures, kept w32 c.from-nb_subfr.result c.from-nb_subfr.type_inv, eq_words w32 c.args.subframes c.from-nb_subfr.result c.ranges.subframes (record { sfits = c.from-nb_subfr.type_inv }), c.from-nb_subfr.ensures)))
