use mathlib.Core.Path.{◌≡◌}
use borrow.Author.Rules.{rules}
use mir.Syntax.{w32}
use mir.Val.{to_z, of_z}
use Rattle.word.proofs.Words.{kept, got}
use Rattle.decoder.specs.Signals.{signal_number}
use Rattle.decoder.specs.State.{shape_of}
use Rattle.plc.specs.Update.{updated_by, plc_update}
use Rattle.plc.proofs.update.plc_update.Goals as goal

pub returns : goal.returns
unfolding plc_update
returns c =
    let a = c.args in
    let s = a.s in
    let khz = kept w32 s.fs_khz (search rules) in
    let nb = kept w32 s.nb_subfr (search rules) in
    let type : to_z w32 (of_z w32 c.from.result) ≡ signal_number a.signal = got w32 c.from.type_inv c.from.ensures in
    let plc : c.received.result ≡ updated_by (shape_of s) a.signal a.c a.rows s.s_plc = rw (c.received.ensures, khz, nb) in
    rw (type, plc) (search rules)
