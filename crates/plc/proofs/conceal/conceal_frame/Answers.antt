use Rattle.shape.specs.Shape.{rate_of}
use Rattle.shape.proofs.Shapes.{shaped, count_le, rate_back, count_back}
use Rattle.decoder.specs.State.{shape_of}
use Rattle.decoder.proofs.Bounds.{plc_bounds, plc_held-fits}
use Rattle.plc.specs.Conceal.{signal, held_after, concealed_by}
use Rattle.plc.proofs.Ready.{ready_held}
use Rattle.plc.proofs.conceal.conceal_frame.Goals as goal

pub ready-h-requires : goal.ready-h-requires
ready-h-requires c = rw c.count_of.ensures (count_le _)

pub conceal-requires : goal.conceal-requires
conceal-requires c =
    let s = c.args.s.now in
    let r = rate_of s.fs_khz in
    let g = shaped s.fs_khz s.nb_subfr c.requires.0 c.requires.1 in
    rw (c.ready-h.ensures, c.count_of.ensures, rate_back s.fs_khz c.requires.0, count_back s.nb_subfr c.requires.1)
    (c.requires.3, plc_held-fits r _ (ready_held (shape_of s) s.s_plc g (plc_bounds r s.s_plc c.requires.2)))

pub returns : goal.returns
unfolding concealed_by held_after signal
returns c =
    let s = c.args.s.now in
    rw (c.ready-h.ensures, c.count_of.ensures, rate_back s.fs_khz c.requires.0, count_back s.nb_subfr c.requires.1) at c.conceal.ensures
