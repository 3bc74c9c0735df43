use mathlib.Core.Path.{refl}
use mir.Syntax.{w16}
use mir.Facts.{to_z-of_z}
use Rattle.word.proofs.Words.{kept}
use Rattle.replay.proofs.fn.shorts.map+FnOnce.call_once.Goals as goal

pub returns : goal.returns
returns c = (tt, rw (kept w16 _ c.map.type_inv, c.map.ensures, to_z-of_z c.ranges.arg2) refl)
