use mathlib.Core.Path.{refl}
use mir.Syntax.{w16, w32}
use Rattle.word.proofs.Words.{low_fits, low-back}
use Rattle.word.proofs.low16.Goals as goal

pub overflow_cast-result : goal.overflow_cast-result
overflow_cast-result c = low_fits w16 w32 refl refl c.args.x c.ranges.x

pub returns : goal.returns
returns c = low-back w16 w32 refl refl c.args.x c.ranges.x
