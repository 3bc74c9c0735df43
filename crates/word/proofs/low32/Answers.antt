use mathlib.Core.Path.{refl}
use mir.Syntax.{w32, w64}
use Rattle.word.proofs.Words.{low_fits, low-back}
use Rattle.word.proofs.low32.Goals as goal

pub returns : goal.returns
returns c = low-back w32 w64 refl refl c.args.x c.ranges.x

pub overflow_cast-result : goal.overflow_cast-result
overflow_cast-result c = low_fits w32 w64 refl refl c.args.x c.ranges.x
