use mathlib.Core.Path.{◌≡◌}
use lib.ListN.{length}
use Rattle.decode_core.proofs.Loop.{Going}
use Rattle.decode_core.proofs.Source.subframes.Given as goal

abbrev pub invariant-loop-k : goal.invariant-loop-k
invariant-loop-k l =
    (length l.signal ≡ length l.initial.signal) × (length l.out_buf ≡ 480) × (length l.xq ≡ length l.initial.xq)
    × Going l.self.setting l.self.rows l.self.exc.now l.self.setting.nb_subfr l.initial.t l.initial.signal l.initial.past l.initial.out_buf l.initial.xq l.k l.t l.signal l.past l.out_buf l.xq
