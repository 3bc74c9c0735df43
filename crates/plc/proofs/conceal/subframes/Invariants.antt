use Prim.Native.Nat.{◌+◌, ◌*◌, ◌-◌, ◌≤◌}
use mathlib.Core.Path.{◌≡◌}
use lib.ListN.{length, take}
use Rattle.shape.specs.Shape.{shape}
use Rattle.plc.specs.Conceal.{Voice, voice_of, voices}
use Rattle.plc.proofs.conceal.subframes.Given as goal

abbrev pub invariant-loop-j : goal.invariant-loop-j
invariant-loop-j l =
    (l.j ≤ l.n) × (length l.buf ≡ 640)
    × (◌≡◌ {A = Voice} (voice_of (take (l.mem + l.l * l.j) l.buf) l.k) (voices (shape l.frame.fs_khz l.frame.nb_subfr) l.noise 0 l.fading.harm_gain_q15 l.fading.rand_gain_q15 l.j (voice_of (take l.mem l.initial.buf) l.initial.k)))

abbrev pub decreases-loop-j : goal.decreases-loop-j
decreases-loop-j l = l.n - l.j
