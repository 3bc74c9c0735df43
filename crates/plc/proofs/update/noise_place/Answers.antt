use Prim.Native.Nat.{ℕ, ◌+◌, ◌-◌, ◌*◌, ◌≤◌}
use mathlib.Core.Path.{◌≡◌, ◌∙◌}
use mathlib.Core.List.{List}
use native.Mathlib.Nat.{mul-le-mul}
use native.Mathlib.Omega.{arith}
use lib.IntN.{ℤ, pos}
use lib.ListN.{length, get_or, take, drop, length-drop}
use lib.Seq.{length-take-le}
use mir.Syntax.{w32}
use Rattle.word.proofs.Words.{kept}
use Rattle.sigproc.specs.Energy.{sum_sqr_shift}
use Rattle.plc.specs.Conceal.{heard_by, older_smaller, place_from}
use Rattle.plc.proofs.Noise.{length-heard_by, heard_by_bounded, older-is}
use Rattle.plc.proofs.update.noise_place.Goals.{After-older_smaller, Start}
use Rattle.plc.proofs.update.noise_place.Goals as goal

abbrev part : Start → ℕ → List ℤ
part a k =
    heard_by (get_or a.args.gains k (pos 0)) (take a.args.l (drop ((k + a.args.n - 2) * a.args.l) a.args.exc.now))

-- subframe k of the last two ends within the excitation
ends : (a : Start) (k : ℕ) → k ≤ 1 → (k + a.args.n - 2) * a.args.l + a.args.l ≤ 320
ends a k h =
    let i : k + a.args.n - 2 ≤ 3 = omega arith in
    omega (arith, mul-le-mul i a.requires.1)

first : (n : ℕ) → 0 + n - 2 ≡ n - 2
first n = omega arith

second : (n : ℕ) → 1 + n - 2 ≡ n - 1
second n = omega arith

early : (a : Start) → (a.args.n - 2) * a.args.l + a.args.l ≤ 320
early a = rw first at (ends a 0 (omega arith))

late : (a : Start) → (a.args.n - 1) * a.args.l + a.args.l ≤ 320
late a = rw second at (ends a 1 (omega arith))

long : (a : Start) (k : ℕ) → k ≤ 1 → length (part a k) ≡ a.args.l
long a k h =
    length-heard_by _ _ ∙ length-take-le a.args.l (drop ((k + a.args.n - 2) * a.args.l) a.args.exc.now) (simp length-drop (omega (arith, ends a k h)))

older : (c : After-older_smaller) → c.older_smaller.result ≡ older_smaller (part c.before.before.before.before.before 0) (part c.before.before.before.before.before 1)
older c =
    let o : c.heard_energy-old.result ≡ sum_sqr_shift (part c.before.before.before.before.before 0) =
    c.heard_energy-old.ensures ∙ rw (kept w32 (get_or c.args.gains 0 (pos 0)) c.heard_energy-arg-1.given, first c.args.n) in
    let n : c.heard_energy-new.result ≡ sum_sqr_shift (part c.before.before.before.before.before 1) =
    c.heard_energy-new.ensures ∙ rw (kept w32 (get_or c.args.gains 1 (pos 0)) c.heard_energy-arg-2-1.given, second c.args.n) in
    let lo = long c.before.before.before.before.before 0 (omega arith) in
    let ln = long c.before.before.before.before.before 1 (omega arith) in
    rw (c.older_smaller.ensures, o, n)
    (older-is (part c.before.before.before.before.before 0) (part c.before.before.before.before.before 1) (heard_by_bounded _ _) (heard_by_bounded _ _) (omega arith) (omega arith) (omega arith) (omega arith))

pub returns-then-older_smaller : goal.returns-then-older_smaller
unfolding place_from
returns-then-older_smaller c = rw (c.before_end.ensures, ← older (goal.at.returns-then-older_smaller c).After-older_smaller, c.if-older_smaller.true)

pub returns-else-older_smaller : goal.returns-else-older_smaller
unfolding place_from
returns-else-older_smaller c = rw (c.before_end-else-older_smaller.ensures, ← older (goal.at.returns-else-older_smaller c).After-older_smaller, c.if-older_smaller.false)
