use Prim.Native.Nat.{◌+◌, ◌*◌, ◌^◌, ◌<◌}
use mathlib.Core.Path.{◌≡◌, sym, ap, ◌∙◌}
use mathlib.Core.Bool.{Bool, true, false}
use native.Mathlib.Omega.{arith}
use borrow.Author.Tests.{lt-ltb, le-ltb}
use lib.Dec.{ltb}
use lib.IntN.{ℤ, pos}
use lib.ListN.{get_or}
use lib.Signed.{mag}
use mir.Syntax.{w32}
use mir.Val.{to_z, of_z, hbits}
use Rattle.word.proofs.Words.{kept}
use Rattle.shape.specs.Shape.{is_rate, is_count}
use Rattle.stream.specs.Header.{is_stream, samples_of, opened_of}
use Rattle.stream.proofs.read_header.Goals.{Else-not-is_count, Else-not-is_rate, Else-not-is_stream}
use Rattle.stream.proofs.read_header.Goals as goal

-- a test of a number that a call gave
judged : (f : ℤ → Bool) {r b : Bool} {z y : ℤ} → mag z < 2 ^ hbits w32 → z ≡ y → r ≡ f (to_z w32 (of_z w32 z)) → r ≡ b → f y ≡ b
judged f {r} {b} {z} {y} h e p q = ap f (sym (kept w32 z h ∙ e)) ∙ sym p ∙ q

-- what held where the tests were passed: of the count and the bytes, of the rate, of the subframes
begun : (c : Else-not-is_stream) → let a = c.args in (ltb a.got 16 ≡ false) × (is_stream a.header.now ≡ true)
begun c =
    (le-ltb _ _ c.if-got-lt16.false, sym c.is_stream.ensures ∙ c.if-not-is_stream.false)

rated : (c : Else-not-is_rate) → is_rate (pos (get_or c.args.header.now 8 0)) ≡ true
rated c =
    let s = c.from in
    judged is_rate s.type_inv s.ensures c.is_rate.ensures c.if-not-is_rate.false

counted : (c : Else-not-is_count) → is_count (pos (get_or c.args.header.now 9 0)) ≡ true
counted c =
    let s = c.from-2 in
    judged is_count s.type_inv s.ensures c.is_count.ensures c.if-not-is_count.false

pub returns-then-got-lt16 : goal.returns-then-got-lt16
unfolding opened_of
returns-then-got-lt16 c = rw (lt-ltb _ _ c.if-got-lt16.true)

pub returns-then-not-is_stream : goal.returns-then-not-is_stream
unfolding opened_of
returns-then-not-is_stream c =
    rw (le-ltb _ _ c.if-got-lt16.false, sym c.is_stream.ensures ∙ c.if-not-is_stream.true)

pub returns-then-not-is_rate : goal.returns-then-not-is_rate
unfolding opened_of
returns-then-not-is_rate c =
    let p = begun (goal.at.returns-then-not-is_rate c).Else-not-is_stream in
    let s = c.from in
    rw (p.0, p.1, judged is_rate s.type_inv s.ensures c.is_rate.ensures c.if-not-is_rate.true)

pub returns-then-not-is_count : goal.returns-then-not-is_count
unfolding opened_of
returns-then-not-is_count c =
    let p = begun (goal.at.returns-then-not-is_count c).Else-not-is_stream in
    let s = c.from-2 in
    rw (p.0, p.1, rated (goal.at.returns-then-not-is_count c).Else-not-is_rate, judged is_count s.type_inv s.ensures c.is_count.ensures c.if-not-is_count.true)

pub returns-then-samples-ge4294967296 : goal.returns-then-samples-ge4294967296
unfolding opened_of
returns-then-samples-ge4294967296 c =
    let p = begun (goal.at.returns-then-samples-ge4294967296 c).Else-not-is_stream in
    let e = c.samples_of-samples.ensures.0 in
    let l = le-ltb (36 + 2 * samples_of c.args.header.now) 4294967296 (omega arith) in
    rw (p.0, p.1, rated (goal.at.returns-then-samples-ge4294967296 c).Else-not-is_rate, counted (goal.at.returns-then-samples-ge4294967296 c).Else-not-is_count, l)

pub returns : goal.returns
unfolding opened_of
returns c =
    let p = begun (goal.at.returns c).Else-not-is_stream in
    let e = c.samples_of-samples.ensures.0 in
    let l = lt-ltb (36 + 2 * samples_of c.args.header.now) 4294967296 (omega arith) in
    rw (p.0, p.1, rated (goal.at.returns c).Else-not-is_rate, counted (goal.at.returns c).Else-not-is_count, l, e, c.at.ensures)
