use native.Mathlib.Omega.{arith}
use borrow.Author.Rules.{rules}
use mir.Syntax.{w32}
use Rattle.word.proofs.Words.{kept}
use Rattle.shape.specs.Shape.{rate_of}
use Rattle.shape.proofs.Shapes.{rate_le, rate_back, count_back, shaped}
use Rattle.plc.specs.Conceal.{heard, noise_place}
use Rattle.plc.proofs.Noise.{Held, held}
use Rattle.plc.proofs.conceal.place.Goals.{Start}
use Rattle.plc.proofs.conceal.place.Goals as goal

-- the numbers held, as they were read
numbers : (c : Start) → Held c.args.h.nb_subfr c.args.h.subfr_length
numbers c =
    let r = rate_of c.args.frame.fs_khz in
    held r c.args.h.nb_subfr c.args.h.subfr_length (rate_le c.args.frame.fs_khz) c.requires

pub overflow_cast-h : goal.overflow_cast-h
overflow_cast-h c =
    let g = numbers (goal.at.overflow_cast-h c).Start in
    rw (kept w32 c.args.h.nb_subfr c.struct_told-3-1.given.1.1.1.1.1.1.1.1.1.1.1.0.1, g.count) (tt, omega (arith, g.count_high))

pub overflow_cast-h-2 : goal.overflow_cast-h-2
overflow_cast-h-2 c =
    let g = numbers (goal.at.overflow_cast-h-2 c).Start in
    rw (kept w32 c.args.h.subfr_length c.struct_told-3-1.given.1.1.1.1.1.1.1.1.1.1.1.1.0.1, g.length) (tt, omega (arith, g.length_high))

pub noise_place-requires : goal.noise_place-requires
noise_place-requires c =
    let h = c.args.h in
    let f = c.args.frame in
    let g = numbers (goal.at.noise_place-requires c).Start in
    let b = shaped f.fs_khz f.nb_subfr f.rate f.count in
    rw (c.subfr_length.ensures, c.count_of.ensures, rate_back f.fs_khz f.rate, count_back f.nb_subfr f.count, kept w32 h.nb_subfr c.struct_told-3-1.given.1.1.1.1.1.1.1.1.1.1.1.0.1, kept w32 h.subfr_length c.struct_told-3-1.given.1.1.1.1.1.1.1.1.1.1.1.1.0.1)
    (omega (arith, b.rate_low), omega (arith, b.rate_high), b.count_low, b.count_high, omega (arith, g.count_low), g.count_high, g.length_high, search rules)

pub returns : goal.returns
unfolding noise_place heard
returns c =
    let h = c.args.h in
    let f = c.args.frame in
    let g = numbers (goal.at.returns c).Start in
    rw (c.noise_place.ensures, c.subfr_length.ensures, c.count_of.ensures, rate_back f.fs_khz f.rate, count_back f.nb_subfr f.count, kept w32 h.nb_subfr c.struct_told-3-1.given.1.1.1.1.1.1.1.1.1.1.1.0.1, kept w32 h.subfr_length c.struct_told-3-1.given.1.1.1.1.1.1.1.1.1.1.1.1.0.1, ← g.count, ← g.length)
