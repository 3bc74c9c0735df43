use mathlib.Core.Path.{◌≡◌, refl, sym}
use borrow.Author.Rules.{rules}
use borrow.Author.Tests.{lt-ltb, le-ltb}
use lib.ListN.{length}
use lib.Seq.{length-take-le}
use mir.Syntax.{w32}
use mir.Facts.{to_z-of_z}
use Rattle.word.proofs.Words.{got}
use Rattle.post_filters.specs.Calls.{called, given, sentence_call}
use Rattle.post_filters.proofs.post_sentence.Goals as goal

pub returns-then-text-lt64 : goal.returns-then-text-lt64
unfolding sentence_call called
returns-then-text-lt64 c = rw (lt-ltb (length c.args.text.now) 64 c.if-text-lt64.true) refl

pub copy_from_slice-requires : goal.copy_from_slice-requires
copy_from_slice-requires c =
    let l : length c.sentence_of-sentence.result.letters ≡ 64 = search rules in
    rw (length-take-le 64 c.args.text.now c.if-text-lt64.false, l) refl

pub returns-in-Ok : goal.returns-in-Ok
unfolding sentence_call called given
returns-in-Ok c =
    let e = sym (rw (to_z-of_z c.ranges.edition) at c.in-Ok.ensures) in
    let l : length c.sentence_of-sentence.result.letters ≡ 64 = search rules in
    let m = rw c.sentence_of-sentence.ensures at l in
    rw (le-ltb (length c.args.text.now) 64 c.if-text-lt64.false, e, c.copy_from_slice.ensures.after, c.sentence_of-sentence.ensures, m) refl

pub returns-in-Err : goal.returns-in-Err
unfolding sentence_call called given
returns-in-Err c =
    let e = sym (rw (to_z-of_z c.ranges.edition) at c.in-Err.ensures) in
    let n = got w32 c.code.type_inv c.code.ensures in
    rw (le-ltb (length c.args.text.now) 64 c.if-text-lt64.false, e, n) refl
