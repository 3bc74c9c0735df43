use Prim.Native.Nat.{◌-◌}
use mathlib.Core.Path.{◌≡◌, refl, sym, ◌∙◌}
use borrow.Author.Tests.{lt-ltb, le-ltb}
use lib.IntN.{pos, neg_ℤ}
use lib.ListN.{get_or}
use Rattle.nlsf.specs.Table.{lsf_cos_half, lsf_cos}
use Rattle.nlsf.proofs.Lines.{half_le, entry_kept, minus_fits, minus_kept}
use Rattle.nlsf.proofs.lsf_cos.Goals as goal

pub overflow_sub-result-then-i-gt64 : goal.overflow_sub-result-then-i-gt64
unfolding lsf_cos_half
overflow_sub-result-then-i-gt64 c = minus_fits (get_or lsf_cos_half (128 - c.args.i) (pos 0)) (half_le (128 - c.args.i))

pub returns-then-i-gt64 : goal.returns-then-i-gt64
unfolding lsf_cos_half
returns-then-i-gt64 c =
    let x = get_or lsf_cos_half (128 - c.args.i) (pos 0) in
    let e : lsf_cos c.args.i ≡ neg_ℤ x = unfold lsf_cos in rw (lt-ltb 64 c.args.i c.if-i-gt64.true) refl in
    minus_kept x (half_le (128 - c.args.i)) ∙ sym e

pub returns : goal.returns
unfolding lsf_cos_half
returns c =
    let x = get_or lsf_cos_half c.args.i (pos 0) in
    let e : lsf_cos c.args.i ≡ x = unfold lsf_cos in rw (le-ltb 64 c.args.i c.if-i-gt64.false) refl in
    entry_kept x (half_le c.args.i) ∙ sym e
