use mathlib.Core.Path.{◌≡◌, refl}
use lib.ListN.{length}
use Rattle.layout.proofs.Pieces.{begun, next}
use borrow.Author.Rules.{rules}
use Rattle.numbers.proofs.put_lists.Goals.{Start}
use Rattle.numbers.proofs.put_lists.Goals as goal

sizes : (c : Start) → (length c.args.taps ≡ 20) × (length c.args.first ≡ 16) × (length c.args.second ≡ 16) × (length c.args.lines ≡ 16)
sizes c = (search rules, search rules, search rules, search rules)

pub returns : goal.returns
returns c =
    let a = c.args in
    let z = sizes (goal.at.returns c).Start in
    let f1 = begun a.taps 20 z.0 c.copy_at.ensures in
    let f2 = next a.first 16 36 f1 z.1 refl c.copy_at-2.ensures in
    let f3 = next a.second 16 52 f2 z.2 refl c.copy_at-3.ensures in
    let f4 = next a.lines 16 68 f3 z.3 refl c.copy_at-4.ensures in
    f4.stored
