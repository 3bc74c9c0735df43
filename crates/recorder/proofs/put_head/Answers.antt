use Prim.Native.Nat.{ℕ}
use mathlib.Core.Path.{ap, ◌∙◌}
use mathlib.Core.List.{List, [], ◌∷◌}
use lib.IntN.{ℤ}
use lib.ListN.{replicate}
use mir.Facts.{to_z-of_z}
use Rattle.word.specs.Int.{mod_ℤ}
use Rattle.le.specs.Bytes.{with_bytes}
use Rattle.std.specs.Prelude.{codes}
use Rattle.recorder.proofs.Laws.{put_head}
use Rattle.recorder.proofs.put_head.Goals as goal

pub returns : goal.returns
returns c =
    let d = c.args.bytes.now in
    let r = c.low_byte.ensures ∙ ap (λ (z : ℤ). mod_ℤ z 256) (to_z-of_z c.ranges.rate) in
    let n = c.low_byte-2.ensures ∙ ap (λ (z : ℤ). mod_ℤ z 256) (to_z-of_z c.ranges.subframes) in
    c.put_zeros-2.ensures
    ∙ ap (λ (e : List ℕ). with_bytes e 8 (replicate 1016 0))
    (c.put_bytes-2.ensures
    ∙ (λ i. with_bytes (c.put_bytes.ensures i) 6 (r i ∷ n i ∷ []))
    ∙ ap (λ (e : List ℕ). with_bytes (with_bytes e 2 (codes "YARD")) 6 (mod_ℤ c.args.rate 256 ∷ mod_ℤ c.args.subframes 256 ∷ [])) c.put_zeros.ensures)
    ∙ put_head d c.args.rate c.args.subframes c.requires
