-- The entries of the whole table, by one computation.
use mathlib.Core.Path.{◌≡◌, refl, sym, ap, ◌∙◌}
use mathlib.Core.List.{List}
use lib.IntN.{ℤ, pos}
use lib.ListN.{get_or}
use Rattle.word.specs.Tabulate.{tabulate}
use Rattle.word.proofs.Lists.{get_or-tabulate}
use Rattle.nlsf.specs.Table.{lsf_cos_half, lsf_cos}
use Rattle.nlsf.specs.Values.{lsf_cos_values, LsfCosKept}

whole : tabulate 129 lsf_cos ≡ lsf_cos_values
unfolding tabulate lsf_cos lsf_cos_half lsf_cos_values
whole = refl

pub lsf_cos_kept : LsfCosKept
lsf_cos_kept i h = sym (get_or-tabulate 129 lsf_cos i h) ∙ ap (λ (xs : List ℤ). get_or xs i (pos 0)) whole
