use Rattle.std.proofs.Common.{◌≡◌, rules, length}
use lib.IntN.{pos}
use Rattle.listener.specs.Heard.{counts_of, rows_of}
use Rattle.listener.proofs.Mapping.{mapped}
use Rattle.listener.proofs.sixteen.Goals as goal

pub returns : goal.returns
unfolding rows_of
returns c =
    let a = c.args in
    let n : length a.seeds ≡ 16 = search rules in
    mapped _ _ (λ x. counts_of a.squelch a.k x a.frames) (λ x y q h. search rules) (pos 0) (record { received = 0; concealed = 0; squelched = 0 }) _ _ _ n c.map.ensures.items
