use mathlib.Core.Path.{◌≡◌}
use Rattle.generator.specs.Draws.{drawn}
use Rattle.listener.specs.Link.{good_at}
use Rattle.listener.specs.Heard.{as_received, as_concealed, as_squelched, losses_at, count_to}
use Rattle.listener.proofs.followed.Given as goal

abbrev pub invariant-loop : goal.invariant-loop
invariant-loop l =
    (l.x ≡ drawn l.seed l.counter) × (l.good ≡ good_at l.k l.seed l.counter) × (l.losses ≡ losses_at l.k l.seed l.counter)
    × (l.received ≡ count_to as_received l.squelch l.k l.seed l.counter)
    × (l.concealed ≡ count_to as_concealed l.squelch l.k l.seed l.counter)
    × (l.squelched ≡ count_to as_squelched l.squelch l.k l.seed l.counter)
