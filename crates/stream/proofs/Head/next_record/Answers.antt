use Rattle.std.proofs.Common.{rules, ◌≡◌, ◌+◌, suc, length, get_or, ℕ, refl, arith}
use Rattle.stream.specs.Records.{front, sample_bytes}
use Rattle.stream.proofs.Records.{none_left, unknown, cut_within, record_taken}
use Rattle.std.proofs.lemmas.Bool.{ne_eqb}
use Rattle.std.proofs.lemmas.List.{take-append-le}
use Rattle.stream.proofs.Head.next_record.Goals.{then-kind-eq1, else-kind-eq1}
use Rattle.stream.proofs.Head.next_record.Goals as goal

pub returns-then-not-branch-clause-bytes : goal.returns-then-not-branch-clause-bytes
returns-then-not-branch-clause-bytes g c = none_left _ _ _ (search rules) _ _ _ c.in_ok-fill.ensures.bytes c.if-not-branch.true

pub returns-then-kind-gt1-clause-bytes : goal.returns-then-kind-gt1-clause-bytes
returns-then-kind-gt1-clause-bytes g c = unknown _ _ _ (search rules) _ _ _ c.in_ok-fill.ensures.bytes c.if-not-branch.false c.if-kind-gt1.true

-- the bytes of a kind's record behind the first, before the samples
of_received : (kind n m size : ℕ) → kind ≡ 1 → m ≡ n → size ≡ 176 + m → front kind n ≡ suc size
unfolding front
of_received kind n m size k e s = rw (k, s, e) (omega arith)

of_lost : (kind n size : ℕ) → (kind ≡ 1 → ⊥) → size ≡ 0 → front kind n ≡ suc size
unfolding front
of_lost kind n size k s = rw (ne_eqb kind 1 k, s) refl

pub returns-then-not-branch-2-clause-bytes : goal.returns-then-not-branch-2-clause-bytes
returns-then-not-branch-2-clause-bytes g c =
    let s : front (get_or c.fill.new.buffer 0 0) (sample_bytes c.args.self) ≡ suc c.if-kind-eq1.size =
    elim c.if-kind-eq1.branch [
      | then-kind-eq1 w ↦ of_received _ _ _ _ w.if-kind-eq1.true c.sample_bytes-n.ensures.0 w.size-is
      | else-kind-eq1 w ↦ of_lost _ _ _ w.if-kind-eq1.false w.size-is
    ] in
    let l : length c.fill-2.new.buffer ≡ c.if-kind-eq1.size + c.sample_bytes-n.result = search rules in
    let m : suc (length c.fill-2.new.buffer) ≡ front (get_or c.fill.new.buffer 0 0) (sample_bytes c.args.self) + sample_bytes c.args.self =
    omega (arith, s, l, c.sample_bytes-n.ensures.0) in
    cut_within _ _ _ (search rules) _ m c.if-kind-gt1.false _ _ _ _ _ c.in_ok-fill.ensures.bytes c.if-not-branch.false c.in_ok-fill-2.ensures.bytes c.if-not-branch-2.true

pub returns-clause-bytes : goal.returns-clause-bytes
returns-clause-bytes g c =
    let l : length c.fill-2.new.buffer ≡ c.if-kind-eq1.size + c.sample_bytes-n.result = search rules in
    let s : front (get_or c.fill.new.buffer 0 0) (sample_bytes c.args.self) ≡ suc c.if-kind-eq1.size =
    elim c.if-kind-eq1.branch [
      | then-kind-eq1 w ↦ of_received _ _ _ _ w.if-kind-eq1.true c.sample_bytes-n.ensures.0 w.size-is
      | else-kind-eq1 w ↦ of_lost _ _ _ w.if-kind-eq1.false w.size-is
    ] in
    let m : suc (length c.fill-2.new.buffer) ≡ front (get_or c.fill.new.buffer 0 0) (sample_bytes c.args.self) + sample_bytes c.args.self =
    omega (arith, s, l, c.sample_bytes-n.ensures.0) in
    record_taken _ _ _ (search rules) _ m c.if-kind-gt1.false _ _ _ _ _ c.in_ok-fill.ensures.bytes c.if-not-branch.false c.in_ok-fill-2.ensures.bytes c.if-not-branch-2.false c.if-kind-eq1.size _ _ s c.padded.ensures (take-append-le _ _ _ (omega (arith, l)))
