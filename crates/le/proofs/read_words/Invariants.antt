use Rattle.std.proofs.Common.{◌≡◌, ℕ, ◌+◌, ◌*◌, ◌<◌, length, get_or}
use Rattle.le.proofs.read_words.Given as goal

abbrev pub invariant-loop-i : goal.invariant-loop-i
invariant-loop-i g l =
    record { size : length l.to ≡ length l.fn.to; read : (k : ℕ) (d : g.row.T.Denot) → k < l.i → get_or l.to k d ≡ g.T.Word.word_at l.b (l.at + g.T.Word.SIZE * k) }
