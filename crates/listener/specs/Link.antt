-- Document 02, Note 13: "a two-state link (good at first, lost while bad, each left after a frame if the top 16 bits of the listener's next draw are below its number, 0 to 65,535)".
use Rattle.std.specs.Prelude.{ℕ, zero, suc, ◌/◌, ◌^◌, Bool, true, not, cond, ltb, ℤ}
use Rattle.generator.specs.Draws.{draw_at}
use Rattle.listener.specs.declared.Link.{Link}

-- the number of a state
unfoldable pub leaving : Link → Bool → ℕ
leaving k good = cond good k.leave_good k.leave_bad

-- the state after a draw
unfoldable pub turned : Link → ℕ → Bool → Bool
turned k u good = cond (ltb (u / 2 ^ 16) (leaving k good)) (not good) good

-- the link is good at frame i
unfoldable pub good_at : Link → ℤ → ℕ → Bool
good_at k seed zero = true
good_at k seed (suc i) = turned k (draw_at seed i) (good_at k seed i)
