use mathlib.Core.Path.{◌≡◌, ap, ◌∙◌}
use mathlib.Core.Bool.{not}
use mathlib.Core.List.{List, [], ◌∷◌}
use borrow.Author.Tests.{ltb-false}
use Prim.Native.Nat.{ℕ, ◌≤◌}
use lib.Dec.{ltb}
use lib.ListN.{length}
use lib.IntN.{ℤ}
use mir.Facts.{to_z-of_z}
use Rattle.std.specs.Prelude.{Ok}
use Rattle.le.specs.Bytes.{with_bytes}
use Rattle.refusal.specs.First.{◌gives◌}
use Rattle.refusal.specs.Refusals.{code_of}
use Rattle.refusal.specs.declared.Refusal.TheVariants.{Rate, Size, Record}
use Rattle.refusal.proofs.Clear.{clear}
use Rattle.shape.specs.Shape.{is_rate, is_count}
use Rattle.recorder.specs.Writing.{head_bytes, begin_refusal, begin_of}
use Rattle.recorder.proofs.Laws.{left-refused, left-accepted}
use Rattle.recorder.proofs.begin.Goals.{After-begin_refusal}
use Rattle.recorder.proofs.begin.Goals as goal

-- nothing is refused
enough : (b : List ℕ) (rate subframes : ℤ) → begin_refusal rate subframes b ≡ Ok tt → 1024 ≤ length b
unfolding begin_refusal
enough b rate subframes none =
    ltb-false (length b) 1024 (clear ((ltb (length b) 1024 gives Record) ∷ (not (is_rate rate) gives Rate) ∷ (not (is_count subframes) gives Size) ∷ []) (ap code_of none)).0

judged-is : (c : After-begin_refusal) → begin_refusal c.args.rate c.args.subframes c.args.bytes.now ≡ c.begin_refusal.result
judged-is c = rw (c.begin_refusal.ensures, to_z-of_z c.ranges.rate, to_z-of_z c.ranges.subframes)

pub returns-in_err-begin_refusal : goal.returns-in_err-begin_refusal
unfolding begin_of
returns-in_err-begin_refusal c =
    left-refused _ _ (judged-is (goal.at.returns-in_err-begin_refusal c).After-begin_refusal ∙ c.in_err-begin_refusal.was) c.from_residual.ensures.1

pub put_head-requires : goal.put_head-requires
put_head-requires c =
    enough c.args.bytes.now c.args.rate c.args.subframes (judged-is (goal.at.put_head-requires c).After-begin_refusal ∙ c.in_ok-begin_refusal.was)

pub returns : goal.returns
unfolding begin_of
returns c =
    let a = c.args in
    let b = a.bytes.now in
    let h = c.put_head.ensures ∙ (λ i. with_bytes b 0 (head_bytes 0 (to_z-of_z c.ranges.rate i) (to_z-of_z c.ranges.subframes i))) in
    (λ i. record { judged = Ok tt; bytes = h i })
    ∙ left-accepted (with_bytes b 0 (head_bytes 0 a.rate a.subframes)) b (judged-is (goal.at.returns c).After-begin_refusal ∙ c.in_ok-begin_refusal.was)
