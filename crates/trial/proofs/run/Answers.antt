use Prim.Native.Nat.{ℕ, ◌≤◌}
use mathlib.Core.Path.{◌≡◌, sym, ap, ◌∙◌}
use mathlib.Core.List.{List}
use native.Mathlib.Omega.{arith}
use lib.Dec.{T}
use lib.IntN.{ℤ, pos, negsuc, nat_abs}
use lib.Signed.{non_neg}
use mir.Syntax.{w32}
use mir.Val.{Fits}
use mir.Facts.{to_z-of_z}
use Rattle.std.specs.Prelude.{Ok}
use Rattle.refusal.specs.Refusals.{code_of}
use Rattle.refusal.proofs.Clear.{at_err, answered_err, answered_ok}
use Rattle.listener.specs.declared.Counts.{Counts}
use Rattle.listener.specs.Heard.{each, counts_of, rows_of}
use Rattle.trial.specs.Calls.{heard_of}
use Rattle.trial.specs.Trial.{trial_refusal, trial_of}
use Rattle.trial.proofs.Counts.{in_ranges, natural_squelch, heard_by_link}
use Rattle.trial.proofs.Sums.{map_cong}
use Rattle.trial.proofs.run.Goals.{In_ok-trial_refusal}
use Rattle.trial.proofs.run.Goals as goal

-- a trial that is not refused
taken : (c : In_ok-trial_refusal) → let a = c.args in Ok tt ≡ trial_refusal a.rate a.subframes a.squelch a.frames
taken c =
    let f = c.ranges in
    let r = to_z-of_z f.rate in
    let n = to_z-of_z f.subframes in
    let q = to_z-of_z f.squelch in
    c.in_ok-trial_refusal.ensures ∙ λ i. trial_refusal (r i) (n i) (q i) c.args.frames

fits : (c : In_ok-trial_refusal) → let a = c.args in (a.squelch ≡ pos (nat_abs a.squelch)) × (nat_abs a.squelch ≤ 10000)
fits c =
    let a = c.args in
    natural_squelch a.squelch (in_ranges a.rate a.subframes a.squelch a.frames (ap code_of (sym (taken c)))).3

-- a squelch is a number without a sign
as_word : (z : ℤ) → z ≡ pos (nat_abs z) → nat_abs z ≤ 10000 → T (non_neg z) × Fits w32 (nat_abs z)
as_word (pos n) e h = (tt, record { fits = omega arith })
as_word (negsuc n) e h = let z : ◌≡◌ {A = ℕ} 0 1 = cc in absurd (omega arith)

pub returns-in_err-trial_refusal : goal.returns-in_err-trial_refusal
unfolding trial_of
returns-in_err-trial_refusal c =
    let f = c.ranges in
    let r = to_z-of_z f.rate in
    let n = to_z-of_z f.subframes in
    let q = to_z-of_z f.squelch in
    let w = c.in_err-trial_refusal.ensures ∙ λ i. trial_refusal (r i) (n i) (q i) c.args.frames in
    at_err _ _ c.from_residual.ensures.1 ∙ sym (answered_err _ _ (sym w))

pub overflow_cast-squelch : goal.overflow_cast-squelch
overflow_cast-squelch c =
    rw (to_z-of_z c.ranges.squelch) (as_word c.args.squelch (fits c).0 (fits c).1)

pub returns : goal.returns
unfolding trial_of rows_of counts_of
returns c =
    let a = c.args in
    let w = taken (goal.at.returns c).In_ok-trial_refusal in
    let e = c.sixteen.ensures ∙ ap (λ (z : ℤ). rows_of (nat_abs z) a.link a.frames a.seeds) (to_z-of_z c.ranges.squelch) in
    let heard : ℤ → Counts = λ x. each (λ h. heard_of a.rate a.subframes a.seed a.squelch a.link a.frames h x) in
    let same : (x : ℤ) → counts_of (nat_abs a.squelch) a.link x a.frames ≡ heard x =
    λ x i. each (λ h. sym (heard_by_link a.rate a.subframes a.seed a.squelch a.frames a.link x (ap code_of (sym w)) h) i) in
    ap (λ (cs : List Counts). Ok cs) (e ∙ map_cong _ heard a.seeds same) ∙ sym (answered_ok _ _ (sym w))
