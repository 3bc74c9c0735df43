use mathlib.Core.Path.{◌≡◌, sym, ap, ◌∙◌}
use mathlib.Core.Bool.{false}
use lib.IntN.{ℤ, pos}
use lib.ListN.{length, take}
use mir.Syntax.{w32}
use mir.Facts.{to_z-of_z}
use Rattle.word.proofs.Words.{got}
use Rattle.trial.specs.Trial.{trial_of}
use Rattle.post_trial.specs.Call.{told, short_trial}
use Rattle.post_trial.proofs.Ends.{long, too_short, heard, refused}
use Rattle.post_trial.proofs.post_trial.Goals.{Else-short_trial, After-run}
use Rattle.post_trial.proofs.post_trial.Goals as goal

-- the slices are long enough
enough : (c : Else-short_trial) → let a = c.args in short_trial (length a.seeds.now) (length a.counts.now) ≡ false
enough c = sym c.short_trial.ensures ∙ c.if-short_trial.false

-- what the trial reports
found : (c : After-run) → let a = c.args in
    c.run.result ≡ trial_of a.rate a.subframes a.seed a.squelch a.frames (record { leave_good = a.leave_good; leave_bad = a.leave_bad }) (take 16 a.seeds.now)
found c =
    let a = c.args in
    let f = c.ranges in
    let r = to_z-of_z f.rate in
    let m = to_z-of_z f.subframes in
    let x = to_z-of_z f.seed in
    let q = to_z-of_z f.squelch in
    c.run.ensures ∙ λ i. trial_of (r i) (m i) (x i) (q i) a.frames (record { leave_good = a.leave_good; leave_bad = a.leave_bad }) (c.seeds_of-listeners.ensures i)

pub returns-then-short_trial : goal.returns-then-short_trial
returns-then-short_trial c =
    let a = c.args in
    too_short a.rate a.subframes a.seed a.squelch a.frames a.leave_good a.leave_bad a.seeds.now a.counts.now (sym c.short_trial.ensures ∙ c.if-short_trial.true)

pub seeds_of-listeners-requires : goal.seeds_of-listeners-requires
seeds_of-listeners-requires c = let a = c.args in (long (length a.seeds.now) (length a.counts.now) (enough (goal.at.seeds_of-listeners-requires c).Else-short_trial)).0

pub put_counts-requires : goal.put_counts-requires
put_counts-requires c = let a = c.args in (long (length a.seeds.now) (length a.counts.now) (enough (goal.at.put_counts-requires c).Else-short_trial)).1

pub returns-in-Ok : goal.returns-in-Ok
returns-in-Ok c =
    let a = c.args in
    let s = enough (goal.at.returns-in-Ok c).Else-short_trial in
    let e = sym (found (goal.at.returns-in-Ok c).After-run) ∙ c.in-Ok.is in
    ap (told (pos 0)) c.put_counts.ensures
    ∙ heard a.rate a.subframes a.seed a.squelch a.frames a.leave_good a.leave_bad a.seeds.now a.counts.now s _ e

pub returns-in-Err : goal.returns-in-Err
returns-in-Err c =
    let a = c.args in
    let s = enough (goal.at.returns-in-Err c).Else-short_trial in
    let e = sym (found (goal.at.returns-in-Err c).After-run) ∙ c.in-Err.is in
    ap (λ (z : ℤ). told z a.counts.now) (got w32 c.code.type_inv c.code.ensures)
    ∙ refused a.rate a.subframes a.seed a.squelch a.frames a.leave_good a.leave_bad a.seeds.now a.counts.now s _ e
