use Rattle.std.proofs.Common.{rules, ◌≡◌, ◌∙◌, length}
use Rattle.sigproc.specs.Place.{put_at}
use Rattle.listener.specs.declared.Counts.{Counts}
use Rattle.listener.proofs.Mapping.{mapped}
use Rattle.post_trial.specs.Call.{put_counts}
use Rattle.post_trial.proofs.put_counts.Goals as goal

pub returns : goal.returns
unfolding put_counts
returns c =
    let a = c.args in
    let none : Counts = record { received = 0; concealed = 0; squelched = 0 } in
    let n : length a.rows ≡ 16 = search rules in
    let r = mapped _ _ (λ (x : Counts). x.received) (λ x y q h. search rules) none 0 _ _ _ n c.map-received.ensures.items in
    let h = mapped _ _ (λ (x : Counts). x.concealed) (λ x y q h. search rules) none 0 _ _ _ n c.map-concealed.ensures.items in
    let s = mapped _ _ (λ (x : Counts). x.squelched) (λ x y q h. search rules) none 0 _ _ _ n c.map-squelched.ensures.items in
    let one = c.copy_at.ensures ∙ λ i. put_at a.counts.now 0 (r i) in
    let two = c.copy_at-2.ensures ∙ λ i. put_at (one i) 16 (h i) in
    c.copy_at-3.ensures ∙ λ i. put_at (two i) 32 (s i)
