use Prim.Native.Nat.{◌+◌}
use mathlib.Core.Path.{◌≡◌, ap, ◌∙◌}
use native.Mathlib.Omega.{arith}
use mathlib.Core.Bool.{false, cond}
use lib.IntN.{pos, nat_abs, ◌+ℤ◌}
use lib.ListN.{length, replicate}
use Rattle.word.specs.Int.{eq_ℤ}
use Rattle.word.proofs.Order.{eq_ℤ_ne}
use Rattle.shape.specs.Shape.{shape, is_rate, is_count, rate_of, frame_length}
use Rattle.decoder.specs.Ranges.{cng_fits}
use Rattle.decoder.specs.Settings.{squelched}
use Rattle.decoder.specs.State.{shape_of}
use Rattle.decoder.specs.Outcome.{Outcome}
use Rattle.decoder.specs.declared.Answer.{Answer}
use Rattle.decoder.proofs.Between.{natural-back}
use Rattle.decoder.proofs.Bounds.{bounds, plc_fits_lem, cng_fits_lem}
use Rattle.plc.specs.Conceal.{plc_conceal}
use Rattle.decode_frame.specs.WholeFrame.{remembered, finished, lost, muted}
use Rattle.decode_frame.proofs.Noised.{all_samples}
use Rattle.decode_frame.proofs.lost.Goals.{After-finished, After-plc_conceal}
use Rattle.decode_frame.proofs.lost.Goals as goal

-- the rate and the count of what concealment leaves
khz : (c : After-plc_conceal) → c.plc_conceal.new.a.state.fs_khz ≡ c.args.a.now.state.fs_khz
unfolding plc_conceal
khz c = ap (λ s. s.fs_khz) c.plc_conceal.ensures.0

nb : (c : After-plc_conceal) → c.plc_conceal.new.a.state.nb_subfr ≡ c.args.a.now.state.nb_subfr
unfolding plc_conceal
nb c = ap (λ s. s.nb_subfr) c.plc_conceal.ensures.0

-- what concealment leaves of noise, and one loss more
cng : (c : After-plc_conceal) → c.plc_conceal.new.a.state.s_cng ≡ c.args.a.now.state.s_cng
unfolding plc_conceal
cng c = ap (λ s. s.s_cng) c.plc_conceal.ensures.0

loss : (c : After-plc_conceal) → eq_ℤ c.plc_conceal.new.a.state.loss_cnt (pos 0) ≡ false
unfolding plc_conceal
loss c =
    let s = c.args.a.now.state in
    let b = bounds (rate_of s.fs_khz) s c.requires.0 in
    ap (λ t. eq_ℤ t.loss_cnt (pos 0)) c.plc_conceal.ensures.0 ∙ ap (λ n. eq_ℤ (n +ℤ pos 1) (pos 0)) b.decoder.loss_cnt
    ∙ eq_ℤ_ne (pos (nat_abs s.loss_cnt + 1)) (pos 0) (λ e. let z : nat_abs s.loss_cnt + 1 ≡ 0 = ap nat_abs e in omega arith)

-- the frame before a squelch
whole : (c : After-finished) → let s = c.args.a.now.state in ◌≡◌ {A = Outcome} (record { state = c.finished.new.a.state; control = c.finished.new.a.control; samples = c.finished.new.xq }) (lost (shape_of s) s c.args.a.now.control)
unfolding lost remembered plc_conceal
whole c =
    let f = c.finished in
    let r = c.remembered in
    let x = c.plc_conceal.ensures.2 ∙ all_samples _ _ _ c.requires.2 in
    let st = c.plc_conceal.ensures.0 in
    let ct = c.plc_conceal.ensures.1 in
    let t = ap (λ (b : Answer). b.state) r.ensures ∙ λ i. remembered (shape_of (st i)) (st i) (x i) in
    let u = ap (λ (b : Answer). b.control) r.ensures ∙ ct in
    f.ensures ∙ λ i. finished (shape_of (t i)) (record { state = t i; control = u i; samples = x i })

pub plc_conceal-requires : goal.plc_conceal-requires
plc_conceal-requires c =
    let s = c.args.a.now.state in
    let b = bounds (rate_of s.fs_khz) s c.requires.0 in
    (b.sizes.rate, b.sizes.count, plc_fits_lem (rate_of s.fs_khz) s.s_plc b.plc, natural-back s.loss_cnt b.decoder.loss_cnt, c.requires.1, omega (arith, c.requires.2))

pub remembered-requires : goal.remembered-requires
remembered-requires c =
    let s = c.args.a.now.state in
    let o = (goal.at.remembered-requires c).After-plc_conceal in
    let b = bounds (rate_of s.fs_khz) s c.requires.0 in
    let l : frame_length (shape_of c.plc_conceal.new.a.state) ≡ frame_length (shape_of s) = λ i. frame_length (shape (khz o i) (nb o i)) in
    (ap is_rate (khz o) ∙ b.sizes.rate, ap is_count (nb o) ∙ b.sizes.count, omega (arith, c.plc_conceal.auto, c.requires.2, l))

pub finished-requires : goal.finished-requires
unfolding remembered
finished-requires c =
    let r = ap (λ (x : Answer). x.state) c.remembered.ensures in
    let s = c.args.a.now.state in
    let o = (goal.at.finished-requires c).After-plc_conceal in
    let b = bounds (rate_of s.fs_khz) s c.requires.0 in
    let khz' = ap (λ t. t.fs_khz) r ∙ khz o in
    let nb' = ap (λ t. t.nb_subfr) r ∙ nb o in
    let l : frame_length (shape_of c.remembered.new.a.state) ≡ frame_length (shape_of s) = λ i. frame_length (shape (khz' i) (nb' i)) in (
      ap is_rate khz' ∙ b.sizes.rate,
      ap is_count nb' ∙ b.sizes.count,
      (λ i. cng_fits (rate_of (khz' i)) ((ap (λ t. t.s_cng) r ∙ cng o) i)) ∙ cng_fits_lem (rate_of s.fs_khz) s.s_cng b.cng,
      omega (arith, c.plc_conceal.auto, c.requires.2, l),
      ap (λ t. eq_ℤ t.loss_cnt (pos 0)) r ∙ loss o,
    )

pub returns : goal.returns
unfolding muted
returns c =
    let m = c.mute in
    let s = c.args.a.now.state in
    let y = c.finished.new.xq in
    let n : length y ≡ frame_length (shape_of s) = omega (arith, c.finished.auto, c.plc_conceal.auto, c.requires.2) in
    let z : m.new.xq ≡ cond (squelched s) (replicate (frame_length (shape_of s)) (pos 0)) y =
    m.ensures ∙ λ i. cond (c.squelched-quiet.ensures i) (replicate (n i) (pos 0)) y in
    (λ i. record { state = c.finished.new.a.state; control = c.finished.new.a.control; samples = z i })
    ∙ ap (muted (shape_of s) (squelched s)) (whole (goal.at.returns c).After-finished)
