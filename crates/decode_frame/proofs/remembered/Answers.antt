use Prim.Native.Nat.{◌*◌}
use mathlib.Core.Path.{◌≡◌, ◌∙◌, ap}
use native.Mathlib.Omega.{arith}
use borrow.Author.Rules.{rules}
use mir.Syntax.{w32}
use Rattle.word.proofs.Words.{kept}
use Rattle.sigproc.specs.Place.{update_out_buf}
use Rattle.shape.specs.Shape.{rate_of}
use Rattle.shape.proofs.Shapes.{shaped}
use Rattle.decoder.specs.With.{with_out_buf}
use Rattle.decode_frame.specs.WholeFrame.{remembered}
use Rattle.decode_frame.proofs.remembered.Goals.{After-ltp_mem_length-n}
use Rattle.decode_frame.proofs.remembered.Goals as goal

history : (c : After-ltp_mem_length-n) → c.ltp_mem_length-n.result ≡ 20 * rate_of c.args.a.now.state.fs_khz
history c = c.ltp_mem_length-n.ensures ∙ ap (λ k. 20 * rate_of k) (kept w32 c.args.a.now.state.fs_khz (search rules))

pub update_out_buf-a-requires : goal.update_out_buf-a-requires
update_out_buf-a-requires c =
    let h = shaped _ _ c.requires.0 c.requires.1 in
    let m = history (goal.at.update_out_buf-a-requires c).After-ltp_mem_length-n in
    (omega (arith, m, h.frame_high, c.requires.2), omega (arith, m, h.rate_high))

pub returns : goal.returns
unfolding remembered
returns c =
    let a = c.args.a.now in
    let s = a.state in
    let e = c.update_out_buf-a.ensures ∙ ap (λ m. update_out_buf s.out_buf m c.args.frame.now) (history (goal.at.returns c).After-ltp_mem_length-n) in
    λ i. record { state = with_out_buf s (e i); control = a.control }
