use Prim.Native.Nat.{◌-◌}
use mathlib.Core.Path.{◌≡◌, refl, ap, ◌∙◌}
use native.Mathlib.Omega.{arith}
use borrow.Author.Rules.{rules}
use lib.IntN.{ℤ, pos}
use lib.ListN.{get_or, take, drop}
use mathlib.Core.Bool.{cond}
use mathlib.Core.List.{List, ◌++◌}
use Rattle.word.specs.Int.{eq_ℤ}
use mir.Syntax.{w32}
use mir.Val.{to_z, of_z}
use Rattle.word.proofs.Words.{kept, got}
use Rattle.shape.specs.Shape.{Shape, shape, is_rate, is_count, rate_of, count_of, frame_length, order_of, lpc_order}
use Rattle.shape.proofs.Shapes.{Shaped, shaped, order_le, frame_le, rate_back, count_back}
use Rattle.decoder.specs.With.{with_lag, with_lines, with_first, with_noise, with_losses, with_type, with_plc}
use Rattle.decoder.specs.Accepted.{Accepted}
use Rattle.decoder.specs.Outcome.{Outcome}
use Rattle.decoder.specs.Signals.{signal_number}
use Rattle.decoder.specs.State.{shape_of}
use Rattle.decoder.specs.declared.Answer.{Answer}
use Rattle.decoder.specs.declared.SilkDecoderState.{SilkDecoderState}
use Rattle.decoder.specs.declared.SilkPLCState.{SilkPLCState}
use Rattle.decoder.proofs.Bounds.{Bounds, bounds}
use Rattle.decode_core.specs.Core.{setting_of, transition, decode_core}
use Rattle.plc.specs.Update.{updated_by, plc_updated, plc_update}
use Rattle.cng.specs.Noise.{heard_noise}
use Rattle.glue.specs.Glue.{hold_energy, joined}
use Rattle.decode_frame.specs.WholeFrame.{lined, remembered, resumed, finished, received}
use Rattle.decode_frame.proofs.Noised.{all_samples, ready_energy}
use Rattle.decode_frame.proofs.Heard.{heard, heard-is}
use Rattle.decode_frame.proofs.received.Goals.{After-count_of-count, After-decode_core, After-remembered}
use Rattle.decode_frame.proofs.received.Goals as goal

module _ (s : SilkDecoderState) (a : Accepted (rate_of s.fs_khz) s) where
  held : Bounds (rate_of s.fs_khz) s
  held = bounds (rate_of s.fs_khz) s a

  ranges : Shaped (rate_of s.fs_khz) (count_of s.nb_subfr)
  ranges = shaped s.fs_khz s.nb_subfr held.sizes.rate held.sizes.count

  khz : to_z w32 (of_z w32 s.fs_khz) ≡ s.fs_khz
  khz = rate_back s.fs_khz held.sizes.rate

  nb : to_z w32 (of_z w32 s.nb_subfr) ≡ s.nb_subfr
  nb = count_back s.nb_subfr held.sizes.count

-- what the core leaves of the shape
shape-kept : (c : After-decode_core) → let s = c.args.a.now.state in let t = c.decode_core.new.a.state in (t.fs_khz ≡ s.fs_khz) × (t.nb_subfr ≡ s.nb_subfr)
unfolding decode_core
shape-kept c =
    let e = c.decode_core.ensures.0 in
    (ap (λ (t : SilkDecoderState). t.fs_khz) e, ap (λ (t : SilkDecoderState). t.nb_subfr) e)

-- the core and the history, by their definitions
module _ (c : After-remembered) where
  abbrev s : SilkDecoderState
  s = c.args.a.now.state

  abbrev p : Shape
  p = shape_of s

  abbrev core : Outcome
  core = decode_core p (lined p s c.args.lines) c.args.q c.args.a.now.control c.args.rows c.args.pulses.now

  -- the frame's lines
  front : c.with_front-a.result ≡ take (lpc_order p) c.args.lines ++ drop (lpc_order p) s.prev_nlsf_q15
  front =
      c.with_front-a.ensures ∙ ap (λ d. take d c.args.lines ++ drop d s.prev_nlsf_q15) (c.lpc_order-order.ensures ∙ ap (λ (z : ℤ). order_of (rate_of z)) (khz s c.requires.0))

  abbrev by-lines : List ℤ → Outcome
  by-lines lines = decode_core p (with_lines s lines) c.args.q c.args.a.now.control c.args.rows c.args.pulses.now

  same : by-lines c.with_front-a.result ≡ core
  unfolding lined
  same = ap by-lines front

  state-is : c.decode_core.new.a.state ≡ core.state
  state-is = c.decode_core.ensures.0 ∙ ap (λ (o : Outcome). o.state) same

  control-is : c.decode_core.new.a.control ≡ core.control
  control-is = c.decode_core.ensures.1 ∙ ap (λ (o : Outcome). o.control) same

  samples-is : c.decode_core.new.xq ≡ core.samples
  samples-is =
      c.decode_core.ensures.2 ∙ all_samples _ _ _ c.requires.3 ∙ ap (λ (o : Outcome). o.samples) same

  history : c.remembered.new.a.state ≡ remembered p core.state core.samples
  unfolding decode_core lined
  history =
      ap (λ (b : Answer). b.state) c.remembered.ensures ∙ λ i. remembered (shape_of (state-is i)) (state-is i) (samples-is i)

  described : c.remembered.new.a.control ≡ core.control
  described = ap (λ (b : Answer). b.control) c.remembered.ensures ∙ control-is

pub with_front-a-requires : goal.with_front-a-requires
with_front-a-requires c = rw (c.lpc_order-order.ensures) (order_le _)

pub decode_core-requires : goal.decode_core-requires
unfolding setting_of transition
decode_core-requires c = (c.requires.1, c.requires.2, omega (arith, c.requires.3))

pub remembered-requires : goal.remembered-requires
remembered-requires c =
    let s = c.args.a.now.state in
    let b = held s c.requires.0 in
    let k = shape-kept (goal.at.remembered-requires c).After-decode_core in
    let l : frame_length (shape_of c.decode_core.new.a.state) ≡ frame_length (shape_of s) = λ i. frame_length (shape (k.0 i) (k.1 i)) in
    (ap is_rate k.0 ∙ b.sizes.rate, ap is_count k.1 ∙ b.sizes.count, omega (arith, c.decode_core.auto, c.requires.3, l))

pub received-updated-requires : goal.received-updated-requires
received-updated-requires c =
    let e = nb c.args.a.now.state c.requires.0 in rw (e, e) (ranges c.args.a.now.state c.requires.0).count_low

pub invariant_of-shape : goal.invariant_of-shape
invariant_of-shape c =
    let s = c.args.a.now.state in
    let b = held s c.requires.0 in
    record { rate = rw (khz s c.requires.0) b.sizes.rate; count = rw (nb s c.requires.0) b.sizes.count }

pub receive-a-requires : goal.receive-a-requires
unfolding plc_updated remembered decode_core lined
receive-a-requires c =
    let s = c.args.a.now.state in
    let o = (goal.at.receive-a-requires c).After-remembered in
    let h = c.remembered.new.a.state.s_plc in
    let k = ap (λ (t : SilkDecoderState). t.s_plc) (history o) in
    let q = ranges s c.requires.0 in
    let b = held s c.requires.0 in
    let e = ready_energy (shape_of c.args.a.now.state) h in
    let x = khz s c.requires.0 in
    let y = nb s c.requires.0 in
    let updated : c.received-updated.result ≡ updated_by (shape_of s) c.args.q.signal c.remembered.new.a.control c.args.rows h = rw (c.received-updated.ensures, x, x, y, y) refl in
    let energy : c.received-updated.result.conc_energy ≡ s.s_plc.conc_energy = ap (λ (h : SilkPLCState). h.conc_energy) updated ∙ e.0 ∙ ap (λ (h : SilkPLCState). h.conc_energy) k in
    let shift : c.received-updated.result.conc_energy_shift ≡ s.s_plc.conc_energy_shift = ap (λ (h : SilkPLCState). h.conc_energy_shift) updated ∙ e.1 ∙ ap (λ (h : SilkPLCState). h.conc_energy_shift) k in (
      omega (arith, c.decode_core.auto, c.requires.3, q.frame_low, q.rate_low),
      omega (arith, c.decode_core.auto, c.requires.3, frame_le s.fs_khz s.nb_subfr),
      rw energy b.plc.conc_energy,
      rw shift b.plc.conc_energy_shift.is,
      rw shift b.plc.conc_energy_shift.high,
    )

count : (c : After-count_of-count) → let s = c.args.a.now.state in c.count_of-count.result ≡ count_of s.nb_subfr
count c =
    let e = nb c.args.a.now.state c.requires.0 in c.count_of-count.ensures ∙ ap count_of (ap (λ (z : ℤ). to_z w32 (of_z w32 z)) e ∙ e)

pub overflow_sub-a : goal.overflow_sub-a
overflow_sub-a c =
    omega (arith, count (goal.at.overflow_sub-a c).After-count_of-count, (ranges c.args.a.now.state c.requires.0).count_low)

pub bounds-a-count : goal.bounds-a-count
bounds-a-count c =
    omega (arith, count (goal.at.bounds-a-count c).After-count_of-count, (ranges c.args.a.now.state c.requires.0).count_high)

pub returns : goal.returns
unfolding received
returns c =
    let a = c.args in
    let s = a.a.now.state in
    let p = shape_of s in
    let signal = a.q.signal in
    let o = (goal.at.returns c).After-remembered in
    let t = c.remembered.new.a.state in
    let r = c.remembered.new.a.control in
    let x = c.decode_core.new.xq in
    let z = khz s c.requires.0 in
    let n = nb s c.requires.0 in
    let kind = got w32 c.from-kind.type_inv c.from-kind.ensures in
    let lag = kept w32 (get_or r.pitch_l (c.count_of-count.result - 1) (pos 0)) (search rules) ∙ ap (λ n. get_or r.pitch_l (n - 1) (pos 0)) (count (goal.at.returns c).After-count_of-count) in
    let updated : c.received-updated.result ≡ updated_by p signal r a.rows t.s_plc = rw (c.received-updated.ensures, z, z, n, n) refl in
    let noise : c.received.new.h ≡ heard_noise p t.exc_q14 t.prev_nlsf_q15 r.gains_q16 (signal_number signal) t.s_cng = rw (c.received.ensures, z, n, kind) refl in
    let plc = c.receive-a.ensures.0 ∙ ap (λ h. hold_energy h (pos 0) h.conc_energy h.conc_energy_shift) updated in
    let joined-in : SilkPLCState → List ℤ = λ (h : SilkPLCState). cond (eq_ℤ h.last_frame_lost (pos 0)) x (joined h.conc_energy h.conc_energy_shift x) in
    let one : ◌≡◌ {A = Outcome} (record { state = _; control = r; samples = c.receive-a.new.frame }) (heard p t r x signal a.rows) =
    λ i. record {
      state = with_plc (with_type (with_losses (with_noise (with_first (with_lag t (lag i)) (pos 0)) (noise i)) (pos 0)) (kind i)) (plc i);
      control = r;
      samples = (c.receive-a.ensures.1 ∙ ap joined-in updated) i;
    } in
    one ∙ heard-is p t r x signal a.rows
    ∙ λ i. finished p (record { state = resumed (plc_update p (history o i) signal (described o i) a.rows) (signal_number signal); control = described o i; samples = samples-is o i })
