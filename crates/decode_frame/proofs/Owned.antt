-- A whole frame that is played leaves concealment and noise at its own rate, and no line negative.
use Prim.Native.Nat.{ℕ, ◌+◌, ◌-◌, ◌≤◌}
use mathlib.Core.Path.{◌≡◌, refl, sym, ◌∙◌, subst}
use mathlib.Core.Bool.{Bool, true, false}
use mathlib.Core.Logic.{inr}
use mathlib.Core.List.{List, ◌++◌}
use native.Mathlib.Omega.{arith}
use borrow.Author.Tests.{ltb-true, ltb-false}
use lib.Dec.{ltb}
use lib.IntN.{ℤ, pos}
use lib.ListN.{get_or, length, take, drop, get_or-append}
use lib.Seq.{length-take-le, get_or-take, get_or-drop, get_or-append-add}
use Rattle.shape.specs.Shape.{Shape, rate_of, frame_length, lpc_order}
use Rattle.shape.proofs.Shapes.{order_le}
use Rattle.decoder.specs.Outcome.{Outcome}
use Rattle.decoder.specs.State.{shape_of}
use Rattle.decoder.specs.Ranges.{lines_fit}
use Rattle.decoder.specs.Typed.{TypedLines}
use Rattle.decoder.specs.declared.SilkDecoderState.{SilkDecoderState}
use Rattle.decoder.specs.declared.SilkDecoderControl.{SilkDecoderControl}
use Rattle.decoder.specs.declared.Params.{Params}
use Rattle.decoder.proofs.Between.{Between, AllBetween, all_between}
use Rattle.decoder.proofs.Bounds.{bounds}
use Rattle.decoder.proofs.Coming.{Own}
use Rattle.plc.specs.Update.{plc_updated, plc_update}
use Rattle.plc.specs.Conceal.{plc_conceal, held_after}
use Rattle.plc.proofs.Ready.{ready_rate}
use Rattle.glue.specs.Glue.{glue_frames}
use Rattle.glue.proofs.Glued.{glued}
use Rattle.decoder.specs.With.{with_noise}
use Rattle.cng.proofs.Kept.{comfort_rate}
use Rattle.decode_core.specs.Core.{decode_core}
use Rattle.decode_frame.specs.WholeFrame.{lined, remembered, resumed, lag_kept, finished, received, lost}
use Rattle.decode_frame.proofs.Finishing.{finished-keeps}
use Rattle.decode_frame.proofs.Kept.{Good}

-- all 16 lines that a state holds are not negative
abbrev Lined : SilkDecoderState → Type 0
Lined s = AllBetween 0 32767 s.prev_nlsf_q15 16

-- noise, gluing and the new lag, on a state of the frame's rate whose concealment is held for it
module _ (p : Shape) (o : Outcome) (is : o.state.fs_khz ≡ pos p.rate) where
  rate_kept : (finished p o).state.fs_khz ≡ pos p.rate
  unfolding lag_kept glue_frames
  rate_kept = finished-keeps p o (λ t. t.fs_khz ≡ pos p.rate) (λ h frame. is)

  lines_kept : Lined o.state → Lined (finished p o).state
  unfolding lag_kept glue_frames
  lines_kept l = finished-keeps p o Lined (λ h frame. l)

  plc-rate : o.state.s_plc.fs_khz ≡ pos p.rate → (finished p o).state.s_plc.fs_khz ≡ pos p.rate
  unfolding lag_kept
  plc-rate e = finished-keeps p o (λ t. t.s_plc.fs_khz ≡ pos p.rate) (λ h frame. (glued (with_noise o.state h) frame).rate ∙ e)

  cng-rate : (finished p o).state.s_cng.fs_khz ≡ pos p.rate
  unfolding finished lag_kept glue_frames
  cng-rate = comfort_rate p o.state o.control.gains_q16 (frame_length p) o.samples

  finished-own : Lined o.state → o.state.s_plc.fs_khz ≡ pos p.rate → Own (finished p o).state
  finished-own l e =
      record { lines = lines_kept l; plc = inr (plc-rate e ∙ sym rate_kept); cng = inr (cng-rate ∙ sym rate_kept) }

-- the first d lines anew
front-between : (d : ℕ) (xs ys : List ℤ) → d ≤ length xs → AllBetween 0 32767 xs d → AllBetween 0 32767 ys 16 → AllBetween 0 32767 (take d xs ++ drop d ys) 16
front-between d xs ys l a b i k = go (ltb i d) refl
  where
    n : length (take d xs) ≡ d
    n = length-take-le d xs l

    go : (t : Bool) → ltb i d ≡ t → Between 0 32767 (get_or (take d xs ++ drop d ys) i (pos 0))
    go true t =
        let h = ltb-true i d t in
        rw (get_or-append (take d xs) (drop d ys) (pos 0) i (omega (arith, n)), get_or-take d xs i (pos 0) h) (a i h)
    go false t =
        let h = ltb-false i d t in
        let e : length (take d xs) + (i - d) ≡ i = omega (arith, n) in
        let f : d + (i - d) ≡ i = omega arith in
        subst (λ (j : ℕ). Between 0 32767 (get_or (take d xs ++ drop d ys) j (pos 0))) e
        (rw (get_or-append-add (take d xs) (drop d ys) (i - d) (pos 0), get_or-drop d ys (i - d) (pos 0), f) (b i k))

-- an accepted state holds a rate
held_rate : (s : SilkDecoderState) → Good s → s.fs_khz ≡ pos (rate_of s.fs_khz)
held_rate s g = (bounds (rate_of s.fs_khz) s g.accepted).sizes.fs_khz

pub lost_own : (s : SilkDecoderState) (c : SilkDecoderControl) → Good s → Lined s → Own (lost (shape_of s) s c).state
unfolding lost remembered plc_conceal held_after
lost_own s c g l = finished-own (shape_of s) _ (held_rate s g) l (ready_rate (shape_of s) s.s_plc)

pub received_own : (s : SilkDecoderState) (f : Params) (c : SilkDecoderControl) (rows : List (List ℤ)) (lines pulses : List ℤ) → Good s → Lined s → TypedLines lines → lines_fit (shape_of s).rate lines ≡ true
    → Own (received (shape_of s) s f c rows lines pulses).state
unfolding received resumed plc_update plc_updated remembered decode_core lined
received_own s f c rows lines pulses g l tl lf =
    let p = shape_of s in
    let d = lpc_order p in
    finished-own p _ (held_rate s g)
    (front-between d lines s.prev_nlsf_q15 (omega (arith, tl.count, order_le p.rate)) (all_between 0 32767 lines d lf) l)
    (ready_rate p s.s_plc)
