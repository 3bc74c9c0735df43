-- The excitation that core leaves in the state is 64 times RFC 6716's.
use mathlib.Core.Path.{◌≡◌, refl, ap, ◌∙◌}
use mathlib.Core.List.{List}
use lib.IntN.{ℤ}
use lib.ListN.{length}
use lib.Seq.{take_at}
use Rattle.std.specs.Prelude.{Ok, Err, IfOk}
use Rattle.refusal.specs.Refusals.{Judged, code_of}
use Rattle.shape.specs.Shape.{Shape, frame_length}
use Rattle.decoder.specs.Signals.{is_voiced}
use Rattle.decoder.specs.Answer.{answer}
use Rattle.decoder.specs.State.{shape_of}
use Rattle.decoder.specs.declared.SilkDecoderState.{SilkDecoderState}
use Rattle.decoder.specs.declared.SilkDecoderControl.{SilkDecoderControl}
use Rattle.decoder.specs.declared.Params.{Params}
use Rattle.decoder.proofs.Between.{Between}
use Rattle.judge.proofs.Bounds.{core-fits}
use Rattle.excitation.specs.Excitation.{offset_q14}
use Rattle.excitation.proofs.Samples.{length-excitation}
use Rattle.excitation.proofs.Standard.{is_standard}
use Rattle.decode_core.specs.Core.{core_excitation, decode_core}
use Rattle.decode_core.specs.Answer.{core_refusal, core_outcome, core_answer}
use Rattle.decode_core.specs.Standard.{HoldsStandard, CoreStandard}

-- of a frame of one of the two offset types
pub holds_standard : (p : Shape) (s : SilkDecoderState) (q : Params) (c : SilkDecoderControl) (rows : List (List ℤ)) (pulses : List ℤ) → Between 0 1 q.quant_offset_type
    → HoldsStandard p q pulses (decode_core p s q c rows pulses).state
unfolding decode_core core_excitation
holds_standard p s q c rows pulses b =
    let voiced = is_voiced q.signal in
    let n = frame_length p in
    take_at _ _ n (length-excitation (offset_q14 voiced q.quant_offset_type) pulses q.seed n)
    ∙ is_standard voiced q.quant_offset_type q.seed pulses n b.is b.high

pub core_standard : CoreStandard
unfolding core_answer core_refusal
core_standard s q c rows pulses output = go (core_refusal s q c rows pulses output) refl
  where
    go : (j : Judged) → core_refusal s q c rows pulses output ≡ j → IfOk (answer j (core_outcome s q c rows pulses output)) (λ a. HoldsStandard (shape_of s) q pulses a.state)
    go (Ok u) e =
        let f = core-fits s q c (length pulses) (length output) (ap code_of e) in
        holds_standard (shape_of s) s q c rows pulses f.params.offset
    go (Err r) e = tt
