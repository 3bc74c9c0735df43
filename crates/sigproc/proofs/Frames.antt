-- Lists that a stage makes: their lengths, and the ranges of their elements.
use Rattle.std.proofs.Common.{◌≡◌, ℕ, List, map, length, drop, ℤ, ◌∙◌, arith, length-drop, w16}
use Rattle.sigproc.specs.Synthesis.{synthesis, played}
use Rattle.std.proofs.lemmas.List.{length-map}
use Rattle.word.proofs.Fits.{AllFit, map-fits}
use Rattle.sigproc.proofs.Ranges.{played-fits}
use Rattle.sigproc.proofs.Filter.{synth_length}

-- the played samples of a filtered frame
module _ (gain : ℤ) (mem u a : List ℤ) (d n : ℕ) where
  pub played-length : length mem ≡ 16 → length (map (played gain) (drop 16 (synthesis mem u a d n))) ≡ n
  played-length e =
      length-map (drop 16 (synthesis mem u a d n)) (played gain) ∙ length-drop 16 (synthesis mem u a d n) ∙ omega (arith, synth_length mem u a d n)

  pub played-frame : AllFit w16 (map (played gain) (drop 16 (synthesis mem u a d n)))
  played-frame = map-fits (played gain) (drop 16 (synthesis mem u a d n)) (played-fits gain)
