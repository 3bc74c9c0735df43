-- The shape that a state holds.
use Rattle.shape.specs.Shape.{Shape, shape}
use Rattle.decoder.specs.declared.SilkDecoderState.{SilkDecoderState}

abbrev pub shape_of : SilkDecoderState → Shape
shape_of s = shape s.fs_khz s.nb_subfr
