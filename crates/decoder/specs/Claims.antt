-- Document 02, Note 1: a post that stays at its shape plays as before.
use Rattle.std.specs.Prelude.{◌≡◌, false}
use Rattle.decoder.specs.Reshape.{reshaped}
use Rattle.decoder.specs.Rows.{rate_row, size_row}
use Rattle.decoder.specs.declared.SilkDecoderState.{SilkDecoderState}

-- a state to which rows 1 and 2 do not apply is left as it is by the shape that it holds
abbrev pub SameShape : Type 0
SameShape = (s : SilkDecoderState) → rate_row s ≡ false → size_row s ≡ false → reshaped s.fs_khz s.nb_subfr s ≡ s
