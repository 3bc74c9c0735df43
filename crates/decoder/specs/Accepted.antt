-- Document 01, "Lists of frames": an accepted state is one to which rows 1 to 3 do not apply.
use Rattle.std.specs.Prelude.{ℕ, ◌≡◌, false}
use Rattle.decoder.specs.Rows.{rate_row, size_row, history_row}
use Rattle.decoder.specs.declared.SilkDecoderState.{SilkDecoderState}

-- accepted, its fields judged at a rate r
pub record Accepted (r : ℕ) (s : SilkDecoderState) : Type 0 where
  pub rate : rate_row s ≡ false
  pub size : size_row s ≡ false
  pub history : history_row r s ≡ false
