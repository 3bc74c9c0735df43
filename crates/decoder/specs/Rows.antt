-- Document 01, "Why a frame is turned down", rows 1 to 3: what a state decides, alone or with the shape that comes.
use Rattle.std.specs.Prelude.{ℕ, Bool, not, ◌&&◌, List, [], ◌∷◌, ℤ, pos}
use Rattle.word.specs.Int.{eq_ℤ}
use Rattle.refusal.specs.First.{Row, ◌gives◌}
use Rattle.refusal.specs.declared.Refusal.TheVariants.{Rate, Size, History}
use Rattle.shape.specs.Shape.{is_rate, is_count, rate_of, subfr_length, frame_length, mem_length, lpc_order}
use Rattle.decoder.specs.State.{shape_of}
use Rattle.decoder.specs.Ranges.{decoder_fits, plc_fits, cng_fits}
use Rattle.decoder.specs.Settings.{settings_fit}
use Rattle.decoder.specs.Reshape.{reshaped}
use Rattle.decoder.specs.declared.SilkDecoderState.{SilkDecoderState}

abbrev pub rate_row : SilkDecoderState → Bool
rate_row s = not (is_rate s.fs_khz)

-- n is not 2 or 4, or a length or order in the state disagrees with the shape
unfoldable pub size_row : SilkDecoderState → Bool
size_row s =
    let p = shape_of s in
    not (is_count s.nb_subfr
    && eq_ℤ s.frame_length (pos (frame_length p))
    && eq_ℤ s.subfr_length (pos (subfr_length p))
    && eq_ℤ s.ltp_mem_length (pos (mem_length p))
    && eq_ℤ s.lpc_order (pos (lpc_order p)))

-- a state field is outside its range at a rate r
unfoldable pub history_row : ℕ → SilkDecoderState → Bool
history_row r s =
    not (decoder_fits r s && plc_fits r s.s_plc && cng_fits r s.s_cng && settings_fit s.settings)

-- rows 1 to 3 for a state, at the rate that it holds
abbrev pub state_rows : SilkDecoderState → List Row
state_rows s =
    (rate_row s gives Rate)
    ∷ (size_row s gives Size)
    ∷ (history_row (rate_of s.fs_khz) s gives History)
    ∷ []

-- rows 1 to 3 for a state and a coming rate and count: 1 and 2 judge each shape by itself, 3 the state as the coming shape leaves it
abbrev pub coming_rows : ℤ → ℤ → SilkDecoderState → List Row
coming_rows khz nb s =
    (rate_row s gives Rate)
    ∷ (not (is_rate khz) gives Rate)
    ∷ (size_row s gives Size)
    ∷ (not (is_count nb) gives Size)
    ∷ (history_row (rate_of khz) (reshaped khz nb s) gives History)
    ∷ []
