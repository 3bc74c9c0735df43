-- Document 02, Notes 3 and 10: what set-up names and no frame changes.
use Rattle.std.specs.Prelude.{Bool, ◌&&◌, ℤ, pos, ◌+ℤ◌}
use Rattle.std.specs.Int.Signed.{le_z, lt_z}
use Rattle.edition.specs.Edition.{newer, is_edition}
use Rattle.decoder.specs.Ranges.{within}
use Rattle.decoder.specs.declared.Settings.{Settings}
use Rattle.decoder.specs.declared.SilkDecoderState.{SilkDecoderState}

-- a squelch Q: 0 to 10,000
unfoldable pub is_squelch : ℤ → Bool
is_squelch q = within (pos 0) (pos 10000) q

unfoldable pub settings_fit : Settings → Bool
settings_fit v = is_squelch v.squelch && is_edition v.edition

-- those of a set-up that names none: squelch after 50 losses (Note 13)
unfoldable pub default_settings : Settings
default_settings = record { squelch = pos 50; edition = newer }

-- a loss now makes the count Q or more; Q of 0 means never
unfoldable pub squelched : SilkDecoderState → Bool
squelched s = lt_z (pos 0) s.settings.squelch && le_z s.settings.squelch (s.loss_cnt +ℤ pos 1)
