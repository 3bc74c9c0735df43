-- A value read back from its bits.
use mir.Facts.{to_z-of_z}
use Rattle.word.proofs.Words.{kept, mod_wrap_32, mod_wrap_64, wrap_id}
use Rattle.macros.proofs.Normal.{headroom-fits}

pub ruleset words = (kept, to_z-of_z)

-- with an amount of shift, which its low bits decide
pub ruleset shifts = (kept, to_z-of_z, mod_wrap_32, mod_wrap_64)

pub ruleset heads = (kept, to_z-of_z, wrap_id, headroom-fits)
