-- Document 02, Note 10: editions of the standard, by the number of their RFC.
use Rattle.std.specs.Prelude.{Bool, ◌||◌, ℤ, pos}
use Rattle.word.specs.Int.{eq_ℤ}

-- RFC 6716 as first published
abbrev pub older : ℤ
older = pos 6716

-- RFC 6716 as RFC 8251 amends it, which is meant where none is named
abbrev pub newer : ℤ
newer = pos 8251

unfoldable pub is_edition : ℤ → Bool
is_edition e = eq_ℤ e older || eq_ℤ e newer
