-- The start of a WAV file: one channel of 16-bit samples (PCM).
use Rattle.std.specs.Prelude.{ℕ, ◌+◌, ◌*◌, List, ◌++◌, pos, codes}
use Rattle.le.specs.Bytes.{bytes_of}

-- PCM, one channel, samples and bytes a second, bytes and bits of a sample
abbrev pub format : ℕ → List ℕ
format hertz =
    bytes_of 2 (pos 1) ++ bytes_of 2 (pos 1) ++ bytes_of 4 (pos hertz) ++ bytes_of 4 (pos (2 * hertz)) ++ bytes_of 2 (pos 2) ++ bytes_of 2 (pos 16)

-- all that stands before the samples, of which there are n
unfoldable pub wav_header : ℕ → ℕ → List ℕ
wav_header hertz n =
    codes "RIFF" ++ bytes_of 4 (pos (36 + 2 * n)) ++ codes "WAVE" ++ codes "fmt " ++ bytes_of 4 (pos 16) ++ format hertz ++ codes "data"
    ++ bytes_of 4 (pos (2 * n))
