-- The parts of a received frame's bytes: their lengths, and how they are stored.
use Prim.Native.Nat.{ℕ, ◌≤◌}
use mathlib.Core.Path.{◌≡◌, refl, ◌∙◌}
use mathlib.Core.List.{List, [], ◌∷◌}
use lib.IntN.{ℤ}
use lib.ListN.{length, get_or, drop, length-replicate}
use mir.Syntax.{Width, w16, w32}
use Rattle.le.specs.Bytes.{bytes_in, signed_at, words_at, words_by, joined, with_bytes}
use Rattle.le.proofs.Packing.{length-packed, words_are}
use Rattle.le.proofs.Joining.{Sized, length-joined, stored, stored_all}
use Rattle.decoder.specs.declared.Params.{Params}
use Rattle.decoder.specs.declared.SilkDecoderControl.{SilkDecoderControl}
use Rattle.record.specs.Recorded.{Recorded, lost, received, small_bytes, parts, record_bytes}

-- words read one behind the other
pub words_got : (w : Width) (b : List ℕ) (at n : ℕ) {x : List ℤ} → x ≡ words_by (signed_at w) (bytes_in w) b at n → x ≡ words_at w b at n
words_got w b at n e = e ∙ words_are w b at n

-- the parts' lengths
abbrev pub sizes : List ℕ
sizes = 5 ∷ 16 ∷ 16 ∷ 32 ∷ 32 ∷ 40 ∷ 4 ∷ 32 ∷ 640 ∷ []

module _ (q : Params) (c : SilkDecoderControl) (rows : List (List ℤ)) (lines pulses : List ℤ) where
  pub parts-sized : Sized (parts q c rows lines pulses) sizes
  parts-sized = (
    refl,
    (
      length-packed w32 c.pitch_l 4,
      (
        length-packed w32 c.gains_q16 4,
        (
          length-packed w16 (get_or rows 0 []) 16,
          (
            length-packed w16 (get_or rows 1 []) 16,
            (
              length-packed w16 c.ltp_coef_q14 20,
              (refl, (length-packed w16 lines 16, (length-packed w16 pulses 320, tt))),
            ),
          ),
        ),
      ),
    ),
  )

  pub length-received : length (record_bytes (received q c rows lines pulses)) ≡ 817
  unfolding record_bytes
  length-received = length-joined (parts q c rows lines pulses) sizes parts-sized

pub length_record : (x : Recorded) → length (record_bytes x) ≡ 817
unfolding record_bytes
length_record lost = length-replicate {A = ℕ} 817 0
length_record (received q c rows lines pulses) = length-received q c rows lines pulses

-- the parts stored in turn
pub put_whole : (d : List ℕ) (at : ℕ) (q : Params) (c : SilkDecoderControl) (rows : List (List ℤ)) (lines pulses : List ℤ) → at ≤ length d
    → stored at 5 (drop 1 (parts q c rows lines pulses)) (drop 1 sizes) (with_bytes d at (small_bytes q)) ≡ with_bytes d at (record_bytes (received q c rows lines pulses))
unfolding record_bytes joined
put_whole d at q c rows lines pulses h =
    stored_all d at (small_bytes q) 5 (drop 1 (parts q c rows lines pulses)) (drop 1 sizes) h refl (parts-sized q c rows lines pulses).1
