-- A frame's bytes and the frame that they hold: each way back.
use Prim.Native.Nat.{ℕ, suc, ◌≤◌, ◌<◌}
use mathlib.Core.Path.{◌≡◌, refl, sym, ap, ◌∙◌}
use mathlib.Core.Bool.{Bool, true, false, cond}
use mathlib.Core.List.{List, [], ◌∷◌, ◌++◌}
use native.Mathlib.Omega.{arith}
use borrow.Author.Tests.{eq-eqb, ne_eqb}
use lib.Dec.{lit<}
use lib.IntN.{ℤ, pos}
use lib.ListN.{length, get_or, take, drop, replicate}
use lib.Seq.{get_or-take}
use mir.Syntax.{w8, w16, w32}
use Rattle.le.specs.Bytes.{Bytes, bytes_of, joined, signed_at}
use Rattle.le.proofs.Packing.{signed_back, signed-again, words_back, words-again}
use Rattle.le.proofs.Joining.{total, joined_at, cut, joined-cut}
use Rattle.word.specs.Int.{eq_ℤ}
use Rattle.word.proofs.Order.{eq_ℤ_true}
use Rattle.decoder.specs.Signals.{signal_number, signal_of}
use Rattle.decoder.specs.declared.Signal.TheVariants.{NoVoiceActivity, Unvoiced, Voiced, Other}
use Rattle.decoder.specs.declared.Params.{Params}
use Rattle.decoder.specs.declared.SilkDecoderControl.{SilkDecoderControl}
use Rattle.record.specs.Record.{params_in, control_in, rows_in, lines_in, pulses_in}
use Rattle.record.specs.Recorded.{lost, received, small_bytes, parts, recorded_in, record_bytes}
use Rattle.record.specs.Claims.{TypedReceived, by_number, WrittenIsRead, ReadIsWritten}
use Rattle.record.proofs.Parts.{sizes, parts-sized}

two-rows : (rows : List (List ℤ)) → length rows ≡ 2 → get_or rows 0 [] ∷ get_or rows 1 [] ∷ [] ≡ rows
two-rows [] e = absurd (omega arith)
two-rows (a ∷ []) e = absurd (omega arith)
two-rows (a ∷ b ∷ []) e = refl
two-rows (a ∷ b ∷ r ∷ rs) e = absurd (omega arith)

-- a received frame's bytes, and what is behind them
module _ (p : Params) (c : SilkDecoderControl) (rows : List (List ℤ)) (lines pulses : List ℤ) (q : List ℕ) (t : TypedReceived p c rows lines pulses) where
  abbrev bytes : List ℕ
  bytes = joined (parts p c rows lines pulses) ++ q

  abbrev behind : ℕ → List ℕ
  behind i = joined (drop (suc i) (parts p c rows lines pulses)) ++ q

  part : (i : ℕ) → i < 9 → drop (total (take i sizes)) bytes ≡ get_or (parts p c rows lines pulses) i [] ++ behind i
  part i h = joined_at (parts p c rows lines pulses) sizes i q (parts-sized p c rows lines pulses) h

  params-back : params_in bytes ≡ record { signal = signal_of (signal_number p.signal); quant_offset_type = p.quant_offset_type; nlsf_interp_coef_q2 = p.nlsf_interp_coef_q2; seed = p.seed }
  unfolding params_in joined
  params-back =
      let s = signed_back w8 (signal_number p.signal) bytes 1 t.signal refl in
      let o = signed_back w8 p.quant_offset_type bytes 2 t.offset refl in
      let n = signed_back w8 p.nlsf_interp_coef_q2 bytes 3 t.interpolation refl in
      let e = signed_back w8 p.seed bytes 4 t.seed refl in
      λ i. record { signal = signal_of (s i); quant_offset_type = o i; nlsf_interp_coef_q2 = n i; seed = e i }

  control-back : control_in bytes ≡ c
  unfolding control_in
  control-back =
      let l = t.control.pitch_l in
      let g = t.control.gains_q16 in
      let k = t.control.ltp_coef_q14 in
      let e1 = words_back w32 c.pitch_l bytes 5 4 (behind 1) l.count l.fits (part 1 (lit< tt)) in
      let e2 = words_back w32 c.gains_q16 bytes 21 4 (behind 2) g.count g.fits (part 2 (lit< tt)) in
      let e3 = words_back w16 c.ltp_coef_q14 bytes 101 20 (behind 5) k.count k.fits (part 5 (lit< tt)) in
      let e4 = signed_back w32 c.ltp_scale_q14 bytes 141 t.control.ltp_scale_q14 (ap (take 4) (part 6 (lit< tt))) in
      λ i. record { pitch_l = e1 i; gains_q16 = e2 i; ltp_coef_q14 = e3 i; ltp_scale_q14 = e4 i }

  rows_back : rows_in bytes ≡ rows
  unfolding rows_in
  rows_back =
      let f = t.coefficients.first in
      let s = t.coefficients.second in
      let e1 = words_back w16 (get_or rows 0 []) bytes 37 16 (behind 3) f.count f.fits (part 3 (lit< tt)) in
      let e2 = words_back w16 (get_or rows 1 []) bytes 69 16 (behind 4) s.count s.fits (part 4 (lit< tt)) in
      (λ i. e1 i ∷ e2 i ∷ []) ∙ two-rows rows t.both

  lines-back : lines_in bytes ≡ lines
  unfolding lines_in
  lines-back = words_back w16 lines bytes 145 16 (behind 7) t.frequencies.count t.frequencies.fits (part 7 (lit< tt))

  pulses-back : pulses_in bytes ≡ pulses
  unfolding pulses_in
  pulses-back = words_back w16 pulses bytes 177 320 (behind 8) t.excitation.count t.excitation.fits (part 8 (lit< tt))

  received-back : recorded_in bytes ≡ by_number (received p c rows lines pulses)
  unfolding recorded_in by_number joined
  received-back = λ i. received (params-back i) (control-back i) (rows_back i) (lines-back i) (pulses-back i)

pub written_is_read : WrittenIsRead
unfolding record_bytes recorded_in by_number
written_is_read lost q t = refl
written_is_read (received p c rows lines pulses) q t = received-back p c rows lines pulses q t

-- the first five bytes
five : (b : List ℕ) → 5 ≤ length b → get_or b 0 0 ≡ 1 → (1 ∷ take 1 (drop 1 b)) ++ take 1 (drop 2 b) ++ take 1 (drop 3 b) ++ take 1 (drop 4 b) ≡ take 5 b
five [] h e = absurd (omega arith)
five (x ∷ []) h e = absurd (omega arith)
five (x ∷ y ∷ []) h e = absurd (omega arith)
five (x ∷ y ∷ z ∷ []) h e = absurd (omega arith)
five (x ∷ y ∷ z ∷ v ∷ []) h e = absurd (omega arith)
five (x ∷ y ∷ z ∷ v ∷ w ∷ b) h e = ap (λ (n : ℕ). n ∷ y ∷ z ∷ v ∷ w ∷ []) (sym e)

-- a number is that of the signal type that it stands for
pub number_of_lem : (n : ℤ) → signal_number (signal_of n) ≡ n
unfolding signal_number signal_of
number_of_lem n = go (eq_ℤ n (pos 0)) refl (eq_ℤ n (pos 1)) refl (eq_ℤ n (pos 2)) refl
  where
    go : (a : Bool) → eq_ℤ n (pos 0) ≡ a → (b : Bool) → eq_ℤ n (pos 1) ≡ b → (c : Bool) → eq_ℤ n (pos 2) ≡ c
        → signal_number (cond a NoVoiceActivity (cond b Unvoiced (cond c Voiced (Other n)))) ≡ n
    go true e b f c g = sym (eq_ℤ_true n (pos 0) e)
    go false e true f c g = sym (eq_ℤ_true n (pos 1) f)
    go false e false f true g = sym (eq_ℤ_true n (pos 2) g)
    go false e false f false g = refl

module _ (b : List ℕ) (t : Bytes b) (h : 817 ≤ length b) where
  small-again : get_or b 0 0 ≡ 1 → small_bytes (params_in b) ≡ take 5 b
  unfolding params_in
  small-again e =
      let s = ap (bytes_of 1) (number_of_lem (signed_at w8 b 1)) ∙ signed-again w8 b 1 t (omega arith) in
      let o = signed-again w8 b 2 t (omega arith) in
      let n = signed-again w8 b 3 t (omega arith) in
      let d = signed-again w8 b 4 t (omega arith) in
      (λ i. (1 ∷ s i) ++ o i ++ n i ++ d i) ∙ five b (omega arith) e

  parts_again : get_or b 0 0 ≡ 1 → parts (params_in b) (control_in b) (rows_in b) (lines_in b) (pulses_in b) ≡ cut 0 sizes b
  unfolding control_in rows_in lines_in pulses_in
  parts_again e =
      let p0 = small-again e in
      let p1 = words-again w32 b 5 4 t (omega arith) in
      let p2 = words-again w32 b 21 4 t (omega arith) in
      let p3 = words-again w16 b 37 16 t (omega arith) in
      let p4 = words-again w16 b 69 16 t (omega arith) in
      let p5 = words-again w16 b 101 20 t (omega arith) in
      let p6 = signed-again w32 b 141 t (omega arith) in
      let p7 = words-again w16 b 145 16 t (omega arith) in
      let p8 = words-again w16 b 177 320 t (omega arith) in
      λ i. p0 i ∷ p1 i ∷ p2 i ∷ p3 i ∷ p4 i ∷ p5 i ∷ p6 i ∷ p7 i ∷ p8 i ∷ []

  received-again : get_or b 0 0 ≡ 1 → record_bytes (recorded_in b) ≡ take 817 b
  unfolding recorded_in record_bytes
  received-again e = rw (eq-eqb (get_or b 0 0) 1 e) (ap joined (parts_again e) ∙ joined-cut 0 sizes b)

  lost-again : take 817 b ≡ replicate 817 0 → record_bytes (recorded_in b) ≡ take 817 b
  unfolding recorded_in record_bytes
  lost-again e =
      let k : get_or b 0 0 ≡ 0 = sym (get_or-take 817 b 0 0 (lit< tt)) ∙ ap (λ (c : List ℕ). get_or c 0 0) e in
      rw (ne_eqb (get_or b 0 0) 1 (λ f. omega (arith, f))) (sym e)

pub read_is_written : ReadIsWritten
read_is_written b t h = (received-again b t h, lost-again b t h)
