-- Comfort noise of a received frame, of a lost one, and of the first samples of a buffer.
use Prim.Native.Nat.{ℕ, ◌+◌, ◌≤◌}
use mathlib.Core.Path.{◌≡◌, refl, sym, ap, subst}
use mathlib.Core.Bool.{Bool, true, false, cond}
use mathlib.Core.List.{List, ◌++◌, append-nil}
use native.Mathlib.Omega.{arith}
use lib.IntN.{ℤ, pos, ◌+ℤ◌}
use lib.ListN.{length, get_or, take, drop, take-append-drop, drop_of_length-le}
use lib.Seq.{length-take-le, get_or-take}
use Rattle.word.specs.Int.{eq_ℤ, sat16}
use Rattle.word.specs.Tabulate.{tabulate}
use Rattle.word.proofs.Lists.{tabulate_cong}
use Rattle.sigproc.specs.Synthesis.{played}
use Rattle.shape.specs.Shape.{Shape, lpc_order}
use Rattle.decoder.specs.Outcome.{Framed}
use Rattle.decoder.specs.declared.SilkDecoderState.{SilkDecoderState}
use Rattle.decoder.specs.With.{with_noise}
use Rattle.cng.specs.Noise.{cng_ready, tracked, noise_gain, noise_signal, silenced, sounded, added_to, comfort_noise}

module _ (p : Shape) (s : SilkDecoderState) (gains : List ℤ) (n : ℕ) (frame : List ℤ) where
  pub received_is : eq_ℤ s.loss_cnt (pos 0) ≡ true
      → comfort_noise p s gains n frame ≡ record { state = with_noise s (silenced (lpc_order p) (cond (eq_ℤ s.prev_signal_type (pos 0)) (tracked p s.exc_q14 s.prev_nlsf_q15 gains (cng_ready p.rate s.s_cng)) (cng_ready p.rate s.s_cng))); frame = frame }
  unfolding comfort_noise
  received_is e = rw e refl

  pub lost-is : eq_ℤ s.loss_cnt (pos 0) ≡ false
      → let h = cng_ready p.rate s.s_cng in comfort_noise p s gains n frame ≡ record { state = with_noise s (sounded s.settings.edition (lpc_order p) h n); frame = added_to frame (noise_signal s.settings.edition (lpc_order p) h n) (noise_gain s.s_plc.rand_scale_q14 (get_or s.s_plc.prev_gain_q16 1 (pos 0)) h.cng_smth_gain_q16) n }
  unfolding comfort_noise
  lost-is e = rw e refl

  -- what holds of both holds of every call
  pub by_cases : (Q : Framed → Type 0)
      → (eq_ℤ s.loss_cnt (pos 0) ≡ true → Q (record { state = with_noise s (silenced (lpc_order p) (cond (eq_ℤ s.prev_signal_type (pos 0)) (tracked p s.exc_q14 s.prev_nlsf_q15 gains (cng_ready p.rate s.s_cng)) (cng_ready p.rate s.s_cng))); frame = frame }))
      → ((gain : ℤ) → Q (record { state = with_noise s (sounded s.settings.edition (lpc_order p) (cng_ready p.rate s.s_cng) n); frame = added_to frame (noise_signal s.settings.edition (lpc_order p) (cng_ready p.rate s.s_cng) n) gain n }))
      → Q (comfort_noise p s gains n frame)
  by_cases Q f g = go (eq_ℤ s.loss_cnt (pos 0)) refl
    where
      go : (b : Bool) → eq_ℤ s.loss_cnt (pos 0) ≡ b → Q (comfort_noise p s gains n frame)
      go true e = subst Q (sym (received_is e)) (f e)
      go false e = subst Q (sym (lost-is e)) (g _)

-- what is added to a buffer is added to its first samples
added_first : (frame signal : List ℤ) (gain : ℤ) (n : ℕ) → n ≤ length frame → added_to (take n frame) signal gain n ++ drop n frame ≡ added_to frame signal gain n
unfolding added_to
added_first frame signal gain n h =
    let l = length-take-le n frame h in
    let f : List ℤ → ℕ → ℤ = λ x i. sat16 (get_or x i (pos 0) +ℤ played gain (get_or signal (16 + i) (pos 0))) in
    let e : tabulate n (f (take n frame)) ≡ tabulate n (f frame) =
    tabulate_cong n (f (take n frame)) (f frame) (λ i k. ap (λ (x : ℤ). sat16 (x +ℤ played gain (get_or signal (16 + i) (pos 0)))) (get_or-take n frame i (pos 0) k)) in
    rw (drop_of_length-le (take n frame) {i = n} (omega arith), append-nil (tabulate n (f (take n frame))), e)

-- a call on the first n samples leaves the rest
module _ (p : Shape) (s : SilkDecoderState) (gains : List ℤ) (n : ℕ) (buffer : List ℤ) (h : n ≤ length buffer) where
  part : (b : Bool) (x y : SilkDecoderState) (f g f' g' : List ℤ) → f ++ drop n buffer ≡ f' → g ++ drop n buffer ≡ g'
      → ((cond {A = Framed} b (record { state = x; frame = f }) (record { state = y; frame = g })).state ≡ (cond {A = Framed} b (record { state = x; frame = f' }) (record { state = y; frame = g' })).state)
      × ((cond {A = Framed} b (record { state = x; frame = f }) (record { state = y; frame = g })).frame ++ drop n buffer ≡ (cond {A = Framed} b (record { state = x; frame = f' }) (record { state = y; frame = g' })).frame)
  part true x y f g f' g' e k = (refl, e)
  part false x y f g f' g' e k = (refl, k)

  pub first-samples : ((comfort_noise p s gains n (take n buffer)).state ≡ (comfort_noise p s gains n buffer).state)
      × ((comfort_noise p s gains n (take n buffer)).frame ++ drop n buffer ≡ (comfort_noise p s gains n buffer).frame)
  unfolding comfort_noise
  first-samples = part (eq_ℤ s.loss_cnt (pos 0)) _ _ _ _ _ _ (take-append-drop n buffer) (added_first buffer _ _ n h)
