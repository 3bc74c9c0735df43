-- Long-term prediction of a subframe, from what its parts leave.
use Prim.Native.Nat.{ℕ, ◌+◌, ◌*◌}
use mathlib.Core.Path.{◌≡◌, refl, ap, ◌∙◌}
use mathlib.Core.Bool.{Bool, true, false, cond}
use mathlib.Core.List.{List}
use native.Mathlib.Omega.{arith}
use lib.IntN.{ℤ, pos, nat_abs}
use lib.ListN.{length, get_or, take, drop}
use Rattle.decoder.specs.declared.SilkDecoderControl.{SilkDecoderControl}
use Rattle.decode_core.specs.Core.{ltp_past, ltp_synthesis, long, rewhitens, buffer_at, past_at}
use Rattle.decode_core.specs.Ready.{Ready, LongTerm}
use Rattle.decode_core.specs.declared.Setting.{Setting}
use Rattle.decode_core.proofs.Pasts.{length-ltp_past}
use Rattle.decode_core.proofs.Whiten.{length-past_at}

module _ (f : Setting) (c : SilkDecoderControl) (k : ℕ) (row : List ℤ) (adj : ℤ) (samples ob before : List ℤ) where
  -- the long-term state that the subframe starts from
  P : List ℤ
  P = past_at f c k row adj (buffer_at f k ob samples) before

  pub length_started : Ready f c k (length before) → length (past_at f c k row adj (buffer_at f k ob samples) before) ≡ length before
  length_started r = length-past_at f c k row adj (buffer_at f k ob samples) before (omega (arith, r.lag.high, r.low))

  pub predicted : (ob' mid after : List ℤ) (lag : ℕ) (taps e res : List ℤ) → long f k ≡ true → length e ≡ f.subfr_length
      → ob' ≡ cond (rewhitens f k) (buffer_at f k ob samples) ob
      → mid ≡ past_at f c k row adj (buffer_at f k ob samples) before
      → lag ≡ nat_abs (get_or c.pitch_l k (pos 0)) → taps ≡ take 5 (drop (5 * k) c.ltp_coef_q14)
      → after ≡ ltp_past mid taps lag e (length e)
      → res ≡ ltp_synthesis mid taps lag e (length e)
      → LongTerm f c k row adj samples ob ob' before after e res
  predicted ob' mid after lag taps e res w n b m l t a s =
      record { buffer = rw w b; past = rw (w, a, m, n, l, t) refl; residual = rw (w, s, m, n, l, t) refl }

  -- the places in use after it
  pub longer : (ob' after e res : List ℤ) → (long f k ≡ true → Ready f c k (length before)) → LongTerm f c k row adj samples ob ob' before after e res
      → length after ≡ length before + cond (long f k) f.subfr_length 0
  longer ob' after e res h t = ap length t.past ∙ go (long f k) refl
    where
      taps : List ℤ
      taps = take 5 (drop (5 * k) c.ltp_coef_q14)

      lag : ℕ
      lag = nat_abs (get_or c.pitch_l k (pos 0))

      go : (b : Bool) → long f k ≡ b → length (cond b (ltp_past (past_at f c k row adj (buffer_at f k ob samples) before) taps lag e f.subfr_length) before) ≡ length before + cond b f.subfr_length 0
      go true w =
          length-ltp_past (past_at f c k row adj (buffer_at f k ob samples) before) taps e 0 lag f.subfr_length ∙ ap (λ (i : ℕ). i + f.subfr_length) (length_started (h w))
      go false w = omega arith
