-- The losses that count, beside those that the state counts.
use mathlib.Core.Path.{◌≡◌, sym, ap, ◌∙◌}
use native.Mathlib.Numerals.{add-one}
use lib.IntN.{ℤ, pos, ◌+ℤ◌}
use Rattle.decoder.specs.Reshape.{reshaped_by, reshaped}
use Rattle.decoder.specs.SetUp.{silk_default, state_from}
use Rattle.decoder.specs.declared.Settings.{Settings}
use Rattle.decoder.specs.declared.SilkDecoderState.{SilkDecoderState}
use Rattle.decoder.specs.declared.Frame.{Frame}
use Rattle.decoder.specs.declared.Frame.TheVariants.{Received, Lost}
use Rattle.decoder.proofs.Coming.{Own}
use Rattle.decoder.proofs.SetUps.{Fresh, set_up-fresh}
use Rattle.decode_frame.specs.Call.{Call, shape_at, state_at}
use Rattle.decode_frame.proofs.Kept.{Good}
use Rattle.lists.specs.Lists.{state_after, held_sum, Losses, no_losses, counted, count_after}
use Rattle.lists.specs.Claims.{TypedCall, LossesHeld}
use Rattle.lists.proofs.Keeps.{new_state, by_answer, keeps, keeps_own, along, every_map}
use Rattle.lists.proofs.History.{set_up-good, set_up_own}
use Rattle.lists.proofs.Lost.{lost-after, received_count}

-- a good state that every coming shape leaves accepted, and that counts the losses
pub record Counts (s : SilkDecoderState) (l : Losses) : Type 0 where
  pub good : Good s
  pub own : Own s
  pub count : s.loss_cnt ≡ pos l.count

pub counts-after : (s : SilkDecoderState) (l : Losses) (x : Call) → Counts s l → TypedCall x → Counts (state_after s x) (count_after s x l)
unfolding counted reshaped reshaped_by
counts-after s l x c t =
    record {
      good = keeps s x c.good t;
      own = keeps_own s x c.good t c.own;
      count = by_answer (λ u m. u.loss_cnt ≡ pos m.count) s l x c.count (λ e. played x.frame);
    }
  where
    played : (f : Frame) → (new_state s f x).loss_cnt ≡ pos (counted f (held_sum s x) l).count
    played (Received q) = received_count (shape_at x) (state_at s x) q x.control x.rows x.lines x.pulses
    played Lost =
        (lost-after (shape_at x) (state_at s x) x.control x.rows x.lines x.pulses).count ∙ ap (λ (z : ℤ). z +ℤ pos 1) c.count ∙ ap pos (add-one l.count)

pub set_up-counts : (khz nb : ℤ) (v : Settings) (s : SilkDecoderState) → Fresh khz nb v s → Counts s no_losses
unfolding state_from silk_default
set_up-counts khz nb v s f =
    record {
      good = set_up-good khz nb v s f;
      own = set_up_own khz nb v s f;
      count = sym (ap (λ (t : SilkDecoderState). t.loss_cnt) f.state);
    }

pub losses_held : LossesHeld
losses_held khz nb v s xs e ts =
    every_map (λ t c. c.count) (along Counts counts-after s no_losses (set_up-counts khz nb v s (set_up-fresh khz nb v s e)) ts)
