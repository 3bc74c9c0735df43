-- Lists of post_frame calls, and the slices that a program holds between them.
use Rattle.std.specs.Prelude.{cond, List, [], ◌∷◌, ℤ, pos}
use Rattle.word.specs.Int.{eq_ℤ}
use Rattle.decoder.specs.declared.SilkDecoderState.{SilkDecoderState}
use Rattle.decode_frame.specs.Call.{Call}
use Rattle.lists.specs.Lists.{held_sum, Losses, counted}
use Rattle.layout.specs.Layout.{state_in}
use Rattle.layout.specs.Frame.{frame_in, rate_in, subframes_in, control_in, rows_in, lines_in}
use Rattle.slices.specs.Slices.{Slices, slices}
use Rattle.post.specs.Calls.{Called}
use Rattle.post.specs.Stages.{frame_call}

-- the slices that hold a state
pub record Held : Type 0 where
  pub words : List ℤ
  pub halves : List ℤ

abbrev pub state_of : Held → SilkDecoderState
state_of m = state_in m.words m.halves

-- what the program lends to a call beside the state
pub record Linked : Type 0 where
  pub frame : List ℤ
  pub coefs : List ℤ
  pub pulses : List ℤ
  pub output : List ℤ

-- all slices of the call
abbrev pub lent_to : Held → Linked → Slices
lent_to m x = slices m.words m.halves x.frame x.coefs x.pulses x.output

-- the call, as the contract of post_frame has it
abbrev pub call_of : Held → Linked → Called
call_of m x = frame_call (lent_to m x)

-- what it brings of a whole-frame call
abbrev pub brought_by : Linked → Call
brought_by x =
    record {
      rate = rate_in x.frame;
      subframes = subframes_in x.frame;
      frame = frame_in x.frame;
      control = control_in x.frame x.coefs;
      rows = rows_in x.coefs;
      lines = lines_in x.coefs;
      pulses = x.pulses;
      output = x.output;
    }

-- of a call's slices those that hold the state
abbrev pub held_in : Slices → Held
held_in m = record { words = m.words; halves = m.halves }

-- as the call leaves them
abbrev pub held_left : Called → Held
held_left k = held_in k.after

-- the losses that count after a call: only an answer of 0 counts or ends the row, a refusal and −1 do neither
unfoldable pub losses_after : Held → Linked → Losses → Losses
losses_after m x l = cond (eq_ℤ (call_of m x).answer (pos 0)) (counted (brought_by x).frame (held_sum (state_of m) (brought_by x)) l) l

-- a call where it stands in a list: the slices that it gets, and the losses that count there
pub record At : Type 0 where
  pub held : Held
  pub call : Linked
  pub losses : Losses

-- each call gets words and halves as the one before left them
unfoldable pub linked_from : Held → Losses → List Linked → List At
linked_from m l [] = []
linked_from m l (x ∷ xs) =
    record { held = m; call = x; losses = l } ∷ linked_from (held_left (call_of m x)) (losses_after m x l) xs
