-- A list of frames that meet none of rows 5 to 11 is played whole, as long as losses can be counted.
use Prim.Native.Nat.{ℕ, suc, ◌+◌, ◌<◌, ◌≤◌}
use mathlib.Core.Path.{◌≡◌, refl, ap, ◌∙◌}
use mathlib.Core.Bool.{Bool, true, false, cond}
use mathlib.Core.List.{List, [], ◌∷◌, ◌++◌}
use native.Mathlib.Omega.{arith}
use borrow.Author.Tests.{ne_eqb, le-ltb}
use lib.IntN.{ℤ, pos}
use lib.ListN.{length, replicate}
use Rattle.word.specs.Int.{eq_ℤ}
use Rattle.word.specs.Size.{sizes}
use Rattle.std.specs.Prelude.{Ok}
use Rattle.refusal.specs.First.{Row, ◌gives◌, first_of}
use Rattle.refusal.specs.Refusals.{code_of}
use Rattle.refusal.specs.declared.Refusal.TheVariants.{Line}
use Rattle.refusal.proofs.Clear.{passed, append_ok}
use Rattle.shape.specs.Shape.{frame_length}
use Rattle.decoder.specs.Reshape.{reshaped_by, reshaped}
use Rattle.decoder.specs.Rows.{coming_rows}
use Rattle.decoder.specs.SetUp.{plc_default, silk_default, state_from}
use Rattle.decoder.specs.declared.Settings.{Settings}
use Rattle.decoder.specs.declared.SilkDecoderState.{SilkDecoderState}
use Rattle.decoder.specs.declared.Frame.{Frame}
use Rattle.decoder.specs.declared.Frame.TheVariants.{Received, Lost}
use Rattle.decoder.proofs.Coming.{any_shape}
use Rattle.decoder.proofs.SetUps.{Fresh, set_up-fresh, set_up_state}
use Rattle.judge.specs.Rows.{param_rows, line_row, room_rows, loss_rows, frame_rows}
use Rattle.judge.proofs.Alone.{past_coming}
use Rattle.decode_frame.specs.Call.{Call, shape_at}
use Rattle.decode_frame.specs.Answer.{frame_refusal}
use Rattle.quiet.proofs.Wane.{zeros-sum}
use Rattle.lists.specs.Lists.{state_after, held_sum, Losses, no_losses, sum_from, counted, count_after, places_from}
use Rattle.lists.specs.Claims.{Every, none, then, Numbered, TypedCalls, Played, Described, Playable, FramesPlayed, LossesPlayed}
use Rattle.lists.proofs.Keeps.{by_answer, every_map}
use Rattle.lists.proofs.Losses.{Counts, counts-after, set_up-counts}

-- ---- a call of a list from a set-up
module _ (s : SilkDecoderState) (l : Losses) (x : Call) (c : Counts s l) (p : Playable x) (h : l.count < 2147483647) where
  -- rows 1 to 3 let every shape pass
  past : (rows : List Row) → first_of rows ≡ Ok tt → first_of (coming_rows x.rate x.subframes s ++ rows) ≡ Ok tt
  past rows e =
      let a = c.good.accepted in
      past_coming x.rate x.subframes s a rows p.rate p.count (any_shape x.rate x.subframes s a c.own p.rate) ∙ e

  taken : (f : Frame) → Described f x
      → first_of (frame_rows x.rate x.subframes s f x.control x.lines (length x.pulses) (length x.output)) ≡ Ok tt
  taken (Received q) d =
      let n = frame_length (shape_at x) in
      let rows = room_rows (shape_at x) (length x.pulses) (length x.output) in
      let described = param_rows (shape_at x) q x.control ++ (line_row (shape_at x) x.lines gives Line) ∷ [] in
      past (described ++ rows)
      (append_ok described rows d.0 ∙ passed rows (le-ltb (length x.pulses) n d.1, (le-ltb (length x.output) n p.room, tt)))
  taken Lost d =
      let full : eq_ℤ s.loss_cnt (pos 2147483647) ≡ false = rw c.count (ne_eqb l.count 2147483647 (λ z. omega arith)) in
      let room = le-ltb (length x.output) (frame_length (shape_at x)) p.room in
      past (loss_rows (shape_at x) s (length x.output)) (passed (loss_rows (shape_at x) s (length x.output)) (full, (room, tt)))

  pub not_refused : frame_refusal s x ≡ Ok tt
  unfolding frame_refusal
  not_refused = taken x.frame p.described

-- ---- lists of them
-- a call counts one loss at most
pub counted_le : (f : Frame) (sum : ℕ) (l : Losses) → (counted f sum l).count ≤ suc l.count
unfolding counted
counted_le (Received q) sum l = omega arith
counted_le Lost sum l = omega arith

one_at_most : (s : SilkDecoderState) (l : Losses) (x : Call) → (count_after s x l).count ≤ suc l.count
one_at_most s l x = by_answer (λ u m. m.count ≤ suc l.count) s l x (omega arith) (λ e. counted_le x.frame (held_sum s x) l)

-- played, with the losses that count in the state
pub plays_from : (s : SilkDecoderState) (l : Losses) {xs : List Call} → Counts s l → l.count + length xs ≤ 2147483647 → TypedCalls xs → Every Playable xs
    → Every (λ t. (frame_refusal t.state t.call ≡ Ok tt) × (t.state.loss_cnt ≡ pos t.losses.count)) (places_from s l xs)
unfolding places_from
plays_from s l c h none none = none
plays_from s l c h (then {x} t ts) (then p ps) =
    let n = one_at_most s l x in
    then (not_refused s l x c p (omega arith), c.count)
    (plays_from (state_after s x) (count_after s x l) (counts-after s l x c t) (omega arith) ts ps)

pub frames_played : FramesPlayed
frames_played khz nb v s xs e ts h ps =
    every_map (λ t z. ap code_of z.0)
    (plays_from s no_losses (set_up-counts khz nb v s (set_up-fresh khz nb v s e)) (omega arith) ts ps)

-- ---- lost frames alone
-- n losses, with a filter of zeros at the first
abbrev silent : ℕ → Losses
silent n = record { count = n; held = 0 }

-- the filter that a set-up leaves
set_up-sum : (khz nb : ℤ) (v : Settings) (x : Call) → held_sum (state_from khz nb v) x ≡ 0
unfolding held_sum reshaped reshaped_by state_from silk_default
set_up-sum khz nb v x = go (eq_ℤ x.rate khz) _
  where
    go : (b : Bool) (d : ℕ) → sizes (cond (eq_ℤ (cond b (pos 1) (pos 1)) (pos 0)) plc_default.prev_lpc_q12 (replicate 16 (pos 0))) d ≡ 0
    go true d = omega (arith, zeros-sum 16 d)
    go false d = omega (arith, zeros-sum 16 d)

one_more : (s : SilkDecoderState) (n : ℕ) (x : Call) → frame_refusal s x ≡ Ok tt → x.frame ≡ Lost → sum_from n (held_sum s x) 0 ≡ 0
    → count_after s x (silent n) ≡ silent (suc n)
unfolding count_after counted held_sum
one_more s n x e f z = rw (e, f, z) refl

played-from : (s : SilkDecoderState) (n : ℕ) {xs : List Call} → Counts s (silent n) → ((x : Call) → sum_from n (held_sum s x) 0 ≡ 0)
    → n + length xs ≤ 2147483647
    → TypedCalls xs
    → Every (λ x. (x.frame ≡ Lost) × Playable x) xs
    → Numbered (λ k t. Played t × (t.losses ≡ silent k)) n (places_from s (silent n) xs)
unfolding places_from Numbered sum_from
played-from s n c z h none none = tt
played-from s n c z h (then {x} t ts) (then p ps) =
    let e = not_refused s (silent n) x c p.1 (omega arith) in
    let o = one_more s n x e p.0 (z x) in (
      (ap code_of e, refl),
      rw o (played-from (state_after s x) (suc n) (rw o at (counts-after s (silent n) x c t)) (λ y. refl) (omega arith) ts ps),
    )

pub losses_played : LossesPlayed
unfolding sum_from
losses_played khz nb v xs r n f h ts ps =
    let s = state_from khz nb v in
    let fresh : Fresh khz nb v s = record { rate = r; count = n; settings = f; state = refl } in
    (s, set_up_state khz nb v r n f, played-from s 0 (set_up-counts khz nb v s fresh) (set_up-sum khz nb v) (omega arith) ts ps)
