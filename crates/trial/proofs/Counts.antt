-- The counts over a post's own calls are those of the link and the row of losses alone.
use Prim.Native.Nat.{ℕ, zero, suc, ◌+◌, ◌≤◌}
use mathlib.Core.Path.{◌≡◌, refl, sym, ap, ◌∙◌, subst}
use mathlib.Core.Bool.{Bool, true, false, cond, not, ◌&&◌}
use mathlib.Core.List.{List}
use native.Mathlib.Numerals.{add-one}
use native.Mathlib.Omega.{arith}
use borrow.Author.Tests.{eq-eqb, ltb-false}
use lib.Dec.{ltb, leb}
use lib.IntN.{ℤ, pos, nat_abs, ◌+ℤ◌}
use lib.ListN.{length, replicate, length-replicate}
use lib.Signed.{le_z, lt_z}
use Rattle.edition.specs.Edition.{newer, is_edition}
use Rattle.std.specs.Prelude.{Result, Ok}
use Rattle.refusal.specs.Refusals.{Judged, code_of}
use Rattle.refusal.specs.declared.Refusal.{Refusal}
use Rattle.refusal.proofs.Clear.{accepted, clear}
use Rattle.shape.specs.Shape.{Shape, shape, is_rate, is_count, frame_length}
use Rattle.shape.proofs.Shapes.{frame_le}
use Rattle.decoder.specs.Answer.{answer}
use Rattle.decoder.specs.Reshape.{reshaped_by, reshaped}
use Rattle.decoder.specs.Settings.{is_squelch, settings_fit, squelched}
use Rattle.decoder.specs.SetUp.{silk_default, state_from, set_up_with}
use Rattle.decoder.specs.declared.Settings.{Settings}
use Rattle.decoder.specs.declared.Frame.{Frame}
use Rattle.decoder.specs.declared.Frame.TheVariants.{Received, Lost}
use Rattle.decoder.specs.declared.Params.{Params}
use Rattle.decoder.specs.declared.SilkDecoderControl.{SilkDecoderControl}
use Rattle.decoder.specs.declared.SilkDecoderState.{SilkDecoderState}
use Rattle.decoder.proofs.Between.{passes, between}
use Rattle.decoder.proofs.SetUps.{set_up_state}
use Rattle.plc.specs.Update.{plc_update}
use Rattle.plc.specs.Conceal.{plc_conceal}
use Rattle.glue.specs.Glue.{glue_frames}
use Rattle.decode_core.specs.Core.{decode_core}
use Rattle.decode_frame.specs.WholeFrame.{lined, remembered, resumed, lag_kept, received, lost, muted, whole_frame}
use Rattle.decode_frame.specs.Call.{Call, shape_at, state_at}
use Rattle.decode_frame.specs.Answer.{frame_refusal, frame_answer, frame_outcome, state_left}
use Rattle.decode_frame.proofs.Finishing.{finished-keeps}
use Rattle.lists.specs.Lists.{state_after, Losses, no_losses, count_after, places_from, places}
use Rattle.lists.specs.Claims.{Every, none, then, Played}
use Rattle.lists.proofs.Keeps.{new_state}
use Rattle.lists.proofs.Lost.{lost-after, received_count}
use Rattle.generator.specs.Draws.{drawn}
use Rattle.load.specs.Load.{before, params_of}
use Rattle.load_lists.specs.Calls.{call_of, calls_from}
use Rattle.load_lists.specs.Claims.{Lent}
use Rattle.load_lists.proofs.Sent.{any_losses_lem}
use Rattle.listener.specs.declared.Link.{Link}
use Rattle.listener.specs.Link.{good_at}
use Rattle.listener.specs.Heard.{Heard, as_received, as_concealed, as_squelched, losses_at, silent, heard_by, count_to}
use Rattle.trial.specs.Calls.{is_heard, count_of, places_on, followed_by, heard_of}
use Rattle.trial.specs.Trial.{trial_refusal}
use Rattle.trial.specs.Claims.{AllPlayed}

-- ---- a call that is played
-- the losses in a row after a frame
unfoldable row_after : Frame → ℕ → ℕ
row_after (Received f) n = 0
row_after Lost n = suc n

module _ (p : Shape) (s : SilkDecoderState) (c : SilkDecoderControl) (rows : List (List ℤ)) (lines pulses : List ℤ) where
  same-settings : (f : Frame) → (whole_frame p s f c rows lines pulses).state.settings ≡ s.settings
  unfolding whole_frame received lost muted resumed lag_kept glue_frames remembered plc_update plc_conceal decode_core lined
  same-settings (Received q) = finished-keeps p _ (λ t. t.settings ≡ s.settings) (λ h frame. refl)
  same-settings Lost = finished-keeps p _ (λ t. t.settings ≡ s.settings) (λ h frame. refl)

  row-after : (f : Frame) (n : ℕ) → s.loss_cnt ≡ pos n → (whole_frame p s f c rows lines pulses).state.loss_cnt ≡ pos (row_after f n)
  unfolding row_after
  row-after (Received q) n e = received_count p s q c rows lines pulses
  row-after Lost n e = (lost-after p s c rows lines pulses).count ∙ ap (λ (z : ℤ). z +ℤ pos 1) e ∙ ap pos (add-one n)

-- the squelch and the row of losses that a state holds
record Holds (q n : ℕ) (s : SilkDecoderState) : Type 0 where
  squelch : s.settings.squelch ≡ pos q
  row : s.loss_cnt ≡ pos n

left : (s : SilkDecoderState) (x : Call) (f : Frame) (q n : ℕ) → Holds q n s → Holds q (row_after f n) (new_state s f x)
unfolding reshaped reshaped_by
left s x f q n h =
    record {
      squelch = ap (λ (v : Settings). v.squelch) (same-settings (shape_at x) (state_at s x) x.control x.rows x.lines x.pulses f) ∙ h.squelch;
      row = row-after (shape_at x) (state_at s x) x.control x.rows x.lines x.pulses f n h.row;
    }

played_state : (s : SilkDecoderState) (x : Call) → code_of (frame_refusal s x) ≡ 0 → state_after s x ≡ new_state s x.frame x
unfolding state_after frame_answer
played_state s x e = ap (λ (j : Judged). state_left s (answer j (frame_outcome s x))) (accepted _ e)

row_by : (good : Bool) (f : Params) (n : ℕ) → row_after (cond good (Received f) Lost) n ≡ cond good 0 (suc n)
unfolding row_after
row_by true f n = refl
row_by false f n = refl

holds_after : (s : SilkDecoderState) (x : Call) (good : Bool) (f : Params) (q n : ℕ) → x.frame ≡ cond good (Received f) Lost → code_of (frame_refusal s x) ≡ 0
    → Holds q n s
    → Holds q (cond good 0 (suc n)) (state_after s x)
holds_after s x good f q n e p h =
    subst (Holds q (cond good 0 (suc n))) (sym (played_state s x p))
    (subst (λ (m : ℕ). Holds q m (new_state s x.frame x)) (ap (λ (g : Frame). row_after g n) e ∙ row_by good f n) (left s x x.frame q n h))

-- ---- what becomes of its frame
squelched-is : (s : SilkDecoderState) (q n : ℕ) → Holds q n s → squelched s ≡ silent q n
unfolding squelched silent
squelched-is s q n h =
    (λ i. lt_z (pos 0) (h.squelch i) && le_z (h.squelch i) (h.row i +ℤ pos 1)) ∙ ap (λ (m : ℕ). ltb 0 q && leb q m) (add-one n)

heard-is : (h : Heard) (good : Bool) (f : Params) (s : SilkDecoderState) (q n : ℕ) → Holds q n s → is_heard h (cond good (Received f) Lost) s ≡ heard_by h q good n
unfolding is_heard heard_by
heard-is as_received true f s q n e = refl
heard-is as_received false f s q n e = refl
heard-is as_concealed true f s q n e = refl
heard-is as_concealed false f s q n e = ap not (squelched-is s q n e)
heard-is as_squelched true f s q n e = refl
heard-is as_squelched false f s q n e = squelched-is s q n e

-- ---- lists of them
-- m frames from frame i on, after n losses in a row
unfoldable heard_from : Heard → ℕ → Link → ℤ → ℕ → ℕ → ℕ → ℕ
heard_from h q k x i n zero = 0
heard_from h q k x i n (suc m) =
    cond (heard_by h q (good_at k x i) n) 1 0 + heard_from h q k x (suc i) (cond (good_at k x i) 0 (suc n)) m

module _ (h : Heard) (khz nb seed : ℤ) (q : ℕ) (k : Link) (x : ℤ) (o : List ℤ) where
  sent-at : (i : ℕ) → (call_of khz nb seed (before seed i) (good_at k x i) o).frame ≡ cond (good_at k x i) (Received (params_of (before seed i))) Lost
  unfolding call_of
  sent-at i = refl

  counts : (m i n : ℕ) (s : SilkDecoderState) (l : Losses) → Every Played (places_from s l (calls_from khz nb seed (good_at k x) i (replicate m o))) → Holds q n s
      → count_of h (places_from s l (calls_from khz nb seed (good_at k x) i (replicate m o))) ≡ heard_from h q k x i n m
  unfolding count_of places_from calls_from heard_from
  counts zero i n s l ps e = refl
  counts (suc m) i n s l (then p ps) e =
      let f = params_of (before seed i) in
      let good = good_at k x i in
      let call = call_of khz nb seed (before seed i) good o in
      let a = eq-eqb (code_of (frame_refusal s call)) 0 p in
      let b = ap (λ (g : Frame). is_heard h g s) (sent-at i) ∙ heard-is h good f s q n e in
      let d = counts m (suc i) (cond good 0 (suc n)) (state_after s call) (count_after s call l) ps (holds_after s call good f q n (sent-at i) p e) in
      λ j. cond (a j && b j) 1 0 + d j

add-up_from : (a b c : ℕ) → a + (b + c) ≡ a + b + c
add-up_from a b c = omega arith

heard_to : (h : Heard) (q : ℕ) (k : Link) (x : ℤ) (m i : ℕ) → count_to h q k x i + heard_from h q k x i (losses_at k x i) m ≡ count_to h q k x (i + m)
unfolding heard_from count_to losses_at
heard_to h q k x zero i =
    let e : i ≡ i + 0 = omega arith in
    let z : count_to h q k x i + 0 ≡ count_to h q k x i = omega arith in
    z ∙ ap (count_to h q k x) e
heard_to h q k x (suc m) i =
    let e : suc i + m ≡ i + suc m = omega arith in
    add-up_from (count_to h q k x i) (cond (heard_by h q (good_at k x i) (losses_at k x i)) 1 0) (heard_from h q k x (suc i) (losses_at k x (suc i)) m)
    ∙ heard_to h q k x m (suc i)
    ∙ ap (count_to h q k x) e

-- from the first frame on
all_of : (h : Heard) (q : ℕ) (k : Link) (x : ℤ) (n : ℕ) → heard_from h q k x 0 0 n ≡ count_to h q k x n
unfolding count_to losses_at
all_of h q k x n =
    let a : heard_from h q k x 0 0 n ≡ 0 + heard_from h q k x 0 0 n = omega arith in
    let b : 0 + n ≡ n = omega arith in
    a ∙ heard_to h q k x n 0 ∙ ap (count_to h q k x) b

-- ---- a trial that is not refused
pub in_ranges : (khz nb q : ℤ) (n : ℕ) → code_of (trial_refusal khz nb q n) ≡ 0 → (is_rate khz ≡ true) × (is_count nb ≡ true) × (n ≤ 2147483647) × (is_squelch q ≡ true)
unfolding trial_refusal
in_ranges khz nb q n e =
    let h = clear _ e in
    (passes (is_rate khz) h.0, passes (is_count nb) h.1.0, ltb-false 2147483647 n h.1.1.0, passes (is_squelch q) h.1.1.1.0)

pub natural_squelch : (q : ℤ) → is_squelch q ≡ true → (q ≡ pos (nat_abs q)) × (nat_abs q ≤ 10000)
unfolding is_squelch
natural_squelch q e =
    let b = between 0 10000 q e in
    (b.is, b.high)

abbrev settings : ℤ → Settings
settings q = record { squelch = q; edition = newer }

fit-settings : (q : ℤ) → is_squelch q ≡ true → settings_fit (settings q) ≡ true
unfolding settings_fit is_edition
fit-settings q s = rw s refl

-- the state that set-up gives for that squelch
abbrev fresh : ℤ → ℤ → ℤ → SilkDecoderState
fresh khz nb q = state_from khz nb (settings q)

set_up-holds : (khz nb q : ℤ) → is_squelch q ≡ true → Holds (nat_abs q) 0 (fresh khz nb q)
unfolding state_from silk_default
set_up-holds khz nb q s = record { squelch = (natural_squelch q s).0; row = refl }

every_buffer : (n k : ℕ) (o : List ℤ) → k ≤ length o → Every (λ (b : List ℤ). k ≤ length b) (replicate n o)
every_buffer zero k o h = none
every_buffer (suc n) k o h = then h (every_buffer n k o h)

lent : (khz nb : ℤ) (n : ℕ) → n ≤ 2147483647 → Lent khz nb (replicate n (replicate 320 (pos 0)))
lent khz nb n h =
    let room : frame_length (shape khz nb) ≤ length (replicate 320 (pos 0)) = rw (length-replicate 320 (pos 0)) (frame_le khz nb) in
    record { few = rw (length-replicate n (replicate 320 (pos 0))) h; room = every_buffer n (frame_length (shape khz nb)) (replicate 320 (pos 0)) room }

-- of its calls, by the refusal's number
module _ (khz nb seed q : ℤ) (n : ℕ) (k : Link) (x : ℤ) (e : code_of (trial_refusal khz nb q n) ≡ 0) where
  set_up-fresh : set_up_with khz nb (settings q) ≡ Ok (fresh khz nb q)
  set_up-fresh =
      let a = in_ranges khz nb q n e in
      set_up_state khz nb (settings q) a.0 a.1 (fit-settings q a.3)

  every-played : Every Played (places (fresh khz nb q) (followed_by khz nb seed q k n x))
  unfolding followed_by drawn
  every-played =
      any_losses_lem (good_at k x) khz nb (settings q) (fresh khz nb q) seed 0 0 (replicate n (replicate 320 (pos 0))) set_up-fresh
      (lent khz nb n (in_ranges khz nb q n e).2)

  pub heard_by_link : (h : Heard) → heard_of khz nb seed q k n h x ≡ count_to h (nat_abs q) k x n
  unfolding heard_of followed_by
  heard_by_link h =
      ap (λ (r : Result SilkDecoderState Refusal). count_of h (places_on r (followed_by khz nb seed q k n x))) set_up-fresh
      ∙ counts h khz nb seed (nat_abs q) k x (replicate 320 (pos 0)) n 0 0 (fresh khz nb q) no_losses every-played (set_up-holds khz nb q (in_ranges khz nb q n e).3)
      ∙ all_of h (nat_abs q) k x n

pub all_played : AllPlayed
all_played khz nb seed q n k x e =
    let z = ap code_of e in
    (fresh khz nb q, set_up-fresh khz nb seed q n k x z, every-played khz nb seed q n k x z)
