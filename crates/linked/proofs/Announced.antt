-- The filter from lines and that of a post's noise, in slices.
use Prim.Native.Nat.{ℕ, ◌≤◌, ◌<◌, zero-le}
use mathlib.Core.Path.{◌≡◌, sym, ap, ◌∙◌}
use mathlib.Core.Bool.{true}
use mathlib.Core.List.{List}
use native.Mathlib.Omega.{arith}
use lib.Dec.{le→leb}
use lib.IntN.{ℤ, pos, nat_abs}
use lib.ListN.{length, get_or, take, drop, length-take}
use lib.Seq.{get_or-take, length-take-le, take-take}
use lib.Signed.{◌≤ℤ◌}
use Rattle.word.specs.Int.{eq_ℤ}
use Rattle.word.proofs.Order.{eq_ℤ_refl}
use Rattle.word.proofs.Rows.{both}
use Rattle.edition.specs.Edition.{is_edition}
use Rattle.edition.proofs.Editions.{one_of_two}
use Rattle.std.specs.Prelude.{Ok}
use Rattle.refusal.specs.Refusals.{Judged, code_of}
use Rattle.nlsf.specs.Filter.{nlsf2a_refusal}
use Rattle.announcement.proofs.Taken.{any_order}
use Rattle.shape.specs.Shape.{is_rate, rate_of}
use Rattle.shape.proofs.Shapes.{rates, rate_kept, order_two, order_le, rate_le}
use Rattle.decoder.specs.Settings.{is_squelch, settings_fit}
use Rattle.decoder.proofs.Bounds.{Bounds, bounds}
use Rattle.cng.specs.Noise.{cng_ready}
use Rattle.cng.proofs.Lines.{ready_held}
use Rattle.cng.proofs.Kept.{ready_typed}
use Rattle.cng.proofs.Filters.{announced}
use Rattle.layout.specs.Layout.{one, state_in, cng_in, settings_in}
use Rattle.post_filters.specs.Calls.{filter_call}
use Rattle.linked.specs.Linked.{Held, state_of}
use Rattle.linked.specs.Claims.{FromAccepted}
use Rattle.linked.specs.Announced.{order_held, edition_held, noise_held, AnnouncedLinked, LinesSeen}
use Rattle.linked.proofs.Lists.{accepted-held}

natural : (z : ℤ) → z ≡ pos (nat_abs z) → pos 0 ≤ℤ z
natural z e = rw e (record { le = le→leb 0 (nat_abs z) zero-le })

-- as many as were taken are there
taken_le : (d : ℕ) (xs ys : List ℤ) → d ≤ length ys → take d xs ≡ take d ys → d ≤ length xs
taken_le d xs ys h e = omega (arith, sym (length-take d xs) ∙ ap length e ∙ length-take-le d ys h)

module _ (m : Held) (f : FromAccepted m) where
  abbrev r : ℕ
  r = rate_of (one m.words 338)

  held : Bounds r (state_of m)
  unfolding state_in
  held = bounds r (state_of m) f.accepted

  is-rate : is_rate (one m.words 338) ≡ true
  unfolding state_in
  is-rate = held.sizes.rate

  is-edition : is_edition (edition_held m) ≡ true
  unfolding state_in settings_in settings_fit
  is-edition = (both (is_squelch (one m.words 696)) (is_edition (one m.words 697)) held.settings).1

  long : length (noise_held m).cng_smth_nlsf_q15 ≡ 16
  long = (ready_typed r (state_of m).s_cng (rate_le (one m.words 338)) (order_le r) (accepted-held m f).good.typed.s_cng).cng_smth_nlsf_q15.count

  module _ (lines out : List ℤ) (room : order_held m ≤ length out) (same : take (order_held m) lines ≡ take (order_held m) (noise_held m).cng_smth_nlsf_q15) where
    line : (k : ℕ) → k < order_held m → get_or lines k (pos 0) ≡ get_or (noise_held m).cng_smth_nlsf_q15 k (pos 0)
    line k l =
        sym (get_or-take (order_held m) lines k (pos 0) l) ∙ ap (λ (xs : List ℤ). get_or xs k (pos 0)) same ∙ get_or-take (order_held m) (noise_held m).cng_smth_nlsf_q15 k (pos 0) l

    enough : order_held m ≤ length lines
    enough = taken_le (order_held m) lines (noise_held m).cng_smth_nlsf_q15 (omega (arith, long, order_le r)) same

    accepted : nlsf2a_refusal (length out) lines (order_held m) (edition_held m) ≡ Ok tt
    accepted =
        any_order (length out) lines (order_held m) (edition_held m) (order_two (rates (one m.words 338) is-rate)) room enough
        (λ k l. rw (line k l) (natural _ ((ready_held r (state_of m).s_cng held.cng).cng_smth_nlsf_q15 k l).is))
        (one_of_two (edition_held m) is-edition)

pub announced_linked : AnnouncedLinked
unfolding filter_call
announced_linked m lines out f room same =
    let a = accepted m f lines out room same in
    (ap (λ (j : Judged). pos (code_of j)) a, announced (edition_held m) (noise_held m) lines out (order_held m) same a)

pub lines_seen : LinesSeen
unfolding state_in cng_in cng_ready
lines_seen m f e =
    let k = rate_kept (one m.words 338) (is-rate m f) in
    let t : eq_ℤ (pos (rate_of (one m.words 338))) (one m.words 695) ≡ true = rw (e, ← k) (eq_ℤ_refl (one m.words 338)) in
    rw t (take-take (order_held m) 16 (drop 519 m.halves) (order_le (rate_of (one m.words 338))))
