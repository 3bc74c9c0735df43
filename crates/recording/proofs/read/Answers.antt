use mathlib.Core.Path.{◌≡◌, refl, sym, ap, ◌∙◌}
use mathlib.Core.Bool.{true, false, false≢true}
use mathlib.Core.List.{List}
use Rattle.std.specs.Prelude.{Option, Some, None, Result, Ok, Err, is_ok}
use Rattle.std.specs.Option.{ok_or}
use Prim.Native.Nat.{ℕ, ◌≤◌}
use mir.Syntax.{w32}
use mir.Val.{to_z, of_z}
use Rattle.word.proofs.Words.{kept}
use lib.ListN.{length, take}
use lib.Seq.{length-take-le}
use Rattle.refusal.specs.declared.Refusal.{Refusal}
use Rattle.refusal.specs.declared.Refusal.TheVariants.{Chain}
use Rattle.refusal.proofs.Clear.{at_err, answered_is}
use Rattle.chain.specs.declared.Route.{Route}
use Rattle.chain.specs.Chain.{route, route_of, is_whole, chain_of, is_broken, on_chain, padded}
use Rattle.chain.proofs.Records.{padded-front}
use Rattle.recording.specs.Frames.{rate_in, count_in, frames_in}
use Rattle.recording.specs.Reading.{read_refusal}
use Rattle.recording.proofs.Answers.{stops, passes, is_broken_lem, by_content, read-refused, read-accepted, enough, padded_60, few-frames, inside_chain}
use borrow.Author.Rules.{rules}
use Rattle.recording.proofs.read.Goals.{In_ok-route, After-content}
use Rattle.recording.proofs.read.Goals as goal

-- the chain, as the code has it
is-through : (x : Option (List ℕ)) (o : Route) → Ok o ≡ ok_or (route_of x) Chain → (is_broken x ≡ false) × (o ≡ route (on_chain x))
unfolding is_broken on_chain
is-through (Some ks) o e = (refl, sym (answered_is (Ok tt) (route ks) o (sym e)).1)
is-through None o e = absurd (false≢true (sym (ap is_ok e)))

row_in : Result Route Refusal → Refusal
row_in (Ok o) = Chain
row_in (Err r) = r

is-none : (x : Option (List ℕ)) (e : Refusal) → Err e ≡ ok_or (route_of x) Chain → (is_broken x ≡ true) × (Chain ≡ e)
unfolding is_broken row_in
is-none (Some ks) e h = absurd (false≢true (ap is_ok h))
is-none None e h = (refl, sym (ap row_in h))

-- what is on the chain
module _ (c : In_ok-route) where
  is-whole : is_whole (length c.args.bytes.now) ≡ true
  is-whole = passes c.args.bytes.now c.refuse_if.ensures c.is_whole.ensures c.in_ok-refuse_if.was

  through : (is_broken (chain_of c.args.bytes.now) ≡ false) × (c.in_ok-route.route ≡ route (on_chain (chain_of c.args.bytes.now)))
  through =
      is-through (chain_of c.args.bytes.now) c.in_ok-route.route
      (c.in_ok-route.ensures.value ∙ ap (λ (x : Option Route). ok_or x Chain) c.chain.ensures)

  frames_are : c.in_ok-route.route.frames ≡ length (on_chain (chain_of c.args.bytes.now))
  frames_are = ap (λ (x : Route). x.frames) through.1

  records-are : c.in_ok-route.route.records ≡ padded (on_chain (chain_of c.args.bytes.now))
  records-are = ap (λ (x : Route). x.records) through.1

  first-are : take c.in_ok-route.route.frames c.in_ok-route.route.records ≡ on_chain (chain_of c.args.bytes.now)
  first-are = (λ i. take (frames_are i) (records-are i)) ∙ padded-front (on_chain (chain_of c.args.bytes.now))

  enough-bytes : 1024 ≤ length c.args.bytes.now
  enough-bytes = enough c.args.bytes.now is-whole

  few : c.in_ok-route.route.frames ≤ length c.in_ok-route.route.records
  few = rw (frames_are, records-are, padded_60 c.args.bytes.now is-whole) (few-frames c.args.bytes.now is-whole)

-- the rows behind the chain
module _ (c : After-content) where
  rate_is : to_z w32 (of_z w32 c.from-rate.result) ≡ rate_in c.args.bytes.now
  rate_is = kept w32 c.from-rate.result c.from-rate.type_inv ∙ c.from-rate.ensures

  count_is : to_z w32 (of_z w32 c.from-subframes.result) ≡ count_in c.args.bytes.now
  count_is = kept w32 c.from-subframes.result c.from-subframes.type_inv ∙ c.from-subframes.ensures

  content-is : read_refusal c.args.bytes.now ≡ c.content.result
  unfolding frames_in
  content-is =
      let k = (goal.at.After-content c).In_ok-route in
      by_content c.args.bytes.now (is-whole k) (through k).0 ∙ sym (c.content.ensures ∙ rw (first-are k, rate_is, count_is))

pub returns-in_err-refuse_if : goal.returns-in_err-refuse_if
returns-in_err-refuse_if c =
    at_err _ _ c.from_residual.ensures.1 ∙ read-refused c.args.bytes.now (stops c.args.bytes.now c.refuse_if.ensures c.is_whole.ensures c.in_err-refuse_if.was)

pub chain-requires : goal.chain-requires
chain-requires c = passes c.args.bytes.now c.refuse_if.ensures c.is_whole.ensures c.in_ok-refuse_if.was

pub returns-in_err-route : goal.returns-in_err-route
returns-in_err-route c =
    let b = c.args.bytes.now in
    let n = is-none (chain_of b) _ (c.in_err-route.ensures.value ∙ ap (λ (x : Option Route). ok_or x Chain) c.chain.ensures) in
    at_err _ _ c.from_residual-in_err-route.ensures.1
    ∙ read-refused b (is_broken_lem b (passes b c.refuse_if.ensures c.is_whole.ensures c.in_ok-refuse_if.was) n.0 ∙ ap Err n.1)

pub bounds-bytes-6 : goal.bounds-bytes-6
bounds-bytes-6 c = let h = enough-bytes (goal.at.bounds-bytes-6 c).In_ok-route in search rules

pub bounds-bytes-7 : goal.bounds-bytes-7
bounds-bytes-7 c = let h = enough-bytes (goal.at.bounds-bytes-7 c).In_ok-route in search rules

pub slice_bounds-records-end : goal.slice_bounds-records-end
slice_bounds-records-end c = few (goal.at.slice_bounds-records-end c).In_ok-route

pub slice_bounds-along-end : goal.slice_bounds-along-end
slice_bounds-along-end c =
    sym (length-take-le c.in_ok-route.route.frames c.in_ok-route.route.records (few (goal.at.slice_bounds-along-end c).In_ok-route))

pub invariant_of-along : goal.invariant_of-along
invariant_of-along c =
    let k = (goal.at.invariant_of-along c).In_ok-route in
    record { inside = rw (first-are k) (inside_chain c.args.bytes.now (is-whole k)) }

pub returns-in_err-content : goal.returns-in_err-content
returns-in_err-content c =
    at_err _ _ c.from_residual-in_err-content.ensures.1
    ∙ read-refused c.args.bytes.now (content-is (goal.at.returns-in_err-content c).After-content ∙ c.in_err-content.was)

pub returns : goal.returns
returns c =
    let k = (goal.at.returns c).After-content in
    let o = (goal.at.returns c).In_ok-route in
    (λ i. Ok (record { rate = rate_is k i; subframes = count_is k i; frames = frames_are o i; records = records-are o i }))
    ∙ read-accepted c.args.bytes.now (content-is k ∙ c.in_ok-content.was)
