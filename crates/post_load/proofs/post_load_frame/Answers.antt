use mathlib.Core.Path.{◌≡◌, sym, ap, ◌∙◌}
use mathlib.Core.Bool.{false}
use lib.IntN.{ℤ}
use lib.ListN.{length}
use mir.Syntax.{w32}
use mir.Facts.{to_z-of_z}
use Rattle.word.proofs.Words.{got}
use Rattle.load.specs.Load.{before, load_refusal}
use Rattle.post_load.specs.Calls.{called, short_load, framed, coefficiented, pulsed}
use Rattle.post_load.proofs.Ends.{too_short, refused, accepted}
use Rattle.post_load.proofs.post_load_frame.Goals.{After-load_refusal-judged, Else-short_load, then-is_ok, else-is_ok}
use Rattle.post_load.proofs.post_load_frame.Goals as goal

-- the slices are long enough
enough : (c : Else-short_load) → let a = c.args in short_load (length a.frame.now) (length a.coefs.now) (length a.pulses.now) ≡ false
enough c = sym c.short_load.ensures ∙ c.if-short_load.false

-- the judgement that the code found
found : (c : After-load_refusal-judged) → let a = c.args in c.load_refusal-judged.result ≡ load_refusal a.rate a.subframes a.number
found c =
    c.load_refusal-judged.ensures ∙ λ i. load_refusal (to_z-of_z c.ranges.rate i) (to_z-of_z c.ranges.subframes i) c.args.number

pub returns-then-short_load : goal.returns-then-short_load
returns-then-short_load c =
    let a = c.args in
    too_short a.rate a.subframes a.seed a.number a.frame.now a.coefs.now a.pulses.now (sym c.short_load.ensures ∙ c.if-short_load.true)

pub put_load-requires : goal.put_load-requires
put_load-requires c = enough (goal.at.put_load-requires c).Else-short_load

pub returns : goal.returns
returns c =
    let a = c.args in
    let s = enough (goal.at.returns c).Else-short_load in
    let j = found (goal.at.returns c).After-load_refusal-judged in
    let n = got w32 c.code.type_inv c.code.ensures in
    let r = to_z-of_z c.ranges.rate in
    let m = to_z-of_z c.ranges.subframes in
    elim c.if-is_ok.branch [
      | then-is_ok w ↦
          let x = got w32 w.before-then-is_ok.type_inv w.before-then-is_ok.ensures ∙ ap (λ (z : ℤ). before z a.number) (to_z-of_z c.ranges.seed) in
          let f = w.frame-is ∙ w.put_load.ensures.0 ∙ λ i. framed (r i) (m i) (x i) a.frame.now in
          let k = w.coefs-is ∙ w.put_load.ensures.1 ∙ λ i. coefficiented (r i) (x i) a.coefs.now in
          let q = w.pulses-is ∙ w.put_load.ensures.2 ∙ λ i. pulsed (x i) a.pulses.now in
          (λ i. called (n i) (f i) (k i) (q i))
          ∙ accepted a.rate a.subframes a.seed a.number a.frame.now a.coefs.now a.pulses.now s _ j (sym c.is_ok.ensures.value ∙ w.if-is_ok.true)
      | else-is_ok w ↦
          (λ i. called (n i) (w.frame-is i) (w.coefs-is i) (w.pulses-is i))
          ∙ refused a.rate a.subframes a.seed a.number a.frame.now a.coefs.now a.pulses.now s _ j (sym c.is_ok.ensures.value ∙ w.if-is_ok.false)
    ]
