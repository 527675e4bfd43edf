use Rattle.std.proofs.Common.{◌≡◌, ◌<◌, ℕ, length, slice_get, get_or, Some, ap, sym, refl, ◌∙◌, inl, inr, arith}
use Rattle.std.proofs.lemmas.Bool.{cases_lt}
use Rattle.std.proofs.lemmas.List.{length-map}
use Rattle.std.proofs.lemmas.Option.{slice_get-get_or, slice_get_within, get_or_from_slice_get}
use Rattle.call_components.specs.Numbers.{number_of}
use Rattle.call_components.proofs.Lists.{all_at, number_at_place}
use Rattle.call_components.proofs.recursion.has_number.Goals as goal

pub bounds-of-pred : goal.bounds-of-pred
bounds-of-pred c =
    let items = c.as_slice-pred-items.result.now in
    all_at (λ b. b < length c.args.of.now) c.args.row.now c.loop-pred.pred-index _ c.requires (number_at_place items c.args.row.now c.loop-pred.pred-index (record { 0 = 0 }) c.as_slice-pred-items.ensures c.loop-pred-test.true)

pub returns-then-of-pred : goal.returns-then-of-pred
returns-then-of-pred c =
    let items = c.as_slice-pred-items.result.now in
    let at = number_at_place items c.args.row.now c.loop-pred.pred-index (record { 0 = 0 }) c.as_slice-pred-items.ensures c.loop-pred-test.true in
    let b = (get_or items c.loop-pred.pred-index (record { 0 = 0 })).0 in
    let within = all_at (λ b. b < length c.args.of.now) c.args.row.now c.loop-pred.pred-index _ c.requires at in
    (λ _. (b, (c.loop-pred.pred-index, at), slice_get-get_or c.args.of.now b 0 within ∙ ap Some c.if-of-pred.true), λ _. refl)

pub loop-pred-preserved : goal.loop-pred-preserved
loop-pred-preserved c = λ k b l e n.
    elim (cases_lt k c.loop-pred.pred-index) [
      | inl less ↦ c.loop-pred.invariant k b less e n
      | inr more ↦
          let items = c.as_slice-pred-items.result.now in
          let here : k ≡ c.loop-pred.pred-index = omega arith in
          let at = number_at_place items c.args.row.now c.loop-pred.pred-index (record { 0 = 0 }) c.as_slice-pred-items.ensures c.loop-pred-test.true in
          let it : b ≡ (get_or items c.loop-pred.pred-index (record { 0 = 0 })).0 = (let both = sym e ∙ ap (slice_get c.args.row.now) here ∙ at in cc) in
          c.if-of-pred.false (ap (λ (x : ℕ). get_or c.args.of.now x 0) (sym it) ∙ get_or_from_slice_get c.args.of.now b c.args.number 0 n)
    ]

pub returns : goal.returns
returns c =
    let items = c.as_slice-pred-items.result.now in
    let same : length items ≡ length c.args.row.now = sym (length-map items number_of) ∙ ap length c.as_slice-pred-items.ensures in
    (λ f. cc, λ h. absurd (c.loop-pred.invariant h.1.0 h.0 (let within : h.1.0 < length c.args.row.now = slice_get_within c.args.row.now h.1.0 h.0 h.1.1 in omega arith) h.1.1 h.2))
