use Rattle.std.proofs.Common.{◌≡◌, ◌∙◌, ◌<◌, ℕ, Some, false, map, slice_get, inl, inr, sym, ap, subst, arith}
use Rattle.std.proofs.lemmas.Bool.{cases_eq}
use Rattle.std.proofs.lemmas.List.{length-map}
use Rattle.cti_terms.specs.Spell.{tree_of}
use Rattle.cti_terms.specs.Tree.{Tree}
use Rattle.termination_model.proofs.Lists.{at_place, mapped_place, place_below}
use Rattle.number_columns.specs.Numeric.{is_evaluated}
use Rattle.number_columns.proofs.numeric.has_evaluated.Goals as goal

pub loop-t-preserved : goal.loop-t-preserved
loop-t-preserved c = λ k term lt there.
    let i = c.loop-t.t-index in
    let t = tree_of c.t-item.result in
    let at : slice_get (map tree_of c.args.args.now) i ≡ Some t = mapped_place tree_of c.args.args.now i c.t-item.result (at_place c.args.args.now i c.t-item.result c.loop-t-test.true c.t-item.is) in
    let no : is_evaluated c.args.arith c.args.variable t ≡ false = sym c.is_evaluated.ensures ∙ c.if-is_evaluated.false in
    elim (cases_eq k i) [
      | inl same ↦ (
          let is : t ≡ term = (let e : Some t ≡ Some term = sym at ∙ ap (slice_get (map tree_of c.args.args.now)) (sym same) ∙ there in cc) in
          subst (λ (u : Tree). is_evaluated c.args.arith c.args.variable u ≡ false) is no
          )
      | inr ne ↦ c.loop-t.invariant k term (omega (arith, lt, ne)) there
    ]

pub returns-clause-none : goal.returns-clause-none
returns-clause-none c = λ same k term there. c.loop-t.invariant k term (omega (arith, place_below (map tree_of c.args.args.now) k term there, length-map c.args.args.now tree_of)) there
