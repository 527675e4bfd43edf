use Rattle.std.proofs.Common.{◌≡◌, ◌<◌, ◌++◌, ◌∷◌, [], inl, inr, List, length, get_or, slice_get, slice_index_or, slice_set, Some, ap, sym, subst, ◌∙◌, arith}
use Rattle.std.proofs.lemmas.Bool.{cases_eq}
use Rattle.bool_diagrams.specs.declared.diagram.Diagram.{Diagram}
use Rattle.cti_terms.specs.declared.predicates.PredId.{PredId}
use Rattle.precond_fixpoint.specs.Solving.{IsColumn}
use Rattle.precond_fixpoint.proofs.FamilyLaws.{column_longer}
use Rattle.truth_rows.proofs.ListLaws.{set_elsewhere, set_there}
use Rattle.termination_model.proofs.Lists.{one_element, place_below, there}
use Rattle.truth_rows.proofs.SetLaws.{none}
use Rattle.precond_fixpoint.proofs.families.push_sets.Goals as goal

pub loop-place-preserved : goal.loop-place-preserved
loop-place-preserved c =
    let n = c.loop-place.place in
    let i = c.loop-place.invariant in
    let a : PredId = get_or c.args.members.now n (record { 0 = 0 }) in
    let sets = c.args.sets.now in
    let columns = c.loop-place.columns in
    let at = there c.args.members.now n (record { 0 = 0 }) c.loop-place-test.true in
    let lt : n < length columns = omega (arith, i.each, c.requires.each, place_below c.args.members.now n a at) in
    let d = slice_index_or sets a.0 none in
    let own = slice_index_or columns n [] in
    let is = c.in_ok-push_at.ensures.pushed in
    record {
      each = c.push_at.ensures.each ∙ i.each;
      done = λ families are j q mine less e f. elim (cases_eq j n) [
        | inl same ↦
            let e' : slice_get c.args.members.now n ≡ Some q = ap (slice_get c.args.members.now) (sym same) ∙ e in
            let member = one_element c.args.members.now n a q at e' in
            let f' : slice_get (slice_set columns n (own ++ d ∷ [])) n ≡ Some mine = ap (slice_get (slice_set columns n (own ++ d ∷ []))) (sym same) ∙ ap (λ (cs : List (List Diagram)). slice_get cs j) (sym is) ∙ f in
            let last = one_element (slice_set columns n (own ++ d ∷ [])) n (own ++ d ∷ []) mine (set_there columns n (own ++ d ∷ []) lt) f' in
            let before = are n a own at (sym (i.rest n (omega arith)) ∙ there columns n [] lt) in
            subst (λ (x : PredId). IsColumn (families ++ sets ∷ []) x.0 mine) member
            (subst (IsColumn (families ++ sets ∷ []) a.0) last (column_longer a.0 sets d (there sets a.0 none (c.requires.there n a at)) families own before))
        | inr other ↦
            i.done families are j q mine (omega arith) e (sym (set_elsewhere columns n j (own ++ d ∷ []) other) ∙ ap (λ (cs : List (List Diagram)). slice_get cs j) (sym is) ∙ f)
      ];
      rest = λ j le. ap (λ (cs : List (List Diagram)). slice_get cs j) is ∙ set_elsewhere columns n j (own ++ d ∷ []) (λ same. omega arith) ∙ i.rest j (omega arith);
    }

pub returns-clause-pushed : goal.returns-clause-pushed
returns-clause-pushed c = λ families are j a own at e.
    c.loop-place.invariant.done families are j a own (omega (arith, place_below c.args.members.now j a at, c.loop-place-test.false)) at e
