use Rattle.std.proofs.Common.{◌≡◌, ◌<◌, List, get_or, length, slice_get, Some, sym, subst, ◌∙◌, arith}
use Rattle.std.proofs.lemmas.List.{length-set}
use Rattle.bool_diagrams.proofs.CallerLemmas.{keeps_twice}
use Rattle.bool_diagrams.specs.declared.diagram.Diagram.{Diagram}
use Rattle.cti_terms.specs.declared.predicates.PredId.{PredId}
use Rattle.precond_fixpoint.specs.Solving.{IsColumn}
use Rattle.precond_fixpoint.proofs.FamilyLaws.{columns_more, fit_later}
use Rattle.termination_model.proofs.Lists.{place_below, there}
use Rattle.truth_rows.proofs.ListLaws.{set_elsewhere}
use Rattle.precond_fixpoint.proofs.columns.put_members.Goals as goal

pub put_member-requires-clause-there : goal.put_member-requires-clause-there
put_member-requires-clause-there c =
    let n = c.loop-place.place in
    c.requires.there n _ (there c.args.members.now n (record { 0 = 0 }) c.loop-place-test.true)

pub put_member-requires-clause-fit : goal.put_member-requires-clause-fit
put_member-requires-clause-fit c =
    let n = c.loop-place.place in
    let i = c.loop-place.invariant in
    let columns = c.loop-place.columns in
    let a : PredId = get_or c.args.members.now n (record { 0 = 0 }) in
    let at = there c.args.members.now n (record { 0 = 0 }) c.loop-place-test.true in
    let lt : n < length columns = omega (arith, c.loop-place-test.true, c.requires.each, i.each) in
    let own : List Diagram = get_or columns n c.index-columns-place.result in
    let column : slice_get c.args.columns.now n ≡ Some own = sym (i.rest n (omega arith)) ∙ there columns n c.index-columns-place.result lt in
    fit_later c.args.p.now.preds c.args.table.now c.loop-place.table i.keeps a.0 own (c.requires.fit n a own at column)

pub loop-place-preserved : goal.loop-place-preserved
loop-place-preserved c =
    let n = c.loop-place.place in
    let i = c.loop-place.invariant in
    let e = c.in_ok-put_member.ensures in
    let columns = c.loop-place.columns in
    let a : PredId = get_or c.args.members.now n (record { 0 = 0 }) in
    let at = there c.args.members.now n (record { 0 = 0 }) c.loop-place-test.true in
    let lt : n < length columns = omega (arith, c.loop-place-test.true, c.requires.each, i.each) in
    let own : List Diagram = get_or columns n c.index-columns-place.result in
    let column : slice_get c.args.columns.now n ≡ Some own = sym (i.rest n (omega arith)) ∙ there columns n c.index-columns-place.result lt in
    record {
      keeps = keeps_twice _ _ _ i.keeps c.put_member.ensures.keeps;
      sets = e.sets;
      allowed = e.allowed;
      own = λ families are. columns_more families c.args.members.now n a at c.loop-place.sets c.put_member.new.sets e.others
          (subst (IsColumn families a.0) (sym e.own) (are n a own at column))
          (i.own families are);
      each = length-set columns n c.put_member.new.column ∙ i.each;
      rest = λ j le. set_elsewhere columns n j c.put_member.new.column (λ same. omega arith) ∙ i.rest j (omega arith);
      others = λ q none. e.others q (none n a at) ∙ i.others q none;
    }

pub returns-clause-own : goal.returns-clause-own
returns-clause-own c = λ families are j q at. c.loop-place.invariant.own families are j q (omega (arith, place_below c.args.members.now j q at, c.loop-place-test.false)) at
