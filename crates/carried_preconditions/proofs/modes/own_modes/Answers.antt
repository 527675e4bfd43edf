use Rattle.std.proofs.Common.{◌≤◌, List, arith, subst, sym, ◌∙◌}
use Rattle.cti_terms.specs.declared.predicates.Pred.{Pred}
use Rattle.precond_fixpoint.specs.declared.mode.Mode.{Mode}
use Rattle.precond_fixpoint.proofs.FamilyLaws.{has_arity}
use Rattle.termination_model.proofs.Lists.{at_place, by_places, place_below, there}
use Rattle.truth_rows.proofs.SetLaws.{none}
use Rattle.truth_rows.specs.Sets.{family_of}
use Rattle.solved_program.proofs.CarriedRows.{if_ok_is}
use Rattle.carried_preconditions.specs.Modes.{AreModesOf}
use Rattle.carried_preconditions.proofs.ModeLaws.{modes_found, modes_kept}
use Rattle.carried_preconditions.proofs.modes.own_modes.Goals as goal

pub minimal_modes-requires-clause-reads : goal.minimal_modes-requires-clause-reads
minimal_modes-requires-clause-reads c =
    let preds = c.args.edit.now.after.now.preds in
    let x = c.pred-own.result.now in
    c.requires.allowed.reads c.args.pred.0 x.arity _ (there c.args.allowed.now c.args.pred.0 none (omega (arith, c.requires.pred, c.requires.allowed.each))) (has_arity preds c.args.pred.0 x c.pred-own.ensures)

pub minimal_modes-requires-in-None-clause-known : goal.minimal_modes-requires-in-None-clause-known
minimal_modes-requires-in-None-clause-known c = c.requires.allowed.known c.args.pred.0 _ (there c.args.allowed.now c.args.pred.0 none (omega (arith, c.requires.pred, c.requires.allowed.each)))

pub minimal_modes-requires-in-None-clause-reads : goal.minimal_modes-requires-in-None-clause-reads
minimal_modes-requires-in-None-clause-reads c =
    let preds = c.args.edit.now.after.now.preds in
    let x = c.pred-own.result.now in
    c.requires.allowed.reads c.args.pred.0 x.arity _ (there c.args.allowed.now c.args.pred.0 none (omega (arith, c.requires.pred, c.requires.allowed.each))) (has_arity preds c.args.pred.0 x c.pred-own.ensures)

pub minimal_modes-requires-in-None-clause-narrow : goal.minimal_modes-requires-in-None-clause-narrow
minimal_modes-requires-in-None-clause-narrow c = by_places (λ (x : Pred). x.arity ≤ 12) c.args.edit.now.after.now.preds c.preds-after.ensures.sound.arities c.args.pred.0 c.pred-own.result.now c.pred-own.ensures

pub returns-then-same : goal.returns-then-same
returns-then-same c =
    let e = c.args.edit.now in
    let T = c.args.table.now in
    let r = c.args.pred.0 in
    let q = c.in-Some.old.0 in
    let x = c.pred-own.result.now in
    let before = c.args.before.now in
    let preds = e.after.now.preds in
    let below = place_below e.before.now.preds q x c.in-Some.ensures.found in
    let sets = c.requires.before.sets_are in
    let modes = c.requires.before.modes_are in
    let own = c.index-before-there.result in
    let at = at_place before.modes.now q own (omega (arith, below, modes.each)) c.index-before-there.is in
    let kept : AreModesOf preds (family_of preds T c.args.allowed.now) r own =
    modes_kept e.before.now.preds preds T before.allowed.now c.args.allowed.now sets c.requires.allowed q r x c.in-Some.ensures.found c.pred-own.ensures _ _
    (there before.allowed.now q none (omega (arith, below, sets.each))) (there c.args.allowed.now r none (omega (arith, c.requires.pred, c.requires.allowed.each))) (c.same.ensures.rows.0 c.if-same.true) before.modes.now own at modes in
    if_ok_is c.copied_modes.result _ _ (λ v is. subst (λ (xs : List Mode). AreModesOf preds (family_of preds T c.args.allowed.now) r xs) (sym (is ∙ c.as_slice.ensures ∙ sym c.index-before-there.is)) kept) c.copied_modes.ensures

pub returns-else-same : goal.returns-else-same
returns-else-same c =
    let preds = c.args.edit.now.after.now.preds in
    let r = c.args.pred.0 in
    let mine = there c.args.allowed.now r none (omega (arith, c.requires.pred, c.requires.allowed.each)) in
    if_ok_is c.minimal_modes.result _ _ (λ v found. modes_found preds c.args.table.now c.args.allowed.now r c.pred-own.result.now c.pred-own.ensures _ mine v found) c.minimal_modes.ensures

pub returns-in-None : goal.returns-in-None
returns-in-None c =
    let preds = c.args.edit.now.after.now.preds in
    let r = c.args.pred.0 in
    let mine = there c.args.allowed.now r none (omega (arith, c.requires.pred, c.requires.allowed.each)) in
    if_ok_is c.minimal_modes-in-None.result _ _ (λ v found. modes_found preds c.args.table.now c.args.allowed.now r c.pred-own.result.now c.pred-own.ensures _ mine v found) c.minimal_modes-in-None.ensures
