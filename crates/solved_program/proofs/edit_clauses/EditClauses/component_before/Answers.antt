use Rattle.std.proofs.Common.{◌≡◌, ◌<◌, ◌-◌, ◌∙◌, ℕ, ap, arith, get_or, length, None, rules, slice_get, Some}
use Rattle.termination_model.proofs.Lists.{there}
use Rattle.solved_program.proofs.Comparisons.{first_kept, first_place, head_below}
use Rattle.solved_program.proofs.edit_clauses.EditClauses.component_before.Goals as goal

pub clause-requires-clause-first : goal.clause-requires-clause-first
clause-requires-clause-first c =
    let e = c.args.self.now.edit.now in
    let some : 0 < length c.args.own.now = search rules in
    (first_kept e.before.now e.after.now e.kept.now c.requires.edit.kept c.args.own.now c.requires.own some c.in-Some.kept c.in-Some.is).0

pub clause-requires-clause-last : goal.clause-requires-clause-last
clause-requires-clause-last c =
    let e = c.args.self.now.edit.now in
    let some : 0 < length c.args.own.now = search rules in
    (first_kept e.before.now e.after.now e.kept.now c.requires.edit.kept c.args.own.now c.requires.own some c.in-Some.kept c.in-Some.is).1

pub of-requires : goal.of-requires
of-requires c =
    let lt = head_below c.args.self.now.edit.now.before.now.preds c.clause.result.now c.clause.ensures.sound in
    omega (arith, lt, c.requires.edit.components_before.each)

pub returns-in-Some-clause-kept : goal.returns-in-Some-clause-kept
returns-in-Some-clause-kept c =
    let e = c.args.self.now.edit.now in
    let own = c.args.own.now in
    let some : 0 < length own = search rules in
    let first = there own 0 0 some in
    record {
      number = get_or own 0 0;
      number_before = c.in-Some.kept;
      clause = c.clause.result.now;
      first = first;
      kept_as = there e.kept.now (get_or own 0 0 - 1) None (first_place e.before.now e.after.now e.kept.now c.requires.edit.kept own c.requires.own some) ∙ ap Some c.in-Some.is;
      at = c.clause.ensures.there;
      among = c.of.ensures;
    }

pub returns-in-None-clause-lost : goal.returns-in-None-clause-lost
returns-in-None-clause-lost c = λ none b h.
    let e = c.args.self.now.edit.now in
    let own = c.args.own.now in
    let some : 0 < length own = search rules in
    let first = there own 0 0 some in
    let first_too = h.first in
    let number : get_or own 0 0 ≡ h.number = cc in
    let at = there e.kept.now (get_or own 0 0 - 1) None (first_place e.before.now e.after.now e.kept.now c.requires.edit.kept own c.requires.own some) in
    let kept_as : slice_get e.kept.now (get_or own 0 0 - 1) ≡ Some (Some h.number_before) = ap (λ (n : ℕ). slice_get e.kept.now (n - 1)) number ∙ h.kept_as in
    let is = c.in-None.is in
    cc
