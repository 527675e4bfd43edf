use Rattle.std.proofs.Common.{◌≡◌, ◌-◌, ◌<◌, ◌∙◌, ap, arith, get_or, length, None, Some, subst, sym}
use Rattle.std.specs.List.{AllByRecursion}
use Rattle.cti_terms.specs.declared.atom_list.Atom.{Atom}
use Rattle.cti_terms.specs.declared.clauses.Clause.{Clause}
use Rattle.termination_model.proofs.Lists.{there}
use Rattle.solved_program.specs.Comparing.{AreTheSameCalls}
use Rattle.solved_program.proofs.Comparisons.{atoms_below, clause_at}
use Rattle.solved_program.proofs.standing.Compared.is_same_clause.Goals as goal

pub are_same_calls-requires-clause-before : goal.are_same_calls-requires-clause-before
are_same_calls-requires-clause-before c =
    let preds = c.args.self.now.edit.now.before.now.preds in
    let k = c.clause-old.result.now in
    subst (AllByRecursion (λ (b : Atom). b.pred.0 < length preds)) (sym c.as_slice.ensures) (atoms_below preds k.vars k.body c.clause-old.ensures.sound.body)

pub are_same_calls-requires-clause-after : goal.are_same_calls-requires-clause-after
are_same_calls-requires-clause-after c =
    let preds = c.args.self.now.edit.now.after.now.preds in
    let k = c.clause-new.result.now in
    subst (AllByRecursion (λ (b : Atom). b.pred.0 < length preds)) (sym c.as_slice-2.ensures) (atoms_below preds k.vars k.body c.clause-new.ensures.sound.body)

pub returns-then-not-is_kept_as : goal.returns-then-not-is_kept_as
returns-then-not-is_kept_as c =
    let e = c.args.self.now.edit.now in
    let each = c.requires.compared.edit.kept.each in
    let first = c.requires.first in
    let last = c.requires.last in
    let first_before = c.requires.first_before in
    let last_before = c.requires.last_before in
    let at = there e.kept.now (c.args.after - 1) None (omega arith) in
    let old = clause_at e.before.now.clauses c.args.before first_before last_before in
    let new = clause_at e.after.now.clauses c.args.after first last in (
      λ is. cc,
      λ same.
          let kept_as = (same old.0 new.0 old.1 new.1).kept_as in
          let is : get_or e.kept.now (c.args.after - 1) None ≡ Some c.args.before = cc in
          let right = c.is_kept_as.ensures.1 is in
          let wrong = c.if-not-is_kept_as.true in
          cc,
    )

pub returns : goal.returns
returns c =
    let e = c.args.self.now.edit.now in
    let s = c.args.self.now in
    let x = c.clause-old.result.now in
    let y = c.clause-new.result.now in
    let bodies : AreTheSameCalls s c.as_slice.result.now c.as_slice-2.result.now ≡ AreTheSameCalls s x.body y.body = λ i. AreTheSameCalls s (c.as_slice.ensures i) (c.as_slice-2.ensures i) in
    let lt = (let each = c.requires.compared.edit.kept.each in let last = c.requires.last in let first = c.requires.first in let short : c.args.after - 1 < length e.kept.now = omega arith in short) in (
      λ is k l at there'.
          let old = c.clause-old.ensures.there in
          let new = c.clause-new.ensures.there in
          let same : x ≡ k = cc in
          let other : y ≡ l = cc in
          let calls : AreTheSameCalls s x.body y.body = subst (λ (t : Type 0). t) bodies (c.are_same_calls.ensures.0 is) in
          record {
            kept_as = there e.kept.now (c.args.after - 1) None lt ∙ ap Some (c.is_kept_as.ensures.0 c.if-not-is_kept_as.false);
            calls = subst (λ (z : Clause). AreTheSameCalls s k.body z.body) other (subst (λ (z : Clause). AreTheSameCalls s z.body y.body) same calls);
          },
      λ same.
          let calls = (same x y c.clause-old.ensures.there c.clause-new.ensures.there).calls in
          c.are_same_calls.ensures.1 (subst (λ (t : Type 0). t) (sym bodies) calls),
    )
