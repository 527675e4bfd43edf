use Rattle.std.proofs.Common.{◌≡◌, ℕ, List, length, sym, subst, arith}
use Rattle.bool_diagrams.proofs.CallerLemmas.{keeps_same, keeps_twice}
use Rattle.bool_diagrams.specs.declared.diagram.Diagram.{Diagram}
use Rattle.termination_model.specs.grounds.Grounds.{Family}
use Rattle.truth_rows.proofs.CallerLemmas.{family_later, sets_later}
use Rattle.truth_rows.specs.Sets.{family_of}
use Rattle.solved_program.specs.Grounds.{AreGroundsTo, AreLeastTo}
use Rattle.solved_program.specs.Standing.{KeepValues, KeepValuesTo}
use Rattle.solved_program.proofs.GroundRows.{carried_later, grounds_begin, solved_later}
use Rattle.solved_program.proofs.grounds.resolve_each.Goals as goal

pub loop-c-init : goal.loop-c-init
loop-c-init g c =
    let s = c.args.sources.now in
    let truth = g.N.Norm.truth s.norm.now in
    record {
      keeps = keeps_same _;
      marks = c.requires.marks;
      found = subst (λ (xs : List Diagram). AreGroundsTo truth s.clauses.now.edit.now s.old.now s.carried.now 0 c.args.table.now xs c.args.stayed.now) (sym c.requires.sets)
          (grounds_begin truth s.clauses.now.edit.now s.old.now s.carried.now c.args.table.now c.args.stayed.now c.requires.sources.carried c.requires.stayed);
    }

pub resolve-requires-clause-sources : goal.resolve-requires-clause-sources
resolve-requires-clause-sources g c =
    let s = c.args.sources.now in
    let K = c.loop-c.invariant.keeps in
    record {
      clauses = c.requires.sources.clauses;
      heads = c.requires.sources.heads;
      users = c.requires.sources.users;
      old = sets_later s.clauses.now.edit.now.before.now.preds c.args.table.now c.loop-c.table K s.old.now c.requires.sources.old;
      carried = carried_later s.clauses.now.edit.now c.args.table.now c.loop-c.table K s.old.now s.carried.now c.requires.sources.carried;
    }

pub resolve-requires-clause-old : goal.resolve-requires-clause-old
resolve-requires-clause-old g c =
    let s = c.args.sources.now in
    solved_later (g.N.Norm.truth s.norm.now) s.clauses.now.edit.now.before.now s.clauses.now.edit.now.components_before.now c.args.table.now c.loop-c.table c.loop-c.invariant.keeps s.old.now c.requires.old

pub loop-c-preserved : goal.loop-c-preserved
loop-c-preserved g c =
    let a = c.in_ok-resolve.ensures in
    record { keeps = keeps_twice _ _ _ c.loop-c.invariant.keeps c.resolve.ensures.keeps; marks = a.marks; found = a.found }

pub returns-clause-solved : goal.returns-clause-solved
returns-clause-solved g c =
    let s = c.args.sources.now in
    let e = s.clauses.now.edit.now in
    let end : c.loop-c.c ≡ length e.components.now.members = omega (arith, c.count-c-end.ensures, c.loop-c-test.false, c.loop-c.auto.c-end) in
    record {
      sets_are = c.loop-c.invariant.found.sets_are;
      least = subst (λ (n : ℕ). AreLeastTo (g.N.Norm.truth s.norm.now) e.after.now e.components.now n (family_of e.after.now.preds c.loop-c.table c.loop-c.sets)) end c.loop-c.invariant.found.least;
    }

pub returns-clause-kept : goal.returns-clause-kept
returns-clause-kept g c =
    let s = c.args.sources.now in
    let e = s.clauses.now.edit.now in
    let end : c.loop-c.c ≡ length e.components.now.members = omega (arith, c.count-c-end.ensures, c.loop-c-test.false, c.loop-c.auto.c-end) in
    let now = family_of e.after.now.preds c.loop-c.table c.loop-c.sets in
    let same = family_later e.before.now.preds c.args.table.now c.loop-c.table c.loop-c.invariant.keeps s.old.now c.requires.sources.old.known in
    subst (λ (before : Family). KeepValues e before now) same
    (subst (λ (n : ℕ). KeepValuesTo e n (family_of e.before.now.preds c.loop-c.table s.old.now) now) end c.loop-c.invariant.found.stayed)
