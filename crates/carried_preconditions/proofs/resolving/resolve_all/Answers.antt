use Rattle.std.proofs.Common.{List, length, sym, subst}
use Rattle.bool_diagrams.specs.declared.diagram.Diagram.{Diagram}
use Rattle.carried_preconditions.specs.Solved.{KeepSetsTo}
use Rattle.carried_preconditions.proofs.Renewed.{kept_first}
use Rattle.carried_preconditions.proofs.resolving.resolve_all.Goals as goal

pub returns-clause-kept : goal.returns-clause-kept
returns-clause-kept g c =
    let s = c.args.sources.now in
    let e = s.clauses.now.edit.now in
    let n = length e.components.now.members in
    let T2 = c.resolve_each.new.table in
    let new = c.resolve_each.new.progress in
    let solved = c.into_solved.result in
    let kept = c.in_ok-resolve_each.ensures.found.solved.kept in
    kept_first (g.N.Norm.truth s.norm.now) s c.args.table.now T2 c.resolve_each.ensures.keeps c.requires.sources c.requires.old n solved.sets solved.allowed
    (subst (λ (sets : List (List Diagram)). KeepSetsTo e n T2 T2 s.before.now s.inputs.now sets solved.allowed) (sym c.into_solved.ensures.sets)
    (subst (λ (allowed : List Diagram). KeepSetsTo e n T2 T2 s.before.now s.inputs.now new.sets.items allowed) (sym c.into_solved.ensures.allowed) kept))
