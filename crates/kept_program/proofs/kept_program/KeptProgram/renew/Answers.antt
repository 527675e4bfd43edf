use Rattle.std.proofs.Common.{◌∙◌, List, Vec, Global, refl, subst, sym}
use Rattle.bool_diagrams.specs.Tree.{Tree as Rows}
use Rattle.bool_diagrams.specs.declared.diagram.Diagram.{Diagram}
use Rattle.carried_preconditions.specs.declared.preconditions.SolvedPreconditions.{SolvedPreconditions}
use Rattle.kept_program.specs.Kept.{AreSetsOf, parts_of}
use Rattle.kept_program.proofs.Families.{lists_of}
use Rattle.kept_program.proofs.KeptLaws.{parts_moved, sets_moved}
use Rattle.kept_program.proofs.kept_program.KeptProgram.renew.Goals as goal

pub renew_sets-requires-clause-lists : goal.renew_sets-requires-clause-lists
renew_sets-requires-clause-lists c =
    let s = c.self.inside in
    lists_of s.program.preds s.table s.kept.sets.preconditions.sets c.self.invariant.kept.sets.mapping_sets

pub invariant_of-self : goal.invariant_of-self
invariant_of-self c =
    let s = c.self.inside in
    let p = s.program in
    let comps = s.components in
    let levels = s.kept.numbers.levels in
    let old = s.kept.sets in
    let new = c.in-Ok.new in
    let r = c.into_parts-table.result in
    let e = c.into_parts-table.ensures in
    let is = c.in-Ok.ensures in
    let moved = sets_moved p comps levels s.table new.table old.grounds.items new.grounds.items old.preconditions new.preconditions old.modes c.self.invariant.kept.sets is.grounds is.preconditions in
    record {
      components = c.self.invariant.components;
      kept = record {
        numbers = c.self.invariant.kept.numbers;
        sets = subst (λ (t : List Rows). AreSetsOf p comps levels t r.1.items r.2 old.modes) (sym e.0)
            (subst (λ (g : Vec Diagram Global). AreSetsOf p comps levels new.table g.items r.2 old.modes) (sym e.1)
            (subst (λ (x : SolvedPreconditions). AreSetsOf p comps levels new.table new.grounds.items x old.modes) (sym e.2) moved));
      };
    }

pub returns-in-Ok : goal.returns-in-Ok
returns-in-Ok c =
    let s = c.self.inside in
    let p = s.program in
    let comps = s.components in
    let n = s.kept.numbers in
    let old = s.kept.sets in
    let new = c.in-Ok.new in
    let e = c.into_parts-table.ensures in
    let is = c.in-Ok.ensures in
    (λ i. parts_of p comps (e.0 i) (record { numbers = n; sets = record { grounds = e.1 i; preconditions = e.2 i; modes = old.modes } }))
    ∙ parts_moved p comps n.levels s.table new.table old.grounds.items new.grounds.items old.preconditions new.preconditions old.modes c.self.invariant.kept.sets is.grounds is.preconditions n old
    (record { grounds = new.grounds; preconditions = new.preconditions; modes = old.modes }) refl refl refl refl refl refl
    ∙ c.self.view_is
