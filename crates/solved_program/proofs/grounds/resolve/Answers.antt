use Rattle.std.proofs.Common.{refl}
use Rattle.bool_diagrams.proofs.CallerLemmas.{keeps_same}
use Rattle.solved_program.proofs.GroundRows.{carried_later, ground_carried, ground_solved}
use Rattle.solved_program.proofs.grounds.resolve.Goals as goal

pub standing-requires-clause-clauses : goal.standing-requires-clause-clauses
standing-requires-clause-clauses g c = c.requires.sources.clauses

pub standing-requires-clause-each : goal.standing-requires-clause-each
standing-requires-clause-each g c = c.requires.found.marked.each

pub mark_all-requires-clause-edit : goal.mark_all-requires-clause-edit
mark_all-requires-clause-edit g c = c.requires.sources.clauses.edit

pub mark_all-requires-clause-each : goal.mark_all-requires-clause-each
mark_all-requires-clause-each g c = c.requires.found.marked.each

pub returns-in-Some-clause-keeps : goal.returns-in-Some-clause-keeps
returns-in-Some-clause-keeps g c = keeps_same _

pub returns-in-Some-clause-found : goal.returns-in-Some-clause-found
returns-in-Some-clause-found g c =
    let s = c.args.sources.now in
    ground_carried (g.N.Norm.truth s.norm.now) s.clauses.now.edit.now c.clauses-before.ensures.sound c.clauses-after.ensures.sound c.requires.sources.clauses.edit s.old.now s.carried.now c.args.c c.args.table.now c.args.sets.now c.args.stayed.now c.mark_all.new.stayed
    c.requires.sources.old c.requires.sources.carried c.requires.found c.requires.old _ c.in-Some.ensures.below c.in-Some.ensures.stands c.mark_all.ensures

pub solve_component-requires-clause-setting : goal.solve_component-requires-clause-setting
solve_component-requires-clause-setting g c = record { program = c.clauses-after.ensures.sound; components = c.requires.sources.clauses.edit.components; heads = c.requires.sources.heads; users = c.requires.sources.users }

pub solve_component-requires-clause-sets : goal.solve_component-requires-clause-sets
solve_component-requires-clause-sets g c = c.requires.found.sets_are

pub mark_same_sets-requires-clause-edit : goal.mark_same_sets-requires-clause-edit
mark_same_sets-requires-clause-edit g c = c.requires.sources.clauses.edit

pub mark_same_sets-requires-clause-before : goal.mark_same_sets-requires-clause-before
mark_same_sets-requires-clause-before g c =
    let s = c.args.sources.now in
    (carried_later s.clauses.now.edit.now c.args.table.now c.solve_component.new.table c.solve_component.ensures.keeps s.old.now s.carried.now c.requires.sources.carried).sets_are

pub mark_same_sets-requires-clause-each : goal.mark_same_sets-requires-clause-each
mark_same_sets-requires-clause-each g c = c.requires.found.marked.each

pub returns-in_ok-solve_component-in-None-clause-found : goal.returns-in_ok-solve_component-in-None-clause-found
returns-in_ok-solve_component-in-None-clause-found g c =
    let s = c.args.sources.now in
    let a = c.in_ok-solve_component-in-None.ensures in
    ground_solved (g.N.Norm.truth s.norm.now) s.clauses.now.edit.now c.clauses-before.ensures.sound c.clauses-after.ensures.sound c.requires.sources.clauses.edit s.old.now s.carried.now c.args.c c.args.table.now c.args.sets.now c.args.stayed.now c.mark_same_sets.new.stayed
    c.requires.sources.old c.requires.sources.carried c.requires.found c.solve_component.new.table c.solve_component.ensures.keeps c.solve_component.new.sets a.sets a.others a.least (λ b h. c.in-None.ensures.none refl b h) c.mark_same_sets.ensures
