use Rattle.std.proofs.Common.{[], ap, arith, refl, slice_index_or, subst, sym}
use Rattle.termination_model.specs.declared.sizes.Sizes.{Sizes}
use Rattle.termination_model.specs.sizes.Sizes.{rows_of}
use Rattle.termination_model.proofs.Lists.{there}
use Rattle.solved_program.specs.Resolving.{IsDone}
use Rattle.solved_program.proofs.Above.{progress_more}
use Rattle.solved_program.proofs.Anew.{one_resolved, rows_kept}
use Rattle.solved_program.proofs.Marks.{stands_by_mark, stands_by_value}
use Rattle.solved_program.proofs.Resolved.{one_carried, some_own}
use Rattle.solved_program.proofs.resolving.Sources.resolve.Goals as goal

pub standing-requires-clause-each : goal.standing-requires-clause-each
standing-requires-clause-each g c = c.requires.progress.resolved.marked.each

pub carry-requires-clause-before : goal.carry-requires-clause-before
carry-requires-clause-before g c = omega (arith, c.requires.sources.each, c.in-Some.ensures.below)

pub carry-requires-clause-some : goal.carry-requires-clause-some
carry-requires-clause-some g c = λ own at.
    some_own c.args.self.now.edit.now.after.now c.args.self.now.edit.now.components.now c.args.c own (c.requires.sources.own.clauses c.args.c own at) c.in-Some.ensures.stands.some

pub carry-requires-clause-rows : goal.carry-requires-clause-rows
carry-requires-clause-rows g c = c.requires.progress.resolved.solved.rows

pub mark_all-requires-clause-edit : goal.mark_all-requires-clause-edit
mark_all-requires-clause-edit g c = c.requires.sources.edit

pub mark_all-requires-clause-each : goal.mark_all-requires-clause-each
mark_all-requires-clause-each g c = c.requires.progress.resolved.marked.each

pub returns-in_ok-carry-in-Some : goal.returns-in_ok-carry-in-Some
returns-in_ok-carry-in-Some g c =
    let s = c.args.self.now in
    let before = c.args.progress.now in
    let marks = c.args.stayed.now in
    let steps = slice_index_or s.old.now.steps c.in-Some.before [] in
    let own = slice_index_or s.own.now c.args.c [] in
    let at_steps = there s.old.now.steps c.in-Some.before [] (omega (arith, c.requires.sources.each, c.in-Some.ensures.below)) in
    let at_own = there s.own.now c.args.c [] (omega (arith, c.requires.sources.own.each, c.requires.inner)) in
    let stands = stands_by_value s.edit.now c.clauses-before.ensures.sound c.clauses-after.ensures.sound c.requires.sources.edit c.args.c (rows_of s.old.now.sizes.rows) (rows_of before.solved.sizes.rows) marks c.requires.progress.resolved.marked c.in-Some.before
    c.in-Some.ensures.stands in
    let carried = c.in_ok-carry-in-Some.ensures.carried steps own at_steps at_own in
    let resolved = one_carried g.D.Domain.speaks (g.N.Norm.expression c.args.norm.now) s c.requires.sources c.clauses-before.ensures.sound c.clauses-after.ensures.sound c.requires.old c.args.c before.solved c.carry.new.progress.solved marks c.mark_all.new.stayed
    c.requires.progress.resolved c.in-Some.before stands steps at_steps own at_own carried c.mark_all.ensures in
    progress_more g.D.Domain.width g.D.Domain.listed s g.D.Domain.speaks (g.N.Norm.expression c.args.norm.now) c.args.c before marks c.requires.progress c.carry.new.progress c.mark_all.new.stayed resolved
    (subst (λ (x : Sizes). IsDone g.D.Domain.width g.D.Domain.listed s c.args.c x.rows before.state c.carry.new.progress.state) (sym carried.sizes) c.in_ok-carry-in-Some.ensures.done)
    (λ q never. ap (λ x. rows_of x.rows q) carried.sizes)

pub returns-in_ok-solve_anew-in-None : goal.returns-in_ok-solve_anew-in-None
returns-in_ok-solve_anew-in-None g c =
    let s = c.args.self.now in
    let before = c.args.progress.now in
    let marks = c.args.stayed.now in
    let members = slice_index_or s.edit.now.components.now.members c.args.c [] in
    let own = slice_index_or s.own.now c.args.c [] in
    let at_members = there s.edit.now.components.now.members c.args.c [] c.requires.inner in
    let at_own = there s.own.now c.args.c [] (omega (arith, c.requires.sources.own.each, c.requires.inner)) in
    let solved = c.in_ok-solve_anew-in-None.ensures.solved members own at_members at_own in
    progress_more g.D.Domain.width g.D.Domain.listed s g.D.Domain.speaks (g.N.Norm.expression c.args.norm.now) c.args.c before marks c.requires.progress c.solve_anew.new.progress c.solve_anew.new.stayed
    (one_resolved g.D.Domain.speaks (g.N.Norm.expression c.args.norm.now) s c.requires.sources c.clauses-after.ensures.sound c.args.c members own at_own before.solved c.solve_anew.new.progress.solved marks c.solve_anew.new.stayed c.requires.progress.resolved
    (λ b h. c.in-None.ensures.none refl b (stands_by_mark s.edit.now c.clauses-before.ensures.sound c.clauses-after.ensures.sound c.requires.sources.edit c.args.c (rows_of s.old.now.sizes.rows) (rows_of before.solved.sizes.rows) marks c.requires.progress.resolved.marked b h))
    solved c.in_ok-solve_anew-in-None.ensures.marks)
    c.in_ok-solve_anew-in-None.ensures.done
    (rows_kept g.D.Domain.speaks (g.N.Norm.expression c.args.norm.now) s.edit.now.after.now s.edit.now.components.now c.clauses-after.ensures.sound c.requires.sources.edit.components c.args.c members own (c.requires.sources.own.clauses c.args.c own at_own) before.solved c.solve_anew.new.progress.solved c.requires.progress.resolved.solved solved)
