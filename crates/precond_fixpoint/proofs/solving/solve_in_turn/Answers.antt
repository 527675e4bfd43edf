use Rattle.std.proofs.Common.{false, length, ap, sym, subst, ◌∙◌}
use Rattle.std.proofs.lemmas.List.{length-replicate}
use Rattle.truth_rows.specs.Sets.{AreSets}
use Rattle.precond_fixpoint.proofs.solving.solve_in_turn.Goals as goal

pub solve_each-requires-clause-marks : goal.solve_each-requires-clause-marks
solve_each-requires-clause-marks g c = ap length c.in_ok-marks.ensures ∙ length-replicate c.clauses.result false ∙ c.clauses.ensures.count

pub solve_each-requires-clause-pre : goal.solve_each-requires-clause-pre
solve_each-requires-clause-pre g c = subst (AreSets c.args.setting.now.program.now.preds c.args.table.now) (sym c.in_ok-pre.ensures.items) c.requires.allowed.sets
