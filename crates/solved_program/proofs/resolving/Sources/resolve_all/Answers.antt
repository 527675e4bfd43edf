use Rattle.std.proofs.Common.{◌≡◌, Bool, List, arith, length, subst, sym}
use Rattle.termination_model.specs.sizes.Sizes.{rows_of}
use Rattle.solved_program.specs.Resolving.{IsProgress}
use Rattle.solved_program.specs.Solved.{AreSolved}
use Rattle.solved_program.specs.Standing.{KeepValues}
use Rattle.solved_program.specs.declared.solved_sizes.SolvedSizes.{SolvedSizes}
use Rattle.solved_program.proofs.Resolved.{none_resolved}
use Rattle.solved_program.proofs.resolving.Sources.resolve_all.Goals as goal

pub resolve_each-requires-clause-begun : goal.resolve_each-requires-clause-begun
resolve_each-requires-clause-begun g c =
    let each : length c.in_ok-stayed.stayed.items ≡ length c.args.self.now.edit.now.after.now.preds = omega (arith, c.in_ok-stayed.ensures.len, c.in_ok-stayed.stayed.ok.0, c.preds.ensures.count) in
    subst (λ (marks : List Bool). IsProgress g.D.Domain.width g.D.Domain.listed c.args.self.now g.D.Domain.speaks (g.N.Norm.expression c.args.norm.now) 0 (record { state = c.in_ok-state.state; solved = c.in_ok-solved.solved }) marks) (sym c.deref_mut.ensures.value)
    record {
      resolved = none_resolved g.D.Domain.speaks (g.N.Norm.expression c.args.norm.now) c.args.self.now c.in_ok-solved.solved c.in_ok-stayed.stayed.items each c.in_ok-solved.ensures.sizes c.in_ok-solved.ensures.count c.in_ok-solved.ensures.rows c.in_ok-solved.ensures.proofs
          c.in_ok-solved.ensures.steps;
      ready = c.in_ok-state.ensures.ready c.args.self.now.edit.now.components.now;
      same = λ q d i lt. absurd (omega arith);
    }

pub returns-clause-solved : goal.returns-clause-solved
returns-clause-solved g c =
    subst (AreSolved g.D.Domain.speaks (g.N.Norm.expression c.args.norm.now) c.args.self.now.edit.now.after.now c.args.self.now.edit.now.components.now) (sym c.into_solved.ensures) c.in_ok-resolve_each.ensures.resolved.solved

pub returns-clause-kept : goal.returns-clause-kept
returns-clause-kept g c =
    subst (λ (now : SolvedSizes). KeepValues c.args.self.now.edit.now (rows_of c.args.self.now.old.now.sizes.rows) (rows_of now.sizes.rows)) (sym c.into_solved.ensures) c.in_ok-resolve_each.ensures.resolved.stayed
