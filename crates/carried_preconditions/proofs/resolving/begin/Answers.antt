use Rattle.std.proofs.Common.{List, subst, arith}
use Rattle.bool_diagrams.specs.declared.diagram.Diagram.{Diagram}
use Rattle.solved_program.specs.Carried.{AreCarriedValues}
use Rattle.carried_preconditions.proofs.Opened.{begun}
use Rattle.carried_preconditions.proofs.resolving.begin.Goals as goal

pub returns : goal.returns
returns g c =
    let s = c.args.sources.now in
    let allowed = c.in_ok-allowed.allowed.items in
    let carried = subst (λ (old : List Diagram). AreCarriedValues s.clauses.now.edit.now old c.truth-none.result allowed) c.as_slice.ensures c.in_ok-allowed.ensures.carried in
    record {
      room = c.in_ok-room.ensures;
      solved = begun (g.N.Norm.truth s.norm.now) s c.args.table.now c.requires.old c.truth-none.result c.truth-none.ensures.known c.truth-none.ensures.rows c.in_ok-sets.sets.items c.in_ok-sets.ensures.each c.in_ok-sets.ensures.carried
          allowed c.in_ok-allowed.ensures.each carried;
      marked = record { each = omega (arith, c.in_ok-stayed.ensures.len, c.in_ok-stayed.stayed.ok.0, c.preds.ensures.count); exact = λ q r d x here there i lt. absurd (omega (arith, lt)) };
    }
