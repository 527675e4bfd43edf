use Rattle.std.proofs.Common.{List, subst}
use Rattle.bool_diagrams.specs.declared.diagram.Diagram.{Diagram}
use Rattle.moved_diagrams.specs.Moved.{AreMovedSets}
use Rattle.kept_program.proofs.KeptLaws.{pre_later}
use Rattle.kept_program.proofs.renewing.renew_sets.Goals as goal

pub returns : goal.returns
returns c =
    let preds = c.args.p.now.preds in
    let T = c.args.table.now in
    let now = c.moved_sets.new.into in
    let pre = c.in_ok-preconditions.preconditions in
    record {
      grounds = subst (λ (gs : List Diagram). AreMovedSets preds T gs now c.in_ok-grounds.grounds.items) c.deref.ensures.value c.in_ok-grounds.ensures.moved;
      preconditions = pre_later preds T c.args.sets.now.preconditions c.renewed_preconditions.new.into now pre c.in_ok-grounds.ensures.keeps c.in_ok-preconditions.ensures.moved;
    }
