use Rattle.std.proofs.Common.{◌≡◌, sym, ap, ◌∙◌, arith, List, length, slice_get, Some}
use Rattle.termination_model.proofs.Lists.{at_place}
use Rattle.bool_diagrams.specs.declared.diagram.Diagram.{Diagram}
use Rattle.cert_structure.specs.Shape.{items_of}
use Rattle.cert_modes.proofs.PlaceLaws.{beyond, items_at}
use Rattle.cert_modes.proofs.sets.Sets.precondition.Goals as goal

pub returns-else-mapping-sets : goal.returns-else-mapping-sets
returns-else-mapping-sets c =
    let at : slice_get c.args.self.now.preconditions c.args.pred.0 ≡ Some c.index-as_slice-pred.result =
    ap (λ (xs : List (List Diagram)). slice_get xs c.args.pred.0) (sym c.as_slice.ensures) ∙ at_place c.as_slice.result.now c.args.pred.0 c.index-as_slice-pred.result (omega (arith, c.requires, ap length c.as_slice.ensures)) c.index-as_slice-pred.is in
    let e : length (items_of c.args.self.now.preconditions c.args.pred.0) ≡ length c.as_slice-sets.result.now =
    ap length (items_at c.args.self.now.preconditions c.args.pred.0 c.index-as_slice-pred.result at ∙ sym c.as_slice-sets.ensures) in
    sym (beyond (items_of c.args.self.now.preconditions c.args.pred.0) c.args.mapping c.args.self.now.none (omega (arith, c.if-mapping-sets.false, e)))
