use Rattle.std.proofs.Common.{◌≡◌, List, map, drop, ap, sym, ◌∙◌}
use Rattle.std.proofs.lemmas.List.{take_rest, drop-map}
use Rattle.cti_terms.specs.declared.predicates.PredId.{PredId}
use Rattle.call_components.specs.Numbers.{number_of}
use Rattle.call_components.proofs.pred_list.Preds.tail.Goals as goal

pub returns : goal.returns
returns c =
    let ps = c.deref.result.now in
    let items : ps ≡ c.self.inside.items.items = c.deref.ensures.value in
    ap (map number_of) (take_rest ps c.args.first) ∙ ap (λ (xs : List PredId). map number_of (drop c.args.first xs)) items
    ∙ sym (drop-map number_of c.args.first c.self.inside.items.items) ∙ ap (drop c.args.first) c.self.view_is
