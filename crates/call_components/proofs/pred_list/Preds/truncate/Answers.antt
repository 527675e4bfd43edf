use Rattle.std.proofs.Common.{map, take, ap, sym, ◌∙◌}
use Rattle.std.proofs.lemmas.List.{take-map}
use Rattle.call_components.specs.Numbers.{number_of}
use Rattle.call_components.proofs.pred_list.Preds.truncate.Goals as goal

pub returns : goal.returns
returns c = ap (map number_of) c.truncate.ensures.items ∙ sym (take-map number_of c.args.kept c.self.inside.items.items) ∙ ap (take c.args.kept) c.self.view_is
