use Rattle.std.proofs.Common.{◌≡◌, ◌++◌, map, take}
use Rattle.call_components.specs.Numbers.{number_of, called_by_atom}
use Rattle.call_components.proofs.pred_list.Preds.extend_by.Given as goal

abbrev pub invariant-loop-atom : goal.invariant-loop-atom
invariant-loop-atom l = map number_of l.self-inside.items.items ≡ map number_of l.initial.self-inside.items.items ++ map called_by_atom (take l.atom-index l.atom-items)
