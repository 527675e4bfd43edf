use Rattle.std.proofs.Common.{◌≡◌, map, drop, length}
use Rattle.call_components.specs.Numbers.{number_of}
use Rattle.call_components.specs.Marked.{closed_by}
use Rattle.call_components.proofs.marks.Marks.close.Given as goal

abbrev pub invariant-loop-pred : goal.invariant-loop-pred
invariant-loop-pred l =
    (length l.self-inside.items.items ≡ length l.initial.self-inside.items.items)
    × (closed_by (map number_of (drop l.pred-index l.preds)) l.number l.self-inside.items.items ≡ closed_by (map number_of l.preds) l.number l.initial.self-inside.items.items)
