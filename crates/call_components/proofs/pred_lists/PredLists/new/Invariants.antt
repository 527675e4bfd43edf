use Rattle.std.proofs.Common.{◌≡◌, replicate, []}
use Rattle.call_components.proofs.pred_lists.PredLists.new.Given as goal

abbrev pub invariant-loop-i : goal.invariant-loop-i
invariant-loop-i l = l.rows.items ≡ replicate l._i []
