use Rattle.std.proofs.Common.{◌≡◌, ◌-◌, [], length}
use Rattle.cert_structure.specs.Walk.{read_levels}
use Rattle.cert_structure.proofs.levels.levels.Given as goal

-- what is left is read to the same end
abbrev pub invariant-loop-pred : goal.invariant-loop-pred
invariant-loop-pred l =
    read_levels l.calls.p.now l.names l.calls.comps.now l.levels l.pred (length l.calls.p.now.preds - l.pred) l.rest
    ≡ read_levels l.calls.p.now l.names l.calls.comps.now [] 0 (length l.calls.p.now.preds) l.facts
