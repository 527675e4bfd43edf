use Rattle.std.proofs.Common.{◌≡◌, ◌-◌, [], length}
use Rattle.prove_structure.specs.Walk.{read_levels}
use Rattle.prove_structure.proofs.lists.Measured.levels.Given as goal

-- what is left is read to the same end
abbrev pub invariant-loop-pred : goal.invariant-loop-pred
invariant-loop-pred l =
    read_levels l.self.calls.p.now l.self.names.now l.self.calls.comps.now l.self.kinds.now l.lists l.pred (length l.self.calls.p.now.preds - l.pred) l.rest
    ≡ read_levels l.self.calls.p.now l.self.names.now l.self.calls.comps.now l.self.kinds.now [] 0 (length l.self.calls.p.now.preds) l.facts
