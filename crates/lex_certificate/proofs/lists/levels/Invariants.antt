use Rattle.std.proofs.Common.{◌≡◌, ◌-◌, [], length}
use Rattle.lex_certificate.specs.Walk.{read_levels}
use Rattle.lex_certificate.proofs.lists.levels.Given as goal

-- what is left is read to the same end
abbrev pub invariant-loop-pred : goal.invariant-loop-pred
invariant-loop-pred l =
    read_levels l.calls.p.now l.names l.calls.comps.now l.lists l.pred (length l.calls.p.now.preds - l.pred) l.rest
    ≡ read_levels l.calls.p.now l.names l.calls.comps.now [] 0 (length l.calls.p.now.preds) l.facts
