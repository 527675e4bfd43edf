use Rattle.std.proofs.Common.{◌≡◌, ◌-◌, length}
use Rattle.cert_structure.specs.Walk.{named}
use Rattle.fact_reading.specs.Walk.{with_all}
use Rattle.prove_structure.specs.Walk.{read_lists}
use Rattle.prove_structure.proofs.lists.open_lists.Given as goal

-- what is read in all is the lists so far and what is read of the rest
abbrev pub invariant-loop-list : goal.invariant-loop-list
invariant-loop-list l =
    with_all l.lists (read_lists (named l.of.pred) l.of.width l.list (length l.facts - l.list) l.rest)
    ≡ read_lists (named l.of.pred) l.of.width 0 (length l.facts) l.facts
