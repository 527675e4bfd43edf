use Rattle.std.proofs.Common.{◌≡◌, length}
use Rattle.std.specs.Vec.Iter.{into_iter_items, into_iter_len}
use Rattle.cti_session.specs.Extending.{ArePushed}
use Rattle.cti_session.proofs.extending.push_all.Given as goal

abbrev pub invariant-loop-clause : goal.invariant-loop-clause
invariant-loop-clause l =
    ArePushed l.names l.initial.clauses.items l.fn.more.items (into_iter_items l.clause-iterator) l.clauses.items l.nodes × (into_iter_len l.clause-iterator ≡ length (into_iter_items l.clause-iterator))
