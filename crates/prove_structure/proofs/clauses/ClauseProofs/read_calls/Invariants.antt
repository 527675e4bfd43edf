use Rattle.std.proofs.Common.{◌≡◌, ◌≤◌, ◌*◌, drop, length}
use Rattle.fact_reading.specs.Walk.{with_all}
use Rattle.prove_structure.specs.Walk.{read_calls}
use Rattle.prove_structure.proofs.clauses.ClauseProofs.read_calls.Given as goal

-- what is read in all is the proofs so far and what is read of the rest; each atom has fewer than 2 to the power of 64
-- rows
abbrev pub invariant-loop-call : goal.invariant-loop-call
invariant-loop-call g l = record {
  counted : length l.proofs ≡ l.call-index;
  few : l.rows ≤ l.call-index * 18446744073709551616;
  value : with_all l.proofs (read_calls g.R.CallReader.reads l.self.calls.comps.now l.self.rows.now l.self.lists.now l.head l.clause l.call-index l.rows (drop l.call-index l.body) l.rest)
      ≡ read_calls g.R.CallReader.reads l.self.calls.comps.now l.self.rows.now l.self.lists.now l.head l.clause 0 0 l.body l.facts;
}
