use Rattle.std.proofs.Common.{◌≡◌, ◌≤◌, length}
use Rattle.clause_variables.specs.Occurring.{AreFirsts}
use Rattle.clause_variables.proofs.occurrences.Occurrences.note_firsts.Given as goal

abbrev pub invariant-places : goal.invariant-places
invariant-places l = record {
  firsts : AreFirsts l.variables l.place l.self.firsts.items;
  size : length l.self.firsts.items ≡ length l.fn.self.firsts.items;
  ends : l.self.ends ≡ l.fn.self.ends;
  within : l.place ≤ length l.variables;
}

abbrev pub decreases-places : goal.decreases-places
decreases-places l = l.place
