use Rattle.std.proofs.Common.{◌≡◌, ◌≤◌, ◌-◌, length}
use Rattle.clause_variables.specs.Occurring.{AreEnds}
use Rattle.clause_variables.proofs.occurrences.Occurrences.note_ends.Given as goal

abbrev pub invariant-places : goal.invariant-places
invariant-places l = record {
  ends : AreEnds l.variables l.place l.self.ends.items;
  size : length l.self.ends.items ≡ length l.fn.self.ends.items;
  firsts : l.self.firsts ≡ l.fn.self.firsts;
  within : l.place ≤ length l.variables;
}

abbrev pub decreases-places : goal.decreases-places
decreases-places l = length l.variables - l.place
