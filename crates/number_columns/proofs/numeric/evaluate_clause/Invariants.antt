use Rattle.std.proofs.Common.{◌≡◌, ℕ, List, length}
use Rattle.number_columns.specs.Meeting.{AllEvaluated, IsMeeting, IsReady, KeepsLinks}
use Rattle.number_columns.proofs.numeric.evaluate_clause.Given as goal

abbrev pub invariant-loop-i : goal.invariant-loop-i
invariant-loop-i l = record {
  ready : IsReady l.links.parents.items l.first;
  count : length l.links.parents.items ≡ length l.fn.links.parents.items;
  keeps : KeepsLinks l.fn.links.parents.items l.links.parents.items;
  meeting : (start : List ℕ) → IsMeeting l.p.arithmetic l.clause start l.fn.links.parents.items l.first → IsMeeting l.p.arithmetic l.clause start l.links.parents.items l.first;
  evaluated : AllEvaluated l.p.arithmetic l.links.parents.items l.first l.i l.clause.body;
}
