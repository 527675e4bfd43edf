use Rattle.std.proofs.Common.{◌≡◌, ◌∷◌, ◌+◌, ℕ, List, length}
use Rattle.cti_terms.specs.Arithmetic.{Arithmetic}
use Rattle.number_columns.specs.Meeting.{AllMet, IsMeeting, IsReady}
use Rattle.number_columns.proofs.numeric.meet_clause.Given as goal

abbrev pub invariant-loop-i : goal.invariant-loop-i
invariant-loop-i l = record {
  ready : IsReady l.links.parents.items l.first;
  count : length l.links.parents.items ≡ length l.fn.links.parents.items;
  variables : length l.first ≡ length l.fn.first;
  meeting : (ar : Arithmetic) (start : List ℕ) → IsMeeting ar l.clause start l.fn.links.parents.items l.fn.first → IsMeeting ar l.clause start l.links.parents.items l.first;
  met : AllMet l.links.parents.items l.first (l.i + 1) (l.clause.head ∷ l.clause.body);
}
