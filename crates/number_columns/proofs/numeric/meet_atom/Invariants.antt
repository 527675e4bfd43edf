use Rattle.std.proofs.Common.{◌≡◌, ◌∷◌, ℕ, List, Some, length, slice_get}
use Rattle.cti_terms.specs.Arithmetic.{Arithmetic}
use Rattle.cti_terms.specs.declared.clauses.Clause.{Clause}
use Rattle.number_columns.specs.Meeting.{AreMet, IsMeeting, IsReady, KeepsMet}
use Rattle.number_columns.proofs.numeric.meet_atom.Given as goal

abbrev pub invariant-loop-i : goal.invariant-loop-i
invariant-loop-i l = record {
  ready : IsReady l.links.parents.items l.first;
  count : length l.links.parents.items ≡ length l.fn.links.parents.items;
  variables : length l.first ≡ length l.fn.first;
  meeting : (ar : Arithmetic) (c : Clause) (start : List ℕ) (place : ℕ) → slice_get (c.head ∷ c.body) place ≡ Some l.atom → IsMeeting ar c start l.fn.links.parents.items l.fn.first → IsMeeting ar c start l.links.parents.items l.first;
  keeps : KeepsMet l.fn.links.parents.items l.fn.first l.links.parents.items l.first;
  met : AreMet l.links.parents.items l.first l.atom.pred.0 l.i l.atom.args;
}
