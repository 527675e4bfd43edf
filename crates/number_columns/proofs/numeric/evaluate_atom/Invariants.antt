use Rattle.std.proofs.Common.{◌≡◌, ℕ, List, Some, length, slice_get}
use Rattle.cti_terms.specs.Arithmetic.{Arithmetic, kind_of}
use Rattle.cti_terms.specs.declared.builtins.Builtin.{Builtin}
use Rattle.cti_terms.specs.declared.clauses.Clause.{Clause}
use Rattle.number_columns.specs.Meeting.{AreEvaluated, IsMeeting, IsReady, KeepsLinks}
use Rattle.number_columns.proofs.numeric.evaluate_atom.Given as goal

abbrev pub invariant-loop-x : goal.invariant-loop-x
invariant-loop-x l = record {
  ready : IsReady l.links.parents.items l.first;
  count : length l.links.parents.items ≡ length l.fn.links.parents.items;
  keeps : KeepsLinks l.fn.links.parents.items l.links.parents.items;
  meeting : (ar : Arithmetic) (c : Clause) (start : List ℕ) (place : ℕ) (kind : Builtin) → slice_get c.body place ≡ Some l.atom → kind_of ar l.atom.pred.0 ≡ Some kind → ar.names ≡ l.arith → IsMeeting ar c start l.fn.links.parents.items l.first → IsMeeting ar c start l.links.parents.items l.first;
  evaluated : AreEvaluated l.arith l.links.parents.items l.first l.x l.atom.args;
}
