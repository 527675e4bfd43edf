use Rattle.std.proofs.Common.{◌≡◌, ◌<◌, ◌≤◌, ℕ, slice_get, take, Some}
use Rattle.cert_checker.specs.Shape.{AreTogether}
use Rattle.cti_terms.specs.declared.atom_list.Atom.{Atom}
use Rattle.number_tests.specs.Shape.{list_at}
use Rattle.number_tests.specs.Systems.{IsSystemUpTo}
use Rattle.termination_model.specs.sizes.Sizes.{rows_of}
use Rattle.termination_model.specs.sizes.ShortSystems.{short_system}
use Rattle.lex_checker.specs.Proved.{MeasuresDrop}
use Rattle.lex_checker.proofs.dropping.clause_drops.Given as goal

abbrev pub invariant-loop-j : goal.invariant-loop-j
invariant-loop-j g l = record {
  order : l.atoms ≤ l.j;
  system : IsSystemUpTo (g.N.Norm.expression l.norm) (rows_of l.parts.rows) l.clause l.atoms l.system;
  calls : (j : ℕ) → j < l.j → (b : Atom) → slice_get l.clause.body j ≡ Some b → AreTogether l.comps l.clause.head.pred.0 b.pred.0
      → (m : ℕ) → MeasuresDrop (g.N.Norm.expression l.norm) (short_system (g.N.Norm.expression l.norm) (rows_of l.parts.rows) l.clause.vars (take j l.clause.body)) l.clause b
      (list_at (list_at l.parts.lists l.clause.head.pred.0) m) (list_at (list_at l.parts.lists b.pred.0) m) (list_at (list_at l.proofs j) m);
}
