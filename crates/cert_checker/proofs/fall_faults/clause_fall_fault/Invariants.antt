use Rattle.std.specs.Io.Iter.{u64_saturate}
use Rattle.std.proofs.Common.{◌≡◌, ◌+◌, ◌-◌, ◌<◌, ◌≤◌, ℕ, List, length, slice_get, take, Some}
use Rattle.cert_structure.specs.Numbered.{lines_from}
use Rattle.cert_structure.specs.Order.{falls_line}
use Rattle.cti_terms.specs.declared.atom_list.Atom.{Atom}
use Rattle.linear_rows.specs.declared.multipliers.Multipliers.{Multipliers}
use Rattle.termination_model.specs.sizes.Sizes.{rows_of}
use Rattle.termination_model.specs.sizes.ShortSystems.{short_system}
use Rattle.number_tests.specs.Failing.{before}
use Rattle.number_tests.specs.Proved.{MappingsFall}
use Rattle.number_tests.specs.Shape.{list_at}
use Rattle.cert_checker.specs.Shape.{AreTogether}
use Rattle.number_tests.specs.Systems.{IsSystemUpTo}
use Rattle.cert_checker.specs.Finding.{FallsFail, NoneFails}
use Rattle.cert_checker.proofs.fall_faults.clause_fall_fault.Given as goal

abbrev pub invariant-loop-j : goal.invariant-loop-j
invariant-loop-j g l = record {
  multipliers : l.proofs ≡ list_at l.parts.falls (l.k - 1);
  count : length l.proofs ≡ length l.clause.body;
  order : l.atoms ≤ l.j;
  system : IsSystemUpTo (g.N.Norm.expression l.norm) (rows_of l.parts.rows) l.clause l.atoms l.system;
  calls : (j : ℕ) → j < l.j → (b : Atom) → slice_get l.clause.body j ≡ Some b → AreTogether l.comps l.clause.head.pred.0 b.pred.0
      → MappingsFall (g.N.Norm.expression l.norm) (short_system (g.N.Norm.expression l.norm) (rows_of l.parts.rows) l.clause.vars (take j l.clause.body)) l.clause b
      (list_at l.parts.levels l.clause.head.pred.0) (list_at l.parts.levels b.pred.0) (list_at l.proofs j);
  line : (n : ℕ) → u64_saturate (l.line + n) ≡ u64_saturate (l.first + before (λ (ms : List Multipliers). length ms) l.proofs l.j + n);
  none : (j : ℕ) → j < l.j → (ms : List Multipliers) → slice_get l.proofs j ≡ Some ms → NoneFails (FallsFail (g.N.Norm.expression l.norm) l.p l.comps l.parts) (lines_from 0 (falls_line (l.k - 1) j) ms);
}
