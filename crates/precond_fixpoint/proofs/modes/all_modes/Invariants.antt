use Rattle.std.proofs.Common.{◌≡◌, ℕ, List, length, map, slice_get, Some}
use Rattle.cti_terms.specs.declared.predicates.Pred.{Pred}
use Rattle.precond_fixpoint.specs.Solving.{arguments_of}
use Rattle.precond_fixpoint.specs.declared.mode.Mode.{Mode}
use Rattle.precond_fixpoint.specs.Tables.{AreTables}
use Rattle.termination_model.specs.grounds.Modes.{modes}
use Rattle.truth_rows.specs.Sets.{family_of}
use Rattle.precond_fixpoint.proofs.modes.all_modes.Given as goal

-- the modes of the predicates so far
abbrev pub invariant-loop-q : goal.invariant-loop-q
invariant-loop-q l =
    record {
      count : length l.list ≡ l.q;
      tables : AreTables l.tables.items;
      minimal : (q : ℕ) (own : List Mode) → slice_get l.list q ≡ Some own → (x : Pred) → slice_get l.p.preds q ≡ Some x
          → map arguments_of own ≡ modes x.arity (family_of l.p.preds l.table l.sets q);
    }
