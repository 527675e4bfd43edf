-- Private.
-- Modes of one predicate, and those of a program before an edit.
use Rattle.std.specs.Prelude.{◌≡◌, ℕ, List, map, slice_get, Some}
use Rattle.bool_diagrams.specs.Tree.{Tree as Rows}
use Rattle.cti_terms.specs.declared.predicates.Pred.{Pred}
use Rattle.precond_fixpoint.specs.Solving.{AreModes, arguments_of}
use Rattle.precond_fixpoint.specs.declared.mode.Mode.{Mode}
use Rattle.termination_model.specs.grounds.Grounds.{Family}
use Rattle.termination_model.specs.grounds.Modes.{modes}
use Rattle.truth_rows.specs.Sets.{AreSets, family_of}
use Rattle.carried_preconditions.specs.declared.modes.ModesBefore.{ModesBefore}

-- the minimal rows that are allowed of a predicate
abbrev pub AreModesOf : List Pred → Family → ℕ → List Mode → Type 0
AreModesOf preds allowed q list = (x : Pred) → slice_get preds q ≡ Some x → map arguments_of list ≡ modes x.arity (allowed q)

-- diagrams of what is allowed of each predicate, and its modes
pub record AreModesBefore (preds : List Pred) (trees : List Rows) (before : ModesBefore) : Type 0 where
  pub sets_are : AreSets preds trees before.allowed.now
  pub modes_are : AreModes preds (family_of preds trees before.allowed.now) before.modes.now
