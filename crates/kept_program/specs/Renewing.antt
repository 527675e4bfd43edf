-- Private.
-- What is kept of a program's sets, in a new table.
use Rattle.std.specs.Prelude.{List}
use Rattle.bool_diagrams.specs.Tree.{Tree as Rows}
use Rattle.carried_preconditions.specs.declared.preconditions.SolvedPreconditions.{SolvedPreconditions}
use Rattle.cti_terms.specs.declared.predicates.Pred.{Pred}
use Rattle.moved_diagrams.specs.Moved.{AreMovedLists, AreMovedSets}
use Rattle.kept_program.specs.declared.kept.KeptSets.{KeptSets}
use Rattle.kept_program.specs.declared.renewing.Renewed.{Renewed}

-- preconditions in another table
pub record AreMovedPreconditions (preds : List Pred) (trees : List Rows) (old : SolvedPreconditions) (new_trees : List Rows) (now : SolvedPreconditions) : Type 0 where
  pub sets : AreMovedLists preds trees old.sets new_trees now.sets
  pub allowed : AreMovedSets preds trees old.allowed new_trees now.allowed

-- so are all sets
pub record IsRenewed (preds : List Pred) (trees : List Rows) (old : KeptSets) (now : Renewed) : Type 0 where
  pub grounds : AreMovedSets preds trees old.grounds.items now.table now.grounds.items
  pub preconditions : AreMovedPreconditions preds trees old.preconditions now.table now.preconditions
