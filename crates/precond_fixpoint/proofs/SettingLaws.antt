-- What is required of a search stays true while the table grows.
use Rattle.std.proofs.Common.{List}
use Rattle.bool_diagrams.specs.Rows.{Keeps}
use Rattle.bool_diagrams.specs.Tree.{Tree as Rows}
use Rattle.precond_fixpoint.specs.Setting.{IsComponent, IsSetting}
use Rattle.precond_fixpoint.specs.declared.setting.Component.{Component}
use Rattle.precond_fixpoint.specs.declared.setting.Setting.{Setting}
use Rattle.truth_rows.proofs.CallerLemmas.{sets_later}

pub setting_later : {N : Type 0} (s : Setting N) (T T2 : List Rows) → Keeps T T2 → IsSetting s T → IsSetting s T2
setting_later s T T2 K is = record {
  program = is.program;
  components = is.components;
  each = is.each;
  ranks = is.ranks;
  heads = is.heads;
  users = is.users;
  grounds = sets_later s.program.now.preds T T2 K s.grounds.now is.grounds;
  levels = is.levels;
}

pub component_later : {N : Type 0} (s : Setting N) (k : Component) (T T2 : List Rows) → Keeps T T2 → IsComponent s k T → IsComponent s k T2
component_later s k T T2 K is = record {
  members = is.members;
  mappings = is.mappings;
  allowed = sets_later s.program.now.preds T T2 K k.allowed.now is.allowed;
}
