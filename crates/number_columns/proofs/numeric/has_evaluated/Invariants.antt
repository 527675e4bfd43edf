use Rattle.std.proofs.Common.{◌≡◌, ◌<◌, ℕ, Some, false, map, slice_get}
use Rattle.cti_terms.specs.Spell.{tree_of}
use Rattle.cti_terms.specs.Tree.{Tree}
use Rattle.number_columns.specs.Numeric.{is_evaluated}
use Rattle.number_columns.proofs.numeric.has_evaluated.Given as goal

abbrev pub invariant-loop-t : goal.invariant-loop-t
invariant-loop-t l = (argument : ℕ) (term : Tree) → argument < l.t-index → slice_get (map tree_of l.args) argument ≡ Some term → is_evaluated l.arith l.variable term ≡ false
