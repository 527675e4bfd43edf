use Rattle.std.proofs.Common.{◌≡◌, ℕ, ◌+◌, ◌*◌, ◌≤◌, drop, map}
use Rattle.std.specs.Prelude.{sum}
use Rattle.number_columns.specs.declared.kind.Kind.{Kind as TheKind}
use Rattle.number_columns.specs.declared.kind.Kind.TheVariants.{Number, Size}
use Rattle.column_systems.proofs.column_systems.width_of.Given as goal

abbrev pub invariant-loop-kind : goal.invariant-loop-kind
invariant-loop-kind l = record {
  few : l.width ≤ 3 * l.kind-index;
  sum : (count : TheKind → ℕ) → l.size ≡ count Size → l.number ≡ count Number → l.width + sum (map count (drop l.kind-index l.kinds)) ≡ sum (map count l.kinds);
}
