use Rattle.std.proofs.Common.{◌≡◌, ◌<◌, ℕ, length, slice_get, Some}
use Rattle.truth_rows.specs.Sets.{AreSets}
use Rattle.bool_diagrams.specs.Rows.{Keeps}
use Rattle.cti_terms.specs.declared.clauses.Clause.{Clause}
use Rattle.cert_modes.specs.Marks.{IsMarked, mark_at}
use Rattle.cert_modes.specs.declared.fault.ModeReason.TheVariants as reason
use Rattle.cert_modes.specs.Sets.{KeepsEach}
use Rattle.cert_modes.proofs.rules.PreconditionRule.mark_each.Given as goal

-- the marks say of each predicate whether its clauses so far keep the rule
abbrev pub invariant-loop-k : goal.invariant-loop-k
invariant-loop-k g l =
    record {
      keeps : Keeps l.fn.table l.table;
      each : length l.marks ≡ length l.fn.marks;
      chosen : AreSets l.self.program.now.preds l.table l.chosen;
      kept : (q : ℕ) → IsMarked ((j : ℕ) → j < l.k → (c : Clause) → slice_get l.self.program.now.clauses j ≡ Some c → c.head.pred.0 ≡ q → KeepsEach (g.N.Norm.truth l.self.norm.now) l.self.program.now l.fn.table l.self.ranks.now l.self.sets.now c)
          reason.Precondition (mark_at l.fn.marks q) (mark_at l.marks q);
    }
