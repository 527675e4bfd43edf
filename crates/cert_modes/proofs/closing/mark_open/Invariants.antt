use Rattle.std.proofs.Common.{◌≡◌, ◌<◌, ℕ, length, slice_get, Some}
use Rattle.truth_rows.specs.Sets.{family_of}
use Rattle.bool_diagrams.specs.Rows.{Keeps}
use Rattle.cti_terms.specs.declared.clauses.Clause.{Clause}
use Rattle.cert_modes.specs.Marks.{IsMarked, mark_at}
use Rattle.cert_modes.specs.declared.fault.ModeReason.TheVariants as reason
use Rattle.termination_model.specs.grounds.Grounds.{IsClosedUnder}
use Rattle.cert_modes.proofs.closing.mark_open.Given as goal

-- the marks say of each predicate whether the sets are closed under its clauses so far
abbrev pub invariant-loop-k : goal.invariant-loop-k
invariant-loop-k g l =
    record {
      keeps : Keeps l.fn.table l.table;
      each : length l.marks ≡ length l.fn.marks;
      closed : (q : ℕ) → IsMarked ((j : ℕ) → j < l.k → (c : Clause) → slice_get l.p.clauses j ≡ Some c → c.head.pred.0 ≡ q → IsClosedUnder (g.N.Norm.truth l.norm) (family_of l.p.preds l.fn.table l.sets) c)
          reason.Ground (mark_at l.fn.marks q) (mark_at l.marks q);
    }
