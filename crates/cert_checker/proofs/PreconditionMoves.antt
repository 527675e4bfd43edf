-- Preconditions are kept whatever partition is taken.
use Rattle.std.proofs.Common.{ℕ, Bool, subst}
use Rattle.call_components.specs.Partition.{AreComponents, Partition}
use Rattle.cti_terms.specs.Listing.{Listing}
use Rattle.cti_terms.specs.Tree.{Tree}
use Rattle.truth_rows.specs.Rules.{KeepsSets}
use Rattle.cert_structure.specs.declared.parts.Parts.{Parts}
use Rattle.cert_modes.specs.Failing.{KeepsPreconditions}
use Rattle.cert_modes.specs.Modes.{allowed, grounds_of, precondition}
use Rattle.cert_checker.proofs.Partitions.{is_together_same}

module _ (truth : (ℕ → Bool) → Tree → Bool) (p : Listing) (one other : Partition) (a : AreComponents p one) (b : AreComponents p other) (parts : Parts) where
  pub keeps_moves : (q : ℕ) → KeepsPreconditions truth p one parts q → KeepsPreconditions truth p other parts q
  keeps_moves q h = record {
    covered = h.covered;
    rule = λ m k c e same.
        subst (λ (t : ℕ → Bool). KeepsSets truth (precondition p parts m) (allowed p parts) (grounds_of p parts) t c) (λ i r. is_together_same p one other a b r c.head.pred.0 i) (h.rule m k c e same);
  }
