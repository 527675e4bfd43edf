-- What parts claim holds for each partition of a program into components where it holds for one.
use Rattle.std.proofs.Common.{ℕ, ℤ, Bool, List, subst}
use Rattle.cti_terms.specs.Listing.{Listing}
use Rattle.cti_terms.specs.Tree.{Tree}
use Rattle.cti_terms.specs.declared.clauses.Clause.{Clause}
use Rattle.truth_rows.specs.Rules.{KeepsSets}
use Rattle.call_components.proofs.Lists.{all_map}
use Rattle.call_components.specs.Partition.{AreComponents, Partition}
use Rattle.cert_structure.specs.Shape.{is_together}
use Rattle.cert_structure.specs.declared.parts.Parts.{Parts}
use Rattle.cert_modes.specs.Modes.{ModesHold, allowed, grounds_of, precondition}
use Rattle.cert_checker.specs.Proved.{FallsHold, MeasuresAreZero}
use Rattle.cert_checker.specs.Refuting.{RefutationsHold}
use Rattle.cert_checker.specs.Valid.{PartsHold}
use Rattle.number_tests.proofs.ColumnLengths.{an_element}
use Rattle.cert_checker.proofs.Partitions.{is_together_same, members_move, moved, recursion_moves, together_moves}

module _ (truth : (ℕ → Bool) → Tree → Bool) (expression : ℕ → Tree → List ℤ) (p : Listing) (one other : Partition) (a : AreComponents p one) (b : AreComponents p other) (parts : Parts) where
  pub modes : ModesHold truth p one parts → ModesHold truth p other parts
  modes h = record {
    closed = h.closed;
    covered = h.covered;
    rule = λ m. all_map (keeps one m) (keeps other m)
        (λ k. subst (λ (t : ℕ → Bool). KeepsSets truth (precondition p parts m) (allowed p parts) (grounds_of p parts) t k) (λ i q. is_together_same p one other a b q k.head.pred.0 i)) p.clauses (h.rule m);
    modes = h.modes;
  }
    where
      keeps : Partition → ℕ → Clause → Type 0
      keeps comps m k = KeepsSets truth (precondition p parts m) (allowed p parts) (grounds_of p parts) (λ q. is_together comps q k.head.pred.0) k

  measures : MeasuresAreZero one parts → MeasuresAreZero other parts
  measures h d q eq none =
      let (c, hq) = moved p other one b a d q eq in
      h c q hq (recursion_moves p one other a b c d q hq eq none)

  falls : FallsHold expression p one parts → FallsHold expression p other parts
  falls h k c at j call ej together = h k c at j call ej (together_moves p other one b a c.head.pred.0 call.pred.0 together)

  pub refutations : RefutationsHold expression p one parts → RefutationsHold expression p other parts
  refutations h q d r ns at eq en =
      let (c, hq) = moved p other one b a d q eq in
      let (ms, em) = an_element one.members c (a.within c q hq) in
      let (sums, points) = h q c r ms at hq em in (
        record {
          positive = sums.positive;
          fit = sums.fit;
          columns = λ x has. sums.columns x (members_move p other one b a d c q x ns ms eq hq en em has);
        },
        points,
      )

  pub parts_hold : PartsHold truth expression p one parts → PartsHold truth expression p other parts
  parts_hold h = record {
    modes = modes h.modes;
    stated = h.stated;
    rows = h.rows;
    measures = measures h.measures;
    falls = falls h.falls;
    refutations = refutations h.refutations;
  }
