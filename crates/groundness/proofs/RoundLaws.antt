-- What stays of sets while the table grows, and of clauses that are closed while sets do.
use Rattle.std.proofs.Common.{◌≡◌, ℕ, Bool, List, slice_get, Some, ap, sym, subst, ◌∙◌}
use Rattle.bool_diagrams.specs.declared.diagram.Diagram.{Diagram}
use Rattle.bool_diagrams.specs.Rows.{IsDiagram, Keeps}
use Rattle.bool_diagrams.specs.Tree.{Tree as Rows}
use Rattle.cti_terms.specs.declared.clauses.Clause.{Clause}
use Rattle.cti_terms.specs.declared.predicates.Pred.{Pred}
use Rattle.cti_terms.specs.Tree.{Tree}
use Rattle.termination_model.specs.grounds.Grounds.{Family, IsClosedUnder, IsGround, IsInside, truth_row}
use Rattle.groundness.specs.Marks.{IsApart}
use Rattle.groundness.specs.Missing.{all_missing}
use Rattle.truth_rows.specs.Sets.{family_of, has_row}
use Rattle.truth_rows.proofs.CallerLemmas.{family_later}
use Rattle.termination_model.proofs.Lists.{by_places, from_places}
use Rattle.groundness.proofs.MissingLaws.{all_missing_kept}

module _ (preds : List Pred) (T T2 : List Rows) (K : Keeps T T2) (sets : List Diagram) (known : (r : ℕ) (d : Diagram) → slice_get sets r ≡ Some d → IsDiagram T d) where
  pub closed_later : (truth : (ℕ → Bool) → Tree → Bool) (sets' : List Diagram) → sets' ≡ sets → (c : Clause) → IsClosedUnder truth (family_of preds T sets) c → IsClosedUnder truth (family_of preds T2 sets') c
  closed_later truth sets' same c h =
      subst (λ (xs : List Diagram). IsClosedUnder truth (family_of preds T2 xs) c) (sym same) (subst (λ (f : Family). IsClosedUnder truth f c) (sym (family_later preds T T2 K sets known)) h)

  pub missing_same : (sets' : List Diagram) → sets' ≡ sets → all_missing preds T2 sets' ≡ all_missing preds T sets
  missing_same sets' same = ap (all_missing preds T2) same ∙ all_missing_kept preds T T2 K sets known

  -- a predicate that keeps its diagram keeps its rows
  pub kept_later : (sets' : List Diagram) (r : ℕ) → slice_get sets' r ≡ slice_get sets r → family_of preds T2 sets' r ≡ family_of preds T sets r
  kept_later sets' r same = (λ i row. has_row (slice_get preds r) T2 (same i) row) ∙ ap (λ (f : Family). f r) (family_later preds T T2 K sets known)

-- a clause that does not have the predicate whose set grew in its body
pub still_closed : (truth : (ℕ → Bool) → Tree → Bool) (old new : Family) (q : ℕ) → IsInside old new → ((r : ℕ) → ((r ≡ q) → ⊥) → new r ≡ old r) → (c : Clause) → IsApart c q → IsClosedUnder truth old c → IsClosedUnder truth new c
still_closed truth old new q inside others c apart closed v body =
    inside c.head.pred.0 (truth_row truth v c.head)
    (closed v (from_places (IsGround truth old v) c.body (λ i b at.
    ap (λ (f : List Bool → Bool). f (truth_row truth v b)) (sym (others b.pred.0 (apart i b at))) ∙ by_places (IsGround truth new v) c.body body i b at)))
