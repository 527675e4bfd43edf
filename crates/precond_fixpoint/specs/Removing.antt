-- Private.
-- What removing broken rows does to sets. Nothing here has to be believed.
use Rattle.std.specs.Prelude.{◌≡◌, ◌==◌, ◌+◌, ◌*◌, ◌<◌, ◌⊎◌, ◌↔◌, ℕ, suc, Bool, true, not, IsTrue, List, [], ◌∷◌, length, slice_get, Some, slice_index_or}
use Rattle.cti_terms.specs.declared.predicates.PredId.{PredId}
use Rattle.groundness.specs.Marks.{IsMarked, marks_left}
use Rattle.truth_rows.specs.Rules.{KeepsSets, same_rank}
use Rattle.truth_rows.specs.Sets.{family_of}
use Rattle.bool_diagrams.specs.declared.diagram.Diagram.{Diagram}
use Rattle.bool_diagrams.specs.Cubes.{truth_rows}
use Rattle.bool_diagrams.specs.Tree.{Tree as Rows}
use Rattle.cti_terms.specs.Listing.{Listing}
use Rattle.cti_terms.specs.Tree.{Tree}
use Rattle.cti_terms.specs.declared.clauses.Clause.{Clause}
use Rattle.cti_terms.specs.declared.predicates.Pred.{Pred}
use Rattle.groundness.specs.Missing.{missing}
use Rattle.precond_fixpoint.specs.Greatest.{IsBroken, RemovesOnlyBroken}
use Rattle.termination_model.specs.grounds.Grounds.{Family, HasArity}
use Rattle.termination_model.specs.sizes.Rows.{Covers}

-- each row of the old sets stays, or is a row of the clause's head from which the rule is broken
abbrev pub RemovesBroken : ((ℕ → Bool) → Tree → Bool) → Listing → List Rows → List Rows → List ℕ → (grounds allowed old new : List Diagram) → Clause → Type 0
RemovesBroken truth p before after ranks grounds allowed old new k =
    (q : ℕ) (row : List Bool) → IsTrue (family_of p.preds before old q row)
    → IsTrue (family_of p.preds after new q row)
    ⊎ ((q ≡ k.head.pred.0) × IsBroken truth p (λ r. same_rank ranks r k.head.pred.0) (family_of p.preds before allowed) (family_of p.preds before grounds) (family_of p.preds before old) k row)

-- how many rows the sets have together: what a set lacks of its complement
unfoldable pub all_present : List Pred → List Rows → List Diagram → ℕ
all_present [] trees sets = 0
all_present (p ∷ preds) trees [] = 0
all_present (p ∷ preds) trees (d ∷ sets) = missing p.arity (λ row. not (truth_rows trees d row)) + all_present preds trees sets

-- whether a predicate has this rank
abbrev pub is_ranked : List ℕ → ℕ → ℕ → Bool
is_ranked ranks rank q = slice_index_or ranks q 0 == rank

-- in a family of sets that follows another, only rows are removed that no family which keeps the rule has
abbrev pub Needed : ((ℕ → Bool) → Tree → Bool) → Listing → List Rows → List Rows → List ℕ → ℕ → (grounds allowed old new : List Diagram) → Type 0
Needed truth p before after ranks rank grounds allowed old new =
    (coefficients : ℕ → List ℕ) → RemovesOnlyBroken truth p (is_ranked ranks rank) (family_of p.preds before allowed) (family_of p.preds before grounds) coefficients
    (family_of p.preds before old) (family_of p.preds after new)

-- the members are the predicates of this rank
pub record AreRanked (preds : List Pred) (ranks : List ℕ) (rank : ℕ) (members : List PredId) : Type 0 where
  pub within : (j : ℕ) (a : PredId) → slice_get members j ≡ Some a → a.0 < length preds
  pub ranked : (j : ℕ) (a : PredId) → slice_get members j ≡ Some a → is_ranked ranks rank a.0 ≡ true
  pub all : (q : ℕ) → is_ranked ranks rank q ≡ true → (j : ℕ) × (a : PredId) × (slice_get members j ≡ Some a) × (q ≡ a.0)

-- the rule is kept in each clause of this rank that has no mark
abbrev pub UnmarkedKeep : ((ℕ → Bool) → Tree → Bool) → Listing → List ℕ → ℕ → List Bool → (pre allowed grounds : Family) → Type 0
UnmarkedKeep truth p ranks rank marks pre allowed grounds =
    (j : ℕ) (k : Clause) → slice_get p.clauses j ≡ Some k → (IsMarked marks j → ⊥) → is_ranked ranks rank k.head.pred.0 ≡ true → KeepsSets truth pre allowed grounds (is_ranked ranks rank) k

-- what is left to do: each row counts for more than all marks
abbrev pub work : List Pred → List Rows → List Diagram → List Bool → ℕ
work preds trees sets marks = all_present preds trees sets * suc (length marks) + marks_left marks

-- the rows of a predicate are those that its coefficients cover
abbrev pub IsCovering : List Pred → (ℕ → List ℕ) → Family → ℕ → Type 0
IsCovering preds coefficients f q = (row : List Bool) → HasArity preds q (length row) → IsTrue (f q row) ↔ Covers (coefficients q) row

-- so for each member
abbrev pub AreCovering : List Pred → (ℕ → Bool) → (ℕ → List ℕ) → Family → Type 0
AreCovering preds is_member coefficients f = (q : ℕ) → is_member q ≡ true → IsCovering preds coefficients f q
