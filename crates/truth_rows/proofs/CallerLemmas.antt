-- For callers: sets stay what they are while the table grows, and one set may be put in the place of another.
use Rattle.std.proofs.Common.{◌≡◌, inl, inr, ℕ, zero, suc, ◌<◌, Bool, true, ◌&&◌, ◌==◌, List, [], ◌∷◌, length, slice_get, slice_set, Option, None, Some, refl, ap, sym, subst, ◌∙◌}
use Rattle.std.proofs.lemmas.Bool.{cases_eq, eq-eqb}
use Rattle.std.proofs.lemmas.List.{length-set}
use Rattle.bool_diagrams.specs.declared.diagram.Diagram.{Diagram}
use Rattle.bool_diagrams.specs.Cubes.{truth_rows, values_of}
use Rattle.bool_diagrams.specs.Rows.{IsDiagram, Keeps, ReadsBelow}
use Rattle.bool_diagrams.specs.Tree.{Tree as Rows}
use Rattle.bool_diagrams.proofs.CallerLemmas.{holds_later, known_later}
use Rattle.cti_terms.specs.declared.predicates.Pred.{Pred}
use Rattle.termination_model.specs.grounds.Grounds.{HasArity}
use Rattle.truth_rows.specs.Sets.{AreSets, family_of, has_row}
use Rattle.truth_rows.proofs.ListLaws.{set_elsewhere, set_there}

has_row_later : (a : Option Pred) (T T2 : List Rows) → Keeps T T2 → (b : Option Diagram) → ((d : Diagram) → b ≡ Some d → IsDiagram T d) → (row : List Bool) → has_row a T2 b row ≡ has_row a T b row
has_row_later None T T2 K b known row = refl
has_row_later (Some p) T T2 K None known row = refl
has_row_later (Some p) T T2 K (Some d) known row = ap (λ x. (p.arity == length row) && x) (holds_later T T2 d K (known d refl) (values_of row))

module _ (preds : List Pred) (T T2 : List Rows) (K : Keeps T T2) (sets : List Diagram) (known : (r : ℕ) (d : Diagram) → slice_get sets r ≡ Some d → IsDiagram T d) where
  pub family_later : family_of preds T2 sets ≡ family_of preds T sets
  family_later = λ i r row. has_row_later (slice_get preds r) T T2 K (slice_get sets r) (known r) row i

-- a row of the family is one of the predicate's diagram
pub family_at : (preds : List Pred) (T : List Rows) (sets : List Diagram) (q : ℕ) (p : Pred) (d : Diagram) (row : List Bool) → slice_get preds q ≡ Some p → slice_get sets q ≡ Some d → p.arity ≡ length row → family_of preds T sets q row ≡ truth_rows T d row
family_at preds T sets q p d row e f long = let same : (p.arity == length row) ≡ true = eq-eqb p.arity (length row) long in rw (e, f, same) refl

pub reads_later : (T T2 : List Rows) → Keeps T T2 → (d : Diagram) → IsDiagram T d → (n : ℕ) → ReadsBelow T d n → ReadsBelow T2 d n
reads_later T T2 K d known n reads row other agree = holds_later T T2 d K known row ∙ reads row other agree ∙ sym (holds_later T T2 d K known other)

pub sets_later : (preds : List Pred) (T T2 : List Rows) → Keeps T T2 → (sets : List Diagram) → AreSets preds T sets → AreSets preds T2 sets
sets_later preds T T2 K sets S = record {
  each = S.each;
  known = λ q d e. known_later T T2 d K (S.known q d e);
  reads = λ q n d e a. reads_later T T2 K d (S.known q d e) n (S.reads q n d e a);
}

-- a set of the arity in the place of a predicate's set
pub sets_with : (preds : List Pred) (T : List Rows) (sets : List Diagram) → AreSets preds T sets → (q : ℕ) (d : Diagram) → q < length sets → IsDiagram T d → ((n : ℕ) → HasArity preds q n → ReadsBelow T d n) → AreSets preds T (slice_set sets q d)
sets_with preds T sets S q d lt known reads = record {
  each = length-set sets q d ∙ S.each;
  known = λ r x e. elim (cases_eq r q) [
    | inl same ↦
        let f : slice_get (slice_set sets q d) r ≡ Some d = ap (slice_get (slice_set sets q d)) same ∙ set_there sets q d lt in
        let is : d ≡ x = cc in
        subst (IsDiagram T) is known
    | inr other ↦ S.known r x (sym (set_elsewhere sets q r d other) ∙ e)
  ];
  reads = λ r n x e a. elim (cases_eq r q) [
    | inl same ↦
        let f : slice_get (slice_set sets q d) r ≡ Some d = ap (slice_get (slice_set sets q d)) same ∙ set_there sets q d lt in
        let is : d ≡ x = cc in
        subst (λ (y : Diagram). ReadsBelow T y n) is (reads n (subst (λ m. HasArity preds m n) same a))
    | inr other ↦ S.reads r n x (sym (set_elsewhere sets q r d other) ∙ e) a
  ];
}

pub no_sets : (T : List Rows) → AreSets [] T []
no_sets T = record { each = refl; known = λ q d e. cc; reads = λ q n d e a. cc }

-- a set for one more predicate
pub sets_behind : (preds : List Pred) (T : List Rows) (sets : List Diagram) (p : Pred) (d : Diagram) → IsDiagram T d → ReadsBelow T d p.arity → AreSets preds T sets → AreSets (p ∷ preds) T (d ∷ sets)
sets_behind preds T sets p d known reads S = record { each = ap suc S.each; known = known_at; reads = reads_at }
  where
    known_at : (q : ℕ) (x : Diagram) → slice_get (d ∷ sets) q ≡ Some x → IsDiagram T x
    known_at zero x e = let is : d ≡ x = cc in subst (IsDiagram T) is known
    known_at (suc q) x e = S.known q x e

    reads_at : (q n : ℕ) (x : Diagram) → slice_get (d ∷ sets) q ≡ Some x → HasArity (p ∷ preds) q n → ReadsBelow T x n
    reads_at zero n x e a = let is : d ≡ x = cc in subst (λ (y : Diagram). ReadsBelow T y n) is (subst (ReadsBelow T d) a reads)
    reads_at (suc q) n x e a = S.reads q n x e a
