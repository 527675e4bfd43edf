-- The families of mappings and what they allow, while the table and the sets grow.
use Rattle.std.proofs.Common.{◌≡◌, inl, inr, ℕ, zero, suc, ◌<◌, ◌==◌, Bool, true, false, ◌&&◌, ◌||◌, List, [], ◌∷◌, ◌++◌, length, replicate, slice_get, slice_set, Option, None, Some, IsSomeAnd, ◌+◌, refl, ap, sym, subst, ◌∙◌, arith, eqb-true}
use Rattle.std.specs.List.{list_any}
use Rattle.std.proofs.lemmas.Bool.{cases_eq}
use Rattle.std.proofs.lemmas.List.{length-set}
use Rattle.bool_diagrams.proofs.CallerLemmas.{holds_later, known_later}
use Rattle.bool_diagrams.specs.Cubes.{truth_rows, values_of}
use Rattle.bool_diagrams.specs.Rows.{IsDiagram, Keeps, ReadsBelow}
use Rattle.bool_diagrams.specs.Tree.{Tree as Rows}
use Rattle.bool_diagrams.specs.declared.diagram.Diagram.{Diagram}
use Rattle.cti_terms.specs.declared.predicates.Pred.{Pred}
use Rattle.cti_terms.specs.declared.predicates.PredId.{PredId}
use Rattle.number_tests.specs.Levels.{items_of}
use Rattle.precond_fixpoint.specs.Solving.{AreColumns, AreMappingSets, AreUnions, FitPredicate, IsColumn, allowed_family, pre_family}
use Rattle.termination_model.specs.grounds.Grounds.{HasArity}
use Rattle.termination_model.specs.mappings.View.{all_upper}
use Rattle.truth_rows.specs.Sets.{AreSets, family_of, has_row}
use Rattle.truth_rows.proofs.CallerLemmas.{family_later, reads_later, sets_later, sets_with}
use Rattle.truth_rows.proofs.ClaimLaws.{all_upper_same}
use Rattle.truth_rows.proofs.ListLaws.{set_elsewhere, set_there}
use Rattle.termination_model.proofs.Lists.{one_element, place_below}
use Rattle.truth_rows.proofs.SetLaws.{some_is}
use Rattle.precond_fixpoint.proofs.PlaceLaws.{items_at, items_same, some_at}
use Rattle.precond_fixpoint.proofs.StartLaws.{pushed_length}

any_none : {X : Type 0} → (f : X → Bool) (xs : List X) → ((x : X) → f x ≡ false) → list_any f xs ≡ false
any_none f [] h = refl
any_none f (x ∷ xs) h = (λ i. h x i || list_any f xs) ∙ any_none f xs h

upper_none : (row : List Bool) → all_upper (λ us. false) row ≡ false
upper_none [] = refl
upper_none (true ∷ row) = upper_none row
upper_none (false ∷ row) = (λ i. upper_none row i && all_upper (λ us. false) row)

any_same : {X : Type 0} → (f g : X → Bool) (xs : List X) → ((i : ℕ) (x : X) → slice_get xs i ≡ Some x → f x ≡ g x) → list_any f xs ≡ list_any g xs
any_same f g [] h = refl
any_same f g (x ∷ xs) h =
    let first = h 0 x refl in
    let rest = any_same f g xs (λ i y e. h (suc i) y e) in
    λ i. first i || rest i

-- a place before the last, where another predicate stands
pub earlier : (members : List PredId) (n : ℕ) (a : PredId) → slice_get members n ≡ Some a → (j : ℕ) (q : PredId) → j < n + 1 → slice_get members j ≡ Some q → ((q.0 ≡ a.0) → ⊥) → j < n
earlier members n a at j q lt e ne = elim (cases_eq j n) [
  | inl last ↦
      let f : slice_get members n ≡ Some q = ap (slice_get members) (sym last) ∙ e in
      let is : q ≡ a = one_element members n q a f at in
      absurd (ne (ap (λ (x : PredId). x.0) is))
  | inr before ↦ omega arith
]

module _ (T T2 : List Rows) (K : Keeps T T2) where
  pub row_later : (o : Option Pred) (b : Option Diagram) → ((d : Diagram) → b ≡ Some d → IsDiagram T d) → (row : List Bool) → has_row o T2 b row ≡ has_row o T b row
  row_later None b known row = refl
  row_later (Some x) None known row = refl
  row_later (Some x) (Some d) known row = ap (λ t. (x.arity == length row) && t) (holds_later T T2 d K (known d refl) (values_of row))

  -- the sets of a family, one of which is put anew, for other predicates
  pub family_elsewhere : (preds : List Pred) (sets : List Diagram) → ((r : ℕ) (d : Diagram) → slice_get sets r ≡ Some d → IsDiagram T d) → (q : ℕ) (d : Diagram) (r : ℕ) → ((r ≡ q) → ⊥)
      → family_of preds T2 (slice_set sets q d) r ≡ family_of preds T sets r
  family_elsewhere preds sets known q d r ne = λ i row.
      (ap (λ (o : Option Diagram). has_row (slice_get preds r) T2 o row) (set_elsewhere sets q r d ne)
      ∙ row_later (slice_get preds r) (slice_get sets r) (λ x e. known r x e) row) i

  pub upper_later : (o : Option Pred) (ds : List Diagram) → ((m : ℕ) (d : Diagram) → slice_get ds m ≡ Some d → IsDiagram T d) → (row : List Bool)
      → list_any (λ (d : Diagram). all_upper (has_row o T2 (Some d)) row) ds ≡ list_any (λ (d : Diagram). all_upper (has_row o T (Some d)) row) ds
  upper_later o ds known row =
      any_same (λ (d : Diagram). all_upper (has_row o T2 (Some d)) row) (λ (d : Diagram). all_upper (has_row o T (Some d)) row) ds
      (λ m d e. all_upper_same (has_row o T2 (Some d)) (has_row o T (Some d)) row (λ us l. row_later o (Some d) (λ x f. let same : d ≡ x = cc in subst (IsDiagram T) same (known m d e)) us))

  pub mapping_sets_later : (preds : List Pred) (sets : List (List Diagram)) → AreMappingSets preds T sets → AreMappingSets preds T2 sets
  mapping_sets_later preds sets S = record {
    each = S.each;
    known = λ q m d e. known_later T T2 d K (S.known q m d e);
    reads = λ q m n d e a. reads_later T T2 K d (S.known q m d e) n (S.reads q m n d e a);
  }

  module _ (preds : List Pred) (sets new : List (List Diagram)) (S : AreMappingSets preds T sets) (q : ℕ) (same : slice_get new q ≡ slice_get sets q) where
    -- a predicate whose sets stay
    pub allowed_after : allowed_family preds T2 new q ≡ allowed_family preds T sets q
    allowed_after = λ i row.
        (ap (λ (ds : List Diagram). list_any (λ (d : Diagram). all_upper (has_row (slice_get preds q) T2 (Some d)) row) ds) (items_same new sets q same)
        ∙ upper_later (slice_get preds q) (items_of sets q) (λ m d e. S.known q m d e) row) i

    pub pre_after : (m : ℕ) → pre_family preds T2 new m q ≡ pre_family preds T sets m q
    pre_after m = λ i row.
        (ap (λ (ds : List Diagram). has_row (slice_get preds q) T2 (slice_get ds m) row) (items_same new sets q same)
        ∙ row_later (slice_get preds q) (slice_get (items_of sets q) m) (λ d e. S.known q m d e) row) i
    -- the set of a predicate, in a family of an earlier table

  pub column_row : (preds : List Pred) (families sets : List (List Diagram)) (q m : ℕ) (family : List Diagram) → ((d : Diagram) → slice_get family q ≡ Some d → IsDiagram T d)
      → slice_get families m ≡ Some family → IsColumn families q (items_of sets q) → family_of preds T family q ≡ pre_family preds T2 sets m q
  column_row preds families sets q m family known at column = λ i row.
      (sym (row_later (slice_get preds q) (slice_get family q) known row)
      ∙ ap (λ (b : Option Diagram). has_row (slice_get preds q) T2 b row) (sym (column.at m family at))) i

  -- the sets of one more predicate, and what they allow
  module _ (preds : List Pred) (sets : List (List Diagram)) (allowed : List Diagram) (S : AreMappingSets preds T sets) (U : AreUnions preds T sets allowed)
      (q : ℕ) (x : Pred) (at : slice_get preds q ≡ Some x) (own : List Diagram)
      (known : (m : ℕ) (d : Diagram) → slice_get own m ≡ Some d → IsDiagram T d)
      (reads : (m : ℕ) (d : Diagram) → slice_get own m ≡ Some d → ReadsBelow T d x.arity) where
    abbrev put : List (List Diagram)
    put = slice_set sets q own

    below : q < length sets
    below = let lt = place_below preds q x at in omega (arith, S.each)

    own_there : items_of (slice_set sets q own) q ≡ own
    own_there = items_at (slice_set sets q own) q own (set_there sets q own below)

    elsewhere : (r : ℕ) → ((r ≡ q) → ⊥) → items_of (slice_set sets q own) r ≡ items_of sets r
    elsewhere r other = items_same (slice_set sets q own) sets r (set_elsewhere sets q r own other)

    arity_of_own : (n : ℕ) → HasArity preds q n → x.arity ≡ n
    arity_of_own n a = let w = some_is (λ (y : Pred). y.arity ≡ n) (slice_get preds q) a in let same : x ≡ w.0 = cc in ap (λ (y : Pred). y.arity) same ∙ w.2

    pub put_sets : AreMappingSets preds T2 (slice_set sets q own)
    put_sets = record {
      each = length-set sets q own ∙ S.each;
      known = λ r m d e. elim (cases_eq r q) [
        | inl same ↦ known_later T T2 d K (known m d (sym (ap (λ (ds : List Diagram). slice_get ds m) (ap (items_of (slice_set sets q own)) same ∙ own_there)) ∙ e))
        | inr other ↦ known_later T T2 d K (S.known r m d (sym (ap (λ (ds : List Diagram). slice_get ds m) (elsewhere r other)) ∙ e))
      ];
      reads = λ r m n d e a. elim (cases_eq r q) [
        | inl same ↦
            let f : slice_get own m ≡ Some d = sym (ap (λ (ds : List Diagram). slice_get ds m) (ap (items_of (slice_set sets q own)) same ∙ own_there)) ∙ e in
            reads_later T T2 K d (known m d f) n (subst (ReadsBelow T d) (arity_of_own n (subst (λ j. HasArity preds j n) same a)) (reads m d f))
        | inr other ↦
            let f : slice_get (items_of sets r) m ≡ Some d = sym (ap (λ (ds : List Diagram). slice_get ds m) (elsewhere r other)) ∙ e in
            reads_later T T2 K d (S.known r m d f) n (S.reads r m n d f a)
      ];
    }

    module _ (upper : Diagram) (is : IsDiagram T2 upper) (narrow : ReadsBelow T2 upper x.arity)
        (rows : (row : List Bool) → length row ≡ x.arity → truth_rows T2 upper row ≡ list_any (λ (s : Diagram). all_upper (truth_rows T s) row) own) where
      -- the rows of the arity, and no others
      union_rows : (row : List Bool) → has_row (Some x) T2 (Some upper) row ≡ list_any (λ (d : Diagram). all_upper (has_row (Some x) T2 (Some d)) row) own
      union_rows row = go (x.arity == length row) refl
        where
          long_as : (us : List Bool) → length us ≡ length row → (x.arity == length us) ≡ (x.arity == length row)
          long_as us l = ap (λ n. x.arity == n) l

          go : (t : Bool) → (x.arity == length row) ≡ t → has_row (Some x) T2 (Some upper) row ≡ list_any (λ (d : Diagram). all_upper (has_row (Some x) T2 (Some d)) row) own
          go true e =
              (λ i. e i && truth_rows T2 upper row)
              ∙ rows row (sym (eqb-true x.arity (length row) e))
              ∙ any_same (λ (s : Diagram). all_upper (truth_rows T s) row) (λ (d : Diagram). all_upper (has_row (Some x) T2 (Some d)) row) own
              (λ m d f. all_upper_same (truth_rows T d) (has_row (Some x) T2 (Some d)) row
              (λ us l. sym (holds_later T T2 d K (known m d f) (values_of us)) ∙ (λ i. sym (long_as us l ∙ e) i && truth_rows T2 d us)))
          go false e =
              (λ i. e i && truth_rows T2 upper row)
              ∙ sym (any_none (λ (d : Diagram). all_upper (has_row (Some x) T2 (Some d)) row) own
              (λ d. all_upper_same (has_row (Some x) T2 (Some d)) (λ us. false) row (λ us l. (λ i. (long_as us l ∙ e) i && truth_rows T2 d us)) ∙ upper_none row))

      own_rows : (row : List Bool) → family_of preds T2 (slice_set allowed q upper) q row ≡ allowed_family preds T2 (slice_set sets q own) q row
      own_rows row =
          let lt = place_below preds q x at in
          let put_there : slice_get (slice_set allowed q upper) q ≡ Some upper = set_there allowed q upper (omega (arith, U.sets.each)) in
          (λ i. has_row (at i) T2 (put_there i) row)
          ∙ union_rows row
          ∙ (λ i. list_any (λ (d : Diagram). all_upper (has_row (sym at i) T2 (Some d)) row) (sym own_there i))

      other_rows : (r : ℕ) → ((r ≡ q) → ⊥) → (row : List Bool) → family_of preds T2 (slice_set allowed q upper) r row ≡ allowed_family preds T2 (slice_set sets q own) r row
      other_rows r other row =
          ap (λ (b : Option Diagram). has_row (slice_get preds r) T2 b row) (set_elsewhere allowed q r upper other)
          ∙ row_later (slice_get preds r) (slice_get allowed r) (λ d e. U.sets.known r d e) row
          ∙ (λ i. U.rows i r row)
          ∙ sym (λ i. allowed_after preds sets (slice_set sets q own) S r (set_elsewhere sets q r own other) i row)

      each_row : (r : ℕ) (row : List Bool) → family_of preds T2 (slice_set allowed q upper) r row ≡ allowed_family preds T2 (slice_set sets q own) r row
      each_row r row = elim (cases_eq r q) [
        | inl same ↦ subst (λ j. family_of preds T2 (slice_set allowed q upper) j row ≡ allowed_family preds T2 (slice_set sets q own) j row) (sym same) (own_rows row)
        | inr other ↦ other_rows r other row
      ]

      pub put_unions : AreUnions preds T2 (slice_set sets q own) (slice_set allowed q upper)
      put_unions = record {
        sets = let lt = place_below preds q x at in
            sets_with preds T2 allowed (sets_later preds T T2 K allowed U.sets) q upper (omega (arith, U.sets.each)) is
            (λ n a. subst (ReadsBelow T2 upper) (arity_of_own n a) narrow);
        rows = λ i r row. each_row r row i;
      }

-- what the members so far have, and one more
pub columns_more : (families : List (List Diagram)) (members : List PredId) (n : ℕ) (a : PredId) → slice_get members n ≡ Some a → (old new : List (List Diagram))
    → ((q : ℕ) → ((q ≡ a.0) → ⊥) → slice_get new q ≡ slice_get old q) → IsColumn families a.0 (items_of new a.0)
    → ((j : ℕ) (q : PredId) → j < n → slice_get members j ≡ Some q → IsColumn families q.0 (items_of old q.0))
    → (j : ℕ) (q : PredId) → j < n + 1 → slice_get members j ≡ Some q → IsColumn families q.0 (items_of new q.0)
columns_more families members n a at old new other here before j q lt e = elim (cases_eq q.0 a.0) [
  | inl same ↦ subst (λ (k : ℕ). IsColumn families k (items_of new k)) (sym same) here
  | inr ne ↦
      subst (λ (ds : List Diagram). IsColumn families q.0 ds) (sym (items_same new old q.0 (other q.0 ne))) (before j q (earlier members n a at j q lt e ne) e)
]

-- unions of sets stay unions
pub unions_later : (preds : List Pred) (T T2 : List Rows) → Keeps T T2 → (sets : List (List Diagram)) → AreMappingSets preds T sets → (allowed : List Diagram) → AreUnions preds T sets allowed → AreUnions preds T2 sets allowed
unions_later preds T T2 K sets S allowed U = record {
  sets = sets_later preds T T2 K allowed U.sets;
  rows = family_later preds T T2 K allowed U.sets.known ∙ U.rows ∙ sym (λ i q. allowed_after T T2 K preds sets sets S q refl i);
}

-- an arity by its predicate
pub has_arity : (preds : List Pred) (q : ℕ) (x : Pred) → slice_get preds q ≡ Some x → HasArity preds q x.arity
has_arity preds q x e = subst (λ (o : Option Pred). IsSomeAnd o (λ y. y.arity ≡ x.arity)) (sym e) refl

-- the diagrams of a column are those of the families
module _ (preds : List Pred) (T : List Rows) (families : List (List Diagram)) (are : (m : ℕ) (family : List Diagram) → slice_get families m ≡ Some family → AreSets preds T family)
    (q : ℕ) (own : List Diagram) (column : IsColumn families q own) where
  pub in_family : (m : ℕ) (d : Diagram) → slice_get own m ≡ Some d → (family : List Diagram) × (slice_get families m ≡ Some family) × (slice_get family q ≡ Some d)
  in_family m d e =
      let lt = place_below own m d e in
      let f = some_at families m (omega (arith, column.each, lt)) in
      (f.0, f.1, sym (column.at m f.0 f.1) ∙ e)

  pub column_known : (m : ℕ) (d : Diagram) → slice_get own m ≡ Some d → IsDiagram T d
  column_known m d e = let f = in_family m d e in (are m f.0 f.1).known q d f.2

  pub column_reads : (x : Pred) → slice_get preds q ≡ Some x → (m : ℕ) (d : Diagram) → slice_get own m ≡ Some d → ReadsBelow T d x.arity
  column_reads x at m d e = let f = in_family m d e in (are m f.0 f.1).reads q x.arity d f.2 (has_arity preds q x at)

-- a set more at the end of a column
module _ (q : ℕ) (set : List Diagram) (d : Diagram) (there : slice_get set q ≡ Some d) where
  longer : (families : List (List Diagram)) (own : List Diagram) → length own ≡ length families → ((m : ℕ) (family : List Diagram) → slice_get families m ≡ Some family → slice_get own m ≡ slice_get family q)
      → (m : ℕ) (family : List Diagram) → slice_get (families ++ set ∷ []) m ≡ Some family → slice_get (own ++ d ∷ []) m ≡ slice_get family q
  longer [] [] each at zero family e = let is : set ≡ family = cc in sym there ∙ ap (λ (ds : List Diagram). slice_get ds q) is
  longer [] [] each at (suc m) family e = cc
  longer [] (x ∷ own) each at m family e = absurd (omega arith)
  longer (f ∷ families) [] each at m family e = absurd (omega arith)
  longer (f ∷ families) (x ∷ own) each at zero family e = at 0 family e
  longer (f ∷ families) (x ∷ own) each at (suc m) family e = longer families own (omega arith) (λ k g h. at (suc k) g h) m family e

  pub column_longer : (families : List (List Diagram)) (own : List Diagram) → IsColumn families q own → IsColumn (families ++ set ∷ []) q (own ++ d ∷ [])
  column_longer families own column = record {
    each = pushed_length own d ∙ ap (λ n. n + 1) column.each ∙ sym (pushed_length families set);
    at = longer families own column.each column.at;
  }

-- columns of no families
pub empty_columns : (members : List PredId) (n : ℕ) → AreColumns [] members (replicate n [])
empty_columns members n j a own at e = let is = empty n j own e in subst (IsColumn [] a.0) is (record { each = refl; at = λ m family f. cc })
  where
    empty : (n j : ℕ) (own : List Diagram) → slice_get (replicate n []) j ≡ Some own → [] ≡ own
    empty zero j own e = cc
    empty (suc n) zero own e = cc
    empty (suc n) (suc j) own e = empty n j own e

-- what fits a predicate in later tables
pub fit_later : (preds : List Pred) (T T2 : List Rows) → Keeps T T2 → (q : ℕ) (own : List Diagram) → FitPredicate preds T q own → FitPredicate preds T2 q own
fit_later preds T T2 K q own fit = record {
  known = λ m d e. known_later T T2 d K (fit.known m d e);
  reads = λ m d x e at. reads_later T T2 K d (fit.known m d e) x.arity (fit.reads m d x e at);
}
