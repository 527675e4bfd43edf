-- Diagrams that have the rows which cubes cover.
use Rattle.std.proofs.Common.{◌≡◌, inl, inr, ℕ, ◌<◌, ◌≤◌, ◌==◌, Bool, true, false, ◌&&◌, ◌||◌, List, [], ◌∷◌, length, slice_get, slice_index_or, Option, None, Some, option_map, unwrap_or, refl, ap, sym, subst, ◌∙◌, arith, eqb-true}
use Rattle.std.specs.List.{list_any}
use Rattle.std.proofs.lemmas.Bool.{cases_lt}
use Rattle.truth_rows.specs.Sets.{AreSets, family_of, has_row}
use Rattle.truth_rows.proofs.CallerLemmas.{reads_later, sets_later}
use Rattle.truth_rows.proofs.ClaimLaws.{all_upper_same}
use Rattle.termination_model.proofs.Lists.{by_places, place_below, there}
use Rattle.truth_rows.proofs.SetLaws.{none, some_is}
use Rattle.bool_diagrams.proofs.CallerLemmas.{holds_later, known_later}
use Rattle.bool_diagrams.specs.Cubes.{covered, truth_rows, values_of}
use Rattle.bool_diagrams.specs.Rows.{IsDiagram, Keeps, ReadsBelow}
use Rattle.bool_diagrams.specs.Tree.{Tree as Rows}
use Rattle.bool_diagrams.specs.declared.cube.Cell.{Cell}
use Rattle.bool_diagrams.specs.declared.diagram.Diagram.{Diagram}
use Rattle.cert_structure.specs.Shape.{arity_in, items_of}
use Rattle.cti_terms.specs.Listing.{IsProgram, Listing}
use Rattle.cti_terms.specs.declared.predicates.Pred.{Pred}
use Rattle.termination_model.specs.grounds.Grounds.{Family}
use Rattle.termination_model.specs.mappings.View.{all_upper}
use Rattle.cert_modes.specs.Modes.{cube_row, is_row}
use Rattle.cert_modes.specs.Sets.{AllSpelled, AreMappingSets, AreReady, AreSpelled, HasRows, HaveRows, mapping_family, upward}
use Rattle.cert_modes.specs.declared.sets.Sets.{Sets}
use Rattle.cert_modes.proofs.PlaceLaws.{any_same, items_at, nothing_at}

pub arity_at : (p : Listing) (q : ℕ) (d : Pred) → slice_get p.preds q ≡ Some d → arity_in p q ≡ d.arity
arity_at p q d e = ap (λ o. unwrap_or (option_map (λ (x : Pred). x.arity) o) 0) e

pub arity_few : (p : Listing) → IsProgram p → (q : ℕ) (d : Pred) → slice_get p.preds q ≡ Some d → d.arity ≤ 12
arity_few p program q d e = by_places (λ (x : Pred). x.arity ≤ 12) p.preds program.arities q d e

-- while the table grows
module _ (T T2 : List Rows) (K : Keeps T T2) where
  pub has_later : (width : ℕ) (set : List Bool → Bool) (d : Diagram) → HasRows T width set d → HasRows T2 width set d
  has_later width set d h = record {
    known = known_later T T2 d K h.known;
    reads = reads_later T T2 K d h.known width h.reads;
    rows = λ row long. holds_later T T2 d K h.known (values_of row) ∙ h.rows row long;
  }

  pub spelled_later : (width : ℕ) (cubes : List (List (List Cell))) (sets : List Diagram) → AreSpelled T width cubes sets → AreSpelled T2 width cubes sets
  spelled_later width cubes sets s = record { each = s.each; rows = λ m d e. has_later width (covered (items_of cubes m)) d (s.rows m d e) }

  pub have_later : (p : Listing) (family : Family) (sets : List Diagram) → HaveRows p T family sets → HaveRows p T2 family sets
  have_later p family sets h = record { each = h.each; rows = λ q d e. has_later (arity_in p q) (family q) d (h.rows q d e) }

  pub all_later : (p : Listing) (cubes : List (List (List (List Cell)))) (sets : List (List Diagram)) → AllSpelled p T cubes sets → AllSpelled p T2 cubes sets
  all_later p cubes sets s = record { each = s.each; rows = λ q ds e. spelled_later (arity_in p q) (items_of cubes q) ds (s.rows q ds e) }

  pub mappings_later : (p : Listing) (sets : List (List Diagram)) → AreMappingSets p T sets → AreMappingSets p T2 sets
  mappings_later p sets s = record {
    each = s.each;
    known = λ q m d e. known_later T T2 d K (s.known q m d e);
    reads = λ q m d e. reads_later T T2 K d (s.known q m d e) (arity_in p q) (s.reads q m d e);
  }

  pub upward_later : (sets : List Diagram) → ((m : ℕ) (d : Diagram) → slice_get sets m ≡ Some d → IsDiagram T d) → (row : List Bool) → upward T2 sets row ≡ upward T sets row
  upward_later sets known row = any_same (λ d. all_upper (truth_rows T2 d) row) (λ d. all_upper (truth_rows T d) row) sets sets refl (λ m x y e f.
      let same : x ≡ y = cc in
      (λ k. all_upper (λ us. holds_later T T2 x K (known m x e) (values_of us) k) row) ∙ ap (λ d. all_upper (truth_rows T d) row) same)

  pub ready_later : (p : Listing) (sets : Sets) → AreReady p T sets → AreReady p T2 sets
  ready_later p sets r = record {
    grounds = sets_later p.preds T T2 K sets.grounds.items r.grounds;
    allowed = sets_later p.preds T T2 K sets.allowed.items r.allowed;
    preconditions = mappings_later p sets.preconditions r.preconditions;
    none = known_later T T2 sets.none K r.none;
    no_rows = λ row. holds_later T T2 sets.none K r.none row ∙ r.no_rows row;
  }

-- the rows of a diagram, where there is one
rows_or_none : List Rows → Option Diagram → List Bool → Bool
rows_or_none T None row = false
rows_or_none T (Some d) row = truth_rows T d row

row_as : (T : List Rows) (o : Option Pred) (b : Option Diagram) (set : List Bool → Bool) (row : List Bool)
    → ((d : Pred) → o ≡ Some d → d.arity ≡ length row → rows_or_none T b row ≡ set row) → has_row o T b row ≡ (is_row o row && set row)
unfolding rows_or_none
row_as T None b set row h = refl
row_as T (Some d) b set row h = go (d.arity == length row) refl b (λ e. h d refl e)
  where
    go : (t : Bool) → (d.arity == length row) ≡ t → (b : Option Diagram) → (d.arity ≡ length row → rows_or_none T b row ≡ set row) → has_row (Some d) T b row ≡ ((d.arity == length row) && set row)
    go true e None h = h (eqb-true d.arity (length row) e) ∙ (λ i. sym e i && set row)
    go true e (Some x) h = λ i. (d.arity == length row) && h (eqb-true d.arity (length row) e) i
    go false e None h = λ i. sym e i && set row
    go false e (Some x) h = (λ i. e i && truth_rows T x row) ∙ (λ i. sym e i && set row)

-- a row of a predicate
pub row_of : (o : Option Pred) (row : List Bool) → is_row o row ≡ true → (d : Pred) × (o ≡ Some d) × (d.arity ≡ length row)
row_of None row e = cc
row_of (Some d) row e = (d, refl, eqb-true d.arity (length row) e)

pub is_row_long : (o : Option Pred) (us row : List Bool) → length us ≡ length row → is_row o us ≡ is_row o row
is_row_long None us row l = refl
is_row_long (Some d) us row l = ap (λ n. d.arity == n) l

pub any_none : {X : Type 0} → (f : X → Bool) (xs : List X) → ((x : X) → f x ≡ false) → list_any f xs ≡ false
any_none f [] h = refl
any_none f (x ∷ xs) h = (λ i. h x i || list_any f xs) ∙ any_none f xs h

pub upper_none : (row : List Bool) → all_upper (λ us. false) row ≡ false
upper_none [] = refl
upper_none (true ∷ row) = upper_none row
upper_none (false ∷ row) = (λ i. upper_none row i && all_upper (λ us. false) row)

module _ (p : Listing) (T : List Rows) where
  -- the sets of predicates, and their family
  module _ (family : Family) (sets : List Diagram) (H : HaveRows p T family sets) where
    pub are_sets : AreSets p.preds T sets
    are_sets = record {
      each = H.each;
      known = λ q d e. (H.rows q d e).known;
      reads = λ q n d e a.
          let w = some_is (λ (x : Pred). x.arity ≡ n) (slice_get p.preds q) a in
          subst (ReadsBelow T d) (arity_at p q w.0 w.1 ∙ w.2) (H.rows q d e).reads;
    }

    pub family_is : (q : ℕ) (row : List Bool) → family_of p.preds T sets q row ≡ (is_row (slice_get p.preds q) row && family q row)
    unfolding rows_or_none
    family_is q row = row_as T (slice_get p.preds q) (slice_get sets q) (family q) row (λ d at long.
        let lt = place_below p.preds q d at in
        let x = slice_index_or sets q none in
        let f = there sets q none (omega (arith, H.each, lt)) in
        ap (λ o. rows_or_none T o row) f ∙ (H.rows q x f).rows row (sym long ∙ sym (arity_at p q d at)))

  module _ (cubes : List (List (List (List Cell)))) (sets : List (List Diagram)) (S : AllSpelled p T cubes sets) (each : length cubes ≡ length p.preds) where
    -- the sets of a predicate
    spelled : (q : ℕ) → q < length p.preds → AreSpelled T (arity_in p q) (items_of cubes q) (items_of sets q)
    spelled q lt =
        let f = there sets q [] (omega (arith, S.each)) in
        subst (AreSpelled T (arity_in p q) (items_of cubes q)) (sym (items_at sets q (slice_index_or sets q []) f)) (S.rows q (slice_index_or sets q []) f)

    inside : (q m : ℕ) (d : Diagram) → slice_get (items_of sets q) m ≡ Some d → q < length p.preds
    inside q m d e = elim (cases_lt q (length p.preds)) [
      | inl lt ↦ lt
      | inr ge ↦
          let f : slice_get sets q ≡ None = nothing_at sets q (λ lt. omega (arith, S.each, lt, ge)) in
          let g : items_of sets q ≡ [] = ap (λ o. unwrap_or o []) f in
          let x : None ≡ Some d = sym (ap (λ ds. slice_get ds m) g) ∙ e in
          cc
    ]

    pub mapping_sets : AreMappingSets p T sets
    mapping_sets = record {
      each = S.each;
      known = λ q m d e. ((spelled q (inside q m d e)).rows m d e).known;
      reads = λ q m d e. ((spelled q (inside q m d e)).rows m d e).reads;
    }

    -- as many sets as mappings
    pub mapping_count : (q : ℕ) → length (items_of sets q) ≡ length (items_of cubes q)
    mapping_count q = elim (cases_lt q (length p.preds)) [
      | inl lt ↦ (spelled q lt).each
      | inr ge ↦
          let f : slice_get sets q ≡ None = nothing_at sets q (λ lt. omega (arith, S.each, lt, ge)) in
          let g : slice_get cubes q ≡ None = nothing_at cubes q (λ lt. omega (arith, each, lt, ge)) in
          ap (λ o. length (unwrap_or o [])) f ∙ sym (ap (λ o. length (unwrap_or o [])) g)
    ]

    -- the family of a mapping
    pub mapping_is : (m q : ℕ) (row : List Bool) → mapping_family p.preds T sets m q row ≡ cube_row p q (items_of (items_of cubes q) m) row
    unfolding rows_or_none
    mapping_is m q row = row_as T (slice_get p.preds q) (slice_get (items_of sets q) m) (covered (items_of (items_of cubes q) m)) row (λ d at long.
        let s = spelled q (place_below p.preds q d at) in
        go s d at long (slice_get (items_of sets q) m) refl)
      where
        go : AreSpelled T (arity_in p q) (items_of cubes q) (items_of sets q) → (d : Pred) → slice_get p.preds q ≡ Some d → d.arity ≡ length row
            → (o : Option Diagram) → slice_get (items_of sets q) m ≡ o → rows_or_none T o row ≡ covered (items_of (items_of cubes q) m) row
        go s d at long None e =
            let past : slice_get (items_of cubes q) m ≡ None = nothing_at (items_of cubes q) m (λ lt.
            let f = there (items_of sets q) m none (omega (arith, s.each, lt)) in
            let x : None ≡ Some (slice_index_or (items_of sets q) m none) = sym e ∙ f in
            cc) in
            sym (ap (λ o. covered (unwrap_or o []) row) past)
        go s d at long (Some x) e = (s.rows m x e).rows row (sym long ∙ sym (arity_at p q d at))

    -- the family of what is allowed
    pub allowed_is : (q : ℕ) (row : List Bool) → (is_row (slice_get p.preds q) row && upward T (items_of sets q) row) ≡ list_any (λ cs. all_upper (cube_row p q cs) row) (items_of cubes q)
    allowed_is q row = go (is_row (slice_get p.preds q) row) refl
      where
        go : (t : Bool) → is_row (slice_get p.preds q) row ≡ t → (is_row (slice_get p.preds q) row && upward T (items_of sets q) row) ≡ list_any (λ cs. all_upper (cube_row p q cs) row) (items_of cubes q)
        go true e =
            let w = row_of (slice_get p.preds q) row e in
            let long : length row ≡ arity_in p q = sym w.2 ∙ sym (arity_at p q w.0 w.1) in
            let s = spelled q (place_below p.preds q w.0 w.1) in
            (λ i. e i && upward T (items_of sets q) row)
            ∙ any_same (λ d. all_upper (truth_rows T d) row) (λ cs. all_upper (cube_row p q cs) row) (items_of sets q) (items_of cubes q) s.each (λ m d cs f g.
            all_upper_same (truth_rows T d) (cube_row p q cs) row (λ us l.
            (s.rows m d f).rows us (l ∙ long)
            ∙ ap (λ x. covered x us) (items_at (items_of cubes q) m cs g)
            ∙ (λ i. sym (is_row_long (slice_get p.preds q) us row l ∙ e) i && covered cs us)))
        go false e =
            (λ i. e i && upward T (items_of sets q) row)
            ∙ sym (any_none (λ cs. all_upper (cube_row p q cs) row) (items_of cubes q) (λ cs.
            all_upper_same (cube_row p q cs) (λ us. false) row (λ us l. (λ i. (is_row_long (slice_get p.preds q) us row l ∙ e) i && covered cs us)) ∙ upper_none row))
