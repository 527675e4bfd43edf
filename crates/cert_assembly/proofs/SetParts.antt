-- The sets that the engines give are those of exact modes.
use Rattle.std.proofs.Common.{◌≡◌, ℕ, zero, suc, ◌+◌, ◌<◌, ◌≤◌, ◌==◌, ◌&&◌, ◌||◌, ℤ, pos, negsuc, Bool, true, false, List, [], ◌∷◌, length, map, slice_get, Some, None, Option, ◌⊎◌, inl, inr, refl, ap, sym, subst, ◌∙◌, arith, eqb-true}
use Rattle.std.specs.Prelude.{unwrap_or}
use Rattle.std.specs.List.{list_any}
use Rattle.std.proofs.lemmas.Bool.Decides.{nat_tests}
use Rattle.std.proofs.lemmas.List.{length-map}
use Rattle.bool_diagrams.proofs.CubeLemmas.{covered-cubes, cubes_at}
use Rattle.bool_diagrams.specs.Cubes.{covered, cubes, truth_rows}
use Rattle.bool_diagrams.specs.Tree.{Tree as Rows}
use Rattle.bool_diagrams.specs.declared.cube.Cell.{Cell}
use Rattle.bool_diagrams.specs.declared.diagram.Diagram.{Diagram}
use Rattle.call_components.specs.Partition.{AreComponents, IsIn, Partition}
use Rattle.cert_modes.specs.Modes.{allowed, coefficients_of, cube_row, grounds_of, is_row, natural, naturals}
use Rattle.cert_structure.specs.Shape.{items_of}
use Rattle.cert_structure.specs.declared.parts.Parts.{Parts}
use Rattle.cti_terms.specs.Listing.{Listing}
use Rattle.cti_terms.specs.Tree.{Tree}
use Rattle.cti_terms.specs.declared.predicates.Pred.{Pred}
use Rattle.linear_rows.specs.Step.{columns}
use Rattle.number_tests.specs.Levels as parted
use Rattle.number_tests.specs.declared.level_part.LevelPart.{LevelPart}
use Rattle.precond_fixpoint.specs.Greatest.{IsGreatestIn}
use Rattle.precond_fixpoint.specs.Solving as solving
use Rattle.precond_fixpoint.specs.Solving.{allowed_family, arguments_of, pre_family}
use Rattle.precond_fixpoint.specs.declared.mode.Mode.{Mode}
use Rattle.termination_model.proofs.Lists.{mapped_place, place_below}
use Rattle.termination_model.specs.grounds.Grounds.{Family}
use Rattle.termination_model.specs.grounds.Modes.{modes}
use Rattle.termination_model.specs.mappings.View.{all_upper}
use Rattle.truth_rows.specs.Sets.{family_of, has_row}
use Rattle.cert_assembly.specs.Assembly.{PartsAreSpelled, SetsAreSolved}
use Rattle.cert_assembly.specs.ExactModes.{AreCounted, ModesAreExact, is_member}
use Rattle.cert_assembly.specs.Spelled.{mode_lists, spelled, spelled_each, spelled_lists}
use Rattle.cert_assembly.proofs.ModeLaws.{item_is, there}

-- ---- lists by number
length_columns : (k n : ℕ) → length (columns k n) ≡ n
length_columns k zero = refl
length_columns k (suc n) = ap suc (length_columns (suc k) n)

pub mapped_count : {X : Type 0} (f : ℕ → X) (n : ℕ) → length (map f (columns 0 n)) ≡ n
mapped_count f n = length-map (columns 0 n) f ∙ length_columns 0 n

mapped_from : {X : Type 0} (f : ℕ → X) (k n i : ℕ) → i < n → slice_get (map f (columns k n)) i ≡ Some (f (k + i))
mapped_from f k zero i less = absurd (omega arith)
mapped_from f k (suc n) zero less = let same : k ≡ k + 0 = omega arith in ap (λ m. Some (f m)) same
mapped_from f k (suc n) (suc i) less = let same : suc k + i ≡ k + suc i = omega arith in mapped_from f (suc k) n i (omega arith) ∙ ap (λ m. Some (f m)) same

pub mapped_at : {X : Type 0} (f : ℕ → X) (n i : ℕ) → i < n → slice_get (map f (columns 0 n)) i ≡ Some (f i)
mapped_at f n i less = let same : 0 + i ≡ i = omega arith in mapped_from f 0 n i less ∙ ap (λ m. Some (f m)) same

past : {X : Type 0} (xs : List X) (i : ℕ) → length xs ≤ i → slice_get xs i ≡ None
past [] i l = refl
past (x ∷ xs) zero l = absurd (omega arith)
past (x ∷ xs) (suc i) l = past xs i (omega arith)

pub listed_past : {X : Type 0} (xss : List (List X)) (i : ℕ) → length xss ≤ i → items_of xss i ≡ []
listed_past xss i l = ap (λ o. unwrap_or o []) (past xss i l)

pub listed_at : {X : Type 0} (f : ℕ → List X) (n i : ℕ) → i < n → items_of (map f (columns 0 n)) i ≡ f i
listed_at f n i less = ap (λ o. unwrap_or o []) (mapped_at f n i less)

pub below_or : (i n : ℕ) → (i < n) ⊎ (n ≤ i)
below_or i n = grind arith

any_mapped : {X Y : Type 0} (f : Y → Bool) (g : X → Y) (xs : List X) → list_any f (map g xs) ≡ list_any (λ x. f (g x)) xs
any_mapped f g [] = refl
any_mapped f g (x ∷ xs) = ap (λ b. f (g x) || b) (any_mapped f g xs)

-- ---- the same words
natural_same : (z : ℤ) → parted.natural z ≡ natural z
natural_same (pos n) = refl
natural_same (negsuc n) = refl

all_natural : (zs : List ℤ) → map parted.natural zs ≡ map natural zs
all_natural [] = refl
all_natural (z ∷ zs) = let a = natural_same z in let b = all_natural zs in λ i. a i ∷ b i

naturals_same : (o : Option LevelPart) → parted.naturals o ≡ naturals o
naturals_same None = refl
naturals_same (Some l) = all_natural l.coeffs

-- ---- the rows of spelled sets
spelled_rows : (x : Option Pred) (trees : List Rows) (d : Option Diagram) (row : List Bool) → (is_row x row && covered (spelled x trees d) row) ≡ has_row x trees d row
spelled_rows None trees d row = refl
spelled_rows (Some x) trees None row = none (x.arity == length row)
  where
    none : (b : Bool) → (b && false) ≡ false
    none true = refl
    none false = refl
spelled_rows (Some x) trees (Some d) row = go (x.arity == length row) refl
  where
    go : (b : Bool) → (x.arity == length row) ≡ b → (b && covered (cubes x.arity (truth_rows trees d)) row) ≡ (b && truth_rows trees d row)
    go true e = let same = eqb-true x.arity (length row) e in covered-cubes x.arity (truth_rows trees d) row (sym same)
    go false e = refl

-- ---- cubes of a family
and_here : (a b : Bool) → a ≡ true → b ≡ (a && b)
and_here true b h = refl
and_here false b h = cc

same_number : (m n : ℕ) → n ≡ m → (m == n) ≡ true
same_number m n h = grind (arith, nat_tests)

family_cubes : (o : Option Pred) (x : Pred) → o ≡ Some x → (trees : List Rows) (s : Option Diagram) (d : Diagram) → s ≡ Some d → spelled o trees s ≡ cubes x.arity (has_row o trees s)
family_cubes o x e trees s d f = subst (λ (o : Option Pred). spelled o trees s ≡ cubes x.arity (has_row o trees s)) (sym e) (subst (λ (s : Option Diagram). spelled (Some x) trees s ≡ cubes x.arity (has_row (Some x) trees s)) (sym f) here)
  where
    here : spelled (Some x) trees (Some d) ≡ cubes x.arity (has_row (Some x) trees (Some d))
    here = cubes_at x.arity (truth_rows trees d) (has_row (Some x) trees (Some d)) (λ row long. and_here (x.arity == length row) (truth_rows trees d row) (same_number x.arity (length row) long))

module _ (truth : (ℕ → Bool) → Tree → Bool) (p : Listing) (comps : Partition) (parts : Parts) (levels : List (List LevelPart)) (first last : List Rows) (grounds : List Diagram) (sets : List (List Diagram)) (lists : List (List Mode))
    (components : AreComponents p comps) (solved : SetsAreSolved truth p comps levels first last grounds sets lists) (parts_are : PartsAreSpelled p parts levels first last grounds sets lists) where
  abbrev n : ℕ
  n = length p.preds

  -- ---- ground rows
  grounds_at : (q : ℕ) → q < n → items_of parts.grounds q ≡ spelled (slice_get p.preds q) first (slice_get grounds q)
  grounds_at q less = ap (λ (xs : List (List (List Cell))). items_of xs q) parts_are.grounds_are ∙ listed_at (λ q. spelled (slice_get p.preds q) first (slice_get grounds q)) n q less

  ground_row : (q : ℕ) (row : List Bool) → grounds_of p parts q row ≡ family_of p.preds first grounds q row
  ground_row q row = elim (below_or q n) [
    | inl less ↦ ap (λ (cs : List (List Cell)). is_row (slice_get p.preds q) row && covered cs row) (grounds_at q less) ∙ spelled_rows (slice_get p.preds q) first (slice_get grounds q) row
    | inr le ↦ none (slice_get p.preds q) (past p.preds q le)
  ]
    where
      none : (o : Option Pred) → o ≡ None → (is_row o row && covered (items_of parts.grounds q) row) ≡ has_row o first (slice_get grounds q) row
      none None e = refl
      none (Some x) e = cc

  ground_family : grounds_of p parts ≡ family_of p.preds first grounds
  ground_family = λ i q row. ground_row q row i

  ground_spelled : (q : ℕ) (x : Pred) → slice_get p.preds q ≡ Some x → items_of parts.grounds q ≡ cubes x.arity (family_of p.preds first grounds q)
  ground_spelled q x e =
      let less = place_below p.preds q x e in
      let long = solved.ground_sets.each in
      let d = there grounds q (omega arith) in
      grounds_at q less ∙ family_cubes (slice_get p.preds q) x e first (slice_get grounds q) d.0 d.1

  -- ---- preconditions
  sets_at : (q : ℕ) → q < n → items_of parts.preconditions q ≡ spelled_each p.preds last (slice_get p.preds q) (items_of sets q)
  sets_at q less = ap (λ (xs : List (List (List (List Cell)))). items_of xs q) parts_are.sets_are ∙ listed_at (λ q. spelled_each p.preds last (slice_get p.preds q) (items_of sets q)) n q less

  sets_past : (q : ℕ) → n ≤ q → items_of parts.preconditions q ≡ []
  sets_past q le =
      ap (λ (xs : List (List (List (List Cell)))). items_of xs q) parts_are.sets_are
      ∙ listed_past (spelled_lists p.preds last sets) q (let count = mapped_count (λ q. spelled_each p.preds last (slice_get p.preds q) (items_of sets q)) n in omega (arith, count))

  set_count : (q : ℕ) → length (items_of parts.preconditions q) ≡ length (items_of sets q)
  set_count q = elim (below_or q n) [
    | inl less ↦ ap length (sets_at q less) ∙ length-map (items_of sets q) (λ d. spelled (slice_get p.preds q) last (Some d))
    | inr le ↦ let long = solved.mapping_sets.each in ap length (sets_past q le) ∙ sym (ap length (listed_past sets q (omega arith)))
  ]

  allowed_row : (q : ℕ) (row : List Bool) → allowed p parts q row ≡ allowed_family p.preds last sets q row
  allowed_row q row = elim (below_or q n) [
    | inl less ↦
        ap (list_any (λ cubes. all_upper (cube_row p q cubes) row)) (sets_at q less)
        ∙ any_mapped (λ cubes. all_upper (cube_row p q cubes) row) (λ d. spelled (slice_get p.preds q) last (Some d)) (items_of sets q)
        ∙ (λ i. list_any (λ d. all_upper (λ us. spelled_rows (slice_get p.preds q) last (Some d) us i) row) (items_of sets q))
    | inr le ↦
        let long = solved.mapping_sets.each in
        ap (list_any (λ cubes. all_upper (cube_row p q cubes) row)) (sets_past q le)
        ∙ sym (ap (list_any (λ d. all_upper (has_row (slice_get p.preds q) last (Some d)) row)) (listed_past sets q (omega arith)))
  ]

  allowed_same : allowed p parts ≡ allowed_family p.preds last sets
  allowed_same = λ i q row. allowed_row q row i

  coefficients_same : (m : ℕ) → parted.coefficients_of levels m ≡ coefficients_of parts.levels m
  coefficients_same m = ap (λ (ls : List (List LevelPart)). parted.coefficients_of ls m) (sym parts_are.levels_are) ∙ (λ i q. naturals_same (slice_get (items_of parts.levels q) m) i)

  members_same : (c : ℕ) → solving.is_member comps c ≡ is_member comps c
  members_same c = refl

  level_count : (q : ℕ) → length (items_of parts.levels q) ≡ length (items_of levels q)
  level_count q = ap (λ (ls : List (List LevelPart)). length (items_of ls q)) parts_are.levels_are

  counts : (c q : ℕ) → IsIn comps c q → length (items_of parts.preconditions q) ≡ length (items_of levels q)
  counts c q inside = set_count q ∙ (solved.solved c (components.within c q inside)).counts q inside

  greatest : (c q m : ℕ) → IsIn comps c q → m < length (items_of parts.preconditions q)
      → IsGreatestIn truth p (is_member comps c) (allowed p parts) (grounds_of p parts) (coefficients_of parts.levels m) (pre_family p.preds last sets m)
  greatest c q m inside few =
      let count = counts c q inside in
      let g = (solved.solved c (components.within c q inside)).greatest q m inside (omega arith) in
      let family = pre_family p.preds last sets m in
      subst (λ (im : ℕ → Bool). IsGreatestIn truth p im (allowed p parts) (grounds_of p parts) (coefficients_of parts.levels m) family) (members_same c)
      (subst (λ (al : Family). IsGreatestIn truth p (solving.is_member comps c) al (grounds_of p parts) (coefficients_of parts.levels m) family) (sym allowed_same)
      (subst (λ (gr : Family). IsGreatestIn truth p (solving.is_member comps c) (allowed_family p.preds last sets) gr (coefficients_of parts.levels m) family) (sym ground_family)
      (subst (λ (co : ℕ → List ℕ). IsGreatestIn truth p (solving.is_member comps c) (allowed_family p.preds last sets) (family_of p.preds first grounds) co family) (coefficients_same m) g)))

  pre_spelled : (m q : ℕ) (x : Pred) (list : List (List Cell)) → slice_get p.preds q ≡ Some x → slice_get (items_of parts.preconditions q) m ≡ Some list → list ≡ cubes x.arity (pre_family p.preds last sets m q)
  pre_spelled m q x list e at =
      let less = place_below p.preds q x e in
      let inner = ap (λ (xs : List (List (List Cell))). slice_get xs m) (sym (sets_at q less)) ∙ at in
      let few = place_below (items_of parts.preconditions q) m list at in
      let count = set_count q in
      let d = there (items_of sets q) m (omega arith) in
      let made : slice_get (spelled_each p.preds last (slice_get p.preds q) (items_of sets q)) m ≡ Some (spelled (slice_get p.preds q) last (Some d.0)) = mapped_place (λ d. spelled (slice_get p.preds q) last (Some d)) (items_of sets q) m d.0 d.1 in
      let is : list ≡ spelled (slice_get p.preds q) last (Some d.0) = cc in
      is ∙ ap (spelled (slice_get p.preds q) last) (sym d.1) ∙ family_cubes (slice_get p.preds q) x e last (slice_get (items_of sets q) m) d.0 d.1

  minimal : (q : ℕ) (x : Pred) → slice_get p.preds q ≡ Some x → items_of parts.modes q ≡ modes x.arity (allowed p parts q)
  minimal q x e =
      let less = place_below p.preds q x e in
      let long = solved.modes_are.each in
      let own = there lists q (omega arith) in
      let made = mapped_place (map arguments_of) lists q own.0 own.1 in
      ap (λ (xs : List (List (List ℕ))). items_of xs q) parts_are.modes_are
      ∙ item_is (mode_lists lists) q (map arguments_of own.0) made
      ∙ ap (map arguments_of) (sym (item_is lists q own.0 own.1))
      ∙ solved.modes_are.minimal q x e
      ∙ ap (λ (al : Family). modes x.arity (al q)) (sym allowed_same)

  pub modes_are_exact : ModesAreExact truth p comps parts
  modes_are_exact = record {
    grounds = record { family = family_of p.preds first grounds; least = solved.least; spelled = ground_spelled };
    pres = λ c q m inside few. record {
      family = pre_family p.preds last sets m;
      greatest = greatest c q m inside few;
      spelled = λ r x list ir e at. pre_spelled m r x list e at;
    };
    minimal = minimal;
  }

  in_some : (q : ℕ) → q < n → (c : ℕ) × IsIn comps c q
  in_some q less = let each = components.each in there comps.of q (omega arith)

  mapping_counts : (q : ℕ) → length (items_of parts.preconditions q) ≡ length (items_of parts.levels q)
  mapping_counts q = elim (below_or q n) [
    | inl less ↦ let c = in_some q less in counts c.0 q c.1 ∙ sym (level_count q)
    | inr le ↦ let long = solved.levels_are.parts.each in ap length (sets_past q le) ∙ sym (level_count q ∙ ap length (listed_past levels q (omega arith)))
  ]

  pub parts_are_counted : AreCounted p comps parts
  parts_are_counted = record {
    modes = ap length parts_are.modes_are ∙ length-map lists (map arguments_of) ∙ solved.modes_are.each;
    grounds = ap length parts_are.grounds_are ∙ mapped_count (λ q. spelled (slice_get p.preds q) first (slice_get grounds q)) n;
    preconditions = ap length parts_are.sets_are ∙ mapped_count (λ q. spelled_each p.preds last (slice_get p.preds q) (items_of sets q)) n;
    together = λ c a b ia ib. counts c a ia ∙ solved.levels_are.together c a b ia ib ∙ sym (counts c b ib);
    mappings = mapping_counts;
  }
