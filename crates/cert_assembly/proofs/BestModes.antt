-- Exact modes are those that any list of solved mappings gives which covers the printed ones and is covered by them.
--
-- A mapping covers another where its support is part of the other's: then it admits each row that the other admits.
use Rattle.std.proofs.Common.{◌≡◌, ℕ, zero, suc, ◌<◌, Bool, true, false, IsTrue, if◌then◌else◌, List, [], ◌∷◌, length, slice_get, Some, inl, inr, refl, ap, sym, subst, ◌∙◌, arith, nat_lt, not, ◌&&◌, filter, Option}
use Rattle.std.specs.Prelude.{IsSomeAnd}
use Rattle.std.specs.List.{AllByRecursion, list_any}
use Rattle.std.proofs.lemmas.Bool.{or_cases, or_left, or_right}
use Rattle.bool_diagrams.specs.declared.cube.Cell.{Cell}
use Rattle.call_components.specs.Partition.{AreComponents, IsIn, Partition}
use Rattle.cert_modes.specs.Modes.{allowed, coefficients_of, cube_row, grounds_of}
use Rattle.cert_structure.specs.Shape.{items_of}
use Rattle.cert_structure.specs.declared.parts.Parts.{Parts}
use Rattle.cti_terms.specs.Listing.{IsProgram, Listing}
use Rattle.cti_terms.specs.Tree.{Tree}
use Rattle.cti_terms.specs.declared.predicates.Pred.{Pred}
use Rattle.precond_fixpoint.proofs.Searching.{larger_inside, upper_length}
use Rattle.precond_fixpoint.specs.Greatest.{IsGreatestIn, IsInsideIn, IsWithinIn, KeepsIn, Solved, SomeSolved}
use Rattle.termination_model.proofs.UpperRows.{upper_all}
use Rattle.termination_model.specs.claims.Descent.{mode_row}
use Rattle.termination_model.specs.grounds.Grounds.{Family, HasArity}
use Rattle.termination_model.specs.grounds.Modes.{chosen_up_to, is_part, modes}
use Rattle.termination_model.specs.sizes.Rows.{IsUpper}
use Rattle.termination_model.specs.mappings.View.{all_upper}
use Rattle.truth_rows.proofs.UpperLaws.{all_from_upper}
use Rattle.cert_assembly.proofs.ModeLaws.{item_is, member_is, place_below, pre, pre_row, there}
use Rattle.cert_assembly.specs.ExactModes.{AreCounted, ModesAreExact, PreIsGreatest, admitted_by, is_member}

any_place : {X : Type 0} (f : X → Bool) (xs : List X) (i : ℕ) (x : X) → slice_get xs i ≡ Some x → f x ≡ true → list_any f xs ≡ true
any_place f [] i x e h = cc
any_place f (y ∷ ys) zero x e h = let same : y ≡ x = cc in or_left (f y) (list_any f ys) (ap f same ∙ h)
any_place f (y ∷ ys) (suc i) x e h = or_right (f y) (list_any f ys) (any_place f ys i x e h)

any_of : {X : Type 0} (f : X → Bool) (xs : List X) → list_any f xs ≡ true → (i : ℕ) × (x : X) × (slice_get xs i ≡ Some x) × (f x ≡ true)
any_of f [] h = cc
any_of f (x ∷ xs) h = elim (or_cases (f x) (list_any f xs) h) [
  | inl one ↦ (0, x, refl, one)
  | inr more ↦ let r = any_of f xs more in (suc r.0, r.1, r.2, r.3)
]

same_bool : (a b : Bool) → (a ≡ true → b ≡ true) → (b ≡ true → a ≡ true) → a ≡ b
same_bool true true f g = refl
same_bool true false f g = sym (f refl)
same_bool false true f g = g refl
same_bool false false f g = refl

length_row : (mode : List ℕ) (i n : ℕ) → length (mode_row mode i n) ≡ n
length_row mode i zero = refl
length_row mode i (suc n) = ap suc (length_row mode (suc i) n)

filter_same : (f g : List ℕ → Bool) (xs : List (List ℕ)) → ((x : List ℕ) → f x ≡ g x) → filter f xs ≡ filter g xs
filter_same f g [] h = refl
filter_same f g (x ∷ xs) h =
    let rest = filter_same f g xs h in
    let here = h x in
    λ i. if here i then x ∷ rest i else rest i

modes_same : (n : ℕ) (f g : List Bool → Bool) → ((row : List Bool) → length row ≡ n → f row ≡ g row) → modes n f ≡ modes n g
modes_same n f g h =
    ap (λ (all : List (List ℕ)). filter (λ args. not (list_any (λ less. nat_lt (length less) (length args) && is_part less args) all)) all)
    (filter_same (λ args. f (mode_row args 1 n)) (λ args. g (mode_row args 1 n)) (chosen_up_to n n) (λ args. h (mode_row args 1 n) (length_row args 1 n)))

upper_true : (f : List Bool → Bool) (row : List Bool) → all_upper f row ≡ true → (us : List Bool) → IsUpper us row → f us ≡ true
upper_true f row h us u = upper_all f row us h u

pub some_weaker : (P Q : Solved → Type 0) → ((n : Solved) → P n → Q n) → (ns : List Solved) → SomeSolved P ns → SomeSolved Q ns
some_weaker P Q f [] h = absurd h
some_weaker P Q f (n ∷ ns) (inl h) = inl (f n h)
some_weaker P Q f (n ∷ ns) (inr h) = inr (some_weaker P Q f ns h)

module _ (truth : (ℕ → Bool) → Tree → Bool) (p : Listing) (comps : Partition) (parts : Parts)
    (program : IsProgram p) (components : AreComponents p comps) (counted : AreCounted p comps parts) (exact : ModesAreExact truth p comps parts) where
  abbrev pub Keeps : ℕ → Solved → Type 0
  Keeps c n = KeepsIn truth p (is_member comps c) (allowed p parts) (grounds_of p parts) n.0 n.1

  abbrev pub IsSolved : ℕ → Solved → Type 0
  IsSolved c n = IsGreatestIn truth p (is_member comps c) (allowed p parts) (grounds_of p parts) n.0 n.1

  -- a printed mapping lies within this one
  abbrev pub IsCovered : ℕ → ℕ → Solved → Type 0
  IsCovered c q n = (m : ℕ) × (m < length (items_of parts.levels q)) × IsWithinIn (is_member comps c) (coefficients_of parts.levels m) n.0

  -- this one lies within a printed mapping
  abbrev pub Covers : ℕ → ℕ → Solved → Type 0
  Covers c m n = IsSolved c n × IsWithinIn (is_member comps c) n.0 (coefficients_of parts.levels m)

  pub best_row : (c q : ℕ) → IsIn comps c q → (n : Solved) → Keeps c n → IsCovered c q n
      → (row : List Bool) → HasArity p.preds q (length row) → ((us : List Bool) → IsUpper us row → IsTrue (n.1 q us)) → IsTrue (allowed p parts q row)
  best_row c q inside n keeps (m, few, lies) row arity admits =
      let count = counted.mappings q in
      let at = there (items_of parts.preconditions q) m (omega arith) in
      let fewer : m < length (items_of parts.preconditions q) = omega arith in
      let solved = pre truth p program comps components parts counted exact c q m inside fewer in
      let larger = larger_inside truth p (is_member comps c) (allowed p parts) (grounds_of p parts) (coefficients_of parts.levels m, solved.family) n solved.greatest keeps lies in
      any_place (λ cubes. all_upper (cube_row p q cubes) row) (items_of parts.preconditions q) m at.0 at.1
      (all_from_upper (cube_row p q at.0) row (λ us u. upper_row m fewer solved.family refl larger at us u))
    where
      upper_row : (m : ℕ) (fewer : m < length (items_of parts.preconditions q)) (f : Family) → f ≡ (pre truth p program comps components parts counted exact c q m inside fewer).family
          → IsInsideIn truth p (is_member comps c) (allowed p parts) (grounds_of p parts) n.1 f
          → (at : (x : List (List Cell)) × (slice_get (items_of parts.preconditions q) m ≡ Some x)) → (us : List Bool) → IsUpper us row → cube_row p q at.0 us ≡ true
      upper_row m fewer f e larger at us u =
          let long : HasArity p.preds q (length us) = subst (HasArity p.preds q) (sym (upper_length us row u)) arity in
          let one = larger q us (member_is truth p program comps components parts counted exact c q inside) long (admits us u) in
          let is = pre_row truth p program comps components parts counted exact c q m inside fewer q at.0 us inside at.1 long in
          ap (λ (cs : List (List Cell)). cube_row p q cs us) (sym (item_is (items_of parts.preconditions q) m at.0 at.1)) ∙ is
          ∙ subst (λ (g : Family). g q us ≡ true) e one

  -- what some mapping of the list admits is allowed
  no_more : (c q : ℕ) → IsIn comps c q → (ns : List Solved) → AllByRecursion (λ (n : Solved). Keeps c n × IsCovered c q n) ns
      → (row : List Bool) → HasArity p.preds q (length row) → admitted_by ns q row ≡ true → IsTrue (allowed p parts q row)
  no_more c q inside [] all row arity h = cc
  no_more c q inside (n ∷ ns) all row arity h = elim (or_cases (all_upper (n.1 q) row) (list_any (λ (n : Solved). all_upper (n.1 q) row) ns) h) [
    | inl one ↦ best_row c q inside n all.0.0 all.0.1 row arity (upper_true (n.1 q) row one)
    | inr more ↦ no_more c q inside ns all.1 row arity more
  ]

  -- a mapping of the list that lies within a printed one admits what that one does
  lies_within : (c q : ℕ) (inside : IsIn comps c q) (m : ℕ) (fewer : m < length (items_of parts.preconditions q))
      (cubes : List (List Cell)) → slice_get (items_of parts.preconditions q) m ≡ Some cubes → (row : List Bool) → HasArity p.preds q (length row) → all_upper (cube_row p q cubes) row ≡ true
      → (ns : List Solved) → SomeSolved (Covers c m) ns → admitted_by ns q row ≡ true
  lies_within c q inside m fewer cubes at row arity h [] some = absurd some
  lies_within c q inside m fewer cubes at row arity h (n ∷ ns) (inr some) = or_right (all_upper (n.1 q) row) (admitted_by ns q row) (lies_within c q inside m fewer cubes at row arity h ns some)
  lies_within c q inside m fewer cubes at row arity h (n ∷ ns) (inl (solved, lies)) = or_left (all_upper (n.1 q) row) (admitted_by ns q row) (all_from_upper (n.1 q) row uppers)
    where
      printed : PreIsGreatest truth p comps parts c m
      printed = pre truth p program comps components parts counted exact c q m inside fewer

      larger : (f : Family) → f ≡ printed.family → IsInsideIn truth p (is_member comps c) (allowed p parts) (grounds_of p parts) f n.1
      larger f e = subst (λ (g : Family). IsInsideIn truth p (is_member comps c) (allowed p parts) (grounds_of p parts) g n.1) (sym e)
          (larger_inside truth p (is_member comps c) (allowed p parts) (grounds_of p parts) n (coefficients_of parts.levels m, printed.family) solved printed.greatest.keeps lies)

      uppers : (us : List Bool) → IsUpper us row → n.1 q us ≡ true
      uppers us u =
          let long : HasArity p.preds q (length us) = subst (HasArity p.preds q) (sym (upper_length us row u)) arity in
          let is = pre_row truth p program comps components parts counted exact c q m inside fewer q cubes us inside at long in
          let shown : printed.family q us ≡ true = sym is ∙ ap (λ (cs : List (List Cell)). cube_row p q cs us) (item_is (items_of parts.preconditions q) m cubes at) ∙ upper_all (cube_row p q cubes) row us h u in
          larger printed.family refl q us (member_is truth p program comps components parts counted exact c q inside) long shown

  no_less : (c q : ℕ) → IsIn comps c q → (ns : List Solved) → ((m : ℕ) → m < length (items_of parts.levels q) → SomeSolved (Covers c m) ns)
      → (row : List Bool) → HasArity p.preds q (length row) → allowed p parts q row ≡ true → admitted_by ns q row ≡ true
  no_less c q inside ns each row arity h =
      let some = any_of (λ cubes. all_upper (cube_row p q cubes) row) (items_of parts.preconditions q) h in
      let fewer = place_below (items_of parts.preconditions q) some.0 some.1 some.2 in
      let count = counted.mappings q in
      lies_within c q inside some.0 fewer some.1 some.2 row arity some.3 ns (each some.0 (omega arith))

  pub best_modes : (c q : ℕ) (d : Pred) → IsIn comps c q → slice_get p.preds q ≡ Some d
      → (ns : List Solved) → AllByRecursion (λ (n : Solved). Keeps c n × IsCovered c q n) ns → ((m : ℕ) → m < length (items_of parts.levels q) → SomeSolved (Covers c m) ns)
      → items_of parts.modes q ≡ modes d.arity (admitted_by ns q)
  best_modes c q d inside at ns all each =
      exact.minimal q d at
      ∙ modes_same d.arity (allowed p parts q) (admitted_by ns q) (λ row len.
      let arity : HasArity p.preds q (length row) = has_arity (slice_get p.preds q) at (length row) (sym len) in
      same_bool (allowed p parts q row) (admitted_by ns q row)
      (no_less c q inside ns each row arity)
      (no_more c q inside ns all row arity))
    where
      has_arity : (o : Option Pred) → o ≡ Some d → (n : ℕ) → d.arity ≡ n → IsSomeAnd o (λ d. d.arity ≡ n)
      has_arity o e n h = subst (λ (x : Option Pred). IsSomeAnd x (λ d. d.arity ≡ n)) (sym e) h
