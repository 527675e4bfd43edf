-- Elements of lists of lists by their places, and components by their members.
use Rattle.std.proofs.Common.{◌≡◌, inl, inr, ℕ, zero, suc, ◌+◌, ◌<◌, ◌==◌, true, false, List, [], ◌∷◌, ◌++◌, length, map, take, slice_get, slice_index_or, Option, None, Some, unwrap_or, refl, ap, sym, ◌∙◌, arith, eqb-true}
use Rattle.std.specs.List.{Any, Contains}
use Rattle.std.proofs.lemmas.Bool.{cases_eq, cases_lt, eq-eqb}
use Rattle.std.proofs.lemmas.Bool.Decides.{nat_tests}
use Rattle.call_components.specs.Numbers.{number_of}
use Rattle.call_components.specs.Partition.{Partition}
use Rattle.cti_terms.specs.declared.predicates.PredId.{PredId}
use Rattle.number_tests.specs.Levels.{items_of}
use Rattle.precond_fixpoint.specs.Removing.{is_ranked}
use Rattle.termination_model.specs.chains.Chain.{is_member, is_number}

pub items_at : {X : Type 0} → (xs : List (List X)) (q : ℕ) (ds : List X) → slice_get xs q ≡ Some ds → items_of xs q ≡ ds
items_at xs q ds e = ap (λ o. unwrap_or o []) e

pub items_same : {X : Type 0} → (xs ys : List (List X)) (q : ℕ) → slice_get xs q ≡ slice_get ys q → items_of xs q ≡ items_of ys q
items_same xs ys q e = ap (λ o. unwrap_or o []) e

pub nothing_at : {X : Type 0} → (xs : List X) (i : ℕ) → ((i < length xs) → ⊥) → slice_get xs i ≡ None
nothing_at [] i past = refl
nothing_at (x ∷ xs) zero past = absurd (past (omega arith))
nothing_at (x ∷ xs) (suc i) past = nothing_at xs i (λ lt. past (omega arith))

-- the list at a place is there where it has an element
pub items_there : {X : Type 0} → (xs : List (List X)) (q m : ℕ) (x : X) → slice_get (items_of xs q) m ≡ Some x → q < length xs
items_there xs q m x e = elim (cases_lt q (length xs)) [
  | inl lt ↦ lt
  | inr ge ↦
      let f : slice_get xs q ≡ None = nothing_at xs q (λ lt. omega arith) in
      let g : None ≡ Some x = sym (ap (λ o. slice_get (unwrap_or o []) m) f) ∙ e in
      cc
]

-- an element at each place below the length
pub some_at : {X : Type 0} → (xs : List X) (i : ℕ) → i < length xs → (x : X) × (slice_get xs i ≡ Some x)
some_at [] i lt = absurd (omega arith)
some_at (x ∷ xs) zero lt = (x, refl)
some_at (x ∷ xs) (suc i) lt = some_at xs i (omega arith)

-- components by the tests of their members
pub at_is : (o : Option ℕ) (c : ℕ) → is_number c o ≡ true → o ≡ Some c
at_is None c e = cc
at_is (Some d) c e = ap Some (eqb-true d c e)

pub is_at_of : (o : Option ℕ) (c : ℕ) → o ≡ Some c → is_number c o ≡ true
is_at_of None c e = cc
is_at_of (Some d) c e = let same : d ≡ c = cc in eq-eqb d c same

pub not_at : (o : Option ℕ) (c : ℕ) → is_number c o ≡ false → o ≡ Some c → ⊥
not_at o c off on = let t = is_at_of o c on in cc

-- ranks that are one more than components
ranked_at : (of : List ℕ) (c q : ℕ) → (slice_index_or (map (λ d. d + 1) of) q 0 == c + 1) ≡ is_number c (slice_get of q)
ranked_at [] c q = grind (arith, nat_tests)
ranked_at (d ∷ of) c zero = elim (cases_eq d c) [
  | inl same ↦ eq-eqb (d + 1) (c + 1) (omega arith) ∙ sym (eq-eqb d c same)
  | inr other ↦ let a : ((d + 1) == (c + 1)) ≡ false = grind (arith, nat_tests) in let b : (d == c) ≡ false = grind (arith, nat_tests) in a ∙ sym b
]
ranked_at (d ∷ of) c (suc q) = ranked_at of c q

pub ranked_is : (ranks : List ℕ) (comps : Partition) (c : ℕ) → ranks ≡ map (λ d. d + 1) comps.of → is_ranked ranks (c + 1) ≡ is_member comps c
ranked_is ranks comps c e = ap (λ (rs : List ℕ). is_ranked rs (c + 1)) e ∙ (λ i q. ranked_at comps.of c q i)

ranks_next : (of : List ℕ) (q d : ℕ) → slice_get of q ≡ Some d → (map (λ c. c + 1) (take q of) ++ (d + 1) ∷ []) ≡ map (λ c. c + 1) (take (suc q) of)
ranks_next [] q d e = cc
ranks_next (c ∷ of) zero d e = let same : d ≡ c = cc in λ i. (same i + 1) ∷ []
ranks_next (c ∷ of) (suc q) d e = let rest = ranks_next of q d e in λ i. (c + 1) ∷ rest i

-- one more rank
pub ranks_more : (of : List ℕ) (q d : ℕ) → slice_get of q ≡ Some d → (map (λ c. c + 1) (take q of) ++ (d + 1) ∷ []) ≡ map (λ c. c + 1) (take (q + 1) of)
ranks_more of q d e = let next : suc q ≡ q + 1 = omega arith in ranks_next of q d e ∙ ap (λ k. map (λ c. c + 1) (take k of)) next

-- members by their places in a list
pub member_place : (members : List PredId) (q : ℕ) → Contains (map number_of members) q → (j : ℕ) × (a : PredId) × (slice_get members j ≡ Some a) × (q ≡ a.0)
member_place [] q (k, lt, e) = absurd (omega arith)
member_place (a ∷ members) q (zero, lt, e) = (0, a, refl, sym e)
member_place (a ∷ members) q (suc k, lt, e) = let r = member_place members q (k, omega arith, e) in (suc r.0, r.1, r.2, r.3)

pub place_member : (members : List PredId) (j : ℕ) (a : PredId) → slice_get members j ≡ Some a → Contains (map number_of members) a.0
place_member [] j a e = cc
place_member (b ∷ members) zero a e = let same : b ≡ a = cc in (0, omega arith, ap number_of same)
place_member (b ∷ members) (suc j) a e = let r = place_member members j a e in (suc r.0, omega arith, r.2)

-- some element by its place
pub any_at : {X : Type 0} → (P : X → Type 0) (xs : List X) (i : ℕ) (x : X) → slice_get xs i ≡ Some x → P x → Any P xs
any_at P [] i x e h = cc
any_at P (y ∷ xs) zero x e h = let same : y ≡ x = cc in (0, x, omega arith, same, h)
any_at P (y ∷ xs) (suc i) x e h = let r = any_at P xs i x e h in (suc r.0, r.1, omega arith, r.3, r.4)
