-- Clauses by their numbers, and those of a component.
use Rattle.std.proofs.Common.{◌≡◌, ℕ, zero, suc, ◌+◌, ◌-◌, ◌<◌, ◌≤◌, ◌==◌, ◌⊎◌, Bool, true, false, if◌then◌else◌, List, [], ◌∷◌, ◌++◌, length, replicate, take, slice_get, slice_index_or, slice_set, Option, Some, inl, inr, refl, ap, sym, subst, ◌∙◌, arith, eq-eqb, eqb-true}
use Rattle.std.specs.List.{filter, AllByRecursion}
use Rattle.std.proofs.lemmas.Bool.{cases_eq}
use Rattle.std.proofs.lemmas.List.{length-replicate, length-set}
use Rattle.std.proofs.lemmas.List.Elements.{filter-append}
use Rattle.call_components.proofs.Lists.{slice_get-set_same, slice_get-set_other}
use Rattle.call_components.specs.Partition.{AreComponents, Partition}
use Rattle.cti_terms.specs.Listing.{Listing}
use Rattle.cti_terms.specs.declared.clauses.Clause.{Clause}
use Rattle.linear_rows.specs.Members.{In}
use Rattle.linear_rows.proofs.Members.{in-flat_map}
use Rattle.termination_model.specs.chains.Chain.{clauses_of, component_of, counted, is_number}
use Rattle.termination_model.proofs.Lists.{append_assoc, by_places, place_below, taken_more, there}
use Rattle.component_clauses.specs.Numbered.{AreOwnClauses, HasItsClauses, paired, with_clause, with_clauses}
use Rattle.component_clauses.specs.declared.component.ComponentClauses.{ComponentClauses}

pub with_more : (clauses : List Clause) (own : List ℕ) (k : ℕ) → with_clauses clauses (own ++ k ∷ []) ≡ with_clauses clauses own ++ with_clause clauses k
with_more clauses [] k = right (with_clause clauses k)
  where
    right : (xs : List (ℕ × Clause)) → xs ++ [] ≡ xs
    right [] = refl
    right (x ∷ xs) = ap (λ ys. x ∷ ys) (right xs)
with_more clauses (x ∷ own) k = ap (λ ys. with_clause clauses x ++ ys) (with_more clauses own k) ∙ sym (append_assoc (with_clause clauses x) (with_clauses clauses own) (with_clause clauses k))

pub with_more_at : (clauses : List Clause) (own : List ℕ) (k : ℕ) (c : Clause) → slice_get clauses (k - 1) ≡ Some c → with_clauses clauses (own ++ k ∷ []) ≡ with_clauses clauses own ++ (k, c) ∷ []
with_more_at clauses own k c at = with_more clauses own k ∙ ap (λ (o : Option Clause). with_clauses clauses own ++ paired k o) at

counted_more : (n : ℕ) (ks : List Clause) (c : Clause) → counted n (ks ++ c ∷ []) ≡ counted n ks ++ (n + length ks, c) ∷ []
counted_more n [] c = let e : n ≡ n + 0 = omega arith in λ i. (e i, c) ∷ []
counted_more n (k ∷ ks) c =
    let e : suc n + length ks ≡ n + suc (length ks) = omega arith in
    ap (λ ys. (n, k) ∷ ys) (counted_more (suc n) ks c ∙ (λ i. counted (suc n) ks ++ (e i, c) ∷ []))

length-take : {X : Type 0} (n : ℕ) (xs : List X) → n ≤ length xs → length (take n xs) ≡ n
length-take zero xs l = refl
length-take (suc n) [] l = absurd (omega arith)
length-take (suc n) (x ∷ xs) l = ap suc (length-take n xs (omega arith))

module _ (p : Listing) (comps : Partition) (c : ℕ) where
  abbrev pub is_own : ℕ × Clause → Bool
  is_own k = is_number c (component_of comps k.1.head.pred.0)

  -- the component's clauses among the first ones
  abbrev pub own_first : ℕ → List (ℕ × Clause)
  own_first i = filter is_own (counted 1 (take i p.clauses))

  module _ (i : ℕ) (own : List ℕ) (k : Clause) (at : slice_get p.clauses i ≡ Some k) (so_far : with_clauses p.clauses own ≡ own_first i) where
    first_more : own_first (i + 1) ≡ own_first i ++ filter is_own ((i + 1, k) ∷ [])
    first_more =
        let lt = place_below p.clauses i k at in
        let e : 1 + length (take i p.clauses) ≡ i + 1 = omega (arith, length-take i p.clauses (omega arith)) in
        ap (λ (ks : List Clause). filter is_own (counted 1 ks)) (taken_more p.clauses i k at)
        ∙ ap (filter is_own) (counted_more 1 (take i p.clauses) k ∙ (λ j. counted 1 (take i p.clauses) ++ (e j, k) ∷ []))
        ∙ filter-append is_own (counted 1 (take i p.clauses)) ((i + 1, k) ∷ [])

    pub own_more : is_own (i + 1, k) ≡ true → with_clauses p.clauses (own ++ (i + 1) ∷ []) ≡ own_first (i + 1)
    own_more own_is =
        let here : slice_get p.clauses ((i + 1) - 1) ≡ Some k = (let e : (i + 1) - 1 ≡ i = omega arith in ap (slice_get p.clauses) e ∙ at) in
        let alone : filter is_own ((i + 1, k) ∷ []) ≡ (i + 1, k) ∷ [] = (λ j. if own_is j then (i + 1, k) ∷ [] else []) in
        with_more_at p.clauses own (i + 1) k here ∙ ap (λ (ks : List (ℕ × Clause)). ks ++ (i + 1, k) ∷ []) so_far ∙ ap (λ (ks : List (ℕ × Clause)). own_first i ++ ks) (sym alone) ∙ sym first_more

    pub own_same : is_own (i + 1, k) ≡ false → with_clauses p.clauses own ≡ own_first (i + 1)
    own_same other_is =
        let none : filter is_own ((i + 1, k) ∷ []) ≡ [] = (λ j. if other_is j then (i + 1, k) ∷ [] else []) in
        so_far ∙ right (own_first i) ∙ ap (λ (ks : List (ℕ × Clause)). own_first i ++ ks) (sym none) ∙ sym first_more
      where
        right : (xs : List (ℕ × Clause)) → xs ≡ xs ++ []
        right [] = refl
        right (x ∷ xs) = ap (λ ys. x ∷ ys) (right xs)

  pub own_all : own_first (length p.clauses) ≡ clauses_of p comps c
  own_all = ap (λ (ks : List Clause). filter is_own (counted 1 ks)) (whole p.clauses)
    where
      whole : (xs : List Clause) → take (length xs) xs ≡ xs
      whole [] = refl
      whole (x ∷ xs) = ap (λ ys. x ∷ ys) (whole xs)

pub within_more : (n : ℕ) (own : List ℕ) (k : ℕ) → AllByRecursion (λ k. (1 ≤ k) × (k ≤ n)) own → 1 ≤ k → k ≤ n → AllByRecursion (λ k. (1 ≤ k) × (k ≤ n)) (own ++ k ∷ [])
within_more n [] k a l m = ((l, m), tt)
within_more n (x ∷ own) k a l m = (a.0, within_more n own k a.1 l m)

pub some_at : {X : Type 0} (xs : List X) (i : ℕ) → i < length xs → (x : X) × (slice_get xs i ≡ Some x)
some_at [] i l = absurd (omega arith)
some_at (x ∷ xs) zero l = (x, refl)
some_at (x ∷ xs) (suc i) l = some_at xs i (omega arith)

-- ---- the lists of all components
-- for each component the numbers of its clauses among the first n
pub record AreOwnUpTo (p : Listing) (comps : Partition) (n : ℕ) (lists : List (List ℕ)) : Type 0 where
  pub each : length lists ≡ length comps.members
  pub within : (c : ℕ) (own : List ℕ) → slice_get lists c ≡ Some own → AllByRecursion (λ k. (1 ≤ k) × (k ≤ length p.clauses)) own
  pub clauses : (c : ℕ) (own : List ℕ) → slice_get lists c ≡ Some own → with_clauses p.clauses own ≡ own_first p comps c n

none_at : (m c : ℕ) (own : List ℕ) → slice_get (replicate m []) c ≡ Some own → [] ≡ own
none_at zero c own e = cc
none_at (suc m) zero own e = cc
none_at (suc m) (suc c) own e = none_at m c own e

pub none_own : (p : Listing) (comps : Partition) (m : ℕ) (lists : List (List ℕ)) → m ≡ length comps.members → lists ≡ replicate m [] → AreOwnUpTo p comps 0 lists
none_own p comps m lists count is =
    let empty : (c : ℕ) (own : List ℕ) → slice_get lists c ≡ Some own → [] ≡ own = (λ c own e. none_at m c own (sym (ap (λ (xs : List (List ℕ)). slice_get xs c) is) ∙ e)) in
    record {
      each = ap length is ∙ length-replicate m [] ∙ count;
      within = λ c own e. subst (AllByRecursion (λ k. (1 ≤ k) × (k ≤ length p.clauses))) (empty c own e) tt;
      clauses = λ c own e. subst (λ (xs : List ℕ). with_clauses p.clauses xs ≡ own_first p comps c 0) (empty c own e) refl;
    }

module _ (p : Listing) (comps : Partition) (n : ℕ) (lists : List (List ℕ)) (is : AreOwnUpTo p comps n lists) (k : Clause) (at : slice_get p.clauses n ≡ Some k)
    (c : ℕ) (of : slice_get comps.of k.head.pred.0 ≡ Some c) (lt : c < length lists) where
  abbrev so_far : List ℕ
  so_far = slice_index_or lists c []

  abbrev pushed : List (List ℕ)
  pushed = slice_set lists c (so_far ++ (n + 1) ∷ [])

  was : slice_get lists c ≡ Some so_far
  was = there lists c [] lt

  last : (d : ℕ) (own : List ℕ) → slice_get pushed d ≡ Some own → d ≡ c → so_far ++ (n + 1) ∷ [] ≡ own
  last d own e s =
      let here : slice_get pushed d ≡ Some (so_far ++ (n + 1) ∷ []) = ap (slice_get pushed) s ∙ slice_get-set_same lists c (so_far ++ (n + 1) ∷ []) lt in
      cc

  before : (d : ℕ) (own : List ℕ) → slice_get pushed d ≡ Some own → (d ≡ c → ⊥) → slice_get lists d ≡ Some own
  before d own e apart = sym (slice_get-set_other lists c d (so_far ++ (n + 1) ∷ []) apart) ∙ e

  within_pushed : (d : ℕ) (own : List ℕ) → slice_get pushed d ≡ Some own → (d ≡ c) ⊎ (d ≡ c → ⊥) → AllByRecursion (λ k. (1 ≤ k) × (k ≤ length p.clauses)) own
  within_pushed d own e (inl s) =
      let below = place_below p.clauses n k at in
      subst (AllByRecursion (λ k. (1 ≤ k) × (k ≤ length p.clauses))) (last d own e s) (within_more (length p.clauses) so_far (n + 1) (is.within c so_far was) (omega arith) (omega arith))
  within_pushed d own e (inr apart) = is.within d own (before d own e apart)

  -- the clause is of its own component, and of no other
  here : is_own p comps c (n + 1, k) ≡ true
  here = ap (is_number c) of ∙ eq-eqb c c refl

  elsewhere : (d : ℕ) → (d ≡ c → ⊥) → is_own p comps d (n + 1, k) ≡ false
  elsewhere d apart = ap (is_number d) of ∙ go (c == d) refl
    where
      go : (b : Bool) → (c == d) ≡ b → b ≡ false
      go true e = absurd (apart (sym (eqb-true c d e)))
      go false e = refl

  clauses_pushed : (d : ℕ) (own : List ℕ) → slice_get pushed d ≡ Some own → (d ≡ c) ⊎ (d ≡ c → ⊥) → with_clauses p.clauses own ≡ own_first p comps d (n + 1)
  clauses_pushed d own e (inl s) =
      subst (λ (xs : List ℕ). with_clauses p.clauses xs ≡ own_first p comps d (n + 1)) (last d own e s)
      (subst (λ x. with_clauses p.clauses (so_far ++ (n + 1) ∷ []) ≡ own_first p comps x (n + 1)) (sym s) (own_more p comps c n so_far k at (is.clauses c so_far was) here))
  clauses_pushed d own e (inr apart) = own_same p comps d n own k at (is.clauses d own (before d own e apart)) (elsewhere d apart)

  pub own_pushed : AreOwnUpTo p comps (n + 1) pushed
  own_pushed = record {
    each = length-set lists c (so_far ++ (n + 1) ∷ []) ∙ is.each;
    within = λ d own e. within_pushed d own e (cases_eq d c);
    clauses = λ d own e. clauses_pushed d own e (cases_eq d c);
  }

pub own_whole : (p : Listing) (comps : Partition) (lists : List (List ℕ)) → AreOwnUpTo p comps (length p.clauses) lists → AreOwnClauses p comps lists
own_whole p comps lists is = record {
  each = is.each;
  within = is.within;
  clauses = λ c own e. is.clauses c own e ∙ own_all p comps c;
}

pub take_past : {X : Type 0} (xs : List X) (n : ℕ) → length xs ≤ n → take n xs ≡ xs
take_past [] zero le = refl
take_past [] (suc n) le = refl
take_past (x ∷ xs) zero le = absurd (omega arith)
take_past (x ∷ xs) (suc n) le = ap (λ ys. x ∷ ys) (take_past xs n (omega arith))

-- the clause at a place of a list of numbers
pub record IsNext (clauses : List Clause) (own : List ℕ) (j : ℕ) : Type 0 where
  pub clause : Clause
  pub at : slice_get clauses (slice_index_or own j 0 - 1) ≡ Some clause
  pub more : with_clauses clauses (take (j + 1) own) ≡ with_clauses clauses (take j own) ++ (slice_index_or own j 0, clause) ∷ []

pub next_own : (clauses : List Clause) (own : List ℕ) (j : ℕ) → j < length own → AllByRecursion (λ k. (1 ≤ k) × (k ≤ length clauses)) own → IsNext clauses own j
next_own clauses own j lt within =
    let at = there own j 0 lt in
    let fits = by_places (λ k. (1 ≤ k) × (k ≤ length clauses)) own within j (slice_index_or own j 0) at in
    let found = some_at clauses (slice_index_or own j 0 - 1) (omega arith) in
    record {
      clause = found.0;
      at = found.1;
      more = ap (with_clauses clauses) (taken_more own j (slice_index_or own j 0) at) ∙ with_more_at clauses (take j own) (slice_index_or own j 0) found.0 found.1;
    }

-- a clause with a number of the list is one of the component
pub own_at : (p : Listing) (comps : Partition) (c : ℕ) (own : List ℕ) → with_clauses p.clauses own ≡ clauses_of p comps c
    → (j k : ℕ) (x : Clause) → slice_get own j ≡ Some k → slice_get p.clauses (k - 1) ≡ Some x → In (k, x) (clauses_of p comps c)
own_at p comps c own same j k x at there =
    subst (λ (ks : List (ℕ × Clause)). In (k, x) ks) same (in-flat_map (with_clause p.clauses) own k (k, x) (placed_in own j at) (subst (λ (o : Option Clause). In (k, x) (paired k o)) (sym there) (inl refl)))
  where
    placed_in : (xs : List ℕ) (j : ℕ) → slice_get xs j ≡ Some k → In k xs
    placed_in [] j e = cc
    placed_in (y ∷ xs) zero e = inl cc
    placed_in (y ∷ xs) (suc j) e = inr (placed_in xs j e)

-- a list among those of all components is that of its component
pub its_clauses : (own : ComponentClauses) (lists : List (List ℕ)) → AreComponents own.program.now own.comps.now → AreOwnClauses own.program.now own.comps.now lists → own.number < length own.comps.now.members
    → (d : List ℕ) → slice_index_or lists own.number d ≡ own.clauses.now → HasItsClauses own
its_clauses own lists components are inner d same =
    let each = are.each in
    let at : slice_get lists own.number ≡ Some own.clauses.now = there lists own.number d (omega (arith, each, inner)) ∙ ap Some same in
    record { components = components; inner = inner; within = are.within own.number own.clauses.now at; clauses_are = are.clauses own.number own.clauses.now at }
