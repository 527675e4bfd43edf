-- The first of many facts that fails, list by list.
use Rattle.std.specs.Io.Iter.{u64_saturate}
use Rattle.std.proofs.Common.{◌≡◌, ◌↔◌, ℕ, zero, suc, ◌+◌, ◌<◌, ◌≤◌, List, [], ◌∷◌, ◌++◌, length, slice_get, Option, None, Some, refl, sym, ap, subst, ◌∙◌, arith}
use Rattle.std.specs.List.{AllByRecursion}
use Rattle.std.proofs.lemmas.List.{length-append}
use Rattle.call_components.proofs.Lists.{all_append}
use Rattle.certificate.specs.declared.fact.Fact.{Fact}
use Rattle.cert_structure.specs.Numbered.{facts_from, lines_from}
use Rattle.number_tests.specs.Shape.{list_at}
use Rattle.number_tests.specs.Failing.{before}
use Rattle.termination_model.proofs.Lists.{by_places, there}
use Rattle.cert_checker.specs.Fault.{IsFirstAt, reason_number}
use Rattle.cert_checker.specs.Finding.{Finds, NoneFails}
use Rattle.cert_checker.specs.declared.fault.Fault.{Fault}
use Rattle.cert_checker.specs.declared.reason.Reason.{Reason}

-- elements of the first of two lists
get_left : (xs ys : List Fact) (n : ℕ) (f : Fact) → slice_get xs n ≡ Some f → slice_get (xs ++ ys) n ≡ Some f
get_left [] ys n f e = cc
get_left (x ∷ xs) ys zero f e = e
get_left (x ∷ xs) ys (suc n) f e = get_left xs ys n f e

back_left : (xs ys : List Fact) (n : ℕ) (f : Fact) → n < length xs → slice_get (xs ++ ys) n ≡ Some f → slice_get xs n ≡ Some f
back_left [] ys n f lt e = absurd (omega arith)
back_left (x ∷ xs) ys zero f lt e = e
back_left (x ∷ xs) ys (suc n) f lt e = back_left xs ys n f (omega arith) e

place_below : (xs : List Fact) (n : ℕ) (f : Fact) → slice_get xs n ≡ Some f → n < length xs
place_below [] n f e = cc
place_below (x ∷ xs) zero f e = omega arith
place_below (x ∷ xs) (suc n) f e = omega (arith, place_below xs n f e)

module _ (Fails : Fact → Reason → Type 0) where
  pub none_append : (xs ys : List Fact) → NoneFails Fails xs → NoneFails Fails ys → NoneFails Fails (xs ++ ys)
  none_append xs ys = all_append (λ f. (why : Reason) → ¬ Fails f why) xs ys

  first_left : (xs ys : List Fact) (n : ℕ) (why : Reason) → IsFirstAt Fails xs n why → IsFirstAt Fails (xs ++ ys) n why
  first_left xs ys n why is = record {
    fact = is.fact;
    there = get_left xs ys n is.fact is.there;
    fails = is.fails;
    smallest = is.smallest;
    earlier = λ i f other lt e. is.earlier i f other lt (back_left xs ys i f (omega (arith, lt, place_below xs n is.fact is.there)) e);
  }

  first_cons : (x : Fact) (xs : List Fact) (n : ℕ) (why : Reason) → ((other : Reason) → ¬ Fails x other) → IsFirstAt Fails xs n why → IsFirstAt Fails (x ∷ xs) (suc n) why
  first_cons x xs n why none is = record { fact = is.fact; there = is.there; fails = is.fails; smallest = is.smallest; earlier = earlier }
    where
      earlier : (i : ℕ) (f : Fact) (other : Reason) → i < suc n → slice_get (x ∷ xs) i ≡ Some f → ¬ Fails f other
      earlier zero f other lt e = let same : x ≡ f = cc in subst (λ (g : Fact). ¬ Fails g other) same (none other)
      earlier (suc i) f other lt e = is.earlier i f other (omega (arith, lt)) e

  first_right : (xs ys : List Fact) (n : ℕ) (why : Reason) → NoneFails Fails xs → IsFirstAt Fails ys n why → IsFirstAt Fails (xs ++ ys) (length xs + n) why
  first_right [] ys n why none is = let same : n ≡ 0 + n = omega arith in subst (λ (k : ℕ). IsFirstAt Fails ys k why) same is
  first_right (x ∷ xs) ys n why none is =
      let same : suc (length xs + n) ≡ suc (length xs) + n = omega arith in
      subst (λ (k : ℕ). IsFirstAt Fails (x ∷ (xs ++ ys)) k why) same (first_cons x (xs ++ ys) (length xs + n) why none.0 (first_right xs ys n why none.1 is))

  -- the fault of the first of two lists
  pub finds_here : (first : ℕ) (xs ys : List Fact) (f : Fault) → Finds Fails first xs (Some f) → Finds Fails first (xs ++ ys) (Some f)
  finds_here first xs ys f (n, line, is) = (n, line, first_left xs ys n f.reason is)

  -- or of the second one
  pub finds_next : (first next : ℕ) (xs ys : List Fact) (o : Option Fault) → next ≡ u64_saturate (first + length xs) → NoneFails Fails xs → Finds Fails next ys o → Finds Fails first (xs ++ ys) o
  finds_next first next xs ys None at none found = none_append xs ys none found
  finds_next first next xs ys (Some f) at none (n, line, is) = (length xs + n, omega (arith, at, line), first_right xs ys n f.reason none is)

  -- no two faults are the first one
  pub one_first : (facts : List Fact) (m n : ℕ) (why other : Reason) → IsFirstAt Fails facts m why → IsFirstAt Fails facts n other → (m ≡ n) × (reason_number why ≡ reason_number other)
  one_first facts m n why other is also = (same, omega (arith, is.smallest other (subst (λ (f : Fact). Fails f other) (sym one) also.fails), also.smallest why (subst (λ (f : Fact). Fails f why) one is.fails)))
    where
      below : (i j : ℕ) (r s : Reason) → IsFirstAt Fails facts i r → IsFirstAt Fails facts j s → ¬ (i < j)
      below i j r s first later lt = later.earlier i first.fact r lt first.there first.fails

      same : m ≡ n
      same = let up = below m n why other is also in let down = below n m other why also is in omega (arith, up, down)

      one : is.fact ≡ also.fact
      one = let there : slice_get facts m ≡ Some also.fact = subst (λ (k : ℕ). slice_get facts k ≡ Some also.fact) (sym same) also.there in let both = sym is.there ∙ there in cc

  pub none_first : (facts : List Fact) (n : ℕ) (why : Reason) → NoneFails Fails facts → ¬ IsFirstAt Fails facts n why
  none_first facts n why none is = by_places (λ f. (other : Reason) → ¬ Fails f other) facts none n is.fact is.there why is.fails

  -- the facts of items
  module _ {A : Type 0} (facts : ℕ → A → List Fact) (count : A → ℕ) (counts : (i : ℕ) (x : A) → length (facts i x) ≡ count x) where
    pub none_from : (i : ℕ) (xs : List A) → ((k : ℕ) (x : A) → slice_get xs k ≡ Some x → NoneFails Fails (facts (i + k) x)) → NoneFails Fails (facts_from i facts xs)
    none_from i [] h = tt
    none_from i (x ∷ xs) h =
        let here : i + 0 ≡ i = omega arith in
        none_append (facts i x) (facts_from (suc i) facts xs) (subst (λ (m : ℕ). NoneFails Fails (facts m x)) here (h 0 x refl))
        (none_from (suc i) xs (λ k y e. let next : i + suc k ≡ suc i + k = omega arith in subst (λ (m : ℕ). NoneFails Fails (facts m y)) next (h (suc k) y e)))

    first_from : (i : ℕ) (xs : List A) (k : ℕ) (x : A) (n : ℕ) (why : Reason) → slice_get xs k ≡ Some x → ((j : ℕ) → j < k → (y : A) → slice_get xs j ≡ Some y → NoneFails Fails (facts (i + j) y))
        → IsFirstAt Fails (facts (i + k) x) n why → IsFirstAt Fails (facts_from i facts xs) (before count xs k + n) why
    first_from i [] k x n why e none is = cc
    first_from i (y ∷ xs) zero x n why e none is =
        let same : x ≡ y = cc in
        let here : i + 0 ≡ i = omega arith in
        let start : n ≡ 0 + n = omega arith in
        let own = subst (λ (m : ℕ). IsFirstAt Fails (facts m x) n why) here is in
        subst (λ (m : ℕ). IsFirstAt Fails (facts i y ++ facts_from (suc i) facts xs) m why) start
        (first_left (facts i y) (facts_from (suc i) facts xs) n why (subst (λ (z : A). IsFirstAt Fails (facts i z) n why) same own))
    first_from i (y ∷ xs) (suc k) x n why e none is =
        let here : i + 0 ≡ i = omega arith in
        let next : i + suc k ≡ suc i + k = omega arith in
        let rest = first_from (suc i) xs k x n why e
        (λ j lt z ez. let later : i + suc j ≡ suc i + j = omega arith in subst (λ (m : ℕ). NoneFails Fails (facts m z)) later (none (suc j) (omega (arith, lt)) z ez))
        (subst (λ (m : ℕ). IsFirstAt Fails (facts m x) n why) next is) in
        let start : length (facts i y) + (before count xs k + n) ≡ count y + before count xs k + n = omega (arith, counts i y) in
        subst (λ (m : ℕ). IsFirstAt Fails (facts i y ++ facts_from (suc i) facts xs) m why) start
        (first_right (facts i y) (facts_from (suc i) facts xs) (before count xs k + n) why (subst (λ (m : ℕ). NoneFails Fails (facts m y)) here (none 0 (omega arith) y refl)) rest)

    -- the fault of an item, where none of the items before it has one
    pub finds_item : (first at : ℕ) (xs : List A) (k : ℕ) (x : A) (f : Fault) → slice_get xs k ≡ Some x → ((m : ℕ) → u64_saturate (at + m) ≡ u64_saturate (first + before count xs k + m))
        → ((j : ℕ) → j < k → (y : A) → slice_get xs j ≡ Some y → NoneFails Fails (facts j y)) → Finds Fails at (facts k x) (Some f) → Finds Fails first (facts_from 0 facts xs) (Some f)
    finds_item first at xs k x f e line none (n, own, is) = (
      before count xs k + n,
      omega (arith, line n, own),
      first_from 0 xs k x n f.reason e (λ j lt y ey. let same : j ≡ 0 + j = omega arith in subst (λ (m : ℕ). NoneFails Fails (facts m y)) same (none j lt y ey))
          (let same : k ≡ 0 + k = omega arith in subst (λ (m : ℕ). IsFirstAt Fails (facts m x) n f.reason) same is),
    )

    -- no fault of any item
    pub finds_none : (xs : List A) → ((k : ℕ) (x : A) → slice_get xs k ≡ Some x → NoneFails Fails (facts k x)) → NoneFails Fails (facts_from 0 facts xs)
    finds_none xs h = none_from 0 xs (λ k x e. let same : k ≡ 0 + k = omega arith in subst (λ (m : ℕ). NoneFails Fails (facts m x)) same (h k x e))

  -- the fault of one fact
  pub finds_fact : (first : ℕ) (x : Fact) (f : Fault) → f.line ≡ u64_saturate first → Fails x f.reason → ((other : Reason) → Fails x other → reason_number f.reason ≤ reason_number other)
      → Finds Fails first (x ∷ []) (Some f)
  finds_fact first x f line fails smallest = (0, omega (arith, line), record { fact = x; there = refl; fails = fails; smallest = smallest; earlier = λ i g other lt e. absurd (omega arith) })

-- two ways to say why facts fail
module _ (Fails Breaks : Fact → Reason → Type 0) where
  abbrev pub AreSame : List Fact → Type 0
  AreSame facts = AllByRecursion (λ f. (why : Reason) → Fails f why ↔ Breaks f why) facts

  none_same : (facts : List Fact) → AreSame facts → NoneFails Fails facts → NoneFails Breaks facts
  none_same [] same none = tt
  none_same (x ∷ xs) same none = (λ why breaks. none.0 why ((same.0 why).1 breaks), none_same xs same.1 none.1)

  pub finds_same : (facts : List Fact) → AreSame facts → (first : ℕ) (o : Option Fault) → Finds Fails first facts o → Finds Breaks first facts o
  finds_same facts same first None none = none_same facts same none
  finds_same facts same first (Some f) (n, line, is) = (
    n,
    line,
    record {
      fact = is.fact;
      there = is.there;
      fails = (at n is.fact is.there f.reason).0 is.fails;
      smallest = λ other breaks. is.smallest other ((at n is.fact is.there other).1 breaks);
      earlier = λ i x other lt e breaks. is.earlier i x other lt e ((at i x e other).1 breaks);
    },
  )
    where
      at : (i : ℕ) (x : Fact) → slice_get facts i ≡ Some x → (why : Reason) → Fails x why ↔ Breaks x why
      at i x e = by_places (λ f. (why : Reason) → Fails f why ↔ Breaks f why) facts same i x e

  pub same_lines : {A : Type 0} → (line : ℕ → A → Fact) (i : ℕ) (xs : List A) → ((k : ℕ) (x : A) → slice_get xs k ≡ Some x → (why : Reason) → Fails (line (i + k) x) why ↔ Breaks (line (i + k) x) why)
      → AreSame (lines_from i line xs)
  same_lines line i [] same = tt
  same_lines line i (x ∷ xs) same =
      let here : i + 0 ≡ i = omega arith in (
        subst (λ (k : ℕ). (why : Reason) → Fails (line k x) why ↔ Breaks (line k x) why) here (same 0 x refl),
        same_lines line (suc i) xs (λ k y e. let next : i + suc k ≡ suc i + k = omega arith in subst (λ (m : ℕ). (why : Reason) → Fails (line m y) why ↔ Breaks (line m y) why) next (same (suc k) y e)),
      )

-- the facts of items count together what the items count
pub length_from : {A : Type 0} → (facts : ℕ → A → List Fact) (count : A → ℕ) (counts : (i : ℕ) (x : A) → length (facts i x) ≡ count x) (i : ℕ) (xs : List A)
    → length (facts_from i facts xs) ≡ before count xs (length xs)
length_from facts count counts i [] = refl
length_from facts count counts i (x ∷ xs) =
    let rest = length_from facts count counts (suc i) xs in
    omega (arith, length-append (facts i x) (facts_from (suc i) facts xs), counts i x, rest)

-- items that count one each
pub before_ones : {A : Type 0} → (xs : List A) (n : ℕ) (x : A) → slice_get xs n ≡ Some x → before (λ (y : A). 1) xs n ≡ n
before_ones [] n x e = cc
before_ones (y ∷ xs) zero x e = refl
before_ones (y ∷ xs) (suc n) x e = omega (arith, before_ones xs n x e)

-- one line for each item
pub length_lines : {A : Type 0} → (line : ℕ → A → Fact) (i : ℕ) (xs : List A) → length (lines_from i line xs) ≡ length xs
length_lines line i [] = refl
length_lines line i (x ∷ xs) = omega (arith, length_lines line (suc i) xs)

-- the list at a place
pub list_there : {X : Type 0} → (xss : List (List X)) (k : ℕ) (xs : List X) → k < length xss → xs ≡ list_at xss k → slice_get xss k ≡ Some xs
list_there xss k xs lt is = there xss k [] lt ∙ ap Some (sym is)
