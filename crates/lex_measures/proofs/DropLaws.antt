-- Drops by their indices: those before an index are of earlier calls.
use Rattle.std.proofs.Common.{◌≡◌, ℕ, zero, suc, ◌+◌, ◌-◌, ◌<◌, ◌≤◌, ◌==◌, ◌&&◌, ◌⊎◌, Bool, true, false, if◌then◌else◌, List, [], ◌∷◌, length, take, get_or, slice_get, Option, Some, inl, inr, refl, ap, sym, subst, ◌∙◌, arith, eq-eqb, eqb-true}
use Rattle.std.specs.Prelude.{option_map, unwrap_or}
use Rattle.std.specs.List.{AllByRecursion}
use Rattle.std.proofs.lemmas.Bool.{and_parts}
use Rattle.call_components.specs.Partition.{Partition}
use Rattle.cert_structure.specs.Shape.{head_of}
use Rattle.cti_terms.specs.Listing.{Listing}
use Rattle.cti_terms.specs.declared.clauses.Clause.{Clause}
use Rattle.lex_measures.specs.Exact.{place_in}
use Rattle.lex_measures.specs.Lists.{AreDropsAt, ArePassed, IsPassed, lists_at}
use Rattle.lex_turns.specs.declared.call_drops.CallDrops.{CallDrops}
use Rattle.lex_turns.specs.declared.found_lists.FoundLists.{FoundLists}
use Rattle.lex_turns.specs.declared.measure_list.MeasureList.{MeasureList}

-- the drops of a call are those at the index, if these are of it
pub drops_first : (fs : List CallDrops) (n k j : ℕ) (f : CallDrops) → IsPassed fs n k j → slice_get fs n ≡ Some f → f.clause ≡ k → f.call ≡ j → place_in fs k j ≡ Some f.by
drops_first [] n k j f passed at a b = cc
drops_first (x ∷ fs) zero k j f passed at a b =
    let same : x ≡ f = cc in
    let first = eq-eqb x.clause k (ap (λ (y : CallDrops). y.clause) same ∙ a) in
    let second = eq-eqb x.call j (ap (λ (y : CallDrops). y.call) same ∙ b) in
    (λ i. if first i && second i then Some x.by else place_in fs k j) ∙ ap (λ (y : CallDrops). Some y.by) same
drops_first (x ∷ fs) (suc n) k j f passed at a b =
    go ((x.clause == k) && (x.call == j)) refl (drops_first fs n k j f (λ y g l e. passed (suc y) g (omega (arith, l)) e) at a b)
  where
    go : (t : Bool) → ((x.clause == k) && (x.call == j)) ≡ t → place_in fs k j ≡ Some f.by → (if t then Some x.by else place_in fs k j) ≡ Some f.by
    go false e h = h
    go true e h =
        let (c, d) = and_parts (x.clause == k) (x.call == j) e in
        let m = eqb-true x.clause k c in
        let n = eqb-true x.call j d in
        elim (passed zero x (omega arith) refl) [
          | inl l ↦ absurd (omega (arith, l, m))
          | inr (_, l) ↦ absurd (omega (arith, l, n))
        ]

pub none_passed : (ms : List MeasureList) (k j : ℕ) → ArePassed ms 0 k j
none_passed [] k j = tt
none_passed (m ∷ ms) k j = ((λ x f l e. absurd (omega (arith, l))), none_passed ms k j)

pub passed_on : (ms : List MeasureList) (n k j l i : ℕ) → (k < l) ⊎ ((k ≡ l) × (j ≤ i)) → ArePassed ms n k j → ArePassed ms n l i
passed_on [] n k j l i later h = tt
passed_on (m ∷ ms) n k j l i later h = ((λ x f lt e. further f (h.0 x f lt e)), passed_on ms n k j l i later h.1)
  where
    further : (f : CallDrops) → (f.clause < k) ⊎ ((f.clause ≡ k) × (f.call < j)) → (f.clause < l) ⊎ ((f.clause ≡ l) × (f.call < i))
    further f before = elim later [
      | inl a ↦ elim before [
        | inl b ↦ inl (omega (arith, a, b))
        | inr (b, c) ↦ inl (omega (arith, a, b))
      ]
      | inr (a, d) ↦ elim before [
        | inl b ↦ inl (omega (arith, a, b))
        | inr (b, c) ↦ inr (b ∙ a, omega (arith, c, d))
      ]
    ]

last_or_below : (x n : ℕ) → x < n + 1 → (x < n) ⊎ (x ≡ n)
last_or_below zero zero lt = inr refl
last_or_below zero (suc n) lt = inl (omega arith)
last_or_below (suc x) zero lt = absurd (omega (arith, lt))
last_or_below (suc x) (suc n) lt = elim (last_or_below x n (omega (arith, lt))) [
  | inl l ↦ inl (omega (arith, l))
  | inr s ↦ inr (ap suc s)
]

pub passed_more : (ms : List MeasureList) (n k j : ℕ) → AllByRecursion (λ (m : MeasureList). AreDropsAt m.drops n k j) ms → ArePassed ms n k j → ArePassed ms (n + 1) k (j + 1)
passed_more [] n k j ats h = tt
passed_more (m ∷ ms) n k j ats h = ((λ x f lt e. go x f lt e), passed_more ms n k j ats.1 h.1)
  where
    go : (x : ℕ) (f : CallDrops) → x < n + 1 → slice_get m.drops x ≡ Some f → (f.clause < k) ⊎ ((f.clause ≡ k) × (f.call < j + 1))
    go x f lt e = elim (last_or_below x n lt) [
      | inl l ↦ elim (h.0 x f l e) [
        | inl a ↦ inl a
        | inr (a, b) ↦ inr (a, omega (arith, b))
      ]
      | inr s ↦ let is = ats.0 f (ap (slice_get m.drops) (sym s) ∙ e) in let c = is.1 in inr (is.0, omega (arith, c))
    ]

pub passed_before : (ms : List MeasureList) (n i k j : ℕ) → i ≤ n → ArePassed ms n k j → ArePassed ms i k j
passed_before [] n i k j le h = tt
passed_before (m ∷ ms) n i k j le h = ((λ x f lt e. h.0 x f (omega (arith, le, lt)) e), passed_before ms n i k j le h.1)

pub one_more : {X : Type 0} (P : X → Type 0) (xs : List X) (i : ℕ) (d x : X) → i < length xs → x ≡ get_or xs i d → AllByRecursion P (take i xs) → P x → AllByRecursion P (take (i + 1) xs)
one_more P [] i d x l at h p = absurd (omega arith)
one_more P (y ∷ xs) zero d x l at h p = (subst P at p, tt)
one_more P (y ∷ xs) (suc i) d x l at h p =
    let one : suc i + 1 ≡ suc (i + 1) = omega arith in
    subst (λ (n : ℕ). AllByRecursion P (take n (y ∷ xs))) (sym one) (h.0, one_more P xs i d x (omega arith) at h.1 p)

-- ---- the lists of a clause's head
module _ (p : Listing) (comps : Partition) (found : List FoundLists) where
  pub head_lists : (k : ℕ) (x : Clause) → slice_get p.clauses (k + 1 - 1) ≡ Some x → lists_at comps found x.head.pred.0 ≡ lists_at comps found (head_of p k)
  head_lists k x at =
      let e : k + 1 - 1 ≡ k = omega arith in
      ap (λ (o : Option Clause). lists_at comps found (unwrap_or (option_map (λ (c : Clause). c.head.pred.0) o) 0)) (sym at ∙ ap (slice_get p.clauses) e)

  pub passed_here : (k : ℕ) (x : Clause) (ms : List MeasureList) (n l j : ℕ) → slice_get p.clauses (k + 1 - 1) ≡ Some x → ms ≡ lists_at comps found x.head.pred.0
      → ArePassed (lists_at comps found (head_of p k)) n l j → ArePassed ms n l j
  passed_here k x ms n l j at same h = subst (λ (ys : List MeasureList). ArePassed ys n l j) (sym (same ∙ head_lists k x at)) h

  pub passed_there : (k : ℕ) (x : Clause) (ms : List MeasureList) (n l j : ℕ) → slice_get p.clauses (k + 1 - 1) ≡ Some x → ms ≡ lists_at comps found x.head.pred.0
      → ArePassed ms n l j → ArePassed (lists_at comps found (head_of p k)) n l j
  passed_there k x ms n l j at same h = subst (λ (ys : List MeasureList). ArePassed ys n l j) (same ∙ head_lists k x at) h
