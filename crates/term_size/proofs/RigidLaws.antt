-- Which variables the rigidity of a term asks for, and what every norm says of instances.
use Rattle.std.proofs.Common.{◌≡◌, ◌↔◌, inl, inr, ℕ, ◌<◌, ◌≤◌, Bool, true, false, ◌&&◌, ◌==◌, if◌then◌else◌, IsTrue, nat_lt, ℤ, pos, ◌≤ℤ◌, List, Contains, All, refl, sym, ap, ◌∙◌, arith, eqb-true, ltb-true}
use Rattle.std.proofs.lemmas.Bool.{and_parts, cases_eq, eq-eqb}
use Rattle.std.proofs.lemmas.Bool.Decides.{nat_tests}
use Rattle.std.proofs.lemmas.Int.{ints}
use Rattle.std.proofs.lemmas.List.Elements.{All-contains}
use Rattle.cti_terms.specs.Tree.{Tree, Trees, Variable, Integer, Compound, End, More, instance, truth, all_truths, is_below}
use Rattle.term_size.specs.Norm.{value_of, IsNorm, IsRigid, ListsRigid}
use Rattle.term_size.specs.Occurrences.{occurrences, all_occurrences}
use Rattle.term_size.proofs.MemberLaws.{all_members}

pub both : (a b : Bool) → a ≡ true → b ≡ true → (a && b) ≡ true
both true true p q = refl
both true false p q = q
both false b p q = p

counted : (x y : ℕ) → 0 < (if x == y then 1 else 0) → x ≡ y
counted x y = go (x == y) refl
  where
    go : (b : Bool) → (x == y) ≡ b → 0 < (if b then 1 else 0) → x ≡ y
    go true e lt = eqb-true x y e
    go false e lt = absurd (omega arith)

counted_itself : (x : ℕ) → 0 < (if x == x then 1 else 0)
counted_itself x = let e = eq-eqb x x refl in rw e (omega arith)

mutual
  -- a true term is true at each variable that occurs
  pub true_at : (v : ℕ → Bool) (t : Tree) (x : ℕ) → truth v t ≡ true → 0 < occurrences x t → v x ≡ true
  true_at v (Variable y) x h lt = ap v (counted x y lt) ∙ h
  true_at v (Integer n) x h lt = absurd (omega arith)
  true_at v (Compound f ts) x h lt = all_true_at v ts x h lt

  all_true_at : (v : ℕ → Bool) (ts : Trees) (x : ℕ) → all_truths v ts ≡ true → 0 < all_occurrences x ts → v x ≡ true
  all_true_at v End x h lt = absurd (omega arith)
  all_true_at v (More t ts) x h lt =
      let p = and_parts (truth v t) (all_truths v ts) h in
      elim (cases_eq (occurrences x t) 0) [
        | inl none ↦ all_true_at v ts x p.1 (omega arith)
        | inr some ↦ true_at v t x p.0 (omega arith)
      ]

mutual
  -- and a term is true where each variable that occurs is
  pub true_where : (v : ℕ → Bool) (t : Tree) → ((x : ℕ) → 0 < occurrences x t → v x ≡ true) → truth v t ≡ true
  true_where v (Variable y) h = h y (counted_itself y)
  true_where v (Integer n) h = refl
  true_where v (Compound f ts) h = all_true_where v ts h

  all_true_where : (v : ℕ → Bool) (ts : Trees) → ((x : ℕ) → 0 < all_occurrences x ts → v x ≡ true) → all_truths v ts ≡ true
  all_true_where v End h = refl
  all_true_where v (More t ts) h =
      both (truth v t) (all_truths v ts) (true_where v t (λ x lt. h x (omega arith))) (all_true_where v ts (λ x lt. h x (omega arith)))

-- an occurring variable is in range
pub occurring_below : (n : ℕ) (t : Tree) (x : ℕ) → is_below n t ≡ true → 0 < occurrences x t → x < n
occurring_below n t x h lt = ltb-true x n (true_at (λ y. nat_lt y n) t x h lt)

-- a term whose variables are below n has them below more
pub below_more : (n m : ℕ) (t : Tree) → n ≤ m → is_below n t ≡ true → is_below m t ≡ true
below_more n m t le h = true_where (λ y. nat_lt y m) t (λ x lt. let b = occurring_below n t x h lt in let c : x < m = omega arith in grind (arith, nat_tests))

-- the variables that occur are those that rigidity asks for
pub lists_occurring : (n : ℕ) (t : Tree) (xs : List ℕ) → is_below n t ≡ true → ((x : ℕ) → Contains xs x ↔ ((x < n) × (0 < occurrences x t))) → ListsRigid truth t xs
lists_occurring n t xs h each = λ v. (
  λ e. all_members (λ x. IsTrue (v x)) xs (λ x m. true_at v t x e ((each x).0 m).1),
  λ all. true_where v t (λ x lt. All-contains (λ x. IsTrue (v x)) xs x all ((each x).1 (occurring_below n t x h lt, lt))),
)

module _ (size : (ℕ → ℕ) → Tree → ℕ) (truth : (ℕ → Bool) → Tree → Bool) (expression : ℕ → Tree → List ℤ) (norm : IsNorm size truth expression) where
  pub natural : (vars : ℕ) (s : ℕ → ℕ) (t : Tree) → IsTrue (is_below vars t) → pos 0 ≤ℤ value_of (expression vars t) s
  natural vars s t h = rw (norm.value vars s t h) (omega (arith, ints))

  pub size_at : (vars : ℕ) (s : ℕ → ℕ) (a : ℕ → Tree) (t : Tree) → IsTrue (is_below vars t) → value_of (expression vars t) (λ x. size s (a x)) ≡ pos (size s (instance a t))
  size_at vars s a t h = norm.value vars (λ x. size s (a x)) t h ∙ ap pos (sym (norm.size_of_instance s a t))

  pub rigid_at : (a : ℕ → Tree) (t : Tree) (variables : List ℕ) → ListsRigid truth t variables → IsRigid truth (instance a t) ↔ All (λ x. IsRigid truth (a x)) variables
  rigid_at a t variables h =
      let e = norm.truth_of_instance (λ _. false) a t in
      let l = h (λ x. truth (λ _. false) (a x)) in
      (λ r. l.0 (sym e ∙ r), λ all. e ∙ l.1 all)

  pub fixed : (r s : ℕ → ℕ) (a : ℕ → Tree) (t : Tree) → IsRigid truth t → size r (instance a t) ≡ size s t
  fixed r s a t h = norm.size_of_instance r a t ∙ norm.rigid_size (λ x. size r (a x)) s t h
