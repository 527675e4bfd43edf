-- Two partitions of a program have the same predicates together, and the same components recursive.
use Rattle.std.proofs.Common.{◌≡◌, ℕ, ◌≤◌, Bool, true, false, IsTrue, ◌==◌, inl, inr, List, length, Contains, slice_get, Option, None, Some, refl, sym, ap, subst, ◌∙◌, arith, eq-eqb, eqb-true}
use Rattle.std.proofs.lemmas.Option.{slice_get_cases, slice_get_past, slice_get_within}
use Rattle.cti_terms.specs.Listing.{Listing}
use Rattle.call_components.specs.Partition.{AreComponents, IsIn, Partition}
use Rattle.cert_structure.specs.Shape.{is_same, is_together}
use Rattle.cert_checker.specs.Shape.{AreTogether}
use Rattle.number_tests.proofs.ColumnLengths.{an_element}

equal_numbers : (n : ℕ) → IsTrue (n == n)
equal_numbers n = eq-eqb n n refl

numbers_equal : (m n : ℕ) → IsTrue (m == n) → m ≡ n
numbers_equal m n h = eqb-true m n h

same_is : (o q : Option ℕ) → IsTrue (is_same o q) → (c : ℕ) × (o ≡ Some c) × (q ≡ Some c)
same_is None q h = cc
same_is (Some c) None h = cc
same_is (Some c) (Some d) h = (c, refl, ap Some (sym (numbers_equal c d h)))

-- predicates that are together are in one component, and the other way round
pub together_is : (comps : Partition) (x y : ℕ) → IsTrue (is_together comps x y) → (c : ℕ) × IsIn comps c x × IsIn comps c y
together_is comps x y h = same_is (slice_get comps.of x) (slice_get comps.of y) h

pub is_together_in : (comps : Partition) (x y c : ℕ) → IsIn comps c x → IsIn comps c y → IsTrue (is_together comps x y)
is_together_in comps x y c hx hy = subst (λ (o : Option ℕ). IsTrue (is_same o (slice_get comps.of y))) (sym hx) (subst (λ (o : Option ℕ). IsTrue (is_same (Some c) o)) (sym hy) (equal_numbers c))

same_truth : (b c : Bool) → (IsTrue b → IsTrue c) → (IsTrue c → IsTrue b) → b ≡ c
same_truth true true f g = refl
same_truth true false f g = sym (f refl)
same_truth false true f g = g refl
same_truth false false f g = refl

module _ (p : Listing) (one other : Partition) (a : AreComponents p one) (b : AreComponents p other) where
  -- a predicate's component in the other partition
  pub moved : (c q : ℕ) → IsIn one c q → (d : ℕ) × IsIn other d q
  moved c q h = an_element other.of q (omega (arith, slice_get_within one.of q c h, a.each, b.each))

  -- predicates of one component are of one component there
  pub moved_together : (x y c d : ℕ) → IsIn one c x → IsIn one c y → IsIn other d x → IsIn other d y
  moved_together x y c d hx hy ex =
      let (e, ey) = moved c y hy in
      let same : d ≡ e = (b.together x y d e ex ey).1 ((a.together x y c c hx hy).0 refl) in
      subst (λ (n : ℕ). IsIn other n y) (sym same) ey

  pub together_moves : (x y : ℕ) → AreTogether one x y → AreTogether other x y
  together_moves x y h =
      elim (slice_get_cases one.of x).1 [
        | inl (c, lt, e, is) ↦ (let (d, ex) = moved c x e in ex ∙ sym (moved_together x y c d e (sym h ∙ e) ex))
        | inr (le, e) ↦ (slice_get_past other.of x (omega (arith, le, a.each, b.each)) ∙ sym (slice_get_past other.of y (omega (arith, none_past y (sym h ∙ e), a.each, b.each))))
      ]
    where
      none_past : (z : ℕ) → slice_get one.of z ≡ None → length one.of ≤ z
      none_past z none =
          elim (slice_get_cases one.of z).1 [
            | inl (c, lt, e, is) ↦ absurd (let no : Some c ≡ None = sym e ∙ none in cc)
            | inr (le, e) ↦ le
          ]

  is_together_moves : (x y : ℕ) → IsTrue (is_together one x y) → IsTrue (is_together other x y)
  is_together_moves x y h =
      let (c, hx, hy) = together_is one x y h in
      let (d, ex) = moved c x hx in
      is_together_in other x y d ex (moved_together x y c d hx hy ex)

  -- a component that is not recursive is not recursive there
  pub recursion_moves : (c d q : ℕ) → IsIn one c q → IsIn other d q → slice_get other.recursive d ≡ Some false → slice_get one.recursive c ≡ Some false
  recursion_moves c d q hq eq none =
      let (answer, at) = an_element one.recursive c (omega (arith, a.within c q hq, a.answers)) in
      settled answer at
    where
      settled : (answer : Bool) → slice_get one.recursive c ≡ Some answer → slice_get one.recursive c ≡ Some false
      settled false at = at
      settled true at =
          let (x, y, hx, hy, calls) = (a.recursive c true at).0 refl in
          let no : false ≡ true = (b.recursive d false none).1 (x, y, moved_together q x c d hq hx eq, moved_together q y c d hq hy eq, calls) in cc

  -- a component's members are members there
  pub members_move : (c d q x : ℕ) (ms ns : List ℕ) → IsIn one c q → IsIn other d q → slice_get one.members c ≡ Some ms → slice_get other.members d ≡ Some ns → Contains ms x → Contains ns x
  members_move c d q x ms ns hq eq em en has = (b.members d ns en x).1 (moved_together q x c d hq ((a.members c ms em x).0 has) eq)

-- whether two predicates are together is the same
pub is_together_same : (p : Listing) (one other : Partition) → AreComponents p one → AreComponents p other → (x y : ℕ) → is_together one x y ≡ is_together other x y
is_together_same p one other a b x y = same_truth (is_together one x y) (is_together other x y) (is_together_moves p one other a b x y) (is_together_moves p other one b a x y)
