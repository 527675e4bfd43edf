-- Refutations, fact by fact: their sums, and the rows at their points.
use Rattle.std.specs.Io.Iter.{u64_saturate}
use Rattle.std.proofs.Common.{◌≡◌, ◌≢◌, ◌↔◌, ℕ, zero, suc, ◌+◌, ◌-◌, ◌<◌, ◌≤◌, ℤ, true, List, [], ◌∷◌, take, length, slice_get, Option, None, Some, IfSome, refl, sym, ap, subst, ◌∙◌, arith}
use Rattle.std.specs.List.{AllByRecursion, AllPairs}
use Rattle.call_components.proofs.Lists.{all_append}
use Rattle.call_components.specs.Partition.{IsIn, Partition}
use Rattle.certificate.specs.declared.fact.Fact.{Fact}
use Rattle.certificate.specs.declared.fact.Fact.TheVariants as fact
use Rattle.certificate.specs.declared.pred_text.PredText.{PredText}
use Rattle.cert_structure.specs.Numbered.{facts_from}
use Rattle.cert_structure.specs.Order.{at_facts, point_facts, pred_text, refutation_facts}
use Rattle.cert_structure.specs.Structure.{AreNamed}
use Rattle.cert_structure.specs.declared.parts.Parts.{Parts}
use Rattle.cti_terms.specs.Listing.{IsProgram, Listing, numbered}
use Rattle.cti_terms.specs.Tree.{Tree}
use Rattle.cti_terms.specs.declared.clauses.Clause.{Clause}
use Rattle.linear_rows.specs.declared.point.Point.{Point}
use Rattle.linear_rows.specs.declared.row.Rows.{Rows}
use Rattle.number_tests.specs.Failing.{IsFirstOfPair, IsFirstPoint, PointFails, SumsFail, before, fails_point, fails_sums, first, points_at, points_of, second, wide_point, wide_sums}
use Rattle.number_tests.specs.Refuting.{PointHolds, RowHolds, RowsHold, SumsRefute, ValueFits, clause_of, clause_or_none}
use Rattle.number_tests.specs.Shape.{IsPairOf}
use Rattle.number_tests.specs.declared.flaw.Flaw.{Flaw}
use Rattle.number_tests.specs.declared.flaw.Flaw.TheVariants as flaw
use Rattle.number_tests.specs.declared.pair_point.PairPoint.{PairPoint}
use Rattle.number_tests.specs.declared.point_flaw.PointFlaw.{PointFlaw}
use Rattle.number_tests.specs.declared.refutation.Refutation.{Refutation}
use Rattle.termination_model.proofs.Lists.{by_places, from_places, one_element}
use Rattle.termination_model.specs.sizes.Sizes.{rows_of}
use Rattle.termination_model.specs.sizes.Systems.{row_fits, system}
use Rattle.cert_checker.specs.Fault.{RefutationFails, RowsFailAt, reason_number, reason_of}
use Rattle.cert_checker.specs.Finding.{Finds, GroupFails, NoneFails, RefutationsFail, group_facts}
use Rattle.cert_checker.specs.declared.fault.Fault.{Fault}
use Rattle.cert_checker.specs.declared.reason.Reason.{Reason}
use Rattle.cert_checker.specs.declared.reason.Reason.TheVariants as reason
use Rattle.cert_checker.proofs.FindLaws.{AreSame, finds_fact, finds_here, finds_item, finds_next, finds_none, finds_same, length_from}
use Rattle.cert_checker.proofs.FlawLaws.{same_number}
use Rattle.cert_checker.proofs.TextLaws.{same_text}

-- how many facts a pair's points have, and a refutation
points_counted : (x : PairPoint) → length (point_facts x) ≡ points_of x
points_counted x = at_counted x.at
  where
    at_counted : (o : Option Point) → suc (length (at_facts x.clause x.call o)) ≡ points_at o
    at_counted None = refl
    at_counted (Some y) = refl

abbrev pub refutation_count : Option Refutation → ℕ
refutation_count None = 0
refutation_count (Some r) = suc (before points_of r.points (length r.points))

pub refutation_counted : (pred : PredText) (o : Option Refutation) → length (refutation_facts pred o) ≡ refutation_count o
refutation_counted pred None = refl
refutation_counted pred (Some r) = ap suc (length_from (λ _ x. point_facts x) points_of (λ _ x. points_counted x) 0 r.points)

-- a clause by its number from 1
number_from : (cs : List Clause) (k : ℕ) → 1 ≤ k → numbered cs k ≡ slice_get cs (k - 1)
number_from cs zero le = absurd (omega (arith, le))
number_from cs (suc k) le = let back : k ≡ suc k - 1 = omega arith in ap (slice_get cs) back

module _ (expression : ℕ → Tree → List ℤ) (p : Listing) where
  -- sums that refute do not fail, and fail in one way
  sums_hold : (members : List ℕ) (xs : List PairPoint) → SumsRefute expression p members xs → (f : Flaw) → ¬ SumsFail expression p members xs f
  sums_hold members xs holds flaw.Wide (wide_sums unfit) = unfit holds.fit
  sums_hold members xs holds flaw.Fails (fails_sums fit refuted) = refuted holds

  one_sums : (members : List ℕ) (xs : List PairPoint) (f g : Flaw) → SumsFail expression p members xs f → SumsFail expression p members xs g → f ≡ g
  one_sums members xs flaw.Wide flaw.Wide a b = refl
  one_sums members xs flaw.Fails flaw.Fails a b = refl
  one_sums members xs flaw.Wide flaw.Fails (wide_sums unfit) (fails_sums fit refuted) = absurd (unfit fit)
  one_sums members xs flaw.Fails flaw.Wide (fails_sums fit refuted) (wide_sums unfit) = absurd (unfit fit)

  -- and so do rows at a point
  module _ (rows : ℕ → List (List ℤ)) (c : Clause) (j : ℕ) (x : Point) where
    rows_hold : RowsHold expression rows c j x → (f : Flaw) → ¬ PointFails expression rows c j x f
    rows_hold holds flaw.Wide (wide_point unfit) =
        unfit (from_places (λ row. (row_fits row ≡ true) × ValueFits x row) (system expression rows c.vars (take j c.body)) (λ i row e. let at = by_places (RowHolds x) (system expression rows c.vars (take j c.body)) holds i row e in (at.numbers_fit, at.value_fits)))
    rows_hold holds flaw.Fails (fails_point fit refuted) = refuted holds

    one_point : (f g : Flaw) → PointFails expression rows c j x f → PointFails expression rows c j x g → f ≡ g
    one_point flaw.Wide flaw.Wide a b = refl
    one_point flaw.Fails flaw.Fails a b = refl
    one_point flaw.Wide flaw.Fails (wide_point unfit) (fails_point fit refuted) = absurd (unfit fit)
    one_point flaw.Fails flaw.Wide (fails_point fit refuted) (wide_point unfit) = absurd (unfit fit)

  module _ (sizes : List Rows) (members : List ℕ) (xs : List PairPoint) where
    abbrev Fails : Fact → Reason → Type 0
    Fails = GroupFails expression p sizes members xs

    -- the points of one pair
    module _ (x : PairPoint) (pair : IsPairOf p x) where
      abbrev Holds : Point → Type 0
      Holds = RowsHold expression (rows_of sizes) (clause_of p x) (x.call - 1)

      abbrev Fail : Point → Flaw → Type 0
      Fail = PointFails expression (rows_of sizes) (clause_of p x) (x.call - 1)

      is_numbered : numbered p.clauses x.clause ≡ Some (clause_of p x)
      is_numbered = number_from p.clauses x.clause pair.first ∙ pair.there ∙ ap Some (sym (ap clause_or_none pair.there))

      own_rows : (y : Point) (why : Reason) (fault : RowsFailAt expression p sizes x.clause x.call y why) → Fail y fault.flaw
      own_rows y why fault =
          let same : fault.clause ≡ clause_of p x = (let both = sym fault.there ∙ is_numbered in cc) in
          subst (λ (c : Clause). PointFails expression (rows_of sizes) c (x.call - 1) y fault.flaw) same fault.fails

      pub fails_at : (y : Point) (f : Flaw) → Fail y f → (why : Reason) → why ≡ reason_of f reason.Refutation → RowsFailAt expression p sizes x.clause x.call y why
      fails_at y f fails why is = record { clause = clause_of p x; there = is_numbered; flaw = f; fails = fails; why_is = is }

      smallest : (y : Point) (f : Flaw) → Fail y f → (why : Reason) → why ≡ reason_of f reason.Refutation → (other : Reason) → RowsFailAt expression p sizes x.clause x.call y other → reason_number why ≤ reason_number other
      smallest y f fails why is other also =
          let same : f ≡ also.flaw = one_point (rows_of sizes) (clause_of p x) (x.call - 1) y f also.flaw fails (own_rows y other also) in
          same_number why other (is ∙ ap (λ (g : Flaw). reason_of g reason.Refutation) same ∙ sym also.why_is)

      holds_at : (y : Point) → Holds y → (why : Reason) → ¬ RowsFailAt expression p sizes x.clause x.call y why
      holds_at y holds why fault = rows_hold (rows_of sizes) (clause_of p x) (x.call - 1) y holds fault.flaw (own_rows y why fault)

      second_holds : (o : Option Point) → IfSome o Holds → NoneFails Fails (at_facts x.clause x.call o)
      second_holds None holds = tt
      second_holds (Some y) holds = (holds_at y holds, tt)

      pair_holds : PointHolds expression p (rows_of sizes) x → NoneFails Fails (point_facts x)
      pair_holds holds = (holds_at x.point holds.0, second_holds x.at holds.1)

      pair_fails : (start n : ℕ) (f : Fault) (found : PointFlaw) → IsFirstOfPair Holds Fail x (u64_saturate n) found → f.reason ≡ reason_of found.flaw reason.Refutation → f.line ≡ u64_saturate (start + found.place)
          → Finds Fails (start + n) (point_facts x) (Some f)
      pair_fails start n f found (first at fails) because line =
          finds_here Fails (start + n) (fact.Point x.clause x.call x.point.t x.point.w ∷ []) (at_facts x.clause x.call x.at) f
          (finds_fact Fails (start + n) (fact.Point x.clause x.call x.point.t x.point.w) f (omega (arith, at, line)) (fails_at x.point found.flaw fails f.reason because) (smallest x.point found.flaw fails f.reason because))
      pair_fails start n f found (second y is holds at fails) because line =
          finds_next Fails (start + n) (u64_saturate (start + n + 1)) (fact.Point x.clause x.call x.point.t x.point.w ∷ []) (at_facts x.clause x.call x.at) (Some f) (omega arith) (holds_at x.point holds, tt)
          (subst (λ (o : Option Point). Finds Fails (u64_saturate (start + n + 1)) (at_facts x.clause x.call o) (Some f)) (sym is)
          (finds_fact Fails (u64_saturate (start + n + 1)) (fact.At x.clause x.call y.t y.w) f (omega (arith, at, line)) (fails_at y found.flaw fails f.reason because) (smallest y found.flaw fails f.reason because)))

    points_hold : AllByRecursion (IsPairOf p) xs → AllByRecursion (PointHolds expression p (rows_of sizes)) xs → NoneFails Fails (facts_from 0 (λ _ x. point_facts x) xs)
    points_hold pairs holds =
        finds_none Fails (λ _ x. point_facts x) points_of (λ _ x. points_counted x) xs (λ i x e. pair_holds x (by_places (IsPairOf p) xs pairs i x e) (by_places (PointHolds expression p (rows_of sizes)) xs holds i x e))

    points_fail : AllByRecursion (IsPairOf p) xs → (start : ℕ) (f : Fault) (found : PointFlaw) → IsFirstPoint expression p (rows_of sizes) xs found → f.reason ≡ reason_of found.flaw reason.Refutation → f.line ≡ u64_saturate (start + found.place)
        → Finds Fails start (facts_from 0 (λ _ x. point_facts x) xs) (Some f)
    points_fail pairs start f found is because line =
        finds_item Fails (λ _ x. point_facts x) points_of (λ _ x. points_counted x) start (start + before points_of xs is.i) xs is.i is.x f is.there (λ m. refl)
        (λ k lt y e. pair_holds y (by_places (IsPairOf p) xs pairs k y e) (is.earlier k y lt e))
        (pair_fails is.x (by_places (IsPairOf p) xs pairs is.i is.x is.there) start (before points_of xs is.i) f found is.first because line)

    -- the sums come first
    pub sums_fail : (pred : PredText) (f : Fault) (g : Flaw) → SumsFail expression p members xs g → f.reason ≡ reason_of g reason.Refutation → f.line ≡ u64_saturate f.line → Finds Fails f.line (group_facts pred xs) (Some f)
    sums_fail pred f g fails because line =
        finds_here Fails f.line (fact.Refuted pred (length xs) ∷ []) (facts_from 0 (λ _ x. point_facts x) xs) f
        (finds_fact Fails f.line (fact.Refuted pred (length xs)) f line (g, fails, because)
        (λ other (h, also, is). same_number f.reason other (because ∙ ap (λ (e : Flaw). reason_of e reason.Refutation) (one_sums members xs g h fails also) ∙ sym is)))

    none_of_sums : (pred : PredText) → SumsRefute expression p members xs → NoneFails Fails (fact.Refuted pred (length xs) ∷ [])
    none_of_sums pred holds = (λ why (h, fails, is). sums_hold members xs holds h fails, tt)

    -- and then the points
    pub group_fails : (pred : PredText) → AllByRecursion (IsPairOf p) xs → SumsRefute expression p members xs → (line : ℕ) (f : Fault) (found : PointFlaw) → IsFirstPoint expression p (rows_of sizes) xs found
        → f.reason ≡ reason_of found.flaw reason.Refutation → f.line ≡ u64_saturate (line + 1 + found.place) → Finds Fails line (group_facts pred xs) (Some f)
    group_fails pred pairs holds line f found is because at =
        finds_next Fails line (u64_saturate (line + 1)) (fact.Refuted pred (length xs) ∷ []) (facts_from 0 (λ _ x. point_facts x) xs) (Some f) (omega arith) (none_of_sums pred holds)
        (points_fail pairs (u64_saturate (line + 1)) f found is because (omega (arith, at)))

    pub group_holds : (pred : PredText) → AllByRecursion (IsPairOf p) xs → SumsRefute expression p members xs → AllByRecursion (PointHolds expression p (rows_of sizes)) xs → NoneFails Fails (group_facts pred xs)
    group_holds pred pairs sums holds = ((none_of_sums pred sums).0, points_hold pairs holds)

-- the refutation of a predicate fails as its sums and its points do
module _ (expression : ℕ → Tree → List ℤ) (p : Listing) (names : List (List ℕ)) (comps : Partition) (parts : Parts) (prog : IsProgram p) (named : AreNamed names p.preds) (distinct : AllPairs (λ a b. a ≢ b) names)
    (q : ℕ) (lt : q < length p.preds) (r : Refutation) (at : slice_get parts.refutations q ≡ Some (Some r)) (c : ℕ) (is_in : IsIn comps c q) (members : List ℕ) (are_members : slice_get comps.members c ≡ Some members) where
  abbrev Group : Fact → Reason → Type 0
  Group = GroupFails expression p parts.rows members r.points

  abbrev Whole : Fact → Reason → Type 0
  Whole = RefutationsFail expression p names comps parts

  same_second : (k j : ℕ) (o : Option Point) → AreSame Group Whole (at_facts k j o)
  same_second k j None = tt
  same_second k j (Some y) = (λ why. (λ a. a, λ a. a), tt)

  same_points : (i : ℕ) (xs : List PairPoint) → AreSame Group Whole (facts_from i (λ _ x. point_facts x) xs)
  same_points i [] = tt
  same_points i (x ∷ xs) =
      all_append (λ f. (why : Reason) → Group f why ↔ Whole f why) (point_facts x) (facts_from (suc i) (λ _ y. point_facts y) xs) (λ why. (λ a. a, λ a. a), same_second x.clause x.call x.at) (same_points (suc i) xs)

  own_sums : (why : Reason) → RefutationFails p names expression comps parts.refutations (pred_text p names q) why → Group (fact.Refuted (pred_text p names q) (length r.points)) why
  own_sums why fault =
      let same : fault.q ≡ q = same_text p names prog named distinct q fault.q lt fault.named.0 fault.named.1 in
      let there : slice_get parts.refutations q ≡ Some (Some fault.r) = subst (λ (k : ℕ). slice_get parts.refutations k ≡ Some (Some fault.r)) same fault.there in
      let own : fault.r ≡ r = (let both = sym there ∙ at in cc) in
      let component : slice_get comps.of q ≡ Some fault.c = subst (λ (k : ℕ). slice_get comps.of k ≡ Some fault.c) same fault.is_in in
      let one : fault.c ≡ c = (let both = sym component ∙ is_in in cc) in
      let listed : slice_get comps.members c ≡ Some fault.members = subst (λ (k : ℕ). slice_get comps.members k ≡ Some fault.members) one fault.are_members in
      let all : fault.members ≡ members = one_element comps.members c fault.members members listed are_members in (
        fault.flaw,
        subst (λ (ms : List ℕ). SumsFail expression p ms r.points fault.flaw) all (subst (λ (s : Refutation). SumsFail expression p fault.members s.points fault.flaw) own fault.fails),
        fault.why_is,
      )

  pub group_of : (line : ℕ) (o : Option Fault) → Finds Group line (group_facts (pred_text p names q) r.points) o → Finds Whole line (refutation_facts (pred_text p names q) (Some r)) o
  group_of line o found =
      finds_same Group Whole (group_facts (pred_text p names q) r.points)
      (λ why. (λ (f, fails, is). record { q = q; named = (lt, refl); r = r; there = at; c = c; is_in = is_in; members = members; are_members = are_members; flaw = f; fails = fails; why_is = is }, own_sums why), same_points 0 r.points)
      line o found
