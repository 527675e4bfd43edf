-- A certificate's refutations are refutations of the views of its claims.
use Rattle.std.proofs.Common.{◌≡◌, ℕ, zero, suc, ◌-◌, ◌<◌, ◌≤◌, ◌==◌, ◌≤ℤ◌, inl, inr, ℤ, pos, Bool, true, false, if◌then◌else◌, cond, List, [], ◌∷◌, ◌++◌, map, take, length, slice_get, slice_index_or, unsigned_abs, Option, Some, IfSome, refl, sym, ap, subst, ◌∙◌, arith, eqb-true, eq-eqb}
use Rattle.std.specs.Prelude.{filter}
use Rattle.std.specs.List.{AllByRecursion}
use Rattle.std.proofs.lemmas.Int.{ints}
use Rattle.std.proofs.lemmas.List.{length-map}
use Rattle.std.proofs.lemmas.List.Elements.{All-from_recursion}
use Rattle.exact128.specs.Sums.{dot, entry}
use Rattle.linear_rows.specs.Rows.{AllHold, Holds}
use Rattle.cti_terms.specs.Tree.{Tree}
use Rattle.cti_terms.specs.Listing.{Listing}
use Rattle.cti_terms.specs.declared.atom_list.Atom.{Atom}
use Rattle.cti_terms.specs.declared.clauses.Clause.{Clause}
use Rattle.call_components.specs.Partition.{Partition, IsIn}
use Rattle.number_tests.specs.declared.pair_point.PairPoint.{PairPoint}
use Rattle.cert_structure.specs.declared.parts.Parts.{Parts}
use Rattle.linear_rows.specs.declared.point.Point.{Point}
use Rattle.termination_model.specs.claims.Claims.{Claims, SomeOf}
use Rattle.termination_model.specs.grounds.Grounds.{Family}
use Rattle.termination_model.specs.mappings.Refutation.{Pair, Load, IsPair, gather, head_load, call_load, values_at}
use Rattle.termination_model.specs.sizes.Rows.{added}
use Rattle.termination_model.specs.sizes.Sizes.{rows_of}
use Rattle.termination_model.specs.sizes.Systems.{row_over, system}
use Rattle.termination_model.specs.mappings.View.{Member, Place, Call, place_of, rule_of, system_of, view_of}
use Rattle.termination_model.specs.mappings.View as view
use Rattle.termination_model.proofs.Lists.{by_places, from_places, indexed, mapped_place, there}
use Rattle.cert_checker.specs.Claimed.{claims_of}
use Rattle.cert_checker.specs.Excluded.{IsNatural, IsPairIn, RefutationsExclude, itself, pair_of}
use Rattle.number_tests.specs.Refuting.{PointHolds, RowHolds, RowsHold, SumsRefute, atom_or_none, call_loads, call_of, clause_of, clause_or_none, head_loads, load_at, numbers_of, values_of}
use Rattle.number_tests.specs.Shape.{IsPairOf, list_at}
use Rattle.cert_checker.proofs.Claims.{natural_is, naturals_are}
use Rattle.number_tests.proofs.ColumnLengths.{an_element}
use Rattle.termination_model.specs.mappings.ComponentViews.{rank_in}

-- an element that passes a test is among the mapped ones that do
some_kept : {X Y : Type 0} → (t : X → Bool) (g : X → Y) (xs : List X) (i : ℕ) (x : X) → slice_get xs i ≡ Some x → t x ≡ true → SomeOf (λ (y : Y). y ≡ g x) (map g (filter t xs))
some_kept t g [] i x e passes = cc
some_kept t g (a ∷ xs) zero x e passes = let same : a ≡ x = cc in keep (t a) (ap t same ∙ passes) (ap g same)
  where
    keep : (b : Bool) → b ≡ true → g a ≡ g x → SomeOf (λ y. y ≡ g x) (map g (cond b (a ∷ filter t xs) (filter t xs)))
    keep true f s = inl s
    keep false f s = cc
some_kept t g (a ∷ xs) (suc i) x e passes = go (t a) (some_kept t g xs i x e passes)
  where
    go : (b : Bool) → SomeOf (λ y. y ≡ g x) (map g (filter t xs)) → SomeOf (λ y. y ≡ g x) (map g (cond b (a ∷ filter t xs) (filter t xs)))
    go true rest = inr rest
    go false rest = rest

pub take_mapped : {X Y : Type 0} → (f : X → Y) (j : ℕ) (xs : List X) → take j (map f xs) ≡ map f (take j xs)
take_mapped f zero xs = refl
take_mapped f (suc j) [] = refl
take_mapped f (suc j) (x ∷ xs) = ap (λ s. f x ∷ s) (take_mapped f j xs)

pub all_mapped : {X Y : Type 0} → (f : X → Y) (P : X → Type 0) (Q : Y → Type 0) → ((x : X) → P x → Q (f x)) → (xs : List X) → AllByRecursion P xs → AllByRecursion Q (map f xs)
all_mapped f P Q h [] k = tt
all_mapped f P Q h (x ∷ xs) k = (h x k.0, all_mapped f P Q h xs k.1)

some_mapped : {X Y : Type 0} → (f : X → Y) (P : X → Type 0) (Q : Y → Type 0) → ((x : X) → P x → Q (f x)) → (xs : List X) → SomeOf P xs → SomeOf Q (map f xs)
some_mapped f P Q h [] some = some
some_mapped f P Q h (x ∷ xs) (inl p) = inl (h x p)
some_mapped f P Q h (x ∷ xs) (inr some) = inr (some_mapped f P Q h xs some)

-- loads of other predicates are not gathered
none_gathered : (q : ℕ) (hs : List Load) → AllByRecursion (λ (h : Load). (h.0 == q) ≡ false) hs → gather q hs ≡ []
none_gathered q [] all = refl
none_gathered q (h ∷ hs) all = (λ i. if all.0 i then added h.1 (gather q hs) else gather q hs) ∙ none_gathered q hs all.1

-- lists that are equal element by element
mapped_same : {X Y : Type 0} → (f g : X → Y) (xs : List X) → AllByRecursion (λ x. f x ≡ g x) xs → map f xs ≡ map g xs
mapped_same f g [] all = refl
mapped_same f g (x ∷ xs) all = let rest = mapped_same f g xs all.1 in λ i. all.0 i ∷ rest i

map_twice : {X Y Z : Type 0} → (f : X → Y) (g : Y → Z) (xs : List X) → map g (map f xs) ≡ map (λ x. g (f x)) xs
map_twice f g [] = refl
map_twice f g (x ∷ xs) = ap (λ s. g (f x) ∷ s) (map_twice f g xs)

-- the numbers of a natural point
numbers_are : (x : Point) → IsNatural x → (pos (unsigned_abs x.t) ∷ map pos (map unsigned_abs x.w)) ≡ numbers_of x
numbers_are x is = λ i. natural_is x.t is.t i ∷ naturals_are x.w is.w i

module _ (size : (ℕ → ℕ) → Tree → ℕ) (truth : (ℕ → Bool) → Tree → Bool) (expression : ℕ → Tree → List ℤ)
    (p : Listing) (comps : Partition) (parts : Parts) (grounds : Family) (pre : ℕ → Family) (r : ℕ) where
  abbrev claims : Claims
  claims = claims_of size truth expression comps parts grounds pre

  pub system_same : (n : ℕ) (bs : List Atom) → system_of expression n (map (view.call_of claims r itself) bs) ≡ system expression (rows_of parts.rows) n bs
  system_same n [] = refl
  system_same n (b ∷ bs) = ap (λ s. map (row_over expression n b.args) (rows_of parts.rows b.pred.0) ++ s) (system_same n bs)

  -- rows that hold at a natural point hold there as the view's rows
  all_hold : (c : Clause) (j : ℕ) (x : Point) → IsNatural x → RowsHold expression (rows_of parts.rows) c j x
      → AllHold (system_of expression c.vars (take j (map (view.call_of claims r itself) c.body))) (unsigned_abs x.t) (map unsigned_abs x.w)
  all_hold c j x is hold =
      let rows : system_of expression c.vars (take j (map (view.call_of claims r itself) c.body)) ≡ system expression (rows_of parts.rows) c.vars (take j c.body) =
      ap (system_of expression c.vars) (take_mapped (view.call_of claims r itself) j c.body) ∙ system_same c.vars (take j c.body) in
      subst (λ (rs : List (List ℤ)). AllHold rs (unsigned_abs x.t) (map unsigned_abs x.w)) (sym rows)
      (All-from_recursion (λ (row : List ℤ). Holds row (unsigned_abs x.t) (map unsigned_abs x.w)) (system expression (rows_of parts.rows) c.vars (take j c.body))
      (from_places (λ (row : List ℤ). Holds row (unsigned_abs x.t) (map unsigned_abs x.w)) (system expression (rows_of parts.rows) c.vars (take j c.body)) (λ i row e.
      let own = by_places (RowHolds x) (system expression (rows_of parts.rows) c.vars (take j c.body)) hold i row e in
      subst (λ (ns : List ℤ). pos 0 ≤ℤ dot row ns) (sym (numbers_are x is)) own.holds)))

  rank_is : (q : ℕ) → IsIn comps r q → rank_in comps q ≡ r
  rank_is q e = indexed comps.of q r (length comps.members) e

  values_same : (n : ℕ) (ts : List Tree) (x : Point) → length x.w ≡ n → IsNatural x
      → values_at expression n (map unsigned_abs x.w) (unsigned_abs x.t) ts ≡ values_of (map (expression (length x.w)) ts) x
  values_same n ts x same is =
      (λ i. natural_is x.t is.t i ∷ map (λ e. dot e (numbers_are x is i)) (map (expression n) ts)) ∙ ap (λ (k : ℕ). values_of (map (expression k) ts) x) (sym same)

  module _ (x : PairPoint) (pair : IsPairOf p x) (inside : IsPairIn comps r p x) (hold : PointHolds expression p (rows_of parts.rows) x) where
    own : clause_of p x ≡ pair.clause
    own = ap clause_or_none pair.there

    width : length x.point.w ≡ (clause_of p x).vars
    width = pair.point ∙ ap (λ (c : Clause). c.vars) (sym own)

    call_at : slice_get (clause_of p x).body (x.call - 1) ≡ Some (call_of p x)
    call_at =
        let first = pair.call in
        let last = pair.last in
        let same = ap (λ (c : Clause). length c.body) own in
        let (b, e) = an_element (clause_of p x).body (x.call - 1) (omega (arith, first, last, same)) in
        e ∙ ap (λ (o : Option Atom). Some (atom_or_none o)) (sym e)

    is_pair : IsPair expression (view_of p claims r itself) (pair_of p claims r x)
    is_pair = record {
      there = some_kept (λ (k : Clause). rank_in comps k.head.pred.0 == r) (rule_of claims r itself) p.clauses (x.clause - 1) (clause_of p x)
          (pair.there ∙ ap Some (sym own)) (eq-eqb (rank_in comps (clause_of p x).head.pred.0) r (rank_is (clause_of p x).head.pred.0 inside.head));
      call = mapped_place (view.call_of claims r itself) (clause_of p x).body (x.call - 1) (call_of p x) call_at;
      member = let passes = eq-eqb (rank_in comps (call_of p x).pred.0) r (rank_is (call_of p x).pred.0 inside.call) in
          place_yes (rank_in comps (call_of p x).pred.0 == r) passes;
      width = length-map x.point.w unsigned_abs ∙ width;
      holds = all_hold (clause_of p x) (x.call - 1) x.point inside.natural hold.0;
      point = elim inside.positive [
        | inl some ↦ inl (let n = inside.natural.t in omega (arith, ints, some))
        | inr other ↦ inr (second other)
      ];
    }
      where
        second : (y : Point) × (x.at ≡ Some y) × IsNatural y × (pos 1 ≤ℤ y.t)
            → (w : List ℕ) × (t : ℕ) × (1 ≤ t) × (length w ≡ (clause_of p x).vars) × AllHold (system_of expression (clause_of p x).vars (take (x.call - 1) (map (view.call_of claims r itself) (clause_of p x).body))) t w
        second (y, at, natural, some) =
            let wide : length y.w ≡ pair.clause.vars = subst (λ (o : Option Point). IfSome o (λ (z : Point). length z.w ≡ pair.clause.vars)) at pair.at in
            let rows : RowsHold expression (rows_of parts.rows) (clause_of p x) (x.call - 1) y = subst (λ (o : Option Point). IfSome o (RowsHold expression (rows_of parts.rows) (clause_of p x) (x.call - 1))) at hold.1 in
            (map unsigned_abs y.w, unsigned_abs y.t, omega (arith, ints, some), length-map y.w unsigned_abs ∙ wide ∙ ap (λ (c : Clause). c.vars) (sym own), all_hold (clause_of p x) (x.call - 1) y natural rows)

        place_yes : (b : Bool) → b ≡ true → (if b then Member (call_of p x).pred.0 else view.Lower (view.upward_union claims (call_of p x).pred.0)) ≡ Member (call_of p x).pred.0
        place_yes true e = refl
        place_yes false e = cc

    head_same : head_load expression (pair_of p claims r x) ≡ load_at expression (clause_of p x).head x.point
    head_same = ap (λ (vs : List ℤ). ((clause_of p x).head.pred.0, vs)) (values_same (clause_of p x).vars (clause_of p x).head.args x.point width inside.natural)

    call_same : call_load expression (pair_of p claims r x) ≡ load_at expression (call_of p x) x.point
    call_same = ap (λ (vs : List ℤ). ((call_of p x).pred.0, vs)) (values_same (clause_of p x).vars (call_of p x).args x.point width inside.natural)

pub in_range : (xs : List ℕ) (i d r : ℕ) → slice_index_or xs i d ≡ r → r < d → slice_get xs i ≡ Some r
in_range [] i d r e lt = absurd (omega (arith, e))
in_range (x ∷ xs) zero d r e lt = ap Some e
in_range (x ∷ xs) (suc i) d r e lt = in_range xs i d r e lt

-- a number of another component is not that of a member
other_number : (comps : Partition) (r q a : ℕ) → rank_in comps a ≡ r → (rank_in comps q == r) ≡ false → (a == q) ≡ false
other_number comps r q a own apart = go (a == q) refl
  where
    go : (b : Bool) → (a == q) ≡ b → b ≡ false
    go false e = refl
    go true e =
        let same : a ≡ q = eqb-true a q e in
        let passes : (rank_in comps q == r) ≡ true = eq-eqb (rank_in comps q) r (sym (ap (rank_in comps) same) ∙ own) in
        let both : true ≡ false = sym passes ∙ apart in
        cc

-- all that is known of a pair
abbrev Whole : (ℕ → Tree → List ℤ) → Listing → Partition → Parts → ℕ → PairPoint → Type 0
Whole expression p comps parts r x = IsPairOf p x × IsPairIn comps r p x × PointHolds expression p (rows_of parts.rows) x

pub excluded : (size : (ℕ → ℕ) → Tree → ℕ) (truth : (ℕ → Bool) → Tree → Bool) (expression : ℕ → Tree → List ℤ) → RefutationsExclude size truth expression
excluded size truth expression p comps parts grounds pre prog are have hold q r f slot isin inside = record {
  pairs = all_mapped (pair_of p c r) (Whole expression p comps parts r) (IsPair expression (view_of p c r itself)) (λ x h. let (one, two, three) = h in is_pair size truth expression p comps parts grounds pre r x one two three) f.points whole;
  positive = some_mapped (pair_of p c r) (λ (x : PairPoint). pos 1 ≤ℤ x.point.t) (λ (y : Pair). 1 ≤ y.t) (λ x some. omega (arith, ints, some)) f.points both.0.positive;
  columns = λ a i. column a i (rank_in comps a == r) refl;
}
  where
    c : Claims
    c = claims_of size truth expression comps parts grounds pre

    members : List ℕ
    members = list_at comps.members r

    inner : r < length comps.members
    inner = are.within r q isin

    at : slice_get comps.members r ≡ Some members
    at = there comps.members r [] inner

    both : SumsRefute expression p members f.points × AllByRecursion (PointHolds expression p (rows_of parts.rows)) f.points
    both = hold q r f members slot isin at

    whole : AllByRecursion (Whole expression p comps parts r) f.points
    whole = from_places (Whole expression p comps parts r) f.points (λ i x e. (by_places (IsPairOf p) f.points (have.pairs q f slot) i x e, by_places (IsPairIn comps r p) f.points inside i x e, by_places (PointHolds expression p (rows_of parts.rows)) f.points both.1 i x e))

    heads : map (head_load expression) (map (pair_of p c r) f.points) ≡ head_loads expression p f.points
    heads = map_twice (pair_of p c r) (head_load expression) f.points
        ∙ mapped_same (λ x. head_load expression (pair_of p c r x)) (λ x. load_at expression (clause_of p x).head x.point) f.points
        (from_places (λ (x : PairPoint). head_load expression (pair_of p c r x) ≡ load_at expression (clause_of p x).head x.point) f.points
        (λ i x e. let (one, two, three) = by_places (Whole expression p comps parts r) f.points whole i x e in head_same size truth expression p comps parts grounds pre r x one two three))

    calls : map (call_load expression) (map (pair_of p c r) f.points) ≡ call_loads expression p f.points
    calls = map_twice (pair_of p c r) (call_load expression) f.points
        ∙ mapped_same (λ x. call_load expression (pair_of p c r x)) (λ x. load_at expression (call_of p x) x.point) f.points
        (from_places (λ (x : PairPoint). call_load expression (pair_of p c r x) ≡ load_at expression (call_of p x) x.point) f.points
        (λ i x e. let (one, two, three) = by_places (Whole expression p comps parts r) f.points whole i x e in call_same size truth expression p comps parts grounds pre r x one two three))

    column : (a i : ℕ) (b : Bool) → (rank_in comps a == r) ≡ b
        → entry (gather a (map (head_load expression) (map (pair_of p c r) f.points))) i ≤ℤ entry (gather a (map (call_load expression) (map (pair_of p c r) f.points))) i
    column a i true e =
        let own : slice_get comps.of a ≡ Some r = in_range comps.of a (length comps.members) r (eqb-true (rank_in comps a) r e) inner in
        let found = both.0.columns a ((are.members r members at a).1 own) i in
        subst (λ (hs : List Load). entry (gather a hs) i ≤ℤ entry (gather a (map (call_load expression) (map (pair_of p c r) f.points))) i) (sym heads)
        (subst (λ (hs : List Load). entry (gather a (head_loads expression p f.points)) i ≤ℤ entry (gather a hs) i) (sym calls) found)
    column a i false e =
        let no_heads : gather a (head_loads expression p f.points) ≡ [] = none_gathered a (head_loads expression p f.points)
        (all_mapped (λ (x : PairPoint). load_at expression (clause_of p x).head x.point) (Whole expression p comps parts r) (λ (h : Load). (h.0 == a) ≡ false)
        (λ x h. let (one, g, three) = h in other_number comps r a (clause_of p x).head.pred.0 (indexed comps.of (clause_of p x).head.pred.0 r (length comps.members) g.head) e) f.points whole) in
        let no_calls : gather a (call_loads expression p f.points) ≡ [] = none_gathered a (call_loads expression p f.points)
        (all_mapped (λ (x : PairPoint). load_at expression (call_of p x) x.point) (Whole expression p comps parts r) (λ (h : Load). (h.0 == a) ≡ false)
        (λ x h. let (one, g, three) = h in other_number comps r a (call_of p x).pred.0 (indexed comps.of (call_of p x).pred.0 r (length comps.members) g.call) e) f.points whole) in
        let first = ap (gather a) heads ∙ no_heads in
        let second = ap (gather a) calls ∙ no_calls in
        subst (λ (xs : List ℤ). entry xs i ≤ℤ entry (gather a (map (call_load expression) (map (pair_of p c r) f.points))) i) (sym first)
        (subst (λ (xs : List ℤ). entry [] i ≤ℤ entry xs i) (sym second) (omega (arith, ints)))
