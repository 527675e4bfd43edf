-- Points of a component's calls are pairs of the program, and those that the check accepts are a refutation.
use Rattle.std.proofs.Common.{◌≡◌, ◌⊎◌, ℕ, zero, suc, drop, ◌+◌, ◌-◌, ◌<◌, ◌≤◌, ℤ, List, [], ◌∷◌, length, slice_get, Option, None, Some, inl, inr, refl, ap, sym, subst, ◌∙◌, arith}
use Rattle.std.specs.Prelude.{IfSome}
use Rattle.std.specs.List.{AllByRecursion}
use Rattle.cti_terms.specs.Listing.{Listing}
use Rattle.cti_terms.specs.Tree.{Tree}
use Rattle.cti_terms.specs.declared.atom_list.Atom.{Atom}
use Rattle.cti_terms.specs.declared.clauses.Clause.{Clause}
use Rattle.call_components.specs.Partition.{IsIn, Partition}
use Rattle.number_tests.specs.Refuting.{call_of, clause_of}
use Rattle.linear_rows.specs.Members.{In}
use Rattle.linear_rows.specs.declared.point.Point.{Point}
use Rattle.number_tests.specs.Shape.{IsPairOf}
use Rattle.number_tests.specs.declared.pair_point.PairPoint.{PairPoint}
use Rattle.number_tests.specs.declared.refutation.Refutation.{Refutation}
use Rattle.termination_model.proofs.Lists.{place_below}
use Rattle.termination_model.specs.mappings.ComponentViews.{members_in}
use Rattle.level_systems.specs.Held.{IsHeld}
use Rattle.level_systems.specs.Pairs.{call_at, clause_at}
use Rattle.level_systems.specs.Found.{IsOwnPair, IsRefutationOf, PairsAscend}
use Rattle.level_systems.specs.Refuted.{HasPoints, HasWidths, IsOfCalls, IsPointAt}
use Rattle.level_systems.proofs.PairLists.{drop_at}
use Rattle.level_systems.specs.Searched.{IsSoundCall}
use Rattle.level_systems.specs.declared.own_call.OwnCall.{OwnCall}
use Rattle.level_dual.specs.Accepted.{AreAccepted}

widths_long : (m n : ℕ) (o : Option Point) → m ≡ n → IfSome o (λ (y : Point). length y.w ≡ m) → IfSome o (λ (y : Point). length y.w ≡ n)
widths_long m n None e h = tt
widths_long m n (Some y) e h = h ∙ e

module _ (expression : ℕ → Tree → List ℤ) (p : Listing) (rows : ℕ → List (List ℤ)) where
  held_in : (owns : List OwnCall) → AllByRecursion (IsHeld expression p rows) owns → (own : OwnCall) → In own owns → IsHeld expression p rows own
  held_in [] h own i = absurd i
  held_in (y ∷ owns) h own (inl e) = subst (IsHeld expression p rows) e h.0
  held_in (y ∷ owns) h own (inr i) = held_in owns h.1 own i

  is_pair : (own : OwnCall) (x : PairPoint) → IsHeld expression p rows own → IsPointAt own x → IsPairOf p x
  is_pair own x held at =
      let k = clause_at p own.clause in
      let b = call_at p own.clause own.call in
      let below : own.call - 1 < length k.body = place_below k.body (own.call - 1) b held.at in
      let first : 1 ≤ own.clause = held.first in
      let one : 1 ≤ own.call = held.one in
      let last : own.call ≤ length k.body = omega (arith, below, one) in
      record {
        clause = k;
        there = subst (λ (n : ℕ). slice_get p.clauses (n - 1) ≡ Some k) (sym at.clause) held.there;
        first = subst (λ (n : ℕ). 1 ≤ n) (sym at.clause) first;
        call = subst (λ (n : ℕ). 1 ≤ n) (sym at.call) one;
        last = subst (λ (n : ℕ). n ≤ length k.body) (sym at.call) last;
        point = at.point ∙ held.width;
        at = widths_long own.rows.width k.vars x.at held.width at.at;
      }

  pub are_pairs : (owns : List OwnCall) → AllByRecursion (IsHeld expression p rows) owns → (xs : List PairPoint) → AllByRecursion (IsOfCalls owns) xs → AllByRecursion (IsPairOf p) xs
  are_pairs owns h [] all = tt
  are_pairs owns h (x ∷ xs) all =
      let w = all.0 in
      (is_pair w.0 x (held_in owns h w.0 w.1) w.2, are_pairs owns h xs all.1)

module _ (expression : ℕ → Tree → List ℤ) (p : Listing) (comps : Partition) (rows : ℕ → List (List ℤ)) (c : ℕ) where
  is_own : (own : OwnCall) (x : PairPoint) → IsHeld expression p rows own → IsIn comps c own.caller.0 → IsIn comps c own.callee.0 → IsPointAt own x → HasPoints x → IsOwnPair expression p comps rows c x
  is_own own x held caller callee at points =
      let clause : clause_of p x ≡ clause_at p own.clause = ap (clause_at p) at.clause in
      let call : call_of p x ≡ call_at p own.clause own.call = λ j. call_at p (at.clause j) (at.call j) in
      record {
        head = subst (IsIn comps c) (held.caller ∙ sym (ap (λ (k : Clause). k.head.pred.0) clause)) caller;
        call = subst (IsIn comps c) (held.callee ∙ sym (ap (λ (b : Atom). b.pred.0) call)) callee;
        natural = points.0;
        second = points.1;
      }

  all_in_of : (owns : List OwnCall) (P : OwnCall → Type 0) → AllByRecursion P owns → (own : OwnCall) → In own owns → P own
  all_in_of [] P h own i = absurd i
  all_in_of (y ∷ owns) P h own (inl e) = subst P e h.0
  all_in_of (y ∷ owns) P h own (inr i) = all_in_of owns P h.1 own i

  pub are_own : (owns : List OwnCall) → AllByRecursion (IsHeld expression p rows) owns → AllByRecursion (λ (own : OwnCall). IsIn comps c own.caller.0) owns
      → AllByRecursion (λ (own : OwnCall). IsIn comps c own.callee.0) owns → (xs : List PairPoint) → AllByRecursion (IsOfCalls owns) xs → AllByRecursion HasPoints xs → AllByRecursion (IsOwnPair expression p comps rows c) xs
  are_own owns h callers callees [] all points = tt
  are_own owns h callers callees (x ∷ xs) all points =
      let w = all.0 in (
        is_own w.0 x (all_in_of owns (IsHeld expression p rows) h w.0 w.1) (all_in_of owns (λ (own : OwnCall). IsIn comps c own.caller.0) callers w.0 w.1)
            (all_in_of owns (λ (own : OwnCall). IsIn comps c own.callee.0) callees w.0 w.1) w.2 points.0,
        are_own owns h callers callees xs all.1 points.1,
      )

  module _ (owns : List OwnCall) (held : AllByRecursion (IsHeld expression p rows) owns) (callers : AllByRecursion (λ (own : OwnCall). IsIn comps c own.caller.0) owns)
      (callees : AllByRecursion (λ (own : OwnCall). IsIn comps c own.callee.0) owns) where
    -- points of these calls that the check of a certificate accepts are a refutation
    pub is_refutation : (r : Refutation) → AllByRecursion (IsOfCalls owns) r.points → AreAccepted expression p rows (members_in comps c) r.points → IsRefutationOf expression p comps rows c r
    is_refutation r mine accepted = record {
      pairs = are_pairs expression p rows owns held r.points mine;
      ascend = accepted.ascend;
      own = are_own owns held callers callees r.points mine accepted.points;
      sums = accepted.sums;
      points = accepted.hold;
    }

    -- the same of what the code accepts, if it accepts something
    pub refutation_if : (xs : List PairPoint) → AllByRecursion (IsOfCalls owns) xs → (o : Option Refutation)
        → IfSome o (λ r. (r.points ≡ xs) × AreAccepted expression p rows (members_in comps c) xs) → IfSome o (IsRefutationOf expression p comps rows c)
    refutation_if xs mine None given = tt
    refutation_if xs mine (Some r) given =
        is_refutation r (subst (AllByRecursion (IsOfCalls owns)) (sym given.0) mine) (subst (AreAccepted expression p rows (members_in comps c)) (sym given.0) given.1)

-- the steps of the test whether pairs ascend with their points
pub more_ascend : (points : List PairPoint) (i : ℕ) (x : PairPoint) (clause call : ℕ) → slice_get points i ≡ Some x → (clause < x.clause) ⊎ ((clause ≡ x.clause) × (call < x.call))
    → (PairsAscend (clause, call) (drop i points) → PairsAscend (0, 0) points) → PairsAscend (x.clause, x.call) (drop (i + 1) points) → PairsAscend (0, 0) points
more_ascend points i x clause call at after before rest = before (subst (PairsAscend (clause, call)) (sym (drop_at points i x at)) (after, rest))

pub more_points : (points : List PairPoint) (i : ℕ) (x : PairPoint) → slice_get points i ≡ Some x → HasPoints x
    → (AllByRecursion HasPoints (drop i points) → AllByRecursion HasPoints points) → AllByRecursion HasPoints (drop (i + 1) points) → AllByRecursion HasPoints points
more_points points i x at has before rest = before (subst (AllByRecursion HasPoints) (sym (drop_at points i x at)) (has, rest))

pub none_left : {X : Type 0} (xs : List X) (i : ℕ) → length xs ≤ i → drop i xs ≡ []
none_left [] zero l = refl
none_left [] (suc i) l = refl
none_left (x ∷ xs) zero l = absurd (omega (arith, l))
none_left (x ∷ xs) (suc i) l = none_left xs i (omega (arith, l))

pub sound_widths : (p : Listing) (members : List ℕ) (owns : List OwnCall) → AllByRecursion (IsSoundCall p members) owns → AllByRecursion HasWidths owns
sound_widths p members [] h = tt
sound_widths p members (own ∷ owns) h = let first = h.0 in let numbers = first.numbers in (numbers.widths, sound_widths p members owns h.1)
