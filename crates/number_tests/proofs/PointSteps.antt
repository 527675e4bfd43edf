-- What the test of a system at a point decides.
use Rattle.std.proofs.Common.{◌≡◌, ◌↔◌, ℕ, ◌-◌, ℤ, pos, Bool, true, false, ◌||◌, not, if◌then◌else◌, List, [], ◌∷◌, map, take, slice_get, Option, Some, None, IfSome, refl, sym, ap, subst, ◌∙◌}
use Rattle.std.specs.List.{AllByRecursion}
use Rattle.cti_terms.specs.Tree.{Tree}
use Rattle.cti_terms.specs.Listing.{Listing}
use Rattle.cti_terms.specs.declared.clauses.Clause.{Clause}
use Rattle.number_tests.specs.declared.pair_point.PairPoint.{PairPoint}
use Rattle.linear_rows.specs.declared.point.Point.{Point}
use Rattle.linear_rows.specs.declared.system.System.{System}
use Rattle.termination_model.specs.sizes.Sizes.{wide_rows}
use Rattle.termination_model.specs.sizes.Systems.{row_fits, system}
use Rattle.termination_model.specs.sizes.ShortSystems.{short_row}
use Rattle.number_tests.specs.Refuting.{PointHolds, RowHolds, RowsHold, ValueFits, clause_of, clause_or_none}
use Rattle.call_components.proofs.Lists.{all_map}
use Rattle.linear_rows.specs.Plain.{plain_rows}
use Rattle.number_tests.specs.Failing.{IsFirstOfPair, PointFails, fails_point, first, second, wide_point}
use Rattle.number_tests.specs.SystemPoints.{SystemFails, SystemHolds, ValueHolds, fails, wide}
use Rattle.number_tests.specs.declared.flaw.Flaw.{Flaw}
use Rattle.number_tests.specs.declared.flaw.Flaw.TheVariants as flaw
use Rattle.number_tests.specs.declared.point_flaw.PointFlaw.{PointFlaw}
use Rattle.number_tests.specs.Systems.{IsSystemUpTo}

-- a fact of what is there
pub if_some_more : {X : Type 0} → (P Q : X → Type 0) → ((x : X) → P x → Q x) → (o : Option X) → IfSome o P → IfSome o Q
if_some_more P Q f None h = tt
if_some_more P Q f (Some x) h = f x h

fits_or_not : (r : List ℤ) (b : Bool) → row_fits r ≡ b → (not b) ≡ false → short_row r ≡ r
fits_or_not r true e h = λ i. if e i then r else map (λ _. pos 0) r
fits_or_not r false e h = cc

or_false : (a b : Bool) → (a || b) ≡ false → (a ≡ false) × (b ≡ false)
or_false true b e = cc
or_false false b e = (refl, e)

fits_now : (b : Bool) → (not b) ≡ false → b ≡ true
fits_now true e = refl
fits_now false e = cc

-- rows that were not replaced fit, and have what the others in their place have
from_short : (H : List ℤ → Type 0) (rs : List (List ℤ)) → wide_rows rs ≡ false → AllByRecursion H (map short_row rs) → AllByRecursion (λ r. (row_fits r ≡ true) × H r) rs
from_short H [] e all = tt
from_short H (r ∷ rs) e all =
    let (here, rest) = or_false (not (row_fits r)) (wide_rows rs) e in
    let same : short_row r ≡ r = fits_or_not r (row_fits r) refl here in
    ((fits_now (row_fits r) here, subst H same all.0), from_short H rs rest all.1)

to_short : (H : List ℤ → Type 0) (rs : List (List ℤ)) → AllByRecursion (λ r. (row_fits r ≡ true) × H r) rs → (wide_rows rs ≡ false) × AllByRecursion H (map short_row rs)
to_short H [] all = (refl, tt)
to_short H (r ∷ rs) all =
    let rest = to_short H rs all.1 in
    let here : (not (row_fits r)) ≡ false = ap not all.0.0 in
    let same : short_row r ≡ r = fits_or_not r (row_fits r) refl here in
    ((λ i. here i || rest.0 i), (subst H (sym same) all.0.1, rest.1))

module _ (expression : ℕ → Tree → List ℤ) (rows : ℕ → List (List ℤ)) (c : Clause) (j : ℕ) (s : System) (is : IsSystemUpTo expression rows c j s) where
  from_system : (H : List ℤ → Type 0) → (s.wide ≡ false) × AllByRecursion H (plain_rows s.rows.list) → AllByRecursion (λ r. (row_fits r ≡ true) × H r) (system expression rows c.vars (take j c.body))
  from_system H h = from_short H (system expression rows c.vars (take j c.body)) (sym is.wide ∙ h.0) (subst (AllByRecursion H) is.rows h.1)

  to_system : (H : List ℤ → Type 0) → AllByRecursion (λ r. (row_fits r ≡ true) × H r) (system expression rows c.vars (take j c.body)) → (s.wide ≡ false) × AllByRecursion H (plain_rows s.rows.list)
  to_system H h = let (narrow, all) = to_short H (system expression rows c.vars (take j c.body)) h in (is.wide ∙ narrow, subst (AllByRecursion H) (sym is.rows) all)

  pub system_holds : (x : Point) → SystemHolds s x → RowsHold expression rows c j x
  system_holds x h =
      all_map (λ r. (row_fits r ≡ true) × ValueHolds x r) (RowHolds x) (λ r a. record { numbers_fit = a.0; value_fits = a.1.0; holds = a.1.1 })
      (system expression rows c.vars (take j c.body)) (from_system (ValueHolds x) h)

  holds_system : (x : Point) → RowsHold expression rows c j x → SystemHolds s x
  holds_system x h =
      to_system (ValueHolds x) (all_map (RowHolds x) (λ r. (row_fits r ≡ true) × ValueHolds x r) (λ r a. (a.numbers_fit, (a.value_fits, a.holds))) (system expression rows c.vars (take j c.body)) h)

  -- why the rows do not hold at a point
  pub point_fails : (x : Point) (f : Flaw) → SystemFails s x f → PointFails expression rows c j x f
  point_fails x flaw.Wide (wide never) = wide_point (λ fit. never (to_system (ValueFits x) fit))
  point_fails x flaw.Fails (fails fit never) = fails_point (from_system (ValueFits x) fit) (λ h. never (holds_system x h))

  pub first_fails : (x : PairPoint) (place : ℕ) (f : PointFlaw) → IsFirstOfPair (SystemHolds s) (SystemFails s) x place f → IsFirstOfPair (RowsHold expression rows c j) (PointFails expression rows c j) x place f
  first_fails x place f (first at why) = first at (point_fails x.point f.flaw why)
  first_fails x place f (second y has holds at why) = second y has (system_holds x.point holds) at (point_fails y f.flaw why)

  pub point_decided : (p : Listing) (x : PairPoint) (P : Type 0) → slice_get p.clauses (x.clause - 1) ≡ Some c → j ≡ x.call - 1
      → P ↔ (SystemHolds s x.point × IfSome x.at (SystemHolds s)) → P ↔ PointHolds expression p rows x
  point_decided p x P at same decides =
      let own : c ≡ clause_of p x = sym (ap clause_or_none at) in
      let whole = subst (λ (k : ℕ). P ↔ (RowsHold expression rows c k x.point × IfSome x.at (RowsHold expression rows c k))) same (
        λ h. (system_holds x.point (decides.0 h).0, if_some_more (SystemHolds s) (RowsHold expression rows c j) system_holds x.at (decides.0 h).1),
        λ h. decides.1 (holds_system x.point h.0, if_some_more (RowsHold expression rows c j) (SystemHolds s) holds_system x.at h.1),
      ) in
      subst (λ (y : Clause). P ↔ (RowsHold expression rows y (x.call - 1) x.point × IfSome x.at (RowsHold expression rows y (x.call - 1)))) own whole
