-- Where a certificate's numbers hold, its claims have proved sizes and falls.
use Rattle.std.proofs.Common.{◌≡◌, ℕ, zero, suc, ◌+◌, ◌<◌, ◌≤◌, ◌≤ℤ◌, ℤ, pos, negsuc, Bool, List, [], ◌∷◌, All, Any, map, take, length, slice_get, unsigned_abs, Option, Some, refl, sym, ap, subst, ◌∙◌, arith}
use Rattle.std.specs.List.{AllByRecursion}
use Rattle.std.proofs.lemmas.Int.{ints}
use Rattle.cti_terms.specs.Tree.{Tree}
use Rattle.cti_terms.specs.Listing.{Listing, IsAtom, IsClause, IsProgram}
use Rattle.cti_terms.specs.declared.atom_list.Atom.{Atom}
use Rattle.cti_terms.specs.declared.clauses.Clause.{Clause}
use Rattle.cti_terms.specs.declared.predicates.Pred.{Pred}
use Rattle.call_components.specs.Partition.{Partition, AreComponents, IsIn}
use Rattle.call_components.proofs.Lists.{any_here, any_there, has_contains}
use Rattle.number_tests.specs.declared.level_part.LevelPart.{LevelPart}
use Rattle.cert_structure.specs.declared.parts.Parts.{Parts}
use Rattle.linear_rows.specs.declared.multipliers.Multipliers.{Multipliers}
use Rattle.linear_rows.specs.Proves.{Proves}
use Rattle.termination_model.specs.claims.Claims.{Measure, Claims, IsRanked, fall_row}
use Rattle.termination_model.specs.grounds.Grounds.{Family}
use Rattle.termination_model.specs.sizes.Rows.{scaled, added}
use Rattle.termination_model.specs.sizes.Short.{Provable, SizesProved, DescendsProved}
use Rattle.termination_model.specs.sizes.Sizes.{rows_of}
use Rattle.termination_model.specs.sizes.Systems.{row_over}
use Rattle.termination_model.specs.sizes.ShortSystems.{short_system}
use Rattle.termination_model.proofs.Lists.{by_places, from_places, place_below, there}
use Rattle.cert_checker.specs.Claimed.{claims_of, natural_coefficients, measure_of, measures_from, mapping_of, natural_offset, mapping_count}
use Rattle.number_tests.specs.Proved.{fall_of, level_of}
use Rattle.cert_checker.specs.Proved.{FallsHold}
use Rattle.linear_rows.specs.Showing.{AreMultipliers, IsShown}
use Rattle.number_tests.specs.Shape.{IsLevelPart, list_at, row_count}
use Rattle.cert_checker.specs.Shape.{AreTogether, HaveFalls, HaveLevels}
use Rattle.cert_checker.specs.Shows.{ClausesAreRanked, FallsAreProved, SizesAreProved}
use Rattle.cert_checker.proofs.LevelFacts.{level_parts}
use Rattle.number_tests.proofs.ColumnLengths.{an_element}
use Rattle.number_tests.proofs.Sized.{some_below}
use Rattle.termination_model.specs.mappings.ComponentViews.{rank_in}

pub natural_is : (x : ℤ) → pos 0 ≤ℤ x → pos (unsigned_abs x) ≡ x
natural_is x h = omega (arith, ints)

pub naturals_are : (xs : List ℤ) → All (λ x. pos 0 ≤ℤ x) xs → map pos (map unsigned_abs xs) ≡ xs
naturals_are [] h = refl
naturals_are (x ∷ xs) h =
    let here = natural_is x (h 0 x (omega arith)) in
    let rest = naturals_are xs (λ k d lt. h (suc k) d (omega arith)) in
    λ i. here i ∷ rest i

-- what is shown is provable
provable : (n : ℕ) (rows : List (List ℤ)) (target : List ℤ) (by : Multipliers) → AreMultipliers n by → IsShown rows target by → Provable rows target
provable n rows target by are shown = (by.list, unsigned_abs by.scale, are.naturals, subst (Proves rows by.list target) (sym (natural_is by.scale are.scale)) shown.proves)

pub sizes : (size : (ℕ → ℕ) → Tree → ℕ) (truth : (ℕ → Bool) → Tree → Bool) (expression : ℕ → Tree → List ℤ) → SizesAreProved size truth expression
sizes size truth expression p comps parts grounds pre have hold =
    from_places (SizesProved (claims_of size truth expression comps parts grounds pre)) p.clauses (λ k c at.
    from_places (λ (r : List ℤ). Provable (short_system expression (rows_of parts.rows) c.vars c.body) (row_over expression c.vars c.head.args r)) (rows_of parts.rows c.head.pred.0) (λ i row ei.
    let (by, eb) = an_element (list_at parts.row_proofs k) i (omega (arith, have.rows k c at, place_below (rows_of parts.rows c.head.pred.0) i row ei)) in
    let are = by_places (AreMultipliers (row_count (rows_of parts.rows) c.body)) (list_at parts.row_proofs k) (have.multipliers k c at) i by eb in
    provable (row_count (rows_of parts.rows) c.body) (short_system expression (rows_of parts.rows) c.vars c.body) (row_over expression c.vars c.head.args row) by are (hold k c at i row by ei eb)))

all_measures : (parts : Parts) (pre : ℕ → Family) (Q : Measure → Type 0) (m n : ℕ) → ((i : ℕ) → i < m + n → Q (measure_of parts pre i)) → AllByRecursion Q (measures_from parts pre m n)
all_measures parts pre Q m zero h = tt
all_measures parts pre Q m (suc n) h = (h m (omega arith), all_measures parts pre Q (suc m) n (λ i lt. h i (omega arith)))

pub any_at : {X : Type 0} → (P : X → Type 0) (xs : List X) (i : ℕ) (x : X) → slice_get xs i ≡ Some x → P x → Any P xs
any_at P [] i x e h = cc
any_at P (y ∷ xs) zero x e h = let same : y ≡ x = cc in any_here P y xs (subst P (sym same) h)
any_at P (y ∷ xs) (suc i) x e h = any_there P y xs (any_at P xs i x e h)

count_of : (parts : Parts) (ms : List ℕ) (n : ℕ) → 0 < length ms → ((q : ℕ) → slice_get ms 0 ≡ Some q → length (list_at parts.levels q) ≡ n) → mapping_count parts ms ≡ n
count_of parts [] n some each = absurd (omega arith)
count_of parts (q ∷ ms) n some each = each q refl

module _ (size : (ℕ → ℕ) → Tree → ℕ) (truth : (ℕ → Bool) → Tree → Bool) (expression : ℕ → Tree → List ℤ)
    (p : Listing) (comps : Partition) (parts : Parts) (grounds : Family) (pre : ℕ → Family) where
  abbrev claims : Claims
  claims = claims_of size truth expression comps parts grounds pre

  level_is : (n vars : ℕ) (a : Atom) (l : LevelPart) (m : ℕ) → IsLevelPart n l → slice_get (list_at parts.levels a.pred.0) m ≡ Some l
      → row_over expression vars a.args (pos (natural_offset (slice_get (list_at parts.levels a.pred.0) m)) ∷ map pos (natural_coefficients (slice_get (list_at parts.levels a.pred.0) m))) ≡ level_of expression vars a l
  level_is n vars a l m is at =
      ap (λ (o : Option LevelPart). row_over expression vars a.args (pos (natural_offset o) ∷ map pos (natural_coefficients o))) at
      ∙ ap (row_over expression vars a.args) (λ i. natural_is l.offset is.offset i ∷ naturals_are l.coeffs is.naturals i)

  fall_is : (n k : ℕ) (c : Clause) (b : Atom) (head call : LevelPart) (m : ℕ) → IsLevelPart n head → IsLevelPart k call
      → slice_get (list_at parts.levels c.head.pred.0) m ≡ Some head → slice_get (list_at parts.levels b.pred.0) m ≡ Some call
      → fall_row claims c b 1 (mapping_of parts m) ≡ fall_of expression c b head call
  fall_is n k c b head call m hn kn eh ec =
      let first = level_is n c.vars c.head head m hn eh in
      let second = level_is k c.vars b call m kn ec in
      λ i. added (first i) (scaled (negsuc 0) (added (second i) (pos 1 ∷ [])))

  module _ (prog : IsProgram p) (are : AreComponents p comps) where
    clause_is : (k : ℕ) (c : Clause) → slice_get p.clauses k ≡ Some c → IsClause p.preds c
    clause_is = by_places (IsClause p.preds) p.clauses prog.clauses

    -- a predicate is in the component that its rank names
    in_rank : (vars : ℕ) (a : Atom) → IsAtom p.preds vars a → IsIn comps (rank_in comps a.pred.0) a.pred.0
    in_rank vars a is = there comps.of a.pred.0 (length comps.members) (omega (arith, are.each, some_below (λ (d : Pred). d.arity ≡ length a.args) p.preds a.pred.0 is.arity))

    module _ (levels : HaveLevels p comps parts) (have : HaveFalls p comps parts) (hold : FallsHold expression p comps parts) where
      -- a component's measures are the mappings of each member
      measure_count : (vars : ℕ) (a : Atom) → IsAtom p.preds vars a → mapping_count parts (list_at comps.members (rank_in comps a.pred.0)) ≡ length (list_at parts.levels a.pred.0)
      measure_count vars a is =
          let r = rank_in comps a.pred.0 in
          let inside = in_rank vars a is in
          let at : slice_get comps.members r ≡ Some (list_at comps.members r) = there comps.members r [] (are.within r a.pred.0 inside) in
          count_of parts (list_at comps.members r) (length (list_at parts.levels a.pred.0)) (are.ascending r (list_at comps.members r) at).1
          (λ q e. levels.members q a.pred.0 ((are.members r (list_at comps.members r) at q).0 (has_contains (list_at comps.members r) q (0, e)) ∙ sym inside))

      descends : (k : ℕ) (c : Clause) → slice_get p.clauses k ≡ Some c → (m : ℕ) → m < length (list_at parts.levels c.head.pred.0) → DescendsProved claims (measure_of parts pre m) c
      descends k c at m lt j b ej same =
          let is = clause_is k c at in
          let atom = by_places (IsAtom p.preds c.vars) c.body is.body j b ej in
          let together : AreTogether comps c.head.pred.0 b.pred.0 = in_rank c.vars c.head is.head ∙ ap Some (sym same) ∙ sym (in_rank c.vars b atom) in
          let (head, eh) = an_element (list_at parts.levels c.head.pred.0) m lt in
          let (call, ec) = an_element (list_at parts.levels b.pred.0) m (omega (arith, lt, levels.members c.head.pred.0 b.pred.0 together)) in
          let (by, eb) = an_element (list_at (list_at parts.falls k) j) m (omega (arith, lt, have.mappings k j c b at ej together)) in
          let multipliers = by_places (AreMultipliers (row_count (rows_of parts.rows) (take j c.body))) (list_at (list_at parts.falls k) j) (have.multipliers k j c b at ej together) m by eb in
          let head_is = by_places (IsLevelPart (length c.head.args)) (list_at parts.levels c.head.pred.0) (level_parts p comps parts levels c.vars c.head is.head) m head eh in
          let call_is = by_places (IsLevelPart (length b.args)) (list_at parts.levels b.pred.0) (level_parts p comps parts levels c.vars b atom) m call ec in (
            0,
            subst (Provable (short_system expression (rows_of parts.rows) c.vars (take j c.body))) (sym (fall_is (length c.head.args) (length b.args) c b head call m head_is call_is eh ec))
                (provable (row_count (rows_of parts.rows) (take j c.body)) (short_system expression (rows_of parts.rows) c.vars (take j c.body)) (fall_of expression c b head call) by multipliers (hold k c at j b ej together m head call by eh ec eb)),
          )

pub falls : (size : (ℕ → ℕ) → Tree → ℕ) (truth : (ℕ → Bool) → Tree → Bool) (expression : ℕ → Tree → List ℤ) → FallsAreProved size truth expression
falls size truth expression p comps parts grounds pre prog are levels have hold r =
    all_measures parts pre (λ (m : Measure). AllByRecursion (λ (k : Clause). rank_in comps k.head.pred.0 ≡ r → DescendsProved (claims_of size truth expression comps parts grounds pre) m k) p.clauses)
    0 (mapping_count parts (list_at comps.members r)) (λ m lt.
    from_places (λ (k : Clause). rank_in comps k.head.pred.0 ≡ r → DescendsProved (claims_of size truth expression comps parts grounds pre) (measure_of parts pre m) k) p.clauses (λ k c at same.
    let is = by_places (IsClause p.preds) p.clauses prog.clauses k c at in
    let count = measure_count size truth expression p comps parts grounds pre prog are levels have hold c.vars c.head is.head in
    descends size truth expression p comps parts grounds pre prog are levels have hold k c at m (omega (arith, lt, count, ap (λ (n : ℕ). mapping_count parts (list_at comps.members n)) same))))

pub ranked : (size : (ℕ → ℕ) → Tree → ℕ) (truth : (ℕ → Bool) → Tree → Bool) (expression : ℕ → Tree → List ℤ) → ClausesAreRanked size truth expression
ranked size truth expression p comps parts grounds pre prog are =
    from_places (IsRanked (claims_of size truth expression comps parts grounds pre)) p.clauses (λ k c at.
    let is = by_places (IsClause p.preds) p.clauses prog.clauses k c at in
    from_places (λ (b : Atom). rank_in comps b.pred.0 ≤ rank_in comps c.head.pred.0) c.body (λ j b ej.
    let atom = by_places (IsAtom p.preds c.vars) c.body is.body j b ej in
    are.callees_first c.head.pred.0 b.pred.0 (rank_in comps c.head.pred.0) (rank_in comps b.pred.0)
    (in_rank size truth expression p comps parts grounds pre prog are c.vars c.head is.head) (in_rank size truth expression p comps parts grounds pre prog are c.vars b atom)
    (any_at (λ (y : Clause). (y.head.pred.0 ≡ c.head.pred.0) × Any (λ (x : Atom). x.pred.0 ≡ b.pred.0) y.body) p.clauses k c at (refl, any_at (λ (x : Atom). x.pred.0 ≡ b.pred.0) c.body j b ej refl))))
