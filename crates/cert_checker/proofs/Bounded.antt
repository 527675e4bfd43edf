-- A valid certificate's claims show that queries end, so that each query that meets one of its modes is bounded.
--
-- What holding modes show is a premise here, which the law of `cert_modes` gives.
use Rattle.std.proofs.Common.{◌≡◌, ◌≢◌, ℕ, zero, suc, ◌+◌, ◌<◌, ◌≤ℤ◌, ℤ, pos, negsuc, Bool, false, List, [], ◌∷◌, All, map, length, slice_get, unwrap_or, unsigned_abs, Option, Some, refl, sym, ap, subst, ◌∙◌, arith}
use Rattle.std.specs.List.{AllByRecursion, AllPairs}
use Rattle.std.proofs.lemmas.Option.{slice_get_within}
use Rattle.cti_terms.specs.Derive.{query, Bounded}
use Rattle.cti_terms.specs.Listing.{IsProgram, Listing}
use Rattle.cti_terms.specs.Tree.{Tree}
use Rattle.cti_terms.specs.declared.atom_list.Atom.{Atom}
use Rattle.cti_terms.specs.declared.clauses.Clause.{Clause}
use Rattle.cti_terms.specs.declared.predicates.Pred.{Pred}
use Rattle.call_components.proofs.Lists.{all_both, all_map, has_contains}
use Rattle.call_components.specs.Partition.{AreComponents, IsIn, Partition}
use Rattle.certificate.specs.declared.fact.Fact.{Fact}
use Rattle.cert_structure.specs.Order as order
use Rattle.cert_structure.specs.Shape as shape
use Rattle.cert_structure.specs.Structure.{AreNamed}
use Rattle.number_tests.specs.declared.level_part.LevelPart.{LevelPart}
use Rattle.cert_structure.specs.declared.parts.Parts.{Parts}
use Rattle.cert_modes.specs.Claimed.{ClaimModes, HoldingModesShow, IsMeasure, KeepsRows, ShowModes}
use Rattle.cert_modes.specs.Modes as holding
use Rattle.term_size.specs.AnyNorm.{any_is_a_norm, any_row, any_size, any_truth}
use Rattle.term_size.specs.Norm.{IsNorm}
use Rattle.termination_model.proofs.Lists.{indexed, there}
use Rattle.termination_model.proofs.Proved.{shown}
use Rattle.termination_model.proofs.Query.{modes_end}
use Rattle.termination_model.specs.claims.Claims.{Admits, Claims, Measure}
use Rattle.termination_model.specs.claims.Descent.{Meets, mode_row}
use Rattle.termination_model.specs.grounds.Grounds.{Family, HasArity}
use Rattle.termination_model.specs.sizes.Rows.{Covers}
use Rattle.termination_model.specs.sizes.Short.{DescendsProved, ServesProved, ShowsProved}
use Rattle.cert_checker.specs.Bounding.{FactIsBounded, ModeIsBounded, ModesAreBounded}
use Rattle.cert_checker.specs.Claimed.{claims_of, natural_coefficients, mapping_count, mapping_of, measure_of, measures_from}
use Rattle.number_tests.specs.Shape.{IsLevelPart, list_at}
use Rattle.cert_checker.specs.Shape.{HaveLevels}
use Rattle.cert_checker.specs.Norms.{norm_in}
use Rattle.cert_checker.specs.Valid.{IsValid, PartsHold}
use Rattle.cert_checker.proofs.Claims.{falls, ranked, sizes}
use Rattle.number_tests.proofs.ColumnLengths.{an_element}
use Rattle.cert_checker.proofs.PrintedModes.{listed_bounded, meets_row, rigid_is, same_pred}
use Rattle.cert_checker.proofs.ShapeLaws.{arity_at, have_falls, have_levels, have_row_proofs, items_are, one_of, some_is}
use Rattle.termination_model.specs.mappings.ComponentViews.{rank_in}

-- the claims of parts, with the sets of truth rows that they spell
abbrev claims : ((ℕ → ℕ) → Tree → ℕ) → ((ℕ → Bool) → Tree → Bool) → (ℕ → Tree → List ℤ) → Listing → Partition → Parts → Claims
claims size truth expression p comps parts = claims_of size truth expression comps parts (holding.grounds_of p parts) (holding.precondition p parts)

measure_length : (parts : Parts) (pre : ℕ → Family) (m n : ℕ) → length (measures_from parts pre m n) ≡ n
measure_length parts pre m zero = refl
measure_length parts pre m (suc n) = ap suc (measure_length parts pre (suc m) n)

measure_at : (parts : Parts) (pre : ℕ → Family) (k n i m : ℕ) (x : Measure) → m ≡ k + i → slice_get (measures_from parts pre k n) i ≡ Some x → measure_of parts pre m ≡ x
measure_at parts pre k zero i m x at e = cc
measure_at parts pre k (suc n) zero m x at e = let here : m ≡ k = omega (arith, at) in let same : measure_of parts pre k ≡ x = cc in ap (measure_of parts pre) here ∙ same
measure_at parts pre k (suc n) (suc i) m x at e = measure_at parts pre (suc k) n i m x (omega (arith, at)) e

pub natural_is : (z : ℤ) → pos 0 ≤ℤ z → unsigned_abs z ≡ holding.natural z
natural_is (pos n) h = refl
natural_is (negsuc n) h = absurd (omega (arith, h))

pub naturals_are : (xs : List ℤ) → All (λ x. pos 0 ≤ℤ x) xs → map unsigned_abs xs ≡ map holding.natural xs
naturals_are [] h = refl
naturals_are (x ∷ xs) h = λ i. natural_is x (h 0 x (omega arith)) i ∷ naturals_are xs (λ k d lt. h (suc k) d (omega (arith, lt))) i

part_coefficients : (n : ℕ) (ls : List LevelPart) (m : ℕ) → AllByRecursion (IsLevelPart n) ls → natural_coefficients (slice_get ls m) ≡ holding.naturals (slice_get ls m)
part_coefficients n [] m h = refl
part_coefficients n (l ∷ ls) zero h = naturals_are l.coeffs h.0.naturals
part_coefficients n (l ∷ ls) (suc m) h = part_coefficients n ls m h.1

count_of : (parts : Parts) (ms : List ℕ) (n : ℕ) → 0 < length ms → ((q : ℕ) → slice_get ms 0 ≡ Some q → length (list_at parts.levels q) ≡ n) → mapping_count parts ms ≡ n
count_of parts [] n some each = absurd (omega (arith, some))
count_of parts (q ∷ ms) n some each = each q refl

module _ (size : (ℕ → ℕ) → Tree → ℕ) (truth : (ℕ → Bool) → Tree → Bool) (expression : ℕ → Tree → List ℤ) (norm : IsNorm size truth expression)
    (p : Listing) (comps : Partition) (parts : Parts) (prog : IsProgram p) (are : AreComponents p comps) (have : shape.HaveShape p comps parts) where
  rank_within : (q r : ℕ) → IsIn comps r q → rank_in comps q ≡ r
  rank_within q r h = indexed comps.of q r (length comps.members) h

  levels : HaveLevels p comps parts
  levels = have_levels p comps parts have are

  -- a component has as many measures as each member has preconditions
  measure_count : (q : ℕ) → q < length p.preds → length ((claims size truth expression p comps parts).measures (rank_in comps q)) ≡ length (shape.items_of parts.preconditions q)
  measure_count q lt =
      let (r, hq) = an_element comps.of q (omega (arith, lt, are.each)) in
      let ms = list_at comps.members r in
      let at : slice_get comps.members r ≡ Some ms = there comps.members r [] (are.within r q hq) in
      let count : mapping_count parts ms ≡ length (list_at parts.levels q) = count_of parts ms (length (list_at parts.levels q)) (are.ascending r ms at).1
      (λ x e. levels.members x q ((are.members r ms at x).0 (has_contains ms x (0, e)) ∙ sym hq)) in
      let inner = one_of parts.preconditions have.preconditions q (list_at parts.preconditions q) (there parts.preconditions q [] (omega (arith, lt, have.preconditions.count))) in
      measure_length parts (holding.precondition p parts) 0 (mapping_count parts (list_at comps.members (rank_in comps q)))
      ∙ ap (λ (n : ℕ). mapping_count parts (list_at comps.members n)) (rank_within q r hq)
      ∙ count
      ∙ sym (ap length (items_are parts.levels q))
      ∙ sym inner.count
      ∙ sym (ap length (items_are parts.preconditions q))

  coefficients_are : (m q : ℕ) → q < length p.preds → (mapping_of parts m).coefficients q ≡ holding.coefficients_of parts.levels m q
  coefficients_are m q lt =
      let (d, at) = an_element p.preds q lt in
      part_coefficients d.arity (list_at parts.levels q) m (levels.naturals q d at) ∙ ap (λ (ls : List LevelPart). holding.naturals (slice_get ls m)) (sym (items_are parts.levels q))

  claim_modes : ClaimModes truth p comps parts (claims size truth expression p comps parts)
  claim_modes = record {
    truth = refl;
    ranks = rank_within;
    grounds = refl;
    each = measure_count;
    measures = λ r m x e.
        subst (IsMeasure p parts (claims size truth expression p comps parts) r m) (measure_at parts (holding.precondition p parts) 0 (mapping_count parts (list_at comps.members r)) m m x (omega arith) e)
        (record { pre = refl; covers = λ q bs lt in_rank h. (subst (λ cs. Covers cs bs) (sym (coefficients_are m q lt)) h, tt) });
  }

  module _ (modes_show : HoldingModesShow) (hold : PartsHold truth expression p comps parts) where
    shown_modes : ShowModes p parts (claims size truth expression p comps parts)
    shown_modes = modes_show truth p comps parts (claims size truth expression p comps parts) prog are claim_modes hold.modes

    shown_claims : ShowsProved p (claims size truth expression p comps parts)
    shown_claims = record {
      norm = norm;
      ranked = ranked size truth expression p comps parts (holding.grounds_of p parts) (holding.precondition p parts) prog are;
      sizes = sizes size truth expression p comps parts (holding.grounds_of p parts) (holding.precondition p parts) (have_row_proofs p comps parts have) hold.rows;
      closed = shown_modes.closed;
      stated = hold.stated;
      measures = λ r.
          all_both (KeepsRows p (claims size truth expression p comps parts) r) (λ (m : Measure). AllByRecursion (λ (k : Clause). rank_in comps k.head.pred.0 ≡ r → DescendsProved (claims size truth expression p comps parts) m k) p.clauses)
          (ServesProved p (claims size truth expression p comps parts) r) (λ m keeps descends. record { covered = keeps.covered; descends = descends; rule = keeps.rule })
          ((claims size truth expression p comps parts).measures r) (shown_modes.measures r)
          (falls size truth expression p comps parts (holding.grounds_of p parts) (holding.precondition p parts) prog are levels (have_falls p comps parts have are prog) hold.falls r);
    }

    -- each query that meets a mode of its predicate's part is bounded
    query_ends : (q : ℕ) (mode : List ℕ) → Admits (claims size truth expression p comps parts) q (mode_row mode 1 (shape.arity_in p q)) → (a : Atom) (n : ℕ) → a.pred.0 ≡ q → HasArity p.preds a.pred.0 (length a.args)
        → shape.arity_in p q ≡ length a.args → Meets (claims size truth expression p comps parts) mode a → Bounded p (query a n)
    query_ends q mode admits a n same arity long meets =
        modes_end p (claims size truth expression p comps parts) prog (shown p (claims size truth expression p comps parts) prog shown_claims) a n arity mode
        (subst (λ (k : ℕ). Admits (claims size truth expression p comps parts) a.pred.0 (mode_row mode 1 k)) long (subst (λ (k : ℕ). Admits (claims size truth expression p comps parts) k (mode_row mode 1 (shape.arity_in p q))) (sym same) admits)) meets

-- a valid certificate of a program bounds its modes
pub valid_bounds : HoldingModesShow → (p : Listing) (names : List (List ℕ)) (facts : List Fact) → IsProgram p → AreNamed names p.preds → AllPairs (λ a b. a ≢ b) names
    → IsValid p names facts → ModesAreBounded p names facts
valid_bounds modes_show p names facts prog named distinct valid =
    let parts = valid.parts in
    let have = valid.structured.shape in
    let n = norm_in names parts.norm in
    let rigid : Tree → Bool = any_truth n (λ _. false) in
    let notes = valid.structured.notes in
    subst (ModesAreBounded p names) (sym valid.structured.is) (subst (λ (r : Tree → Bool). AllByRecursion (FactIsBounded p names r) (order.listed p names parts notes)) (sym (rigid_is p names parts notes valid.structured.are_notes))
    (listed_bounded p names parts notes valid.structured.are_notes rigid (λ q modes at.
    let (e, ee) = an_element p.preds q (omega (arith, slice_get_within parts.modes q modes at, have.modes.count)) in
    let admitted = subst (AllByRecursion (λ mode. Admits (claims (any_size n) (any_truth n) (any_row n) p valid.comps parts) q (mode_row mode 1 (shape.arity_in p q)))) (ap (λ (o : Option (List (List ℕ))). unwrap_or o []) at)
    ((shown_modes (any_size n) (any_truth n) (any_row n) (any_is_a_norm n) p valid.comps parts prog valid.components have modes_show valid.hold).modes q) in
    all_map (λ mode. Admits (claims (any_size n) (any_truth n) (any_row n) p valid.comps parts) q (mode_row mode 1 (shape.arity_in p q))) (ModeIsBounded p names rigid (order.pred_text p names q))
    (λ mode admits a counter is named_rigid.
    let same : q ≡ a.pred.0 = same_pred p names prog named distinct a.pred.0 q is.pred e is.there ee is.name is.arity in
    let long : shape.arity_in p q ≡ length a.args = arity_at p q e ee ∙ sym (ap (λ (o : Option Pred). (order.text_or_none names o).arity) ee) ∙ sym is.arguments in
    query_ends (any_size n) (any_truth n) (any_row n) (any_is_a_norm n) p valid.comps parts prog valid.components have modes_show valid.hold q mode admits a counter (sym same)
    (some_is (λ (d : Pred). d.arity ≡ length a.args) (slice_get p.preds a.pred.0) is.pred is.there (is.arity ∙ sym is.arguments)) long (meets_row rigid mode 1 a.args named_rigid))
    modes admitted)))
