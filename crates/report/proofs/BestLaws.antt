-- No mapping admits a row that is not allowed.
use Rattle.std.proofs.Common.{◌≡◌, ℕ, suc, ◌+◌, ◌<◌, ◌≤◌, ℤ, Bool, true, false, IsTrue, if◌then◌else◌, List, [], ◌∷◌, length, slice_get, Some, inl, inr, refl, sym, subst, ◌∙◌, arith, nat_lt}
use Rattle.std.specs.List.{AllByRecursion}
use Rattle.std.proofs.lemmas.Bool.Decides.{nat_tests}
use Rattle.call_components.specs.Partition.{Partition, AreComponents, IsIn}
use Rattle.cert_structure.specs.Shape.{items_of}
use Rattle.cert_structure.specs.declared.parts.Parts.{Parts}
use Rattle.cti_terms.specs.Listing.{Listing, IsProgram}
use Rattle.cti_terms.specs.Tree.{Tree}
use Rattle.cti_terms.specs.declared.predicates.Pred.{Pred}
use Rattle.linear_rows.specs.Members.{In}
use Rattle.cert_modes.specs.Modes.{allowed, coefficients_of, grounds_of}
use Rattle.termination_model.specs.mappings.Coefficients.{coefficient}
use Rattle.termination_model.specs.claims.Claims.{Mapping}
use Rattle.termination_model.specs.grounds.Grounds.{HasArity}
use Rattle.termination_model.specs.grounds.Modes.{is_part, modes}
use Rattle.termination_model.specs.sizes.Rows.{IsUpper}
use Rattle.termination_model.specs.mappings.OwnCalls.{Position}
use Rattle.termination_model.specs.mappings.Supports.{support_from}
use Rattle.termination_model.specs.grounds.Minimal.{IsSet}
use Rattle.termination_model.proofs.Having.{support_set}
use Rattle.termination_model.proofs.Sets.{Part, to_part, within}
use Rattle.precond_fixpoint.specs.Greatest.{KeepsIn, Solved, IsWithinIn}
use Rattle.cert_assembly.specs.ExactModes.{admitted_by, is_member, ModesAreExact, AreCounted}
use Rattle.termination_model.specs.mappings.ComponentViews.{positions_in}
use Rattle.report.specs.ExactMappings.{mapping_in, printed_support, HasMapping, MappingsAreExact, BestOverMappings, IsSolvedMapping, HaveEachSupport, BestModes}
use Rattle.cert_assembly.proofs.BestModes.{Covers, IsCovered, Keeps, best_modes, best_row, some_weaker}
use Rattle.cert_assembly.proofs.PartShapes.{all_weaker}
use Rattle.cert_assembly.proofs.SetSteps.{first_there, in_if, in_rest, not_first}

is_less : (n : ℕ) → 0 < n → nat_lt 0 n ≡ true
is_less n h = grind (arith, nat_tests)

less_is : (n : ℕ) → nat_lt 0 n ≡ true → 0 < n
less_is n h = grind (arith, nat_tests)

-- a support that is part of another has positive coefficients where that one has
positive_too : (ps : List Position) (i : ℕ) (l k : Mapping) → Part (support_from i ps l) (support_from i ps k)
    → (p : Position) → In p ps → 0 < coefficient (l.coefficients p.0) p.1 → 0 < coefficient (k.coefficients p.0) p.1
positive_too [] i l k part p h c = absurd h
positive_too (r ∷ ps) i l k part p (inl e) c =
    let b = nat_lt 0 (coefficient (l.coefficients r.0) r.1) in
    let b2 = nat_lt 0 (coefficient (k.coefficients r.0) r.1) in
    let one = subst (λ (z : Position). 0 < coefficient (l.coefficients z.0) z.1) (sym e) c in
    let there = part i (in_if b i (support_from (suc i) ps l) (is_less _ one)) in
    let set = support_set ps k (suc i) (suc i + length ps) refl in
    subst (λ (z : Position). 0 < coefficient (k.coefficients z.0) z.1) e (less_is _ (first_there b2 i (suc i + length ps) (support_from (suc i) ps k) set there))
positive_too (r ∷ ps) i l k part p (inr h) c = positive_too ps (suc i) l k tail p h c
  where
    tail : Part (support_from (suc i) ps l) (support_from (suc i) ps k)
    tail x j =
        let b = nat_lt 0 (coefficient (l.coefficients r.0) r.1) in
        let b2 = nat_lt 0 (coefficient (k.coefficients r.0) r.1) in
        let set = support_set ps l (suc i) (suc i + length ps) refl in
        not_first b2 i x (support_from (suc i) ps k) (within (suc i) (suc i + length ps) (support_from (suc i) ps l) set x j).0 (part x (in_rest b i x (support_from (suc i) ps l) j))

in_case : (b : Bool) (xs : List ℕ) (i : ℕ) → b ≡ true → 0 < coefficient xs i → 0 < coefficient (if b then xs else []) i
in_case true xs i e h = h
in_case false xs i e h = cc

module _ (truth : (ℕ → Bool) → Tree → Bool) (expression : ℕ → Tree → List ℤ) (p : Listing) (comps : Partition) (parts : Parts)
    (program : IsProgram p) (components : AreComponents p comps) (counted : AreCounted p comps parts) (exact : ModesAreExact truth p comps parts) where
  -- the printed mapping lies within the other
  lies_within : (c q : ℕ) (mappings : MappingsAreExact expression p comps parts c q []) (n : ℕ → List ℕ) (s : List ℕ) (has : HasMapping expression p comps parts c s)
      → ((r : ℕ) → is_member comps c r ≡ true → n r ≡ has.mapping.coefficients r) → (m : ℕ) → m < length (items_of parts.levels q) → is_part (printed_support expression p comps parts c m) s ≡ true
      → IsWithinIn (is_member comps c) (coefficients_of parts.levels m) n
  lies_within c q mappings n s has same m few part r i member h =
      let l = mapping_in expression p comps parts c m in
      let here : 0 < coefficient (l.coefficients r) i = in_case (is_member comps c r) (coefficients_of parts.levels m r) i member h in
      let inside = mappings.at m few r i here in
      let whole : Part (support_from 1 (positions_in p comps c) l) (support_from 1 (positions_in p comps c) has.mapping) =
      subst (λ (z : List ℕ). Part (support_from 1 (positions_in p comps c) l) z) (sym has.is) (to_part (printed_support expression p comps parts c m) s part) in
      let other = positive_too (positions_in p comps c) 1 l has.mapping whole (r, i) inside here in
      subst (λ (cs : List ℕ). 0 < coefficient cs i) (sym (same r member)) other

  best : (c q : ℕ) → IsIn comps c q → MappingsAreExact expression p comps parts c q []
      → (n : Solved) (s : List ℕ) (has : HasMapping expression p comps parts c s) → ((r : ℕ) → is_member comps c r ≡ true → n.0 r ≡ has.mapping.coefficients r)
      → KeepsIn truth p (is_member comps c) (allowed p parts) (grounds_of p parts) n.0 n.1
      → (row : List Bool) → HasArity p.preds q (length row) → ((us : List Bool) → IsUpper us row → IsTrue (n.1 q us)) → IsTrue (allowed p parts q row)
  best c q inside mappings n s has same keeps row arity admits = elim (mappings.within s has) [
    | inr a ↦ absurd a.1
    | inl found ↦ best_row truth p comps parts program components counted exact c q inside n keeps (found.0, found.1, lies_within c q mappings n.0 s has same found.0 found.1 found.2) row arity admits
  ]

  -- ---- lists of mappings
  covered : (c q : ℕ) → MappingsAreExact expression p comps parts c q [] → (n : Solved) → IsSolvedMapping expression p comps parts truth c n → IsCovered truth p comps parts program components counted exact c q n
  covered c q mappings n solved = elim (mappings.within solved.support solved.has) [
    | inr a ↦ absurd a.1
    | inl found ↦ (found.0, found.1, lies_within c q mappings n.0 solved.support solved.has solved.same found.0 found.1 found.2)
  ]

  of_case : (b : Bool) (xs : List ℕ) (i : ℕ) → 0 < coefficient (if b then xs else []) i → 0 < coefficient xs i
  of_case true xs i h = h
  of_case false xs i h = absurd (omega arith)

  -- the mapping of the list with the same support as the printed one lies within it
  covers : (c m : ℕ) (n : Solved) → (solved : IsSolvedMapping expression p comps parts truth c n) × (solved.support ≡ printed_support expression p comps parts c m) → Covers truth p comps parts program components counted exact c m n
  covers c m n h =
      let solved = h.0 in (
        solved.greatest,
        λ r i member positive.
            let l = mapping_in expression p comps parts c m in
            let own : 0 < coefficient (solved.has.mapping.coefficients r) i = subst (λ (cs : List ℕ). 0 < coefficient cs i) (solved.same r member) positive in
            let inside = solved.has.at r i own in
            let whole : Part (support_from 1 (positions_in p comps c) solved.has.mapping) (support_from 1 (positions_in p comps c) l) =
            subst (λ (z : List ℕ). Part z (printed_support expression p comps parts c m)) (sym (solved.has.is ∙ h.1)) (λ x j. j) in
            of_case (is_member comps c r) (coefficients_of parts.levels m r) i (positive_too (positions_in p comps c) 1 solved.has.mapping l whole (r, i) inside own),
      )

  best_of_list : (c q : ℕ) (d : Pred) → IsIn comps c q → slice_get p.preds q ≡ Some d → MappingsAreExact expression p comps parts c q []
      → (ns : List Solved) → AllByRecursion (IsSolvedMapping expression p comps parts truth c) ns → HaveEachSupport expression p comps parts truth c ns
      → items_of parts.modes q ≡ modes d.arity (admitted_by ns q)
  best_of_list c q d inside at mappings ns all each =
      best_modes truth p comps parts program components counted exact c q d inside at ns
      (all_weaker (IsSolvedMapping expression p comps parts truth c) (λ (n : Solved). Keeps truth p comps parts program components counted exact c n × IsCovered truth p comps parts program components counted exact c q n)
      (λ n solved. (solved.greatest.keeps, covered c q mappings n solved)) ns all)
      (λ m few. some_weaker (λ (n : Solved). (solved : IsSolvedMapping expression p comps parts truth c n) × (solved.support ≡ printed_support expression p comps parts c m)) (Covers truth p comps parts program components counted exact c m)
      (covers c m) ns (each (printed_support expression p comps parts c m) (mappings.minimal m few).had))

pub best_modes_are_printed : (truth : (ℕ → Bool) → Tree → Bool) (expression : ℕ → Tree → List ℤ) (p : Listing) (comps : Partition) (parts : Parts)
    → BestModes expression p comps parts truth
best_modes_are_printed truth expression p comps parts program components counted exact = best_of_list truth expression p comps parts program components counted exact

pub best_over_mappings : (truth : (ℕ → Bool) → Tree → Bool) (expression : ℕ → Tree → List ℤ) (p : Listing) (comps : Partition) (parts : Parts)
    → BestOverMappings expression p comps parts truth
best_over_mappings truth expression p comps parts program components counted exact = best truth expression p comps parts program components counted exact
