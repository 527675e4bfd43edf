-- The numbers of a certificate's parts are below 2^127 where those of what is found of mappings are.
use Rattle.std.proofs.Common.{◌≡◌, ◌==◌, ◌&&◌, ℕ, zero, suc, pos, Bool, true, false, if◌then◌else◌, List, [], ◌∷◌, map, length, slice_get, Option, None, Some, refl, arith}
use Rattle.std.specs.Prelude.{IfSome, option_map, unwrap_or}
use Rattle.std.specs.List.{AllByRecursion}
use Rattle.std.proofs.lemmas.Int.{ints}
use Rattle.call_components.specs.Partition.{Partition}
use Rattle.cert_assembly.proofs.PartShapes.{all_mapped, all_weaker}
use Rattle.cert_assembly.specs.Leading.{led_by}
use Rattle.cert_assembly.specs.Parted.{part_or_zero, zero_part}
use Rattle.cert_assembly.specs.Ranges.{AreBelow, AreMultipliersBelow, IsBelow, IsFallBelow, IsFoundBelow, IsMappingBelow, IsMeasureBelow, IsPartBelow, IsRefutationBelow}
use Rattle.cert_structure.specs.Shape.{arity_in, body_of, head_of, is_own_call, is_recursive}
use Rattle.cti_terms.specs.Listing.{Listing}
use Rattle.cti_terms.specs.declared.atom_list.Atom.{Atom}
use Rattle.level_systems.specs.Mappings.{level_in}
use Rattle.level_systems.specs.declared.fall.Fall.{Fall}
use Rattle.level_systems.specs.declared.found.Found.{Found}
use Rattle.level_systems.specs.declared.mapping.Mapping.{Mapping}
use Rattle.level_systems.specs.declared.measure.Measure.{Measure}
use Rattle.linear_rows.specs.Solving.{zeros}
use Rattle.linear_rows.specs.Step.{columns}
use Rattle.number_tests.specs.declared.refutation.Refutation.{Refutation}
use Rattle.report.specs.Levels.{by_or_none, fall_in, fall_list, falls_at, falls_from, level_list, levels_at, mappings_at, mappings_of_component, refutation_list, refutation_of}
use Rattle.termination_model.proofs.Lists.{by_places}

-- what is made of each number
all_made : {X : Type 0} (P : X → Type 0) (f : ℕ → X) → ((q : ℕ) → P (f q)) → (qs : List ℕ) → AllByRecursion P (map f qs)
all_made P f h [] = tt
all_made P f h (q ∷ qs) = (h q, all_made P f h qs)

-- ---- 0
zero_below : IsBelow (pos 0)
zero_below = omega (arith, ints)

zeros_below : (n : ℕ) → AreBelow (zeros n)
zeros_below zero = tt
zeros_below (suc n) = (zero_below, zeros_below n)

zero_part_below : (n : ℕ) → IsPartBelow (zero_part n)
zero_part_below n = (zero_below, zeros_below n)

-- ---- one mapping
part_below : (n q : ℕ) (ms : List Measure) → AllByRecursion IsMeasureBelow ms → IsPartBelow (part_or_zero n (level_in ms q))
part_below n q [] h = zero_part_below n
part_below n q (m ∷ ms) h = go (m.pred.0 == q) (part_below n q ms h.1)
  where
    go : (b : Bool) → IsPartBelow (part_or_zero n (level_in ms q)) → IsPartBelow (part_or_zero n (if b then Some m.part else level_in ms q))
    go true later = h.0
    go false later = later

by_below : (k j : ℕ) (fs : List Fall) → AllByRecursion IsFallBelow fs → AreMultipliersBelow (by_or_none (fall_in fs k j))
by_below k j [] h = (zero_below, tt)
by_below k j (f ∷ fs) h = go ((f.clause == k) && (f.call == j)) (by_below k j fs h.1)
  where
    go : (b : Bool) → AreMultipliersBelow (by_or_none (fall_in fs k j)) → AreMultipliersBelow (by_or_none (if b then Some f.by else fall_in fs k j))
    go true later = h.0
    go false later = later

module _ (found : List Found) (below : AllByRecursion IsFoundBelow found) where
  mappings_below : (o : Option ℕ) → AllByRecursion IsMappingBelow (mappings_of_component found o)
  mappings_below None = tt
  mappings_below (Some c) = go (slice_get found c) refl
    where
      go : (o : Option Found) → slice_get found c ≡ o → AllByRecursion IsMappingBelow (unwrap_or (option_map (λ (f : Found). f.mappings) o) [])
      go None e = tt
      go (Some f) e = (by_places IsFoundBelow found below c f e).0

  refutation_below : (o : Option ℕ) → IfSome (refutation_of found o) IsRefutationBelow
  refutation_below None = tt
  refutation_below (Some c) = go (slice_get found c) refl
    where
      go : (o : Option Found) → slice_get found c ≡ o → IfSome (unwrap_or (option_map (λ (f : Found). f.refutation) o) None) IsRefutationBelow
      go None e = tt
      go (Some f) e = (by_places IsFoundBelow found below c f e).1

  -- ---- all parts
  module _ (p : Listing) (comps : Partition) where
    levels_at_below : (q : ℕ) → AllByRecursion IsPartBelow (levels_at p comps found q)
    levels_at_below q = go (is_recursive comps q)
      where
        go : (b : Bool) → AllByRecursion IsPartBelow (if b then map (λ (m : Mapping). part_or_zero (arity_in p q) (level_in m.measures q)) (mappings_at comps found q) else zero_part (arity_in p q) ∷ [])
        go true =
            let g = λ (m : Mapping). part_or_zero (arity_in p q) (level_in m.measures q) in
            all_mapped IsPartBelow g (mappings_at comps found q)
            (all_weaker IsMappingBelow (λ (m : Mapping). IsPartBelow (g m)) (λ m h. part_below (arity_in p q) q m.measures h.0) (mappings_at comps found q) (mappings_below (slice_get comps.of q)))
        go false = (zero_part_below (arity_in p q), tt)

    falls_at_below : (k j : ℕ) (b : Atom) → AllByRecursion AreMultipliersBelow (falls_at p comps found k j (Some b))
    falls_at_below k j b = go (is_own_call comps (head_of p k) (Some b))
      where
        go : (t : Bool) → AllByRecursion AreMultipliersBelow (if t then map (λ (m : Mapping). by_or_none (fall_in m.falls (suc k) (suc j))) (mappings_at comps found (head_of p k)) else [])
        go true =
            let g = λ (m : Mapping). by_or_none (fall_in m.falls (suc k) (suc j)) in
            let ms = mappings_at comps found (head_of p k) in
            all_mapped AreMultipliersBelow g ms
            (all_weaker IsMappingBelow (λ (m : Mapping). AreMultipliersBelow (g m)) (λ m h. by_below (suc k) (suc j) m.falls h.1) ms (mappings_below (slice_get comps.of (head_of p k))))
        go false = tt

    falls_from_below : (k j : ℕ) (bs : List Atom) → AllByRecursion (AllByRecursion AreMultipliersBelow) (falls_from p comps found k j bs)
    falls_from_below k j [] = tt
    falls_from_below k j (b ∷ bs) = (falls_at_below k j b, falls_from_below k (suc j) bs)

    pub levels_below : AllByRecursion (AllByRecursion IsPartBelow) (level_list p comps found)
    levels_below = all_made (AllByRecursion IsPartBelow) (levels_at p comps found) levels_at_below (columns 0 (length p.preds))

    pub falls_below : AllByRecursion (AllByRecursion (AllByRecursion AreMultipliersBelow)) (fall_list p comps found)
    falls_below = all_made (AllByRecursion (AllByRecursion AreMultipliersBelow)) (λ k. falls_from p comps found k 0 (body_of p k)) (λ k. falls_from_below k 0 (body_of p k)) (columns 0 (length p.clauses))

    pub refutations_below : AllByRecursion (λ (o : Option Refutation). IfSome o IsRefutationBelow) (refutation_list p comps found)
    refutations_below = all_made (λ (o : Option Refutation). IfSome o IsRefutationBelow) (λ q. refutation_of found (led_by comps q)) (λ q. refutation_below (led_by comps q)) (columns 0 (length p.preds))
