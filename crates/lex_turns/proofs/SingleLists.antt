-- A mapping that decreases is a list of one.
use Rattle.std.proofs.Common.{◌≡◌, ℕ, ℤ, true, List, [], ◌∷◌, map, refl, ap, sym, subst, ◌∙◌, arith}
use Rattle.std.specs.List.{AllByRecursion}
use Rattle.call_components.specs.Partition.{Partition}
use Rattle.cti_terms.specs.Listing.{Listing}
use Rattle.cti_terms.specs.Tree.{Tree}
use Rattle.termination_model.specs.mappings.ComponentViews.{positions_in}
use Rattle.termination_model.specs.grounds.Modes.{is_part}
use Rattle.level_systems.specs.Mappings.{IsFall, mapping_with, support_of}
use Rattle.level_systems.specs.Searched.{IsDecreasing, IsFoundIn}
use Rattle.level_systems.specs.declared.fall.Fall.{Fall}
use Rattle.level_systems.specs.declared.mapping.Mapping.{Mapping}
use Rattle.level_systems.specs.declared.measure.Measure.{Measure}
use Rattle.lex_turns.specs.Descending.{HasPlace}
use Rattle.lex_turns.specs.Found.{IsListIn}
use Rattle.lex_turns.specs.FoundLists.{IsDescendingList, IsLong, support_of_list}
use Rattle.lex_turns.specs.Single.{drop_of_fall, one_list}
use Rattle.lex_turns.specs.declared.call_drops.CallDrops.{CallDrops}
use Rattle.lex_turns.proofs.ListSupports.{one_descends, one_support}

pub one_short : (m : Mapping) → IsLong (one_list m) → ⊥
one_short m long = absurd (omega (arith, long))

pairs_same : (fs : List Fall) → map {B = ℕ × ℕ} (λ (d : CallDrops). (d.clause, d.call)) (map drop_of_fall fs) ≡ map {B = ℕ × ℕ} (λ (f : Fall). (f.clause, f.call)) fs
pairs_same [] = refl
pairs_same (f ∷ fs) = ap (λ (rest : List (ℕ × ℕ)). (f.clause, f.call) ∷ rest) (pairs_same fs)

module _ (expression : ℕ → Tree → List ℤ) (p : Listing) (comps : Partition) (rows : ℕ → List (List ℤ)) (c : ℕ) where
  placed : (ms : List Measure) (fs : List Fall) → AllByRecursion (IsFall expression p rows ms) fs
      → AllByRecursion (λ (d : CallDrops). HasPlace expression p rows (ms ∷ []) (d.clause, d.call) d.by) (map drop_of_fall fs)
  placed ms [] h = tt
  placed ms (f ∷ fs) h = (h.0, placed ms fs h.1)

  pub one_support_of : (m : Mapping) → support_of_list (positions_in p comps c) (one_list m) ≡ support_of (positions_in p comps c) m
  one_support_of m = one_support (positions_in p comps c) (mapping_with m.measures) 1

  pub one_list_is : (m : Mapping) → IsDecreasing expression p comps rows c m → IsDescendingList expression p comps rows c (one_list m)
  one_list_is m is =
      let mapping = is.mapping in
      record {
        some = omega arith;
        measures = (mapping.measures, tt);
        pairs = pairs_same m.falls ∙ mapping.pairs;
        places = placed m.measures m.falls mapping.falls;
        needed = λ long. absurd (one_short m long);
        at = (is.at, tt);
        descends = one_descends expression p comps rows c (mapping_with m.measures) is.falling;
      }

  pub one_found : (s : List ℕ) (m : Mapping) → IsFoundIn expression p comps rows c s m → IsListIn expression p comps rows c s (one_list m)
  one_found s m found =
      let is = found.mapping in
      let same = one_support_of m in
      record {
        list = one_list_is m is;
        part = subst (λ (z : List ℕ). is_part z s ≡ true) (sym same) found.part;
        has = record { list = mapping_with m.measures ∷ []; some = omega arith; at = (is.at, tt); descends = one_descends expression p comps rows c (mapping_with m.measures) is.falling; is = refl };
      }
