-- The groups of refuted turns, as they are held.
use Rattle.std.proofs.Common.{◌≡◌, ◌+◌, ◌<◌, slice_get, ℕ, zero, suc, ℤ, pos, Bool, true, false, List, [], ◌∷◌, map, drop, length, Some, refl, ap, sym, subst, ◌∙◌, arith}
use Rattle.std.proofs.lemmas.List.{drop-map, take-map}
use Rattle.termination_model.proofs.Lists.{mapped_place}
use Rattle.termination_model.proofs.Totals.{dropped}
use Rattle.transitions.specs.StuckSets.{Feature}
use Rattle.transitions.specs.TemplateLaws.{number_count, pointed}
use Rattle.transitions.specs.Transitions.{Transition}
use Rattle.transitions.specs.Turns.{group_of, points_with, targets, unmarked}
use Rattle.number_turns.specs.Recalled.{recalled}
use Rattle.number_turns.specs.declared.transition.Transition.{Transition as Held}
use Rattle.number_lists.specs.Grouping.{group_at, points_from}
use Rattle.number_lists.specs.Lists.{ArePointsOf, IsGroupOf}

pub point_gone : (k : ℕ) (τs : List Held) (gs : List Bool) (zs : List ℤ) (i : ℕ) → i < length τs → slice_get gs i ≡ Some true → points_from k (drop i τs) (drop i gs) zs ≡ points_from (k + 1) (drop (i + 1) τs) (drop (i + 1) gs) zs
point_gone k [] gs zs i lt h = absurd (omega (arith, lt))
point_gone k (τ ∷ τs) [] zs i lt h = cc
point_gone k (τ ∷ τs) (true ∷ gs) zs zero lt h = let more : k + 1 ≡ suc k = omega arith in rw more refl
point_gone k (τ ∷ τs) (false ∷ gs) zs zero lt h = cc
point_gone k (τ ∷ τs) (g ∷ gs) zs (suc i) lt h = let more : suc i + 1 ≡ suc (i + 1) = omega arith in rw more (point_gone k τs gs zs i (omega (arith, lt)) h)

module _ (fs : List Feature) (all : List Transition) where
  -- the points of transitions that are not gone
  pub points_held : (k : ℕ) (τs : List Held) (gs : List Bool) (vs : List ℕ) → length gs ≡ length τs → ((i : ℕ) (τ : Held) → slice_get τs i ≡ Some τ → slice_get all (k + i) ≡ Some (recalled τ))
      → length vs ≡ number_count (targets fs (unmarked (map recalled τs) gs) [])
      → ArePointsOf all (points_from k τs gs (map pos vs)) (points_with (unmarked (map recalled τs) gs) (pointed (targets fs (unmarked (map recalled τs) gs) []) vs))
  points_held k [] [] vs e at l = tt
  points_held k [] (g ∷ gs) vs e at l = absurd (omega (arith, e))
  points_held k (τ ∷ τs) [] vs e at l = absurd (omega (arith, e))
  points_held k (τ ∷ τs) (true ∷ gs) vs e at l =
      points_held (suc k) τs gs vs (omega (arith, e)) (λ i σ h. let more : suc k + i ≡ k + suc i = omega arith in ap (slice_get all) more ∙ at (suc i) σ h) l
  points_held k (τ ∷ τs) (false ∷ gs) [] e at l = absurd (omega (arith, l))
  points_held k (τ ∷ τs) (false ∷ gs) (v ∷ vs) e at l =
      let n = τ.rows.width in
      let same : drop n (map pos vs) ≡ map pos (drop n vs) = drop-map pos n vs in
      let none : k + 0 ≡ k = omega arith in
      let here : slice_get all k ≡ Some (recalled τ) = ap (slice_get all) (sym none) ∙ at 0 τ refl in
      let few : length (drop n vs) ≡ number_count (targets fs (unmarked (map recalled τs) gs) []) = dropped n vs (number_count (targets fs (unmarked (map recalled τs) gs) [])) (omega (arith, l)) in
      let rest = points_held (suc k) τs gs (drop n vs) (omega (arith, e)) (λ i σ h. let more : suc k + i ≡ k + suc i = omega arith in ap (slice_get all) more ∙ at (suc i) σ h) few in
      ((here, refl, take-map pos n vs), subst (λ (zs : List ℤ). ArePointsOf all (points_from (suc k) τs gs zs) (points_with (unmarked (map recalled τs) gs) (pointed (targets fs (unmarked (map recalled τs) gs) []) (drop n vs)))) (sym same) rest)

  -- the group of the transition at a place, with those that are not gone
  pub group_held : (first : ℕ) (τ : Held) (τs : List Held) (gs : List Bool) (vs : List ℕ) → length gs ≡ length τs → map recalled τs ≡ all → slice_get τs first ≡ Some τ
      → length vs ≡ number_count (targets fs (recalled τ ∷ unmarked (map recalled τs) gs) (true ∷ []))
      → IsGroupOf all (group_at first τ τs gs (map pos vs)) (group_of fs (record { first = recalled τ; others = unmarked (map recalled τs) gs; multipliers = vs }))
  group_held first τ τs gs [] e whole at l = absurd (omega (arith, l))
  group_held first τ τs gs (v ∷ vs) e whole at l = go (drop n vs) refl (drop-map pos n vs)
    where
      n : ℕ
      n = τ.rows.width

      others : List Transition
      others = unmarked (map recalled τs) gs

      there : (i : ℕ) (σ : Held) → slice_get τs i ≡ Some σ → slice_get all i ≡ Some (recalled σ)
      there i σ h = ap (λ (s : List Transition). slice_get s i) (sym whole) ∙ mapped_place recalled τs i σ h

      go : (ws : List ℕ) → drop n vs ≡ ws → drop n (map pos vs) ≡ map pos (drop n vs)
          → IsGroupOf all (group_at first τ τs gs (map pos (v ∷ vs))) (group_of fs (record { first = recalled τ; others = others; multipliers = v ∷ vs }))
      go [] is same =
          let k = number_count (targets fs others []) in
          let few : length (drop n vs) ≡ suc n + k = dropped n vs (suc n + k) (omega (arith, l)) in
          absurd (omega (arith, ap length is, few))
      go (w ∷ ws) is same =
          let k = number_count (targets fs others []) in
          let few : length (drop n vs) ≡ suc n + k = dropped n vs (suc n + k) (omega (arith, l)) in
          let less : length ws ≡ n + k = omega (arith, ap length is, few) in
          let floors : drop n (map pos vs) ≡ pos w ∷ map pos ws = same ∙ ap (map pos) is in
          let last : drop n (map pos ws) ≡ map pos (drop n ws) = drop-map pos n ws in
          let points = points_held 0 τs gs (drop n ws) e (λ i σ h. let same_place : 0 + i ≡ i = omega arith in ap (slice_get all) same_place ∙ there i σ h) (dropped n ws k less) in
          rw is (rw floors (record {
            first = (there first τ at, refl, take-map pos n vs);
            others = subst (λ (zs : List ℤ). ArePointsOf all (points_from 0 τs gs zs) (points_with others (pointed (targets fs others []) (drop n ws)))) (sym last) points;
            floor = (refl, take-map pos n ws);
          }))
