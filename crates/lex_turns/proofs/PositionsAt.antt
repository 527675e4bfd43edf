-- The positions of a set, as the code has them.
use Rattle.std.proofs.Common.{◌≡◌, ℕ, ℤ, Bool, List, filter, map, ap, ◌∙◌}
use Rattle.std.specs.List.{list_any}
use Rattle.call_components.specs.Partition.{Partition}
use Rattle.cti_terms.specs.Listing.{Listing}
use Rattle.cti_terms.specs.Tree.{Tree}
use Rattle.termination_model.specs.mappings.BlownSupports.{same_position}
use Rattle.termination_model.specs.mappings.ComponentViews.{positions_in}
use Rattle.termination_model.specs.mappings.Ready.{arity_in, positions_by}
use Rattle.termination_model.specs.mappings.Supports.{picked_from}
use Rattle.level_systems.specs.Held.{spelled}
use Rattle.level_systems.specs.Searched.{IsComponent}
use Rattle.level_systems.specs.declared.component.Component.{Component}
use Rattle.level_systems.specs.declared.position.Position.{Position}
use Rattle.lex_turns.specs.Descending.{positions_at}

module _ (size : (ℕ → ℕ) → Tree → ℕ) (truth : (ℕ → Bool) → Tree → Bool) (expression : ℕ → Tree → List ℤ) (p : Listing) (comps : Partition) (rows : ℕ → List (List ℤ)) (c : ℕ) (x : Component)
    (h : IsComponent size truth expression p comps rows c x) where
  pub positions_are : (s : List ℕ) (at : List Position) → map spelled at ≡ filter (λ r. list_any (same_position r) (picked_from 1 (map spelled x.positions.items) s)) (map spelled x.order.items)
      → map spelled at ≡ positions_at expression p comps rows c s
  positions_are s at is =
      let picks = picked_from 1 (positions_in p comps c) s in
      is ∙ (λ j. filter (λ r. list_any (same_position r) (picked_from 1 (h.positions j) s)) (h.order j)) ∙ ap (λ (qs : List ℕ). filter (λ r. list_any (same_position r) picks) (positions_by (arity_in p) qs)) h.by_clauses
