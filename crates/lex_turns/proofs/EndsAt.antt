-- The ends of a search, at the positions of a set.
use Rattle.std.proofs.Common.{◌≡◌, ℕ, ℤ, Bool, List, map, subst}
use Rattle.call_components.specs.Partition.{Partition}
use Rattle.cti_terms.specs.Listing.{Listing}
use Rattle.cti_terms.specs.Tree.{Tree}
use Rattle.termination_model.specs.mappings.ComponentViews.{component_view}
use Rattle.termination_model.specs.mappings.OwnCalls.{Position as Place}
use Rattle.termination_model.specs.mappings.Ready.{arity_in}
use Rattle.level_systems.specs.Held.{spelled}
use Rattle.level_systems.specs.Searched.{IsComponent}
use Rattle.level_systems.specs.declared.component.Component.{Component}
use Rattle.level_systems.specs.declared.position.Position.{Position}
use Rattle.lex_turns.specs.Coursing.{IsEnded}
use Rattle.lex_turns.specs.Descending.{IsGivenUp, IsListAt, positions_at}
use Rattle.lex_turns.specs.Found.{IsEndedAt}
use Rattle.lex_turns.specs.declared.course.Ended.{Ended}
use Rattle.lex_turns.specs.declared.course.Ended.TheVariants as ended
use Rattle.lex_turns.proofs.ListSupports.{void_of}
use Rattle.lex_turns.proofs.ListsFound.{list_found}
use Rattle.lex_turns.proofs.NoneWithin.{none_descends}

module _ (size : (ℕ → ℕ) → Tree → ℕ) (truth : (ℕ → Bool) → Tree → Bool) (expression : ℕ → Tree → List ℤ) (p : Listing) (comps : Partition) (rows : ℕ → List (List ℤ)) (c : ℕ) (x : Component)
    (h : IsComponent size truth expression p comps rows c x) where
  pub ended_at : (s : List ℕ) (at : List Position) → map spelled at ≡ positions_at expression p comps rows c s → (e : Ended) → IsEnded expression p comps rows c x at e → IsEndedAt expression p comps rows c x at s e
  ended_at s at is (ended.List l) ends =
      list_found size truth expression p comps rows c x h s l (subst (λ (ps : List Place). IsListAt expression p comps rows c ps l) is ends.0) ends.1
  ended_at s at is (ended.Refuted gone) ends = (ends, void_of expression p comps rows c s (none_descends size truth expression p comps rows c x h at gone.items ends s is))
  ended_at s at is ended.GivenUp ends = subst (IsGivenUp expression (component_view expression p comps rows c) (arity_in p)) is ends
