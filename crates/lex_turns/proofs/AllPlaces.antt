-- A search at the set of all positions is one at each of them.
use Rattle.std.proofs.Common.{◌≡◌, ℕ, ℤ, Bool, List, [], ◌∷◌, map, length, inl, inr, ap, sym, subst, ◌∙◌}
use Rattle.call_components.specs.Partition.{Partition}
use Rattle.cti_terms.specs.Listing.{Listing}
use Rattle.cti_terms.specs.Tree.{Tree}
use Rattle.linear_rows.specs.Members.{In}
use Rattle.linear_rows.specs.Step.{columns}
use Rattle.level_systems.specs.Held.{spelled}
use Rattle.level_systems.specs.Searched.{IsComponent}
use Rattle.level_systems.specs.declared.component.Component.{Component}
use Rattle.level_systems.specs.declared.position.Position.{Position}
use Rattle.level_systems.proofs.HeldCalls.{all_in}
use Rattle.level_dual.proofs.FullSet.{order_same}
use Rattle.lex_turns.specs.Descending.{positions_at}
use Rattle.lex_turns.specs.Sticking.{AreAt}

spelled_in : (rs : List Position) (r : Position) → In r rs → In (spelled r) (map spelled rs)
spelled_in [] r i = absurd i
spelled_in (x ∷ rs) r (inl e) = inl (ap spelled e)
spelled_in (x ∷ rs) r (inr i) = inr (spelled_in rs r i)

module _ (size : (ℕ → ℕ) → Tree → ℕ) (truth : (ℕ → Bool) → Tree → Bool) (expression : ℕ → Tree → List ℤ) (p : Listing) (comps : Partition) (rows : ℕ → List (List ℤ)) (c : ℕ) (x : Component)
    (h : IsComponent size truth expression p comps rows c x) where
  pub all_at : (at : List Position) → map spelled at ≡ positions_at expression p comps rows c (columns 1 (length x.positions.items)) → AreAt x.order.items at
  all_at at is =
      all_in (λ (r : Position). In (spelled r) (map spelled at)) x.order.items (λ r i.
      subst (In (spelled r)) (sym (is ∙ order_same size truth expression p comps rows c x h)) (spelled_in x.order.items r i))
