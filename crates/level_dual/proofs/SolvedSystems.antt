-- The solved system of all positions.
use Rattle.std.proofs.Common.{◌≡◌, ◌+◌, ℕ, ℤ, List, length, map, sym, subst, ◌∙◌}
use Rattle.std.specs.List.{AllByRecursion}
use Rattle.std.proofs.lemmas.List.{length-map}
use Rattle.call_components.specs.Numbers.{number_of}
use Rattle.cti_terms.specs.Tree.{Tree}
use Rattle.cti_terms.specs.declared.predicates.PredId.{PredId}
use Rattle.linear_rows.specs.Solving.{Solution, solution}
use Rattle.linear_rows.specs.Solving.Solution.{Found, Refuted}
use Rattle.termination_model.specs.mappings.OwnCalls.{OwnCall as Recalled}
use Rattle.termination_model.specs.mappings.SupportSystem.{support_rows, unknowns}
use Rattle.level_systems.specs.Held.{live_of, spelled}
use Rattle.level_systems.specs.Recalled.{Recalls, count_of}
use Rattle.level_systems.specs.Refuted.{solution_of}
use Rattle.level_systems.specs.declared.component.Component.{Component}
use Rattle.level_systems.specs.declared.own_call.OwnCall.{OwnCall}
use Rattle.level_systems.specs.declared.position.Position.{Position}
use Rattle.level_systems.proofs.SystemSteps.{counts_are}

module _ (expression : ℕ → Tree → List ℤ) (re : OwnCall → Recalled) (x : Component) (recalled : AllByRecursion (λ (own : OwnCall). Recalls expression (re own) own) x.calls.items) where
  -- the code's system is that of all positions
  pub solution_same : (n : ℕ) (system : List (List ℤ)) (calls : List OwnCall) (order : List Position) (members : List PredId)
      → calls ≡ x.calls.items → order ≡ x.order.items → members ≡ x.by_clauses.items → n ≡ length order + (length members + count_of calls)
      → (AllByRecursion (λ (own : OwnCall). Recalls expression (re own) own) calls → system ≡ support_rows expression (map spelled order) (map number_of members) (map re (live_of calls)))
      → solution n system ≡ solution_of expression x (map re (live_of x.calls.items))
  solution_same n system calls order members ec eo em en es =
      let ps = map spelled x.order.items in
      let ms = map number_of x.by_clauses.items in
      let rows : system ≡ support_rows expression ps ms (map re (live_of x.calls.items)) =
      es (subst (AllByRecursion (λ (own : OwnCall). Recalls expression (re own) own)) (sym ec) recalled) ∙ (λ i. support_rows expression (map spelled (eo i)) (map number_of (em i)) (map re (live_of (ec i)))) in
      let width : n ≡ unknowns expression ps ms (map re (live_of x.calls.items)) =
      en ∙ (λ i. length (eo i) + (length (em i) + count_of (ec i)))
      ∙ (λ i. sym (length-map x.order.items spelled) i + (sym (length-map x.by_clauses.items number_of) i + sym (counts_are expression re ps ms x.calls.items recalled) i)) in
      λ i. solution (width i) (rows i)

pub one_refutation : (s : Solution) (vs ws : List ℤ) → s ≡ Refuted vs → s ≡ Refuted ws → vs ≡ ws
one_refutation s vs ws e f = cc

pub no_point : (s : Solution) (t : ℤ) (w vs : List ℤ) → s ≡ Found t w → s ≡ Refuted vs → ⊥
no_point s t w vs e f = cc
