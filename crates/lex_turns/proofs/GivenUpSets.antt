-- Where some call is given up, so is the search at each set.
use Rattle.std.proofs.Common.{ℕ, ℤ, List, inl, inr, sym, subst}
use Rattle.cti_terms.specs.Listing.{Listing}
use Rattle.cti_terms.specs.Tree.{Tree}
use Rattle.call_components.specs.Partition.{Partition}
use Rattle.linear_rows.specs.Irredundant.{TestIsBlown}
use Rattle.linear_rows.specs.Members.{In}
use Rattle.linear_rows.specs.Showing.{bottom_row}
use Rattle.linear_rows.proofs.Members.{in-map}
use Rattle.termination_model.specs.mappings.ComponentViews.{component_view}
use Rattle.termination_model.specs.mappings.OwnCalls.{own_calls}
use Rattle.level_systems.specs.Collected.{SomeGivenUp}
use Rattle.level_systems.specs.Pairs.{clause_at, pairs_of}
use Rattle.level_systems.specs.Held.{recalled_at}
use Rattle.level_systems.proofs.ViewCalls.{calls_are_pairs}
use Rattle.level_dual.proofs.BlownSets.{before_same}
use Rattle.lex_turns.specs.Descending.IsGivenUp.{undecided, unfit}
use Rattle.lex_turns.specs.FoundLists.{IsGivenUpAt}

module _ (expression : ℕ → Tree → List ℤ) (p : Listing) (comps : Partition) (rows : ℕ → List (List ℤ)) (c : ℕ) where
  pub all_given_up : SomeGivenUp expression p rows (pairs_of p comps c) → (s : List ℕ) → IsGivenUpAt expression p comps rows c s
  all_given_up w s =
      let x = w.0 in
      let k = clause_at p x.0 in
      let o = recalled_at expression p rows comps c x in
      let there : In o (own_calls (component_view expression p comps rows c)) = subst (In o) (sym (calls_are_pairs expression p comps rows c)) (in-map (recalled_at expression p rows comps c) (pairs_of p comps c) x w.1) in
      elim w.2 [
        | inl wide ↦ unfit o wide.0 there (subst (In wide.0) (sym (before_same expression p comps rows c x)) wide.1) wide.2
        | inr test ↦ undecided o there (subst (λ (rs : List (List ℤ)). TestIsBlown k.vars rs (bottom_row k.vars)) (sym (before_same expression p comps rows c x)) test)
      ]
