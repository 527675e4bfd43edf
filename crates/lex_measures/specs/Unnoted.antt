-- Private.
-- Where no note of an exact certificate says that the search for lists of a component was given up, the component's
-- modes are the best over all its lists of linear mappings.
--
-- To believe: nothing. The law leads from a whole certificate to what all lists that descend give together. A component
-- of more than 12 argument positions is left out, since not all its supports are looked at.
use Rattle.std.specs.Prelude.{◌≡◌, ◌<◌, ◌≤◌, ◌↔◌, ℕ, true, IsTrue, List, length, slice_get, Some}
use Rattle.std.specs.List.{AllByRecursion}
use Rattle.call_components.specs.Partition.{IsIn, Partition}
use Rattle.cert_assembly.specs.ExactModes.{admitted_by, is_member}
use Rattle.cert_modes.specs.Modes.{allowed, grounds_of}
use Rattle.cert_structure.specs.Order.{pred_text}
use Rattle.cert_structure.specs.Shape.{first_of, is_recursive, items_of}
use Rattle.cti_terms.specs.Listing.{IsProgram, Listing}
use Rattle.cti_terms.specs.Tree.{truth}
use Rattle.cti_terms.specs.declared.predicates.Pred.{Pred}
use Rattle.lex_certificate.specs.Flat.{flat}
use Rattle.lex_certificate.specs.declared.fact.LexFact.{LexFact}
use Rattle.lex_certificate.specs.declared.fact.LexFact.TheVariants as lex
use Rattle.lex_certificate.specs.declared.parts.LexParts.{LexParts}
use Rattle.lex_turns.specs.FoundLists.{HasList}
use Rattle.linear_rows.specs.Members.{In}
use Rattle.precond_fixpoint.specs.Greatest.{IsGreatestIn, Solved, SomeSolved}
use Rattle.term_size.specs.Occurrences.{size_row}
use Rattle.termination_model.specs.mappings.Coefficients.{IsSupported, coefficient}
use Rattle.termination_model.specs.mappings.ComponentViews.{positions_in}
use Rattle.termination_model.specs.grounds.Modes.{modes}
use Rattle.termination_model.specs.sizes.Sizes.{rows_of}
use Rattle.lex_measures.specs.Exact.{IsExact}

module _ (p : Listing) (comps : Partition) (parts : LexParts) (c : ℕ) where
  -- a list of mappings of the component that descends, with its greatest rows: those are true wherever some mapping of
  -- the list has a positive coefficient
  pub record IsSolvedList (n : Solved) : Type 0 where
    pub support : List ℕ
    pub has : HasList size_row p comps (rows_of parts.rows) c support
    pub same : (r i : ℕ) → is_member comps c r ≡ true → 0 < coefficient (n.0 r) i ↔ IsSupported has.list r i
    pub greatest : IsGreatestIn truth p (is_member comps c) (allowed p (flat parts)) (grounds_of p (flat parts)) n.0 n.1

  -- each support of a list that descends is that of one of these
  abbrev pub HaveEachSupport : List Solved → Type 0
  HaveEachSupport ns = (s : List ℕ) → HasList size_row p comps (rows_of parts.rows) c s → SomeSolved (λ (n : Solved). (solved : IsSolvedList n) × (solved.support ≡ s)) ns

-- then the modes of each member are those that any lists that descend give, in which each support occurs
abbrev pub UnnotedListsAreBest : Type 0
UnnotedListsAreBest =
    (p : Listing) (names : List (List ℕ)) (facts : List LexFact) → IsProgram p → (exact : IsExact p names facts)
    → (let comps = exact.comps in
    let parts = exact.parts in
    (c q : ℕ) → IsIn comps c q → IsTrue (is_recursive comps q) → first_of comps q ≡ q → length (positions_in p comps c) ≤ 12
    → (In (lex.Blown (pred_text p names q)) facts → ⊥)
    → (r : ℕ) (d : Pred) → IsIn comps c r → slice_get p.preds r ≡ Some d
    → (ns : List Solved) → AllByRecursion (IsSolvedList p comps parts c) ns → HaveEachSupport p comps parts c ns
    → items_of parts.modes r ≡ modes d.arity (admitted_by ns r))
