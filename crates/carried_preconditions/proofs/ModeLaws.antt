-- Modes that a predicate had, and those of one more predicate.
use Rattle.std.proofs.Common.{◌≡◌, ℕ, List, [], ◌∷◌, ◌++◌, length, map, slice_get, Some, ap, sym, subst, ◌∙◌, arith}
use Rattle.bool_diagrams.specs.Cubes.{truth_rows}
use Rattle.bool_diagrams.specs.Rows.{HaveSameRows}
use Rattle.bool_diagrams.specs.Tree.{Tree as Rows}
use Rattle.bool_diagrams.specs.declared.diagram.Diagram.{Diagram}
use Rattle.cti_terms.specs.declared.predicates.Pred.{Pred}
use Rattle.precond_fixpoint.specs.Solving.{AreModes, arguments_of}
use Rattle.precond_fixpoint.specs.declared.mode.Mode.{Mode}
use Rattle.precond_fixpoint.proofs.ModeLaws.{modes_same}
use Rattle.precond_fixpoint.proofs.PlaceLaws.{items_at, some_at}
use Rattle.termination_model.specs.grounds.Grounds.{Family}
use Rattle.termination_model.specs.grounds.Modes.{modes}
use Rattle.termination_model.proofs.Lists.{one_element, place_below}
use Rattle.truth_rows.specs.Sets.{AreSets, family_of}
use Rattle.truth_rows.proofs.CallerLemmas.{family_at}
use Rattle.solved_program.proofs.Resolved.{each_more}
use Rattle.carried_preconditions.specs.Modes.{AreModesOf}
use Rattle.carried_preconditions.proofs.Same.{family_of_rows}

-- a predicate that was there, with the same rows
pub modes_kept : (preds new_preds : List Pred) (T : List Rows) (before allowed : List Diagram) → AreSets preds T before → AreSets new_preds T allowed → (q r : ℕ) (x : Pred) → slice_get preds q ≡ Some x → slice_get new_preds r ≡ Some x
    → (e d : Diagram) → slice_get before q ≡ Some e → slice_get allowed r ≡ Some d → HaveSameRows T d e
    → (list : List (List Mode)) (own : List Mode) → slice_get list q ≡ Some own → AreModes preds (family_of preds T before) list → AreModesOf new_preds (family_of new_preds T allowed) r own
modes_kept preds new_preds T before allowed O S q r x here there e d theirs mine same list own at M y is =
    let x_is : x ≡ y = one_element new_preds r x y there is in
    let rows = family_of_rows preds new_preds T allowed before S O r q x there here d e mine theirs same in
    subst (λ (z : Pred). map arguments_of own ≡ modes z.arity (family_of new_preds T allowed r)) x_is
    (sym (ap (map arguments_of) (items_at list q own at)) ∙ M.minimal q x here ∙ ap (modes x.arity) (sym rows))

-- one whose modes are found
pub modes_found : (preds : List Pred) (T : List Rows) (allowed : List Diagram) (r : ℕ) (x : Pred) → slice_get preds r ≡ Some x → (d : Diagram) → slice_get allowed r ≡ Some d
    → (own : List Mode) → map arguments_of own ≡ modes x.arity (truth_rows T d) → AreModesOf preds (family_of preds T allowed) r own
modes_found preds T allowed r x there d mine own found y is =
    let x_is : x ≡ y = one_element preds r x y there is in
    subst (λ (z : Pred). map arguments_of own ≡ modes z.arity (family_of preds T allowed r)) x_is
    (found ∙ modes_same x.arity (truth_rows T d) (family_of preds T allowed r) (λ row long. sym (family_at preds T allowed r x d row there mine (sym long))))

pub modes_more : (preds : List Pred) (allowed : Family) (list : List (List Mode)) (own : List Mode) → ((r : ℕ) (x : List Mode) → slice_get list r ≡ Some x → AreModesOf preds allowed r x) → AreModesOf preds allowed (length list) own
    → (r : ℕ) (x : List Mode) → slice_get (list ++ own ∷ []) r ≡ Some x → AreModesOf preds allowed r x
modes_more preds allowed list own all one = each_more (AreModesOf preds allowed) list own all one

pub modes_all : (preds : List Pred) (allowed : Family) (list : List (List Mode)) → length list ≡ length preds → ((r : ℕ) (x : List Mode) → slice_get list r ≡ Some x → AreModesOf preds allowed r x) → AreModes preds allowed list
modes_all preds allowed list each all = record {
  each = each;
  minimal = λ q x e.
      let own = some_at list q (omega (arith, each, place_below preds q x e)) in
      ap (map arguments_of) (items_at list q own.0 own.1) ∙ all q own.0 own.1 x e;
}
