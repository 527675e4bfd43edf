-- Sets that have no rows.
use Rattle.std.proofs.Common.{◌≡◌, ℕ, zero, suc, Bool, false, IsTrue, List, length, replicate, slice_get, Some, sym, subst, ◌∙◌}
use Rattle.std.proofs.lemmas.List.{length-replicate}
use Rattle.bool_diagrams.specs.declared.diagram.Diagram.{Diagram}
use Rattle.bool_diagrams.specs.Cubes.{truth_rows, values_of}
use Rattle.bool_diagrams.specs.Rows.{IsDiagram, holds}
use Rattle.bool_diagrams.specs.Tree.{Tree as Rows}
use Rattle.cti_terms.specs.declared.predicates.Pred.{Pred}
use Rattle.truth_rows.specs.Sets.{AreSets, family_of}
use Rattle.truth_rows.proofs.SetLaws.{family_in}

all_are : (n : ℕ) (d e : Diagram) (q : ℕ) → slice_get (replicate n d) q ≡ Some e → d ≡ e
all_are zero d e q at = cc
all_are (suc n) d e zero at = cc
all_are (suc n) d e (suc q) at = all_are n d e q at

module _ (preds : List Pred) (T : List Rows) (n : ℕ) (d : Diagram) (known : IsDiagram T d) (none : (row : ℕ → Bool) → holds T d row ≡ false) where
  pub start_sets : n ≡ length preds → AreSets preds T (replicate n d)
  start_sets each = record {
    each = length-replicate n d ∙ each;
    known = λ q e at. subst (IsDiagram T) (all_are n d e q at) known;
    reads = λ q m e at a row other agree. subst (λ (y : Diagram). holds T y row ≡ holds T y other) (all_are n d e q at) (none row ∙ sym (none other));
  }

  pub start_none : (q : ℕ) (row : List Bool) → IsTrue (family_of preds T (replicate n d) q row) → ⊥
  start_none q row t =
      let f = family_in preds T (replicate n d) q row t in
      let on = subst (λ (y : Diagram). IsTrue (truth_rows T y row)) (sym (all_are n d f.1 q f.3)) f.5 in
      let off = none (values_of row) in
      cc
