-- A step on a clause's system is what is noted of the clause.
use Rattle.std.proofs.Common.{◌≡◌, ◌≢◌, ℕ, ◌<◌, ℤ, Bool, List, length, subst}
use Rattle.cti_terms.specs.Tree.{Tree}
use Rattle.cti_terms.specs.declared.clauses.Clause.{Clause}
use Rattle.linear_rows.specs.Plain.{plain_rows}
use Rattle.linear_rows.specs.declared.system.System.{System}
use Rattle.polyhedra.specs.Making.{SaysImage}
use Rattle.termination_model.specs.chains.ChainSteps.{IsLegalImage, IsLegalStep}
use Rattle.termination_model.specs.sizes.Systems.{row_over}
use Rattle.termination_model.specs.sizes.ShortSystems.{short_system}
use Rattle.numeric_model.specs.declared.filled.Filled.{Filled}
use Rattle.numeric_model.specs.declared.noting.Noted.{Noted}
use Rattle.numeric_model.specs.Filling.{IsFilled, weight}
use Rattle.numeric_model.specs.Noting.{HasRowsOf, IsNoted}
use Rattle.numeric_model.specs.Proved.{AreShownOver}
use Rattle.numeric_model.specs.Stepping.{rows_after, IfNew, IfNone, IsStep}
use Rattle.numeric_model.proofs.ClauseSystems.{arity_is}
use Rattle.numeric_model.proofs.Shown.{none_map, shown_over}
use Rattle.numeric_model.proofs.Translate.{IsOf, image_is, step_from}

module _ {D : Type 0} (width : D → ℕ) (listed : D → List (List ℤ)) (speaks : List ℤ → Bool) (expression : ℕ → Tree → List ℤ) (pass : ℕ) (rows : ℕ → List (List ℤ)) (k : Clause) (number : ℕ)
    (s : System) (is : IsOf expression rows k s) (filled : Filled) (d : D) (own : HasRowsOf rows k filled (width d) (listed d)) (x : Noted D) where
  pub noted_from : IsLegalImage speaks expression rows k x.image_weak (plain_rows x.image.value.list) → IsStep width listed speaks s pass (listed d) (plain_rows x.image.value.list) filled x.stepped
      → IsNoted width listed speaks expression pass rows k number filled x
  noted_from image step =
      let old = listed d in
      let r = x.stepped in
      let arity = arity_is expression rows k s is in
      let legal = step_from speaks expression rows k s is pass (plain_rows x.image.value.list) x.image_weak image old (rows_after listed old r.next) r.weak r.how step.legal own.rows_are number in
      record {
        legal = subst (λ (o : List (List ℤ)). IsLegalStep speaks expression pass rows k (record { clause = number; image = plain_rows x.image.value.list; image_weak = x.image_weak; how = r.how; rows = rows_after listed o r.next; weak = r.weak })) own.rows_are legal;
        known = subst (λ (o : List (List ℤ)). IsFilled (length k.head.args) r.filled (rows_after listed o r.next)) own.rows_are (subst (λ (m : ℕ). IsFilled m r.filled (rows_after listed old r.next)) arity step.known);
        sized = subst (λ (m : ℕ). IfNew (λ d. width d ≡ m) r.next) arity step.sized;
        new = subst (λ (o : List (List ℤ)). IfNew (λ d. listed d ≢ o) r.next) own.rows_are step.new;
        less = λ late. subst (λ (o : List (List ℤ)). IfNew (λ d. weight r.filled (listed d) < weight filled o) r.next) own.rows_are (step.less late);
        shown = subst (λ (o : List (List ℤ)). IfNone (AreShownOver (short_system expression rows k.vars k.body) (row_over expression k.vars k.head.args) o r.by) r.next) own.rows_are
            (none_map (shown_over expression rows k s is old r.by) r.next step.shown);
      }

  pub noted : SaysImage speaks s (plain_rows x.image.value.list) x.image_weak → IsStep width listed speaks s pass (listed d) (plain_rows x.image.value.list) filled x.stepped
      → IsNoted width listed speaks expression pass rows k number filled x
  noted says = noted_from (image_is speaks expression rows k s is (plain_rows x.image.value.list) x.image_weak says)
