-- A step on a clause's system is what is noted of the clause.
use Rattle.std.proofs.Common.{◌≡◌, ◌≢◌, ℕ, ◌<◌, ℤ, Bool, List, length, map, subst}
use Rattle.cti_terms.specs.declared.clauses.Clause.{Clause}
use Rattle.linear_rows.specs.Plain.{plain_rows}
use Rattle.linear_rows.specs.declared.system.System.{System}
use Rattle.polyhedra.specs.Making.{SaysImage}
use Rattle.size_chains.specs.declared.filled.Filled.{Filled}
use Rattle.size_chains.specs.declared.noting.Noted.{Noted}
use Rattle.size_chains.specs.Filling.{IsFilled, weight}
use Rattle.size_chains.specs.Noting.{HasRowsOf, IsNoted}
use Rattle.size_chains.specs.Making.{IsMade}
use Rattle.size_chains.specs.Proved.{AreShownFor}
use Rattle.size_chains.specs.Stepping.{rows_after, IfNew, IfNone, IsStep}
use Rattle.size_chains.proofs.Makes.{columns_of}
use Rattle.size_chains.proofs.Shown.{none_map, shown_over}
use Rattle.size_chains.proofs.Translate.{image_is, step_from}
use Rattle.size_chains.specs.Steps.{IsLegalImage, IsLegalStep}
use Rattle.size_chains.specs.Systems.{AreColumnsOf, Systems, system}
use Rattle.termination_model.specs.sizes.ShortSystems.{short_row}

module _ {D : Type 0} (width : D → ℕ) (listed : D → List (List ℤ)) (speaks : List ℤ → Bool) (systems : Systems) (pass : ℕ) (rows : ℕ → List (List ℤ)) (k : Clause) (number : ℕ)
    (s : System) (made : IsMade systems rows k s) (of : AreColumnsOf systems k) (filled : Filled) (d : D) (own : HasRowsOf (length (systems.heads k)) rows k filled (width d) (listed d)) (x : Noted D) where
  pub noted_from : IsLegalImage speaks systems rows k x.image_weak (plain_rows x.image.value.list) → IsStep width listed speaks s pass (listed d) (plain_rows x.image.value.list) filled x.stepped
      → IsNoted width listed speaks systems pass rows k number filled x
  noted_from image step =
      let old = listed d in
      let r = x.stepped in
      let arity = columns_of systems rows k s made.of in
      let legal = step_from speaks systems rows k s made.of pass (plain_rows x.image.value.list) x.image_weak image old (rows_after listed old r.next) r.weak r.how step.legal own.rows_are number in
      record {
        legal = subst (λ (o : List (List ℤ)). IsLegalStep speaks systems pass rows k (record { clause = number; image = plain_rows x.image.value.list; image_weak = x.image_weak; how = r.how; rows = rows_after listed o r.next; weak = r.weak })) own.rows_are legal;
        known = subst (λ (o : List (List ℤ)). IsFilled (length (systems.heads k)) r.filled (rows_after listed o r.next)) own.rows_are (subst (λ (m : ℕ). IsFilled m r.filled (rows_after listed old r.next)) arity step.known);
        sized = subst (λ (m : ℕ). IfNew (λ d. width d ≡ m) r.next) arity step.sized;
        new = subst (λ (o : List (List ℤ)). IfNew (λ d. listed d ≢ o) r.next) own.rows_are step.new;
        less = λ late. subst (λ (o : List (List ℤ)). IfNew (λ d. weight r.filled (listed d) < weight filled o) r.next) own.rows_are (step.less late);
        shown = subst (λ (o : List (List ℤ)). IfNone (AreShownFor systems k (map short_row (system systems rows k k.body)) o r.by) r.next) own.rows_are
            (none_map (shown_over systems rows k s made of old r.by) r.next step.shown);
      }

  pub noted : SaysImage speaks s (plain_rows x.image.value.list) x.image_weak → IsStep width listed speaks s pass (listed d) (plain_rows x.image.value.list) filled x.stepped
      → IsNoted width listed speaks systems pass rows k number filled x
  noted says = noted_from (image_is speaks systems rows k s made.of (plain_rows x.image.value.list) x.image_weak says)
