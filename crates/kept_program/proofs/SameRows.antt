-- The greatest preconditions of a component are the same wherever its members stand, for the same coefficients.
use Rattle.std.proofs.Common.{◌≡◌, ℕ, Bool, true, false, if◌then◌else◌, List, length, ap, sym, ◌∙◌}
use Rattle.cti_terms.specs.Listing.{Listing}
use Rattle.cti_terms.specs.Tree.{Tree}
use Rattle.termination_model.specs.grounds.Grounds.{Family, HasArity}
use Rattle.precond_fixpoint.specs.Greatest.{IsGreatestIn}
use Rattle.precond_fixpoint.proofs.AllowedLaws.{greatest_depends_below}
use Rattle.truth_rows.proofs.RowLaws.{same_bool}
use Rattle.component_laws.specs.Carried.{KeepsArities}
use Rattle.component_laws.specs.Renaming.{AgreeOn, StandIn}
use Rattle.component_laws.proofs.CarriedLaws.{carried}
use Rattle.carried_preconditions.proofs.Greatest.{other_coefficients}

-- nothing for members, since what is allowed of these counts nothing
abbrev pub outside : (ℕ → Bool) → Family → Family
outside m f q row = if m q then false else f q row

-- two greatest families have the same rows of members
one_greatest : (truth : (ℕ → Bool) → Tree → Bool) (p : Listing) (m : ℕ → Bool) (allowed grounds : Family) (cs : ℕ → List ℕ) (f g : Family) → IsGreatestIn truth p m allowed grounds cs f → IsGreatestIn truth p m allowed grounds cs g
    → (q : ℕ) (row : List Bool) → m q ≡ true → HasArity p.preds q (length row) → f q row ≡ g q row
one_greatest truth p m allowed grounds cs f g a b q row on long = same_bool (f q row) (g q row) (b.greatest f a.keeps q row on long) (a.greatest g b.keeps q row on long)

outside_same : (truth : (ℕ → Bool) → Tree → Bool) (p : Listing) (m : ℕ → Bool) (allowed grounds : Family) (cs : ℕ → List ℕ) (f : Family) → IsGreatestIn truth p m allowed grounds cs f → IsGreatestIn truth p m (outside m allowed) grounds cs f
outside_same truth p m allowed grounds cs f a = greatest_depends_below truth p m allowed (outside m allowed) grounds cs f (λ i k at on j b there off. λ n row. if sym off n then false else allowed b.pred.0 row) a

outside_back : (truth : (ℕ → Bool) → Tree → Bool) (p : Listing) (m : ℕ → Bool) (allowed grounds : Family) (cs : ℕ → List ℕ) (f : Family) → IsGreatestIn truth p m (outside m allowed) grounds cs f → IsGreatestIn truth p m allowed grounds cs f
outside_back truth p m allowed grounds cs f a = greatest_depends_below truth p m (outside m allowed) allowed grounds cs f (λ i k at on j b there off. λ n row. if off n then false else allowed b.pred.0 row) a

module _ (truth : (ℕ → Bool) → Tree → Bool) (Known : ℕ → Type 0) (f back : ℕ → ℕ) (p new : Listing) (m n : ℕ → Bool) (s : StandIn Known f p new m n) (backs : (q : ℕ) → Known q → back (f q) ≡ q) (arities : KeepsArities Known f p new)
    (grounds new_grounds allowed new_allowed : Family) (grounds_agree : AgreeOn Known f grounds new_grounds) (allowed_agree : AgreeOn Known f (outside m allowed) (outside n new_allowed)) where
  pub same_greatest : (cs ds : ℕ → List ℕ) (pre new_pre : Family) → AgreeOn (λ q. m q ≡ true) f cs ds → IsGreatestIn truth p m allowed grounds cs pre → IsGreatestIn truth new n new_allowed new_grounds ds new_pre
      → (q : ℕ) (row : List Bool) → m q ≡ true → HasArity new.preds (f q) (length row) → new_pre (f q) row ≡ pre q row
  same_greatest cs ds pre new_pre same old now q row on long =
      one_greatest truth new n new_allowed new_grounds ds new_pre there now moved (f q) row (s.members q (s.known q on) ∙ on) long
      ∙ (λ i. pre (backs q (s.known q on) i) row)
    where
      there : Family
      there r = pre (back r)

      coefficients : ℕ → List ℕ
      coefficients r = cs (back r)

      moved : IsGreatestIn truth new n new_allowed new_grounds ds there
      moved =
          let first = carried truth Known f p new m n s (outside m allowed) grounds (outside n new_allowed) new_grounds allowed_agree grounds_agree cs coefficients (λ q known. ap cs (backs q known)) pre there arities (λ q known. ap pre (backs q known))
          (outside_same truth p m allowed grounds cs pre old) in
          let second = outside_back truth new n new_allowed new_grounds coefficients there first in
          other_coefficients truth new n new_allowed new_grounds coefficients ds (λ r is.
          let from = s.from r is in
          let t = from.0 in
          ap (λ (x : ℕ). cs (back x)) (sym from.3) ∙ ap cs (backs t from.1) ∙ sym (same t from.2) ∙ ap ds from.3) there second
