-- What is known at a call of a clause: its predicate is there, with its parts of its component's mappings.
use Rattle.std.proofs.Common.{◌≡◌, ℕ, ◌<◌, length, slice_get, Option, Some, None, IsSomeAnd, refl, subst, arith}
use Rattle.std.specs.List.{AllByRecursion}
use Rattle.cti_terms.specs.Listing.{Listing, IsAtom}
use Rattle.cti_terms.specs.declared.atom_list.Atom.{Atom}
use Rattle.cti_terms.specs.declared.predicates.Pred.{Pred}
use Rattle.call_components.specs.Partition.{Partition}
use Rattle.cert_structure.specs.declared.parts.Parts.{Parts}
use Rattle.number_tests.specs.Shape.{IsLevelPart, list_at}
use Rattle.number_tests.proofs.Sized.{some_below}
use Rattle.cert_checker.specs.Shape.{HaveLevels}

some_and : {X : Type 0} → (P : X → Type 0) (o : Option X) → IsSomeAnd o P → (x : X) × (o ≡ Some x) × P x
some_and P None h = absurd h
some_and P (Some x) h = (x, refl, h)

module _ (p : Listing) (comps : Partition) (parts : Parts) (levels : HaveLevels p comps parts) (vars : ℕ) where
  pub in_preds : (a : Atom) → IsAtom p.preds vars a → a.pred.0 < length p.preds
  in_preds a is = some_below (λ (d : Pred). d.arity ≡ length a.args) p.preds a.pred.0 is.arity

  pub in_levels : (a : Atom) → IsAtom p.preds vars a → a.pred.0 < length parts.levels
  in_levels a is = omega (arith, levels.each, in_preds a is)

  pub level_parts : (a : Atom) → IsAtom p.preds vars a → AllByRecursion (IsLevelPart (length a.args)) (list_at parts.levels a.pred.0)
  level_parts a is =
      let (d, at, arity) = some_and (λ (x : Pred). x.arity ≡ length a.args) (slice_get p.preds a.pred.0) is.arity in
      subst (λ (n : ℕ). AllByRecursion (IsLevelPart n) (list_at parts.levels a.pred.0)) arity (levels.naturals a.pred.0 d at)
