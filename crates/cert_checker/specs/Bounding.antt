-- To believe, for a Yes.
-- What a Yes says of a program's queries: each that meets a printed mode has bounded derivations.
--
-- To believe, where a Yes is to mean that queries end: this file, over the terms, programs, unification and derivations
-- of `cti_terms`, and over `list_truth` and `dot_among` of `term_size` where the certificate names list size. Nothing
-- here speaks of mappings or sets of truth rows.
use Rattle.std.specs.Prelude.{◌≡◌, ℕ, suc, Bool, false, IsTrue, List, [], ◌∷◌, length, Contains, slice_get, Some}
use Rattle.std.specs.List.{AllByRecursion}
use Rattle.certificate.specs.declared.fact.Fact.{Fact}
use Rattle.certificate.specs.declared.fact.Fact.TheVariants.{Cti, Norm, Terminates}
use Rattle.certificate.specs.declared.norm.CertNorm.TheVariants as norm
use Rattle.certificate.specs.declared.pred_text.PredText.{PredText}
use Rattle.cti_terms.specs.Derive.{query, Bounded}
use Rattle.cti_terms.specs.Listing.{Listing}
use Rattle.cti_terms.specs.Tree.{Tree, is_rigid}
use Rattle.cti_terms.specs.declared.atom_list.Atom.{Atom}
use Rattle.cti_terms.specs.declared.predicates.Pred.{Pred}
use Rattle.term_size.specs.AnyNorm.{dot_among}
use Rattle.term_size.specs.ListSize.{list_truth}

-- which terms are rigid: those without a variable, or, where the second fact names list size, all but variables and
-- lists that end in one
abbrev pub rigid_in : List (List ℕ) → List Fact → Tree → Bool
rigid_in names (Cti version ∷ (Norm norm.List ∷ facts)) = list_truth (dot_among names) (λ _. false)
rigid_in names facts = is_rigid

-- the arguments that a mode names are rigid. The first of these arguments has number i
abbrev pub NamedAreRigid : (Tree → Bool) → List ℕ → ℕ → List Tree → Type 0
NamedAreRigid rigid mode i [] = Unit {0}
NamedAreRigid rigid mode i (t ∷ ts) = (Contains mode i → IsTrue (rigid t)) × NamedAreRigid rigid mode (suc i) ts

-- an atom's predicate has this text and arity, and the atom as many arguments
pub record IsOf (p : Listing) (names : List (List ℕ)) (text : PredText) (a : Atom) : Type 0 where
  pub pred : Pred
  pub there : slice_get p.preds a.pred.0 ≡ Some pred
  pub name : slice_get names pred.name.0 ≡ Some text.name
  pub arity : pred.arity ≡ text.arity
  pub arguments : length a.args ≡ text.arity

-- each query of the predicate that meets the mode is bounded, with any terms and any counter
abbrev pub ModeIsBounded : Listing → List (List ℕ) → (Tree → Bool) → PredText → List ℕ → Type 0
ModeIsBounded p names rigid text mode = (a : Atom) (counter : ℕ) → IsOf p names text a → NamedAreRigid rigid mode 1 a.args → Bounded p (query a counter)

-- each mode of a `terminates` fact is bounded; of other facts nothing is said here
abbrev pub FactIsBounded : Listing → List (List ℕ) → (Tree → Bool) → Fact → Type 0
FactIsBounded p names rigid (Terminates text modes) = AllByRecursion (ModeIsBounded p names rigid text) modes
FactIsBounded p names rigid _ = Unit {0}

-- each mode that the facts print is bounded
abbrev pub ModesAreBounded : Listing → List (List ℕ) → List Fact → Type 0
ModesAreBounded p names facts = AllByRecursion (FactIsBounded p names (rigid_in names facts)) facts
