-- Private.
-- Which queries meet a mode that a certificate prints.
--
-- To believe: all of this file, over `IsOf`, `NamedAreRigid` and `rigid_in` of cert_checker.
use Rattle.std.specs.Prelude.{◌≡◌, ℕ, List, slice_get, Some}
use Rattle.certificate.specs.declared.fact.Fact.{Fact}
use Rattle.certificate.specs.declared.fact.Fact.TheVariants.{Terminates}
use Rattle.certificate.specs.declared.pred_text.PredText.{PredText}
use Rattle.cert_checker.specs.Bounding.{IsOf, NamedAreRigid, rigid_in}
use Rattle.cti_terms.specs.Listing.{Listing}
use Rattle.cti_terms.specs.declared.atom_list.Atom.{Atom}

-- some fact prints the modes of the atom's predicate, and the arguments that one of these names are rigid, by the norm
-- of the facts
pub record MeetsMode (p : Listing) (names : List (List ℕ)) (facts : List Fact) (a : Atom) : Type 0 where
  pub text : PredText
  pub modes : List (List ℕ)
  pub mode : List ℕ
  pub line : ℕ
  pub number : ℕ
  pub fact : slice_get facts line ≡ Some (Terminates text modes)
  pub printed : slice_get modes number ≡ Some mode
  pub same : IsOf p names text a
  pub rigid : NamedAreRigid (rigid_in names facts) mode 1 a.args
