-- An assembled certificate of lists is valid and exact.
use Rattle.std.proofs.Common.{◌≡◌, ℕ, List, Ok, Err}
use Rattle.std.specs.Prelude.{IfOk, Result}
use Rattle.call_components.specs.Partition.{AreComponents, Partition}
use Rattle.cti_terms.specs.Listing.{Listing}
use Rattle.lex_certificate.specs.Order.{listed}
use Rattle.lex_certificate.specs.Structure.{IsStructured}
use Rattle.lex_certificate.specs.declared.fact.LexFact.{LexFact}
use Rattle.lex_checker.specs.Valid.{IsValid}
use Rattle.lex_measures.specs.Assembly.{IsAssembled}
use Rattle.lex_measures.specs.Exact.{IsExact}
use Rattle.lex_measures.specs.declared.assembling.Assembled.{Assembled}

pub if_ok : {A E : Type 0} (r : Result A E) (P Q : A → Type 0) → ((x : A) → P x → Q x) → IfOk r P → IfOk r Q
if_ok (Ok x) P Q f h = f x h
if_ok (Err e) P Q f h = tt

module _ (p : Listing) (names : List (List ℕ)) (comps : Partition) (components : AreComponents p comps) (a : Assembled) (is : IsAssembled p names comps a) (facts : List LexFact)
    (same : facts ≡ listed p names a.parts a.notes) where
  abbrev structured : IsStructured p names comps a.parts facts
  structured = record { notes = a.notes; are_notes = is.are_notes; shape = is.shape; is = same }

  pub valid_facts : IsValid p names facts
  valid_facts = record { comps = comps; components = components; parts = a.parts; structured = structured; hold = is.hold }

  pub exact_facts : IsExact p names facts
  exact_facts = record { comps = comps; components = components; parts = a.parts; structured = structured; exact = is.exact }
