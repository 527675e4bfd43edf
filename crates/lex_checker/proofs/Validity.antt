-- A certificate of lists is valid exactly where its only parts hold.
--
-- That the facts have no other parts, and that these do not depend on the partition, are premises here, which the laws
-- of
-- `lex_certificate` give.
use Rattle.std.proofs.Common.{◌≡◌, ◌≢◌, ◌↔◌, ℕ, false, IsTrue, List, sym, subst}
use Rattle.std.specs.List.{AllPairs}
use Rattle.call_components.specs.Partition.{AreComponents, Partition}
use Rattle.cert_structure.specs.Structure.{AreNamed}
use Rattle.cti_terms.specs.Listing.{IsProgram, Listing}
use Rattle.cti_terms.specs.Tree.{truth}
use Rattle.lex_certificate.specs.Structure.{IsStructured}
use Rattle.lex_certificate.specs.declared.fact.LexFact.{LexFact}
use Rattle.lex_certificate.specs.declared.parts.LexParts.{LexParts}
use Rattle.term_size.specs.Occurrences.{size_row}
use Rattle.lex_checker.specs.Valid.{IsValid, PartsHold}
use Rattle.lex_checker.proofs.AnyPartition.{parts_hold}

abbrev pub OneReading : Type 0
OneReading = (p : Listing) (names : List (List ℕ)) (one other : Partition) (facts : List LexFact) (a b : LexParts)
    → IsProgram p → AreNamed names p.preds → AllPairs (λ x y. x ≢ y) names → AreComponents p one → AreComponents p other
    → IsStructured p names one a facts → IsStructured p names other b facts → a ≡ b

abbrev pub OneStructure : Type 0
OneStructure = (p : Listing) (names : List (List ℕ)) (one other : Partition) (parts : LexParts) (facts : List LexFact) → AreComponents p one → AreComponents p other
    → IsStructured p names one parts facts → IsStructured p names other parts facts

-- whatever partition is taken, the only parts of a valid certificate hold
pub only_parts_hold : OneReading → (p : Listing) (names : List (List ℕ)) (facts : List LexFact) → IsProgram p → AreNamed names p.preds → AllPairs (λ x y. x ≢ y) names
    → IsValid p names facts → (comps : Partition) (parts : LexParts) → AreComponents p comps → IsStructured p names comps parts facts → PartsHold truth size_row p comps parts
only_parts_hold one_reading p names facts prog named distinct valid comps parts are structured =
    let same : valid.parts ≡ parts = one_reading p names valid.comps comps facts valid.parts parts prog named distinct valid.components are valid.structured structured in
    subst (PartsHold truth size_row p comps) same (parts_hold truth size_row p valid.comps comps valid.components are valid.parts valid.hold)

module _ (one_structure : OneStructure) (p : Listing) (names : List (List ℕ)) (comps : Partition) (are : AreComponents p comps) (facts : List LexFact) where
  -- the parts of a valid certificate are its parts for this partition
  moved : (valid : IsValid p names facts) → IsStructured p names comps valid.parts facts
  moved valid = one_structure p names valid.comps comps valid.parts facts valid.components are valid.structured

  -- where the facts have these parts and no others, they are valid exactly where these hold
  pub decided : (P : Type 0) (parts : LexParts) → IsStructured p names comps parts facts → ((own : LexParts) → IsStructured p names comps own facts → parts ≡ own)
      → P ↔ PartsHold truth size_row p comps parts → P ↔ IsValid p names facts
  decided P parts structured only decides = (
    λ yes. record { comps = comps; components = are; parts = parts; structured = structured; hold = decides.0 yes },
    λ valid.
        decides.1 (subst (PartsHold truth size_row p comps) (sym (only valid.parts (moved valid))) (parts_hold truth size_row p valid.comps comps valid.components are valid.parts valid.hold)),
  )

  -- and without parts they are not
  pub without_parts : ((own : LexParts) → IsStructured p names comps own facts → ⊥) → IsTrue false ↔ IsValid p names facts
  without_parts none = (λ no. cc, λ valid. absurd (none valid.parts (moved valid)))
