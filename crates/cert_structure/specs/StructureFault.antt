-- To believe, for the command.
-- The first fault in the structure of a certificate: the fact that is wrong, missing or out of place, and what is wrong
-- with it.
--
-- To believe: all of this file, and below it Structure.antt. Lines are counted from 1.
use Rattle.std.specs.Prelude.{◌≡◌, ℕ, suc, ◌≤◌, ℤ, List, [], ◌∷◌, ◌++◌, length, Option, Some}
use Rattle.call_components.specs.Partition.{Partition}
use Rattle.certificate.specs.declared.cell.CertCell.{CertCell}
use Rattle.certificate.specs.declared.norm.CertNorm.{CertNorm}
use Rattle.certificate.specs.declared.pred_text.PredText.{PredText}
use Rattle.certificate.specs.declared.fact.Fact.{Fact}
use Rattle.certificate.specs.declared.fact.Fact.TheVariants as fact
use Rattle.cti_terms.specs.Listing.{Listing}
use Rattle.number_tests.specs.declared.refutation.Refutation.{Refutation}
use Rattle.cert_structure.specs.declared.fault.PartsFault.{PartsFault}
use Rattle.cert_structure.specs.declared.fault.PartsFault.TheVariants as fault
use Rattle.fact_reading.specs.declared.stop.StructureReason.{StructureReason}
use Rattle.fact_reading.specs.declared.stop.StructureReason.TheVariants as reason
use Rattle.cert_structure.specs.declared.parts.Parts.{Parts}
use Rattle.fact_reading.specs.Numbered.{facts_from}
use Rattle.cert_structure.specs.Order.{pred_text, point_facts, listed}
use Rattle.cert_structure.specs.Shape.{HaveShape}
use Rattle.cert_structure.specs.Structure.{AreNotes, IsStructured}

-- two facts of one place: they are of one kind and of the same predicate, clause, call, mapping and row, and differ at
-- most in what they say of it
pub data HaveOnePlace : Fact → Fact → Type 0 where
  itself : {f : Fact} → HaveOnePlace f f
  version : {v w : ℤ} → HaveOnePlace (fact.Cti v) (fact.Cti w)
  norm : {m n : CertNorm} → HaveOnePlace (fact.Norm m) (fact.Norm n)
  modes : {q : PredText} {xs ys : List (List ℕ)} → HaveOnePlace (fact.Terminates q xs) (fact.Terminates q ys)
  row : {q : PredText} {i : ℕ} {xs ys : List ℤ} → HaveOnePlace (fact.Size q i xs) (fact.Size q i ys)
  proof : {k i : ℕ} {s t : ℤ} {xs ys : List ℤ} → HaveOnePlace (fact.By k i s xs) (fact.By k i t ys)
  grounds : {q : PredText} {i : ℕ} {xs ys : List CertCell} → HaveOnePlace (fact.Grounds q i xs) (fact.Grounds q i ys)
  level : {q : PredText} {m : ℕ} {xs ys : List ℤ} {s t : ℤ} → HaveOnePlace (fact.Measure q m xs s) (fact.Measure q m ys t)
  fall : {k j m : ℕ} {s t : ℤ} {xs ys : List ℤ} → HaveOnePlace (fact.Falls k j m s xs) (fact.Falls k j m t ys)
  pre : {q : PredText} {m i : ℕ} {xs ys : List CertCell} → HaveOnePlace (fact.Pre q m i xs) (fact.Pre q m i ys)
  refuted : {q : PredText} {m n : ℕ} → HaveOnePlace (fact.Refuted q m) (fact.Refuted q n)
  point : {k j : ℕ} {s t : ℤ} {xs ys : List ℤ} → HaveOnePlace (fact.Point k j s xs) (fact.Point k j t ys)
  second : {k j : ℕ} {s t : ℤ} {xs ys : List ℤ} → HaveOnePlace (fact.At k j s xs) (fact.At k j t ys)

-- what is wrong with a fact whose place is right
abbrev pub content_fault : Fact → StructureReason
content_fault (fact.Cti v) = reason.Version
content_fault _ = reason.Shape

-- the facts of parts up to a refutation that follows those before it, and claims `count` pairs
abbrev pub claimed : Listing → List (List ℕ) → Parts → List (Option Refutation) → Refutation → ℕ → List Fact
claimed p names parts before r count =
    listed p names (record parts { refutations = before }) (fact.Refuted (pred_text p names (length before)) count ∷ facts_from 0 (λ _ x. point_facts x) r.points)

module _ (p : Listing) (names : List (List ℕ)) (comps : Partition) where
  -- the facts begin those of parts of the right shape; the last refutation may claim more pairs than are listed
  pub data IsBeginning (facts : List Fact) : Type 0 where
    whole : (parts : Parts) (notes rest : List Fact) → HaveShape p comps parts → AreNotes notes → facts ++ rest ≡ listed p names parts notes → IsBeginning facts
    short : (parts : Parts) (before later : List (Option Refutation)) (r : Refutation) (count : ℕ) (rest : List Fact) → HaveShape p comps parts
        → parts.refutations ≡ before ++ Some r ∷ later → length r.points ≤ count → facts ++ rest ≡ claimed p names parts before r count → IsBeginning facts

  -- the facts before this line begin those of some parts, and with the fact of the line they do not, for this reason
  pub data IsStructureFault (facts : List Fact) : ℕ → StructureReason → Type 0 where
    -- another fact must come
    missing : IsBeginning facts → ((parts : Parts) → ¬ IsStructured p names comps parts facts) → IsStructureFault facts (suc (length facts)) reason.Missing
    -- no fact of its place may stand here
    extra : (before after : List Fact) (f : Fact) → facts ≡ before ++ f ∷ after → IsBeginning before
        → ((g : Fact) → HaveOnePlace f g → ¬ IsBeginning (before ++ g ∷ [])) → IsStructureFault facts (suc (length before)) reason.Extra
    -- another fact of its place may stand here
    content : (before after : List Fact) (f g : Fact) → facts ≡ before ++ f ∷ after → ¬ IsBeginning (before ++ f ∷ [])
        → HaveOnePlace f g → IsBeginning (before ++ g ∷ []) → IsStructureFault facts (suc (length before)) (content_fault f)

  -- the answer names such a line, or memory ran out
  abbrev pub IsFirstWrong : List Fact → PartsFault → Type 0
  IsFirstWrong facts (fault.Wrong line why) = IsStructureFault facts line why
  IsFirstWrong facts fault.Memory = Unit {0}
