-- Private.
-- What a fact says, where certificates of mappings and of lists of mappings both have such facts. Nothing here has to
-- be believed.
use Rattle.std.specs.Prelude.{ℕ, ℤ, List}
use Rattle.certificate.specs.declared.cell.CertCell.{CertCell}
use Rattle.certificate.specs.declared.fact.Fact.{Fact}
use Rattle.certificate.specs.declared.fact.Fact.TheVariants as fact
use Rattle.certificate.specs.declared.pred_text.PredText.{PredText}
use Rattle.cert_structure.specs.declared.shared_fact.SharedFact.{SharedFact}
use Rattle.cert_structure.specs.declared.shared_fact.SharedFact.TheVariants as seen

-- a fact of another kind says nothing here
pub data Shared : Type 0 where
  modes : PredText → List (List ℕ) → Shared
  row : PredText → ℕ → List ℤ → Shared
  proof : ℕ → ℕ → ℤ → List ℤ → Shared
  ground : PredText → ℕ → List CertCell → Shared
  pre : PredText → ℕ → ℕ → List CertCell → Shared
  refuted : PredText → ℕ → Shared
  other : Shared

-- the same of the code
abbrev pub shared_of : SharedFact → Shared
shared_of (seen.Terminates pred list) = modes pred.now list.now
shared_of (seen.Size pred index list) = row pred.now index list.now
shared_of (seen.By clause index scale list) = proof clause index scale list.now
shared_of (seen.Grounds pred index cells) = ground pred.now index cells.now
shared_of (seen.Pre pred mapping index cells) = pre pred.now mapping index cells.now
shared_of (seen.Refuted pred points) = refuted pred.now points
shared_of seen.Other = other

abbrev pub shared : Fact → Shared
shared (fact.Terminates q list) = modes q list
shared (fact.Size q index list) = row q index list
shared (fact.By clause index scale list) = proof clause index scale list
shared (fact.Grounds q index cells) = ground q index cells
shared (fact.Pre q mapping index cells) = pre q mapping index cells
shared (fact.Refuted q points) = refuted q points
shared _ = other
