-- Private.
-- What a fact says that certificates of mappings have too. Nothing here has to be believed.
use Rattle.cert_structure.specs.SharedFacts.{Shared}
use Rattle.cert_structure.specs.SharedFacts as says
use Rattle.prove_certificate.specs.declared.fact.ProveFact.{ProveFact}
use Rattle.prove_certificate.specs.declared.fact.ProveFact.TheVariants as fact

abbrev pub shared : ProveFact → Shared
shared (fact.Terminates q list) = says.modes q list
shared (fact.Size q index row) = says.row q index row
shared (fact.By clause index scale list) = says.proof clause index scale list
shared (fact.Grounds q index cells) = says.ground q index cells
shared (fact.Pre q list index cells) = says.pre q list index cells
shared (fact.Refuted q groups) = says.refuted q groups
shared _ = says.other
