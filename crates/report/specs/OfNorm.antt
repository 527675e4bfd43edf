-- To believe, for the command.
-- How the facts of a certificate begin, by the norm that was asked for: with version 1 for term size, and with version
-- 2 and the norm's name for list size.
--
-- To believe: all of this file, over `head_facts`.
use Rattle.std.specs.Prelude.{◌≡◌, List, ◌++◌, Option, None, Some}
use Rattle.cert_structure.specs.Order.{head_facts}
use Rattle.certificate.specs.declared.fact.Fact.{Fact}
use Rattle.certificate.specs.declared.norm.CertNorm.{CertNorm}
use Rattle.certificate.specs.declared.norm.CertNorm.TheVariants as cert
use Rattle.term_size.specs.declared.any_norm.NormName.{NormName}
use Rattle.term_size.specs.declared.any_norm.NormName.TheVariants as name

-- the norm as a certificate names it: not at all where it is term size
abbrev pub certificate_norm : NormName → Option CertNorm
certificate_norm name.Term = None
certificate_norm name.List = Some cert.List

-- the facts begin with those of the norm that was asked for
abbrev pub IsOfNorm : NormName → List Fact → Type 0
IsOfNorm asked facts = (rest : List Fact) × (facts ≡ head_facts (certificate_norm asked) ++ rest)
