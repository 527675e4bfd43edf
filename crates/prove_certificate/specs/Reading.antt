-- Private.
-- What the text of a certificate of measures with numbers reads as.
--
-- To believe: all of this file, and below it Lines.antt, Text.antt and Range.antt.
use Rattle.std.specs.Prelude.{ℕ, List}
use Rattle.prove_certificate.specs.Lines.{AreFactsOf, IsFirstOther}
use Rattle.prove_certificate.specs.Range.{InRange}
use Rattle.prove_certificate.specs.Text.{fact_text}
use Rattle.prove_certificate.specs.declared.prove_certificate.ProveCertificate.{ProveCertificate}

-- the text is within its limit, and that of this certificate, which is in range
abbrev pub IsTextOf : ProveCertificate → List ℕ → Type 0
IsTextOf c text = AreFactsOf fact_text InRange text c.facts

-- the line of this number, counted from 1, is the first that is not a fact
abbrev pub IsFirstWrong : List ℕ → ℕ → Type 0
IsFirstWrong text number = IsFirstOther fact_text InRange text number
