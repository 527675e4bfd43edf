-- To believe, for the command.
-- What the text of a certificate reads as.
--
-- To believe: `IsTextOf`, and below it Text.antt and Range.antt.
use Rattle.std.specs.Prelude.{◌≡◌, ℕ, ◌≤◌, List, length}
use Rattle.certificate.specs.declared.certificate.Certificate.{Certificate}
use Rattle.certificate.specs.Range.{AreInRange}
use Rattle.certificate.specs.Text.{text_of}

-- the most bytes of a certificate that is read
abbrev pub most_bytes : ℕ
most_bytes = 16777216

-- the text is within its limit, and that of this certificate, which is in range
pub record IsTextOf (c : Certificate) (text : List ℕ) : Type 0 where
  pub short : length text ≤ most_bytes
  pub in_range : AreInRange c.facts
  pub is : text ≡ text_of c.facts
