-- A text is one certificate or is refused, at one line.
use Rattle.std.proofs.Common.{◌≡◌, ℕ, ◌<◌, List, length, sym, ◌∙◌, arith}
use Rattle.certificate.specs.Reading.{IsTextOf, most_bytes}
use Rattle.certificate.specs.declared.certificate.Certificate.{Certificate}
use Rattle.certificate.proofs.TextLemmas.{one_text, one_wrong}
use Rattle.cti_top.specs.Checks.{IsRefusedCertificate}

pub certificate_once : (text : List ℕ) (c d : Certificate) → IsTextOf c text → IsTextOf d text → c ≡ d
certificate_once text c d a b = let same = one_text c.facts d.facts a.in_range b.in_range (sym a.is ∙ b.is) in λ i. record { facts = same i }

pub line_once : (text : List ℕ) (line other : ℕ) → IsRefusedCertificate text line → IsRefusedCertificate text other → line ≡ other
line_once text line other a b = one_wrong text line other a.first b.first

pub certificate_or_refused : (text : List ℕ) (c : Certificate) (line : ℕ) → IsTextOf c text → IsRefusedCertificate text line → ⊥
certificate_or_refused text c line is r = r.none c is

pub neither_long : (text : List ℕ) → most_bytes < length text → ((c : Certificate) → IsTextOf c text → ⊥) × ((line : ℕ) → IsRefusedCertificate text line → ⊥)
neither_long text long = (λ c is. let short = is.short in omega (arith, long, short), λ line r. let short = r.short in omega (arith, long, short))
