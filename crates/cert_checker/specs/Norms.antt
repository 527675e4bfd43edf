-- To believe, for the modes.
-- The norm of a certificate.
--
-- To believe: all of this file.
use Rattle.std.specs.Prelude.{ℕ, List, Option, None, Some}
use Rattle.certificate.specs.declared.norm.CertNorm.{CertNorm}
use Rattle.certificate.specs.declared.norm.CertNorm.TheVariants as norm
use Rattle.term_size.specs.AnyNorm.{dot_among}
use Rattle.term_size.specs.declared.any_norm.AnyNorm.{AnyNorm}
use Rattle.term_size.specs.declared.any_norm.AnyNorm.TheVariants.{Lists, Terms}

-- the norm that a certificate names, by the texts of names: term size, where it names none
abbrev pub norm_in : List (List ℕ) → Option CertNorm → AnyNorm
norm_in names None = Terms (record {})
norm_in names (Some norm.Term) = Terms (record {})
norm_in names (Some norm.List) = Lists (record { dot = dot_among names })
