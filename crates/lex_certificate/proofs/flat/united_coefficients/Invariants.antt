use Rattle.std.proofs.Common.{◌≡◌, length}
use Rattle.lex_certificate.specs.Flat.{united_coefficients}
use Rattle.lex_certificate.proofs.FlatLemmas.{united_from}
use Rattle.lex_certificate.proofs.flat.united_coefficients.Given as goal

-- the measures so far are united, and what is left stands before them
abbrev pub invariant-loop-last : goal.invariant-loop-last
invariant-loop-last l = united_from l.rest l.coeffs ≡ united_coefficients l.measures

abbrev pub decreases-loop-last : goal.decreases-loop-last
decreases-loop-last l = length l.rest
