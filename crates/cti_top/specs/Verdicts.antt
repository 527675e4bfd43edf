-- To believe, for the command.
-- The line that says whether a certificate is valid.
--
-- To believe: all of this file, over the numbers of reasons in cert_checker.
use Rattle.std.specs.Prelude.{ℕ, List, ◌++◌, codes, decimal}
pub use Rattle.cert_checker.specs.Fault.{reason_number}
use Rattle.cert_checker.specs.declared.verdict.Verdict.{Verdict}
use Rattle.cert_checker.specs.declared.verdict.Verdict.TheVariants.{Yes, No}
use Rattle.cti_top.specs.Refusal.{field}

-- the line, with its newline
abbrev pub verdict_line : Verdict → List ℕ
verdict_line Yes = codes "yes.\n"
verdict_line (No line reason) = codes "no(" ++ decimal line ++ field (reason_number reason) ++ codes ").\n"
