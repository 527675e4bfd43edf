-- Private.
-- What contracts see of a session, and when it is right.
--
-- A session has clauses, and what is kept of them: their program, and what makes its certificate.
--
-- To believe: all of this file; edit_texts Snapshot.antt, and what that names; in kept_program ProgramParts.antt, which
-- says what the facts of the certificate are; and in cert_checker and report what makes a certificate valid and exact.
use Rattle.std.specs.Prelude.{ℕ, List}
use Rattle.kept_program.specs.ProgramParts.{certificate_facts}
use Rattle.report.specs.Solution.{IsExactCertificate}
use Rattle.edit_texts.specs.Snapshot.{HasProgram, Snapshot}

-- what is kept of the clauses is right: it makes a certificate of term size that is valid and exact for their program
pub record IsSession (names : List (List ℕ)) (s : Snapshot) : Type 0 where
  pub program : HasProgram names s
  pub certificate : IsExactCertificate s.kept.program names (certificate_facts names s.kept)
