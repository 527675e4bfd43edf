-- Private.
-- How proofs distinguish sessions. Nothing here has to be believed.
use Rattle.std.specs.Prelude.{List, refl}
use Rattle.std.specs.Coded.{Coded, code_by, coded×, coded_list}
use Rattle.kept_program.specs.PartsCode.{coded_parts}
use Rattle.kept_program.specs.ProgramParts.{ProgramParts}
use Rattle.prolog_terms.specs.Clauses.{Clause}
use Rattle.prolog_terms.specs.Coding.{coded_clause}
use Rattle.edit_texts.specs.Snapshot.{Snapshot}

-- a snapshot is stored as its two fields
abbrev pub coded_snapshot : Coded Snapshot
coded_snapshot = code_by (List Clause × ProgramParts) (coded× (coded_list coded_clause) coded_parts) (λ s. (s.clauses, s.kept)) (λ p. record { clauses = p.0; kept = p.1 }) (λ _. refl)
