-- To believe, for the command.
-- What is printed for a generated program: how many predicates, clauses and modes there are, by term size.
--
-- To believe: all of this file, over what is printed for a program's bytes.
use Rattle.std.specs.Prelude.{◌≡◌, ℕ, List, ◌++◌, length, codes, decimal}
use Rattle.std.specs.List.{sum_by}
use Rattle.certificate.specs.declared.fact.Fact.{Fact}
use Rattle.certificate.specs.declared.fact.Fact.TheVariants as fact
use Rattle.term_size.specs.declared.any_norm.NormName.TheVariants as norm
use Rattle.cti_top.specs.Inferred.{IsInferred}
use Rattle.cti_top.specs.Refusal.{field}

-- how many modes a fact prints
abbrev pub modes_in : Fact → ℕ
modes_in (fact.Terminates pred modes) = length modes
modes_in other = 0

-- how many modes facts print
abbrev pub mode_count : List Fact → ℕ
mode_count facts = sum_by modes_in facts

-- the line, with its newline
abbrev pub summary_line : ℕ → ℕ → ℕ → List ℕ
summary_line n clauses modes = codes "generated(" ++ decimal n ++ field clauses ++ field modes ++ codes ").\n"

-- the text sums up the certificate that is printed for a program's bytes, where there are n predicates
pub record IsSummary (bytes : List ℕ) (n : ℕ) (text : List ℕ) : Type 0 where
  pub certificate : List ℕ
  pub inferred : IsInferred norm.Term bytes certificate
  pub printed : text ≡ summary_line n (length inferred.program.clauses) (mode_count inferred.facts)
