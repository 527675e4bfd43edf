-- A generated text is a program, for each number of predicates that can be asked for.
use Rattle.std.proofs.Common.{◌≡◌, ℕ, ◌≤◌, List, Some, refl}
use Rattle.report.specs.Generated.{generated}
use Rattle.clause_normal.specs.ChoiceNames.{program_names}
use Rattle.generated_text.specs.Read.{IsRead}
use Rattle.generated_text.proofs.Predicates.{generated_read}
use Rattle.command_words.specs.Words.{gen, asks}
use Rattle.command_words.proofs.GeneratedWords.{few_asked}
use Rattle.cti_top.specs.Queries.{Known}
use Rattle.cti_top.specs.Runs.{IsKnown}

read_known : (bytes : List ℕ) → IsRead bytes → (known : Known) × IsKnown bytes known
read_known bytes r = (
  record { names = program_names r.names r.clauses; program = r.program; table = r.table },
  record { read = r.names; clauses = r.clauses; reads = record { named = r.named; reads = r.reads }; named = refl; normal = r.normal },
)

pub generated_known : (n : ℕ) → n ≤ 300 → (known : Known) × IsKnown (generated n) known
generated_known n few = read_known (generated n) (generated_read n few)

-- what `gen` asks for is a program
pub asked_known : (words : List (List ℕ)) (n : ℕ) → asks words ≡ Some (gen n) → (known : Known) × IsKnown (generated n) known
asked_known words n h = generated_known n (few_asked words n h)
