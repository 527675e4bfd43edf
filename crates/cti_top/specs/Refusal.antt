-- To believe, for reading.
-- The line that says why a text was refused.
--
-- To believe: all of this file.
use Rattle.std.specs.Prelude.{ℕ, List, ◌++◌, codes, decimal}
use Rattle.prolog_reader.specs.declared.fault.ReadKind.{ReadKind}
use Rattle.prolog_reader.specs.declared.fault.ReadKind.TheVariants as reading
use Rattle.prolog_tokens.specs.declared.fault.LexKind.{LexKind}
use Rattle.prolog_tokens.specs.declared.fault.LexKind.TheVariants as lexical
use Rattle.clause_normal.specs.declared.fault.NormKind.{NormKind}
use Rattle.clause_normal.specs.declared.fault.NormKind.TheVariants as normal
use Rattle.cti_top.specs.declared.refusal.Subject.{Subject}
use Rattle.cti_top.specs.declared.refusal.Subject.TheVariants.{Program, Certificate, Query}

-- the word for what was refused
abbrev pub subject_name : Subject → List ℕ
subject_name Program = codes "program"
subject_name Certificate = codes "certificate"
subject_name Query = codes "query"

-- the number of a lexical fault's kind
abbrev pub lexical_number : LexKind → ℕ
lexical_number lexical.BadByte = 1
lexical_number lexical.Unclosed = 2
lexical_number lexical.BadEscape = 3
lexical_number lexical.Float = 4
lexical_number lexical.WideNumber = 5

-- the number of the kind of a fault in reading
abbrev pub read_number : ReadKind → ℕ
read_number (reading.Lex kind) = lexical_number kind
read_number reading.Unexpected = 6
read_number reading.Deep = 7
read_number reading.Long = 8
read_number reading.BadOp = 14

-- the number of the kind of a fault of the normal form
abbrev pub normal_number : NormKind → ℕ
normal_number normal.Arity = 9
normal_number normal.ManyVariables = 10
normal_number normal.NotPure = 11
normal_number normal.BadHead = 12
normal_number normal.Directive = 13
normal_number normal.ManyClauses = 15

-- a comma and a number
abbrev pub field : ℕ → List ℕ
field n = codes "," ++ decimal n

-- the line, with its newline
abbrev pub refusal_line : Subject → ℕ → ℕ → ℕ → List ℕ
refusal_line subject line column kind = codes "refused(" ++ subject_name subject ++ field line ++ field column ++ field kind ++ codes ").\n"
