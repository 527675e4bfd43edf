-- To believe, for reading.
-- What a text reads as, or its first fault; and the same of a query.
--
-- Names are their numbers in a list of names. The list has to have the names of the text and of the operators: the
-- calls put them there.
--
-- A text is read clause by clause. From the tokens that are left, the grammar reads the first clause by the operators
-- in force, up to its End, or finds the first fault; `IsVerdict` of prolog_grammar says which. A lexical fault stands
-- after the last token: it counts where the clause's tokens before it can go on. A clause `:- op(..)` changes the
-- operators for the clauses after it.
--
-- To believe: all of this file, and below it Symbols.antt, Directive.antt, Table.antt; the tokens of a text, `Lexes` of
-- prolog_tokens; and `IsVerdict` of prolog_grammar.
-- Source: ISO/IEC 13211-1:1995, 6.2 (texts), in this project's profile.
use Rattle.std.specs.Prelude.{◌≡◌, ℕ, ◌-◌, ◌<◌, ◌≤◌, List, [], ◌∷◌, ◌++◌, length, take, drop, Option, Some, None, Result, Ok, Err}
use Rattle.prolog_tokens.specs.Stream.{Lexes}
use Rattle.prolog_tokens.specs.declared.token.Token.{Token as TextToken}
use Rattle.prolog_tokens.specs.declared.fault.LexFault.{LexFault}
use Rattle.prolog_grammar.specs.Token.{Token, End}
use Rattle.prolog_grammar.specs.Fault.{ReadFault as ClauseFault, unexpected, deep, Verdict}
use Rattle.prolog_grammar.specs.Placed.{Part, part_tree}
use Rattle.prolog_grammar.specs.Reading.{IsVerdict}
use Rattle.prolog_reader.specs.declared.fault.ReadKind.{ReadKind}
use Rattle.prolog_reader.specs.declared.fault.ReadKind.TheVariants.{Lex, Unexpected, Deep, Long, BadOp}
use Rattle.prolog_reader.specs.Limits.{most_bytes}
use Rattle.prolog_terms.specs.Clauses.{Clause}
use Rattle.prolog_terms.specs.Symbols.{none_seen, tokens_of, seen_after_all}
use Rattle.prolog_operators.specs.Table.{Table, standard}
use Rattle.prolog_reader.specs.Words.{known, words_of}
use Rattle.prolog_reader.specs.Directive.{sets, refuses, effect}

-- a fault and its place
abbrev pub Fault : Type 0
Fault = ReadKind × ℕ

-- the clauses of a text and the operators after the last one, or the first fault
abbrev pub Answer : Type 0
Answer = Result (List Clause × Table) Fault

-- where nothing more is expected: the first of these tokens, or a lexical fault after the last token, or the end of the
-- text
abbrev pub fault_at : ℕ → Option LexFault → List TextToken → Fault
fault_at size fault (t ∷ ts) = (Unexpected, t.start)
fault_at size (Some f) [] = (Lex f.kind, f.at)
fault_at size None [] = (Unexpected, size)

-- the place of the first of these tokens
abbrev pub place_at : ℕ → List TextToken → ℕ
place_at size (t ∷ ts) = t.start
place_at size [] = size

-- how many of the tokens stand before the rest of them
abbrev pub before_rest : List Token → List Token → ℕ
before_rest us rest = length us - length rest

-- the clause of a term that this number of the tokens read as
abbrev pub clause_at : List ℕ → List TextToken → ℕ → Part → Clause
clause_at text ts n part = record { term = part_tree part; vars = (seen_after_all text none_seen (take n ts)).count }

-- the fault of a clause whose tokens these are
abbrev pub clause_fault : ℕ → Option LexFault → List TextToken → List Token → ClauseFault → Fault
clause_fault size fault ts us (unexpected rest) = fault_at size fault (drop (before_rest us rest) ts)
clause_fault size fault ts us (deep rest) = (Deep, place_at size (drop (before_rest us rest) ts))

-- one clause in front of the others
abbrev pub with_clause : Clause → Answer → Answer
with_clause c (Ok r) = Ok (c ∷ r.0, r.1)
with_clause c (Err e) = Err e

-- there is something left to read
abbrev pub IsLeft : List TextToken → Option LexFault → Type 0
IsLeft [] None = ⊥
IsLeft _ _ = Unit {0}

-- what is fed after the last token of a query: an End, where no lexical fault stands there
abbrev pub end_of : Option LexFault → List Token
end_of (Some f) = []
end_of None = End ∷ []

-- a clause that nothing may follow
abbrev pub if_nothing_left : List TextToken → Option LexFault → Clause → Fault → Result Clause Fault
if_nothing_left [] None c f = Ok c
if_nothing_left _ _ c f = Err f

module _ (names : List (List ℕ)) (text : List ℕ) (fault : Option LexFault) where
  -- the tokens as the grammar sees them, from the first one of a clause on
  abbrev pub clause_tokens : List TextToken → List Token
  clause_tokens ts = tokens_of names text none_seen None ts

  -- what these tokens read as, by these operators
  abbrev pub ReadsBy : Table → List Token → Verdict Part → Type 0
  ReadsBy table us verdict = IsVerdict 1000 table.infixes table.prefixes (known names) us verdict

  -- The answer for the tokens that are left, with these operators in force.
  pub data Answers : Table → List TextToken → Answer → Type 0 where
    all_read : {table : Table} → fault ≡ None → Answers table [] (Ok ([], table))
    -- a clause that is refused
    stops : {table : Table} {ts : List TextToken} {answer : Answer} (f : ClauseFault)
        → IsLeft ts fault → ReadsBy table (clause_tokens ts) (Err f)
        → answer ≡ Err (clause_fault (length text) fault ts (clause_tokens ts) f) → Answers table ts answer
    -- an `op` clause that is read and sets no operators
    bad_operator : {table : Table} {ts : List TextToken} {answer : Answer} (part : Part) (rest : List Token)
        → ReadsBy table (clause_tokens ts) (Ok (part, rest)) → effect (words_of names) table (part_tree part) ≡ refuses
        → answer ≡ Err (BadOp, part.at) → Answers table ts answer
    -- a clause that is read, and what its operators make of the others
    one_more : {table : Table} {ts : List TextToken} {answer : Answer} (table' : Table) (part : Part) (rest : List Token) (others : Answer)
        → ReadsBy table (clause_tokens ts) (Ok (part, rest)) → effect (words_of names) table (part_tree part) ≡ sets table'
        → Answers table' (drop (before_rest (clause_tokens ts) rest) ts) others
        → answer ≡ with_clause (clause_at text ts (before_rest (clause_tokens ts) rest) part) others → Answers table ts answer

  -- the tokens of a query, with what is fed after the last one
  abbrev pub query_tokens : List TextToken → List Token
  query_tokens ts = clause_tokens ts ++ end_of fault

  -- the answer for what a query's tokens read as
  abbrev pub query_answer : List TextToken → Verdict Part → Result Clause Fault
  query_answer ts (Err f) = Err (clause_fault (length text) fault ts (query_tokens ts) f)
  query_answer ts (Ok r) =
      if_nothing_left (drop (before_rest (query_tokens ts) r.1) ts) fault (clause_at text ts (before_rest (query_tokens ts) r.1) r.0)
      (fault_at (length text) fault (drop (before_rest (query_tokens ts) r.1) ts))

-- a text that is read, or its first fault
pub data IsTextAnswer (names : List (List ℕ)) (text : List ℕ) (answer : Answer) : Type 0 where
  too_long : most_bytes < length text → answer ≡ Err (Long, 0) → IsTextAnswer names text answer
  by_clauses : (tokens : List TextToken) (fault : Option LexFault) → length text ≤ most_bytes → Lexes (record { text = text; at = 0 }) tokens fault
      → Answers names text fault (standard names) tokens answer → IsTextAnswer names text answer

-- a query that is read by these operators, or its first fault
pub data IsQueryAnswer (names : List (List ℕ)) (table : Table) (text : List ℕ) (answer : Result Clause Fault) : Type 0 where
  too_long_query : most_bytes < length text → answer ≡ Err (Long, 0) → IsQueryAnswer names table text answer
  by_tokens : (tokens : List TextToken) (fault : Option LexFault) (verdict : Verdict Part) → length text ≤ most_bytes → Lexes (record { text = text; at = 0 }) tokens fault
      → ReadsBy names text fault table (query_tokens names text fault tokens) verdict
      → answer ≡ query_answer names text fault tokens verdict → IsQueryAnswer names table text answer
