-- Private.
-- The machine over the tokens of a text. Nothing here has to be believed: the laws say that it answers what
-- Reading.antt says.
use Rattle.std.specs.Prelude.{◌≡◌, ℕ, List, [], ◌∷◌, ◌++◌, length, Option, Some, None, Result, Ok, Err, Bool, true, false}
use Rattle.prolog_tokens.specs.Stream.{Lexes}
use Rattle.prolog_tokens.specs.Cursor.{Cursor}
use Rattle.prolog_tokens.specs.declared.token.Token.{Token as TextToken}
use Rattle.prolog_tokens.specs.declared.fault.LexFault.{LexFault}
use Rattle.prolog_grammar.specs.Token.{Token, touches}
use Rattle.prolog_grammar.specs.Fault.{unexpected, deep, Verdict}
use Rattle.prolog_grammar.specs.Placed.{Part, part_tree}
use Rattle.prolog_grammar.specs.Rules.{Rules}
use Rattle.prolog_grammar.specs.Machine.{State, start}
use Rattle.prolog_grammar.specs.Walk.{Next, go_on, stuck, finished, unexpected_here, deep_here, walk_step, walk}
use Rattle.prolog_reader.specs.declared.fault.ReadKind.TheVariants.{Unexpected, Deep}
use Rattle.prolog_reader.specs.declared.clause_reading.Found.{Found}
use Rattle.prolog_reader.specs.declared.clause_reading.Found.TheVariants as found
use Rattle.prolog_terms.specs.Clauses.{Clause}
use Rattle.prolog_terms.specs.Terms.{clause_of}
use Rattle.prolog_reader.specs.Naming.{with_names, name_texts}
use Rattle.prolog_terms.specs.Symbols.{Seen, none_seen, token_of, tokens_of, seen_after}
use Rattle.prolog_operators.specs.Table.{Table}
use Rattle.term_parser.specs.Views.{table_rules}
use Rattle.prolog_reader.specs.Reading.{Fault, fault_at, end_of}
use Rattle.prolog_reader.specs.Words.{known}

-- a term with the variables of its clause and the tokens after it, or a fault
abbrev pub Outcome : Type 0
Outcome = Result (Part × (Seen × List TextToken)) Fault

module _ (names : List (List ℕ)) (text : List ℕ) (fault : Option LexFault) (closing : List Token) (rules : Rules Part) where
  -- what comes of a token
  abbrev pub scanned : Next Part → (State Part → Outcome) → Seen → TextToken → List TextToken → Outcome
  scanned (go_on s) later seen t ts = later s
  scanned stuck later seen t ts = Err (fault_at (length text) fault ts)
  scanned (finished p) later seen t ts = Ok (p, (seen, ts))
  scanned unexpected_here later seen t ts = Err (Unexpected, t.start)
  scanned deep_here later seen t ts = Err (Deep, t.start)

  -- what comes of the end of the text
  abbrev pub scan_end : Seen → Verdict Part → Outcome
  scan_end seen (Ok r) = Ok (r.0, (seen, []))
  scan_end seen (Err (unexpected rest)) = Err (fault_at (length text) fault [])
  scan_end seen (Err (deep rest)) = Err (Deep, length text)

  -- the whole run
  unfoldable pub scan : State Part → Seen → Option TextToken → List TextToken → Outcome
  scan s seen before [] = scan_end seen (walk 1000 rules s closing)
  scan s seen before (t ∷ ts) =
      scanned (walk_step 1000 rules s (token_of names text seen before t) (touches (tokens_of names text (seen_after text seen t) (Some t) ts ++ closing)))
      (λ s'. scan s' (seen_after text seen t) (Some t) ts) (seen_after text seen t) t ts

-- what is fed after the last token
abbrev pub closing_of : Bool → Option LexFault → List Token
closing_of true fault = end_of fault
closing_of false fault = []

-- the clause that a run gives, and where the text goes on
pub record Gives (names : List (List ℕ)) (text : List ℕ) (fault : Option LexFault) (closing : List Token) (table : Table) (ts : List TextToken) (at : Cursor) (c : Clause) : Type 0 where
  pub part : Part
  pub seen : Seen
  pub rest : List TextToken
  pub runs : scan names text fault closing (table_rules table (known names)) start none_seen None ts ≡ Ok (part, (seen, rest))
  pub later : Lexes at rest fault
  pub is : c ≡ record { term = part_tree part; vars = seen.count }

-- what a run finds
abbrev pub Finds : List (List ℕ) → List ℕ → Option LexFault → List Token → Table → List TextToken → Cursor → Found → Type 0
Finds names text fault closing table ts at (found.Clause c) = Gives names text fault closing table ts at (clause_of c)
Finds names text fault closing table ts at (found.Refused kind place) =
    scan names text fault closing (table_rules table (known names)) start none_seen None ts ≡ Err (kind, place)

-- the fault is that of the place where nothing more is expected
abbrev pub IsNextFault : ℕ → Option LexFault → List TextToken → Found → Type 0
IsNextFault size fault ts (found.Clause c) = ⊥
IsNextFault size fault ts (found.Refused kind place) = fault_at size fault ts ≡ (kind, place)

-- what is found where the text ends, by what its last tokens come to
abbrev pub Closes : Verdict Part → ℕ → ℕ → Found → Type 0
Closes (Ok r) vars at (found.Clause c) = clause_of c ≡ record { term = part_tree r.0; vars = vars }
Closes (Err (unexpected rest)) vars at (found.Refused kind place) = (kind ≡ Unexpected) × (place ≡ at)
Closes (Err (deep rest)) vars at (found.Refused kind place) = (kind ≡ Deep) × (place ≡ at)
Closes _ vars at _ = ⊥

-- where the text goes on after a clause that is read
abbrev pub GoesOn : Found → Cursor → List TextToken → Option LexFault → Type 0
GoesOn (found.Clause c) at rest fault = Lexes at rest fault
GoesOn (found.Refused kind place) at rest fault = Unit {0}

-- what these tokens name is put to the names, but for the rest of them
pub record Names (text : List ℕ) (before after : List (List ℕ)) (ts : List TextToken) (fault : Option LexFault) (at : Cursor) (found : Found) : Type 0 where
  pub rest : List TextToken
  pub same : with_names before (name_texts text ts) ≡ with_names after (name_texts text rest)
  pub later : GoesOn found at rest fault
