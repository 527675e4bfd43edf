-- Private.
-- How far the reading of a clause is, and what each of its parts promises. Nothing here has to be believed.
use Rattle.std.specs.Prelude.{◌≡◌, ◌≤◌, ◌<◌, ◌+◌, ◌*◌, ◌^◌, ◌-◌, Bool, ℕ, List, [], ◌∷◌, length, drop, Option, Some, None, IfSome}
use Rattle.prolog_tokens.specs.Bytes.{begins_with}
use Rattle.prolog_tokens.specs.Cursor.{Cursor}
use Rattle.prolog_tokens.specs.Stream.{Lexes}
use Rattle.prolog_tokens.specs.Decoding.{IsTokenOf}
use Rattle.prolog_tokens.specs.declared.token.Token.{Token as TextToken}
use Rattle.prolog_tokens.specs.declared.fault.LexFault.{LexFault}
use Rattle.prolog_grammar.specs.Token.{Token}
use Rattle.prolog_grammar.specs.Machine.{State, start}
use Rattle.prolog_grammar.specs.Placed.{Part, Known}
use Rattle.prolog_grammar.specs.Rules.{Rules}
use Rattle.prolog_grammar.specs.Run.{height}
use Rattle.prolog_grammar.specs.Walk.{Next, walk_step, walk}
use Rattle.prolog_reader.specs.declared.clause_reading.ClauseReader.{ClauseReader}
use Rattle.prolog_reader.specs.declared.clause_reading.Found.{Found}
use Rattle.prolog_reader.specs.declared.clause_reading.Found.TheVariants as found
use Rattle.prolog_reader.specs.declared.fault.ReadKind.{ReadKind}
use Rattle.prolog_reader.specs.declared.fault.ReadKind.TheVariants.{Unexpected, Deep}
use Rattle.term_parser.specs.declared.part.Part.{Part as CodePart}
use Rattle.term_parser.specs.declared.state.State.{State as CodeState}
use Rattle.term_parser.specs.declared.state.Refusal.{Refusal}
use Rattle.term_parser.specs.declared.state.Refusal.TheVariants as refusal
use Rattle.term_parser.specs.declared.state.Step.{Step}
use Rattle.prolog_reader.specs.FoundFit.{AreWithin, IsFoundFit}
use Rattle.prolog_reader.specs.Knowing.{AreKnown}
use Rattle.prolog_reader.specs.Limits.{most_bytes}
use Rattle.term_parser.specs.Limits.{most_openers}
use Rattle.prolog_operators.specs.Meanings.{table_of}
use Rattle.prolog_reader.specs.Measures.{IsStateFine, IsNextFine, IsTokenFine, NextWithin, state_nodes}
use Rattle.prolog_operators.specs.Names.{Extends}
use Rattle.prolog_reader.specs.Naming.{with_names, token_texts, name_texts}
use Rattle.prolog_terms.specs.Numbering.{seen_of, AreNumbered}
use Rattle.term_parser.specs.Parsing.{rules, frames, IsIn}
use Rattle.prolog_reader.specs.Ranges.{IsWithin}
use Rattle.prolog_reader.specs.Scan.{scanned, scan, closing_of, Finds, IsNextFault, Closes, Names as ReadNames}
use Rattle.prolog_terms.specs.Symbols.{Seen, none_seen, token_of, seen_after}
use Rattle.prolog_operators.specs.Table.{Table}
use Rattle.term_parser.specs.Views.{known_of, state_of, step_of, IsCounted, FitsStep}

-- what a reader reads, the operators and names by which it does, and the variables so far
abbrev pub text_of : ClauseReader → List ℕ
text_of r = r.text.now

abbrev pub table : ClauseReader → Table
table r = table_of r.parser.ops.now

abbrev pub known : ClauseReader → Known
known r = known_of r.parser.names

abbrev pub seen : ClauseReader → Seen
seen r = seen_of r.variables

-- what stays the same while a clause is read
pub record IsSame (old new : ClauseReader) : Type 0 where
  pub text : new.text.now ≡ old.text.now
  pub ops : new.parser.ops.now ≡ old.parser.ops.now
  pub names : new.parser.names ≡ old.parser.names
  pub is_query : new.is_query ≡ old.is_query

-- where the reading of a clause began: the lexer after the first token, the names, and the reader with the first token
-- at hand
pub record Start : Type 0 where
  pub lexer : Cursor
  pub names : List (List ℕ)
  pub reader : ClauseReader

abbrev pub start_of : Cursor → List (List ℕ) → ClauseReader → Start
start_of lexer names reader = record { lexer = lexer; names = names; reader = reader }

-- a clause can be read from there
pub record Begins (lexer : Cursor) (names : List (List ℕ)) (r : ClauseReader) : Type 0 where
  pub short : length (text_of r) ≤ most_bytes
  pub same : lexer.text ≡ text_of r
  pub behind : lexer.at ≡ r.token.end
  pub given : IsTokenOf (text_of r) r.token
  pub within : IsWithin (text_of r) r.token
  pub known : AreKnown names r.parser.names
  pub room : length names + length (text_of r) ≤ 4294967000 + r.token.start
  pub empty : frames r.parser ≡ []
  pub counted : IsCounted r.parser.stack
  pub first : r.before ≡ None
  pub none : seen r ≡ none_seen
  pub numbered : AreNumbered r.variables

-- a token can be taken
pub record IsReady (names : List (List ℕ)) (state : CodeState) (r : ClauseReader) : Type 0 where
  pub given : IsTokenOf (text_of r) r.token
  pub within : IsWithin (text_of r) r.token
  pub within_before : IfSome r.before (λ b. IsWithin (text_of r) b)
  pub room : length names < 2 ^ 32 - 1
  pub numbered : AreNumbered r.variables
  pub few : (seen r).count < 2 ^ 32 - 1
  pub fits : IsIn state r.parser

-- the names with at most one more
abbrev pub AreNamed : List (List ℕ) → List (List ℕ) → Type 0
AreNamed names names' = Extends names names' × (length names' ≤ length names + 1)

-- a token was taken: the step goes where the machine goes with the token as the grammar sees it
pub record IsTaken (names names' : List (List ℕ)) (state : CodeState) (old new : ClauseReader) (step : Step) : Type 0 where
  pub symbol : Token
  pub is : (later : List (List ℕ)) → Extends names' later → symbol ≡ token_of later (text_of old) (seen old) old.before old.token
  pub moves : step_of step (frames new.parser)
      ≡ walk_step most_openers (rules old.parser) (state_of state (frames old.parser)) symbol (begins_with 40 (drop old.token.end (text_of old)))
  pub fine : IsTokenFine (length names') (seen new).count symbol
  pub counted : IsCounted new.parser.stack
  pub fits : FitsStep step (height (frames new.parser))
  pub same : IsSame old new
  pub token : new.token ≡ old.token
  pub after : seen new ≡ seen_after (text_of old) (seen old) old.token
  pub numbered : AreNumbered new.variables
  pub added : names' ≡ with_names names (token_texts (text_of old) old.token)

-- the next token is at hand
abbrev pub advanced : ClauseReader → TextToken → ClauseReader
advanced r t = record { text = r.text; parser = r.parser; variables = r.variables; before = Some r.token; token = t; is_query = r.is_query }

-- what is found is the clause with this term
abbrev pub IsClause : ClauseReader → CodePart → Found → Type 0
IsClause r part (found.Clause c) = (c.term ≡ part.term) × (c.vars ≡ (seen r).count)
IsClause r part (found.Refused kind at) = ⊥

-- what is found is the fault of the token at hand, which is refused, or of the place after it
abbrev pub IsRefusal : ClauseReader → Refusal → Cursor → Found → Type 0
IsRefusal r refusal.Unexpected here f = f ≡ found.Refused Unexpected r.token.start
IsRefusal r refusal.NextUnexpected here f = (ts : List TextToken) (fault : Option LexFault) → Lexes here ts fault → IsNextFault (length (text_of r)) fault ts f
IsRefusal r refusal.Deep here f = f ≡ found.Refused Deep r.token.start

-- the kind of the fault where a query's end is refused
abbrev pub end_kind : Refusal → ReadKind
end_kind refusal.Unexpected = Unexpected
end_kind refusal.NextUnexpected = Unexpected
end_kind refusal.Deep = Deep

-- what is found where the text ends in a state
pub record IsEnd (state : CodeState) (r : ClauseReader) (f : Found) : Type 0 where
  pub closes : Closes (walk most_openers (rules r.parser) (state_of state (frames r.parser)) (closing_of r.is_query None)) (seen r).count (length (text_of r)) f
  pub fit : (count before after : ℕ) → AreWithin count (known r) → IsStateFine count (seen r).count (state_of state (frames r.parser))
      → state_nodes (state_of state (frames r.parser)) + 1 + before ≤ after → IsFoundFit count before after f

-- what is found is what the tokens from the start read as, by the names now and with the lexer here
pub record IsFound (b : Start) (names : List (List ℕ)) (here : Cursor) (f : Found) : Type 0 where
  pub found : (later : List (List ℕ)) (ts : List TextToken) (fault : Option LexFault) → Extends names later → Lexes b.lexer ts fault
      → Finds later (text_of b.reader) fault (closing_of b.reader.is_query fault) (table b.reader) (b.reader.token ∷ ts) here f
  pub added : (ts : List TextToken) (fault : Option LexFault) → Lexes b.lexer ts fault
      → ReadNames (text_of b.reader) b.names names (b.reader.token ∷ ts) fault here f
  pub fit : (count : ℕ) → length names ≤ count → IsFoundFit count (2 * b.reader.token.start) (2 * here.at) f

-- the lexer has moved on, and each new name took a byte
pub record IsMoved (b : Start) (names : List (List ℕ)) (here : Cursor) : Type 0 where
  pub same : here.text ≡ text_of b.reader
  pub on : (b.lexer.at ≤ here.at) × (here.at ≤ length (text_of b.reader))
  pub kept : Extends b.names names
  pub few : length names + b.reader.token.start ≤ length b.names + here.at

-- how a run stands before a token: from the start it comes to the same as from here
pub record Running (text : List ℕ) (names : List (List ℕ)) (query : Bool) (rules : Rules Part) (there here : Cursor) (first : TextToken) (s : State Part) (seen : Seen)
    (before : Option TextToken) (token : TextToken) : Type 0 where
  pub each : (later : List (List ℕ)) (ts0 : List TextToken) (fault : Option LexFault) → Extends names later → Lexes there ts0 fault
      → (ts : List TextToken) × Lexes here ts fault
      × (scan later text fault (closing_of query fault) rules start none_seen None (first ∷ ts0) ≡ scan later text fault (closing_of query fault) rules s seen before (token ∷ ts))

-- and how it stands once the token is taken
pub record Taken (text : List ℕ) (names : List (List ℕ)) (query : Bool) (rules : Rules Part) (there here : Cursor) (first : TextToken) (n : Next Part) (seen : Seen)
    (token : TextToken) : Type 0 where
  pub each : (later : List (List ℕ)) (ts0 : List TextToken) (fault : Option LexFault) → Extends names later → Lexes there ts0 fault
      → (ts : List TextToken) × Lexes here ts fault
      × (scan later text fault (closing_of query fault) rules start none_seen None (first ∷ ts0)
      ≡ scanned later text fault (closing_of query fault) rules n (λ s'. scan later text fault (closing_of query fault) rules s' seen (Some token) ts) seen token ts)

-- how the names stand before a token: what the tokens from the start name comes to the same as what those from here do
pub record Naming (text : List ℕ) (before names : List (List ℕ)) (there here : Cursor) (first token : TextToken) : Type 0 where
  pub each : (ts0 : List TextToken) (fault : Option LexFault) → Lexes there ts0 fault
      → (ts : List TextToken) × Lexes here ts fault × (with_names before (name_texts text (first ∷ ts0)) ≡ with_names names (name_texts text (token ∷ ts)))

-- a reader before its token at hand: each name and variable so far took a byte, and each node half of one
pub record IsBefore (b : Start) (names : List (List ℕ)) (here : Cursor) (state : CodeState) (r : ClauseReader) : Type 0 where
  pub running : Running (text_of b.reader) names b.reader.is_query (rules b.reader.parser) b.lexer here b.reader.token (state_of state (frames r.parser)) (seen r) r.before r.token
  pub naming : Naming (text_of b.reader) b.names names b.lexer here b.reader.token r.token
  pub same : IsSame b.reader r
  pub fits : IsIn state r.parser
  pub numbered : AreNumbered r.variables
  pub lexed : here ≡ record { text = text_of b.reader; at = r.token.end }
  pub given : IsTokenOf (text_of b.reader) r.token
  pub within : IsWithin (text_of b.reader) r.token
  pub within_before : IfSome r.before (λ t. IsWithin (text_of b.reader) t)
  pub variables : (seen r).count + b.reader.token.start ≤ r.token.start
  pub named : length names + b.reader.token.start ≤ length b.names + r.token.start
  pub kept : Extends b.names names
  pub on : b.lexer.at ≤ r.token.end
  pub fine : (count vars : ℕ) → length names ≤ count → (seen r).count ≤ vars → IsStateFine count vars (state_of state (frames r.parser))
  pub nodes : state_nodes (state_of state (frames r.parser)) + 2 * b.reader.token.start ≤ 2 * r.token.start

-- and once this token is taken
pub record IsAfter (b : Start) (names : List (List ℕ)) (here : Cursor) (step : Step) (r : ClauseReader) (token : TextToken) : Type 0 where
  pub taken : Taken (text_of b.reader) names b.reader.is_query (rules b.reader.parser) b.lexer here b.reader.token (step_of step (frames r.parser)) (seen r) token
  pub earlier : List (List ℕ)
  pub naming : Naming (text_of b.reader) b.names earlier b.lexer here b.reader.token token
  pub added : names ≡ with_names earlier (token_texts (text_of b.reader) token)
  pub same : IsSame b.reader r
  pub counted : IsCounted r.parser.stack
  pub fits : FitsStep step (height (frames r.parser))
  pub numbered : AreNumbered r.variables
  pub lexed : here ≡ record { text = text_of b.reader; at = token.end }
  pub within : IsWithin (text_of b.reader) token
  pub variables : (seen r).count + b.reader.token.start ≤ token.end
  pub named : length names + b.reader.token.start ≤ length b.names + token.end
  pub kept : Extends b.names names
  pub on : b.lexer.at ≤ token.end
  pub fine : (count vars : ℕ) → length names ≤ count → (seen r).count ≤ vars → IsNextFine count vars (step_of step (frames r.parser))
  pub most : ℕ
  pub nodes : NextWithin most (step_of step (frames r.parser))
  pub few : most + 1 + 2 * b.reader.token.start ≤ 2 * token.end
