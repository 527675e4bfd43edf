-- How the reading of a clause goes on from token to token, and what each of its ends promises.
use Rattle.std.proofs.Common.{◌≡◌, ℕ, ◌+◌, ◌*◌, ◌≤◌, ◌<◌, arith, List, [], ◌∷◌, length, drop, Bool, Option, Some, None, Ok, Err, IfSome, refl, sym, ap, ◌∙◌, subst}
use Rattle.prolog_tokens.specs.Bytes.{begins_with}
use Rattle.prolog_tokens.specs.Cursor.{Cursor, next_of}
use Rattle.prolog_tokens.specs.Stream.{Lexes}
use Rattle.prolog_tokens.specs.Decoding.{IsTokenOf}
use Rattle.prolog_tokens.specs.declared.token.Token.{Token as TextToken}
use Rattle.prolog_tokens.specs.declared.fault.LexFault.{LexFault}
use Rattle.prolog_tokens.proofs.NextLemmas.{token_within}
use Rattle.prolog_grammar.specs.Machine.{Frame, State, want}
use Rattle.prolog_grammar.specs.Placed.{Part, part_tree}
use Rattle.prolog_grammar.specs.Rules.{Rules}
use Rattle.prolog_grammar.specs.Run.{height}
use Rattle.prolog_grammar.specs.Walk.{Next, go_on, finished, stuck, unexpected_here, deep_here, walk_step, walk}
use Rattle.prolog_reader.specs.declared.clause_reading.ClauseReader.{ClauseReader}
use Rattle.prolog_reader.specs.declared.clause_reading.Found.{Found}
use Rattle.prolog_reader.specs.declared.clause_reading.Found.TheVariants as found
use Rattle.prolog_reader.specs.declared.fault.ReadKind.TheVariants.{Lex, Unexpected, Deep}
use Rattle.prolog_operators.specs.declared.operators.Ops.{Ops}
use Rattle.prolog_terms.specs.declared.symbol.Known.{Known as CodeKnown}
use Rattle.term_parser.specs.declared.part.Part.{Part as CodePart}
use Rattle.term_parser.specs.declared.state.State.{State as CodeState}
use Rattle.term_parser.specs.declared.state.State.TheVariants as state
use Rattle.term_parser.specs.declared.state.Refusal.{Refusal}
use Rattle.term_parser.specs.declared.state.Refusal.TheVariants as refusal
use Rattle.term_parser.specs.declared.state.Step.{Step}
use Rattle.term_parser.specs.declared.state.Step.TheVariants as code
use Rattle.prolog_reader.specs.FoundFit.{AreWithin, IsClauseFit, IsFoundFit}
use Rattle.prolog_reader.specs.Measures.{weight, state_nodes, stack_nodes, IsStackFine}
use Rattle.prolog_operators.specs.Names.{Extends}
use Rattle.term_parser.specs.Parsing.{rules, frames}
use Rattle.prolog_reader.specs.Progress.{text_of, table, known, seen, IsSame, Start, Begins, IsReady, AreNamed, IsTaken, advanced, IsClause, IsRefusal, IsEnd, IsFound, IsMoved, Running, Taken, IsBefore, IsAfter}
use Rattle.prolog_reader.specs.Ranges.{IsWithin}
use Rattle.prolog_reader.specs.Scan.{closing_of, Finds, IsNextFault, Closes}
use Rattle.prolog_terms.specs.Symbols.{Seen, token_of, seen_after}
use Rattle.prolog_terms.specs.Terms.{tree_of, clause_of}
use Rattle.prolog_reader.specs.Words.{known as known_names}
use Rattle.prolog_terms.specs.Clauses.{Clause}
use Rattle.prolog_reader.specs.Naming.{with_names, token_texts}
use Rattle.term_parser.specs.Limits.{most_openers}
use Rattle.term_parser.specs.Views.{rules_of, known_of, part_view, state_of, step_of}
use Rattle.prolog_reader.proofs.FitLemmas.{known_within, next_fine, next_within, clause_fit}
use Rattle.prolog_reader.proofs.LexLemmas.{cursor}
use Rattle.prolog_reader.proofs.MeasureLemmas.{token_more}
use Rattle.prolog_operators.proofs.NameLemmas.{extends_self, extends_trans, extends_length}
use Rattle.prolog_reader.proofs.NamingLemmas.{naming_start, names_next, names_read, names_refused, names_stuck, names_ended}
use Rattle.prolog_reader.proofs.RunLemmas.{running_start, taken, goes_next, finishes, is_unexpected, is_deep, is_stuck, is_lexical, is_ended, cursor_is, part_tree_view, clause_by, text_here, at_here, given_here, count_after}
use Rattle.prolog_reader.proofs.WeightLemmas.{token_weight, count_grows}

-- what stays the same
rules_same : {a r : ClauseReader} → IsSame a r → rules r.parser ≡ rules a.parser
rules_same {a} {r} same = ap (λ (o : Ops). rules_of o r.parser.names) same.ops ∙ ap (λ (n : CodeKnown). rules_of a.parser.ops.now n) same.names

same_then : {a r r' : ClauseReader} → IsSame a r → IsSame r r' → IsSame a r'
same_then x y = record { text = y.text ∙ x.text; ops = y.ops ∙ x.ops; names = y.names ∙ x.names; is_query = y.is_query ∙ x.is_query }

module _ (b : Start) (begins : Begins b.lexer b.names b.reader) where
  -- before the first token
  pub before_first : IsBefore b b.names b.lexer (state.ExpectOperand 1200) b.reader
  before_first = record {
    running = subst (λ (q : Option TextToken). Running (text_of b.reader) b.names b.reader.is_query (rules b.reader.parser) b.lexer b.lexer b.reader.token (want 1200 (frames b.reader.parser)) (seen b.reader) q b.reader.token)
        (sym begins.first) (running_start (text_of b.reader) b.names b.reader.is_query (rules b.reader.parser) b.lexer b.lexer b.reader.token _ _ refl (ap (λ (k : List (Frame Part)). want 1200 k) begins.empty) begins.none);
    naming = naming_start (text_of b.reader) b.names b.lexer b.lexer b.reader.token refl;
    same = record { text = refl; ops = refl; names = refl; is_query = refl };
    fits = (begins.counted, omega (arith, ap (λ (k : List (Frame Part)). height k) begins.empty));
    numbered = begins.numbered;
    lexed = cursor_is b.lexer (text_of b.reader) b.reader.token.end begins.same begins.behind;
    given = begins.given;
    within = begins.within;
    within_before = subst (λ (q : Option TextToken). IfSome q (λ t. IsWithin (text_of b.reader) t)) (sym begins.first) tt;
    variables = omega (arith, ap (λ (q : Seen). q.count) begins.none);
    named = omega arith;
    kept = extends_self b.names;
    on = omega (arith, begins.behind);
    fine = λ count vars more most. subst (λ (k : List (Frame Part)). IsStackFine count vars k) (sym begins.empty) tt;
    nodes = omega (arith, ap (λ (k : List (Frame Part)). stack_nodes k) begins.empty);
  }

  -- its token can be taken
  pub is_ready : (names : List (List ℕ)) (here : Cursor) (s : CodeState) (r : ClauseReader) → IsBefore b names here s r → IsReady names s r
  is_ready names here s r before =
      let inside = token_within (text_of b.reader) r.token before.given in
      record {
        given = subst (λ (t : List ℕ). IsTokenOf t r.token) (sym before.same.text) before.given;
        within = subst (λ (t : List ℕ). IsWithin t r.token) (sym before.same.text) before.within;
        within_before = subst (λ (t : List ℕ). IfSome r.before (λ q. IsWithin t q)) (sym before.same.text) before.within_before;
        room = omega (arith, before.named, begins.room, inside);
        numbered = before.numbered;
        few = omega (arith, before.variables, begins.short, inside);
        fits = before.fits;
      }

  -- and once it is taken
  pub is_after : (names names' : List (List ℕ)) (here : Cursor) (s : CodeState) (r r' : ClauseReader) (step : Step)
      → IsBefore b names here s r → IsTaken names names' s r r' step → AreNamed names names' → IsAfter b names' here step r' r'.token
  is_after names names' here s r r' step before t named =
      let moves : step_of step (frames r'.parser) ≡ walk_step 1000 (rules b.reader.parser) (state_of s (frames r.parser)) t.symbol (begins_with 40 (drop r.token.end (text_of b.reader))) =
      t.moves ∙ ap (λ (q : Rules Part). walk_step 1000 q (state_of s (frames r.parser)) t.symbol (begins_with 40 (drop r.token.end (text_of r)))) (rules_same before.same)
      ∙ ap (λ (x : List ℕ). walk_step 1000 (rules b.reader.parser) (state_of s (frames r.parser)) t.symbol (begins_with 40 (drop r.token.end x))) before.same.text in
      let is = λ (later : List (List ℕ)) (ext : Extends names' later). t.is later ext ∙ ap (λ (x : List ℕ). token_of later x (seen r) r.before r.token) before.same.text in
      let after : seen r' ≡ seen_after (text_of b.reader) (seen r) r.token = t.after ∙ ap (λ (x : List ℕ). seen_after x (seen r) r.token) before.same.text in
      let kept = extends_trans b.names names names' before.kept named.0 in
      let longer = extends_length names names' named.0 in
      let grows = ap (λ (q : Seen). q.count) after in
      let grown = count_grows (text_of b.reader) (seen r) r.token in
      let inside = token_within (text_of b.reader) r.token before.given in
      let weighs = token_weight names' (text_of b.reader) (seen r) r.before r.token t.symbol before.given (is names' (extends_self names')) in
      let in_range = λ (count : ℕ) (few : length names' ≤ count). known_within b.names (known b.reader) count begins.known (omega (arith, few, extends_length b.names names' kept)) in
      subst (λ (q : TextToken). IsAfter b names' here step r' q) (sym t.token) (record {
        taken = taken (text_of b.reader) names names' b.reader.is_query (rules b.reader.parser) b.lexer here b.reader.token
            (state_of s (frames r.parser)) (seen r) (seen r') r.before r.token (step_of step (frames r'.parser)) t.symbol (begins_with 40 (drop r.token.end (text_of b.reader)))
            before.running named.0 before.lexed after moves is refl;
        earlier = names;
        naming = before.naming;
        added = t.added ∙ ap (λ (x : List ℕ). with_names names (token_texts x r.token)) before.same.text;
        same = same_then before.same t.same;
        counted = t.counted;
        fits = t.fits;
        numbered = t.numbered;
        lexed = before.lexed;
        within = before.within;
        variables = omega (arith, before.variables, inside, grows, count_after (text_of b.reader) (seen r) r.token);
        named = omega (arith, before.named, inside, named.1);
        kept = kept;
        on = before.on;
        fine = λ count vars more most. next_fine count vars (table b.reader) (known b.reader) (state_of s (frames r.parser)) t.symbol (begins_with 40 (drop r.token.end (text_of b.reader))) (step_of step (frames r'.parser)) (in_range count more)
            (before.fine count vars (omega (arith, longer, more)) (omega (arith, grows, grown, most)))
            (token_more (length names') count (seen r').count vars t.symbol t.fine more most) moves;
        most = state_nodes (state_of s (frames r.parser)) + weight t.symbol;
        nodes = next_within (length names') (seen r').count (table b.reader) (known b.reader) (state_of s (frames r.parser)) t.symbol (begins_with 40 (drop r.token.end (text_of b.reader))) (step_of step (frames r'.parser)) (in_range (length names') (omega arith))
            (before.fine (length names') (seen r').count (omega (arith, longer)) (omega (arith, grows, grown))) moves;
        few = omega (arith, before.nodes, weighs);
      })

  -- the next token is at hand
  pub is_next : (names : List (List ℕ)) (here here' : Cursor) (s : CodeState) (r : ClauseReader) (next : TextToken) → IsAfter b names here (code.Continue s) r r.token
      → next_of here ≡ Ok (Some next) → here' ≡ cursor here.text next.end → (here.at ≤ next.start) × (next.start < next.end) × (next.end ≤ length here.text)
      → IsBefore b names here' s (advanced r next)
  is_next names here here' s r next after is at progress =
      let same = text_here here (text_of b.reader) r.token.end after.lexed in
      let lexed : here' ≡ cursor (text_of b.reader) next.end = at ∙ ap (λ (x : List ℕ). cursor x next.end) same in
      let end = at_here here (text_of b.reader) r.token.end after.lexed in
      let size = ap (λ (x : List ℕ). length x) same in
      record {
        running = goes_next (text_of b.reader) names names b.reader.is_query (rules b.reader.parser) b.lexer here b.reader.token (state_of s (frames r.parser)) (seen r) r.token next here' after.taken same is lexed;
        naming = names_next (text_of b.reader) b.names after.earlier names b.lexer here b.reader.token r.token after.naming after.added next here' same is lexed;
        same = record { text = after.same.text; ops = after.same.ops; names = after.same.names; is_query = after.same.is_query };
        fits = (after.counted, after.fits);
        numbered = after.numbered;
        lexed = lexed;
        given = given_here here (text_of b.reader) r.token.end next after.lexed is;
        within = record { ordered = omega (arith, progress); ended = omega (arith, progress, size) };
        within_before = after.within;
        variables = omega (arith, after.variables, progress, end);
        named = omega (arith, after.named, progress, end);
        kept = after.kept;
        on = omega (arith, after.on, end, progress);
        fine = after.fine;
        nodes = omega (arith, after.nodes, after.few, progress, end);
      }

  -- the operators and names of the start are those of the later names
  are : (names : List (List ℕ)) → Extends b.names names → (later : List (List ℕ)) → Extends names later → known_names later ≡ known b.reader
  are names kept later ext = begins.known later (extends_trans b.names names later kept ext)

  -- the clause is whole
  pub is_clause : (names : List (List ℕ)) (here : Cursor) (part : CodePart) (r : ClauseReader) (f : Found) → IsAfter b names here (code.Finished part) r r.token → IsClause r part f → IsFound b names here f
  is_clause names here part r (found.Refused kind at) after is = absurd is
  is_clause names here part r (found.Clause c) after is =
      let view = part_tree_view (tree_of part.term) part.depth in
      let end = at_here here (text_of b.reader) r.token.end after.lexed in
      let whole = clause_by (clause_of c) (part_tree (part_view part)) (seen r).count (ap tree_of is.0 ∙ sym view) is.1 in
      record {
        found = λ later ts fault ext lexes. finishes (text_of b.reader) names b.reader.is_query (table b.reader) (known b.reader) b.lexer here b.reader.token (are names after.kept) later ts fault ext lexes
            (part_view part) (seen r) r.token (clause_of c) after.taken whole;
        added = names_read (text_of b.reader) b.names after.earlier names b.lexer here b.reader.token r.token after.naming after.added c;
        fit = λ count more. subst (λ (x : Clause). IsClauseFit count (2 * b.reader.token.start) (2 * here.at) x) (sym whole)
            (clause_fit count (seen r).count (2 * b.reader.token.start) (2 * here.at) (part_view part) (part_tree (part_view part)) refl (after.fine count (seen r).count more (omega arith)) (omega (arith, after.nodes, after.few, end)));
      }

  -- its token is refused
  pub is_refused : (names : List (List ℕ)) (here here' : Cursor) (why : Refusal) (r : ClauseReader) (f : Found) → IsAfter b names here (code.Refused why) r r.token → IsRefusal r why here f
      → ((count before after : ℕ) → IsFoundFit count before after f) → IsFound b names here' f
  is_refused names here here' refusal.Unexpected r f after is fit = subst (λ (g : Found). IsFound b names here' g) (sym is) (record {
    found = λ later ts fault ext lexes. is_unexpected (text_of b.reader) names b.reader.is_query (table b.reader) (known b.reader) b.lexer here b.reader.token (are names after.kept) later ts fault ext lexes (seen r) r.token after.taken;
    added = names_refused (text_of b.reader) b.names after.earlier names b.lexer here b.reader.token r.token after.naming after.added Unexpected r.token.start here';
    fit = λ count more. tt;
  })
  is_refused names here here' refusal.Deep r f after is fit = subst (λ (g : Found). IsFound b names here' g) (sym is) (record {
    found = λ later ts fault ext lexes. is_deep (text_of b.reader) names b.reader.is_query (table b.reader) (known b.reader) b.lexer here b.reader.token (are names after.kept) later ts fault ext lexes (seen r) r.token after.taken;
    added = names_refused (text_of b.reader) b.names after.earlier names b.lexer here b.reader.token r.token after.naming after.added Deep r.token.start here';
    fit = λ count more. tt;
  })
  is_refused names here here' refusal.NextUnexpected r f after is fit =
      let size = ap (λ (x : List ℕ). length x) after.same.text in
      let next = λ (ts : List TextToken) (fault : Option LexFault) (lexes : Lexes here ts fault). subst (λ (n : ℕ). IsNextFault n fault ts f) size (is ts fault lexes) in
      record {
        found = λ later ts fault ext lexes. is_stuck (text_of b.reader) names b.reader.is_query (table b.reader) (known b.reader) b.lexer here b.reader.token (are names after.kept) later ts fault ext lexes (seen r) r.token here' f after.taken next;
        added = names_stuck (text_of b.reader) b.names after.earlier names b.lexer here b.reader.token r.token after.naming after.added f here' next;
        fit = λ count more. fit count (2 * b.reader.token.start) (2 * here'.at);
      }

  -- a lexical fault follows it
  pub is_lexical_fault : (names : List (List ℕ)) (here here' : Cursor) (s : CodeState) (r : ClauseReader) (e : LexFault) → IsAfter b names here (code.Continue s) r r.token → next_of here ≡ Err e
      → IsFound b names here' (found.Refused (Lex e.kind) e.at)
  is_lexical_fault names here here' s r e after is = record {
    found = λ later ts fault ext lexes. is_lexical (text_of b.reader) names b.reader.is_query (table b.reader) (known b.reader) b.lexer here b.reader.token (are names after.kept) later ts fault ext lexes (state_of s (frames r.parser)) (seen r) r.token e after.taken is;
    added = names_refused (text_of b.reader) b.names after.earlier names b.lexer here b.reader.token r.token after.naming after.added (Lex e.kind) e.at here';
    fit = λ count more. tt;
  }

  -- the text ends after it
  pub is_end : (names : List (List ℕ)) (here here' : Cursor) (s : CodeState) (r : ClauseReader) (f : Found) → IsAfter b names here (code.Continue s) r r.token → next_of here ≡ Ok None
      → here' ≡ cursor here.text (length here.text) → IsEnd s r f → IsFound b names here' f
  is_end names here here' s r f after is at ends =
      let same = text_here here (text_of b.reader) r.token.end after.lexed in
      let lexed : here' ≡ cursor (text_of b.reader) (length (text_of b.reader)) = at ∙ ap (λ (x : List ℕ). cursor x (length x)) same in
      let size = ap (λ (x : List ℕ). length x) after.same.text in
      let end = ap (λ (x : Cursor). x.at) lexed in
      let v = state_of s (frames r.parser) in
      let closes : Closes (walk 1000 (rules b.reader.parser) v (closing_of b.reader.is_query None)) (seen r).count (length (text_of b.reader)) f =
      subst (λ (q : Rules Part). Closes (walk 1000 q v (closing_of b.reader.is_query None)) (seen r).count (length (text_of b.reader)) f) (rules_same after.same)
      (subst (λ (q : Bool). Closes (walk 1000 (rules r.parser) v (closing_of q None)) (seen r).count (length (text_of b.reader)) f) after.same.is_query
      (subst (λ (n : ℕ). Closes (walk 1000 (rules r.parser) v (closing_of r.is_query None)) (seen r).count n f) size ends.closes)) in
      record {
        found = λ later ts fault ext lexes. is_ended (text_of b.reader) names b.reader.is_query (table b.reader) (known b.reader) b.lexer here b.reader.token (are names after.kept) later ts fault ext lexes v (seen r) r.token (seen r).count f here' after.taken is lexed refl closes;
        added = names_ended (text_of b.reader) b.names after.earlier names b.lexer here b.reader.token r.token after.naming after.added f here' is lexed;
        fit = λ count more. ends.fit count (2 * b.reader.token.start) (2 * here'.at)
            (subst (λ (n : CodeKnown). AreWithin count (known_of n)) (sym after.same.names) (known_within b.names (known b.reader) count begins.known (omega (arith, more, extends_length b.names names after.kept))))
            (after.fine count (seen r).count more (omega arith)) (omega (arith, after.nodes, after.few, end, after.within.ended));
      }

  -- the lexer moved on
  pub is_moved : (names : List (List ℕ)) (here here' : Cursor) (step : Step) (r : ClauseReader) → IsAfter b names here step r r.token → here'.text ≡ here.text → here.at ≤ here'.at → here'.at ≤ length here.text
      → IsMoved b names here'
  is_moved names here here' step r after text moved ended =
      let same = text_here here (text_of b.reader) r.token.end after.lexed in
      let end = at_here here (text_of b.reader) r.token.end after.lexed in
      let size = ap (λ (x : List ℕ). length x) same in
      record {
        same = text ∙ same;
        on = (omega (arith, after.on, end, moved), omega (arith, size, ended));
        kept = after.kept;
        few = omega (arith, after.named, end, moved);
      }

  -- or stays
  pub is_moved_here : (names : List (List ℕ)) (here : Cursor) (step : Step) (r : ClauseReader) → IsAfter b names here step r r.token → IsMoved b names here
  is_moved_here names here step r after =
      let size = ap (λ (x : List ℕ). length x) (text_here here (text_of b.reader) r.token.end after.lexed) in
      let end = at_here here (text_of b.reader) r.token.end after.lexed in
      is_moved names here here step r after refl (omega arith) (omega (arith, size, end, after.within.ended))

  -- memory ran out at the token
  pub is_broken : (names names' : List (List ℕ)) (here : Cursor) (s : CodeState) (r : ClauseReader) → IsBefore b names here s r → AreNamed names names' → IsMoved b names' here
  is_broken names names' here s r before named =
      let end = at_here here (text_of b.reader) r.token.end before.lexed in
      let inside = token_within (text_of b.reader) r.token before.given in
      record {
        same = text_here here (text_of b.reader) r.token.end before.lexed;
        on = (omega (arith, before.on, end), omega (arith, before.within.ended, end));
        kept = extends_trans b.names names names' before.kept named.0;
        few = omega (arith, before.named, named.1, inside, end);
      }
