-- A text of generated clauses, a line for each, is read, and its clauses are definite.
use Rattle.std.proofs.Common.{◌≡◌, ℕ, ◌+◌, ◌≤◌, false, List, [], ◌∷◌, ◌++◌, codes, length, drop, take, Option, Some, None, Ok, refl, sym, ◌∙◌, ap, subst, length-append, length-drop, arith}
use Rattle.std.specs.List.{AllByRecursion}
use Rattle.std.proofs.lemmas.List.{take_at, drop_at}
use Rattle.cti_terms.specs.Numbers.{number_of, with_text}
use Rattle.prolog_tokens.specs.Layout.{gap_len}
use Rattle.prolog_tokens.specs.Places.{further}
use Rattle.prolog_tokens.specs.Cursor.{Cursor, next_of, start_of, token_from}
use Rattle.prolog_tokens.specs.Stream.{Lexes, ends, fails, goes_on}
use Rattle.prolog_tokens.specs.declared.token.Token.{Token as TextToken}
use Rattle.prolog_tokens.specs.declared.fault.LexFault.{LexFault}
use Rattle.prolog_tokens.proofs.PlaceLemmas.{further-further}
use Rattle.prolog_grammar.specs.Token.{Token}
use Rattle.prolog_grammar.specs.Fault.{Verdict}
use Rattle.prolog_grammar.specs.Placed.{Part, part_tree}
use Rattle.prolog_grammar.specs.Reading.{IsVerdict}
use Rattle.prolog_grammar.proofs.OneVerdict.{verdict_found}
use Rattle.prolog_terms.specs.Clauses.{Clause}
use Rattle.prolog_terms.specs.Symbols.{Seen, none_seen, tokens_of, seen_after, seen_after_all}
use Rattle.prolog_operators.specs.Names.{Extends, name_text}
use Rattle.prolog_operators.specs.Table.{standard}
use Rattle.prolog_operators.proofs.NameLemmas.{name_text_added, extends_trans, number_kept}
use Rattle.prolog_operators.proofs.TextsLemmas.{names_more, names_stay}
use Rattle.prolog_operators.specs.Texts.{with_names}
use Rattle.prolog_reader.specs.Words.{known}
use Rattle.prolog_reader.specs.Limits.{most_bytes}
use Rattle.prolog_reader.specs.Naming.{name_texts, text_own}
use Rattle.prolog_reader.specs.Reading.{Answer, Answers, all_read, one_more, clause_tokens, before_rest, with_clause, by_clauses}
use Rattle.prolog_reader.proofs.LexLemmas.{none_past}
use Rattle.clause_normal.specs.ChoiceNames.{program_names}
use Rattle.clause_normal.specs.Definite.{parted_fault, program_of}
use Rattle.clause_normal.proofs.DefiniteLemmas.{definite_normal}
use Rattle.generated_text.specs.Read.{IsRead}
use Rattle.generated_text.proofs.Signs.{name_of, spelled, tokens, behind, here, past, after_all, lexes_on}
use Rattle.generated_text.proofs.Seen.{shown, seen_all, last_of, texts_of, tokens_shown, names_shown}
use Rattle.generated_text.proofs.Shapes.{Shape, append_none, append_more, reverse_none, reverse_more, repeat, entries, IsFewIn, entries_few, entries_end, base, part, read_is}
use Rattle.generated_text.proofs.Definite.{AreNamed, effect_is, definite}

-- a line for each clause
abbrev pub lines : List Shape → List ℕ
lines [] = []
lines (s ∷ ss) = spelled (entries s) (10 ∷ lines ss)

-- where the next line begins
abbrev next_line : ℕ → Shape → ℕ
next_line at s = behind at (entries s) + 1

abbrev all_tokens : ℕ → List Shape → List TextToken
all_tokens at [] = []
all_tokens at (s ∷ ss) = tokens at (entries s) ++ all_tokens (next_line at s) ss

-- the texts of the names in them
abbrev all_texts : List Shape → List (List ℕ)
all_texts [] = []
all_texts (s ∷ ss) = texts_of (entries s) ++ all_texts ss

-- what is read from one place and another is the same, where the next token is
moved_lexes : {c : Cursor} {us : List TextToken} {f : Option LexFault} → Lexes c us f → (d : Cursor) → next_of d ≡ next_of c → d.text ≡ c.text → Lexes d us f
moved_lexes (ends h) d same text = ends (same ∙ h)
moved_lexes (fails h) d same text = fails (same ∙ h)
moved_lexes (goes_on {t = t} {ts = ts} {e = e} h later) d same text =
    let P : List ℕ → Type 0 = λ (xs : List ℕ). Lexes (record { text = xs; at = t.end }) ts e in
    goes_on (same ∙ h) (subst P (sym text) later)

module _ (text : List ℕ) where
  -- a newline is passed over
  newline : (at : ℕ) (rest : List ℕ) → drop at text ≡ 10 ∷ rest → next_of (here text at) ≡ next_of (here text (at + 1))
  newline at rest whole =
      let next : drop (at + 1) text ≡ rest = past text at (10 ∷ []) rest whole in
      let start : start_of (here text at) ≡ start_of (here text (at + 1)) =
      ap (λ (xs : List ℕ). further at (gap_len 0 xs)) whole ∙ further-further at 1 (gap_len 0 rest) ∙ ap (λ (xs : List ℕ). further (at + 1) (gap_len 0 xs)) (sym next) in
      ap (token_from text) start

  -- the next line
  next_part_is : (at : ℕ) (s : Shape) (ss : List Shape) → drop at text ≡ lines (s ∷ ss) → drop (next_line at s) text ≡ lines ss
  next_part_is at s ss whole = past text (behind at (entries s)) (10 ∷ []) (lines ss) (after_all text at (entries s) (10 ∷ lines ss) whole)

  lexes_all : (at : ℕ) (ss : List Shape) → AllByRecursion IsFewIn ss → drop at text ≡ lines ss → Lexes (here text at) (all_tokens at ss) None
  lexes_all at [] few whole = ends (none_past text at (omega (arith, ap length whole, length-drop at text)))
  lexes_all at (s ∷ ss) few whole =
      let end = behind at (entries s) in
      let line = after_all text at (entries s) (10 ∷ lines ss) whole in
      lexes_on text at (entries s) (10 ∷ lines ss) (all_tokens (next_line at s) ss) None (entries_few s few.0) (entries_end s (lines ss)) whole
      (moved_lexes (lexes_all (next_line at s) ss few.1 (next_part_is at s ss whole)) (here text end) (newline end (lines ss) line) refl)

  texts_are : (at : ℕ) (ss : List Shape) → drop at text ≡ lines ss → name_texts text (all_tokens at ss) ≡ all_texts ss
  texts_are at [] whole = refl
  texts_are at (s ∷ ss) whole =
      names_shown text at (entries s) (10 ∷ lines ss) (all_tokens (next_line at s) ss) whole
      ∙ ap (λ (xs : List (List ℕ)). texts_of (entries s) ++ xs) (texts_are (next_line at s) ss (next_part_is at s ss whole))

tokens_length : (names : List (List ℕ)) (text : List ℕ) (seen : Seen) (before : Option TextToken) (ts : List TextToken) → length (tokens_of names text seen before ts) ≡ length ts
tokens_length names text seen before [] = refl
tokens_length names text seen before (t ∷ ts) = omega (arith, tokens_length names text (seen_after text seen t) (Some t) ts)

module _ (more : List (List ℕ)) (text : List ℕ) where
  abbrev given : List (List ℕ)
  given = base ++ more

  abbrev number : ℕ → ℕ
  number k = number_of given (name_of k)

  abbrev clause_of : ℕ → Shape → Clause
  clause_of at s = record { term = part_tree (part more number s at); vars = (seen_after_all text none_seen (tokens at (entries s))).count }

  abbrev clauses_of : ℕ → List Shape → List Clause
  clauses_of at [] = []
  clauses_of at (s ∷ ss) = clause_of at s ∷ clauses_of (next_line at s) ss

  abbrev left : ℕ → Shape → List TextToken → List Token
  left at s us = tokens_of given text (seen_all none_seen (entries s)) (last_of None at (entries s)) us

  -- the tokens of a clause, and those after it
  clause_verdict : (at : ℕ) (s : Shape) (ss : List Shape) → drop at text ≡ lines (s ∷ ss)
      → IsVerdict 1000 (standard given).infixes (standard given).prefixes (known given)
      (clause_tokens given text None (all_tokens at (s ∷ ss))) (Ok (part more number s at, left at s (all_tokens (next_line at s) ss)))
  clause_verdict at s ss whole =
      let us = all_tokens (next_line at s) ss in
      let all : List Token = shown number (number_of given (codes ":-")) none_seen false at (entries s) ++ left at s us in
      let is = tokens_shown given text none_seen None false at (entries s) (10 ∷ lines ss) us refl whole in
      let P : Verdict Part → Type 0 = λ v. IsVerdict 1000 (standard given).infixes (standard given).prefixes (known given) all v in
      let Q : List Token → Type 0 = λ ts. IsVerdict 1000 (standard given).infixes (standard given).prefixes (known given) ts (Ok (part more number s at, left at s us)) in
      subst Q (sym is) (subst P (read_is more number s at (left at s us)) (verdict_found 1000 (standard given).infixes (standard given).prefixes (known given) all))

  count_is : (at : ℕ) (s : Shape) (ss : List Shape)
      → before_rest (clause_tokens given text None (all_tokens at (s ∷ ss))) (left at s (all_tokens (next_line at s) ss)) ≡ length (tokens at (entries s))
  count_is at s ss =
      let us = all_tokens (next_line at s) ss in
      let whole = tokens_length given text none_seen None (tokens at (entries s) ++ us) in
      let rest = tokens_length given text (seen_all none_seen (entries s)) (last_of None at (entries s)) us in
      omega (arith, whole, rest, length-append (tokens at (entries s)) us)

  answers_all : (at : ℕ) (ss : List Shape) → drop at text ≡ lines ss → Answers given text None (standard given) (all_tokens at ss) (Ok (clauses_of at ss, standard given))
  answers_all at [] whole = all_read refl
  answers_all at (s ∷ ss) whole =
      let first = tokens at (entries s) in
      let us = all_tokens (next_line at s) ss in
      let others : Answer = Ok (clauses_of (next_line at s) ss, standard given) in
      let rest = left at s us in
      let n = count_is at s ss in
      let P : List TextToken → Type 0 = λ ts. Answers given text None (standard given) ts others in
      let later = answers_all (next_line at s) ss (next_part_is text at s ss whole) in
      let gone : drop (before_rest (clause_tokens given text None (first ++ us)) rest) (first ++ us) ≡ us = ap (λ m. drop m (first ++ us)) n ∙ drop_at first us (length first) refl in
      let own : take (before_rest (clause_tokens given text None (first ++ us)) rest) (first ++ us) ≡ first = ap (λ m. take m (first ++ us)) n ∙ take_at first us (length first) refl in
      one_more (standard given) (part more number s at) rest others (clause_verdict at s ss whole) (effect_is more number s at) (subst P (sym gone) later)
      (ap (λ (ts : List TextToken). with_clause (record { term = part_tree (part more number s at); vars = (seen_after_all text none_seen ts).count }) others) (sym own))

  clauses_length : (at : ℕ) (ss : List Shape) → length (clauses_of at ss) ≡ length ss
  clauses_length at [] = refl
  clauses_length at (s ∷ ss) = omega (arith, clauses_length (next_line at s) ss)

-- a name that is put to others has its text, whatever names come later
abbrev IsText : List (List ℕ) → List ℕ → Type 0
IsText names t = (later : List (List ℕ)) → Extends names later → name_text later (number_of names t) ≡ t

texts_named : (names : List (List ℕ)) (ts : List (List ℕ)) (all : List (List ℕ)) → all ≡ with_names names ts → AllByRecursion (IsText all) ts
unfolding with_names
texts_named names [] all is = tt
texts_named names (t ∷ ts) all is =
    let E : List (List ℕ) → Type 0 = λ ns. Extends (with_text names t) ns in
    let ext : Extends (with_text names t) all = subst E (sym is) (names_stay (with_text names t) ts) in
    (λ later more. ap (name_text later) (number_kept names t all ext) ∙ name_text_added names t later (extends_trans (with_text names t) all later ext more), texts_named (with_text names t) ts all is)

all_parts : {X : Type 0} (P : X → Type 0) (xs ys : List X) → AllByRecursion P (xs ++ ys) → AllByRecursion P xs × AllByRecursion P ys
all_parts P [] ys h = (tt, h)
all_parts P (x ∷ xs) ys h = let rest = all_parts P xs ys h.1 in ((h.0, rest.0), rest.1)

shape_named : (names later : List (List ℕ)) (s : Shape) → Extends names later → IsFewIn s → AllByRecursion (IsText names) (texts_of (entries s)) → AreNamed later (λ k. number_of names (name_of k)) s
shape_named names later (append_none k) ext few h = (few, h.0 later ext)
shape_named names later (append_more k) ext few h = (few, h.0 later ext)
shape_named names later (reverse_none k) ext few h = (few, h.0 later ext)
shape_named names later (reverse_more k j) ext few h = ((few.0, h.0 later ext), (few.1, h.1.1.1.0 later ext))
shape_named names later (repeat k j) ext few h = ((few.0, h.0 later ext), (few.1, h.1.1.0 later ext))

first_name : (names later : List (List ℕ)) → later ≡ base ++ names → name_text later 0 ≡ codes ","
first_name names later is = ap (λ (ns : List (List ℕ)). name_text ns 0) is

fifth_name : (names later : List (List ℕ)) → later ≡ base ++ names → name_text later 4 ≡ codes ":-"
fifth_name names later is = ap (λ (ns : List (List ℕ)). name_text ns 4) is

definite_all : (more : List (List ℕ)) (text : List ℕ) (later : List (List ℕ)) (at : ℕ) (ss : List Shape) → Extends (base ++ more) later → AllByRecursion IsFewIn ss
    → AllByRecursion (IsText (base ++ more)) (all_texts ss) → AllByRecursion (λ (c : Clause). parted_fault later c ≡ None) (clauses_of more text at ss)
definite_all more text later at [] ext few h = tt
definite_all more text later at (s ∷ ss) ext few h =
    let parts = all_parts (IsText (base ++ more)) (texts_of (entries s)) (all_texts ss) h in
    let begins = extends_trans base (base ++ more) later (more, refl) ext in (
      definite more (number more text) later (first_name begins.0 later begins.1) (fifth_name begins.0 later begins.1) (seen_after_all text none_seen (tokens at (entries s))).count at s (shape_named (base ++ more) later s ext few.0 parts.0),
      definite_all more text later (next_line at s) ss ext few.1 parts.1,
    )

own_names : with_names [] text_own ≡ base
unfolding with_names
own_names = refl

-- lines of generated clauses are read
pub lines_read : (ss : List Shape) → AllByRecursion IsFewIn ss → length ss ≤ 16384 → length (lines ss) ≤ most_bytes → IsRead (lines ss)
lines_read ss few count short =
    let text = lines ss in
    let ts = all_tokens 0 ss in
    let lexes = lexes_all text 0 ss few refl in
    let extends = names_stay base (all_texts ss) in
    let more = extends.0 in
    let are : base ++ more ≡ with_names [] (text_own ++ name_texts text ts) =
    sym (names_more [] text_own (name_texts text ts) ∙ ap (λ (ns : List (List ℕ)). with_names ns (name_texts text ts)) own_names
    ∙ ap (with_names base) (texts_are text 0 ss refl) ∙ extends.1) in
    let clauses = clauses_of more text 0 ss in
    let later = program_names (base ++ more) clauses in
    let texts = texts_named base (all_texts ss) (base ++ more) (sym extends.1) in
    let each = definite_all more text later 0 ss (names_stay (base ++ more) _) few texts in
    record {
      names = base ++ more;
      clauses = clauses;
      table = standard (base ++ more);
      program = program_of later clauses;
      named = record { tokens = ts; fault = None; lexes = lexes; are = are };
      reads = by_clauses ts None short lexes (answers_all more text 0 ss refl);
      normal = definite_normal later clauses (record { each = each; few = omega (arith, clauses_length more text 0 ss) });
    }
