-- Names that are put to a list in order.
use Rattle.std.proofs.Common.{◌≡◌, ℕ, List, [], ◌∷◌, ◌++◌, length, Option, Some, None, Ok, refl, ap, sym, ◌∙◌, subst, arith}
use Rattle.cti_terms.specs.Numbers.{with_text}
use Rattle.prolog_tokens.specs.Cursor.{Cursor, next_of}
use Rattle.prolog_tokens.specs.Stream.{Lexes, ends}
use Rattle.prolog_tokens.specs.declared.token.Token.{Token as TextToken}
use Rattle.prolog_tokens.specs.declared.fault.LexFault.{LexFault}
use Rattle.prolog_tokens.proofs.StreamLemmas.{after_token, at_end}
use Rattle.prolog_terms.specs.declared.clause.ReadClause.{ReadClause}
use Rattle.prolog_reader.specs.declared.fault.ReadKind.{ReadKind}
use Rattle.prolog_reader.specs.declared.clause_reading.Found.{Found}
use Rattle.prolog_reader.specs.declared.clause_reading.Found.TheVariants as found
use Rattle.prolog_operators.specs.Names.{Extends}
use Rattle.prolog_reader.specs.Naming.{with_names, token_texts, name_texts}
use Rattle.prolog_reader.specs.Progress.{Naming}
use Rattle.prolog_reader.specs.Scan.{IsNextFault, Names}
pub use Rattle.prolog_operators.proofs.TextsLemmas.{names_none, names_one, names_more, names_stay, names_then}
use Rattle.prolog_reader.proofs.LexLemmas.{cursor, none_past}
use Rattle.prolog_operators.proofs.NameLemmas.{extends_self, extends_trans, extends_with_text}

pub naming_start : (text : List ℕ) (names : List (List ℕ)) (there here : Cursor) (first : TextToken) → here ≡ there → Naming text names names there here first first
naming_start text names there here first same = record { each = λ ts0 fault lexes. (ts0, subst (λ c. Lexes c ts0 fault) (sym same) lexes, refl) }

module _ (text : List ℕ) (before names names' : List (List ℕ)) (there here : Cursor) (first token : TextToken) (naming : Naming text before names there here first token)
    (added : names' ≡ with_names names (token_texts text token)) where
  -- once the token's name is put to them
  pub named : (ts0 : List TextToken) (fault : Option LexFault) → Lexes there ts0 fault
      → (ts : List TextToken) × Lexes here ts fault × (with_names before (name_texts text (first ∷ ts0)) ≡ with_names names' (name_texts text ts))
  named ts0 fault lexes =
      let r = naming.each ts0 fault lexes in
      (r.0, r.1, r.2 ∙ names_more names (token_texts text token) (name_texts text r.0) ∙ ap (λ n. with_names n (name_texts text r.0)) (sym added))

  -- the next token
  pub names_next : (next : TextToken) (here' : Cursor) → here.text ≡ text → next_of here ≡ Ok (Some next) → here' ≡ cursor text next.end → Naming text before names' there here' first next
  names_next next here' same is at = record {
    each = λ ts0 fault lexes.
        let r = named ts0 fault lexes in
        let after = after_token r.1 next is in
        (after.more, subst (λ c. Lexes c after.more fault) (ap (λ xs. cursor xs next.end) same ∙ sym at) after.later, r.2 ∙ ap (λ ts. with_names names' (name_texts text ts)) after.first);
  }

  -- a clause is read
  pub names_read : (c : ReadClause) (ts0 : List TextToken) (fault : Option LexFault) → Lexes there ts0 fault → Names text before names' (first ∷ ts0) fault here (found.Clause c)
  names_read c ts0 fault lexes = let r = named ts0 fault lexes in record { rest = r.0; same = r.2; later = r.1 }

  -- a clause is refused
  pub names_refused : (kind : ReadKind) (place : ℕ) (at : Cursor) (ts0 : List TextToken) (fault : Option LexFault) → Lexes there ts0 fault → Names text before names' (first ∷ ts0) fault at (found.Refused kind place)
  names_refused kind place at ts0 fault lexes = let r = named ts0 fault lexes in record { rest = r.0; same = r.2; later = tt }

  -- where nothing more is expected
  pub names_stuck : (f : Found) (at : Cursor) → ((ts : List TextToken) (e : Option LexFault) → Lexes here ts e → IsNextFault (length text) e ts f)
      → (ts0 : List TextToken) (fault : Option LexFault) → Lexes there ts0 fault → Names text before names' (first ∷ ts0) fault at f
  names_stuck (found.Clause c) at next ts0 fault lexes = let r = named ts0 fault lexes in absurd (next r.0 fault r.1)
  names_stuck (found.Refused kind place) at next ts0 fault lexes = names_refused kind place at ts0 fault lexes

  -- the text ends
  pub names_ended : (f : Found) (at : Cursor) → next_of here ≡ Ok None → at ≡ cursor text (length text)
      → (ts0 : List TextToken) (fault : Option LexFault) → Lexes there ts0 fault → Names text before names' (first ∷ ts0) fault at f
  names_ended (found.Refused kind place) at is ends_at ts0 fault lexes = names_refused kind place at ts0 fault lexes
  names_ended (found.Clause c) at is ends_at ts0 fault lexes =
      let r = named ts0 fault lexes in
      let over = at_end r.1 is in
      record {
        rest = [];
        same = r.2 ∙ ap (λ ts. with_names names' (name_texts text ts)) over.0;
        later = subst (λ (x : Cursor). Lexes x [] fault) (sym ends_at) (subst (λ (e : Option LexFault). Lexes (cursor text (length text)) [] e) (sym over.1) (ends (none_past text (length text) (omega arith))));
      }
