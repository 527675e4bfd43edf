-- The names that a text gives, as the calls put them to the names that were there.
use Rattle.std.proofs.Common.{◌≡◌, ℕ, List, [], ◌∷◌, ◌++◌, Option, Some, None, Result, Ok, Err, IfOk, IfErr, refl, ap, sym, ◌∙◌, subst}
use Rattle.prolog_tokens.specs.Cursor.{Cursor, next_of}
use Rattle.prolog_tokens.specs.Stream.{Lexes}
use Rattle.prolog_tokens.specs.declared.token.Token.{Token as TextToken}
use Rattle.prolog_tokens.specs.declared.fault.LexFault.{LexFault}
use Rattle.prolog_tokens.proofs.StreamLemmas.{after_token, at_end}
use Rattle.prolog_terms.specs.declared.clause.ReadClause.{ReadClause}
use Rattle.prolog_reader.specs.declared.fault.ReadFault.{ReadFault}
use Rattle.prolog_reader.specs.declared.fault.ReadFault.TheVariants.{Fault as Refused, Memory}
use Rattle.prolog_reader.specs.declared.clause_reading.Found.{Found}
use Rattle.prolog_reader.specs.declared.clause_reading.Found.TheVariants as found
use Rattle.prolog_operators.specs.Names.{Extends}
use Rattle.prolog_reader.specs.Naming.{with_names, name_texts, AreNamesOf, BeginNamesOf, BeginNames}
use Rattle.prolog_reader.specs.Scan.{Names}
use Rattle.prolog_reader.proofs.AnswerLemmas.{lexed}
use Rattle.prolog_reader.proofs.LexLemmas.{cursor}
use Rattle.prolog_reader.proofs.NamingLemmas.{names_none, names_more, names_stay}
use Rattle.prolog_reader.proofs.OneAnswer.{lexes_once}

-- a text gives one list of names
pub names_once : (own earlier : List (List ℕ)) (text : List ℕ) (names other : List (List ℕ)) → AreNamesOf own earlier text names → AreNamesOf own earlier text other → names ≡ other
names_once own earlier text names other a b =
    a.are ∙ ap (λ (ts : List TextToken). with_names earlier (own ++ name_texts text ts)) (lexes_once a.lexes b.lexes).0 ∙ sym b.are

-- and each text gives one
pub names_of : (own earlier : List (List ℕ)) (text : List ℕ) → (names : List (List ℕ)) × AreNamesOf own earlier text names
names_of own earlier text =
    let l = lexed text in
    (with_names earlier (own ++ name_texts text l.tokens), record { tokens = l.tokens; fault = l.fault; lexes = l.lexes; are = refl })

-- which begin with the earlier ones
pub names_begin : (own earlier : List (List ℕ)) (text : List ℕ) → BeginNamesOf own earlier text earlier
names_begin own earlier text =
    let l = lexed text in
    record {
      all = with_names earlier (own ++ name_texts text l.tokens);
      are = record { tokens = l.tokens; fault = l.fault; lexes = l.lexes; are = refl };
      begin = names_stay earlier (own ++ name_texts text l.tokens);
    }

module _ (own earlier between : List (List ℕ)) (text : List ℕ) (names : List (List ℕ)) (put : between ≡ with_names earlier own) where
  -- after the reader's own
  pub names_behind : AreNamesOf [] between text names → AreNamesOf own earlier text names
  names_behind a = record {
    tokens = a.tokens;
    fault = a.fault;
    lexes = a.lexes;
    are = a.are ∙ ap (λ n. with_names n (name_texts text a.tokens)) put ∙ sym (names_more earlier own (name_texts text a.tokens));
  }

module _ (own earlier between : List (List ℕ)) (text : List ℕ) (names : List (List ℕ)) (put : between ≡ with_names earlier own) where
  pub begin_behind : (f : ReadFault) → BeginNames [] between text names f → BeginNames own earlier text names f
  begin_behind (Refused kind at) b = record { all = b.all; are = names_behind own earlier between text b.all put b.are; begin = b.begin }
  begin_behind Memory b = tt

module _ {X : Type 0} (own earlier between : List (List ℕ)) (text : List ℕ) (names : List (List ℕ)) (put : between ≡ with_names earlier own) where
  -- the same of a call's result
  pub result_behind : (r : Result X ReadFault) → IfOk r (λ _. AreNamesOf [] between text names) → IfOk r (λ _. AreNamesOf own earlier text names)
  result_behind (Ok x) a = names_behind own earlier between text names put a
  result_behind (Err f) a = tt

  pub fault_behind : (r : Result X ReadFault) → IfErr r (λ f. BeginNames [] between text names f) → IfErr r (λ f. BeginNames own earlier text names f)
  fault_behind (Ok x) b = tt
  fault_behind (Err f) b = begin_behind own earlier between text names put f b

-- how the names stand before a clause: what the whole text names comes to the same as what the tokens from here do
pub record Named (text : List ℕ) (before names : List (List ℕ)) (here : Cursor) : Type 0 where
  pub each : (ts0 : List TextToken) (fault : Option LexFault) → Lexes (cursor text 0) ts0 fault
      → (ts : List TextToken) × Lexes here ts fault × (with_names before (name_texts text ts0) ≡ with_names names (name_texts text ts))

pub named_start : (text : List ℕ) (names : List (List ℕ)) (here : Cursor) → here ≡ cursor text 0 → Named text names names here
named_start text names here at = record { each = λ ts0 fault lexes. (ts0, subst (λ (c : Cursor). Lexes c ts0 fault) (sym at) lexes, refl) }

module _ (text : List ℕ) (before names : List (List ℕ)) (here : Cursor) (named : Named text before names here) where
  -- all tokens are read
  pub all_named : next_of here ≡ Ok None → AreNamesOf [] before text names
  all_named is =
      let l = lexed text in
      let r = named.each l.tokens l.fault l.lexes in
      record { tokens = l.tokens; fault = l.fault; lexes = l.lexes; are = sym (r.2 ∙ ap (λ (ts : List TextToken). with_names names (name_texts text ts)) (at_end r.1 is).0 ∙ names_none names) }

  -- some are read
  pub some_named : BeginNamesOf [] before text names
  some_named =
      let l = lexed text in
      let r = named.each l.tokens l.fault l.lexes in
      record {
        all = with_names before (name_texts text l.tokens);
        are = record { tokens = l.tokens; fault = l.fault; lexes = l.lexes; are = refl };
        begin = subst (λ (n : List (List ℕ)). Extends names n) (sym r.2) (names_stay names (name_texts text r.0));
      }

  module _ (t : TextToken) (is : next_of here ≡ Ok (Some t)) (same : here.text ≡ text) (there there' : Cursor) (begins : there ≡ cursor text t.end) (names' : List (List ℕ)) (f : Found)
      (added : (ts : List TextToken) (fault : Option LexFault) → Lexes there ts fault → Names text names names' (t ∷ ts) fault there' f) where
    -- after the first token of a clause
    behind : (ts0 : List TextToken) (fault : Option LexFault) → Lexes (cursor text 0) ts0 fault
        → (ts : List TextToken) × Names text names names' (t ∷ ts) fault there' f × (with_names before (name_texts text ts0) ≡ with_names names (name_texts text (t ∷ ts)))
    behind ts0 fault lexes =
        let r = named.each ts0 fault lexes in
        let after = after_token r.1 t is in
        let later = subst (λ (c : Cursor). Lexes c after.more fault) (ap (λ (xs : List ℕ). cursor xs t.end) same ∙ sym begins) after.later in
        (after.more, added after.more fault later, r.2 ∙ ap (λ (ts : List TextToken). with_names names (name_texts text ts)) after.first)

    -- a clause is refused
    pub refused_named : BeginNamesOf [] before text names'
    refused_named =
        let l = lexed text in
        let b = behind l.tokens l.fault l.lexes in
        record {
          all = with_names before (name_texts text l.tokens);
          are = record { tokens = l.tokens; fault = l.fault; lexes = l.lexes; are = refl };
          begin = subst (λ (n : List (List ℕ)). Extends names' n) (sym (b.2 ∙ b.1.same)) (names_stay names' (name_texts text b.1.rest));
        }

    -- a clause is read
    pub clause_named : (c : ReadClause) → f ≡ found.Clause c → Named text before names' there'
    clause_named c e = record {
      each = λ ts0 fault lexes.
          let b = behind ts0 fault lexes in
          let n : Names text names names' (t ∷ b.0) fault there' (found.Clause c) = subst (λ (x : Found). Names text names names' (t ∷ b.0) fault there' x) e b.1 in
          (n.rest, n.later, b.2 ∙ n.same);
    }
