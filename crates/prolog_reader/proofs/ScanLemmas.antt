-- The run over the tokens of a text gives what the grammar's machine gives, with places in the text.
use Rattle.std.proofs.Common.{◌≡◌, ℕ, zero, suc, ◌+◌, ◌-◌, ◌≤◌, ◌==◌, Bool, true, false, List, [], ◌∷◌, ◌++◌, length, take, drop, Option, Some, Result, Ok, Err, refl, sym, ap, ◌∙◌, ⊎_elim, arith, eqb-true, eq-eqb}
use Rattle.prolog_tokens.specs.Bytes.{begins_with}
use Rattle.prolog_tokens.specs.Stream.{Lexes, ends, fails, goes_on}
use Rattle.prolog_tokens.specs.Decoding.{bytes_of}
use Rattle.prolog_tokens.specs.declared.token.TokenKind.{TokenKind}
use Rattle.prolog_tokens.specs.declared.token.TokenKind.TheVariants as kind
use Rattle.prolog_tokens.specs.declared.token.Token.{Token as TextToken}
use Rattle.prolog_tokens.specs.declared.fault.LexFault.{LexFault}
use Rattle.prolog_tokens.proofs.CharacterLemmas.{either}
use Rattle.prolog_tokens.proofs.PieceLemmas.{begins_is}
use Rattle.prolog_grammar.specs.Token.{Token, touches}
use Rattle.prolog_grammar.specs.Fault.{unexpected, deep, Verdict}
use Rattle.prolog_grammar.specs.Placed.{Part}
use Rattle.prolog_grammar.specs.Rules.{Rules}
use Rattle.prolog_grammar.specs.Machine.{State}
use Rattle.prolog_grammar.specs.Walk.{Next, go_on, stuck, finished, unexpected_here, deep_here, walk_step, walked, walk}
use Rattle.prolog_terms.specs.Symbols.{Seen, kind_token, touches_before, joins_before, token_of, tokens_of, seen_after, seen_after_all}
use Rattle.prolog_reader.specs.Reading.{before_rest, clause_fault}
use Rattle.prolog_reader.specs.Scan.{Outcome, scanned, scan_end, scan}
use Rattle.prolog_reader.proofs.LexLemmas.{cursor, paren_there, paren_is}

pub take_none : {A : Type 0} (n : ℕ) → ◌≡◌ {A = List A} (take n []) []
take_none zero = refl
take_none (suc n) = refl

pub drop_none : {A : Type 0} (n : ℕ) → ◌≡◌ {A = List A} (drop n []) []
drop_none zero = refl
drop_none (suc n) = refl

-- the rest that a verdict names is no longer than this
abbrev RestWithin : ℕ → Verdict Part → Type 0
RestWithin n (Ok r) = length r.1 ≤ n
RestWithin n (Err (unexpected rest)) = length rest ≤ n
RestWithin n (Err (deep rest)) = length rest ≤ n

rest_longer : (n : ℕ) (v : Verdict Part) → RestWithin n v → RestWithin (suc n) v
rest_longer n (Ok r) h = omega (arith, h)
rest_longer n (Err (unexpected rest)) h = omega (arith, h)
rest_longer n (Err (deep rest)) h = omega (arith, h)

module _ (rules : Rules Part) where
  rest_by : (n : Next Part) (u : Token) (us : List Token) → ((s : State Part) → RestWithin (length us) (walk 1000 rules s us))
      → RestWithin (suc (length us)) (walked n (λ s. walk 1000 rules s us) (u ∷ us) us)
  rest_by (go_on s) u us more = rest_longer (length us) _ (more s)
  rest_by stuck u us more = omega arith
  rest_by (finished p) u us more = omega arith
  rest_by unexpected_here u us more = omega arith
  rest_by deep_here u us more = omega arith

  rest_within : (us : List Token) (s : State Part) → RestWithin (length us) (walk 1000 rules s us)
  unfolding walk
  rest_within [] s = omega arith
  rest_within (u ∷ us) s = rest_by (walk_step 1000 rules s u (touches us)) u us (λ s'. rest_within us s')

module _ (names : List (List ℕ)) (text : List ℕ) (fault : Option LexFault) (closing : List Token) (rules : Rules Part) where
  -- what a verdict on these tokens says
  abbrev pub outcome : Seen → List TextToken → List Token → Verdict Part → Outcome
  outcome seen ts us (Ok r) = Ok (r.0, (seen_after_all text seen (take (before_rest us r.1) ts), drop (before_rest us r.1) ts))
  outcome seen ts us (Err f) = Err (clause_fault (length text) fault ts us f)

  abbrev all : Seen → Option TextToken → List TextToken → List Token
  all seen before ts = tokens_of names text seen before ts ++ closing

  one_longer : (m n : ℕ) → m ≤ n → suc n - m ≡ suc (n - m)
  one_longer m n h = omega (arith, h)

  -- one token more in front
  outcome_later : (seen : Seen) (t : TextToken) (ts : List TextToken) (u : Token) (us : List Token) (v : Verdict Part) → RestWithin (length us) v
      → outcome (seen_after text seen t) ts us v ≡ outcome seen (t ∷ ts) (u ∷ us) v
  outcome_later seen t ts u us (Ok r) h = rw (one_longer (length r.1) (length us) h) refl
  outcome_later seen t ts u us (Err (unexpected rest)) h = rw (one_longer (length rest) (length us) h) refl
  outcome_later seen t ts u us (Err (deep rest)) h = rw (one_longer (length rest) (length us) h) refl

  outcome_end : (seen : Seen) (us : List Token) (v : Verdict Part) → scan_end names text fault closing rules seen v ≡ outcome seen [] us v
  outcome_end seen us (Ok r) = rw (take_none {A = TextToken} (before_rest us r.1), drop_none {A = TextToken} (before_rest us r.1)) refl
  outcome_end seen us (Err (unexpected rest)) = rw (drop_none {A = TextToken} (before_rest us rest)) refl
  outcome_end seen us (Err (deep rest)) = rw (drop_none {A = TextToken} (before_rest us rest)) refl

  none_before : (n : ℕ) → n - n ≡ 0
  none_before n = omega arith

  one_before : (n : ℕ) → suc n - n ≡ 1
  one_before n = omega arith

  scanned_by : (n : Next Part) (seen : Seen) (t : TextToken) (ts : List TextToken) (u : Token) (us : List Token) (later : State Part → Outcome)
      → ((s : State Part) → later s ≡ outcome (seen_after text seen t) ts us (walk 1000 rules s us))
      → scanned names text fault closing rules n later (seen_after text seen t) t ts ≡ outcome seen (t ∷ ts) (u ∷ us) (walked n (λ s. walk 1000 rules s us) (u ∷ us) us)
  scanned_by (go_on s) seen t ts u us later more = more s ∙ outcome_later seen t ts u us (walk 1000 rules s us) (rest_within rules us s)
  scanned_by stuck seen t ts u us later more = rw (one_before (length us)) refl
  scanned_by (finished p) seen t ts u us later more = rw (one_before (length us)) refl
  scanned_by unexpected_here seen t ts u us later more = rw (none_before (suc (length us))) refl
  scanned_by deep_here seen t ts u us later more = rw (none_before (suc (length us))) refl

  -- the run is the machine's
  pub scan_is : (ts : List TextToken) (s : State Part) (seen : Seen) (before : Option TextToken)
      → scan names text fault closing rules s seen before ts ≡ outcome seen ts (all seen before ts) (walk 1000 rules s (all seen before ts))
  unfolding scan walk
  scan_is [] s seen before = outcome_end seen closing (walk 1000 rules s closing)
  scan_is (t ∷ ts) s seen before =
      scanned_by (walk_step 1000 rules s (token_of names text seen before t) (touches (all (seen_after text seen t) (Some t) ts))) seen t ts
      (token_of names text seen before t) (all (seen_after text seen t) (Some t) ts)
      (λ s'. scan names text fault closing rules s' (seen_after text seen t) (Some t) ts) (λ s'. scan_is ts s' (seen_after text seen t) (Some t))

-- a token that is not a touching parenthesis
kind_apart : (names : List (List ℕ)) (seen : Seen) (touching joined : Bool) (k : TokenKind) (bytes : List ℕ) (at : ℕ) (rest : List Token) → (k ≡ kind.Paren → touching ≡ false)
    → touches (kind_token names seen touching joined k bytes at ∷ rest) ≡ false
kind_apart names seen touching joined kind.Name bytes at rest apart = refl
kind_apart names seen touching joined kind.Quoted bytes at rest apart = refl
kind_apart names seen touching joined kind.Var bytes at rest apart = refl
kind_apart names seen touching true (kind.Int i) bytes at rest apart = refl
kind_apart names seen touching false (kind.Int i) bytes at rest apart = refl
kind_apart names seen touching joined kind.Text bytes at rest apart = refl
kind_apart names seen touching joined kind.Paren bytes at rest apart = rw (apart refl) refl
kind_apart names seen touching joined kind.ParenEnd bytes at rest apart = refl
kind_apart names seen touching joined kind.List bytes at rest apart = refl
kind_apart names seen touching joined kind.ListEnd bytes at rest apart = refl
kind_apart names seen touching joined kind.Curly bytes at rest apart = refl
kind_apart names seen touching joined kind.CurlyEnd bytes at rest apart = refl
kind_apart names seen touching joined kind.Comma bytes at rest apart = refl
kind_apart names seen touching joined kind.Bar bytes at rest apart = refl
kind_apart names seen touching joined kind.End bytes at rest apart = refl

abbrev LexAnswer : Type 0
LexAnswer = Result (Option TextToken) LexFault

some_is : (t u : TextToken) → ◌≡◌ {A = LexAnswer} (Ok (Some t)) (Ok (Some u)) → t ≡ u
some_is t u h = cc

module _ (names : List (List ℕ)) (text : List ℕ) (closing : List Token) (apart : touches closing ≡ false) where
  -- whether a parenthesis touches a token is seen from the byte after it
  pub touch_is : (seen : Seen) (b : TextToken) {ts : List TextToken} {fault : Option LexFault} → Lexes (cursor text b.end) ts fault
      → begins_with 40 (drop b.end text) ≡ touches (tokens_of names text seen (Some b) ts ++ closing)
  touch_is seen b (ends h) = ⊎_elim there away (either (begins_with 40 (drop b.end text)))
    where
      there : begins_with 40 (drop b.end text) ≡ true → begins_with 40 (drop b.end text) ≡ touches closing
      there p = let front = begins_is 40 (drop b.end text) p in let both = sym h ∙ paren_there text front.0 b.end front.1 in cc

      away : begins_with 40 (drop b.end text) ≡ false → begins_with 40 (drop b.end text) ≡ touches closing
      away p = p ∙ sym apart
  touch_is seen b (fails h) = ⊎_elim there away (either (begins_with 40 (drop b.end text)))
    where
      there : begins_with 40 (drop b.end text) ≡ true → begins_with 40 (drop b.end text) ≡ touches closing
      there p = let front = begins_is 40 (drop b.end text) p in let both = sym h ∙ paren_there text front.0 b.end front.1 in cc

      away : begins_with 40 (drop b.end text) ≡ false → begins_with 40 (drop b.end text) ≡ touches closing
      away p = p ∙ sym apart
  touch_is seen b (goes_on {t = t} {ts = ts} h later) = ⊎_elim there away (either (begins_with 40 (drop b.end text)))
    where
      rest : List Token
      rest = tokens_of names text (seen_after text seen t) (Some t) ts ++ closing

      there : begins_with 40 (drop b.end text) ≡ true → begins_with 40 (drop b.end text) ≡ touches (token_of names text seen (Some b) t ∷ rest)
      there p =
          let front = begins_is 40 (drop b.end text) p in
          let same = some_is _ t (sym (paren_there text front.0 b.end front.1) ∙ h) in
          let touching : touches (token_of names text seen (Some b) (record { kind = kind.Paren; start = b.end; end = b.end + 1 }) ∷ rest) ≡ true = rw (eq-eqb b.end b.end refl) refl in
          p ∙ sym (ap (λ (u : TextToken). touches (token_of names text seen (Some b) u ∷ rest)) (sym same) ∙ touching)

      away : begins_with 40 (drop b.end text) ≡ false → begins_with 40 (drop b.end text) ≡ touches (token_of names text seen (Some b) t ∷ rest)
      away p =
          let touching : t.kind ≡ kind.Paren → (b.end == t.start) ≡ false =
          λ k. ⊎_elim (λ e. absurd (let there' = paren_is text t b.end h k (sym (eqb-true b.end t.start e)) in let both = sym p ∙ there' in cc)) (λ e. e) (either (b.end == t.start)) in
          p ∙ sym (kind_apart names seen (touches_before (Some b) t) (joins_before text (Some b) t) t.kind (bytes_of text t) t.start rest touching)

module _ (names : List (List ℕ)) (text : List ℕ) (fault : Option LexFault) (closing : List Token) (apart : touches closing ≡ false) (rules : Rules Part) where
  -- one token of a run
  pub scan_step : (s : State Part) (seen : Seen) (before : Option TextToken) (t : TextToken) (ts : List TextToken) (n : Next Part) (u : Token) (touch : Bool)
      → n ≡ walk_step 1000 rules s u touch → u ≡ token_of names text seen before t → touch ≡ begins_with 40 (drop t.end text) → Lexes (cursor text t.end) ts fault
      → scan names text fault closing rules s seen before (t ∷ ts)
      ≡ scanned names text fault closing rules n (λ s'. scan names text fault closing rules s' (seen_after text seen t) (Some t) ts) (seen_after text seen t) t ts
  unfolding scan
  scan_step s seen before t ts n u touch step token touching later =
      let same : touch ≡ touches (tokens_of names text (seen_after text seen t) (Some t) ts ++ closing) = touching ∙ touch_is names text closing apart (seen_after text seen t) t later in
      rw (step, token, same) refl

  -- the end of a run
  pub scan_last : (s : State Part) (seen : Seen) (before : Option TextToken)
      → scan names text fault closing rules s seen before [] ≡ scan_end names text fault closing rules seen (walk 1000 rules s closing)
  unfolding scan
  scan_last s seen before = refl
