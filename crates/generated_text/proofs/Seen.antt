-- The tokens of generated clauses as the grammar sees them, and the names that they give.
use Rattle.std.proofs.Common.{◌≡◌, ℕ, ◌+◌, ◌&&◌, Bool, true, false, List, [], ◌∷◌, ◌++◌, codes, drop, Option, Some, None, refl, sym, ◌∙◌, ap, append_assoc, arith, eq-eqb, if◌then◌else◌}
use Rattle.std.proofs.lemmas.Bool.{ne_eqb}
use Rattle.cti_terms.specs.Numbers.{number_of}
use Rattle.prolog_tokens.specs.declared.token.Token.{Token as TextToken}
use Rattle.prolog_grammar.specs.Token.{variable, Token, Leaf, Name, Paren, Touching, ParenEnd, Bracket, BracketEnd, Comma, Bar, End}
use Rattle.prolog_terms.specs.Symbols.{Seen, touches_before, joins_before, kind_token, token_of, tokens_of, kind_seen, seen_after, variable_number, with_variable}
use Rattle.prolog_reader.specs.Naming.{kind_texts, token_texts, name_texts}
use Rattle.generated_text.proofs.Signs.{Sign, name, letter, neck, paren, paren_end, list, list_end, comma, bar, stop, name_of, bytes, kind_of, Entry, at_once, spaced, sign, spelled, begin_of, end_of, tokens, bytes_are, next_part}
use Rattle.generated_text.proofs.Signs.{token_of as text_token}

-- a token follows the one before it at once
abbrev pub is_once : Entry → Bool
is_once (at_once s) = true
is_once (spaced s) = false

-- a token as the grammar sees it, where names have these numbers
abbrev pub shown_sign : (ℕ → ℕ) → ℕ → Seen → Bool → Sign → ℕ → Token
shown_sign w n seen touching (name k) at = Name at (w k)
shown_sign w n seen touching (letter b) at = Leaf at (variable (variable_number seen (b ∷ [])))
shown_sign w n seen touching neck at = Name at n
shown_sign w n seen touching paren at = if touching then Touching at else Paren at
shown_sign w n seen touching paren_end at = ParenEnd
shown_sign w n seen touching list at = Bracket at
shown_sign w n seen touching list_end at = BracketEnd
shown_sign w n seen touching comma at = Comma
shown_sign w n seen touching bar at = Bar
shown_sign w n seen touching stop at = End

-- the variables after it
abbrev pub seen_sign : Seen → Sign → Seen
seen_sign seen (letter b) = with_variable seen (b ∷ [])
seen_sign seen _ = seen

abbrev pub shown : (ℕ → ℕ) → ℕ → Seen → Bool → ℕ → List Entry → List Token
shown w n seen before at [] = []
shown w n seen before at (e ∷ es) =
    shown_sign w n seen (before && is_once e) (sign e) (begin_of at e) ∷ shown w n (seen_sign seen (sign e)) true (end_of at e) es

abbrev pub seen_all : Seen → List Entry → Seen
seen_all seen [] = seen
seen_all seen (e ∷ es) = seen_all (seen_sign seen (sign e)) es

-- the last of these tokens
abbrev pub last_of : Option TextToken → ℕ → List Entry → Option TextToken
last_of before at [] = before
last_of before at (e ∷ es) = last_of (Some (text_token at e)) (end_of at e) es

-- the names that they give
abbrev pub sign_texts : Sign → List (List ℕ)
sign_texts (name k) = name_of k ∷ []
sign_texts neck = codes ":-" ∷ []
sign_texts _ = []

abbrev pub texts_of : List Entry → List (List ℕ)
texts_of [] = []
texts_of (e ∷ es) = sign_texts (sign e) ++ texts_of es

-- whether there is a token before, and that it ends here
abbrev pub Stands : Option TextToken → Bool → ℕ → Type 0
Stands None flag at = flag ≡ false
Stands (Some b) flag at = (flag ≡ true) × (b.end ≡ at)

touching_is : (before : Option TextToken) (flag : Bool) (at : ℕ) (e : Entry) → Stands before flag at → touches_before before (text_token at e) ≡ (flag && is_once e)
touching_is None flag at e h = rw h refl
touching_is (Some b) flag at (at_once s) h = let same : b.end ≡ at + 0 = omega (arith, h.1) in rw (h.0, eq-eqb b.end (at + 0) same) refl
touching_is (Some b) flag at (spaced s) h = rw (h.0, ne_eqb b.end (at + 1) (λ e. omega (arith, e, h.1))) refl

sign_shown : (names : List (List ℕ)) (seen : Seen) (touching joined : Bool) (s : Sign) (at : ℕ)
    → kind_token names seen touching joined (kind_of s) (bytes s) at ≡ shown_sign (λ k. number_of names (name_of k)) (number_of names (codes ":-")) seen touching s at
sign_shown names seen touching joined (name k) at = refl
sign_shown names seen touching joined (letter b) at = refl
sign_shown names seen touching joined neck at = refl
sign_shown names seen touching joined paren at = refl
sign_shown names seen touching joined paren_end at = refl
sign_shown names seen touching joined list at = refl
sign_shown names seen touching joined list_end at = refl
sign_shown names seen touching joined comma at = refl
sign_shown names seen touching joined bar at = refl
sign_shown names seen touching joined stop at = refl

sign_seen : (seen : Seen) (s : Sign) → kind_seen seen (kind_of s) (bytes s) ≡ seen_sign seen s
sign_seen seen (name k) = refl
sign_seen seen (letter b) = refl
sign_seen seen neck = refl
sign_seen seen paren = refl
sign_seen seen paren_end = refl
sign_seen seen list = refl
sign_seen seen list_end = refl
sign_seen seen comma = refl
sign_seen seen bar = refl
sign_seen seen stop = refl

texts_are : (s : Sign) → kind_texts (kind_of s) (bytes s) ≡ sign_texts s
texts_are (name k) = refl
texts_are (letter b) = refl
texts_are neck = refl
texts_are paren = refl
texts_are paren_end = refl
texts_are list = refl
texts_are list_end = refl
texts_are comma = refl
texts_are bar = refl
texts_are stop = refl

module _ (names : List (List ℕ)) (text : List ℕ) where
  -- the numbers of names
  abbrev number : ℕ → ℕ
  number k = number_of names (name_of k)

  abbrev neck_number : ℕ
  neck_number = number_of names (codes ":-")

  -- the tokens of a clause, and those after them
  pub tokens_shown : (seen : Seen) (before : Option TextToken) (flag : Bool) (at : ℕ) (es : List Entry) (after : List ℕ) (us : List TextToken)
      → Stands before flag at → drop at text ≡ spelled es after
      → tokens_of names text seen before (tokens at es ++ us)
      ≡ shown number neck_number seen flag at es ++ tokens_of names text (seen_all seen es) (last_of before at es) us
  tokens_shown seen before flag at [] after us stands whole = refl
  tokens_shown seen before flag at (e ∷ es) after us stands whole =
      let t = text_token at e in
      let is = bytes_are text at e (spelled es after) whole in
      let touch = touching_is before flag at e stands in
      let first : token_of names text seen before t ≡ shown_sign number neck_number seen (flag && is_once e) (sign e) (begin_of at e) =
      ap (λ (bs : List ℕ). kind_token names seen (touches_before before t) (joins_before text before t) (kind_of (sign e)) bs (begin_of at e)) is
      ∙ ap (λ (b : Bool). kind_token names seen b (joins_before text before t) (kind_of (sign e)) (bytes (sign e)) (begin_of at e)) touch
      ∙ sign_shown names seen (flag && is_once e) (joins_before text before t) (sign e) (begin_of at e) in
      let seen' : seen_after text seen t ≡ seen_sign seen (sign e) = ap (λ (bs : List ℕ). kind_seen seen (kind_of (sign e)) bs) is ∙ sign_seen seen (sign e) in
      let rest = tokens_shown (seen_sign seen (sign e)) (Some t) true (end_of at e) es after us (refl, refl) (next_part text at e (spelled es after) whole) in
      ap (λ (u : Token). u ∷ tokens_of names text (seen_after text seen t) (Some t) (tokens (end_of at e) es ++ us)) first
      ∙ ap (λ (s : Seen). shown_sign number neck_number seen (flag && is_once e) (sign e) (begin_of at e) ∷ tokens_of names text s (Some t) (tokens (end_of at e) es ++ us)) seen'
      ∙ ap (λ (xs : List Token). shown_sign number neck_number seen (flag && is_once e) (sign e) (begin_of at e) ∷ xs) rest

-- the names that the tokens of a clause give, and then others
pub names_shown : (text : List ℕ) (at : ℕ) (es : List Entry) (after : List ℕ) (us : List TextToken) → drop at text ≡ spelled es after
    → name_texts text (tokens at es ++ us) ≡ texts_of es ++ name_texts text us
names_shown text at [] after us whole = refl
names_shown text at (e ∷ es) after us whole =
    let is = bytes_are text at e (spelled es after) whole in
    let first : token_texts text (text_token at e) ≡ sign_texts (sign e) = ap (λ (bs : List ℕ). kind_texts (kind_of (sign e)) bs) is ∙ texts_are (sign e) in
    ap (λ (xs : List (List ℕ)). xs ++ name_texts text (tokens (end_of at e) es ++ us)) first
    ∙ ap (λ (xs : List (List ℕ)). sign_texts (sign e) ++ xs) (names_shown text (end_of at e) es after us (next_part text at e (spelled es after) whole))
    ∙ sym (append_assoc (sign_texts (sign e)) (texts_of es) (name_texts text us))
