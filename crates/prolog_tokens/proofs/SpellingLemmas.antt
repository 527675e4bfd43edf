-- The spelling of names.
use Rattle.std.proofs.Common.{◌≡◌, ℕ, false, List, [], ◌∷◌, ◌++◌, take, drop, refl, sym, ◌∙◌, ap, append_assoc}
use Rattle.std.specs.List.{flat_map}
use Rattle.std.proofs.lemmas.Grind.{flat_map-append}
use Rattle.std.proofs.lemmas.List.{take-append-drop}
use Rattle.prolog_tokens.specs.Decoding.{AppendsPrefix}
use Rattle.prolog_tokens.specs.Spelling.{is_plain_word, is_empty_list, spelled_byte, spelling}
use Rattle.prolog_tokens.proofs.AppendLemmas.{prefix_appended}

-- a name between quotes
abbrev pub quoted : List ℕ → List ℕ
quoted name = 39 ∷ flat_map spelled_byte name ++ 39 ∷ []

pub spelling_quoted : (name : List ℕ) → is_plain_word name ≡ false → is_empty_list name ≡ false → spelling name ≡ quoted name
unfolding spelling
spelling_quoted name word empty = rw (word, empty) refl

-- the quote and the first bytes are a part of the spelling
pub quoted_part : (old name new : List ℕ) (i : ℕ) → is_plain_word name ≡ false → is_empty_list name ≡ false
    → new ≡ old ++ (39 ∷ flat_map spelled_byte (take i name)) → AppendsPrefix old (spelling name) new
quoted_part old name new i word empty is =
    prefix_appended old new (flat_map spelled_byte (drop i name) ++ 39 ∷ []) (spelling name) (
      39 ∷ flat_map spelled_byte (take i name),
      is,
      ap (λ (xs : List ℕ). 39 ∷ xs) (
          sym (append_assoc (flat_map spelled_byte (take i name)) (flat_map spelled_byte (drop i name)) (39 ∷ []))
          ∙ ap (λ (xs : List ℕ). xs ++ 39 ∷ []) (sym (flat_map-append spelled_byte (take i name) (drop i name)) ∙ ap (flat_map spelled_byte) (take-append-drop i name)))
          ∙ sym (spelling_quoted name word empty),
    )
