-- The characters of a text token are scalar values, and no more than its bytes.
use Rattle.std.proofs.Common.{◌≡◌, ◌⊎◌, inl, inr, ℕ, zero, suc, ◌-◌, ◌≤◌, Bool, true, false, ◌||◌, ◌==◌, List, [], ◌∷◌, length, Option, Some, None, refl, sym, subst, ⊎_elim, eqb-true, if◌then◌else◌, arith}
use Rattle.std.specs.Char.{IsScalar}
use Rattle.std.specs.Str.{IsUtf8, all_scalars, encode_utf8_all}
use Rattle.prolog_tokens.specs.Pieces.{escape_of, piece_at}
use Rattle.prolog_tokens.specs.Forms.{SpellsCharacter, doubled, itself, escaped, hexadecimal, octal}
use Rattle.prolog_tokens.specs.Items.{characters_past, item_characters}
use Rattle.prolog_tokens.specs.declared.piece.Piece.{Piece}
use Rattle.prolog_tokens.specs.declared.piece.Piece.TheVariants.{Character, Dropped, Closing, Fault}
use Rattle.prolog_tokens.proofs.PieceLemmas.{IsPiece, piece_is}

abbrev IfScalar : Option ℕ → Type 0
IfScalar (Some c) = IsScalar c
IfScalar None = Unit {0}

if_scalar : (t : Bool) (a b : Option ℕ) → (t ≡ true → IfScalar a) → IfScalar b → IfScalar (if t then a else b)
if_scalar true a b h k = h refl
if_scalar false a b h k = k

or_true : (a b : Bool) → (a || b) ≡ true → (a ≡ true) ⊎ (b ≡ true)
or_true true b h = inl refl
or_true false b h = inr h

equal_scalar : (b n : ℕ) → (b == n) ≡ true → IsScalar n → IsScalar b
equal_scalar b n h k = subst IsScalar (sym (eqb-true b n h)) k

mark_scalar : (b : ℕ) → ((b == 92) || (b == 39) || (b == 34) || (b == 96)) ≡ true → IsScalar b
mark_scalar b h =
    ⊎_elim (λ k. ⊎_elim (λ l. ⊎_elim (λ m. equal_scalar b 92 m refl) (λ m. equal_scalar b 39 m refl) (or_true (b == 92) (b == 39) l)) (λ l. equal_scalar b 34 l refl) (or_true ((b == 92) || (b == 39)) (b == 34) k))
    (λ k. equal_scalar b 96 k refl) (or_true ((b == 92) || (b == 39) || (b == 34)) (b == 96) h)

escaped_scalar : (b : ℕ) → IfScalar (escape_of b)
unfolding escape_of
escaped_scalar b =
    if_scalar (b == 97) _ _ (λ _. refl)
    (if_scalar (b == 98) _ _ (λ _. refl)
    (if_scalar (b == 102) _ _ (λ _. refl)
    (if_scalar (b == 110) _ _ (λ _. refl)
    (if_scalar (b == 114) _ _ (λ _. refl)
    (if_scalar (b == 116) _ _ (λ _. refl)
    (if_scalar (b == 118) _ _ (λ _. refl)
    (if_scalar ((b == 92) || (b == 39) || (b == 34) || (b == 96)) _ _ (mark_scalar b) tt)))))))

spelled_scalar : (c : ℕ) (text : List ℕ) → SpellsCharacter 34 c text → IsScalar c
spelled_scalar c text (doubled is whole) = subst IsScalar (sym is) refl
spelled_scalar c text (itself scalar quotable a b whole) = scalar
spelled_scalar c text (escaped b is whole) = subst IfScalar is (escaped_scalar b)
spelled_scalar c text (hexadecimal digits are scalar number whole) = scalar
spelled_scalar c text (octal digits are scalar number whole) = scalar

-- what is said of the characters of an item
pub record Spells (most : ℕ) (cs : List ℕ) : Type 0 where
  pub scalars : all_scalars cs ≡ true
  pub few : length cs ≤ most

past : (bs : List ℕ) (b : ℕ) (p : Piece) → IsPiece 34 (b ∷ bs) p → ((m : ℕ) → Spells (length bs) (item_characters 34 m bs)) → Spells (suc (length bs)) (characters_past p (λ m. item_characters 34 m bs))
past bs b (Character c n) is more =
    let rest = more (n - 1) in
    record { scalars = rw (spelled_scalar c is.text is.spells, rest.scalars) refl; few = omega (arith, rest.few) }
past bs b Dropped is more = let rest = more 1 in record { scalars = rest.scalars; few = omega (arith, rest.few) }
past bs b Closing is more = record { scalars = refl; few = omega arith }
past bs b (Fault kind) is more = record { scalars = refl; few = omega arith }

pub item_spells : (n : ℕ) (bs : List ℕ) → Spells (length bs) (item_characters 34 n bs)
unfolding item_characters
item_spells n [] = record { scalars = refl; few = omega arith }
item_spells (suc n) (b ∷ bs) = let rest = item_spells n bs in record { scalars = rest.scalars; few = omega (arith, rest.few) }
item_spells zero (b ∷ bs) = past bs b (piece_at 34 (b ∷ bs)) (piece_is 34 (b ∷ bs) (omega arith)) (λ m. item_spells m bs)

-- and so their UTF-8 is one
pub item_utf8 : (bs : List ℕ) → IsUtf8 (encode_utf8_all (item_characters 34 0 bs))
item_utf8 bs = (item_characters 34 0 bs, ((item_spells 0 bs).scalars, refl))
