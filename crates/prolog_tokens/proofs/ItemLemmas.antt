-- A quoted item, piece by piece.
use Rattle.std.proofs.Common.{◌≡◌, ℕ, zero, suc, ◌+◌, ◌-◌, ◌<◌, ◌≤◌, List, [], ◌∷◌, length, drop, Result, Ok, Err, refl, sym, ◌∙◌, ap, arith}
use Rattle.std.proofs.lemmas.List.{drop-drop}
use Rattle.prolog_tokens.specs.Places.{fault_at, further}
use Rattle.prolog_tokens.specs.Pieces.{piece_at}
use Rattle.prolog_tokens.specs.Items.{item_len, item_characters}
use Rattle.prolog_tokens.proofs.PlaceLemmas.{further-further, further-zero}
use Rattle.prolog_tokens.specs.declared.piece.Piece.TheVariants.{Character, Dropped, Closing, Fault}
use Rattle.prolog_tokens.specs.declared.fault.LexKind.{LexKind}
use Rattle.prolog_tokens.specs.declared.fault.LexFault.{LexFault}

-- the other bytes of a piece
pub item_len_behind : (quote n : ℕ) (bs : List ℕ) → n ≤ length bs → item_len quote n bs ≡ further n (item_len quote 0 (drop n bs))
unfolding item_len
item_len_behind quote zero [] h = sym (further-zero _)
item_len_behind quote zero (b ∷ bs) h = sym (further-zero _)
item_len_behind quote (suc n) [] h = absurd (omega arith)
item_len_behind quote (suc n) (b ∷ bs) h = ap (further 1) (item_len_behind quote n bs (omega arith)) ∙ further-further 1 n _ ∙ ap (λ m. further m (item_len quote 0 (drop n bs))) (omega arith)

-- a character, and then the rest
pub past_character : (quote c n : ℕ) (bs : List ℕ) → Character c n ≡ piece_at quote bs → 0 < n → n ≤ length bs → item_len quote 0 bs ≡ further n (item_len quote 0 (drop n bs))
unfolding item_len
past_character quote c n [] is some fits = absurd (omega arith)
past_character quote c zero (b ∷ bs) is some fits = absurd (omega arith)
past_character quote c (suc n) (b ∷ bs) is some fits =
    rw (← is) (rw (sub_one n) (ap (further 1) (item_len_behind quote n bs (omega arith)) ∙ further-further 1 n _ ∙ ap (λ m. further m (item_len quote 0 (drop n bs))) (omega arith)))
  where
    sub_one : (n : ℕ) → suc n - 1 ≡ n
    sub_one n = omega arith

-- a backslash and a newline, and then the rest
pub past_dropped : (quote : ℕ) (bs : List ℕ) → Dropped ≡ piece_at quote bs → 2 ≤ length bs → item_len quote 0 bs ≡ further 2 (item_len quote 0 (drop 2 bs))
unfolding item_len
past_dropped quote [] is fits = absurd (omega arith)
past_dropped quote (b ∷ bs) is fits = rw (← is) (ap (further 1) (item_len_behind quote 1 bs (omega arith)) ∙ further-further 1 1 _)

pub at_closing : (quote : ℕ) (bs : List ℕ) → Closing ≡ piece_at quote bs → item_len quote 0 bs ≡ Ok 1
unfolding item_len piece_at
at_closing quote [] is = cc
at_closing quote (b ∷ bs) is = rw (← is) refl

pub at_fault : (quote : ℕ) (kind : LexKind) (bs : List ℕ) → Fault kind ≡ piece_at quote bs → item_len quote 0 bs ≡ Err (fault_at kind 0)
unfolding item_len piece_at
at_fault quote kind [] is = cc
at_fault quote kind (b ∷ bs) is = rw (← is) refl

-- what is left of an item, after n more bytes
pub item_goes_on : (quote at n : ℕ) (bs : List ℕ) (all : Result ℕ LexFault) → item_len quote 0 (drop at bs) ≡ further n (item_len quote 0 (drop n (drop at bs)))
    → further at (item_len quote 0 (drop at bs)) ≡ all → further (at + n) (item_len quote 0 (drop (at + n) bs)) ≡ all
item_goes_on quote at n bs all step before =
    ap (λ (xs : List ℕ). further (at + n) (item_len quote 0 xs)) (sym (drop-drop n at bs)) ∙ sym (further-further at n _) ∙ ap (further at) (sym step) ∙ before

-- the characters after the other bytes of a piece
pub item_characters_behind : (quote n : ℕ) (bs : List ℕ) → n ≤ length bs → item_characters quote n bs ≡ item_characters quote 0 (drop n bs)
unfolding item_characters
item_characters_behind quote zero [] h = refl
item_characters_behind quote zero (b ∷ bs) h = refl
item_characters_behind quote (suc n) [] h = absurd (omega arith)
item_characters_behind quote (suc n) (b ∷ bs) h = item_characters_behind quote n bs (omega arith)

-- a character, and then those of the rest
pub characters_past_character : (quote c n : ℕ) (bs : List ℕ) → Character c n ≡ piece_at quote bs → 0 < n → n ≤ length bs → item_characters quote 0 bs ≡ c ∷ item_characters quote 0 (drop n bs)
unfolding item_characters
characters_past_character quote c n [] is some fits = absurd (omega arith)
characters_past_character quote c zero (b ∷ bs) is some fits = absurd (omega arith)
characters_past_character quote c (suc n) (b ∷ bs) is some fits =
    rw (← is) (rw (sub_one n) (ap (λ (cs : List ℕ). c ∷ cs) (item_characters_behind quote n bs (omega arith))))
  where
    sub_one : (n : ℕ) → suc n - 1 ≡ n
    sub_one n = omega arith

-- a backslash and a newline stand for no character
pub characters_past_dropped : (quote : ℕ) (bs : List ℕ) → Dropped ≡ piece_at quote bs → 2 ≤ length bs → item_characters quote 0 bs ≡ item_characters quote 0 (drop 2 bs)
unfolding item_characters
characters_past_dropped quote [] is fits = absurd (omega arith)
characters_past_dropped quote (b ∷ bs) is fits = rw (← is) (item_characters_behind quote 1 bs (omega arith))

pub characters_at_closing : (quote : ℕ) (bs : List ℕ) → Closing ≡ piece_at quote bs → item_characters quote 0 bs ≡ []
unfolding item_characters
characters_at_closing quote [] is = refl
characters_at_closing quote (b ∷ bs) is = rw (← is) refl

pub characters_at_fault : (quote : ℕ) (kind : LexKind) (bs : List ℕ) → Fault kind ≡ piece_at quote bs → item_characters quote 0 bs ≡ []
unfolding item_characters
characters_at_fault quote kind [] is = refl
characters_at_fault quote kind (b ∷ bs) is = rw (← is) refl
