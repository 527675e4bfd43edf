-- To believe, for reading.
-- A quoted item, computed: how long it is or its fault, and its characters.
--
-- By the forms it is `IsItem` of Forms.antt, as the laws `longest_match` and `items_are_decoded` say.
use Rattle.std.specs.Prelude.{ℕ, zero, suc, ◌-◌, List, [], ◌∷◌, Result, Ok, Err}
use Rattle.prolog_tokens.specs.Places.{fault_at, further}
use Rattle.prolog_tokens.specs.Pieces.{piece_at}
use Rattle.prolog_tokens.specs.declared.piece.Piece.{Piece}
use Rattle.prolog_tokens.specs.declared.piece.Piece.TheVariants.{Character, Dropped, Closing, Fault}
use Rattle.prolog_tokens.specs.declared.fault.LexKind.TheVariants.{Unclosed}
use Rattle.prolog_tokens.specs.declared.fault.LexFault.{LexFault}

-- how long an item is from a piece on, or where its first fault has its cause: what follows goes on after the piece's
-- other bytes
abbrev pub len_past : Piece → (ℕ → Result ℕ LexFault) → Result ℕ LexFault
len_past (Character c n) rest = further 1 (rest (n - 1))
len_past Dropped rest = further 1 (rest 1)
len_past Closing rest = Ok 1
len_past (Fault kind) rest = Err (fault_at kind 0)

-- the same for the bytes after those that belong to an earlier piece
unfoldable pub item_len : ℕ → ℕ → List ℕ → Result ℕ LexFault
item_len quote n [] = Err (fault_at Unclosed 0)
item_len quote (suc n) (b ∷ bs) = further 1 (item_len quote n bs)
item_len quote zero (b ∷ bs) = len_past (piece_at quote (b ∷ bs)) (λ n. item_len quote n bs)

-- the characters of an item from a piece on, up to its end or its first fault
abbrev pub characters_past : Piece → (ℕ → List ℕ) → List ℕ
characters_past (Character c n) rest = c ∷ rest (n - 1)
characters_past Dropped rest = rest 1
characters_past Closing rest = []
characters_past (Fault kind) rest = []

-- the same for the bytes after those that belong to an earlier piece
unfoldable pub item_characters : ℕ → ℕ → List ℕ → List ℕ
item_characters quote n [] = []
item_characters quote (suc n) (b ∷ bs) = item_characters quote n bs
item_characters quote zero (b ∷ bs) = characters_past (piece_at quote (b ∷ bs)) (λ n. item_characters quote n bs)
