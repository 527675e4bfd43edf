-- Private.
-- What may stand between tokens, and the faults of comments.
--
-- To believe: `IsSpace`, `IsGap`, `IsCommentFault`.
-- Source: ISO/IEC 13211-1:1995, 6.4.1, in this project's profile: comments do not nest, and are in UTF-8.
use Rattle.std.specs.Prelude.{◌≡◌, ℕ, ◌+◌, ◌≤◌, ◌||◌, ◌==◌, Bool, true, false, not, List, [], ◌∷◌, ◌++◌, length}
use Rattle.std.specs.Str.{IsUtf8}
use Rattle.std.specs.Str.Lossy.{utf8_valid_len}
use Rattle.prolog_tokens.specs.Bytes.{is_layout, begins_comment}
use Rattle.prolog_tokens.specs.Places.{fault_at, moved}
use Rattle.prolog_tokens.specs.Forms.{Each, IsLineEnd}
use Rattle.prolog_tokens.specs.declared.fault.LexKind.TheVariants.{BadByte, Unclosed}
use Rattle.prolog_tokens.specs.declared.fault.LexFault.{LexFault}

-- a line: no newline is in it, and the line ends there
pub record IsLine (line after : List ℕ) : Type 0 where
  pub no_newline : Each (λ b. not (b == 10)) line
  pub ended : IsLineEnd after

-- `*/` stands nowhere in the bytes
abbrev pub HasNoEnd : List ℕ → Type 0
HasNoEnd bytes = (before after : List ℕ) → bytes ≡ before ++ 42 ∷ 47 ∷ after → ⊥

-- the first `*/` stands right after the body
abbrev pub EndsFirst : List ℕ → Type 0
EndsFirst body = (before after : List ℕ) → body ++ 42 ∷ 47 ∷ [] ≡ before ++ 42 ∷ 47 ∷ after → length body ≤ length before

-- a byte of layout, a comment from `%` to the end of the line, or one from `/*` to the next `*/`, where those bytes
-- follow
pub data IsSpace (text after : List ℕ) : Type 0 where
  layout : (b : ℕ) → is_layout b ≡ true → text ≡ b ∷ [] → IsSpace text after
  line : (body : List ℕ) → IsLine body after → IsUtf8 body → text ≡ 37 ∷ body → IsSpace text after
  block : (body : List ℕ) → EndsFirst body → IsUtf8 body → text ≡ 47 ∷ 42 ∷ (body ++ 42 ∷ 47 ∷ []) → IsSpace text after

-- layout and comments, where those bytes follow
pub data IsGap : List ℕ → List ℕ → Type 0 where
  nothing : {after : List ℕ} → IsGap [] after
  more : {text rest after : List ℕ} → IsSpace text (rest ++ after) → IsGap rest after → IsGap (text ++ rest) after

-- layout or a comment begins the bytes
abbrev pub begins_space : List ℕ → Bool
begins_space [] = false
begins_space (b ∷ bs) = is_layout b || (b == 37) || begins_comment (b ∷ bs)

-- the first byte of the body that is not valid UTF-8, which stands after the given number of bytes
pub record IsBroken (body : List ℕ) (before : ℕ) (fault : LexFault) : Type 0 where
  pub broken : IsUtf8 body → ⊥
  pub is : fault ≡ fault_at BadByte (before + utf8_valid_len body)

-- the faults of a comment, with their places counted from its first byte: a byte that is not valid UTF-8, or no end
pub data IsCommentFault (bytes : List ℕ) (fault : LexFault) : Type 0 where
  broken_line : (body after : List ℕ) → IsLine body after → bytes ≡ 37 ∷ (body ++ after) → IsBroken body 1 fault → IsCommentFault bytes fault
  broken_block : (body after : List ℕ) → EndsFirst body → bytes ≡ 47 ∷ 42 ∷ (body ++ 42 ∷ 47 ∷ after) → IsBroken body 2 fault → IsCommentFault bytes fault
  broken_open : (body : List ℕ) → HasNoEnd body → bytes ≡ 47 ∷ 42 ∷ body → IsBroken body 2 fault → IsCommentFault bytes fault
  unclosed : (body : List ℕ) → HasNoEnd body → IsUtf8 body → bytes ≡ 47 ∷ 42 ∷ body → fault ≡ fault_at Unclosed 0 → IsCommentFault bytes fault

-- the fault of the first comment that has one, after layout and comments without
pub record IsGapFault (bytes : List ℕ) (fault : LexFault) : Type 0 where
  pub gap : List ℕ
  pub after : List ℕ
  pub whole : bytes ≡ gap ++ after
  pub is_gap : IsGap gap after
  pub in_comment : LexFault
  pub is_fault : IsCommentFault after in_comment
  pub is : fault ≡ moved (length gap) in_comment
