-- Private.
-- The next token of a text from a place on, where none is left, and where there is a fault.
--
-- To believe: `IsNextToken`, `HasFault`, over the words of Forms.antt and Gaps.antt. That the computed `next_of` says
-- the same is the law `longest_match`.
use Rattle.std.specs.Prelude.{◌≡◌, ℕ, ◌+◌, false, List, [], ◌++◌, length, drop, Option, Some, None, Result, Ok, Err}
use Rattle.prolog_tokens.specs.Places.{moved}
use Rattle.prolog_tokens.specs.Forms.{IsLongest, IsFault}
use Rattle.prolog_tokens.specs.Gaps.{IsGap, begins_space, IsGapFault}
use Rattle.prolog_tokens.specs.Cursor.{Cursor}
use Rattle.prolog_tokens.specs.declared.token.Token.{Token}
use Rattle.prolog_tokens.specs.declared.fault.LexFault.{LexFault}

-- After all layout and comments stands the longest text of a form, and that is the token.
pub record IsNextToken (c : Cursor) (t : Token) : Type 0 where
  pub gap : List ℕ
  pub text : List ℕ
  pub after : List ℕ
  pub whole : drop c.at c.text ≡ gap ++ (text ++ after)
  pub is_gap : IsGap gap (text ++ after)
  pub no_space : begins_space (text ++ after) ≡ false
  pub longest : IsLongest (text ++ after) t.kind text after
  pub start : t.start ≡ c.at + length gap
  pub end : t.end ≡ t.start + length text

-- A comment has a fault, or the token after all layout and comments has one.
pub data HasFault (c : Cursor) (fault : LexFault) : Type 0 where
  in_gap : (f : LexFault) → IsGapFault (drop c.at c.text) f → fault ≡ moved c.at f → HasFault c fault
  in_token : (gap after : List ℕ) (f : LexFault) → drop c.at c.text ≡ gap ++ after → IsGap gap after → begins_space after ≡ false → IsFault after f
      → fault ≡ moved (c.at + length gap) f → HasFault c fault

-- what the next answer says: nothing but layout and comments is left; the next token; or the fault
abbrev pub IsNext : Cursor → Result (Option Token) LexFault → Type 0
IsNext c (Ok None) = IsGap (drop c.at c.text) []
IsNext c (Ok (Some t)) = IsNextToken c t
IsNext c (Err fault) = HasFault c fault
