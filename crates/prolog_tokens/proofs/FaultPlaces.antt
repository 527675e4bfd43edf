-- A fault stands within its text, or at its end.
use Rattle.std.proofs.Common.{◌≡◌, ℕ, ◌≤◌, List, ◌∷◌, length, drop, Option, Result, Err, ap, subst, arith, length-append, length-drop}
use Rattle.std.proofs.lemmas.Str.{utf8_valid_len_le}
use Rattle.prolog_tokens.specs.Forms.{IsFault, no_token, byte_in_item, byte_after_zero, open_item, escape_in_item, escape_after_zero, fraction, wide}
use Rattle.prolog_tokens.specs.Gaps.{IsCommentFault, broken_line, broken_block, broken_open, unclosed, IsGapFault}
use Rattle.prolog_tokens.specs.Cursor.{Cursor, next_of}
use Rattle.prolog_tokens.specs.Next.{IsNext, HasFault, in_gap, in_token}
use Rattle.prolog_tokens.specs.declared.token.Token.{Token}
use Rattle.prolog_tokens.specs.declared.fault.LexFault.{LexFault}
use Rattle.prolog_tokens.proofs.NextLemmas.{next_is}

abbrev at_of : LexFault → ℕ
at_of f = f.at

token_fault_within : (bytes : List ℕ) (f : LexFault) → IsFault bytes f → f.at ≤ length bytes
token_fault_within bytes f (no_token some none single double is) = omega (arith, ap at_of is)
token_fault_within bytes f (byte_in_item quote body after o h is) = omega (arith, ap at_of is, ap length o.whole, length-append body after)
token_fault_within bytes f (byte_after_zero after whole h is) = omega (arith, ap at_of is, ap length whole)
token_fault_within bytes f (open_item quote body after o h is) = omega (arith, ap at_of is)
token_fault_within bytes f (escape_in_item quote body after o none apart is) = omega (arith, ap at_of is)
token_fault_within bytes f (escape_after_zero after whole none is) = omega (arith, ap at_of is)
token_fault_within bytes f (fraction digits after d are narrow digit whole is) = omega (arith, ap at_of is)
token_fault_within bytes f (wide n text after spells large whole is) = omega (arith, ap at_of is)

comment_fault_within : (bytes : List ℕ) (f : LexFault) → IsCommentFault bytes f → f.at ≤ length bytes
comment_fault_within bytes f (broken_line body after l whole b) = omega (arith, ap at_of b.is, utf8_valid_len_le body, ap length whole, length-append body after)
comment_fault_within bytes f (broken_block body after e whole b) = omega (arith, ap at_of b.is, utf8_valid_len_le body, ap length whole, length-append body (42 ∷ 47 ∷ after))
comment_fault_within bytes f (broken_open body none whole b) = omega (arith, ap at_of b.is, utf8_valid_len_le body, ap length whole)
comment_fault_within bytes f (unclosed body none valid whole is) = omega (arith, ap at_of is)

gap_fault_within : (bytes : List ℕ) (f : LexFault) → IsGapFault bytes f → f.at ≤ length bytes
gap_fault_within bytes f g = omega (arith, ap at_of g.is, comment_fault_within g.after g.in_comment g.is_fault, ap length g.whole, length-append g.gap g.after)

has_within : (c : Cursor) (fault : LexFault) → c.at ≤ length c.text → HasFault c fault → fault.at ≤ length c.text
has_within c fault le (in_gap f h is) = omega (arith, le, ap at_of is, gap_fault_within (drop c.at c.text) f h, length-drop c.at c.text)
has_within c fault le (in_token gap after f whole is_gap apart h is) =
    omega (arith, le, ap at_of is, token_fault_within after f h, ap length whole, length-append gap after, length-drop c.at c.text)

pub fault_within : (c : Cursor) (fault : LexFault) → c.at ≤ length c.text → next_of c ≡ Err fault → fault.at ≤ length c.text
fault_within c fault le is = has_within c fault le (subst (λ (r : Result (Option Token) LexFault). IsNext c r) is (next_is c le))
