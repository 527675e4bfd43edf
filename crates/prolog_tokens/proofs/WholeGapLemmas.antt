-- The computed gap is all layout and comments at the front, and its fault is the first one.
use Rattle.std.proofs.Common.{◌≡◌, ℕ, zero, suc, ◌+◌, ◌<◌, ◌≤◌, ◌⊎◌, false, List, [], ◌∷◌, ◌++◌, length, drop, Result, Ok, Err, inl, inr, refl, sym, ◌∙◌, ap, subst, append_assoc, length-append, zero-add, arith}
use Rattle.std.proofs.lemmas.List.{drop_at}
use Rattle.prolog_tokens.specs.Places.{fault_at, moved, further}
use Rattle.prolog_tokens.specs.Layout.{space_at, gap_len, gap_past}
use Rattle.prolog_tokens.specs.Gaps.{begins_space, IsSpace, layout, line, block, IsGap, nothing, more, IsGapFault}
use Rattle.prolog_tokens.specs.declared.fault.LexFault.{LexFault}
use Rattle.prolog_tokens.proofs.PlaceLemmas.{further-further, further-zero}
use Rattle.prolog_tokens.proofs.GapLemmas.{past_space}
use Rattle.prolog_tokens.proofs.SpaceLemmas.{IsSpaceAnswer, space_is, space_found, comment_fault_found}

-- The answer is the length of all layout and comments at the front, after which none begins; or it is the first fault.
abbrev pub IsWholeGap : List ℕ → Result ℕ LexFault → Type 0
IsWholeGap bytes answer =
    ((gap : List ℕ) × (after : List ℕ) × (bytes ≡ gap ++ after) × IsGap gap after × (begins_space after ≡ false) × (answer ≡ Ok (length gap)))
    ⊎ ((fault : LexFault) × IsGapFault bytes fault × (answer ≡ Err fault))

-- the gap where nothing begins, or where a comment has a fault
pub gap_ends : (bs : List ℕ) → space_at bs ≡ Ok 0 → gap_len 0 bs ≡ Ok 0
gap_ends [] is = refl
gap_ends (b ∷ bs) is = ap (λ (r : Result ℕ LexFault). gap_past r (λ n. gap_len n bs)) is

gap_fails : (bs : List ℕ) (fault : LexFault) → space_at bs ≡ Err fault → gap_len 0 bs ≡ Err fault
gap_fails [] fault is = cc
gap_fails (b ∷ bs) fault is = ap (λ (r : Result ℕ LexFault). gap_past r (λ n. gap_len n bs)) is

-- after a byte of layout or a comment
gap_past_text : (bs text rest : List ℕ) (n : ℕ) → bs ≡ text ++ rest → length text ≡ n → 0 < n → space_at bs ≡ Ok n → gap_len 0 bs ≡ further n (gap_len 0 rest)
gap_past_text bs text rest n whole count some is =
    past_space n bs (sym is) some (omega (arith, ap length whole, length-append text rest, count))
    ∙ ap (λ (xs : List ℕ). further n (gap_len 0 xs)) (ap (drop n) whole ∙ drop_at text rest n count)

moved-moved : (a b : ℕ) (fault : LexFault) → moved a (moved b fault) ≡ moved (a + b) fault
moved-moved a b fault = ap (fault_at fault.kind) (omega arith)

moved-zero : (fault : LexFault) → moved 0 fault ≡ fault
moved-zero fault = rw zero-add refl

-- one more byte of layout or comment in front
more_gap : (text rest : List ℕ) → IsSpace text rest → (r : Result ℕ LexFault) → IsWholeGap rest r → IsWholeGap (text ++ rest) (further (length text) r)
more_gap text rest space r (inl h) =
    let P : List ℕ → Type 0 = λ xs. IsSpace text xs in
    inl (
      text ++ h.0,
      h.1,
      ap (λ (xs : List ℕ). text ++ xs) h.2 ∙ sym (append_assoc text h.0 h.1),
      more (subst P h.2 space) h.3,
      h.4,
      ap (further (length text)) h.5 ∙ ap (λ n. Ok n) (sym (length-append text h.0)),
    )
more_gap text rest space r (inr h) =
    let P : List ℕ → Type 0 = λ xs. IsSpace text xs in
    let f = h.1 in
    inr (
      moved (length text) h.0,
      record {
        gap = text ++ f.gap;
        after = f.after;
        whole = ap (λ (xs : List ℕ). text ++ xs) f.whole ∙ sym (append_assoc text f.gap f.after);
        is_gap = more (subst P f.whole space) f.is_gap;
        in_comment = f.in_comment;
        is_fault = f.is_fault;
        is = ap (moved (length text)) f.is ∙ moved-moved (length text) (length f.gap) f.in_comment ∙ ap (λ n. moved n f.in_comment) (sym (length-append text f.gap));
      },
      ap (further (length text)) h.2,
    )

gap_by : (bs : List ℕ) (r : Result ℕ LexFault) → space_at bs ≡ r → IsSpaceAnswer bs r → ((rest : List ℕ) → length rest < length bs → IsWholeGap rest (gap_len 0 rest)) → IsWholeGap bs (gap_len 0 bs)
gap_by bs (Ok zero) is h rec = inl ([], bs, refl, nothing, h, gap_ends bs is)
gap_by bs (Ok (suc n)) is h rec =
    let later = more_gap h.text h.rest h.is_space (gap_len 0 h.rest) (rec h.rest (omega (arith, ap length h.whole, length-append h.text h.rest, h.count))) in
    let P : List ℕ → Type 0 = λ xs. IsWholeGap xs (gap_len 0 bs) in
    subst P (sym h.whole) (subst (IsWholeGap (h.text ++ h.rest)) (ap (λ m. further m (gap_len 0 h.rest)) h.count ∙ sym (gap_past_text bs h.text h.rest (suc n) h.whole h.count (omega arith) is)) later)
gap_by bs (Err fault) is h rec = inr (fault, record { gap = []; after = bs; whole = refl; is_gap = nothing; in_comment = fault; is_fault = h; is = sym (moved-zero fault) }, gap_fails bs fault is)

gap_within : (n : ℕ) (bs : List ℕ) → length bs ≤ n → IsWholeGap bs (gap_len 0 bs)
gap_within zero bs short = gap_by bs (space_at bs) refl (space_is bs) (λ rest less. absurd (omega (arith, less)))
gap_within (suc n) bs short = gap_by bs (space_at bs) refl (space_is bs) (λ rest less. gap_within n rest (omega (arith, less)))

pub whole_gap : (bs : List ℕ) → IsWholeGap bs (gap_len 0 bs)
whole_gap bs = gap_within (length bs) bs (omega arith)

space_some : (text after : List ℕ) → IsSpace text after → 0 < length text
space_some text after (layout b t whole) = omega (arith, ap length whole)
space_some text after (line body l u whole) = omega (arith, ap length whole)
space_some text after (block body e u whole) = omega (arith, ap length whole)

-- a gap, and then the rest
pub gap_len-IsGap : {gap after : List ℕ} → IsGap gap after → gap_len 0 (gap ++ after) ≡ further (length gap) (gap_len 0 after)
gap_len-IsGap nothing = sym (further-zero _)
gap_len-IsGap (more {text = text} {rest = rest} {after = after} space is) =
    ap (gap_len 0) (append_assoc text rest after)
    ∙ gap_past_text (text ++ (rest ++ after)) text (rest ++ after) (length text) refl refl (space_some text (rest ++ after) space) (space_found text (rest ++ after) space)
    ∙ ap (further (length text)) (gap_len-IsGap is)
    ∙ further-further (length text) (length rest) (gap_len 0 after)
    ∙ ap (λ n. further n (gap_len 0 after)) (sym (length-append text rest))

-- a fault of the table is the one that is found
pub gap_fault_found : (bytes : List ℕ) (fault : LexFault) → IsGapFault bytes fault → gap_len 0 bytes ≡ Err fault
gap_fault_found bytes fault h =
    ap (gap_len 0) h.whole ∙ gap_len-IsGap h.is_gap ∙ ap (further (length h.gap)) (gap_fails h.after h.in_comment (comment_fault_found h.after h.in_comment h.is_fault)) ∙ ap (λ (f : LexFault). Err f) (sym h.is)
