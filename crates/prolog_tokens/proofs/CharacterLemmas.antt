-- The character at the front of some bytes.
use Rattle.std.proofs.Common.{◌≡◌, ℕ, ◌+◌, ◌/◌, ◌%◌, ◌<◌, ◌≤◌, Bool, true, false, min, List, [], ◌∷◌, ◌++◌, length, take, drop, subst, ◌&&◌, append_assoc, get_or, Option, Some, None, MatchOption, IfSome, ltb, ◌⊎◌, inl, inr, ⊎_elim, append-nil, length-append, refl, sym, ◌∙◌, ap, arith}
use Rattle.std.specs.Prelude.{slice_get}
use Rattle.std.specs.Char.{IsScalar, encode_utf8, len_utf8}
use Rattle.std.specs.Str.{IsUtf8, is_utf8, chars, continuation_len, all_scalars, encode_utf8_all}
use Rattle.std.proofs.Math.Utf8.{scalar}
use Rattle.std.proofs.lemmas.List.{take_min, take_at, take-append-drop}
use Rattle.std.proofs.lemmas.Bool.{ltb-true, lt-ltb, le-ltb}
use Rattle.std.proofs.lemmas.Str.{is_utf8-from_IsUtf8, IsUtf8-from_is_utf8, IsUtf8-encode, chars-encodes, length-encode}
use Rattle.prolog_tokens.specs.Characters.{character_at}

-- a test passes or fails
pub either : (t : Bool) → (t ≡ true) ⊎ (t ≡ false)
either true = inl refl
either false = inr refl

pub and_true : (a b : Bool) → (a && b) ≡ true → (a ≡ true) × (b ≡ true)
and_true true b h = (refl, h)
and_true false b h = cc

not_utf8 : (bs : List ℕ) → (IsUtf8 bs → ⊥) → is_utf8 bs ≡ false
not_utf8 bs not = by_test (is_utf8 bs) refl
  where
    by_test : (t : Bool) → is_utf8 bs ≡ t → is_utf8 bs ≡ false
    by_test true e = absurd (not (IsUtf8-from_is_utf8 bs e))
    by_test false e = e

-- where the bytes that the first one asks for are a text, its first character is the one
pub character_in : (bs : List ℕ) (n : ℕ) → 0 < length bs → n ≡ min (1 + continuation_len (get_or bs 0 0)) (length bs) → IsUtf8 (take n bs) → character_at bs ≡ slice_get (chars (take n bs)) 0
unfolding character_at
character_in [] n some is text = absurd (omega arith)
character_in (b ∷ bs) n some is text =
    let same : take n (b ∷ bs) ≡ take (1 + continuation_len b) (b ∷ bs) = rw is (take_min (1 + continuation_len b) (b ∷ bs)) in
    let test = ap is_utf8 (sym same) ∙ is_utf8-from_IsUtf8 (take n (b ∷ bs)) text in
    rw (test, same) refl

-- where they are none, there is none
pub no_character : (bs : List ℕ) (n : ℕ) → 0 < length bs → n ≡ min (1 + continuation_len (get_or bs 0 0)) (length bs) → (IsUtf8 (take n bs) → ⊥) → character_at bs ≡ None
unfolding character_at
no_character [] n some is not = absurd (omega arith)
no_character (b ∷ bs) n some is not =
    let same : take n (b ∷ bs) ≡ take (1 + continuation_len b) (b ∷ bs) = rw is (take_min (1 + continuation_len b) (b ∷ bs)) in
    let test = ap is_utf8 (sym same) ∙ not_utf8 (take n (b ∷ bs)) not in
    rw test refl

-- a character is no longer than the text that it stands in
pub character_fits : (r : Option ℕ) (P : Type 0) (front rest : List ℕ) (most : ℕ) → MatchOption r P (λ c. front ≡ encode_utf8 c ++ rest) → length front ≤ most → IfSome r (λ c. len_utf8 c ≤ most)
character_fits None P front rest most h short = tt
character_fits (Some c) P front rest most h short = omega (arith, ap length h, length-append (encode_utf8 c) rest, length-encode c)

-- the first byte of a character, and how many follow it
pub record Encoded (c : ℕ) : Type 0 where
  pub first : ℕ
  pub others : List ℕ
  pub whole : encode_utf8 c ≡ first ∷ others
  pub count : continuation_len first ≡ length others

encoded_by_two : (c : ℕ) → c < 2048 → continuation_len (192 + c / 64) ≡ 1
encoded_by_two c h = rw (le-ltb (192 + c / 64) 128 (omega arith), lt-ltb (192 + c / 64) 224 (omega arith)) refl

encoded_by_three : (c : ℕ) → c < 65536 → continuation_len (224 + c / 4096) ≡ 2
encoded_by_three c h = rw (le-ltb (224 + c / 4096) 128 (omega arith), le-ltb (224 + c / 4096) 224 (omega arith), lt-ltb (224 + c / 4096) 240 (omega arith)) refl

encoded_by_four : (c : ℕ) → continuation_len (240 + c / 262144) ≡ 3
encoded_by_four c = rw (le-ltb (240 + c / 262144) 128 (omega arith), le-ltb (240 + c / 262144) 224 (omega arith), le-ltb (240 + c / 262144) 240 (omega arith)) refl

pub encoded : (c : ℕ) → Encoded c
unfolding encode_utf8
encoded c = ⊎_elim (λ h. one h) (λ h. ⊎_elim (λ h'. two h h') (λ h'. ⊎_elim (λ h''. three h h' h'') (λ h''. four h h' h'') (either (ltb c 65536))) (either (ltb c 2048))) (either (ltb c 128))
  where
    one : ltb c 128 ≡ true → Encoded c
    one h = record { first = c; others = []; whole = rw h refl; count = rw h refl }

    two : ltb c 128 ≡ false → ltb c 2048 ≡ true → Encoded c
    two h h' = record { first = 192 + c / 64; others = (128 + c % 64) ∷ []; whole = rw (h, h') refl; count = encoded_by_two c (ltb-true c 2048 h') }

    three : ltb c 128 ≡ false → ltb c 2048 ≡ false → ltb c 65536 ≡ true → Encoded c
    three h h' h'' = record { first = 224 + c / 4096; others = (128 + c / 64 % 64) ∷ (128 + c % 64) ∷ []; whole = rw (h, h', h'') refl; count = encoded_by_three c (ltb-true c 65536 h'') }

    four : ltb c 128 ≡ false → ltb c 2048 ≡ false → ltb c 65536 ≡ false → Encoded c
    four h h' h'' = record { first = 240 + c / 262144; others = (128 + c / 4096 % 64) ∷ (128 + c / 64 % 64) ∷ (128 + c % 64) ∷ []; whole = rw (h, h', h'') refl; count = encoded_by_four c }

-- a character whose UTF-8 stands at the front is found
pub character_at_encoded : (c : ℕ) (rest : List ℕ) → IsScalar c → character_at (encode_utf8 c ++ rest) ≡ Some c
unfolding character_at
character_at_encoded c rest is =
    let e = encoded c in
    let front : take (1 + continuation_len e.first) (e.first ∷ (e.others ++ rest)) ≡ encode_utf8 c =
    rw (e.count, e.whole) (take_at (e.first ∷ e.others) rest (1 + length e.others) (omega arith)) in
    let one : chars (encode_utf8 c) ≡ c ∷ [] = ap chars (sym (append-nil (encode_utf8 c))) ∙ chars-encodes (c ∷ []) (rw is refl) in
    rw e.whole (rw front (rw (is_utf8-from_IsUtf8 (encode_utf8 c) (IsUtf8-encode c is), one) refl))

-- a character that is found stands at the front
pub record Found (bs : List ℕ) (c : ℕ) : Type 0 where
  pub rest : List ℕ
  pub is_scalar : IsScalar c
  pub whole : bs ≡ encode_utf8 c ++ rest

found_in : (front rest bs cs : List ℕ) (c : ℕ) → bs ≡ front ++ rest → all_scalars cs ≡ true → encode_utf8_all cs ≡ front → slice_get cs 0 ≡ Some c → Found bs c
found_in front rest bs [] c whole scalars spelled first = cc
found_in front rest bs (d ∷ cs) c whole scalars spelled first =
    let same : d ≡ c = cc in
    let P : ℕ → Type 0 = λ x. Found bs x in
    subst P same (record {
      rest = encode_utf8_all cs ++ rest;
      is_scalar = (and_true (scalar d) (all_scalars cs) scalars).0;
      whole = whole ∙ ap (λ (xs : List ℕ). xs ++ rest) (sym spelled) ∙ append_assoc (encode_utf8 d) (encode_utf8_all cs) rest;
    })

pub character_at_found : (bs : List ℕ) (c : ℕ) → character_at bs ≡ Some c → Found bs c
unfolding character_at
character_at_found [] c is = cc
character_at_found (b ∷ bs) c is = ⊎_elim (λ t. text t) (λ f. absurd (none f)) (either (is_utf8 (take (1 + continuation_len b) (b ∷ bs))))
  where
    none : is_utf8 (take (1 + continuation_len b) (b ∷ bs)) ≡ false → ⊥
    none f = let h = rw f at is in cc

    text : is_utf8 (take (1 + continuation_len b) (b ∷ bs)) ≡ true → Found (b ∷ bs) c
    text t =
        let front = take (1 + continuation_len b) (b ∷ bs) in
        let u = IsUtf8-from_is_utf8 front t in
        let first = rw t at is in
        let cs = ap chars (sym u.1.1) ∙ chars-encodes u.0 u.1.0 in
        found_in front (drop (1 + continuation_len b) (b ∷ bs)) (b ∷ bs) u.0 c (sym (take-append-drop (1 + continuation_len b) (b ∷ bs))) u.1.0 u.1.1 (ap (λ (xs : List ℕ). slice_get xs 0) (sym cs) ∙ first)
