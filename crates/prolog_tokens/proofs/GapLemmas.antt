-- Layout and comments, one by one.
use Rattle.std.proofs.Common.{◌≡◌, ℕ, zero, suc, ◌+◌, ◌<◌, ◌≤◌, List, [], ◌∷◌, length, drop, Result, Ok, sym, ◌∙◌, ap, arith}
use Rattle.std.proofs.lemmas.List.{drop-drop}
use Rattle.prolog_tokens.specs.Places.{further}
use Rattle.prolog_tokens.specs.Layout.{space_at, gap_len, gap_past}
use Rattle.prolog_tokens.proofs.PlaceLemmas.{further-further, further-zero}
use Rattle.prolog_tokens.specs.declared.fault.LexFault.{LexFault}

-- the other bytes of a comment
pub gap_len_behind : (n : ℕ) (bs : List ℕ) → n ≤ length bs → gap_len n bs ≡ further n (gap_len 0 (drop n bs))
gap_len_behind zero [] h = sym (further-zero _)
gap_len_behind zero (b ∷ bs) h = sym (further-zero _)
gap_len_behind (suc n) [] h = absurd (omega arith)
gap_len_behind (suc n) (b ∷ bs) h = ap (further 1) (gap_len_behind n bs (omega arith)) ∙ further-further 1 n _ ∙ ap (λ m. further m (gap_len 0 (drop n bs))) (omega arith)

-- a byte of layout or a comment, and then the rest
pub past_space : (n : ℕ) (bs : List ℕ) → Ok n ≡ space_at bs → 0 < n → n ≤ length bs → gap_len 0 bs ≡ further n (gap_len 0 (drop n bs))
past_space n [] is some fits = absurd (omega arith)
past_space zero (b ∷ bs) is some fits = absurd (omega arith)
past_space (suc n) (b ∷ bs) is some fits = ap (λ (r : Result ℕ LexFault). gap_past r (λ m. gap_len m bs)) (sym is) ∙ ap (further 1) (gap_len_behind n bs (omega arith)) ∙ further-further 1 n _ ∙ ap (λ m. further m (gap_len 0 (drop n bs))) (omega arith)

-- what is left of a gap, after n more bytes
pub gap_goes_on : (at n : ℕ) (bs : List ℕ) (all : Result ℕ LexFault) → gap_len 0 (drop at bs) ≡ further n (gap_len 0 (drop n (drop at bs)))
    → further at (gap_len 0 (drop at bs)) ≡ all → further (at + n) (gap_len 0 (drop (at + n) bs)) ≡ all
gap_goes_on at n bs all step before =
    ap (λ (xs : List ℕ). further (at + n) (gap_len 0 xs)) (sym (drop-drop n at bs)) ∙ sym (further-further at n _) ∙ ap (further at) (sym step) ∙ before
