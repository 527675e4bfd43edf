-- Bytes that are appended part by part.
use Rattle.std.proofs.Common.{◌≡◌, ℕ, List, [], ◌++◌, length, take, Result, Ok, Err, OnErr, refl, sym, ◌∙◌, ap, append_assoc, append-nil}
use Rattle.std.proofs.lemmas.List.{take_at}
use Rattle.prolog_tokens.specs.Decoding.{AppendsPrefix}

-- some part of all stands after the old bytes, and the rest is to come
abbrev pub Appended : List ℕ → List ℕ → List ℕ → List ℕ → Type 0
Appended old new rest all = (done : List ℕ) × (new ≡ old ++ done) × (done ++ rest ≡ all)

-- what is appended so far is a prefix of all
pub prefix_appended : (old new rest all : List ℕ) → Appended old new rest all → AppendsPrefix old all new
prefix_appended old new rest all h =
    (length h.0, h.1 ∙ ap (λ (xs : List ℕ). old ++ xs) (sym (ap (take (length h.0)) (sym h.2) ∙ take_at h.0 rest (length h.0) refl)))

-- a further part is appended
pub more_appended : (old out new part rest all : List ℕ) → Appended old out (part ++ rest) all → new ≡ out ++ part → Appended old new rest all
more_appended old out new part rest all h is =
    (h.0 ++ part, is ∙ ap (λ (xs : List ℕ). xs ++ part) h.1 ∙ append_assoc old h.0 part, append_assoc h.0 part rest ∙ h.2)

-- nothing is left to append
pub all_appended : (old new rest all : List ℕ) → Appended old new rest all → rest ≡ [] → new ≡ old ++ all
all_appended old new rest all h none =
    h.1 ∙ ap (λ (xs : List ℕ). old ++ xs) (sym (append-nil h.0) ∙ ap (λ (xs : List ℕ). h.0 ++ xs) (sym none) ∙ h.2)

-- the same rest, said otherwise
pub same_rest : (old new rest rest' all : List ℕ) → Appended old new rest all → rest ≡ rest' → Appended old new rest' all
same_rest old new rest rest' all h same = (h.0, h.1, ap (λ (xs : List ℕ). h.0 ++ xs) (sym same) ∙ h.2)

-- a fact that holds holds after an error
pub at_err : {T E : Type 0} (P : Type 0) (r : Result T E) → P → OnErr r P
at_err P (Ok x) h = tt
at_err P (Err e) h = h
