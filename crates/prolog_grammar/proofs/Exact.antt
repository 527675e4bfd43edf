-- There is one reading, and one first fault.
use Rattle.std.proofs.Common.{◌≡◌, ℕ, List, [], ◌∷◌, ◌++◌, Ok, Err, refl, ap, sym, ◌∙◌, subst, append_assoc, ◌⊎◌, inl, inr}
use Rattle.prolog_grammar.specs.Token.{Token, End}
use Rattle.prolog_grammar.specs.Rules.{Rules}
use Rattle.prolog_grammar.specs.Grammar.{TermOf}
use Rattle.prolog_grammar.specs.Fault.{CanGoOn, CannotGoOn, IsUnexpected}
use Rattle.prolog_grammar.specs.Machine.{Outcome, go, start}
use Rattle.prolog_grammar.proofs.Complete.{complete}
use Rattle.prolog_grammar.proofs.Sound.{sound}
use Rattle.prolog_grammar.proofs.First.{unexpected}

ok_is : {T : Type 0} (x y : T × List Token) → ◌≡◌ {A = Outcome T} (Ok x) (Ok y) → x ≡ y
ok_is x y h = cc

pub one_reading : {T : Type 0} (rules : Rules T) (us rest rest' : List Token) (t t' : T) (p p' : ℕ) → TermOf rules us (End ∷ rest) 1200 t p
    → TermOf rules us (End ∷ rest') 1200 t' p' → (t ≡ t') × (rest ≡ rest')
one_reading {T = T} rules us rest rest' t t' p p' h h' =
    let e = ok_is (t, rest) (t', rest') (sym (complete h) ∙ complete h') in
    (ap (λ (x : T × List Token). x.0) e, ap (λ (x : T × List Token). x.1) e)

-- two cuts of a list: the same, or one further on
abbrev Beyond : List Token → List Token → List Token → List Token → Type 0
Beyond a x b y = (token : Token) × (m : List Token) × (x ≡ token ∷ (m ++ y)) × (b ≡ a ++ token ∷ m)

further : (token : Token) (a x b y : List Token) → Beyond a x b y → Beyond (token ∷ a) x (token ∷ b) y
further token a x b y h = (h.0, h.1, h.2, ap (λ xs. token ∷ xs) h.3)

cut : (a x b y : List Token) → a ++ x ≡ b ++ y → (x ≡ y) ⊎ (Beyond a x b y ⊎ Beyond b y a x)
cut [] x [] y e = inl e
cut [] x (token ∷ b) y e = inr (inl (token, b, e, refl))
cut (token ∷ a) x [] y e = inr (inr (token, a, sym e, refl))
cut (token ∷ a) x (tok' ∷ b) y e =
    let same : token ≡ tok' = cc in
    let rest : a ++ x ≡ b ++ y = cc in
    elim (cut a x b y rest) [
      | inl h ↦ inl h
      | inr (inl h) ↦ inr (inl (subst (λ z. Beyond (token ∷ a) x (z ∷ b) y) same (further token a x b y h)))
      | inr (inr h) ↦ inr (inr (subst (λ z. Beyond (z ∷ b) y (token ∷ a) x) same (further token b y a x h)))
    ]

-- where tokens can go on, so can those before
can_before : {T : Type 0} (rules : Rules T) (before : List Token) (token : Token) (m : List Token) → CanGoOn rules (before ++ token ∷ m)
    → CanGoOn rules (before ++ token ∷ [])
can_before rules before token m can =
    (m ++ can.0, (can.1.0, can.1.1, subst (λ us. TermOf rules us (End ∷ []) 1200 can.1.0 can.1.1) (append_assoc before (token ∷ m) can.0 ∙ sym (append_assoc before (token ∷ []) (m ++ can.0))) can.1.2))

not_beyond : {T : Type 0} (rules : Rules T) (us rest rest' : List Token) (h : IsUnexpected rules us rest) (h' : IsUnexpected rules us rest')
    → Beyond h.before rest h'.before rest' → ⊥
not_beyond rules us rest rest' h h' far =
    subst (λ xs. CannotGoOn rules h.before xs) far.2 h.cannot (can_before rules h.before far.0 far.1 (subst (λ xs. CanGoOn rules xs) far.3 h'.can))

pub one_fault : {T : Type 0} (rules : Rules T) (us rest rest' : List Token) → IsUnexpected rules us rest → IsUnexpected rules us rest' → rest ≡ rest'
one_fault rules us rest rest' h h' = elim (cut h.before rest h'.before rest' (sym h.whole ∙ h'.whole)) [
  | inl e ↦ e
  | inr (inl far) ↦ absurd (not_beyond rules us rest rest' h h' far)
  | inr (inr far) ↦ absurd (not_beyond rules us rest' rest h' h far)
]

-- what is unexpected, the machine refuses
pub refuses : {T : Type 0} (rules : Rules T) (us rest : List Token) → IsUnexpected rules us rest → go rules start us ≡ Err rest
refuses {T = T} rules us rest h = by_outcome (go rules start us) refl
  where
    by_outcome : (x : Outcome T) → go rules start us ≡ x → x ≡ Err rest
    by_outcome (Ok r) e = let reading = sound rules us r.1 r.0 e in absurd (h.unread r.0 reading.0 r.1 reading.1)
    by_outcome (Err rest') e = ap Err (one_fault rules us rest' rest (unexpected rules us rest' e) h)
