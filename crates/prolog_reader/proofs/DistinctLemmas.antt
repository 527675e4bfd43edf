-- No text stands twice among names that are put in order.
use Rattle.std.proofs.Common.{◌≡◌, ◌≢◌, ℕ, ◌<◌, true, false, nat_eq, nat_lt, List, [], ◌∷◌, ◌++◌, length, get_or, ap, sym, ◌∙◌, subst, ⊎_elim, ltb-true, ltb-false, true≢false, length-append, arith}
use Rattle.std.specs.List.{AllPairs, list_any}
use Rattle.std.specs.Cmp.Lexicographic.{pointwise}
use Rattle.std.proofs.lemmas.List.Folds.{list_any_at}
use Rattle.std.proofs.Math.ListN.{get_or-append}
use Rattle.std.proofs.Math.Seq.{get_or-append_seam}
use Rattle.prolog_tokens.proofs.CharacterLemmas.{either}
use Rattle.cti_terms.specs.Numbers.{with_text}
use Rattle.prolog_reader.specs.Naming.{with_names}
use Rattle.prolog_operators.proofs.NameLemmas.{itself, text_there, text_away}

abbrev pub AreDistinct : List (List ℕ) → Type 0
AreDistinct names = AllPairs (λ (a b : List ℕ). a ≢ b) names

-- one text more that is new
push_distinct : (xs : List (List ℕ)) (t : List ℕ) → AreDistinct xs → list_any (pointwise nat_eq t) xs ≡ false → AreDistinct (xs ++ t ∷ [])
push_distinct xs t d none i j u l m e = ⊎_elim inside last (either (nat_lt j (length xs)))
  where
    inside : nat_lt j (length xs) ≡ true → ⊥
    inside h =
        let less = ltb-true j (length xs) h in
        d i j u l less (sym (get_or-append xs (t ∷ []) u i (omega (arith, l, less))) ∙ e ∙ get_or-append xs (t ∷ []) u j less)

    last : nat_lt j (length xs) ≡ false → ⊥
    last h =
        let here : j ≡ length xs = omega (arith, m, ltb-false j (length xs) h, length-append xs (t ∷ [])) in
        let before : i < length xs = omega (arith, l, here) in
        let found : get_or xs i u ≡ t = sym (get_or-append xs (t ∷ []) u i before) ∙ e ∙ ap (λ (n : ℕ). get_or (xs ++ t ∷ []) n u) here ∙ get_or-append_seam xs t [] u in
        let same : pointwise nat_eq t (get_or xs i u) ≡ true = ap (pointwise nat_eq t) found ∙ itself t in
        true≢false (sym (list_any_at (pointwise nat_eq t) xs i u before same) ∙ none)

text_distinct : (xs : List (List ℕ)) (t : List ℕ) → AreDistinct xs → AreDistinct (with_text xs t)
text_distinct xs t d = ⊎_elim there away (either (list_any (pointwise nat_eq t) xs))
  where
    there : list_any (pointwise nat_eq t) xs ≡ true → AreDistinct (with_text xs t)
    there h = subst AreDistinct (sym (text_there xs t h)) d

    away : list_any (pointwise nat_eq t) xs ≡ false → AreDistinct (with_text xs t)
    away h = subst AreDistinct (sym (text_away xs t h)) (push_distinct xs t d h)

pub names_distinct : (names : List (List ℕ)) (ts : List (List ℕ)) → AreDistinct names → AreDistinct (with_names names ts)
unfolding with_names
names_distinct names [] d = d
names_distinct names (t ∷ ts) d = names_distinct (with_text names t) ts (text_distinct names t d)

pub none_distinct : AreDistinct []
none_distinct i j u l m e = omega (arith, m)
