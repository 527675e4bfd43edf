-- Tables of operators.
use Rattle.std.proofs.Common.{◌≡◌, ℕ, ◌==◌, Bool, true, false, cond, List, [], ◌∷◌, ◌++◌, Option, option_map, refl, sym, ap, ◌∙◌, ⊎_elim, eqb-true, ltb, ltb-true, ltb-false, arith, Less, Equal, Greater}
use Rattle.std.proofs.Math.Path.{fun_ext}
use Rattle.std.proofs.lemmas.Bool.{eqb-false}
use Rattle.std.specs.Ordering.{nat_cmp, is_eq}
use Rattle.std.specs.Cmp.{nat_cmp_is}
use Rattle.std.specs.BTreeMap.{is_at}
use Rattle.prolog_tokens.proofs.CharacterLemmas.{either}
use Rattle.prolog_operators.specs.declared.kind.OpKind.{OpKind}
use Rattle.prolog_operators.specs.Table.{Table, changed, with_operator, with_texts}
use Rattle.cti_terms.specs.Numbers.{number_of}

-- the order of numbers decides whether they are the same
pub same_number : (a b : ℕ) → is_eq (nat_cmp a b) ≡ (a == b)
same_number a b = ⊎_elim yes no (either (a == b))
  where
    yes : (a == b) ≡ true → is_eq (nat_cmp a b) ≡ (a == b)
    yes h = ap is_eq (sym (nat_cmp_is a b Equal (eqb-true a b h))) ∙ sym h

    no : (a == b) ≡ false → is_eq (nat_cmp a b) ≡ (a == b)
    no h = ⊎_elim (λ l. ap is_eq (sym (nat_cmp_is a b Less (ltb-true a b l))) ∙ sym h)
        (λ l. ap is_eq (sym (nat_cmp_is a b Greater (omega (arith, ltb-false a b l, eqb-false a b h)))) ∙ sym h) (either (ltb a b))

-- a meaning that is changed in the map is changed in the table
pub changed_is : {C M : Type 0} (of : C → M) (old new : ℕ → Option C) (name : ℕ) (value : Option C)
    → ((q : ℕ) → new q ≡ cond (is_at (nat_cmp name) q) value (old q)) → (λ n. option_map of (new n)) ≡ changed (λ n. option_map of (old n)) name (option_map of value)
changed_is of old new name value h = fun_ext (λ q. ap (option_map of) (h q) ∙ by_test q (name == q) refl)
  where
    by_test : (q : ℕ) (b : Bool) → (name == q) ≡ b → option_map of (cond (is_at (nat_cmp name) q) value (old q)) ≡ changed (λ n. option_map of (old n)) name (option_map of value) q
    by_test q true e = rw (same_number name q, e) refl
    by_test q false e = rw (same_number name q, e) refl

-- one name more
pub with_texts_push : (names : List (List ℕ)) (table : Table) (priority : ℕ) (kind : OpKind) (ts : List (List ℕ)) (t : List ℕ)
    → with_texts names table priority kind (ts ++ t ∷ []) ≡ with_operator (with_texts names table priority kind ts) priority kind (number_of names t)
with_texts_push names table priority kind [] t = refl
with_texts_push names table priority kind (u ∷ ts) t = with_texts_push names (with_operator table priority kind (number_of names u)) priority kind ts t
