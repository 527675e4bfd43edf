-- What is built in depends on names and arities alone, so it is the same in the programs of all lists of clauses.
use Rattle.std.proofs.Common.{◌≡◌, ◌∙◌, ℕ, zero, suc, ◌+◌, ◌<◌, ◌==◌, Bool, true, false, if◌then◌else◌, List, [], ◌∷◌, ◌++◌, slice_get, Option, None, Some, refl, ap, sym, arith, eqb-true}
use Rattle.std.specs.Prelude.{◌≢◌}
use Rattle.std.proofs.lemmas.Bool.{eq-eqb}
use Rattle.clause_normal.specs.Definite.{program_of, rules_of}
use Rattle.clause_normal.specs.Numbering.{arithmetic_of, builtin_at, builtins_from, empty_program, kind_of_pred, with_rule, with_rules}
use Rattle.clause_normal.specs.Rules.{Rule}
use Rattle.cti_terms.specs.Arithmetic.{kind_among, kind_of}
use Rattle.cti_terms.specs.Listing.{Listing}
use Rattle.cti_terms.specs.declared.builtins.Builtin.{Builtin}
use Rattle.cti_terms.specs.declared.predicates.Pred.{Pred}
use Rattle.cti_terms.specs.declared.predicates.PredId.{PredId}
use Rattle.prolog_terms.specs.Clauses.{Clause}

-- the kind of another number stands after the first
after_other : (i n : ℕ) (k : Option Builtin) (bs : List (PredId × Builtin)) → i ≢ n → kind_among (builtin_at i k ++ bs) n ≡ kind_among bs n
after_other i n None bs other = refl
after_other i n (Some b) bs other = go (i == n) refl
  where
    go : (t : Bool) → (i == n) ≡ t → (if t then Some b else kind_among bs n) ≡ kind_among bs n
    go true e = absurd (other (eqb-true i n e))
    go false e = refl

-- the kind of the first number
at_first : (i : ℕ) (k : Option Builtin) (bs : List (PredId × Builtin)) → kind_among bs i ≡ None → kind_among (builtin_at i k ++ bs) i ≡ k
at_first i None bs none = none
at_first i (Some b) bs none = ap (λ (t : Bool). if t then Some b else kind_among bs i) (eq-eqb i i refl)

module _ (names : List (List ℕ)) where
  no_kind_below : (i n : ℕ) (ps : List Pred) → n < i → kind_among (builtins_from names i ps) n ≡ None
  no_kind_below i n [] less = refl
  no_kind_below i n (p ∷ ps) less = after_other i n (kind_of_pred names p) (builtins_from names (suc i) ps) (λ e. omega (arith, e, less)) ∙ no_kind_below (suc i) n ps (omega (arith, less))

  kind_from : (i q : ℕ) (ps : List Pred) (x : Pred) → slice_get ps q ≡ Some x → kind_among (builtins_from names i ps) (i + q) ≡ kind_of_pred names x
  kind_from i q [] x e = cc
  kind_from i zero (p ∷ ps) x e =
      let same : p ≡ x = cc in
      let here : i + 0 ≡ i = omega arith in
      ap (kind_among (builtins_from names i (p ∷ ps))) here ∙ at_first i (kind_of_pred names p) (builtins_from names (suc i) ps) (no_kind_below (suc i) i ps (omega arith)) ∙ ap (kind_of_pred names) same
  kind_from i (suc q) (p ∷ ps) x e =
      let next : i + suc q ≡ suc i + q = omega arith in
      after_other i (i + suc q) (kind_of_pred names p) (builtins_from names (suc i) ps) (λ d. omega (arith, d))
      ∙ ap (kind_among (builtins_from names (suc i) ps)) next ∙ kind_from (suc i) q ps x e

  with_arithmetic : (p : Listing) (rs : List Rule) → p.arithmetic ≡ arithmetic_of names p.preds → (with_rules names p rs).arithmetic ≡ arithmetic_of names (with_rules names p rs).preds
  with_arithmetic p [] h = h
  with_arithmetic p (r ∷ rs) h = with_arithmetic (with_rule names p r) rs refl

  -- the kind of a predicate is what its name and arity say
  pub kind_is : (p : Listing) (cs : List Clause) (q : ℕ) (x : Pred) → p ≡ program_of names cs → slice_get p.preds q ≡ Some x → kind_of p.arithmetic q ≡ kind_of_pred names x
  kind_is p cs q x is at =
      let whole = program_of names cs in
      let own : whole.arithmetic ≡ arithmetic_of names whole.preds = with_arithmetic (empty_program names) (rules_of names cs) refl in
      let from_first : q ≡ 0 + q = omega arith in
      let here : slice_get whole.preds q ≡ Some x = ap (λ (l : Listing). slice_get l.preds q) (sym is) ∙ at in
      ap (λ (l : Listing). kind_of l.arithmetic q) is ∙ ap (λ a. kind_of a q) own ∙ ap (kind_among (builtins_from names 0 whole.preds)) from_first ∙ kind_from 0 q whole.preds x here
