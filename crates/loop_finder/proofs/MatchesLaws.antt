-- Terms that variables are matched with, in a map by variable.
use Rattle.std.proofs.Common.{◌≡◌, ◌==◌, ℕ, Bool, true, false, nat_eq, if◌then◌else◌, List, [], ◌∷◌, ◌++◌, Option, None, Some, option_map, refl, ap, sym, ◌∙◌, arith}
use Rattle.std.proofs.lemmas.Bool.Decides.{nat_tests}
use Rattle.std.specs.Map.{lookup}
use Rattle.cti_terms.specs.Spell.{tree_of}
use Rattle.cti_terms.specs.Unify.{Binding}
use Rattle.loop_finder.specs.declared.matching.Match.{Match}
use Rattle.loop_finder.specs.Matching.{matched_with}
use Rattle.loop_finder.specs.Matches.{pairs_of}

same_test : (x y : ℕ) → (y == x) ≡ nat_eq x y
same_test x y = grind (arith, nat_tests)

-- what a map has at a variable is what it is matched with
pub matched_by : (es : List (ℕ × Match)) (x : ℕ) → matched_with (pairs_of es) x ≡ option_map (λ m. tree_of m.term.now) (lookup (nat_eq x) es)
matched_by [] x = refl
matched_by (e ∷ es) x = ap (λ b. if b then Some (tree_of e.1.term.now) else matched_with (pairs_of es) x) (same_test x e.0) ∙ go (nat_eq x e.0) (matched_by es x)
  where
    go : (b : Bool) → matched_with (pairs_of es) x ≡ option_map (λ m. tree_of m.term.now) (lookup (nat_eq x) es)
        → (if b then Some (tree_of e.1.term.now) else matched_with (pairs_of es) x) ≡ option_map (λ m. tree_of m.term.now) (if b then Some e.1 else lookup (nat_eq x) es)
    go true later = refl
    go false later = later

-- the same of what contracts see of the map
pub found_as : (s : List Binding) (es : List (ℕ × Match)) (x : ℕ) (r : Option Match) → pairs_of es ≡ s → r ≡ lookup (nat_eq x) es → option_map (λ m. tree_of m.term.now) r ≡ matched_with s x
found_as s es x r v e = ap (option_map (λ m. tree_of m.term.now)) e ∙ sym (matched_by es x) ∙ ap (λ t. matched_with t x) v

-- a variable that is matched with nothing has nothing in the map
pub none_in : (s : List Binding) (es : List (ℕ × Match)) (x : ℕ) → pairs_of es ≡ s → matched_with s x ≡ None → lookup (nat_eq x) es ≡ None
none_in s es x v e = go (lookup (nat_eq x) es) (sym (matched_by es x) ∙ ap (λ t. matched_with t x) v ∙ e)
  where
    go : (r : Option Match) → option_map (λ m. tree_of m.term.now) r ≡ None → r ≡ None
    go None k = refl
    go (Some m) k = cc

-- one more pair at the end
pub pairs_more : (es : List (ℕ × Match)) (e : ℕ × Match) → pairs_of (es ++ e ∷ []) ≡ pairs_of es ++ (e.0, tree_of e.1.term.now) ∷ []
pairs_more [] e = refl
pairs_more (d ∷ es) e = ap (λ l. (d.0, tree_of d.1.term.now) ∷ l) (pairs_more es e)
