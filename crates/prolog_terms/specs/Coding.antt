-- Private.
-- How proofs distinguish clauses: a term as a list of codes that gives it back. Nothing here has to be believed.
use Rattle.std.specs.Prelude.{◌≡◌, ℕ, ℤ, List, [], ◌∷◌, ◌++◌, take, drop, ◌⊎◌, refl}
use Rattle.std.proofs.Common.{inl, inr, ap, ◌∙◌}
use Rattle.std.specs.Coded.{Coded, code_by, coded×, coded⊎, coded_ℕ, coded_ℤ, coded_list}
use Rattle.prolog_grammar.specs.Placed.{Tree, tree, Shape, Var, Int, Fun, Trees, no_trees, more_trees}
use Rattle.prolog_terms.specs.Clauses.{Clause, row, list_of, arity}

-- a place, and a variable, an integer, or a name and how many arguments follow
abbrev pub Code : Type 0
Code = ℕ × (ℕ ⊎ (ℤ ⊎ (ℕ × ℕ)))

abbrev mutual
  -- the codes of a term, and then these
  pub codes_onto : Tree → List Code → List Code
  codes_onto (tree at s) r = shape_codes_onto at s r

  pub shape_codes_onto : ℕ → Shape → List Code → List Code
  shape_codes_onto at (Var v) r = (at, inl v) ∷ r
  shape_codes_onto at (Int i) r = (at, inr (inl i)) ∷ r
  shape_codes_onto at (Fun n ts) r = (at, inr (inr (n, arity ts))) ∷ all_codes_onto ts r

  pub all_codes_onto : Trees → List Code → List Code
  all_codes_onto no_trees r = r
  all_codes_onto (more_trees t ts) r = codes_onto t (all_codes_onto ts r)

-- one more code before terms that were read
abbrev pub decoded : ℕ → ℕ ⊎ (ℤ ⊎ (ℕ × ℕ)) → List Tree → List Tree
decoded at (inl v) ts = tree at (Var v) ∷ ts
decoded at (inr (inl i)) ts = tree at (Int i) ∷ ts
decoded at (inr (inr p)) ts = tree at (Fun p.0 (row (take p.1 ts))) ∷ drop p.1 ts

abbrev pub read_codes : List Code → List Tree
read_codes [] = []
read_codes (c ∷ cs) = decoded c.0 c.1 (read_codes cs)

abbrev pub first_of_all : List Tree → Tree
first_of_all [] = tree 0 (Var 0)
first_of_all (t ∷ ts) = t

taken : (ts : Trees) (s : List Tree) → row (take (arity ts) (list_of ts ++ s)) ≡ ts
taken no_trees s = refl
taken (more_trees t ts) s = ap (more_trees t) (taken ts s)

dropped : (ts : Trees) (s : List Tree) → drop (arity ts) (list_of ts ++ s) ≡ s
dropped no_trees s = refl
dropped (more_trees t ts) s = dropped ts s

mutual
  pub read_back : (t : Tree) (r : List Code) → read_codes (codes_onto t r) ≡ t ∷ read_codes r
  read_back (tree at s) r = read_shape_back at s r

  read_shape_back : (at : ℕ) (s : Shape) (r : List Code) → read_codes (shape_codes_onto at s r) ≡ tree at s ∷ read_codes r
  read_shape_back at (Var v) r = refl
  read_shape_back at (Int i) r = refl
  read_shape_back at (Fun n ts) r =
      let e = read_all_back ts r in
      ap (λ s. tree at (Fun n (row (take (arity ts) s))) ∷ drop (arity ts) s) e
      ∙ ap (λ us. tree at (Fun n us) ∷ drop (arity ts) (list_of ts ++ read_codes r)) (taken ts (read_codes r))
      ∙ ap (λ s. tree at (Fun n ts) ∷ s) (dropped ts (read_codes r))

  read_all_back : (ts : Trees) (r : List Code) → read_codes (all_codes_onto ts r) ≡ list_of ts ++ read_codes r
  read_all_back no_trees r = refl
  read_all_back (more_trees t ts) r = read_back t (all_codes_onto ts r) ∙ ap (λ s. t ∷ s) (read_all_back ts r)

abbrev pub coded_tree : Coded Tree
coded_tree =
    code_by (List Code) (coded_list (coded× coded_ℕ (coded⊎ coded_ℕ (coded⊎ coded_ℤ (coded× coded_ℕ coded_ℕ))))) (λ t. codes_onto t []) (λ cs. first_of_all (read_codes cs)) (λ t. ap first_of_all (read_back t []))

abbrev pub coded_clause : Coded Clause
coded_clause = code_by (Tree × ℕ) (coded× coded_tree coded_ℕ) (λ c. (c.term, c.vars)) (λ p. record { term = p.0; vars = p.1 }) (λ _. refl)
