-- Private.
-- A plain tree as a list of marks that gives it back, so that a contract may see a struct as a list of trees.
-- Nothing here has to be believed: `read_back` is proved.
use Rattle.std.specs.Prelude.{◌≡◌, ℕ, ℤ, List, [], ◌∷◌, ◌++◌, take, drop, ◌⊎◌, refl}
use Rattle.std.proofs.Common.{inl, inr, ap, ◌∙◌}
use Rattle.std.specs.Coded.{Coded, code_by, coded×, coded⊎, coded_ℕ, coded_ℤ, coded_list}
use Rattle.cti_terms.specs.Tree.{Tree, Trees, Variable, Integer, Compound, End, More, trees, list_of, arity}

-- a variable, an integer, or a name and how many arguments follow
abbrev pub Mark : Type 0
Mark = ℕ ⊎ (ℤ ⊎ (ℕ × ℕ))

abbrev mutual
  -- the marks of a term, and then these
  pub marks_onto : Tree → List Mark → List Mark
  marks_onto (Variable x) r = inl x ∷ r
  marks_onto (Integer n) r = inr (inl n) ∷ r
  marks_onto (Compound f ts) r = inr (inr (f, arity ts)) ∷ all_marks_onto ts r

  -- the marks of the arguments, and then these
  pub all_marks_onto : Trees → List Mark → List Mark
  all_marks_onto End r = r
  all_marks_onto (More t ts) r = marks_onto t (all_marks_onto ts r)

-- one more mark before terms that were read
abbrev pub placed : Mark → List Tree → List Tree
placed (inl x) ts = Variable x ∷ ts
placed (inr (inl n)) ts = Integer n ∷ ts
placed (inr (inr p)) ts = Compound p.0 (trees (take p.1 ts)) ∷ drop p.1 ts

-- the terms that marks spell, the last one first read
abbrev pub read_marks : List Mark → List Tree
read_marks [] = []
read_marks (m ∷ ms) = placed m (read_marks ms)

-- the first of the terms
abbrev pub first_of_all : List Tree → Tree
first_of_all [] = Variable 0
first_of_all (t ∷ ts) = t

-- the arguments of a term stand before the terms after it
taken : (ts : Trees) (s : List Tree) → trees (take (arity ts) (list_of ts ++ s)) ≡ ts
taken End s = refl
taken (More t ts) s = ap (More t) (taken ts s)

-- and those terms are left
dropped : (ts : Trees) (s : List Tree) → drop (arity ts) (list_of ts ++ s) ≡ s
dropped End s = refl
dropped (More t ts) s = dropped ts s

mutual
  -- the marks of a term give it back
  pub read_back : (t : Tree) (r : List Mark) → read_marks (marks_onto t r) ≡ t ∷ read_marks r
  read_back (Variable x) r = refl
  read_back (Integer n) r = refl
  read_back (Compound f ts) r =
      let e = read_all_back ts r in
      ap (λ s. Compound f (trees (take (arity ts) s)) ∷ drop (arity ts) s) e
      ∙ ap (λ us. Compound f us ∷ drop (arity ts) (list_of ts ++ read_marks r)) (taken ts (read_marks r))
      ∙ ap (λ s. Compound f ts ∷ s) (dropped ts (read_marks r))

  -- and the marks of arguments give them back
  read_all_back : (ts : Trees) (r : List Mark) → read_marks (all_marks_onto ts r) ≡ list_of ts ++ read_marks r
  read_all_back End r = refl
  read_all_back (More t ts) r = read_back t (all_marks_onto ts r) ∙ ap (λ s. t ∷ s) (read_all_back ts r)

-- a term is stored as its marks
abbrev pub coded_tree : Coded Tree
coded_tree =
    code_by (List Mark) (coded_list (coded⊎ coded_ℕ (coded⊎ coded_ℤ (coded× coded_ℕ coded_ℕ)))) (λ t. marks_onto t []) (λ ms. first_of_all (read_marks ms)) (λ t. ap first_of_all (read_back t []))
