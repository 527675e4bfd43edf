-- To believe, for reading.
-- Terms without their places, and their variables.
--
-- To believe: all of this file.
use Rattle.std.specs.Prelude.{ℕ, List, [], ◌∷◌, ◌++◌, Bool, nat_eq, count_by, if◌then◌else◌}
use Rattle.std.specs.List.{list_any, position_or_len}
use Rattle.cti_terms.specs.Tree.{Tree as Term, Trees as Terms, Variable, Integer, Compound, End, More, instance}
use Rattle.prolog_grammar.specs.Placed.{Tree, tree, Shape, Var, Int, Fun, Trees, no_trees, more_trees}

abbrev mutual
  -- the term without its places
  pub plain : Tree → Term
  plain (tree at s) = plain_shape s

  pub plain_shape : Shape → Term
  plain_shape (Var v) = Variable v
  plain_shape (Int i) = Integer i
  plain_shape (Fun f ts) = Compound f (plain_terms ts)

  pub plain_terms : Trees → Terms
  plain_terms no_trees = End
  plain_terms (more_trees t ts) = More (plain t) (plain_terms ts)

-- the arguments without their places
abbrev pub plain_list : Trees → List Term
plain_list no_trees = []
plain_list (more_trees t ts) = plain t ∷ plain_list ts

abbrev mutual
  -- the variables of a term from left to right, with repetitions
  pub variables : Term → List ℕ
  variables (Variable x) = x ∷ []
  variables (Integer n) = []
  variables (Compound f ts) = all_variables ts

  pub all_variables : Terms → List ℕ
  all_variables End = []
  all_variables (More t ts) = variables t ++ all_variables ts

-- the variables of some terms
abbrev pub list_variables : List Term → List ℕ
list_variables [] = []
list_variables (t ∷ ts) = variables t ++ list_variables ts

-- the variables of a term with places
abbrev pub occurrences : Tree → List ℕ
occurrences t = variables (plain t)

-- how often a variable is among these
abbrev pub count : List ℕ → ℕ → ℕ
count xs x = count_by (nat_eq x) xs

-- whether a number is among these
abbrev pub is_among : List ℕ → ℕ → Bool
is_among xs x = list_any (nat_eq x) xs

-- these numbers, and one more, if it is not among them
abbrev pub with_number : List ℕ → ℕ → List ℕ
with_number xs x = if is_among xs x then xs else xs ++ x ∷ []

-- these numbers, and others after them, each once, in order of first occurrence
abbrev pub with_numbers : List ℕ → List ℕ → List ℕ
with_numbers xs [] = xs
with_numbers xs (y ∷ ys) = with_numbers (with_number xs y) ys

-- each of these numbers once, in order of first occurrence
abbrev pub firsts : List ℕ → List ℕ
firsts = with_numbers []

-- the term with each variable numbered by its place in a list
abbrev pub renumbered : List ℕ → Term → Term
renumbered order = instance (λ x. Variable (position_or_len (nat_eq x) order))
