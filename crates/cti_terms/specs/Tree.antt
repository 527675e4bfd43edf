-- To believe, for a Yes.
-- Terms as plain trees: what definitions speak of where the code holds terms in memory.
--
-- A term is a variable, an integer without bound, or a name with arguments in order. Variables and names are
-- numbers. An atom of the language, as `a` or `[]`, is a name without arguments.
--
-- To believe: `Tree`, `instance`, `size`, `truth`. The other definitions count and convert.
-- Source: abstract terms of ISO/IEC 13211-1:1995, without floats.
use Rattle.std.specs.Prelude.{ℕ, suc, ◌+◌, ℤ, Bool, true, false, ◌&&◌, nat_lt, List, [], ◌∷◌}

mutual
  -- a variable, an integer, or a name with arguments
  pub data Tree : Type 0 where
    Variable : ℕ → Tree
    Integer : ℤ → Tree
    Compound : ℕ → Trees → Tree

  -- arguments in order
  pub data Trees : Type 0 where
    End : Trees
    More : Tree → Trees → Trees

-- a list as arguments
abbrev pub trees : List Tree → Trees
trees [] = End
trees (t ∷ ts) = More t (trees ts)

-- arguments as a list
abbrev pub list_of : Trees → List Tree
list_of End = []
list_of (More t ts) = t ∷ list_of ts

-- how many arguments there are
abbrev pub arity : Trees → ℕ
arity End = 0
arity (More t ts) = suc (arity ts)

abbrev mutual
  -- how many nodes a term has
  pub nodes_of : Tree → ℕ
  nodes_of (Variable x) = 1
  nodes_of (Integer n) = 1
  nodes_of (Compound f ts) = 1 + all_nodes ts

  -- how many nodes the arguments have together
  pub all_nodes : Trees → ℕ
  all_nodes End = 0
  all_nodes (More t ts) = nodes_of t + all_nodes ts

abbrev mutual
  -- the term with each variable x replaced by a x: a substitution applied
  pub instance : (ℕ → Tree) → Tree → Tree
  instance a (Variable x) = a x
  instance a (Integer n) = Integer n
  instance a (Compound f ts) = Compound f (all_instances a ts)

  -- the same in each argument
  pub all_instances : (ℕ → Tree) → Trees → Trees
  all_instances a End = End
  all_instances a (More t ts) = More (instance a t) (all_instances a ts)

-- 1 for a name with arguments, 0 for one without
abbrev pub is_inner : Trees → ℕ
is_inner End = 0
is_inner (More t ts) = 1

abbrev mutual
  -- the size of a term: the number of its inner nodes, where each variable x counts as s x
  pub size : (ℕ → ℕ) → Tree → ℕ
  size s (Variable x) = s x
  size s (Integer n) = 0
  size s (Compound f ts) = is_inner ts + all_sizes s ts

  -- the sum of the arguments' sizes
  pub all_sizes : (ℕ → ℕ) → Trees → ℕ
  all_sizes s End = 0
  all_sizes s (More t ts) = size s t + all_sizes s ts

abbrev mutual
  -- whether v is true on every variable of a term
  pub truth : (ℕ → Bool) → Tree → Bool
  truth v (Variable x) = v x
  truth v (Integer n) = true
  truth v (Compound f ts) = all_truths v ts

  -- whether v is true on every variable of the arguments
  pub all_truths : (ℕ → Bool) → Trees → Bool
  all_truths v End = true
  all_truths v (More t ts) = truth v t && all_truths v ts

-- whether a term is rigid: it has no variable
abbrev pub is_rigid : Tree → Bool
is_rigid = truth (λ _. false)

-- whether each variable of a term is below n
abbrev pub is_below : ℕ → Tree → Bool
is_below n = truth (λ x. nat_lt x n)
