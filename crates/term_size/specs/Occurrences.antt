-- To believe, for the modes.
-- The row of term size: how many names have arguments, and how often each variable occurs.
--
-- To believe: `size_row`, over `size` of `cti_terms`. That its value is the size is the law `value` of norms.
use Rattle.std.specs.Prelude.{ℕ, zero, suc, ◌+◌, ◌==◌, if◌then◌else◌, ℤ, pos, List, [], ◌∷◌}
use Rattle.cti_terms.specs.Tree.{Tree, Trees, Variable, Integer, Compound, End, More, size}

abbrev mutual
  -- how often a variable occurs in a term
  pub occurrences : ℕ → Tree → ℕ
  occurrences x (Variable y) = if x == y then 1 else 0
  occurrences x (Integer n) = 0
  occurrences x (Compound f ts) = all_occurrences x ts

  -- how often a variable occurs in the arguments
  pub all_occurrences : ℕ → Trees → ℕ
  all_occurrences x End = 0
  all_occurrences x (More t ts) = occurrences x t + all_occurrences x ts

-- how often each of the given number of variables occurs, from x on
abbrev pub occurrences_from : ℕ → ℕ → Tree → List ℤ
occurrences_from x zero t = []
occurrences_from x (suc n) t = pos (occurrences x t) ∷ occurrences_from (suc x) n t

-- the size where each variable has size 0, then how often each variable occurs
abbrev pub size_row : ℕ → Tree → List ℤ
size_row vars t = pos (size (λ _. 0) t) ∷ occurrences_from 0 vars t
