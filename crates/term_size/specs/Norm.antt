-- Private.
-- What a norm is: a size for each term, and which terms are rigid, with the laws that code and proofs rest on.
--
-- To believe: all of this file, over the trees, instances and variables of `cti_terms`.
-- Source: norms and rigid terms, as in Bossi, Cocco and Fabris 1991.
use Rattle.std.specs.Prelude.{◌≡◌, ℕ, suc, Bool, false, IsTrue, ◌↔◌, ℤ, pos, ◌+ℤ◌, ◌*ℤ◌, List, [], ◌∷◌, length, All}
use Rattle.cti_terms.specs.Tree.{Tree, Integer, instance, is_below, is_rigid}

-- the coefficients of the variables from x on, each times the size of its variable
abbrev pub weighted : (ℕ → ℕ) → ℕ → List ℤ → ℤ
weighted s x [] = pos 0
weighted s x (c ∷ coefficients) = (c *ℤ pos (s x)) +ℤ weighted s (suc x) coefficients

-- the value of a row: its constant, and each coefficient times the size of its variable
abbrev pub value_of : List ℤ → (ℕ → ℕ) → ℤ
value_of [] s = pos 0
value_of (constant ∷ coefficients) s = constant +ℤ weighted s 0 coefficients

-- a term is rigid: it is true with all variables false
abbrev pub IsRigid : ((ℕ → Bool) → Tree → Bool) → Tree → Type 0
IsRigid truth t = IsTrue (truth (λ _. false) t)

-- the term is true exactly where each variable of the list is
abbrev pub ListsRigid : ((ℕ → Bool) → Tree → Bool) → Tree → List ℕ → Type 0
ListsRigid truth t variables = (v : ℕ → Bool) → IsTrue (truth v t) ↔ All (λ x. IsTrue (v x)) variables

-- the laws of size and truth, and of the size over the given number of variables as a row
pub record IsNorm (size : (ℕ → ℕ) → Tree → ℕ) (truth : (ℕ → Bool) → Tree → Bool) (expression : ℕ → Tree → List ℤ) : Type 0 where
  -- an instance has the size that the term has at the sizes of what stands for its variables
  pub size_of_instance : (s : ℕ → ℕ) (a : ℕ → Tree) (t : Tree) → size s (instance a t) ≡ size (λ x. size s (a x)) t
  -- and it is true where the term is at the truth of what stands for them
  pub truth_of_instance : (v : ℕ → Bool) (a : ℕ → Tree) (t : Tree) → truth v (instance a t) ≡ truth (λ x. truth v (a x)) t
  -- a rigid term is true whatever its variables are, and has one size
  pub rigid_truth : (v : ℕ → Bool) (t : Tree) → IsRigid truth t → IsTrue (truth v t)
  pub rigid_size : (r s : ℕ → ℕ) (t : Tree) → IsRigid truth t → size r t ≡ size s t
  -- a term without a variable is rigid, and an integer has size 0
  pub closed_truth : (t : Tree) → IsTrue (is_rigid t) → IsRigid truth t
  pub integer_size : (s : ℕ → ℕ) (n : ℤ) → size s (Integer n) ≡ 0
  -- the row has a constant and a number for each variable, and its value is the size
  pub width : (vars : ℕ) (t : Tree) → length (expression vars t) ≡ suc vars
  pub value : (vars : ℕ) (s : ℕ → ℕ) (t : Tree) → IsTrue (is_below vars t) → value_of (expression vars t) s ≡ pos (size s t)
