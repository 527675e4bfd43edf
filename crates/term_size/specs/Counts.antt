-- Private.
-- What counting leaves, for private clauses. Nothing here has to be believed.
use Rattle.std.specs.Prelude.{◌≡◌, ℕ, ◌+◌, ◌<◌, ◌^◌, slice_index_or, IsTrue, nat_lt}
use Rattle.cti_terms.specs.Tree.{Tree, Trees, size, all_sizes, all_truths}
use Rattle.term_size.specs.declared.counting.Counts.{Counts}
use Rattle.term_size.specs.Occurrences.{occurrences, all_occurrences}

-- each number stays in range when n more are counted
pub record HasRoom (n : ℕ) (counts : Counts) : Type 0 where
  pub names : counts.names + n < 2 ^ 32
  pub variables : (x : ℕ) → x < 48 → slice_index_or counts.variables x 0 + n < 2 ^ 32

-- a given number of names more, and of each variable
pub record Adds (more : ℕ) (occurring : ℕ → ℕ) (old new : Counts) : Type 0 where
  pub names : new.names ≡ old.names + more
  pub variables : (x : ℕ) → x < 48 → slice_index_or new.variables x 0 ≡ slice_index_or old.variables x 0 + occurring x

-- a term was counted
abbrev pub AddsTerm : Tree → Counts → Counts → Type 0
AddsTerm t = Adds (size (λ _. 0) t) (λ x. occurrences x t)

-- terms were counted
abbrev pub AddsTerms : Trees → Counts → Counts → Type 0
AddsTerms ts = Adds (all_sizes (λ _. 0) ts) (λ x. all_occurrences x ts)

-- these are the numbers of a term
pub record AreOf (t : Tree) (counts : Counts) : Type 0 where
  pub names : counts.names ≡ size (λ _. 0) t
  pub variables : (x : ℕ) → x < 48 → slice_index_or counts.variables x 0 ≡ occurrences x t

-- each variable of the arguments is below n
abbrev pub AreBelow : ℕ → Trees → Type 0
AreBelow n ts = IsTrue (all_truths (λ x. nat_lt x n) ts)
