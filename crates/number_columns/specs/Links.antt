-- Private.
-- Nodes that are linked: each has a parent, which is itself or an earlier node. Nothing here has to be believed.
--
-- Nodes are linked where each function that gives a node what it gives the node's parent gives both the same.
use Rattle.std.specs.Prelude.{◌≡◌, ℕ, suc, ◌+◌, ◌*◌, ◌/◌, ◌%◌, ◌<◌, ◌≤◌, ◌==◌, ◌⊎◌, zero, Bool, true, if◌then◌else◌, List, ◌∷◌, length, slice_get, slice_index_or, Option, Some}
use Rattle.cti_terms.specs.Arithmetic.{Arithmetic}
use Rattle.cti_terms.specs.declared.clauses.Clause.{Clause}
use Rattle.cti_terms.specs.Listing.{Listing}
use Rattle.number_columns.specs.Numeric.{IsClosed, IsEvaluatedIn, Stands}

abbrev pub parent : List ℕ → ℕ → ℕ
parent ps i = slice_index_or ps i 0

-- no parent is a later node
abbrev pub AreFalling : List ℕ → Type 0
AreFalling ps = (i : ℕ) → i < length ps → parent ps i ≤ i

-- f gives each node what it gives its parent
abbrev pub Respects : (ℕ → ℕ) → List ℕ → Type 0
Respects f ps = (i : ℕ) → i < length ps → f (parent ps i) ≡ f i

-- what was linked is linked, and besides nothing but what follows from links of these pairs
pub record LinksMore (pairs : ℕ → ℕ → Type 0) (old new : List ℕ) : Type 0 where
  pub count : length new ≡ length old
  pub falling : AreFalling new
  pub keeps : (f : ℕ → ℕ) → Respects f new → Respects f old
  pub only : (f : ℕ → ℕ) → ((n m : ℕ) → pairs n m → f n ≡ f m) → Respects f old → Respects f new

-- no pair
abbrev pub NoPair : ℕ → ℕ → Type 0
NoPair n m = ⊥

-- this pair
abbrev pub ThisPair : ℕ → ℕ → ℕ → ℕ → Type 0
ThisPair a b n m = (n ≡ a) × (m ≡ b)

-- two nodes are linked
abbrev pub AreLinked : List ℕ → ℕ → ℕ → Type 0
AreLinked ps n m = (f : ℕ → ℕ) → Respects f ps → f n ≡ f m

-- ---- positions as nodes

-- the node of numbers
abbrev pub numbers_node : ℕ
numbers_node = 0

-- the node of a position
abbrev pub node_of : ℕ → ℕ → ℕ
node_of q i = q * 12 + i + 1

-- 1 at the positions of a set and at numbers
abbrev pub mark_of : (ℕ → ℕ → Bool) → ℕ → ℕ
mark_of s zero = 1
mark_of s (suc m) = if s (m / 12) (m % 12) then 1 else 0
