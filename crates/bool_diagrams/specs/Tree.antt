-- Private.
-- Boolean functions of the variables 0, 1, 2, .. as decision trees, and the rows on which they are true.
--
-- A row gives each variable its value. A tree is a leaf, or asks one variable and goes on in the low tree
-- where it is false, in the high tree where it is true.
--
-- To believe: `Tree`, `value`. The other words are for private clauses.
-- Source: binary decision diagrams, ordered and reduced, as in Bryant 1986 (Graph-Based Algorithms for Boolean
-- Function Manipulation).
use Rattle.std.specs.Prelude.{ℕ, ◌≡◌, ◌≢◌, ◌+◌, ◌≤◌, ◌==◌, Bool, if◌then◌else◌}

pub data Tree : Type 0 where
  leaf : Bool → Tree
  branch : ℕ → Tree → Tree → Tree

-- the value of a tree on a row
abbrev pub value : Tree → (ℕ → Bool) → Bool
value (leaf b) row = b
value (branch v low high) row = if row v then value high row else value low row

-- the row with another value at one variable
abbrev pub with_value : (ℕ → Bool) → ℕ → Bool → ℕ → Bool
with_value row v b u = if u == v then b else row u

-- two trees have the same rows
abbrev pub SameRows : Tree → Tree → Type 0
SameRows s t = (row : ℕ → Bool) → value s row ≡ value t row

-- the first variable that is asked is at least v
abbrev pub IsFrom : ℕ → Tree → Type 0
IsFrom v (leaf b) = Unit {0}
IsFrom v (branch w low high) = v ≤ w

-- ordered and reduced: variables ascend on each way down, and no two branches are the same
abbrev pub IsReduced : Tree → Type 0
IsReduced (leaf b) = Unit {0}
IsReduced (branch v low high) = IsFrom (v + 1) low × IsFrom (v + 1) high × (low ≢ high) × IsReduced low × IsReduced high
