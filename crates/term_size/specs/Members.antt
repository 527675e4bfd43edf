-- Private.
-- The members of a set of variables.
--
-- To believe: `members`.
use Rattle.std.specs.Prelude.{ℕ, zero, suc, ◌==◌, if◌then◌else◌, List, [], ◌∷◌}
use Rattle.std.specs.Int.{bit_at}
use Rattle.term_size.specs.declared.var_set.VarSet.{VarSet}

-- which of the given number of numbers, from x on, have their bit set
unfoldable pub members_from : ℕ → ℕ → ℕ → List ℕ
members_from bits x zero = []
members_from bits x (suc n) = if bit_at bits x == 1 then x ∷ members_from bits (suc x) n else members_from bits (suc x) n

-- the variables below 64 whose bit is set, in ascending order
unfoldable pub members : VarSet → List ℕ
members set = members_from set.0 0 64
