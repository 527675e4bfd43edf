-- Ways along calls.
use Rattle.std.proofs.Common.{ℕ}
use Rattle.call_components.specs.Calls.{Reaches, itself, onward}

-- one way after another
pub along : {calls : ℕ → ℕ → Type 0} {a b c : ℕ} → Reaches calls a b → Reaches calls b c → Reaches calls a c
along itself q = q
along (onward s p) q = onward s (along p q)

-- one call
pub one_call : {calls : ℕ → ℕ → Type 0} {a b : ℕ} → calls a b → Reaches calls a b
one_call s = onward s itself

-- calls of one kind that are calls of another
pub mapped : {calls more : ℕ → ℕ → Type 0} {a b : ℕ} → ((x y : ℕ) → calls x y → more x y) → Reaches calls a b → Reaches more a b
mapped f itself = itself
mapped f (onward {a} {b} s p) = onward (f a b s) (mapped f p)
