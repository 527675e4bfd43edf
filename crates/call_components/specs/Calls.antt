-- To believe, for the modes.
-- Who calls whom in a program, and who reaches whom by calls.
--
-- Predicates are identified by their numbers. To believe: `Calls`, `Reaches`.
use Rattle.std.specs.Prelude.{◌≡◌, ℕ, Any}
use Rattle.cti_terms.specs.declared.atom_list.Atom.{Atom}
use Rattle.cti_terms.specs.declared.clauses.Clause.{Clause}
use Rattle.cti_terms.specs.Listing.{Listing}

-- a clause whose head is of a has an atom of b in its body
abbrev pub Calls : Listing → ℕ → ℕ → Type 0
Calls p a b = Any (λ (k : Clause). (k.head.pred.0 ≡ a) × Any (λ (x : Atom). x.pred.0 ≡ b) k.body) p.clauses

-- calls lead from the first to the second: none, or one and then others
pub data Reaches (calls : ℕ → ℕ → Type 0) : ℕ → ℕ → Type 0 where
  itself : {a : ℕ} → Reaches calls a a
  onward : {a b c : ℕ} → calls a b → Reaches calls b c → Reaches calls a c
