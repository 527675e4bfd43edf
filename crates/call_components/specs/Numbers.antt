-- Private.
-- Predicates by their numbers.
use Rattle.std.specs.Prelude.{ℕ}
use Rattle.cti_terms.specs.declared.atom_list.Atom.{Atom}
use Rattle.cti_terms.specs.declared.predicates.PredId.{PredId}

-- a predicate's number
abbrev pub number_of : PredId → ℕ
number_of p = p.0

-- the number of the predicate of an atom
abbrev pub called_by_atom : Atom → ℕ
called_by_atom x = x.pred.0
