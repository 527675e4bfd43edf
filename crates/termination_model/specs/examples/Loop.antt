-- Private.
-- An example: the query of p, where p calls itself, is not bounded.
use Rattle.std.specs.Prelude.{ℕ, [], ◌∷◌}
use Rattle.cti_terms.specs.declared.atom_list.Atom.{Atom}
use Rattle.cti_terms.specs.Arithmetic.{no_arithmetic}
use Rattle.cti_terms.specs.Listing.{Listing}
use Rattle.cti_terms.specs.Derive.{Bounded}

abbrev pub proposition : Atom
proposition = record { pred = record { 0 = 0 }; args = [] }

-- p :- p.
abbrev pub loop : Listing
loop = record {
  preds = record { name = record { 0 = 0 }; arity = 0 } ∷ [];
  clauses = record { head = proposition; body = proposition ∷ []; vars = 0 } ∷ [];
  arithmetic = no_arithmetic;
}

abbrev pub LoopGoesOn : Type 0
LoopGoesOn = (n : ℕ) → ¬ Bounded loop (record { atoms = proposition ∷ []; fresh = n })
