-- The modes of `app([],L,L).` and `app([H|T],L,[H|R]) :- app(T,L,R).`, with a mapping by the first argument and one by
-- the third.
--
-- The modes [1] and [3] hold. The mode [2] does not, and [3] does not without the second precondition.
use Rattle.std.proofs.Common.{◌≡◌, ℕ, pos, true, false, List, [], ◌∷◌, map, None, refl}
use Rattle.bool_diagrams.specs.declared.cube.Cell.{Cell}
use Rattle.bool_diagrams.specs.declared.cube.Cell.TheVariants.{Zero, One, Any}
use Rattle.call_components.specs.Partition.{Partition}
use Rattle.number_tests.specs.declared.level_part.LevelPart.{LevelPart}
use Rattle.cert_structure.specs.declared.parts.Parts.{Parts}
use Rattle.cti_terms.specs.Arithmetic.{no_arithmetic}
use Rattle.cti_terms.specs.Listing.{Listing}
use Rattle.cti_terms.specs.Tree.{Tree, Variable, Compound, End, More, truth}
use Rattle.cti_terms.specs.declared.atom_list.Atom.{Atom}
use Rattle.termination_model.specs.claims.Descent.{mode_row}
use Rattle.cert_modes.specs.Modes.{ModesHold, allowed, precondition}

abbrev call : List Tree → Atom
call args = record { pred = record { 0 = 0 }; args = args }

abbrev cell : Tree → Tree → Tree
cell head tail = Compound 1 (More head (More tail End))

abbrev append : Listing
append = record {
  preds = record { name = record { 0 = 2 }; arity = 3 } ∷ [];
  clauses = record { head = call (Compound 0 End ∷ Variable 0 ∷ Variable 0 ∷ []); body = []; vars = 1 }
      ∷ record {
        head = call (cell (Variable 0) (Variable 1) ∷ Variable 2 ∷ cell (Variable 0) (Variable 3) ∷ []);
        body = call (Variable 1 ∷ Variable 2 ∷ Variable 3 ∷ []) ∷ [];
        vars = 4;
      }
      ∷ [];
  arithmetic = no_arithmetic;
}

-- one component, which is recursive
abbrev comps : Partition
comps = record { of = 0 ∷ []; members = (0 ∷ []) ∷ []; recursive = true ∷ [] }

abbrev level : List ℕ → LevelPart
level coeffs = record { coeffs = map pos coeffs; offset = pos 0 }

-- these modes, and these preconditions
abbrev parts : List (List ℕ) → List (List (List Cell)) → Parts
parts modes preconditions = record {
  norm = None;
  modes = modes ∷ [];
  rows = [];
  row_proofs = [];
  grounds = ((Zero ∷ Any ∷ Zero ∷ []) ∷ (One ∷ Zero ∷ Zero ∷ []) ∷ (One ∷ One ∷ One ∷ []) ∷ []) ∷ [];
  levels = (level (1 ∷ 0 ∷ 0 ∷ []) ∷ level (0 ∷ 0 ∷ 1 ∷ []) ∷ []) ∷ [];
  falls = [];
  preconditions = preconditions ∷ [];
  refutations = None ∷ [];
}

abbrev both : List (List (List Cell))
both = ((One ∷ Any ∷ Any ∷ []) ∷ []) ∷ ((Any ∷ Any ∷ One ∷ []) ∷ []) ∷ []

-- the rows of the modes [1], [2] and [3]
pub first_is_allowed : allowed append (parts [] both) 0 (mode_row (1 ∷ []) 1 3) ≡ true
first_is_allowed = refl

pub second_is_not_allowed : allowed append (parts [] both) 0 (mode_row (2 ∷ []) 1 3) ≡ false
second_is_not_allowed = refl

pub third_is_allowed : allowed append (parts [] both) 0 (mode_row (3 ∷ []) 1 3) ≡ true
third_is_allowed = refl

-- a row of a precondition, one of whose upper rows is not there, is not allowed
abbrev lower : List (List (List Cell))
lower = ((One ∷ Any ∷ Zero ∷ []) ∷ []) ∷ []

pub row_is_in_the_precondition : precondition append (parts [] lower) 0 0 (true ∷ false ∷ false ∷ []) ≡ true
row_is_in_the_precondition = refl

pub upper_row_is_missing : allowed append (parts [] lower) 0 (true ∷ false ∷ false ∷ []) ≡ false
upper_row_is_missing = refl

-- a mode with another row does not hold
pub second_mode_does_not_hold : ModesHold truth append comps (parts ((2 ∷ []) ∷ []) both) → ⊥
second_mode_does_not_hold hold = let h = (hold.modes 0).0 in cc
