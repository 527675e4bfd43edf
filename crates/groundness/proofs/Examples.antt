-- The least family of `app([],L,L).` and `app([H|T],L,[H|R]) :- app(T,L,R).`: the third argument of a success is rigid
-- exactly where the first two are.
use Rattle.std.proofs.Common.{◌↔◌, ◌==◌, ◌∙◌, sym, ap, length, slice_get, Some, ◌≡◌, ℕ, zero, suc, Bool, true, false, ◌&&◌, IsTrue, List, [], ◌∷◌, refl}
use Rattle.cti_terms.specs.Tree.{Tree, Variable, Compound, End, More, truth}
use Rattle.cti_terms.specs.Arithmetic.{no_arithmetic}
use Rattle.cti_terms.specs.Listing.{Listing}
use Rattle.cti_terms.specs.declared.atom_list.Atom.{Atom}
use Rattle.cti_terms.specs.declared.clauses.Clause.{Clause}
use Rattle.bool_diagrams.specs.Cubes.{cubes, same_rows, truth_rows}
use Rattle.bool_diagrams.proofs.CallerLemmas.{cubes_at}
use Rattle.bool_diagrams.specs.Rows.{iff}
use Rattle.bool_diagrams.specs.declared.cube.Cell.TheVariants.{Zero, One, Any}
use Rattle.bool_diagrams.specs.Tree.{Tree as Rows}
use Rattle.bool_diagrams.specs.declared.diagram.Diagram.{Diagram}
use Rattle.truth_rows.specs.Sets.{family_of}
use Rattle.termination_model.specs.grounds.Grounds.{Family, IsClosed, IsLeast}

abbrev call : List Tree → Atom
call args = record { pred = record { 0 = 0 }; args = args }

abbrev cell : Tree → Tree → Tree
cell head tail = Compound 1 (More head (More tail End))

abbrev ends : Clause
ends = record { head = call (Compound 0 End ∷ Variable 0 ∷ Variable 0 ∷ []); body = []; vars = 1 }

abbrev goes_on : Clause
goes_on = record {
  head = call (cell (Variable 0) (Variable 1) ∷ Variable 2 ∷ cell (Variable 0) (Variable 3) ∷ []);
  body = call (Variable 1 ∷ Variable 2 ∷ Variable 3 ∷ []) ∷ [];
  vars = 4;
}

abbrev append : Listing
append = record { preds = record { name = record { 0 = 2 }; arity = 3 } ∷ []; clauses = ends ∷ goes_on ∷ []; arithmetic = no_arithmetic }

-- whether the third argument is rigid exactly where the first two are
abbrev append_row : List Bool → Bool
append_row [] = false
append_row (a ∷ []) = false
append_row (a ∷ b ∷ []) = false
append_row (a ∷ b ∷ c ∷ []) = iff (a && b) c
append_row (a ∷ b ∷ c ∷ d ∷ more) = false

abbrev rows : Family
rows zero row = append_row row
rows (suc q) row = false

iff_itself : (b : Bool) → iff b b ≡ true
iff_itself true = refl
iff_itself false = refl

longer_lists : (a b c d : Bool) → iff (b && c) d ≡ true → iff ((a && (b && true)) && c) (a && (d && true)) ≡ true
longer_lists false b c d h = refl
longer_lists true true true true h = h
longer_lists true true true false h = h
longer_lists true true false true h = h
longer_lists true true false false h = h
longer_lists true false true true h = h
longer_lists true false true false h = h
longer_lists true false false true h = h
longer_lists true false false false h = h

rows_are_closed : IsClosed truth append rows
rows_are_closed = record {
  clauses = (λ v body. iff_itself (v 0), (λ v body. longer_lists (v 0) (v 1) (v 2) (v 3) body.0, tt));
  builtins = λ q b is. cc;
}

-- a head that is not rigid, and a tail that is
abbrev one_more : Bool → ℕ → Bool
one_more b zero = false
one_more b (suc zero) = true
one_more b (suc (suc n)) = b

module _ (other : Family) (closed : IsClosed truth append other) where
  of_ends : (b : Bool) → IsTrue (other 0 (true ∷ b ∷ b ∷ []))
  of_ends b = closed.clauses.0 (λ x. b) tt

  of_goes_on : (b : Bool) → IsTrue (other 0 (false ∷ b ∷ false ∷ []))
  of_goes_on b = closed.clauses.1.0 (one_more b) (of_ends b, tt)

  rows_are_needed : (q : ℕ) (row : List Bool) → IsTrue (rows q row) → IsTrue (other q row)
  rows_are_needed zero [] h = cc
  rows_are_needed zero (a ∷ []) h = cc
  rows_are_needed zero (a ∷ b ∷ []) h = cc
  rows_are_needed zero (true ∷ true ∷ true ∷ []) h = of_ends true
  rows_are_needed zero (true ∷ false ∷ false ∷ []) h = of_ends false
  rows_are_needed zero (true ∷ true ∷ false ∷ []) h = cc
  rows_are_needed zero (true ∷ false ∷ true ∷ []) h = cc
  rows_are_needed zero (false ∷ b ∷ false ∷ []) h = of_goes_on b
  rows_are_needed zero (false ∷ b ∷ true ∷ []) h = cc
  rows_are_needed zero (a ∷ b ∷ c ∷ d ∷ more) h = cc
  rows_are_needed (suc q) row h = cc

-- so these are the rows of every answer of `solve` for this program, since two least families have the same rows
pub rows_are_least : IsLeast truth append rows
rows_are_least = record { closed = rows_are_closed; least = λ other closed. rows_are_needed other closed }

-- (0,0,0), (0,1,0), (1,0,0) and (1,1,1), as cubes
pub cubes_of_append : cubes 3 (rows 0) ≡ (Zero ∷ Any ∷ Zero ∷ []) ∷ (One ∷ Zero ∷ Zero ∷ []) ∷ (One ∷ One ∷ One ∷ []) ∷ []
unfolding cubes same_rows
cubes_of_append = refl

-- the rows of every answer of `solve` for this program
pub solved_rows : (trees : List Rows) (sets : List Diagram) → IsLeast truth append (family_of append.preds trees sets)
    → (row : List Bool) → IsTrue (family_of append.preds trees sets 0 row) ↔ IsTrue (rows 0 row)
solved_rows trees sets least row = (
  λ h. least.least rows rows_are_closed 0 row h,
  λ h. rows_are_needed (family_of append.preds trees sets) least.closed 0 row h,
)

bools_agree : (a b : Bool) → IsTrue a ↔ IsTrue b → a ≡ b
bools_agree true b h = sym (h.0 refl)
bools_agree false true h = h.1 refl
bools_agree false false h = refl

-- and the cubes that `paths` gives of it
pub solved_cubes : (trees : List Rows) (sets : List Diagram) (d : Diagram) → slice_get sets 0 ≡ Some d → IsLeast truth append (family_of append.preds trees sets)
    → cubes 3 (truth_rows trees d) ≡ (Zero ∷ Any ∷ Zero ∷ []) ∷ (One ∷ Zero ∷ Zero ∷ []) ∷ (One ∷ One ∷ One ∷ []) ∷ []
solved_cubes trees sets d at least = cubes_at 3 (truth_rows trees d) (rows 0) (λ row three.
    let arity : (3 == length row) ≡ true = rw three refl in
    let has : family_of append.preds trees sets 0 row ≡ truth_rows trees d row = rw at (ap (λ (b : Bool). b && truth_rows trees d row) arity) in
    sym has ∙ bools_agree (family_of append.preds trees sets 0 row) (rows 0 row) (solved_rows trees sets least row)) ∙ cubes_of_append
