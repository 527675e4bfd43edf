-- Private.
-- The laws of systems over columns.
use Rattle.std.specs.Prelude.{◌≡◌, ℕ, ℤ, List, ◌++◌, map}
use Rattle.std.specs.List.{AllByRecursion}
use Rattle.cti_terms.specs.Tree.{Tree}
use Rattle.cti_terms.specs.declared.atom_list.Atom.{Atom}
use Rattle.termination_model.specs.sizes.Systems.{system as norm_system}
use Rattle.termination_model.specs.columns.ColumnClaims.{Claims, system}
use Rattle.termination_model.specs.columns.NormColumns.{norm_columns}
use Rattle.number_columns.specs.ColumnSystems.{of_sizes}

-- the system of more atoms begins with that of fewer
abbrev pub SystemsExtend : Type 0
SystemsExtend = (c : Claims) (vars : ℕ) (xs ys : List Atom) → system c vars (xs ++ ys) ≡ system c vars xs ++ system c vars ys

-- a system depends on columns, kinds and size rows alone
abbrev pub SystemsAreOfSizes : Type 0
SystemsAreOfSizes = (c : Claims) (vars : ℕ) (bs : List Atom) → system c vars bs ≡ system (of_sizes c.columns c.kinds c.rows) vars bs

-- where each argument has the one column of a norm, the system is that over the norm
abbrev pub SystemsOfNorms : Type 0
SystemsOfNorms = (c : Claims) (size : (ℕ → ℕ) → Tree → ℕ) (expression : ℕ → Tree → List ℤ) → c.columns ≡ norm_columns size expression
    → (vars : ℕ) (bs : List Atom) → AllByRecursion (λ (b : Atom). c.kinds b.pred.0 ≡ map (λ _. 1) b.args) bs → system c vars bs ≡ norm_system expression c.rows vars bs
