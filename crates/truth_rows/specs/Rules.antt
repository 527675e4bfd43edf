-- To believe, for the modes.
-- When calls stay in sets of truth rows, and rows that are true where marks say so.
--
-- To believe: all of this file.
-- Source: preconditions as in Mesnard and Neumerkel 2001.
use Rattle.std.specs.Prelude.{ℕ, ◌≡◌, ◌==◌, Bool, if◌then◌else◌, List, take, slice_get, slice_index_or, Some}
use Rattle.std.specs.List.{AllByRecursion}
use Rattle.cti_terms.specs.Tree.{Tree}
use Rattle.cti_terms.specs.declared.atom_list.Atom.{Atom}
use Rattle.cti_terms.specs.declared.clauses.Clause.{Clause}
use Rattle.termination_model.specs.grounds.Grounds.{Family, IsGround}

-- two predicates have the same rank
abbrev pub same_rank : List ℕ → ℕ → ℕ → Bool
same_rank ranks q r = slice_index_or ranks q 0 == slice_index_or ranks r 0

-- If the head's row is in `pre`, each call's row is too, where the atoms before the call have their rows in `grounds`:
-- in `pre` where the call's predicate is in the head's component, else in `allowed`
abbrev pub KeepsSets : ((ℕ → Bool) → Tree → Bool) → (pre allowed grounds : Family) → (together : ℕ → Bool) → Clause → Type 0
KeepsSets truth pre allowed grounds together k =
    (v : ℕ → Bool) → IsGround truth pre v k.head
    → (j : ℕ) (b : Atom) → slice_get k.body j ≡ Some b → AllByRecursion (IsGround truth grounds v) (take j k.body)
    → IsGround truth (if together b.pred.0 then pre else allowed) v b
