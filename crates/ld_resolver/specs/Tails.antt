-- Private.
-- Rests of goals that are shared: each is some atoms of a clause, raised, and then an earlier rest.
-- Nothing here has to be believed.
use Rattle.std.specs.Prelude.{◌≡◌, ℕ, zero, suc, ◌≤◌, ◌<◌, List, [], ◌∷◌, ◌++◌, map, length, get_or, slice_get, Some}
use Rattle.cti_terms.specs.declared.atom_list.Atom.{Atom}
use Rattle.cti_terms.specs.Resolve.{raised}
use Rattle.ld_resolver.specs.declared.tails.Tail.{Tail}

-- the rest of a number: 0 is no atoms, and the others count from 1
abbrev pub tail_at : List (List Atom) → ℕ → List Atom
tail_at rests zero = []
tail_at rests (suc i) = get_or rests i []

-- the atoms of a rest, by the rests before it
abbrev pub atoms_of : List (List Atom) → Tail → List Atom
atoms_of rests t = map (raised t.base) t.atoms.now ++ tail_at rests t.next

-- rests with more of them
abbrev pub rests_from : List (List Atom) → List Tail → List (List Atom)
rests_from rests [] = rests
rests_from rests (t ∷ ts) = rests_from (rests ++ atoms_of rests t ∷ []) ts

-- all rests
abbrev pub rests_of : List Tail → List (List Atom)
rests_of = rests_from []

-- a rest has atoms, and goes on with an earlier one
pub record IsTail (i : ℕ) (t : Tail) : Type 0 where
  pub earlier : t.next ≤ i
  pub atoms : 0 < length t.atoms.now

abbrev pub AreTails : List Tail → Type 0
AreTails ts = (i : ℕ) (t : Tail) → slice_get ts i ≡ Some t → IsTail i t
