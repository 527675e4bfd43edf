-- Private.
-- Matches as the code holds them. Nothing here has to be believed.
use Rattle.std.specs.Prelude.{◌≡◌, ℕ, Bool, true, false, List, map, Option, None, Some}
use Rattle.cti_terms.specs.Spell.{tree_of}
use Rattle.cti_terms.specs.Unify.{Binding}
use Rattle.loop_finder.specs.declared.matching.Match.{Match}

-- a variable and the tree that it is matched with
abbrev pub binding_of : ℕ × Match → Binding
binding_of m = (m.0, tree_of m.1.term.now)

abbrev pub pairs_of : List (ℕ × Match) → List Binding
pairs_of = map binding_of

-- whether matching gives the matches that there are now, or fails
abbrev pub IsMatched : Option (List Binding) → List Binding → Bool → Type 0
IsMatched o now true = o ≡ Some now
IsMatched o now false = o ≡ None
