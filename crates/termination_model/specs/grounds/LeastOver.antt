-- Private.
-- The least family, component by component.
--
-- To believe: `HasMembersBuiltins`, `IsLeastOver`.
use Rattle.std.specs.Prelude.{◌≡◌, ℕ, Bool, true, if◌then◌else◌, IsTrue, List, [], ◌∷◌, slice_get, Some}
use Rattle.cti_terms.specs.Arithmetic.{Arithmetic, kind_of}
use Rattle.cti_terms.specs.Tree.{Tree}
use Rattle.cti_terms.specs.Listing.{Listing}
use Rattle.cti_terms.specs.declared.builtins.Builtin.{Builtin}
use Rattle.cti_terms.specs.declared.clauses.Clause.{Clause}
use Rattle.termination_model.specs.grounds.Grounds.{Family, IsClosedUnder}

-- each built-in predicate that is a member has the row of two rigid arguments
abbrev pub HasMembersBuiltins : Arithmetic → (ℕ → Bool) → Family → Type 0
HasMembersBuiltins ar is_member family = (q : ℕ) (b : Builtin) → kind_of ar q ≡ Some b → is_member q ≡ true → IsTrue (family q (true ∷ (true ∷ [])))

module _ (truth : (ℕ → Bool) → Tree → Bool) (p : Listing) (is_member : ℕ → Bool) where
  -- the rows of members, and those below for other predicates
  abbrev pub over : Family → Family → Family
  over below family q = if is_member q then family q else below q

  -- a family is closed for the members: under each of their clauses, and it has the rows of those that are built in
  pub record IsClosedIn (family : Family) : Type 0 where
    pub clauses : (j : ℕ) (k : Clause) → slice_get p.clauses j ≡ Some k → is_member k.head.pred.0 ≡ true → IsClosedUnder truth family k
    pub builtins : HasMembersBuiltins p.arithmetic is_member family

  -- the least one above the rows of lower predicates: its rows of members are in each that is closed
  pub record IsLeastOver (below family : Family) : Type 0 where
    pub closed : IsClosedIn (over below family)
    pub least : (other : Family) → IsClosedIn (over below other) → (q : ℕ) (row : List Bool) → is_member q ≡ true → IsTrue (family q row) → IsTrue (other q row)
