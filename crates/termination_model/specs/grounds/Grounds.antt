-- To believe, for the modes.
-- Groundness: families of sets of truth rows, one set for each predicate, that are closed under clauses.
--
-- A truth row has a truth value for each argument of an atom. A set of them is the test of its members. Truth of a
-- term, where each variable has a truth value, is that of a norm.
--
-- To believe: all of this file.
-- Source: groundness by the positive Boolean functions of Marriott and Søndergaard 1993, for a norm's rigid terms.
use Rattle.std.specs.Prelude.{ℕ, Bool, true, IsTrue, List, [], ◌∷◌, map, slice_get, Some, ◌≡◌, IsSomeAnd}
use Rattle.std.specs.List.{AllByRecursion}
use Rattle.cti_terms.specs.Arithmetic.{Arithmetic, kind_of}
use Rattle.cti_terms.specs.Tree.{Tree}
use Rattle.cti_terms.specs.declared.atom_list.Atom.{Atom}
use Rattle.cti_terms.specs.declared.builtins.Builtin.{Builtin}
use Rattle.cti_terms.specs.declared.clauses.Clause.{Clause}
use Rattle.cti_terms.specs.declared.predicates.Pred.{Pred}
use Rattle.cti_terms.specs.Listing.{Listing}

-- a set of truth rows for each predicate, by its number
abbrev pub Family : Type 0
Family = ℕ → List Bool → Bool

-- each row of the first family is in the second
abbrev pub IsInside : Family → Family → Type 0
IsInside f g = (q : ℕ) (row : List Bool) → IsTrue (f q row) → IsTrue (g q row)

-- the predicate of this number has the given arity
abbrev pub HasArity : List Pred → ℕ → ℕ → Type 0
HasArity preds q n = IsSomeAnd (slice_get preds q) (λ p. p.arity ≡ n)

-- each built-in predicate's set has the row of two rigid arguments
abbrev pub HasBuiltins : Arithmetic → Family → Type 0
HasBuiltins ar family = (q : ℕ) (b : Builtin) → kind_of ar q ≡ Some b → IsTrue (family q (true ∷ (true ∷ [])))

module _ (truth : (ℕ → Bool) → Tree → Bool) where
  -- the truth row of an atom
  abbrev pub truth_row : (ℕ → Bool) → Atom → List Bool
  truth_row v a = map (truth v) a.args

  -- the truth row of an atom is in the set of its predicate
  abbrev pub IsGround : Family → (ℕ → Bool) → Atom → Type 0
  IsGround family v a = IsTrue (family a.pred.0 (truth_row v a))

  -- where the truth rows of a clause's body are in their sets, that of its head is
  abbrev pub IsClosedUnder : Family → Clause → Type 0
  IsClosedUnder family k = (v : ℕ → Bool) → AllByRecursion (IsGround family v) k.body → IsGround family v k.head

  -- a family is closed: under each clause, and it has the rows of what is built in
  pub record IsClosed (p : Listing) (family : Family) : Type 0 where
    pub clauses : AllByRecursion (IsClosedUnder family) p.clauses
    pub builtins : HasBuiltins p.arithmetic family

  -- each closed family has the row
  abbrev pub IsInEachClosed : Listing → ℕ → List Bool → Type 0
  IsInEachClosed p q row = (family : Family) → IsClosed p family → IsTrue (family q row)

  -- the least closed family: it is in each closed one
  pub record IsLeast (p : Listing) (family : Family) : Type 0 where
    pub closed : IsClosed p family
    pub least : (other : Family) → IsClosed p other → IsInside family other

  -- what is in each closed family is closed under each clause, and has the rows of what is built in
  pub record InEachClosedIsClosed (p : Listing) : Type 0 where
    pub clauses : AllByRecursion (λ (k : Clause). (v : ℕ → Bool)
        → AllByRecursion (λ (b : Atom). IsInEachClosed p b.pred.0 (truth_row v b)) k.body → IsInEachClosed p k.head.pred.0 (truth_row v k.head)) p.clauses
    pub builtins : (q : ℕ) (b : Builtin) → kind_of p.arithmetic q ≡ Some b → IsInEachClosed p q (true ∷ (true ∷ []))
