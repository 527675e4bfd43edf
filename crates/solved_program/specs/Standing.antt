-- Private.
-- Where a component of a new program stands for one of the old program, and that it then keeps what was found of it.
--
-- It stands where its clauses are the clauses of that one, all of them and in their order, and where what they call
-- outside the component has come out as it was. What has come out is one value for each predicate, as its size rows.
--
-- To believe: `StandsFor`, `KeepValues`.
use Rattle.std.specs.Prelude.{◌≡◌, ℕ, ◌-◌, ◌<◌, ◌⊎◌, List, [], ◌∷◌, length, slice_get, Option, Some}
use Rattle.call_components.specs.Partition.{Partition, IsIn}
use Rattle.cti_terms.specs.Listing.{Listing}
use Rattle.cti_terms.specs.declared.atom_list.Atom.{Atom}
use Rattle.cti_terms.specs.declared.clauses.Clause.{Clause}
use Rattle.cti_terms.specs.declared.predicates.Pred.{Pred}
use Rattle.termination_model.specs.chains.Chain.{clauses_of}
use Rattle.solved_program.specs.declared.edit.Edit.{Edit}

module _ {X : Type 0} (comps new_comps : Partition) (c d : ℕ) (old now : ℕ → X) where
  -- both are calls within the two components, or both are calls of predicates outside with the same value
  abbrev pub IsSameCall : ℕ → ℕ → Type 0
  IsSameCall q r = (IsIn comps c q × IsIn new_comps d r) ⊎ ((IsIn comps c q → ⊥) × (IsIn new_comps d r → ⊥) × (now r ≡ old q))

  abbrev pub AreSameCalls : List Atom → List Atom → Type 0
  AreSameCalls [] [] = Unit {0}
  AreSameCalls [] (e ∷ es) = ⊥
  AreSameCalls (b ∷ bs) [] = ⊥
  AreSameCalls (b ∷ bs) (e ∷ es) = IsSameCall b.pred.0 e.pred.0 × AreSameCalls bs es

  -- a kept clause with the same calls; both have their numbers
  pub record IsSameClause (kept : List (Option ℕ)) (k l : ℕ × Clause) : Type 0 where
    pub kept_as : slice_get kept (l.0 - 1) ≡ Some (Some k.0)
    pub calls : AreSameCalls k.1.body l.1.body

  abbrev pub AreSameClauses : List (Option ℕ) → List (ℕ × Clause) → List (ℕ × Clause) → Type 0
  AreSameClauses kept [] [] = Unit {0}
  AreSameClauses kept [] (l ∷ ls) = ⊥
  AreSameClauses kept (k ∷ ks) [] = ⊥
  AreSameClauses kept (k ∷ ks) (l ∷ ls) = IsSameClause kept k l × AreSameClauses kept ks ls

  -- the new component has clauses, and they are those of the old one
  pub record StandsFor (p new : Listing) (kept : List (Option ℕ)) : Type 0 where
    pub some : clauses_of new new_comps d ≡ [] → ⊥
    pub clauses : AreSameClauses kept (clauses_of p comps c) (clauses_of new new_comps d)

-- each member of the component c has the value that the old predicate of its name and arity had
abbrev pub KeepOwn : {X : Type 0} → Edit → ℕ → (ℕ → X) → (ℕ → X) → Type 0
KeepOwn e c old now = (q r : ℕ) (x : Pred) → slice_get e.before.now.preds q ≡ Some x → slice_get e.after.now.preds r ≡ Some x → IsIn e.components.now c r → now r ≡ old q

-- of the components below n, each that stands for an old one has kept its values
abbrev pub KeepValuesTo : {X : Type 0} → Edit → ℕ → (ℕ → X) → (ℕ → X) → Type 0
KeepValuesTo e n old now = (b c : ℕ) → c < n → StandsFor e.components_before.now e.components.now b c old now e.before.now e.after.now e.kept.now
    → KeepOwn e c old now

-- the same for all components
abbrev pub KeepValues : {X : Type 0} → Edit → (ℕ → X) → (ℕ → X) → Type 0
KeepValues e old now = KeepValuesTo e (length e.components.now.members) old now
