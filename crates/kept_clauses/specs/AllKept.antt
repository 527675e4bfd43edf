-- Private.
-- What an edit does not touch: all clauses of these predicates are kept, and so is what is found of them.
--
-- To believe: nothing of this file; a law's statement is checked by its use.
use Rattle.std.specs.Prelude.{◌≡◌, ℕ, suc, ◌-◌, ◌<◌, ◌⊎◌, Bool, true, List, [], ◌∷◌, filter, length, slice_get, Option, Some}
use Rattle.call_components.specs.Partition.{IsIn}
use Rattle.cti_terms.specs.Listing.{Listing, IsProgram}
use Rattle.cti_terms.specs.declared.clauses.Clause.{Clause}
use Rattle.cti_terms.specs.declared.predicates.Pred.{Pred}
use Rattle.linear_rows.specs.Members.{In}
use Rattle.termination_model.specs.chains.Chain.{counted}
use Rattle.prolog_terms.specs.Clauses.{Clause as TextClause}
use Rattle.component_laws.specs.Untouched.{AreUntouched, is_in}
use Rattle.solved_program.specs.Kept.{AreKept, IsEdit}
use Rattle.solved_program.specs.Standing.{KeepValues, StandsFor}
use Rattle.solved_program.specs.declared.edit.Edit.{Edit}
use Rattle.kept_clauses.specs.KeptLists.{IsIncreasing, IsOnto, IsTotal}
use Rattle.kept_clauses.specs.KeptPrograms.{IsListEdit, kept_of_program}

-- the clauses of a set's predicates, with their numbers
abbrev pub numbered_in : (Pred → Bool) → Listing → List (ℕ × Clause)
numbered_in set p = filter (λ k. is_in set (slice_get p.preds k.1.head.pred.0)) (counted 1 p.clauses)

-- each of the new clauses was kept, and they are these old ones, in order
abbrev pub ArePairs : List (Option ℕ) → List (ℕ × Clause) → List (ℕ × Clause) → Type 0
ArePairs kept [] [] = Unit {0}
ArePairs kept [] (l ∷ ls) = ⊥
ArePairs kept (k ∷ ks) [] = ⊥
ArePairs kept (k ∷ ks) (l ∷ ls) = (slice_get kept (l.0 - 1) ≡ Some (Some k.0)) × ArePairs kept ks ls

-- all clauses of the set's predicates are kept, in their order, and the new program has no other ones
abbrev pub AllKept : Listing → Listing → (Pred → Bool) → List (Option ℕ) → Type 0
AllKept p new set kept = ArePairs kept (numbered_in set p) (numbered_in set new)

-- no clause of the set's predicates is new
abbrev pub NoneIsNew : Listing → (Pred → Bool) → List (Option ℕ) → Type 0
NoneIsNew new set kept = (i : ℕ) (y : Clause) → slice_get new.clauses i ≡ Some y → is_in set (slice_get new.preds y.head.pred.0) ≡ true → (j : ℕ) × (slice_get kept i ≡ Some (Some j))

-- none is lost
abbrev pub NoneIsLost : Listing → (Pred → Bool) → List (Option ℕ) → Type 0
NoneIsLost p set kept = (j : ℕ) (x : Clause) → slice_get p.clauses j ≡ Some x → is_in set (slice_get p.preds x.head.pred.0) ≡ true → (i : ℕ) × (slice_get kept i ≡ Some (Some (suc j)))

-- Where none is new, none is lost, and the other way round: the clauses of an untouched set are as many in both
-- programs.
abbrev pub UntouchedAreKept : Type 0
UntouchedAreKept = (p new : Listing) (set : Pred → Bool) (kept : List (Option ℕ)) → AreKept p new kept → IsIncreasing kept → AreUntouched p new set
    → NoneIsNew new set kept ⊎ NoneIsLost p set kept → AllKept p new set kept

-- So it is where clauses were only put in, or only taken out.
abbrev pub OneEditKeepsUntouched : Type 0
OneEditKeepsUntouched = (p new : Listing) (set : Pred → Bool) (kept : List (Option ℕ)) → AreKept p new kept → IsIncreasing kept → AreUntouched p new set
    → IsTotal kept ⊎ IsOnto (length p.clauses) kept → AllKept p new set kept

-- So it is with the programs of two lists of definite clauses, where clauses were only put into the list, or only taken
-- out.
abbrev pub ListEditKeepsUntouched : Type 0
ListEditKeepsUntouched = (names : List (List ℕ)) (cs ds : List TextClause) (n : ℕ) (kept ks : List (Option ℕ)) (p new : Listing) (set : Pred → Bool)
    → IsListEdit names cs ds n kept p new → ks ≡ kept_of_program p new n kept → IsIncreasing kept → AreUntouched p new set
    → IsTotal kept ⊎ IsOnto n kept → AllKept p new set ks

-- no clause has this predicate in its head
abbrev pub IsWithoutClause : Listing → ℕ → Type 0
IsWithoutClause p q = (k : Clause) → In k p.clauses → k.head.pred.0 ≡ q → ⊥

-- the predicates of the set that have no clause in either program have the values that they had
abbrev pub HaveStart : {X : Type 0} → Listing → Listing → (Pred → Bool) → (ℕ → X) → (ℕ → X) → Type 0
HaveStart p new set old now = (q r : ℕ) (x : Pred) → slice_get p.preds q ≡ Some x → slice_get new.preds r ≡ Some x → set x ≡ true → IsWithoutClause p q → IsWithoutClause new r → now r ≡ old q

-- all predicates of the set have the values that they had
abbrev pub SetKeepsValues : {X : Type 0} → Listing → Listing → (Pred → Bool) → (ℕ → X) → (ℕ → X) → Type 0
SetKeepsValues p new set old now = (q r : ℕ) (x : Pred) → slice_get p.preds q ≡ Some x → slice_get new.preds r ≡ Some x → set x ≡ true → now r ≡ old q

-- Where components that stand keep their values, untouched predicates have the values that they had.
abbrev pub UntouchedHaveStayed : Type 0 → Type 0
UntouchedHaveStayed X = (e : Edit) (set : Pred → Bool) (old now : ℕ → X) → IsProgram e.before.now → IsProgram e.after.now → IsEdit e
    → AreUntouched e.before.now e.after.now set → AllKept e.before.now e.after.now set e.kept.now
    → KeepValues e old now → HaveStart e.before.now e.after.now set old now
    → SetKeepsValues e.before.now e.after.now set old now

-- each member of the new component is a predicate of the set, and was a member of the old one
abbrev pub IsOfSet : Edit → (Pred → Bool) → ℕ → ℕ → Type 0
IsOfSet e set b c = (r : ℕ) → IsIn e.components.now c r
    → (q : ℕ) × (x : Pred) × (slice_get e.before.now.preds q ≡ Some x) × (slice_get e.after.now.preds r ≡ Some x) × (set x ≡ true) × IsIn e.components_before.now b q

-- each component of the set's predicates that stands for an old one has kept its values
abbrev pub KeepValuesOf : {X : Type 0} → Edit → (Pred → Bool) → (ℕ → X) → (ℕ → X) → Type 0
KeepValuesOf e set old now = (b c : ℕ) → c < length e.components.now.members → IsOfSet e set b c
    → StandsFor e.components_before.now e.components.now b c old now e.before.now e.after.now e.kept.now
    → (q r : ℕ) (x : Pred) → slice_get e.before.now.preds q ≡ Some x → slice_get e.after.now.preds r ≡ Some x → IsIn e.components.now c r → now r ≡ old q

-- It is enough that components of the set's predicates do, so that more may be known of their members.
abbrev pub UntouchedOfSetHaveStayed : Type 0 → Type 0
UntouchedOfSetHaveStayed X = (e : Edit) (set : Pred → Bool) (old now : ℕ → X) → IsProgram e.before.now → IsProgram e.after.now → IsEdit e
    → AreUntouched e.before.now e.after.now set → AllKept e.before.now e.after.now set e.kept.now
    → KeepValuesOf e set old now → HaveStart e.before.now e.after.now set old now
    → SetKeepsValues e.before.now e.after.now set old now
