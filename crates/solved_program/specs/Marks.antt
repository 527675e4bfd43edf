-- Private.
-- Marks of the predicates whose value stayed from before an edit to after it. A value is what was found of a predicate.
use Rattle.std.specs.Prelude.{◌≡◌, ◌<◌, ◌↔◌, ℕ, Bool, true, false, List, length, slice_get, slice_index_or, Some}
use Rattle.call_components.specs.Partition.{Partition, IsIn}
use Rattle.cti_terms.specs.declared.predicates.Pred.{Pred}
use Rattle.solved_program.specs.Standing.{StandsFor}
use Rattle.solved_program.specs.declared.edit.Edit.{Edit}

-- whether a new predicate has a mark
abbrev pub is_marked : List Bool → ℕ → Bool
is_marked marks r = slice_index_or marks r false

-- what a mark is compared with: each old predicate has its own value
abbrev pub itself : ℕ → Bool
itself q = true

-- a component stands for an old one, where the predicates with a mark have come out as they were
abbrev pub StandsMarked : Edit → List Bool → ℕ → ℕ → Type 0
StandsMarked e marks b c = StandsFor e.components_before.now e.components.now b c itself (is_marked marks) e.before.now e.after.now e.kept.now

-- of the members of components below n those have a mark whose value is that of the old predicate of their name and
-- arity
pub record AreMarkedTo {X : Type 0} (e : Edit) (n : ℕ) (old now : ℕ → X) (marks : List Bool) : Type 0 where
  pub each : length marks ≡ length e.after.now.preds
  pub exact : (q r d : ℕ) (x : Pred) → slice_get e.before.now.preds q ≡ Some x → slice_get e.after.now.preds r ≡ Some x → IsIn e.components.now d r → d < n → (is_marked marks r ≡ true) ↔ (now r ≡ old q)

-- each predicate
abbrev pub Always : ℕ → Type 0
Always r = Unit {0}

-- the members of a component have a mark exactly where this holds of them, and the marks of others stay
pub record AreMarked (comps : Partition) (c : ℕ) (HasStayed : ℕ → Type 0) (old new : List Bool) : Type 0 where
  pub each : length new ≡ length old
  pub members : (r : ℕ) → IsIn comps c r → (is_marked new r ≡ true) ↔ HasStayed r
  pub others : (r : ℕ) → (IsIn comps c r → ⊥) → is_marked new r ≡ is_marked old r

-- whether a new predicate has the value of the old one of its name and arity, if there is one
abbrev pub IsMarkOf : {X : Type 0} → Edit → (ℕ → X) → (ℕ → X) → ℕ → Bool → Type 0
IsMarkOf e old now r mark = (q : ℕ) (x : Pred) → slice_get e.before.now.preds q ≡ Some x → slice_get e.after.now.preds r ≡ Some x → (mark ≡ true) ↔ (now r ≡ old q)
