-- Private.
-- To believe, for the modes by measures of numbers.
-- Positions with their columns, and the supports of lists over them.
--
-- An argument position of a member has some of the member's columns, one after the other. The support of a list is the
-- set of positions at which some mapping of it has a number other than 0.
--
-- To believe: all of this file.
use Rattle.std.specs.Prelude.{◌≡◌, ◌⊎◌, ◌==◌, ◌&&◌, ◌||◌, ◌≤◌, ◌+◌, nat_lt, nat_le, nat_eq, ℕ, zero, suc, ℤ, pos, negsuc, Bool, true, false, not, if◌then◌else◌, List, [], ◌∷◌, ◌++◌, map, filter, Option, None, Some}
use Rattle.std.specs.List.{AllByRecursion, list_any}
use Rattle.linear_rows.specs.Members.{In}
use Rattle.linear_rows.specs.Step.{columns}
use Rattle.termination_model.specs.columns.ColumnClaims.{Mapping}
use Rattle.transitions.specs.StuckSets.{Feature, HasPoint, number_of}
use Rattle.transitions.specs.Transitions.{Transition}
use Rattle.transitions.specs.Turns.{HasWidths}
use Rattle.number_lists.specs.declared.position.Position.{Position}

-- the numbers of a position's columns: columns are counted from 1, since number 0 is the offset
abbrev pub columns_of : Position → List Feature
columns_of r = map (λ i. (r.member, suc i)) (columns r.first r.count)

abbrev pub columns_in : List Position → List Feature
columns_in [] = []
columns_in (r ∷ rs) = columns_of r ++ columns_in rs

-- the numbers of all columns of positions, and then the offsets of the members
abbrev pub features_of : List ℕ → List Position → List Feature
features_of members positions = columns_in positions ++ map (λ q. (q, 0)) members

abbrev pub has_column : Feature → Position → Bool
has_column f r = (r.member == f.0) && (nat_lt r.first f.1 && nat_le f.1 (r.first + r.count))

-- an offset, or a column of one of the positions
abbrev pub is_picked : List Position → Feature → Bool
is_picked positions f = (f.1 == 0) || list_any (has_column f) positions

-- the positions with these numbers, the first position having the number i
abbrev pub picked_from : ℕ → List Position → List ℕ → List Position
picked_from i [] s = []
picked_from i (r ∷ rs) s = if list_any (λ x. nat_eq i x) s then r ∷ picked_from (suc i) rs s else picked_from (suc i) rs s

-- ---- columns without an expression
abbrev pub is_none : {X : Type 0} → Option X → Bool
is_none None = true
is_none (Some x) = false

abbrev pub is_missing : List (Option (List ℤ)) → ℕ → Bool
is_missing [] i = false
is_missing (e ∷ es) zero = is_none e
is_missing (e ∷ es) (suc i) = is_missing es i

-- there is no expression in an atom of member q with these columns
abbrev pub lacks_at : ℕ → List (Option (List ℤ)) → Feature → Bool
lacks_at q es (p, zero) = false
lacks_at q es (p, suc i) = (q == p) && is_missing es i

abbrev pub lacks : Transition → Feature → Bool
lacks τ f = lacks_at τ.head τ.head_columns f || lacks_at τ.call τ.call_columns f

-- the numbers of a turn at a set of positions: those that no transition lacks
abbrev pub features_at : List ℕ → List Position → List ℕ → List Transition → List Feature
features_at members positions s τs = filter (λ f. not (list_any (λ τ. lacks τ f) τs)) (features_of members (picked_from 1 positions s))

-- ---- supports
abbrev pub is_zero : ℤ → Bool
is_zero (pos zero) = true
is_zero (pos (suc n)) = false
is_zero (negsuc n) = false

-- some mapping of a list has a number other than 0 at the position
abbrev pub is_used : Position → List Mapping → Bool
is_used r ls = list_any (λ (l : Mapping). list_any (λ f. not (is_zero (number_of l f))) (columns_of r)) ls

-- the numbers of the positions that a list uses, the first position having the number i
abbrev pub list_support_from : ℕ → List Position → List Mapping → List ℕ
list_support_from i [] ls = []
list_support_from i (r ∷ rs) ls = if is_used r ls then i ∷ list_support_from (suc i) rs ls else list_support_from (suc i) rs ls

-- each column stands once among numbers
abbrev pub AreColumnsOnce : List Feature → Type 0
AreColumnsOnce [] = Unit {0}
AreColumnsOnce (f ∷ fs) = ((f.1 ≡ 0) ⊎ (In f fs → ⊥)) × AreColumnsOnce fs

-- ---- what a component's transitions and positions are
-- no column is one of two positions
abbrev pub AreApart : Position → Position → Type 0
AreApart r o = (f : Feature) → In f (columns_of r) → In f (columns_of o) → ⊥

abbrev pub AreAllApart : List Position → Type 0
AreAllApart [] = Unit {0}
AreAllApart (r ∷ rs) = AllByRecursion (AreApart r) rs × AreAllApart rs

-- transitions of members, which have so many columns, with positions among these; a transition whose rows hold nowhere
-- is left out
pub record AreTransitions (width : ℕ → ℕ) (members : List ℕ) (positions : List Position) (τs : List Transition) : Type 0 where
  pub widths : AllByRecursion (HasWidths width) τs
  pub points : AllByRecursion HasPoint τs
  pub inside : AllByRecursion (λ (τ : Transition). In τ.head members × In τ.call members) τs
  pub columns : AllByRecursion (λ (r : Position). r.first + r.count ≤ width r.member) positions
  pub apart : AreAllApart positions
