-- Private.
-- What the tests give: size rows that are shown are proved, lists of measures that drop are proved to fall, and stuck
-- sets are those over transitions.
use Rattle.std.specs.Prelude.{◌≡◌, ◌<◌, ◌-◌, ◌*◌, ℕ, false, true, Bool, ℤ, pos, ◌⊎◌, List, ◌∷◌, Option, length, map, take}
use Rattle.std.specs.List.{AllByRecursion}
use Rattle.cti_terms.specs.declared.atom_list.Atom.{Atom}
use Rattle.cti_terms.specs.declared.clauses.Clause.{Clause}
use Rattle.component_transitions.specs.OwnTransitions.{transition_at}
use Rattle.linear_rows.specs.Members.{In}
use Rattle.linear_rows.specs.Replacing.{substituted}
use Rattle.linear_rows.specs.Showing.{Shows}
use Rattle.linear_rows.specs.declared.multipliers.Multipliers.{Multipliers}
use Rattle.number_columns.specs.ColumnLists.{HaveLength, columns_over}
use Rattle.number_columns.specs.ColumnSystems.{of_sizes, short_rows}
use Rattle.termination_model.specs.columns.ColumnClaims.{Mapping}
use Rattle.termination_model.specs.columns.ColumnRows.{lacks, least, or_zeros}
use Rattle.termination_model.specs.columns.ColumnShort.{FallsProved, TargetProvable, head_row}
use Rattle.termination_model.specs.columns.Columns.{Columns}
use Rattle.transitions.specs.StuckSets.{Feature, IsStuckAt}
use Rattle.transitions.specs.Transitions.{Transition}
use Rattle.transition_tests.specs.Drops.{IsDropped, parts_of}
use Rattle.transition_tests.specs.StuckGroups.{IsStuckSet, groups_from}
use Rattle.transition_tests.specs.Targets.{IsSizeRowShown}
use Rattle.transition_tests.specs.declared.group.PointGroup.{PointGroup}

-- at a call of a clause, a list of mappings that drops is proved to fall
abbrev pub DropsAreProved : Type 0
DropsAreProved = (m : Columns) (kinds : ℕ → List ℕ) (rows : ℕ → List (List ℤ)) (k : Clause) (j : ℕ) (b : Atom) (ls : List Mapping) (drops : List Multipliers) (floor : Multipliers)
    → IsDropped (transition_at m kinds rows k j b) (parts_of k.head.pred.0 ls) (parts_of b.pred.0 ls) drops floor
    → FallsProved (of_sizes m kinds rows) k (short_rows m kinds rows k.vars (take j k.body)) b (length drops - 1) ls

-- a size row of a clause's head that is shown is proved
abbrev pub SizeRowsAreProved : Type 0
SizeRowsAreProved = (m : Columns) (kinds : ℕ → List ℕ) (rows : ℕ → List (List ℤ)) (k : Clause) (r : List ℤ) (by : Multipliers)
    → IsSizeRowShown (short_rows m kinds rows k.vars k.body) (k.vars * m.width) (columns_over m kinds k.vars k.head) r by
    → TargetProvable (k.vars * m.width) (short_rows m kinds rows k.vars k.body) (head_row (of_sizes m kinds rows) k r)

-- a size row is shown where it is shown with zeros in the place of columns that are not there, by scale 0 unless no
-- number below 0 stands at one of these
abbrev pub RowsOverZerosAreShown : Type 0
RowsOverZerosAreShown = (rows : List (List ℤ)) (n : ℕ) (es : List (Option (List ℤ))) (b : ℤ) (row : List ℤ) (by : Multipliers)
    → HaveLength n es → Shows rows (substituted n (map (or_zeros n) es) (b ∷ row)) by → (by.scale ≡ pos 0) ⊎ (lacks (least row es) es ≡ false)
    → IsSizeRowShown rows n es (b ∷ row) by

-- the head and the call have no such number
abbrev pub IsPast : Feature → Transition → Type 0
IsPast f τ = (τ.head ≡ f.0 → length τ.head_columns < f.1) × (τ.call ≡ f.0 → length τ.call_columns < f.1)

-- a stuck set is one for each test that picks numbers that were tested, or that no transition has
abbrev pub GroupsStick : Type 0
GroupsStick = (fs : List Feature) (τs : List Transition) (gs : List PointGroup) (test : Feature → Bool)
    → IsStuckSet fs τs gs → ((f : Feature) → test f ≡ true → In f fs ⊎ AllByRecursion (IsPast f) τs)
    → IsStuckAt test τs (groups_from τs 0 gs)
