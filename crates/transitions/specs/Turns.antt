-- Private.
-- To believe, for the modes by measures of numbers.
-- Turns: the search for a list that descends over transitions, one mapping at a time.
--
-- A turn asks for a mapping, with given numbers alone, that rises at none of the transitions that remain, and that
-- falls and is at least 0 on the head at those that are marked. Its template has a target for each transition, the
-- fall, which is to be at least 1 where it is marked; and for a marked one also the level of the head.
--
-- To believe: `targets`, `mapping_of`. The laws `turns_give_lists` and `refuted_turns_stick` of this crate say what
-- points and refutations of these templates are for.
use Rattle.std.specs.Prelude.{◌≡◌, ◌==◌, ◌&&◌, ℕ, suc, ◌≤◌, ℤ, pos, neg_ℤ, ◌+ℤ◌, Bool, true, false, if◌then◌else◌, ◌⊎◌, List, [], ◌∷◌, ◌++◌, map, take, drop, length, replicate, slice_index_or, Option, None, Some}
use Rattle.std.specs.List.{AllByRecursion}
use Rattle.linear_rows.specs.Members.{In}
use Rattle.linear_rows.specs.Proves.{Proves, Refutes}
use Rattle.linear_rows.specs.Rows.{AllHold}
use Rattle.linear_rows.specs.RowSums.{added}
use Rattle.linear_rows.specs.Step.{columns}
use Rattle.termination_model.specs.claims.Claims.{SomeOf}
use Rattle.termination_model.specs.columns.ColumnRows.{or_empty}
use Rattle.termination_model.specs.columns.ColumnClaims.{Mapping}
use Rattle.transitions.specs.StuckSets.{Feature, Point, Group, Lacks, HasPoint, IsStuckAt, IsWithin}
use Rattle.transitions.specs.TemplateLaws.{Pointed, pointed, number_count}
use Rattle.transitions.specs.Templates.{Target, row_count, template_rows, unknown_count, differences}
use Rattle.transitions.specs.Transitions.{Transition, head_level, fall, HoldsThere, Descends}

-- the row of the number 1 over n naturals
abbrev pub unit_row : ℕ → List ℤ
unit_row n = pos 1 ∷ replicate n (pos 0)

-- by what a number is multiplied in the level of an atom of member q with these columns, as a row over n naturals
abbrev pub share_row : ℕ → ℕ → List (Option (List ℤ)) → Feature → List ℤ
share_row n q es f = if q == f.0 then slice_index_or (unit_row n ∷ map or_empty es) f.1 [] else []

abbrev pub head_row : Transition → Feature → List ℤ
head_row τ f = share_row τ.vars τ.head τ.head_columns f

abbrev pub call_row : Transition → Feature → List ℤ
call_row τ f = share_row τ.vars τ.call τ.call_columns f

-- the fall at a transition is to be at least so much
abbrev pub fall_target : List Feature → ℕ → Transition → Target
fall_target fs least τ = record { vars = τ.vars; rows = τ.rows; features = map (λ f. added (head_row τ f) (map neg_ℤ (call_row τ f))) fs; least = least }

-- the level of the head is to be at least 0
abbrev pub level_target : List Feature → Transition → Target
level_target fs τ = record { vars = τ.vars; rows = τ.rows; features = map (head_row τ) fs; least = 0 }

-- the targets of transitions, by marks; what is past their end is not marked
abbrev pub targets : List Feature → List Transition → List Bool → List Target
targets fs [] bs = []
targets fs (τ ∷ τs) [] = fall_target fs 0 τ ∷ targets fs τs []
targets fs (τ ∷ τs) (false ∷ bs) = fall_target fs 0 τ ∷ targets fs τs bs
targets fs (τ ∷ τs) (true ∷ bs) = fall_target fs 1 τ ∷ (level_target fs τ ∷ targets fs τs bs)

-- the mapping with these numbers, and 0 at all others
abbrev pub is_same : Feature → Feature → Bool
is_same f g = (g.0 == f.0) && (g.1 == f.1)

abbrev pub number_at : List Feature → List ℤ → Feature → ℤ
number_at [] zs g = pos 0
number_at (f ∷ fs) [] g = pos 0
number_at (f ∷ fs) (z ∷ zs) g = (if is_same f g then z else pos 0) +ℤ number_at fs zs g

abbrev pub mapping_of : (ℕ → ℕ) → List Feature → List ℤ → Mapping
mapping_of width fs zs = record { coefficients = λ q. map (λ i. number_at fs zs (q, suc i)) (columns 0 (width q)); offset = λ q. number_at fs zs (q, 0) }

-- a transition's atoms have as many columns as their members, over its naturals
pub record HasWidths (width : ℕ → ℕ) (τ : Transition) : Type 0 where
  pub head : length τ.head_columns ≡ width τ.head
  pub call : length τ.call_columns ≡ width τ.call
  pub head_rows : AllByRecursion (λ (e : Option (List ℤ)). length (or_empty e) ≤ suc τ.vars) τ.head_columns
  pub call_rows : AllByRecursion (λ (e : Option (List ℤ)). length (or_empty e) ≤ suc τ.vars) τ.call_columns

-- a transition lacks none of these numbers
abbrev pub LacksNone : List Feature → Transition → Type 0
LacksNone fs τ = (f : Feature) → In f fs → Lacks τ f → ⊥

-- the row is there, and the multipliers prove it with scale 1
abbrev pub RowProved : List (List ℤ) → List ℕ → Option (List ℤ) → Type 0
RowProved rows ms None = ⊥
RowProved rows ms (Some row) = Proves rows (map pos ms) row (pos 1)

-- the multipliers show that the mapping rises at none of the transitions, and falls at those that are marked
abbrev pub AreShown : Mapping → List Transition → List Bool → List ℕ → Type 0
AreShown l [] bs ms = Unit {0}
AreShown l (τ ∷ τs) [] ms = RowProved τ.rows (take (length τ.rows) ms) (fall τ 0 l) × AreShown l τs [] (drop (length τ.rows) ms)
AreShown l (τ ∷ τs) (false ∷ bs) ms = RowProved τ.rows (take (length τ.rows) ms) (fall τ 0 l) × AreShown l τs bs (drop (length τ.rows) ms)
AreShown l (τ ∷ τs) (true ∷ bs) ms =
    RowProved τ.rows (take (length τ.rows) ms) (fall τ 1 l) × (RowProved τ.rows (take (length τ.rows) (drop (length τ.rows) ms)) (head_level τ l)
    × AreShown l τs bs (drop (length τ.rows) (drop (length τ.rows) ms)))

-- a point of a turn's template gives a mapping that rises nowhere, and falls where it is marked
abbrev pub PointsFall : Type 0
PointsFall = (width : ℕ → ℕ) (fs : List Feature) (τs : List Transition) (marks : List Bool) (t : ℕ) (cs ds ms : List ℕ)
    → AllByRecursion (HasWidths width) τs → AllByRecursion (LacksNone fs) τs → 1 ≤ t
    → length cs ≡ length fs → length ds ≡ length fs → length ms ≡ row_count (targets fs τs marks)
    → AllHold (template_rows (targets fs τs marks)) t (cs ++ (ds ++ ms))
    → AreShown (mapping_of width fs (differences cs ds)) τs marks ms

-- the mapping rises at no transition, and falls and is at least 0 on the head at the marked ones
abbrev pub IsTurn : List Transition → Mapping → List Bool → Type 0
IsTurn [] l bs = Unit {0}
IsTurn (τ ∷ τs) l [] = HoldsThere τ (fall τ 0 l) × IsTurn τs l []
IsTurn (τ ∷ τs) l (false ∷ bs) = HoldsThere τ (fall τ 0 l) × IsTurn τs l bs
IsTurn (τ ∷ τs) l (true ∷ bs) = HoldsThere τ (fall τ 1 l) × HoldsThere τ (head_level τ l) × IsTurn τs l bs

-- where each transition has a point, multipliers that refute a template show that no mapping with these numbers alone,
-- or with others that some transition lacks, is a turn with these marks
abbrev pub RefutedMarksExclude : Type 0
RefutedMarksExclude = (width : ℕ → ℕ) (fs : List Feature) (test : Feature → Bool) (τs : List Transition) (marks : List Bool) (vs : List ℕ) (l : Mapping)
    → AllByRecursion (HasWidths width) τs → AllByRecursion HasPoint τs → length vs ≡ number_count (targets fs τs marks)
    → Refutes (unknown_count (length fs) (targets fs τs marks)) (template_rows (targets fs τs marks)) (map pos vs)
    → ((f : Feature) → test f ≡ true → In f fs ⊎ SomeOf (λ (τ : Transition). Lacks τ f) τs)
    → IsWithin test l → IsTurn τs l marks → ⊥

-- a turn that is refuted: which transition is marked, the others, and the multipliers
pub record RefutedTurn : Type 0 where
  pub first : Transition
  pub others : List Transition
  pub multipliers : List ℕ

abbrev pub refuted_targets : List Feature → RefutedTurn → List Target
refuted_targets fs r = targets fs (r.first ∷ r.others) (true ∷ [])

pub record IsRefutedTurn (fs : List Feature) (τs : List Transition) (r : RefutedTurn) : Type 0 where
  pub first : In r.first τs
  pub others : AllByRecursion (λ (τ : Transition). In τ τs) r.others
  pub long : length r.multipliers ≡ number_count (refuted_targets fs r)
  pub refutes : Refutes (unknown_count (length fs) (refuted_targets fs r)) (template_rows (refuted_targets fs r)) (map pos r.multipliers)

abbrev pub points_with : List Transition → List Pointed → List Point
points_with [] ps = []
points_with (τ ∷ τs) [] = []
points_with (τ ∷ τs) (p ∷ ps) = record { of = τ; t = p.t; w = p.w } ∷ points_with τs ps

-- its group: the point of the marked transition, those of the others, and the floor
abbrev pub group_with : Transition → List Transition → List Pointed → Group
group_with first others [] = record { first = record { of = first; t = 0; w = [] }; others = []; floor = None }
group_with first others (p ∷ []) = record { first = record { of = first; t = p.t; w = p.w }; others = []; floor = None }
group_with first others (p ∷ (h ∷ ps)) = record { first = record { of = first; t = p.t; w = p.w }; others = points_with others ps; floor = Some (h.t, h.w) }

abbrev pub group_of : List Feature → RefutedTurn → Group
group_of fs r = group_with r.first r.others (pointed (refuted_targets fs r) r.multipliers)

-- where the turns of all transitions are refuted, these are stuck: a test may pick the numbers of the turns, and those
-- that some transition lacks
abbrev pub RefutedTurnsStick : Type 0
RefutedTurnsStick = (width : ℕ → ℕ) (fs : List Feature) (test : Feature → Bool) (τs : List Transition) (rs : List RefutedTurn)
    → AllByRecursion (HasWidths width) τs → 1 ≤ length rs → AllByRecursion (IsRefutedTurn fs τs) rs
    → AllByRecursion (λ (τ : Transition). SomeOf (λ (r : RefutedTurn). r.first ≡ τ) rs) τs
    → ((f : Feature) → test f ≡ true → In f fs ⊎ SomeOf (λ (τ : Transition). Lacks τ f) τs)
    → IsStuckAt test τs (map (group_of fs) rs)

-- ---- lists by turns
-- those that are not marked
abbrev pub unmarked : {X : Type 0} → List X → List Bool → List X
unmarked [] bs = []
unmarked (x ∷ xs) [] = x ∷ xs
unmarked (x ∷ xs) (false ∷ bs) = x ∷ unmarked xs bs
unmarked (x ∷ xs) (true ∷ bs) = unmarked xs bs

-- a mapping, and at which transitions it is known to fall
pub record Turn : Type 0 where
  pub mapping : Mapping
  pub marks : List Bool

-- turns, each over the transitions that the one before left, until none is left
abbrev pub AreTurns : List Transition → List Turn → Type 0
AreTurns τs [] = τs ≡ []
AreTurns τs (u ∷ us) = IsTurn τs u.mapping u.marks × AreTurns (unmarked τs u.marks) us

-- what multipliers show is so; turns give a list that descends; and a list that descends does so over what turns leave
pub record TurnsGiveLists : Type 0 where
  pub shown : (width : ℕ → ℕ) (l : Mapping) (τs : List Transition) (marks : List Bool) (ms : List ℕ) → AllByRecursion (HasWidths width) τs → AreShown l τs marks ms → IsTurn τs l marks
  pub descends : (τs : List Transition) (us : List Turn) → AreTurns τs us → Descends τs (map (λ (u : Turn). u.mapping) us)
  pub left : (τs : List Transition) (marks : List Bool) (ls : List Mapping) → Descends τs ls → Descends (unmarked τs marks) ls
