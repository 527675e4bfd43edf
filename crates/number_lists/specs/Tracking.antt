-- Private.
-- The places of transitions in the course of the turns, as the code keeps them. Nothing here has to be believed.
use Rattle.std.specs.Prelude.{◌≡◌, ◌⊎◌, ◌++◌, ℕ, zero, suc, ℤ, Bool, true, false, List, [], ◌∷◌, length, take, drop}
use Rattle.termination_model.specs.columns.ColumnClaims.{Mapping}
use Rattle.transitions.specs.Transitions.{Transition, fall, head_level}
use Rattle.number_turns.specs.Recalled.{recalled}
use Rattle.number_turns.specs.declared.transition.Transition.{Transition as Held}
use Rattle.number_lists.specs.Lists.{HasPlace, IsProvedBy}
use Rattle.number_lists.specs.declared.place.Place.{Place}

-- the multipliers after those of a transition with n rows, which leaves or not
abbrev pub after_turn : Bool → ℕ → List ℤ → List ℤ
after_turn false n zs = drop n zs
after_turn true n zs = drop n (drop n zs)

-- its place, with those of one turn more
abbrev pub with_turn : Bool → ℕ → List ℤ → Place → Place
with_turn false n zs p = record { multipliers = p.multipliers ++ take n zs ∷ []; floor = p.floor }
with_turn true n zs p = record { multipliers = p.multipliers ++ take n zs ∷ []; floor = take n (drop n zs) }

-- the places after a turn in which all that are not gone leave, or none does
abbrev pub after_turns : Bool → List Held → List Bool → List ℤ → List Place → List Place
after_turns b [] gs zs ps = ps
after_turns b (τ ∷ τs) [] zs ps = ps
after_turns b (τ ∷ τs) (g ∷ gs) zs [] = []
after_turns b (τ ∷ τs) (true ∷ gs) zs (p ∷ ps) = p ∷ after_turns b τs gs zs ps
after_turns b (τ ∷ τs) (false ∷ gs) zs (p ∷ ps) = with_turn b (length τ.rows.list) zs p ∷ after_turns b τs gs (after_turn b (length τ.rows.list) zs) ps

-- the places before the first turn
abbrev pub no_places : ℕ → List Place
no_places zero = []
no_places (suc n) = record { multipliers = []; floor = [] } ∷ no_places n

-- what the multipliers of a turn show of a transition, which leaves or not
abbrev pub ShownBy : Bool → Mapping → Transition → List ℤ → Type 0
ShownBy false l τ zs = IsProvedBy τ.rows (take (length τ.rows) zs) (fall τ 0 l)
ShownBy true l τ zs = IsProvedBy τ.rows (take (length τ.rows) zs) (fall τ 1 l) × IsProvedBy τ.rows (take (length τ.rows) (drop (length τ.rows) zs)) (head_level τ l)

abbrev pub AreShownBy : Bool → Mapping → List Transition → List ℤ → Type 0
AreShownBy b l [] zs = Unit {0}
AreShownBy b l (τ ∷ τs) zs = ShownBy b l τ zs × AreShownBy b l τs (after_turn b (length τ.rows) zs)

-- mapping by mapping, the transition does not rise
abbrev pub ShowStays : List Mapping → Transition → List (List ℤ) → Type 0
ShowStays [] τ [] = Unit {0}
ShowStays [] τ (by ∷ bys) = ⊥
ShowStays (l ∷ ls) τ [] = ⊥
ShowStays (l ∷ ls) τ (by ∷ bys) = IsProvedBy τ.rows by (fall τ 0 l) × ShowStays ls τ bys

abbrev pub IsTracked : List Mapping → Transition → Bool → Place → Type 0
IsTracked ls τ true p = HasPlace ls τ p.multipliers p.floor
IsTracked ls τ false p = ShowStays ls τ p.multipliers

-- what is known of the place of each transition so far
abbrev pub AreTracked : List Mapping → List Held → List Bool → List Place → Type 0
AreTracked ls [] [] [] = Unit {0}
AreTracked ls [] [] (p ∷ ps) = ⊥
AreTracked ls [] (g ∷ gs) ps = ⊥
AreTracked ls (τ ∷ τs) [] ps = ⊥
AreTracked ls (τ ∷ τs) (g ∷ gs) [] = ⊥
AreTracked ls (τ ∷ τs) (g ∷ gs) (p ∷ ps) = IsTracked ls (recalled τ) g p × AreTracked ls τs gs ps

-- some transition left in the turn of this number, from 0 on
abbrev pub SomeLeft : ℕ → List Bool → List Place → Type 0
SomeLeft i [] ps = ⊥
SomeLeft i (g ∷ gs) [] = ⊥
SomeLeft i (true ∷ gs) (p ∷ ps) = (length p.multipliers ≡ suc i) ⊎ SomeLeft i gs ps
SomeLeft i (false ∷ gs) (p ∷ ps) = SomeLeft i gs ps

-- how many are not gone
abbrev pub staying : List Bool → ℕ
staying [] = 0
staying (true ∷ gs) = staying gs
staying (false ∷ gs) = suc (staying gs)
