-- Private.
-- The groups of a stuck set, as the code makes them. Nothing here has to be believed.
use Rattle.std.specs.Prelude.{ℕ, suc, ℤ, Bool, true, false, List, [], ◌∷◌, take, drop, Some}
use Rattle.exact128.specs.Sums.{entry}
use Rattle.linear_rows.specs.declared.point.Point.{Point}
use Rattle.number_turns.specs.declared.transition.Transition.{Transition as Held}
use Rattle.number_lists.specs.declared.group.Group.{Group}
use Rattle.number_lists.specs.declared.transition_point.TransitionPoint.{TransitionPoint}

-- t, and then a number for each natural
abbrev pub plain_point : ℕ → List ℤ → Point
plain_point n zs = record { t = entry zs 0; w = take n (drop 1 zs) }

abbrev pub point_at : ℕ → ℕ → List ℤ → TransitionPoint
point_at i n zs = record { transition = i; point = plain_point n zs }

-- those of the transitions that are not gone, the first transition having the number i
abbrev pub points_from : ℕ → List Held → List Bool → List ℤ → List TransitionPoint
points_from i [] gs zs = []
points_from i (τ ∷ τs) [] zs = []
points_from i (τ ∷ τs) (true ∷ gs) zs = points_from (suc i) τs gs zs
points_from i (τ ∷ τs) (false ∷ gs) zs = point_at i τ.rows.width zs ∷ points_from (suc i) τs gs (drop τ.rows.width (drop 1 zs))

abbrev pub group_at : ℕ → Held → List Held → List Bool → List ℤ → Group
group_at first τ τs gs zs =
    let floors = drop τ.rows.width (drop 1 zs) in
    record {
      first = point_at first τ.rows.width zs;
      others = points_from 0 τs gs (drop τ.rows.width (drop 1 floors));
      floor = Some (plain_point τ.rows.width floors);
    }
