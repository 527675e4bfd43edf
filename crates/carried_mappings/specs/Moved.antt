-- Private.
-- What is found of a component's mappings, under other numbers of predicates and clauses.
use Rattle.std.specs.Prelude.{ℕ, ◌==◌, if◌then◌else◌, List, [], ◌∷◌, map, option_map}
use Rattle.number_tests.specs.declared.pair_point.PairPoint.{PairPoint}
use Rattle.number_tests.specs.declared.refutation.Refutation.{Refutation}
use Rattle.level_systems.specs.declared.fall.Fall.{Fall}
use Rattle.level_systems.specs.declared.found.Found.{Found}
use Rattle.level_systems.specs.declared.mapping.Mapping.{Mapping}
use Rattle.level_systems.specs.declared.measure.Measure.{Measure}

-- the number that stands in the second list where this one stands in the first
abbrev pub moved : List ℕ → List ℕ → ℕ → ℕ
moved [] ys n = n
moved (x ∷ xs) [] n = n
moved (x ∷ xs) (y ∷ ys) n = if x == n then y else moved xs ys n

-- the same parts, of these members
abbrev pub with_members : List ℕ → List Measure → List Measure
with_members [] ms = []
with_members (q ∷ qs) [] = []
with_members (q ∷ qs) (m ∷ ms) = record { pred = record { 0 = q }; part = m.part } ∷ with_members qs ms

abbrev pub moved_fall : (ℕ → ℕ) → Fall → Fall
moved_fall g x = record { clause = g x.clause; call = x.call; by = x.by }

abbrev pub moved_mapping : (ℕ → ℕ) → List ℕ → Mapping → Mapping
moved_mapping g members m = record { measures = with_members members m.measures; falls = map (moved_fall g) m.falls }

abbrev pub moved_pair : (ℕ → ℕ) → PairPoint → PairPoint
moved_pair g x = record { clause = g x.clause; call = x.call; point = x.point; at = x.at }

abbrev pub moved_refutation : (ℕ → ℕ) → Refutation → Refutation
moved_refutation g r = record { points = map (moved_pair g) r.points }

-- supports stay, since the positions do
abbrev pub moved_found : (ℕ → ℕ) → List ℕ → Found → Found
moved_found g members f = record {
  mappings = map (moved_mapping g members) f.mappings;
  refutation = option_map (moved_refutation g) f.refutation;
  blown = f.blown;
  large = f.large;
}
