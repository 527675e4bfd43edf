-- Private.
-- What points and refutations of templates are.
use Rattle.std.specs.Prelude.{◌≡◌, ℕ, suc, ◌+◌, ◌*◌, ◌≤◌, ℤ, pos, ◌+ℤ◌, List, [], ◌∷◌, ◌++◌, map, take, drop, length}
use Rattle.std.specs.List.{AllByRecursion}
use Rattle.exact128.specs.Sums.{dot, entry}
use Rattle.linear_rows.specs.Proves.{Proves, Refutes}
use Rattle.linear_rows.specs.Rows.{AllHold}
use Rattle.transitions.specs.Templates.{Target, row_at, row_count, template_rows, unknown_count, differences}

-- a target has so many features, each over its naturals
pub record HasFeatures (k : ℕ) (g : Target) : Type 0 where
  pub count : length g.features ≡ k
  pub widths : AllByRecursion (λ (f : List ℤ). length f ≤ suc g.vars) g.features

-- the multipliers prove each target at these numbers, with scale 1
abbrev pub AreProved : List ℤ → ℕ → List Target → List ℕ → Type 0
AreProved zs t [] ms = Unit {0}
AreProved zs t (g ∷ gs) ms = Proves g.rows (map pos (take (length g.rows) ms)) (row_at g zs t) (pos 1) × AreProved zs t gs (drop (length g.rows) ms)

-- a point of a template proves its targets
abbrev pub PointsProve : Type 0
PointsProve = (k : ℕ) (gs : List Target) (t : ℕ) (cs ds ms : List ℕ) → AllByRecursion (HasFeatures k) gs
    → length cs ≡ k → length ds ≡ k → length ms ≡ row_count gs
    → AllHold (template_rows gs) t (cs ++ (ds ++ ms)) → AreProved (differences cs ds) t gs ms

-- and whatever proves them with scale 1 is a point
abbrev pub ProofsArePoints : Type 0
ProofsArePoints = (k : ℕ) (gs : List Target) (cs ds ms : List ℕ) → AllByRecursion (HasFeatures k) gs
    → length cs ≡ k → length ds ≡ k → length ms ≡ row_count gs
    → AreProved (differences cs ds) 1 gs ms → AllHold (template_rows gs) 1 (cs ++ (ds ++ ms))

-- how many multipliers a refutation has for targets
abbrev pub number_count : List Target → ℕ
number_count [] = 0
number_count (g ∷ gs) = suc g.vars + number_count gs

-- a target with the point that multipliers spell: t and then a number for each natural
pub record Pointed : Type 0 where
  pub target : Target
  pub t : ℕ
  pub w : List ℕ

abbrev pub pointed : List Target → List ℕ → List Pointed
pointed [] vs = []
pointed (g ∷ gs) [] = []
pointed (g ∷ gs) (t ∷ vs) = record { target = g; t = t; w = take g.vars vs } ∷ pointed gs (drop g.vars vs)

-- the known rows hold at the point
abbrev pub IsPointed : Pointed → Type 0
IsPointed p = (length p.w ≡ p.target.vars) × AllHold p.target.rows p.t p.w

-- the value of the feature of a number at a point
abbrev pub feature_value : ℕ → Pointed → ℤ
feature_value j p = entry (map (λ f. dot f (pos p.t ∷ map pos p.w)) p.target.features) j

abbrev pub feature_sum : ℕ → List Pointed → ℤ
feature_sum j [] = pos 0
feature_sum j (p ∷ ps) = feature_value j p +ℤ feature_sum j ps

abbrev pub least_sum : List Pointed → ℕ
least_sum [] = 0
least_sum (p ∷ ps) = p.target.least * p.t + least_sum ps

-- multipliers that refute a template are points of its targets, at which each feature sums to 0, and what is to be
-- exceeded to at least 1
pub record IsBalanced (ps : List Pointed) : Type 0 where
  pub points : AllByRecursion IsPointed ps
  pub features : (j : ℕ) → feature_sum j ps ≡ pos 0
  pub some : 1 ≤ least_sum ps

abbrev pub RefutationsBalance : Type 0
RefutationsBalance = (k : ℕ) (gs : List Target) (vs : List ℕ) → AllByRecursion (HasFeatures k) gs → length vs ≡ number_count gs
    → Refutes (unknown_count k gs) (template_rows gs) (map pos vs) → IsBalanced (pointed gs vs)
