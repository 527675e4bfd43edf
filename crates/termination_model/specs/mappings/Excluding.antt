-- To believe, for the modes.
-- What a refutation of a support's system excludes.
--
-- To believe: `IsRefutationAt`, over the words of termination_model's Refutation.antt, of which it is the same for some
-- positions alone. With all positions and members it is `IsRefutation`.
use Rattle.std.specs.Prelude.{◌≡◌, ℕ, suc, ◌+◌, ◌<◌, ◌≤◌, ◌≤ℤ◌, ℤ, pos, List, [], ◌∷◌, map, take, drop, length, slice_get, Some}
use Rattle.std.specs.List.{AllByRecursion}
use Rattle.exact128.specs.Sums.{entry}
use Rattle.cti_terms.specs.Tree.{Tree}
use Rattle.linear_rows.specs.Members.{In}
use Rattle.linear_rows.specs.Proves.{Refutes}
use Rattle.linear_rows.specs.Rows.{AllHold}
use Rattle.termination_model.specs.mappings.Coefficients.{coefficient}
use Rattle.termination_model.specs.claims.Claims.{Mapping, SomeOf}
use Rattle.termination_model.specs.mappings.Refutation.{Pair, Decreases, gather, head_load, call_load, IsPair, IsRefutation}
use Rattle.termination_model.specs.mappings.View.{Rule, Member}
use Rattle.termination_model.specs.mappings.OwnCalls.{OwnCall, Position, rows_before}
use Rattle.termination_model.specs.mappings.SupportSystem.{support_rows, unknowns}
use Rattle.termination_model.specs.mappings.SupportLaws.{HasWidths}

-- each positive coefficient is at one of these positions
abbrev pub IsZeroOutside : List Position → Mapping → Type 0
IsZeroOutside positions l = (q a : ℕ) → 0 < coefficient (l.coefficients q) a → In (q, a) positions

-- a call of the view
pub record IsOwnCall (view : List Rule) (o : OwnCall) : Type 0 where
  pub there : SomeOf (λ k. k ≡ o.rule) view
  pub call : slice_get o.rule.body o.place ≡ Some o.call
  pub member : o.call.place ≡ Member o.member

-- the calls with the points that multipliers spell: t and then a number for each variable, call by call
abbrev pub pairs_at : List OwnCall → List ℕ → List Pair
pairs_at [] vs = []
pairs_at (o ∷ os) [] = []
pairs_at (o ∷ os) (t ∷ vs) =
    record { rule = o.rule; place = o.place; call = o.call; member = o.member; w = take o.rule.vars vs; t = t } ∷ pairs_at os (drop o.rule.vars vs)

-- how many rows the system of a support has for these calls
abbrev pub number_count : List OwnCall → ℕ
number_count [] = 0
number_count (o ∷ os) = suc o.rule.vars + number_count os

module _ (expression : ℕ → Tree → List ℤ) where
  -- some point shows that a call can be reached
  pub record IsLive (o : OwnCall) : Type 0 where
    pub t : ℕ
    pub w : List ℕ
    pub some : 1 ≤ t
    pub long : length w ≡ o.rule.vars
    pub hold : AllHold (rows_before expression o) t w

  -- a refutation of the mappings whose coefficients are positive at these positions alone
  pub record IsRefutationAt (positions : List Position) (members : List ℕ) (view : List Rule) (ps : List Pair) : Type 0 where
    pub pairs : AllByRecursion (IsPair expression view) ps
    pub positive : SomeOf (λ (p : Pair). 1 ≤ p.t) ps
    pub offsets : (q : ℕ) → In q members → entry (gather q (map (head_load expression) ps)) 0 ≤ℤ entry (gather q (map (call_load expression) ps)) 0
    pub columns : (q a : ℕ) → In (q, a) positions → entry (gather q (map (head_load expression) ps)) (suc a) ≤ℤ entry (gather q (map (call_load expression) ps)) (suc a)

-- multipliers that refute the system of a support are a refutation at its positions
abbrev pub MultipliersRefute : Type 0
MultipliersRefute =
    (expression : ℕ → Tree → List ℤ) (view : List Rule) (positions : List Position) (members : List ℕ) (calls : List OwnCall) (vs : List ℕ)
    → HasWidths expression → AllByRecursion (IsOwnCall view) calls → AllByRecursion (IsLive expression) calls → length vs ≡ number_count calls
    → Refutes (unknowns expression positions members calls) (support_rows expression positions members calls) (map pos vs)
    → IsRefutationAt expression positions members view (pairs_at calls vs)

-- the members of a pair are among these
abbrev pub IsOfMembers : List ℕ → Pair → Type 0
IsOfMembers members p = In p.rule.member members × In p.member members

-- such a refutation excludes each mapping at these positions
abbrev pub ExcludesAt : Type 0
ExcludesAt =
    (expression : ℕ → Tree → List ℤ) (view : List Rule) (positions : List Position) (members : List ℕ) (ps : List Pair) (l : Mapping)
    → AllByRecursion (IsOfMembers members) ps → IsRefutationAt expression positions members view ps → IsZeroOutside positions l → Decreases expression view l → ⊥

-- with all positions it is a refutation of the component
abbrev pub AllRefute : Type 0
AllRefute =
    (expression : ℕ → Tree → List ℤ) (view : List Rule) (positions : List Position) (members : List ℕ) (ps : List Pair)
    → AllByRecursion (IsOfMembers members) ps
    → AllByRecursion (λ (p : Pair). ((a : ℕ) → a < length p.rule.args → In (p.rule.member, a) positions) × ((a : ℕ) → a < length p.call.args → In (p.member, a) positions)) ps
    → IsRefutationAt expression positions members view ps → IsRefutation expression view ps
