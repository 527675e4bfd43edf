-- Private.
-- The full set of positions: its system is that of all positions, and they cover the pairs of its calls.
use Rattle.std.specs.Prelude.{◌≡◌, ℕ, ◌<◌, List, length}
use Rattle.std.specs.List.{AllByRecursion}
use Rattle.linear_rows.specs.Members.{In}
use Rattle.linear_rows.specs.Step.{columns}
use Rattle.termination_model.specs.mappings.Refutation.{Pair}
use Rattle.termination_model.specs.mappings.Excluding.{pairs_at}
use Rattle.termination_model.specs.mappings.OwnCalls.{OwnCall, Position}
use Rattle.termination_model.specs.mappings.Ready.{positions_by}
use Rattle.termination_model.specs.mappings.SupportLaws.{HasFew}
use Rattle.termination_model.specs.mappings.Supports.{picked_from}

-- all numbers pick all positions
abbrev pub AllArePicked : Type 0
AllArePicked = (positions : List Position) → picked_from 1 positions (columns 1 (length positions)) ≡ positions

-- each argument of a pair's head and call is at a position
abbrev pub IsCoveredBy : List Position → Pair → Type 0
IsCoveredBy positions p = ((a : ℕ) → a < length p.rule.args → In (p.rule.member, a) positions) × ((a : ℕ) → a < length p.call.args → In (p.member, a) positions)

abbrev pub PositionsCoverPairs : Type 0
PositionsCoverPairs =
    (arity : ℕ → ℕ) (members : List ℕ) (calls : List OwnCall) (vs : List ℕ) → ((o : OwnCall) → In o calls → HasFew arity o × In o.rule.member members × In o.member members)
    → AllByRecursion (IsCoveredBy (positions_by arity members)) (pairs_at calls vs)
