-- Private.
-- The rows of a turn's system as the code makes them. Nothing here has to be believed.
use Rattle.std.specs.Prelude.{ℕ, ◌+◌, ◌-ℤ◌, ◌++◌, ℤ, neg_ℤ, List, [], ◌∷◌, map, length}
use Rattle.std.specs.Borrow.{Bor}
use Rattle.exact128.specs.Sums.{entry}
use Rattle.cti_terms.specs.declared.predicates.PredId.{PredId}
use Rattle.linear_rows.specs.Plain.{plain_row, plain_rows}
use Rattle.linear_rows.specs.Solving.{zeros}
use Rattle.level_systems.specs.Held.{spelled}
use Rattle.level_systems.specs.declared.own_call.OwnCall.{OwnCall}
use Rattle.level_systems.specs.declared.position.Position.{Position}
use Rattle.termination_model.specs.mappings.SupportSystem.{offset_share, share}
use Rattle.termination_model.specs.lists.TurnSystem.{drop_entries}

-- the numbers after the constant in the row of a held call and a column
abbrev pub turned_numbers : OwnCall → List Position → List PredId → ℕ → ℕ → ℕ → ℕ → ℕ → List ℤ
turned_numbers own positions members earlier later before after x =
    ((((map (λ p. share own.caller.0 (plain_rows own.caller_sizes.list) x (spelled p) -ℤ share own.callee.0 (plain_rows own.callee_sizes.list) x (spelled p)) positions
    ++ map (λ m. offset_share own.caller.0 x m.0 -ℤ offset_share own.callee.0 x m.0) members)
    ++ drop_entries earlier later x)
    ++ zeros before)
    ++ map (λ r. neg_ℤ (entry (plain_row r) x)) own.rows.list)
    ++ zeros after

-- the held calls that are referred to
abbrev pub held_of : List (Bor OwnCall) → List OwnCall
held_of calls = map (λ c. c.now) calls

-- how many rows calls have before them together
abbrev pub all_rows : List OwnCall → ℕ
all_rows [] = 0
all_rows (own ∷ owns) = length own.rows.list + all_rows owns
