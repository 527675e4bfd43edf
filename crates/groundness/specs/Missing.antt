-- Private.
-- How many truth rows sets lack: what is left to add. Nothing here has to be believed.
use Rattle.std.specs.Prelude.{ℕ, zero, suc, ◌+◌, Bool, true, false, List, [], ◌∷◌, if◌then◌else◌}
use Rattle.bool_diagrams.specs.declared.diagram.Diagram.{Diagram}
use Rattle.bool_diagrams.specs.Cubes.{rests, truth_rows}
use Rattle.bool_diagrams.specs.Tree.{Tree}
use Rattle.cti_terms.specs.declared.predicates.Pred.{Pred}

-- how many rows of a length a set lacks
unfoldable pub missing : ℕ → (List Bool → Bool) → ℕ
missing zero set = if set [] then 0 else 1
missing (suc n) set = missing n (rests false set) + missing n (rests true set)

-- how many rows the sets lack together
unfoldable pub all_missing : List Pred → List Tree → List Diagram → ℕ
all_missing [] trees sets = 0
all_missing (p ∷ preds) trees [] = 0
all_missing (p ∷ preds) trees (d ∷ sets) = missing p.arity (truth_rows trees d) + all_missing preds trees sets
