-- Private.
-- One more row that is kept or left out. Nothing here has to be believed.
use Rattle.std.specs.Prelude.{◌≡◌, ℤ, true, List, [], ◌∷◌, ◌++◌}
use Rattle.linear_rows.specs.Plain.{plain_rows}
use Rattle.linear_rows.specs.declared.system.System.{System}
use Rattle.simplex.specs.declared.held.Held.{Held}
use Rattle.simplex.specs.declared.held.Held.TheVariants.{Yes, No, Blown}
use Rattle.polyhedra.specs.declared.keeping.Kept.{Kept}
use Rattle.polyhedra.specs.Making.{SaysKept}

abbrev pub IsKept : System → List (List ℤ) → Kept → Type 0
IsKept s old k = SaysKept s old (plain_rows k.rows.list) k.failed k.weak k.by

-- what became of the rows, and of what is known of those that are lost
abbrev pub IsOneMore : List ℤ → Held → Kept → Kept → Type 0
IsOneMore row (Yes proof) old new =
    (plain_rows new.rows.list ≡ plain_rows old.rows.list ++ row ∷ []) × (new.by ≡ old.by ++ proof ∷ [])
    × (new.failed ≡ old.failed) × (new.weak ≡ old.weak)
IsOneMore row (No p) old new =
    (new.rows.list ≡ old.rows.list) × (new.by ≡ old.by) × (new.failed ≡ true) × (new.weak ≡ old.weak)
IsOneMore row Blown old new =
    (new.rows.list ≡ old.rows.list) × (new.by ≡ old.by) × (new.failed ≡ old.failed) × (new.weak ≡ true)
