-- Private.
-- The variables of the code as those of the definition. Nothing here has to be believed.
use Rattle.std.specs.Prelude.{◌≡◌, ◌≤◌, ◌<◌, ℕ, length, get_or}
use Rattle.prolog_terms.specs.declared.variables.Variables.{Variables}
use Rattle.prolog_terms.specs.Symbols.{Seen}

abbrev pub seen_of : Variables → Seen
seen_of v = record { named = v.names; numbers = v.numbers.items; count = v.count }

-- each variable with a name has its number, and `_` may have others
pub record AreNumbered (v : Variables) : Type 0 where
  pub paired : length v.names ≡ length v.numbers.items
  pub counted : length v.numbers.items ≤ v.count
  pub each : (i d : ℕ) → i < length v.numbers.items → get_or v.numbers.items i d < v.count
