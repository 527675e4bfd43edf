-- Private.
-- An example: the turns over a count down to 0 and over one without a bound, as the code takes them.
--
-- Of the count, what the argument has above 0, less what it has below, falls by 1, by the second row of `is`, and is at
-- least 0 on the head, by the row of `>`. The other template is refuted at the point N = 0, M = -1 and the floor N =
-- -1.
use Rattle.std.specs.Prelude.{ℕ, pos, negsuc, true, List, [], ◌∷◌, map}
use Rattle.transitions.specs.Examples.{count_transition, down_transition, features}
use Rattle.number_turns.specs.Turning.{IsTurned}
use Rattle.number_turns.specs.declared.found.Found.{Found}
use Rattle.number_turns.specs.declared.turned.Turned.TheVariants as turned

abbrev pub count_multipliers : List ℕ
count_multipliers = 0 ∷ (0 ∷ (0 ∷ (1 ∷ (0 ∷ (0 ∷ (1 ∷ (0 ∷ (0 ∷ (0 ∷ (0 ∷ (0 ∷ [])))))))))))

abbrev pub count_found : Found
count_found = record { numbers = pos 0 ∷ (pos 0 ∷ (pos 1 ∷ (negsuc 0 ∷ []))); multipliers = map pos count_multipliers }

abbrev pub down_multipliers : List ℕ
down_multipliers = 1 ∷ (0 ∷ (0 ∷ (0 ∷ (0 ∷ (0 ∷ (1 ∷ (0 ∷ (0 ∷ (0 ∷ (1 ∷ (0 ∷ (0 ∷ (1 ∷ [])))))))))))))

pub record CountAndDownTurns : Type 0 where
  pub count : IsTurned features (count_transition ∷ []) (true ∷ []) (turned.Found count_found)
  pub down : IsTurned features (down_transition ∷ []) (true ∷ []) (turned.Refuted (map pos down_multipliers))
