-- Private.
-- What a search is over. Nothing here has to be believed.
use Rattle.std.specs.Prelude.{ℕ, List, map}
use Rattle.transitions.specs.Transitions.{Transition}
use Rattle.number_turns.specs.Recalled.{recalled}
use Rattle.number_lists.specs.Features.{AreTransitions}
use Rattle.number_lists.specs.declared.position.Position.{Position}
use Rattle.number_lists.specs.declared.system.System.{System}

-- what is so of transitions of members, which have so many columns
abbrev pub ForSystem : System → (List ℕ → List Position → List Transition → (ℕ → ℕ) → Type 0) → Type 0
ForSystem x P = (width : ℕ → ℕ) → AreTransitions width x.members.now x.positions.now (map recalled x.transitions.now)
    → P x.members.now x.positions.now (map recalled x.transitions.now) width
