-- Turns that values give, wherever these come from.
use Rattle.std.proofs.Common.{◌≡◌, ◌≤◌, ◌≤ℤ◌, ◌+◌, ℤ, pos, Bool, List, length, Option, None, Some}
use Rattle.std.specs.Prelude.{All, IfSome}
use Rattle.cti_terms.specs.Listing.{Listing}
use Rattle.level_dual.specs.Components.{ForComponent}
use Rattle.level_systems.specs.Searched.{IsSound}
use Rattle.level_systems.specs.Turned.{all_rows}
use Rattle.level_systems.specs.declared.component.Component.{Component}
use Rattle.level_systems.specs.declared.own_call.OwnCall.{OwnCall}
use Rattle.level_systems.specs.declared.position.Position.{Position}
use Rattle.lex_turns.specs.Testing.{AreAmong}
use Rattle.lex_turns.specs.Turning.{IsMade, IsMadeIf, IsTurnOf}
use Rattle.lex_turns.specs.declared.turn.Made.{Made}
use Rattle.lex_turns.proofs.TurnMaking.{made_turn}

pub some_made : (p : Listing) (x : Component) (at : List Position) (rest : List OwnCall) (first : Bool) (values : List ℤ) (o : Option Made) → IsMadeIf p x at rest first values o → IfSome o (IsMade x rest first)
some_made p x at rest first values None h = tt
some_made p x at rest first values (Some m) h = h.1

pub some_turn : (p : Listing) (x : Component) → IsSound p x → (at : List Position) (rest : List OwnCall) → AreAmong x.calls.items rest → 1 ≤ length rest → (w : List ℤ) → All (λ z. pos 0 ≤ℤ z) w
    → length w ≡ length at + (length x.by_clauses.items + (length rest + all_rows rest)) → (first : Bool) (o : Option Made) → IsMadeIf p x at rest first w o
    → IfSome o (λ m. ForComponent p x (λ expression comps rows c. IsTurnOf expression p comps rows c x at rest m))
some_turn p x sound at rest among some w naturals long first None h = tt
some_turn p x sound at rest among some w naturals long first (Some m) h = λ size truth expression comps rows c is. made_turn size truth expression p comps rows c x is sound at rest among some w naturals long first m h.0 h.1
