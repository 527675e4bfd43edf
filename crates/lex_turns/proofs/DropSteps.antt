-- The drops of calls, one call after another.
use Rattle.std.proofs.Common.{◌≡◌, ◌⊎◌, ℕ, zero, suc, ◌+◌, ◌≤◌, ℤ, Bool, true, false, List, [], ◌∷◌, ◌++◌, drop, length, None, Some, inl, inr, refl, arith}
use Rattle.level_systems.specs.declared.measure.Measure.{Measure}
use Rattle.level_systems.specs.declared.own_call.OwnCall.{OwnCall}
use Rattle.linear_rows.specs.declared.multipliers.Multipliers.{Multipliers}
use Rattle.termination_model.specs.claims.Claims.{SomeOf}
use Rattle.number_tests.specs.Drops.{fall_number}
use Rattle.lex_turns.specs.Testing.{IsDropIf, ShowDrops, ShowsDrop, SomeFalls, first_by}

pub some_left : {X : Type 0} (P : X → Type 0) (xs ys : List X) → SomeOf P xs → SomeOf P (xs ++ ys)
some_left P [] ys s = absurd s
some_left P (x ∷ xs) ys (inl h) = inl h
some_left P (x ∷ xs) ys (inr s) = inr (some_left P xs ys s)

pub some_right : {X : Type 0} (P : X → Type 0) (xs ys : List X) → SomeOf P ys → SomeOf P (xs ++ ys)
some_right P [] ys s = s
some_right P (x ∷ xs) ys s = inr (some_right P xs ys s)

pub length_after : (xs : List ℤ) (n k : ℕ) → n + k ≤ length xs → k ≤ length (drop n xs)
length_after xs zero k l = omega (arith, l)
length_after [] (suc n) k l = absurd (omega (arith, l))
length_after (x ∷ xs) (suc n) k l = length_after xs n k (omega (arith, l))

-- the drop of a call is shown
pub drop_shown : (ms : List Measure) (own : OwnCall) (by : Multipliers) (f : Bool) → IsDropIf ms own by (Some f) → ShowsDrop (fall_number f) ms own by
drop_shown ms own by true h = h
drop_shown ms own by false h = h.0

-- a call without a drop has none in any list of drops
pub none_shown : (ms : List Measure) (own : OwnCall) (owns : List OwnCall) (values : List ℤ) (gs : List Bool) → IsDropIf ms own (first_by own values) None → ShowDrops ms (own ∷ owns) values gs → ⊥
none_shown ms own owns values [] none h = absurd h
none_shown ms own owns values (true ∷ gs) none h = none.0 h.0
none_shown ms own owns values (false ∷ gs) none h = none.1 h.0

-- the drops of the others, and the first call falls where it does in any list
abbrev pub IsLater : List Measure → OwnCall → List OwnCall → List ℤ → Bool → List Bool → Type 0
IsLater ms own owns values f gs = (hs : List Bool) × ShowDrops ms owns (drop (length own.rows.list) values) hs × (SomeFalls gs → (f ≡ true) ⊎ SomeFalls hs)

pub later_shown : (ms : List Measure) (own : OwnCall) (owns : List OwnCall) (values : List ℤ) (f : Bool) (gs : List Bool) → IsDropIf ms own (first_by own values) (Some f) → ShowDrops ms (own ∷ owns) values gs
    → IsLater ms own owns values f gs
later_shown ms own owns values f [] found h = absurd h
later_shown ms own owns values true (g ∷ gs) found h = (gs, h.1, λ s. inl refl)
later_shown ms own owns values false (true ∷ gs) found h = absurd (found.1 h.0)
later_shown ms own owns values false (false ∷ gs) found h = (gs, h.1, λ s. s)

-- some call falls, of those so far with one more, or of the others
pub fall_or : (fs : List Bool) (f : Bool) (gs hs : List Bool) → (SomeFalls fs ⊎ SomeFalls gs) → (SomeFalls gs → (f ≡ true) ⊎ SomeFalls hs) → SomeFalls (fs ++ f ∷ []) ⊎ SomeFalls hs
fall_or fs f gs hs (inl s) more = inl (some_left (λ g. g ≡ true) fs (f ∷ []) s)
fall_or fs f gs hs (inr s) more = elim (more s) [
  | inl e ↦ inl (some_right (λ g. g ≡ true) fs (f ∷ []) (inl e))
  | inr r ↦ inr r
]
