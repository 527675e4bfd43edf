-- Private.
-- What the system of a support is for.
--
-- To believe: nothing that is not in termination_model: `Proves` is the test of a certificate's fall, over `fall_over`.
use Rattle.std.specs.Prelude.{◌≡◌, ℕ, suc, ◌≤◌, ℤ, pos, List, [], ◌∷◌, ◌++◌, map, take, drop, length}
use Rattle.std.specs.List.{AllByRecursion}
use Rattle.cti_terms.specs.Tree.{Tree}
use Rattle.linear_rows.specs.Proves.{Proves}
use Rattle.linear_rows.specs.Rows.{AllHold}
use Rattle.termination_model.specs.claims.Claims.{Mapping}
use Rattle.termination_model.specs.mappings.View.{fall_over}
use Rattle.termination_model.specs.mappings.OwnCalls.{OwnCall, Position, rows_before}
use Rattle.termination_model.specs.mappings.SupportSystem.{support_rows, row_count, mapping_at}

module _ (expression : ℕ → Tree → List ℤ) where
  -- the multipliers show at each call that the mapping falls, with scale 1
  abbrev pub AreFalls : Mapping → List OwnCall → List ℕ → Type 0
  AreFalls l [] ms = Unit {0}
  AreFalls l (o ∷ os) ms =
      Proves (rows_before expression o) (map pos (take (length (rows_before expression o)) ms)) (fall_over expression o.rule o.member o.call.args 1 l) (pos 1)
      × AreFalls l os (drop (length (rows_before expression o)) ms)

-- the atoms of a call have at most as many arguments as these
abbrev pub HasFew : (ℕ → ℕ) → OwnCall → Type 0
HasFew arity o = (length o.rule.args ≤ arity o.rule.member) × (length o.call.args ≤ arity o.member)

-- a size expression has a number for each variable, and the constant
abbrev pub HasWidths : (ℕ → Tree → List ℤ) → Type 0
HasWidths expression = (n : ℕ) (t : Tree) → length (expression n t) ≡ suc n

-- a point of the system gives a mapping, with multipliers that show its falls
abbrev pub PointsFall : Type 0
PointsFall =
    (expression : ℕ → Tree → List ℤ) (positions : List Position) (members : List ℕ) (arity : ℕ → ℕ) (calls : List OwnCall)
    (t : ℕ) (cs os ms : List ℕ)
    → HasWidths expression → AllByRecursion (HasFew arity) calls → 1 ≤ t
    → length cs ≡ length positions → length os ≡ length members → length ms ≡ row_count expression positions members calls
    → AllHold (support_rows expression positions members calls) t (cs ++ (os ++ ms))
    → AreFalls expression (mapping_at arity positions members cs os) calls ms
