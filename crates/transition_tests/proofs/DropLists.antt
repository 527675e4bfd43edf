-- Lists of measures that drop, a measure at a time.
use Rattle.std.proofs.Common.{◌≡◌, ◌∙◌, ◌↔◌, ℕ, ◌+◌, ◌<◌, List, [], ◌∷◌, drop, length, slice_get, IfOk, Result, Ok, Err, Some, sym, subst, arith}
use Rattle.std.specs.Prelude.{slice_index_or}
use Rattle.std.proofs.lemmas.List.{drop_all}
use Rattle.linear_rows.specs.declared.multipliers.Multipliers.{Multipliers}
use Rattle.number_tests.specs.declared.level_part.LevelPart.{LevelPart}
use Rattle.number_turns.proofs.RowLists.{drop_here}
use Rattle.termination_model.proofs.Lists.{there}
use Rattle.transitions.specs.Transitions.{Transition}
use Rattle.transition_tests.specs.Drops.{IsDropped, IsShownAt, fall_by, level_by}

same_both : (P Q : Type 0) → P ≡ Q → P ↔ Q
same_both P Q e = (λ p. subst (λ (X : Type 0). X) e p, λ q. subst (λ (X : Type 0). X) (sym e) q)

module _ (τ : Transition) (heads calls : List LevelPart) (drops : List Multipliers) (floor : Multipliers) where
  -- those from a place on drop
  abbrev pub DropFrom : ℕ → Type 0
  DropFrom i = IsDropped τ (drop i heads) (drop i calls) (drop i drops) floor

  module _ (i : ℕ) (head call : LevelPart) (by : Multipliers) (eh : slice_get heads i ≡ Some head) (ec : slice_get calls i ≡ Some call) (eb : slice_get drops i ≡ Some by) where
    -- one that is not the last
    pub one_more : i + 1 < length drops → DropFrom i ↔ (IsShownAt τ (fall_by τ 0 head call) by × DropFrom (i + 1))
    one_more lt =
        let more = drop_here drops (i + 1) (slice_index_or drops (i + 1) by) (there drops (i + 1) by lt) in
        same_both (DropFrom i) (IsShownAt τ (fall_by τ 0 head call) by × DropFrom (i + 1))
        ((λ j. IsDropped τ (drop_here heads i head eh j) (drop_here calls i call ec j) (drop_here drops i by eb j) floor)
        ∙ (λ j. IsDropped τ (head ∷ drop (i + 1) heads) (call ∷ drop (i + 1) calls) (by ∷ more j) floor)
        ∙ (λ j. IsShownAt τ (fall_by τ 0 head call) by × IsDropped τ (drop (i + 1) heads) (drop (i + 1) calls) (sym more j) floor))

    -- what is not shown does not drop
    pub not_more : i + 1 < length drops → (IsDropped τ heads calls drops floor ↔ DropFrom i) → (IsShownAt τ (fall_by τ 0 head call) by → ⊥) → IsDropped τ heads calls drops floor → ⊥
    not_more lt so never all = never ((one_more lt).0 (so.0 all)).0

    pub more_so : i + 1 < length drops → (IsDropped τ heads calls drops floor ↔ DropFrom i) → IsShownAt τ (fall_by τ 0 head call) by → IsDropped τ heads calls drops floor ↔ DropFrom (i + 1)
    more_so lt so shown = (λ all. ((one_more lt).0 (so.0 all)).1, λ rest. so.1 ((one_more lt).1 (shown, rest)))

    -- the last one
    pub last_one : i + 1 ≡ length drops → DropFrom i ↔ (IsShownAt τ (fall_by τ 1 head call) by × IsShownAt τ (level_by τ.vars τ.head_columns head) floor)
    last_one e =
        let none : drop (i + 1) drops ≡ [] = drop_all (i + 1) drops (omega (arith, e)) in
        same_both (DropFrom i) (IsShownAt τ (fall_by τ 1 head call) by × IsShownAt τ (level_by τ.vars τ.head_columns head) floor)
        ((λ j. IsDropped τ (drop_here heads i head eh j) (drop_here calls i call ec j) (drop_here drops i by eb j) floor)
        ∙ (λ j. IsDropped τ (head ∷ drop (i + 1) heads) (call ∷ drop (i + 1) calls) (by ∷ none j) floor))

    pub last_so : i + 1 ≡ length drops → (IsDropped τ heads calls drops floor ↔ DropFrom i) → IsShownAt τ (fall_by τ 1 head call) by → (Y : Type 0)
        → Y ↔ IsShownAt τ (level_by τ.vars τ.head_columns head) floor → Y ↔ IsDropped τ heads calls drops floor
    last_so e so shown Y level = (λ y. so.1 ((last_one e).1 (shown, level.0 y)), λ all. level.1 ((last_one e).0 (so.0 all)).1)

    pub not_last : i + 1 ≡ length drops → (IsDropped τ heads calls drops floor ↔ DropFrom i) → (IsShownAt τ (fall_by τ 1 head call) by → ⊥) → IsDropped τ heads calls drops floor → ⊥
    not_last e so never all = never ((last_one e).0 (so.0 all)).0

-- a fact of a value that is there
pub if_ok_more : {X E : Type 0} (P Q : X → Type 0) → ((x : X) → P x → Q x) → (o : Result X E) → IfOk o P → IfOk o Q
if_ok_more P Q f (Ok x) h = f x h
if_ok_more P Q f (Err e) h = tt
