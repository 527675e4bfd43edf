-- The head and the call of a held transition.
use Rattle.std.proofs.Common.{◌≡◌, ℕ, Bool, true, false, if◌then◌else◌, ℤ, List, Option, Some, SomeIff, map, length, slice_get, get_or, ap, sym, subst, refl, ◌∙◌, arith}
use Rattle.std.specs.Borrow.{Bor}
use Rattle.std.specs.List.{AllByRecursion}
use Rattle.number_columns.specs.ColumnLists.{HaveLength, plain_columns}
use Rattle.number_tests.specs.Levels.{natural}
use Rattle.number_turns.specs.Recalled.{column_of, held_of, recalled, recalled_of}
use Rattle.number_turns.specs.declared.atom_columns.AtomColumns.{AtomColumns}
use Rattle.number_turns.specs.declared.transition.Transition.{Transition as Held}
use Rattle.transitions.specs.StuckSets.{Feature, share}
use Rattle.transitions.specs.Transitions.{Transition}
use Rattle.transition_tests.specs.Shape.{HasLengths, IsNaturalPoint, IsPlaced}
use Rattle.transition_tests.specs.StuckGroups.{ShareFits, placed_at, share_at, transition_at}
use Rattle.transition_tests.specs.Testing.{atoms}
use Rattle.transition_tests.specs.declared.group.PlacedPoint.{PlacedPoint}
use Rattle.termination_model.proofs.Lists.{at_place}
use Rattle.transition_tests.proofs.Totals.{held_at, many_held, transition_is}

abbrev pub side_of : Held → Bool → AtomColumns
side_of τ b = if b then τ.head else τ.call

pub side_lengths : (τ : Held) (b : Bool) → HasLengths τ → HaveLength τ.rows.width (plain_columns (side_of τ b).columns)
side_lengths τ true h = h.head
side_lengths τ false h = h.call

pub side_is : (τ : Held) (b : Bool) → atoms b (recalled τ) ≡ ((side_of τ b).member, map column_of (side_of τ b).columns)
side_is τ true = refl
side_is τ false = refl

-- an atom of a point's transition
pub record IsSideAt (τs : List Transition) (b : Bool) (x : PlacedPoint) (a : AtomColumns) : Type 0 where
  pub is : atoms b (transition_at τs x.place) ≡ (a.member, map column_of a.columns)
  pub long : HaveLength (length x.point.w) (plain_columns a.columns)
  pub natural_point : IsNaturalPoint x.point

pub side_at : (τs : List (Bor Held)) (b : Bool) (x : PlacedPoint) (τ : Bor Held) (a : AtomColumns) → AllByRecursion HasLengths (held_of τs) → IsPlaced (recalled_of τs) x
    → τ ≡ get_or τs x.place τ → a ≡ side_of τ.now b → IsSideAt (recalled_of τs) b x a
side_at τs b x τ a lengths placed e s =
    let there = placed.there in
    let at : slice_get τs x.place ≡ Some τ = at_place τs x.place τ (omega (arith, there, many_held τs)) e in
    let is = transition_is τs x.place τ at in
    let long : length x.point.w ≡ τ.now.rows.width = placed.point.long ∙ ap (λ (σ : Transition). σ.vars) is in
    record {
      is = ap (atoms b) is ∙ side_is τ.now b ∙ ap (λ (c : AtomColumns). (c.member, map column_of c.columns)) (sym s);
      long = subst (λ (n : ℕ). HaveLength n (plain_columns a.columns)) (sym long)
          (subst (λ (c : AtomColumns). HaveLength τ.now.rows.width (plain_columns c.columns)) (sym s) (side_lengths τ.now b (held_at HasLengths τs lengths x.place τ at)));
      natural_point = placed.point.naturals;
    }

-- what is said of its share
pub share_side : (τs : List Transition) (b : Bool) (x : PlacedPoint) (a : AtomColumns) (f : Feature) (o : Option ℤ) → IsSideAt τs b x a
    → SomeIff o (ShareFits a.member (map column_of a.columns) x.point f) (share a.member (map column_of a.columns) (natural x.point.t) (map natural x.point.w) f)
    → SomeIff o (ShareFits (atoms b (transition_at τs x.place)).0 (atoms b (transition_at τs x.place)).1 x.point f) (share_at (atoms b) f (placed_at τs x))
share_side τs b x a f o side h =
    subst (λ (s : ℕ × List (Option (List ℤ))). SomeIff o (ShareFits s.0 s.1 x.point f) (share s.0 s.1 (natural x.point.t) (map natural x.point.w) f)) (sym side.is) h
