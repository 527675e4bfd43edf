-- Sums at the points of a group, a point at a time.
use Rattle.std.proofs.Common.{rules, ◌≡◌, ◌∙◌, ℕ, zero, suc, ◌+◌, ◌<◌, ◌≤◌, ℤ, pos, ◌+ℤ◌, List, [], ◌∷◌, map, take, length, slice_get, Some, ◌⊎◌, inl, inr, refl, ap, sym, subst, arith, below_more}
use Rattle.std.proofs.lemmas.Bool.{cases_lt}
use Rattle.std.proofs.lemmas.Int.{ints}
use Rattle.std.proofs.lemmas.List.{length-map, take_all}
use Rattle.std.specs.Borrow.{Bor}
use Rattle.std.specs.List.{AllByRecursion}
use Rattle.exact128.specs.Fits.{Fits}
use Rattle.number_turns.specs.Recalled.{held_of, recalled, recalled_of}
use Rattle.number_turns.specs.declared.transition.Transition.{Transition as Held}
use Rattle.termination_model.proofs.Lists.{by_places, from_places, indexed, mapped_place, one_element, place_below}
use Rattle.transitions.specs.StuckSets.{Feature, Point}
use Rattle.transitions.specs.Transitions.{Transition}
use Rattle.transition_tests.specs.StuckGroups.{AtomAt, ShareFits, TotalFits, placed_at, share_at, total, transition_at}
use Rattle.transition_tests.specs.declared.group.PlacedPoint.{PlacedPoint}

-- the transition at a place of those that are held
pub transition_is : (τs : List (Bor Held)) (k : ℕ) (τ : Bor Held) → slice_get τs k ≡ Some τ → transition_at (recalled_of τs) k ≡ recalled τ.now
transition_is τs k τ e = indexed (recalled_of τs) k (recalled τ.now) _ (mapped_place recalled (held_of τs) k τ.now (mapped_place (λ (b : Bor Held). b.now) τs k τ e))

pub held_at : (P : Held → Type 0) (τs : List (Bor Held)) → AllByRecursion P (held_of τs) → (k : ℕ) (τ : Bor Held) → slice_get τs k ≡ Some τ → P τ.now
held_at P τs all k τ e = by_places P (held_of τs) all k τ.now (mapped_place (λ (b : Bor Held). b.now) τs k τ e)

pub many_held : (τs : List (Bor Held)) → length (recalled_of τs) ≡ length τs
many_held τs = length-map (held_of τs) recalled ∙ length-map τs (λ (b : Bor Held). b.now)

-- ---- totals
module _ (a : AtomAt) (f : Feature) where
  pub total_more : (ps : List Point) (i : ℕ) (p : Point) → slice_get ps i ≡ Some p → total a f (take (i + 1) ps) ≡ total a f (take i ps) +ℤ share_at a f p
  total_more [] i p e = cc
  total_more (q ∷ ps) zero p e = let same : q ≡ p = cc in let here = ap (share_at a f) same in omega (arith, ints, here)
  total_more (q ∷ ps) (suc i) p e =
      let rest = total_more ps i p e in
      let more : suc i + 1 ≡ suc (i + 1) = omega arith in
      rw more (omega (arith, ints, rest))

  total_past : (ps : List Point) (n : ℕ) → length ps ≤ n → total a f (take n ps) ≡ total a f ps
  total_past ps n le = ap (total a f) (take_all n ps le)

  module _ (τs : List Transition) (xs : List PlacedPoint) where
    abbrev placed : List Point
    placed = map (placed_at τs) xs

    abbrev FitsHere : PlacedPoint → Type 0
    FitsHere x = ShareFits (a (transition_at τs x.place)).0 (a (transition_at τs x.place)).1 x.point f

    -- the sum of the first points
    pub record IsTotalTo (i : ℕ) (sum : ℤ) : Type 0 where
      pub is : sum ≡ total a f (take i placed)
      pub values : (k : ℕ) → k < i → (x : PlacedPoint) → slice_get xs k ≡ Some x → FitsHere x
      pub sums : (n : ℕ) → n < i + 1 → Fits (total a f (take n placed))

    pub total_none : IsTotalTo 0 (pos 0)
    total_none = record {
      is = refl;
      values = λ k lt. absurd (omega (arith, lt));
      sums = λ n lt. let none : n ≡ 0 = omega (arith, lt) in subst (λ m. Fits (total a f (take m placed))) (sym none) zero_fits;
    }
      where
        zero_fits : Fits (pos 0)
        zero_fits = search rules

    pub total_next : (i : ℕ) (sum value next : ℤ) (x : PlacedPoint) → IsTotalTo i sum → slice_get xs i ≡ Some x → FitsHere x → value ≡ share_at a f (placed_at τs x) → next ≡ sum +ℤ value → Fits (sum +ℤ value)
        → IsTotalTo (i + 1) next
    total_next i sum value next x so at fit v n fits =
        let more : total a f (take (i + 1) placed) ≡ sum +ℤ value =
        total_more placed i (placed_at τs x) (mapped_place (placed_at τs) xs i x at) ∙ (λ j. sym so.is j +ℤ sym v j) in
        record {
          is = n ∙ sym more;
          values = below_more (λ (k : ℕ). (y : PlacedPoint) → slice_get xs k ≡ Some y → FitsHere y) i so.values (λ y ey. subst FitsHere (one_element xs i x y at ey) fit);
          sums = below_more (λ (m : ℕ). Fits (total a f (take m placed))) (i + 1) so.sums (subst Fits (sym more) fits);
        }

    pub total_all : (i : ℕ) (sum : ℤ) → length xs ≤ i → IsTotalTo i sum → TotalFits τs a f xs × (sum ≡ total a f placed)
    total_all i sum le so = (
      record {
        values = from_places FitsHere xs (λ k x e. so.values k (omega (arith, le, place_below xs k x e)) x e);
        sums = λ n. either n (cases_lt n (i + 1));
      },
      so.is ∙ total_past placed i (omega (arith, le, length-map xs (placed_at τs))),
    )
      where
        either : (n : ℕ) → (n < i + 1) ⊎ (i + 1 ≤ n) → Fits (total a f (take n placed))
        either n (inl lt) = so.sums n lt
        either n (inr gt) =
            subst Fits (total_past placed i (omega (arith, le, length-map xs (placed_at τs))) ∙ sym (total_past placed n (omega (arith, le, gt, length-map xs (placed_at τs))))) (so.sums i (omega arith))

    -- a value or a sum that does not fit
    pub value_unfit : (i : ℕ) (x : PlacedPoint) → slice_get xs i ≡ Some x → (FitsHere x → ⊥) → TotalFits τs a f xs → ⊥
    value_unfit i x at never fit = never (by_places FitsHere xs fit.values i x at)

    pub sum_unfit : (i : ℕ) (sum value : ℤ) (x : PlacedPoint) → IsTotalTo i sum → slice_get xs i ≡ Some x → value ≡ share_at a f (placed_at τs x) → (Fits (sum +ℤ value) → ⊥) → TotalFits τs a f xs → ⊥
    sum_unfit i sum value x so at v never fit =
        let more : total a f (take (i + 1) placed) ≡ sum +ℤ value =
        total_more placed i (placed_at τs x) (mapped_place (placed_at τs) xs i x at) ∙ (λ j. sym so.is j +ℤ sym v j) in
        never (subst Fits more (fit.sums (i + 1)))

    -- the whole sum fits
    pub total_fits : TotalFits τs a f xs → Fits (total a f placed)
    total_fits fit = subst Fits (total_past placed (length xs) (omega (arith, length-map xs (placed_at τs)))) (fit.sums (length xs))
