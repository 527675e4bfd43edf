-- What numbers of mappings are multiplied by at held points.
use Rattle.std.proofs.Common.{◌≡◌, ◌∙◌, ℕ, zero, suc, ◌≤◌, ◌==◌, ◌≤ℤ◌, ℤ, pos, negsuc, Bool, true, if◌then◌else◌, List, [], ◌∷◌, map, length, slice_get, Option, None, Some, SomeIff, refl, ap, subst, arith}
use Rattle.std.specs.Prelude.{All}
use Rattle.std.proofs.lemmas.Bool.Decides.{nat_tests}
use Rattle.std.proofs.lemmas.Int.{ints}
use Rattle.exact128.specs.Sums.{dot, entry}
use Rattle.linear_rows.specs.declared.point.Point.{Point as HeldPoint}
use Rattle.number_tests.specs.Levels.{natural}
use Rattle.number_tests.specs.Refuting.{numbers_of}
use Rattle.termination_model.proofs.Lists.{indexed, mapped_place}
use Rattle.termination_model.specs.columns.ColumnRows.{or_empty}
use Rattle.transitions.specs.StuckSets.{Feature, share}
use Rattle.transition_tests.specs.Shape.{IsNaturalPoint}
use Rattle.transition_tests.specs.StuckGroups.{ColumnFits, ShareFits}

pub natural_is : (z : ℤ) → pos 0 ≤ℤ z → pos (natural z) ≡ z
natural_is (pos n) h = refl
natural_is (negsuc n) h = absurd (omega (arith, ints, h))

naturals_are : (zs : List ℤ) → All (λ z. pos 0 ≤ℤ z) zs → map pos (map natural zs) ≡ zs
naturals_are [] h = refl
naturals_are (z ∷ zs) h =
    let here = natural_is z (h 0 z (omega arith)) in
    let rest = naturals_are zs (λ k d lt. h (suc k) d (omega (arith, lt))) in
    λ i. here i ∷ rest i

pub numbers_are : (x : HeldPoint) → IsNaturalPoint x → pos (natural x.t) ∷ map pos (map natural x.w) ≡ numbers_of x
numbers_are x h = let here = natural_is x.t h.scale in let rest = naturals_are x.w h.values in λ i. here i ∷ rest i

module _ (q : ℕ) (es : List (Option (List ℤ))) (x : HeldPoint) (natural_point : IsNaturalPoint x) where
  abbrev pub share_of : Feature → ℤ
  share_of f = share q es (natural x.t) (map natural x.w) f

  same_member : (f : Feature) → q ≡ f.0 → (q == f.0) ≡ true
  same_member f e = grind (arith, nat_tests)

  -- a column
  pub share_column : (f : Feature) (i : ℕ) → q ≡ f.0 → f.1 ≡ suc i → share_of f ≡ entry (map (λ r. dot r (numbers_of x)) (map or_empty es)) i
  share_column f i e s =
      ap (λ (b : Bool). if b then entry (pos (natural x.t) ∷ map (λ r. dot r (pos (natural x.t) ∷ map pos (map natural x.w))) (map or_empty es)) f.1 else pos 0) (same_member f e)
      ∙ ap (entry (pos (natural x.t) ∷ map (λ r. dot r (pos (natural x.t) ∷ map pos (map natural x.w))) (map or_empty es))) s
      ∙ (λ j. entry (map (λ r. dot r (numbers_are x natural_point j)) (map or_empty es)) i)

  pub fits_column : (p n i : ℕ) → n ≡ suc i → ColumnFits x (slice_get es i) → ShareFits q es x (p, n)
  fits_column p zero i e h = tt
  fits_column p (suc k) i e h = λ _. subst (λ m. ColumnFits x (slice_get es m)) (omega (arith, e)) h

  pub column_fits : (p n i : ℕ) → q ≡ p → n ≡ suc i → ShareFits q es x (p, n) → ColumnFits x (slice_get es i)
  column_fits p zero i e s h = absurd (omega (arith, s))
  column_fits p (suc k) i e s h = subst (λ m. ColumnFits x (slice_get es m)) (omega (arith, s)) (h e)

-- the value of a column by its place
pub value_there : (es : List (Option (List ℤ))) (i : ℕ) (e : Option (List ℤ)) (ps : List ℤ) → slice_get es i ≡ Some e → entry (map (λ r. dot r ps) (map or_empty es)) i ≡ dot (or_empty e) ps
value_there es i e ps at = indexed (map (λ r. dot r ps) (map or_empty es)) i (dot (or_empty e) ps) (pos 0) (mapped_place (λ r. dot r ps) (map or_empty es) i (or_empty e) (mapped_place or_empty es i e at))

pub value_past : (es : List (Option (List ℤ))) (i : ℕ) (ps : List ℤ) → length es ≤ i → (entry (map (λ r. dot r ps) (map or_empty es)) i ≡ pos 0) × (slice_get es i ≡ None)
value_past [] i ps le = (refl, refl)
value_past (e ∷ es) zero ps le = absurd (omega (arith, le))
value_past (e ∷ es) (suc i) ps le = value_past es i ps (omega (arith, le))

pub dot_empty : (ps : List ℤ) → dot [] ps ≡ pos 0
unfolding dot
dot_empty ps = refl

-- the same answer, said of another fact and another number
pub some_iff : (o : Option ℤ) (P Q : Type 0) (y z : ℤ) → (P → Q) → (Q → P) → y ≡ z → SomeIff o P y → SomeIff o Q z
some_iff None P Q y z f g e h = λ q. h (g q)
some_iff (Some x) P Q y z f g e h = (f h.0, h.1 ∙ e)
