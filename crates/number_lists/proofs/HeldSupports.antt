-- Supports as the code finds them.
use Rattle.std.proofs.Common.{◌≡◌, ◌&&◌, ◌||◌, ◌⊎◌, ◌+◌, ◌≤◌, drop, min, nat_le, inl, inr, ℕ, zero, suc, map, ℤ, pos, ◌+ℤ◌, Bool, true, false, not, if◌then◌else◌, List, [], ◌∷◌, length, refl, ap, sym, subst, ◌∙◌, arith}
use Rattle.std.specs.List.{AllByRecursion, list_any}
use Rattle.std.proofs.lemmas.Bool.Decides.{nat_tests}
use Rattle.std.proofs.lemmas.Int.{ints}
use Rattle.linear_rows.specs.Members.{In}
use Rattle.transitions.specs.StuckSets.{Feature, number_of}
use Rattle.transitions.specs.Transitions.{Transition}
use Rattle.transitions.specs.Turns.{is_same, number_at}
use Rattle.transitions.proofs.Levels.{no_number}
use Rattle.number_turns.specs.Recalled.{spelled}
use Rattle.number_turns.specs.declared.feature.Feature.{Feature as HeldFeature}
use Rattle.number_lists.specs.Features.{AreColumnsOnce, columns_of, has_column, is_used, is_zero, list_support_from}
use Rattle.number_lists.specs.FoundLists.{IsShaped}
use Rattle.number_lists.specs.Large.{has_number, held_support_from, is_held_used}
use Rattle.number_lists.specs.Lists.{recalled_mapping}
use Rattle.number_lists.specs.declared.mapping.Mapping.{Mapping as HeldMapping}
use Rattle.number_lists.specs.declared.position.Position.{Position}
use Rattle.number_lists.proofs.Lacking.{both, either, or_right}
use Rattle.number_lists.proofs.ListSupports.{any_number, column_fits_in, has_of, number_any, of_has, or_left, suc_column, zero_of}
use Rattle.number_lists.proofs.Numbers.{number_is}
use Rattle.number_lists.proofs.SetEnds.{is_itself, same_is}

tells : (a b : Bool) → (a ≡ true → b ≡ true) → (b ≡ true → a ≡ true) → a ≡ b
tells true b f g = sym (f refl)
tells false true f g = g refl
tells false false f g = refl

case_zero : (b : Bool) → not b ≡ true → b ≡ false
case_zero true e = cc
case_zero false e = refl

-- a number other than 0 of a column has a pair of it
has_of_number : (r : Position) (fs : List Feature) (zs : List ℤ) (f : Feature) → has_column f r ≡ true → is_zero (number_at fs zs f) ≡ false → has_number r fs zs ≡ true
has_of_number r [] zs f c n = cc
has_of_number r (g ∷ fs) [] f c n = cc
has_of_number r (g ∷ fs) (z ∷ zs) f c n = go (is_same g f) refl n (has_of_number r fs zs f c)
  where
    head : Bool
    head = not (is_zero z) && has_column g r

    plain : (y : ℤ) → pos 0 +ℤ y ≡ y
    plain y = omega (arith, ints)

    here : (b : Bool) → is_zero z ≡ b → g ≡ f → is_zero (z +ℤ number_at fs zs f) ≡ false → (is_zero (number_at fs zs f) ≡ false → has_number r fs zs ≡ true) → (head || has_number r fs zs) ≡ true
    here false e same m rec = or_left head (has_number r fs zs) (let d = ap (λ (h : Feature). has_column h r) same ∙ c in λ j. not (e j) && d j)
    here true e same m rec =
        let none = zero_of z e in
        let less : z +ℤ number_at fs zs f ≡ number_at fs zs f = omega (arith, ints, none) in
        or_right head (has_number r fs zs) (rec (ap is_zero (sym less) ∙ m))

    go : (b : Bool) → is_same g f ≡ b → is_zero ((if b then z else pos 0) +ℤ number_at fs zs f) ≡ false → (is_zero (number_at fs zs f) ≡ false → has_number r fs zs ≡ true) → (head || has_number r fs zs) ≡ true
    go true e m rec = here (is_zero z) refl (same_is g f e) m rec
    go false e m rec = or_right head (has_number r fs zs) (rec (ap is_zero (sym (plain (number_at fs zs f))) ∙ m))

-- and a pair with a number other than 0 is the number of its column
number_of_has : (r : Position) (fs : List Feature) (zs : List ℤ) → AreColumnsOnce fs → has_number r fs zs ≡ true → (f : Feature) × In f fs × (has_column f r ≡ true) × (is_zero (number_at fs zs f) ≡ false)
number_of_has r [] zs once h = cc
number_of_has r (g ∷ fs) [] once h = cc
number_of_has r (g ∷ fs) (z ∷ zs) once h = elim (either (not (is_zero z) && has_column g r) (has_number r fs zs) h) [
  | inl a ↦ let d = both (not (is_zero z)) (has_column g r) a in (g, inl refl, d.1, first d.1 (case_zero (is_zero z) d.0) once.0)
  | inr b ↦ let t = number_of_has r fs zs once.1 b in (t.0, inr t.1, t.2, later t.0 t.1 t.2 t.3 (is_same g t.0) refl once.0)
]
  where
    first : has_column g r ≡ true → is_zero z ≡ false → (g.1 ≡ 0) ⊎ (In g fs → ⊥) → is_zero ((if is_same g g then z else pos 0) +ℤ number_at fs zs g) ≡ false
    first c n (inl e) = absurd (suc_column g r (of_has g r c) e)
    first c n (inr out) =
        let same = is_itself g g refl in
        let none = no_number fs zs g out in
        let whole : z +ℤ number_at fs zs g ≡ z = omega (arith, ints, none) in
        (λ j. is_zero ((if same j then z else pos 0) +ℤ number_at fs zs g)) ∙ ap is_zero whole ∙ n

    later : (f : Feature) → In f fs → has_column f r ≡ true → is_zero (number_at fs zs f) ≡ false → (b : Bool) → is_same g f ≡ b → (g.1 ≡ 0) ⊎ (In g fs → ⊥) → is_zero ((if is_same g f then z else pos 0) +ℤ number_at fs zs f) ≡ false
    later f i c n true e (inl none) = absurd (suc_column f r (of_has f r c) (sym (ap (λ (h : Feature). h.1) (same_is g f e)) ∙ none))
    later f i c n true e (inr out) = absurd (out (subst (λ (h : Feature). In h fs) (sym (same_is g f e)) i))
    later f i c n false e o =
        let plain : pos 0 +ℤ number_at fs zs f ≡ number_at fs zs f = omega (arith, ints) in
        (λ j. is_zero ((if e j then z else pos 0) +ℤ number_at fs zs f)) ∙ ap is_zero plain ∙ n

module _ (members : List ℕ) (positions : List Position) (τs : List Transition) (width : ℕ → ℕ) where
  one_used : (r : Position) (m : HeldMapping) → r.first + r.count ≤ width r.member → IsShaped members positions τs width m
      → has_number r (map spelled m.features) m.numbers ≡ list_any (λ g. not (is_zero (number_of (recalled_mapping width m) g))) (columns_of r)
  one_used r m fit h =
      let fs = map spelled m.features in
      let zs = m.numbers in
      let l = recalled_mapping width m in
      tells (has_number r fs zs) (list_any (λ g. not (is_zero (number_of l g))) (columns_of r))
      (λ e.
      let (f, i, c, n) = number_of_has r fs zs h.once e in
      any_number l (columns_of r) f (of_has f r c) (ap is_zero (number_is width fs zs f (h.inside f i).1) ∙ n))
      (λ e.
      let (f, i, n) = number_any l (columns_of r) e in
      has_of_number r fs zs f (has_of f r i) (ap is_zero (sym (number_is width fs zs f (column_fits_in width f r fit i))) ∙ n))

  used_same : (r : Position) (ms : List HeldMapping) → r.first + r.count ≤ width r.member → AllByRecursion (IsShaped members positions τs width) ms → is_held_used r ms ≡ is_used r (map (recalled_mapping width) ms)
  used_same r [] fit h = refl
  used_same r (m ∷ ms) fit h = let a = one_used r m fit h.0 in let b = used_same r ms fit h.1 in λ j. a j || b j

  support_same : (ps : List Position) (i : ℕ) (ms : List HeldMapping) → AllByRecursion (λ (r : Position). r.first + r.count ≤ width r.member) ps → AllByRecursion (IsShaped members positions τs width) ms
      → held_support_from i ps ms ≡ list_support_from i ps (map (recalled_mapping width) ms)
  support_same [] i ms fit h = refl
  support_same (r ∷ ps) i ms fit h =
      let a = used_same r ms fit.0 h in
      let b = support_same ps (suc i) ms fit.1 h in
      λ j. if a j then i ∷ b j else b j

  pub held_support : (ms : List HeldMapping) → AllByRecursion (λ (r : Position). r.first + r.count ≤ width r.member) positions → AllByRecursion (IsShaped members positions τs width) ms
      → held_support_from 1 positions ms ≡ list_support_from 1 positions (map (recalled_mapping width) ms)
  held_support ms fit h = support_same positions 1 ms fit h

-- past the last pair there is none
none_of : (r : Position) (fs : List Feature) → has_number r fs [] ≡ false
none_of r [] = refl
none_of r (f ∷ fs) = refl

pub has_none : (r : Position) (fs : List HeldFeature) (zs : List ℤ) (i : ℕ) → (length fs ≤ i) ⊎ (length zs ≤ i) → has_number r (map spelled (drop i fs)) (drop i zs) ≡ false
has_none r [] zs zero l = refl
has_none r [] zs (suc i) l = refl
has_none r (f ∷ fs) [] zero l = refl
has_none r (f ∷ fs) [] (suc i) l = none_of r (map spelled (drop i fs))
has_none r (f ∷ fs) (z ∷ zs) zero (inl l) = absurd (omega (arith, l))
has_none r (f ∷ fs) (z ∷ zs) zero (inr l) = absurd (omega (arith, l))
has_none r (f ∷ fs) (z ∷ zs) (suc i) (inl l) = has_none r fs zs i (inl (omega (arith, l)))
has_none r (f ∷ fs) (z ∷ zs) (suc i) (inr l) = has_none r fs zs i (inr (omega (arith, l)))

pub shorter_or : (a b i : ℕ) → min a b ≤ i → (a ≤ i) ⊎ (b ≤ i)
shorter_or a b i l = go (nat_le a i) refl
  where
    go : (t : Bool) → nat_le a i ≡ t → (a ≤ i) ⊎ (b ≤ i)
    go true e = inl (grind (arith, nat_tests, e))
    go false e = inr (let more : suc i ≤ a = grind (arith, nat_tests, e) in omega (arith, l, more))
