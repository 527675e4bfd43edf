-- Turns give lists that descend.
use Rattle.std.proofs.Common.{◌≡◌, ℕ, suc, ◌≤◌, ℤ, pos, negsuc, ◌≤ℤ◌, Bool, true, false, List, [], ◌∷◌, map, take, drop, length, replicate, Option, None, Some, inl, inr, subst, refl, sym, arith}
use Rattle.std.specs.List.{AllByRecursion}
use Rattle.std.proofs.lemmas.Int.{ints}
use Rattle.linear_rows.specs.Members.{In}
use Rattle.linear_rows.specs.Replacing.{combined, substituted}
use Rattle.linear_rows.specs.RowSums.{scaled, added}
use Rattle.linear_rows.specs.Rows.{HoldsOn}
use Rattle.linear_rows.specs.Proves.{Proves}
use Rattle.linear_rows.proofs.Members.{to_All}
use Rattle.linear_rows.proofs.Soundness.{law_holds}
use Rattle.termination_model.specs.columns.ColumnRows.{or_empty}
use Rattle.termination_model.specs.columns.ColumnClaims.{Mapping, difference}
use Rattle.transitions.specs.Transitions.{Transition, level_of, head_level, call_level, fall, HoldsThere, FallsAt, Descends}
use Rattle.transitions.specs.Turns.{HasWidths, RowProved, AreShown, unmarked, Turn, IsTurn, AreTurns, TurnsGiveLists}
use Rattle.transitions.proofs.StuckLaws.{row_there}
use Rattle.transitions.proofs.TemplatePoints.{longest, length_scaled, combined_long, length_replicated, at_least}

-- ---- how long rows are
pub over_long : (n : ℕ) (es : List (Option (List ℤ))) (b : ℤ) (row : List ℤ) → AllByRecursion (λ (e : Option (List ℤ)). length (or_empty e) ≤ suc n) es → length (substituted n (map or_empty es) (b ∷ row)) ≡ suc n
over_long n es b row h =
    let own = length_replicated n in
    let low = at_least (b ∷ replicate n (pos 0)) (combined row (map or_empty es)) in
    let high = longest (b ∷ replicate n (pos 0)) (combined row (map or_empty es)) (suc n) (omega (arith, own)) (combined_long row (map or_empty es) (suc n) (all_rows es h)) in
    omega (arith, own, low, high)
  where
    all_rows : (es : List (Option (List ℤ))) → AllByRecursion (λ (e : Option (List ℤ)). length (or_empty e) ≤ suc n) es → AllByRecursion (λ (f : List ℤ). length f ≤ suc n) (map or_empty es)
    all_rows [] h = tt
    all_rows (e ∷ es) h = (h.0, all_rows es h.1)

pub level_long : (n q : ℕ) (es : List (Option (List ℤ))) (l : Mapping) (r : List ℤ) → AllByRecursion (λ (e : Option (List ℤ)). length (or_empty e) ≤ suc n) es → level_of n q es l ≡ Some r → length r ≡ suc n
level_long n q es l r h e =
    let is = row_there n es (l.offset q) (l.coefficients q) r e in
    subst (λ (z : List ℤ). length z ≡ suc n) is.1 (over_long n es (l.offset q) (l.coefficients q) h)

pub fall_long : (n d : ℕ) (x y : List ℤ) → length x ≡ suc n → length y ≡ suc n → length (added x (scaled (negsuc 0) (added y (pos d ∷ [])))) ≡ suc n
fall_long n d x y lx ly =
    let z = added y (pos d ∷ []) in
    let high = longest y (pos d ∷ []) (suc n) (omega (arith, ly)) (omega arith) in
    let turned = length_scaled (negsuc 0) z in
    let low = at_least x (scaled (negsuc 0) z) in
    let top = longest x (scaled (negsuc 0) z) (suc n) (omega (arith, lx)) (omega (arith, high, turned)) in
    omega (arith, lx, low, top)

natural : (ms : List ℕ) → (z : ℤ) → In z (map pos ms) → pos 0 ≤ℤ z
natural [] z h = absurd h
natural (m ∷ ms) z (inl e) = subst (λ (y : ℤ). pos 0 ≤ℤ y) e (omega (arith, ints))
natural (m ∷ ms) z (inr h) = natural ms z h

row_holds : (τ : Transition) (ms : List ℕ) (row : List ℤ) → length row ≡ suc τ.vars → Proves τ.rows (map pos ms) row (pos 1) → HoldsOn (suc τ.vars) τ.rows row
row_holds τ ms row l p = subst (λ (n : ℕ). HoldsOn n τ.rows row) l (law_holds τ.rows (map pos ms) row 0 (to_All (λ z. pos 0 ≤ℤ z) (map pos ms) (natural ms)) p)

module _ (width : ℕ → ℕ) (l : Mapping) where
  head_holds : (τ : Transition) (ms : List ℕ) → HasWidths width τ → RowProved τ.rows ms (head_level τ l) → HoldsThere τ (head_level τ l)
  head_holds τ ms has p = go (head_level τ l) refl p
    where
      go : (o : Option (List ℤ)) → head_level τ l ≡ o → RowProved τ.rows ms o → HoldsThere τ o
      go None e n = absurd n
      go (Some r) e n = row_holds τ ms r (level_long τ.vars τ.head τ.head_columns l r has.head_rows e) n

  fall_holds : (τ : Transition) (d : ℕ) (ms : List ℕ) → HasWidths width τ → RowProved τ.rows ms (fall τ d l) → HoldsThere τ (fall τ d l)
  fall_holds τ d ms has p = go (head_level τ l) (call_level τ l) refl refl p
    where
      go : (x y : Option (List ℤ)) → head_level τ l ≡ x → call_level τ l ≡ y → RowProved τ.rows ms (difference d x y) → HoldsThere τ (difference d x y)
      go None y ex ey n = absurd n
      go (Some x) None ex ey n = absurd n
      go (Some x) (Some y) ex ey n =
          row_holds τ ms (added x (scaled (negsuc 0) (added y (pos d ∷ []))))
          (fall_long τ.vars d x y (level_long τ.vars τ.head τ.head_columns l x has.head_rows ex) (level_long τ.vars τ.call τ.call_columns l y has.call_rows ey)) n

  all_shown : (τs : List Transition) (marks : List Bool) (ms : List ℕ) → AllByRecursion (HasWidths width) τs → AreShown l τs marks ms → IsTurn τs l marks
  all_shown [] marks ms has h = tt
  all_shown (τ ∷ τs) [] ms has h =
      let n = length τ.rows in
      (fall_holds τ 0 (take n ms) has.0 h.0, all_shown τs [] (drop n ms) has.1 h.1)
  all_shown (τ ∷ τs) (false ∷ marks) ms has h =
      let n = length τ.rows in
      (fall_holds τ 0 (take n ms) has.0 h.0, all_shown τs marks (drop n ms) has.1 h.1)
  all_shown (τ ∷ τs) (true ∷ marks) ms has (h, (k, rest)) =
      let n = length τ.rows in
      (fall_holds τ 1 (take n ms) has.0 h, head_holds τ (take n (drop n ms)) has.0 k, all_shown τs marks (drop n (drop n ms)) has.1 rest)

-- ---- lists
abbrev HasPlace : List Mapping → Transition → Type 0
HasPlace ls τ = (i : ℕ) × FallsAt τ i ls

-- each transition falls in the turn, or it does not rise and is left
later_places : (τs : List Transition) (l : Mapping) (marks : List Bool) (ls : List Mapping) → IsTurn τs l marks → Descends (unmarked τs marks) ls → Descends τs (l ∷ ls)
later_places [] l marks ls is d = tt
later_places (τ ∷ τs) l [] ls is d = ((suc d.0.0, (is.0, d.0.1)), later_places τs l [] ls is.1 (rest_of τs d.1))
  where
    rest_of : (τs : List Transition) → Descends τs ls → Descends (unmarked τs []) ls
    rest_of [] h = h
    rest_of (x ∷ xs) h = h
later_places (τ ∷ τs) l (false ∷ marks) ls is d = ((suc d.0.0, (is.0, d.0.1)), later_places τs l marks ls is.1 d.1)
later_places (τ ∷ τs) l (true ∷ marks) ls (down, floor, rest) d = ((0, (down, floor)), later_places τs l marks ls rest d)

all_descend : (τs : List Transition) (us : List Turn) → AreTurns τs us → Descends τs (map (λ (u : Turn). u.mapping) us)
all_descend τs [] none = subst (λ (xs : List Transition). Descends xs []) (sym none) tt
all_descend τs (u ∷ us) are = later_places τs u.mapping u.marks (map (λ (u : Turn). u.mapping) us) are.0 (all_descend (unmarked τs u.marks) us are.1)

all_left : (τs : List Transition) (marks : List Bool) (ls : List Mapping) → Descends τs ls → Descends (unmarked τs marks) ls
all_left [] marks ls d = tt
all_left (τ ∷ τs) [] ls d = d
all_left (τ ∷ τs) (false ∷ marks) ls d = (d.0, all_left τs marks ls d.1)
all_left (τ ∷ τs) (true ∷ marks) ls d = all_left τs marks ls d.1

pub turns_give_lists : TurnsGiveLists
turns_give_lists = record {
  shown = λ width l τs marks ms. all_shown width l τs marks ms;
  descends = all_descend;
  left = all_left;
}
