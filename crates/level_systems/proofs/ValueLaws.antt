-- Values of positions and members, each of which has one place.
use Rattle.std.proofs.Common.{◌≡◌, ℕ, zero, suc, ◌+◌, ◌-◌, ◌<◌, ◌≤◌, ◌==◌, ℤ, pos, Bool, true, false, if◌then◌else◌, List, [], ◌∷◌, map, take, drop, length, slice_get, slice_index_or, Some, inl, inr, refl, ap, sym, subst, ◌∙◌, arith, eq-eqb, eqb-true}
use Rattle.std.proofs.lemmas.List.{length-map}
use Rattle.exact128.specs.Sums.{entry}
use Rattle.call_components.specs.Numbers.{number_of}
use Rattle.cti_terms.specs.declared.predicates.PredId.{PredId}
use Rattle.linear_rows.specs.Members.{In}
use Rattle.termination_model.specs.mappings.OwnCalls.{Position as Place}
use Rattle.termination_model.specs.mappings.Ready.{Apart}
use Rattle.termination_model.specs.mappings.SupportSystem.{value_of_member, value_of_position}
use Rattle.termination_model.specs.mappings.Supports.{AreDistinct}
use Rattle.termination_model.proofs.Lists.{mapped_place}
use Rattle.termination_model.proofs.Readiness.{at_of}
use Rattle.level_systems.specs.Held.{spelled}
use Rattle.level_systems.specs.declared.position.Position.{Position}

-- ---- positions
value_none : (ps : List Place) (ws : List ℕ) (q a : ℕ) → (In {X = Place} (q, a) ps → ⊥) → value_of_position ps ws q a ≡ 0
value_none [] ws q a h = refl
value_none (p ∷ ps) [] q a h = refl
value_none (p ∷ ps) (w ∷ ws) q a h = go (q == p.0) (p.1 == a) refl refl (value_none ps ws q a (λ i. h (inr i)))
  where
    go : (b d : Bool) → (q == p.0) ≡ b → (p.1 == a) ≡ d → value_of_position ps ws q a ≡ 0 → (if b then (if d then w else 0) else 0) + value_of_position ps ws q a ≡ 0
    go true true e f r = let s = eqb-true q p.0 e in let t = eqb-true p.1 a f in absurd (h (inl (λ i. (sym s i, t i))))
    go true false e f r = omega (arith, r)
    go false d e f r = omega (arith, r)

value_here : (ps : List Place) (ws : List ℕ) (i q a : ℕ) → AreDistinct ps → length ws ≡ length ps → slice_get ps i ≡ Some (q, a) → value_of_position ps ws q a ≡ slice_index_or ws i 0
value_here [] ws i q a d l at = cc
value_here (p ∷ ps) [] i q a d l at = absurd (omega (arith, l))
value_here (p ∷ ps) (w ∷ ws) zero q a d l at =
    let same : p ≡ (q, a) = cc in
    let rest = value_none ps ws q a (λ i. d.0 (subst (λ (z : Place). In z ps) (sym same) i)) in
    let first : (q == p.0) ≡ true = eq-eqb q p.0 (ap (λ (z : Place). z.0) (sym same)) in
    let second : (p.1 == a) ≡ true = eq-eqb p.1 a (ap (λ (z : Place). z.1) same) in
    let whole : w + 0 ≡ w = omega arith in
    (λ j. (if first j then (if second j then w else 0) else 0) + rest j) ∙ whole
value_here (p ∷ ps) (w ∷ ws) (suc i) q a d l at = go (q == p.0) (p.1 == a) refl refl (value_here ps ws i q a d.1 (omega (arith, l)) at)
  where
    go : (b e : Bool) → (q == p.0) ≡ b → (p.1 == a) ≡ e → value_of_position ps ws q a ≡ slice_index_or ws i 0 → (if b then (if e then w else 0) else 0) + value_of_position ps ws q a ≡ slice_index_or ws i 0
    go true true e f r =
        let s = eqb-true q p.0 e in
        let t = eqb-true p.1 a f in
        let same : p ≡ (q, a) = λ j. (sym s j, t j) in
        absurd (d.0 (subst (λ (z : Place). In z ps) (sym same) (at_of ps i (q, a) at)))
    go true false e f r = omega (arith, r)
    go false d2 e f r = omega (arith, r)

entry_mapped : (values : List ℤ) (cs : List ℕ) (n i : ℕ) → take n values ≡ map pos cs → i < n → length cs ≡ n → entry values i ≡ pos (slice_index_or cs i 0)
entry_mapped values cs zero i e lt l = absurd (omega arith)
entry_mapped values [] (suc n) i e lt l = absurd (omega (arith, l))
entry_mapped [] (c ∷ cs) (suc n) i e lt l = cc
entry_mapped (v ∷ values) (c ∷ cs) (suc n) zero e lt l = ap (λ (xs : List ℤ). entry xs 0) e
entry_mapped (v ∷ values) (c ∷ cs) (suc n) (suc i) e lt l =
    entry_mapped values cs n i (ap (λ (xs : List ℤ). drop 1 xs) e) (omega (arith, lt)) (omega (arith, l))

pub position_value : (positions : List Position) (values : List ℤ) (i q a : ℕ) (x : Position) → AreDistinct (map spelled positions) → slice_get positions i ≡ Some x → x.pred.0 ≡ q → x.argument ≡ a → i < length positions
    → (cs : List ℕ) → length cs ≡ length positions → take (length positions) values ≡ map pos cs → entry values i ≡ pos (value_of_position (map spelled positions) cs q a)
position_value positions values i q a x d at e f lt cs l same =
    let place : slice_get (map spelled positions) i ≡ Some (q, a) = mapped_place spelled positions i x at ∙ (λ j. Some (e j, f j)) in
    entry_mapped values cs (length positions) i same lt l ∙ sym (ap pos (value_here (map spelled positions) cs i q a d (l ∙ sym (length-map positions spelled)) place))

pub not_among : (positions : List Position) (q a : ℕ) → ((j : ℕ) → j < length positions → (x : Position) → slice_get positions j ≡ Some x → x.pred.0 ≡ q → x.argument ≡ a → ⊥)
    → In {X = Place} (q, a) (map spelled positions) → ⊥
not_among [] q a h i = i
not_among (x ∷ positions) q a h (inl e) = h 0 (omega arith) x refl (ap (λ (z : Place). z.0) e) (ap (λ (z : Place). z.1) e)
not_among (x ∷ positions) q a h (inr i) = not_among positions q a (λ j lt y at e f. h (suc j) (omega (arith, lt)) y at e f) i

pub no_value : (positions : List Position) (q a : ℕ) → ((j : ℕ) → j < length positions → (x : Position) → slice_get positions j ≡ Some x → x.pred.0 ≡ q → x.argument ≡ a → ⊥)
    → (cs : List ℕ) → pos 0 ≡ pos (value_of_position (map spelled positions) cs q a)
no_value positions q a h cs = ap pos (sym (value_none (map spelled positions) cs q a (not_among positions q a h)))

-- ---- members
member_none : (ms : List ℕ) (ws : List ℕ) (q : ℕ) → (In q ms → ⊥) → value_of_member ms ws q ≡ 0
member_none [] ws q h = refl
member_none (m ∷ ms) [] q h = refl
member_none (m ∷ ms) (w ∷ ws) q h = go (q == m) refl (member_none ms ws q (λ i. h (inr i)))
  where
    go : (b : Bool) → (q == m) ≡ b → value_of_member ms ws q ≡ 0 → (if b then w else 0) + value_of_member ms ws q ≡ 0
    go true e r = absurd (h (inl (sym (eqb-true q m e))))
    go false e r = omega (arith, r)

member_here : (ms : List ℕ) (ws : List ℕ) (i q : ℕ) → Apart ms → length ws ≡ length ms → slice_get ms i ≡ Some q → value_of_member ms ws q ≡ slice_index_or ws i 0
member_here [] ws i q d l at = cc
member_here (m ∷ ms) [] i q d l at = absurd (omega (arith, l))
member_here (m ∷ ms) (w ∷ ws) zero q d l at =
    let same : m ≡ q = cc in
    let rest = member_none ms ws q (λ i. d.0 (subst (λ (z : ℕ). In z ms) (sym same) i)) in
    let first : (q == m) ≡ true = eq-eqb q m (sym same) in
    let whole : w + 0 ≡ w = omega arith in
    (λ j. (if first j then w else 0) + rest j) ∙ whole
member_here (m ∷ ms) (w ∷ ws) (suc i) q d l at = go (q == m) refl (member_here ms ws i q d.1 (omega (arith, l)) at)
  where
    go : (b : Bool) → (q == m) ≡ b → value_of_member ms ws q ≡ slice_index_or ws i 0 → (if b then w else 0) + value_of_member ms ws q ≡ slice_index_or ws i 0
    go true e r = absurd (d.0 (subst (λ (z : ℕ). In z ms) (eqb-true q m e) (at_of ms i q at)))
    go false e r = omega (arith, r)

pub member_value : (members : List PredId) (values : List ℤ) (i q : ℕ) (x : PredId) → Apart (map number_of members) → slice_get members i ≡ Some x → x.0 ≡ q → i < length members
    → (os : List ℕ) → length os ≡ length members → take (length members) values ≡ map pos os → entry values i ≡ pos (value_of_member (map number_of members) os q)
member_value members values i q x d at e lt os l same =
    let place : slice_get (map number_of members) i ≡ Some q = mapped_place number_of members i x at ∙ ap (λ n. Some n) e in
    entry_mapped values os (length members) i same lt l ∙ sym (ap pos (member_here (map number_of members) os i q d (l ∙ sym (length-map members number_of)) place))

not_member : (members : List PredId) (q : ℕ) → ((j : ℕ) → j < length members → (x : PredId) → slice_get members j ≡ Some x → x.0 ≡ q → ⊥) → In q (map number_of members) → ⊥
not_member [] q h i = i
not_member (x ∷ members) q h (inl e) = h 0 (omega arith) x refl e
not_member (x ∷ members) q h (inr i) = not_member members q (λ j lt y at e. h (suc j) (omega (arith, lt)) y at e) i

pub no_member_value : (members : List PredId) (q : ℕ) → ((j : ℕ) → j < length members → (x : PredId) → slice_get members j ≡ Some x → x.0 ≡ q → ⊥)
    → (os : List ℕ) → pos 0 ≡ pos (value_of_member (map number_of members) os q)
no_member_value members q h os = ap pos (sym (member_none (map number_of members) os q (not_member members q h)))

-- ---- slices from a place on
pub rest_whole : (xs : List ℤ) (n : ℕ) → take (length xs - n) (drop n xs) ≡ drop n xs
rest_whole xs n = take_all (drop n xs) (length xs - n) (drop_short xs n)
  where
    take_all : (ys : List ℤ) (k : ℕ) → length ys ≤ k → take k ys ≡ ys
    take_all [] zero l = refl
    take_all [] (suc k) l = refl
    take_all (y ∷ ys) zero l = absurd (omega (arith, l))
    take_all (y ∷ ys) (suc k) l = ap (λ s. y ∷ s) (take_all ys k (omega (arith, l)))

    drop_short : (ys : List ℤ) (k : ℕ) → length (drop k ys) ≤ length ys - k
    drop_short ys zero = omega arith
    drop_short [] (suc k) = omega arith
    drop_short (y ∷ ys) (suc k) = let r = drop_short ys k in omega (arith, r)
