-- The rows that are solved: each variable has its bound from below, and their points are points of the given rows.
use Rattle.std.proofs.Common.{◌≡◌, ◌≢◌, ℕ, zero, suc, ℤ, pos, negsuc, List, [], ◌∷◌, ◌++◌, ◌+◌, ◌<◌, ◌≤◌, ◌+ℤ◌, ◌*ℤ◌, ◌-ℤ◌, map, length, refl, sym, subst, ap, ◌∙◌, arith, inl, inr, ◌⊎◌}
use Rattle.std.specs.Prelude.{◌≤ℤ◌, All}
use Rattle.std.specs.List.{All}
use Rattle.std.proofs.lemmas.Int.{ints}
use Rattle.exact128.specs.Sums.{entry, dot}
use Rattle.linear_rows.specs.Rows.{Holds, AllHold}
use Rattle.linear_rows.specs.Step.{Floors, HasFloor}
use Rattle.linear_rows.specs.Members.{In}
use Rattle.linear_rows.proofs.Members.{in-left, in-right, from_All, to_All}
use Rattle.linear_rows.specs.Solving.{zeros, units, floors, coefficients, carried, start_rows}

pub entry-zeros : (n j : ℕ) → entry (zeros n) j ≡ pos 0
entry-zeros zero j = refl
entry-zeros (suc n) zero = refl
entry-zeros (suc n) (suc j) = entry-zeros n j

pub entry-units : (n i : ℕ) → i < n → entry (units n i) i ≡ pos 1
entry-units zero i h = absurd (omega arith)
entry-units (suc n) zero h = refl
entry-units (suc n) (suc i) h = entry-units n i (omega arith)

pub entry-units-other : (n i j : ℕ) → j ≢ i → entry (units n i) j ≡ pos 0
entry-units-other zero i j h = refl
entry-units-other (suc n) zero zero h = absurd (h refl)
entry-units-other (suc n) zero (suc j) h = entry-zeros n j
entry-units-other (suc n) (suc i) zero h = refl
entry-units-other (suc n) (suc i) (suc j) h = entry-units-other n i j (λ e. h (ap suc e))

unit_floors : (m long i : ℕ) (b : ℤ) → i < long → b ≤ℤ pos 0 → Floors m (suc i) (b ∷ units long i)
unit_floors m long i b h low = record {
  rises = rw (entry-units long i h) (omega (arith, ints));
  others = other;
  low = low;
}
  where
    other : (j : ℕ) → 1 ≤ j → j ≤ m → j ≢ suc i → entry (b ∷ units long i) j ≡ pos 0
    other zero l g n = absurd (omega arith)
    other (suc j) l g n = entry-units-other long i j (λ e. n (ap suc e))

in-floors : (n i long j : ℕ) → i ≤ j → j < i + n → In (pos 0 ∷ units long j) (floors n i long)
in-floors zero i long j l h = absurd (omega arith)
in-floors (suc n) i long j l h = look (first_or i j l) (λ more. in-floors n (suc i) long j more (omega arith))
  where
    first_or : (i j : ℕ) → i ≤ j → (i ≡ j) ⊎ (suc i ≤ j)
    first_or i j l = search arith

    look : (i ≡ j) ⊎ (suc i ≤ j) → (suc i ≤ j → In (pos 0 ∷ units long j) (floors n (suc i) long)) → In (pos 0 ∷ units long j) ((pos 0 ∷ units long i) ∷ floors n (suc i) long)
    look (inl is) next = inl (ap (λ i. pos 0 ∷ units long i) is)
    look (inr more) next = inr (next more)

pub start_floors : (n j : ℕ) (given : List (List ℤ)) → 1 ≤ j → j ≤ n + 1 → HasFloor (n + 1) j (start_rows n given)
unfolding start_rows
start_floors n zero given l h = absurd (omega arith)
start_floors n (suc j) given l h = look (last_or n j (omega arith))
  where
    long : ℕ
    long = n + 1 + length given

    last_or : (n j : ℕ) → j < n + 1 → (j < n) ⊎ (j ≡ n)
    last_or n j h = search arith

    look : (j < n) ⊎ (j ≡ n) → HasFloor (n + 1) (suc j) (floors n 0 (n + 1 + length given) ++ (negsuc 0 ∷ units (n + 1 + length given) n) ∷ carried (length given) 0 given)
    look (inl lt) = record {
      row = pos 0 ∷ units (n + 1 + length given) j;
      here = in-left (floors n 0 (n + 1 + length given)) _ (pos 0 ∷ units (n + 1 + length given) j) (in-floors n 0 (n + 1 + length given) j (omega arith) (omega arith));
      floors = unit_floors (n + 1) (n + 1 + length given) j (pos 0) (omega arith) (omega (arith, ints));
    }
    look (inr is) = record {
      row = negsuc 0 ∷ units (n + 1 + length given) n;
      here = in-right (floors n 0 (n + 1 + length given)) ((negsuc 0 ∷ units (n + 1 + length given) n) ∷ carried (length given) 0 given) (negsuc 0 ∷ units (n + 1 + length given) n) (inl refl);
      floors = subst (λ k. Floors (n + 1) (suc k) (negsuc 0 ∷ units (n + 1 + length given) n)) (sym is) (unit_floors (n + 1) (n + 1 + length given) n (negsuc 0) (omega arith) (omega (arith, ints)));
    }

-- ---- their points
pub dot-zeros : (n : ℕ) (ps : List ℤ) → dot (zeros n) ps ≡ pos 0
unfolding dot
dot-zeros zero ps = refl
dot-zeros (suc n) [] = refl
dot-zeros (suc n) (p ∷ ps) = rw (dot-zeros n ps) (omega (arith, ints))

dot-units : (n i : ℕ) (w : List ℤ) (t : ℤ) → i < n → length w ≡ i → dot (units n i) (w ++ t ∷ []) ≡ t
unfolding dot
dot-units zero i w t h e = absurd (omega arith)
dot-units (suc n) zero [] t h e = rw (dot-zeros n []) (omega (arith, ints))
dot-units (suc n) zero (x ∷ w) t h e = absurd (omega arith)
dot-units (suc n) (suc i) [] t h e = absurd (omega arith)
dot-units (suc n) (suc i) (x ∷ w) t h e = rw (dot-units n i w t (omega arith) (omega arith)) (omega (arith, ints))

-- a given row, with its constant as the coefficient of t
dot-given : (cs : List ℤ) (b : ℤ) (more w : List ℤ) (t : ℤ) → length cs ≡ length w → dot (cs ++ b ∷ more) (w ++ t ∷ []) ≡ dot cs w +ℤ b *ℤ t
unfolding dot
dot-given [] b more [] t e = let z : dot more [] ≡ pos 0 = dot-none more in rw z (omega (arith, ints))
  where
    dot-none : (xs : List ℤ) → dot xs [] ≡ pos 0
    dot-none [] = refl
    dot-none (x ∷ xs) = refl
dot-given [] b more (x ∷ w) t e = absurd (omega arith)
dot-given (c ∷ cs) b more [] t e = absurd (omega arith)
dot-given (c ∷ cs) b more (x ∷ w) t e = rw (dot-given cs b more w t (omega arith)) (omega (arith, ints))

map-append : (w : List ℕ) (t : ℕ) → map pos (w ++ t ∷ []) ≡ map pos w ++ pos t ∷ []
map-append [] t = refl
map-append (x ∷ w) t = ap (λ l. pos x ∷ l) (map-append w t)

length-map-pos : (w : List ℕ) → length (map pos w) ≡ length w
length-map-pos [] = refl
length-map-pos (x ∷ w) = ap suc (length-map-pos w)

given_value : (r : List ℤ) (D t : ℕ) (w : List ℕ) (more : List ℤ) → length r ≡ length w + 1 → dot (pos 0 ∷ (coefficients r ++ entry r 0 ∷ more)) (pos D ∷ map pos (w ++ t ∷ [])) ≡ dot r (pos t ∷ map pos w)
unfolding dot
given_value [] D t w more e = absurd (omega arith)
given_value (b ∷ cs) D t w more e =
    let is = dot-given cs b more (map pos w) (pos t) (omega (arith, length-map-pos w)) in
    rw (map-append w t) (ap (λ z. pos 0 *ℤ pos D +ℤ z) is ∙ swapped D (dot cs (map pos w)) (b *ℤ pos t))
  where
    swapped : (D : ℕ) (x y : ℤ) → pos 0 *ℤ pos D +ℤ (x +ℤ y) ≡ y +ℤ x
    swapped D x y = omega (arith, ints)

in-carried : (long i : ℕ) (given : List (List ℤ)) (r : List ℤ) → In r given → (j : ℕ) × In (pos 0 ∷ (coefficients r ++ entry r 0 ∷ units long j)) (carried long i given)
in-carried long i [] r h = absurd h
in-carried long i (x ∷ xs) r (inl is) = (i, inl (ap (λ x. pos 0 ∷ (coefficients x ++ entry x 0 ∷ units long i)) is))
in-carried long i (x ∷ xs) r (inr h) = let f = in-carried long (suc i) xs r h in (f.0, inr f.1)

-- where the rows that are solved hold, the given rows hold, and t is at least 1
pub start_points : (n D t : ℕ) (w : List ℕ) (given : List (List ℤ)) → All (λ r. length r ≡ n + 1) given → length w ≡ n → 1 ≤ D → AllHold (start_rows n given) D (w ++ t ∷ []) → (1 ≤ t) × AllHold given t w
unfolding start_rows dot
start_points n D t w given wide lw d1 h = (t_some, given_hold)
  where
    rows : List (List ℤ)
    rows = floors n 0 (n + 1 + length given) ++ (negsuc 0 ∷ units (n + 1 + length given) n) ∷ carried (length given) 0 given

    t_value : dot (negsuc 0 ∷ units (n + 1 + length given) n) (pos D ∷ map pos (w ++ t ∷ [])) ≡ pos t -ℤ pos D
    t_value =
        let is = dot-units (n + 1 + length given) n (map pos w) (pos t) (omega arith) (length-map-pos w ∙ lw) in
        rw (map-append w t, is) (omega (arith, ints))

    t_some : 1 ≤ t
    t_some =
        let at = from_All (λ r. Holds r D (w ++ t ∷ [])) (floors n 0 (n + 1 + length given) ++ (negsuc 0 ∷ units (n + 1 + length given) n) ∷ carried (length given) 0 given) (negsuc 0 ∷ units (n + 1 + length given) n) h
        (in-right (floors n 0 (n + 1 + length given)) ((negsuc 0 ∷ units (n + 1 + length given) n) ∷ carried (length given) 0 given) _ (inl refl)) in
        omega (arith, ints, t_value)

    given_hold : AllHold given t w
    given_hold = to_All (λ r. Holds r t w) given (λ r i.
        let c = in-carried (length given) 0 given r i in
        let row = pos 0 ∷ (coefficients r ++ entry r 0 ∷ units (length given) c.0) in
        let at = from_All (λ r. Holds r D (w ++ t ∷ [])) (floors n 0 (n + 1 + length given) ++ (negsuc 0 ∷ units (n + 1 + length given) n) ∷ carried (length given) 0 given) row h
        (in-right (floors n 0 (n + 1 + length given)) ((negsuc 0 ∷ units (n + 1 + length given) n) ∷ carried (length given) 0 given) row (inr c.1)) in
        let long = from_All (λ r. length r ≡ n + 1) given r wide i in
        rw (← given_value r D t w (units (length given) c.0) (omega arith)) at)
