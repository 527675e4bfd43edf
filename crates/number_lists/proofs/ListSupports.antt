-- Supports of lists of mappings, as sets of positions.
use Rattle.std.proofs.Common.{◌≡◌, ◌==◌, ◌&&◌, ◌||◌, ◌⊎◌, ◌+◌, ◌<◌, ◌≤◌, inl, inr, nat_lt, nat_le, ℕ, zero, suc, map, ℤ, pos, negsuc, Bool, true, false, not, if◌then◌else◌, List, [], ◌∷◌, ◌++◌, length, refl, ap, sym, subst, ◌∙◌, arith, eqb-true, eq-eqb}
use Rattle.std.specs.Prelude.{nat_eq}
use Rattle.std.specs.List.{AllByRecursion, list_any}
use Rattle.std.proofs.lemmas.Bool.Decides.{nat_tests}
use Rattle.level_systems.specs.Subsequences.{AreOnce}
use Rattle.linear_rows.specs.Members.{In}
use Rattle.linear_rows.specs.Step.{columns}
use Rattle.linear_rows.proofs.Members.{in-left, in-map, in-right, of-append, of-map}
use Rattle.termination_model.specs.columns.ColumnClaims.{Mapping}
use Rattle.termination_model.specs.grounds.Minimal.{IsSet}
use Rattle.termination_model.specs.grounds.Modes.{is_part}
use Rattle.termination_model.proofs.Having.{part_head, part_tail}
use Rattle.termination_model.proofs.Lists.{append_assoc}
use Rattle.termination_model.proofs.Sets.{Part, any_in, in_any, of_part, set_lower}
use Rattle.transitions.specs.StuckSets.{Feature, IsWithin, number_of}
use Rattle.transitions.specs.Transitions.{Transition}
use Rattle.number_lists.specs.Coursing.{IsOver}
use Rattle.number_lists.specs.FoundLists.{HasList}
use Rattle.number_lists.specs.Features.{AreAllApart, AreApart, AreColumnsOnce, columns_in, columns_of, features_of, has_column, is_picked, is_used, is_zero, list_support_from, picked_from}
use Rattle.number_lists.specs.declared.position.Position.{Position}
use Rattle.number_lists.proofs.Lacking.{both, either, or_right}
use Rattle.number_lists.proofs.Tracked.{of_all}

-- ---- columns of positions
pub column_range : (k n i : ℕ) → In i (columns k n) → (k ≤ i) × (i < k + n)
column_range k zero i h = absurd h
column_range k (suc n) i (inl e) = (omega (arith, e), omega (arith, e))
column_range k (suc n) i (inr h) = let r = column_range (suc k) n i h in (omega (arith, r.0), omega (arith, r.1))

pub range_column : (k n i : ℕ) → k ≤ i → i < k + n → In i (columns k n)
range_column k zero i l h = absurd (omega (arith, l, h))
range_column k (suc n) i l h = go (k == i) refl (range_column (suc k) n i)
  where
    go : (b : Bool) → (k == i) ≡ b → (suc k ≤ i → i < suc k + n → In i (columns (suc k) n)) → In i (columns k (suc n))
    go true e rec = inl (eqb-true k i e)
    go false e rec = inr (rec (grind (arith, nat_tests, e, l)) (omega (arith, h)))

pub has_of : (f : Feature) (r : Position) → In f (columns_of r) → has_column f r ≡ true
has_of f r h =
    let (i, inside, is) = of-map (λ (j : ℕ). let g : Feature = (r.member, suc j) in g) (columns r.first r.count) f h in
    let range = column_range r.first r.count i inside in
    let a : (r.member == f.0) ≡ true = eq-eqb r.member f.0 (ap (λ (g : Feature). g.0) is) in
    let number : suc i ≡ f.1 = ap (λ (g : Feature). g.1) is in
    let b : nat_lt r.first f.1 ≡ true = grind (arith, nat_tests, range.0, number) in
    let d : nat_le f.1 (r.first + r.count) ≡ true = grind (arith, nat_tests, range.1, number) in
    λ j. a j && (b j && d j)

pub of_has : (f : Feature) (r : Position) → has_column f r ≡ true → In f (columns_of r)
of_has (q, zero) r h =
    let first = both (r.member == q) (nat_lt r.first 0 && nat_le 0 (r.first + r.count)) h in
    let second = both (nat_lt r.first 0) (nat_le 0 (r.first + r.count)) first.1 in
    absurd (grind (arith, nat_tests, second.0))
of_has (q, suc i) r h =
    let first = both (r.member == q) (nat_lt r.first (suc i) && nat_le (suc i) (r.first + r.count)) h in
    let second = both (nat_lt r.first (suc i)) (nat_le (suc i) (r.first + r.count)) first.1 in
    let low : r.first ≤ i = grind (arith, nat_tests, second.0) in
    let high : i < r.first + r.count = grind (arith, nat_tests, second.1) in
    let inside = in-map (λ (j : ℕ). let g : Feature = (r.member, suc j) in g) (columns r.first r.count) i (range_column r.first r.count i low high) in
    let same : r.member ≡ q = eqb-true r.member q first.0 in
    subst (λ (m : ℕ). let g : Feature = (m, suc i) in In g (columns_of r)) same inside

-- a column of one of the positions
pub of_any : (f : Feature) (ps : List Position) → list_any (has_column f) ps ≡ true → (r : Position) × In r ps × In f (columns_of r)
of_any f [] h = cc
of_any f (r ∷ ps) h = elim (either (has_column f r) (list_any (has_column f) ps) h) [
  | inl a ↦ (r, inl refl, of_has f r a)
  | inr b ↦ let t = of_any f ps b in (t.0, inr t.1, t.2)
]

pub any_of : (f : Feature) (ps : List Position) (r : Position) → In r ps → In f (columns_of r) → list_any (has_column f) ps ≡ true
any_of f [] r i h = absurd i
any_of f (x ∷ ps) r (inl e) h = ap (λ b. b || list_any (has_column f) ps) (has_of f x (subst (λ (z : Position). In f (columns_of z)) (sym e) h))
any_of f (x ∷ ps) r (inr i) h = or_right (has_column f x) (list_any (has_column f) ps) (any_of f ps r i h)

in_columns : (f : Feature) (ps : List Position) (r : Position) → In r ps → In f (columns_of r) → In f (columns_in ps)
in_columns f [] r i h = absurd i
in_columns f (x ∷ ps) r (inl e) h = in-left (columns_of x) (columns_in ps) f (subst (λ (z : Position). In f (columns_of z)) (sym e) h)
in_columns f (x ∷ ps) r (inr i) h = in-right (columns_of x) (columns_in ps) f (in_columns f ps r i h)

of_columns : (f : Feature) (ps : List Position) → In f (columns_in ps) → (r : Position) × In r ps × In f (columns_of r)
of_columns f [] h = absurd h
of_columns f (x ∷ ps) h = elim (of-append (columns_of x) (columns_in ps) f h) [
  | inl a ↦ (x, inl refl, a)
  | inr b ↦ let t = of_columns f ps b in (t.0, inr t.1, t.2)
]

pub zero_number : (f : Feature) (ps : List Position) → (f.1 ≡ 0) → is_picked ps f ≡ true
zero_number f ps e = ap (λ b. b || list_any (has_column f) ps) (eq-eqb f.1 0 e)

pub picked_of : (members : List ℕ) (ps : List Position) (f : Feature) → In f (features_of members ps) → is_picked ps f ≡ true
picked_of members ps f h = elim (of-append (columns_in ps) (map (λ (q : ℕ). let g : Feature = (q, 0) in g) members) f h) [
  | inl a ↦ let t = of_columns f ps a in or_right (f.1 == 0) (list_any (has_column f) ps) (any_of f ps t.0 t.1 t.2)
  | inr b ↦ let (q, i, is) = of-map (λ (q : ℕ). let g : Feature = (q, 0) in g) members f b in zero_number f ps (sym (ap (λ (g : Feature). g.1) is))
]

-- what is picked is a column of one of the positions, or an offset, of a member or not
pub of_picked : (ps : List Position) (f : Feature) → is_picked ps f ≡ true → (f.1 ≡ 0) ⊎ ((r : Position) × In r ps × In f (columns_of r))
of_picked ps f h = elim (either (f.1 == 0) (list_any (has_column f) ps) h) [
  | inl a ↦ inl (eqb-true f.1 0 a)
  | inr b ↦ inr (of_any f ps b)
]

pub column_there : (members : List ℕ) (ps : List Position) (f : Feature) (r : Position) → In r ps → In f (columns_of r) → In f (features_of members ps)
column_there members ps f r i h = in-left (columns_in ps) (map (λ (q : ℕ). let g : Feature = (q, 0) in g) members) f (in_columns f ps r i h)

pub offset_there : (members : List ℕ) (ps : List Position) (f : Feature) → f.1 ≡ 0 → In f.0 members → In f (features_of members ps)
offset_there members ps (q, n) e i =
    let inside = in-map (λ (q : ℕ). let g : Feature = (q, 0) in g) members q i in
    in-right (columns_in ps) (map (λ (q : ℕ). let g : Feature = (q, 0) in g) members) (q, n) (subst (λ (k : ℕ). let g : Feature = (q, k) in In g (map (λ (q : ℕ). let g : Feature = (q, 0) in g) members)) (sym e) inside)

-- a mapping over these numbers is within the positions
pub within_over : (members : List ℕ) (ps : List Position) (l : Mapping) → IsOver (features_of members ps) l → IsWithin (is_picked ps) l
within_over members ps l over f out = over f (λ i. let t = picked_of members ps f i in cc)

-- ---- numbers other than 0
pub zero_of : (z : ℤ) → is_zero z ≡ true → z ≡ pos 0
zero_of (pos zero) e = refl
zero_of (pos (suc n)) e = cc
zero_of (negsuc n) e = cc

pub zero_or : (z : ℤ) → (z ≡ pos 0) ⊎ (is_zero z ≡ false)
zero_or (pos zero) = inl refl
zero_or (pos (suc n)) = inr refl
zero_or (negsuc n) = inr refl

pub not_zero_is : (z : ℤ) → is_zero z ≡ false → z ≡ pos 0 → ⊥
not_zero_is z e is = let t : is_zero z ≡ true = subst (λ y. is_zero y ≡ true) (sym is) refl in cc

pub or_left : (a b : Bool) → a ≡ true → (a || b) ≡ true
or_left a b e = ap (λ c. c || b) e

pub any_number : (l : Mapping) (fs : List Feature) (f : Feature) → In f fs → is_zero (number_of l f) ≡ false → list_any (λ g. not (is_zero (number_of l g))) fs ≡ true
any_number l [] f i e = absurd i
any_number l (g ∷ fs) f (inl is) e = or_left (not (is_zero (number_of l g))) (list_any (λ g. not (is_zero (number_of l g))) fs) (ap not (ap (λ (h : Feature). is_zero (number_of l h)) is ∙ e))
any_number l (g ∷ fs) f (inr i) e = or_right (not (is_zero (number_of l g))) (list_any (λ g. not (is_zero (number_of l g))) fs) (any_number l fs f i e)

pub number_any : (l : Mapping) (fs : List Feature) → list_any (λ g. not (is_zero (number_of l g))) fs ≡ true → (f : Feature) × In f fs × (is_zero (number_of l f) ≡ false)
number_any l [] h = cc
number_any l (g ∷ fs) h = elim (either (not (is_zero (number_of l g))) (list_any (λ g. not (is_zero (number_of l g))) fs) h) [
  | inl a ↦ (g, inl refl, unnot (is_zero (number_of l g)) a)
  | inr b ↦ let t = number_any l fs b in (t.0, inr t.1, t.2)
]
  where
    unnot : (b : Bool) → not b ≡ true → b ≡ false
    unnot true e = cc
    unnot false e = refl

pub used_in : (r : Position) (ls : List Mapping) (l : Mapping) (f : Feature) → In l ls → In f (columns_of r) → is_zero (number_of l f) ≡ false → is_used r ls ≡ true
used_in r [] l f i c e = absurd i
used_in r (k ∷ ls) l f (inl is) c e = or_left (list_any (λ g. not (is_zero (number_of k g))) (columns_of r)) (is_used r ls) (any_number k (columns_of r) f c (ap (λ (m : Mapping). is_zero (number_of m f)) is ∙ e))
used_in r (k ∷ ls) l f (inr i) c e = or_right (list_any (λ g. not (is_zero (number_of k g))) (columns_of r)) (is_used r ls) (used_in r ls l f i c e)

pub in_used : (r : Position) (ls : List Mapping) → is_used r ls ≡ true → (l : Mapping) × In l ls × ((f : Feature) × In f (columns_of r) × (is_zero (number_of l f) ≡ false))
in_used r [] h = cc
in_used r (k ∷ ls) h = elim (either (list_any (λ g. not (is_zero (number_of k g))) (columns_of r)) (is_used r ls) h) [
  | inl a ↦ (k, inl refl, number_any k (columns_of r) a)
  | inr b ↦ let t = in_used r ls b in (t.0, inr t.1, t.2)
]

-- ---- they are sets of numbers
set_case : (b : Bool) (i hi : ℕ) (rest : List ℕ) → i < hi → IsSet (suc i) hi rest → IsSet i hi (if b then i ∷ rest else rest)
set_case true i hi rest l h = (omega arith, l, h)
set_case false i hi rest l h = set_lower i hi rest h

pub list_set : (ps : List Position) (ls : List Mapping) (i hi : ℕ) → hi ≡ i + length ps → IsSet i hi (list_support_from i ps ls)
list_set [] ls i hi e = tt
list_set (r ∷ ps) ls i hi e = set_case (is_used r ls) i hi (list_support_from (suc i) ps ls) (omega arith) (list_set ps ls (suc i) hi (omega arith))

-- ---- picked positions
in_then : (b : Bool) (p : Position) (xs : List Position) (q : Position) → In q xs → In q (if b then p ∷ xs else xs)
in_then true p xs q h = inr h
in_then false p xs q h = h

in_here : (b : Bool) (p : Position) (xs : List Position) → b ≡ true → In p (if b then p ∷ xs else xs)
in_here true p xs h = inl refl
in_here false p xs h = cc

of_case : (b : Bool) (p : Position) (xs : List Position) (q : Position) → In q (if b then p ∷ xs else xs) → ((b ≡ true) × (p ≡ q)) ⊎ In q xs
of_case true p xs q (inl e) = inl (refl, e)
of_case true p xs q (inr h) = inr h
of_case false p xs q h = inr h

pub picked_in : (ps : List Position) (i : ℕ) (s : List ℕ) (p : Position) → In p (picked_from i ps s) → In p ps
picked_in [] i s p h = h
picked_in (x ∷ ps) i s p h = elim (of_case (list_any (λ y. nat_eq i y) s) x (picked_from (suc i) ps s) p h) [
  | inl e ↦ inl e.1
  | inr k ↦ inr (picked_in ps (suc i) s p k)
]

used_picked : (ps : List Position) (ls : List Mapping) (i : ℕ) (s : List ℕ) → Part (list_support_from i ps ls) s → (r : Position) → In r ps → is_used r ls ≡ true → In r (picked_from i ps s)
used_picked [] ls i s part r h u = absurd h
used_picked (x ∷ ps) ls i s part r (inl e) u =
    let used : is_used x ls ≡ true = subst (λ (z : Position). is_used z ls ≡ true) (sym e) u in
    let inside = part_head (is_used x ls) i (list_support_from (suc i) ps ls) s used part in
    subst (λ (z : Position). In z (picked_from i (x ∷ ps) s)) e (in_here (list_any (λ y. nat_eq i y) s) x (picked_from (suc i) ps s) (in_any i s inside))
used_picked (x ∷ ps) ls i s part r (inr h) u =
    in_then (list_any (λ y. nat_eq i y) s) x (picked_from (suc i) ps s) r (used_picked ps ls (suc i) s (part_tail (is_used x ls) i (list_support_from (suc i) ps ls) s part) r h u)

-- a list of which the support is part of a set is within the positions of the set
pub at_set : (ps : List Position) (s : List ℕ) (ls : List Mapping) → Part (list_support_from 1 ps ls) s → AllByRecursion (IsWithin (is_picked ps)) ls → (l : Mapping) → In l ls → IsWithin (is_picked (picked_from 1 ps s)) l
at_set ps s ls part all l i f out = elim (zero_or (number_of l f)) [
  | inl e ↦ e
  | inr n ↦ absurd (go (is_picked ps f) refl n)
]
  where
    column : (f.1 ≡ 0) ⊎ ((r : Position) × In r ps × In f (columns_of r)) → is_zero (number_of l f) ≡ false → ⊥
    column (inl e) n = let t = zero_number f (picked_from 1 ps s) e in cc
    column (inr (r, j, c)) n =
        let there = used_picked ps ls 1 s part r j (used_in r ls l f i c n) in
        let t = or_right (f.1 == 0) (list_any (has_column f) (picked_from 1 ps s)) (any_of f (picked_from 1 ps s) r there c) in
        cc

    go : (b : Bool) → is_picked ps f ≡ b → is_zero (number_of l f) ≡ false → ⊥
    go true e n = column (of_picked ps f e) n
    go false e n = not_zero_is (number_of l f) n (of_all (IsWithin (is_picked ps)) ls l all i f e)

-- ---- a list within the positions of a set has a support that is part of it
part_both : (b : Bool) (i : ℕ) (rest s : List ℕ) → (b ≡ true → In i s) → Part rest s → Part (if b then i ∷ rest else rest) s
part_both true i rest s h k x (inl e) = subst (λ (z : ℕ). In z s) e (h refl)
part_both true i rest s h k x (inr j) = k x j
part_both false i rest s h k x j = k x j

-- numbers other than 0 of columns of positions are at those that are picked
abbrev AreAt : List Position → ℕ → List ℕ → List Mapping → Type 0
AreAt ps i s ls = (l : Mapping) (f : Feature) (q : Position) → In l ls → is_zero (number_of l f) ≡ false → In q ps → In f (columns_of q) → (o : Position) × In o (picked_from i ps s) × In f (columns_of o)

list_part : (ps : List Position) (ls : List Mapping) (i : ℕ) (s : List ℕ) → AreAllApart ps → AreAt ps i s ls → Part (list_support_from i ps ls) s
list_part [] ls i s apart at = λ x k. absurd k
list_part (r ∷ ps) ls i s apart at =
    part_both (is_used r ls) i (list_support_from (suc i) ps ls) s
    (λ u.
    let (l, inside, (f, c, n)) = in_used r ls u in
    let (o, picked, d) = at l f r inside n (inl refl) c in
    elim (of_case (list_any (λ y. nat_eq i y) s) r (picked_from (suc i) ps s) o picked) [
      | inl e ↦ any_in i s e.0
      | inr k ↦ absurd (of_all (AreApart r) ps o apart.0 (picked_in ps (suc i) s o k) f c d)
    ])
    (list_part ps ls (suc i) s apart.1 (λ l f q inside n j c.
    let (o, picked, d) = at l f q inside n (inr j) c in
    elim (of_case (list_any (λ y. nat_eq i y) s) r (picked_from (suc i) ps s) o picked) [
      | inl e ↦ absurd (of_all (AreApart r) ps q apart.0 j f (subst (λ (z : Position). In f (columns_of z)) (sym e.1) d) c)
      | inr k ↦ (o, k, d)
    ]))

pub part_of_set : (ps : List Position) → AreAllApart ps → (s : List ℕ) (ls : List Mapping) → AllByRecursion (IsWithin (is_picked (picked_from 1 ps s))) ls → is_part (list_support_from 1 ps ls) s ≡ true
part_of_set ps apart s ls all = of_part (list_support_from 1 ps ls) s (list_part ps ls 1 s apart (λ l f q i n j c. go l f q i n c (is_picked (picked_from 1 ps s) f) refl))
  where
    column : (f : Feature) (q : Position) → In f (columns_of q) → (f.1 ≡ 0) ⊎ ((r : Position) × In r (picked_from 1 ps s) × In f (columns_of r)) → (o : Position) × In o (picked_from 1 ps s) × In f (columns_of o)
    column f q c (inl e) =
        let (i, inside, is) = of-map (λ (j : ℕ). let g : Feature = (q.member, suc j) in g) (columns q.first q.count) f c in
        let number : suc i ≡ f.1 = ap (λ (g : Feature). g.1) is in
        absurd (omega (arith, number, e))
    column f q c (inr t) = t

    go : (l : Mapping) (f : Feature) (q : Position) → In l ls → is_zero (number_of l f) ≡ false → In f (columns_of q) → (b : Bool) → is_picked (picked_from 1 ps s) f ≡ b → (o : Position) × In o (picked_from 1 ps s) × In f (columns_of o)
    go l f q i n c true e = column f q c (of_picked (picked_from 1 ps s) f e)
    go l f q i n c false e = absurd (not_zero_is (number_of l f) n (of_all (IsWithin (is_picked (picked_from 1 ps s))) ls l all i f e))

-- the numbers of a turn at a set are of these columns
pub of_columns_or : (members : List ℕ) (ps : List Position) (width : ℕ → ℕ) (s : List ℕ) (f : Feature) → AllByRecursion (λ (r : Position). r.first + r.count ≤ width r.member) ps → In f (features_of members (picked_from 1 ps s))
    → In f (features_of members ps) × (f.1 ≤ width f.0)
of_columns_or members ps width s f fit h = elim (of-append (columns_in (picked_from 1 ps s)) (map (λ (q : ℕ). let g : Feature = (q, 0) in g) members) f h) [
  | inl a ↦
      let (r, i, c) = of_columns f (picked_from 1 ps s) a in
      let inside = picked_in ps 1 s r i in
      (column_there members ps f r inside c, column_fits r (of_all (λ (q : Position). q.first + q.count ≤ width q.member) ps r fit inside) c)
  | inr b ↦
      let (q, i, is) = of-map (λ (q : ℕ). let g : Feature = (q, 0) in g) members f b in
      let none : f.1 ≡ 0 = sym (ap (λ (g : Feature). g.1) is) in
      (in-right (columns_in ps) (map (λ (q : ℕ). let g : Feature = (q, 0) in g) members) f b, omega (arith, none))
]
  where
    column_fits : (r : Position) → r.first + r.count ≤ width r.member → In f (columns_of r) → f.1 ≤ width f.0
    column_fits r room c =
        let (i, inside, is) = of-map (λ (j : ℕ). let g : Feature = (r.member, suc j) in g) (columns r.first r.count) f c in
        let range = column_range r.first r.count i inside in
        let number : suc i ≡ f.1 = ap (λ (g : Feature). g.1) is in
        let wide : width r.member ≡ width f.0 = ap width (ap (λ (g : Feature). g.0) is) in
        omega (arith, range.1, number, wide, room)

pub list_sets : (members : List ℕ) (ps : List Position) (τs : List Transition) (u : List ℕ) → HasList members ps τs u → IsSet 1 (suc (length ps)) u
list_sets members ps τs u h = subst (IsSet 1 (suc (length ps))) h.is (list_set ps h.list 1 (suc (length ps)) (omega arith))

-- ---- each column stands once
picked_away : (r : Position) (ps : List Position) (i : ℕ) (s : List ℕ) → AllByRecursion (AreApart r) ps → AllByRecursion (AreApart r) (picked_from i ps s)
picked_away r [] i s h = tt
picked_away r (q ∷ ps) i s h = go (list_any (λ y. nat_eq i y) s) (picked_away r ps (suc i) s h.1)
  where
    go : (b : Bool) → AllByRecursion (AreApart r) (picked_from (suc i) ps s) → AllByRecursion (AreApart r) (if b then q ∷ picked_from (suc i) ps s else picked_from (suc i) ps s)
    go true rest = (h.0, rest)
    go false rest = rest

pub picked_apart : (ps : List Position) (i : ℕ) (s : List ℕ) → AreAllApart ps → AreAllApart (picked_from i ps s)
picked_apart [] i s h = tt
picked_apart (q ∷ ps) i s h = go (list_any (λ y. nat_eq i y) s) (picked_apart ps (suc i) s h.1)
  where
    go : (b : Bool) → AreAllApart (picked_from (suc i) ps s) → AreAllApart (if b then q ∷ picked_from (suc i) ps s else picked_from (suc i) ps s)
    go true rest = (picked_away q ps (suc i) s h.0, rest)
    go false rest = rest

offsets_once : (members : List ℕ) → AreColumnsOnce (map (λ (q : ℕ). let g : Feature = (q, 0) in g) members)
offsets_once [] = tt
offsets_once (q ∷ members) = (inl refl, offsets_once members)

-- the columns of a position and then others
columns_once : (q k n : ℕ) (fs : List Feature) → ((i : ℕ) → k ≤ i → i < k + n → In (q, suc i) fs → ⊥) → AreColumnsOnce fs → AreColumnsOnce (map (λ (i : ℕ). let g : Feature = (q, suc i) in g) (columns k n) ++ fs)
columns_once q k zero fs out h = h
columns_once q k (suc n) fs out h = (
  inr (λ i. elim (of-append (map (λ (i : ℕ). let g : Feature = (q, suc i) in g) (columns (suc k) n)) fs (q, suc k) i) [
    | inl a ↦
        let (j, inside, is) = of-map (λ (i : ℕ). let g : Feature = (q, suc i) in g) (columns (suc k) n) (q, suc k) a in
        let number : suc j ≡ suc k = ap (λ (g : Feature). g.1) is in
        let range = column_range (suc k) n j inside in
        absurd (omega (arith, number, range.0))
    | inr b ↦ out k (omega arith) (omega arith) b
  ]),
  columns_once q (suc k) n fs (λ i low high b. out i (omega (arith, low)) (omega (arith, high)) b) h,
)

in_offsets : (members : List ℕ) (f : Feature) → In f (map (λ (q : ℕ). let g : Feature = (q, 0) in g) members) → f.1 ≡ 0
in_offsets members f h = let (q, i, is) = of-map (λ (q : ℕ). let g : Feature = (q, 0) in g) members f h in sym (ap (λ (g : Feature). g.1) is)

append_once : (r : Position) (ps : List Position) (offsets : List Feature) → (columns_of r ++ columns_in ps) ++ offsets ≡ columns_of r ++ (columns_in ps ++ offsets)
append_once r ps offsets = append_assoc (columns_of r) (columns_in ps) offsets

pub features_once : (members : List ℕ) (ps : List Position) → AreAllApart ps → AreColumnsOnce (features_of members ps)
features_once members [] h = offsets_once members
features_once members (r ∷ ps) h =
    let offsets = map (λ (q : ℕ). let g : Feature = (q, 0) in g) members in
    subst AreColumnsOnce (sym (append_once r ps offsets)) (columns_once r.member r.first r.count (columns_in ps ++ offsets) (λ i low high b. elim (of-append (columns_in ps) offsets (r.member, suc i) b) [
      | inl a ↦
          let (o, j, c) = of_columns (r.member, suc i) ps a in
          of_all (AreApart r) ps o h.0 j (r.member, suc i) (in-map (λ (k : ℕ). let g : Feature = (r.member, suc k) in g) (columns r.first r.count) i (range_column r.first r.count i low high)) c
      | inr d ↦ let none : suc i ≡ 0 = in_offsets members (r.member, suc i) d in absurd (omega (arith, none))
    ]) (features_once members ps h.1))

-- all positions are those of the set of all numbers
pub all_picked : (ps : List Position) (i : ℕ) (s : List ℕ) → ((k : ℕ) → i ≤ k → k < i + length ps → In k s) → picked_from i ps s ≡ ps
all_picked [] i s h = refl
all_picked (r ∷ ps) i s h =
    let here = in_any i s (h i (omega arith) (omega arith)) in
    let rest = all_picked ps (suc i) s (λ k low high. h k (omega (arith, low)) (omega (arith, high))) in
    λ j. if here j then r ∷ rest j else picked_from (suc i) ps s

offsets_sole : (members : List ℕ) → AreOnce members → AreOnce (map (λ (q : ℕ). let g : Feature = (q, 0) in g) members)
offsets_sole [] h = tt
offsets_sole (q ∷ members) h = (
  (λ i.
      let (r, j, is) = of-map (λ (x : ℕ). let g : Feature = (x, 0) in g) members (q, 0) i in
      h.0 (subst (λ (x : ℕ). In x members) (ap (λ (g : Feature). g.0) is) j)),
  offsets_sole members h.1,
)

columns_sole : (q k n : ℕ) (fs : List Feature) → ((i : ℕ) → k ≤ i → i < k + n → In (q, suc i) fs → ⊥) → AreOnce fs → AreOnce (map (λ (i : ℕ). let g : Feature = (q, suc i) in g) (columns k n) ++ fs)
columns_sole q k zero fs out h = h
columns_sole q k (suc n) fs out h = (
  (λ i. elim (of-append (map (λ (i : ℕ). let g : Feature = (q, suc i) in g) (columns (suc k) n)) fs (q, suc k) i) [
    | inl a ↦
        let (j, inside, is) = of-map (λ (i : ℕ). let g : Feature = (q, suc i) in g) (columns (suc k) n) (q, suc k) a in
        let number : suc j ≡ suc k = ap (λ (g : Feature). g.1) is in
        let range = column_range (suc k) n j inside in
        absurd (omega (arith, number, range.0))
    | inr b ↦ out k (omega arith) (omega arith) b
  ]),
  columns_sole q (suc k) n fs (λ i low high b. out i (omega (arith, low)) (omega (arith, high)) b) h,
)

pub features_sole : (members : List ℕ) (ps : List Position) → AreAllApart ps → AreOnce members → AreOnce (features_of members ps)
features_sole members [] h once = offsets_sole members once
features_sole members (r ∷ ps) h once =
    let offsets = map (λ (q : ℕ). let g : Feature = (q, 0) in g) members in
    subst AreOnce (sym (append_once r ps offsets)) (columns_sole r.member r.first r.count (columns_in ps ++ offsets) (λ i low high b. elim (of-append (columns_in ps) offsets (r.member, suc i) b) [
      | inl a ↦
          let (o, j, c) = of_columns (r.member, suc i) ps a in
          of_all (AreApart r) ps o h.0 j (r.member, suc i) (in-map (λ (k : ℕ). let g : Feature = (r.member, suc k) in g) (columns r.first r.count) i (range_column r.first r.count i low high)) c
      | inr d ↦ let none : suc i ≡ 0 = in_offsets members (r.member, suc i) d in absurd (omega (arith, none))
    ]) (features_sole members ps h.1 once))

pub suc_column : (f : Feature) (r : Position) → In f (columns_of r) → f.1 ≡ 0 → ⊥
suc_column f r c e =
    let (i, inside, is) = of-map (λ (j : ℕ). let g : Feature = (r.member, suc j) in g) (columns r.first r.count) f c in
    let number : suc i ≡ f.1 = ap (λ (g : Feature). g.1) is in
    absurd (omega (arith, number, e))

pub column_fits_in : (width : ℕ → ℕ) (f : Feature) (r : Position) → r.first + r.count ≤ width r.member → In f (columns_of r) → f.1 ≤ width f.0
column_fits_in width f r room c =
    let (i, inside, is) = of-map (λ (j : ℕ). let g : Feature = (r.member, suc j) in g) (columns r.first r.count) f c in
    let range = column_range r.first r.count i inside in
    let number : suc i ≡ f.1 = ap (λ (g : Feature). g.1) is in
    let wide : width r.member ≡ width f.0 = ap width (ap (λ (g : Feature). g.0) is) in
    omega (arith, range.1, number, wide, room)
