-- Sets of positions under other numbers.
use Rattle.std.proofs.Common.{◌≡◌, ℕ, zero, suc, ◌+◌, ◌<◌, ◌≤◌, ◌⊎◌, Bool, true, false, if◌then◌else◌, not, ◌||◌, inl, inr, List, [], ◌∷◌, map, length, refl, ap, sym, subst, ◌∙◌, arith, nat_eq, nat_lt}
use Rattle.std.specs.List.{list_any}
use Rattle.std.proofs.lemmas.Bool.Decides.{nat_tests}
use Rattle.linear_rows.specs.Members.{In}
use Rattle.linear_rows.specs.Step.{columns}
use Rattle.linear_rows.proofs.Members.{in-filter, in-map, of-filter}
use Rattle.termination_model.specs.claims.Claims.{Mapping}
use Rattle.termination_model.specs.mappings.Coefficients.{coefficient}
use Rattle.termination_model.specs.grounds.Minimal.{IsSet}
use Rattle.termination_model.specs.mappings.OwnCalls.{Position}
use Rattle.termination_model.specs.mappings.Supports.{AreDistinct, picked_from, support_from}
use Rattle.termination_model.proofs.Having.{support_set}
use Rattle.termination_model.proofs.ImageLaw.{in_columns, of_columns}
use Rattle.termination_model.proofs.Sets.{Part, any_in, in_any, part_same, part_shorter, set_lower, within}
use Rattle.level_systems.specs.Found.{without_number}
use Rattle.level_systems.specs.Subsequences.{AreOnce}
use Rattle.level_dual.proofs.FoundCases.{full_is_set}
use Rattle.level_dual.proofs.LargeLaws.{set_once, without_set}
use Rattle.component_laws.specs.Mapped.{AreSamePositions, pulled}
use Rattle.component_laws.specs.Renaming.{KeepsApart}
use Rattle.component_laws.specs.Supported.{IsFrom, IsNumber, IsSameNumber}
use Rattle.component_laws.proofs.MappedLaws.{not_later, positive}
use Rattle.component_laws.proofs.SupportedLaws.{among, low_number, numbered, one_number, one_place}
use Rattle.carried_mappings.specs.Reordered.{renumbered, renumbered_from}
use Rattle.carried_mappings.proofs.Renamed.{length_mapped}

-- ---- numbers of positions
high_number : (i : ℕ) (ps : List Position) (n : ℕ) (x : Position) → IsNumber i ps n x → n < i + length ps
high_number i [] n x h = absurd h
high_number i (p ∷ ps) n x (inl e) = let is = e.0 in omega arith
high_number i (p ∷ ps) n x (inr h) = let l = high_number (suc i) ps n x h in omega arith

same_or_later : (i n : ℕ) → i ≤ n → (i ≡ n) ⊎ (suc i ≤ n)
same_or_later i n l = grind arith

number_there : (i : ℕ) (ps : List Position) (n : ℕ) → i ≤ n → n < i + length ps → (x : Position) × IsNumber i ps n x
number_there i [] n l h = absurd (omega arith)
number_there i (p ∷ ps) n l h = elim (same_or_later i n l) [
  | inl e ↦ (p, inl (e, refl))
  | inr later ↦ let more = number_there (suc i) ps n later (omega arith) in (more.0, inr more.1)
]

-- ---- the old number at a number
abbrev pub IsOld : ℕ → List ℕ → ℕ → ℕ → Type 0
IsOld i [] k n = ⊥
IsOld i (x ∷ xs) k n = ((i ≡ k) × (x ≡ n)) ⊎ IsOld (suc i) xs k n

low_old : (i : ℕ) (xs : List ℕ) (k n : ℕ) → IsOld i xs k n → i ≤ k
low_old i [] k n h = absurd h
low_old i (x ∷ xs) k n (inl e) = let is = e.0 in omega arith
low_old i (x ∷ xs) k n (inr h) = let l = low_old (suc i) xs k n h in omega arith

old_there : (i : ℕ) (xs : List ℕ) (k : ℕ) → i ≤ k → k < i + length xs → (n : ℕ) × IsOld i xs k n
old_there i [] k l h = absurd (omega arith)
old_there i (x ∷ xs) k l h = elim (same_or_later i k l) [
  | inl e ↦ (x, inl (e, refl))
  | inr later ↦ let more = old_there (suc i) xs k later (omega arith) in (more.0, inr more.1)
]

old_among : (i : ℕ) (xs : List ℕ) (k n : ℕ) → IsOld i xs k n → In n xs
old_among i [] k n h = absurd h
old_among i (x ∷ xs) k n (inl e) = inl e.1
old_among i (x ∷ xs) k n (inr h) = inr (old_among (suc i) xs k n h)

one_old : (i : ℕ) (xs : List ℕ) (k n m : ℕ) → IsOld i xs k n → IsOld i xs k m → n ≡ m
one_old i [] k n m h g = absurd h
one_old i (x ∷ xs) k n m (inl e) (inl g) = sym e.1 ∙ g.1
one_old i (x ∷ xs) k n m (inl e) (inr g) = let l = low_old (suc i) xs k m g in let is = e.0 in absurd (omega arith)
one_old i (x ∷ xs) k n m (inr h) (inl g) = let l = low_old (suc i) xs k n h in let is = g.0 in absurd (omega arith)
one_old i (x ∷ xs) k n m (inr h) (inr g) = one_old (suc i) xs k n m h g

-- ---- sets under other numbers
pub in_renumbered : (i : ℕ) (olds s : List ℕ) (k n : ℕ) → IsOld i olds k n → In n s → In k (renumbered_from i olds s)
in_renumbered i [] s k n h j = absurd h
in_renumbered i (x ∷ olds) s k n (inl e) j = go (list_any (λ y. nat_eq x y) s) (in_any x s (subst (λ (z : ℕ). In z s) (sym e.1) j))
  where
    go : (t : Bool) → t ≡ true → In k (if t then i ∷ renumbered_from (suc i) olds s else renumbered_from (suc i) olds s)
    go true is = inl e.0
    go false is = cc
in_renumbered i (x ∷ olds) s k n (inr h) j = go (list_any (λ y. nat_eq x y) s) (in_renumbered (suc i) olds s k n h j)
  where
    go : (t : Bool) → In k (renumbered_from (suc i) olds s) → In k (if t then i ∷ renumbered_from (suc i) olds s else renumbered_from (suc i) olds s)
    go true more = inr more
    go false more = more

pub of_renumbered : (i : ℕ) (olds s : List ℕ) (k : ℕ) → In k (renumbered_from i olds s) → (n : ℕ) × IsOld i olds k n × In n s
of_renumbered i [] s k h = absurd h
of_renumbered i (x ∷ olds) s k h = go (list_any (λ y. nat_eq x y) s) refl (of_renumbered (suc i) olds s k) h
  where
    later : (n : ℕ) × IsOld (suc i) olds k n × In n s → (n : ℕ) × IsOld i (x ∷ olds) k n × In n s
    later more = (more.0, inr more.1, more.2)

    go : (t : Bool) → list_any (λ y. nat_eq x y) s ≡ t → (In k (renumbered_from (suc i) olds s) → (n : ℕ) × IsOld (suc i) olds k n × In n s)
        → In k (if t then i ∷ renumbered_from (suc i) olds s else renumbered_from (suc i) olds s) → (n : ℕ) × IsOld i (x ∷ olds) k n × In n s
    go true is more (inl e) = (x, inl (e, refl), any_in x s is)
    go true is more (inr j) = later (more j)
    go false is more j = later (more j)

renumbered_is_set : (i hi : ℕ) (olds s : List ℕ) → hi ≡ i + length olds → IsSet i hi (renumbered_from i olds s)
renumbered_is_set i hi [] s e = tt
renumbered_is_set i hi (x ∷ olds) s e = go (list_any (λ y. nat_eq x y) s) (renumbered_is_set (suc i) hi olds s (omega arith))
  where
    go : (t : Bool) → IsSet (suc i) hi (renumbered_from (suc i) olds s) → IsSet i hi (if t then i ∷ renumbered_from (suc i) olds s else renumbered_from (suc i) olds s)
    go true more = (omega arith, omega arith, more)
    go false more = set_lower i hi (renumbered_from (suc i) olds s) more

pub renumbered_set : (olds s : List ℕ) → IsSet 1 (suc (length olds)) (renumbered olds s)
renumbered_set olds s = renumbered_is_set 1 (suc (length olds)) olds s (omega arith)

-- sets with the same numbers
pub one_set : (lo hi lo' hi' : ℕ) (xs ys : List ℕ) → IsSet lo hi xs → IsSet lo' hi' ys → Part xs ys → Part ys xs → xs ≡ ys
one_set lo hi lo' hi' xs ys h k p q = part_same lo hi lo' hi' xs ys h k p (part_shorter lo' hi' lo hi ys xs k h q)

-- ---- sets without a number
test_of : (i x : ℕ) → (x ≡ i → ⊥) → not (nat_eq i x) ≡ true
test_of i x h = go (nat_eq i x) refl
  where
    go : (t : Bool) → nat_eq i x ≡ t → not t ≡ true
    go true e = absurd (h (grind (arith, nat_tests)))
    go false e = refl

of_test : (i x : ℕ) → not (nat_eq i x) ≡ true → x ≡ i → ⊥
of_test i x t e = let yes : nat_eq i x ≡ true = grind (arith, nat_tests) in let no_one : not true ≡ true = ap not (sym yes) ∙ t in cc

in_without : (i x : ℕ) (s : List ℕ) → In x s → (x ≡ i → ⊥) → In x (without_number i s)
in_without i x s j h = in-filter (λ y. not (nat_eq i y)) s x (test_of i x h) j

of_without : (i x : ℕ) (s : List ℕ) → In x (without_number i s) → In x s × (x ≡ i → ⊥)
of_without i x s j = let k = of-filter (λ y. not (nat_eq i y)) s x j in (k.0, of_test i x k.1)

-- ---- how many there are
rest_of : {X : Type 0} (x : X) (ys : List X) → In x ys → (zs : List X) × (length ys ≡ suc (length zs)) × ((z : X) → In z ys → (z ≡ x) ⊎ In z zs)
rest_of x [] h = absurd h
rest_of x (y ∷ ys) (inl e) = (ys, refl, λ z i. elim i [ inl g ↦ inl (sym g ∙ e) | inr j ↦ inr j ])
rest_of x (y ∷ ys) (inr h) =
    let more = rest_of x ys h in (
      y ∷ more.0,
      ap suc more.1,
      λ z i. elim i [
        | inl g ↦ inr (inl g)
        | inr j ↦ elim (more.2 z j) [ inl g ↦ inl g | inr k ↦ inr (inr k) ]
      ],
    )

no_more : {X : Type 0} (xs ys : List X) → AreOnce xs → ((z : X) → In z xs → In z ys) → length xs ≤ length ys
no_more [] ys once sub = omega arith
no_more (x ∷ xs) ys once sub =
    let rest = rest_of x ys (sub x (inl refl)) in
    let less = no_more xs rest.0 once.1 (λ z i. elim (rest.2 z (sub z (inr i))) [
      | inl e ↦ absurd (once.0 (subst (λ v. In v xs) e i))
      | inr j ↦ j
    ]) in
    let is = rest.1 in
    omega arith

distinct_once : (ps : List Position) → AreDistinct ps → AreOnce ps
distinct_once [] d = tt
distinct_once (p ∷ ps) d = (d.0, distinct_once ps d.1)

columns_long : (k n : ℕ) → length (columns k n) ≡ n
columns_long k zero = refl
columns_long k (suc n) = ap suc (columns_long (suc k) n)

-- ---- positions of a support
support_any : (i : ℕ) (ps : List Position) (l : Mapping) (n : ℕ) (x : Position) → IsNumber i ps n x → list_any (λ y. nat_eq n y) (support_from i ps l) ≡ positive l x
support_any i [] l n x h = absurd h
support_any i (p ∷ ps) l n x (inl e) = go (positive l p) ∙ ap (positive l) e.1
  where
    here : nat_eq n i ≡ true
    here = let is = e.0 in grind (arith, nat_tests)

    none : (t : Bool) → list_any (λ y. nat_eq n y) (support_from (suc i) ps l) ≡ t → t ≡ false
    none true a = absurd (not_later ps l i (subst (λ (z : ℕ). In z (support_from (suc i) ps l)) (sym e.0) (any_in n (support_from (suc i) ps l) a)))
    none false a = refl

    go : (t : Bool) → list_any (λ y. nat_eq n y) (if t then i ∷ support_from (suc i) ps l else support_from (suc i) ps l) ≡ t
    go true = in_any n (i ∷ support_from (suc i) ps l) (inl e.0)
    go false = none (list_any (λ y. nat_eq n y) (support_from (suc i) ps l)) refl
support_any i (p ∷ ps) l n x (inr h) = go (positive l p) ∙ support_any (suc i) ps l n x h
  where
    other : nat_eq n i ≡ false
    other = let low = low_number (suc i) ps n x h in grind (arith, nat_tests)

    rest : List ℕ
    rest = support_from (suc i) ps l

    go : (t : Bool) → list_any (λ y. nat_eq n y) (if t then i ∷ support_from (suc i) ps l else support_from (suc i) ps l) ≡ list_any (λ y. nat_eq n y) (support_from (suc i) ps l)
    go true = λ j. other j || list_any (λ y. nat_eq n y) (support_from (suc i) ps l)
    go false = refl

-- ---- picked positions
in_picked : (i : ℕ) (ps : List Position) (s : List ℕ) (n : ℕ) (x : Position) → IsNumber i ps n x → In n s → In x (picked_from i ps s)
in_picked i [] s n x h j = absurd h
in_picked i (p ∷ ps) s n x (inl e) j = go (list_any (λ y. nat_eq i y) s) (in_any i s (subst (λ (z : ℕ). In z s) (sym e.0) j))
  where
    go : (t : Bool) → t ≡ true → In x (if t then p ∷ picked_from (suc i) ps s else picked_from (suc i) ps s)
    go true is = inl e.1
    go false is = cc
in_picked i (p ∷ ps) s n x (inr h) j = go (list_any (λ y. nat_eq i y) s) (in_picked (suc i) ps s n x h j)
  where
    go : (t : Bool) → In x (picked_from (suc i) ps s) → In x (if t then p ∷ picked_from (suc i) ps s else picked_from (suc i) ps s)
    go true more = inr more
    go false more = more

of_picked : (i : ℕ) (ps : List Position) (s : List ℕ) (x : Position) → In x (picked_from i ps s) → (n : ℕ) × IsNumber i ps n x × In n s
of_picked i [] s x h = absurd h
of_picked i (p ∷ ps) s x h = go (list_any (λ y. nat_eq i y) s) refl (of_picked (suc i) ps s x) h
  where
    later : (n : ℕ) × IsNumber (suc i) ps n x × In n s → (n : ℕ) × IsNumber i (p ∷ ps) n x × In n s
    later more = (more.0, inr more.1, more.2)

    go : (t : Bool) → list_any (λ y. nat_eq i y) s ≡ t → (In x (picked_from (suc i) ps s) → (n : ℕ) × IsNumber (suc i) ps n x × In n s)
        → In x (if t then p ∷ picked_from (suc i) ps s else picked_from (suc i) ps s) → (n : ℕ) × IsNumber i (p ∷ ps) n x × In n s
    go true is more (inl e) = (i, inl (refl, e), any_in i s is)
    go true is more (inr j) = later (more j)
    go false is more j = later (more j)

-- ---- the same positions in another order
-- the positions have these old numbers
abbrev pub HaveOlds : (ℕ → ℕ) → List Position → List Position → List ℕ → Type 0
HaveOlds f ps [] [] = Unit {0}
HaveOlds f ps [] (n ∷ ns) = ⊥
HaveOlds f ps (x ∷ xs) [] = ⊥
HaveOlds f ps (x ∷ xs) (n ∷ ns) = ((at : Position) × IsNumber 1 ps n at × ((f at.0, at.1) ≡ x)) × HaveOlds f ps xs ns

module _ (f : ℕ → ℕ) (m : ℕ → Bool) (apart : KeepsApart (λ q. m q ≡ true) f) (ps new : List Position) (same : AreSamePositions f m ps new)
    (distinct : AreDistinct ps) (new_distinct : AreDistinct new) (olds : List ℕ) (are : HaveOlds f ps new olds) where
  as_many_olds : (xs : List Position) (ns : List ℕ) → HaveOlds f ps xs ns → length ns ≡ length xs
  as_many_olds [] [] h = refl
  as_many_olds [] (n ∷ ns) h = absurd h
  as_many_olds (x ∷ xs) [] h = absurd h
  as_many_olds (x ∷ xs) (n ∷ ns) h = ap suc (as_many_olds xs ns h.1)

  pub olds_long : length olds ≡ length new
  olds_long = as_many_olds new olds are

  old_position : (i : ℕ) (xs : List Position) (ns : List ℕ) → HaveOlds f ps xs ns → (k n : ℕ) → IsOld i ns k n → (at : Position) × IsNumber 1 ps n at × IsNumber i xs k (f at.0, at.1)
  old_position i [] [] h k n o = absurd o
  old_position i [] (y ∷ ns) h k n o = absurd h
  old_position i (x ∷ xs) [] h k n o = absurd h
  old_position i (x ∷ xs) (y ∷ ns) h k n (inl e) = (h.0.0, subst (λ (z : ℕ). IsNumber 1 ps z h.0.0) e.1 h.0.1, inl (e.0, sym h.0.2))
  old_position i (x ∷ xs) (y ∷ ns) h k n (inr o) = let more = old_position (suc i) xs ns h.1 k n o in (more.0, more.1, inr more.2)

  pub old_is : (k n : ℕ) → IsOld 1 olds k n → IsSameNumber f ps new n k
  old_is k n o = let x = old_position 1 new olds are k n o in record { at = x.0; here = x.1; there = x.2 }

  old_of : (i : ℕ) (xs : List Position) (ns : List ℕ) → HaveOlds f ps xs ns → (k : ℕ) (x : Position) → IsNumber i xs k x → (n : ℕ) × IsOld i ns k n
  old_of i [] ns h k x o = absurd o
  old_of i (y ∷ xs) [] h k x o = absurd h
  old_of i (y ∷ xs) (n ∷ ns) h k x (inl e) = (n, inl (e.0, refl))
  old_of i (y ∷ xs) (n ∷ ns) h k x (inr o) = let more = old_of (suc i) xs ns h.1 k x o in (more.0, inr more.1)

  same_place : (x y : Position) → In x ps → In y ps → ◌≡◌ {A = Position} (f x.0, x.1) (f y.0, y.1) → x ≡ y
  same_place x y i j e =
      let first : x.0 ≡ y.0 = apart x.0 y.0 (same.members x.0 x.1 i) (same.members y.0 y.1 j) (ap (λ (z : Position). z.0) e) in
      let second : x.1 ≡ y.1 = ap (λ (z : Position). z.1) e in
      λ k. (first k, second k)

  -- each position has a number there
  pub new_of : (n : ℕ) (x : Position) → IsNumber 1 ps n x → (k : ℕ) × IsOld 1 olds k n × IsNumber 1 new k (f x.0, x.1)
  new_of n x h =
      let i = among 1 ps n x h in
      let k = numbered 1 new (f x.0, x.1) (same.there x.0 x.1 i) in
      let o = old_of 1 new olds are k.0 (f x.0, x.1) k.1 in
      let s = old_is k.0 o.0 o.1 in
      let place = same_place s.at x (among 1 ps o.0 s.at s.here) i (one_place 1 new k.0 (f s.at.0, s.at.1) (f x.0, x.1) s.there k.1) in
      let number : o.0 ≡ n = one_number 1 ps distinct o.0 n x (subst (IsNumber 1 ps o.0) place s.here) h in
      (k.0, subst (IsOld 1 olds k.0) number o.1, k.1)

  new_at : (n : ℕ) → 1 ≤ n → n < suc (length ps) → (k : ℕ) × IsOld 1 olds k n
  new_at n low high = let x = number_there 1 ps n low (omega arith) in let k = new_of n x.0 x.1 in (k.0, k.1)

  one_new : (k j n : ℕ) → IsOld 1 olds k n → IsOld 1 olds j n → k ≡ j
  one_new k j n a b =
      let x = old_is k n a in
      let y = old_is j n b in
      let place : x.at ≡ y.at = one_place 1 ps n x.at y.at x.here y.here in
      one_number 1 new new_distinct k j (f y.at.0, y.at.1) (subst (λ (z : Position). IsNumber 1 new k (f z.0, z.1)) place x.there) y.there

  old_bounds : (k n : ℕ) → IsOld 1 olds k n → (1 ≤ n) × (n < suc (length ps))
  old_bounds k n o =
      let x = old_is k n o in
      let low = low_number 1 ps n x.at x.here in
      let high = high_number 1 ps n x.at x.here in
      (low, omega arith)

  -- ---- as many positions
  pub as_many : length new ≡ length ps
  as_many = let a = fewer in let b = more in omega arith
    where
      fewer : length new ≤ length ps
      fewer =
          let here : List Position = map (λ (x : Position). (f x.0, x.1)) ps in
          let l = no_more new here (distinct_once new new_distinct) (λ z i.
          let q = same.from z.0 z.1 i in
          subst (λ (r : ℕ). In (r, z.1) here) q.1 (in-map (λ (x : Position). (f x.0, x.1)) ps (q.0, z.1) q.2)) in
          let e : length here ≡ length ps = length_mapped (λ (x : Position). (f x.0, x.1)) ps in
          omega arith

      more : length ps ≤ length new
      more =
          let l = no_more (columns 1 (length ps)) olds (set_once 1 (suc (length ps)) (columns 1 (length ps)) (full_is_set (length ps))) (λ n i.
          let b = in_columns 1 (length ps) n i in
          let low = b.0 in
          let high = b.1 in
          let k = new_at n low (omega arith) in
          old_among 1 olds k.0 n k.1) in
          let e = columns_long 1 (length ps) in
          let g = olds_long in
          omega arith

  -- ---- sets
  pub from_old : (s : List ℕ) → IsFrom f ps new s (renumbered olds s)
  from_old s k i = let n = of_renumbered 1 olds s k i in (n.0, n.2, old_is k n.0 n.1)

  -- parts there are parts here
  pub part_back : (s t : List ℕ) → IsSet 1 (suc (length ps)) s → Part (renumbered olds s) (renumbered olds t) → Part s t
  part_back s t set part n i =
      let b = within 1 (suc (length ps)) s set n i in
      let k = new_at n b.0 b.1 in
      let o = of_renumbered 1 olds t k.0 (part k.0 (in_renumbered 1 olds s k.0 n k.1 i)) in
      subst (λ (z : ℕ). In z t) (one_old 1 olds k.0 o.0 n o.1 k.1) o.2

  pub one_renumbered : (s t : List ℕ) → IsSet 1 (suc (length ps)) s → IsSet 1 (suc (length ps)) t → renumbered olds s ≡ renumbered olds t → s ≡ t
  one_renumbered s t a b e =
      one_set 1 (suc (length ps)) 1 (suc (length ps)) s t a b
      (part_back s t a (λ k i. subst (In k) e i)) (part_back t s b (λ k i. subst (In k) (sym e) i))

  pub renumbered_full : renumbered olds (columns 1 (length ps)) ≡ columns 1 (length new)
  renumbered_full =
      let long = olds_long in
      one_set 1 (suc (length olds)) 1 (suc (length new)) (renumbered olds (columns 1 (length ps))) (columns 1 (length new)) (renumbered_set olds (columns 1 (length ps))) (full_is_set (length new))
      (λ k i.
      let b = within 1 (suc (length olds)) (renumbered olds (columns 1 (length ps))) (renumbered_set olds (columns 1 (length ps))) k i in
      let low = b.0 in
      let high = b.1 in
      of_columns 1 (length new) k low (omega arith))
      (λ k i.
      let b = in_columns 1 (length new) k i in
      let low = b.0 in
      let high = b.1 in
      let n = old_there 1 olds k low (omega arith) in
      let c = old_bounds k n.0 n.1 in
      let first = c.0 in
      let last = c.1 in
      in_renumbered 1 olds (columns 1 (length ps)) k n.0 n.1 (of_columns 1 (length ps) n.0 first (omega arith)))

  pub renumbered_without : (s : List ℕ) (k n : ℕ) → IsOld 1 olds k n → renumbered olds (without_number n s) ≡ without_number k (renumbered olds s)
  renumbered_without s k n o =
      one_set 1 (suc (length olds)) 1 (suc (length olds)) (renumbered olds (without_number n s)) (without_number k (renumbered olds s)) (renumbered_set olds (without_number n s))
      (without_set 1 (suc (length olds)) k (renumbered olds s) (renumbered_set olds s))
      (λ x i.
      let a = of_renumbered 1 olds (without_number n s) x i in
      let b = of_without n a.0 s a.2 in
      in_without k x (renumbered olds s) (in_renumbered 1 olds s x a.0 a.1 b.0) (λ e. b.1 (one_old 1 olds k a.0 n (subst (λ (z : ℕ). IsOld 1 olds z a.0) e a.1) o)))
      (λ x i.
      let b = of_without k x (renumbered olds s) i in
      let a = of_renumbered 1 olds s x b.0 in
      in_renumbered 1 olds (without_number n s) x a.0 a.1 (in_without n a.0 s a.2 (λ e. b.1 (one_new x k n (subst (IsOld 1 olds x) e a.1) o))))

  -- a number that is left out here has one there
  pub left_there : (s : List ℕ) → IsSet 1 (suc (length ps)) s → (n : ℕ) → In n s → (k : ℕ) × In k (renumbered olds s) × (renumbered olds (without_number n s) ≡ without_number k (renumbered olds s))
  left_there s set n i =
      let b = within 1 (suc (length ps)) s set n i in
      let k = new_at n b.0 b.1 in
      (k.0, in_renumbered 1 olds s k.0 n k.1 i, renumbered_without s k.0 n k.1)

  -- ---- supports
  support_each : (i : ℕ) (xs : List Position) (ns : List ℕ) → HaveOlds f ps xs ns → (l : Mapping) → support_from i xs l ≡ renumbered_from i ns (support_from 1 ps (pulled f m l))
  support_each i [] [] h l = refl
  support_each i [] (n ∷ ns) h l = absurd h
  support_each i (x ∷ xs) [] h l = absurd h
  support_each i (x ∷ xs) (n ∷ ns) h l =
      let at = h.0.0 in
      let is : m at.0 ≡ true = same.members at.0 at.1 (among 1 ps n at h.0.1) in
      let here : positive (pulled f m l) at ≡ positive l (f at.0, at.1) = (λ j. nat_lt 0 (coefficient (if is j then l.coefficients (f at.0) else []) at.1)) in
      let test : positive l x ≡ list_any (λ y. nat_eq n y) (support_from 1 ps (pulled f m l)) = ap (positive l) (sym h.0.2) ∙ sym here ∙ sym (support_any 1 ps (pulled f m l) n at h.0.1) in
      let more = support_each (suc i) xs ns h.1 l in
      λ j. if test j then i ∷ more j else more j

  pub support_renumbered : (l : Mapping) → support_from 1 new l ≡ renumbered olds (support_from 1 ps (pulled f m l))
  support_renumbered l = support_each 1 new olds are l

  pub support_is_set : (l : Mapping) → IsSet 1 (suc (length ps)) (support_from 1 ps l)
  support_is_set l = support_set ps l 1 (suc (length ps)) (omega arith)

  -- ---- picked positions
  pub picked_same : (s : List ℕ) → AreSamePositions f m (picked_from 1 ps s) (picked_from 1 new (renumbered olds s))
  picked_same s = record {
    members = λ q a h. let n = of_picked 1 ps s (q, a) h in same.members q a (among 1 ps n.0 (q, a) n.1);
    there = λ q a h.
        let n = of_picked 1 ps s (q, a) h in
        let k = new_of n.0 (q, a) n.1 in
        in_picked 1 new (renumbered olds s) k.0 (f q, a) k.2 (in_renumbered 1 olds s k.0 n.0 k.1 n.2);
    from = λ r a h.
        let k = of_picked 1 new (renumbered olds s) (r, a) h in
        let n = of_renumbered 1 olds s k.0 k.2 in
        let x = old_is k.0 n.0 n.1 in
        let place : (f x.at.0, x.at.1) ≡ (r, a) = one_place 1 new k.0 (f x.at.0, x.at.1) (r, a) x.there k.1 in
        let second : x.at.1 ≡ a = ap (λ (z : Position). z.1) place in
        (x.at.0, ap (λ (z : Position). z.0) place, subst (λ (z : ℕ). In (x.at.0, z) (picked_from 1 ps s)) second (in_picked 1 ps s n.0 x.at x.here n.2));
  }
