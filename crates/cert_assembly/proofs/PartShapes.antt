-- Items of lists by their places; parts of predicates in a mapping; the pairs of a component, and the one that leads
-- it.
use Rattle.std.proofs.Common.{◌≡◌, ◌≢◌, ℕ, zero, suc, ◌+◌, ◌-◌, ◌<◌, ◌≤◌, ◌≤ℤ◌, ◌==◌, ◌&&◌, ℤ, pos, Bool, true, false, if◌then◌else◌, List, [], ◌∷◌, ◌++◌, length, map, slice_get, slice_index_or, Contains, Some, None, Option, inl, inr, refl, ap, sym, subst, ◌∙◌, arith, eq-eqb, eqb-true}
use Rattle.std.specs.Prelude.{All}
use Rattle.std.specs.List.{AllByRecursion}
use Rattle.std.proofs.lemmas.Int.{ints}
use Rattle.std.proofs.lemmas.List.Elements.{All-cons, All-nil}
use Rattle.call_components.specs.Partition.{IsIn, Partition}
use Rattle.cert_structure.specs.Shape as shape
use Rattle.cert_structure.specs.Shape.{first_of, is_recursive, is_same, is_together, items_of}
use Rattle.cti_terms.specs.Listing.{numbered}
use Rattle.cti_terms.specs.declared.atom_list.Atom.{Atom}
use Rattle.cti_terms.specs.declared.clauses.Clause.{Clause}
use Rattle.level_systems.specs.Found.{IsNaturalPoint}
use Rattle.level_systems.specs.Mappings.{level_in}
use Rattle.level_systems.specs.Pairs.{calls_from, pairs_from}
use Rattle.level_systems.specs.declared.measure.Measure.{Measure}
use Rattle.linear_rows.specs.Members.{In}
use Rattle.linear_rows.specs.Solving.{zeros}
use Rattle.linear_rows.specs.declared.point.Point.{Point}
use Rattle.number_tests.specs.Shape.{IsLevelPart, list_at}
use Rattle.number_tests.specs.declared.level_part.LevelPart.{LevelPart}
use Rattle.termination_model.specs.claims.Claims.{SomeOf}
use Rattle.termination_model.specs.mappings.ComponentViews.{rank_in}
use Rattle.cert_assembly.proofs.ChainParts.{amounts_of}
use Rattle.cert_assembly.specs.Leading.{led_by}
use Rattle.cert_assembly.specs.Parted.{part_or_zero, zero_part}
use Rattle.cert_assembly.specs.Ranges.{IsPartBelow, IsPointBelow}

-- ---- lists
pub all_mapped : {X Y : Type 0} (P : Y → Type 0) (g : X → Y) (xs : List X) → AllByRecursion (λ x. P (g x)) xs → AllByRecursion P (map g xs)
all_mapped P g [] h = tt
all_mapped P g (x ∷ xs) h = (h.0, all_mapped P g xs h.1)

pub all_weaker : {X : Type 0} (P Q : X → Type 0) → ((x : X) → P x → Q x) → (xs : List X) → AllByRecursion P xs → AllByRecursion Q xs
all_weaker P Q f [] h = tt
all_weaker P Q f (x ∷ xs) h = (f x h.0, all_weaker P Q f xs h.1)

pub all_in : {X : Type 0} (P : X → Type 0) (xs : List X) (x : X) → AllByRecursion P xs → In x xs → P x
all_in P [] x h i = absurd i
all_in P (y ∷ ys) x h (inl e) = subst P e h.0
all_in P (y ∷ ys) x h (inr i) = all_in P ys x h.1 i

pub unmapped : {X Y : Type 0} (g : X → Y) (xs : List X) (j : ℕ) (y : Y) → slice_get (map g xs) j ≡ Some y → (x : X) × (slice_get xs j ≡ Some x) × (g x ≡ y)
unmapped g [] j y e = cc
unmapped g (x ∷ xs) zero y e = (x, refl, let same : g x ≡ y = cc in same)
unmapped g (x ∷ xs) (suc j) y e = unmapped g xs j y e

pub in_left : {X : Type 0} (x : X) (xs ys : List X) → In x xs → In x (xs ++ ys)
in_left x [] ys h = absurd h
in_left x (y ∷ xs) ys (inl e) = inl e
in_left x (y ∷ xs) ys (inr h) = inr (in_left x xs ys h)

pub in_right : {X : Type 0} (x : X) (xs ys : List X) → In x ys → In x (xs ++ ys)
in_right x [] ys h = h
in_right x (y ∷ xs) ys h = inr (in_right x xs ys h)

pub in_if : {X : Type 0} (x : X) (b : Bool) (xs ys : List X) → b ≡ true → In x xs → In x (if b then xs else ys)
in_if x true xs ys e h = h
in_if x false xs ys e h = cc

pub in_contains : (xs : List ℕ) (q : ℕ) → Contains xs q → In q xs
in_contains xs q (k, less, e) = go xs k less e
  where
    go : (xs : List ℕ) (k : ℕ) → k < length xs → slice_index_or xs k q ≡ q → In q xs
    go [] k less e = absurd (omega arith)
    go (x ∷ xs) zero less e = inl e
    go (x ∷ xs) (suc k) less e = inr (go xs k (omega arith) e)

pub list_is : {X : Type 0} (xss : List (List X)) (k : ℕ) → items_of xss k ≡ list_at xss k
list_is [] k = refl
list_is (x ∷ xss) zero = refl
list_is (x ∷ xss) (suc k) = list_is xss k

-- ---- parts
pub zeros_long : (n : ℕ) → length (zeros n) ≡ n
zeros_long zero = refl
zeros_long (suc n) = ap suc (zeros_long n)

pub zeros_natural : (n : ℕ) → All (λ x. pos 0 ≤ℤ x) (zeros n)
zeros_natural zero = All-nil (λ x. pos 0 ≤ℤ x)
zeros_natural (suc n) = All-cons (λ x. pos 0 ≤ℤ x) (pos 0) (zeros n) (omega (arith, ints)) (zeros_natural n)

pub zeros_zero : (n : ℕ) → AllByRecursion (λ (a : ℤ). a ≡ pos 0) (zeros n)
zeros_zero zero = tt
zeros_zero (suc n) = (refl, zeros_zero n)

pub zero_is : (n : ℕ) → IsLevelPart n (zero_part n)
zero_is n = record { each = zeros_long n; naturals = zeros_natural n; offset = omega (arith, ints) }

pub part_is : (n : ℕ) (o : Option LevelPart) → ((l : LevelPart) → o ≡ Some l → IsLevelPart n l) → IsLevelPart n (part_or_zero n o)
part_is n None h = zero_is n
part_is n (Some l) h = h l refl

pub level_is : (n : ℕ) (l : LevelPart) → IsLevelPart n l → IsPartBelow l → shape.IsLevel n l
level_is n l is below = (is.each, amounts_of l.coeffs is.naturals below.1, (is.offset, below.0))

module _ (P : ℕ → LevelPart → Type 0) where
  pub measured : (ms : List Measure) (q : ℕ) (l : LevelPart) → AllByRecursion (λ (m : Measure). P m.pred.0 m.part) ms → level_in ms q ≡ Some l → P q l
  measured [] q l h e = cc
  measured (m ∷ ms) q l h e = go (m.pred.0 == q) refl e (λ f. measured ms q l h.1 f)
    where
      go : (b : Bool) → (m.pred.0 == q) ≡ b → (if b then Some m.part else level_in ms q) ≡ Some l → (level_in ms q ≡ Some l → P q l) → P q l
      go true t f later =
          let same : m.part ≡ l = cc in
          subst (λ (x : ℕ). P x l) (eqb-true m.pred.0 q t) (subst (P m.pred.0) same h.0)
      go false t f later = later f

-- a measure for each member
pub measure_there : (ms : List Measure) (q : ℕ) → In q (map (λ (m : Measure). m.pred.0) ms) → (l : LevelPart) × (level_in ms q ≡ Some l)
measure_there [] q h = absurd h
measure_there (m ∷ ms) q h = go (m.pred.0 == q) refl h (λ i. measure_there ms q i)
  where
    go : (b : Bool) → (m.pred.0 == q) ≡ b → In q (m.pred.0 ∷ map (λ (m : Measure). m.pred.0) ms) → (In q (map (λ (m : Measure). m.pred.0) ms) → (l : LevelPart) × (level_in ms q ≡ Some l))
        → (l : LevelPart) × ((if b then Some m.part else level_in ms q) ≡ Some l)
    go true t i later = (m.part, refl)
    go false t (inl e) later = let yes = eq-eqb m.pred.0 q e in cc
    go false t (inr i) later = later i

-- ---- pairs
module _ (comps : Partition) (c : ℕ) where
  pub in_calls : (k i : ℕ) (bs : List Atom) (j : ℕ) (b : Atom) → slice_get bs j ≡ Some b → (rank_in comps b.pred.0 == c) ≡ true → In (k, suc (i + j)) (calls_from comps c k i bs)
  in_calls k i [] j b e r = cc
  in_calls k i (x ∷ xs) zero b e r =
      let same : x ≡ b = cc in
      let here : i ≡ i + 0 = omega arith in
      in_left (k, suc (i + 0)) (if rank_in comps x.pred.0 == c then (k, suc i) ∷ [] else []) (calls_from comps c k (suc i) xs)
      (in_if (k, suc (i + 0)) (rank_in comps x.pred.0 == c) ((k, suc i) ∷ []) [] (ap (λ (a : Atom). rank_in comps a.pred.0 == c) same ∙ r) (inl (ap (λ n. (k, suc n)) here)))
  in_calls k i (x ∷ xs) (suc j) b e r =
      let next : suc i + j ≡ i + suc j = omega arith in
      in_right (k, suc (i + suc j)) (if rank_in comps x.pred.0 == c then (k, suc i) ∷ [] else []) (calls_from comps c k (suc i) xs)
      (subst (λ n. In {X = ℕ × ℕ} (k, suc n) (calls_from comps c k (suc i) xs)) next (in_calls k (suc i) xs j b e r))

  pub in_pairs : (n : ℕ) (xs : List Clause) (i : ℕ) (x : Clause) (y : ℕ × ℕ) → slice_get xs i ≡ Some x → (rank_in comps x.head.pred.0 == c) ≡ true → In y (calls_from comps c (suc (n + i)) 0 x.body) → In y (pairs_from comps c n xs)
  in_pairs n [] i x y e r h = cc
  in_pairs n (z ∷ zs) zero x y e r h =
      let same : z ≡ x = cc in
      let here : n + 0 ≡ n = omega arith in
      in_left y (if rank_in comps z.head.pred.0 == c then calls_from comps c (suc n) 0 z.body else []) (pairs_from comps c (suc n) zs)
      (in_if y (rank_in comps z.head.pred.0 == c) (calls_from comps c (suc n) 0 z.body) [] (ap (λ (a : Clause). rank_in comps a.head.pred.0 == c) same ∙ r)
      (subst (λ (a : Clause). In y (calls_from comps c (suc n) 0 a.body)) (sym same) (subst (λ m. In y (calls_from comps c (suc m) 0 x.body)) here h)))
  in_pairs n (z ∷ zs) (suc i) x y e r h =
      let next : n + suc i ≡ suc n + i = omega arith in
      in_right y (if rank_in comps z.head.pred.0 == c then calls_from comps c (suc n) 0 z.body else []) (pairs_from comps c (suc n) zs)
      (in_pairs (suc n) zs i x y e r (subst (λ m. In y (calls_from comps c (suc m) 0 x.body)) next h))

-- ---- components
pub together_in : (comps : Partition) (a b c : ℕ) → IsIn comps c a → is_together comps a b ≡ true → IsIn comps c b
together_in comps a b c inside e = go (slice_get comps.of b) refl (subst (λ (o : Option ℕ). is_same o (slice_get comps.of b) ≡ true) inside e)
  where
    go : (o : Option ℕ) → slice_get comps.of b ≡ o → is_same (Some c) o ≡ true → slice_get comps.of b ≡ Some c
    go None h k = cc
    go (Some d) h k = h ∙ ap Some (sym (eqb-true c d k))

pub together_is : (comps : Partition) (c a b : ℕ) → IsIn comps c a → IsIn comps c b → is_together comps a b ≡ true
together_is comps c a b ia ib = (λ i. is_same (ia i) (ib i)) ∙ eq-eqb c c refl

-- the component that a predicate leads
pub led_parts : (comps : Partition) (q c : ℕ) → led_by comps q ≡ Some c → (is_recursive comps q ≡ true) × (first_of comps q ≡ q) × IsIn comps c q
led_parts comps q c e = go (is_recursive comps q) refl (first_of comps q == q) refl e
  where
    go : (a : Bool) → is_recursive comps q ≡ a → (b : Bool) → (first_of comps q == q) ≡ b → (if a && b then slice_get comps.of q else None) ≡ Some c
        → (is_recursive comps q ≡ true) × (first_of comps q ≡ q) × IsIn comps c q
    go true ea true eb h = (ea, eqb-true (first_of comps q) q eb, h)
    go true ea false eb h = cc
    go false ea b eb h = cc

pub leads : (comps : Partition) (q c : ℕ) → is_recursive comps q ≡ true → first_of comps q ≡ q → IsIn comps c q → led_by comps q ≡ Some c
leads comps q c a b inside = let same = eq-eqb (first_of comps q) q b in (λ i. if a i && same i then slice_get comps.of q else None) ∙ inside

-- ---- points
pub is_some : {X : Type 0} (o : Option X) (x : X) → o ≡ Some x → o ≢ None
is_some o x e n = cc

pub some_there : {X : Type 0} (P : X → Type 0) (xs : List X) → SomeOf P xs → 1 ≤ length xs
some_there P [] h = absurd h
some_there P (x ∷ xs) h = omega arith

pub numbered_at : {X : Type 0} (xs : List X) (n : ℕ) (x : X) → 1 ≤ n → slice_get xs (n - 1) ≡ Some x → numbered xs n ≡ Some x
numbered_at xs zero x l e = absurd (omega arith)
numbered_at xs (suc n) x l e = let back : suc n - 1 ≡ n = omega arith in ap (slice_get xs) (sym back) ∙ e

pub point_is : (n : ℕ) (x : Point) → length x.w ≡ n → IsNaturalPoint x → IsPointBelow x → shape.IsPoint n x
point_is n x long natural below = (long, (natural.0, below.0), amounts_of x.w natural.1 below.1)
