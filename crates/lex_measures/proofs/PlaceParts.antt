-- The places of calls in a list, and its mappings, one by one.
use Rattle.std.proofs.Common.{◌≡◌, ℕ, zero, suc, ◌≤◌, ◌==◌, ◌&&◌, ℤ, Bool, true, false, if◌then◌else◌, List, [], ◌∷◌, length, map, slice_get, Some, inl, inr, refl, ap, sym, subst, arith, eq-eqb, eqb-true}
use Rattle.std.proofs.lemmas.Bool.{and_parts}
use Rattle.std.proofs.lemmas.Bool.Decides.{nat_tests}
use Rattle.cti_terms.specs.Listing.{Listing}
use Rattle.cti_terms.specs.Tree.{Tree}
use Rattle.fact_reading.specs.Numbered.{AreEach, EachFrom}
use Rattle.cert_structure.specs.Numbered as old
use Rattle.number_tests.specs.Drops.{fall_number}
use Rattle.level_systems.specs.declared.measure.Measure.{Measure}
use Rattle.lex_turns.specs.Descending.{HasPlace, IsDrop}
use Rattle.lex_turns.specs.declared.call_drops.CallDrops.{CallDrops}
use Rattle.linear_rows.specs.Members.{In}
use Rattle.linear_rows.specs.declared.multipliers.Multipliers.{Multipliers}
use Rattle.number_tests.specs.Shape.{list_at}
use Rattle.lex_measures.specs.Exact.{place_in}

-- ---- items by their numbers
each_from : {X : Type 0} (P : ℕ → X → Type 0) (k : ℕ) (xs : List X) → old.EachFrom k P xs → EachFrom k P xs
each_from P k [] h = tt
each_from P k (x ∷ xs) h = (h.0, each_from P (suc k) xs h.1)

-- what each item has by its number, in the words of `fact_reading`
pub same_each : {X : Type 0} {n : ℕ} {P : ℕ → X → Type 0} (xs : List X) → old.AreEach n P xs → AreEach n P xs
same_each {P = P} xs are = record { count = are.count; each = each_from P 0 xs are.each }

weaker_from : {X : Type 0} (P Q : ℕ → X → Type 0) → ((i : ℕ) (x : X) → P i x → Q i x) → (k : ℕ) (xs : List X) → old.EachFrom k P xs → EachFrom k Q xs
weaker_from P Q f k [] h = tt
weaker_from P Q f k (x ∷ xs) h = (f k x h.0, weaker_from P Q f (suc k) xs h.1)

pub weaker_each : {X : Type 0} {n : ℕ} (P Q : ℕ → X → Type 0) → ((i : ℕ) (x : X) → P i x → Q i x) → (xs : List X) → old.AreEach n P xs → AreEach n Q xs
weaker_each P Q f xs are = record { count = are.count; each = weaker_from P Q f 0 xs are.each }

-- an item of an item of mapped lists
pub deep_at : {X Y : Type 0} (g : X → List Y) (xs : List X) (m i : ℕ) (y : Y) → slice_get (list_at (map g xs) m) i ≡ Some y → (x : X) × (slice_get xs m ≡ Some x) × (slice_get (g x) i ≡ Some y)
deep_at g [] m i y e = cc
deep_at g (x ∷ xs) zero i y e = (x, refl, e)
deep_at g (x ∷ xs) (suc m) i y e = deep_at g xs m i y e

pub mapped_list : {X Y : Type 0} (g : X → List Y) (xs : List X) (m : ℕ) (x : X) → slice_get xs m ≡ Some x → list_at (map g xs) m ≡ g x
mapped_list g [] m x e = cc
mapped_list g (z ∷ xs) zero x e = let same : z ≡ x = cc in ap g same
mapped_list g (z ∷ xs) (suc m) x e = mapped_list g xs m x e

-- ---- the drops of a call
pub drops_there : (ds : List CallDrops) (k j : ℕ) → In {X = ℕ × ℕ} (k, j) (map (λ (d : CallDrops). (d.clause, d.call)) ds) → (d : CallDrops) × In d ds × (place_in ds k j ≡ Some d.by) × (d.clause ≡ k) × (d.call ≡ j)
drops_there [] k j h = absurd h
drops_there (d ∷ ds) k j h = go ((d.clause == k) && (d.call == j)) refl h (λ i. drops_there ds k j i)
  where
    yes : (d.clause ≡ k) → (d.call ≡ j) → ((d.clause == k) && (d.call == j)) ≡ true
    yes e g = let a = eq-eqb d.clause k e in let b = eq-eqb d.call j g in λ i. a i && b i

    go : (b : Bool) → ((d.clause == k) && (d.call == j)) ≡ b → In {X = ℕ × ℕ} (k, j) ((d.clause, d.call) ∷ map (λ (d : CallDrops). (d.clause, d.call)) ds)
        → (In {X = ℕ × ℕ} (k, j) (map (λ (d : CallDrops). (d.clause, d.call)) ds) → (g : CallDrops) × In g ds × (place_in ds k j ≡ Some g.by) × (g.clause ≡ k) × (g.call ≡ j))
        → (g : CallDrops) × In g (d ∷ ds) × ((if b then Some d.by else place_in ds k j) ≡ Some g.by) × (g.clause ≡ k) × (g.call ≡ j)
    go true t i later = let (a, b) = and_parts (d.clause == k) (d.call == j) t in (d, inl refl, refl, eqb-true d.clause k a, eqb-true d.call j b)
    go false t (inl e) later = let same = yes (ap (λ (x : ℕ × ℕ). x.0) e) (ap (λ (x : ℕ × ℕ). x.1) e) in cc
    go false t (inr i) later = let r = later i in (r.0, inr r.1, r.2, r.3, r.4)

module _ (expression : ℕ → Tree → List ℤ) (p : Listing) (rows : ℕ → List (List ℤ)) (pair : ℕ × ℕ) where
  -- there are multipliers for one measure at least, and for each measure at most
  pub place_some : (mss : List (List Measure)) (bys : List Multipliers) → HasPlace expression p rows mss pair bys → 1 ≤ length bys
  place_some mss [] h = absurd h
  place_some [] (by ∷ bys) h = absurd h
  place_some (ms ∷ mss) (by ∷ bys) h = omega arith

  pub place_few : (mss : List (List Measure)) (bys : List Multipliers) → HasPlace expression p rows mss pair bys → length bys ≤ length mss
  place_few mss [] h = absurd h
  place_few [] (by ∷ bys) h = absurd h
  place_few (ms ∷ mss) (by ∷ []) h = omega arith
  place_few (ms ∷ mss) (by ∷ (next ∷ bys)) h = let rest = place_few mss (next ∷ bys) h.1 in omega (arith, rest)

  -- the drop at a measure: 1 at the last one
  pub place_at : (mss : List (List Measure)) (bys : List Multipliers) → HasPlace expression p rows mss pair bys
      → (i : ℕ) (ms : List Measure) (by : Multipliers) → slice_get mss i ≡ Some ms → slice_get bys i ≡ Some by → IsDrop expression p rows (fall_number (suc i == length bys)) ms pair by
  place_at mss [] h i ns y e f = absurd h
  place_at [] (by ∷ bys) h i ns y e f = absurd h
  place_at (ms ∷ mss) (by ∷ []) h zero ns y e f = here 1 ms ns by y (let same : ms ≡ ns = cc in same) (let same : by ≡ y = cc in same) h
    where
      here : (d : ℕ) (ms ns : List Measure) (by y : Multipliers) → ms ≡ ns → by ≡ y → IsDrop expression p rows d ms pair by → IsDrop expression p rows d ns pair y
      here d ms ns by y same_ms same_by k = subst (λ (z : List Measure). IsDrop expression p rows d z pair y) same_ms (subst (IsDrop expression p rows d ms pair) same_by k)
  place_at (ms ∷ mss) (by ∷ []) h (suc i) ns y e f = cc
  place_at (ms ∷ mss) (by ∷ (next ∷ bys)) h zero ns y e f =
      let not_last : (1 == length (by ∷ (next ∷ bys))) ≡ false = not_one (length bys) in
      let same_ms : ms ≡ ns = cc in
      let same_by : by ≡ y = cc in
      subst (λ (t : Bool). IsDrop expression p rows (fall_number t) ns pair y) (sym not_last)
      (subst (λ (z : List Measure). IsDrop expression p rows 0 z pair y) same_ms (subst (IsDrop expression p rows 0 ms pair) same_by h.0))
    where
      not_one : (n : ℕ) → (1 == suc (suc n)) ≡ false
      not_one n = grind (arith, nat_tests)
  place_at (ms ∷ mss) (by ∷ (next ∷ bys)) h (suc i) ns y e f =
      subst (λ (t : Bool). IsDrop expression p rows (fall_number t) ns pair y) (sym (shifted (suc i) (length (next ∷ bys)))) (place_at mss (next ∷ bys) h.1 i ns y e f)
    where
      shifted : (a b : ℕ) → (suc a == suc b) ≡ (a == b)
      shifted a b = go (a == b) refl
        where
          go : (t : Bool) → (a == b) ≡ t → (suc a == suc b) ≡ t
          go true h = eq-eqb (suc a) (suc b) (ap suc (eqb-true a b h))
          go false h = grind (arith, nat_tests)
