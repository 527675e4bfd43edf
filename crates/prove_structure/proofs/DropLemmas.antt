-- Reading the proofs for calls, that lists drop and are bounded: what is read is listed so, and what is listed so is
-- read.
use Rattle.std.proofs.Common.{◌≡◌, ℕ, suc, ◌<◌, Bool, true, false, ◌&&◌, if◌then◌else◌, nat_le, List, [], ◌∷◌, ◌++◌, length, Some, None, Ok, refl, ap, arith, eq-eqb, ne_eqb, le-leb, leb-true}
use Rattle.std.proofs.lemmas.Bool.{and_parts}
use Rattle.std.specs.List.{AllByRecursion}
use Rattle.cert_structure.specs.Shape.{items_of, HaveMultipliers}
use Rattle.fact_reading.specs.declared.stop.StructureReason.TheVariants as reason
use Rattle.fact_reading.specs.Numbered.{facts_from, lines_from, AreEach}
use Rattle.fact_reading.specs.Walk.{Read, wrong_at, read_many}
use Rattle.fact_reading.proofs.SectionLemmas.{same_ok, err_ok, bound, all_from, all_weaker, counted_sound, counted_back, many_sound, many_back, each_sound, each_back}
use Rattle.linear_rows.specs.declared.multipliers.Multipliers.{Multipliers}
use Rattle.number_tests.specs.declared.level_part.LevelPart.{LevelPart}
use Rattle.prove_certificate.specs.declared.fact.ProveFact.{ProveFact}
use Rattle.prove_parts.specs.Order.{drops_line, floors_line}
use Rattle.lex_certificate.specs.Shape.{IsPlace, ArePlaces}
use Rattle.prove_structure.specs.Walk.{take_bound, take_drop, up_to, read_bounds, read_place, read_call}
use Rattle.prove_structure.proofs.TakeLemmas.{bound_taken, bound_given, drop_taken, drop_given}

-- no fact is of the proofs for the call
abbrev pub NoDrop : ℕ → ℕ → ProveFact → Type 0
NoDrop k j f = (rows m i : ℕ) → take_drop k j rows m i f ≡ Some None

module _ (k j rows : ℕ) where
  place_sound : (m n : ℕ) (s t : List ProveFact) (x : List Multipliers) → read_place k j rows m n s ≡ Ok (x, t) → (s ≡ lines_from 0 (drops_line k j m) x ++ t) × IsPlace rows n x
  unfolding read_place
  place_sound m n s t x e =
      bound (up_to n) (read_many (take_drop k j rows m) 0 s) (x, t) e λ q read more.
      let (one, right) = many_sound (take_drop k j rows m) (drops_line k j m) _ (drop_taken k j rows m) 0 s q.1 q.0 read in
      go q one right (nat_le 1 (length q.0) && nat_le (length q.0) n) refl more
    where
      go : (q : List Multipliers × List ProveFact) → s ≡ lines_from 0 (drops_line k j m) q.0 ++ q.1 → AllByRecursion (HaveMultipliers rows) q.0
          → (b : Bool) → (nat_le 1 (length q.0) && nat_le (length q.0) n) ≡ b → if◌then◌else◌ {A = Read ProveFact (List Multipliers)} b (Ok q) (wrong_at q.1 reason.Extra) ≡ Ok (x, t)
          → (s ≡ lines_from 0 (drops_line k j m) x ++ t) × IsPlace rows n x
      go q one right true test same =
          let both : q ≡ (x, t) = same_ok _ _ same in
          let first : q.0 ≡ x = ap (λ z. z.0) both in
          let rest : q.1 ≡ t = ap (λ z. z.1) both in
          let (low, high) = and_parts (nat_le 1 (length q.0)) (nat_le (length q.0) n) test in
          rw (← first, ← rest) (one, (leb-true 1 (length q.0) low, leb-true (length q.0) n high, right))
      go q one right false test same = err_ok _ (x, t) same

  place_back : (m n : ℕ) (x : List Multipliers) (t : List ProveFact) → IsPlace rows n x → AllByRecursion (λ f. (i : ℕ) → take_drop k j rows m i f ≡ Some None) t
      → read_place k j rows m n (lines_from 0 (drops_line k j m) x ++ t) ≡ Ok (x, t)
  unfolding read_place
  place_back m n x t h others =
      rw (
        many_back (take_drop k j rows m) (drops_line k j m) _ (drop_given k j rows m) 0 x t h.2 others,
        le-leb 1 (length x) h.0,
        le-leb (length x) n h.1,
      ) refl

  pub call_sound : (own : List (List LevelPart)) (s t : List ProveFact) (xs : List (List Multipliers)) → read_call k j rows own s ≡ Ok (xs, t)
      → (s ≡ facts_from 0 (λ m ms. lines_from 0 (drops_line k j m) ms) xs ++ t) × ArePlaces rows own xs
  unfolding read_call
  call_sound own s t xs e =
      let (whole, count, each) = each_sound (λ m u. read_place k j rows m (length (items_of own m)) u) (λ m ms. lines_from 0 (drops_line k j m) ms)
      (λ m. IsPlace rows (length (items_of own m)))
      (λ m s t x read. place_sound m (length (items_of own m)) s t x read)
      0 (length own) s t xs e in
      (whole, record { count = count; each = each })

  pub call_back : (own : List (List LevelPart)) (xs : List (List Multipliers)) (t : List ProveFact) → ArePlaces rows own xs → AllByRecursion (NoDrop k j) t
      → read_call k j rows own (facts_from 0 (λ m ms. lines_from 0 (drops_line k j m) ms) xs ++ t) ≡ Ok (xs, t)
  unfolding read_call take_drop
  call_back own xs t h others =
      each_back (λ m u. read_place k j rows m (length (items_of own m)) u) (λ m ms. lines_from 0 (drops_line k j m) ms)
      (λ m. IsPlace rows (length (items_of own m)))
      (λ m f. (i : ℕ) → take_drop k j rows m i f ≡ Some None) (length own)
      (λ m x t below right none. place_back m (length (items_of own m)) x t right none)
      (λ m n x less below. all_from (λ f. (i : ℕ) → take_drop k j rows m i f ≡ Some None) (λ i y. drops_line k j n i y ∷ [])
      (λ i y. (λ l. rw (eq-eqb (suc k) (suc k) refl, eq-eqb (suc j) (suc j) refl, ne_eqb (suc n) (suc m) (λ same. absurd (omega (arith, same, less)))) refl, tt)) 0 x)
      0 (length own) xs t h.count (omega arith) h.each
      (λ m below. all_weaker (NoDrop k j) (λ f. (i : ℕ) → take_drop k j rows m i f ≡ Some None) (λ f none. none rows m) t others)

-- the facts of another call, and of another clause
abbrev pub drop_lines : ℕ → ℕ → List (List Multipliers) → List ProveFact
drop_lines k j lists = facts_from 0 (λ m ms. lines_from 0 (drops_line k j m) ms) lists

pub drops_apart : (k j i : ℕ) → j < i → (lists : List (List Multipliers)) → AllByRecursion (NoDrop k j) (drop_lines k i lists)
unfolding take_drop
drops_apart k j i less lists =
    all_from (NoDrop k j) (λ m ms. lines_from 0 (drops_line k i m) ms)
    (λ m ms. all_from (NoDrop k j) (λ n y. drops_line k i m n y ∷ [])
    (λ n y. (λ rows o l. rw (eq-eqb (suc k) (suc k) refl, ne_eqb (suc i) (suc j) (λ same. absurd (omega (arith, same, less)))) refl, tt)) 0 ms) 0 lists

pub drop_clauses : (k l : ℕ) → k < l → (i : ℕ) (lists : List (List Multipliers)) → AllByRecursion (λ f. (j : ℕ) → NoDrop k j f) (drop_lines l i lists)
unfolding take_drop
drop_clauses k l less i lists =
    all_from (λ f. (j : ℕ) → NoDrop k j f) (λ m ms. lines_from 0 (drops_line l i m) ms)
    (λ m ms. all_from (λ f. (j : ℕ) → NoDrop k j f) (λ n y. drops_line l i m n y ∷ [])
    (λ n y. (λ j rows o q. rw (ne_eqb (suc l) (suc k) (λ same. absurd (omega (arith, same, less)))) refl, tt)) 0 ms) 0 lists

-- no fact is of the bound of the call
abbrev pub NoBound : ℕ → ℕ → ProveFact → Type 0
NoBound k j f = (rows m : ℕ) → take_bound k j rows m f ≡ Some None

-- multipliers for each of these lists
abbrev pub AreBounds : ℕ → List (List LevelPart) → List Multipliers → Type 0
AreBounds rows own ms = AreEach (length own) (λ _. HaveMultipliers rows) ms

abbrev pub bound_lines : ℕ → ℕ → List Multipliers → List ProveFact
bound_lines k j ms = lines_from 0 (floors_line k j) ms

pub bounds_sound : (k j rows : ℕ) (own : List (List LevelPart)) (s t : List ProveFact) (xs : List Multipliers) → read_bounds k j rows own s ≡ Ok (xs, t)
    → (s ≡ bound_lines k j xs ++ t) × AreBounds rows own xs
unfolding read_bounds
bounds_sound k j rows own s t xs e =
    let (one, count, each) = counted_sound (take_bound k j rows) (floors_line k j) _ (bound_taken k j rows) 0 (length own) s t xs e in
    (one, record { count = count; each = each })

pub bounds_back : (k j rows : ℕ) (own : List (List LevelPart)) (xs : List Multipliers) (t : List ProveFact) → AreBounds rows own xs → AllByRecursion (NoBound k j) t
    → read_bounds k j rows own (bound_lines k j xs ++ t) ≡ Ok (xs, t)
unfolding read_bounds
bounds_back k j rows own xs t h others = counted_back (take_bound k j rows) (floors_line k j) _ (bound_given k j rows) 0 (length own) xs t h.count h.each

pub bounds_apart : (k j i : ℕ) → j < i → (ms : List Multipliers) → AllByRecursion (NoBound k j) (bound_lines k i ms)
unfolding take_bound
bounds_apart k j i less ms =
    all_from (NoBound k j) (λ m y. floors_line k i m y ∷ [])
    (λ m y. (λ rows n. rw (eq-eqb (suc k) (suc k) refl, ne_eqb (suc i) (suc j) (λ same. absurd (omega (arith, same, less)))) refl, tt)) 0 ms

pub bound_clauses : (k l : ℕ) → k < l → (i : ℕ) (ms : List Multipliers) → AllByRecursion (λ f. (j : ℕ) → NoBound k j f) (bound_lines l i ms)
unfolding take_bound
bound_clauses k l less i ms =
    all_from (λ f. (j : ℕ) → NoBound k j f) (λ m y. floors_line l i m y ∷ [])
    (λ m y. (λ j rows n. rw (ne_eqb (suc l) (suc k) (λ same. absurd (omega (arith, same, less)))) refl, tt)) 0 ms
