-- Reading the proofs for calls: what is read is listed so, and what is listed so is read.
use Rattle.std.proofs.Common.{◌≡◌, ℕ, suc, ◌+◌, ◌<◌, Bool, true, false, ◌&&◌, if◌then◌else◌, nat_le, List, [], ◌∷◌, ◌++◌, length, take, slice_get, Some, None, Ok, refl, ap, sym, ◌∙◌, arith, eq-eqb, ne_eqb, le-leb, leb-true, append_assoc}
use Rattle.std.proofs.lemmas.Bool.{and_parts}
use Rattle.std.specs.List.{AllByRecursion}
use Rattle.call_components.specs.Partition.{Partition}
use Rattle.cert_structure.specs.Shape.{items_of, rows_of, rows_of_atoms, HaveMultipliers}
use Rattle.cert_structure.proofs.LevelLemmas.{place_behind, front, one_longer, rows_more}
use Rattle.cti_terms.specs.declared.atom_list.Atom.{Atom}
use Rattle.fact_reading.specs.declared.stop.StructureReason.TheVariants as reason
use Rattle.fact_reading.specs.Numbered.{facts_from, lines_from, EachFrom}
use Rattle.fact_reading.specs.Walk.{Read, result_map, wrong_at, with_first, read_many}
use Rattle.fact_reading.proofs.SectionLemmas.{same_ok, err_ok, bound, mapped, all_both, all_from, all_weaker, many_sound, many_back, each_sound, each_back}
use Rattle.linear_rows.specs.declared.multipliers.Multipliers.{Multipliers}
use Rattle.linear_rows.specs.declared.row.Rows.{Rows}
use Rattle.number_tests.specs.declared.level_part.LevelPart.{LevelPart}
use Rattle.lex_certificate.specs.declared.fact.LexFact.{LexFact}
use Rattle.lex_certificate.specs.Order.{drops_line}
use Rattle.lex_certificate.specs.Shape.{lists_of_call, IsPlace, ArePlaces}
use Rattle.lex_certificate.specs.Walk.{take_drop, up_to, read_place, read_call, read_calls}
use Rattle.lex_certificate.proofs.TakeLemmas.{drop_taken, drop_given}

-- no fact is of the proofs for the call
abbrev pub NoDrop : ℕ → ℕ → LexFact → Type 0
NoDrop k j f = (rows m i : ℕ) → take_drop k j rows m i f ≡ Some None

module _ (k j rows : ℕ) where
  place_sound : (m n : ℕ) (s t : List LexFact) (x : List Multipliers) → read_place k j rows m n s ≡ Ok (x, t) → (s ≡ lines_from 0 (drops_line k j m) x ++ t) × IsPlace rows n x
  unfolding read_place
  place_sound m n s t x e =
      bound (up_to n) (read_many (take_drop k j rows m) 0 s) (x, t) e λ q read more.
      let (one, right) = many_sound (take_drop k j rows m) (drops_line k j m) _ (drop_taken k j rows m) 0 s q.1 q.0 read in
      go q one right (nat_le 1 (length q.0) && nat_le (length q.0) n) refl more
    where
      go : (q : List Multipliers × List LexFact) → s ≡ lines_from 0 (drops_line k j m) q.0 ++ q.1 → AllByRecursion (HaveMultipliers rows) q.0
          → (b : Bool) → (nat_le 1 (length q.0) && nat_le (length q.0) n) ≡ b → if◌then◌else◌ {A = Read LexFact (List Multipliers)} b (Ok q) (wrong_at q.1 reason.Extra) ≡ Ok (x, t)
          → (s ≡ lines_from 0 (drops_line k j m) x ++ t) × IsPlace rows n x
      go q one right true test same =
          let both : q ≡ (x, t) = same_ok _ _ same in
          let first : q.0 ≡ x = ap (λ z. z.0) both in
          let rest : q.1 ≡ t = ap (λ z. z.1) both in
          let (low, high) = and_parts (nat_le 1 (length q.0)) (nat_le (length q.0) n) test in
          rw (← first, ← rest) (one, (leb-true 1 (length q.0) low, leb-true (length q.0) n high, right))
      go q one right false test same = err_ok _ (x, t) same

  place_back : (m n : ℕ) (x : List Multipliers) (t : List LexFact) → IsPlace rows n x → AllByRecursion (λ f. (i : ℕ) → take_drop k j rows m i f ≡ Some None) t
      → read_place k j rows m n (lines_from 0 (drops_line k j m) x ++ t) ≡ Ok (x, t)
  unfolding read_place
  place_back m n x t h others =
      rw (
        many_back (take_drop k j rows m) (drops_line k j m) _ (drop_given k j rows m) 0 x t h.2 others,
        le-leb 1 (length x) h.0,
        le-leb (length x) n h.1,
      ) refl

  abbrev pub places_lines : List (List Multipliers) → List LexFact
  places_lines lists = facts_from 0 (λ m ms. lines_from 0 (drops_line k j m) ms) lists

  pub call_sound : (own : List (List LevelPart)) (s t : List LexFact) (xs : List (List Multipliers)) → read_call k j rows own s ≡ Ok (xs, t)
      → (s ≡ facts_from 0 (λ m ms. lines_from 0 (drops_line k j m) ms) xs ++ t) × ArePlaces rows own xs
  unfolding read_call
  call_sound own s t xs e =
      let (whole, count, each) = each_sound (λ m u. read_place k j rows m (length (items_of own m)) u) (λ m ms. lines_from 0 (drops_line k j m) ms)
      (λ m. IsPlace rows (length (items_of own m)))
      (λ m s t x read. place_sound m (length (items_of own m)) s t x read)
      0 (length own) s t xs e in
      (whole, record { count = count; each = each })

  pub call_back : (own : List (List LevelPart)) (xs : List (List Multipliers)) (t : List LexFact) → ArePlaces rows own xs → AllByRecursion (NoDrop k j) t
      → read_call k j rows own (facts_from 0 (λ m ms. lines_from 0 (drops_line k j m) ms) xs ++ t) ≡ Ok (xs, t)
  unfolding read_call take_drop
  call_back own xs t h others =
      each_back (λ m u. read_place k j rows m (length (items_of own m)) u) (λ m ms. lines_from 0 (drops_line k j m) ms)
      (λ m. IsPlace rows (length (items_of own m)))
      (λ m f. (i : ℕ) → take_drop k j rows m i f ≡ Some None) (length own)
      (λ m x t below right none. place_back m (length (items_of own m)) x t right none)
      (λ m n x less below. all_from (λ f. (i : ℕ) → take_drop k j rows m i f ≡ Some None) (λ i y. drops_line k j n i y ∷ [])
      (λ i y. (λ l. rw (eq-eqb (suc k) (suc k) refl, eq-eqb (suc j) (suc j) refl, ne_eqb (suc n) (suc m) (λ same. absurd (omega (arith, same, less)))) refl, tt)) 0 x)
      0 (length own) xs t h.count (omega arith) h.each
      (λ m below. all_weaker (NoDrop k j) (λ f. (i : ℕ) → take_drop k j rows m i f ≡ Some None) (λ f none. none rows m) t others)

-- the facts of another call, and of another clause
call_apart : (k j i : ℕ) → j < i → (lists : List (List Multipliers)) → AllByRecursion (NoDrop k j) (facts_from 0 (λ m ms. lines_from 0 (drops_line k i m) ms) lists)
unfolding take_drop
call_apart k j i less lists =
    all_from (NoDrop k j) (λ m ms. lines_from 0 (drops_line k i m) ms)
    (λ m ms. all_from (NoDrop k j) (λ n y. drops_line k i m n y ∷ [])
    (λ n y. (λ rows o l. rw (eq-eqb (suc k) (suc k) refl, ne_eqb (suc i) (suc j) (λ same. absurd (omega (arith, same, less)))) refl, tt)) 0 ms) 0 lists

calls_apart : (k j i : ℕ) → j < i → (calls : List (List (List Multipliers)))
    → AllByRecursion (NoDrop k j) (facts_from i (λ j lists. facts_from 0 (λ m ms. lines_from 0 (drops_line k j m) ms) lists) calls)
calls_apart k j i less [] = tt
calls_apart k j i less (lists ∷ calls) =
    all_both (NoDrop k j) (facts_from 0 (λ m ms. lines_from 0 (drops_line k i m) ms) lists) (facts_from (suc i) (λ j lists. facts_from 0 (λ m ms. lines_from 0 (drops_line k j m) ms) lists) calls)
    (call_apart k j i less lists) (calls_apart k j (suc i) (omega (arith, less)) calls)

pub clause_apart : (k l : ℕ) → k < l → (calls : List (List (List Multipliers)))
    → AllByRecursion (λ f. (j : ℕ) → NoDrop k j f) (facts_from 0 (λ j lists. facts_from 0 (λ m ms. lines_from 0 (drops_line l j m) ms) lists) calls)
unfolding take_drop
clause_apart k l less calls =
    all_from (λ f. (j : ℕ) → NoDrop k j f) (λ j lists. facts_from 0 (λ m ms. lines_from 0 (drops_line l j m) ms) lists)
    (λ j lists. all_from (λ f. (j : ℕ) → NoDrop k j f) (λ m ms. lines_from 0 (drops_line l j m) ms)
    (λ m ms. all_from (λ f. (j : ℕ) → NoDrop k j f) (λ n y. drops_line l j m n y ∷ [])
    (λ n y. (λ i rows o q. rw (ne_eqb (suc l) (suc k) (λ same. absurd (omega (arith, same, less)))) refl, tt)) 0 ms) 0 lists) 0 calls

module _ (comps : Partition) (rows : List Rows) (lists : List (List (List LevelPart))) (head k : ℕ) where
  -- the proofs for a call of a body
  abbrev pub IsCall : List Atom → ℕ → List (List Multipliers) → Type 0
  IsCall body j mss = ArePlaces (rows_of_atoms rows (take j body)) (lists_of_call comps lists head (slice_get body j)) mss

  abbrev call_lines : ℕ → List (List Multipliers) → List LexFact
  call_lines j mss = facts_from 0 (λ m ms. lines_from 0 (drops_line k j m) ms) mss

  pub calls_sound : (bs done : List Atom) (body : List Atom) (j before : ℕ) (s t : List LexFact) (calls : List (List (List Multipliers))) → body ≡ done ++ bs → j ≡ length done
      → before ≡ rows_of_atoms rows done → read_calls comps rows lists head k j before bs s ≡ Ok (calls, t)
      → (s ≡ facts_from j (λ j mss. facts_from 0 (λ m ms. lines_from 0 (drops_line k j m) ms) mss) calls ++ t) × (length calls ≡ length bs) × EachFrom j (IsCall body) calls
  unfolding read_calls
  calls_sound [] done body j before s t calls whole here sum e =
      let both : ([], s) ≡ (calls, t) = same_ok _ _ e in
      let first : [] ≡ calls = ap (λ q. q.0) both in
      let rest : s ≡ t = ap (λ q. q.1) both in
      rw (← first, ← rest) (refl, refl, tt)
  calls_sound (b ∷ bs) done body j before s t calls whole here sum e =
      bound (λ x. result_map (with_first x.0) (read_calls comps rows lists head k (suc j) (before + rows_of rows b.pred.0) bs x.1))
      (read_call k j before (lists_of_call comps lists head (Some b)) s) (calls, t) e λ q read more.
      mapped (with_first q.0) (read_calls comps rows lists head k (suc j) (before + rows_of rows b.pred.0) bs q.1) (calls, t) more λ r rest both.
      let (one, own) = call_sound k j before (lists_of_call comps lists head (Some b)) s q.1 q.0 read in
      let at : slice_get body j ≡ Some b = rw (whole, here) (place_behind done b bs) in
      let taken : take j body ≡ done = rw (whole, here) (front done (b ∷ bs)) in
      let mine : IsCall body j q.0 = rw (taken, at, ← sum) own in
      let (others, fewer, each) = calls_sound bs (done ++ b ∷ []) body (suc j) (before + rows_of rows b.pred.0) q.1 r.1 r.0 (whole ∙ sym (append_assoc done (b ∷ []) bs))
      (ap suc here ∙ sym (one_longer done b)) (ap (λ n. n + rows_of rows b.pred.0) sum ∙ sym (rows_more rows done b)) rest in
      let first : q.0 ∷ r.0 ≡ calls = ap (λ z. z.0) both in
      let end : r.1 ≡ t = ap (λ z. z.1) both in
      rw (← first, ← end)
      (one ∙ ap (λ u. call_lines j q.0 ++ u) others ∙ sym (append_assoc (call_lines j q.0) (facts_from (suc j) call_lines r.0) r.1), ap suc fewer, (mine, each))

  pub calls_back : (bs done : List Atom) (body : List Atom) (j before : ℕ) (t : List LexFact) (calls : List (List (List Multipliers))) → body ≡ done ++ bs → j ≡ length done
      → before ≡ rows_of_atoms rows done → length calls ≡ length bs → EachFrom j (IsCall body) calls → AllByRecursion (λ f. (i : ℕ) → NoDrop k i f) t
      → read_calls comps rows lists head k j before bs (facts_from j (λ j mss. facts_from 0 (λ m ms. lines_from 0 (drops_line k j m) ms) mss) calls ++ t) ≡ Ok (calls, t)
  unfolding read_calls
  calls_back [] done body j before t [] whole here sum count each others = refl
  calls_back [] done body j before t (ms ∷ calls) whole here sum count each others = absurd (omega (arith, count))
  calls_back (b ∷ bs) done body j before t [] whole here sum count each others = absurd (omega (arith, count))
  calls_back (b ∷ bs) done body j before t (mss ∷ calls) whole here sum count each others =
      let at : slice_get body j ≡ Some b = rw (whole, here) (place_behind done b bs) in
      let taken : take j body ≡ done = rw (whole, here) (front done (b ∷ bs)) in
      let mine : ArePlaces before (lists_of_call comps lists head (Some b)) mss = rw (taken, at, ← sum) at each.0 in
      let none = all_weaker (λ f. (i : ℕ) → NoDrop k i f) (NoDrop k j) (λ f h. h j) t others in
      let behind = all_both (NoDrop k j) (facts_from (suc j) call_lines calls) t (calls_apart k j (suc j) (omega arith) calls) none in
      rw (
        append_assoc (call_lines j mss) (facts_from (suc j) call_lines calls) t,
        call_back k j before (lists_of_call comps lists head (Some b)) mss (facts_from (suc j) call_lines calls ++ t) mine behind,
        calls_back bs (done ++ b ∷ []) body (suc j) (before + rows_of rows b.pred.0) t calls (whole ∙ sym (append_assoc done (b ∷ []) bs))
            (ap suc here ∙ sym (one_longer done b)) (ap (λ n. n + rows_of rows b.pred.0) sum ∙ sym (rows_more rows done b)) (omega (arith, count)) each.1 others,
      ) refl
