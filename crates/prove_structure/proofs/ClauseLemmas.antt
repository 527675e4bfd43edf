-- Reading what each call of a clause has: what is read is listed so, and what is listed so is read.
use Rattle.std.proofs.Common.{◌≡◌, ℕ, suc, ◌+◌, ◌<◌, List, [], ◌∷◌, ◌++◌, length, take, slice_get, Some, Ok, refl, ap, sym, ◌∙◌, arith, append_assoc}
use Rattle.std.specs.List.{AllByRecursion}
use Rattle.call_components.specs.Partition.{Partition}
use Rattle.cert_structure.specs.Shape.{body_of, head_of, rows_of, rows_of_atoms}
use Rattle.cert_structure.proofs.LevelLemmas.{place_behind, front, one_longer, rows_more}
use Rattle.cti_terms.specs.declared.atom_list.Atom.{Atom}
use Rattle.cti_terms.specs.Listing.{Listing}
use Rattle.fact_reading.specs.Numbered.{facts_from, AreEach, EachFrom}
use Rattle.fact_reading.specs.Walk.{Read, result_map, with_first, read_each}
use Rattle.fact_reading.proofs.SectionLemmas.{same_ok, bound, mapped, all_both, all_from, all_weaker, each_sound, each_back}
use Rattle.lex_certificate.specs.Shape.{lists_of_call}
use Rattle.linear_rows.specs.declared.row.Rows.{Rows}
use Rattle.number_tests.specs.declared.level_part.LevelPart.{LevelPart}
use Rattle.prove_certificate.specs.declared.fact.ProveFact.{ProveFact}
use Rattle.prove_structure.specs.Walk.{read_calls, read_clause}

-- how a call is read, its facts, what is asked of it, and which facts are of no such call
module _ {A : Type 0} (call : ℕ → ℕ → ℕ → List (List LevelPart) → List ProveFact → Read ProveFact A) (lines : ℕ → ℕ → A → List ProveFact) (good : ℕ → List (List LevelPart) → A → Type 0)
    (other : ℕ → ℕ → ProveFact → Type 0) where
  abbrev pub IsSound : Type 0
  IsSound = (k j rows : ℕ) (own : List (List LevelPart)) (s t : List ProveFact) (x : A) → call k j rows own s ≡ Ok (x, t) → (s ≡ lines k j x ++ t) × good rows own x

  abbrev pub IsListed : Type 0
  IsListed = (k j rows : ℕ) (own : List (List LevelPart)) (x : A) (t : List ProveFact) → good rows own x → AllByRecursion (other k j) t → call k j rows own (lines k j x ++ t) ≡ Ok (x, t)

  -- the facts of another call, and of another clause
  abbrev pub CallsApart : Type 0
  CallsApart = (k j i : ℕ) → j < i → (x : A) → AllByRecursion (other k j) (lines k i x)

  abbrev pub ClausesApart : Type 0
  ClausesApart = (k l : ℕ) → k < l → (i : ℕ) (x : A) → AllByRecursion (λ f. (j : ℕ) → other k j f) (lines l i x)

  module _ (comps : Partition) (rows : List Rows) (lists : List (List (List LevelPart))) (head k : ℕ) where
    -- what is asked of a call of a body
    abbrev pub IsCall : List Atom → ℕ → A → Type 0
    IsCall body j x = good (rows_of_atoms rows (take j body)) (lists_of_call comps lists head (slice_get body j)) x

    calls_sound : IsSound → (bs done body : List Atom) (j before : ℕ) (s t : List ProveFact) (calls : List A) → body ≡ done ++ bs → j ≡ length done
        → before ≡ rows_of_atoms rows done → read_calls call comps rows lists head k j before bs s ≡ Ok (calls, t)
        → (s ≡ facts_from j (lines k) calls ++ t) × (length calls ≡ length bs) × EachFrom j (IsCall body) calls
    unfolding read_calls
    calls_sound sound [] done body j before s t calls whole here sum e =
        let both : ([], s) ≡ (calls, t) = same_ok _ _ e in
        let first : [] ≡ calls = ap (λ q. q.0) both in
        let rest : s ≡ t = ap (λ q. q.1) both in
        rw (← first, ← rest) (refl, refl, tt)
    calls_sound sound (b ∷ bs) done body j before s t calls whole here sum e =
        bound (λ x. result_map (with_first x.0) (read_calls call comps rows lists head k (suc j) (before + rows_of rows b.pred.0) bs x.1))
        (call k j before (lists_of_call comps lists head (Some b)) s) (calls, t) e λ q read more.
        mapped (with_first q.0) (read_calls call comps rows lists head k (suc j) (before + rows_of rows b.pred.0) bs q.1) (calls, t) more λ r rest both.
        let (one, own) = sound k j before (lists_of_call comps lists head (Some b)) s q.1 q.0 read in
        let at : slice_get body j ≡ Some b = rw (whole, here) (place_behind done b bs) in
        let taken : take j body ≡ done = rw (whole, here) (front done (b ∷ bs)) in
        let mine : IsCall body j q.0 = rw (taken, at, ← sum) own in
        let (others, fewer, each) = calls_sound sound bs (done ++ b ∷ []) body (suc j) (before + rows_of rows b.pred.0) q.1 r.1 r.0 (whole ∙ sym (append_assoc done (b ∷ []) bs))
        (ap suc here ∙ sym (one_longer done b)) (ap (λ n. n + rows_of rows b.pred.0) sum ∙ sym (rows_more rows done b)) rest in
        let first : q.0 ∷ r.0 ≡ calls = ap (λ z. z.0) both in
        let end : r.1 ≡ t = ap (λ z. z.1) both in
        rw (← first, ← end)
        (one ∙ ap (λ u. lines k j q.0 ++ u) others ∙ sym (append_assoc (lines k j q.0) (facts_from (suc j) (lines k) r.0) r.1), ap suc fewer, (mine, each))

    later_calls : CallsApart → (j i : ℕ) → j < i → (calls : List A) → AllByRecursion (other k j) (facts_from i (lines k) calls)
    later_calls apart j i less [] = tt
    later_calls apart j i less (x ∷ calls) =
        all_both (other k j) (lines k i x) (facts_from (suc i) (lines k) calls) (apart k j i less x) (later_calls apart j (suc i) (omega (arith, less)) calls)

    calls_back : IsListed → CallsApart → (bs done body : List Atom) (j before : ℕ) (t : List ProveFact) (calls : List A) → body ≡ done ++ bs → j ≡ length done
        → before ≡ rows_of_atoms rows done → length calls ≡ length bs → EachFrom j (IsCall body) calls → AllByRecursion (λ f. (i : ℕ) → other k i f) t
        → read_calls call comps rows lists head k j before bs (facts_from j (lines k) calls ++ t) ≡ Ok (calls, t)
    unfolding read_calls
    calls_back listed apart [] done body j before t [] whole here sum count each others = refl
    calls_back listed apart [] done body j before t (x ∷ calls) whole here sum count each others = absurd (omega (arith, count))
    calls_back listed apart (b ∷ bs) done body j before t [] whole here sum count each others = absurd (omega (arith, count))
    calls_back listed apart (b ∷ bs) done body j before t (x ∷ calls) whole here sum count each others =
        let at : slice_get body j ≡ Some b = rw (whole, here) (place_behind done b bs) in
        let taken : take j body ≡ done = rw (whole, here) (front done (b ∷ bs)) in
        let mine : good before (lists_of_call comps lists head (Some b)) x = rw (taken, at, ← sum) at each.0 in
        let none = all_weaker (λ f. (i : ℕ) → other k i f) (other k j) (λ f h. h j) t others in
        let behind = all_both (other k j) (facts_from (suc j) (lines k) calls) t (later_calls apart j (suc j) (omega arith) calls) none in
        rw (
          append_assoc (lines k j x) (facts_from (suc j) (lines k) calls) t,
          listed k j before (lists_of_call comps lists head (Some b)) x (facts_from (suc j) (lines k) calls ++ t) mine behind,
          calls_back listed apart bs (done ++ b ∷ []) body (suc j) (before + rows_of rows b.pred.0) t calls (whole ∙ sym (append_assoc done (b ∷ []) bs))
              (ap suc here ∙ sym (one_longer done b)) (ap (λ n. n + rows_of rows b.pred.0) sum ∙ sym (rows_more rows done b)) (omega (arith, count)) each.1 others,
        ) refl

  -- all clauses
  module _ (p : Listing) (comps : Partition) (rows : List Rows) (lists : List (List (List LevelPart))) where
    abbrev pub IsClause : ℕ → List A → Type 0
    IsClause k calls = AreEach (length (body_of p k)) (IsCall comps rows lists (head_of p k) k (body_of p k)) calls

    pub clauses_section : IsSound → (s t : List ProveFact) (xs : List (List A)) → read_each (read_clause call p comps rows lists) 0 (length p.clauses) s ≡ Ok (xs, t)
        → (s ≡ facts_from 0 (λ k calls. facts_from 0 (lines k) calls) xs ++ t) × AreEach (length p.clauses) IsClause xs
    unfolding read_clause
    clauses_section sound s t xs e =
        let (whole, count, each) = each_sound (read_clause call p comps rows lists) (λ k calls. facts_from 0 (lines k) calls) IsClause
        (λ k s t x read.
        let (one, count, each) = calls_sound comps rows lists (head_of p k) k sound (body_of p k) [] (body_of p k) 0 0 s t x refl refl refl read in
        (one, record { count = count; each = each }))
        0 (length p.clauses) s t xs e in
        (whole, record { count = count; each = each })

    pub clauses_listed : IsListed → CallsApart → ClausesApart → (xs : List (List A)) (t : List ProveFact) → AreEach (length p.clauses) IsClause xs
        → AllByRecursion (λ f. (k j : ℕ) → other k j f) t
        → read_each (read_clause call p comps rows lists) 0 (length p.clauses) (facts_from 0 (λ k calls. facts_from 0 (lines k) calls) xs ++ t) ≡ Ok (xs, t)
    unfolding read_clause
    clauses_listed listed apart clauses xs t h others =
        each_back (read_clause call p comps rows lists) (λ k calls. facts_from 0 (lines k) calls) IsClause
        (λ k f. (j : ℕ) → other k j f) (length p.clauses)
        (λ k x t below right none. calls_back comps rows lists (head_of p k) k listed apart (body_of p k) [] (body_of p k) 0 0 t x refl refl refl right.count right.each none)
        (λ k l x less below. all_from (λ f. (j : ℕ) → other k j f) (lines l) (λ i y. clauses k l less i y) 0 x)
        0 (length p.clauses) xs t h.count (omega arith) h.each
        (λ k below. all_weaker (λ f. (k j : ℕ) → other k j f) (λ f. (j : ℕ) → other k j f) (λ f none. none k) t others)
