-- Lemmas on the loops that read items.
use Rattle.std.proofs.Common.{◌≡◌, ◌≢◌, ℕ, zero, suc, ◌+◌, ◌<◌, ◌≤◌, List, [], ◌∷◌, ◌++◌, length, drop, Some, Ok, Err, refl, arith, append-nil, slice_index_or}
use Rattle.call_components.specs.Partition.{Partition}
use Rattle.cert_structure.specs.Shape.{rows_of}
use Rattle.cert_structure.proofs.LoopLemmas.{atom_at}
use Rattle.certificate.specs.declared.pred_text.PredText.{PredText}
use Rattle.cti_terms.specs.declared.atom_list.Atom.{Atom}
use Rattle.cti_terms.specs.Listing.{Listing}
use Rattle.fact_reading.specs.Walk.{Wrong, with_all, read_many}
use Rattle.fact_reading.proofs.LoopLemmas.{one_more}
use Rattle.linear_rows.specs.declared.multipliers.Multipliers.{Multipliers}
use Rattle.linear_rows.specs.declared.row.Rows.{Rows}
use Rattle.number_tests.specs.declared.level_part.LevelPart.{LevelPart}
use Rattle.lex_certificate.specs.declared.fact.LexFact.{LexFact}
use Rattle.lex_certificate.specs.Shape.{lists_of_call}
use Rattle.lex_certificate.specs.Walk.{take_level, read_lists, read_own, read_levels, read_call, read_calls}

-- the lists that are read as long as there is a first measure
module _ (pred : PredText) (xs : List (List LevelPart)) (m n : ℕ) (s : List LexFact) where
  pub lists_end : n ≡ 0 → with_all xs (read_lists pred m n s) ≡ Ok (xs, s)
  unfolding read_lists
  lists_end e = rw (e, append-nil xs) refl

  module _ (l : ℕ) (some : n ≡ suc l) where
    pub lists_err : (w : Wrong) → read_many (take_level pred m) 0 s ≡ Err w → with_all xs (read_lists pred m n s) ≡ Err w
    unfolding read_lists
    lists_err w bad = rw (some, bad) refl

    pub lists_stop : (x : List LevelPart) (t : List LexFact) → read_many (take_level pred m) 0 s ≡ Ok (x, t) → x ≡ [] → with_all xs (read_lists pred m n s) ≡ Ok (xs, t)
    unfolding read_lists
    lists_stop [] t read none = rw (some, read, append-nil xs) refl
    lists_stop (y ∷ x) t read none = absurd (cc none)

    pub lists_more : (o : ℕ) (x : List LevelPart) (t : List LexFact) → o ≡ suc m → read_many (take_level pred m) 0 s ≡ Ok (x, t) → x ≢ []
        → with_all (xs ++ x ∷ []) (read_lists pred o l t) ≡ with_all xs (read_lists pred m n s)
    unfolding read_lists
    lists_more o [] t next read more = absurd (more refl)
    lists_more o (y ∷ x) t next read more = rw (some, next, read) (one_more xs (y ∷ x) (read_lists pred (suc m) l t))

module _ (p : Listing) (names : List (List ℕ)) (comps : Partition) (earlier : List (List (List LevelPart))) (a m : ℕ) (s : List LexFact) where
  pub levels_end : m ≡ 0 → read_levels p names comps earlier a m s ≡ Ok (earlier, s)
  unfolding read_levels
  levels_end e = rw e refl

  pub levels_err : (n : ℕ) (w : Wrong) → m ≡ suc n → read_own p names comps earlier a s ≡ Err w → read_levels p names comps earlier a m s ≡ Err w
  unfolding read_levels
  levels_err n w e bad = rw (e, bad) refl

  pub levels_more : (n b : ℕ) (x : List (List LevelPart)) (t : List LexFact) → m ≡ suc n → b ≡ suc a → read_own p names comps earlier a s ≡ Ok (x, t)
      → read_levels p names comps (earlier ++ x ∷ []) b n t ≡ read_levels p names comps earlier a m s
  unfolding read_levels
  levels_more n b x t e next read = rw (e, next, read) refl

module _ (comps : Partition) (rows : List Rows) (lists : List (List (List LevelPart))) (head k : ℕ) (xs : List (List (List Multipliers))) (j before : ℕ) (body : List Atom) (s : List LexFact) where
  pub calls_end : length body ≤ j → with_all xs (read_calls comps rows lists head k j before (drop j body) s) ≡ Ok (xs, s)
  unfolding read_calls
  calls_end h = rw (none j body h, append-nil xs) refl
    where
      none : (i : ℕ) (bs : List Atom) → length bs ≤ i → drop i bs ≡ []
      none zero [] h = refl
      none (suc i) [] h = refl
      none zero (c ∷ bs) h = absurd (omega (arith, h))
      none (suc i) (c ∷ bs) h = none i bs (omega (arith, h))

  module _ (b : Atom) (h : j < length body) (here : b ≡ slice_index_or body j b) where
    pub calls_err : (w : Wrong) → read_call k j before (lists_of_call comps lists head (Some b)) s ≡ Err w → with_all xs (read_calls comps rows lists head k j before (drop j body) s) ≡ Err w
    unfolding read_calls
    calls_err w bad = rw (atom_at j body b h here, bad) refl

    pub calls_more : (i more : ℕ) (x : List (List Multipliers)) (t : List LexFact) → i ≡ suc j → more ≡ before + rows_of rows b.pred.0
        → read_call k j before (lists_of_call comps lists head (Some b)) s ≡ Ok (x, t)
        → with_all (xs ++ x ∷ []) (read_calls comps rows lists head k i more (drop i body) t) ≡ with_all xs (read_calls comps rows lists head k j before (drop j body) s)
    unfolding read_calls
    calls_more i more x t next sum read =
        rw (next, sum, atom_at j body b h here, read) (one_more xs x (read_calls comps rows lists head k (suc j) (before + rows_of rows b.pred.0) (drop (suc j) body) t))
