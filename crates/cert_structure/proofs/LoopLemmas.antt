-- Lemmas on the loops that read items.
use Rattle.std.proofs.Common.{◌≡◌, ℕ, zero, suc, ◌+◌, ◌<◌, ◌≤◌, ◌⊎◌, inl, inr, Bool, true, false, ◌&&◌, if◌then◌else◌, nat_lt, nat_le, List, [], ◌∷◌, ◌++◌, length, drop, Some, Ok, Err, refl, sym, ◌∙◌, arith, append-nil, slice_index_or, le-ltb, lt-ltb, le-leb, leb-true}
use Rattle.std.proofs.lemmas.Bool.{false≢true}
use Rattle.std.specs.List.{prefix_len}
use Rattle.std.specs.Prelude.{IsTrue}
use Rattle.call_components.specs.Partition.{Partition}
use Rattle.certificate.specs.declared.fact.Fact.{Fact}
use Rattle.cti_terms.specs.declared.atom_list.Atom.{Atom}
use Rattle.cti_terms.specs.Listing.{Listing}
use Rattle.linear_rows.specs.declared.multipliers.Multipliers.{Multipliers}
use Rattle.linear_rows.specs.declared.row.Rows.{Rows}
use Rattle.number_tests.specs.declared.level_part.LevelPart.{LevelPart}
use Rattle.number_tests.specs.declared.pair_point.PairPoint.{PairPoint}
use Rattle.cert_structure.specs.Order.{is_note}
use Rattle.cert_structure.specs.Shape.{rows_of}
use Rattle.cert_structure.specs.Structure.{AreNotes}
use Rattle.cert_structure.specs.Walk.{read_level, read_levels, ReadsPoint, read_points, read_call, read_calls, is_mode}
use Rattle.fact_reading.proofs.LoopLemmas.{one_more}
use Rattle.fact_reading.specs.Walk.{Wrong, with_all}

lt-leb : (a b : ℕ) → b < a → nat_le a b ≡ false
lt-leb a b h = go (nat_le a b) refl
  where
    go : (c : Bool) → nat_le a b ≡ c → c ≡ false
    go true e = absurd (omega (arith, h, leb-true a b e))
    go false e = refl

module _ (p : Listing) (names : List (List ℕ)) (comps : Partition) (earlier : List (List LevelPart)) (a m : ℕ) (s : List Fact) where
  pub levels_end : m ≡ 0 → read_levels p names comps earlier a m s ≡ Ok (earlier, s)
  unfolding read_levels
  levels_end e = rw e refl

  pub levels_err : (n : ℕ) (w : Wrong) → m ≡ suc n → read_level p names comps earlier a s ≡ Err w → read_levels p names comps earlier a m s ≡ Err w
  unfolding read_levels
  levels_err n w e bad = rw (e, bad) refl

  pub levels_more : (n b : ℕ) (x : List LevelPart) (t : List Fact) → m ≡ suc n → b ≡ suc a → read_level p names comps earlier a s ≡ Ok (x, t)
      → read_levels p names comps (earlier ++ x ∷ []) b n t ≡ read_levels p names comps earlier a m s
  unfolding read_levels
  levels_more n b x t e next read = rw (e, next, read) refl

module _ {F : Type 0} (point : ReadsPoint F) (xs : List PairPoint) (last : ℕ × ℕ) (m : ℕ) (s : List F) where
  pub points_end : m ≡ 0 → with_all xs (read_points point last m s) ≡ Ok (xs, s)
  unfolding read_points
  points_end e = rw (e, append-nil xs) refl

  pub points_err : (n : ℕ) (w : Wrong) → m ≡ suc n → point last s ≡ Err w → with_all xs (read_points point last m s) ≡ Err w
  unfolding read_points
  points_err n w e bad = rw (e, bad) refl

  pub points_more : (n : ℕ) (x : PairPoint) (t : List F) → m ≡ suc n → point last s ≡ Ok (x, t)
      → with_all (xs ++ x ∷ []) (read_points point (x.clause, x.call) n t) ≡ with_all xs (read_points point last m s)
  unfolding read_points
  points_more n x t e read = rw (e, read) (one_more xs x (read_points point (x.clause, x.call) n t))

-- the atom at a place, and those after it
pub atom_at : (i : ℕ) (body : List Atom) (b : Atom) → i < length body → b ≡ slice_index_or body i b → drop i body ≡ b ∷ drop (suc i) body
atom_at i [] b h e = absurd (omega (arith, h))
atom_at zero (c ∷ body) b h e = rw e refl
atom_at (suc i) (c ∷ body) b h e = atom_at i body b (omega (arith, h)) e

module _ (comps : Partition) (rows : List Rows) (levels : List (List LevelPart)) (head k : ℕ) (xs : List (List Multipliers)) (j before : ℕ) (body : List Atom) (s : List Fact) where
  pub calls_end : length body ≤ j → with_all xs (read_calls comps rows levels head k j before (drop j body) s) ≡ Ok (xs, s)
  unfolding read_calls
  calls_end h = rw (none j body h, append-nil xs) refl
    where
      none : (i : ℕ) (bs : List Atom) → length bs ≤ i → drop i bs ≡ []
      none zero [] h = refl
      none (suc i) [] h = refl
      none zero (c ∷ bs) h = absurd (omega (arith, h))
      none (suc i) (c ∷ bs) h = none i bs (omega (arith, h))

  module _ (b : Atom) (h : j < length body) (here : b ≡ slice_index_or body j b) where
    pub calls_err : (w : Wrong) → read_call comps levels head k j before (Some b) s ≡ Err w → with_all xs (read_calls comps rows levels head k j before (drop j body) s) ≡ Err w
    unfolding read_calls
    calls_err w bad = rw (atom_at j body b h here, bad) refl

    pub calls_more : (i more : ℕ) (x : List Multipliers) (t : List Fact) → i ≡ suc j → more ≡ before + rows_of rows b.pred.0
        → read_call comps levels head k j before (Some b) s ≡ Ok (x, t)
        → with_all (xs ++ x ∷ []) (read_calls comps rows levels head k i more (drop i body) t) ≡ with_all xs (read_calls comps rows levels head k j before (drop j body) s)
    unfolding read_calls
    calls_more i more x t next sum read =
        rw (next, sum, atom_at j body b h here, read) (one_more xs x (read_calls comps rows levels head k (suc j) (before + rows_of rows b.pred.0) (drop (suc j) body) t))

-- the rest of a mode
pub mode_stops : (arity last i : ℕ) (mode : List ℕ) → i < length mode → (slice_index_or mode i 0 ≤ last) ⊎ (arity < slice_index_or mode i 0)
    → is_mode arity last (drop i mode) ≡ false
mode_stops arity last i [] h out = absurd (omega (arith, h))
mode_stops arity last zero (x ∷ xs) h (inl low) = rw (le-ltb last x low) refl
mode_stops arity last zero (x ∷ xs) h (inr high) = go (nat_lt last x)
  where
    go : (b : Bool) → ((b && nat_le x arity) && is_mode arity x xs) ≡ false
    go true = rw (lt-leb x arity high) refl
    go false = refl
mode_stops arity last (suc i) (x ∷ xs) h out = mode_stops arity last i xs (omega (arith, h)) out

pub mode_more : (arity last i : ℕ) (mode : List ℕ) → i < length mode → last < slice_index_or mode i 0 → slice_index_or mode i 0 ≤ arity
    → is_mode arity (slice_index_or mode i 0) (drop (suc i) mode) ≡ is_mode arity last (drop i mode)
mode_more arity last i [] h above within = absurd (omega (arith, h))
mode_more arity last zero (x ∷ xs) h above within = rw (lt-ltb last x above, le-leb x arity within) refl
mode_more arity last (suc i) (x ∷ xs) h above within = mode_more arity last i xs (omega (arith, h)) above within

pub mode_end : (arity last i : ℕ) (mode : List ℕ) → length mode ≤ i → is_mode arity last (drop i mode) ≡ true
mode_end arity last zero [] h = refl
mode_end arity last (suc i) [] h = refl
mode_end arity last zero (x ∷ xs) h = absurd (omega (arith, h))
mode_end arity last (suc i) (x ∷ xs) h = mode_end arity last i xs (omega (arith, h))

-- notes in front
pub note_more : (i : ℕ) (facts : List Fact) (f : Fact) → i < length facts → is_note (slice_index_or facts i f) ≡ true
    → prefix_len is_note (drop i facts) ≡ 1 + prefix_len is_note (drop (suc i) facts)
note_more i [] f h note = absurd (omega (arith, h))
note_more zero (g ∷ facts) f h note = rw note refl
note_more (suc i) (g ∷ facts) f h note = note_more i facts f (omega (arith, h)) note

pub no_note : (i : ℕ) (facts : List Fact) (f : Fact) → i < length facts → is_note (slice_index_or facts i f) ≡ false → prefix_len is_note (drop i facts) ≡ 0
no_note i [] f h note = absurd (omega (arith, h))
no_note zero (g ∷ facts) f h note = rw note refl
no_note (suc i) (g ∷ facts) f h note = no_note i facts f (omega (arith, h)) note

pub no_more : (i : ℕ) (facts : List Fact) → length facts ≤ i → prefix_len is_note (drop i facts) ≡ 0
no_more zero [] h = refl
no_more (suc i) [] h = refl
no_more zero (g ∷ facts) h = absurd (omega (arith, h))
no_more (suc i) (g ∷ facts) h = no_more i facts (omega (arith, h))

pub are_notes : (facts : List Fact) → length facts ≤ prefix_len is_note facts → AreNotes facts
are_notes [] h = tt
are_notes (f ∷ facts) h = go (λ k. are_notes facts k) (is_note f) refl h
  where
    go : (length facts ≤ prefix_len is_note facts → AreNotes facts) → (b : Bool) → is_note f ≡ b
        → suc (length facts) ≤ (if b then 1 + prefix_len is_note facts else 0) → IsTrue (is_note f) × AreNotes facts
    go more true e h = (e, more (omega (arith, h)))
    go more false e h = absurd (omega (arith, h))

pub all_notes : (facts : List Fact) → AreNotes facts → prefix_len is_note facts ≡ length facts
all_notes [] h = refl
all_notes (f ∷ facts) h = go (all_notes facts h.1) (is_note f) refl h.0
  where
    go : prefix_len is_note facts ≡ length facts → (b : Bool) → is_note f ≡ b → IsTrue (is_note f)
        → (if is_note f then 1 + prefix_len is_note facts else 0) ≡ suc (length facts)
    go more true e t = rw e (omega (arith, more))
    go more false e t = absurd (false≢true (sym e ∙ t))
