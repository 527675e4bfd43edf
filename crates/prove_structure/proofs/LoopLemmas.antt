-- Lemmas on the loops that read items.
use Rattle.std.proofs.Common.{◌≡◌, ◌≢◌, ℕ, zero, suc, ◌+◌, ◌<◌, ◌≤◌, List, [], ◌∷◌, ◌++◌, length, drop, Some, None, Ok, Err, refl, arith, append-nil, slice_index_or}
use Rattle.call_components.specs.Partition.{Partition}
use Rattle.cert_structure.specs.Shape.{rows_of}
use Rattle.cert_structure.proofs.LoopLemmas.{atom_at}
use Rattle.certificate.specs.declared.pred_text.PredText.{PredText}
use Rattle.cti_terms.specs.declared.atom_list.Atom.{Atom}
use Rattle.cti_terms.specs.Listing.{Listing}
use Rattle.fact_reading.specs.declared.stop.StructureReason.TheVariants as reason
use Rattle.fact_reading.specs.Walk.{Wrong, Read, with_all, wrong_at, read_many}
use Rattle.fact_reading.proofs.LoopLemmas.{one_more}
use Rattle.lex_certificate.specs.Shape.{lists_of_call}
use Rattle.linear_rows.specs.declared.row.Rows.{Rows}
use Rattle.number_tests.specs.declared.level_part.LevelPart.{LevelPart}
use Rattle.prove_certificate.specs.declared.fact.ProveFact.{ProveFact}
use Rattle.prove_certificate.specs.declared.kind.CertKind.{CertKind}
use Rattle.prove_parts.specs.Shape.{pair_of_group, pair_of_point}
use Rattle.prove_parts.specs.declared.stuck.GroupPoint.{GroupPoint}
use Rattle.prove_parts.specs.declared.stuck.StuckGroup.{StuckGroup}
use Rattle.prove_structure.specs.Walk.{take_level, take_point, read_lists, read_own, read_levels, read_calls, read_group, read_groups, read_points}

-- the lists that are read as long as there is a first measure
module _ (pred : PredText) (width : ℕ) (xs : List (List LevelPart)) (m n : ℕ) (s : List ProveFact) where
  pub lists_end : n ≡ 0 → with_all xs (read_lists pred width m n s) ≡ Ok (xs, s)
  unfolding read_lists
  lists_end e = rw (e, append-nil xs) refl

  module _ (l : ℕ) (some : n ≡ suc l) where
    pub lists_err : (w : Wrong) → read_many (take_level pred width m) 0 s ≡ Err w → with_all xs (read_lists pred width m n s) ≡ Err w
    unfolding read_lists
    lists_err w bad = rw (some, bad) refl

    pub lists_stop : (x : List LevelPart) (t : List ProveFact) → read_many (take_level pred width m) 0 s ≡ Ok (x, t) → x ≡ [] → with_all xs (read_lists pred width m n s) ≡ Ok (xs, t)
    unfolding read_lists
    lists_stop [] t read none = rw (some, read, append-nil xs) refl
    lists_stop (y ∷ x) t read none = absurd (cc none)

    pub lists_more : (o : ℕ) (x : List LevelPart) (t : List ProveFact) → o ≡ suc m → read_many (take_level pred width m) 0 s ≡ Ok (x, t) → x ≢ []
        → with_all (xs ++ x ∷ []) (read_lists pred width o l t) ≡ with_all xs (read_lists pred width m n s)
    unfolding read_lists
    lists_more o [] t next read more = absurd (more refl)
    lists_more o (y ∷ x) t next read more = rw (some, next, read) (one_more xs (y ∷ x) (read_lists pred width (suc m) l t))

module _ (p : Listing) (names : List (List ℕ)) (comps : Partition) (kinds : List (List CertKind)) (earlier : List (List (List LevelPart))) (a m : ℕ) (s : List ProveFact) where
  pub levels_end : m ≡ 0 → read_levels p names comps kinds earlier a m s ≡ Ok (earlier, s)
  unfolding read_levels
  levels_end e = rw e refl

  pub levels_err : (n : ℕ) (w : Wrong) → m ≡ suc n → read_own p names comps kinds earlier a s ≡ Err w → read_levels p names comps kinds earlier a m s ≡ Err w
  unfolding read_levels
  levels_err n w e bad = rw (e, bad) refl

  pub levels_more : (n b : ℕ) (x : List (List LevelPart)) (t : List ProveFact) → m ≡ suc n → b ≡ suc a → read_own p names comps kinds earlier a s ≡ Ok (x, t)
      → read_levels p names comps kinds (earlier ++ x ∷ []) b n t ≡ read_levels p names comps kinds earlier a m s
  unfolding read_levels
  levels_more n b x t e next read = rw (e, next, read) refl

module _ {A : Type 0} (call : ℕ → ℕ → ℕ → List (List LevelPart) → List ProveFact → Read ProveFact A) (comps : Partition) (rows : List Rows) (lists : List (List (List LevelPart)))
    (head k : ℕ) (xs : List A) (j before : ℕ) (body : List Atom) (s : List ProveFact) where
  pub calls_end : length body ≤ j → with_all xs (read_calls call comps rows lists head k j before (drop j body) s) ≡ Ok (xs, s)
  unfolding read_calls
  calls_end h = rw (none j body h, append-nil xs) refl
    where
      none : (i : ℕ) (bs : List Atom) → length bs ≤ i → drop i bs ≡ []
      none zero [] h = refl
      none (suc i) [] h = refl
      none zero (c ∷ bs) h = absurd (omega (arith, h))
      none (suc i) (c ∷ bs) h = none i bs (omega (arith, h))

  module _ (b : Atom) (h : j < length body) (here : b ≡ slice_index_or body j b) where
    pub calls_err : (w : Wrong) → call k j before (lists_of_call comps lists head (Some b)) s ≡ Err w → with_all xs (read_calls call comps rows lists head k j before (drop j body) s) ≡ Err w
    unfolding read_calls
    calls_err w bad = rw (atom_at j body b h here, bad) refl

    pub calls_more : (i more : ℕ) (x : A) (t : List ProveFact) → i ≡ suc j → more ≡ before + rows_of rows b.pred.0
        → call k j before (lists_of_call comps lists head (Some b)) s ≡ Ok (x, t)
        → with_all (xs ++ x ∷ []) (read_calls call comps rows lists head k i more (drop i body) t) ≡ with_all xs (read_calls call comps rows lists head k j before (drop j body) s)
    unfolding read_calls
    calls_more i more x t next sum read =
        rw (next, sum, atom_at j body b h here, read) (one_more xs x (read_calls call comps rows lists head k (suc j) (before + rows_of rows b.pred.0) (drop (suc j) body) t))

-- the points of a group
module _ (p : Listing) (pairs : List (ℕ × ℕ)) (xs : List GroupPoint) (last : ℕ × ℕ) (s : List ProveFact) where
  pub points_end : length s ≡ 0 → with_all xs (read_points p pairs last s) ≡ Ok (xs, s)
  unfolding read_points
  points_end e = go s e
    where
      go : (u : List ProveFact) → length u ≡ 0 → with_all xs (read_points p pairs last u) ≡ Ok (xs, u)
      go [] e = rw (append-nil xs) refl
      go (g ∷ u) e = absurd (omega (arith, e))

  module _ (t : List ProveFact) (f : ProveFact) (e : s ≡ f ∷ t) where
    pub points_bad : take_point p pairs last f ≡ None → with_all xs (read_points p pairs last s) ≡ wrong_at s reason.Shape
    unfolding read_points
    points_bad bad = rw (e, bad) refl

    pub points_other : take_point p pairs last f ≡ Some None → with_all xs (read_points p pairs last s) ≡ Ok (xs, s)
    unfolding read_points
    points_other other = rw (e, other, append-nil xs) refl

    pub points_more : (x : GroupPoint) → take_point p pairs last f ≡ Some (Some x) → with_all (xs ++ x ∷ []) (read_points p pairs (pair_of_point x) t) ≡ with_all xs (read_points p pairs last s)
    unfolding read_points
    points_more x item = rw (e, item) (one_more xs x (read_points p pairs (pair_of_point x) t))

-- the groups of a stuck set
module _ (p : Listing) (comps : Partition) (a : ℕ) (pairs : List (ℕ × ℕ)) (xs : List StuckGroup) (last : ℕ × ℕ) (m : ℕ) (s : List ProveFact) where
  pub groups_end : m ≡ 0 → with_all xs (read_groups p comps a pairs last m s) ≡ Ok (xs, s)
  unfolding read_groups
  groups_end e = rw (e, append-nil xs) refl

  pub groups_err : (n : ℕ) (w : Wrong) → m ≡ suc n → read_group p comps a pairs last s ≡ Err w → with_all xs (read_groups p comps a pairs last m s) ≡ Err w
  unfolding read_groups
  groups_err n w e bad = rw (e, bad) refl

  pub groups_more : (n : ℕ) (x : StuckGroup) (t : List ProveFact) → m ≡ suc n → read_group p comps a pairs last s ≡ Ok (x, t)
      → with_all (xs ++ x ∷ []) (read_groups p comps a pairs (pair_of_group x) n t) ≡ with_all xs (read_groups p comps a pairs last m s)
  unfolding read_groups
  groups_more n x t e read = rw (e, read) (one_more xs x (read_groups p comps a pairs (pair_of_group x) n t))
