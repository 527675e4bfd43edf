-- Facts that certificates of mappings and of lists both have: what is read of them has their lines, and their lines are
-- read.
use Rattle.std.proofs.Common.{◌≡◌, ◌≢◌, ℕ, suc, ◌<◌, ◌≤◌, ◌⊎◌, inl, inr, ◌&&◌, ◌==◌, nat_le, List, [], ◌∷◌, ◌++◌, map, length, Some, None, Ok, refl, ap, sym, ◌∙◌, subst, arith, eqb-true, eq-eqb, le-leb, leb-true, ne_eqb}
use Rattle.std.proofs.lemmas.Bool.{and_parts}
use Rattle.std.specs.Prelude.{ℤ}
use Rattle.std.specs.List.{AllByRecursion, list_all}
use Rattle.bool_diagrams.specs.declared.cube.Cell.{Cell}
use Rattle.certificate.specs.declared.cell.CertCell.{CertCell}
use Rattle.certificate.specs.declared.pred_text.PredText.{PredText}
use Rattle.cti_terms.specs.Listing.{Listing}
use Rattle.fact_reading.specs.Numbered.{facts_from, lines_from, AreEach}
use Rattle.fact_reading.specs.Walk.{read_many, read_each}
use Rattle.fact_reading.proofs.SectionLemmas.{mapped, all_from, all_weaker, IsTaken, IsBack, next_sound, next_back, counted_sound, counted_back, many_sound, many_back, each_sound, each_back}
use Rattle.linear_rows.specs.declared.multipliers.Multipliers.{Multipliers}
use Rattle.linear_rows.specs.declared.row.Row.{Row}
use Rattle.linear_rows.specs.declared.row.Rows.{Rows}
use Rattle.cert_structure.specs.Order.{pred_text, cell_of}
use Rattle.cert_structure.specs.Shape.{arity_in, head_of, body_of, rows_of, rows_of_atoms, items_of, IsMode, IsSizeRow, HaveMultipliers, HasWidth}
use Rattle.cert_structure.specs.SharedFacts.{Shared}
use Rattle.cert_structure.specs.SharedFacts as says
use Rattle.cert_structure.specs.Walk.{kept, same_pred, is_mode, row_read, multipliers_read, cube_read, shared_modes, shared_row, shared_proof, shared_ground, shared_pre, shared_refuted, modes_by, rows_by, proofs_by, grounds_by, cubes_by, pre_by}
use Rattle.cert_structure.proofs.ContentLemmas.{other_taken, placed, kept_is, same_is, same_itself, modes_are, modes_back, row_is, row_back, multipliers_are, multipliers_back, cube_is, cube_back, arity_text, not_same}
use Rattle.cert_structure.proofs.SharedKinds.{SaysModes, SaysRow, SaysProof, SaysGround, SaysPre, SaysRefuted, split_modes, split_row, split_proof, split_ground, split_pre, split_refuted, known, again}

-- Facts of either kind of certificate: what each says, and the line that says so.
module _ {F : Type 0} (look : F → Shared) (line : Shared → F)
    (is_line : (f : F) → (look f ≡ says.other) ⊎ (f ≡ line (look f))) (seen : (x : Shared) → (x ≡ says.other) ⊎ (look (line x) ≡ x)) where
  abbrev said : (f : F) (x : Shared) → x ≢ says.other → look f ≡ x → f ≡ line x
  said = known look line is_line

  abbrev back : (x : Shared) → x ≢ says.other → look (line x) ≡ x
  back = again look line seen

  abbrev pub modes_line : PredText → ℕ → List (List ℕ) → F
  modes_line pred i modes = line (says.modes pred modes)

  abbrev pub row_line : PredText → ℕ → Row → F
  row_line pred i x = line (says.row pred (suc i) (x.constant ∷ x.coeffs))

  abbrev pub proof_line : ℕ → ℕ → Multipliers → F
  proof_line k i x = line (says.proof (suc k) (suc i) x.scale x.list)

  abbrev pub ground_line : PredText → ℕ → List Cell → F
  ground_line pred i x = line (says.ground pred (suc i) (map cell_of x))

  abbrev pub cube_line : PredText → ℕ → ℕ → List Cell → F
  cube_line pred m i x = line (says.pre pred (suc m) (suc i) (map cell_of x))

  abbrev pub count_line : PredText → ℕ → ℕ → F
  count_line pred i n = line (says.refuted pred n)

  -- Each reader of one fact takes the line of what it gives, and gives what a line shows.
  pub modes_taken : (pred : PredText) → IsTaken (λ i f. shared_modes pred i (look f)) (modes_line pred) (AllByRecursion (IsMode pred.arity))
  unfolding shared_modes
  modes_taken pred i f x e = go (split_modes (look f))
    where
      go : ((q : PredText) (j : ℕ) → shared_modes q j (look f) ≡ Some None) ⊎ SaysModes (look f) → (f ≡ modes_line pred i x) × AllByRecursion (IsMode pred.arity) x
      go (inl none) = other_taken (shared_modes pred i (look f)) x (none pred i) e
      go (inr (q, modes, is)) =
          let (here, some) = placed (same_pred q pred) (kept (list_all (is_mode pred.arity 0) modes) modes) x (rw is at e) in
          let (right, same) = kept_is (list_all (is_mode pred.arity 0) modes) modes x some in
          (said f (says.modes q modes) (λ z. cc z) is ∙ rw (same_is q pred here, same) refl, rw same at (modes_are pred.arity modes right))

  pub modes_given : (pred : PredText) → IsBack (λ i f. shared_modes pred i (look f)) (modes_line pred) (AllByRecursion (IsMode pred.arity))
  unfolding shared_modes
  modes_given pred i x h = rw (back (says.modes pred x) (λ z. cc z), same_itself pred, modes_back pred.arity x h) refl

  pub row_taken : (pred : PredText) → IsTaken (λ i f. shared_row pred i (look f)) (row_line pred) (IsSizeRow pred.arity)
  unfolding shared_row
  row_taken pred i f x e = go (split_row (look f))
    where
      go : ((q : PredText) (j : ℕ) → shared_row q j (look f) ≡ Some None) ⊎ SaysRow (look f) → (f ≡ row_line pred i x) × IsSizeRow pred.arity x
      go (inl none) = other_taken (shared_row pred i (look f)) x (none pred i) e
      go (inr (q, index, row, is)) =
          let (here, some) = placed (same_pred q pred && (index == suc i)) (row_read pred.arity row) x (rw is at e) in
          let (same, number) = and_parts (same_pred q pred) (index == suc i) here in
          let (whole, right) = row_is pred.arity row x some in
          (said f (says.row q index row) (λ z. cc z) is ∙ rw (same_is q pred same, eqb-true index (suc i) number, whole) refl, right)

  pub row_given : (pred : PredText) → IsBack (λ i f. shared_row pred i (look f)) (row_line pred) (IsSizeRow pred.arity)
  unfolding shared_row
  row_given pred i x h =
      rw (back (says.row pred (suc i) (x.constant ∷ x.coeffs)) (λ z. cc z), same_itself pred, eq-eqb (suc i) (suc i) refl, row_back pred.arity x h) refl

  pub proof_taken : (k rows : ℕ) → IsTaken (λ i f. shared_proof k rows i (look f)) (proof_line k) (HaveMultipliers rows)
  unfolding shared_proof
  proof_taken k rows i f x e = go (split_proof (look f))
    where
      go : ((k rows j : ℕ) → shared_proof k rows j (look f) ≡ Some None) ⊎ SaysProof (look f) → (f ≡ proof_line k i x) × HaveMultipliers rows x
      go (inl none) = other_taken (shared_proof k rows i (look f)) x (none k rows i) e
      go (inr (clause, index, scale, list, is)) =
          let (here, some) = placed ((clause == suc k) && (index == suc i)) (multipliers_read rows scale list) x (rw is at e) in
          let (same, number) = and_parts (clause == suc k) (index == suc i) here in
          let (whole, right) = multipliers_are rows scale list x some in
          (said f (says.proof clause index scale list) (λ z. cc z) is ∙ rw (eqb-true clause (suc k) same, eqb-true index (suc i) number, ← whole) refl, right)

  pub proof_given : (k rows : ℕ) → IsBack (λ i f. shared_proof k rows i (look f)) (proof_line k) (HaveMultipliers rows)
  unfolding shared_proof
  proof_given k rows i x h =
      rw (back (says.proof (suc k) (suc i) x.scale x.list) (λ z. cc z), eq-eqb (suc k) (suc k) refl, eq-eqb (suc i) (suc i) refl, multipliers_back rows x h) refl

  pub ground_taken : (pred : PredText) → IsTaken (λ i f. shared_ground pred i (look f)) (ground_line pred) (HasWidth pred.arity)
  unfolding shared_ground
  ground_taken pred i f x e = go (split_ground (look f))
    where
      go : ((q : PredText) (j : ℕ) → shared_ground q j (look f) ≡ Some None) ⊎ SaysGround (look f) → (f ≡ ground_line pred i x) × HasWidth pred.arity x
      go (inl none) = other_taken (shared_ground pred i (look f)) x (none pred i) e
      go (inr (q, index, cells, is)) =
          let (here, some) = placed (same_pred q pred && (index == suc i)) (cube_read pred.arity cells) x (rw is at e) in
          let (same, number) = and_parts (same_pred q pred) (index == suc i) here in
          let (whole, right) = cube_is pred.arity cells x some in
          (said f (says.ground q index cells) (λ z. cc z) is ∙ rw (same_is q pred same, eqb-true index (suc i) number, whole) refl, right)

  pub ground_given : (pred : PredText) → IsBack (λ i f. shared_ground pred i (look f)) (ground_line pred) (HasWidth pred.arity)
  unfolding shared_ground
  ground_given pred i x h =
      rw (back (says.ground pred (suc i) (map cell_of x)) (λ z. cc z), same_itself pred, eq-eqb (suc i) (suc i) refl, cube_back pred.arity x h) refl

  pub cube_taken : (pred : PredText) (m : ℕ) → IsTaken (λ i f. shared_pre pred m i (look f)) (cube_line pred m) (HasWidth pred.arity)
  unfolding shared_pre
  cube_taken pred m i f x e = go (split_pre (look f))
    where
      go : ((q : PredText) (m j : ℕ) → shared_pre q m j (look f) ≡ Some None) ⊎ SaysPre (look f) → (f ≡ cube_line pred m i x) × HasWidth pred.arity x
      go (inl none) = other_taken (shared_pre pred m i (look f)) x (none pred m i) e
      go (inr (q, mapping, index, cells, is)) =
          let (here, some) = placed (same_pred q pred && ((mapping == suc m) && (index == suc i))) (cube_read pred.arity cells) x (rw is at e) in
          let (same, more) = and_parts (same_pred q pred) ((mapping == suc m) && (index == suc i)) here in
          let (two, number) = and_parts (mapping == suc m) (index == suc i) more in
          let (whole, right) = cube_is pred.arity cells x some in
          (said f (says.pre q mapping index cells) (λ z. cc z) is ∙ rw (same_is q pred same, eqb-true mapping (suc m) two, eqb-true index (suc i) number, whole) refl, right)

  pub cube_given : (pred : PredText) (m : ℕ) → IsBack (λ i f. shared_pre pred m i (look f)) (cube_line pred m) (HasWidth pred.arity)
  unfolding shared_pre
  cube_given pred m i x h =
      rw (
        back (says.pre pred (suc m) (suc i) (map cell_of x)) (λ z. cc z),
        same_itself pred,
        eq-eqb (suc m) (suc m) refl,
        eq-eqb (suc i) (suc i) refl,
        cube_back pred.arity x h,
      ) refl

  pub count_taken : (pred : PredText) → IsTaken (λ i f. shared_refuted pred i (look f)) (count_line pred) (λ n. 1 ≤ n)
  unfolding shared_refuted
  count_taken pred i f x e = go (split_refuted (look f))
    where
      go : ((q : PredText) (j : ℕ) → shared_refuted q j (look f) ≡ Some None) ⊎ SaysRefuted (look f) → (f ≡ count_line pred i x) × (1 ≤ x)
      go (inl none) = other_taken (shared_refuted pred i (look f)) x (none pred i) e
      go (inr (q, points, is)) =
          let (here, some) = placed (same_pred q pred) (kept (nat_le 1 points) points) x (rw is at e) in
          let (right, same) = kept_is (nat_le 1 points) points x some in
          (said f (says.refuted q points) (λ z. cc z) is ∙ rw (same_is q pred here, same) refl, rw same at (leb-true 1 points right))

  pub count_given : (pred : PredText) → IsBack (λ i f. shared_refuted pred i (look f)) (count_line pred) (λ n. 1 ≤ n)
  unfolding shared_refuted
  count_given pred i x h = rw (back (says.refuted pred x) (λ z. cc z), same_itself pred, le-leb 1 x h) refl

  -- A fact that is no line of a kind is not taken.
  pub no_row : (pred : PredText) (f : F) → ((q : PredText) (index : ℕ) (row : List ℤ) → f ≢ line (says.row q index row)) → (i : ℕ) → shared_row pred i (look f) ≡ Some None
  no_row pred f h i = go (split_row (look f))
    where
      go : ((q : PredText) (j : ℕ) → shared_row q j (look f) ≡ Some None) ⊎ SaysRow (look f) → shared_row pred i (look f) ≡ Some None
      go (inl none) = none pred i
      go (inr (q, index, row, is)) = absurd (h q index row (said f (says.row q index row) (λ z. cc z) is))

  pub no_ground : (pred : PredText) (f : F) → ((q : PredText) (index : ℕ) (cells : List CertCell) → f ≢ line (says.ground q index cells)) → (i : ℕ)
      → shared_ground pred i (look f) ≡ Some None
  no_ground pred f h i = go (split_ground (look f))
    where
      go : ((q : PredText) (j : ℕ) → shared_ground q j (look f) ≡ Some None) ⊎ SaysGround (look f) → shared_ground pred i (look f) ≡ Some None
      go (inl none) = none pred i
      go (inr (q, index, cells, is)) = absurd (h q index cells (said f (says.ground q index cells) (λ z. cc z) is))

  pub no_cube : (pred : PredText) (f : F) → ((q : PredText) (mapping index : ℕ) (cells : List CertCell) → f ≢ line (says.pre q mapping index cells)) → (m i : ℕ)
      → shared_pre pred m i (look f) ≡ Some None
  no_cube pred f h m i = go (split_pre (look f))
    where
      go : ((q : PredText) (m j : ℕ) → shared_pre q m j (look f) ≡ Some None) ⊎ SaysPre (look f) → shared_pre pred m i (look f) ≡ Some None
      go (inl none) = none pred m i
      go (inr (q, mapping, index, cells, is)) = absurd (h q mapping index cells (said f (says.pre q mapping index cells) (λ z. cc z) is))

  pub no_count : (pred : PredText) (f : F) → ((q : PredText) (points : ℕ) → f ≢ line (says.refuted q points)) → (i : ℕ) → shared_refuted pred i (look f) ≡ Some None
  no_count pred f h i = go (split_refuted (look f))
    where
      go : ((q : PredText) (j : ℕ) → shared_refuted q j (look f) ≡ Some None) ⊎ SaysRefuted (look f) → shared_refuted pred i (look f) ≡ Some None
      go (inl none) = none pred i
      go (inr (q, points, is)) = absurd (h q points (said f (says.refuted q points) (λ z. cc z) is))

  free : (u : List F) → AllByRecursion (λ (f : F). Unit {0}) u
  free [] = tt
  free (f ∷ u) = (tt, free u)

  -- What is read of each section.
  module _ (p : Listing) (names : List (List ℕ)) where
    abbrev text : ℕ → PredText
    text a = pred_text p names a

    at_arity : (P : ℕ → Type 0) (a : ℕ) → P (pred_text p names a).arity → P (arity_in p a)
    at_arity P a h = subst P (arity_text p names a) h

    from_arity : (P : ℕ → Type 0) (a : ℕ) → P (arity_in p a) → P (pred_text p names a).arity
    from_arity P a h = subst P (sym (arity_text p names a)) h

    abbrev pub AreModes : List (List (List ℕ)) → Type 0
    AreModes xs = AreEach (length p.preds) (λ a. AllByRecursion (IsMode (arity_in p a))) xs

    abbrev pub mode_lines : List (List (List ℕ)) → List F
    mode_lines xs = lines_from 0 (λ a ms. modes_line (pred_text p names a) a ms) xs

    pub modes_section : (s t : List F) (xs : List (List (List ℕ))) → read_each (modes_by look p names) 0 (length p.preds) s ≡ Ok (xs, t)
        → (s ≡ mode_lines xs ++ t) × AreModes xs
    unfolding modes_by
    modes_section s t xs e =
        let (whole, count, each) = each_sound (modes_by look p names) (λ a ms. modes_line (text a) a ms ∷ []) (λ a ms. AllByRecursion (IsMode (arity_in p a)) ms)
        (λ a s t x read.
        let (one, right) = next_sound (λ i f. shared_modes (text a) i (look f)) (modes_line (text a)) _ (modes_taken (text a)) 0 s t x read in
        (one, at_arity (λ n. AllByRecursion (IsMode n) x) a right))
        0 (length p.preds) s t xs e in
        (whole, record { count = count; each = each })

    pub modes_listed : (xs : List (List (List ℕ))) (t : List F) → AreModes xs → read_each (modes_by look p names) 0 (length p.preds) (mode_lines xs ++ t) ≡ Ok (xs, t)
    unfolding modes_by
    modes_listed xs t h =
        each_back (modes_by look p names) (λ a ms. modes_line (text a) a ms ∷ []) (λ a ms. AllByRecursion (IsMode (arity_in p a)) ms)
        (λ a f. Unit {0}) (length p.preds)
        (λ a x t below right none.
        next_back (λ i f. shared_modes (text a) i (look f)) (modes_line (text a)) _ (modes_given (text a)) 0 x t (from_arity (λ n. AllByRecursion (IsMode n) x) a right))
        (λ a b x less below. (tt, tt))
        0 (length p.preds) xs t h.count (omega arith) h.each (λ j below. free t)

    abbrev HasRows : ℕ → Rows → Type 0
    HasRows a r = (r.width ≡ arity_in p a) × AllByRecursion (IsSizeRow (arity_in p a)) r.list

    abbrev pub row_lines : List Rows → List F
    row_lines xs = facts_from 0 (λ a r. lines_from 0 (row_line (pred_text p names a)) r.list) xs

    pub rows_section : (s t : List F) (xs : List Rows) → read_each (rows_by look p names) 0 (length p.preds) s ≡ Ok (xs, t)
        → (s ≡ row_lines xs ++ t) × AreEach (length p.preds) (λ a r. (r.width ≡ arity_in p a) × AllByRecursion (IsSizeRow (arity_in p a)) r.list) xs
    unfolding rows_by
    rows_section s t xs e =
        let (whole, count, each) = each_sound (rows_by look p names) (λ a r. lines_from 0 (row_line (text a)) r.list) HasRows
        (λ a s t x read.
        mapped (with_width a) (read_many (λ i f. shared_row (text a) i (look f)) 0 s) (x, t) read λ q here both.
        let (one, right) = many_sound (λ i f. shared_row (text a) i (look f)) (row_line (text a)) _ (row_taken (text a)) 0 s q.1 q.0 here in
        let first : record { width = arity_in p a; list = q.0 } ≡ x = ap (λ r. r.0) both in
        let rest : q.1 ≡ t = ap (λ r. r.1) both in
        rw (← first, ← rest) (one, (refl, at_arity (λ n. AllByRecursion (IsSizeRow n) q.0) a right)))
        0 (length p.preds) s t xs e in
        (whole, record { count = count; each = each })
      where
        with_width : ℕ → List Row × List F → Rows × List F
        with_width a x = (record { width = arity_in p a; list = x.0 }, x.1)

    abbrev pub ground_lines : List (List (List Cell)) → List F
    ground_lines xs = facts_from 0 (λ a cs. lines_from 0 (ground_line (pred_text p names a)) cs) xs

    pub grounds_section : (s t : List F) (xs : List (List (List Cell))) → read_each (grounds_by look p names) 0 (length p.preds) s ≡ Ok (xs, t)
        → (s ≡ ground_lines xs ++ t) × AreEach (length p.preds) (λ a. AllByRecursion (HasWidth (arity_in p a))) xs
    unfolding grounds_by
    grounds_section s t xs e =
        let (whole, count, each) = each_sound (grounds_by look p names) (λ a cs. lines_from 0 (ground_line (text a)) cs) (λ a cs. AllByRecursion (HasWidth (arity_in p a)) cs)
        (λ a s t x read.
        let (one, right) = many_sound (λ i f. shared_ground (text a) i (look f)) (ground_line (text a)) _ (ground_taken (text a)) 0 s t x read in
        (one, at_arity (λ n. AllByRecursion (HasWidth n) x) a right))
        0 (length p.preds) s t xs e in
        (whole, record { count = count; each = each })

    -- The preconditions of a predicate, one for each of its mappings, or for each list.
    module _ {A : Type 0} (levels : List (List A)) where
      abbrev pub AreCubes : ℕ → List (List (List Cell)) → Type 0
      AreCubes a xs = AreEach (length (items_of levels a)) (λ _. AllByRecursion (HasWidth (arity_in p a))) xs

      abbrev pub cube_lines : ℕ → List (List (List Cell)) → List F
      cube_lines a xs = facts_from 0 (λ m cs. lines_from 0 (cube_line (pred_text p names a) m) cs) xs

      pub cubes_section : (a : ℕ) (s t : List F) (xs : List (List (List Cell))) → pre_by look p names levels a s ≡ Ok (xs, t) → (s ≡ cube_lines a xs ++ t) × AreCubes a xs
      unfolding pre_by cubes_by
      cubes_section a s t xs e =
          let (whole, count, each) = each_sound (cubes_by look p names a) (λ m cs. lines_from 0 (cube_line (text a) m) cs) (λ m cs. AllByRecursion (HasWidth (arity_in p a)) cs)
          (λ m s t x read.
          let (one, right) = many_sound (λ i f. shared_pre (text a) m i (look f)) (cube_line (text a) m) _ (cube_taken (text a) m) 0 s t x read in
          (one, at_arity (λ n. AllByRecursion (HasWidth n) x) a right))
          0 (length (items_of levels a)) s t xs e in
          (whole, record { count = count; each = each })

      cubes_listed : (a : ℕ) (xs : List (List (List Cell))) (t : List F) → AreCubes a xs → AllByRecursion (λ f. (m i : ℕ) → shared_pre (pred_text p names a) m i (look f) ≡ Some None) t
          → pre_by look p names levels a (cube_lines a xs ++ t) ≡ Ok (xs, t)
      unfolding pre_by cubes_by shared_pre
      cubes_listed a xs t h others =
          each_back (cubes_by look p names a) (λ m cs. lines_from 0 (cube_line (text a) m) cs) (λ m cs. AllByRecursion (HasWidth (arity_in p a)) cs)
          (λ m f. (i : ℕ) → shared_pre (text a) m i (look f) ≡ Some None) (length (items_of levels a))
          (λ m x t below right none.
          many_back (λ i f. shared_pre (text a) m i (look f)) (cube_line (text a) m) _ (cube_given (text a) m) 0 x t (from_arity (λ n. AllByRecursion (HasWidth n) x) a right) none)
          (λ m n x less below. all_from (λ f. (i : ℕ) → shared_pre (text a) m i (look f) ≡ Some None) (λ k c. cube_line (text a) n k c ∷ [])
          (λ k c. (λ i. rw (back (says.pre (text a) (suc n) (suc k) (map cell_of c)) (λ z. cc z), same_itself (text a), ne_eqb (suc n) (suc m) (λ same. absurd (omega (arith, same, less)))) refl, tt)) 0 x)
          0 (length (items_of levels a)) xs t h.count (omega arith) h.each
          (λ m below. all_weaker (λ f. (m i : ℕ) → shared_pre (text a) m i (look f) ≡ Some None) (λ f. (i : ℕ) → shared_pre (text a) m i (look f) ≡ Some None) (λ f none. none m) t others)

      abbrev pub pre_lines : List (List (List (List Cell))) → List F
      pre_lines xs = facts_from 0 (λ a ms. facts_from 0 (λ m cs. lines_from 0 (cube_line (pred_text p names a) m) cs) ms) xs

      abbrev pub ArePre : List (List (List (List Cell))) → Type 0
      ArePre xs = AreEach (length p.preds) (λ a. AreEach (length (items_of levels a)) (λ _. AllByRecursion (HasWidth (arity_in p a)))) xs

      pub pre_section : (s t : List F) (xs : List (List (List (List Cell)))) → read_each (pre_by look p names levels) 0 (length p.preds) s ≡ Ok (xs, t) → (s ≡ pre_lines xs ++ t) × ArePre xs
      pre_section s t xs e =
          let (whole, count, each) = each_sound (pre_by look p names levels) (λ a ms. cube_lines a ms) (λ a ms. AreCubes a ms)
          (λ a s t x read. cubes_section a s t x read)
          0 (length p.preds) s t xs e in
          (whole, record { count = count; each = each })

      pub pre_listed : ((a b : ℕ) → a < b → b < length p.preds → pred_text p names b ≢ pred_text p names a) → (xs : List (List (List (List Cell)))) (t : List F) → ArePre xs
          → ((a : ℕ) → AllByRecursion (λ f. (m i : ℕ) → shared_pre (pred_text p names a) m i (look f) ≡ Some None) t)
          → read_each (pre_by look p names levels) 0 (length p.preds) (pre_lines xs ++ t) ≡ Ok (xs, t)
      unfolding shared_pre
      pre_listed apart xs t h others =
          each_back (pre_by look p names levels) (λ a ms. cube_lines a ms) (λ a ms. AreCubes a ms)
          (λ a f. (m i : ℕ) → shared_pre (text a) m i (look f) ≡ Some None) (length p.preds)
          (λ a x t below right none. cubes_listed a x t right none)
          (λ a b x less below. all_from (λ f. (m i : ℕ) → shared_pre (text a) m i (look f) ≡ Some None) (λ n cs. lines_from 0 (cube_line (text b) n) cs)
          (λ n cs. all_from (λ f. (m i : ℕ) → shared_pre (text a) m i (look f) ≡ Some None) (λ k c. cube_line (text b) n k c ∷ [])
          (λ k c. (λ m i. rw (back (says.pre (text b) (suc n) (suc k) (map cell_of c)) (λ z. cc z), not_same (text b) (text a) (apart a b less below)) refl, tt)) 0 cs) 0 x)
          0 (length p.preds) xs t h.count (omega arith) h.each (λ j below. others j)

    -- Facts that follow a section are not of its kind.
    module _ (apart : (a b : ℕ) → a < b → b < length p.preds → pred_text p names b ≢ pred_text p names a) where
      pub rows_listed : (xs : List Rows) (t : List F)
          → AreEach (length p.preds) (λ a r. (r.width ≡ arity_in p a) × AllByRecursion (IsSizeRow (arity_in p a)) r.list) xs
          → ((a : ℕ) → AllByRecursion (λ f. (i : ℕ) → shared_row (pred_text p names a) i (look f) ≡ Some None) t)
          → read_each (rows_by look p names) 0 (length p.preds) (row_lines xs ++ t) ≡ Ok (xs, t)
      unfolding rows_by shared_row
      rows_listed xs t h others =
          each_back (rows_by look p names) (λ a r. lines_from 0 (row_line (text a)) r.list) HasRows
          (λ a f. (i : ℕ) → shared_row (text a) i (look f) ≡ Some None) (length p.preds)
          (λ a x t below right none.
          rw (many_back (λ i f. shared_row (text a) i (look f)) (row_line (text a)) _ (row_given (text a)) 0 x.list t (from_arity (λ n. AllByRecursion (IsSizeRow n) x.list) a right.1) none, ← right.0) refl)
          (λ a b x less below. all_from (λ f. (i : ℕ) → shared_row (text a) i (look f) ≡ Some None) (λ k r. row_line (text b) k r ∷ [])
          (λ k r. (λ i. rw (back (says.row (text b) (suc k) (r.constant ∷ r.coeffs)) (λ z. cc z), not_same (text b) (text a) (apart a b less below)) refl, tt)) 0 x.list)
          0 (length p.preds) xs t h.count (omega arith) h.each (λ j below. others j)

      pub grounds_listed : (xs : List (List (List Cell))) (t : List F) → AreEach (length p.preds) (λ a. AllByRecursion (HasWidth (arity_in p a))) xs
          → ((a : ℕ) → AllByRecursion (λ f. (i : ℕ) → shared_ground (pred_text p names a) i (look f) ≡ Some None) t)
          → read_each (grounds_by look p names) 0 (length p.preds) (ground_lines xs ++ t) ≡ Ok (xs, t)
      unfolding grounds_by shared_ground
      grounds_listed xs t h others =
          each_back (grounds_by look p names) (λ a cs. lines_from 0 (ground_line (text a)) cs) (λ a cs. AllByRecursion (HasWidth (arity_in p a)) cs)
          (λ a f. (i : ℕ) → shared_ground (text a) i (look f) ≡ Some None) (length p.preds)
          (λ a x t below right none.
          many_back (λ i f. shared_ground (text a) i (look f)) (ground_line (text a)) _ (ground_given (text a)) 0 x t (from_arity (λ n. AllByRecursion (HasWidth n) x) a right) none)
          (λ a b x less below. all_from (λ f. (i : ℕ) → shared_ground (text a) i (look f) ≡ Some None) (λ k c. ground_line (text b) k c ∷ [])
          (λ k c. (λ i. rw (back (says.ground (text b) (suc k) (map cell_of c)) (λ z. cc z), not_same (text b) (text a) (apart a b less below)) refl, tt)) 0 x)
          0 (length p.preds) xs t h.count (omega arith) h.each (λ j below. others j)

  -- The proofs for each clause.
  module _ (p : Listing) (rows : List Rows) where
    abbrev pub AreProofs : List (List Multipliers) → Type 0
    AreProofs xs = AreEach (length p.clauses) (λ k. AreEach (rows_of rows (head_of p k)) (λ _. HaveMultipliers (rows_of_atoms rows (body_of p k)))) xs

    abbrev pub proof_lines : List (List Multipliers) → List F
    proof_lines xs = facts_from 0 (λ k ms. lines_from 0 (proof_line k) ms) xs

    pub proofs_section : (s t : List F) (xs : List (List Multipliers)) → read_each (proofs_by look p rows) 0 (length p.clauses) s ≡ Ok (xs, t) → (s ≡ proof_lines xs ++ t) × AreProofs xs
    unfolding proofs_by
    proofs_section s t xs e =
        let (whole, count, each) = each_sound (proofs_by look p rows) (λ k ms. lines_from 0 (proof_line k) ms)
        (λ k ms. AreEach (rows_of rows (head_of p k)) (λ _. HaveMultipliers (rows_of_atoms rows (body_of p k))) ms)
        (λ k s t x read.
        let (one, count, each) = counted_sound (λ i f. shared_proof k (rows_of_atoms rows (body_of p k)) i (look f)) (proof_line k) _ (proof_taken k (rows_of_atoms rows (body_of p k))) 0 (rows_of rows (head_of p k)) s t x read in
        (one, record { count = count; each = each }))
        0 (length p.clauses) s t xs e in
        (whole, record { count = count; each = each })

    pub proofs_listed : (xs : List (List Multipliers)) (t : List F) → AreProofs xs → read_each (proofs_by look p rows) 0 (length p.clauses) (proof_lines xs ++ t) ≡ Ok (xs, t)
    unfolding proofs_by
    proofs_listed xs t h =
        each_back (proofs_by look p rows) (λ k ms. lines_from 0 (proof_line k) ms)
        (λ k ms. AreEach (rows_of rows (head_of p k)) (λ _. HaveMultipliers (rows_of_atoms rows (body_of p k))) ms)
        (λ a f. Unit {0}) (length p.clauses)
        (λ k x t below right none.
        counted_back (λ i f. shared_proof k (rows_of_atoms rows (body_of p k)) i (look f)) (proof_line k) _ (proof_given k (rows_of_atoms rows (body_of p k))) 0 (rows_of rows (head_of p k)) x t right.count right.each)
        (λ a b x less below. free (lines_from 0 (proof_line b) x))
        0 (length p.clauses) xs t h.count (omega arith) h.each (λ j below. free t)
