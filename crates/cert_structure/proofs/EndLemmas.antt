-- Where reading fails, the facts before the wrong one begin those of parts, and what is missing there can be written.
use Rattle.std.proofs.Common.{◌≡◌, ℕ, zero, suc, ◌+◌, ◌<◌, ◌≤◌, ◌⊎◌, inl, inr, Bool, true, false, ◌==◌, if◌then◌else◌, List, [], ◌∷◌, ◌++◌, length, take, slice_get, Some, None, Ok, Err, refl, ap, sym, ◌∙◌, subst, arith, eqb-true, eq-eqb, append_assoc, append-nil}
use Rattle.std.proofs.lemmas.Bool.{false≢true, and_parts}
use Rattle.std.specs.Prelude.{ℤ, pos, ◌&&◌}
use Rattle.std.specs.List.{AllByRecursion, list_all}
use Rattle.bool_diagrams.specs.declared.cube.Cell.{Cell}
use Rattle.bool_diagrams.specs.declared.cube.Cell.TheVariants as side
use Rattle.call_components.specs.Partition.{Partition}
use Rattle.certificate.specs.declared.pred_text.PredText.{PredText}
use Rattle.certificate.specs.declared.fact.Fact.{Fact}
use Rattle.certificate.specs.declared.fact.Fact.TheVariants as fact
use Rattle.certificate.specs.Range.{IsAmount, AreAmounts}
use Rattle.cti_terms.specs.declared.atom_list.Atom.{Atom}
use Rattle.cti_terms.specs.Listing.{Listing}
use Rattle.linear_rows.specs.declared.multipliers.Multipliers.{Multipliers}
use Rattle.linear_rows.specs.declared.row.Row.{Row}
use Rattle.linear_rows.specs.declared.row.Rows.{Rows}
use Rattle.number_tests.specs.declared.level_part.LevelPart.{LevelPart}
use Rattle.fact_reading.specs.declared.stop.StructureReason.{StructureReason}
use Rattle.fact_reading.specs.declared.stop.StructureReason.TheVariants as reason
use Rattle.fact_reading.specs.Numbered.{facts_from, lines_from, EachFrom, AreEach}
use Rattle.cert_structure.specs.Order.{mode_facts, size_facts, proof_facts, ground_facts, fall_facts, pre_facts, pred_text, size_line, by_line, grounds_line, measure_line, falls_line, pre_line}
use Rattle.cert_structure.specs.Shape.{arity_in, head_of, body_of, rows_of, rows_of_atoms, items_of, is_recursive, first_of, mappings_of, proofs_of_call, IsMode, IsSizeRow, HaveMultipliers, HasWidth, IsLevel}
use Rattle.cert_structure.specs.StructureFault.{HaveOnePlace, content_fault}
use Rattle.cert_structure.specs.StructureFault as place
use Rattle.cert_structure.specs.Walk.{at_place, same_pred, kept, is_mode, are_entries, row_read, multipliers_read, cube_read, level_read, take_modes, take_row, take_proof, take_ground, take_level, take_fall, take_pre, read_modes, read_rows, read_proofs, read_grounds, read_level, read_levels, read_call, read_calls, read_falls, read_cubes, read_pre, cubes_by, grounds_by, modes_by, pre_by, proofs_by, rows_by, shared_ground, shared_modes, shared_pre, shared_proof, shared_row}
use Rattle.fact_reading.specs.Walk.{Wrong, Read, Taken, item_of, go_on, result_map, with_first, read_next, read_many, read_each}
use Rattle.cert_structure.proofs.KindLemmas.{split_modes, split_row, split_proof, split_ground, split_level, split_fall, split_pre, IsTerminates, IsSize, IsBy, IsGrounds, IsMeasure, IsFalls, IsPre}
use Rattle.fact_reading.proofs.SectionLemmas.{err_ok, mapped, IsTaken, next_sound, many_sound, counted_sound, each_all}
use Rattle.cert_structure.proofs.ContentLemmas.{same_is, amount_is, entries_are, arity_text}
use Rattle.cert_structure.proofs.TakeLemmas.{modes_taken, row_taken, proof_taken, ground_taken, level_taken, fall_taken, pre_taken}
use Rattle.cert_structure.proofs.LevelLemmas.{place_behind, front, one_longer, IsCall, IsLevels, IsCounted, calls_sound, level_sound, count_is, rows_more}
use Rattle.cert_structure.proofs.StructureLemmas.{cubes_section}
use Rattle.cert_structure.proofs.LocalLemmas.{same_err, bound_err, mapped_err}

-- the facts from a wrong one on, and those that may come in their place
pub record IsBad (why : StructureReason) (stands may : List Fact) : Type 0 where
  pub own : Fact
  pub other : Fact
  pub after : List Fact
  pub more : List Fact
  pub first : stands ≡ own ∷ after
  pub instead : may ≡ other ∷ more
  pub place : HaveOnePlace own other
  pub content : content_fault own ≡ why

abbrev pub Shows : StructureReason → List Fact → List Fact → Type 0
Shows reason.Missing stands may = stands ≡ []
Shows reason.Extra stands may = (f : Fact) × (t : List Fact) × (stands ≡ f ∷ t)
Shows reason.Shape stands may = IsBad reason.Shape stands may
Shows reason.Version stands may = IsBad reason.Version stands may

bad_more : (why : StructureReason) (stands may more : List Fact) → IsBad why stands may → IsBad why stands (may ++ more)
bad_more why stands may more b =
    record { own = b.own; other = b.other; after = b.after; more = b.more ++ more; first = b.first; instead = ap (λ z. z ++ more) b.instead; place = b.place; content = b.content }

pub shows_more : (why : StructureReason) (stands may more : List Fact) → Shows why stands may → Shows why stands (may ++ more)
shows_more reason.Missing stands may more h = h
shows_more reason.Extra stands may more h = h
shows_more reason.Shape stands may more h = bad_more reason.Shape stands may more h
shows_more reason.Version stands may more h = bad_more reason.Version stands may more h

-- the facts before the wrong one, and more after them, have a property
pub record Ends (P : List Fact → Type 0) (s : List Fact) (w : Wrong) : Type 0 where
  pub done : List Fact
  pub stands : List Fact
  pub may : List Fact
  pub split : s ≡ done ++ stands
  pub left : length stands ≡ w.0
  pub end : P (done ++ may)
  pub why : Shows w.1 stands may

pub ends_more : (P Q : List Fact → Type 0) (more s : List Fact) (w : Wrong) → Ends P s w → ((l : List Fact) → P l → Q (l ++ more)) → Ends Q s w
ends_more P Q more s w e h = record {
  done = e.done;
  stands = e.stands;
  may = e.may ++ more;
  split = e.split;
  left = e.left;
  end = subst Q (append_assoc e.done e.may more) (h (e.done ++ e.may) e.end);
  why = shows_more w.1 e.stands e.may more e.why;
}

pub ends_weaker : (P Q : List Fact → Type 0) (s : List Fact) (w : Wrong) → Ends P s w → ((l : List Fact) → P l → Q l) → Ends Q s w
ends_weaker P Q s w e h = record { done = e.done; stands = e.stands; may = e.may; split = e.split; left = e.left; end = h (e.done ++ e.may) e.end; why = e.why }

pub after_these : (P : List Fact → Type 0) (zs s : List Fact) (w : Wrong) → Ends (λ l. P (zs ++ l)) s w → Ends P (zs ++ s) w
after_these P zs s w e = record {
  done = zs ++ e.done;
  stands = e.stands;
  may = e.may;
  split = ap (λ z. zs ++ z) e.split ∙ sym (append_assoc zs e.done e.stands);
  left = e.left;
  end = subst P (sym (append_assoc zs e.done e.may)) e.end;
  why = e.why;
}

-- the same after the facts that were read
pub after_read : (P : List Fact → Type 0) (r zs s : List Fact) (w : Wrong) → r ≡ zs ++ s → Ends (λ l. P (zs ++ l)) s w → Ends P r w
after_read P r zs s w e h = subst (λ z. Ends P z w) (sym e) (after_these P zs s w h)

pub at_wrong : {A : Type 0} (P : List Fact → Type 0) (s : List Fact) (v w : Wrong) → ◌≡◌ {A = Read Fact A} (Err v) (Err w) → Ends P s v → Ends P s w
at_wrong {A = A} P s v w e h = subst (λ z. Ends P s z) (same_err {A = A × List Fact} v w e) h

-- facts of one kind
module _ {A : Type 0} (taken : ℕ → Fact → Taken A) (line : ℕ → A → Fact) (good : A → Type 0) (sound : IsTaken taken line good) (none : A) (right : good none)
    (bad : (i : ℕ) (f : Fact) → taken i f ≡ None → HaveOnePlace f (line i none) × (content_fault f ≡ reason.Shape)) where
  abbrev pub IsLine : ℕ → List Fact → Type 0
  IsLine i l = (x : A) × (l ≡ line i x ∷ []) × good x

  pub next_ends : (i : ℕ) (s : List Fact) (w : Wrong) → read_next taken i s ≡ Err w → Ends (λ l. (x : A) × (l ≡ line i x ∷ []) × good x) s w
  next_ends i [] w e =
      at_wrong {A = A} _ [] _ w e (record { done = []; stands = []; may = line i none ∷ []; split = refl; left = refl; end = (none, refl, right); why = refl })
  next_ends i (f ∷ s) w e = go (taken i f) refl e
    where
      go : (o : Taken A) → taken i f ≡ o → item_of f s o ≡ Err w → Ends (λ l. (x : A) × (l ≡ line i x ∷ []) × good x) (f ∷ s) w
      go None read same =
          let (there, content) = bad i f read in
          at_wrong {A = A} _ (f ∷ s) _ w same (record {
            done = [];
            stands = f ∷ s;
            may = line i none ∷ [];
            split = refl;
            left = refl;
            end = (none, refl, right);
            why = record { own = f; other = line i none; after = s; more = []; first = refl; instead = refl; place = there; content = content };
          })
      go (Some None) read same =
          at_wrong {A = A} _ (f ∷ s) _ w same (record { done = []; stands = f ∷ s; may = line i none ∷ []; split = refl; left = refl; end = (none, refl, right); why = (f, s, refl) })
      go (Some (Some y)) read same = err_ok w (y, s) (sym same)

  pub many_ends : (i : ℕ) (s : List Fact) (w : Wrong) → read_many taken i s ≡ Err w → Ends (λ l. (xs : List A) × (l ≡ lines_from i line xs) × AllByRecursion good xs) s w
  unfolding read_many
  many_ends i [] w e = err_ok w ([], []) (sym e)
  many_ends i (f ∷ s) w e = go (many_ends (suc i) s w) (taken i f) refl e
    where
      go : (read_many taken (suc i) s ≡ Err w → Ends (λ l. (xs : List A) × (l ≡ lines_from (suc i) line xs) × AllByRecursion good xs) s w)
          → (o : Taken A) → taken i f ≡ o → go_on (read_many taken (suc i) s) f s o ≡ Err w → Ends (λ l. (xs : List A) × (l ≡ lines_from i line xs) × AllByRecursion good xs) (f ∷ s) w
      go more None read same =
          let (there, content) = bad i f read in
          at_wrong {A = List A} _ (f ∷ s) _ w same (record {
            done = [];
            stands = f ∷ s;
            may = line i none ∷ [];
            split = refl;
            left = refl;
            end = (none ∷ [], refl, (right, tt));
            why = record { own = f; other = line i none; after = s; more = []; first = refl; instead = refl; place = there; content = content };
          })
      go more (Some None) read same = err_ok w ([], f ∷ s) (sym same)
      go more (Some (Some y)) read same =
          let (one, good_one) = sound i f y read in
          after_read _ (f ∷ s) (line i y ∷ []) s w (ap (λ z. z ∷ s) one)
          (ends_weaker _ _ s w (more (mapped_err (with_first y) (read_many taken (suc i) s) w same)) (λ l h. (y ∷ h.0, ap (λ z. line i y ∷ z) h.1, (good_one, h.2))))

-- items that have what their numbers ask
pub fill : {A : Type 0} (good : ℕ → A → Type 0) (m : ℕ) → ((i : ℕ) → i < m → (x : A) × good i x) → (i n : ℕ) → i + n ≤ m → (xs : List A) × (length xs ≡ n) × EachFrom i good xs
fill good m some i zero fits = ([], refl, tt)
fill good m some i (suc n) fits =
    let (x, right) = some i (omega (arith, fits)) in
    let (xs, count, each) = fill good m some (suc i) n (omega (arith, fits)) in
    (x ∷ xs, ap suc count, (right, each))

-- numbered items
module _ {A : Type 0} (item : ℕ → List Fact → Read Fact A) (facts : ℕ → A → List Fact) (good : ℕ → A → Type 0) (m : ℕ) (some : (i : ℕ) → i < m → (x : A) × good i x) where
  module _ (sound : (i : ℕ) (s t : List Fact) (x : A) → item i s ≡ Ok (x, t) → (s ≡ facts i x ++ t) × good i x)
      (ends : (i : ℕ) (s : List Fact) (w : Wrong) → i < m → item i s ≡ Err w → Ends (λ l. (x : A) × (l ≡ facts i x) × good i x) s w) where
    pub each_ends : (i n : ℕ) (s : List Fact) (w : Wrong) → i + n ≤ m → read_each item i n s ≡ Err w
        → Ends (λ l. (xs : List A) × (l ≡ facts_from i facts xs) × (length xs ≡ n) × EachFrom i good xs) s w
    unfolding read_each
    each_ends i zero s w fits e = err_ok w ([], s) (sym e)
    each_ends i (suc n) s w fits e =
        bound_err (λ p. result_map (with_first p.0) (read_each item (suc i) n p.1)) (item i s) w e
        (λ first.
        let (xs, count, each) = fill good m some (suc i) n (omega (arith, fits)) in
        ends_more _ _ (facts_from (suc i) facts xs) s w (ends i s w (omega (arith, fits)) first) (λ l h. (h.0 ∷ xs, ap (λ z. z ++ facts_from (suc i) facts xs) h.1, ap suc count, (h.2, each))))
        (λ p read more.
        let (one, right) = sound i s p.1 p.0 read in
        after_read _ s (facts i p.0) p.1 w one
        (ends_weaker _ _ p.1 w (each_ends (suc i) n p.1 w (omega (arith, fits)) (mapped_err (with_first p.0) (read_each item (suc i) n p.1) w more))
        (λ l h. (p.0 ∷ h.0, ap (λ z. facts i p.0 ++ z) h.1, ap suc h.2, (right, h.3)))))

-- a stated number of facts of one kind
module _ {A : Type 0} (taken : ℕ → Fact → Taken A) (line : ℕ → A → Fact) (good : A → Type 0) (sound : IsTaken taken line good) (none : A) (right : good none)
    (bad : (i : ℕ) (f : Fact) → taken i f ≡ None → HaveOnePlace f (line i none) × (content_fault f ≡ reason.Shape)) where
  pub counted_ends : (n : ℕ) (s : List Fact) (w : Wrong) → read_each (read_next taken) 0 n s ≡ Err w
      → Ends (λ l. (xs : List A) × (l ≡ lines_from 0 line xs) × (length xs ≡ n) × EachFrom 0 (λ _. good) xs) s w
  counted_ends n s w e =
      each_ends (read_next taken) (λ i x. line i x ∷ []) (λ _. good) n (λ i below. (none, right)) (λ i s t x read. next_sound taken line good sound i s t x read)
      (λ i s w below fails. next_ends taken line good sound none right bad i s w fails) 0 n s w (omega arith) e

-- contents of zeros
pub zeros : ℕ → List ℤ
zeros zero = []
zeros (suc n) = pos 0 ∷ zeros n

pub many_zeros : (n : ℕ) → length (zeros n) ≡ n
unfolding zeros
many_zeros zero = refl
many_zeros (suc n) = ap suc (many_zeros n)

pub zero_amount : IsAmount (pos 0)
zero_amount = amount_is (pos 0) refl

pub zeros_amounts : (n : ℕ) → AreAmounts (zeros n)
unfolding zeros
zeros_amounts zero = tt
zeros_amounts (suc n) = (zero_amount, zeros_amounts n)

any_cells : ℕ → List Cell
any_cells zero = []
any_cells (suc n) = side.Any ∷ any_cells n

many_cells : (n : ℕ) → HasWidth n (any_cells n)
unfolding any_cells
many_cells zero = refl
many_cells (suc n) = ap suc (many_cells n)

abbrev no_row : ℕ → Row
no_row n = record { constant = pos 0; coeffs = zeros n }

no_row_right : (n : ℕ) → IsSizeRow n (no_row n)
unfolding zeros
no_row_right n = (many_zeros n, entries_are (pos 0 ∷ zeros n) (all n))
  where
    all : (k : ℕ) → are_entries (pos 0 ∷ zeros k) ≡ true
    all zero = refl
    all (suc k) = all k

abbrev no_multipliers : ℕ → Multipliers
no_multipliers rows = record { scale = pos 0; list = zeros rows }

no_multipliers_right : (rows : ℕ) → HaveMultipliers rows (no_multipliers rows)
no_multipliers_right rows = (many_zeros rows, zero_amount, zeros_amounts rows)

abbrev no_level : ℕ → LevelPart
no_level n = record { coeffs = zeros n; offset = pos 0 }

no_level_right : (n : ℕ) → IsLevel n (no_level n)
no_level_right n = (many_zeros n, zeros_amounts n, zero_amount)

-- a fact with wrong contents has the place of one with right ones
pub missed : {A : Type 0} {C : Type 0} (o : Taken A) → o ≡ Some None → o ≡ None → C
missed o other bad = let e : Some None ≡ None = sym other ∙ bad in absurd (cc e)

pub bad_place : {A : Type 0} (at : Bool) (o : Taken A) → at_place at o ≡ None → at ≡ true
bad_place true o e = refl
bad_place false o e = absurd (cc e)

-- a wrong fact has this place
abbrev pub IsBadAt : Fact → Fact → Type 0
IsBadAt f g = HaveOnePlace f g × (content_fault f ≡ reason.Shape)

modes_bad : (pred : PredText) (x : List (List ℕ)) (i : ℕ) (f : Fact) → take_modes pred i f ≡ None → IsBadAt f (fact.Terminates pred x)
unfolding shared_modes
modes_bad pred x i f e = go (split_modes f)
  where
    go : ((q : PredText) (j : ℕ) → take_modes q j f ≡ Some None) ⊎ IsTerminates f → IsBadAt f (fact.Terminates pred x)
    go (inl none) = missed _ (none pred i) e
    go (inr (q, modes, is)) =
        let at = bad_place (same_pred q pred) (kept (list_all (is_mode pred.arity 0) modes) modes) (rw is at e) in
        let full : f ≡ fact.Terminates pred modes = rw (is, same_is q pred at) refl in
        subst (λ z. IsBadAt z (fact.Terminates pred x)) (sym full) (place.modes, refl)

row_bad : (pred : PredText) (x : Row) (i : ℕ) (f : Fact) → take_row pred i f ≡ None → IsBadAt f (size_line pred i x)
unfolding shared_row
row_bad pred x i f e = go (split_row f)
  where
    go : ((q : PredText) (j : ℕ) → take_row q j f ≡ Some None) ⊎ IsSize f → IsBadAt f (size_line pred i x)
    go (inl none) = missed _ (none pred i) e
    go (inr (q, index, row, is)) =
        let at = bad_place (same_pred q pred && (index == suc i)) (row_read pred.arity row) (rw is at e) in
        let (same, number) = and_parts (same_pred q pred) (index == suc i) at in
        let full : f ≡ fact.Size pred (suc i) row = rw (is, same_is q pred same, eqb-true index (suc i) number) refl in
        subst (λ z. IsBadAt z (size_line pred i x)) (sym full) (place.row, refl)

proof_bad : (k rows : ℕ) (x : Multipliers) (i : ℕ) (f : Fact) → take_proof k rows i f ≡ None → IsBadAt f (by_line k i x)
unfolding shared_proof
proof_bad k rows x i f e = go (split_proof f)
  where
    go : ((k rows j : ℕ) → take_proof k rows j f ≡ Some None) ⊎ IsBy f → IsBadAt f (by_line k i x)
    go (inl none) = missed _ (none k rows i) e
    go (inr (clause, index, scale, list, is)) =
        let at = bad_place ((clause == suc k) && (index == suc i)) (multipliers_read rows scale list) (rw is at e) in
        let (same, number) = and_parts (clause == suc k) (index == suc i) at in
        let full : f ≡ fact.By (suc k) (suc i) scale list = rw (is, eqb-true clause (suc k) same, eqb-true index (suc i) number) refl in
        subst (λ z. IsBadAt z (by_line k i x)) (sym full) (place.proof, refl)

ground_bad : (pred : PredText) (x : List Cell) (i : ℕ) (f : Fact) → take_ground pred i f ≡ None → IsBadAt f (grounds_line pred i x)
unfolding shared_ground
ground_bad pred x i f e = go (split_ground f)
  where
    go : ((q : PredText) (j : ℕ) → take_ground q j f ≡ Some None) ⊎ IsGrounds f → IsBadAt f (grounds_line pred i x)
    go (inl none) = missed _ (none pred i) e
    go (inr (q, index, cells, is)) =
        let at = bad_place (same_pred q pred && (index == suc i)) (cube_read pred.arity cells) (rw is at e) in
        let (same, number) = and_parts (same_pred q pred) (index == suc i) at in
        let full : f ≡ fact.Grounds pred (suc i) cells = rw (is, same_is q pred same, eqb-true index (suc i) number) refl in
        subst (λ z. IsBadAt z (grounds_line pred i x)) (sym full) (place.grounds, refl)

level_bad : (pred : PredText) (x : LevelPart) (i : ℕ) (f : Fact) → take_level pred i f ≡ None → IsBadAt f (measure_line pred i x)
unfolding take_level
level_bad pred x i f e = go (split_level f)
  where
    go : ((q : PredText) (j : ℕ) → take_level q j f ≡ Some None) ⊎ IsMeasure f → IsBadAt f (measure_line pred i x)
    go (inl none) = missed _ (none pred i) e
    go (inr (q, mapping, coeffs, offset, is)) =
        let at = bad_place (same_pred q pred && (mapping == suc i)) (level_read pred.arity coeffs offset) (rw is at e) in
        let (same, number) = and_parts (same_pred q pred) (mapping == suc i) at in
        let full : f ≡ fact.Measure pred (suc i) coeffs offset = rw (is, same_is q pred same, eqb-true mapping (suc i) number) refl in
        subst (λ z. IsBadAt z (measure_line pred i x)) (sym full) (place.level, refl)

fall_bad : (k j rows : ℕ) (x : Multipliers) (m : ℕ) (f : Fact) → take_fall k j rows m f ≡ None → IsBadAt f (falls_line k j m x)
unfolding take_fall
fall_bad k j rows x m f e = go (split_fall f)
  where
    go : ((k j rows m : ℕ) → take_fall k j rows m f ≡ Some None) ⊎ IsFalls f → IsBadAt f (falls_line k j m x)
    go (inl none) = missed _ (none k j rows m) e
    go (inr (clause, call, mapping, scale, list, is)) =
        let at = bad_place ((clause == suc k) && ((call == suc j) && (mapping == suc m))) (multipliers_read rows scale list) (rw is at e) in
        let (one, more) = and_parts (clause == suc k) ((call == suc j) && (mapping == suc m)) at in
        let (two, three) = and_parts (call == suc j) (mapping == suc m) more in
        let full : f ≡ fact.Falls (suc k) (suc j) (suc m) scale list = rw (is, eqb-true clause (suc k) one, eqb-true call (suc j) two, eqb-true mapping (suc m) three) refl in
        subst (λ z. IsBadAt z (falls_line k j m x)) (sym full) (place.fall, refl)

pre_bad : (pred : PredText) (m : ℕ) (x : List Cell) (i : ℕ) (f : Fact) → take_pre pred m i f ≡ None → IsBadAt f (pre_line pred m i x)
unfolding shared_pre
pre_bad pred m x i f e = go (split_pre f)
  where
    go : ((q : PredText) (m j : ℕ) → take_pre q m j f ≡ Some None) ⊎ IsPre f → IsBadAt f (pre_line pred m i x)
    go (inl none) = missed _ (none pred m i) e
    go (inr (q, mapping, index, cells, is)) =
        let at = bad_place (same_pred q pred && ((mapping == suc m) && (index == suc i))) (cube_read pred.arity cells) (rw is at e) in
        let (same, more) = and_parts (same_pred q pred) ((mapping == suc m) && (index == suc i)) at in
        let (two, number) = and_parts (mapping == suc m) (index == suc i) more in
        let full : f ≡ fact.Pre pred (suc m) (suc i) cells = rw (is, same_is q pred same, eqb-true mapping (suc m) two, eqb-true index (suc i) number) refl in
        subst (λ z. IsBadAt z (pre_line pred m i x)) (sym full) (place.pre, refl)

-- the levels of a predicate
module _ (p : Listing) (names : List (List ℕ)) (comps : Partition) where
  abbrev lines_of : ℕ → List LevelPart → List Fact
  lines_of a ls = lines_from 0 (measure_line (pred_text p names a)) ls

  abbrev IsLevelOf : List (List LevelPart) → ℕ → List Fact → Type 0
  IsLevelOf earlier a l = (x : List LevelPart) × (l ≡ lines_from 0 (measure_line (pred_text p names a)) x) × AllByRecursion (IsLevel (arity_in p a)) x × IsCounted p names comps earlier a x

  level_fill : (earlier : List (List LevelPart)) (a : ℕ) → (x : List LevelPart) × AllByRecursion (IsLevel (arity_in p a)) x × IsCounted p names comps earlier a x
  level_fill earlier a = go (is_recursive comps a) (first_of comps a == a) refl refl
    where
      some : (n : ℕ) → (x : List LevelPart) × (length x ≡ n) × EachFrom 0 (λ _. IsLevel (arity_in p a)) x
      some n = fill (λ _. IsLevel (arity_in p a)) n (λ i below. (no_level (arity_in p a), no_level_right (arity_in p a))) 0 n (omega arith)

      go : (b c : Bool) → is_recursive comps a ≡ b → (first_of comps a == a) ≡ c → (x : List LevelPart) × AllByRecursion (IsLevel (arity_in p a)) x × IsCounted p names comps earlier a x
      go true true recursive first = ([], tt, inr (inl (recursive, eqb-true (first_of comps a) a first)))
      go true false recursive first =
          let (x, count, each) = some (length (items_of earlier (first_of comps a))) in
          (x, each_all _ 0 x each, inr (inr (recursive, (λ same. false≢true (sym first ∙ eq-eqb (first_of comps a) a same)), count)))
      go false c recursive first = let (x, count, each) = some 1 in (x, each_all _ 0 x each, inl (recursive, count))

  level_ends : (earlier : List (List LevelPart)) (a : ℕ) (s : List Fact) (w : Wrong) → read_level p names comps earlier a s ≡ Err w → Ends (IsLevelOf earlier a) s w
  unfolding read_level
  level_ends earlier a s w e = go (is_recursive comps a) (first_of comps a == a) refl refl e
    where
      pred : PredText
      pred = pred_text p names a

      right : (x : List LevelPart) → AllByRecursion (IsLevel (pred_text p names a).arity) x → AllByRecursion (IsLevel (arity_in p a)) x
      right x h = subst (λ n. AllByRecursion (IsLevel n) x) (arity_text p names a) h

      counted : (n : ℕ) → read_each (read_next (take_level (pred_text p names a))) 0 n s ≡ Err w
          → Ends (λ l. (xs : List LevelPart) × (l ≡ lines_from 0 (measure_line (pred_text p names a)) xs) × (length xs ≡ n) × EachFrom 0 (λ _. IsLevel (pred_text p names a).arity) xs) s w
      counted n fails =
          counted_ends (take_level (pred_text p names a)) (measure_line (pred_text p names a)) (IsLevel (pred_text p names a).arity) (level_taken (pred_text p names a)) (no_level (pred_text p names a).arity)
          (no_level_right (pred_text p names a).arity) (level_bad (pred_text p names a) (no_level (pred_text p names a).arity)) n s w fails

      go : (b c : Bool) → is_recursive comps a ≡ b → (first_of comps a == a) ≡ c
          → (if b
          then if c
          then read_many (take_level (pred_text p names a)) 0 s
          else read_each (read_next (take_level (pred_text p names a))) 0 (length (items_of earlier (first_of comps a))) s
          else read_each (read_next (take_level (pred_text p names a))) 0 1 s) ≡ Err w → Ends (IsLevelOf earlier a) s w
      go true true recursive first read =
          ends_weaker _ _ s w (many_ends (take_level (pred_text p names a)) (measure_line (pred_text p names a)) (IsLevel (pred_text p names a).arity) (level_taken (pred_text p names a)) (no_level (pred_text p names a).arity)
          (no_level_right (pred_text p names a).arity) (level_bad (pred_text p names a) (no_level (pred_text p names a).arity)) 0 s w read)
          (λ l h. (h.0, h.1, right h.0 h.2, inr (inl (recursive, eqb-true (first_of comps a) a first))))
      go true false recursive first read =
          ends_weaker _ _ s w (counted (length (items_of earlier (first_of comps a))) read)
          (λ l h. (h.0, h.1, right h.0 (each_all _ 0 h.0 h.3), inr (inr (recursive, (λ same. false≢true (sym first ∙ eq-eqb (first_of comps a) a same)), h.2))))
      go false c recursive first read =
          ends_weaker _ _ s w (counted 1 read) (λ l h. (h.0, h.1, right h.0 (each_all _ 0 h.0 h.3), inl (recursive, h.2)))

  module _ (first_le : (a : ℕ) → a < length p.preds → first_of comps a ≤ a) where
    -- levels of the predicates from a number on
    abbrev pub AreLevelsFrom : List (List LevelPart) → ℕ → ℕ → List (List LevelPart) → List (List LevelPart) → Type 0
    AreLevelsFrom earlier a n levels xs = (levels ≡ earlier ++ xs) × (length xs ≡ n) × EachFrom a (IsLevels p names comps first_le levels) xs

    one_level : (n : ℕ) (earlier : List (List LevelPart)) (a : ℕ) (x : List LevelPart) (levels ys : List (List LevelPart)) → a ≡ length earlier → a < length p.preds
        → AllByRecursion (IsLevel (arity_in p a)) x → IsCounted p names comps earlier a x → AreLevelsFrom (earlier ++ x ∷ []) (suc a) n levels ys → AreLevelsFrom earlier a (suc n) levels (x ∷ ys)
    one_level n earlier a x levels ys here below right counted h =
        let whole : levels ≡ earlier ++ x ∷ ys = h.0 ∙ append_assoc earlier (x ∷ []) ys in
        let mine : length x ≡ mappings_of comps levels a = count_is p names comps first_le earlier a x ys below here counted ∙ ap (λ ls. mappings_of comps ls a) (sym whole) in
        (whole, ap suc h.1, ((mine, right), h.2))

    pub levels_fill : (n : ℕ) (earlier : List (List LevelPart)) (a : ℕ) → a ≡ length earlier → a + n ≤ length p.preds → (levels : List (List LevelPart)) × (xs : List (List LevelPart)) × AreLevelsFrom earlier a n levels xs
    levels_fill zero earlier a here fits = (earlier, [], (sym (append-nil earlier), refl, tt))
    levels_fill (suc n) earlier a here fits =
        let (x, right, counted) = level_fill earlier a in
        let (levels, ys, h) = levels_fill n (earlier ++ x ∷ []) (suc a) (ap suc here ∙ sym (one_longer earlier x)) (omega (arith, fits)) in
        (levels, x ∷ ys, one_level n earlier a x levels ys here (omega (arith, fits)) right counted h)

    pub levels_ends : (n : ℕ) (earlier : List (List LevelPart)) (a : ℕ) (s : List Fact) (w : Wrong) → a ≡ length earlier → a + n ≤ length p.preds → read_levels p names comps earlier a n s ≡ Err w
        → Ends (λ l. (levels : List (List LevelPart)) × (xs : List (List LevelPart)) × (l ≡ facts_from a (λ a ls. lines_from 0 (measure_line (pred_text p names a)) ls) xs) × AreLevelsFrom earlier a n levels xs) s w
    unfolding read_levels
    levels_ends zero earlier a s w here fits e = err_ok w (earlier, s) (sym e)
    levels_ends (suc n) earlier a s w here fits e =
        bound_err (λ x. read_levels p names comps (earlier ++ x.0 ∷ []) (suc a) n x.1) (read_level p names comps earlier a s) w e
        (λ first.
        ends_weaker _ _ s w (ends_here first) (λ l h. h))
        (λ q read more.
        let (one, right, counted) = level_sound p names comps earlier a s q.1 q.0 read in
        after_read _ s (lines_of a q.0) q.1 w one
        (ends_weaker _ _ q.1 w (levels_ends n (earlier ++ q.0 ∷ []) (suc a) q.1 w (ap suc here ∙ sym (one_longer earlier q.0)) (omega (arith, fits)) more)
        (λ l h. (h.0, q.0 ∷ h.1, ap (λ z. lines_of a q.0 ++ z) h.2, one_level n earlier a q.0 h.0 h.1 here (omega (arith, fits)) right counted h.3))))
      where
        ends_here : read_level p names comps earlier a s ≡ Err w
            → Ends (λ l. (levels : List (List LevelPart)) × (xs : List (List LevelPart)) × (l ≡ facts_from a (λ a ls. lines_from 0 (measure_line (pred_text p names a)) ls) xs) × AreLevelsFrom earlier a (suc n) levels xs) s w
        ends_here first =
            let b = level_ends earlier a s w first in
            let (x, is, right, counted) = b.end in
            let (levels, ys, h) = levels_fill n (earlier ++ x ∷ []) (suc a) (ap suc here ∙ sym (one_longer earlier x)) (omega (arith, fits)) in
            let later = facts_from (suc a) (λ a ls. lines_from 0 (measure_line (pred_text p names a)) ls) ys in
            record {
              done = b.done;
              stands = b.stands;
              may = b.may ++ facts_from (suc a) (λ a ls. lines_from 0 (measure_line (pred_text p names a)) ls) ys;
              split = b.split;
              left = b.left;
              end = (
                levels,
                x ∷ ys,
                sym (append_assoc b.done b.may later) ∙ ap (λ z. z ++ facts_from (suc a) (λ a ls. lines_from 0 (measure_line (pred_text p names a)) ls) ys) is,
                one_level n earlier a x levels ys here (omega (arith, fits)) right counted h,
              );
              why = shows_more w.1 b.stands b.may later b.why;
            }

-- the proofs for the calls of a clause
module _ (comps : Partition) (rows : List Rows) (levels : List (List LevelPart)) (head k : ℕ) where
  abbrev call_lines : ℕ → List Multipliers → List Fact
  call_lines j ms = lines_from 0 (falls_line k j) ms

  -- the proofs for the calls from a number on
  abbrev pub AreCallsFrom : List Atom → ℕ → ℕ → List (List Multipliers) → Type 0
  AreCallsFrom body j n calls = (length calls ≡ n) × EachFrom j (IsCall comps rows levels head k body) calls

  one_call : (done bs body : List Atom) (b : Atom) (j before : ℕ) (ms : List Multipliers) → body ≡ done ++ b ∷ bs → j ≡ length done → before ≡ rows_of_atoms rows done
      → length ms ≡ proofs_of_call comps levels head (Some b) → EachFrom 0 (λ _. HaveMultipliers before) ms → IsCall comps rows levels head k body j ms
  one_call done bs body b j before ms whole here sum count each =
      let at : slice_get body j ≡ Some b = rw (whole, here) (place_behind done b bs) in
      let taken : take j body ≡ done = rw (whole, here) (front done (b ∷ bs)) in
      record { count = rw at count; each = rw (taken, ← sum) each }

  pub calls_fill : (bs done body : List Atom) (j before : ℕ) → body ≡ done ++ bs → j ≡ length done → before ≡ rows_of_atoms rows done → (calls : List (List Multipliers)) × AreCallsFrom body j (length bs) calls
  calls_fill [] done body j before whole here sum = ([], (refl, tt))
  calls_fill (b ∷ bs) done body j before whole here sum =
      let (ms, count, each) = fill (λ _. HaveMultipliers before) (proofs_of_call comps levels head (Some b)) (λ i below. (no_multipliers before, no_multipliers_right before)) 0
      (proofs_of_call comps levels head (Some b)) (omega arith) in
      let (calls, h) = calls_fill bs (done ++ b ∷ []) body (suc j) (before + rows_of rows b.pred.0) (whole ∙ sym (append_assoc done (b ∷ []) bs))
      (ap suc here ∙ sym (one_longer done b)) (ap (λ n. n + rows_of rows b.pred.0) sum ∙ sym (rows_more rows done b)) in
      (ms ∷ calls, (ap suc h.0, (one_call done bs body b j before ms whole here sum count each, h.1)))

  pub calls_ends : (bs done body : List Atom) (j before : ℕ) (s : List Fact) (w : Wrong) → body ≡ done ++ bs → j ≡ length done → before ≡ rows_of_atoms rows done
      → read_calls comps rows levels head k j before bs s ≡ Err w
      → Ends (λ l. (calls : List (List Multipliers)) × (l ≡ facts_from j (λ j ms. lines_from 0 (falls_line k j) ms) calls) × AreCallsFrom body j (length bs) calls) s w
  unfolding read_calls read_call
  calls_ends [] done body j before s w whole here sum e = err_ok w ([], s) (sym e)
  calls_ends (b ∷ bs) done body j before s w whole here sum e =
      bound_err (λ x. result_map (with_first x.0) (read_calls comps rows levels head k (suc j) (before + rows_of rows b.pred.0) bs x.1)) (read_call comps levels head k j before (Some b) s) w e
      (λ first.
      let (calls, h) = calls_fill bs (done ++ b ∷ []) body (suc j) (before + rows_of rows b.pred.0) whole' here' sum' in
      ends_more _ _ (facts_from (suc j) call_lines calls) s w
      (counted_ends (take_fall k j before) (falls_line k j) (HaveMultipliers before) (fall_taken k j before) (no_multipliers before) (no_multipliers_right before) (fall_bad k j before (no_multipliers before))
      (proofs_of_call comps levels head (Some b)) s w first)
      (λ l g. (g.0 ∷ calls, ap (λ z. z ++ facts_from (suc j) call_lines calls) g.1, (ap suc h.0, (one_call done bs body b j before g.0 whole here sum g.2 g.3, h.1)))))
      (λ q read more.
      let (one, count, all) = counted_sound (take_fall k j before) (falls_line k j) _ (fall_taken k j before) 0 (proofs_of_call comps levels head (Some b)) s q.1 q.0 read in
      after_read _ s (call_lines j q.0) q.1 w one
      (ends_weaker _ _ q.1 w (calls_ends bs (done ++ b ∷ []) body (suc j) (before + rows_of rows b.pred.0) q.1 w whole' here' sum'
      (mapped_err (with_first q.0) (read_calls comps rows levels head k (suc j) (before + rows_of rows b.pred.0) bs q.1) w more))
      (λ l g. (q.0 ∷ g.0, ap (λ z. call_lines j q.0 ++ z) g.1, (ap suc g.2.0, (one_call done bs body b j before q.0 whole here sum count all, g.2.1))))))
    where
      whole' : body ≡ (done ++ b ∷ []) ++ bs
      whole' = whole ∙ sym (append_assoc done (b ∷ []) bs)

      here' : suc j ≡ length (done ++ b ∷ [])
      here' = ap suc here ∙ sym (one_longer done b)

      sum' : before + rows_of rows b.pred.0 ≡ rows_of_atoms rows (done ++ b ∷ [])
      sum' = ap (λ n. n + rows_of rows b.pred.0) sum ∙ sym (rows_more rows done b)

-- the sections
module _ (p : Listing) (names : List (List ℕ)) where
  abbrev text : ℕ → PredText
  text a = pred_text p names a

  at_arity : (P : ℕ → Type 0) (a : ℕ) → P (pred_text p names a).arity → P (arity_in p a)
  at_arity P a h = subst P (arity_text p names a) h

  abbrev pub AreModes : List (List (List ℕ)) → Type 0
  AreModes xs = AreEach (length p.preds) (λ a. AllByRecursion (IsMode (arity_in p a))) xs

  pub modes_fill : (xs : List (List (List ℕ))) × AreModes xs
  modes_fill =
      let (xs, count, each) = fill (λ a ms. AllByRecursion (IsMode (arity_in p a)) ms) (length p.preds) (λ a below. ([], tt)) 0 (length p.preds) (omega arith) in
      (xs, record { count = count; each = each })

  modes_item : (a : ℕ) (s t : List Fact) (x : List (List ℕ)) → read_modes p names a s ≡ Ok (x, t) → (s ≡ (fact.Terminates (pred_text p names a) x ∷ []) ++ t) × AllByRecursion (IsMode (arity_in p a)) x
  unfolding modes_by
  modes_item a s t x read =
      let (one, right) = next_sound (take_modes (text a)) (λ _ ms. fact.Terminates (text a) ms) _ (modes_taken (text a)) 0 s t x read in
      (one, at_arity (λ n. AllByRecursion (IsMode n) x) a right)

  pub modes_ends : (s : List Fact) (w : Wrong) → read_each (read_modes p names) 0 (length p.preds) s ≡ Err w → Ends (λ l. (xs : List (List (List ℕ))) × (l ≡ mode_facts p names xs) × AreModes xs) s w
  unfolding modes_by
  modes_ends s w e =
      ends_weaker _ _ s w (each_ends (read_modes p names) (λ a ms. fact.Terminates (pred_text p names a) ms ∷ []) (λ a ms. AllByRecursion (IsMode (arity_in p a)) ms) (length p.preds) (λ a below. ([], tt)) modes_item
      (λ a s w below fails. item a s w fails) 0 (length p.preds) s w (omega arith) e)
      (λ l h. (h.0, h.1, record { count = h.2; each = h.3 }))
    where
      item : (a : ℕ) (s : List Fact) (w : Wrong) → read_modes p names a s ≡ Err w
          → Ends (λ l. (x : List (List ℕ)) × (l ≡ fact.Terminates (pred_text p names a) x ∷ []) × AllByRecursion (IsMode (arity_in p a)) x) s w
      item a s w fails =
          ends_weaker _ _ s w (next_ends (take_modes (text a)) (λ _ ms. fact.Terminates (text a) ms) (AllByRecursion (IsMode (text a).arity)) (modes_taken (text a)) [] tt (λ i f bad. modes_bad (text a) [] i f bad) 0 s w fails)
          (λ l h. (h.0, h.1, at_arity (λ n. AllByRecursion (IsMode n) h.0) a h.2))

  abbrev pub AreRows : List Rows → Type 0
  AreRows xs = AreEach (length p.preds) (λ a r. (r.width ≡ arity_in p a) × AllByRecursion (IsSizeRow (arity_in p a)) r.list) xs

  abbrev no_rows : ℕ → Rows
  no_rows a = record { width = arity_in p a; list = [] }

  pub rows_fill : (xs : List Rows) × AreRows xs
  rows_fill =
      let (xs, count, each) = fill (λ a r. (r.width ≡ arity_in p a) × AllByRecursion (IsSizeRow (arity_in p a)) r.list) (length p.preds) (λ a below. (no_rows a, (refl, tt))) 0
      (length p.preds) (omega arith) in
      (xs, record { count = count; each = each })

  pub rows_ends : (s : List Fact) (w : Wrong) → read_each (read_rows p names) 0 (length p.preds) s ≡ Err w → Ends (λ l. (xs : List Rows) × (l ≡ size_facts p names xs) × AreRows xs) s w
  unfolding rows_by
  rows_ends s w e =
      ends_weaker _ _ s w (each_ends (read_rows p names) (λ a r. lines_from 0 (size_line (pred_text p names a)) r.list) (λ a r. (r.width ≡ arity_in p a) × AllByRecursion (IsSizeRow (arity_in p a)) r.list) (length p.preds)
      (λ a below. (no_rows a, (refl, tt))) sound (λ a s w below fails. item a s w fails) 0 (length p.preds) s w (omega arith) e)
      (λ l h. (h.0, h.1, record { count = h.2; each = h.3 }))
    where
      with_width : ℕ → List Row × List Fact → Rows × List Fact
      with_width a x = (record { width = arity_in p a; list = x.0 }, x.1)

      sound : (a : ℕ) (s t : List Fact) (x : Rows) → read_rows p names a s ≡ Ok (x, t)
          → (s ≡ lines_from 0 (size_line (pred_text p names a)) x.list ++ t) × ((x.width ≡ arity_in p a) × AllByRecursion (IsSizeRow (arity_in p a)) x.list)
      sound a s t x read =
          mapped (with_width a) (read_many (take_row (text a)) 0 s) (x, t) read λ q here both.
          let (one, right) = many_sound (take_row (text a)) (size_line (text a)) _ (row_taken (text a)) 0 s q.1 q.0 here in
          let first : record { width = arity_in p a; list = q.0 } ≡ x = ap (λ r. r.0) both in
          let rest : q.1 ≡ t = ap (λ r. r.1) both in
          rw (← first, ← rest) (one, (refl, at_arity (λ n. AllByRecursion (IsSizeRow n) q.0) a right))

      item : (a : ℕ) (s : List Fact) (w : Wrong) → read_rows p names a s ≡ Err w
          → Ends (λ l. (x : Rows) × (l ≡ lines_from 0 (size_line (pred_text p names a)) x.list) × ((x.width ≡ arity_in p a) × AllByRecursion (IsSizeRow (arity_in p a)) x.list)) s w
      item a s w fails =
          ends_weaker _ _ s w (many_ends (take_row (text a)) (size_line (text a)) (IsSizeRow (text a).arity) (row_taken (text a)) (no_row (text a).arity) (no_row_right (text a).arity) (row_bad (text a) (no_row (text a).arity)) 0 s w
          (mapped_err (with_width a) (read_many (take_row (text a)) 0 s) w fails))
          (λ l h. (record { width = arity_in p a; list = h.0 }, h.1, (refl, at_arity (λ n. AllByRecursion (IsSizeRow n) h.0) a h.2)))

  abbrev pub AreGrounds : List (List (List Cell)) → Type 0
  AreGrounds xs = AreEach (length p.preds) (λ a. AllByRecursion (HasWidth (arity_in p a))) xs

  pub grounds_fill : (xs : List (List (List Cell))) × AreGrounds xs
  grounds_fill =
      let (xs, count, each) = fill (λ a cs. AllByRecursion (HasWidth (arity_in p a)) cs) (length p.preds) (λ a below. ([], tt)) 0 (length p.preds) (omega arith) in
      (xs, record { count = count; each = each })

  pub grounds_ends : (s : List Fact) (w : Wrong) → read_each (read_grounds p names) 0 (length p.preds) s ≡ Err w → Ends (λ l. (xs : List (List (List Cell))) × (l ≡ ground_facts p names xs) × AreGrounds xs) s w
  unfolding grounds_by
  grounds_ends s w e =
      ends_weaker _ _ s w (each_ends (read_grounds p names) (λ a cs. lines_from 0 (grounds_line (pred_text p names a)) cs) (λ a cs. AllByRecursion (HasWidth (arity_in p a)) cs) (length p.preds) (λ a below. ([], tt)) sound
      (λ a s w below fails. item a s w fails) 0 (length p.preds) s w (omega arith) e)
      (λ l h. (h.0, h.1, record { count = h.2; each = h.3 }))
    where
      sound : (a : ℕ) (s t : List Fact) (x : List (List Cell)) → read_grounds p names a s ≡ Ok (x, t) → (s ≡ lines_from 0 (grounds_line (pred_text p names a)) x ++ t) × AllByRecursion (HasWidth (arity_in p a)) x
      sound a s t x read =
          let (one, right) = many_sound (take_ground (text a)) (grounds_line (text a)) _ (ground_taken (text a)) 0 s t x read in
          (one, at_arity (λ n. AllByRecursion (HasWidth n) x) a right)

      item : (a : ℕ) (s : List Fact) (w : Wrong) → read_grounds p names a s ≡ Err w
          → Ends (λ l. (x : List (List Cell)) × (l ≡ lines_from 0 (grounds_line (pred_text p names a)) x) × AllByRecursion (HasWidth (arity_in p a)) x) s w
      item a s w fails =
          ends_weaker _ _ s w (many_ends (take_ground (text a)) (grounds_line (text a)) (HasWidth (text a).arity) (ground_taken (text a)) (any_cells (text a).arity) (many_cells (text a).arity)
          (ground_bad (text a) (any_cells (text a).arity)) 0 s w fails)
          (λ l h. (h.0, h.1, at_arity (λ n. AllByRecursion (HasWidth n) h.0) a h.2))

  module _ (levels : List (List LevelPart)) where
    abbrev pub AreCubes : List (List (List (List Cell))) → Type 0
    AreCubes xs = AreEach (length p.preds) (λ a. AreEach (length (items_of levels a)) (λ _. AllByRecursion (HasWidth (arity_in p a)))) xs

    one_cubes : (a : ℕ) → (x : List (List (List Cell))) × AreEach (length (items_of levels a)) (λ _. AllByRecursion (HasWidth (arity_in p a))) x
    one_cubes a =
        let (xs, count, each) = fill (λ _ cs. AllByRecursion (HasWidth (arity_in p a)) cs) (length (items_of levels a)) (λ m below. ([], tt)) 0 (length (items_of levels a)) (omega arith) in
        (xs, record { count = count; each = each })

    pub cubes_fill : (xs : List (List (List (List Cell)))) × AreCubes xs
    cubes_fill =
        let (xs, count, each) = fill (λ a ms. AreEach (length (items_of levels a)) (λ _. AllByRecursion (HasWidth (arity_in p a))) ms) (length p.preds) (λ a below. one_cubes a) 0
        (length p.preds) (omega arith) in
        (xs, record { count = count; each = each })

    pub cubes_ends : (s : List Fact) (w : Wrong) → read_each (read_pre p names levels) 0 (length p.preds) s ≡ Err w → Ends (λ l. (xs : List (List (List (List Cell)))) × (l ≡ pre_facts p names xs) × AreCubes xs) s w
    unfolding pre_by cubes_by
    cubes_ends s w e =
        ends_weaker _ _ s w (each_ends (read_pre p names levels) (λ a ms. facts_from 0 (λ m cs. lines_from 0 (pre_line (pred_text p names a) m) cs) ms) (λ a ms. AreEach (length (items_of levels a)) (λ _. AllByRecursion (HasWidth (arity_in p a))) ms)
        (length p.preds) (λ a below. one_cubes a) (λ a s t x read. cubes_section p names levels a s t x read) (λ a s w below fails. item a s w fails) 0 (length p.preds) s w (omega arith) e)
        (λ l h. (h.0, h.1, record { count = h.2; each = h.3 }))
      where
        item : (a : ℕ) (s : List Fact) (w : Wrong) → read_pre p names levels a s ≡ Err w
            → Ends (λ l. (x : List (List (List Cell))) × (l ≡ facts_from 0 (λ m cs. lines_from 0 (pre_line (pred_text p names a) m) cs) x) × AreEach (length (items_of levels a)) (λ _. AllByRecursion (HasWidth (arity_in p a))) x) s w
        item a s w fails =
            ends_weaker _ _ s w (each_ends (read_cubes p names a) (λ m cs. lines_from 0 (pre_line (pred_text p names a) m) cs) (λ m cs. AllByRecursion (HasWidth (arity_in p a)) cs) (length (items_of levels a)) (λ m below. ([], tt))
            (λ m s t x read.
            let (one, right) = many_sound (take_pre (text a) m) (pre_line (text a) m) _ (pre_taken (text a) m) 0 s t x read in
            (one, at_arity (λ n. AllByRecursion (HasWidth n) x) a right))
            (λ m s w below fails.
            ends_weaker _ _ s w (many_ends (take_pre (text a) m) (pre_line (text a) m) (HasWidth (text a).arity) (pre_taken (text a) m) (any_cells (text a).arity) (many_cells (text a).arity)
            (pre_bad (text a) m (any_cells (text a).arity)) 0 s w fails)
            (λ l h. (h.0, h.1, at_arity (λ n. AllByRecursion (HasWidth n) h.0) a h.2)))
            0 (length (items_of levels a)) s w (omega arith) fails)
            (λ l h. (h.0, h.1, record { count = h.2; each = h.3 }))

module _ (p : Listing) (rows : List Rows) where
  abbrev pub AreProofs : List (List Multipliers) → Type 0
  AreProofs xs = AreEach (length p.clauses) (λ k. AreEach (rows_of rows (head_of p k)) (λ _. HaveMultipliers (rows_of_atoms rows (body_of p k)))) xs

  one_proofs : (k : ℕ) → (x : List Multipliers) × AreEach (rows_of rows (head_of p k)) (λ _. HaveMultipliers (rows_of_atoms rows (body_of p k))) x
  one_proofs k =
      let (xs, count, each) = fill (λ _. HaveMultipliers (rows_of_atoms rows (body_of p k))) (rows_of rows (head_of p k))
      (λ i below. (no_multipliers (rows_of_atoms rows (body_of p k)), no_multipliers_right (rows_of_atoms rows (body_of p k)))) 0 (rows_of rows (head_of p k)) (omega arith) in
      (xs, record { count = count; each = each })

  pub proofs_fill : (xs : List (List Multipliers)) × AreProofs xs
  proofs_fill =
      let (xs, count, each) = fill (λ k ms. AreEach (rows_of rows (head_of p k)) (λ _. HaveMultipliers (rows_of_atoms rows (body_of p k))) ms) (length p.clauses) (λ k below. one_proofs k) 0
      (length p.clauses) (omega arith) in
      (xs, record { count = count; each = each })

  pub proofs_ends : (s : List Fact) (w : Wrong) → read_each (read_proofs p rows) 0 (length p.clauses) s ≡ Err w → Ends (λ l. (xs : List (List Multipliers)) × (l ≡ proof_facts xs) × AreProofs xs) s w
  unfolding proofs_by
  proofs_ends s w e =
      ends_weaker _ _ s w (each_ends (read_proofs p rows) (λ k ms. lines_from 0 (by_line k) ms) (λ k ms. AreEach (rows_of rows (head_of p k)) (λ _. HaveMultipliers (rows_of_atoms rows (body_of p k))) ms) (length p.clauses)
      (λ k below. one_proofs k) sound (λ k s w below fails. item k s w fails) 0 (length p.clauses) s w (omega arith) e)
      (λ l h. (h.0, h.1, record { count = h.2; each = h.3 }))
    where
      sound : (k : ℕ) (s t : List Fact) (x : List Multipliers) → read_proofs p rows k s ≡ Ok (x, t)
          → (s ≡ lines_from 0 (by_line k) x ++ t) × AreEach (rows_of rows (head_of p k)) (λ _. HaveMultipliers (rows_of_atoms rows (body_of p k))) x
      sound k s t x read =
          let (one, count, each) = counted_sound (take_proof k (rows_of_atoms rows (body_of p k))) (by_line k) _ (proof_taken k (rows_of_atoms rows (body_of p k))) 0 (rows_of rows (head_of p k)) s t x read in
          (one, record { count = count; each = each })

      item : (k : ℕ) (s : List Fact) (w : Wrong) → read_proofs p rows k s ≡ Err w
          → Ends (λ l. (x : List Multipliers) × (l ≡ lines_from 0 (by_line k) x) × AreEach (rows_of rows (head_of p k)) (λ _. HaveMultipliers (rows_of_atoms rows (body_of p k))) x) s w
      item k s w fails =
          ends_weaker _ _ s w (counted_ends (take_proof k (rows_of_atoms rows (body_of p k))) (by_line k) (HaveMultipliers (rows_of_atoms rows (body_of p k))) (proof_taken k (rows_of_atoms rows (body_of p k)))
          (no_multipliers (rows_of_atoms rows (body_of p k))) (no_multipliers_right (rows_of_atoms rows (body_of p k))) (proof_bad k (rows_of_atoms rows (body_of p k)) (no_multipliers (rows_of_atoms rows (body_of p k))))
          (rows_of rows (head_of p k)) s w fails)
          (λ l h. (h.0, h.1, record { count = h.2; each = h.3 }))

  module _ (comps : Partition) (levels : List (List LevelPart)) where
    abbrev IsFallsOf : ℕ → List (List Multipliers) → Type 0
    IsFallsOf k calls = AreEach (length (body_of p k)) (IsCall comps rows levels (head_of p k) k (body_of p k)) calls

    abbrev pub AreFalls : List (List (List Multipliers)) → Type 0
    AreFalls xs = AreEach (length p.clauses) IsFallsOf xs

    one_falls : (k : ℕ) → (x : List (List Multipliers)) × IsFallsOf k x
    one_falls k =
        let (calls, h) = calls_fill comps rows levels (head_of p k) k (body_of p k) [] (body_of p k) 0 0 refl refl refl in
        (calls, record { count = h.0; each = h.1 })

    pub falls_fill : (xs : List (List (List Multipliers))) × AreFalls xs
    falls_fill =
        let (xs, count, each) = fill IsFallsOf (length p.clauses) (λ k below. one_falls k) 0 (length p.clauses) (omega arith) in
        (xs, record { count = count; each = each })

    pub falls_ends : (s : List Fact) (w : Wrong) → read_each (read_falls p comps rows levels) 0 (length p.clauses) s ≡ Err w → Ends (λ l. (xs : List (List (List Multipliers))) × (l ≡ fall_facts xs) × AreFalls xs) s w
    unfolding read_falls
    falls_ends s w e =
        ends_weaker _ _ s w (each_ends (read_falls p comps rows levels) (λ k calls. facts_from 0 (λ j ms. lines_from 0 (falls_line k j) ms) calls) IsFallsOf (length p.clauses) (λ k below. one_falls k) sound
        (λ k s w below fails. item k s w fails) 0 (length p.clauses) s w (omega arith) e)
        (λ l h. (h.0, h.1, record { count = h.2; each = h.3 }))
      where
        sound : (k : ℕ) (s t : List Fact) (x : List (List Multipliers)) → read_falls p comps rows levels k s ≡ Ok (x, t) → (s ≡ facts_from 0 (λ j ms. lines_from 0 (falls_line k j) ms) x ++ t) × IsFallsOf k x
        sound k s t x read =
            let (one, count, each) = calls_sound comps rows levels (head_of p k) k (body_of p k) [] (body_of p k) 0 0 s t x refl refl refl read in
            (one, record { count = count; each = each })

        item : (k : ℕ) (s : List Fact) (w : Wrong) → read_falls p comps rows levels k s ≡ Err w → Ends (λ l. (x : List (List Multipliers)) × (l ≡ facts_from 0 (λ j ms. lines_from 0 (falls_line k j) ms) x) × IsFallsOf k x) s w
        item k s w fails =
            ends_weaker _ _ s w (calls_ends comps rows levels (head_of p k) k (body_of p k) [] (body_of p k) 0 0 s w refl refl refl fails)
            (λ l h. (h.0, h.1, record { count = h.2.0; each = h.2.1 }))
