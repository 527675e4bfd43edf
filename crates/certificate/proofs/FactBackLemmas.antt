-- Facts that are printed are read back.
use Rattle.std.proofs.Common.{◌≡◌, ℕ, List, [], ◌∷◌, ◌++◌, Some, refl, ap, ◌∙◌, inl, inr, append_assoc}
use Rattle.std.specs.Prelude.{ℤ, codes, decimal}
use Rattle.std.specs.Fmt.{signed_decimal}
use Rattle.std.specs.List.{AllByRecursion}
use Rattle.certificate.specs.declared.cell.CertCell.{CertCell}
use Rattle.certificate.specs.declared.how.CertHow.{CertHow}
use Rattle.certificate.specs.declared.norm.CertNorm.{CertNorm}
use Rattle.certificate.specs.declared.pred_text.PredText.{PredText}
use Rattle.certificate.specs.declared.fact.Fact.{Fact}
use Rattle.certificate.specs.declared.fact.Fact.TheVariants as fact
use Rattle.certificate.specs.Range.{IsPlace, IsIndex, IsEntry, IsPred, ArePlaces, AreEntries, InRange}
use Rattle.certificate.specs.Text.{indicator, list_text, numbers_text, positions_text, cell_text, cube_text, how_text, norm_text, fact_text}
use Rattle.certificate.specs.Parse.{Read, read_place, read_index, read_integer, read_cell, read_how, read_norm, read_pred, read_list, read_next, read_last, read_mark, read_other, read_any, HasParts, read_fact, read_cti_fact, read_norm_fact, read_terminates_fact, read_size_fact, read_by_fact, read_grounds_fact, read_measure_fact, read_falls_fact, read_pre_fact, read_refuted_fact, read_point_fact, read_at_fact, read_image_fact, read_step_fact, read_blown_fact, read_large_fact, read_weak_image_fact, read_weak_step_fact}
use Rattle.certificate.specs.Shortening.{place_shortens, integer_shortens, cell_shortens, list_shortens}
use Rattle.certificate.proofs.BackLemmas.{IsReadBack, place_back, index_back, entry_back, cell_back, how_back, norm_back, list_back, place_not_closed, entry_not_closed, cell_not_closed, list_not_closed}
use Rattle.certificate.proofs.NameBackLemmas.{pred_back}
use Rattle.certificate.proofs.RangeLemmas.{has_parts, amounts_hold}

next_back : {A : Type 0} (shown : A → List ℕ) (reads : List ℕ → Read A) (fits : A → Type 0) → IsReadBack shown reads fits → (x : A) (s : List ℕ) → fits x
    → read_next reads (shown x ++ 44 ∷ s) ≡ Some (x, s)
next_back shown reads fits back x s h = rw (back x 44 s h (inl refl)) refl

last_back : {A : Type 0} (shown : A → List ℕ) (reads : List ℕ → Read A) (fits : A → Type 0) → IsReadBack shown reads fits → (x : A) (s : List ℕ) → fits x
    → read_last reads (shown x ++ 41 ∷ 46 ∷ 10 ∷ s) ≡ Some (x, s)
last_back shown reads fits back x s h = rw (back x 41 (46 ∷ 10 ∷ s) h (inr (inl refl))) refl

entries_back : IsReadBack numbers_text (read_list read_integer) AreEntries
entries_back = list_back signed_decimal read_integer IsEntry integer_shortens entry_back entry_not_closed

rows_back : IsReadBack (list_text numbers_text) (read_list (read_list read_integer)) (AllByRecursion AreEntries)
rows_back = list_back numbers_text (read_list read_integer) AreEntries (list_shortens read_integer integer_shortens) entries_back (λ zs s h. list_not_closed signed_decimal zs s)

places_back : IsReadBack positions_text (read_list read_place) ArePlaces
places_back = list_back decimal read_place IsPlace place_shortens place_back place_not_closed

places_lists_back : IsReadBack (list_text positions_text) (read_list (read_list read_place)) (AllByRecursion ArePlaces)
places_lists_back = list_back positions_text (read_list read_place) ArePlaces (list_shortens read_place place_shortens) places_back (λ ns s h. list_not_closed decimal ns s)

each_cell : (cells : List CertCell) → AllByRecursion (λ (c : CertCell). Unit {0}) cells
each_cell [] = tt
each_cell (c ∷ cells) = (tt, each_cell cells)

cube_back : IsReadBack cube_text (read_list read_cell) (λ cells. Unit {0})
cube_back cells b s h mark = list_back cell_text read_cell (λ c. Unit {0}) cell_shortens cell_back cell_not_closed cells b s (each_cell cells) mark

cti_back : (version : ℤ) (s : List ℕ) → HasParts (fact.Cti version)
    → read_cti_fact (signed_decimal version ++ 41 ∷ 46 ∷ 10 ∷ s) ≡ Some (fact.Cti version, s)
unfolding read_cti_fact
cti_back version s h = rw (last_back signed_decimal read_integer IsEntry entry_back version s h) refl

norm_fact_back : (named : CertNorm) (s : List ℕ) → HasParts (fact.Norm named)
    → read_norm_fact (norm_text named ++ 41 ∷ 46 ∷ 10 ∷ s) ≡ Some (fact.Norm named, s)
unfolding read_norm_fact
norm_fact_back named s h = rw (last_back norm_text read_norm (λ n. Unit {0}) norm_back named s h) refl

terminates_back : (pred : PredText) (modes : List (List ℕ)) (s : List ℕ) → HasParts (fact.Terminates pred modes)
    → read_terminates_fact (indicator pred ++ 44 ∷ (list_text positions_text modes ++ 41 ∷ 46 ∷ 10 ∷ s)) ≡ Some (fact.Terminates pred modes, s)
unfolding read_terminates_fact
terminates_back pred modes s h = rw (next_back indicator read_pred IsPred pred_back pred _ h.0, last_back (list_text positions_text) (read_list (read_list read_place)) (AllByRecursion ArePlaces) places_lists_back modes s h.1) refl

size_back : (pred : PredText) (index : ℕ) (row : List ℤ) (s : List ℕ) → HasParts (fact.Size pred index row)
    → read_size_fact (indicator pred ++ 44 ∷ (decimal index ++ 44 ∷ (numbers_text row ++ 41 ∷ 46 ∷ 10 ∷ s))) ≡ Some (fact.Size pred index row, s)
unfolding read_size_fact
size_back pred index row s h = rw (next_back indicator read_pred IsPred pred_back pred _ h.0, next_back decimal read_index IsIndex index_back index _ h.1, last_back numbers_text (read_list read_integer) AreEntries entries_back row s h.2) refl

by_back : (clause : ℕ) (index : ℕ) (scale : ℤ) (multipliers : List ℤ) (s : List ℕ) → HasParts (fact.By clause index scale multipliers)
    → read_by_fact (decimal clause ++ 44 ∷ (decimal index ++ 44 ∷ (signed_decimal scale ++ 44 ∷ (numbers_text multipliers ++ 41 ∷ 46 ∷ 10 ∷ s)))) ≡ Some (fact.By clause index scale multipliers, s)
unfolding read_by_fact
by_back clause index scale multipliers s h = rw (next_back decimal read_place IsPlace place_back clause _ h.0, next_back decimal read_index IsIndex index_back index _ h.1, next_back signed_decimal read_integer IsEntry entry_back scale _ h.2, last_back numbers_text (read_list read_integer) AreEntries entries_back multipliers s h.3) refl

grounds_back : (pred : PredText) (index : ℕ) (cube : List CertCell) (s : List ℕ) → HasParts (fact.Grounds pred index cube)
    → read_grounds_fact (indicator pred ++ 44 ∷ (decimal index ++ 44 ∷ (cube_text cube ++ 41 ∷ 46 ∷ 10 ∷ s))) ≡ Some (fact.Grounds pred index cube, s)
unfolding read_grounds_fact
grounds_back pred index cube s h = rw (next_back indicator read_pred IsPred pred_back pred _ h.0, next_back decimal read_index IsIndex index_back index _ h.1, last_back cube_text (read_list read_cell) (λ cells. Unit {0}) cube_back cube s tt) refl

measure_back : (pred : PredText) (mapping : ℕ) (coeffs : List ℤ) (offset : ℤ) (s : List ℕ) → HasParts (fact.Measure pred mapping coeffs offset)
    → read_measure_fact (indicator pred ++ 44 ∷ (decimal mapping ++ 44 ∷ (numbers_text coeffs ++ 44 ∷ (signed_decimal offset ++ 41 ∷ 46 ∷ 10 ∷ s)))) ≡ Some (fact.Measure pred mapping coeffs offset, s)
unfolding read_measure_fact
measure_back pred mapping coeffs offset s h = rw (next_back indicator read_pred IsPred pred_back pred _ h.0, next_back decimal read_place IsPlace place_back mapping _ h.1, next_back numbers_text (read_list read_integer) AreEntries entries_back coeffs _ h.2, last_back signed_decimal read_integer IsEntry entry_back offset s h.3) refl

falls_back : (clause : ℕ) (call : ℕ) (mapping : ℕ) (scale : ℤ) (multipliers : List ℤ) (s : List ℕ) → HasParts (fact.Falls clause call mapping scale multipliers)
    → read_falls_fact (decimal clause ++ 44 ∷ (decimal call ++ 44 ∷ (decimal mapping ++ 44 ∷ (signed_decimal scale ++ 44 ∷ (numbers_text multipliers ++ 41 ∷ 46 ∷ 10 ∷ s))))) ≡ Some (fact.Falls clause call mapping scale multipliers, s)
unfolding read_falls_fact
falls_back clause call mapping scale multipliers s h = rw (next_back decimal read_place IsPlace place_back clause _ h.0, next_back decimal read_place IsPlace place_back call _ h.1, next_back decimal read_place IsPlace place_back mapping _ h.2, next_back signed_decimal read_integer IsEntry entry_back scale _ h.3, last_back numbers_text (read_list read_integer) AreEntries entries_back multipliers s h.4) refl

pre_back : (pred : PredText) (mapping : ℕ) (index : ℕ) (cube : List CertCell) (s : List ℕ) → HasParts (fact.Pre pred mapping index cube)
    → read_pre_fact (indicator pred ++ 44 ∷ (decimal mapping ++ 44 ∷ (decimal index ++ 44 ∷ (cube_text cube ++ 41 ∷ 46 ∷ 10 ∷ s)))) ≡ Some (fact.Pre pred mapping index cube, s)
unfolding read_pre_fact
pre_back pred mapping index cube s h = rw (next_back indicator read_pred IsPred pred_back pred _ h.0, next_back decimal read_place IsPlace place_back mapping _ h.1, next_back decimal read_index IsIndex index_back index _ h.2, last_back cube_text (read_list read_cell) (λ cells. Unit {0}) cube_back cube s tt) refl

refuted_back : (pred : PredText) (points : ℕ) (s : List ℕ) → HasParts (fact.Refuted pred points)
    → read_refuted_fact (indicator pred ++ 44 ∷ (decimal points ++ 41 ∷ 46 ∷ 10 ∷ s)) ≡ Some (fact.Refuted pred points, s)
unfolding read_refuted_fact
refuted_back pred points s h = rw (next_back indicator read_pred IsPred pred_back pred _ h.0, last_back decimal read_index IsIndex index_back points s h.1) refl

point_back : (clause : ℕ) (call : ℕ) (t : ℤ) (w : List ℤ) (s : List ℕ) → HasParts (fact.Point clause call t w)
    → read_point_fact (decimal clause ++ 44 ∷ (decimal call ++ 44 ∷ (signed_decimal t ++ 44 ∷ (numbers_text w ++ 41 ∷ 46 ∷ 10 ∷ s)))) ≡ Some (fact.Point clause call t w, s)
unfolding read_point_fact
point_back clause call t w s h = rw (next_back decimal read_place IsPlace place_back clause _ h.0, next_back decimal read_place IsPlace place_back call _ h.1, next_back signed_decimal read_integer IsEntry entry_back t _ h.2, last_back numbers_text (read_list read_integer) AreEntries entries_back w s h.3) refl

at_back : (clause : ℕ) (call : ℕ) (t : ℤ) (w : List ℤ) (s : List ℕ) → HasParts (fact.At clause call t w)
    → read_at_fact (decimal clause ++ 44 ∷ (decimal call ++ 44 ∷ (signed_decimal t ++ 44 ∷ (numbers_text w ++ 41 ∷ 46 ∷ 10 ∷ s)))) ≡ Some (fact.At clause call t w, s)
unfolding read_at_fact
at_back clause call t w s h = rw (next_back decimal read_place IsPlace place_back clause _ h.0, next_back decimal read_place IsPlace place_back call _ h.1, next_back signed_decimal read_integer IsEntry entry_back t _ h.2, last_back numbers_text (read_list read_integer) AreEntries entries_back w s h.3) refl

image_back : (step : ℕ) (clause : ℕ) (pred : PredText) (rows : List (List ℤ)) (s : List ℕ) → HasParts (fact.Image step clause pred rows)
    → read_image_fact (decimal step ++ 44 ∷ (decimal clause ++ 44 ∷ (indicator pred ++ 44 ∷ (list_text numbers_text rows ++ 41 ∷ 46 ∷ 10 ∷ s)))) ≡ Some (fact.Image step clause pred rows, s)
unfolding read_image_fact
image_back step clause pred rows s h = rw (next_back decimal read_index IsIndex index_back step _ h.0, next_back decimal read_place IsPlace place_back clause _ h.1, next_back indicator read_pred IsPred pred_back pred _ h.2, last_back (list_text numbers_text) (read_list (read_list read_integer)) (AllByRecursion AreEntries) rows_back rows s h.3) refl

step_back : (step : ℕ) (pred : PredText) (how : CertHow) (rows : List (List ℤ)) (s : List ℕ) → HasParts (fact.Step step pred how rows)
    → read_step_fact (decimal step ++ 44 ∷ (indicator pred ++ 44 ∷ (how_text how ++ 44 ∷ (list_text numbers_text rows ++ 41 ∷ 46 ∷ 10 ∷ s)))) ≡ Some (fact.Step step pred how rows, s)
unfolding read_step_fact
step_back step pred how rows s h = rw (next_back decimal read_index IsIndex index_back step _ h.0, next_back indicator read_pred IsPred pred_back pred _ h.1, next_back how_text read_how (λ c. Unit {0}) how_back how _ tt, last_back (list_text numbers_text) (read_list (read_list read_integer)) (AllByRecursion AreEntries) rows_back rows s h.2) refl

blown_back : (pred : PredText) (support : List (List ℕ)) (s : List ℕ) → HasParts (fact.Blown pred support)
    → read_blown_fact (indicator pred ++ 44 ∷ (list_text positions_text support ++ 41 ∷ 46 ∷ 10 ∷ s)) ≡ Some (fact.Blown pred support, s)
unfolding read_blown_fact
blown_back pred support s h = rw (next_back indicator read_pred IsPred pred_back pred _ h.0, last_back (list_text positions_text) (read_list (read_list read_place)) (AllByRecursion ArePlaces) places_lists_back support s h.1) refl

large_back : (pred : PredText) (positions : ℕ) (s : List ℕ) → HasParts (fact.Large pred positions)
    → read_large_fact (indicator pred ++ 44 ∷ (decimal positions ++ 41 ∷ 46 ∷ 10 ∷ s)) ≡ Some (fact.Large pred positions, s)
unfolding read_large_fact
large_back pred positions s h = rw (next_back indicator read_pred IsPred pred_back pred _ h.0, last_back decimal read_index IsIndex index_back positions s h.1) refl

mark_back : (n : ℕ) (s : List ℕ) → IsIndex n → read_mark (decimal n ++ 41 ∷ 41 ∷ 46 ∷ 10 ∷ s) ≡ Some (n, s)
mark_back n s h = rw (index_back n 41 (41 ∷ 46 ∷ 10 ∷ s) h (inr (inl refl))) refl

weak_image_back : (step : ℕ) (s : List ℕ) → IsIndex step → read_weak_image_fact (decimal step ++ 41 ∷ 41 ∷ 46 ∷ 10 ∷ s) ≡ Some (fact.WeakImage step, s)
unfolding read_weak_image_fact
weak_image_back step s h = rw (mark_back step s h) refl

weak_step_back : (step : ℕ) (s : List ℕ) → IsIndex step → read_weak_step_fact (decimal step ++ 41 ∷ 41 ∷ 46 ∷ 10 ∷ s) ≡ Some (fact.WeakStep step, s)
unfolding read_weak_step_fact
weak_step_back step s h = rw (mark_back step s h) refl

-- the text of a fact of four parts, from the front
four_parts : (word a b c d s : List ℕ) → word ++ a ++ codes "," ++ b ++ codes "," ++ c ++ codes "," ++ d ++ codes ").\n" ++ s
    ≡ word ++ (a ++ 44 ∷ (b ++ 44 ∷ (c ++ 44 ∷ (d ++ 41 ∷ 46 ∷ 10 ∷ s))))
four_parts word a b c d s = simp append_assoc

any_back : (f : Fact) (s : List ℕ) → HasParts f → read_any (fact_text f ++ s) ≡ Some (f, s)
unfolding read_any read_other
any_back (fact.Cti version) s h =
    let whole : fact_text (fact.Cti version) ++ s ≡ codes "cti(" ++ (signed_decimal version ++ 41 ∷ 46 ∷ 10 ∷ s) = simp append_assoc in
    ap read_any whole ∙ cti_back version s h
any_back (fact.Norm named) s h =
    let whole : fact_text (fact.Norm named) ++ s ≡ codes "norm(" ++ (norm_text named ++ 41 ∷ 46 ∷ 10 ∷ s) = simp append_assoc in
    ap read_any whole ∙ norm_fact_back named s h
any_back (fact.Terminates pred modes) s h =
    let whole : fact_text (fact.Terminates pred modes) ++ s ≡ codes "terminates(" ++ (indicator pred ++ 44 ∷ (list_text positions_text modes ++ 41 ∷ 46 ∷ 10 ∷ s)) = simp append_assoc in
    ap read_any whole ∙ terminates_back pred modes s h
any_back (fact.Size pred index row) s h =
    let whole : fact_text (fact.Size pred index row) ++ s ≡ codes "size(" ++ (indicator pred ++ 44 ∷ (decimal index ++ 44 ∷ (numbers_text row ++ 41 ∷ 46 ∷ 10 ∷ s))) = simp append_assoc in
    ap read_any whole ∙ size_back pred index row s h
any_back (fact.By clause index scale multipliers) s h =
    let whole : fact_text (fact.By clause index scale multipliers) ++ s ≡ codes "by(" ++ (decimal clause ++ 44 ∷ (decimal index ++ 44 ∷ (signed_decimal scale ++ 44 ∷ (numbers_text multipliers ++ 41 ∷ 46 ∷ 10 ∷ s)))) = simp append_assoc in
    ap read_any whole ∙ by_back clause index scale multipliers s h
any_back (fact.Grounds pred index cube) s h =
    let whole : fact_text (fact.Grounds pred index cube) ++ s ≡ codes "grounds(" ++ (indicator pred ++ 44 ∷ (decimal index ++ 44 ∷ (cube_text cube ++ 41 ∷ 46 ∷ 10 ∷ s))) = simp append_assoc in
    ap read_any whole ∙ grounds_back pred index cube s h
any_back (fact.Measure pred mapping coeffs offset) s h =
    let whole : fact_text (fact.Measure pred mapping coeffs offset) ++ s ≡ codes "measure(" ++ (indicator pred ++ 44 ∷ (decimal mapping ++ 44 ∷ (numbers_text coeffs ++ 44 ∷ (signed_decimal offset ++ 41 ∷ 46 ∷ 10 ∷ s)))) = simp append_assoc in
    ap read_any whole ∙ measure_back pred mapping coeffs offset s h
any_back (fact.Falls clause call mapping scale multipliers) s h =
    let whole : fact_text (fact.Falls clause call mapping scale multipliers) ++ s ≡ codes "falls(" ++ (decimal clause ++ 44 ∷ (decimal call ++ 44 ∷ (decimal mapping ++ 44 ∷ (signed_decimal scale ++ 44 ∷ (numbers_text multipliers ++ 41 ∷ 46 ∷ 10 ∷ s))))) = simp append_assoc in
    ap read_any whole ∙ falls_back clause call mapping scale multipliers s h
any_back (fact.Pre pred mapping index cube) s h =
    let whole : fact_text (fact.Pre pred mapping index cube) ++ s ≡ codes "pre(" ++ (indicator pred ++ 44 ∷ (decimal mapping ++ 44 ∷ (decimal index ++ 44 ∷ (cube_text cube ++ 41 ∷ 46 ∷ 10 ∷ s)))) = simp append_assoc in
    ap read_any whole ∙ pre_back pred mapping index cube s h
any_back (fact.Refuted pred points) s h =
    let whole : fact_text (fact.Refuted pred points) ++ s ≡ codes "none(" ++ (indicator pred ++ 44 ∷ (decimal points ++ 41 ∷ 46 ∷ 10 ∷ s)) = simp append_assoc in
    ap read_any whole ∙ refuted_back pred points s h
any_back (fact.Point clause call t w) s h =
    let whole : fact_text (fact.Point clause call t w) ++ s ≡ codes "point(" ++ (decimal clause ++ 44 ∷ (decimal call ++ 44 ∷ (signed_decimal t ++ 44 ∷ (numbers_text w ++ 41 ∷ 46 ∷ 10 ∷ s)))) = simp append_assoc in
    ap read_any whole ∙ point_back clause call t w s h
any_back (fact.At clause call t w) s h =
    let whole : fact_text (fact.At clause call t w) ++ s ≡ codes "at(" ++ (decimal clause ++ 44 ∷ (decimal call ++ 44 ∷ (signed_decimal t ++ 44 ∷ (numbers_text w ++ 41 ∷ 46 ∷ 10 ∷ s)))) = simp append_assoc in
    ap read_any whole ∙ at_back clause call t w s h
any_back (fact.Image step clause pred rows) s h =
    ap read_any (four_parts (codes "image(") (decimal step) (decimal clause) (indicator pred) (list_text numbers_text rows) s) ∙ image_back step clause pred rows s h
any_back (fact.Step step pred how rows) s h =
    ap read_any (four_parts (codes "step(") (decimal step) (indicator pred) (how_text how) (list_text numbers_text rows) s) ∙ step_back step pred how rows s h
any_back (fact.Blown pred support) s h =
    let whole : fact_text (fact.Blown pred support) ++ s ≡ codes "blown(" ++ (indicator pred ++ 44 ∷ (list_text positions_text support ++ 41 ∷ 46 ∷ 10 ∷ s)) = simp append_assoc in
    ap read_any whole ∙ blown_back pred support s h
any_back (fact.Large pred positions) s h =
    let whole : fact_text (fact.Large pred positions) ++ s ≡ codes "large(" ++ (indicator pred ++ 44 ∷ (decimal positions ++ 41 ∷ 46 ∷ 10 ∷ s)) = simp append_assoc in
    ap read_any whole ∙ large_back pred positions s h
any_back (fact.WeakImage step) s h =
    let whole : fact_text (fact.WeakImage step) ++ s ≡ codes "weak(image(" ++ (decimal step ++ 41 ∷ 41 ∷ 46 ∷ 10 ∷ s) = simp append_assoc in
    ap read_any whole ∙ weak_image_back step s h
any_back (fact.WeakStep step) s h =
    let whole : fact_text (fact.WeakStep step) ++ s ≡ codes "weak(step(" ++ (decimal step ++ 41 ∷ 41 ∷ 46 ∷ 10 ∷ s) = simp append_assoc in
    ap read_any whole ∙ weak_step_back step s h

-- a fact in range is read back, whatever follows
pub fact_back : (f : Fact) (s : List ℕ) → InRange f → read_fact (fact_text f ++ s) ≡ Some (f, s)
unfolding read_fact
fact_back f s h = rw (any_back f s (has_parts f h), amounts_hold f h) refl
