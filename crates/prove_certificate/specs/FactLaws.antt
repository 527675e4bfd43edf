-- Private.
-- A fact that is printed is one line, and is read back. Nothing here has to be believed.
use Rattle.std.proofs.Common.{◌≡◌, ℕ, true, List, [], ◌∷◌, ◌++◌, Some, refl, ap, ◌∙◌, arith}
use Rattle.std.proofs.lemmas.Int.{ints}
use Rattle.std.specs.Prelude.{ℤ, pos, negsuc, codes, decimal}
use Rattle.std.specs.Fmt.{signed_decimal}
use Rattle.std.specs.List.{AllByRecursion, list_all}
use Rattle.certificate.specs.declared.pred_text.PredText.{PredText}
use Rattle.certificate.specs.declared.cell.CertCell.{CertCell}
use Rattle.certificate.specs.declared.how.CertHow.{CertHow}
use Rattle.certificate.specs.Range.{IsAmount}
use Rattle.certificate.specs.Text.{indicator, list_text, numbers_text, positions_text, cube_text, how_text}
use Rattle.certificate.specs.Lines.{lines}
use Rattle.certificate.specs.Parse.{is_amount}
use Rattle.prove_certificate.specs.PartLaws.{IsLine, cube_clean, entries_clean, entry_clean, five_parts, four_parts, how_clean, index_clean, kinds_clean, last_cube, last_entries, last_entry, last_index, last_kinds, last_mark, last_place, last_places_lists, last_pred, last_rows, line_of_five, line_of_four, line_of_mark, line_of_one, line_of_six, line_of_three, line_of_two, mark_part, next_entries, next_entry, next_how, next_index, next_place, next_pred, one_part, place_clean, places_lists_clean, pred_clean, rows_clean, six_parts, three_parts, two_parts}
use Rattle.prove_certificate.specs.Parts.{read_two, read_three, read_four, read_five, read_six}
use Rattle.prove_certificate.specs.Parse.{read_ctiprove_fact, read_terminates_fact, read_kinds_fact, read_fails_fact, read_size_fact, read_by_fact, read_grounds_fact, read_level_fact, read_drops_fact, read_floors_fact, read_pre_fact, read_refuted_fact, read_group_fact, read_point_fact, read_floor_fact, read_image_fact, read_step_fact, read_weak_image_fact, read_weak_step_fact, read_blown_fact, read_note, read_other, read_any, read_fact}
use Rattle.prove_certificate.specs.Range.{HasParts, InRange, amounts_of}
use Rattle.prove_certificate.specs.Text.{kinds_text, fact_text}
use Rattle.prove_certificate.specs.declared.kind.CertKind.{CertKind}
use Rattle.prove_certificate.specs.declared.fact.ProveFact.{ProveFact}
use Rattle.prove_certificate.specs.declared.fact.ProveFact.TheVariants as fact

fact_line : (f : ProveFact) → HasParts f → IsLine (fact_text f)
fact_line (fact.Ctiprove version) h =
    line_of_one (codes "ctiprove(") (signed_decimal version) refl (entry_clean version h)
fact_line (fact.Terminates pred modes) h =
    line_of_two (codes "terminates(") (indicator pred) (list_text positions_text modes) refl (pred_clean pred h.0) (places_lists_clean modes h.1)
fact_line (fact.Kinds pred kinds) h =
    line_of_two (codes "kinds(") (indicator pred) (kinds_text kinds) refl (pred_clean pred h) (kinds_clean kinds)
fact_line (fact.Fails pred) h =
    line_of_one (codes "fails(") (indicator pred) refl (pred_clean pred h)
fact_line (fact.Size pred index row) h =
    line_of_three (codes "size(") (indicator pred) (decimal index) (numbers_text row) refl (pred_clean pred h.0) (index_clean index h.1) (entries_clean row h.2)
fact_line (fact.By clause index scale multipliers) h =
    line_of_four (codes "by(") (decimal clause) (decimal index) (signed_decimal scale) (numbers_text multipliers) refl (place_clean clause h.0) (index_clean index h.1) (entry_clean scale h.2) (entries_clean multipliers h.3)
fact_line (fact.Grounds pred index cube) h =
    line_of_three (codes "grounds(") (indicator pred) (decimal index) (cube_text cube) refl (pred_clean pred h.0) (index_clean index h.1) (cube_clean cube)
fact_line (fact.Level pred list index coeffs offset) h =
    line_of_five (codes "level(") (indicator pred) (decimal list) (decimal index) (numbers_text coeffs) (signed_decimal offset) refl (pred_clean pred h.0) (place_clean list h.1) (index_clean index h.2) (entries_clean coeffs h.3) (entry_clean offset h.4)
fact_line (fact.Drops clause call list index scale multipliers) h =
    line_of_six (codes "drops(") (decimal clause) (decimal call) (decimal list) (decimal index) (signed_decimal scale) (numbers_text multipliers) refl (place_clean clause h.0) (place_clean call h.1) (place_clean list h.2) (index_clean index h.3) (entry_clean scale h.4) (entries_clean multipliers h.5)
fact_line (fact.Floors clause call list scale multipliers) h =
    line_of_five (codes "floors(") (decimal clause) (decimal call) (decimal list) (signed_decimal scale) (numbers_text multipliers) refl (place_clean clause h.0) (place_clean call h.1) (place_clean list h.2) (entry_clean scale h.3) (entries_clean multipliers h.4)
fact_line (fact.Pre pred list index cube) h =
    line_of_four (codes "pre(") (indicator pred) (decimal list) (decimal index) (cube_text cube) refl (pred_clean pred h.0) (place_clean list h.1) (index_clean index h.2) (cube_clean cube)
fact_line (fact.Refuted pred groups) h =
    line_of_two (codes "none(") (indicator pred) (decimal groups) refl (pred_clean pred h.0) (index_clean groups h.1)
fact_line (fact.Group clause call) h =
    line_of_two (codes "group(") (decimal clause) (decimal call) refl (place_clean clause h.0) (place_clean call h.1)
fact_line (fact.Point clause call t w) h =
    line_of_four (codes "point(") (decimal clause) (decimal call) (signed_decimal t) (numbers_text w) refl (place_clean clause h.0) (place_clean call h.1) (entry_clean t h.2) (entries_clean w h.3)
fact_line (fact.Floor clause call t w) h =
    line_of_four (codes "floor(") (decimal clause) (decimal call) (signed_decimal t) (numbers_text w) refl (place_clean clause h.0) (place_clean call h.1) (entry_clean t h.2) (entries_clean w h.3)
fact_line (fact.Image step clause pred rows) h =
    line_of_four (codes "image(") (decimal step) (decimal clause) (indicator pred) (list_text numbers_text rows) refl (index_clean step h.0) (place_clean clause h.1) (pred_clean pred h.2) (rows_clean rows h.3)
fact_line (fact.Step step pred how rows) h =
    line_of_four (codes "step(") (decimal step) (indicator pred) (how_text how) (list_text numbers_text rows) refl (index_clean step h.0) (pred_clean pred h.1) (how_clean how) (rows_clean rows h.2)
fact_line (fact.WeakImage step) h = line_of_mark (codes "weak(image(") (decimal step) refl (index_clean step h)
fact_line (fact.WeakStep step) h = line_of_mark (codes "weak(step(") (decimal step) refl (index_clean step h)
fact_line (fact.Blown pred support) h =
    line_of_two (codes "blown(") (indicator pred) (list_text positions_text support) refl (pred_clean pred h.0) (places_lists_clean support h.1)

-- the text of a fact is the first line of a text that begins with it
pub one_line : (f : ProveFact) (s : List ℕ) → InRange f → lines (fact_text f ++ s) ≡ fact_text f ∷ lines s
one_line f s h = fact_line f h.0 s

ctiprove_back : (version : ℤ) (s : List ℕ) → HasParts (fact.Ctiprove version)
    → read_ctiprove_fact (signed_decimal version ++ 41 ∷ 46 ∷ 10 ∷ s) ≡ Some (fact.Ctiprove version, s)
unfolding read_ctiprove_fact
ctiprove_back version s h = rw (last_entry version s h) refl

terminates_back : (pred : PredText) (modes : List (List ℕ)) (s : List ℕ) → HasParts (fact.Terminates pred modes)
    → read_terminates_fact (indicator pred ++ 44 ∷ (list_text positions_text modes ++ 41 ∷ 46 ∷ 10 ∷ s)) ≡ Some (fact.Terminates pred modes, s)
unfolding read_terminates_fact read_two
terminates_back pred modes s h = rw (next_pred pred _ h.0, last_places_lists modes s h.1) refl

kinds_back : (pred : PredText) (kinds : List CertKind) (s : List ℕ) → HasParts (fact.Kinds pred kinds)
    → read_kinds_fact (indicator pred ++ 44 ∷ (kinds_text kinds ++ 41 ∷ 46 ∷ 10 ∷ s)) ≡ Some (fact.Kinds pred kinds, s)
unfolding read_kinds_fact read_two
kinds_back pred kinds s h = rw (next_pred pred _ h, last_kinds kinds s) refl

fails_back : (pred : PredText) (s : List ℕ) → HasParts (fact.Fails pred)
    → read_fails_fact (indicator pred ++ 41 ∷ 46 ∷ 10 ∷ s) ≡ Some (fact.Fails pred, s)
unfolding read_fails_fact
fails_back pred s h = rw (last_pred pred s h) refl

size_back : (pred : PredText) (index : ℕ) (row : List ℤ) (s : List ℕ) → HasParts (fact.Size pred index row)
    → read_size_fact (indicator pred ++ 44 ∷ (decimal index ++ 44 ∷ (numbers_text row ++ 41 ∷ 46 ∷ 10 ∷ s))) ≡ Some (fact.Size pred index row, s)
unfolding read_size_fact read_three read_two
size_back pred index row s h = rw (next_pred pred _ h.0, next_index index _ h.1, last_entries row s h.2) refl

by_back : (clause : ℕ) (index : ℕ) (scale : ℤ) (multipliers : List ℤ) (s : List ℕ) → HasParts (fact.By clause index scale multipliers)
    → read_by_fact (decimal clause ++ 44 ∷ (decimal index ++ 44 ∷ (signed_decimal scale ++ 44 ∷ (numbers_text multipliers ++ 41 ∷ 46 ∷ 10 ∷ s)))) ≡ Some (fact.By clause index scale multipliers, s)
unfolding read_by_fact read_four read_three read_two
by_back clause index scale multipliers s h = rw (next_place clause _ h.0, next_index index _ h.1, next_entry scale _ h.2, last_entries multipliers s h.3) refl

grounds_back : (pred : PredText) (index : ℕ) (cube : List CertCell) (s : List ℕ) → HasParts (fact.Grounds pred index cube)
    → read_grounds_fact (indicator pred ++ 44 ∷ (decimal index ++ 44 ∷ (cube_text cube ++ 41 ∷ 46 ∷ 10 ∷ s))) ≡ Some (fact.Grounds pred index cube, s)
unfolding read_grounds_fact read_three read_two
grounds_back pred index cube s h = rw (next_pred pred _ h.0, next_index index _ h.1, last_cube cube s) refl

level_back : (pred : PredText) (list : ℕ) (index : ℕ) (coeffs : List ℤ) (offset : ℤ) (s : List ℕ) → HasParts (fact.Level pred list index coeffs offset)
    → read_level_fact (indicator pred ++ 44 ∷ (decimal list ++ 44 ∷ (decimal index ++ 44 ∷ (numbers_text coeffs ++ 44 ∷ (signed_decimal offset ++ 41 ∷ 46 ∷ 10 ∷ s))))) ≡ Some (fact.Level pred list index coeffs offset, s)
unfolding read_level_fact read_five read_four read_three read_two
level_back pred list index coeffs offset s h = rw (next_pred pred _ h.0, next_place list _ h.1, next_index index _ h.2, next_entries coeffs _ h.3, last_entry offset s h.4) refl

drops_back : (clause : ℕ) (call : ℕ) (list : ℕ) (index : ℕ) (scale : ℤ) (multipliers : List ℤ) (s : List ℕ) → HasParts (fact.Drops clause call list index scale multipliers)
    → read_drops_fact (decimal clause ++ 44 ∷ (decimal call ++ 44 ∷ (decimal list ++ 44 ∷ (decimal index ++ 44 ∷ (signed_decimal scale ++ 44 ∷ (numbers_text multipliers ++ 41 ∷ 46 ∷ 10 ∷ s)))))) ≡ Some (fact.Drops clause call list index scale multipliers, s)
unfolding read_drops_fact read_six read_five read_four read_three read_two
drops_back clause call list index scale multipliers s h = rw (next_place clause _ h.0, next_place call _ h.1, next_place list _ h.2, next_index index _ h.3, next_entry scale _ h.4, last_entries multipliers s h.5) refl

floors_back : (clause : ℕ) (call : ℕ) (list : ℕ) (scale : ℤ) (multipliers : List ℤ) (s : List ℕ) → HasParts (fact.Floors clause call list scale multipliers)
    → read_floors_fact (decimal clause ++ 44 ∷ (decimal call ++ 44 ∷ (decimal list ++ 44 ∷ (signed_decimal scale ++ 44 ∷ (numbers_text multipliers ++ 41 ∷ 46 ∷ 10 ∷ s))))) ≡ Some (fact.Floors clause call list scale multipliers, s)
unfolding read_floors_fact read_five read_four read_three read_two
floors_back clause call list scale multipliers s h = rw (next_place clause _ h.0, next_place call _ h.1, next_place list _ h.2, next_entry scale _ h.3, last_entries multipliers s h.4) refl

pre_back : (pred : PredText) (list : ℕ) (index : ℕ) (cube : List CertCell) (s : List ℕ) → HasParts (fact.Pre pred list index cube)
    → read_pre_fact (indicator pred ++ 44 ∷ (decimal list ++ 44 ∷ (decimal index ++ 44 ∷ (cube_text cube ++ 41 ∷ 46 ∷ 10 ∷ s)))) ≡ Some (fact.Pre pred list index cube, s)
unfolding read_pre_fact read_four read_three read_two
pre_back pred list index cube s h = rw (next_pred pred _ h.0, next_place list _ h.1, next_index index _ h.2, last_cube cube s) refl

refuted_back : (pred : PredText) (groups : ℕ) (s : List ℕ) → HasParts (fact.Refuted pred groups)
    → read_refuted_fact (indicator pred ++ 44 ∷ (decimal groups ++ 41 ∷ 46 ∷ 10 ∷ s)) ≡ Some (fact.Refuted pred groups, s)
unfolding read_refuted_fact read_two
refuted_back pred groups s h = rw (next_pred pred _ h.0, last_index groups s h.1) refl

group_back : (clause : ℕ) (call : ℕ) (s : List ℕ) → HasParts (fact.Group clause call)
    → read_group_fact (decimal clause ++ 44 ∷ (decimal call ++ 41 ∷ 46 ∷ 10 ∷ s)) ≡ Some (fact.Group clause call, s)
unfolding read_group_fact read_two
group_back clause call s h = rw (next_place clause _ h.0, last_place call s h.1) refl

point_back : (clause : ℕ) (call : ℕ) (t : ℤ) (w : List ℤ) (s : List ℕ) → HasParts (fact.Point clause call t w)
    → read_point_fact (decimal clause ++ 44 ∷ (decimal call ++ 44 ∷ (signed_decimal t ++ 44 ∷ (numbers_text w ++ 41 ∷ 46 ∷ 10 ∷ s)))) ≡ Some (fact.Point clause call t w, s)
unfolding read_point_fact read_four read_three read_two
point_back clause call t w s h = rw (next_place clause _ h.0, next_place call _ h.1, next_entry t _ h.2, last_entries w s h.3) refl

floor_back : (clause : ℕ) (call : ℕ) (t : ℤ) (w : List ℤ) (s : List ℕ) → HasParts (fact.Floor clause call t w)
    → read_floor_fact (decimal clause ++ 44 ∷ (decimal call ++ 44 ∷ (signed_decimal t ++ 44 ∷ (numbers_text w ++ 41 ∷ 46 ∷ 10 ∷ s)))) ≡ Some (fact.Floor clause call t w, s)
unfolding read_floor_fact read_four read_three read_two
floor_back clause call t w s h = rw (next_place clause _ h.0, next_place call _ h.1, next_entry t _ h.2, last_entries w s h.3) refl

image_back : (step : ℕ) (clause : ℕ) (pred : PredText) (rows : List (List ℤ)) (s : List ℕ) → HasParts (fact.Image step clause pred rows)
    → read_image_fact (decimal step ++ 44 ∷ (decimal clause ++ 44 ∷ (indicator pred ++ 44 ∷ (list_text numbers_text rows ++ 41 ∷ 46 ∷ 10 ∷ s)))) ≡ Some (fact.Image step clause pred rows, s)
unfolding read_image_fact read_four read_three read_two
image_back step clause pred rows s h = rw (next_index step _ h.0, next_place clause _ h.1, next_pred pred _ h.2, last_rows rows s h.3) refl

step_back : (step : ℕ) (pred : PredText) (how : CertHow) (rows : List (List ℤ)) (s : List ℕ) → HasParts (fact.Step step pred how rows)
    → read_step_fact (decimal step ++ 44 ∷ (indicator pred ++ 44 ∷ (how_text how ++ 44 ∷ (list_text numbers_text rows ++ 41 ∷ 46 ∷ 10 ∷ s)))) ≡ Some (fact.Step step pred how rows, s)
unfolding read_step_fact read_four read_three read_two
step_back step pred how rows s h = rw (next_index step _ h.0, next_pred pred _ h.1, next_how how _, last_rows rows s h.2) refl

weak_image_back : (step : ℕ) (s : List ℕ) → HasParts (fact.WeakImage step)
    → read_weak_image_fact (decimal step ++ 41 ∷ 41 ∷ 46 ∷ 10 ∷ s) ≡ Some (fact.WeakImage step, s)
unfolding read_weak_image_fact
weak_image_back step s h = rw (last_mark step s h) refl

weak_step_back : (step : ℕ) (s : List ℕ) → HasParts (fact.WeakStep step)
    → read_weak_step_fact (decimal step ++ 41 ∷ 41 ∷ 46 ∷ 10 ∷ s) ≡ Some (fact.WeakStep step, s)
unfolding read_weak_step_fact
weak_step_back step s h = rw (last_mark step s h) refl

blown_back : (pred : PredText) (support : List (List ℕ)) (s : List ℕ) → HasParts (fact.Blown pred support)
    → read_blown_fact (indicator pred ++ 44 ∷ (list_text positions_text support ++ 41 ∷ 46 ∷ 10 ∷ s)) ≡ Some (fact.Blown pred support, s)
unfolding read_blown_fact read_two
blown_back pred support s h = rw (next_pred pred _ h.0, last_places_lists support s h.1) refl

any_back : (f : ProveFact) (s : List ℕ) → HasParts f → read_any (fact_text f ++ s) ≡ Some (f, s)
unfolding read_any read_other read_note
any_back (fact.Ctiprove version) s h =
    ap read_any (one_part (codes "ctiprove(") (signed_decimal version) s) ∙ ctiprove_back version s h
any_back (fact.Terminates pred modes) s h =
    ap read_any (two_parts (codes "terminates(") (indicator pred) (list_text positions_text modes) s) ∙ terminates_back pred modes s h
any_back (fact.Kinds pred kinds) s h =
    ap read_any (two_parts (codes "kinds(") (indicator pred) (kinds_text kinds) s) ∙ kinds_back pred kinds s h
any_back (fact.Fails pred) s h =
    ap read_any (one_part (codes "fails(") (indicator pred) s) ∙ fails_back pred s h
any_back (fact.Size pred index row) s h =
    ap read_any (three_parts (codes "size(") (indicator pred) (decimal index) (numbers_text row) s) ∙ size_back pred index row s h
any_back (fact.By clause index scale multipliers) s h =
    ap read_any (four_parts (codes "by(") (decimal clause) (decimal index) (signed_decimal scale) (numbers_text multipliers) s) ∙ by_back clause index scale multipliers s h
any_back (fact.Grounds pred index cube) s h =
    ap read_any (three_parts (codes "grounds(") (indicator pred) (decimal index) (cube_text cube) s) ∙ grounds_back pred index cube s h
any_back (fact.Level pred list index coeffs offset) s h =
    ap read_any (five_parts (codes "level(") (indicator pred) (decimal list) (decimal index) (numbers_text coeffs) (signed_decimal offset) s) ∙ level_back pred list index coeffs offset s h
any_back (fact.Drops clause call list index scale multipliers) s h =
    ap read_any (six_parts (codes "drops(") (decimal clause) (decimal call) (decimal list) (decimal index) (signed_decimal scale) (numbers_text multipliers) s) ∙ drops_back clause call list index scale multipliers s h
any_back (fact.Floors clause call list scale multipliers) s h =
    ap read_any (five_parts (codes "floors(") (decimal clause) (decimal call) (decimal list) (signed_decimal scale) (numbers_text multipliers) s) ∙ floors_back clause call list scale multipliers s h
any_back (fact.Pre pred list index cube) s h =
    ap read_any (four_parts (codes "pre(") (indicator pred) (decimal list) (decimal index) (cube_text cube) s) ∙ pre_back pred list index cube s h
any_back (fact.Refuted pred groups) s h =
    ap read_any (two_parts (codes "none(") (indicator pred) (decimal groups) s) ∙ refuted_back pred groups s h
any_back (fact.Group clause call) s h =
    ap read_any (two_parts (codes "group(") (decimal clause) (decimal call) s) ∙ group_back clause call s h
any_back (fact.Point clause call t w) s h =
    ap read_any (four_parts (codes "point(") (decimal clause) (decimal call) (signed_decimal t) (numbers_text w) s) ∙ point_back clause call t w s h
any_back (fact.Floor clause call t w) s h =
    ap read_any (four_parts (codes "floor(") (decimal clause) (decimal call) (signed_decimal t) (numbers_text w) s) ∙ floor_back clause call t w s h
any_back (fact.Image step clause pred rows) s h =
    ap read_any (four_parts (codes "image(") (decimal step) (decimal clause) (indicator pred) (list_text numbers_text rows) s) ∙ image_back step clause pred rows s h
any_back (fact.Step step pred how rows) s h =
    ap read_any (four_parts (codes "step(") (decimal step) (indicator pred) (how_text how) (list_text numbers_text rows) s) ∙ step_back step pred how rows s h
any_back (fact.WeakImage step) s h = ap read_any (mark_part (codes "weak(image(") (decimal step) s) ∙ weak_image_back step s h
any_back (fact.WeakStep step) s h = ap read_any (mark_part (codes "weak(step(") (decimal step) s) ∙ weak_step_back step s h
any_back (fact.Blown pred support) s h =
    ap read_any (two_parts (codes "blown(") (indicator pred) (list_text positions_text support) s) ∙ blown_back pred support s h

not_below : (z : ℤ) → IsAmount z → is_amount z ≡ true
not_below (pos n) h = refl
not_below (negsuc n) h = absurd (omega (arith, ints, h.0))

none_below : (zs : List ℤ) → AllByRecursion IsAmount zs → list_all is_amount zs ≡ true
none_below [] h = refl
none_below (z ∷ zs) h = rw (not_below z h.0, none_below zs h.1) refl

-- a fact in range is read back, whatever follows
pub fact_back : (f : ProveFact) (s : List ℕ) → InRange f → read_fact (fact_text f ++ s) ≡ Some (f, s)
unfolding read_fact
fact_back f s h = rw (any_back f s h.0, none_below (amounts_of f) h.1) refl
