-- What fails of all facts, section by section.
use Rattle.std.specs.Io.Iter.{u64_saturate}
use Rattle.std.proofs.Common.{◌≡◌, ◌↔◌, ℕ, suc, ◌+◌, ℤ, Bool, List, [], ◌∷◌, ◌++◌, length, Option, None, Some, refl, arith}
use Rattle.call_components.proofs.Lists.{all_append}
use Rattle.call_components.specs.Partition.{Partition}
use Rattle.certificate.specs.declared.fact.Fact.{Fact}
use Rattle.certificate.specs.declared.pred_text.PredText.{PredText}
use Rattle.cert_structure.specs.Numbered.{facts_from, lines_from}
use Rattle.cert_structure.specs.Order.{at_facts, by_line, fall_facts, falls_line, ground_facts, grounds_line, level_facts, measure_line, point_facts, pre_facts, pre_line, pred_text, proof_facts, refutation_facts, refuted_facts, size_facts, size_line}
use Rattle.cert_structure.specs.declared.parts.Parts.{Parts}
use Rattle.cti_terms.specs.Listing.{Listing}
use Rattle.cti_terms.specs.Tree.{Tree}
use Rattle.bool_diagrams.specs.declared.cube.Cell.{Cell}
use Rattle.linear_rows.specs.declared.multipliers.Multipliers.{Multipliers}
use Rattle.linear_rows.specs.declared.row.Rows.{Rows}
use Rattle.number_tests.specs.declared.level_part.LevelPart.{LevelPart}
use Rattle.linear_rows.specs.declared.point.Point.{Point}
use Rattle.number_tests.specs.declared.refutation.Refutation.{Refutation}
use Rattle.cert_checker.specs.Fault.{FactFails}
use Rattle.cert_checker.specs.Finding.{ByFails, FallsFail, Finds, MeasuresFail, NoneFails, RefutationsFail, SizesFail}
use Rattle.cert_checker.specs.Sections.{AreLines, count_all, count_in, number_facts, rows_in}
use Rattle.cert_checker.specs.declared.fault.Fault.{Fault}
use Rattle.cert_checker.specs.declared.lines.Lines.{Lines}
use Rattle.cert_checker.specs.declared.reason.Reason.{Reason}
use Rattle.cert_checker.proofs.FallLaws.{falls_counted}
use Rattle.cert_checker.proofs.FindLaws.{AreSame, finds_here, finds_next, finds_same, length_from, length_lines, same_lines}

-- the lengths of sections
proofs_counted : (proofs : List (List Multipliers)) → length (proof_facts proofs) ≡ count_in proofs
proofs_counted proofs = length_from (λ k ms. lines_from 0 (by_line k) ms) (λ ms. length ms) (λ k ms. length_lines (by_line k) 0 ms) 0 proofs

all_falls_counted : (falls : List (List (List Multipliers))) → length (fall_facts falls) ≡ count_all falls
all_falls_counted falls = length_from (λ k mss. facts_from 0 (λ j ms. lines_from 0 (falls_line k j) ms) mss) count_in falls_counted 0 falls

module _ (p : Listing) (names : List (List ℕ)) where
  sizes_counted : (rows : List Rows) → length (size_facts p names rows) ≡ rows_in rows
  sizes_counted rows = length_from (λ q r. lines_from 0 (size_line (pred_text p names q)) r.list) (λ (r : Rows). length r.list) (λ q r. length_lines (size_line (pred_text p names q)) 0 r.list) 0 rows

  grounds_counted : (grounds : List (List (List Cell))) → length (ground_facts p names grounds) ≡ count_in grounds
  grounds_counted grounds = length_from (λ q cs. lines_from 0 (grounds_line (pred_text p names q)) cs) (λ cs. length cs) (λ q cs. length_lines (grounds_line (pred_text p names q)) 0 cs) 0 grounds

  levels_counted : (levels : List (List LevelPart)) → length (level_facts p names levels) ≡ count_in levels
  levels_counted levels = length_from (λ q ls. lines_from 0 (measure_line (pred_text p names q)) ls) (λ ls. length ls) (λ q ls. length_lines (measure_line (pred_text p names q)) 0 ls) 0 levels

  pre_counted : (pre : List (List (List (List Cell)))) → length (pre_facts p names pre) ≡ count_all pre
  pre_counted pre =
      length_from (λ q ms. facts_from 0 (λ m cs. lines_from 0 (pre_line (pred_text p names q) m) cs) ms) count_in
      (λ q ms. length_from (λ m cs. lines_from 0 (pre_line (pred_text p names q) m) cs) (λ cs. length cs) (λ m cs. length_lines (pre_line (pred_text p names q) m) 0 cs) 0 ms) 0 pre

-- what is the same for each item's facts is so for all
same_from : (Fails Breaks : Fact → Reason → Type 0) {A : Type 0} → (facts : ℕ → A → List Fact) → ((k : ℕ) (x : A) → AreSame Fails Breaks (facts k x)) → (i : ℕ) (xs : List A) → AreSame Fails Breaks (facts_from i facts xs)
same_from Fails Breaks facts same i [] = tt
same_from Fails Breaks facts same i (x ∷ xs) = all_append (λ f. (why : Reason) → Fails f why ↔ Breaks f why) (facts i x) (facts_from (suc i) facts xs) (same i x) (same_from Fails Breaks facts same (suc i) xs)

pub none_in : (Fails : Fact → Reason → Type 0) {A : Type 0} → (facts : ℕ → A → List Fact) → ((k : ℕ) (x : A) → NoneFails Fails (facts k x)) → (i : ℕ) (xs : List A) → NoneFails Fails (facts_from i facts xs)
none_in Fails facts none i [] = tt
none_in Fails facts none i (x ∷ xs) = all_append (λ f. (why : Reason) → ¬ Fails f why) (facts i x) (facts_from (suc i) facts xs) (none i x) (none_in Fails facts none (suc i) xs)

module _ (truth : (ℕ → Bool) → Tree → Bool) (expression : ℕ → Tree → List ℤ) (p : Listing) (names : List (List ℕ)) (comps : Partition) (parts : Parts) where
  abbrev Whole : Fact → Reason → Type 0
  Whole = FactFails p names truth expression comps parts

  pub sizes_same : AreSame (SizesFail p names) Whole (size_facts p names parts.rows)
  sizes_same = same_from (SizesFail p names) Whole (λ q r. lines_from 0 (size_line (pred_text p names q)) r.list)
      (λ q r. same_lines (SizesFail p names) Whole (size_line (pred_text p names q)) 0 r.list (λ i row e why. (λ a. a, λ a. a))) 0 parts.rows

  pub by_same : AreSame (ByFails expression p parts.rows) Whole (proof_facts parts.row_proofs)
  by_same = same_from (ByFails expression p parts.rows) Whole (λ k ms. lines_from 0 (by_line k) ms)
      (λ k ms. same_lines (ByFails expression p parts.rows) Whole (by_line k) 0 ms (λ i m e why. (λ a. a, λ a. a))) 0 parts.row_proofs

  pub measures_same : AreSame (MeasuresFail p names comps) Whole (level_facts p names parts.levels)
  measures_same = same_from (MeasuresFail p names comps) Whole (λ q ls. lines_from 0 (measure_line (pred_text p names q)) ls)
      (λ q ls. same_lines (MeasuresFail p names comps) Whole (measure_line (pred_text p names q)) 0 ls (λ i l e why. (λ a. a, λ a. a))) 0 parts.levels

  pub falls_same : AreSame (FallsFail expression p comps parts) Whole (fall_facts parts.falls)
  falls_same = same_from (FallsFail expression p comps parts) Whole (λ k mss. facts_from 0 (λ j ms. lines_from 0 (falls_line k j) ms) mss)
      (λ k mss. same_from (FallsFail expression p comps parts) Whole (λ j ms. lines_from 0 (falls_line k j) ms)
      (λ j ms. same_lines (FallsFail expression p comps parts) Whole (falls_line k j) 0 ms (λ i m e why. (λ a. a, λ a. a))) 0 mss) 0 parts.falls

  second_same : (k j : ℕ) (o : Option Point) → AreSame (RefutationsFail expression p names comps parts) Whole (at_facts k j o)
  second_same k j None = tt
  second_same k j (Some y) = (λ why. (λ a. a, λ a. a), tt)

  refutation_same : (pred : PredText) (o : Option Refutation) → AreSame (RefutationsFail expression p names comps parts) Whole (refutation_facts pred o)
  refutation_same pred None = tt
  refutation_same pred (Some r) = (
    λ why. (λ a. a, λ a. a),
    same_from (RefutationsFail expression p names comps parts) Whole (λ _ x. point_facts x) (λ i x. (λ why. (λ a. a, λ a. a), second_same x.clause x.call x.at)) 0 r.points,
  )

  pub refuted_same : AreSame (RefutationsFail expression p names comps parts) Whole (refuted_facts p names parts.refutations)
  refuted_same = same_from (RefutationsFail expression p names comps parts) Whole (λ q o. refutation_facts (pred_text p names q) o) (λ q o. refutation_same (pred_text p names q) o) 0 parts.refutations

  -- no number is tested in cubes
  pub grounds_hold : NoneFails Whole (ground_facts p names parts.grounds)
  grounds_hold = none_in Whole (λ q cs. lines_from 0 (grounds_line (pred_text p names q)) cs) (λ q cs. none_in Whole (λ i c. grounds_line (pred_text p names q) i c ∷ []) (λ i c. (λ why fails. fails, tt)) 0 cs) 0 parts.grounds

  pub pre_hold : NoneFails Whole (pre_facts p names parts.preconditions)
  pre_hold = none_in Whole (λ q ms. facts_from 0 (λ m cs. lines_from 0 (pre_line (pred_text p names q) m) cs) ms)
      (λ q ms. none_in Whole (λ m cs. lines_from 0 (pre_line (pred_text p names q) m) cs) (λ m cs. none_in Whole (λ i c. pre_line (pred_text p names q) m i c ∷ []) (λ i c. (λ why fails. fails, tt)) 0 cs) 0 ms) 0 parts.preconditions

  -- the sections from the falls on, from the measures on, from the multipliers of size rows on, and all
  module _ (lines : Lines) (are : AreLines parts lines) where
    abbrev falls_on : List Fact
    falls_on = fall_facts parts.falls ++ (pre_facts p names parts.preconditions ++ refuted_facts p names parts.refutations)

    abbrev measures_on : List Fact
    measures_on = level_facts p names parts.levels ++ falls_on

    abbrev proofs_on : List Fact
    proofs_on = proof_facts parts.row_proofs ++ (ground_facts p names parts.grounds ++ measures_on)

    stated_here : (f : Fault) → Finds (SizesFail p names) lines.sizes (size_facts p names parts.rows) (Some f) → Finds Whole lines.sizes (number_facts p names parts) (Some f)
    stated_here f found = finds_here Whole lines.sizes (size_facts p names parts.rows) proofs_on f (finds_same (SizesFail p names) Whole (size_facts p names parts.rows) sizes_same lines.sizes (Some f) found)

    stated_next : (o : Option Fault) → NoneFails (SizesFail p names) (size_facts p names parts.rows) → Finds Whole lines.row_proofs proofs_on o → Finds Whole lines.sizes (number_facts p names parts) o
    stated_next o none found =
        finds_next Whole lines.sizes lines.row_proofs (size_facts p names parts.rows) proofs_on o (omega (arith, are.row_proofs, sizes_counted p names parts.rows))
        (finds_same (SizesFail p names) Whole (size_facts p names parts.rows) sizes_same lines.sizes None none) found

    by_here : (f : Fault) → Finds (ByFails expression p parts.rows) lines.row_proofs (proof_facts parts.row_proofs) (Some f) → Finds Whole lines.row_proofs proofs_on (Some f)
    by_here f found = finds_here Whole lines.row_proofs (proof_facts parts.row_proofs) (ground_facts p names parts.grounds ++ measures_on) f (finds_same (ByFails expression p parts.rows) Whole (proof_facts parts.row_proofs) by_same lines.row_proofs (Some f) found)

    by_next : (o : Option Fault) → NoneFails (ByFails expression p parts.rows) (proof_facts parts.row_proofs) → Finds Whole lines.measures measures_on o → Finds Whole lines.row_proofs proofs_on o
    by_next o none found =
        finds_next Whole lines.row_proofs (u64_saturate (lines.row_proofs + length (proof_facts parts.row_proofs))) (proof_facts parts.row_proofs) (ground_facts p names parts.grounds ++ measures_on) o refl
        (finds_same (ByFails expression p parts.rows) Whole (proof_facts parts.row_proofs) by_same lines.row_proofs None none)
        (finds_next Whole (u64_saturate (lines.row_proofs + length (proof_facts parts.row_proofs))) lines.measures (ground_facts p names parts.grounds) measures_on o
        (omega (arith, are.measures, proofs_counted parts.row_proofs, grounds_counted p names parts.grounds)) grounds_hold found)

    measures_here : (f : Fault) → Finds (MeasuresFail p names comps) lines.measures (level_facts p names parts.levels) (Some f) → Finds Whole lines.measures measures_on (Some f)
    measures_here f found = finds_here Whole lines.measures (level_facts p names parts.levels) falls_on f (finds_same (MeasuresFail p names comps) Whole (level_facts p names parts.levels) measures_same lines.measures (Some f) found)

    measures_next : (o : Option Fault) → NoneFails (MeasuresFail p names comps) (level_facts p names parts.levels) → Finds Whole lines.falls falls_on o → Finds Whole lines.measures measures_on o
    measures_next o none found =
        finds_next Whole lines.measures lines.falls (level_facts p names parts.levels) falls_on o (omega (arith, are.falls, levels_counted p names parts.levels))
        (finds_same (MeasuresFail p names comps) Whole (level_facts p names parts.levels) measures_same lines.measures None none) found

    falls_here : (f : Fault) → Finds (FallsFail expression p comps parts) lines.falls (fall_facts parts.falls) (Some f) → Finds Whole lines.falls falls_on (Some f)
    falls_here f found =
        finds_here Whole lines.falls (fall_facts parts.falls) (pre_facts p names parts.preconditions ++ refuted_facts p names parts.refutations) f
        (finds_same (FallsFail expression p comps parts) Whole (fall_facts parts.falls) falls_same lines.falls (Some f) found)

    falls_next : (o : Option Fault) → NoneFails (FallsFail expression p comps parts) (fall_facts parts.falls) → Finds (RefutationsFail expression p names comps parts) lines.refutations (refuted_facts p names parts.refutations) o
        → Finds Whole lines.falls falls_on o
    falls_next o none found =
        finds_next Whole lines.falls (u64_saturate (lines.falls + length (fall_facts parts.falls))) (fall_facts parts.falls) (pre_facts p names parts.preconditions ++ refuted_facts p names parts.refutations) o refl
        (finds_same (FallsFail expression p comps parts) Whole (fall_facts parts.falls) falls_same lines.falls None none)
        (finds_next Whole (u64_saturate (lines.falls + length (fall_facts parts.falls))) lines.refutations (pre_facts p names parts.preconditions) (refuted_facts p names parts.refutations) o
        (omega (arith, are.refutations, all_falls_counted parts.falls, pre_counted p names parts.preconditions)) pre_hold
        (finds_same (RefutationsFail expression p names comps parts) Whole (refuted_facts p names parts.refutations) refuted_same lines.refutations o found))

    -- the fault of the first test that finds one, or none
    pub first_stated : (f : Fault) → Finds (SizesFail p names) lines.sizes (size_facts p names parts.rows) (Some f) → Finds Whole lines.sizes (number_facts p names parts) (Some f)
    first_stated = stated_here

    module _ (stated_none : NoneFails (SizesFail p names) (size_facts p names parts.rows)) where
      pub first_by : (f : Fault) → Finds (ByFails expression p parts.rows) lines.row_proofs (proof_facts parts.row_proofs) (Some f) → Finds Whole lines.sizes (number_facts p names parts) (Some f)
      first_by f found = stated_next (Some f) stated_none (by_here f found)

      module _ (by_none : NoneFails (ByFails expression p parts.rows) (proof_facts parts.row_proofs)) where
        pub first_measure : (f : Fault) → Finds (MeasuresFail p names comps) lines.measures (level_facts p names parts.levels) (Some f) → Finds Whole lines.sizes (number_facts p names parts) (Some f)
        first_measure f found = stated_next (Some f) stated_none (by_next (Some f) by_none (measures_here f found))

        module _ (measures_none : NoneFails (MeasuresFail p names comps) (level_facts p names parts.levels)) where
          pub first_fall : (f : Fault) → Finds (FallsFail expression p comps parts) lines.falls (fall_facts parts.falls) (Some f) → Finds Whole lines.sizes (number_facts p names parts) (Some f)
          first_fall f found = stated_next (Some f) stated_none (by_next (Some f) by_none (measures_next (Some f) measures_none (falls_here f found)))

          pub first_refutation : NoneFails (FallsFail expression p comps parts) (fall_facts parts.falls) → (o : Option Fault)
              → Finds (RefutationsFail expression p names comps parts) lines.refutations (refuted_facts p names parts.refutations) o → Finds Whole lines.sizes (number_facts p names parts) o
          first_refutation falls_none o found = stated_next o stated_none (by_next o by_none (measures_next o measures_none (falls_next o falls_none found)))
