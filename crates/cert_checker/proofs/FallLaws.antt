-- Falls of mappings, fact by fact.
use Rattle.std.specs.Io.Iter.{u64_saturate}
use Rattle.std.proofs.Common.{◌≡◌, ℕ, suc, ◌+◌, ◌-◌, ◌<◌, ℤ, Bool, List, [], ◌∷◌, map, take, length, slice_get, Option, Some, refl, sym, ap, subst, ◌∙◌, arith}
use Rattle.std.specs.List.{AllByRecursion}
use Rattle.call_components.specs.Partition.{Partition}
use Rattle.cert_structure.specs.Numbered.{facts_from, lines_from}
use Rattle.cert_structure.specs.Order.{falls_line}
use Rattle.cert_structure.specs.declared.parts.Parts.{Parts}
use Rattle.cti_terms.specs.Listing.{Listing}
use Rattle.cti_terms.specs.Tree.{Tree}
use Rattle.cti_terms.specs.declared.atom_list.Atom.{Atom}
use Rattle.cti_terms.specs.declared.clauses.Clause.{Clause}
use Rattle.linear_rows.specs.Showing.{IsShown}
use Rattle.linear_rows.specs.declared.multipliers.Multipliers.{Multipliers}
use Rattle.number_tests.proofs.ColumnLengths.{an_element}
use Rattle.number_tests.proofs.FallTargets.{fall_target}
use Rattle.number_tests.specs.Failing.{MultipliersFail, before}
use Rattle.number_tests.specs.Proved.{fall_of}
use Rattle.number_tests.specs.Shape.{IsLevelPart, list_at}
use Rattle.number_tests.specs.Targets.{AreFallColumns, fall_weights}
use Rattle.number_tests.specs.declared.flaw.Flaw.{Flaw}
use Rattle.number_tests.specs.declared.level_part.LevelPart.{LevelPart}
use Rattle.term_size.specs.Norm.{IsNorm}
use Rattle.termination_model.proofs.Lists.{by_places, one_element, place_below}
use Rattle.termination_model.specs.sizes.Replacing.{over_columns}
use Rattle.termination_model.specs.sizes.Sizes.{rows_of}
use Rattle.termination_model.specs.sizes.ShortSystems.{short_system}
use Rattle.cert_checker.specs.Fault.{FallFails, reason_of}
use Rattle.cert_checker.specs.Finding.{FallsFail, Finds, MappingFails, MappingsFail, NoneFails}
use Rattle.cert_checker.specs.Shape.{AreTogether}
use Rattle.cert_checker.specs.declared.fault.Fault.{Fault}
use Rattle.cert_checker.specs.declared.reason.Reason.{Reason}
use Rattle.cert_checker.specs.declared.reason.Reason.TheVariants as reason
use Rattle.cert_checker.proofs.FindLaws.{finds_fact, finds_none, finds_same, length_from, length_lines, same_lines}
use Rattle.cert_checker.proofs.FlawLaws.{one_flaw, same_number, shown_holds}

-- how many falls a clause has
abbrev pub falls_in : List (List Multipliers) → ℕ
falls_in mss = before (λ (ms : List Multipliers). length ms) mss (length mss)

pub falls_counted : (k : ℕ) (mss : List (List Multipliers)) → length (facts_from 0 (λ j ms. lines_from 0 (falls_line k j) ms) mss) ≡ falls_in mss
falls_counted k mss = length_from (λ j ms. lines_from 0 (falls_line k j) ms) (λ (ms : List Multipliers). length ms) (λ j ms. length_lines (falls_line k j) 0 ms) 0 mss

module _ (rows columns : List (List ℤ)) (heads calls : List LevelPart) (k j m : ℕ) (head call : LevelPart) (eh : slice_get heads m ≡ Some head) (ec : slice_get calls m ≡ Some call) (by : Multipliers) where
  mapping_fails : (why : Reason) → MappingFails rows columns heads calls (suc m) by.list by.scale why
      → (f : Flaw) × MultipliersFail rows by.list (over_columns columns (fall_weights head call)) by.scale f × (why ≡ reason_of f reason.Measure)
  mapping_fails why fault =
      let first : fault.head ≡ head = one_element heads m fault.head head fault.head_there eh in
      let second : fault.call ≡ call = one_element calls m fault.call call fault.call_there ec in (
        fault.flaw,
        subst (λ (x : LevelPart). MultipliersFail rows by.list (over_columns columns (fall_weights head x)) by.scale fault.flaw) second
            (subst (λ (x : LevelPart). MultipliersFail rows by.list (over_columns columns (fall_weights x fault.call)) by.scale fault.flaw) first fault.fails),
        fault.why_is,
      )

  shown_mapping : IsShown rows (over_columns columns (fall_weights head call)) by → NoneFails (MappingsFail rows columns heads calls) (falls_line k j m by ∷ [])
  shown_mapping shown = (
    λ why fault. let (f, failing, is) = mapping_fails why fault in shown_holds rows by.list (over_columns columns (fall_weights head call)) by.scale by refl refl shown f failing,
    tt,
  )

  pub failing_mapping : (f : Flaw) → MultipliersFail rows by.list (over_columns columns (fall_weights head call)) by.scale f → (fault : Fault) → fault.reason ≡ reason_of f reason.Measure → fault.line ≡ u64_saturate fault.line
      → Finds (MappingsFail rows columns heads calls) fault.line (falls_line k j m by ∷ []) (Some fault)
  failing_mapping f failing fault because line =
      finds_fact (MappingsFail rows columns heads calls) fault.line (falls_line k j m by) fault line
      (record { head = head; head_there = eh; call = call; call_there = ec; flaw = f; fails = failing; why_is = because })
      (λ other also.
      let (g, others, is) = mapping_fails other also in
      let same : f ≡ g = one_flaw rows by.list (over_columns columns (fall_weights head call)) by.scale f g failing others in
      same_number fault.reason other (because ∙ ap (λ (x : Flaw). reason_of x reason.Measure) same ∙ sym is))

-- mappings that are shown, up to a place, do not fail
pub shown_before : (rows columns : List (List ℤ)) (heads calls : List LevelPart) (ms : List Multipliers) (n : ℕ) → length heads ≡ length ms → length calls ≡ length ms
    → ((m : ℕ) → m < n → (head call : LevelPart) (by : Multipliers) → slice_get heads m ≡ Some head → slice_get calls m ≡ Some call → slice_get ms m ≡ Some by → IsShown rows (over_columns columns (fall_weights head call)) by)
    → (k j m : ℕ) → m < n → (by : Multipliers) → slice_get ms m ≡ Some by → NoneFails (MappingsFail rows columns heads calls) (falls_line k j m by ∷ [])
shown_before rows columns heads calls ms n heads_count calls_count shown k j m lt by e =
    let (head, eh) = an_element heads m (omega (arith, place_below ms m by e, heads_count)) in
    let (call, ec) = an_element calls m (omega (arith, place_below ms m by e, calls_count)) in
    shown_mapping rows columns heads calls k j m head call eh ec by (shown m lt head call by eh ec e)

-- the falls at a call of a clause, counted from 0
module _ (expression : ℕ → Tree → List ℤ) (p : Listing) (comps : Partition) (parts : Parts) (k j : ℕ) (c : Clause) (b : Atom) (at : slice_get p.clauses k ≡ Some c) (call_at : slice_get c.body j ≡ Some b) where
  -- what fails is of this clause and this call
  module _ (n : ℕ) (x : Multipliers) (why : Reason) (fault : FallFails expression p comps parts.rows parts.levels (suc k) (suc j) (suc n) x.list x.scale why) where
    moved : (T : Clause → Atom → Type 0) → T fault.clause fault.call → T c b
    moved T told =
        let clause : fault.clause ≡ c = one_element p.clauses k fault.clause c fault.there at in
        let there : slice_get c.body j ≡ Some fault.call = subst (λ (y : Clause). slice_get y.body j ≡ Some fault.call) clause fault.call_there in
        let call : fault.call ≡ b = one_element c.body j fault.call b there call_at in
        subst (λ (y : Clause). T y b) clause (subst (T fault.clause) call told)

  -- no fall is asked at a call of another component
  pub no_falls : ¬ AreTogether comps c.head.pred.0 b.pred.0 → (ms : List Multipliers) → NoneFails (FallsFail expression p comps parts) (lines_from 0 (falls_line k j) ms)
  no_falls apart ms =
      finds_none (FallsFail expression p comps parts) (λ m x. falls_line k j m x ∷ []) (λ x. 1) (λ m x. refl) ms
      (λ m x e. (λ why fault. apart (moved m x why fault (λ y a. AreTogether comps y.head.pred.0 a.pred.0) fault.own), tt))

  -- at a call of the clause's own component a fall fails as a mapping does over the columns
  module _ (size : (ℕ → ℕ) → Tree → ℕ) (truth : (ℕ → Bool) → Tree → Bool) (norm : IsNorm size truth expression)
      (own : AreTogether comps c.head.pred.0 b.pred.0) (columns : List (List ℤ)) (are : AreFallColumns (map (expression c.vars) c.head.args) (map (expression c.vars) b.args) c.vars columns)
      (head_parts : AllByRecursion (IsLevelPart (length c.head.args)) (list_at parts.levels c.head.pred.0)) where
    abbrev rows : List (List ℤ)
    rows = short_system expression (rows_of parts.rows) c.vars (take j c.body)

    abbrev heads : List LevelPart
    heads = list_at parts.levels c.head.pred.0

    abbrev calls : List LevelPart
    calls = list_at parts.levels b.pred.0

    target : (n : ℕ) (head call : LevelPart) → slice_get heads n ≡ Some head → over_columns columns (fall_weights head call) ≡ fall_of expression c b head call
    target n head call e = fall_target size truth expression norm c b head call columns (by_places (IsLevelPart (length c.head.args)) heads head_parts n head e).each are

    to_fall : (n : ℕ) (x : Multipliers) (why : Reason) → MappingFails rows columns heads calls (suc n) x.list x.scale why → FallFails expression p comps parts.rows parts.levels (suc k) (suc j) (suc n) x.list x.scale why
    to_fall n x why fault =
        let back : j ≡ suc j - 1 = omega arith in
        record {
          clause = c;
          there = at;
          call = b;
          call_there = call_at;
          own = own;
          head_part = fault.head;
          head_there = fault.head_there;
          call_part = fault.call;
          part_there = fault.call_there;
          flaw = fault.flaw;
          fails = subst (λ (i : ℕ). MultipliersFail (short_system expression (rows_of parts.rows) c.vars (take i c.body)) x.list (fall_of expression c b fault.head fault.call) x.scale fault.flaw) back
              (subst (λ (z : List ℤ). MultipliersFail rows x.list z x.scale fault.flaw) (target n fault.head fault.call fault.head_there) fault.fails);
          why_is = fault.why_is;
        }

    from_fall : (n : ℕ) (x : Multipliers) (why : Reason) → FallFails expression p comps parts.rows parts.levels (suc k) (suc j) (suc n) x.list x.scale why → MappingFails rows columns heads calls (suc n) x.list x.scale why
    from_fall n x why fault =
        let back : suc j - 1 ≡ j = omega arith in
        let head_there : slice_get heads n ≡ Some fault.head_part = moved n x why fault (λ y a. slice_get (list_at parts.levels y.head.pred.0) n ≡ Some fault.head_part) fault.head_there in
        let fails = moved n x why fault
        (λ y a. MultipliersFail (short_system expression (rows_of parts.rows) y.vars (take (suc j - 1) y.body)) x.list (fall_of expression y a fault.head_part fault.call_part) x.scale fault.flaw) fault.fails in
        record {
          head = fault.head_part;
          head_there = head_there;
          call = fault.call_part;
          call_there = moved n x why fault (λ y a. slice_get (list_at parts.levels a.pred.0) n ≡ Some fault.call_part) fault.part_there;
          flaw = fault.flaw;
          fails = subst (λ (z : List ℤ). MultipliersFail rows x.list z x.scale fault.flaw) (sym (target n fault.head_part fault.call_part head_there))
              (subst (λ (i : ℕ). MultipliersFail (short_system expression (rows_of parts.rows) c.vars (take i c.body)) x.list (fall_of expression c b fault.head_part fault.call_part) x.scale fault.flaw) back fails);
          why_is = fault.why_is;
        }

    pub own_falls : (ms : List Multipliers) (first : ℕ) (o : Option Fault) → Finds (MappingsFail rows columns heads calls) first (lines_from 0 (falls_line k j) ms) o
        → Finds (FallsFail expression p comps parts) first (lines_from 0 (falls_line k j) ms) o
    own_falls ms first o found =
        finds_same (MappingsFail rows columns heads calls) (FallsFail expression p comps parts) (lines_from 0 (falls_line k j) ms)
        (same_lines (MappingsFail rows columns heads calls) (FallsFail expression p comps parts) (falls_line k j) 0 ms (λ m x e why. (to_fall (0 + m) x why, from_fall (0 + m) x why))) first o found
