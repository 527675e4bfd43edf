-- A call of a clause's own component: it can be tested, and what is found there is a fall of the clause.
use Rattle.std.proofs.Common.{◌≡◌, ◌↔◌, ℕ, ℤ, Bool, List, map, take, length, slice_get, Option, Some, None, Result, Ok, Err, IfOk, sym, ap, subst, ◌∙◌}
use Rattle.std.specs.List.{AllByRecursion}
use Rattle.call_components.specs.Partition.{Partition}
use Rattle.cert_structure.specs.Numbered.{lines_from}
use Rattle.cert_structure.specs.Order.{falls_line}
use Rattle.cert_structure.specs.declared.parts.Parts.{Parts}
use Rattle.cti_terms.specs.Listing.{Listing, IsAtom, IsClause}
use Rattle.cti_terms.specs.Tree.{Tree}
use Rattle.cti_terms.specs.declared.atom_list.Atom.{Atom}
use Rattle.cti_terms.specs.declared.clauses.Clause.{Clause}
use Rattle.linear_rows.specs.Plain.{plain_rows}
use Rattle.linear_rows.specs.Showing.{AreMultipliers, IsShown}
use Rattle.linear_rows.specs.declared.multipliers.Multipliers.{Multipliers}
use Rattle.linear_rows.specs.declared.system.System.{System}
use Rattle.number_tests.proofs.CallFacts.{mappings_decided}
use Rattle.number_tests.proofs.RowSteps.{system_count}
use Rattle.number_tests.proofs.Sized.{sized_clause}
use Rattle.number_tests.specs.Proved.{MappingsFall}
use Rattle.number_tests.specs.Shape.{list_at, row_count}
use Rattle.number_tests.specs.Systems.{IsSizedAtom, IsSystemUpTo}
use Rattle.number_tests.specs.Targets.{AreFallColumns, fall_weights}
use Rattle.number_tests.specs.declared.level_part.LevelPart.{LevelPart}
use Rattle.term_size.specs.Norm.{IsNorm}
use Rattle.termination_model.proofs.Lists.{by_places}
use Rattle.termination_model.specs.sizes.Replacing.{over_columns}
use Rattle.termination_model.specs.sizes.ShortSystems.{short_system}
use Rattle.termination_model.specs.sizes.Sizes.{AreSizes, rows_of}
use Rattle.cert_checker.specs.CallFalls.{FindsCall, IsReadyCall}
use Rattle.cert_checker.specs.Finding.{FallsFail, Finds, MappingsFail}
use Rattle.cert_checker.specs.Shape.{AreTogether, HaveFalls, HaveLevels}
use Rattle.cert_checker.specs.declared.fault.Fault.{Fault}
use Rattle.cert_checker.proofs.FallLaws.{own_falls}
use Rattle.cert_checker.proofs.LevelFacts.{in_levels, level_parts}

-- what the test of a call's mappings finds, over the columns of the head and the call
module _ (size : (ℕ → ℕ) → Tree → ℕ) (truth : (ℕ → Bool) → Tree → Bool) (expression : ℕ → Tree → List ℤ) (norm : IsNorm size truth expression)
    (levels : List (List LevelPart)) (c : Clause) (b : Atom) (s : System) (ms : List Multipliers) (ready : IsReadyCall expression levels c b s ms)
    (columns : List (List ℤ)) (are : AreFallColumns (map (expression c.vars) c.head.args) (map (expression c.vars) b.args) c.vars columns) where
  abbrev heads : List LevelPart
  heads = list_at levels c.head.pred.0

  abbrev calls : List LevelPart
  calls = list_at levels b.pred.0

  pub finds_call : {E : Type 0} → (first : ℕ) (r : Result (Option Fault) E)
      → IfOk r (λ o. (o ≡ None) ↔ ((m : ℕ) (head call : LevelPart) (by : Multipliers) → slice_get heads m ≡ Some head → slice_get calls m ≡ Some call → slice_get ms m ≡ Some by
      → IsShown (plain_rows s.rows.list) (over_columns columns (fall_weights head call)) by))
      → IfOk r (λ o. (k j : ℕ) → Finds (MappingsFail (plain_rows s.rows.list) columns heads calls) first (lines_from 0 (falls_line k j) ms) o)
      → IfOk r (FindsCall expression levels c b s ms first)
  finds_call first (Ok o) hold finds = record {
    hold = mappings_decided c b columns heads calls ready.heads ready.calls size truth expression norm (o ≡ None) (plain_rows s.rows.list) ms are hold;
    columns = columns;
    are = are;
    finds = finds;
  }
  finds_call first (Err e) hold finds = tt

-- a call of a clause's own component, with the system of the atoms before it and the multipliers of the certificate
pub record IsOwnCall (expression : ℕ → Tree → List ℤ) (p : Listing) (comps : Partition) (parts : Parts) (k n : ℕ) (c : Clause) (b : Atom) (s : System) (ms : List Multipliers) : Type 0 where
  pub sizes : AreSizes p.preds parts.rows
  pub levels : HaveLevels p comps parts
  pub falls : HaveFalls p comps parts
  pub there : slice_get p.clauses k ≡ Some c
  pub sound : IsClause p.preds c
  pub at : slice_get c.body n ≡ Some b
  pub together : AreTogether comps c.head.pred.0 b.pred.0
  pub system : IsSystemUpTo expression (rows_of parts.rows) c n s
  pub multipliers : ms ≡ list_at (list_at parts.falls k) n

module _ {expression : ℕ → Tree → List ℤ} {p : Listing} {comps : Partition} {parts : Parts} {k n : ℕ} {c : Clause} {b : Atom} {s : System} {ms : List Multipliers} (call : IsOwnCall expression p comps parts k n c b s ms) where
  pub call_ready : IsReadyCall expression parts.levels c b s ms
  call_ready =
      let atom = by_places (IsAtom p.preds c.vars) c.body call.sound.body n b call.at in
      let sized = by_places (IsSizedAtom parts.rows c.vars) c.body (sized_clause p.preds parts.rows c call.sizes call.sound).body n b call.at in
      let count : length ms ≡ length (list_at parts.levels c.head.pred.0) = ap length call.multipliers ∙ call.falls.mappings k n c b call.there call.at call.together in
      record {
        few = call.sound.few;
        small = sized.small;
        below = sized.below;
        head_there = in_levels p comps parts call.levels c.vars c.head call.sound.head;
        call_there = in_levels p comps parts call.levels c.vars b atom;
        heads = level_parts p comps parts call.levels c.vars c.head call.sound.head;
        calls = level_parts p comps parts call.levels c.vars b atom;
        heads_count = sym count;
        calls_count = sym (call.levels.members c.head.pred.0 b.pred.0 call.together) ∙ sym count;
        multipliers = subst (λ (m : ℕ). AllByRecursion (AreMultipliers m) ms) (sym (system_count expression (rows_of parts.rows) c n s call.system))
            (subst (AllByRecursion (AreMultipliers (row_count (rows_of parts.rows) (take n c.body)))) (sym call.multipliers) (call.falls.multipliers k n c b call.there call.at call.together));
        width = call.system.width;
        widths = call.system.widths;
        head_width = call.system.head_width;
        head = call.system.head;
      }

  -- what is found there is what the multipliers show of the clause, and the first of its facts that fails
  module _ {levels : List (List LevelPart)} {first : ℕ} {o : Option Fault} (same : levels ≡ parts.levels) (found : FindsCall expression levels c b s ms first o) where
    pub call_decided : (o ≡ None) ↔ MappingsFall expression (short_system expression (rows_of parts.rows) c.vars (take n c.body)) c b (list_at parts.levels c.head.pred.0) (list_at parts.levels b.pred.0) ms
    call_decided = rw (← call.system.rows, ← same) found.hold

    pub call_found : (size : (ℕ → ℕ) → Tree → ℕ) (truth : (ℕ → Bool) → Tree → Bool) → IsNorm size truth expression → Finds (FallsFail expression p comps parts) first (lines_from 0 (falls_line k n) ms) o
    call_found size truth norm =
        own_falls expression p comps parts k n c b call.there call.at size truth norm call.together found.columns found.are (level_parts p comps parts call.levels c.vars c.head call.sound.head) ms first o
        (rw (← call.system.rows, ← same) (found.finds k n))
