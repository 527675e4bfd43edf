-- Private.
-- The sections of a certificate's facts, and the line that each begins at. Nothing here has to be believed.
use Rattle.std.specs.Io.Iter.{u64_saturate}
use Rattle.std.specs.Prelude.{◌≡◌, ℕ, suc, ◌+◌, List, ◌++◌, length}
use Rattle.certificate.specs.declared.fact.Fact.{Fact}
use Rattle.cert_structure.specs.Order.{fall_facts, ground_facts, head_facts, level_facts, pre_facts, proof_facts, refuted_facts, size_facts}
use Rattle.cert_structure.specs.declared.parts.Parts.{Parts}
use Rattle.cti_terms.specs.Listing.{Listing}
use Rattle.linear_rows.specs.declared.row.Rows.{Rows}
use Rattle.number_tests.specs.Failing.{before}
use Rattle.cert_checker.specs.declared.lines.Lines.{Lines}

-- how many items lists have together, and lists of lists
abbrev pub count_in : {X : Type 0} → List (List X) → ℕ
count_in xss = before (λ xs. length xs) xss (length xss)

abbrev pub count_all : {X : Type 0} → List (List (List X)) → ℕ
count_all xsss = before count_in xsss (length xsss)

-- how many size rows there are
abbrev pub rows_in : List Rows → ℕ
rows_in rows = before (λ (r : Rows). length r.list) rows (length rows)

-- the first lines of sections, each after the facts before it
pub record AreLines (parts : Parts) (lines : Lines) : Type 0 where
  pub modes : lines.modes ≡ suc (length (head_facts parts.norm))
  pub sizes : lines.sizes ≡ u64_saturate (lines.modes + length parts.modes)
  pub row_proofs : lines.row_proofs ≡ u64_saturate (lines.sizes + rows_in parts.rows)
  pub measures : lines.measures ≡ u64_saturate (lines.row_proofs + count_in parts.row_proofs + count_in parts.grounds)
  pub falls : lines.falls ≡ u64_saturate (lines.measures + count_in parts.levels)
  pub refutations : lines.refutations ≡ u64_saturate (lines.falls + count_all parts.falls + count_all parts.preconditions)

-- the facts from the size rows on, but for the notes
abbrev pub number_facts : Listing → List (List ℕ) → Parts → List Fact
number_facts p names parts =
    size_facts p names parts.rows
    ++ (proof_facts parts.row_proofs
    ++ (ground_facts p names parts.grounds
    ++ (level_facts p names parts.levels
    ++ (fall_facts parts.falls
    ++ (pre_facts p names parts.preconditions
    ++ refuted_facts p names parts.refutations)))))
