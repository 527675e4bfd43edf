-- Private.
-- The facts of parts in two halves, as they are written. Nothing here has to be believed.
use Rattle.std.specs.Prelude.{ℕ, suc, ℤ, List, ◌∷◌, ◌++◌, map}
use Rattle.certificate.specs.declared.cell.CertCell.{CertCell}
use Rattle.certificate.specs.declared.fact.Fact.{Fact}
use Rattle.certificate.specs.declared.pred_text.PredText.{PredText}
use Rattle.cti_terms.specs.Listing.{Listing}
use Rattle.fact_reading.specs.Numbered.{facts_from, lines_from}
use Rattle.cert_structure.specs.declared.parts.Parts.{Parts}
use Rattle.cert_structure.specs.Order.{pred_text, cell_of, level_facts, fall_facts, pre_facts, refuted_facts}
use Rattle.cert_writing.specs.declared.model.WrittenModel.{WrittenModel}

-- the facts of either kind of certificate for modes, size rows, their proofs, and ground rows, by how each of them is
-- made
abbrev pub model_facts : {F : Type 0} → (PredText → List (List ℕ) → F) → (PredText → ℕ → List ℤ → F) → (ℕ → ℕ → ℤ → List ℤ → F) → (PredText → ℕ → List CertCell → F)
    → Listing → List (List ℕ) → WrittenModel → List F
model_facts mode_fact size_fact proof_fact ground_fact p names m =
    lines_from 0 (λ a ms. mode_fact (pred_text p names a) ms) m.modes.now
    ++ facts_from 0 (λ a r. lines_from 0 (λ i x. size_fact (pred_text p names a) (suc i) (x.constant ∷ x.coeffs)) r.list) m.rows.now
    ++ facts_from 0 (λ k ms. lines_from 0 (λ i x. proof_fact (suc k) (suc i) x.scale x.list) ms) m.row_proofs.now
    ++ facts_from 0 (λ a cs. lines_from 0 (λ i x. ground_fact (pred_text p names a) (suc i) (map cell_of x)) cs) m.grounds.now

abbrev pub mapping_facts : Listing → List (List ℕ) → Parts → List Fact
mapping_facts p names parts = level_facts p names parts.levels ++ fall_facts parts.falls ++ pre_facts p names parts.preconditions ++ refuted_facts p names parts.refutations
