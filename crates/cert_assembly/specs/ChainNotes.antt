-- To believe, for the modes.
-- The notes of a chain: for each step its image and the rows after it, and whether one of them is weak.
--
-- To believe: all of this file.
use Rattle.std.specs.Prelude.{◌≡◌, ◌-◌, ℕ, ℤ, Bool, if◌then◌else◌, List, [], ◌∷◌, ◌++◌}
use Rattle.call_components.specs.Partition.{Partition}
use Rattle.cert_structure.specs.Numbered.{facts_from}
use Rattle.cert_structure.specs.Order.{pred_text}
use Rattle.cert_structure.specs.Shape.{head_of}
use Rattle.certificate.specs.declared.fact.Fact.{Fact}
use Rattle.certificate.specs.declared.fact.Fact.TheVariants as fact
use Rattle.certificate.specs.declared.how.CertHow.{CertHow}
use Rattle.certificate.specs.declared.how.CertHow.TheVariants as cert
use Rattle.cti_terms.specs.Listing.{Listing}
use Rattle.cti_terms.specs.Tree.{Tree}
use Rattle.linear_rows.specs.declared.row.Rows.{Rows}
use Rattle.termination_model.specs.chains.Chain.{IsLegalChain}
use Rattle.termination_model.specs.chains.ChainSteps.{Step}
use Rattle.termination_model.specs.sizes.Sizes.{rows_of}
use Rattle.termination_model.specs.declared.how.How.{How}
use Rattle.termination_model.specs.declared.how.How.TheVariants as how

-- what a step did, as it is written
abbrev pub how_noted : How → CertHow
how_noted how.None = cert.None
how_noted how.First = cert.First
how_noted how.Join = cert.Join
how_noted how.Keep = cert.Keep
how_noted how.Same = cert.Same

-- a note, where it is wanted
abbrev pub noted_if : Bool → Fact → List Fact
noted_if wanted note = if wanted then note ∷ [] else []

module _ (p : Listing) (names : List (List ℕ)) where
  -- the notes of the step of this number
  abbrev pub step_notes : ℕ → Step → List Fact
  step_notes n s =
      fact.Image n s.clause (pred_text p names (head_of p (s.clause - 1))) s.image
      ∷ (fact.Step n (pred_text p names (head_of p (s.clause - 1))) (how_noted s.how) s.rows
      ∷ (noted_if s.image_weak (fact.WeakImage n) ++ noted_if s.weak (fact.WeakStep n)))

  -- the notes of steps, which are numbered from 1
  abbrev pub chain_notes : List Step → List Fact
  chain_notes steps = facts_from 1 step_notes steps

-- the notes are those of a legal chain that ends with these size rows
pub record IsChain (speaks : List ℤ → Bool) (expression : ℕ → Tree → List ℤ) (p : Listing) (comps : Partition) (names : List (List ℕ)) (rows : List Rows) (notes : List Fact) : Type 0 where
  pub steps : List Step
  pub legal : IsLegalChain speaks expression p comps steps (rows_of rows)
  pub are : notes ≡ chain_notes p names steps
