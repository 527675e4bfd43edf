-- An assembled certificate is valid and exact.
use Rattle.std.proofs.Common.{◌≡◌, ◌++◌, ℕ, List, Option, Ok, Err, ap, subst, sym, ◌∙◌}
use Rattle.std.specs.Prelude.{IfOk, Result}
use Rattle.call_components.specs.Partition.{AreComponents, Partition}
use Rattle.certificate.specs.declared.fact.Fact.{Fact}
use Rattle.cert_checker.specs.Norms.{norm_in}
use Rattle.cert_checker.specs.Valid.{IsValid}
use Rattle.cert_structure.specs.Order.{fall_facts, ground_facts, head_facts, level_facts, mode_facts, pre_facts, proof_facts, refuted_facts, size_facts}
use Rattle.cert_structure.specs.declared.parts.Parts.{Parts}
use Rattle.certificate.specs.declared.norm.CertNorm.{CertNorm}
use Rattle.cti_terms.specs.Listing.{IsProgram, Listing}
use Rattle.report.proofs.ValidParts.{parts_are_valid, parts_have_shape}
use Rattle.report.specs.Assembly.{IsAssembled, facts_in, notes_in}
use Rattle.report.specs.Exact.{IsExact}
use Rattle.report.specs.OfNorm.{IsOfNorm, certificate_norm}
use Rattle.term_size.specs.declared.any_norm.NormName.{NormName}
use Rattle.report.specs.declared.assembling.Assembled.{Assembled}

pub if_ok : {A E : Type 0} (r : Result A E) (P Q : A → Type 0) → ((x : A) → P x → Q x) → IfOk r P → IfOk r Q
if_ok (Ok x) P Q f h = f x h
if_ok (Err e) P Q f h = tt

-- the facts after those that name the norm
abbrev after_head : Listing → List (List ℕ) → Parts → List Fact → List Fact
after_head p names parts notes =
    mode_facts p names parts.modes
    ++ (size_facts p names parts.rows
    ++ (proof_facts parts.row_proofs
    ++ (ground_facts p names parts.grounds
    ++ (level_facts p names parts.levels
    ++ (fall_facts parts.falls
    ++ (pre_facts p names parts.preconditions
    ++ (refuted_facts p names parts.refutations
    ++ notes)))))))

module _ (p : Listing) (names : List (List ℕ)) (comps : Partition) (program : IsProgram p) (components : AreComponents p comps) (a : Assembled) (is : IsAssembled p names comps a) (facts : List Fact)
    (same : facts ≡ facts_in p names comps a) where
  pub valid_facts : IsValid p names facts
  valid_facts = subst (IsValid p names) (sym same) (parts_are_valid p names comps a.parts (notes_in p names comps a) program components is.are_notes is.counted is.numbers is.exact.modes)

  pub exact_facts : IsExact p names facts
  exact_facts = record {
    comps = comps;
    components = components;
    parts = a.parts;
    structured = record {
      notes = notes_in p names comps a;
      are_notes = is.are_notes;
      shape = parts_have_shape (norm_in names a.parts.norm) p comps a.parts program components is.counted is.numbers is.exact.modes;
      is = same;
    };
    exact = is.exact;
  }

  pub norm_facts : (asked : NormName) → a.parts.norm ≡ certificate_norm asked → IsOfNorm asked facts
  norm_facts asked named = (after_head p names a.parts (notes_in p names comps a), same ∙ ap (λ (n : Option CertNorm). head_facts n ++ after_head p names a.parts (notes_in p names comps a)) named)
