-- The line of a predicate's modes, by the certificate of a session.
use Rattle.std.proofs.Common.{◌≡◌, ℕ, zero, suc, List, [], ◌∷◌, slice_get, Some, inl, inr, ap, subst}
use Rattle.cert_checker.specs.Bounding.{ModesAreBounded}
use Rattle.cert_checker.specs.Valid.{IsValid}
use Rattle.cert_structure.specs.Order.{pred_text}
use Rattle.certificate.specs.Text.{fact_text}
use Rattle.certificate.specs.declared.fact.Fact.TheVariants.{Terminates}
use Rattle.cti_terms.specs.Listing.{Listing}
use Rattle.kept_program.specs.ProgramParts.{ProgramParts, certificate_facts}
use Rattle.linear_rows.specs.Members.{In}
use Rattle.report.specs.Exact.{IsExact}
use Rattle.report.specs.Solution.{IsExactCertificate}
use Rattle.edit_texts.specs.Told.{IsLine}
use Rattle.clause_normal.specs.Definite.{program_of}
use Rattle.prolog_terms.specs.Clauses.{Clause}

-- what stands at a place is in the list
in_at : {X : Type 0} (xs : List X) (k : ℕ) (x : X) → slice_get xs k ≡ Some x → In x xs
in_at [] k x e = absurd (let d = e in cc)
in_at (y ∷ xs) zero x e = inl (let same : y ≡ x = cc in same)
in_at (y ∷ xs) (suc k) x e = inr (in_at xs k x e)

pub told_line : (names : List (List ℕ)) (cs : List Clause) (k : ProgramParts) → k.program ≡ program_of names cs → IsExactCertificate k.program names (certificate_facts names k) → (q : ℕ) (modes : List (List ℕ))
    → slice_get (certificate_facts names k) (suc q) ≡ Some (Terminates (pred_text k.program names q) modes)
    → IsLine names (cs, q) (fact_text (Terminates (pred_text k.program names q) modes))
told_line names cs k program is q modes at =
    let facts = certificate_facts names k in
    record {
      facts = facts;
      valid = subst (λ (p : Listing). IsValid p names facts) program is.valid;
      exact = subst (λ (p : Listing). IsExact p names facts) program is.exact;
      bounded = subst (λ (p : Listing). ModesAreBounded p names facts) program is.bounded;
      of_term_size = is.of_term_size;
      modes = modes;
      among = subst (λ (p : Listing). In (Terminates (pred_text p names q) modes) facts) program (in_at facts (suc q) _ at);
      is = ap (λ (p : Listing). fact_text (Terminates (pred_text p names q) modes)) program;
    }
