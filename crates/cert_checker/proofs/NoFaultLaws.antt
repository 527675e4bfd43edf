-- A certificate is valid exactly where it has no fault.
use Rattle.std.proofs.Common.{◌≡◌, ◌≢◌, ◌↔◌, inl, inr, ℕ, zero, suc, ◌-◌, ◌<◌, List, length, slice_get, Some, Result, Ok, Err, refl, sym, subst, ◌∙◌, arith}
use Rattle.std.proofs.lemmas.Bool.{cases_lt}
use Rattle.std.specs.List.{AllPairs}
use Rattle.call_components.specs.Partition.{AreComponents, Partition}
use Rattle.certificate.specs.declared.fact.Fact.{Fact}
use Rattle.cert_structure.proofs.ComponentLemmas.{structure, texts_differ}
use Rattle.cert_structure.proofs.FaultLemmas.{left_fits, no_fault, read_fault}
use Rattle.fact_reading.proofs.SectionLemmas.{same_ok}
use Rattle.cert_structure.proofs.WholeLemmas.{whole_back, whole_sound}
use Rattle.cert_structure.specs.Structure.{AreNamed, IsStructured}
use Rattle.cert_structure.specs.Walk.{read_whole}
use Rattle.fact_reading.specs.Walk.{Wrong}
use Rattle.cert_structure.specs.declared.parts.Parts.{Parts}
use Rattle.cti_terms.specs.Listing.{IsProgram, Listing}
use Rattle.term_size.specs.AnyNorm.{any_row, any_truth}
use Rattle.termination_model.proofs.Lists.{from_places}
use Rattle.cert_checker.specs.Fault.{ClaimFails, IsFault, IsFirstAt, failing_fact, reason_number, wrong_structure}
use Rattle.cert_checker.specs.Finding.{NoneFails}
use Rattle.cert_checker.specs.Norms.{norm_in}
use Rattle.cert_checker.specs.StructureFaults.{structure_reason}
use Rattle.cert_checker.specs.Valid.{IsValid}
use Rattle.cert_checker.specs.declared.reason.Reason.{Reason}
use Rattle.cert_checker.proofs.AnyPartition.{parts_hold}
use Rattle.cert_checker.proofs.FindLaws.{none_first}
use Rattle.cert_checker.proofs.HoldingParts.{holding_unfailing}
use Rattle.cert_checker.proofs.UnfailingParts.{unfailing_holding}

-- where no fact is the first that fails, none fails: the first that fails, for the smallest reason, would be
module _ (Fails : Fact → Reason → Type 0) (facts : List Fact) (none : (n : ℕ) (why : Reason) → ¬ IsFirstAt Fails facts n why) where
  -- for no reason, from the smallest on
  fact_unfailing : (n : ℕ) (f : Fact) → slice_get facts n ≡ Some f → ((i : ℕ) (g : Fact) (other : Reason) → i < n → slice_get facts i ≡ Some g → ¬ Fails g other)
      → (m : ℕ) (why : Reason) → reason_number why < m → ¬ Fails f why
  fact_unfailing n f e earlier zero why lt fails = omega (arith, lt)
  fact_unfailing n f e earlier (suc m) why lt fails =
      none n why (record {
        fact = f;
        there = e;
        fails = fails;
        smallest = λ other also. elim (cases_lt (reason_number other) (reason_number why)) [
          | inl less ↦ absurd (fact_unfailing n f e earlier m other (omega (arith, less, lt)) also)
          | inr le ↦ le
        ];
        earlier = earlier;
      })

  before_unfailing : (n i : ℕ) (f : Fact) (why : Reason) → i < n → slice_get facts i ≡ Some f → ¬ Fails f why
  before_unfailing zero i f why lt e = absurd (omega (arith, lt))
  before_unfailing (suc n) i f why lt e = elim (cases_lt i n) [
    | inl less ↦ before_unfailing n i f why less e
    | inr le ↦ fact_unfailing i f e (λ k g other below at. before_unfailing n k g other (omega (arith, below, lt)) at) (suc (reason_number why)) why (omega arith)
  ]

  pub none_unfailing : NoneFails Fails facts
  none_unfailing = from_places (λ f. (why : Reason) → ¬ Fails f why) facts (λ i f e why. before_unfailing (suc i) i f why (omega arith) e)

module _ (p : Listing) (names : List (List ℕ)) (facts : List Fact) (prog : IsProgram p) (named : AreNamed names p.preds) (distinct : AllPairs (λ a b. a ≢ b) names) where
  -- facts have one list of parts
  pub one_parts : (comps : Partition) → AreComponents p comps → (one other : Parts) → IsStructured p names comps one facts → IsStructured p names comps other facts → one ≡ other
  one_parts comps are one other a b = same_ok one other (sym (read one a) ∙ read other b)
    where
      read : (parts : Parts) → IsStructured p names comps parts facts → read_whole p names comps facts ≡ Ok parts
      read parts s =
          subst (λ (xs : List Fact). read_whole p names comps xs ≡ Ok parts) (sym s.is)
          (whole_back p names comps are (texts_differ p names prog distinct named) parts s.notes s.shape s.are_notes)

  abbrev Fails : Partition → Parts → Fact → Reason → Type 0
  Fails comps parts = ClaimFails p names comps parts

  -- a valid certificate has no fault
  valid_faultless : IsValid p names facts → (line : ℕ) (why : Reason) → ¬ IsFault p names facts line why
  valid_faultless valid line _ (wrong_structure why has) =
      no_fault p names has.comps facts valid.parts line why (structure p valid.comps has.comps valid.components has.components names valid.parts facts valid.structured) has.fault
  valid_faultless valid line _ (failing_fact why has) =
      let s = structure p valid.comps has.comps valid.components has.components names valid.parts facts valid.structured in
      let same : valid.parts ≡ has.parts = one_parts has.comps has.components valid.parts has.parts s has.structured in
      let n = norm_in names valid.parts.norm in
      let hold = parts_hold (any_truth n) (any_row n) p valid.comps has.comps valid.components has.components valid.parts valid.hold in
      let none = holding_unfailing (any_truth n) (any_row n) p names has.comps valid.parts prog named distinct has.components s.shape s.notes s.are_notes hold in
      let first = subst (λ (x : Parts). IsFirstAt (Fails has.comps x) facts (line - 1) why) (sym same) has.first in
      none_first (Fails has.comps valid.parts) facts (line - 1) why (subst (NoneFails (Fails has.comps valid.parts)) (sym s.is) none) first

  -- a certificate without a fault is valid
  module _ (comps : Partition) (are : AreComponents p comps) (none : (line : ℕ) (why : Reason) → ¬ IsFault p names facts line why) where
    structured_valid : (parts : Parts) → IsStructured p names comps parts facts → IsValid p names facts
    structured_valid parts s =
        let none_fails = none_unfailing (Fails comps parts) facts none_first_at in
        let n = norm_in names parts.norm in
        let hold = unfailing_holding (any_truth n) (any_row n) p names comps parts prog are s.shape s.notes (subst (NoneFails (Fails comps parts)) s.is none_fails) in
        record { comps = comps; components = are; parts = parts; structured = s; hold = hold }
      where
        none_first_at : (n : ℕ) (why : Reason) → ¬ IsFirstAt (Fails comps parts) facts n why
        none_first_at n why first =
            let at : n ≡ suc n - 1 = omega arith in
            none (suc n) why (failing_fact why (record {
              comps = comps;
              components = are;
              parts = parts;
              structured = s;
              counted = omega arith;
              first = subst (λ (k : ℕ). IsFirstAt (Fails comps parts) facts k why) at first;
            }))

    read_valid : (o : Result Parts Wrong) → read_whole p names comps facts ≡ o → IsValid p names facts
    read_valid (Ok parts) e = structured_valid parts (whole_sound p names comps are facts parts e)
    read_valid (Err w) e =
        let apart = texts_differ p names prog distinct named in
        let fits = left_fits p names comps are apart facts w e in
        let line = suc (length facts) - w.0 in
        absurd (none line (structure_reason w.1) (wrong_structure w.1 (record { comps = comps; components = are; fault = read_fault p names comps are apart facts w line e (omega (arith, fits)) })))

    faultless_valid : IsValid p names facts
    faultless_valid = read_valid (read_whole p names comps facts) refl

  pub valid_exactly : (comps : Partition) → AreComponents p comps → IsValid p names facts ↔ ((line : ℕ) (why : Reason) → ¬ IsFault p names facts line why)
  valid_exactly comps are = (valid_faultless, faultless_valid comps are)
