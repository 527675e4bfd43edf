-- There is one first fault at most, whatever partition is taken.
use Rattle.std.specs.Io.Iter.{u64_saturate}
use Rattle.std.proofs.Common.{◌≡◌, ℕ, ◌-◌, ℤ, Bool, List, [], ◌∷◌, Contains, length, slice_index_or, Option, None, Some, refl, sym, ap, subst, ◌∙◌, arith}
use Rattle.call_components.specs.Partition.{AreComponents, Partition}
use Rattle.certificate.specs.declared.fact.Fact.{Fact}
use Rattle.certificate.specs.declared.fact.Fact.TheVariants as fact
use Rattle.cert_modes.specs.Failing.{ModesFail}
use Rattle.cert_modes.specs.declared.fault.ModeReason.{ModeReason}
use Rattle.cert_modes.specs.declared.fault.ModeReason.TheVariants as mode
use Rattle.cert_structure.specs.Order.{listed}
use Rattle.cert_structure.specs.Structure.{IsStructured}
use Rattle.cert_structure.specs.declared.parts.Parts.{Parts}
use Rattle.cti_terms.specs.Listing.{Listing}
use Rattle.cti_terms.specs.Tree.{Tree}
use Rattle.number_tests.proofs.ColumnLengths.{an_element}
use Rattle.number_tests.specs.Failing.{SumsFail, fails_sums, wide_sums}
use Rattle.number_tests.specs.declared.flaw.Flaw.{Flaw}
use Rattle.number_tests.specs.declared.flaw.Flaw.TheVariants as flaw
use Rattle.number_tests.specs.declared.pair_point.PairPoint.{PairPoint}
use Rattle.term_size.specs.AnyNorm.{any_row, any_truth}
use Rattle.termination_model.proofs.Lists.{place_below}
use Rattle.cert_checker.specs.Fault.{ClaimFails, FactFails, IsFault, IsFirstAt, IsValueFault, failing_fact, reason_number, wrong_structure}
use Rattle.cert_checker.specs.Finding.{Finds}
use Rattle.cert_checker.specs.Norms.{norm_in}
use Rattle.cert_checker.specs.StructureFaults.{HasStructureFault, structure_fault}
use Rattle.fact_reading.specs.declared.stop.StructureReason.{StructureReason}
use Rattle.cert_checker.specs.declared.fault.Fault.{Fault}
use Rattle.cert_checker.specs.declared.reason.Reason.{Reason}
use Rattle.cert_checker.specs.declared.reason.Reason.TheVariants as reason
use Rattle.cert_checker.proofs.FindLaws.{none_first, one_first}
use Rattle.cert_checker.proofs.PreconditionMoves.{keeps_moves}
use Rattle.cert_checker.proofs.Partitions.{members_move, moved, recursion_moves, together_moves}
use Rattle.cert_checker.proofs.Validity.{OneStructure}

module _ (truth : (ℕ → Bool) → Tree → Bool) (expression : ℕ → Tree → List ℤ) (p : Listing) (names : List (List ℕ)) (one other : Partition) (a : AreComponents p one) (b : AreComponents p other) (parts : Parts) where
  modes_move : (q : ℕ) (m : ModeReason) → ModesFail truth p one parts q m → ModesFail truth p other parts q m
  modes_move q mode.Ground never = never
  modes_move q mode.Precondition never = λ k. never (keeps_moves truth p other one b a parts q k)
  modes_move q mode.Mode never = never

  sums_move : (ms ns : List ℕ) (xs : List PairPoint) → ((x : ℕ) → Contains ms x → Contains ns x) → (f : Flaw) → SumsFail expression p ms xs f → SumsFail expression p ns xs f
  sums_move ms ns xs within flaw.Wide (wide_sums unfit) = wide_sums unfit
  sums_move ms ns xs within flaw.Fails (fails_sums fit refuted) = fails_sums fit (λ sums. refuted (record { positive = sums.positive; fit = sums.fit; columns = λ x has. sums.columns x (within x has) }))

  fails_move : (x : Fact) (why : Reason) → FactFails p names truth expression one parts x why → FactFails p names truth expression other parts x why
  fails_move (fact.Terminates text ms) why fault = record { q = fault.q; named = fault.named; mode = fault.mode; fails = modes_move fault.q fault.mode fault.fails; why_is = fault.why_is }
  fails_move (fact.Size text i row) why fault = fault
  fails_move (fact.By k i scale ms) why fault = fault
  fails_move (fact.Measure text m coeffs offset) why fault =
      let (d, there) = moved p one other a b fault.c fault.q fault.is_in in
      record { q = fault.q; named = fault.named; c = d; is_in = there; none = recursion_moves p other one b a d fault.c fault.q there fault.is_in fault.none; not_zero = fault.not_zero; why_is = fault.why_is }
  fails_move (fact.Falls k j m scale ms) why fault = record {
    clause = fault.clause;
    there = fault.there;
    call = fault.call;
    call_there = fault.call_there;
    own = together_moves p one other a b fault.clause.head.pred.0 fault.call.pred.0 fault.own;
    head_part = fault.head_part;
    head_there = fault.head_there;
    call_part = fault.call_part;
    part_there = fault.part_there;
    flaw = fault.flaw;
    fails = fault.fails;
    why_is = fault.why_is;
  }
  fails_move (fact.Refuted text n) why fault =
      let (d, there) = moved p one other a b fault.c fault.q fault.is_in in
      let (ns, are) = an_element other.members d (b.within d fault.q there) in
      record {
        q = fault.q;
        named = fault.named;
        r = fault.r;
        there = fault.there;
        c = d;
        is_in = there;
        members = ns;
        are_members = are;
        flaw = fault.flaw;
        fails = sums_move fault.members ns fault.r.points (λ x has. members_move p one other a b fault.c d fault.q x fault.members ns fault.is_in there fault.are_members are has) fault.flaw fault.fails;
        why_is = fault.why_is;
      }
  fails_move (fact.Point k j t w) why fault = fault
  fails_move (fact.At k j t w) why fault = fault
  fails_move _ why fault = fault

pub first_moves : (truth : (ℕ → Bool) → Tree → Bool) (expression : ℕ → Tree → List ℤ) (p : Listing) (names : List (List ℕ)) (one other : Partition) → AreComponents p one → AreComponents p other → (parts : Parts) (facts : List Fact) (n : ℕ) (why : Reason)
    → IsFirstAt (FactFails p names truth expression one parts) facts n why → IsFirstAt (FactFails p names truth expression other parts) facts n why
first_moves truth expression p names one other a b parts facts n why is = record {
  fact = is.fact;
  there = is.there;
  fails = fails_move truth expression p names one other a b parts is.fact why is.fails;
  smallest = λ r fault. is.smallest r (fails_move truth expression p names other one b a parts is.fact r fault);
  earlier = λ i x r lt e fault. is.earlier i x r lt e (fails_move truth expression p names other one b a parts x r fault);
}

-- a reason by its number
reason_with : ℕ → Reason
reason_with n =
    slice_index_or
    (reason.Wide ∷ reason.Version ∷ reason.Missing ∷ reason.Extra ∷ reason.Shape ∷ reason.SizeRow ∷ reason.Measure ∷ reason.Ground ∷ reason.Precondition ∷ reason.Mode ∷ reason.Refutation ∷ [])
    n reason.Wide

its_reason : (r : Reason) → reason_with (reason_number r) ≡ r
unfolding reason_with
its_reason reason.Version = refl
its_reason reason.Missing = refl
its_reason reason.Extra = refl
its_reason reason.Shape = refl
its_reason reason.SizeRow = refl
its_reason reason.Measure = refl
its_reason reason.Ground = refl
its_reason reason.Precondition = refl
its_reason reason.Mode = refl
its_reason reason.Refutation = refl
its_reason reason.Wide = refl

-- reasons of one number are the same
pub same_reason : (r s : Reason) → reason_number r ≡ reason_number s → r ≡ s
same_reason r s number = sym (its_reason r) ∙ ap reason_with number ∙ its_reason s

-- what is found is the one fault of the facts
pub only_fault : OneStructure → (p : Listing) (names : List (List ℕ)) (comps : Partition) (parts : Parts) (facts : List Fact) → AreComponents p comps → (s : IsStructured p names comps parts facts)
    → ((own : Parts) → IsStructured p names comps own facts → parts ≡ own) → u64_saturate (length facts) ≡ length facts
    → (o : Option Fault) → Finds (ClaimFails p names comps parts) 1 (listed p names parts s.notes) o → (line : ℕ) (why : Reason) → IsValueFault p names facts line why → o ≡ Some (record { line = line; reason = why })
only_fault one_structure p names comps parts facts are s only counted o found line why is = which o found
  where
    fails : Fact → Reason → Type 0
    fails = ClaimFails p names comps parts

    same : parts ≡ is.parts
    same = only is.parts (one_structure p names is.comps comps is.parts facts is.components are is.structured)

    own : IsFirstAt (ClaimFails p names comps parts) (listed p names parts s.notes) (line - 1) why
    own = subst (λ (xs : List Fact). IsFirstAt (ClaimFails p names comps parts) xs (line - 1) why) s.is
        (first_moves (any_truth (norm_in names parts.norm)) (any_row (norm_in names parts.norm)) p names is.comps comps is.components are parts facts (line - 1) why (subst (λ (x : Parts). IsFirstAt (ClaimFails p names is.comps x) facts (line - 1) why) (sym same) is.first))

    which : (o : Option Fault) → Finds (ClaimFails p names comps parts) 1 (listed p names parts s.notes) o → o ≡ Some (record { line = line; reason = why })
    which None none = absurd (none_first (ClaimFails p names comps parts) (listed p names parts s.notes) (line - 1) why none own)
    which (Some f) (n, at, first) =
        let (place, number) = one_first (ClaimFails p names comps parts) (listed p names parts s.notes) n (line - 1) f.reason why first own in
        let below = place_below (listed p names parts s.notes) n first.fact first.there in
        let long = ap length s.is in
        let given = is.counted in
        let lines : f.line ≡ line = omega (arith, counted, below, long, at, place, given) in
        let reasons : f.reason ≡ why = same_reason f.reason why number in
        λ i. Some (record { line = lines i; reason = reasons i })

-- the first fault of all is the one that is found
pub answered : (p : Listing) (names : List (List ℕ)) (facts : List Fact) (o : Option Fault) → ((line : ℕ) (why : StructureReason) → HasStructureFault p names facts line why → o ≡ Some (structure_fault line why))
    → ((line : ℕ) (why : Reason) → IsValueFault p names facts line why → o ≡ Some (record { line = line; reason = why })) → (line : ℕ) (why : Reason) → IsFault p names facts line why → o ≡ Some (record { line = line; reason = why })
answered p names facts o structure value line _ (wrong_structure why has) = structure line why has
answered p names facts o structure value line _ (failing_fact why has) = value line why has
