use Rattle.std.proofs.Common.{◌≡◌, ◌↔◌, None, Some, sym, subst, ap, ◌∙◌, arith}
use Rattle.cert_structure.specs.Order.{listed}
use Rattle.cert_structure.specs.Structure.{IsStructured}
use Rattle.cert_structure.specs.StructureFault.{IsFirstWrong, IsStructureFault}
use Rattle.term_size.specs.AnyNorm.{any_row, any_truth}
use Rattle.term_size.specs.declared.any_norm.AnyNorm.{AnyNorm}
use Rattle.cert_checker.specs.Valid.{PartsHold}
use Rattle.cert_checker.specs.declared.fault.Fault.{Fault}
use Rattle.number_tests.proofs.CallFacts.{if_ok_more}
use Rattle.cert_checker.proofs.NoMapping.{refuted_have_none}
use Rattle.cert_checker.specs.StructureFaults.{structure_fault}
use Rattle.cert_checker.proofs.StructureLaws.{same_fault}
use Rattle.cert_checker.specs.Fault.{FactFails, IsFault, wrong_structure}
use Rattle.cert_checker.specs.Finding.{Finds}
use Rattle.cert_checker.proofs.FaultLaws.{only_fault}
use Rattle.cert_checker.proofs.ValueLaws.{fault_found}
use Rattle.cert_checker.proofs.Validity.{decided, without_parts}
use Rattle.cert_checker.proofs.checking.first_fault.Goals as goal

pub returns-in-Ok-clause-valid : goal.returns-in-Ok-clause-valid
returns-in-Ok-clause-valid c =
    if_ok_more _ _
    (λ fault decides. decided c.one_structure.ensures c.args.p.now c.args.names.now c.in_ok-comps.comps c.in_ok-comps.ensures c.args.c.now.facts
    (fault ≡ None) c.in-Ok.parts c.in-Ok.ensures.found c.in-Ok.ensures.only (subst (λ (n : AnyNorm). (fault ≡ None) ↔ PartsHold (any_truth n) (any_row n) c.args.p.now c.in_ok-comps.comps c.in-Ok.parts) c.norm_of-norm.ensures decides)) c.value_fault.result c.value_fault.ensures.hold

pub returns-in-Err-Wrong-clause-valid : goal.returns-in-Err-Wrong-clause-valid
returns-in-Err-Wrong-clause-valid c = (
  λ some. cc,
  λ valid. absurd (without_parts c.one_structure.ensures c.args.p.now c.args.names.now c.in_ok-comps.comps c.in_ok-comps.ensures c.args.c.now.facts
      (λ own is. let wrong = c.in-Err-Wrong.ensures.only own is in cc) valid),
)

pub returns-in-Ok-clause-excluded : goal.returns-in-Ok-clause-excluded
returns-in-Ok-clause-excluded c =
    if_ok_more _ _
    (λ fault decides. λ none. refuted_have_none c.one_structure.ensures c.args.p.now c.args.names.now c.in_ok-comps.comps c.preds.ensures.sound c.in_ok-comps.ensures c.args.c.now.facts
    c.in-Ok.parts c.in-Ok.ensures.only (subst (λ (n : AnyNorm). PartsHold (any_truth n) (any_row n) c.args.p.now c.in_ok-comps.comps c.in-Ok.parts) c.norm_of-norm.ensures (decides.0 none))) c.value_fault.result c.value_fault.ensures.hold

pub returns-in-Ok-clause-structure : goal.returns-in-Ok-clause-structure
returns-in-Ok-clause-structure c =
    let p = c.args.p.now in
    let names = c.args.names.now in
    let comps = c.in_ok-comps.comps in
    let facts = c.args.c.now.facts in
    if_ok_more _ _
    (λ fault decides line why has. absurd (c.in-Ok.ensures.fault line why (c.one_structure_fault.ensures p names has.comps comps facts line why has.components c.in_ok-comps.ensures has.fault)))
    c.value_fault.result c.value_fault.ensures.hold

pub returns-in-Err-Wrong-clause-structure : goal.returns-in-Err-Wrong-clause-structure
returns-in-Err-Wrong-clause-structure c = λ line why has.
    let p = c.args.p.now in
    let names = c.args.names.now in
    let comps = c.in_ok-comps.comps in
    let facts = c.args.c.now.facts in
    let is = c.in-Err-Wrong.ensures.fault line why (c.one_structure_fault.ensures p names has.comps comps facts line why has.components c.in_ok-comps.ensures has.fault) in
    ap Some (c.of_structure.ensures ∙ (λ i. structure_fault (c.in-Err-Wrong.line-is i) (c.in-Err-Wrong.reason-is i)) ∙ same_fault c.in-Err-Wrong.field-0 c.in-Err-Wrong.line line c.in-Err-Wrong.reason why c.in-Err-Wrong.field-0-is is)

pub returns-in-Ok-clause-fault : goal.returns-in-Ok-clause-fault
returns-in-Ok-clause-fault c =
    let p = c.args.p.now in
    let names = c.args.names.now in
    let comps = c.in_ok-comps.comps in
    let parts = c.in-Ok.parts in
    let facts = c.args.c.now.facts in
    let s : IsStructured p names comps parts facts = c.in-Ok.ensures.found in
    if_ok_more _ _
    (λ fault found. fault_found p names comps parts facts c.in_ok-comps.ensures s (omega (arith, c.len.ensures)) fault
    (subst (λ (n : AnyNorm). Finds (FactFails p names (any_truth n) (any_row n) comps parts) 1 (listed p names parts s.notes) fault) c.norm_of-norm.ensures (found names s.notes c.requires.named c.count.ensures.distinct s.are_notes)))
    c.value_fault.result c.value_fault.ensures.first

pub returns-in-Err-Wrong-clause-fault : goal.returns-in-Err-Wrong-clause-fault
returns-in-Err-Wrong-clause-fault c =
    let p = c.args.p.now in
    let names = c.args.names.now in
    let comps = c.in_ok-comps.comps in
    let facts = c.args.c.now.facts in
    let wrong : IsStructureFault p names comps facts c.in-Err-Wrong.line c.in-Err-Wrong.reason = subst (IsFirstWrong p names comps facts) c.in-Err-Wrong.field-0-is c.in-Err-Wrong.ensures.wrong in
    let made = c.of_structure.ensures ∙ (λ i. structure_fault (c.in-Err-Wrong.line-is i) (c.in-Err-Wrong.reason-is i)) in
    subst (λ (f : Fault). IsFault p names facts f.line f.reason) (sym made) (wrong_structure c.in-Err-Wrong.reason (record { comps = comps; components = c.in_ok-comps.ensures; fault = wrong }))

pub returns-in-Ok-clause-values : goal.returns-in-Ok-clause-values
returns-in-Ok-clause-values c =
    let p = c.args.p.now in
    let names = c.args.names.now in
    let comps = c.in_ok-comps.comps in
    let parts = c.in-Ok.parts in
    let facts = c.args.c.now.facts in
    let s : IsStructured p names comps parts facts = c.in-Ok.ensures.found in
    if_ok_more _ _
    (λ fault found. only_fault c.one_structure.ensures p names comps parts facts c.in_ok-comps.ensures s c.in-Ok.ensures.only (omega (arith, c.len.ensures)) fault
    (subst (λ (n : AnyNorm). Finds (FactFails p names (any_truth n) (any_row n) comps parts) 1 (listed p names parts s.notes) fault) c.norm_of-norm.ensures (found names s.notes c.requires.named c.count.ensures.distinct s.are_notes)))
    c.value_fault.result c.value_fault.ensures.first

pub returns-in-Err-Wrong-clause-values : goal.returns-in-Err-Wrong-clause-values
returns-in-Err-Wrong-clause-values c = λ line why has.
    absurd (let own = c.one_structure.ensures c.args.p.now c.args.names.now has.comps c.in_ok-comps.comps has.parts c.args.c.now.facts has.components c.in_ok-comps.ensures has.structured in
    let wrong = c.in-Err-Wrong.ensures.only has.parts own in cc)
