use Rattle.std.proofs.Common.{◌≡◌, Option, Some, IfSome, sym, ap, subst, ◌∙◌}
use Rattle.cert_checker.proofs.FaultLaws.{answered}
use Rattle.cert_checker.proofs.ValueLaws.{same_no}
use Rattle.cert_checker.specs.Fault.{IsFault}
use Rattle.cert_checker.specs.declared.fault.Fault.{Fault}
use Rattle.cert_checker.specs.declared.verdict.Verdict.TheVariants.{No}
use Rattle.cert_checker.proofs.checking.check.Goals as goal

pub returns-in-None-clause-excluded : goal.returns-in-None-clause-excluded
returns-in-None-clause-excluded c = λ yes. c.in_ok-first_fault.ensures.excluded c.in-None.is

pub returns-in-None-clause-fault : goal.returns-in-None-clause-fault
returns-in-None-clause-fault c = λ line why. (
  λ no. cc,
  λ is.
      let some = answered c.args.p.now c.args.names.now c.args.c.now.facts c.in_ok-first_fault.field-0 c.in_ok-first_fault.ensures.structure c.in_ok-first_fault.ensures.values line why is in
      let none = c.in-None.is in
      cc,
)

pub returns-in-Some-clause-fault : goal.returns-in-Some-clause-fault
returns-in-Some-clause-fault c = λ line why.
    let p = c.args.p.now in
    let names = c.args.names.now in
    let facts = c.args.c.now.facts in
    let own : IsFault p names facts c.in-Some.field-0.line c.in-Some.field-0.reason = subst (λ (o : Option Fault). IfSome o (λ f. IsFault p names facts f.line f.reason)) c.in-Some.is c.in_ok-first_fault.ensures.fault in (
      λ no. same_no p names facts c.in-Some.field-0.line line c.in-Some.field-0.reason why no own,
      λ is.
          let told = answered p names facts c.in_ok-first_fault.field-0 c.in_ok-first_fault.ensures.structure c.in_ok-first_fault.ensures.values line why is in
          let fault : Fault = record { line = line; reason = why } in
          let both : Some c.in-Some.field-0 ≡ Some fault = sym c.in-Some.is ∙ told in
          let same : c.in-Some.field-0 ≡ fault = cc in
          ap (λ (f : Fault). No f.line f.reason) same,
    )
