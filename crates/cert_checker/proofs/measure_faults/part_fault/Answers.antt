use Rattle.std.proofs.Common.{◌≡◌, [], ◌∷◌, slice_get, Some, refl, sym, arith}
use Rattle.cert_structure.specs.Order.{measure_line}
use Rattle.termination_model.proofs.Lists.{at_place, place_below}
use Rattle.cert_checker.proofs.FindLaws.{before_ones, finds_fact, finds_item, finds_none}
use Rattle.cert_checker.proofs.FlawLaws.{same_number}
use Rattle.cert_checker.specs.Finding.{PartsFail}
use Rattle.cert_checker.specs.declared.fault.Fault.{Fault}
use Rattle.cert_checker.specs.declared.reason.Reason.TheVariants as reason
use Rattle.cert_checker.proofs.measure_faults.part_fault.Goals as goal

pub returns-then-not-is_zero-clause-first : goal.returns-then-not-is_zero-clause-first
returns-then-not-is_zero-clause-first c = λ pred none.
    let parts = c.args.parts.now in
    let n = c.loop-m.m in
    let l = c.index-parts-m.result in
    let at : slice_get parts n ≡ Some l = at_place parts n l (omega arith) c.index-parts-m.is in
    let fault : Fault = record { line = c.saturating_add.result; reason = reason.Measure } in
    finds_item PartsFail (λ m x. measure_line pred m x ∷ []) (λ x. 1) (λ m x. refl) c.args.line c.saturating_add.result parts n l fault at
    (λ m. omega (arith, c.saturating_add.ensures, before_ones parts n l at))
    (λ j lt x e. (λ why fails. fails.0 (c.loop-m.invariant j lt x e), tt))
    (finds_fact PartsFail c.saturating_add.result (measure_line pred n l) fault (omega (arith, c.saturating_add.ensures))
    (λ zero. let wrong = c.is_zero.ensures.1 zero in let false_now = c.if-not-is_zero.true in cc, refl) (λ other also. same_number reason.Measure other (sym also.1)))

pub returns-clause-first : goal.returns-clause-first
returns-clause-first c = λ pred none.
    finds_none PartsFail (λ m x. measure_line pred m x ∷ []) (λ x. 1) (λ m x. refl) c.args.parts.now
    (λ j x e. (λ why fails. fails.0 (c.loop-m.invariant j (omega (arith, place_below c.args.parts.now j x e)) x e), tt))
