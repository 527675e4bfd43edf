use Rattle.term_size.specs.AnyNorm.{any_row, any_truth}
use Rattle.cert_modes.proofs.ShapedLaws.{shapes_have_sets}
use Rattle.number_tests.proofs.CallFacts.{if_ok_more}
use Rattle.cert_checker.proofs.ValueLaws.{mode_first, number_first}
use Rattle.cert_checker.proofs.checking.value_fault.Goals as goal

pub mode_fault-requires-clause-shape : goal.mode_fault-requires-clause-shape
mode_fault-requires-clause-shape c = shapes_have_sets c.args.p.now c.args.comps.now c.args.parts.now c.requires.shape

pub returns-in-Some-clause-hold : goal.returns-in-Some-clause-hold
returns-in-Some-clause-hold c = (λ none. cc, λ hold. let none = c.in_ok-modes.ensures.hold.1 hold.modes in let some = c.in-Some.is in cc)

pub returns-in-None-clause-hold : goal.returns-in-None-clause-hold
returns-in-None-clause-hold c =
    if_ok_more _ _
    (λ fault decides. (
      λ none. let numbers = decides.0 none in record { modes = c.in_ok-modes.ensures.hold.0 c.in-None.is; stated = numbers.stated; rows = numbers.rows; measures = numbers.measures; falls = numbers.falls; refutations = numbers.refutations },
      λ hold. decides.1 (record { stated = hold.stated; rows = hold.rows; measures = hold.measures; falls = hold.falls; refutations = hold.refutations }),
    )) c.number_fault.result c.number_fault.ensures.hold

pub returns-in-Some-clause-first : goal.returns-in-Some-clause-first
returns-in-Some-clause-first c = λ names notes named distinct are_notes.
    let p = c.args.p.now in
    let comps = c.args.comps.now in
    let parts = c.args.parts.now in
    let first = rw (c.in-Some.is, c.of-lines.ensures.modes) at c.in_ok-modes.ensures.first in
    rw c.of_modes.ensures
    (mode_first (any_truth c.args.norm.now) (any_row c.args.norm.now) p names comps parts c.preds.ensures.sound named distinct c.requires.shape notes are_notes c.in-Some.fault first)

pub returns-in-None-clause-first : goal.returns-in-None-clause-first
returns-in-None-clause-first c =
    let p = c.args.p.now in
    let comps = c.args.comps.now in
    let parts = c.args.parts.now in
    if_ok_more _ _
    (λ fault found names notes named distinct are_notes.
    number_first (any_truth c.args.norm.now) (any_row c.args.norm.now) p names comps parts c.preds.ensures.sound named distinct c.requires.shape notes are_notes c.of-lines.result c.of-lines.ensures (c.in_ok-modes.ensures.hold.0 c.in-None.is) fault (found names named distinct))
    c.number_fault.result c.number_fault.ensures.first
