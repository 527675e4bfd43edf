use Rattle.std.proofs.Common.{refl}
use Rattle.term_size.specs.AnyNorm.{any_row, any_truth}
use Rattle.cert_checker.proofs.SectionLaws.{first_by, first_fall, first_measure, first_refutation, first_stated}
use Rattle.cert_checker.proofs.ShapeLaws.{are_sizes, have_falls, have_levels, have_refutations, have_row_proofs}
use Rattle.cert_checker.proofs.checking.number_fault.Goals as goal

pub stated_fault-requires : goal.stated_fault-requires
stated_fault-requires c = record { sizes = are_sizes c.args.p.now c.args.comps.now c.args.parts.now c.requires.shape }

pub size_fault-requires-clause-sizes : goal.size_fault-requires-clause-sizes
size_fault-requires-clause-sizes c = are_sizes c.args.p.now c.args.comps.now c.args.parts.now c.requires.shape

pub size_fault-requires-clause-proofs : goal.size_fault-requires-clause-proofs
size_fault-requires-clause-proofs c = have_row_proofs c.args.p.now c.args.comps.now c.args.parts.now c.requires.shape

pub measure_fault-requires-clause-levels : goal.measure_fault-requires-clause-levels
measure_fault-requires-clause-levels c = have_levels c.args.p.now c.args.comps.now c.args.parts.now c.requires.shape c.requires.components

pub fall_fault-requires-clause-sizes : goal.fall_fault-requires-clause-sizes
fall_fault-requires-clause-sizes c = are_sizes c.args.p.now c.args.comps.now c.args.parts.now c.requires.shape

pub fall_fault-requires-clause-levels : goal.fall_fault-requires-clause-levels
fall_fault-requires-clause-levels c = have_levels c.args.p.now c.args.comps.now c.args.parts.now c.requires.shape c.requires.components

pub fall_fault-requires-clause-falls : goal.fall_fault-requires-clause-falls
fall_fault-requires-clause-falls c = have_falls c.args.p.now c.args.comps.now c.args.parts.now c.requires.shape c.requires.components c.preds.ensures.sound

pub refutation_fault-requires-clause-sizes : goal.refutation_fault-requires-clause-sizes
refutation_fault-requires-clause-sizes c = are_sizes c.args.p.now c.args.comps.now c.args.parts.now c.requires.shape

pub refutation_fault-requires-clause-refutations : goal.refutation_fault-requires-clause-refutations
refutation_fault-requires-clause-refutations c = have_refutations c.args.p.now c.args.comps.now c.args.parts.now c.requires.shape

-- the last fault decides, since the tests before it have found none
pub returns-clause-hold : goal.returns-clause-hold
returns-clause-hold c = (
  λ none. record {
    stated = c.in_default.ensures.hold.0 refl;
    rows = c.in_ok-fault.ensures.hold.0 c.in_default-2.is;
    measures = c.in_default-measure_fault.ensures.hold.0 refl;
    falls = c.in_ok-fault-2.ensures.hold.0 c.in_default-3.is;
    refutations = c.in_ok-fault-3.ensures.hold.0 none;
  },
  λ hold. c.in_ok-fault-3.ensures.hold.1 hold.refutations,
)

pub returns-in-Some-clause-first : goal.returns-in-Some-clause-first
returns-in-Some-clause-first c = λ names named distinct.
    let p = c.args.p.now in
    let comps = c.args.comps.now in
    let parts = c.args.parts.now in
    let lines = c.args.lines in
    first_stated (any_truth c.args.norm.now) (any_row c.args.norm.now) p names comps parts lines c.requires.lines c.in-Some.fault
    (rw c.in-Some.is at (c.stated_fault.ensures.first names named distinct))

pub returns-in-Some-2-clause-first : goal.returns-in-Some-2-clause-first
returns-in-Some-2-clause-first c = λ names named distinct.
    let p = c.args.p.now in
    let comps = c.args.comps.now in
    let parts = c.args.parts.now in
    let lines = c.args.lines in
    first_by (any_truth c.args.norm.now) (any_row c.args.norm.now) p names comps parts lines c.requires.lines (c.in_default.ensures.first names named distinct) c.in-Some-2.fault
    (rw c.in-Some-2.is at c.in_ok-fault.ensures.first)

pub returns-in-Some-measure_fault-clause-first : goal.returns-in-Some-measure_fault-clause-first
returns-in-Some-measure_fault-clause-first c = λ names named distinct.
    let p = c.args.p.now in
    let comps = c.args.comps.now in
    let parts = c.args.parts.now in
    let lines = c.args.lines in
    first_measure (any_truth c.args.norm.now) (any_row c.args.norm.now) p names comps parts lines c.requires.lines (c.in_default.ensures.first names named distinct)
    (rw c.in_default-2.is at c.in_ok-fault.ensures.first) c.in-Some-measure_fault.fault
    (rw c.in-Some-measure_fault.is at (c.measure_fault.ensures.first names named distinct))

pub returns-in-Some-3-clause-first : goal.returns-in-Some-3-clause-first
returns-in-Some-3-clause-first c = λ names named distinct.
    let p = c.args.p.now in
    let comps = c.args.comps.now in
    let parts = c.args.parts.now in
    let lines = c.args.lines in
    first_fall (any_truth c.args.norm.now) (any_row c.args.norm.now) p names comps parts lines c.requires.lines (c.in_default.ensures.first names named distinct)
    (rw c.in_default-2.is at c.in_ok-fault.ensures.first)
    (c.in_default-measure_fault.ensures.first names named distinct) c.in-Some-3.fault
    (rw c.in-Some-3.is at c.in_ok-fault-2.ensures.first)

pub returns-clause-first : goal.returns-clause-first
returns-clause-first c = λ names named distinct.
    let p = c.args.p.now in
    let comps = c.args.comps.now in
    let parts = c.args.parts.now in
    let lines = c.args.lines in
    first_refutation (any_truth c.args.norm.now) (any_row c.args.norm.now) p names comps parts lines c.requires.lines (c.in_default.ensures.first names named distinct)
    (rw c.in_default-2.is at c.in_ok-fault.ensures.first)
    (c.in_default-measure_fault.ensures.first names named distinct)
    (rw c.in_default-3.is at c.in_ok-fault-2.ensures.first)
    c.in_ok-fault-3.fault (c.in_ok-fault-3.ensures.first names named distinct)
