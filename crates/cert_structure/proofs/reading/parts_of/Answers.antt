use Rattle.std.proofs.Common.{◌≡◌, ◌∙◌, ◌+◌, suc, length, Ok, refl, sym, ap₂, subst, inl, inr, arith}
use Rattle.cert_structure.specs.declared.fault.PartsFault.TheVariants as fault
use Rattle.cert_structure.specs.StructureFault.{IsStructureFault}
use Rattle.cert_structure.specs.Walk.{read_whole}
use Rattle.fact_reading.proofs.SectionLemmas.{same_ok, err_ok}
use Rattle.cert_structure.proofs.WholeLemmas.{whole_sound, whole_back}
use Rattle.cert_structure.proofs.FaultLemmas.{read_fault, left_fits, one_fault, no_fault}
use Rattle.cert_structure.proofs.reading.parts_of.Goals as goal

pub returns-in-Ok-clause-found : goal.returns-in-Ok-clause-found
returns-in-Ok-clause-found c =
    rw c.as_slice-facts.ensures at (whole_sound c.args.p.now c.args.names.now c.args.comps.now c.requires.components _ _ c.in-Ok.ensures)

pub returns-in-Ok-clause-only : goal.returns-in-Ok-clause-only
returns-in-Ok-clause-only c parts is =
    let back = whole_back c.args.p.now c.args.names.now c.args.comps.now c.requires.components c.told_apart.ensures parts is.notes is.shape is.are_notes in
    let read : read_whole c.args.p.now c.args.names.now c.args.comps.now c.as_slice-facts.result.now ≡ Ok parts = rw (c.as_slice-facts.ensures, is.is) back in
    same_ok _ _ (sym c.in-Ok.ensures ∙ read)

pub returns-in-Ok-clause-fault : goal.returns-in-Ok-clause-fault
returns-in-Ok-clause-fault c line why is =
    let whole = rw c.as_slice-facts.ensures at (whole_sound c.args.p.now c.args.names.now c.args.comps.now c.requires.components _ _ c.in-Ok.ensures) in
    no_fault c.args.p.now c.args.names.now c.args.comps.now c.args.c.now.facts _ line why whole is

pub returns-in-Err-Wrong-clause-only : goal.returns-in-Err-Wrong-clause-only
returns-in-Err-Wrong-clause-only c parts is =
    let back = whole_back c.args.p.now c.args.names.now c.args.comps.now c.requires.components c.told_apart.ensures parts is.notes is.shape is.are_notes in
    let read : read_whole c.args.p.now c.args.names.now c.args.comps.now c.as_slice-facts.result.now ≡ Ok parts = rw (c.as_slice-facts.ensures, is.is) back in
    let failed = rw c.in-Err-Wrong.field-0-is at c.in-Err-Wrong.ensures in
    err_ok _ parts (sym failed ∙ read)

pub returns-in-Err-Wrong-clause-wrong : goal.returns-in-Err-Wrong-clause-wrong
returns-in-Err-Wrong-clause-wrong c =
    let failed = rw c.in-Err-Wrong.field-0-is at c.in-Err-Wrong.ensures in
    let fits = left_fits c.args.p.now c.args.names.now c.args.comps.now c.requires.components c.told_apart.ensures c.as_slice-facts.result.now _ failed in
    let at : (c.saturating_sub.result + 1) + c.in-Err-Wrong.left ≡ suc (length c.as_slice-facts.result.now) = omega (arith, fits, c.saturating_sub.ensures) in
    subst (λ z. IsStructureFault c.args.p.now c.args.names.now c.args.comps.now z (c.saturating_sub.result + 1) c.in-Err-Wrong.reason) c.as_slice-facts.ensures
    (read_fault c.args.p.now c.args.names.now c.args.comps.now c.requires.components c.told_apart.ensures c.as_slice-facts.result.now (c.in-Err-Wrong.left, c.in-Err-Wrong.reason) (c.saturating_sub.result + 1) failed at)

pub returns-in-Err-Wrong-clause-fault : goal.returns-in-Err-Wrong-clause-fault
returns-in-Err-Wrong-clause-fault c line why is =
    let one = one_fault c.args.p.now c.args.names.now c.args.comps.now c.args.c.now.facts _ line _ why (returns-in-Err-Wrong-clause-wrong c) is in
    inr (ap₂ (λ l w. fault.Wrong l w) one.0 one.1)

pub returns-in-Err-Memory-clause-fault : goal.returns-in-Err-Memory-clause-fault
returns-in-Err-Memory-clause-fault c line why is = inl refl
