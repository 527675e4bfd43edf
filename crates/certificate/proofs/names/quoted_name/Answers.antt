use Rattle.std.proofs.Common.{◌∙◌, sym}
use Rattle.certificate.specs.Parse.{read_byte}
use Rattle.certificate.specs.Shortening.{byte_shortens_in_quotes}
use Rattle.certificate.proofs.ListLemmas.{ends, stops, no_item, one_item, part_err}
use Rattle.certificate.proofs.names.quoted_name.Goals as goal

pub returns-in_default : goal.returns-in_default
returns-in_default c = sym c.loop-first.invariant ∙ ends 39 read_byte byte_shortens_in_quotes _ _ c.in_default.ensures.cases

pub returns-then-first-eq39 : goal.returns-then-first-eq39
returns-then-first-eq39 c = sym c.loop-first.invariant ∙ stops 39 read_byte byte_shortens_in_quotes _ _ _ _ c.in-Some.ensures.cases.0 c.if-first-eq39.true

pub returns-in_err-byte : goal.returns-in_err-byte
returns-in_err-byte c =
    part_err c.from_residual.result _ _ _ c.from_residual.ensures c.in_err-byte.ensures λ none.
    sym c.loop-first.invariant ∙ no_item 39 read_byte byte_shortens_in_quotes _ _ _ _ c.in-Some.ensures.cases.0 c.if-first-eq39.false none

pub loop-first-smaller : goal.loop-first-smaller
loop-first-smaller c = byte_shortens_in_quotes _ _ _ c.in_ok-byte.ensures

pub loop-first-preserved : goal.loop-first-preserved
loop-first-preserved c =
    let more = one_item 39 read_byte byte_shortens_in_quotes c.loop-first.name _ _ _ _ _ c.in-Some.ensures.cases.0 c.if-first-eq39.false c.in_ok-byte.ensures in
    rw c.in_ok-push.ensures.ok (more ∙ c.loop-first.invariant)
