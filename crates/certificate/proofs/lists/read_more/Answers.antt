use Rattle.std.proofs.Common.{◌∙◌, sym}
use Rattle.certificate.specs.Parse.{next_item}
use Rattle.certificate.specs.Shortening.{next_shortens}
use Rattle.certificate.proofs.ListLemmas.{all_append, ends, stops, no_item, one_item, no_comma, behind_comma, text_err, read_err}
use Rattle.certificate.proofs.lists.read_more.Goals as goal

pub returns-in_default-clause-value : goal.returns-in_default-clause-value
returns-in_default-clause-value g c =
    sym c.loop-first.invariant.value ∙ ends 93 (next_item g.T.Field.reads) (next_shortens _ g.met.T.Field.shortens) _ _ c.in_default.ensures.cases

pub returns-then-first-eq93-clause-value : goal.returns-then-first-eq93-clause-value
returns-then-first-eq93-clause-value g c =
    sym c.loop-first.invariant.value
    ∙ stops 93 (next_item g.T.Field.reads) (next_shortens _ g.met.T.Field.shortens) _ _ _ _ c.in-Some.ensures.cases.0 c.if-first-eq93.true

pub returns-in_err-after-clause-value : goal.returns-in_err-after-clause-value
returns-in_err-after-clause-value g c =
    text_err _ c.from_residual.result _ _ _ c.from_residual.ensures c.in_err-after.ensures λ none.
    sym c.loop-first.invariant.value
    ∙ no_item 93 (next_item g.T.Field.reads) (next_shortens _ g.met.T.Field.shortens) _ _ _ _ c.in-Some.ensures.cases.0 c.if-first-eq93.false (no_comma g.T.Field.reads c.loop-first.rest.now none)

pub returns-in_err-item-clause-value : goal.returns-in_err-item-clause-value
returns-in_err-item-clause-value g c =
    read_err _ c.from_residual-in_err-item.result _ _ _ c.from_residual-in_err-item.ensures c.in_err-item.ensures.value λ none.
    sym c.loop-first.invariant.value
    ∙ no_item 93 (next_item g.T.Field.reads) (next_shortens _ g.met.T.Field.shortens) _ _ _ _ c.in-Some.ensures.cases.0 c.if-first-eq93.false
    (behind_comma g.T.Field.reads c.loop-first.rest.now c.in_ok-after.field-0.now _ c.in_ok-after.ensures none)

pub loop-first-preserved : goal.loop-first-preserved
loop-first-preserved g c =
    let read = behind_comma g.T.Field.reads c.loop-first.rest.now c.in_ok-after.field-0.now _ c.in_ok-after.ensures c.in_ok-item.ensures.value in
    let more = one_item 93 (next_item g.T.Field.reads) (next_shortens _ g.met.T.Field.shortens) c.loop-first.items _ _ _ _ _ c.in-Some.ensures.cases.0 c.if-first-eq93.false read in
    record {
      value = rw c.in_ok-push.ensures.ok (more ∙ c.loop-first.invariant.value);
      fits = λ first. rw c.in_ok-push.ensures.ok (all_append g.T.Field.fits c.loop-first.items (c.loop-first.invariant.fits first) c.in_ok-item.ensures.fits);
    }
