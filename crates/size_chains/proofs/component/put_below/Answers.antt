use Rattle.cti_terms.specs.Listing.{Listing}
use Rattle.std.proofs.Common.{◌≡◌, ◌<◌, ap, length, slice_get, arith}
use Rattle.termination_model.specs.chains.Runs.{is_before}
use Rattle.size_chains.proofs.Below.{put_all, put_more, put_none, sizes_if}
use Rattle.component_clauses.proofs.OwnClauses.{some_at}
use Rattle.size_chains.proofs.component.put_below.Goals as goal

pub loop-q-init : goal.loop-q-init
loop-q-init g c = record { sizes = c.requires.rows; put = put_none c.args.comps.now c.args.c c.args.below.now c.args.rows.now }

pub loop-q-preserved : goal.loop-q-preserved
loop-q-preserved g c =
    let comps = c.args.comps.now in
    let n = c.loop-q.q in
    let below = c.args.below.now in
    let short : n < length below = omega (arith, c.requires.below.each, c.preds-q-end.ensures.count, ap (λ (p : Listing). length p.preds) c.program.ensures.same, c.loop-q-test.true) in
    let r = some_at below n short in
    let is = c.in_ok-put_if_below.ensures r.0 r.1 in
    let lt : n < length c.loop-q.rows = omega (arith, c.loop-q.invariant.sizes.each, c.preds-q-end.ensures.count, ap (λ (p : Listing). length p.preds) c.program.ensures.same, c.loop-q-test.true) in
    record {
      sizes = sizes_if (g.S.ClauseSystems.systems c.args.systems.now) (g.S.ClauseSystems.listing c.args.systems.now).preds c.loop-q.rows below c.put_if_below.new.rows n r.0 (is_before c.args.c (slice_get comps.of n)) c.loop-q.invariant.sizes c.requires.below r.1 is;
      put = put_more comps c.args.c n below c.args.rows.now c.loop-q.rows c.put_if_below.new.rows r.0 c.loop-q.invariant.put r.1 lt is;
    }

pub returns-clause-rows : goal.returns-clause-rows
returns-clause-rows g c =
    let e : length c.args.comps.now.of ≡ c.loop-q.q = omega (arith, c.requires.components.each, c.preds-q-end.ensures.count, ap (λ (p : Listing). length p.preds) c.program.ensures.same, c.loop-q-test.false, c.loop-q.auto.q-end) in
    put_all c.args.comps.now c.args.c c.loop-q.q c.args.below.now c.args.rows.now c.loop-q.rows e c.loop-q.invariant.put

pub put_if_below-requires-clause-rows : goal.put_if_below-requires-clause-rows
put_if_below-requires-clause-rows g c = omega (arith, c.loop-q.invariant.sizes.each, c.preds-q-end.ensures.count, ap (λ (p : Listing). length p.preds) c.program.ensures.same, c.loop-q-test.true)

pub put_if_below-requires-clause-below : goal.put_if_below-requires-clause-below
put_if_below-requires-clause-below g c = omega (arith, c.requires.below.each, c.preds-q-end.ensures.count, ap (λ (p : Listing). length p.preds) c.program.ensures.same, c.loop-q-test.true)
