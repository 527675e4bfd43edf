use Rattle.cti_terms.specs.Arithmetic.{kind_of}
use Rattle.cti_terms.specs.Listing.{Listing}
use Rattle.std.proofs.Common.{ap, arith, length, refl, sym, ◌∙◌}
use Rattle.size_chains.proofs.Starts.{stated_none, stated_past, stated_more}
use Rattle.size_chains.proofs.state.State.put_stated.Goals as goal
use Rattle.size_chains.proofs.state.State.put_stated.Goals.{in-Some+in_ok-put_rows, in_default}

pub loop-q-init : goal.loop-q-init
loop-q-init g c = record {
  stated = stated_none g.D.Domain.width g.D.Domain.listed (g.S.ClauseSystems.systems c.args.systems.now) (g.S.ClauseSystems.listing c.args.systems.now) c.args.self.now c.requires.fresh;
  proofs = refl;
  steps = refl;
}

pub loop-q-preserved : goal.loop-q-preserved
loop-q-preserved g c =
    let p = g.S.ClauseSystems.listing c.args.systems.now in
    let e = g.S.ClauseSystems.systems c.args.systems.now in
    let old = c.loop-q.self in
    let own = c.program-p.ensures.same in
    let same = ap (λ (x : Listing). kind_of x.arithmetic c.loop-q.q) (sym own) ∙ sym c.builtin.ensures in
    elim c.match-builtin.branch [
      | in-Some+in_ok-put_rows w ↦
          rw w.self-is (record {
            stated = stated_more g.D.Domain.width g.D.Domain.listed e p c.program-p.ensures.sound c.loop-q.q w.in-Some.kind old w.put_rows.new.self (same ∙ w.in-Some.is) (omega (arith, c.loop-q-test.true, c.preds-q-end.ensures.count, ap (λ (x : Listing). length x.preds) own)) c.loop-q.invariant.stated w.in_ok-put_rows.ensures.put;
            proofs = w.in_ok-put_rows.ensures.proofs ∙ c.loop-q.invariant.proofs;
            steps = w.in_ok-put_rows.ensures.steps ∙ c.loop-q.invariant.steps;
          })
      | in_default w ↦
          rw w.self-is (record {
            stated = stated_past g.D.Domain.width g.D.Domain.listed e p c.loop-q.q old (same ∙ w.in_default.is) c.loop-q.invariant.stated;
            proofs = c.loop-q.invariant.proofs;
            steps = c.loop-q.invariant.steps;
          })
    ]
