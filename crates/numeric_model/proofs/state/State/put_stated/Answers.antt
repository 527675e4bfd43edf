use Rattle.std.proofs.Common.{refl, sym, ◌∙◌, arith}
use Rattle.numeric_model.proofs.Starts.{stated_none, stated_past, stated_more}
use Rattle.numeric_model.proofs.state.State.put_stated.Goals as goal
use Rattle.numeric_model.proofs.state.State.put_stated.Goals.{in-Some+in_ok-put_rows, in_default}

pub loop-q-init : goal.loop-q-init
loop-q-init g c = record {
  stated = stated_none g.D.Domain.width g.D.Domain.listed c.args.p.now c.args.self.now c.requires.fresh;
  proofs = refl;
  steps = refl;
}

pub loop-q-preserved : goal.loop-q-preserved
loop-q-preserved g c =
    let p = c.args.p.now in
    let old = c.loop-q.self in
    let same = sym c.builtin.ensures in
    elim c.match-builtin.branch [
      | in-Some+in_ok-put_rows w ↦
          rw w.self-is (record {
            stated = stated_more g.D.Domain.width g.D.Domain.listed p c.clauses-program.ensures.sound c.loop-q.q w.in-Some.kind old w.put_rows.new.self (same ∙ w.in-Some.is) (omega (arith, c.loop-q-test.true, c.preds-q-end.ensures.count)) c.loop-q.invariant.stated w.in_ok-put_rows.ensures.put;
            proofs = w.in_ok-put_rows.ensures.proofs ∙ c.loop-q.invariant.proofs;
            steps = w.in_ok-put_rows.ensures.steps ∙ c.loop-q.invariant.steps;
          })
      | in_default w ↦
          rw w.self-is (record {
            stated = stated_past g.D.Domain.width g.D.Domain.listed p c.loop-q.q old (same ∙ w.in_default.is) c.loop-q.invariant.stated;
            proofs = c.loop-q.invariant.proofs;
            steps = c.loop-q.invariant.steps;
          })
    ]
