use Rattle.std.proofs.Common.{◌≤◌, ◌+◌, ◌*◌, ◌^◌, ℕ, inl, inr, length, refl, subst}
use Rattle.component_clauses.specs.Numbered.{with_clauses}
use Rattle.size_chains.specs.States.{weights}
use Rattle.size_chains.proofs.Passes.{running_none, running_more, run_end, smaller}
use Rattle.size_chains.proofs.Taking.{weights_few}
use Rattle.size_chains.proofs.state.State.run_passes.Goals as goal

pub loop-changed-init : goal.loop-changed-init
loop-changed-init g c = record {
  state = c.requires.state;
  legal = c.requires.legal;
  running = running_none g.D.Domain.width g.D.Domain.listed g.D.Domain.speaks (g.S.ClauseSystems.systems c.args.systems.now) (with_clauses c.args.own.now.program.now.clauses c.args.own.now.clauses.now) c.args.self.now;
}

pub returns-then-not-changed-clause-run : goal.returns-then-not-changed-clause-run
returns-then-not-changed-clause-run g c =
    let ks = with_clauses c.args.own.now.program.now.clauses c.args.own.now.clauses.now in
    let e = g.S.ClauseSystems.systems c.args.systems.now in
    let passed = c.in_ok-changed.ensures.passed in
    run_end g.D.Domain.width g.D.Domain.listed g.D.Domain.speaks e ks c.loop-changed.number c.args.self.now c.loop-changed.self c.run_pass.new.self c.loop-changed.invariant.running c.in_ok-changed.changed passed c.if-not-changed.true

pub loop-changed-preserved-then-number-le3 : goal.loop-changed-preserved-then-number-le3
loop-changed-preserved-then-number-le3 g c =
    let ks = with_clauses c.args.own.now.program.now.clauses c.args.own.now.clauses.now in
    let e = g.S.ClauseSystems.systems c.args.systems.now in
    let passed = c.in_ok-changed.ensures.passed in
    record {
      state = c.in_ok-changed.ensures.state;
      legal = c.in_ok-changed.ensures.legal;
      running = running_more g.D.Domain.width g.D.Domain.listed g.D.Domain.speaks e ks c.loop-changed.number c.args.self.now c.loop-changed.self c.run_pass.new.self c.loop-changed.invariant.running c.in_ok-changed.changed passed c.if-not-changed.false
          (c.loop-changed.number + 1) (inl (c.if-number-le3.true, refl));
    }

pub loop-changed-preserved : goal.loop-changed-preserved
loop-changed-preserved g c =
    let ks = with_clauses c.args.own.now.program.now.clauses c.args.own.now.clauses.now in
    let e = g.S.ClauseSystems.systems c.args.systems.now in
    let passed = c.in_ok-changed.ensures.passed in
    record {
      state = c.in_ok-changed.ensures.state;
      legal = c.in_ok-changed.ensures.legal;
      running = running_more g.D.Domain.width g.D.Domain.listed g.D.Domain.speaks e ks c.loop-changed.number c.args.self.now c.loop-changed.self c.run_pass.new.self c.loop-changed.invariant.running c.in_ok-changed.changed passed c.if-not-changed.false
          c.loop-changed.number (inr (c.if-number-le3.false, refl));
    }

pub loop-changed-smaller-then-number-le3 : goal.loop-changed-smaller-then-number-le3
loop-changed-smaller-then-number-le3 g c =
    let n = length c.args.own.now.program.now.preds in
    let s = c.in_ok-changed.ensures.state in
    let v = weights g.D.Domain.width g.D.Domain.listed c.run_pass.new.self.values.items in
    let w = weights g.D.Domain.width g.D.Domain.listed c.loop-changed.self.values.items in
    let few : v ≤ n * 2 ^ 65 = subst (λ (m : ℕ). v ≤ m * 2 ^ 65) s.each (weights_few g.D.Domain.width g.D.Domain.listed c.run_pass.new.self.values.items (λ q x at. (s.values q x at).light)) in
    smaller c.loop-changed.number (n * 2 ^ 65) v w c.if-number-le3.true few
