use Rattle.std.proofs.Common.{◌∙◌, ℕ, refl, subst}
use Rattle.size_chains.specs.States.{IsAdded}
use Rattle.size_chains.proofs.Starts.{added_more, starts_none}
use Rattle.size_chains.proofs.state.State.add_values.Goals as goal

pub loop-q-init : goal.loop-q-init
loop-q-init g c = record {
  starts = starts_none g.D.Domain.width g.D.Domain.listed (g.S.ClauseSystems.systems c.args.systems.now) c.args.self.now.sizes.rows c.args.self.now.values.items c.requires.rows c.requires.values;
  proofs = refl;
  steps = refl;
}

pub loop-q-preserved : goal.loop-q-preserved
loop-q-preserved g c = record {
  starts = added_more g.D.Domain.width g.D.Domain.listed (g.S.ClauseSystems.systems c.args.systems.now) c.loop-q.q c.loop-q.self c.add_value.new.self c.loop-q.invariant.starts (subst (λ (n : ℕ). IsAdded g.D.Domain.width g.D.Domain.listed n c.loop-q.self c.add_value.new.self) c.width.ensures c.in_ok-add_value.ensures.added);
  proofs = c.in_ok-add_value.ensures.proofs ∙ c.loop-q.invariant.proofs;
  steps = c.in_ok-add_value.ensures.steps ∙ c.loop-q.invariant.steps;
}
