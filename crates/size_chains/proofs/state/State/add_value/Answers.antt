use Rattle.size_chains.specs.declared.filled.Filled.TheVariants.{Bottom}
use Rattle.size_chains.proofs.Starts.{start_of}
use Rattle.size_chains.proofs.state.State.add_value.Goals as goal

pub returns-clause-added : goal.returns-clause-added
returns-clause-added g c = record {
  rows = c.in_ok-rows.rows;
  value = record { of = c.in_ok-of.of; filled = Bottom };
  start = start_of g.D.Domain.width g.D.Domain.listed c.args.width c.rows.result.now c.in_ok-rows.rows c.in_ok-of.of c.in_ok-rows.ensures c.rows.ensures.width c.rows.ensures.widths c.rows.ensures.rows c.in_ok-of.ensures.arity c.in_ok-of.ensures.rows;
  sizes = c.in_ok-push.ensures.ok;
  values = c.in_ok-push-2.ensures.items;
}
