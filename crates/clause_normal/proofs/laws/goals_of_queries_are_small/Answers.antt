use Rattle.clause_normal.proofs.QueryLimits.{query_variables, query_nodes, query_preds}
use Rattle.clause_normal.proofs.laws.goals_of_queries_are_small.Goals as goal

pub returns : goal.returns
returns c = record { variables = query_variables; nodes = query_nodes; preds = query_preds }
