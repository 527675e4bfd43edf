use Rattle.termination_model.proofs.ColumnLinking.{claims_link, facts_link, admits_link, facts_extend, linked_rows_end, linked_queries_end}
use Rattle.termination_model.proofs.worlds.column_claims_link.Goals as goal

pub returns-clause-claims : goal.returns-clause-claims
returns-clause-claims c = claims_link

pub returns-clause-facts : goal.returns-clause-facts
returns-clause-facts c = facts_link

pub returns-clause-admits : goal.returns-clause-admits
returns-clause-admits c = admits_link

pub returns-clause-rows : goal.returns-clause-rows
returns-clause-rows c = linked_rows_end

pub returns-clause-queries : goal.returns-clause-queries
returns-clause-queries c = linked_queries_end

pub returns-clause-extend : goal.returns-clause-extend
returns-clause-extend c = facts_extend
