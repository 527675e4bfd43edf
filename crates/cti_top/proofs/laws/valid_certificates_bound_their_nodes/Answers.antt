use Rattle.cti_terms.specs.Derive.{query}
use Rattle.cti_top.proofs.MeetsLemmas.{is_bounded, finishes}
use Rattle.cti_top.proofs.laws.valid_certificates_bound_their_nodes.Goals as goal

pub returns : goal.returns
returns c = record {
  finished = λ p names facts is named distinct valid a counter m.
      let has = c.bounded_goals_have_finitely_many_nodes.ensures.finite p (query a counter)
      (is_bounded p names facts a counter (c.valid_certificates_bound_their_modes.ensures p names facts is named distinct valid) m) in
      (has.0, has.1, λ budget l. finishes p (query a counter) budget (c.a_budget_of_all_nodes_finishes.ensures.finished p (query a counter) has.0 has.1 budget l));
}
