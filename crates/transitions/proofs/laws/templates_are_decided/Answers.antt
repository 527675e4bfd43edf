use Rattle.transitions.proofs.TemplatePoints.{points_prove, proofs_are_points}
use Rattle.transitions.proofs.TemplateRefuted.{refutations_balance}
use Rattle.transitions.proofs.laws.templates_are_decided.Goals as goal

pub returns-clause-points : goal.returns-clause-points
returns-clause-points c = points_prove

pub returns-clause-made : goal.returns-clause-made
returns-clause-made c = proofs_are_points

pub returns-clause-refuted : goal.returns-clause-refuted
returns-clause-refuted c = refutations_balance
