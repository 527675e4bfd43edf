use Rattle.transitions.proofs.TurnExcluded.{refuted_marks_exclude}
use Rattle.transitions.proofs.TurnPoints.{points_fall}
use Rattle.transitions.proofs.TurnRefuted.{refuted_turns_stick}
use Rattle.transitions.proofs.laws.turns_fall_or_stick.Goals as goal

pub returns-clause-points : goal.returns-clause-points
returns-clause-points c = points_fall

pub returns-clause-none : goal.returns-clause-none
returns-clause-none c = refuted_marks_exclude

pub returns-clause-stuck : goal.returns-clause-stuck
returns-clause-stuck c = refuted_turns_stick
