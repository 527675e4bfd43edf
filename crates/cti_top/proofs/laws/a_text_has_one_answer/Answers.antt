use Rattle.cti_top.proofs.OneAnswer.{some_program, known_once, refused_once, distinct_names, none_refused, some_goal, goal_once, query_refused_once, goal_or_refused}
use Rattle.cti_top.proofs.laws.a_text_has_one_answer.Goals as goal

pub returns : goal.returns
returns c = record {
  some = some_program;
  program = known_once;
  refused = refused_once;
  distinct = distinct_names;
  apart = none_refused;
  some_goal = some_goal;
  goal = goal_once;
  query_refused = query_refused_once;
  query_apart = goal_or_refused;
}
