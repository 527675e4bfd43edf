use Rattle.lex_checker.proofs.NoList.{valid_excludes}
use Rattle.lex_checker.proofs.excluding.stuck_components_have_no_list.Goals as goal

pub returns : goal.returns
returns c = valid_excludes c.one_reading.ensures
