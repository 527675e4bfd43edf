use Rattle.cti_top.proofs.OneSession.{session_refused_once, some_session, told_once, told_or_refused}
use Rattle.cti_top.proofs.laws.edits_have_one_outcome.Goals as goal

pub returns : goal.returns
returns c = record { some = some_session; told = told_once; refused = session_refused_once; apart = told_or_refused }
