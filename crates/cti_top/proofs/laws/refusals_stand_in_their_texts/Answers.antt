use Rattle.cti_top.proofs.OneAnswer.{refused_placed, query_refused_placed}
use Rattle.cti_top.proofs.OneSession.{session_refused_placed}
use Rattle.cti_top.proofs.laws.refusals_stand_in_their_texts.Goals as goal

pub returns : goal.returns
returns c = record { text = refused_placed; query = query_refused_placed; edits = session_refused_placed }
