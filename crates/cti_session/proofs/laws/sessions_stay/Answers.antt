use Rattle.edit_texts.proofs.Staying.{program_stays}
use Rattle.cti_session.proofs.laws.sessions_stay.Goals as goal

pub returns : goal.returns
returns c = program_stays
