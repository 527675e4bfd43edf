use Rattle.std.proofs.Common.{ap, subst}
use Rattle.edit_texts.specs.Snapshot.{KeepUntouched, Snapshot}
use Rattle.kept_program.specs.ProgramParts.{ProgramParts}
use Rattle.cti_session.proofs.session.Session.insert.Goals as goal

pub returns-clause-untouched : goal.returns-clause-untouched
returns-clause-untouched c =
    subst (λ (k : ProgramParts). KeepUntouched k c.follow_with.new.kept) (ap (λ (s : Snapshot). s.kept) c.self.view_is) c.in_ok-follow_with.ensures.untouched
