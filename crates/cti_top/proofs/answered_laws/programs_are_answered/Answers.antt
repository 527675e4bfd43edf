use Rattle.cti_top.proofs.UnfailedLemmas.{answered, inferred_answered, lexed_answered, checked_answered, played_answered, summed_answered}
use Rattle.cti_top.proofs.answered_laws.programs_are_answered.Goals as goal

pub returns-clause-infer : goal.returns-clause-infer
returns-clause-infer c told words status u name bytes norm known asked has is =
    inferred_answered told words status name bytes norm known asked has is (answered told words status u)

pub returns-clause-lex : goal.returns-clause-lex
returns-clause-lex c told words status u name bytes known asked has is = lexed_answered told words status name bytes known asked has is (answered told words status u)

pub returns-clause-check : goal.returns-clause-check
returns-clause-check c told words status u name certificate bytes certified known d asked has is held written =
    checked_answered told words status name bytes certificate certified known d asked has is held written (answered told words status u)

pub returns-clause-session : goal.returns-clause-session
returns-clause-session c told words status u name bytes names edits asked has is =
    played_answered told words status name bytes names edits asked has is (answered told words status u)

pub returns-clause-generated : goal.returns-clause-generated
returns-clause-generated c told words status u n asked = summed_answered told words status n asked (answered told words status u)
