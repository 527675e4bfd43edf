use Rattle.cert_checker.proofs.size_faults.row_flaw.Goals as goal

pub returns-clause-shown : goal.returns-clause-shown
returns-clause-shown c = c.multipliers_flaw.ensures.shows _ c.in_ok-target.ensures

pub returns-clause-fails : goal.returns-clause-fails
returns-clause-fails c = c.multipliers_flaw.ensures.fails _ c.in_ok-target.ensures
