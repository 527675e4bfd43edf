use Rattle.kept_clauses.proofs.KeptProgramLaws.{programs_kept, programs_onto, programs_order, programs_total}
use Rattle.kept_clauses.proofs.kept_programs.kept_clauses.Goals as goal

pub returns-clause-kept : goal.returns-clause-kept
returns-clause-kept c =
    λ names cs ds h. programs_kept names cs ds c.args.clauses_before c.args.kept.now c.args.before.now c.args.after.now h c.in_ok-all.all.items c.in_ok-all.ensures

pub returns-clause-order : goal.returns-clause-order
returns-clause-order c =
    λ names cs ds h. programs_order names cs ds c.args.clauses_before c.args.kept.now c.args.before.now c.args.after.now h c.in_ok-all.all.items c.in_ok-all.ensures

pub returns-clause-total : goal.returns-clause-total
returns-clause-total c =
    λ names cs ds h. programs_total names cs ds c.args.clauses_before c.args.kept.now c.args.before.now c.args.after.now h c.in_ok-all.all.items c.in_ok-all.ensures

pub returns-clause-onto : goal.returns-clause-onto
returns-clause-onto c =
    λ names cs ds h. programs_onto names cs ds c.args.clauses_before c.args.kept.now c.args.before.now c.args.after.now h c.in_ok-all.all.items c.in_ok-all.ensures
