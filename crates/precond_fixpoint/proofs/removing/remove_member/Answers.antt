use Rattle.std.proofs.Common.{◌-◌, slice_index_or}
use Rattle.std.proofs.lemmas.Bool.{eq-eqb}
use Rattle.precond_fixpoint.proofs.MemberLaws.{member_needed}
use Rattle.precond_fixpoint.proofs.removing.remove_member.Goals as goal

pub returns-clause-needed : goal.returns-clause-needed
returns-clause-needed g c =
    let k = c.clause.result.now in
    member_needed (g.N.Norm.truth c.args.setting.now.norm.now) c.args.setting.now.program.now c.requires.setting.program c.args.table.now c.remove_rows.new.table c.args.setting.now.ranks.now c.args.component.now.rank c.args.setting.now.grounds.now c.args.component.now.allowed.now c.args.sets.now c.remove_rows.new.sets
    (c.args.k - 1) k c.clause.ensures.there
    (eq-eqb (slice_index_or c.args.setting.now.ranks.now k.head.pred.0 0) c.args.component.now.rank c.if-setting-head.false)
    (c.in_ok-shrank.ensures.removed k c.clause.ensures.there)
