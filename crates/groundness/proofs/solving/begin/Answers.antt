use Rattle.truth_rows.proofs.CallerLemmas.{sets_later}
use Rattle.termination_model.specs.chains.Chain.{is_member}
use Rattle.groundness.specs.Sets.{AreFirst}
use Rattle.groundness.proofs.StartLaws.{begun_sets, begun_start}
use Rattle.groundness.proofs.solving.begin.Goals as goal

pub returns-clause-sets : goal.returns-clause-sets
returns-clause-sets g c =
    let s = c.args.setting.now in
    let p = s.program.now in
    let T = c.rigid_pair.new.table in
    let first : AreFirst T c.truth-none.result c.in_ok-both.both = record { none_known = c.truth-none.ensures.known; both_known = c.in_ok-both.ensures.known; off = c.truth-none.ensures.rows; on = c.in_ok-both.ensures.rows } in
    begun_sets p c.requires.setting.program (is_member s.comps.now c.args.c) T c.truth-none.result c.in_ok-both.both first c.args.sets.now c.begin_members.new.sets
    (sets_later p.preds c.args.table.now T c.rigid_pair.ensures.keeps c.args.sets.now c.requires.sets) c.begin_members.ensures

pub returns-clause-start : goal.returns-clause-start
returns-clause-start g c =
    let s = c.args.setting.now in
    let p = s.program.now in
    let T = c.rigid_pair.new.table in
    let first : AreFirst T c.truth-none.result c.in_ok-both.both = record { none_known = c.truth-none.ensures.known; both_known = c.in_ok-both.ensures.known; off = c.truth-none.ensures.rows; on = c.in_ok-both.ensures.rows } in
    begun_start p c.requires.setting.program (is_member s.comps.now c.args.c) T c.truth-none.result c.in_ok-both.both first c.args.sets.now c.begin_members.new.sets
    (sets_later p.preds c.args.table.now T c.rigid_pair.ensures.keeps c.args.sets.now c.requires.sets) c.begin_members.ensures

pub returns-clause-others : goal.returns-clause-others
returns-clause-others g c = c.begin_members.ensures.others
