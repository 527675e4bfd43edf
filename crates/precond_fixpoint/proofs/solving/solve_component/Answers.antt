use Rattle.std.proofs.Common.{List, get_or, length, slice_get, ap, sym, subst, ◌∙◌, arith}
use Rattle.bool_diagrams.proofs.CallerLemmas.{keeps_twice}
use Rattle.bool_diagrams.specs.declared.diagram.Diagram.{Diagram}
use Rattle.cti_terms.specs.declared.predicates.PredId.{PredId}
use Rattle.precond_fixpoint.specs.Solving.{AreColumns}
use Rattle.precond_fixpoint.proofs.ComponentLaws.{component_solved, counted, in_program, member_columns, member_in, members_ranked, no_place, some_members}
use Rattle.precond_fixpoint.proofs.FamilyLaws.{column_known, column_reads, unions_later}
use Rattle.termination_model.proofs.Lists.{at_place, there}
use Rattle.truth_rows.specs.Sets.{family_of}
use Rattle.precond_fixpoint.proofs.solving.solve_component.Goals as goal

pub bounds-setting-members : goal.bounds-setting-members
bounds-setting-members g c =
    let p = c.args.setting.now.program.now in
    let comps = c.args.setting.now.comps.now in
    let members = c.members-members.result.now in
    let a : PredId = get_or c.members-members.result.now 0 (record { 0 = 0 }) in
    let first = there members 0 (record { 0 = 0 }) (some_members p comps c.requires.setting.components c.args.c members c.members-members.ensures) in
    let lt = in_program p comps c.requires.setting.components c.args.c members c.members-members.ensures a.0 (member_in p comps c.requires.setting.components c.args.c members c.members-members.ensures 0 a first) in
    omega (arith, lt, c.requires.setting.levels.parts.each)

pub member_sets-requires-clause-component : goal.member_sets-requires-clause-component
member_sets-requires-clause-component g c =
    let p = c.args.setting.now.program.now in
    let comps = c.args.setting.now.comps.now in
    let levels = c.args.setting.now.levels.now in
    let members = c.members-members.result.now in
    let a : PredId = get_or c.members-members.result.now 0 (record { 0 = 0 }) in
    let first = there members 0 (record { 0 = 0 }) (some_members p comps c.requires.setting.components c.args.c members c.members-members.ensures) in
    let in_it = member_in p comps c.requires.setting.components c.args.c members c.members-members.ensures 0 a first in
    let lt = in_program p comps c.requires.setting.components c.args.c members c.members-members.ensures a.0 in_it in
    let own = at_place levels a.0 c.index-setting-members.result (omega (arith, lt, c.requires.setting.levels.parts.each)) c.index-setting-members.is in
    record {
      members = members_ranked p comps c.requires.setting.components c.args.c members c.members-members.ensures c.args.setting.now.ranks.now c.requires.setting.ranks;
      mappings = λ j q e.
          counted p comps levels c.requires.setting.levels c.args.c a.0 in_it c.index-setting-members.result own q.0 (member_in p comps c.requires.setting.components c.args.c members c.members-members.ensures j q e)
          ∙ ap length c.index-setting-members.is ∙ sym c.len-mappings.ensures;
      allowed = c.requires.allowed.sets;
    }

pub put_members-requires-clause-there : goal.put_members-requires-clause-there
put_members-requires-clause-there g c = λ j q e.
    let p = c.args.setting.now.program.now in
    let comps = c.args.setting.now.comps.now in
    let members = c.members-members.result.now in
    in_program p comps c.requires.setting.components c.args.c members c.members-members.ensures q.0 (member_in p comps c.requires.setting.components c.args.c members c.members-members.ensures j q e)

pub put_members-requires-clause-fit : goal.put_members-requires-clause-fit
put_members-requires-clause-fit g c = λ j q own e f.
    let preds = c.args.setting.now.program.now.preds in
    let T1 = c.member_sets.new.table in
    let s = c.in_ok-columns.ensures.solutions in
    let column = s.own j q own e (ap (λ (xs : List (List Diagram)). slice_get xs j) (sym c.deref_mut.ensures.value) ∙ f) in
    record {
      known = column_known preds T1 s.families (λ m family at. (s.solutions m family at).sets) q.0 own column;
      reads = λ m d x at there. column_reads preds T1 s.families (λ m family at. (s.solutions m family at).sets) q.0 own column x there m d at;
    }

pub put_members-requires-clause-allowed : goal.put_members-requires-clause-allowed
put_members-requires-clause-allowed g c = unions_later c.args.setting.now.program.now.preds c.args.table.now c.member_sets.new.table c.member_sets.ensures.keeps c.args.sets.now c.requires.sets c.args.allowed.now c.requires.allowed

pub returns-clause-solved : goal.returns-clause-solved
returns-clause-solved g c =
    let p = c.args.setting.now.program.now in
    let comps = c.args.setting.now.comps.now in
    let levels = c.args.setting.now.levels.now in
    let members = c.members-members.result.now in
    let T = c.args.table.now in
    let T1 = c.member_sets.new.table in
    let T2 = c.put_members.new.table in
    let new = c.put_members.new.sets in
    let put = c.in_ok-put_members.ensures in
    let s = c.in_ok-columns.ensures.solutions in
    let a : PredId = get_or c.members-members.result.now 0 (record { 0 = 0 }) in
    let first = there members 0 (record { 0 = 0 }) (some_members p comps c.requires.setting.components c.args.c members c.members-members.ensures) in
    let in_it = member_in p comps c.requires.setting.components c.args.c members c.members-members.ensures 0 a first in
    let lt = in_program p comps c.requires.setting.components c.args.c members c.members-members.ensures a.0 in_it in
    let at = at_place levels a.0 c.index-setting-members.result (omega (arith, lt, c.requires.setting.levels.parts.each)) c.index-setting-members.is in
    let own = put.own s.families (subst (AreColumns s.families members) (sym c.deref_mut.ensures.value) s.own) in
    component_solved (g.N.Norm.truth c.args.setting.now.norm.now) p comps (family_of p.preds T c.args.setting.now.grounds.now) levels T T2 (keeps_twice _ _ _ c.member_sets.ensures.keeps c.put_members.ensures.keeps) c.args.sets.now new c.requires.sets c.args.c
    (λ q other. put.others q (no_place p comps c.requires.setting.components c.args.c members c.members-members.ensures q other))
    c.args.setting.now.ranks.now c.requires.setting.ranks c.args.allowed.now c.requires.allowed T1 c.put_members.ensures.keeps s.families c.len-mappings.result s.each s.solutions
    (member_columns p comps c.requires.setting.components c.args.c members c.members-members.ensures s.families new own)
    (λ q is. counted p comps levels c.requires.setting.levels c.args.c a.0 in_it c.index-setting-members.result at q is ∙ ap length c.index-setting-members.is ∙ sym c.len-mappings.ensures)

pub returns-clause-others : goal.returns-clause-others
returns-clause-others g c = λ q other.
    c.in_ok-put_members.ensures.others q (no_place c.args.setting.now.program.now c.args.setting.now.comps.now c.requires.setting.components c.args.c c.members-members.result.now c.members-members.ensures q other)
