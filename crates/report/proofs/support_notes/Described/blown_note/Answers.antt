use Rattle.std.proofs.Common.{◌≡◌, [], arith, ap, sym, ◌∙◌, map}
use Rattle.std.proofs.lemmas.List.{length-map}
use Rattle.call_components.specs.Numbers.{number_of}
use Rattle.certificate.specs.declared.fact.Fact.TheVariants as fact
use Rattle.termination_model.proofs.Lists.{indexed}
use Rattle.termination_model.specs.mappings.ComponentViews.{members_in}
use Rattle.report.specs.SupportNotes.{arguments_by_member}
use Rattle.cert_assembly.proofs.MemberLaws.{members_few, members_within}
use Rattle.report.proofs.support_notes.Described.blown_note.Goals as goal

pub arguments_by_member-requires-clause-members : goal.arguments_by_member-requires-clause-members
arguments_by_member-requires-clause-members c =
    let s = c.args.self.now in
    members_within s.p.now s.comps.now c.requires.components c.args.c (map number_of c.members.result.now) c.members.ensures

pub arguments_by_member-requires-clause-few : goal.arguments_by_member-requires-clause-few
arguments_by_member-requires-clause-few c =
    let s = c.args.self.now in
    let few = members_few s.p.now s.comps.now c.requires.components c.args.c (map number_of c.members.result.now) c.members.ensures c.clauses-program.ensures.sound in
    let same = length-map c.members.result.now number_of in
    omega (arith, few, same)

pub returns : goal.returns
returns c =
    let s = c.args.self.now in
    let members : members_in s.comps.now c.args.c ≡ map number_of c.members.result.now = indexed s.comps.now.members c.args.c (map number_of c.members.result.now) [] c.members.ensures in
    let support = c.in_ok-arguments_by_member.ensures ∙ ap (arguments_by_member s.p.now c.args.set.now 1) (sym members) in
    λ i. fact.Blown (c.in_ok-pred_text.ensures i) (support i)
