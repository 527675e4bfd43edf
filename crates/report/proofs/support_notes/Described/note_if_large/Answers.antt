use Rattle.std.proofs.Common.{◌≡◌, ◌++◌, ◌∷◌, [], List, arith, ap, sym, subst, ◌∙◌, map}
use Rattle.std.specs.Prelude.{OnOk}
use Rattle.std.proofs.lemmas.List.{length-map}
use Rattle.call_components.specs.Numbers.{number_of}
use Rattle.certificate.specs.declared.fact.Fact.{Fact}
use Rattle.certificate.specs.declared.fact.Fact.TheVariants as fact
use Rattle.cert_structure.specs.Order.{pred_text}
use Rattle.cert_assembly.proofs.NoteLaws.{append_none}
use Rattle.report.proofs.NoteLaws.{few_positions, many_positions, position_count}
use Rattle.cert_assembly.proofs.MemberLaws.{members_few, members_within}
use Rattle.report.proofs.support_notes.Described.note_if_large.Goals as goal

pub positions_count-positions-requires-clause-members : goal.positions_count-positions-requires-clause-members
positions_count-positions-requires-clause-members c =
    let s = c.args.self.now in
    members_within s.p.now s.comps.now c.requires.components c.args.c (map number_of c.members.result.now) c.members.ensures

pub positions_count-positions-requires-clause-few : goal.positions_count-positions-requires-clause-few
positions_count-positions-requires-clause-few c =
    let s = c.args.self.now in
    let few = members_few s.p.now s.comps.now c.requires.components c.args.c (map number_of c.members.result.now) c.members.ensures c.clauses-program.ensures.sound in
    let same = length-map c.members.result.now number_of in
    omega (arith, few, same)

pub returns-then-positions-le-MOST_POSITIONS : goal.returns-then-positions-le-MOST_POSITIONS
returns-then-positions-le-MOST_POSITIONS c =
    let s = c.args.self.now in
    let count = position_count s.p.now s.comps.now c.args.c (map number_of c.members.result.now) c.positions_count-positions.result c.members.ensures c.positions_count-positions.ensures in
    let few = few_positions s.p.now s.names.now s.comps.now c.args.q.0 c.args.c c.positions_count-positions.result count c.if-positions-le-MOST_POSITIONS.true in
    sym (ap (λ (notes : List Fact). c.args.out.now ++ notes) few ∙ append_none c.args.out.now)

pub returns : goal.returns
returns c =
    let s = c.args.self.now in
    let n = c.positions_count-positions.result in
    let count = position_count s.p.now s.comps.now c.args.c (map number_of c.members.result.now) n c.members.ensures c.positions_count-positions.ensures in
    let many = many_positions s.p.now s.names.now s.comps.now c.args.q.0 c.args.c n count c.if-positions-le-MOST_POSITIONS.false in
    let text : c.in_ok-pred_text.field-0 ≡ pred_text s.p.now s.names.now c.args.q.0 = c.in_ok-pred_text.ensures in
    subst (λ (notes : List Fact). OnOk c.push.result (c.push.new.self ≡ c.args.out.now ++ notes)) ((λ i. fact.Large (text i) n ∷ []) ∙ sym many) c.push.ensures.ok
