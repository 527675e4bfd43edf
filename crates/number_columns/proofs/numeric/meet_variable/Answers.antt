use Rattle.std.proofs.Common.{◌≡◌, ◌∙◌, None, Some, slice_get, ap}
use Rattle.number_columns.proofs.ArgumentLaws.{place_or}
use Rattle.number_columns.proofs.MeetLaws.{none_keeps, none_meeting, none_met, none_ready, some_keeps, some_meeting, some_met}
use Rattle.number_columns.proofs.numeric.meet_variable.Goals as goal

pub returns-in-Some-clause-meeting : goal.returns-in-Some-clause-meeting
returns-in-Some-clause-meeting c =
    let at : slice_get c.args.first.now c.args.variable ≡ Some (Some c.in-Some.other) = place_or c.args.first.now c.args.variable None c.requires.variable ∙ ap Some c.in-Some.is in
    some_meeting c.args.links.now.parents.items c.link.new.self.parents.items c.args.first.now c.args.variable c.in-Some.other c.args.node c.link.ensures.links c.link.ensures.linked at

pub returns-in-Some-clause-keeps : goal.returns-in-Some-clause-keeps
returns-in-Some-clause-keeps c =
    let at : slice_get c.args.first.now c.args.variable ≡ Some (Some c.in-Some.other) = place_or c.args.first.now c.args.variable None c.requires.variable ∙ ap Some c.in-Some.is in
    some_keeps c.args.links.now.parents.items c.link.new.self.parents.items c.args.first.now c.args.variable c.in-Some.other c.args.node c.link.ensures.links c.link.ensures.linked at

pub returns-in-Some-clause-met : goal.returns-in-Some-clause-met
returns-in-Some-clause-met c =
    let at : slice_get c.args.first.now c.args.variable ≡ Some (Some c.in-Some.other) = place_or c.args.first.now c.args.variable None c.requires.variable ∙ ap Some c.in-Some.is in
    some_met c.args.links.now.parents.items c.link.new.self.parents.items c.args.first.now c.args.variable c.in-Some.other c.args.node c.link.ensures.links c.link.ensures.linked at

pub returns-in-None-clause-ready : goal.returns-in-None-clause-ready
returns-in-None-clause-ready c =
    let at : slice_get c.args.first.now c.args.variable ≡ Some None = place_or c.args.first.now c.args.variable None c.requires.variable ∙ ap Some c.in-None.is in
    none_ready c.args.links.now.parents.items c.args.first.now c.args.variable c.args.node at c.requires.variable c.requires.ready c.requires.known

pub returns-in-None-clause-meeting : goal.returns-in-None-clause-meeting
returns-in-None-clause-meeting c =
    let at : slice_get c.args.first.now c.args.variable ≡ Some None = place_or c.args.first.now c.args.variable None c.requires.variable ∙ ap Some c.in-None.is in
    none_meeting c.args.links.now.parents.items c.args.first.now c.args.variable c.args.node at c.requires.variable

pub returns-in-None-clause-keeps : goal.returns-in-None-clause-keeps
returns-in-None-clause-keeps c =
    let at : slice_get c.args.first.now c.args.variable ≡ Some None = place_or c.args.first.now c.args.variable None c.requires.variable ∙ ap Some c.in-None.is in
    none_keeps c.args.links.now.parents.items c.args.first.now c.args.variable c.args.node at c.requires.variable

pub returns-in-None-clause-met : goal.returns-in-None-clause-met
returns-in-None-clause-met c =
    let at : slice_get c.args.first.now c.args.variable ≡ Some None = place_or c.args.first.now c.args.variable None c.requires.variable ∙ ap Some c.in-None.is in
    none_met c.args.links.now.parents.items c.args.first.now c.args.variable c.args.node at c.requires.variable
