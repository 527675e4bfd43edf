use Rattle.std.proofs.Common.{◌≡◌, ◌∙◌, arith, get_or, map, refl, sym}
use Rattle.call_components.specs.Numbers.{number_of}
use Rattle.numeric_model.specs.States.{plain_step}
use Rattle.termination_model.proofs.Lists.{one_element, there}
use Rattle.solved_program.specs.Renumbered.{in_turn}
use Rattle.solved_program.proofs.Above.{rows_put}
use Rattle.solved_program.proofs.Anew.{members_below}
use Rattle.solved_program.proofs.resolving.Sources.carry.Goals as goal

pub take_rows-requires-clause-members : goal.take_rows-requires-clause-members
take_rows-requires-clause-members g c =
    members_below c.args.self.now.edit.now.after.now c.args.self.now.edit.now.components.now c.requires.sources.edit.components c.args.c c.members-members.result.now c.args.progress.now.solved.sizes.rows c.members-members.ensures c.requires.rows.each

pub take_rows-requires-clause-each : goal.take_rows-requires-clause-each
take_rows-requires-clause-each g c = c.requires.rows.each ∙ sym c.requires.ready.state.sizes.each

pub returns-clause-carried : goal.returns-clause-carried
returns-clause-carried g c = λ steps own at_steps at_own.
    let here = c.get-steps.ensures in
    let x = get_or c.args.self.now.own.now c.args.c c.index-self-c.result in
    let mine = there c.args.self.now.own.now c.args.c c.index-self-c.result (omega (arith, c.requires.sources.own.each, c.requires.inner)) in
    let same : c.get-steps.result.now ≡ steps = one_element c.args.self.now.old.now.steps c.args.before c.get-steps.result.now steps here at_steps in
    let other : x ≡ own = one_element c.args.self.now.own.now c.args.c x own mine at_own in
    record {
      carried = c.in_ok-carried.carried;
      steps_are = c.in_ok-push.ensures.ok;
      sizes = refl;
      plain = c.in_ok-carried.ensures ∙ (λ i. in_turn ((c.as_slice-own.ensures ∙ other) i) 0 (map plain_step ((c.as_slice.ensures ∙ same) i)));
    }

pub returns-clause-done : goal.returns-clause-done
returns-clause-done g c =
    rows_put g.D.Domain.width g.D.Domain.listed c.args.self.now c.requires.sources c.args.c (map number_of c.members-members.result.now) c.members-members.ensures c.args.progress.now.solved.sizes.rows c.args.progress.now.state
    (record { sizes = record { rows = c.take_rows.new.to; proofs = c.args.progress.now.state.sizes.proofs }; values = c.args.progress.now.state.values; proofs = c.args.progress.now.state.proofs; steps = c.args.progress.now.state.steps; latest = c.args.progress.now.state.latest })
    c.requires.rows c.requires.ready c.in_ok-take_rows.ensures.taken c.in_ok-take_rows.ensures.each refl refl refl
