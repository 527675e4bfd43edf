use Rattle.std.proofs.Common.{◌≡◌, ◌∙◌, ℕ, List, ap, arith, length, map, refl, slice_get, Some, subst, sym}
use Rattle.call_components.specs.Numbers.{number_of}
use Rattle.numeric_model.specs.Ready.{chain_of}
use Rattle.numeric_model.specs.Running.{rows_in}
use Rattle.termination_model.specs.sizes.Sizes.{rows_of}
use Rattle.termination_model.proofs.Lists.{one_element, there}
use Rattle.solved_program.specs.Resolving.{IsPartTaken}
use Rattle.solved_program.proofs.Above.{part_above, same_before}
use Rattle.solved_program.proofs.Anew.{members_below, numbers_below, taken_marked, taken_rows}
use Rattle.solved_program.proofs.resolving.Sources.solve_anew.Goals as goal

pub solve-requires-clause-component : goal.solve-requires-clause-component
solve-requires-clause-component g c =
    let own = c.as_slice.result.now in
    let at : slice_get c.args.self.now.own.now c.args.c ≡ Some own = there c.args.self.now.own.now c.args.c c.index-self-c.result (omega (arith, c.requires.sources.own.each, c.requires.inner)) ∙ ap Some (sym c.as_slice.ensures) in
    record { components = c.requires.sources.edit.components; inner = c.requires.inner; within = c.requires.sources.own.within c.args.c own at; clauses_are = c.requires.sources.own.clauses c.args.c own at }

pub take_part-requires-clause-members : goal.take_part-requires-clause-members
take_part-requires-clause-members g c =
    members_below c.args.self.now.edit.now.after.now c.args.self.now.edit.now.components.now c.requires.sources.edit.components c.args.c c.members-members.result.now c.solve.new.self.sizes.rows c.members-members.ensures c.in_ok-steps.ensures.ready.state.sizes.each

pub take_part-requires-clause-own : goal.take_part-requires-clause-own
take_part-requires-clause-own g c =
    let p = c.args.self.now.edit.now.after.now in
    let own = c.as_slice.result.now in
    let at : slice_get c.args.self.now.own.now c.args.c ≡ Some own = there c.args.self.now.own.now c.args.c c.index-self-c.result (omega (arith, c.requires.sources.own.each, c.requires.inner)) ∙ ap Some (sym c.as_slice.ensures) in
    numbers_below own (length p.clauses) (length c.solve.new.self.proofs.items) c.in_ok-steps.ensures.ready.state.proofs (c.requires.sources.own.within c.args.c own at)

pub returns-clause-solved : goal.returns-clause-solved
returns-clause-solved g c = λ members own at at_own.
    let mine = c.as_slice.result.now in
    let old = c.args.progress.now in
    let part = chain_of c.in_ok-steps.steps c.solve.new.self in
    let at_mine : slice_get c.args.self.now.own.now c.args.c ≡ Some mine = there c.args.self.now.own.now c.args.c c.index-self-c.result (omega (arith, c.requires.sources.own.each, c.requires.inner)) ∙ ap Some (sym c.as_slice.ensures) in
    let same : mine ≡ own = one_element c.args.self.now.own.now c.args.c mine own at_mine at_own in
    let here = c.members-members.ensures in
    let are : map number_of c.members-members.result.now ≡ members = one_element c.args.self.now.edit.now.components.now.members c.args.c (map number_of c.members-members.result.now) members here at in
    record {
      chain = part;
      part = part_above g.D.Domain.speaks (g.N.Norm.expression c.args.norm.now) c.args.self.now.edit.now.after.now c.args.self.now.edit.now.components.now c.clauses-program.ensures.sound c.requires.sources.edit.components c.args.c
          (rows_in old.state) (rows_of old.solved.sizes.rows) part (same_before g.D.Domain.width g.D.Domain.listed c.args.self.now g.D.Domain.speaks (g.N.Norm.expression c.args.norm.now) c.args.c old c.args.stayed.now c.requires.progress) c.in_ok-steps.ensures.part;
      members_are = at;
      taken = subst (λ (xs : List ℕ). IsPartTaken xs own part old.solved c.take_part.new.solved) are
          (subst (λ (xs : List ℕ). IsPartTaken (map number_of c.members-members.result.now) xs part old.solved c.take_part.new.solved) same c.in_ok-take_part.ensures);
    }

pub returns-clause-marks : goal.returns-clause-marks
returns-clause-marks g c =
    taken_marked c.args.self.now.edit.now.after.now c.args.self.now.edit.now.components.now c.requires.sources.edit.components c.args.c (map number_of c.members-members.result.now) c.members-members.ensures c.solve.new.self.sizes.rows c.args.progress.now.solved.sizes.rows
    c.take_part.new.solved.sizes.rows c.in_ok-take_part.ensures.rows c.args.stayed.now c.mark_same_rows.new.stayed c.mark_same_rows.ensures

pub returns-clause-done : goal.returns-clause-done
returns-clause-done g c = record {
  ready = c.in_ok-steps.ensures.ready;
  members = λ q i.
      sym (taken_rows c.args.self.now.edit.now.after.now c.args.self.now.edit.now.components.now c.requires.sources.edit.components c.args.c (map number_of c.members-members.result.now) c.members-members.ensures c.solve.new.self.sizes.rows
      c.args.progress.now.solved.sizes.rows c.take_part.new.solved.sizes.rows c.in_ok-take_part.ensures.rows q i);
  others = c.in_ok-steps.ensures.others;
}
