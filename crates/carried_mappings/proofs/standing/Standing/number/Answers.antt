use Rattle.std.proofs.Common.{◌≡◌, ◌<◌, arith, length, slice_get, Some, Ok, Err, sym, ap, ◌∙◌}
use Rattle.std.proofs.lemmas.List.Sorted.{searched}
use Rattle.termination_model.proofs.Lists.{there}
use Rattle.carried_mappings.proofs.Carries.{own_rises}
use Rattle.carried_mappings.proofs.Numbers.{absent, moved_at, moved_none, rises_up}
use Rattle.carried_mappings.proofs.standing.Standing.number.Goals as goal

pub returns-in-Ok : goal.returns-in-Ok
returns-in-Ok c =
    let s = c.args.self.now in
    let xs = s.own_before.now in
    let ys = s.own.now in
    let rises = own_rises s.edit.now.before.now s.edit.now.components_before.now s.before xs c.requires.own_before in
    let found = searched xs c.args.clause (Ok c.in-Ok.place) c.in-Ok.ensures.position (rises_up 1 xs rises) in
    let at : slice_get xs c.in-Ok.place ≡ Some c.args.clause = there xs c.in-Ok.place 0 found.0 ∙ ap Some found.1 in
    let below : c.in-Ok.place < length ys = omega (arith, found.0, c.requires.each) in
    sym (moved_at 1 xs ys c.in-Ok.place c.args.clause _ rises at (there ys c.in-Ok.place 0 below))

pub returns-in-Err : goal.returns-in-Err
returns-in-Err c =
    let s = c.args.self.now in
    let xs = s.own_before.now in
    let rises = own_rises s.edit.now.before.now s.edit.now.components_before.now s.before xs c.requires.own_before in
    let missed = searched xs c.args.clause (Err c.in-Err.field-0) c.in-Err.ensures.position (rises_up 1 xs rises) in
    sym (moved_none xs s.own.now c.args.clause (λ i. absent xs c.args.clause c.in-Err.field-0 missed.1 missed.2 i))
