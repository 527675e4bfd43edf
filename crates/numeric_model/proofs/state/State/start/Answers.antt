use Rattle.std.proofs.Common.{◌∙◌, length}
use Rattle.numeric_model.proofs.Readies.{ready_first}
use Rattle.numeric_model.proofs.Starts.{start_state, rows_start, stated_later}
use Rattle.numeric_model.proofs.state.State.start.Goals as goal

pub returns-clause-state : goal.returns-clause-state
returns-clause-state g c =
    let p = c.args.p.now in
    let width = g.D.Domain.width in
    let listed = g.D.Domain.listed in
    let stated = stated_later width listed p (length p.preds) c.put_stated.new.self c.add_proofs.new.self c.in_ok-put_stated.ensures.stated c.in_ok-add_proofs.ensures.sizes c.in_ok-add_proofs.ensures.values in
    start_state width listed p c.add_proofs.new.self stated c.in_ok-put_stated.ensures.sound c.in_ok-add_proofs.ensures.proofs

pub returns-clause-rows : goal.returns-clause-rows
returns-clause-rows g c =
    let p = c.args.p.now in
    let width = g.D.Domain.width in
    let listed = g.D.Domain.listed in
    let stated = stated_later width listed p (length p.preds) c.put_stated.new.self c.add_proofs.new.self c.in_ok-put_stated.ensures.stated c.in_ok-add_proofs.ensures.sizes c.in_ok-add_proofs.ensures.values in
    rows_start width listed p c.add_proofs.new.self stated c.in_ok-put_stated.ensures.sound

pub returns-clause-ready : goal.returns-clause-ready
returns-clause-ready g c = λ comps.
    let p = c.args.p.now in
    let width = g.D.Domain.width in
    let listed = g.D.Domain.listed in
    let stated = stated_later width listed p (length p.preds) c.put_stated.new.self c.add_proofs.new.self c.in_ok-put_stated.ensures.stated c.in_ok-add_proofs.ensures.sizes c.in_ok-add_proofs.ensures.values in
    ready_first width listed p comps c.add_proofs.new.self (start_state width listed p c.add_proofs.new.self stated c.in_ok-put_stated.ensures.sound c.in_ok-add_proofs.ensures.proofs)
    (rows_start width listed p c.add_proofs.new.self stated c.in_ok-put_stated.ensures.sound) (c.in_ok-add_proofs.ensures.steps ∙ c.in_ok-put_stated.ensures.steps ∙ c.in_ok-add_values.ensures.steps ∙ c.new-5.ensures)
