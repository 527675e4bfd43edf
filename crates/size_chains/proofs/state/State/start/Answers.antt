use Rattle.cti_terms.specs.Listing.{Listing}
use Rattle.std.proofs.Common.{◌∙◌, ap, length}
use Rattle.size_chains.proofs.Readies.{ready_first}
use Rattle.size_chains.proofs.Starts.{start_state, rows_start, stated_later}
use Rattle.size_chains.proofs.state.State.start.Goals as goal

pub returns-clause-state : goal.returns-clause-state
returns-clause-state g c =
    let p = g.S.ClauseSystems.listing c.args.systems.now in
    let e = g.S.ClauseSystems.systems c.args.systems.now in
    let width = g.D.Domain.width in
    let listed = g.D.Domain.listed in
    let stated = stated_later width listed e p (length p.preds) c.put_stated.new.self c.add_proofs.new.self c.in_ok-put_stated.ensures.stated c.in_ok-add_proofs.ensures.sizes c.in_ok-add_proofs.ensures.values in
    start_state width listed e p c.add_proofs.new.self stated c.in_ok-put_stated.ensures.sound (c.in_ok-add_proofs.ensures.proofs ∙ ap (λ (x : Listing). length x.clauses) c.program-p.ensures.same)

pub returns-clause-rows : goal.returns-clause-rows
returns-clause-rows g c =
    let p = g.S.ClauseSystems.listing c.args.systems.now in
    let e = g.S.ClauseSystems.systems c.args.systems.now in
    let width = g.D.Domain.width in
    let listed = g.D.Domain.listed in
    let stated = stated_later width listed e p (length p.preds) c.put_stated.new.self c.add_proofs.new.self c.in_ok-put_stated.ensures.stated c.in_ok-add_proofs.ensures.sizes c.in_ok-add_proofs.ensures.values in
    rows_start width listed e p c.add_proofs.new.self stated c.in_ok-put_stated.ensures.sound

pub returns-clause-ready : goal.returns-clause-ready
returns-clause-ready g c = λ comps.
    let p = g.S.ClauseSystems.listing c.args.systems.now in
    let e = g.S.ClauseSystems.systems c.args.systems.now in
    let width = g.D.Domain.width in
    let listed = g.D.Domain.listed in
    let stated = stated_later width listed e p (length p.preds) c.put_stated.new.self c.add_proofs.new.self c.in_ok-put_stated.ensures.stated c.in_ok-add_proofs.ensures.sizes c.in_ok-add_proofs.ensures.values in
    ready_first width listed e p comps c.add_proofs.new.self (start_state width listed e p c.add_proofs.new.self stated c.in_ok-put_stated.ensures.sound (c.in_ok-add_proofs.ensures.proofs ∙ ap (λ (x : Listing). length x.clauses) c.program-p.ensures.same))
    (rows_start width listed e p c.add_proofs.new.self stated c.in_ok-put_stated.ensures.sound) (c.in_ok-add_proofs.ensures.steps ∙ c.in_ok-put_stated.ensures.steps ∙ c.in_ok-add_values.ensures.steps ∙ c.new-5.ensures)
