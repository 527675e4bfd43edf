use Rattle.std.proofs.Common.{◌≡◌, ◌-◌, length, slice_get, Some, subst}
use Rattle.cti_terms.specs.declared.clauses.Clause.{Clause}
use Rattle.termination_model.proofs.Lists.{at_place, one_element}
use Rattle.size_chains.specs.Noting.{HasRowsOf}
use Rattle.size_chains.specs.Repeating.{IsMarked}
use Rattle.size_chains.specs.Running.{IsTaken, rows_in}
use Rattle.size_chains.specs.States.{IsState, IsAccepted, own_from}
use Rattle.size_chains.proofs.Makes.{columns_at}
use Rattle.size_chains.proofs.Taking.{taken, state_new, head_placed, head_valued, head_rows}
use Rattle.size_chains.proofs.Results.{ok_two, on_ok}
use Rattle.size_chains.proofs.state.State.run_step.Goals as goal

pub note-requires-clause-old : goal.note-requires-clause-old
note-requires-clause-old g c = λ k' there.
    let k = c.clause.result.now in
    let s = c.args.self.now in
    let v = c.index-value.result.now in
    let width = g.D.Domain.width in
    let listed = g.D.Domain.listed in
    let e = g.S.ClauseSystems.systems c.args.systems.now in
    let own = own_from c.args.own.now.comps.now c.args.own.now.number in
    let mine = c.requires.head c.clause.result.now c.clause.ensures.there in
    let at = at_place s.values.items k.head.pred.0 v (head_valued width listed e own c.args.own.now.program.now s c.requires.state k c.clause.ensures.sound c.clause.ensures.ordinary) c.index-value.ensures in
    subst (λ (x : Clause). HasRowsOf (length (e.heads x)) (rows_in s) x v.filled (width v.of) (listed v.of)) (one_element c.args.own.now.program.now.clauses (c.args.k - 1) k k' c.clause.ensures.there there)
    (head_rows width listed e own c.args.own.now.program.now s c.requires.state k c.clause.ensures.sound c.clause.ensures.ordinary (columns_at e c.args.own.now.program.now _ c.requires.same c.program-program.ensures.lawful (c.args.k - 1) k c.clause.ensures.there) mine v at)

pub accept-requires-clause-rows : goal.accept-requires-clause-rows
accept-requires-clause-rows g c = head_placed g.D.Domain.width g.D.Domain.listed (g.S.ClauseSystems.systems c.args.systems.now) (own_from c.args.own.now.comps.now c.args.own.now.number) c.args.own.now.program.now c.args.self.now c.requires.state c.clause.result.now c.clause.ensures.sound c.clause.ensures.ordinary

pub accept-requires-clause-values : goal.accept-requires-clause-values
accept-requires-clause-values g c = head_valued g.D.Domain.width g.D.Domain.listed (g.S.ClauseSystems.systems c.args.systems.now) (own_from c.args.own.now.comps.now c.args.own.now.number) c.args.own.now.program.now c.args.self.now c.requires.state c.clause.result.now c.clause.ensures.sound c.clause.ensures.ordinary

pub returns-clause-state : goal.returns-clause-state
returns-clause-state g c =
    let k = c.clause.result.now in
    let s = c.args.self.now in
    let v = c.index-value.result.now in
    let width = g.D.Domain.width in
    let listed = g.D.Domain.listed in
    let e = g.S.ClauseSystems.systems c.args.systems.now in
    let own = own_from c.args.own.now.comps.now c.args.own.now.number in
    let mine = c.requires.head c.clause.result.now c.clause.ensures.there in
    let at = at_place s.values.items k.head.pred.0 v (head_valued width listed e own c.args.own.now.program.now s c.requires.state k c.clause.ensures.sound c.clause.ensures.ordinary) c.index-value.ensures in
    on_ok (IsAccepted width listed k.head.pred.0 c.args.k c.in_ok-noted.noted s c.accept.new.self) (IsState width listed e own c.args.own.now.program.now c.accept.new.self)
    (λ changed h. state_new width listed g.D.Domain.speaks e own c.args.own.now.program.now c.args.pass s c.accept.new.self c.args.k k c.clause.ensures.sound c.clause.ensures.ordinary (columns_at e c.args.own.now.program.now _ c.requires.same c.program-program.ensures.lawful (c.args.k - 1) k c.clause.ensures.there) c.requires.state mine c.in_ok-noted.noted v at
    (c.in_ok-noted.ensures k c.clause.ensures.there) changed h)
    c.accept.result c.accept.ensures.accepted

pub returns-clause-taken : goal.returns-clause-taken
returns-clause-taken g c =
    let k = c.clause.result.now in
    let s = c.args.self.now in
    let v = c.index-value.result.now in
    let width = g.D.Domain.width in
    let listed = g.D.Domain.listed in
    let e = g.S.ClauseSystems.systems c.args.systems.now in
    let own = own_from c.args.own.now.comps.now c.args.own.now.number in
    let mine = c.requires.head c.clause.result.now c.clause.ensures.there in
    let at = at_place s.values.items k.head.pred.0 v (head_valued width listed e own c.args.own.now.program.now s c.requires.state k c.clause.ensures.sound c.clause.ensures.ordinary) c.index-value.ensures in
    ok_two (IsAccepted width listed k.head.pred.0 c.args.k c.in_ok-noted.noted s c.accept.new.self) (IsMarked k.head.pred.0 s c.accept.new.self)
    (λ changed. (x : Clause) → slice_get c.args.own.now.program.now.clauses (c.args.k - 1) ≡ Some x → IsTaken width listed g.D.Domain.speaks e c.args.pass (c.args.k, x) s c.accept.new.self changed × IsMarked x.head.pred.0 s c.accept.new.self changed)
    (λ changed h marked x there. subst (λ (y : Clause). IsTaken width listed g.D.Domain.speaks e c.args.pass (c.args.k, y) s c.accept.new.self changed × IsMarked y.head.pred.0 s c.accept.new.self changed)
    (one_element c.args.own.now.program.now.clauses (c.args.k - 1) k x c.clause.ensures.there there) (
      taken width listed g.D.Domain.speaks e own c.args.own.now.program.now c.args.pass s c.accept.new.self c.args.k k c.clause.ensures.sound c.clause.ensures.ordinary (columns_at e c.args.own.now.program.now _ c.requires.same c.program-program.ensures.lawful (c.args.k - 1) k c.clause.ensures.there) c.requires.state mine c.in_ok-noted.noted v at
          (c.in_ok-noted.ensures k c.clause.ensures.there) changed h,
      marked,
    ))
    c.accept.result c.accept.ensures.accepted c.accept.ensures.marked
