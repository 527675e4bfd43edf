use Rattle.std.proofs.Common.{◌≡◌, ◌↔◌, ◌-◌, ℕ, IsTrue, take, length, slice_get, List, Some, refl, sym, ap, ◌∙◌, arith, below_more}
use Rattle.cert_checker.specs.Shape.{AreTogether}
use Rattle.cti_terms.specs.Listing.{IsAtom}
use Rattle.cti_terms.specs.declared.atom_list.Atom.{Atom}
use Rattle.cti_terms.specs.declared.predicates.Pred.{Pred}
use Rattle.number_tests.proofs.RowSteps.{system_count}
use Rattle.number_tests.proofs.Sized.{sized_clause, some_below}
use Rattle.number_tests.specs.Shape.{list_at}
use Rattle.number_tests.specs.Systems.{IsSizedAtom, IsSizedClause}
use Rattle.termination_model.proofs.Lists.{at_place, by_places, one_element, place_below}
use Rattle.termination_model.specs.sizes.Sizes.{rows_of}
use Rattle.termination_model.specs.sizes.ShortSystems.{short_system}
use Rattle.lex_checker.specs.Proved.{MeasuresDrop}
use Rattle.lex_checker.proofs.DropLists.{lists_at}
use Rattle.lex_checker.proofs.dropping.clause_drops.Given.{Over}
use Rattle.lex_checker.proofs.dropping.clause_drops.Goals.{After-clause-clause, After-items_at-proofs, After-index-as_slice-j, After-items_at, In_ok-call_drops}
use Rattle.lex_checker.proofs.dropping.clause_drops.Goals as goal

sized : (g : Over) (c : After-clause-clause g) → IsSizedClause c.args.parts.now.rows c.clause-clause.result.now
sized g c = sized_clause c.args.p.now.preds c.args.parts.now.rows c.clause-clause.result.now c.requires.sizes c.clause-clause.ensures.sound

-- the clause's own multipliers
drops_are : (g : Over) (c : After-items_at-proofs g) → c.items_at-proofs.result.now ≡ list_at c.args.parts.now.drops (c.args.k - 1)
drops_are g c = cc

call_at : (g : Over) (c : After-index-as_slice-j g) → slice_get c.clause-clause.result.now.body c.loop-j.j ≡ Some c.index-as_slice-j.result
call_at g c =
    ap (λ (bs : List Atom). slice_get bs c.loop-j.j) (sym c.as_slice-in-loop-j.ensures)
    ∙ at_place c.as_slice-in-loop-j.result.now c.loop-j.j c.index-as_slice-j.result (omega (arith, ap length c.as_slice-in-loop-j.ensures, c.len-j-end.ensures)) c.index-as_slice-j.is

-- the call that is tested is of the clause's own component
together : (g : Over) (c : After-items_at g) → AreTogether c.args.comps.now c.clause-clause.result.now.head.pred.0 c.index-as_slice-j.result.pred.0
together g c = c.of-component.ensures ∙ ap Some (sym c.if-of-component.false) ∙ sym c.of.ensures

-- what its test decides, over the system of the atoms before it
decided : (g : Over) (c : In_ok-call_drops g) → let e = g.N.Norm.expression c.args.norm.now in let clause = c.clause-clause.result.now in let lists = c.args.parts.now.lists in
    IsTrue c.in_ok-call_drops.field-0 ↔ ((m : ℕ) → MeasuresDrop e (short_system e (rows_of c.args.parts.now.rows) clause.vars (take c.loop-j.j clause.body)) clause c.index-as_slice-j.result
    (list_at (list_at lists clause.head.pred.0) m) (list_at (list_at lists c.index-as_slice-j.result.pred.0) m) (list_at (list_at c.items_at-proofs.result.now c.loop-j.j) m))
decided g c = rw (← c.in_ok-extend.ensures.rows, ← c.items_at.ensures) c.in_ok-call_drops.ensures

pub first_system-requires : goal.first_system-requires
first_system-requires g c = sized g (goal.at.first_system-requires g c).After-clause-clause

pub of-requires : goal.of-requires
of-requires g c =
    let preds = c.args.p.now.preds in
    let clause = c.clause-clause.result.now in
    let b = c.index-as_slice-j.result in
    let at = call_at g (goal.at.of-requires g c).After-index-as_slice-j in
    let atom = by_places (IsAtom preds clause.vars) clause.body c.clause-clause.ensures.sound.body c.loop-j.j b at in
    omega (arith, some_below (λ (d : Pred). d.arity ≡ length b.args) preds b.pred.0 atom.arity, c.requires.components.each)

pub loop-j-preserved-then-of-component : goal.loop-j-preserved-then-of-component
loop-j-preserved-then-of-component g c =
    let clause = c.clause-clause.result.now in
    let n = c.loop-j.j in
    let b = c.index-as_slice-j.result in
    let at = call_at g (goal.at.loop-j-preserved-then-of-component g c).After-index-as_slice-j in
    let apart : ¬ AreTogether c.args.comps.now clause.head.pred.0 b.pred.0 = λ to. let one : c.of.result ≡ c.of-component.result = let both = sym c.of.ensures ∙ sym to ∙ c.of-component.ensures in cc in c.if-of-component.true one in
    record {
      order = omega arith;
      system = c.loop-j.invariant.system;
      calls = below_more _ n c.loop-j.invariant.calls (λ x ex to. elim (apart (rw (one_element clause.body n b x at ex) to)) [ ]);
    }

pub extend-requires-clause-sized : goal.extend-requires-clause-sized
extend-requires-clause-sized g c = sized g (goal.at.extend-requires-clause-sized g c).After-clause-clause

pub call_drops-requires-clause-sized : goal.call_drops-requires-clause-sized
call_drops-requires-clause-sized g c = sized g (goal.at.call_drops-requires-clause-sized g c).After-clause-clause

pub call_drops-requires-clause-call : goal.call_drops-requires-clause-call
call_drops-requires-clause-call g c =
    let here = goal.at.call_drops-requires-clause-call g c in
    let clause = c.clause-clause.result.now in
    by_places (IsSizedAtom c.args.parts.now.rows clause.vars) clause.body (sized g here.After-clause-clause).body c.loop-j.j c.index-as_slice-j.result (call_at g here.After-index-as_slice-j)

pub call_drops-requires-clause-lists : goal.call_drops-requires-clause-lists
call_drops-requires-clause-lists g c =
    let here = goal.at.call_drops-requires-clause-lists g c in
    let parts = c.args.parts.now in
    let clause = c.clause-clause.result.now in
    let n = c.loop-j.j in
    rw (system_count (g.N.Norm.expression c.args.norm.now) (rows_of parts.rows) clause n c.extend.new.system c.in_ok-extend.ensures, c.items_at.ensures, drops_are g here.After-items_at-proofs)
    (lists_at c.args.p.now c.args.comps.now parts c.requires.lists c.requires.drops (c.args.k - 1) n clause c.index-as_slice-j.result c.clause-clause.ensures.sound c.clause-clause.ensures.there
    (call_at g here.After-index-as_slice-j) (together g here.After-items_at))

pub returns-then-not-branch : goal.returns-then-not-branch
returns-then-not-branch g c =
    let here = goal.at.returns-then-not-branch g c in
    λ x ex. rw (one_element c.args.p.now.clauses (c.args.k - 1) x c.clause-clause.result.now ex c.clause-clause.ensures.there, ← drops_are g here.After-items_at-proofs) (
      λ no. cc,
      λ all. sym c.if-not-branch.true ∙ (decided g here.In_ok-call_drops).1 (all c.loop-j.j c.index-as_slice-j.result (call_at g here.After-index-as_slice-j) (together g here.After-items_at)),
    )

pub loop-j-preserved : goal.loop-j-preserved
loop-j-preserved g c =
    let here = goal.at.loop-j-preserved g c in
    let dropped = (decided g here.In_ok-call_drops).0 c.if-not-branch.false in
    record {
      order = omega arith;
      system = c.in_ok-extend.ensures;
      calls = below_more _ c.loop-j.j c.loop-j.invariant.calls
          (λ x ex to. rw (one_element c.clause-clause.result.now.body c.loop-j.j x c.index-as_slice-j.result ex (call_at g here.After-index-as_slice-j)) dropped);
    }

pub returns : goal.returns
returns g c = λ x ex.
    rw (one_element c.args.p.now.clauses (c.args.k - 1) x c.clause-clause.result.now ex c.clause-clause.ensures.there, ← drops_are g (goal.at.returns g c).After-items_at-proofs)
    (λ yes j b ej. c.loop-j.invariant.calls j (omega (arith, place_below c.clause-clause.result.now.body j b ej, c.len-j-end.ensures)) b ej, λ all. refl)
