use Rattle.std.proofs.Common.{◌≡◌, ◌↔◌, ◌∙◌, inl, inr, ℕ, IsTrue, true, false, List, length, slice_get, Some, refl, ap, sym, subst, arith}
use Rattle.std.proofs.lemmas.Bool.{cases_lt}
use Rattle.truth_rows.proofs.CallerLemmas.{sets_later}
use Rattle.termination_model.proofs.Lists.{at_place}
use Rattle.truth_rows.specs.Rules.{KeepsSets, same_rank}
use Rattle.truth_rows.specs.Sets.{family_of}
use Rattle.bool_diagrams.proofs.CallerLemmas.{keeps_twice}
use Rattle.bool_diagrams.specs.declared.diagram.Diagram.{Diagram}
use Rattle.cert_structure.specs.Shape.{items_of}
use Rattle.cti_terms.specs.declared.clauses.Clause.{Clause}
use Rattle.cert_modes.specs.Sets.{KeepsEach, mapping_family}
use Rattle.cert_modes.proofs.PlaceLaws.{below_more, items_at, nothing_at}
use Rattle.cert_modes.proofs.RuleLaws.{atom_below, chosen_sets, keeps_none, kept_here}
use Rattle.cert_modes.proofs.rules.PreconditionRule.keeps_each.Goals as goal

pub is_kept-requires-clause-pre : goal.is_kept-requires-clause-pre
is_kept-requires-clause-pre g c =
    let i = c.loop-mapping.invariant in
    let chosen = chosen_sets c.args.self.now.program.now c.args.table.now c.args.self.now.sets.now c.requires.ready c.loop-mapping.mapping c.loop-mapping.chosen c.choose.new.chosen i.chosen c.choose.ensures.each c.choose.ensures.others in
    sets_later c.args.self.now.program.now.preds c.args.table.now c.loop-mapping.table i.keeps c.choose.new.chosen chosen

pub returns-then-not-kept-clause-chosen : goal.returns-then-not-kept-clause-chosen
returns-then-not-kept-clause-chosen g c =
    chosen_sets c.args.self.now.program.now c.args.table.now c.args.self.now.sets.now c.requires.ready c.loop-mapping.mapping c.loop-mapping.chosen c.choose.new.chosen c.loop-mapping.invariant.chosen c.choose.ensures.each c.choose.ensures.others

pub returns-then-not-kept-clause-kept : goal.returns-then-not-kept-clause-kept
returns-then-not-kept-clause-kept g c =
    let i = c.loop-mapping.invariant in
    let p = c.args.self.now.program.now in
    let n = c.loop-mapping.mapping in
    let truth = g.N.Norm.truth c.args.self.now.norm.now in
    let k = c.args.clause.now in
    let chosen = chosen_sets p c.args.table.now c.args.self.now.sets.now c.requires.ready n c.loop-mapping.chosen c.choose.new.chosen i.chosen c.choose.ensures.each c.choose.ensures.others in
    let here = kept_here truth p c.args.table.now c.loop-mapping.table i.keeps c.args.self.now.sets.now c.requires.ready c.choose.new.chosen chosen _ _ c.as_slice-in-loop-mapping-2.ensures.value c.as_slice-in-loop-mapping.ensures.value
    (λ q. same_rank c.args.self.now.ranks.now q k.head.pred.0) k n c.choose.ensures.head c.choose.ensures.body in
    (λ t. cc, λ all. sym c.if-not-kept.true ∙ c.in_ok-kept.ensures.rule.1 (here.1 (all n)))

pub loop-mapping-preserved : goal.loop-mapping-preserved
loop-mapping-preserved g c =
    let i = c.loop-mapping.invariant in
    let p = c.args.self.now.program.now in
    let n = c.loop-mapping.mapping in
    let truth = g.N.Norm.truth c.args.self.now.norm.now in
    let k = c.args.clause.now in
    let chosen = chosen_sets p c.args.table.now c.args.self.now.sets.now c.requires.ready n c.loop-mapping.chosen c.choose.new.chosen i.chosen c.choose.ensures.each c.choose.ensures.others in
    let here = kept_here truth p c.args.table.now c.loop-mapping.table i.keeps c.args.self.now.sets.now c.requires.ready c.choose.new.chosen chosen _ _ c.as_slice-in-loop-mapping-2.ensures.value c.as_slice-in-loop-mapping.ensures.value
    (λ q. same_rank c.args.self.now.ranks.now q k.head.pred.0) k n c.choose.ensures.head c.choose.ensures.body in
    record {
      keeps = keeps_twice _ _ _ i.keeps c.is_kept.ensures.keeps;
      chosen = chosen;
      kept = below_more (λ (m : ℕ). KeepsSets truth (mapping_family p.preds c.args.table.now c.args.self.now.sets.now.preconditions m) (family_of p.preds c.args.table.now c.args.self.now.sets.now.allowed.items)
          (family_of p.preds c.args.table.now c.args.self.now.sets.now.grounds.items) (λ q. same_rank c.args.self.now.ranks.now q k.head.pred.0) k) n i.kept
          (here.0 (c.in_ok-kept.ensures.rule.0 c.if-not-kept.false));
    }

pub returns-clause-kept : goal.returns-clause-kept
returns-clause-kept g c =
    let i = c.loop-mapping.invariant in
    let p = c.args.self.now.program.now in
    let truth = g.N.Norm.truth c.args.self.now.norm.now in
    let k = c.args.clause.now in
    let pre = c.args.self.now.sets.now.preconditions in
    let lt = atom_below p.preds k.vars k.head c.requires.clause.head in
    let at : slice_get c.args.self.now.sets.now.preconditions k.head.pred.0 ≡ Some c.index-as_slice-clause.result =
    ap (λ (xs : List (List Diagram)). slice_get xs k.head.pred.0) (sym c.as_slice.ensures)
    ∙ at_place c.as_slice.result.now k.head.pred.0 c.index-as_slice-clause.result (omega (arith, lt, c.requires.ready.preconditions.each, ap length c.as_slice.ensures)) c.index-as_slice-clause.is in
    let own : length (items_of c.args.self.now.sets.now.preconditions k.head.pred.0) ≡ length c.as_slice-own.result.now = ap length (items_at pre k.head.pred.0 c.index-as_slice-clause.result at ∙ sym c.as_slice-own.ensures) in (
      λ t m. elim (cases_lt m c.loop-mapping.mapping) [
        | inl lt ↦ i.kept m lt
        | inr ge ↦ keeps_none truth p.preds c.args.table.now pre m (family_of p.preds c.args.table.now c.args.self.now.sets.now.allowed.items) (family_of p.preds c.args.table.now c.args.self.now.sets.now.grounds.items)
            (λ q. same_rank c.args.self.now.ranks.now q k.head.pred.0) k (nothing_at (items_of pre k.head.pred.0) m (λ lt. omega (arith, lt, ge, own, c.loop-mapping-test.false)))
      ],
      λ all. refl,
    )
