use Rattle.termination_model.proofs.Lists.{one_element, place_below}
use Rattle.std.proofs.Common.{◌≡◌, ◌↔◌, ◌∙◌, ◌+◌, ◌-◌, ℕ, IsTrue, slice_get, Some, ap, sym, subst, arith}
use Rattle.truth_rows.proofs.CallerLemmas.{sets_later}
use Rattle.bool_diagrams.proofs.CallerLemmas.{keeps_twice}
use Rattle.cti_terms.specs.declared.clauses.Clause.{Clause}
use Rattle.cert_modes.specs.declared.fault.ModeReason.TheVariants as reason
use Rattle.cert_modes.specs.Sets.{KeepsEach}
use Rattle.cert_modes.proofs.MarkLaws.{at_one, marked_same, note_more}
use Rattle.cert_modes.proofs.RuleLaws.{each_later}
use Rattle.cert_modes.proofs.rules.PreconditionRule.mark_each.Goals as goal

pub loop-k-preserved : goal.loop-k-preserved
loop-k-preserved g c =
    let i = c.loop-k.invariant in
    let n = c.loop-k.k in
    let p = c.args.self.now.program.now in
    let old = c.args.table.now in
    let ranks = c.args.self.now.ranks.now in
    let sets = c.args.self.now.sets.now in
    let truth = g.N.Norm.truth c.args.self.now.norm.now in
    let here : n + 1 - 1 ≡ n = omega arith in
    let at = subst (λ (m : ℕ). slice_get p.clauses m ≡ Some c.clause-clause.result.now) here c.clause-clause.ensures.there in
    let test = at_one (slice_get p.clauses n) c.clause-clause.result.now at c.in_ok-kept.kept (λ (k : Clause). KeepsEach truth p old ranks sets k)
    (λ k e.
    let same : c.clause-clause.result.now ≡ k = one_element p.clauses n c.clause-clause.result.now k at e in
    let now = subst (λ (x : Clause). IsTrue c.in_ok-kept.kept ↔ KeepsEach truth p c.loop-k.table ranks sets x) same c.in_ok-kept.ensures.kept in
    let later = each_later truth p old c.loop-k.table i.keeps sets c.requires.ready ranks k in
    (λ t. later.0 (now.0 t), λ s. now.1 (later.1 s))) in
    record {
      keeps = keeps_twice _ _ _ i.keeps c.keeps_each.ensures.keeps;
      each = c.note.ensures.each ∙ i.each;
      chosen = sets_later p.preds c.loop-k.table c.keeps_each.new.table c.keeps_each.ensures.keeps c.keeps_each.new.chosen c.in_ok-kept.ensures.chosen;
      kept = note_more (λ j q. (k : Clause) → slice_get p.clauses j ≡ Some k → k.head.pred.0 ≡ q → KeepsEach truth p old ranks sets k) n c.clause-clause.result.now.head.pred.0 reason.Precondition
          c.args.marks.now c.loop-k.marks c.note.new.self c.in_ok-kept.kept i.kept
          (λ t k e same. test.0 t k e, λ all. test.1 (λ k e. all k e (ap (λ (x : Clause). x.head.pred.0) (one_element p.clauses n k c.clause-clause.result.now e at))))
          (λ q other k e same. absurd (other (sym same ∙ ap (λ (x : Clause). x.head.pred.0) (one_element p.clauses n k c.clause-clause.result.now e at)))) c.note.ensures.at c.note.ensures.others;
    }

pub returns-clause-kept : goal.returns-clause-kept
returns-clause-kept g c = λ q.
    let p = c.args.self.now.program.now in
    marked_same (c.loop-k.invariant.kept q) (
      λ h k x e same. h k (omega (arith, place_below p.clauses k x e, c.loop-k-test.false, c.clauses-k-end.ensures.count, c.loop-k.auto.k-end)) x e same,
      λ h k lt x e same. h k x e same,
    )
