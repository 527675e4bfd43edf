use Rattle.termination_model.proofs.Lists.{one_element, place_below}
use Rattle.std.proofs.Common.{◌≡◌, ◌↔◌, ◌∙◌, ◌+◌, ◌-◌, ℕ, true, IsTrue, [], ◌∷◌, slice_get, Some, ap, sym, subst, arith}
use Rattle.truth_rows.proofs.CallerLemmas.{family_later, sets_later}
use Rattle.truth_rows.specs.Sets.{family_of}
use Rattle.bool_diagrams.proofs.CallerLemmas.{keeps_twice}
use Rattle.cti_terms.specs.declared.clauses.Clause.{Clause}
use Rattle.cert_modes.specs.declared.fault.ModeReason.TheVariants as reason
use Rattle.cert_modes.proofs.MarkLaws.{at_one, marked_both, marked_same, note_more}
use Rattle.termination_model.specs.grounds.Grounds.{Family, IsClosedUnder}
use Rattle.cert_modes.proofs.closing.mark_open.Goals as goal

pub loop-k-preserved : goal.loop-k-preserved
loop-k-preserved g c =
    let i = c.loop-k.invariant in
    let n = c.loop-k.k in
    let p = c.args.p.now in
    let truth = g.N.Norm.truth c.args.norm.now in
    let here : n + 1 - 1 ≡ n = omega arith in
    let at = subst (λ (m : ℕ). slice_get p.clauses m ≡ Some c.clause.result.now) here c.clause.ensures.there in
    let rule = subst (λ (m : ℕ). (k : Clause) → slice_get p.clauses m ≡ Some k → IsTrue c.in_ok-closed.closed ↔ IsClosedUnder truth (family_of p.preds c.loop-k.table c.args.sets.now) k) here c.in_ok-closed.ensures.closed in
    let test = at_one (slice_get p.clauses n) c.clause.result.now at c.in_ok-closed.closed (λ (k : Clause). IsClosedUnder truth (family_of p.preds c.args.table.now c.args.sets.now) k)
    (λ k e. subst (λ (f : Family). IsTrue c.in_ok-closed.closed ↔ IsClosedUnder truth f k) (family_later p.preds c.args.table.now c.loop-k.table i.keeps c.args.sets.now c.requires.sets.known) (rule k e)) in
    record {
      keeps = keeps_twice _ _ _ i.keeps c.is_closed_under.ensures.keeps;
      each = c.note.ensures.each ∙ i.each;
      closed = note_more (λ j q. (k : Clause) → slice_get p.clauses j ≡ Some k → k.head.pred.0 ≡ q → IsClosedUnder truth (family_of p.preds c.args.table.now c.args.sets.now) k) n c.clause.result.now.head.pred.0 reason.Ground
          c.args.marks.now c.loop-k.marks c.note.new.self c.in_ok-closed.closed i.closed
          (λ t k e same. test.0 t k e, λ all. test.1 (λ k e. all k e (ap (λ (x : Clause). x.head.pred.0) (one_element p.clauses n k c.clause.result.now e at))))
          (λ q other k e same. absurd (other (sym same ∙ ap (λ (x : Clause). x.head.pred.0) (one_element p.clauses n k c.clause.result.now e at)))) c.note.ensures.at c.note.ensures.others;
    }

pub mark_unstated-requires-clause-sets : goal.mark_unstated-requires-clause-sets
mark_unstated-requires-clause-sets g c = sets_later c.args.p.now.preds c.args.table.now c.loop-k.table c.loop-k.invariant.keeps c.args.sets.now c.requires.sets

pub returns-clause-closed : goal.returns-clause-closed
returns-clause-closed g c = λ q.
    let p = c.args.p.now in
    let later = family_later p.preds c.args.table.now c.loop-k.table c.loop-k.invariant.keeps c.args.sets.now c.requires.sets.known in
    marked_same (marked_both (c.loop-k.invariant.closed q) (c.mark_unstated.ensures.stated q)) (
      λ h. record {
        clauses = λ k x e same. h.0 k (omega (arith, place_below p.clauses k x e, c.loop-k-test.false, c.clauses-k-end.ensures.count, c.loop-k.auto.k-end)) x e same;
        builtin = λ b is. subst (λ (f : Family). IsTrue (f q (true ∷ (true ∷ [])))) later (h.1 b is);
      },
      λ h. (λ k lt x e same. h.clauses k x e same, λ b is. subst (λ (f : Family). IsTrue (f q (true ∷ (true ∷ [])))) (sym later) (h.builtin b is)),
    )
