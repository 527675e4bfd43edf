use Rattle.std.proofs.Common.{◌≡◌, ◌∙◌, ◌∷◌, ◌+◌, ℕ, List, None, length, ap, arith, subst, sym}
use Rattle.std.specs.Vec.Iter.{into_iter_items}
use Rattle.clause_normal.specs.Definite.{added_fault}
use Rattle.prolog_terms.specs.Terms.{clause_of}
use Rattle.prolog_terms.specs.declared.clause.ReadClause.{ReadClause}
use Rattle.cti_session.specs.Extending.{ArePushed}
use Rattle.cti_session.proofs.ExtendLemmas.{pushed_next}
use Rattle.cti_session.proofs.extending.push_all.Goals as goal

pub loop-clause-preserved : goal.loop-clause-preserved
loop-clause-preserved c =
    let at = c.loop-clause in
    let names = c.args.names.now in
    let old = c.args.clauses.now.items in
    let more = c.args.more.items in
    let now = at.clauses.items in
    let x = c.in-Some.clause in
    let rest = into_iter_items c.next.new.self in
    let steps : into_iter_items at.clause-iterator ≡ x ∷ rest = c.in-Some.ensures.steps.0 in
    let h = subst (λ (l : List ReadClause). ArePushed names old more l now at.nodes) steps at.invariant.0 in
    let many : c.len.result ≡ length now = omega (arith, c.len.ensures) in
    let none : added_fault names (length now) (clause_of x) ≡ None = ap (λ (n : ℕ). added_fault names n (clause_of x)) (sym many) ∙ c.in_ok-check_added.ensures.exact in (
      pushed_next names old more x rest now c.push.new.clauses.items at.nodes (at.nodes + c.in_ok-nodes.field-0) h none (omega (arith, c.in_ok-nodes.ensures)) c.in_ok-push.ensures.ok,
      let gone = c.in-Some.ensures.steps.1 in
          let short = ap length steps in
          let was = at.invariant.1 in
          omega arith,
    )
