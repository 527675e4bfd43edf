use Rattle.std.proofs.Common.{◌≡◌, ◌∙◌, ℕ, Some, inl, inr, sym, ap, arith}
use Rattle.std.proofs.lemmas.Bool.{cases_eq}
use Rattle.cti_terms.specs.Arithmetic.{kind_of}
use Rattle.number_columns.specs.Links.{node_of}
use Rattle.number_columns.specs.Meeting.{BuiltinPairs}
use Rattle.number_columns.proofs.LinkLaws.{links_then}
use Rattle.number_columns.proofs.numeric.link_builtins.Goals as goal

pub loop-q-preserved : goal.loop-q-preserved
loop-q-preserved c =
    let ar = c.args.p.now.arithmetic in
    let inv = c.loop-q.invariant in
    let more = c.link_if_builtin.ensures in
    record {
      links = links_then (BuiltinPairs ar) (BuiltinPairs ar) (BuiltinPairs ar) c.args.links.now.parents.items c.loop-q.links.parents.items c.link_if_builtin.new.links.parents.items (λ n m p. p) (λ n m p. p) inv.links more.links;
      closed = λ r kind lt is i low f h. elim (cases_eq r c.loop-q.q) [
        | inl same ↦ more.closed kind (ap (kind_of ar) (sym same) ∙ is) i low f h ∙ ap (λ (q : ℕ). f (node_of q i)) (sym same)
        | inr ne ↦ inv.closed r kind (omega (arith, lt, ne)) is i low f (more.links.keeps f h)
      ];
    }

pub returns-clause-closed : goal.returns-clause-closed
returns-clause-closed c = λ q kind lt. c.loop-q.invariant.closed q kind (omega (arith, lt, c.preds-q-end.ensures.count))
