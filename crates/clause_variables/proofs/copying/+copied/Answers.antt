use Rattle.std.proofs.Common.{◌∙◌, ◌++◌, List, map, ap, sym, arith, append-nil}
use Rattle.std.proofs.lemmas.List.{drop_all}
use Rattle.cti_terms.specs.Tree.{Tree, all_nodes, trees}
use Rattle.cti_terms.specs.Spell.{tree_of}
use Rattle.prolog_terms.specs.declared.term.ReadTerm.{ReadTerm}
use Rattle.clause_variables.specs.Terms.{renumbered}
use Rattle.clause_variables.specs.TermViews.{plain_of}
use Rattle.clause_variables.proofs.CopyLemmas.{copied_fun, all_nodes_push, copy_step}
use Rattle.clause_variables.proofs.copying.+copied.Goals as goal

pub each-preserved : goal.each-preserved
each-preserved t c =
    let at : ReadTerm → Tree = λ t. renumbered c.args.order.now (plain_of t) in
    let inv = c.each.invariant in
    let pushed = c.in_ok-push-in-Fun.ensures.ok in
    record {
      terms =
          copy_step at c.deref-arg-items.result.now c.each.arg-index c.arg-item.result c.each.copies c.push.new.self (tree_of c.in_ok-copy-in-Fun.copy) c.each-test.true c.arg-item.is pushed c.in_ok-copy-in-Fun.ensures.term
          ∙ inv.terms;
      nodes = omega (arith, inv.nodes, c.in_ok-copy-in-Fun.ensures.nodes, ap (λ (ts : List Tree). all_nodes (trees ts)) pushed, all_nodes_push c.each.copies (tree_of c.in_ok-copy-in-Fun.copy));
    }

pub returns-after-each-clause-term : goal.returns-after-each-clause-term
returns-after-each-clause-term t c =
    let at : ReadTerm → Tree = λ t. renumbered c.args.order.now (plain_of t) in
    let items = c.deref-arg-items.result.now in
    let none = drop_all c.each.arg-index items c.each-test.false in
    copied_fun c.args.order.now c.args.term.now c.in-Fun.name c.in-Fun.args c.into_vec.result c.in-Fun.is
    (c.into_vec.ensures ∙ sym (append-nil c.each.copies) ∙ ap (λ (ts : List ReadTerm). c.each.copies ++ map at ts) (sym none) ∙ c.each.invariant.terms ∙ ap (map at) c.deref-arg-items.ensures.value)
