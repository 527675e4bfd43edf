use Rattle.std.proofs.Common.{◌≡◌, ◌∙◌, ◌++◌, ◌∷◌, [], ℕ, List, map, get_or, nat_eq, ap, sym, arith, append-nil, sum_by}
use Rattle.std.specs.List.{position_or_len}
use Rattle.std.proofs.lemmas.List.{drop_all}
use Rattle.cti_terms.specs.Tree.{Tree, Variable, nodes_of}
use Rattle.cti_terms.specs.Spell.{tree_of}
use Rattle.prolog_terms.specs.declared.term.ReadTerm.{ReadTerm}
use Rattle.clause_variables.specs.declared.args.Args.{Args}
use Rattle.clause_variables.specs.Terms.{renumbered}
use Rattle.clause_variables.specs.TermViews.{plain_of, args_of}
use Rattle.clause_variables.proofs.CopyLemmas.{copy_step, map_map, sum_by_push, default_is}
use Rattle.clause_variables.proofs.copying.copied_args.Goals as goal

pub variables-preserved : goal.variables-preserved
variables-preserved c =
    let at : ℕ → Tree = λ x. Variable (position_or_len (nat_eq x) c.args.order.now) in
    let xs = c.deref-x-items.result.now in
    let i = c.variables.x-index in
    let x = get_or xs i 0 in
    let inv = c.variables.invariant in
    let copy = tree_of c.copied_variable-copy.result in
    let pushed : c.push-in-variables.new.self ≡ c.variables.copies ++ copy ∷ [] = c.in_ok-push-in-Variables.ensures.ok in
    let one : ◌≡◌ {A = ℕ} (nodes_of copy) 1 = ap nodes_of c.copied_variable-copy.ensures in
    record {
      terms = copy_step at xs i x c.variables.copies c.push-in-variables.new.self copy c.variables-test.true (default_is xs i 0) pushed c.copied_variable-copy.ensures ∙ inv.terms;
      nodes = omega (arith, inv.nodes, c.in_ok-take_node-in-Variables.ensures, ap (λ (ts : List Tree). sum_by nodes_of ts) pushed, sum_by_push c.variables.copies copy, one);
    }

pub returns-after-terms-clause-terms : goal.returns-after-terms-clause-terms
returns-after-terms-clause-terms c =
    let at : ReadTerm → Tree = λ t. renumbered c.args.order.now (plain_of t) in
    let none = drop_all c.terms.term-index c.in-Terms.terms.now c.terms-test.false in
    sym (append-nil c.terms.copies) ∙ ap (λ (ts : List ReadTerm). c.terms.copies ++ map at ts) (sym none) ∙ c.terms.invariant.terms
    ∙ sym (ap (λ (a : Args). map (renumbered c.args.order.now) (args_of a)) c.in-Terms.is ∙ map_map plain_of (renumbered c.args.order.now) c.in-Terms.terms.now)

pub returns-after-variables-clause-terms : goal.returns-after-variables-clause-terms
returns-after-variables-clause-terms c =
    let at : ℕ → Tree = λ x. Variable (position_or_len (nat_eq x) c.args.order.now) in
    let none = drop_all c.variables.x-index c.deref-x-items.result.now c.variables-test.false in
    sym (append-nil c.variables.copies) ∙ ap (λ (ts : List ℕ). c.variables.copies ++ map at ts) (sym none) ∙ c.variables.invariant.terms
    ∙ ap (map at) c.deref-x-items.ensures.value
    ∙ sym (ap (λ (a : Args). map (renumbered c.args.order.now) (args_of a)) c.in-Variables.is ∙ map_map Variable (renumbered c.args.order.now) c.in-Variables.variables.items)
