use Rattle.std.proofs.Common.{◌≡◌, ◌+◌, ℕ, nat_eq, List, [], ◌∷◌, ◌++◌, map, length, drop, append_assoc, append-nil, ap, sym, ◌∙◌, arith}
use Rattle.std.specs.List.{position_or_len}
use Rattle.std.proofs.lemmas.List.{map-append, drop_all}
use Rattle.cti_terms.specs.Tree.{Tree, Variable, trees, instance, all_nodes}
use Rattle.cti_terms.specs.declared.syntax.Term.{Term}
use Rattle.cti_terms.specs.Spell.{tree_of}
use Rattle.cti_terms.specs.Answers.{met, all_met, numbered_by}
use Rattle.unifier.specs.Raised.{raise}
use Rattle.unifier.specs.Shapes.{shape_full}
use Rattle.unifier.specs.Store.{full}
use Rattle.unifier.specs.Pending.{args_full}
use Rattle.ld_resolver.specs.Measured.{args_numbered, all_numbered_by}
use Rattle.ld_resolver.proofs.ToldLaws.{tree_of_var, place_stays, met_length, args_first, numbered_first, numbered_trees, told_first}
use Rattle.ld_resolver.proofs.answer.+told.Goals as goal

pub told_term-returns-in_ok-number_of-in-Variable-clause-term : goal.told_term-returns-in_ok-number_of-in-Variable-clause-term
told_term-returns-in_ok-number_of-in-Variable-clause-term t c = λ more.
    let s = c.args.bindings.now in
    let x = c.in-Variable.x in
    let keys = c.args.variables.now.keys in
    let h = sym c.met-met.ensures.same ∙ c.met-met.ensures.met.tree ∙ ap (shape_full s c.met-met.result.term.base) c.in-Variable.is in
    let e = c.in_ok-number_of-in-Variable.ensures in
    tree_of_var c.in_ok-number_of-in-Variable.field-0
    ∙ ap Variable (e.number ∙ sym (place_stays x keys more) ∙ ap (λ (l : List ℕ). position_or_len (nat_eq x) (l ++ more)) (sym e.variables))
    ∙ ap (numbered_by (c.number_of.new.variables.keys ++ more)) (sym h)

pub told_terms-told_term-requires : goal.told_terms-told_term-requires
told_terms-told_term-requires t c =
    let s = c.args.bindings.now in
    let n = c.args.base in
    let ts = c.args.args.now in
    let i = c.loop-term.term-index in
    let u = full s (instance (raise n) (tree_of c.term-item.result)) in
    let nodes = ap all_nodes (args_first s n ts i c.term-item.result c.loop-term-test.true c.term-item.is) in
    let inv = c.loop-term.invariant in
    let d = c.decreases in
    (omega (arith, nodes, inv.smaller, d), omega (arith, nodes, inv.room))

pub told_terms-loop-term-preserved : goal.told_terms-loop-term-preserved
told_terms-loop-term-preserved t c =
    let s = c.args.bindings.now in
    let n = c.args.base in
    let ts = c.args.args.now in
    let i = c.loop-term.term-index in
    let u = full s (instance (raise n) (tree_of c.term-item.result)) in
    let left = args_full s n (drop (i + 1) ts) in
    let old = c.loop-term.variables.keys in
    let new = c.told_term.new.variables.keys in
    let final = all_met c.args.variables.now.keys (args_full s n ts) in
    let first = args_first s n ts i c.term-item.result c.loop-term-test.true c.term-item.is in
    let inv = c.loop-term.invariant in
    let e = c.in_ok-told_term.ensures in
    let met_all : all_met (met old u) left ≡ final = ap (all_met old) (sym first) ∙ inv.variables in
    let more_nodes = ap all_nodes first in
    let count = met_length old u in
    record {
      variables = ap (λ (l : List ℕ). all_met l left) e.variables ∙ met_all;
      terms = λ more.
          ap (λ (l : List Term). map tree_of l ++ args_numbered (final ++ more) s n (drop (i + 1) ts)) c.in_ok-push.ensures.items
          ∙ ap (λ (l : List Tree). l ++ args_numbered (final ++ more) s n (drop (i + 1) ts)) (map-append tree_of c.loop-term.terms.items (c.in_ok-told_term.field-0 ∷ []))
          ∙ append_assoc (map tree_of c.loop-term.terms.items) (tree_of c.in_ok-told_term.field-0 ∷ []) (args_numbered (final ++ more) s n (drop (i + 1) ts))
          ∙ ap (λ (v : Tree). map tree_of c.loop-term.terms.items ++ v ∷ args_numbered (final ++ more) s n (drop (i + 1) ts)) (told_first old new final [] u (tree_of c.in_ok-told_term.field-0) left e.variables met_all e.term more)
          ∙ ap (λ (l : List Tree). map tree_of c.loop-term.terms.items ++ l) (sym (numbered_first (final ++ more) s n ts i c.term-item.result c.loop-term-test.true c.term-item.is))
          ∙ inv.terms more;
      room = omega (arith, ap length e.variables, count, more_nodes, inv.room);
      smaller = omega (arith, more_nodes, inv.smaller);
    }

pub told_terms-returns-clause-terms : goal.told_terms-returns-clause-terms
told_terms-returns-clause-terms t c = λ more.
    let s = c.args.bindings.now in
    let n = c.args.base in
    let ts = c.args.args.now in
    let final = all_met c.args.variables.now.keys (args_full s n ts) in
    let none = drop_all c.loop-term.term-index ts c.loop-term-test.false in
    let keys : c.loop-term.variables.keys ≡ final = ap (λ (l : List Term). all_met c.loop-term.variables.keys (args_full s n l)) (sym none) ∙ c.loop-term.invariant.variables in
    let terms : map tree_of c.loop-term.terms.items ≡ args_numbered (final ++ more) s n ts =
    sym (append-nil (map tree_of c.loop-term.terms.items))
    ∙ ap (λ (l : List Term). map tree_of c.loop-term.terms.items ++ args_numbered (final ++ more) s n l) (sym none)
    ∙ c.loop-term.invariant.terms more in
    ap trees terms ∙ numbered_trees (final ++ more) s n ts ∙ ap (λ (l : List ℕ). all_numbered_by (l ++ more) (args_full s n ts)) (sym keys)
