use Rattle.std.proofs.Common.{◌+◌, List, [], ◌∷◌, ◌++◌, map, drop, append_assoc, append-nil, ap, sym, ◌∙◌}
use Rattle.std.proofs.lemmas.List.{map-append, drop_all}
use Rattle.cti_terms.specs.Tree.{Tree, Compound, trees}
use Rattle.cti_terms.specs.declared.syntax.Term.{Term}
use Rattle.cti_terms.specs.Spell.{tree_of}
use Rattle.cti_terms.proofs.Spelled.{tree_of_fun}
use Rattle.unifier.specs.Shapes.{shape_full}
use Rattle.loop_finder.specs.Copies.{copies}
use Rattle.loop_finder.proofs.CopyLaws.{copies_first, copies_trees}
use Rattle.loop_finder.proofs.copying.+copied.Goals as goal

pub copied_term-returns-in_ok-terms-in-Compound : goal.copied_term-returns-in_ok-terms-in-Compound
copied_term-returns-in_ok-terms-in-Compound t c =
    let s = c.args.bindings.now in
    let n = c.met-met.result.term.base in
    let f = c.in-Compound.f in
    let h = sym c.met-met.ensures.same ∙ c.met-met.ensures.met.tree ∙ ap (shape_full s n) c.in-Compound.is in
    tree_of_fun f c.in_ok-terms-in-Compound.terms
    ∙ ap (λ (ts : List Tree). Compound f.0 (trees ts)) c.in_ok-terms-in-Compound.ensures
    ∙ ap (Compound f.0) (copies_trees s n c.in-Compound.args.now)
    ∙ sym h

pub copied_terms-loop-term-preserved : goal.copied_terms-loop-term-preserved
copied_terms-loop-term-preserved t c =
    let s = c.args.bindings.now in
    let n = c.args.base in
    let ts = c.args.args.now in
    let i = c.loop-term.term-index in
    let rest = copies s n (drop (i + 1) ts) in
    ap (λ (l : List Term). map tree_of l ++ rest) c.in_ok-push.ensures.items
    ∙ ap (λ (l : List Tree). l ++ rest) (map-append tree_of c.loop-term.terms.items (c.in_ok-copied_term.field-0 ∷ []))
    ∙ append_assoc (map tree_of c.loop-term.terms.items) (tree_of c.in_ok-copied_term.field-0 ∷ []) rest
    ∙ ap (λ (v : Tree). map tree_of c.loop-term.terms.items ++ v ∷ rest) c.in_ok-copied_term.ensures
    ∙ ap (λ (l : List Tree). map tree_of c.loop-term.terms.items ++ l) (sym (copies_first s n ts i c.term-item.result c.loop-term-test.true c.term-item.is))
    ∙ c.loop-term.invariant

pub copied_terms-returns : goal.copied_terms-returns
copied_terms-returns t c =
    let s = c.args.bindings.now in
    let n = c.args.base in
    let ts = c.args.args.now in
    let none = drop_all c.loop-term.term-index ts c.loop-term-test.false in
    sym (append-nil (map tree_of c.loop-term.terms.items))
    ∙ ap (λ (l : List Term). map tree_of c.loop-term.terms.items ++ copies s n l) (sym none)
    ∙ c.loop-term.invariant
