use Rattle.std.proofs.Common.{◌+◌, List, ◌∷◌, ◌++◌, map, drop, append_assoc, ap, sym, ◌∙◌}
use Rattle.std.proofs.lemmas.List.{at_drop_more}
use Rattle.cti_terms.specs.Tree.{Tree, instance}
use Rattle.cti_terms.specs.declared.atom_list.Atom.{Atom}
use Rattle.unifier.specs.Raised.{raise}
use Rattle.unifier.specs.Pending.{raw}
use Rattle.ld_resolver.specs.Measured.{all_arguments}
use Rattle.ld_resolver.proofs.AnswerLaws.{all_raised_zero}
use Rattle.ld_resolver.proofs.answer.push_query.Goals as goal

pub loop-atom-preserved : goal.loop-atom-preserved
loop-atom-preserved c =
    let atoms = c.args.query.now in
    let i = c.loop-atom.atom-index in
    let a = c.atom-item.result in
    let before = raw c.loop-atom.stack.items in
    let left = at_drop_more all_arguments atoms i a c.loop-atom-test.true ∙ ap (λ (b : Atom). all_arguments (b ∷ drop (i + 1) atoms)) (sym c.atom-item.is) in
    let pushed = c.in_ok-push_arguments.ensures ∙ ap (λ (l : List Tree). before ++ map (instance (raise 0)) l) c.as_slice.ensures ∙ ap (λ (l : List Tree). before ++ l) (all_raised_zero a.args) in
    ap (λ (l : List Tree). l ++ all_arguments (drop (i + 1) atoms)) pushed
    ∙ append_assoc before a.args (all_arguments (drop (i + 1) atoms))
    ∙ ap (λ (l : List Tree). before ++ l) (sym left)
    ∙ c.loop-atom.invariant
