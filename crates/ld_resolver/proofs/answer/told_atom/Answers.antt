use Rattle.std.proofs.Common.{◌≡◌, List, ◌++◌, map, ap, ◌∙◌, arith}
use Rattle.cti_terms.specs.Tree.{Tree, trees, all_nodes}
use Rattle.cti_terms.specs.Spell.{tree_of}
use Rattle.cti_terms.specs.Answers.{all_met, numbered_by}
use Rattle.cti_terms.proofs.Spelled.{trees_injective}
use Rattle.unifier.specs.Store.{full}
use Rattle.unifier.specs.Pending.{args_full}
use Rattle.ld_resolver.specs.Measured.{all_numbered_by}
use Rattle.ld_resolver.proofs.ToldLaws.{query_args, all_numbered_trees}
use Rattle.ld_resolver.proofs.answer.told_atom.Goals as goal

pub told_terms-requires : goal.told_terms-requires
told_terms-requires c =
    let s = c.args.bindings.now in
    let same : args_full s 0 c.as_slice.result.now ≡ trees (map (full s) c.args.atom.now.args) = query_args s (map tree_of c.as_slice.result.now) ∙ ap (λ (l : List Tree). trees (map (full s) l)) c.as_slice.ensures in
    omega (arith, ap all_nodes same, c.requires)

pub returns-clause-variables : goal.returns-clause-variables
returns-clause-variables c =
    let s = c.args.bindings.now in
    let same : args_full s 0 c.as_slice.result.now ≡ trees (map (full s) c.args.atom.now.args) = query_args s (map tree_of c.as_slice.result.now) ∙ ap (λ (l : List Tree). trees (map (full s) l)) c.as_slice.ensures in
    c.in_ok-terms.ensures.variables ∙ ap (all_met c.args.variables.now.keys) same

pub returns-clause-atom : goal.returns-clause-atom
returns-clause-atom c = λ more.
    let s = c.args.bindings.now in
    let same : args_full s 0 c.as_slice.result.now ≡ trees (map (full s) c.args.atom.now.args) = query_args s (map tree_of c.as_slice.result.now) ∙ ap (λ (l : List Tree). trees (map (full s) l)) c.as_slice.ensures in
    let keys = c.told_terms.new.variables.keys ++ more in
    let numbered : trees (map tree_of c.in_ok-terms.terms.items) ≡ trees (map (numbered_by keys) (map (full s) c.args.atom.now.args)) = c.in_ok-terms.ensures.terms more ∙ ap (all_numbered_by keys) same ∙ all_numbered_trees keys (map (full s) c.args.atom.now.args) in
    let args = c.from_vec.ensures ∙ trees_injective (map tree_of c.in_ok-terms.terms.items) (map (numbered_by keys) (map (full s) c.args.atom.now.args)) numbered in
    λ i. record { pred = c.args.atom.now.pred; args = args i }
