use Rattle.std.proofs.Common.{◌≡◌, rules, ℤ, ◌∷◌, length, ap, sym, ◌∙◌}
use Rattle.std.specs.Int.{w128}
use Rattle.std.specs.Prelude.{FitsSigned}
use Rattle.std.proofs.lemmas.Int.{to_z-of_z}
use Rattle.cti_terms.proofs.Spelled.{tree_of_fun}
use Rattle.cti_terms.specs.declared.syntax.Term.{Term}
use Rattle.cti_terms.specs.Tree.{Tree}
use Rattle.cti_terms.specs.Spell.{tree_of, trees_of}
use Rattle.ld_resolver.proofs.FirstKindLaws.{tree_of_int, arity-trees_of}
use Rattle.ld_resolver.proofs.first_kind.kind_of.Goals as goal

pub returns-in-Int : goal.returns-in-Int
returns-in-Int c = λ others.
    let fits : FitsSigned w128 c.in-Int.n = search rules in
    (others, ap (λ (t : Term). tree_of t ∷ others) c.in-Int.is ∙ ap (λ (t : Tree). t ∷ others) (tree_of_int c.in-Int.n) ∙ ap (λ (z : ℤ). Tree.Integer z ∷ others) (sym (to_z-of_z w128 c.in-Int.n fits)))

pub returns-in-Fun : goal.returns-in-Fun
returns-in-Fun c = λ others.
    let items = c.in-Fun.args.items in
    let count : length items ≡ c.len.result = search rules in
    (trees_of items, others, ap (λ (t : Term). tree_of t ∷ others) c.in-Fun.is ∙ ap (λ (t : Tree). t ∷ others) (tree_of_fun c.in-Fun.f c.in-Fun.args), arity-trees_of items ∙ count)
