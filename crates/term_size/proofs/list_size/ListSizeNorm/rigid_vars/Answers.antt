use Rattle.std.proofs.Common.{◌<◌, sym, ◌∙◌, arith}
use Rattle.cti_terms.specs.Spell.{tree_of}
use Rattle.term_size.specs.Members.{members}
use Rattle.term_size.specs.ListSizeLaws.{end_below}
use Rattle.term_size.proofs.ListLaws.{lists_end}
use Rattle.term_size.proofs.MemberLaws.{all_members}
use Rattle.term_size.proofs.list_size.ListSizeNorm.rigid_vars.Goals as goal

pub end_set-requires : goal.end_set-requires
end_set-requires c = λ x e.
    let lt = end_below c.args.self.now.dot c.args._vars (tree_of c.args.t.now) c.requires.below x (sym c.cells.ensures.end ∙ e) in
    omega (arith, lt, c.requires.few)

pub returns-clause-lists : goal.returns-clause-lists
returns-clause-lists c =
    lists_end c.args.self.now.dot (tree_of c.args.t.now) (members c.end_set.result) (λ x. (λ m. sym c.cells.ensures.end ∙ (c.end_set.ensures x).0 m, λ e. (c.end_set.ensures x).1 (c.cells.ensures.end ∙ e)))

pub returns-clause-below : goal.returns-clause-below
returns-clause-below c =
    all_members (λ x. x < c.args._vars) (members c.end_set.result)
    (λ x m. end_below c.args.self.now.dot c.args._vars (tree_of c.args.t.now) c.requires.below x (sym c.cells.ensures.end ∙ (c.end_set.ensures x).0 m))
