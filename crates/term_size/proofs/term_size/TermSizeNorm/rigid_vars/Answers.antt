use Rattle.std.proofs.Common.{◌<◌, arith}
use Rattle.cti_terms.specs.Spell.{tree_of}
use Rattle.term_size.specs.Members.{members}
use Rattle.term_size.proofs.MemberLaws.{all_members}
use Rattle.term_size.proofs.RigidLaws.{below_more, lists_occurring}
use Rattle.term_size.proofs.term_size.TermSizeNorm.rigid_vars.Goals as goal

pub of-requires-clause-below : goal.of-requires-clause-below
of-requires-clause-below c = below_more c.args.vars 48 (tree_of c.args.t.now) c.requires.few c.requires.below

pub returns-clause-lists : goal.returns-clause-lists
returns-clause-lists c = lists_occurring c.args.vars (tree_of c.args.t.now) (members c.occurring.result) c.requires.below
    (λ x. (
      λ m. let r = (c.occurring.ensures x).0 m in let lt = r.0 in (lt, omega (arith, r.1, c.of.ensures.variables x (omega (arith, c.requires.few)))),
      λ r. let lt = r.0 in (c.occurring.ensures x).1 (lt, omega (arith, r.1, c.of.ensures.variables x (omega (arith, c.requires.few)))),
    ))

pub returns-clause-below : goal.returns-clause-below
returns-clause-below c = all_members (λ x. x < c.args.vars) (members c.occurring.result) (λ x m. ((c.occurring.ensures x).0 m).0)
