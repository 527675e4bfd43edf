use Rattle.std.proofs.Common.{arith, rules}
use mir.Val.{SFits}
use Rattle.std.specs.Int.{w128}
use Rattle.std.proofs.lemmas.Int.{to_z-of_z}
use Rattle.cti_terms.specs.Spell.{tree_of}
use Rattle.term_size.proofs.CountLaws.{row_of_counts}
use Rattle.term_size.proofs.RigidLaws.{below_more}
use Rattle.term_size.proofs.term_size.TermSizeNorm.size_expr.Goals as goal

pub of-counts-requires-clause-below : goal.of-counts-requires-clause-below
of-counts-requires-clause-below c = below_more c.args.vars 48 (tree_of c.args.t.now) c.requires.few c.requires.below

pub returns : goal.returns
returns c =
    let i = c.of-counts.type_inv in
    let r = row_of_counts c.args.vars (tree_of c.args.t.now) c.of-counts.result c.requires.few (omega (arith, i)) c.of-counts.ensures in
    let e = c.in_ok-first_variables.ensures in
    let f : SFits w128 c.from.result = search rules in
    rw (to_z-of_z w128 c.from.result f, c.from.ensures, e) r
