use Rattle.std.proofs.Common.{ap, sym, subst}
use Rattle.unifier.specs.Shapes.{shape_full}
use Rattle.ld_resolver.specs.FirstArguments.{RulesOut}
use Rattle.ld_resolver.proofs.FirstArgumentLaws.{compound_compound}
use Rattle.ld_resolver.proofs.first_argument.is_ruled_out.Goals as goal

pub returns-in-Compound-Compound : goal.returns-in-Compound-Compound
returns-in-Compound-Compound c = λ yes.
    let both = c.in-Compound-Compound in
    subst (RulesOut c.args.shape) (sym both.is-1)
    (compound_compound c.args.shape both.f.0 both.ts.now both.g both.count (λ s k. ap (shape_full s k) both.is-0) (c.compounds_differ.ensures yes))
