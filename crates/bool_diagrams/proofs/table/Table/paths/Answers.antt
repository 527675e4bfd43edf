use Rattle.std.proofs.Common.{◌≡◌, ℕ, ◌-◌, arith, ap, get_or, false}
use Rattle.bool_diagrams.specs.Rows.{tree}
use Rattle.bool_diagrams.specs.Cubes.{cubes, truth_rows}
use Rattle.bool_diagrams.proofs.Canonical.{value_same}
use Rattle.bool_diagrams.proofs.CubeLemmas.{covered-cubes}
use Rattle.bool_diagrams.proofs.WalkLemmas.{found_whole}
use Rattle.bool_diagrams.proofs.table.Table.paths.Goals as goal

found_cubes : (c : goal.After-drop-prefix-2) → c.walk.new.found.items ≡ cubes c.args.width (truth_rows c.args.self.now c.args.a)
found_cubes c =
    found_whole c.new-prefix.result.items c.args.width (tree c.args.self.now c.args.a.0) c.new-found.result.items c.walk.new.found.items (truth_rows c.args.self.now c.args.a)
    c.new-prefix.ensures.items c.new-found.ensures.items
    (λ row. value_same (tree c.args.self.now c.args.a.0) _ _ (λ v. let e : v - 0 ≡ v = omega arith in ap (λ (i : ℕ). get_or row i false) e)) c.in_ok-walk.ensures.found

pub returns-clause-cubes : goal.returns-clause-cubes
returns-clause-cubes c = found_cubes c

pub returns-clause-rows : goal.returns-clause-rows
returns-clause-rows c = λ row e. rw (found_cubes c) (covered-cubes c.args.width (truth_rows c.args.self.now c.args.a) row e)
