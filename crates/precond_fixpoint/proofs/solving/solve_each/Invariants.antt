use Rattle.std.proofs.Common.{◌≡◌, ◌<◌, ℕ, length}
use Rattle.bool_diagrams.specs.Rows.{Keeps}
use Rattle.precond_fixpoint.specs.Solving.{AreMappingSets, AreUnions, IsSolved}
use Rattle.truth_rows.specs.Sets.{AreSets, family_of}
use Rattle.precond_fixpoint.proofs.solving.solve_each.Given as goal

-- the components so far are solved
abbrev pub invariant-loop-c : goal.invariant-loop-c
invariant-loop-c g l =
    record {
      keeps : Keeps l.fn.table l.table;
      marks : length l.state.marks ≡ length l.setting.program.now.clauses;
      pre : AreSets l.setting.program.now.preds l.table l.state.pre.items;
      sets : AreMappingSets l.setting.program.now.preds l.table l.sets;
      allowed : AreUnions l.setting.program.now.preds l.table l.sets l.allowed;
      solved : (d : ℕ) → d < l.c → IsSolved (g.N.Norm.truth l.setting.norm.now) l.setting.program.now l.setting.comps.now (family_of l.setting.program.now.preds l.fn.table l.setting.grounds.now) l.setting.levels.now l.table l.sets d;
    }
