use Rattle.std.proofs.Common.{◌<◌, ℕ}
use Rattle.truth_rows.specs.Rules.{KeepsSets, same_rank}
use Rattle.truth_rows.specs.Sets.{AreSets, family_of}
use Rattle.bool_diagrams.specs.Rows.{Keeps}
use Rattle.cert_modes.specs.Sets.{mapping_family}
use Rattle.cert_modes.proofs.rules.PreconditionRule.keeps_each.Given as goal

-- the clause keeps the rule in the mappings so far
abbrev pub invariant-loop-mapping : goal.invariant-loop-mapping
invariant-loop-mapping g l =
    record {
      keeps : Keeps l.fn.table l.table;
      chosen : AreSets l.self.program.now.preds l.fn.table l.chosen;
      kept : (m : ℕ) → m < l.mapping → KeepsSets (g.N.Norm.truth l.self.norm.now) (mapping_family l.self.program.now.preds l.fn.table l.self.sets.now.preconditions m)
          (family_of l.self.program.now.preds l.fn.table l.self.sets.now.allowed.items) (family_of l.self.program.now.preds l.fn.table l.self.sets.now.grounds.items) (λ q. same_rank l.self.ranks.now q l.clause.head.pred.0) l.clause;
    }
