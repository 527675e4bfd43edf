use Rattle.std.proofs.Common.{◌≤◌, ℕ, Bool, IsTrue, length}
use Rattle.truth_rows.specs.Ends.{SaysAsked}
use Rattle.truth_rows.specs.Ready.{HasAtom, HasAtoms}
use Rattle.bool_diagrams.specs.Rows.{IsDiagram, Keeps, holds}
use Rattle.precond_fixpoint.specs.Breaking.{BreaksBelow}
use Rattle.precond_fixpoint.proofs.breaking.breaking_calls.Given as goal

abbrev pub invariant-loop-place : goal.invariant-loop-place
invariant-loop-place g l =
    record {
      keeps : Keeps l.fn.table l.table;
      known : IsDiagram l.table l.reached;
      kept : IsDiagram l.table l.broken;
      within : l.place ≤ length l.rule.clause.now.body;
      reached : SaysAsked l.ends l.place
          (λ (v : ℕ → Bool). HasAtom (g.N.Norm.truth l.norm) l.fn.table l.rule.pre.now v l.rule.clause.now.head × HasAtoms (g.N.Norm.truth l.norm) l.fn.table l.rule.grounds.now v l.rule.clause.now.body l.place × IsTrue (holds l.fn.table l.fn.placed v))
          (holds l.table l.reached);
      broken : SaysAsked l.ends l.place
          (λ (v : ℕ → Bool). BreaksBelow (g.N.Norm.truth l.norm) l.fn.table l.rule.ranks.now l.rule.grounds.now l.rule.pre.now l.rule.allowed.now l.rule.clause.now l.place v × IsTrue (holds l.fn.table l.fn.placed v))
          (holds l.table l.broken);
    }
