use Rattle.std.proofs.Common.{◌≡◌, ◌<◌, ℕ, Bool, slice_get, Some, if◌then◌else◌}
use Rattle.truth_rows.specs.Ends.{SaysAsked}
use Rattle.truth_rows.specs.Ready.{HasAtom, HasAtoms}
use Rattle.truth_rows.specs.Rules.{same_rank}
use Rattle.bool_diagrams.specs.Rows.{IsDiagram, Keeps, holds}
use Rattle.cti_terms.specs.declared.atom_list.Atom.{Atom}
use Rattle.truth_rows.proofs.rules.ClauseRule.calls_stay.Given as goal

abbrev pub invariant-loop-place : goal.invariant-loop-place
invariant-loop-place g l =
    record {
      keeps : Keeps l.fn.table l.table;
      known : IsDiagram l.table l.reached;
      reached : SaysAsked l.ends l.place
          (λ (v : ℕ → Bool). HasAtom (g.N.Norm.truth l.norm) l.fn.table l.self.pre.now v l.self.clause.now.head × HasAtoms (g.N.Norm.truth l.norm) l.fn.table l.self.grounds.now v l.self.clause.now.body l.place)
          (holds l.table l.reached);
      stay : (v : ℕ → Bool) → HasAtom (g.N.Norm.truth l.norm) l.fn.table l.self.pre.now v l.self.clause.now.head
          → (j : ℕ) (b : Atom) → j < l.place → slice_get l.self.clause.now.body j ≡ Some b
          → HasAtoms (g.N.Norm.truth l.norm) l.fn.table l.self.grounds.now v l.self.clause.now.body j
          → HasAtom (g.N.Norm.truth l.norm) l.fn.table (if same_rank l.self.ranks.now b.pred.0 l.self.clause.now.head.pred.0 then l.self.pre.now else l.self.allowed.now) v b;
    }
