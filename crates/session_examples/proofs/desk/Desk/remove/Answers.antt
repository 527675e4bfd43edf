use Rattle.std.proofs.Common.{◌-◌, List, ℕ, length, map, ap, arith, subst, sym}
use Rattle.std.specs.List.{AllByRecursion}
use Rattle.edit_texts.specs.Snapshot.{Snapshot, nodes_in}
use Rattle.prolog_reader.specs.Fit.{IsFit}
use Rattle.prolog_terms.specs.Terms.{clause_of}
use Rattle.session_examples.specs.Ready.{IsReady}
use Rattle.session_examples.proofs.ReadyLemmas.{fewer_nodes}
use Rattle.session_examples.proofs.desk.Desk.remove.Goals as goal
use Rattle.session_examples.proofs.desk.Desk.remove.Goals.{in-Ok, in-Err}

pub invariant_of-self : goal.invariant_of-self
invariant_of-self c =
    let before = c.self.inside in
    let left = map clause_of before.left.items in
    let same = sym c.remove.ensures.names in
    elim c.match-remove.branch [
      | in-Ok w ↦ record {
        program = w.in-Ok.ensures.session.program;
        room = omega (arith, ap length same, c.self.invariant.room);
        fit = subst (λ (names : List (List ℕ)). AllByRecursion (IsFit (length names)) left) same c.self.invariant.fit;
        small = omega (arith, ap nodes_in w.in-Ok.ensures.clauses, fewer_nodes before.session.clauses (c.args.k - 1), c.self.invariant.small);
      }
      | in-Err w ↦ subst (λ (s : Snapshot). IsReady c.remove.new.names s left) (sym w.in-Err.ensures.err) (subst (λ (names : List (List ℕ)). IsReady names before.session left) same c.self.invariant)
    ]
