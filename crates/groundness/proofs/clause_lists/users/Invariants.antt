use Rattle.std.proofs.Common.{◌≡◌, ◌<◌, ℕ, length, slice_get, Some}
use Rattle.cti_terms.specs.declared.atom_list.Atom.{Atom}
use Rattle.cti_terms.specs.declared.clauses.Clause.{Clause}
use Rattle.groundness.specs.Marks.{HasUser}
use Rattle.groundness.proofs.clause_lists.users.Given as goal

abbrev pub invariant-loop-k : goal.invariant-loop-k
invariant-loop-k l =
    record {
      each : length l.lists ≡ length l.p.preds;
      within : (q j : ℕ) → HasUser l.lists q j → j < l.k;
      all : (j : ℕ) (c : Clause) (i : ℕ) (b : Atom) → j < l.k → slice_get l.p.clauses j ≡ Some c → slice_get c.body i ≡ Some b → HasUser l.lists b.pred.0 j;
    }
