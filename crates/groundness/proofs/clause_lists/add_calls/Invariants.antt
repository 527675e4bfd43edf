use Rattle.std.proofs.Common.{◌≡◌, ◌⊎◌, ◌<◌, ℕ, length, slice_get, Some}
use Rattle.cti_terms.specs.declared.atom_list.Atom.{Atom}
use Rattle.groundness.specs.Marks.{HasUser}
use Rattle.groundness.proofs.clause_lists.add_calls.Given as goal

abbrev pub invariant-loop-atom : goal.invariant-loop-atom
invariant-loop-atom l =
    record {
      each : length l.lists ≡ length l.fn.lists;
      more : (q j : ℕ) → HasUser l.fn.lists q j → HasUser l.lists q j;
      only : (q j : ℕ) → HasUser l.lists q j → HasUser l.fn.lists q j ⊎ (j ≡ l.clause);
      added : (i : ℕ) (b : Atom) → i < l.atom-index → slice_get l.body i ≡ Some b → HasUser l.lists b.pred.0 l.clause;
    }
