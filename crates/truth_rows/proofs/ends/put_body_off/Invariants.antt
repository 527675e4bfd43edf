use Rattle.std.proofs.Common.{◌≡◌, ◌<◌, ℕ, length, slice_get, Some}
use Rattle.std.specs.List.{AllByRecursion}
use Rattle.cti_terms.specs.declared.atom_list.Atom.{Atom}
use Rattle.truth_rows.specs.Ends.{IsTold}
use Rattle.truth_rows.proofs.ends.put_body_off.Given as goal

abbrev pub invariant-loop-place : goal.invariant-loop-place
invariant-loop-place g l =
    record {
      each : length l.ends ≡ length l.fn.ends;
      told : (j : ℕ) (b : Atom) → j < l.place → slice_get l.body j ≡ Some b → AllByRecursion (IsTold (g.N.Norm.truth l.norm) l.ends j) b.args;
    }
