use Rattle.std.proofs.Common.{◌≡◌, ◌≤◌, length, sum_by}
use Rattle.std.specs.List.{AllByRecursion}
use Rattle.cti_terms.specs.Listing.{IsAtom, atom_nodes}
use Rattle.program_examples.proofs.cycles.atoms.Given as goal

abbrev pub invariant-loop-pred : goal.invariant-loop-pred
invariant-loop-pred l = record {
  known : AllByRecursion (IsAtom l.program.preds 0) l.atoms;
  bare : sum_by atom_nodes l.atoms ≡ 0;
  few : length l.atoms ≤ 100;
}
