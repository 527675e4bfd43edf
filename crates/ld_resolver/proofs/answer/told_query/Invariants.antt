use Rattle.std.proofs.Common.{◌≡◌, ◌+◌, ◌<◌, ◌^◌, [], ◌++◌, length, drop}
use Rattle.cti_terms.specs.Tree.{all_nodes}
use Rattle.cti_terms.specs.Answers.{all_met}
use Rattle.ld_resolver.specs.Measured.{answered_terms, atoms_numbered}
use Rattle.ld_resolver.proofs.answer.told_query.Given as goal

abbrev pub invariant-loop-atom : goal.invariant-loop-atom
invariant-loop-atom l = record {
  variables : all_met l.variables.keys (answered_terms l.bindings (drop l.atom-index l.query)) ≡ all_met [] (answered_terms l.bindings l.query);
  atoms : l.atoms ++ atoms_numbered (all_met [] (answered_terms l.bindings l.query)) l.bindings (drop l.atom-index l.query) ≡ atoms_numbered (all_met [] (answered_terms l.bindings l.query)) l.bindings l.query;
  room : length l.variables.keys + all_nodes (answered_terms l.bindings (drop l.atom-index l.query)) < 2 ^ 32;
}
