use Rattle.std.proofs.Common.{◌≡◌, ◌+◌, ◌*◌, ◌<◌, ◌≤◌, ◌^◌, ℕ, List, ◌++◌, map, length, drop}
use Rattle.cti_terms.specs.Tree.{nodes_of, all_nodes}
use Rattle.cti_terms.specs.Spell.{tree_of}
use Rattle.cti_terms.specs.Answers.{all_met}
use Rattle.unifier.specs.Raised.{raised_tree}
use Rattle.unifier.specs.Store.{full}
use Rattle.unifier.specs.Pending.{args_full}
use Rattle.ld_resolver.specs.Measured.{args_numbered}
use Rattle.ld_resolver.proofs.answer.+told.Given as goal

abbrev pub decreases-told_term : goal.decreases-told_term
decreases-told_term l = 2 * nodes_of (full l.bindings.now (raised_tree l.term))

abbrev pub decreases-told_terms : goal.decreases-told_terms
decreases-told_terms l = 2 * all_nodes (args_full l.bindings.now l.base l.args.now) + 1

abbrev pub invariant-told_terms-loop-term : goal.invariant-told_terms-loop-term
invariant-told_terms-loop-term l = record {
  variables : all_met l.variables.keys (args_full l.bindings l.base (drop l.term-index l.args)) ≡ all_met l.fn.variables.keys (args_full l.bindings l.base l.args);
  terms : (more : List ℕ) → map tree_of l.terms.items ++ args_numbered (all_met l.fn.variables.keys (args_full l.bindings l.base l.args) ++ more) l.bindings l.base (drop l.term-index l.args) ≡ args_numbered (all_met l.fn.variables.keys (args_full l.bindings l.base l.args) ++ more) l.bindings l.base l.args;
  room : length l.variables.keys + all_nodes (args_full l.bindings l.base (drop l.term-index l.args)) < 2 ^ 32;
  smaller : all_nodes (args_full l.bindings l.base (drop l.term-index l.args)) ≤ all_nodes (args_full l.bindings l.base l.args);
}
