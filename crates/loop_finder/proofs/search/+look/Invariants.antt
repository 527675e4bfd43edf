use Rattle.std.proofs.Common.{◌≡◌, ◌≤◌, ◌+◌, ◌-◌, ◌*◌, Some}
use Rattle.cti_terms.specs.declared.derivation.Goal.{Goal}
use Rattle.cti_terms.specs.Lifts.{left_after}
use Rattle.loop_finder.specs.Looked.{IsWithoutLoop}
use Rattle.loop_finder.specs.Paths.{IsPath}
use Rattle.loop_finder.proofs.SearchLaws.{given_by}
use Rattle.loop_finder.proofs.search.+look.Given as goal

abbrev pub decreases-look_at : goal.decreases-look_at
decreases-look_at l = 2 * l.steps + 1

abbrev pub decreases-look_under : goal.decreases-look_under
decreases-look_under l = 2 * l.steps

abbrev pub invariant-look_under-loop-k : goal.invariant-look_under-loop-k
invariant-look_under-loop-k l = record {
  numbers : l.path.numbers.items ≡ l.fn.path.numbers.items;
  goals : l.path.goals.items ≡ l.fn.path.goals.items;
  more : l.fn.effort.looked ≤ l.effort.looked;
  most : l.effort.looked ≤ 100000;
  without : (g h : Goal) → IsPath l.program g l.fn.path.numbers.items l.fn.path.goals.items → left_after l.program g l.fn.path.numbers.items ≡ Some h
      → IsWithoutLoop l.program g (100000 - l.fn.effort.looked) (given_by l.program l.fn.path.numbers.items (l.steps - 1) h l.k) (l.effort.looked - l.fn.effort.looked);
}
