use Rattle.std.proofs.Common.{◌≡◌, ℕ, ◌<◌, ◌↔◌, length, Some, slice_get, true}
use Rattle.call_components.specs.Members.{CallsWithin}
use Rattle.call_components.proofs.recursion.recursive_numbers.Given as goal

abbrev pub invariant-loop-caller : goal.invariant-loop-caller
invariant-loop-caller l = record {
  count : length l.answers.items ≡ l.numbering.count;
  answer : (c : ℕ) → c < l.numbering.count → (slice_get l.answers.items c ≡ Some true) ↔ CallsWithin l.table l.numbering.of.items c l.caller;
}
