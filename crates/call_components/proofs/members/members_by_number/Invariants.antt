use Rattle.std.proofs.Common.{◌≡◌, ℕ, ◌<◌, [], length, take, get_or}
use Rattle.call_components.specs.Members.{places_of}
use Rattle.call_components.proofs.members.members_by_number.Given as goal

abbrev pub invariant-loop-pred : goal.invariant-loop-pred
invariant-loop-pred l = record {
  each : length l.members ≡ l.numbering.count;
  row : (c : ℕ) → c < l.numbering.count → get_or l.members c [] ≡ places_of c 0 (take l.pred l.numbering.of.items);
}
