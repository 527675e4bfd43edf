use Rattle.std.proofs.Common.{◌≡◌, ◌≤◌, ◌||◌, ℕ, Bool, nat_lt, drop, length, slice_index}
use Rattle.std.specs.List.{filter}
use Rattle.clause_variables.specs.Terms.{firsts, with_numbers}
use Rattle.clause_normal.proofs.body.shared.Given as goal

abbrev pub invariant-own : goal.invariant-own
invariant-own l =
    let outside : ℕ → Bool = λ x. nat_lt (slice_index l.places.firsts.items x) l.start || nat_lt l.end (slice_index l.places.ends.items x) in
    record { whole : with_numbers l.order.items (filter outside (drop l.x-index l.own)) ≡ firsts (filter outside l.own); few : length l.order.items ≤ 12 }
