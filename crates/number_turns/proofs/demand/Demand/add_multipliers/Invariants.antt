use Rattle.std.proofs.Common.{◌≡◌, ◌++◌, map, neg_ℤ, take}
use Rattle.exact128.specs.Sums.{entry}
use Rattle.linear_rows.specs.Plain.{plain_row}
use Rattle.number_turns.proofs.demand.Demand.add_multipliers.Given as goal

abbrev pub invariant-loop-known : goal.invariant-loop-known
invariant-loop-known l = l.row.items ≡ l.fn.row.items ++ map (λ r. neg_ℤ (entry (plain_row r) l.x)) (take l.known-index l.self.transition.now.rows.list)
