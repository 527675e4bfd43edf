use Rattle.std.proofs.Common.{◌≡◌, ◌++◌, map, neg_ℤ, take}
use Rattle.exact128.specs.Sums.{entry}
use Rattle.number_turns.specs.Demanding.{feature_row}
use Rattle.number_turns.specs.Recalled.{recalled, spelled}
use Rattle.number_turns.proofs.demand.Demand.add_opposites.Given as goal

abbrev pub invariant-loop-feature : goal.invariant-loop-feature
invariant-loop-feature l = l.row.items ≡ l.fn.row.items ++ map (λ f. neg_ℤ (entry (feature_row l.self.aim (recalled l.self.transition.now) (spelled f)) l.x)) (take l.feature-index l.features)
