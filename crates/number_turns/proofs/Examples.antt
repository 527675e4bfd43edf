-- The example: a count is found, and one without a bound is refuted.
use Rattle.std.proofs.Common.{◌≡◌, ◌+◌, ℕ, zero, suc, ℤ, pos, true, List, [], ◌∷◌, ◌++◌, map, length, refl, arith}
use Rattle.std.proofs.lemmas.Int.{ints}
use Rattle.std.proofs.lemmas.List.Elements.{All-from_recursion}
use Rattle.exact128.specs.Sums.{dot}
use Rattle.linear_rows.specs.Proves.{Proves, Refutes}
use Rattle.linear_rows.specs.Rows.{AllHold, Holds}
use Rattle.transitions.specs.Examples.{count_transition, down_transition, features}
use Rattle.transitions.proofs.TurnPoints.{points_fall}
use Rattle.number_turns.specs.Examples.{count_found, count_multipliers, down_multipliers, CountAndDownTurns}
use Rattle.number_turns.specs.Turning.{IsFound, turn_rows, turn_unknowns}
use Rattle.number_turns.proofs.RowLists.{all_natural}
use Rattle.number_turns.proofs.Turnings.{refuted}

abbrev more : List ℕ
more = 0 ∷ (0 ∷ (1 ∷ (0 ∷ [])))

abbrev less : List ℕ
less = 0 ∷ (0 ∷ (0 ∷ (1 ∷ [])))

abbrev values : List ℕ
values = more ++ (less ++ count_multipliers)

hold : AllHold (turn_rows features (count_transition ∷ []) (true ∷ [])) 1 values
unfolding dot
hold = All-from_recursion (λ row. Holds row 1 values) (turn_rows features (count_transition ∷ []) (true ∷ [])) (omega (arith, ints), (omega (arith, ints), (omega (arith, ints), (omega (arith, ints), (omega (arith, ints), (omega (arith, ints), (omega (arith, ints), (omega (arith, ints), (omega (arith, ints), (omega (arith, ints), (omega (arith, ints), (omega (arith, ints), (omega (arith, ints), (omega (arith, ints), tt))))))))))))))

found : IsFound features (count_transition ∷ []) (true ∷ []) count_found
found = record {
  t = pos 1;
  w = map pos values;
  point = record { scale = 1; values = values; t_is = refl; w_is = refl; some = omega arith; long = refl; hold = hold };
  at = record {
    more = more;
    less = less;
    multipliers = count_multipliers;
    w_is = refl;
    more_long = refl;
    less_long = refl;
    long = refl;
    numbers_are = refl;
    multipliers_are = refl;
  };
  fit = refl;
  shown = λ width has free. points_fall width features (count_transition ∷ []) (true ∷ []) 1 more less count_multipliers has free (omega arith) refl refl refl hold;
}

refutes : Refutes (turn_unknowns features (down_transition ∷ []) (true ∷ [])) (turn_rows features (down_transition ∷ []) (true ∷ [])) (map pos down_multipliers)
unfolding dot
refutes = record { long = refl; natural = all_natural down_multipliers; proves = columns_fit }
  where
    columns_fit : (target : List ℤ) → length target ≡ turn_unknowns features (down_transition ∷ []) (true ∷ []) + 1
        → Proves (turn_rows features (down_transition ∷ []) (true ∷ [])) (map pos down_multipliers) target (pos 0)
    columns_fit target l zero lt = omega (arith, ints)
    columns_fit target l (suc zero) lt = omega (arith, ints)
    columns_fit target l (suc (suc zero)) lt = omega (arith, ints)
    columns_fit target l (suc (suc (suc zero))) lt = omega (arith, ints)
    columns_fit target l (suc (suc (suc (suc zero)))) lt = omega (arith, ints)
    columns_fit target l (suc (suc (suc (suc (suc zero))))) lt = omega (arith, ints)
    columns_fit target l (suc (suc (suc (suc (suc (suc zero)))))) lt = omega (arith, ints)
    columns_fit target l (suc (suc (suc (suc (suc (suc (suc zero))))))) lt = omega (arith, ints)
    columns_fit target l (suc (suc (suc (suc (suc (suc (suc (suc zero)))))))) lt = omega (arith, ints)
    columns_fit target l (suc (suc (suc (suc (suc (suc (suc (suc (suc zero))))))))) lt = omega (arith, ints)
    columns_fit target l (suc (suc (suc (suc (suc (suc (suc (suc (suc (suc zero)))))))))) lt = omega (arith, ints)
    columns_fit target l (suc (suc (suc (suc (suc (suc (suc (suc (suc (suc (suc zero))))))))))) lt = omega (arith, ints)
    columns_fit target l (suc (suc (suc (suc (suc (suc (suc (suc (suc (suc (suc (suc zero)))))))))))) lt = omega (arith, ints)
    columns_fit target l (suc (suc (suc (suc (suc (suc (suc (suc (suc (suc (suc (suc (suc zero))))))))))))) lt = omega (arith, ints)
    columns_fit target l (suc (suc (suc (suc (suc (suc (suc (suc (suc (suc (suc (suc (suc (suc zero)))))))))))))) lt = omega (arith, ints)
    columns_fit target l (suc (suc (suc (suc (suc (suc (suc (suc (suc (suc (suc (suc (suc (suc (suc zero))))))))))))))) lt = omega (arith, ints)
    columns_fit target l (suc (suc (suc (suc (suc (suc (suc (suc (suc (suc (suc (suc (suc (suc (suc (suc zero)))))))))))))))) lt = omega (arith, ints)
    columns_fit target l (suc (suc (suc (suc (suc (suc (suc (suc (suc (suc (suc (suc (suc (suc (suc (suc (suc zero))))))))))))))))) lt = omega (arith, ints)
    columns_fit target l (suc (suc (suc (suc (suc (suc (suc (suc (suc (suc (suc (suc (suc (suc (suc (suc (suc (suc zero)))))))))))))))))) lt = omega (arith, ints)
    columns_fit target l (suc (suc (suc (suc (suc (suc (suc (suc (suc (suc (suc (suc (suc (suc (suc (suc (suc (suc (suc k))))))))))))))))))) lt = absurd (omega (arith, l, lt))

pub count_and_down_turns : CountAndDownTurns
count_and_down_turns = record { count = found; down = refuted features (down_transition ∷ []) (true ∷ []) (map pos down_multipliers) refutes }
