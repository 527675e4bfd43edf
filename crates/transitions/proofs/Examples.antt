-- The examples: a count descends, and one without a bound is stuck.
use Rattle.std.proofs.Common.{◌≡◌, ℕ, zero, suc, ◌==◌, pos, negsuc, Bool, true, false, List, [], ◌∷◌, inl, inr, refl, arith}
use Rattle.std.specs.List.{AllByRecursion}
use Rattle.std.proofs.lemmas.Int.{ints}
use Rattle.std.proofs.lemmas.Bool.Decides.{nat_tests}
use Rattle.std.proofs.lemmas.List.Elements.{All-from_recursion}
use Rattle.exact128.specs.Sums.{dot}
use Rattle.linear_rows.specs.Proves.{Proves}
use Rattle.linear_rows.specs.Rows.{Holds, AllHold}
use Rattle.termination_model.specs.columns.ColumnClaims.{Mapping}
use Rattle.transitions.specs.Examples.{count_transition, down_transition, value, down_group, CountAndDown}
use Rattle.transitions.specs.StuckSets.{Feature, group_sum, IsStuckAt, IsWithin}
use Rattle.transitions.specs.Transitions.{Descends}
use Rattle.transitions.specs.Turns.{AreShown, HasWidths}
use Rattle.transitions.proofs.StuckLaws.{none_descends}
use Rattle.transitions.proofs.TurnLaws.{turns_give_lists}

-- the second row of `is` says that the value falls by 1, and the row of `>` that it is at least 1
shown : AreShown value (count_transition ∷ []) (true ∷ []) (0 ∷ (0 ∷ (0 ∷ (1 ∷ (0 ∷ (0 ∷ (1 ∷ (0 ∷ (0 ∷ (0 ∷ (0 ∷ (0 ∷ []))))))))))))
unfolding dot
shown = (falls, (floor, tt))
  where
    falls : Proves count_transition.rows (pos 0 ∷ (pos 0 ∷ (pos 0 ∷ (pos 1 ∷ (pos 0 ∷ (pos 0 ∷ []))))))
        (negsuc 0 ∷ (pos 0 ∷ (pos 1 ∷ (negsuc 0 ∷ (pos 0 ∷ (negsuc 0 ∷ (pos 1 ∷ []))))))) (pos 1)
    falls zero l = omega (arith, ints)
    falls (suc zero) l = omega (arith, ints)
    falls (suc (suc zero)) l = omega (arith, ints)
    falls (suc (suc (suc zero))) l = omega (arith, ints)
    falls (suc (suc (suc (suc zero)))) l = omega (arith, ints)
    falls (suc (suc (suc (suc (suc zero))))) l = omega (arith, ints)
    falls (suc (suc (suc (suc (suc (suc zero)))))) l = omega (arith, ints)
    falls (suc (suc (suc (suc (suc (suc (suc k))))))) l = absurd (omega arith)

    floor : Proves count_transition.rows (pos 1 ∷ (pos 0 ∷ (pos 0 ∷ (pos 0 ∷ (pos 0 ∷ (pos 0 ∷ []))))))
        (pos 0 ∷ (pos 0 ∷ (pos 1 ∷ (negsuc 0 ∷ (pos 0 ∷ (pos 0 ∷ (pos 0 ∷ []))))))) (pos 1)
    floor zero l = omega (arith, ints)
    floor (suc zero) l = omega (arith, ints)
    floor (suc (suc zero)) l = omega (arith, ints)
    floor (suc (suc (suc zero))) l = omega (arith, ints)
    floor (suc (suc (suc (suc zero)))) l = omega (arith, ints)
    floor (suc (suc (suc (suc (suc zero))))) l = omega (arith, ints)
    floor (suc (suc (suc (suc (suc (suc zero)))))) l = omega (arith, ints)
    floor (suc (suc (suc (suc (suc (suc (suc k))))))) l = absurd (omega arith)

widths : HasWidths (λ _. 3) count_transition
widths = record {
  head = refl;
  call = refl;
  head_rows = (omega arith, (omega arith, (omega arith, tt)));
  call_rows = (omega arith, (omega arith, (omega arith, tt)));
}

count_descends : Descends (count_transition ∷ []) (value ∷ [])
count_descends = turns_give_lists.descends (count_transition ∷ []) (record { mapping = value; marks = true ∷ [] } ∷ [])
    (turns_give_lists.shown (λ _. 3) value (count_transition ∷ []) (true ∷ []) (0 ∷ (0 ∷ (0 ∷ (1 ∷ (0 ∷ (0 ∷ (1 ∷ (0 ∷ (0 ∷ (0 ∷ (0 ∷ (0 ∷ [])))))))))))) (widths, tt) shown, refl)

at_point : AllHold down_transition.rows 1 (0 ∷ (0 ∷ (0 ∷ (0 ∷ (0 ∷ (1 ∷ []))))))
unfolding dot
at_point = All-from_recursion (λ row. Holds row 1 (0 ∷ (0 ∷ (0 ∷ (0 ∷ (0 ∷ (1 ∷ []))))))) down_transition.rows (omega (arith, ints), (omega (arith, ints), (omega (arith, ints), (omega (arith, ints), (omega (arith, ints), tt)))))

at_floor : AllHold down_transition.rows 0 (0 ∷ (0 ∷ (1 ∷ (0 ∷ (0 ∷ (1 ∷ []))))))
unfolding dot
at_floor = All-from_recursion (λ row. Holds row 0 (0 ∷ (0 ∷ (1 ∷ (0 ∷ (0 ∷ (1 ∷ []))))))) down_transition.rows (omega (arith, ints), (omega (arith, ints), (omega (arith, ints), (omega (arith, ints), (omega (arith, ints), tt)))))

balanced : (q j : ℕ) → group_sum down_group (q, j) ≡ pos 0
unfolding dot
balanced zero zero = refl
balanced zero (suc zero) = refl
balanced zero (suc (suc zero)) = refl
balanced zero (suc (suc (suc zero))) = refl
balanced zero (suc (suc (suc (suc j)))) = refl
balanced (suc q) j =
    let apart : (0 == suc q) ≡ false = grind (arith, nat_tests) in
    rw apart refl

down_stuck : (test : Feature → Bool) → IsStuckAt test (down_transition ∷ []) (down_group ∷ [])
down_stuck test = record {
  some = omega arith;
  of = (inl refl, tt);
  groups = (
    record {
      some = omega arith;
      here = (refl, at_point);
      others = tt;
      floor = (refl, at_floor);
      balanced = λ f t. inr (balanced f.0 f.1);
    },
    tt,
  );
}

within : (ls : List Mapping) → AllByRecursion (IsWithin (λ _. true)) ls
within [] = tt
within (l ∷ ls) = ((λ f e. absurd (cc)), within ls)

pub count_and_down : CountAndDown
count_and_down = record {
  descends = count_descends;
  stuck = down_stuck;
  none = λ ls d. none_descends (λ _. true) (down_transition ∷ []) (down_group ∷ []) ls (down_stuck (λ _. true)) (within ls) d;
  target = refl;
}
