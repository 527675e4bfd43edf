-- The count down without a bound has a stuck set.
use Rattle.std.proofs.Common.{◌≡◌, ℕ, zero, suc, ◌==◌, ℤ, pos, false, List, [], ◌∷◌, Some, inl, inr, refl, ap, arith}
use Rattle.std.proofs.lemmas.Int.{ints}
use Rattle.std.proofs.lemmas.Bool.Decides.{nat_tests}
use Rattle.std.proofs.lemmas.List.Elements.{All-from_recursion}
use Rattle.exact128.specs.Sums.{dot, entry}
use Rattle.linear_rows.specs.Rows.{Holds, AllHold}
use Rattle.termination_model.specs.mappings.Refutation.{Load, gather}
use Rattle.termination_model.specs.columns.ColumnStuck.{rows_before, loads, IsBalancedAt, IsStuck}
use Rattle.termination_model.specs.columns.Count.{names}
use Rattle.termination_model.specs.columns.Down.{down, first_column, the_call, the_group, DownHasNoList}
use Rattle.termination_model.specs.columns.Expressions.{expression}
use Rattle.termination_model.proofs.ColumnStuck.{none_descends}

abbrev rows : List (List ℤ)
rows = rows_before 3 (expression (Some names)) the_call

at_point : AllHold rows 1 (0 ∷ (0 ∷ (0 ∷ (0 ∷ (0 ∷ (1 ∷ []))))))
unfolding dot
at_point = All-from_recursion (λ row. Holds row 1 (0 ∷ (0 ∷ (0 ∷ (0 ∷ (0 ∷ (1 ∷ []))))))) rows (omega (arith, ints), (omega (arith, ints), (omega (arith, ints), (omega (arith, ints), (omega (arith, ints), tt)))))

at_floor : AllHold rows 0 (0 ∷ (0 ∷ (1 ∷ (0 ∷ (0 ∷ (1 ∷ []))))))
unfolding dot
at_floor = All-from_recursion (λ row. Holds row 0 (0 ∷ (0 ∷ (1 ∷ (0 ∷ (0 ∷ (1 ∷ []))))))) rows (omega (arith, ints), (omega (arith, ints), (omega (arith, ints), (omega (arith, ints), (omega (arith, ints), tt)))))

abbrev all_loads : List Load
all_loads = loads 3 (expression (Some names)) the_group

-- member 0 has zeros, and no other member has a load
nothing_else : (q : ℕ) → gather (suc q) all_loads ≡ []
nothing_else q =
    let apart : (0 == suc q) ≡ false = grind (arith, nat_tests) in
    rw apart refl

offsets : (q : ℕ) → entry (gather q all_loads) 0 ≡ pos 0
unfolding dot
offsets zero = refl
offsets (suc q) = ap (λ (zs : List ℤ). entry zs 0) (nothing_else q)

balanced : (q i : ℕ) → IsBalancedAt 3 (expression (Some names)) first_column (the_group ∷ []) the_group q i
unfolding dot
balanced zero zero = inr (inl refl)
balanced zero (suc zero) = inr (inl refl)
balanced zero (suc (suc zero)) = inr (inl refl)
balanced zero (suc (suc (suc i))) = inr (inl refl)
balanced (suc q) i = inr (inl (ap (λ (zs : List ℤ). entry zs (suc i)) (nothing_else q)))

stuck : IsStuck 3 (expression (Some names)) (down ∷ []) first_column (the_group ∷ [])
stuck = record {
  some = omega arith;
  groups = (
    record {
      own = record { there = inl refl; call = refl; member = refl };
      some = omega arith;
      here = (refl, at_point);
      others = tt;
      floor = (refl, at_floor);
      offsets = offsets;
      columns = balanced;
    },
    tt,
  );
}

pub no_list : DownHasNoList
no_list ls natural d = none_descends 3 (expression (Some names)) (down ∷ []) first_column (the_group ∷ []) ls stuck natural d
