-- A found point is one of the given rows.
use Rattle.std.proofs.Common.{◌≡◌, ℕ, zero, suc, ℤ, pos, List, [], ◌∷◌, ◌++◌, ◌+◌, Bool, true, false, cond, Option, Some, None, map, length, take, drop, refl, sym, subst, ap, ◌∙◌, arith}
use Rattle.std.specs.List.{All}
use Rattle.exact128.specs.Sums.{entry}
use Rattle.linear_rows.specs.Rows.{AllHold, IsPoint}
use Rattle.linear_rows.specs.Blown.{blown_step}
use Rattle.linear_rows.specs.Step.{all_eliminated, columns}
use Rattle.linear_rows.specs.Solving.{start_rows, whole_values, point_fits, refutes_in, found_of, end_of, solved_by, solution}
use Rattle.linear_rows.specs.Solving.Solution.{Blown, Found, Refuted}
use Rattle.linear_rows.proofs.Values.{values_hold}
use Rattle.linear_rows.proofs.Commons.{wholes_are, worths_length, values_length}
use Rattle.linear_rows.proofs.Starts.{start_floors, start_points}

length-columns : (k n : ℕ) → length (columns k n) ≡ n
length-columns k zero = refl
length-columns k (suc n) = ap suc (length-columns (suc k) n)

record Split (n : ℕ) (xs : List ℕ) : Type 0 where
  front : List ℕ
  last : ℕ
  is : xs ≡ front ++ last ∷ []
  long : length front ≡ n

split_last : (n : ℕ) (xs : List ℕ) → length xs ≡ n + 1 → Split n xs
split_last n [] e = absurd (omega arith)
split_last zero (x ∷ []) e = record { front = []; last = x; is = refl; long = refl }
split_last zero (x ∷ y ∷ xs) e = absurd (omega arith)
split_last (suc n) (x ∷ xs) e =
    let s = split_last n xs (omega arith) in
    record { front = x ∷ s.front; last = s.last; is = ap (λ l. x ∷ l) s.is; long = ap suc s.long }

entry-last : (n : ℕ) (w : List ℕ) (t : ℕ) → length w ≡ n → entry (map pos (w ++ t ∷ [])) n ≡ pos t
entry-last zero [] t e = refl
entry-last zero (x ∷ w) t e = absurd (omega arith)
entry-last (suc n) [] t e = absurd (omega arith)
entry-last (suc n) (x ∷ w) t e = entry-last n w t (omega arith)

take-front : (n : ℕ) (w : List ℕ) (t : ℕ) → length w ≡ n → take n (map pos (w ++ t ∷ [])) ≡ map pos w
take-front zero [] t e = refl
take-front zero (x ∷ w) t e = absurd (omega arith)
take-front (suc n) [] t e = absurd (omega arith)
take-front (suc n) (x ∷ w) t e = ap (λ l. pos x ∷ l) (take-front n w t (omega arith))

-- what led to a found point
record Way (n : ℕ) (given : List (List ℤ)) (t : ℤ) (w : List ℤ) : Type 0 where
  left : all_eliminated (n + 1) (columns 1 (n + 1)) (start_rows n given) ≡ []
  numbers : List ℤ
  values : whole_values (n + 1) (columns 1 (n + 1)) (start_rows n given) ≡ Some numbers
  t_is : t ≡ entry numbers n
  w_is : w ≡ take n numbers

way_of : (n : ℕ) (given : List (List ℤ)) (t : ℤ) (w : List ℤ) → solution n given ≡ Found t w → Way n given t w
unfolding solution
way_of n given t w e = by_steps (blown_step (n + 1) (columns 1 (n + 1)) (start_rows n given)) e
  where
    by_fit : (xs : List ℤ) → whole_values (n + 1) (columns 1 (n + 1)) (start_rows n given) ≡ Some xs → all_eliminated (n + 1) (columns 1 (n + 1)) (start_rows n given) ≡ [] →
        (b : Bool) → cond b (Found (entry xs n) (take n xs)) (Blown (n + 1) true) ≡ Found t w → Way n given t w
    by_fit xs v l true e = record { left = l; numbers = xs; values = v; t_is = cc; w_is = cc }
    by_fit xs v l false e = cc

    by_values : (o : Option (List ℤ)) → whole_values (n + 1) (columns 1 (n + 1)) (start_rows n given) ≡ o → all_eliminated (n + 1) (columns 1 (n + 1)) (start_rows n given) ≡ [] → found_of n given o ≡ Found t w → Way n given t w
    by_values None v l e = cc
    by_values (Some xs) v l e = by_fit xs v l (point_fits given (entry xs n) (take n xs)) e

    by_check : (ms : List ℤ) (b : Bool) → cond b (Refuted ms) (Blown (n + 1) true) ≡ Found t w → Way n given t w
    by_check ms true e = cc
    by_check ms false e = cc

    by_left : (l : List (List ℤ)) → all_eliminated (n + 1) (columns 1 (n + 1)) (start_rows n given) ≡ l → end_of n given l ≡ Found t w → Way n given t w
    by_left [] is e = by_values (whole_values (n + 1) (columns 1 (n + 1)) (start_rows n given)) refl is e
    by_left (r ∷ rs) is e = by_check (drop (n + 2) r) (refutes_in given (drop (n + 2) r) 0 (n + 1)) e

    by_steps : (o : Option (ℕ × Bool)) → solved_by n given o ≡ Found t w → Way n given t w
    by_steps (Some (s, b)) e = cc
    by_steps None e = by_left (all_eliminated (n + 1) (columns 1 (n + 1)) (start_rows n given)) refl e

-- the given rows hold at the point that solving finds
pub found_holds : (n : ℕ) (given : List (List ℤ)) (t : ℤ) (w : List ℤ) → All (λ r. length r ≡ n + 1) given → solution n given ≡ Found t w → IsPoint n given t w
found_holds n given t w wide e =
    let way = way_of n given t w e in
    let f = wholes_are (n + 1) (columns 1 (n + 1)) (start_rows n given) way.numbers way.values in
    let long : length f.naturals ≡ n + 1 = sym (worths_length f.over f.fractions f.naturals f.worths) ∙ values_length (n + 1) (columns 1 (n + 1)) (start_rows n given) f.fractions f.values ∙ length-columns 1 (n + 1) in
    let s = split_last n f.naturals long in
    let hold = values_hold (n + 1) (n + 1) 1 f.over f.naturals f.fractions (start_rows n given) (omega arith) (omega arith) f.some long
    (λ j l h. start_floors n j given l h)
    (λ j l h. absurd (omega arith))
    way.left f.values f.worths in
    let p = start_points n f.over s.last s.front given wide s.long f.some (subst (λ l. AllHold (start_rows n given) f.over l) s.is hold) in
    let same : way.numbers ≡ map pos (s.front ++ s.last ∷ []) = f.is ∙ ap (λ l. map pos l) s.is in
    record {
      scale = s.last;
      values = s.front;
      t_is = way.t_is ∙ ap (λ l. entry l n) same ∙ entry-last n s.front s.last s.long;
      w_is = way.w_is ∙ ap (λ l. take n l) same ∙ take-front n s.front s.last s.long;
      some = p.0;
      long = s.long;
      hold = p.1;
    }
