-- A loop of steps from some column on.
use Rattle.std.proofs.Common.{◌≡◌, ℕ, zero, suc, ℤ, List, ◌+◌, ◌<◌, ◌≤◌, Bool, true, false, cond, Some, None, Err, refl, sym, subst, ap, ◌∙◌, arith}
use Rattle.linear_rows.specs.Blown.{numbers_fit, step_fits, step_fault, fault_of, blown_from, blown_step, or_else}
use Rattle.linear_rows.specs.Step.{eliminated, all_eliminated, columns}
use Rattle.sparse_rows.specs.Adding.{AllFit, AllLong}
use Rattle.fourier.specs.Saying.{StepSays, EliminatesAll, fault_at}
use Rattle.fourier.specs.declared.fault.StepFault.{StepFault}
use Rattle.fourier.specs.declared.fault.StepFault.TheVariants.{Wide, Many, Memory}
use Rattle.fourier.proofs.Stays.{fit_stays, long_stays}

-- what is left to do says what the whole says
pub record Left (many last from count i : ℕ) (rows current : List (List ℤ)) : Type 0 where
  pub fit : AllFit current
  pub long : AllLong many current
  pub start : numbers_fit rows ≡ true
  pub rest : ℕ
  pub place : i + rest ≡ count
  pub left : all_eliminated last (columns (suc (from + i)) rest) current ≡ all_eliminated last (columns (suc from) count) rows
  pub blown : blown_from last (suc i) (columns (suc (from + i)) rest) current ≡ blown_from last 1 (columns (suc from) count) rows

pub left_start : (many last from count : ℕ) (rows : List (List ℤ)) → AllFit rows → AllLong many rows → numbers_fit rows ≡ true → Left many last from count 0 rows rows
left_start many last from count rows f l e =
    let z : from + 0 ≡ from = omega arith in
    record { fit = f; long = l; start = e; rest = count; place = omega arith; left = ap (λ n. all_eliminated last (columns (suc n) count) rows) z; blown = ap (λ n. blown_from last 1 (columns (suc n) count) rows) z }

pub fault_fits : (a b : Bool) → fault_of a b ≡ None → a ≡ true
fault_fits true b e = refl
fault_fits false b e = cc

pub none_fits : (m k : ℕ) (rows : List (List ℤ)) → step_fault m k rows ≡ None → step_fits m k rows ≡ true
unfolding step_fault
none_fits m k rows e = fault_fits (step_fits m k rows) _ e

pub left_on : (many last from count i k : ℕ) (rows current next : List (List ℤ)) → k ≡ from + i + 1 → k ≤ last → i < count → Left many last from count i rows current → next ≡ eliminated last k current → step_fault last k current ≡ None → Left many last from count (i + 1) rows next
left_on many last from count i k rows current next ek kl h g n e = turn g.rest g.place g.left g.blown
  where
    ks : k ≡ suc (from + i)
    ks = omega arith

    e2 : step_fault last (suc (from + i)) current ≡ None
    e2 = subst (λ k. step_fault last k current ≡ None) ks e

    n2 : next ≡ eliminated last (suc (from + i)) current
    n2 = n ∙ ap (λ k. eliminated last k current) ks

    one : from + (i + 1) ≡ suc (from + i)
    one = omega arith

    num : suc (i + 1) ≡ suc (suc i)
    num = omega arith

    turn : (rest : ℕ) → i + rest ≡ count → all_eliminated last (columns (suc (from + i)) rest) current ≡ all_eliminated last (columns (suc from) count) rows → blown_from last (suc i) (columns (suc (from + i)) rest) current ≡ blown_from last 1 (columns (suc from) count) rows → Left many last from count (i + 1) rows next
    turn zero p l b = absurd (omega arith)
    turn (suc rest) p l b = record {
      fit = subst AllFit (sym n) (fit_stays many last k current g.long g.fit (none_fits last k current e));
      long = subst (AllLong many) (sym n) (long_stays many last k current kl g.long);
      start = g.start;
      rest = rest;
      place = omega arith;
      left = ap (λ j. all_eliminated last (columns (suc j) rest) next) one ∙ ap (all_eliminated last (columns (suc (suc (from + i))) rest)) n2 ∙ l;
      blown = ap (λ j. blown_from last (suc (i + 1)) (columns (suc j) rest) next) one ∙ ap (λ s. blown_from last s (columns (suc (suc (from + i))) rest) next) num ∙ ap (blown_from last (suc (suc i)) (columns (suc (suc (from + i))) rest)) n2 ∙ sym (ap (λ f. or_else f (suc i) (blown_from last (suc (suc i)) (columns (suc (suc (from + i))) rest) (eliminated last (suc (from + i)) current))) e2) ∙ b;
    }

pub left_blown : (many last from count i k s : ℕ) (wide : Bool) (rows current : List (List ℤ)) → k ≡ from + i + 1 → s ≡ i + 1 → i < count → Left many last from count i rows current → step_fault last k current ≡ Some wide → blown_step last (columns (suc from) count) rows ≡ Some (s, wide)
unfolding blown_step
left_blown many last from count i k s wide rows current ek es h g e = rw g.start (turn g.rest g.place g.blown)
  where
    e2 : step_fault last (suc (from + i)) current ≡ Some wide
    e2 = let ks : k ≡ suc (from + i) = omega arith in subst (λ k. step_fault last k current ≡ Some wide) ks e

    turn : (rest : ℕ) → i + rest ≡ count → blown_from last (suc i) (columns (suc (from + i)) rest) current ≡ blown_from last 1 (columns (suc from) count) rows → blown_from last 1 (columns (suc from) count) rows ≡ Some (s, wide)
    turn zero p b = absurd (omega arith)
    turn (suc rest) p b =
        let ss : suc i ≡ s = omega arith in
        sym b ∙ ap (λ f. or_else f (suc i) (blown_from last (suc (suc i)) (columns (suc (suc (from + i))) rest) (eliminated last (suc (from + i)) current))) e2 ∙ ap (λ s. Some (s, wide)) ss

pub left_end : (many last from count i : ℕ) (rows current : List (List ℤ)) → count ≤ i → Left many last from count i rows current →
    (current ≡ all_eliminated last (columns (suc from) count) rows) × (blown_step last (columns (suc from) count) rows ≡ None)
unfolding blown_step
left_end many last from count i rows current h g = turn g.rest g.place g.left g.blown
  where
    turn : (rest : ℕ) → i + rest ≡ count → all_eliminated last (columns (suc (from + i)) rest) current ≡ all_eliminated last (columns (suc from) count) rows → blown_from last (suc i) (columns (suc (from + i)) rest) current ≡ blown_from last 1 (columns (suc from) count) rows →
        (current ≡ all_eliminated last (columns (suc from) count) rows) × (cond (numbers_fit rows) (blown_from last 1 (columns (suc from) count) rows) (Some (0, true)) ≡ None)
    turn zero p l b = (l, rw g.start (sym b))
    turn (suc rest) p l b = absurd (omega arith)

pub left_wide : (last from count : ℕ) (rows : List (List ℤ)) → numbers_fit rows ≡ false → blown_step last (columns (suc from) count) rows ≡ Some (0, true)
unfolding blown_step
left_wide last from count rows e = rw e refl

-- a step's fault is that of the elimination
pub fault_said : (m k number : ℕ) (ks : List ℕ) (current rows : List (List ℤ)) (fault : StepFault) → StepSays false m k current (Err fault)
    → ((wide : Bool) → step_fault m k current ≡ Some wide → blown_step m ks rows ≡ Some (number, wide)) → EliminatesAll m ks rows (Err (fault_at number fault))
fault_said m k number ks current rows Wide says is = is true says
fault_said m k number ks current rows Many says is = is false says
fault_said m k number ks current rows Memory says is = tt
