-- A loop of steps.
use Rattle.std.proofs.Common.{◌≡◌, ℕ, zero, suc, ℤ, List, [], ◌∷◌, ◌++◌, append_assoc, append-nil, ◌+◌, ◌<◌, ◌≤◌, Bool, true, false, cond, Option, Some, None, Err, refl, sym, subst, ap, ◌∙◌, arith}
use Rattle.linear_rows.specs.Blown.{numbers_fit, step_fault, blown_from, blown_step, or_else}
use Rattle.linear_rows.specs.Step.{eliminated, all_eliminated, columns}
use Rattle.sparse_rows.specs.Adding.{AllFit, AllLong}
use Rattle.fourier.specs.History.{history_of, IsBlownAt, StepsSay}
use Rattle.fourier.specs.declared.fault.StepFault.{StepFault}
use Rattle.fourier.specs.declared.fault.StepFault.TheVariants.{Wide, Many, Memory}
use Rattle.fourier.specs.Saying.{IsMany, StepSays, fault_at}
use Rattle.fourier.proofs.Stays.{fit_stays, long_stays}
use Rattle.fourier.proofs.Sequences.{none_fits}

-- what is left to do says what the whole says
pub record Going (many last count i : ℕ) (rows current : List (List ℤ)) (before : List (List (List ℤ))) : Type 0 where
  pub fit : AllFit current
  pub long : AllLong many current
  pub start : numbers_fit rows ≡ true
  pub rest : ℕ
  pub place : i + rest ≡ count
  pub history : before ++ history_of last (columns (suc i) rest) current ≡ history_of last (columns 1 count) rows
  pub left : all_eliminated last (columns (suc i) rest) current ≡ all_eliminated last (columns 1 count) rows
  pub blown : blown_from last (suc i) (columns (suc i) rest) current ≡ blown_from last 1 (columns 1 count) rows

pub going_start : (many last count : ℕ) (rows : List (List ℤ)) → AllFit rows → AllLong many rows → numbers_fit rows ≡ true → Going many last count 0 rows rows []
going_start many last count rows f l e = record { fit = f; long = l; start = e; rest = count; place = omega arith; history = refl; left = refl; blown = refl }

pub going_on : (many last count i k : ℕ) (rows current next : List (List ℤ)) (before after : List (List (List ℤ))) → k ≡ i + 1 → k ≤ last → i < count → Going many last count i rows current before → after ≡ before ++ current ∷ [] → next ≡ eliminated last k current → step_fault last k current ≡ None → Going many last count (i + 1) rows next after
going_on many last count i k rows current next before after ek kl h g ea n e = turn g.rest g.place g.history g.left g.blown
  where
    ks : k ≡ suc i
    ks = omega arith

    e2 : step_fault last (suc i) current ≡ None
    e2 = subst (λ k. step_fault last k current ≡ None) ks e

    n2 : next ≡ eliminated last (suc i) current
    n2 = n ∙ ap (λ k. eliminated last k current) ks

    one : i + 1 ≡ suc i
    one = omega arith

    turn : (rest : ℕ) → i + rest ≡ count → before ++ history_of last (columns (suc i) rest) current ≡ history_of last (columns 1 count) rows → all_eliminated last (columns (suc i) rest) current ≡ all_eliminated last (columns 1 count) rows → blown_from last (suc i) (columns (suc i) rest) current ≡ blown_from last 1 (columns 1 count) rows → Going many last count (i + 1) rows next after
    turn zero p hs l b = absurd (omega arith)
    turn (suc rest) p hs l b = record {
      fit = subst AllFit (sym n) (fit_stays many last k current g.long g.fit (none_fits last k current e));
      long = subst (AllLong many) (sym n) (long_stays many last k current kl g.long);
      start = g.start;
      rest = rest;
      place = omega arith;
      history = ap (λ k. after ++ history_of last (columns (suc k) rest) next) one ∙ ap (λ l. after ++ history_of last (columns (suc (suc i)) rest) l) n2 ∙ ap (λ l. l ++ history_of last (columns (suc (suc i)) rest) (eliminated last (suc i) current)) ea ∙ append_assoc before (current ∷ []) (history_of last (columns (suc (suc i)) rest) (eliminated last (suc i) current)) ∙ hs;
      left = ap (λ i. all_eliminated last (columns (suc i) rest) next) one ∙ ap (all_eliminated last (columns (suc (suc i)) rest)) n2 ∙ l;
      blown = ap (λ i. blown_from last (suc i) (columns (suc i) rest) next) one ∙ ap (blown_from last (suc (suc i)) (columns (suc (suc i)) rest)) n2 ∙ sym (ap (λ f. or_else f (suc i) (blown_from last (suc (suc i)) (columns (suc (suc i)) rest) (eliminated last (suc i) current))) e2) ∙ b;
    }

pub going_blown : (many last count i k s : ℕ) (wide : Bool) (rows current : List (List ℤ)) (before : List (List (List ℤ))) → k ≡ i + 1 → s ≡ i + 1 → i < count → Going many last count i rows current before → step_fault last k current ≡ Some wide → blown_step last (columns 1 count) rows ≡ Some (s, wide)
unfolding blown_step
going_blown many last count i k s wide rows current before ek es h g e = rw g.start (turn g.rest g.place g.blown)
  where
    e2 : step_fault last (suc i) current ≡ Some wide
    e2 = let ks : k ≡ suc i = omega arith in subst (λ k. step_fault last k current ≡ Some wide) ks e

    turn : (rest : ℕ) → i + rest ≡ count → blown_from last (suc i) (columns (suc i) rest) current ≡ blown_from last 1 (columns 1 count) rows → blown_from last 1 (columns 1 count) rows ≡ Some (s, wide)
    turn zero p b = absurd (omega arith)
    turn (suc rest) p b =
        let ss : suc i ≡ s = omega arith in
        sym b ∙ ap (λ f. or_else f (suc i) (blown_from last (suc (suc i)) (columns (suc (suc i)) rest) (eliminated last (suc i) current))) e2 ∙ ap (λ s. Some (s, wide)) ss

pub going_end : (many last count i : ℕ) (rows current : List (List ℤ)) (before : List (List (List ℤ))) → count ≤ i → Going many last count i rows current before →
    (current ≡ all_eliminated last (columns 1 count) rows) × (before ≡ history_of last (columns 1 count) rows) × (blown_step last (columns 1 count) rows ≡ None)
unfolding blown_step
going_end many last count i rows current before h g = turn g.rest g.place g.history g.left g.blown
  where
    turn : (rest : ℕ) → i + rest ≡ count → before ++ history_of last (columns (suc i) rest) current ≡ history_of last (columns 1 count) rows → all_eliminated last (columns (suc i) rest) current ≡ all_eliminated last (columns 1 count) rows → blown_from last (suc i) (columns (suc i) rest) current ≡ blown_from last 1 (columns 1 count) rows →
        (current ≡ all_eliminated last (columns 1 count) rows) × (before ≡ history_of last (columns 1 count) rows) × (cond (numbers_fit rows) (blown_from last 1 (columns 1 count) rows) (Some (0, true)) ≡ None)
    turn zero p hs l b = (l, sym (append-nil before) ∙ hs, rw g.start (sym b))
    turn (suc rest) p hs l b = absurd (omega arith)

pub not_fit : (last count : ℕ) (rows : List (List ℤ)) → numbers_fit rows ≡ false → blown_step last (columns 1 count) rows ≡ Some (0, true)
unfolding blown_step
not_fit last count rows e = rw e refl

-- what is known exactly is also said briefly
pub blown_said : (brief : Bool) (s : ℕ) (wide : Bool) (o : Option (ℕ × Bool)) → o ≡ Some (s, wide) → IsBlownAt brief s wide o
blown_said false s wide o e = e
blown_said true s wide o e = (wide, e)

blown_many : (brief : Bool) (fault : Option Bool) (s : ℕ) (o : Option (ℕ × Bool)) → IsMany brief fault → ((wide : Bool) → fault ≡ Some wide → o ≡ Some (s, wide)) → IsBlownAt brief s false o
blown_many false fault s o many is = is false many
blown_many true fault s o many is = (many.0, is many.0 many.1)

-- a step's fault is that of the steps
pub steps_fault : (brief : Bool) (m k number : ℕ) (ks : List ℕ) (current rows : List (List ℤ)) (fault : StepFault) → StepSays brief m k current (Err fault)
    → ((wide : Bool) → step_fault m k current ≡ Some wide → blown_step m ks rows ≡ Some (number, wide)) → StepsSay brief m ks rows (Err (fault_at number fault))
steps_fault brief m k number ks current rows Wide says is = blown_said brief number true (blown_step m ks rows) (is true says)
steps_fault brief m k number ks current rows Many says is = blown_many brief (step_fault m k current) number (blown_step m ks rows) says is
steps_fault brief m k number ks current rows Memory says is = tt
