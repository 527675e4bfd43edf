-- How a solving ends.
use Rattle.std.proofs.Common.{◌≡◌, ℕ, zero, suc, ℤ, pos, List, [], ◌∷◌, ◌+◌, ◌<◌, ◌≤◌, Bool, true, false, cond, Option, Some, None, Result, Ok, Err, drop, take, length, get_or, refl, sym, subst, ap, ◌∙◌, arith, inl, inr}
use Rattle.std.specs.Prelude.{All, IfOk}
use Rattle.std.proofs.lemmas.List.Elements.{All-nil, All-cons}
use Rattle.exact128.specs.Fractions.{then_do}
use Rattle.exact128.specs.Sums.{entry}
use Rattle.linear_rows.specs.Members.{In}
use Rattle.linear_rows.specs.Proves.{Refutes}
use Rattle.linear_rows.specs.Blown.{numbers_fit, step_fits, step_fault, fault_of, blown_from, blown_step, or_else}
use Rattle.linear_rows.specs.Step.{eliminated, all_eliminated, columns}
use Rattle.linear_rows.specs.Showing.{bottom_row}
use Rattle.linear_rows.specs.Solving.{Solution, start_rows, values_of, whole_values, common_of, made_whole, point_fits, refutes_in, found_of, end_of, solved_by, solution}
use Rattle.linear_rows.specs.Solving.Solution.{Blown, Found, Refuted}
use Rattle.linear_rows.proofs.Members.{to_All}
use Rattle.linear_rows.proofs.Founds.{found_holds}
use Rattle.linear_rows.proofs.Refutes.{start_carries, left_refutes, refuted_refutes}
use Rattle.sparse_rows.specs.Adding.{AllFit, AllLong}
use Rattle.fourier.specs.History.{history_of, values_back, AllLongerThan, StepsSay}
use Rattle.fourier.specs.Solves.{Spells, SpellsUnless, whole_back}
use Rattle.linear_rows.specs.Decides.{Decides, RefutesInFit}
use Rattle.fourier.specs.declared.fault.ElimFault.{ElimFault}
use Rattle.fourier.specs.declared.fault.ElimFault.TheVariants.{Blown as BlownFault, Memory}
use Rattle.linear_rows.specs.declared.solved.Solved.{Solved}
use Rattle.linear_rows.specs.declared.solved.Solved.TheVariants.{Point as PointFound, Refuted as RefutedBy}
use Rattle.sparse_rows.proofs.Alls.{rows_fit}
use Rattle.fourier.proofs.CheckLemmas.{all_columns}
use Rattle.fourier.proofs.Stays.{fit_stays, long_stays}
use Rattle.fourier.proofs.ValueLemmas.{length-history, values_same}
use Rattle.linear_rows.proofs.Refutes.{length-zeros}

-- ---- the rows that are solved
pub start_long : (n : ℕ) (given : List (List ℤ)) → AllLong (n + 1) given → AllLong (n + 2 + length given) (start_rows n given)
start_long n given wide = to_All (λ r. length r ≡ n + 2 + length given) (start_rows n given) (λ r i. (start_carries n given wide r i).long)

pub length-columns : (k n : ℕ) → length (columns k n) ≡ n
length-columns k zero = refl
length-columns k (suc n) = ap suc (length-columns (suc k) n)

-- ---- the history
within_columns : (k n m : ℕ) → k + n ≤ m + 1 → (j : ℕ) → In j (columns k n) → j ≤ m
within_columns k zero m h j i = absurd i
within_columns k (suc n) m h j (inl is) = omega arith
within_columns k (suc n) m h j (inr i) = within_columns (suc k) n m (omega arith) j i

history_long : (n m : ℕ) (ks : List ℕ) (rows : List (List ℤ)) → ((k : ℕ) → In k ks → k ≤ m) → AllLong n rows → All (AllLong n) (history_of m ks rows)
history_long n m [] rows w l = All-nil (AllLong n)
history_long n m (k ∷ ks) rows w l = All-cons (AllLong n) rows (history_of m ks (eliminated m k rows)) l (history_long n m ks (eliminated m k rows) (λ x i. w x (inr i)) (long_stays n m k rows (w k (inl refl)) l))

fault_fits : (a b : Bool) → fault_of a b ≡ None → a ≡ true
fault_fits true b e = refl
fault_fits false b e = cc

no_fault : (o : Option Bool) (number : ℕ) (next : Option (ℕ × Bool)) → or_else o number next ≡ None → (o ≡ None) × (next ≡ None)
no_fault None number next e = (refl, e)
no_fault (Some wide) number next e = cc

history_fit : (n m number : ℕ) (ks : List ℕ) (rows : List (List ℤ)) → ((k : ℕ) → In k ks → k ≤ m) → AllLong n rows → AllFit rows → blown_from m number ks rows ≡ None → All AllFit (history_of m ks rows)
unfolding step_fault
history_fit n m number [] rows w l f e = All-nil AllFit
history_fit n m number (k ∷ ks) rows w l f e =
    let two = no_fault (step_fault m k rows) number (blown_from m (suc number) ks (eliminated m k rows)) e in
    let fits : step_fits m k rows ≡ true = fault_fits (step_fits m k rows) _ two.0 in
    All-cons AllFit rows (history_of m ks (eliminated m k rows)) f
    (history_fit n m (suc number) ks (eliminated m k rows) (λ x i. w x (inr i)) (long_stays n m k rows (w k (inl refl)) l) (fit_stays n m k rows l f fits) two.1)

whole_start : (m : ℕ) (ks : List ℕ) (rows : List (List ℤ)) → blown_step m ks rows ≡ None → (numbers_fit rows ≡ true) × (blown_from m 1 ks rows ≡ None)
unfolding blown_step
whole_start m ks rows e = look (numbers_fit rows) refl e
  where
    look : (b : Bool) → numbers_fit rows ≡ b → cond b (blown_from m 1 ks rows) (Some (0, true)) ≡ None → (numbers_fit rows ≡ true) × (blown_from m 1 ks rows ≡ None)
    look true is e = (is, e)
    look false is e = cc

-- the rows before the steps that solve given rows
pub record SolveHistory (n : ℕ) (before : List (List (List ℤ))) : Type 0 where
  pub steps : length before ≡ n + 1
  pub fit : All AllFit before
  pub long : All (AllLongerThan (length before)) before

pub solve_history : (n : ℕ) (given : List (List ℤ)) (before : List (List (List ℤ))) → AllLong (n + 1) given → before ≡ history_of (n + 1) (columns 1 (n + 1)) (start_rows n given) → blown_step (n + 1) (columns 1 (n + 1)) (start_rows n given) ≡ None → SolveHistory n before
solve_history n given before wide e none =
    let w = within_columns 1 (n + 1) (n + 1) (omega arith) in
    let l = start_long n given wide in
    let two = whole_start (n + 1) (columns 1 (n + 1)) (start_rows n given) none in
    let f = rows_fit (start_rows n given) two.0 in
    let steps : length before ≡ n + 1 = ap length e ∙ length-history (n + 1) (columns 1 (n + 1)) (start_rows n given) ∙ length-columns 1 (n + 1) in
    record {
      steps = steps;
      fit = rw e (history_fit (n + 2 + length given) (n + 1) 1 (columns 1 (n + 1)) (start_rows n given) w l f two.1);
      long = λ k d h j x g.
          let at = subst (All (AllLong (n + 2 + length given))) (sym e) (history_long (n + 2 + length given) (n + 1) (columns 1 (n + 1)) (start_rows n given) w l) k d h j x g in
          omega (arith, steps, at);
    }

-- ---- how it ends
pub end_blown : (n : ℕ) (given : List (List ℤ)) (s : ℕ) (b : Bool) → blown_step (n + 1) (columns 1 (n + 1)) (start_rows n given) ≡ Some (s, b) → solution n given ≡ Blown s b
unfolding solution
end_blown n given s b e = ap (solved_by n given) e

pub end_left : (n : ℕ) (given left : List (List ℤ)) (row : List ℤ) → blown_step (n + 1) (columns 1 (n + 1)) (start_rows n given) ≡ None → left ≡ all_eliminated (n + 1) (columns 1 (n + 1)) (start_rows n given) → 0 < length left → row ≡ get_or left 0 [] →
    solution n given ≡ cond (refutes_in given (drop (n + 2) row) 0 (n + 1)) (Refuted (drop (n + 2) row)) (Blown (n + 1) true)
unfolding solution
end_left n given [] row e el h er = absurd (omega arith)
end_left n given (r ∷ rs) row e el h er = ap (solved_by n given) e ∙ ap (end_of n given) (sym el) ∙ ap (λ r. cond (refutes_in given (drop (n + 2) r) 0 (n + 1)) (Refuted (drop (n + 2) r)) (Blown (n + 1) true)) (sym er)

pub row_refutes : (n : ℕ) (given left : List (List ℤ)) (row : List ℤ) → AllLong (n + 1) given → left ≡ all_eliminated (n + 1) (columns 1 (n + 1)) (start_rows n given) → 0 < length left → row ≡ get_or left 0 [] → Refutes n given (drop (n + 2) row)
row_refutes n given [] row wide el h er = absurd (omega arith)
row_refutes n given (r ∷ rs) row wide el h er = left_refutes n given row wide (subst (In row) el (inl (sym er)))

nothing_left : (xs : List (List ℤ)) → length xs ≤ 0 → xs ≡ []
nothing_left [] h = refl
nothing_left (x ∷ xs) h = absurd (omega arith)

pub end_found : (n : ℕ) (given left : List (List ℤ)) (before : List (List (List ℤ))) → blown_step (n + 1) (columns 1 (n + 1)) (start_rows n given) ≡ None → left ≡ all_eliminated (n + 1) (columns 1 (n + 1)) (start_rows n given) → length left ≤ 0 →
    before ≡ history_of (n + 1) (columns 1 (n + 1)) (start_rows n given) → found_of n given (whole_back before) ≡ solution n given
unfolding solution whole_values
end_found n given left before e el h eb =
    let steps : length before ≡ n + 1 = ap length eb ∙ length-history (n + 1) (columns 1 (n + 1)) (start_rows n given) ∙ length-columns 1 (n + 1) in
    let back : values_back (columns 1 (length before)) before ≡ values_of (n + 1) (columns 1 (n + 1)) (start_rows n given) =
    ap (λ k. values_back (columns 1 k) before) steps ∙ ap (values_back (columns 1 (n + 1))) eb ∙ values_same (n + 1) (columns 1 (n + 1)) (start_rows n given) in
    ap (λ o. found_of n given (then_do o (λ vs. then_do (common_of (pos 1) vs) (λ c. made_whole c vs)))) back
    ∙ sym (ap (solved_by n given) e ∙ ap (end_of n given) (sym el ∙ nothing_left left h))

pub fault_spells : (brief : Bool) (n : ℕ) (given : List (List ℤ)) (f : ElimFault) → StepsSay brief (n + 1) (columns 1 (n + 1)) (start_rows n given) (Err f) → SpellsUnless brief (solution n given) (Err f)
fault_spells false n given (BlownFault s b) e = end_blown n given s b e
fault_spells true n given (BlownFault s b) e = (s, e.0, end_blown n given s e.0 e.1)
fault_spells brief n given Memory e = tt

-- what is said exactly is also said briefly
pub spells_unless : (brief : Bool) (s : Solution) (r : Result Solved ElimFault) → Spells s r → SpellsUnless brief s r
spells_unless brief s (Ok solved) h = h
spells_unless false s (Err (BlownFault step wide)) h = h
spells_unless true s (Err (BlownFault step wide)) h = (step, wide, h)
spells_unless brief s (Err Memory) h = tt

pub spells_exactly : (s : Solution) (r : Result Solved ElimFault) → SpellsUnless false s r → Spells s r
spells_exactly s (Ok solved) h = h
spells_exactly s (Err (BlownFault step wide)) h = h
spells_exactly s (Err Memory) h = tt

-- ---- what an answer shows
pub spells_decides : (n : ℕ) (given : List (List ℤ)) (r : Result Solved ElimFault) → AllLong (n + 1) given → Spells (solution n given) r → IfOk r (Decides n given)
spells_decides n given (Ok (PointFound p)) wide s = found_holds n given p.t p.w wide s
spells_decides n given (Ok (RefutedBy m)) wide s = (s.0, refuted_refutes n given m.list wide s.1)
spells_decides n given (Err f) wide s = tt

-- ---- a refutation's test is in numbers that fit
choose : (n : ℕ) (given : List (List ℤ)) (xs ms : List ℤ) (b : Bool) → refutes_in given xs 0 (n + 1) ≡ b → cond b (Refuted xs) (Blown (n + 1) true) ≡ Refuted ms → refutes_in given ms 0 (n + 1) ≡ true
choose n given xs ms true is e = let same : xs ≡ ms = cc in subst (λ (l : List ℤ). refutes_in given l 0 (n + 1) ≡ true) same is
choose n given xs ms false is e = cc

found_not : (n : ℕ) (given : List (List ℤ)) (ms : List ℤ) (o : Option (List ℤ)) → found_of n given o ≡ Refuted ms → ⊥
found_not n given ms None e = cc
found_not n given ms (Some xs) e = either (point_fits given (entry xs n) (take n xs)) e
  where
    either : (b : Bool) → cond b (Found (entry xs n) (take n xs)) (Blown (n + 1) true) ≡ Refuted ms → ⊥
    either true e = cc
    either false e = cc

end_fits : (n : ℕ) (given left : List (List ℤ)) (ms : List ℤ) → end_of n given left ≡ Refuted ms → refutes_in given ms 0 (n + 1) ≡ true
end_fits n given [] ms e = absurd (found_not n given ms (whole_values (n + 1) (columns 1 (n + 1)) (start_rows n given)) e)
end_fits n given (r ∷ rs) ms e = choose n given (drop (n + 2) r) ms (refutes_in given (drop (n + 2) r) 0 (n + 1)) refl e

solved_fits : (n : ℕ) (given : List (List ℤ)) (ms : List ℤ) (o : Option (ℕ × Bool)) → solved_by n given o ≡ Refuted ms → refutes_in given ms 0 (n + 1) ≡ true
solved_fits n given ms (Some (s, b)) e = cc
solved_fits n given ms None e = end_fits n given (all_eliminated (n + 1) (columns 1 (n + 1)) (start_rows n given)) ms e

refuted_fits : (n : ℕ) (given : List (List ℤ)) (ms : List ℤ) → solution n given ≡ Refuted ms → refutes_in given ms 0 (n + 1) ≡ true
unfolding solution
refuted_fits n given ms e = solved_fits n given ms (blown_step (n + 1) (columns 1 (n + 1)) (start_rows n given)) e

pub spells_proved : (n : ℕ) (given : List (List ℤ)) (r : Result Solved ElimFault) → AllLong (n + 1) given → Spells (solution n given) r → IfOk r (RefutesInFit n given)
spells_proved n given (Ok (PointFound p)) wide s = tt
spells_proved n given (Ok (RefutedBy m)) wide s =
    all_columns n given m.list (bottom_row n) (ap suc (length-zeros n) ∙ omega arith) (refuted_refutes n given m.list wide s.1).long (refuted_fits n given m.list s.1)
spells_proved n given (Err f) wide s = tt
