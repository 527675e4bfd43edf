-- The chain of append.
use Rattle.std.proofs.Common.{◌≡◌, ℕ, zero, suc, ℤ, pos, negsuc, Bool, true, false, inl, inr, List, [], ◌∷◌, ◌++◌, map, length, None, ◌==◌, if◌then◌else◌, refl, ap, sym, subst, arith}
use Rattle.std.specs.Prelude.{◌↔◌, All, ◌≤ℤ◌, slice_index_or}
use Rattle.std.proofs.lemmas.Bool.Decides.{nat_tests}
use Rattle.exact128.specs.Gcd.{gcd, gcd_within}
use Rattle.exact128.specs.Sums.{dot}
use Rattle.linear_rows.specs.Elimination.{crossed, crossings}
use Rattle.linear_rows.specs.Equation.{solved_rows}
use Rattle.linear_rows.specs.Cleaning.{row_gcd}
use Rattle.linear_rows.specs.Blown.{crossed_fits, crossings_fit, solved_rows_fit, step_fits, step_fault, blown_step}
use Rattle.linear_rows.specs.Members.{In}
use Rattle.linear_rows.specs.Rows.{HoldsOn}
use Rattle.linear_rows.specs.Systems.{image_blown, image_left, join_blown, join_left}
use Rattle.linear_rows.specs.Irredundant.{Fails, IsIrredundant, without_place}
use Rattle.term_size.specs.Occurrences.{size_row}
use Rattle.termination_model.specs.sizes.Systems.{row_over, system}
use Rattle.termination_model.specs.examples.Append.{append, append_nil, append_cons}
use Rattle.termination_model.specs.chains.Chain.{after, start_rows}
use Rattle.termination_model.specs.chains.ChainRows.{bottom_row, HasSublist, IsJoin, HasPoint}
use Rattle.termination_model.specs.chains.ChainSteps.{IsImage, HoldsHere, IsLegalStep}
use Rattle.termination_model.specs.declared.how.How.TheVariants.{First, Join, Same}
use Rattle.linear_rows.specs.Rows.{AreEmpty}
use Rattle.termination_model.proofs.ChainHeads.{bottom_fails}
use Rattle.linear_rows.proofs.Members.{from_All}
use Rattle.linear_rows.specs.Rows.{Holds}
use Rattle.termination_model.proofs.ImageLaw.{image_same}
use Rattle.termination_model.proofs.JoinLaw.{join_same}
use Rattle.termination_model.specs.examples.AppendChain.{step, row, nil_rows, sum_rows, at_least, fit, append_rows, AppendHasThisChain}
use Rattle.termination_model.proofs.RowChecks.{point_by, fails_by, all_hold, part_same, naturals_by, long_by}

-- rows of append's arguments before each step
abbrev start : ℕ → List (List ℤ)
start q = bottom_row 3 ∷ []

-- ---- what elimination leaves, by computing
abbrev nil_heads : List (List ℤ)
nil_heads = map (size_row 1) append_nil.head.args

abbrev cons_heads : List (List ℤ)
cons_heads = map (size_row 4) append_cons.head.args

abbrev nil_left : List (List ℤ)
nil_left = row (pos 0) (pos 1) (pos 0) (pos 0) ∷ row (pos 0) (negsuc 0) (pos 0) (pos 0) ∷ row (pos 0) (pos 0) (pos 1) (pos 0) ∷ row (pos 0) (pos 0) (negsuc 0) (pos 1) ∷ row (pos 0) (pos 0) (pos 1) (negsuc 0) ∷ []

nil_decided : image_blown 1 nil_heads [] ≡ None
unfolding dot blown_step step_fits crossings_fit crossed_fits solved_rows_fit step_fault crossed crossings solved_rows row_gcd gcd gcd_within
nil_decided = refl

nil_left_is : image_left 1 nil_heads [] ≡ nil_left
unfolding dot blown_step step_fits crossings_fit crossed_fits solved_rows_fit step_fault crossed crossings solved_rows row_gcd gcd gcd_within
nil_left_is = refl

abbrev joined : List (List ℤ)
joined = row (pos 0) (pos 1) (pos 0) (pos 0) ∷ row (pos 0) (negsuc 0) (negsuc 0) (pos 1) ∷ row (pos 0) (pos 1) (pos 1) (negsuc 0) ∷ row (pos 0) (pos 0) (pos 0) (pos 1) ∷ row (pos 0) (pos 0) (pos 1) (pos 0) ∷ []

join_decided : join_blown 3 nil_rows (at_least ∷ sum_rows) ≡ None
unfolding dot blown_step step_fits crossings_fit crossed_fits solved_rows_fit step_fault crossed crossings solved_rows row_gcd gcd gcd_within
join_decided = refl

joined_is : join_left 3 nil_rows (at_least ∷ sum_rows) ≡ joined
unfolding dot blown_step step_fits crossings_fit crossed_fits solved_rows_fit step_fault crossed crossings solved_rows row_gcd gcd gcd_within
joined_is = refl

-- ---- the first image: each row left is proved from the three listed ones, each of which fails without the others
nil_part : HasSublist nil_left nil_rows
nil_part = inr (tt, inl (tt, row (pos 0) (pos 0) (negsuc 0) (pos 1) ∷ row (pos 0) (pos 0) (pos 1) (negsuc 0) ∷ [], refl, inr (tt, inl (tt, row (pos 0) (pos 0) (pos 1) (negsuc 0) ∷ [], refl, inl (tt, [], refl, refl)))))

nil_irredundant : IsIrredundant 3 nil_rows
unfolding dot blown_step step_fits crossings_fit crossed_fits solved_rows_fit step_fault crossed crossings solved_rows row_gcd gcd gcd_within
nil_irredundant zero l = inl (fails_by 3 (without_place 0 nil_rows) (slice_index_or nil_rows 0 []) (1 ∷ 0 ∷ 0 ∷ []) refl refl)
nil_irredundant (suc zero) l = inl (fails_by 3 (without_place 1 nil_rows) (slice_index_or nil_rows 1 []) (0 ∷ 1 ∷ 0 ∷ []) refl refl)
nil_irredundant (suc (suc zero)) l = inl (fails_by 3 (without_place 2 nil_rows) (slice_index_or nil_rows 2 []) (0 ∷ 0 ∷ 1 ∷ []) refl refl)
nil_irredundant (suc (suc (suc i))) l = absurd (omega arith)

nil_covers : (r : List ℤ) → In r nil_left → HoldsOn 4 nil_rows r
unfolding dot blown_step step_fits crossings_fit crossed_fits solved_rows_fit step_fault crossed crossings solved_rows row_gcd gcd gcd_within
nil_covers = all_hold 4 nil_rows nil_left ((pos 0 ∷ pos 0 ∷ pos 0 ∷ []) ∷ (pos 1 ∷ pos 0 ∷ pos 0 ∷ []) ∷ (pos 0 ∷ pos 0 ∷ pos 0 ∷ []) ∷ (pos 0 ∷ pos 1 ∷ pos 0 ∷ []) ∷ (pos 0 ∷ pos 0 ∷ pos 1 ∷ []) ∷ []) refl

natural_nil : All (λ (r : List ℤ). All (λ (x : ℤ). pos 0 ≤ℤ x) r) nil_heads
natural_nil = naturals_by nil_heads refl

nil_image : (rows : ℕ → List (List ℤ)) → IsImage fit size_row rows append_nil nil_rows
nil_image rows = record {
  decided = nil_decided;
  part = subst (λ (l : List (List ℤ)). HasSublist l nil_rows) (sym nil_left_is) nil_part;
  irredundant = nil_irredundant;
  spoken = ((refl, refl), ((refl, refl), ((refl, refl), tt)));
  same = λ r long spoken.
      let cut = part_same 4 nil_left nil_rows nil_part nil_covers r in
      let whole : HoldsOn 4 (image_left 1 nil_heads []) r ↔ HoldsHere fit size_row rows append_nil r = image_same 1 nil_heads [] natural_nil r long in
      let on : HoldsOn 4 nil_left r ↔ HoldsHere fit size_row rows append_nil r = subst (λ (l : List (List ℤ)). HoldsOn 4 l r ↔ HoldsHere fit size_row rows append_nil r) nil_left_is whole in
      (λ h. on.0 (cut.0 h), λ h. cut.1 (on.1 h));
}

-- ---- the second image, over rows of append that say that x1 is 0 and x2 = x3
abbrev first_rows : ℕ → List (List ℤ)
first_rows = after append_nil (step 1 nil_rows First nil_rows) (start_rows append)

abbrev first_body : List (List ℤ)
first_body = system size_row first_rows 4 append_cons.body

abbrev first_left : List (List ℤ)
first_left = at_least ∷ row (pos 0) (pos 0) (pos 1) (pos 0) ∷ row (pos 0) (negsuc 0) (pos 0) (pos 1) ∷ sum_rows

first_decided : image_blown 4 cons_heads first_body ≡ None
unfolding dot blown_step step_fits crossings_fit crossed_fits solved_rows_fit step_fault crossed crossings solved_rows row_gcd gcd gcd_within
first_decided = refl

first_left_is : image_left 4 cons_heads first_body ≡ first_left
unfolding dot blown_step step_fits crossings_fit crossed_fits solved_rows_fit step_fault crossed crossings solved_rows row_gcd gcd gcd_within
first_left_is = refl

first_part : HasSublist first_left (at_least ∷ sum_rows)
first_part = inl (tt, sum_rows, refl, inr (tt, inr (tt, inl (tt, row (pos 0) (pos 1) (pos 1) (negsuc 0) ∷ [], refl, inl (tt, [], refl, refl)))))

first_irredundant : IsIrredundant 3 (at_least ∷ sum_rows)
unfolding dot blown_step step_fits crossings_fit crossed_fits solved_rows_fit step_fault crossed crossings solved_rows row_gcd gcd gcd_within
first_irredundant zero l = inl (fails_by 3 (without_place 0 (at_least ∷ sum_rows)) (slice_index_or (at_least ∷ sum_rows) 0 []) (0 ∷ 0 ∷ 0 ∷ []) refl refl)
first_irredundant (suc zero) l = inl (fails_by 3 (without_place 1 (at_least ∷ sum_rows)) (slice_index_or (at_least ∷ sum_rows) 1 []) (1 ∷ 0 ∷ 0 ∷ []) refl refl)
first_irredundant (suc (suc zero)) l = inl (fails_by 3 (without_place 2 (at_least ∷ sum_rows)) (slice_index_or (at_least ∷ sum_rows) 2 []) (1 ∷ 0 ∷ 2 ∷ []) refl refl)
first_irredundant (suc (suc (suc i))) l = absurd (omega arith)

first_covers : (r : List ℤ) → In r first_left → HoldsOn 4 (at_least ∷ sum_rows) r
unfolding dot blown_step step_fits crossings_fit crossed_fits solved_rows_fit step_fault crossed crossings solved_rows row_gcd gcd gcd_within
first_covers = all_hold 4 (at_least ∷ sum_rows) first_left ((pos 1 ∷ pos 0 ∷ pos 0 ∷ []) ∷ (pos 0 ∷ pos 0 ∷ pos 0 ∷ []) ∷ (pos 0 ∷ pos 1 ∷ pos 0 ∷ []) ∷ (pos 0 ∷ pos 1 ∷ pos 0 ∷ []) ∷ (pos 0 ∷ pos 0 ∷ pos 1 ∷ []) ∷ []) refl

first_image : IsImage fit size_row first_rows append_cons (at_least ∷ sum_rows)
first_image = record {
  decided = first_decided;
  part = subst (λ (l : List (List ℤ)). HasSublist l (at_least ∷ sum_rows)) (sym first_left_is) first_part;
  irredundant = first_irredundant;
  spoken = ((refl, refl), ((refl, refl), ((refl, refl), tt)));
  same = λ r long spoken.
      let cut = part_same 4 first_left (at_least ∷ sum_rows) first_part first_covers r in
      let whole : HoldsOn 4 (image_left 4 cons_heads first_body) r ↔ HoldsHere fit size_row first_rows append_cons r = image_same 4 cons_heads first_body (naturals_by cons_heads refl) r long in
      let on : HoldsOn 4 first_left r ↔ HoldsHere fit size_row first_rows append_cons r = subst (λ (l : List (List ℤ)). HoldsOn 4 l r ↔ HoldsHere fit size_row first_rows append_cons r) first_left_is whole in
      (λ h. on.0 (cut.0 h), λ h. cut.1 (on.1 h));
}

-- ---- the join
join_part : HasSublist joined sum_rows
join_part = inr (tt, inl (tt, row (pos 0) (pos 1) (pos 1) (negsuc 0) ∷ [], refl, inl (tt, [], refl, inr (tt, inr (tt, refl)))))

sum_irredundant : IsIrredundant 3 sum_rows
unfolding dot blown_step step_fits crossings_fit crossed_fits solved_rows_fit step_fault crossed crossings solved_rows row_gcd gcd gcd_within
sum_irredundant zero l = inl (fails_by 3 (without_place 0 sum_rows) (slice_index_or sum_rows 0 []) (1 ∷ 0 ∷ 0 ∷ []) refl refl)
sum_irredundant (suc zero) l = inl (fails_by 3 (without_place 1 sum_rows) (slice_index_or sum_rows 1 []) (0 ∷ 0 ∷ 1 ∷ []) refl refl)
sum_irredundant (suc (suc i)) l = absurd (omega arith)

join_covers : (r : List ℤ) → In r joined → HoldsOn 4 sum_rows r
unfolding dot blown_step step_fits crossings_fit crossed_fits solved_rows_fit step_fault crossed crossings solved_rows row_gcd gcd gcd_within
join_covers = all_hold 4 sum_rows joined ((pos 0 ∷ pos 0 ∷ []) ∷ (pos 1 ∷ pos 0 ∷ []) ∷ (pos 0 ∷ pos 1 ∷ []) ∷ (pos 0 ∷ pos 0 ∷ []) ∷ (pos 0 ∷ pos 0 ∷ []) ∷ []) refl

nil_point : HasPoint 3 nil_rows
unfolding dot
nil_point = point_by 3 nil_rows (0 ∷ 0 ∷ 0 ∷ []) refl refl

cons_point : HasPoint 3 (at_least ∷ sum_rows)
unfolding dot
cons_point = point_by 3 (at_least ∷ sum_rows) (1 ∷ 0 ∷ 1 ∷ []) refl refl

sum_point : HasPoint 3 sum_rows
unfolding dot
sum_point = point_by 3 sum_rows (0 ∷ 0 ∷ 0 ∷ []) refl refl

the_join : IsJoin fit 3 nil_rows (at_least ∷ sum_rows) sum_rows
the_join = record {
  decided = join_decided;
  part = subst (λ (l : List (List ℤ)). HasSublist l sum_rows) (sym joined_is) join_part;
  irredundant = sum_irredundant;
  spoken = ((refl, refl), ((refl, refl), tt));
  same = λ r long spoken.
      let cut = part_same 4 joined sum_rows join_part join_covers r in
      let whole = join_same 3 nil_rows (at_least ∷ sum_rows) (long_by 4 nil_rows refl) (long_by 4 (at_least ∷ sum_rows) refl) nil_point cons_point r long in
      let on : HoldsOn 4 joined r ↔ (HoldsOn 4 nil_rows r × HoldsOn 4 (at_least ∷ sum_rows) r) = subst (λ (l : List (List ℤ)). HoldsOn 4 l r ↔ (HoldsOn 4 nil_rows r × HoldsOn 4 (at_least ∷ sum_rows) r)) joined_is whole in
      (λ h. on.0 (cut.0 h), λ h. cut.1 (on.1 h));
}

-- ---- the second pass, over rows of append that say that x1 + x2 = x3
abbrev second_rows : ℕ → List (List ℤ)
second_rows = after append_cons (step 2 (at_least ∷ sum_rows) Join sum_rows) first_rows

abbrev third_rows : ℕ → List (List ℤ)
third_rows = after append_nil (step 1 nil_rows Same sum_rows) second_rows

abbrev third_body : List (List ℤ)
third_body = system size_row third_rows 4 append_cons.body

abbrev third_left : List (List ℤ)
third_left = row (pos 0) (pos 0) (pos 1) (pos 0) ∷ row (pos 0) (negsuc 0) (negsuc 0) (pos 1) ∷ row (pos 0) (pos 1) (pos 1) (negsuc 0) ∷ row (negsuc 0) (pos 1) (pos 1) (pos 0) ∷ at_least ∷ []

third_decided : image_blown 4 cons_heads third_body ≡ None
unfolding dot blown_step step_fits crossings_fit crossed_fits solved_rows_fit step_fault crossed crossings solved_rows row_gcd gcd gcd_within
third_decided = refl

third_left_is : image_left 4 cons_heads third_body ≡ third_left
unfolding dot blown_step step_fits crossings_fit crossed_fits solved_rows_fit step_fault crossed crossings solved_rows row_gcd gcd gcd_within
third_left_is = refl

abbrev third_list : List (List ℤ)
third_list = sum_rows ++ at_least ∷ []

third_part : HasSublist third_left third_list
third_part = inr (tt, inl (tt, row (pos 0) (pos 1) (pos 1) (negsuc 0) ∷ at_least ∷ [], refl, inl (tt, at_least ∷ [], refl, inr (tt, inl (tt, [], refl, refl)))))

third_irredundant : IsIrredundant 3 third_list
unfolding dot blown_step step_fits crossings_fit crossed_fits solved_rows_fit step_fault crossed crossings solved_rows row_gcd gcd gcd_within
third_irredundant zero l = inl (fails_by 3 (without_place 0 third_list) (slice_index_or third_list 0 []) (1 ∷ 0 ∷ 0 ∷ []) refl refl)
third_irredundant (suc zero) l = inl (fails_by 3 (without_place 1 third_list) (slice_index_or third_list 1 []) (1 ∷ 0 ∷ 2 ∷ []) refl refl)
third_irredundant (suc (suc zero)) l = inl (fails_by 3 (without_place 2 third_list) (slice_index_or third_list 2 []) (0 ∷ 0 ∷ 0 ∷ []) refl refl)
third_irredundant (suc (suc (suc i))) l = absurd (omega arith)

third_covers : (r : List ℤ) → In r third_left → HoldsOn 4 third_list r
unfolding dot blown_step step_fits crossings_fit crossed_fits solved_rows_fit step_fault crossed crossings solved_rows row_gcd gcd gcd_within
third_covers = all_hold 4 third_list third_left ((pos 0 ∷ pos 0 ∷ pos 0 ∷ []) ∷ (pos 1 ∷ pos 0 ∷ pos 0 ∷ []) ∷ (pos 0 ∷ pos 1 ∷ pos 0 ∷ []) ∷ (pos 0 ∷ pos 0 ∷ pos 1 ∷ []) ∷ (pos 0 ∷ pos 0 ∷ pos 1 ∷ []) ∷ []) refl

third_image : IsImage fit size_row third_rows append_cons third_list
third_image = record {
  decided = third_decided;
  part = subst (λ (l : List (List ℤ)). HasSublist l third_list) (sym third_left_is) third_part;
  irredundant = third_irredundant;
  spoken = ((refl, refl), ((refl, refl), ((refl, refl), tt)));
  same = λ r long spoken.
      let cut = part_same 4 third_left third_list third_part third_covers r in
      let whole : HoldsOn 4 (image_left 4 cons_heads third_body) r ↔ HoldsHere fit size_row third_rows append_cons r = image_same 4 cons_heads third_body (naturals_by cons_heads refl) r long in
      let on : HoldsOn 4 third_left r ↔ HoldsHere fit size_row third_rows append_cons r = subst (λ (l : List (List ℤ)). HoldsOn 4 l r ↔ HoldsHere fit size_row third_rows append_cons r) third_left_is whole in
      (λ h. on.0 (cut.0 h), λ h. cut.1 (on.1 h));
}

cons_point_last : HasPoint 3 third_list
unfolding dot
cons_point_last = point_by 3 third_list (1 ∷ 0 ∷ 1 ∷ []) refl refl

-- the rows of the sum hold on both clauses
nil_keeps : (r : List ℤ) → In r (map (row_over size_row 1 append_nil.head.args) sum_rows) → HoldsOn 2 [] r
unfolding dot
nil_keeps = all_hold 2 [] (map (row_over size_row 1 append_nil.head.args) sum_rows) ([] ∷ [] ∷ []) refl

cons_keeps : (r : List ℤ) → In r (map (row_over size_row 4 append_cons.head.args) sum_rows) → HoldsOn 5 third_body r
unfolding dot
cons_keeps = all_hold 5 third_body (map (row_over size_row 4 append_cons.head.args) sum_rows) ((pos 1 ∷ pos 0 ∷ []) ∷ (pos 0 ∷ pos 1 ∷ []) ∷ []) refl

bottom_empty : AreEmpty 4 (bottom_row 3 ∷ [])
bottom_empty t w some long all = bottom_fails 3 t w some (from_All (λ (r : List ℤ). Holds r t w) (bottom_row 3 ∷ []) (bottom_row 3) all (inl refl))

-- x1 = 0 fails at the head of the second clause
nil_fails : Fails 4 first_body (row_over size_row 4 append_cons.head.args (row (pos 0) (negsuc 0) (pos 0) (pos 0)))
unfolding dot
nil_fails = fails_by 4 first_body (row_over size_row 4 append_cons.head.args (row (pos 0) (negsuc 0) (pos 0) (pos 0))) (0 ∷ 0 ∷ 0 ∷ 0 ∷ []) refl refl

-- ---- all together
first_step : IsLegalStep fit size_row 1 (start_rows append) append_nil (step 1 nil_rows First nil_rows)
first_step = record { image = nil_image (start_rows append); legal = (nil_point, bottom_empty, refl) }

second_step : IsLegalStep fit size_row 1 first_rows append_cons (step 2 (at_least ∷ sum_rows) Join sum_rows)
second_step = record { image = first_image; legal = (omega arith, (cons_point, nil_point), inl nil_fails, the_join) }

third_step : IsLegalStep fit size_row 2 second_rows append_nil (step 1 nil_rows Same sum_rows)
third_step = record { image = nil_image second_rows; legal = ((nil_point, sum_point), (nil_keeps _ (inl refl), (nil_keeps _ (inr (inl refl)), tt)), refl) }

fourth_step : IsLegalStep fit size_row 2 third_rows append_cons (step 2 third_list Same sum_rows)
fourth_step = record { image = third_image; legal = ((cons_point_last, sum_point), (cons_keeps _ (inl refl), (cons_keeps _ (inr (inl refl)), tt)), refl) }

changes : nil_rows ≡ bottom_row 3 ∷ [] → ⊥
changes e = let l : length nil_rows ≡ length (bottom_row 3 ∷ []) = ap length e in omega (arith, l)

pub append_has_this_chain : AppendHasThisChain
append_has_this_chain = record {
  runs = ((step 1 nil_rows First nil_rows ∷ step 2 (at_least ∷ sum_rows) Join sum_rows ∷ []) ∷ (step 1 nil_rows Same sum_rows ∷ step 2 third_list Same sum_rows ∷ []) ∷ []) ∷ [];
  legal = (((refl, first_step, (refl, second_step, tt)), (λ h. changes h.0), ((refl, third_step, (refl, fourth_step, tt)), (refl, (refl, tt)))), tt);
  steps_are = refl;
  last_are = last;
}
  where
    last : (q : ℕ) → append_rows q ≡ after append_cons (step 2 third_list Same sum_rows) third_rows q
    last zero = refl
    last (suc q) = other (0 == suc q) (grind (arith, nat_tests))
      where
        other : (b : Bool) → b ≡ false → [] ≡ (if b then sum_rows else (if b then sum_rows else (if b then sum_rows else (if b then nil_rows else []))))
        other false e = refl
        other true e = cc
