-- Worked examples of the definitions, each evaluated.
use Rattle.std.proofs.Common.{◌≡◌, pos, negsuc, [], ◌∷◌, true, None, refl}
use Rattle.exact128.specs.Gcd.{gcd, gcd_within}
use Rattle.exact128.specs.Sums.{dot}
use Rattle.exact128.specs.Fractions.{lowest, ratio, sum, exceeds, shared_of, scaled_of, sum_of, again_of, bottom_of}
use Rattle.linear_rows.specs.Elimination.{crossed, crossings}
use Rattle.linear_rows.specs.Equation.{solved_rows}
use Rattle.linear_rows.specs.Cleaning.{row_gcd}
use Rattle.linear_rows.specs.Step.{eliminated}
use Rattle.linear_rows.specs.Blown.{crossed_fits, crossings_fit, solved_rows_fit, step_fits, step_fault, blown_step}
use Rattle.linear_rows.specs.Solving.{start_rows, bound, whole_values, point_fits, solution}
use Rattle.linear_rows.specs.Solving.Solution.{Blown, Found, Refuted}
use Rattle.linear_rows.specs.Systems.{test_rows, image_left, image_blown, join_left, join_blown}

-- x at least 2: a row that bounds from below and one that bounds from above give one without x; the row [0,0,1] has no
-- x
one_step : eliminated 2 1 ((negsuc 1 ∷ pos 1 ∷ pos 0 ∷ []) ∷ (pos 7 ∷ negsuc 0 ∷ pos 1 ∷ []) ∷ (pos 0 ∷ pos 0 ∷ pos 1 ∷ []) ∷ []) ≡ ((pos 0 ∷ pos 0 ∷ pos 1 ∷ []) ∷ [])
unfolding solution start_rows blown_step step_fits crossings_fit crossed_fits solved_rows_fit step_fault crossed crossings solved_rows row_gcd gcd gcd_within whole_values bound ratio lowest sum exceeds shared_of scaled_of sum_of again_of bottom_of point_fits dot
one_step = refl

-- x is y: the equation is put into the third row
one_equation : eliminated 2 1 ((pos 0 ∷ pos 1 ∷ negsuc 0 ∷ []) ∷ (pos 0 ∷ negsuc 0 ∷ pos 1 ∷ []) ∷ (negsuc 5 ∷ pos 2 ∷ pos 4 ∷ []) ∷ []) ≡ ((negsuc 0 ∷ pos 0 ∷ pos 1 ∷ []) ∷ [])
unfolding solution start_rows blown_step step_fits crossings_fit crossed_fits solved_rows_fit step_fault crossed crossings solved_rows row_gcd gcd gcd_within whole_values bound ratio lowest sum exceeds shared_of scaled_of sum_of again_of bottom_of point_fits dot
one_equation = refl

-- x is at least 2
two_is_a_point : solution 1 ((negsuc 1 ∷ pos 1 ∷ []) ∷ []) ≡ Found (pos 1) (pos 2 ∷ [])
unfolding solution start_rows blown_step step_fits crossings_fit crossed_fits solved_rows_fit step_fault crossed crossings solved_rows row_gcd gcd gcd_within whole_values bound ratio lowest sum exceeds shared_of scaled_of sum_of again_of bottom_of point_fits dot
two_is_a_point = refl

-- x is at least 2 and at most 1
nothing_between : solution 1 ((negsuc 1 ∷ pos 1 ∷ []) ∷ (pos 1 ∷ negsuc 0 ∷ []) ∷ []) ≡ Refuted (pos 1 ∷ pos 1 ∷ [])
unfolding solution start_rows blown_step step_fits crossings_fit crossed_fits solved_rows_fit step_fault crossed crossings solved_rows row_gcd gcd gcd_within whole_values bound ratio lowest sum exceeds shared_of scaled_of sum_of again_of bottom_of point_fits dot
nothing_between = refl

-- a number that does not fit
too_large : solution 1 ((pos 0 ∷ negsuc 170141183460469231731687303715884105727 ∷ []) ∷ []) ≡ Blown 0 true
unfolding solution start_rows blown_step step_fits crossings_fit crossed_fits solved_rows_fit step_fault crossed crossings solved_rows row_gcd gcd gcd_within whole_values bound ratio lowest sum exceeds shared_of scaled_of sum_of again_of bottom_of point_fits dot
too_large = refl

-- 3x is 2 and 2y is x: a common denominator
fractions : solution 2 ((negsuc 1 ∷ pos 3 ∷ pos 0 ∷ []) ∷ (pos 2 ∷ negsuc 2 ∷ pos 0 ∷ []) ∷ (pos 0 ∷ negsuc 0 ∷ pos 2 ∷ []) ∷ (pos 0 ∷ pos 1 ∷ negsuc 1 ∷ []) ∷ []) ≡ Found (pos 3) (pos 2 ∷ pos 1 ∷ [])
unfolding solution start_rows blown_step step_fits crossings_fit crossed_fits solved_rows_fit step_fault crossed crossings solved_rows row_gcd gcd gcd_within whole_values bound ratio lowest sum exceeds shared_of scaled_of sum_of again_of bottom_of point_fits dot
fractions = refl

-- where x is at least 2 it is at least 1
holds : solution 2 (test_rows 1 ((negsuc 1 ∷ pos 1 ∷ []) ∷ []) (negsuc 0 ∷ pos 1 ∷ [])) ≡ Refuted (pos 1 ∷ pos 1 ∷ pos 1 ∷ [])
unfolding solution start_rows blown_step step_fits crossings_fit crossed_fits solved_rows_fit step_fault crossed crossings solved_rows row_gcd gcd gcd_within whole_values bound ratio lowest sum exceeds shared_of scaled_of sum_of again_of bottom_of point_fits dot
holds = refl

-- but not at least 3
fails : solution 2 (test_rows 1 ((negsuc 1 ∷ pos 1 ∷ []) ∷ []) (negsuc 2 ∷ pos 1 ∷ [])) ≡ Found (pos 1) (pos 2 ∷ pos 1 ∷ [])
unfolding solution start_rows blown_step step_fits crossings_fit crossed_fits solved_rows_fit step_fault crossed crossings solved_rows row_gcd gcd gcd_within whole_values bound ratio lowest sum exceeds shared_of scaled_of sum_of again_of bottom_of point_fits dot
fails = refl

-- the image of append's second clause, of the head's sizes 1+H+T, L and 1+H+R
image : image_left 4 ((pos 1 ∷ pos 1 ∷ pos 1 ∷ pos 0 ∷ pos 0 ∷ []) ∷ (pos 0 ∷ pos 0 ∷ pos 0 ∷ pos 1 ∷ pos 0 ∷ []) ∷ (pos 1 ∷ pos 1 ∷ pos 0 ∷ pos 0 ∷ pos 1 ∷ []) ∷ []) ((pos 0 ∷ pos 0 ∷ pos 1 ∷ pos 1 ∷ negsuc 0 ∷ []) ∷ (pos 0 ∷ pos 0 ∷ negsuc 0 ∷ negsuc 0 ∷ pos 1 ∷ []) ∷ []) ≡ ((pos 0 ∷ pos 0 ∷ pos 1 ∷ pos 0 ∷ []) ∷ (pos 0 ∷ negsuc 0 ∷ negsuc 0 ∷ pos 1 ∷ []) ∷ (pos 0 ∷ pos 1 ∷ pos 1 ∷ negsuc 0 ∷ []) ∷ (negsuc 0 ∷ pos 1 ∷ pos 1 ∷ pos 0 ∷ []) ∷ (negsuc 0 ∷ pos 1 ∷ pos 0 ∷ pos 0 ∷ []) ∷ [])
unfolding solution start_rows blown_step step_fits crossings_fit crossed_fits solved_rows_fit step_fault crossed crossings solved_rows row_gcd gcd gcd_within whole_values bound ratio lowest sum exceeds shared_of scaled_of sum_of again_of bottom_of point_fits dot
image = refl

-- and no step of it is blown
image_whole : image_blown 4 ((pos 1 ∷ pos 1 ∷ pos 1 ∷ pos 0 ∷ pos 0 ∷ []) ∷ (pos 0 ∷ pos 0 ∷ pos 0 ∷ pos 1 ∷ pos 0 ∷ []) ∷ (pos 1 ∷ pos 1 ∷ pos 0 ∷ pos 0 ∷ pos 1 ∷ []) ∷ []) ((pos 0 ∷ pos 0 ∷ pos 1 ∷ pos 1 ∷ negsuc 0 ∷ []) ∷ (pos 0 ∷ pos 0 ∷ negsuc 0 ∷ negsuc 0 ∷ pos 1 ∷ []) ∷ []) ≡ None
unfolding solution start_rows blown_step step_fits crossings_fit crossed_fits solved_rows_fit step_fault crossed crossings solved_rows row_gcd gcd gcd_within whole_values bound ratio lowest sum exceeds shared_of scaled_of sum_of again_of bottom_of point_fits dot
image_whole = refl

-- the join of what is at least 1 and of the numbers from 3 to 5
join : join_left 1 ((negsuc 0 ∷ pos 1 ∷ []) ∷ []) ((negsuc 2 ∷ pos 1 ∷ []) ∷ (pos 5 ∷ negsuc 0 ∷ []) ∷ []) ≡ ((negsuc 2 ∷ pos 4 ∷ []) ∷ (negsuc 0 ∷ pos 1 ∷ []) ∷ [])
unfolding solution start_rows blown_step step_fits crossings_fit crossed_fits solved_rows_fit step_fault crossed crossings solved_rows row_gcd gcd gcd_within whole_values bound ratio lowest sum exceeds shared_of scaled_of sum_of again_of bottom_of point_fits dot
join = refl

-- and no step of it is blown
join_whole : join_blown 1 ((negsuc 0 ∷ pos 1 ∷ []) ∷ []) ((negsuc 2 ∷ pos 1 ∷ []) ∷ (pos 5 ∷ negsuc 0 ∷ []) ∷ []) ≡ None
unfolding solution start_rows blown_step step_fits crossings_fit crossed_fits solved_rows_fit step_fault crossed crossings solved_rows row_gcd gcd gcd_within whole_values bound ratio lowest sum exceeds shared_of scaled_of sum_of again_of bottom_of point_fits dot
join_whole = refl
