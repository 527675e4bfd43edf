-- A template that is refuted excludes the turns with its marks.
use Rattle.std.proofs.Common.{◌≡◌, ℕ, zero, suc, ◌+◌, ◌*◌, ◌≤◌, ◌==◌, ℤ, pos, neg_ℤ, ◌+ℤ◌, ◌*ℤ◌, ◌≤ℤ◌, Bool, true, false, if◌then◌else◌, ◌⊎◌, List, [], ◌∷◌, map, length, inl, inr, refl, ap, sym, ◌∙◌, arith}
use Rattle.std.specs.List.{AllByRecursion}
use Rattle.std.proofs.lemmas.Int.{ints}
use Rattle.exact128.specs.Sums.{dot, entry}
use Rattle.linear_rows.specs.Members.{In}
use Rattle.linear_rows.specs.Proves.{Refutes}
use Rattle.termination_model.specs.claims.Claims.{SomeOf}
use Rattle.termination_model.specs.columns.ColumnClaims.{Mapping}
use Rattle.termination_model.specs.mappings.Refutation.{Load, gather}
use Rattle.transitions.specs.StuckSets.{Feature, values_at, Point, head_share, gain, share, Lacks, HasPoint, IsAt, IsWithin, number_of}
use Rattle.transitions.specs.TemplateLaws.{number_count, Pointed, pointed, IsPointed, feature_value, feature_sum, least_sum, IsBalanced}
use Rattle.transitions.specs.Templates.{Target, template_rows, unknown_count}
use Rattle.transitions.specs.Transitions.{Transition, head_level, fall, HoldsThere}
use Rattle.transitions.specs.Turns.{fall_target, level_target, targets, HasWidths, IsTurn, RefutedMarksExclude}
use Rattle.transitions.proofs.StuckLaws.{summed, entries, head_load, call_load, weights, level_at, head_at, call_at, Stays, balanced_sum, dot_apart, gather_entry, negated_if, head_value, lacking, dot_turned}
use Rattle.transitions.proofs.StuckLaws.{fall_value as level_falls}
use Rattle.transitions.proofs.TemplateRefuted.{refutations_balance}
use Rattle.transitions.proofs.TurnPoints.{all_features}
use Rattle.transitions.proofs.TurnRefuted.{place_of, point_of, fall_value, level_value, targets_are, at_of, all_there, some_in}

-- what the points of targets say of heads and calls
abbrev pair_loads : List Transition → List Bool → List Pointed → List Load
pair_loads [] bs ps = []
pair_loads (τ ∷ τs) [] [] = []
pair_loads (τ ∷ τs) [] (p ∷ ps) = head_load (point_of τ p) ∷ (call_load (point_of τ p) ∷ pair_loads τs [] ps)
pair_loads (τ ∷ τs) (false ∷ bs) [] = []
pair_loads (τ ∷ τs) (false ∷ bs) (p ∷ ps) = head_load (point_of τ p) ∷ (call_load (point_of τ p) ∷ pair_loads τs bs ps)
pair_loads (τ ∷ τs) (true ∷ bs) [] = []
pair_loads (τ ∷ τs) (true ∷ bs) (p ∷ []) = []
pair_loads (τ ∷ τs) (true ∷ bs) (p ∷ (h ∷ ps)) = head_load (point_of τ p) ∷ (call_load (point_of τ p) ∷ (head_load (point_of τ h) ∷ pair_loads τs bs ps))

module _ (fs : List Feature) (q i j : ℕ) (at : (g : Feature → ℤ) → entry (map g fs) j ≡ g (q, i)) where
  gain_is : (least : ℕ) (τ : Transition) (p : Pointed) → p.target ≡ fall_target fs least τ
      → feature_value j p ≡ entries q i (head_load (point_of τ p) ∷ (call_load (point_of τ p) ∷ []))
  gain_is least τ p e =
      let own = fall_value fs (q, i) j at least τ p e in
      let turned = negated_if (τ.call == q) (values_at τ.call_columns p.t p.w) i in
      own ∙ omega (arith, ints, turned)

  level_is : (τ : Transition) (h : Pointed) → h.target ≡ level_target fs τ → feature_value j h ≡ entries q i (head_load (point_of τ h) ∷ [])
  level_is τ h e = let own = level_value fs (q, i) j at τ h e in own ∙ omega (arith, ints)

  sums_are : (τs : List Transition) (bs : List Bool) (ps : List Pointed) → map (λ (p : Pointed). p.target) ps ≡ targets fs τs bs → feature_sum j ps ≡ entries q i (pair_loads τs bs ps)
  sums_are [] bs [] e = refl
  sums_are [] bs (p ∷ ps) e = absurd (cc)
  sums_are (τ ∷ τs) [] [] e = absurd (cc)
  sums_are (τ ∷ τs) [] (p ∷ ps) e = let here = gain_is 0 τ p (cc) in let rest = sums_are τs [] ps (cc) in omega (arith, ints, here, rest)
  sums_are (τ ∷ τs) (false ∷ bs) [] e = absurd (cc)
  sums_are (τ ∷ τs) (false ∷ bs) (p ∷ ps) e = let here = gain_is 0 τ p (cc) in let rest = sums_are τs bs ps (cc) in omega (arith, ints, here, rest)
  sums_are (τ ∷ τs) (true ∷ bs) [] e = absurd (cc)
  sums_are (τ ∷ τs) (true ∷ bs) (p ∷ []) e = absurd (cc)
  sums_are (τ ∷ τs) (true ∷ bs) (p ∷ (h ∷ ps)) e =
      let here = gain_is 1 τ p (cc) in
      let level = level_is τ h (cc) in
      let rest = sums_are τs bs ps (cc) in
      omega (arith, ints, here, level, rest)

module _ (fs : List Feature) (l : Mapping) where
  -- at the point of a transition the level falls by so many times t
  falls_at : (least : ℕ) (τ : Transition) (p : Pointed) → p.target ≡ fall_target fs least τ → HasPoint τ → HoldsThere τ (fall τ least l) → IsPointed p
      → pos (p.target.least * p.t) ≤ℤ (dot (weights l τ.head) (values_at τ.head_columns p.t p.w) +ℤ dot (weights l τ.call) (map neg_ℤ (values_at τ.call_columns p.t p.w)))
  falls_at least τ p e point on is =
      let own = level_falls τ point least l on p.t p.w (at_of τ p (ap (λ (g : Target). g.vars) e) (ap (λ (g : Target). g.rows) e) is) in
      let turned = dot_turned (weights l τ.call) (values_at τ.call_columns p.t p.w) in
      let much : pos (p.target.least * p.t) ≡ pos least *ℤ pos p.t = ap (λ (g : Target). pos (g.least * p.t)) e in
      omega (arith, ints, own, turned, much)

  positive_at : (τ : Transition) (h : Pointed) → h.target ≡ level_target fs τ → HasPoint τ → HoldsThere τ (head_level τ l) → IsPointed h
      → pos (h.target.least * h.t) ≤ℤ dot (weights l τ.head) (values_at τ.head_columns h.t h.w)
  positive_at τ h e point on is =
      let own = head_value τ point l on h.t h.w (at_of τ h (ap (λ (g : Target). g.vars) e) (ap (λ (g : Target). g.rows) e) is) in
      let none : h.target.least * h.t ≡ 0 * h.t = ap (λ (g : Target). g.least * h.t) e in
      omega (arith, ints, own, none)

  sum_falls : (τs : List Transition) (bs : List Bool) (ps : List Pointed) → map (λ (p : Pointed). p.target) ps ≡ targets fs τs bs → AllByRecursion HasPoint τs → IsTurn τs l bs → AllByRecursion IsPointed ps
      → pos (least_sum ps) ≤ℤ summed (weights l) (pair_loads τs bs ps)
  sum_falls [] bs [] e points turn is = omega (arith, ints)
  sum_falls [] bs (p ∷ ps) e points turn is = absurd (cc)
  sum_falls (τ ∷ τs) [] [] e points turn is = absurd (cc)
  sum_falls (τ ∷ τs) [] (p ∷ ps) e points turn is =
      let here = falls_at 0 τ p (cc) points.0 turn.0 is.0 in let rest = sum_falls τs [] ps (cc) points.1 turn.1 is.1 in omega (arith, ints, here, rest)
  sum_falls (τ ∷ τs) (false ∷ bs) [] e points turn is = absurd (cc)
  sum_falls (τ ∷ τs) (false ∷ bs) (p ∷ ps) e points turn is =
      let here = falls_at 0 τ p (cc) points.0 turn.0 is.0 in let rest = sum_falls τs bs ps (cc) points.1 turn.1 is.1 in omega (arith, ints, here, rest)
  sum_falls (τ ∷ τs) (true ∷ bs) [] e points turn is = absurd (cc)
  sum_falls (τ ∷ τs) (true ∷ bs) (p ∷ []) e points turn is = absurd (cc)
  sum_falls (τ ∷ τs) (true ∷ bs) (p ∷ (h ∷ ps)) e points turn is =
      let here = falls_at 1 τ p (cc) points.0 turn.0 is.0 in
      let level = positive_at τ h (cc) points.0 turn.1 is.1.0 in
      let rest = sum_falls τs bs ps (cc) points.1 turn.2 is.1.1 in
      omega (arith, ints, here, level, rest)

  all_stay : (τs : List Transition) (bs : List Bool) → IsTurn τs l bs → AllByRecursion (Stays l) τs
  all_stay [] bs turn = tt
  all_stay (τ ∷ τs) [] turn = ((0, turn.0), all_stay τs [] turn.1)
  all_stay (τ ∷ τs) (false ∷ bs) turn = ((0, turn.0), all_stay τs bs turn.1)
  all_stay (τ ∷ τs) (true ∷ bs) turn = ((1, turn.0), all_stay τs bs turn.2)

pub refuted_marks_exclude : RefutedMarksExclude
refuted_marks_exclude width fs test τs marks vs l has points long refutes picked within turn =
    let gs = targets fs τs marks in
    let is = refutations_balance (length fs) gs vs (all_features width fs τs marks has) long refutes in
    let ps = pointed gs vs in
    let are = targets_are gs vs long in
    let falls = sum_falls fs l τs marks ps are points turn is.points in
    let none = balanced_sum (weights l) (pair_loads τs marks ps) (λ q. dot_apart (weights l q) (gather q (pair_loads τs marks ps)) (λ j. apart q j are is)) in
    let some = is.some in
    omega (arith, ints, falls, none, some)
  where
    stay : AllByRecursion (Stays l) τs
    stay = all_stay fs l τs marks turn

    apart : (q j : ℕ) → map (λ (p : Pointed). p.target) (pointed (targets fs τs marks) vs) ≡ targets fs τs marks → IsBalanced (pointed (targets fs τs marks) vs)
        → (entry (weights l q) j ≡ pos 0) ⊎ (entry (gather q (pair_loads τs marks (pointed (targets fs τs marks) vs))) j ≡ pos 0)
    apart q j are is = go (test (q, j)) refl
      where
        one : In (q, j) fs ⊎ SomeOf (λ (τ : Transition). Lacks τ (q, j)) τs → (entry (weights l q) j ≡ pos 0) ⊎ (entry (gather q (pair_loads τs marks (pointed (targets fs τs marks) vs))) j ≡ pos 0)
        one (inr s) = let found = some_in (q, j) τs s in inl (lacking l found.0 (q, j) (all_there HasPoint τs points found.0 found.1) (all_there (Stays l) τs stay found.0 found.1) found.2)
        one (inl i) =
            let place = place_of fs (q, j) i in
            let sum = sums_are fs q j place.0 place.1 τs marks (pointed (targets fs τs marks) vs) are in
            let zero_sum = is.features place.0 in
            inr (gather_entry q j (pair_loads τs marks (pointed (targets fs τs marks) vs)) ∙ sym sum ∙ zero_sum)

        go : (b : Bool) → test (q, j) ≡ b → (entry (weights l q) j ≡ pos 0) ⊎ (entry (gather q (pair_loads τs marks (pointed (targets fs τs marks) vs))) j ≡ pos 0)
        go false e = inl (within (q, j) e)
        go true e = one (picked (q, j) e)
