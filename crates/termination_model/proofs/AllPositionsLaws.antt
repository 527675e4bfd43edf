-- The full set of positions.
use Rattle.std.proofs.Common.{◌≡◌, ℕ, zero, suc, ◌+◌, ◌<◌, ◌≤◌, true, List, [], ◌∷◌, map, length, drop, nat_eq, inl, inr, refl, ap, sym, subst, arith, eq-eqb}
use Rattle.std.specs.List.{list_any}
use Rattle.std.proofs.lemmas.Bool.{cases_eq, or_left, or_right}
use Rattle.linear_rows.specs.Members.{In}
use Rattle.linear_rows.proofs.Members.{in-left, in-right, in-map}
use Rattle.linear_rows.specs.Step.{columns}
use Rattle.termination_model.specs.mappings.AllPositions.{AllArePicked, PositionsCoverPairs}
use Rattle.termination_model.specs.mappings.OwnCalls.{Position}
use Rattle.termination_model.specs.mappings.Ready.{positions_by}
use Rattle.termination_model.specs.mappings.Supports.{picked_from}

-- ---- picking
any_column : (k n j : ℕ) → k ≤ j → j < k + n → list_any (λ x. nat_eq j x) (columns k n) ≡ true
any_column k zero j l h = absurd (omega arith)
any_column k (suc n) j l h = elim (cases_eq j k) [
  | inl same ↦ or_left (nat_eq j k) _ (eq-eqb j k same)
  | inr other ↦ or_right (nat_eq j k) _ (any_column (suc k) n j (omega arith) (omega arith))
]

all_picked : (s : List ℕ) (i : ℕ) (ps : List Position) → ((j : ℕ) → i ≤ j → j < i + length ps → list_any (λ x. nat_eq j x) s ≡ true) → picked_from i ps s ≡ ps
all_picked s i [] h = refl
all_picked s i (p ∷ ps) h =
    let t = h i (omega arith) (omega arith) in
    let r = all_picked s (suc i) ps (λ j l u. h j (omega arith) (omega arith)) in
    rw t (ap (λ (xs : List Position). p ∷ xs) r)

pub all_are_picked : AllArePicked
all_are_picked positions = all_picked (columns 1 (length positions)) 1 positions (λ j l h. any_column 1 (length positions) j l h)

-- ---- covering
in_columns : (k n j : ℕ) → k ≤ j → j < k + n → In j (columns k n)
in_columns k zero j l h = absurd (omega arith)
in_columns k (suc n) j l h = elim (cases_eq k j) [
  | inl same ↦ inl same
  | inr other ↦ inr (in_columns (suc k) n j (omega arith) (omega arith))
]

position_there : (arity : ℕ → ℕ) (qs : List ℕ) (q a : ℕ) → In q qs → a < arity q → In (q, a) (positions_by arity qs)
position_there arity [] q a h l = h
position_there arity (r ∷ qs) q a (inl same) l =
    let lt : a < arity r = subst (λ (x : ℕ). a < arity x) (sym same) l in
    in-left (map (λ a. (r, a)) (columns 0 (arity r))) (positions_by arity qs) (q, a)
    (subst (λ (x : ℕ). In {X = Position} (x, a) (map (λ a. (r, a)) (columns 0 (arity r)))) same
    (in-map (λ (a : ℕ). (r, a)) (columns 0 (arity r)) a (in_columns 0 (arity r) a (omega arith) (omega (arith, lt)))))
position_there arity (r ∷ qs) q a (inr h) l = in-right (map (λ a. (r, a)) (columns 0 (arity r))) (positions_by arity qs) (q, a) (position_there arity qs q a h l)

pub positions_cover_pairs : PositionsCoverPairs
positions_cover_pairs arity members [] vs h = tt
positions_cover_pairs arity members (o ∷ os) [] h = tt
positions_cover_pairs arity members (o ∷ os) (t ∷ vs) h =
    let one = h o (inl refl) in (
      (
        λ a l. position_there arity members o.rule.member a one.1 (omega (arith, one.0.0, l)),
        λ a l. position_there arity members o.member a one.2 (omega (arith, one.0.1, l)),
      ),
      positions_cover_pairs arity members os (drop o.rule.vars vs) (λ x i. h x (inr i)),
    )
