use Rattle.std.proofs.Common.{◌≡◌, ◌<◌, ◌≤◌, ◌+◌, ◌++◌, ◌∙◌, ◌||◌, ℕ, List, Bool, nat_lt, slice_index, length, sym, ap, refl, subst}
use Rattle.std.specs.List.{AllByRecursion, filter}
use Rattle.std.proofs.lemmas.Bool.{lt-ltb, le-ltb}
use Rattle.clause_normal.specs.declared.fault.NormKind.TheVariants as kind
use Rattle.clause_normal.specs.Bodies.{Branches, arguments, bad, choice, choice_goal}
use Rattle.clause_normal.specs.OutlineViews.{branches_in}
use Rattle.clause_variables.specs.Terms.{firsts}
use Rattle.clause_variables.proofs.OccurringLemmas.{firsts_outside}
use Rattle.clause_variables.proofs.OrderLemmas.{all_firsts, all_filter}
use Rattle.clause_normal.proofs.body.choice_goal.Goals as goal

-- few arguments, and many
small : (at : ℕ) (args : List ℕ) (branches : List ℕ → Branches) → length args ≤ 12 → choice args (branches args) ≡ choice_goal at args branches
small at args branches h = let e = le-ltb 12 (length args) h in rw e refl

large : (at : ℕ) (args : List ℕ) (branches : List ℕ → Branches) → 12 < length args → bad kind.Arity at ≡ choice_goal at args branches
large at args branches h = let e = lt-ltb 12 (length args) h in rw e refl

pub returns-in-Some-clause-goal : goal.returns-in-Some-clause-goal
returns-in-Some-clause-goal c = λ earlier later n k.
    let own = c.args.own.now in
    let fs = c.args.places.now.firsts.items in
    let es = c.args.places.now.ends.items in
    let outside : ℕ → List ℕ = λ m. firsts (filter (λ x. nat_lt (slice_index fs x) m || nat_lt (m + length own) (slice_index es x)) own) in
    let h = rw c.in-Some.is at c.in_ok-args.ensures in
    let same : c.in-Some.args.items ≡ arguments (earlier ++ (own ++ later)) own =
    h.0 ∙ ap outside (sym n) ∙ firsts_outside earlier own later c.args.places.now k in
    let branches : List ℕ → Branches = branches_in c.args.branches.now.items in
    small c.args.at c.in-Some.args.items branches h.1 ∙ ap (λ (xs : List ℕ). choice_goal c.args.at xs branches) same

pub returns-in-Some-clause-below : goal.returns-in-Some-clause-below
returns-in-Some-clause-below c = λ os.
    let vars = length c.args.places.now.firsts.items in
    let P : ℕ → Type 0 = λ x. x < vars in
    let Q : List ℕ → Type 0 = λ xs. AllByRecursion P xs in
    let end = c.args.start + length c.args.own.now in
    let p : ℕ → Bool = λ x. nat_lt (slice_index c.args.places.now.firsts.items x) c.args.start || nat_lt end (slice_index c.args.places.now.ends.items x) in
    let h = rw c.in-Some.is at c.in_ok-args.ensures in
    (subst Q (sym h.0) (all_firsts P (filter p c.args.own.now) (all_filter P p c.args.own.now c.requires.below)), os)

pub returns-in-None-clause-goal : goal.returns-in-None-clause-goal
returns-in-None-clause-goal c = λ earlier later n k.
    let own = c.args.own.now in
    let fs = c.args.places.now.firsts.items in
    let es = c.args.places.now.ends.items in
    let outside : ℕ → List ℕ = λ m. firsts (filter (λ x. nat_lt (slice_index fs x) m || nat_lt (m + length own) (slice_index es x)) own) in
    let h = rw c.in-None.is at c.in_ok-args.ensures in
    let same : outside c.args.start ≡ arguments (earlier ++ (own ++ later)) own =
    ap outside (sym n) ∙ firsts_outside earlier own later c.args.places.now k in
    let branches : List ℕ → Branches = branches_in c.args.branches.now.items in
    large c.args.at (outside c.args.start) branches h ∙ ap (λ (xs : List ℕ). choice_goal c.args.at xs branches) same
