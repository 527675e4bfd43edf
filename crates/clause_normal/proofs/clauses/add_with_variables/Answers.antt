use Rattle.std.proofs.Common.{◌<◌, ◌++◌, ℕ, List, sym, ap, subst, arith}
use Rattle.std.specs.List.{AllByRecursion}
use Rattle.prolog_terms.specs.Terms.{tree_of}
use Rattle.clause_normal.specs.OutlineViews.{OutlineIsBelow}
use Rattle.clause_normal.specs.Rules.{after}
use Rattle.clause_variables.specs.Terms.{occurrences}
use Rattle.clause_normal.proofs.FitLemmas.{body_fit}
use Rattle.clause_normal.proofs.clauses.add_with_variables.Goals as goal

pub add_rules-requires-clause-room : goal.add_rules-requires-clause-room
add_rules-requires-clause-room c =
    let body = tree_of c.args.implication.now.body.now in
    let all = c.args.args.now ++ occurrences body in
    omega (arith, ap (after c.args.next) (c.in_ok-outline.ensures.goals c.args.args.now), (body_fit c.args.names.now body c.requires.body.known).few_goals all, c.requires.room)

pub add_rules-requires-clause-args : goal.add_rules-requires-clause-args
add_rules-requires-clause-args c =
    let A : ℕ → Type 0 = λ n. AllByRecursion (λ (x : ℕ). x < n) c.args.args.now in
    subst A (sym c.in_ok-places.ensures.firsts) c.requires.args

pub add_rules-requires-clause-body : goal.add_rules-requires-clause-body
add_rules-requires-clause-body c =
    let A : List ℕ → Type 0 = λ xs. AllByRecursion (λ (x : ℕ). x < c.args.implication.now.vars) xs in
    let B : ℕ → Type 0 = λ n. OutlineIsBelow n c.in_ok-outline.outline in
    let own = subst A (sym c.deref.ensures.value) (c.in_ok-own.ensures.below c.args.implication.now.vars c.requires.body.below) in
    subst B (sym c.in_ok-places.ensures.firsts) (c.in_ok-outline.ensures.below c.args.implication.now.vars own)
