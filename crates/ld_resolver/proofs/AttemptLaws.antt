-- What an attempt at the last choice does.
use Rattle.std.proofs.Common.{◌≡◌, ℕ, ◌+◌, ◌-◌, ◌<◌, ◌≤◌, ◌⊎◌, inl, inr, true, List, ◌∷◌, ◌++◌, map, length, Option, None, Some, option_map, ap, sym, ◌∙◌, subst, arith}
use Rattle.cti_terms.specs.declared.atom_list.Atom.{Atom}
use Rattle.cti_terms.specs.declared.clauses.Clause.{Clause}
use Rattle.cti_terms.specs.declared.derivation.Goal.{Goal}
use Rattle.cti_terms.specs.Arithmetic.{begins_wide}
use Rattle.cti_terms.specs.Listing.{Listing}
use Rattle.cti_terms.specs.Unify.{Binding}
use Rattle.cti_terms.specs.UnifyFunction.{unify}
use Rattle.cti_terms.specs.Resolve.{over, raised, head_equations, answered, resolve}
use Rattle.cti_terms.specs.Answers.{answer_by}
use Rattle.cti_terms.specs.Below.{ArgumentsBelow, AtomsBelow}
use Rattle.ld_resolver.specs.declared.choices.Choice.{Choice}
use Rattle.unifier.specs.Store.{made, full}
use Rattle.unifier.specs.Pending.{Extends, KeepsFree, IsUnified}
use Rattle.ld_resolver.specs.Tails.{tail_at}
use Rattle.unifier.specs.Below.{FreeFrom}
use Rattle.ld_resolver.specs.Walk.{Visit, walk}
use Rattle.ld_resolver.specs.Choices.{kept, goal_of, left, IsChoice, AreChoices}
use Rattle.ld_resolver.specs.Searches.{AreWithin, attempts_at, goal_with, IsTakenAt}
use Rattle.ld_resolver.proofs.SearchLaws.{Agree, left_gone, later_choices, no_node, node, fewer_attempts, resolve_at, same_pred, left_goal, node_free, head_below, goal_below}

-- what the head of the clause is to be unified with
module _ (p : Listing) (s taken : List Binding) (rests : List (List Atom)) (old new : List Choice) (c : Choice) (k : Clause) (all : AreChoices p s rests old) (t : IsTakenAt p s old c k taken new) where
  chosen : IsChoice p s rests c
  chosen = (subst (AreChoices p s rests) t.was all).0

  pub head_free : FreeFrom c.fresh taken
  head_free = subst (FreeFrom c.fresh) (sym t.back) chosen.free

  pub atom_below : ArgumentsBelow c.fresh (over (full taken) (raised c.base c.atom.now)).args
  atom_below = subst (λ (b : List Binding). ArgumentsBelow c.fresh (over (full b) (raised c.base c.atom.now)).args) (sym t.back) chosen.below.0

-- the clause that was taken at a choice is tried: its head binds more, and the rests are the choice's
pub record IsTried (p : Listing) (s taken now : List Binding) (rests rests_now : List (List Atom)) (old new : List Choice) (c : Choice) (k : Clause) : Type 0 where
  pub all : AreChoices p s rests old
  pub clause : IsTakenAt p s old c k taken new
  pub extended : Extends now taken
  pub agree : Agree c.rests rests rests_now
  pub enough : c.rests ≤ length rests → c.rests ≤ length rests_now

module _ {p : Listing} {s taken now : List Binding} {rests rests_now : List (List Atom)} {old new : List Choice} {c : Choice} {k : Clause} (tried : IsTried p s taken now rests rests_now old new c k) where
  e : Extends now (kept s c.mark)
  e = subst (Extends now) tried.clause.back tried.extended

  here : AreChoices p s rests (c ∷ tried.clause.below)
  here = subst (AreChoices p s rests) tried.clause.was tried.all

  long : c.rests ≤ length rests_now
  long = tried.enough here.0.counted

  -- the choices stay choices
  pub taken_choices : AreChoices p now rests_now new
  taken_choices = go tried.clause.is
    where
      later : AreChoices p now rests_now (record c { next = tried.clause.m } ∷ tried.clause.below)
      later = later_choices p s now rests rests_now c tried.clause.below here tried.clause.within tried.clause.m tried.clause.next e tried.agree long

      go : (new ≡ record c { next = tried.clause.m } ∷ tried.clause.below) ⊎ ((new ≡ tried.clause.below) × (length p.clauses < tried.clause.m)) → AreChoices p now rests_now new
      go (inl same) = subst (AreChoices p now rests_now) (sym same) later
      go (inr gone) = subst (AreChoices p now rests_now) (sym gone.0) later.2

  pub taken_fewer : attempts_at p new < attempts_at p old
  taken_fewer = go tried.clause.is
    where
      less : attempts_at p (record c { next = tried.clause.m } ∷ tried.clause.below) < attempts_at p (c ∷ tried.clause.below)
      less = fewer_attempts p s now rests rests_now c tried.clause.below here tried.clause.within tried.clause.m tried.clause.next e tried.agree long

      go : (new ≡ record c { next = tried.clause.m } ∷ tried.clause.below) ⊎ ((new ≡ tried.clause.below) × (length p.clauses < tried.clause.m)) → attempts_at p new < attempts_at p old
      go (inl same) = omega (arith, less, ap (attempts_at p) tried.clause.was, ap (attempts_at p) same)
      go (inr gone) = omega (arith, less, ap (attempts_at p) tried.clause.was, ap (attempts_at p) gone.0)

  -- a choice that is gone has nothing left
  same_left : (q : List Atom) (n : ℕ) → left p q n now rests_now (record c { next = tried.clause.m } ∷ tried.clause.below) ≡ left p q n now rests_now new
  same_left q n = go tried.clause.is
    where
      go : (new ≡ record c { next = tried.clause.m } ∷ tried.clause.below) ⊎ ((new ≡ tried.clause.below) × (length p.clauses < tried.clause.m)) → left p q n now rests_now (record c { next = tried.clause.m } ∷ tried.clause.below) ≡ left p q n now rests_now new
      go (inl same) = ap (left p q n now rests_now) (sym same)
      go (inr gone) = left_gone p q n now rests_now (record c { next = tried.clause.m }) tried.clause.below gone.1 ∙ ap (left p q n now rests_now) (sym gone.0)

  -- no more steps lead to the choices
  pub taken_within : (d : ℕ) → AreWithin d old → AreWithin d new
  taken_within d within = go tried.clause.is
    where
      all_old : AreWithin d (c ∷ tried.clause.below)
      all_old = subst (AreWithin d) tried.clause.was within

      go : (new ≡ record c { next = tried.clause.m } ∷ tried.clause.below) ⊎ ((new ≡ tried.clause.below) × (length p.clauses < tried.clause.m)) → AreWithin d new
      go (inl same) = subst (AreWithin d) (sym same) (all_old.0, all_old.1)
      go (inr gone) = subst (AreWithin d) (sym gone.0) all_old.1

  pub taken_depth : (d : ℕ) → AreWithin d old → c.depth ≤ d
  taken_depth d within = (subst (AreWithin d) tried.clause.was within).0

  resolves : (o : Option (List Binding)) → unify (head_equations (over (full (kept s c.mark)) (raised c.base c.atom.now)) c.fresh k) ≡ o → resolve p (goal_of s rests c) c.next ≡ option_map (answered (map (over (full (kept s c.mark))) (tail_at rests c.rest)) c.fresh k) o
  resolves o u =
      resolve_at p (over (full (kept s c.mark)) (raised c.base c.atom.now)) (map (over (full (kept s c.mark))) (tail_at rests c.rest)) c.fresh c.next k tried.clause.first tried.clause.there
      ∙ same_pred (over (full (kept s c.mark)) (raised c.base c.atom.now)) (map (over (full (kept s c.mark))) (tail_at rests c.rest)) c.fresh k tried.clause.pred
      ∙ ap (option_map (answered (map (over (full (kept s c.mark))) (tail_at rests c.rest)) c.fresh k)) u

  -- no goal is left
  pub taken_failed : unify (head_equations (over (full taken) (raised c.base c.atom.now)) c.fresh k) ≡ None → (q : List Atom) (n : ℕ) → left p q n s rests old ≡ left p q n now rests_now new
  taken_failed u q n =
      let none = resolves None (subst (λ (b : List Binding). unify (head_equations (over (full b) (raised c.base c.atom.now)) c.fresh k) ≡ None) tried.clause.back u) in
      ap (left p q n s rests) tried.clause.was ∙ no_node p s now rests rests_now c tried.clause.below here tried.clause.within tried.clause.m tried.clause.next e tried.agree long q n none ∙ same_left q n

  -- a goal is left
  module _ (unified : IsUnified (made taken) (head_equations (over (full taken) (raised c.base c.atom.now)) c.fresh k) (made now) true) where
    u : IsUnified (made (kept s c.mark)) (head_equations (over (full (kept s c.mark)) (raised c.base c.atom.now)) c.fresh k) (made now) true
    u = subst (λ (b : List Binding). IsUnified (made b) (head_equations (over (full b) (raised c.base c.atom.now)) c.fresh k) (made now) true) tried.clause.back unified

    abbrev pub left_by_node : Goal
    left_by_node = goal_with now (map (raised c.fresh) k.body) (tail_at rests_now c.rest) (c.fresh + k.vars)

    same_goal : goal_with now (map (raised c.fresh) k.body) (tail_at rests c.rest) (c.fresh + k.vars) ≡ left_by_node
    same_goal = ap (λ (xs : List Atom). goal_with now (map (raised c.fresh) k.body) xs (c.fresh + k.vars)) (sym (tried.agree c.rest here.0.rest))

    found : resolve p (goal_of s rests c) c.next ≡ Some (u.0, left_by_node)
    found =
        resolves (Some u.0) u.1
        ∙ ap (λ (g : Goal). Some (u.0, g)) (left_goal (kept s c.mark) now u.0 (tail_at rests c.rest) c.fresh k u.2 here.0.free ∙ same_goal)

    pub taken_met : (q : List Atom) (n : ℕ) → left p q n s rests old ≡ (record { steps = c.depth + 1; answer = answer_by q (made now) left_by_node.atoms; wide = begins_wide p.arithmetic left_by_node.atoms } ∷ walk p q (n - c.depth) (made now) (c.depth + 1) left_by_node) ++ left p q n now rests_now new
    taken_met q n =
        ap (left p q n s rests) tried.clause.was
        ∙ node p s now rests rests_now c tried.clause.below here tried.clause.within tried.clause.m tried.clause.next e tried.agree long q n u.0 left_by_node found u.2
        ∙ ap (λ (vs : List Visit). (record { steps = c.depth + 1; answer = answer_by q (made now) left_by_node.atoms; wide = begins_wide p.arithmetic left_by_node.atoms } ∷ walk p q (n - c.depth) (made now) (c.depth + 1) left_by_node) ++ vs) (same_left q n)

    pub taken_rest : c.rest ≤ length rests_now
    taken_rest = let r = here.0.rest in omega (arith, r, long)

    pub taken_free : KeepsFree (head_equations (over (full taken) (raised c.base c.atom.now)) c.fresh k) taken now → FreeFrom (c.fresh + k.vars) now
    taken_free keeps =
        node_free (kept s c.mark) now (head_equations (over (full (kept s c.mark)) (raised c.base c.atom.now)) c.fresh k) c.fresh (c.fresh + k.vars) (omega arith) here.0.free
        (head_below (over (full (kept s c.mark)) (raised c.base c.atom.now)) c.fresh k here.0.below.0 tried.clause.clause.head.below)
        (subst (λ (b : List Binding). KeepsFree (head_equations (over (full b) (raised c.base c.atom.now)) c.fresh k) b now) tried.clause.back keeps)

    pub taken_below : AtomsBelow (c.fresh + k.vars) left_by_node.atoms
    taken_below =
        subst (λ (g : Goal). AtomsBelow (c.fresh + k.vars) g.atoms) same_goal
        (goal_below p.preds (kept s c.mark) now u.0 (raised c.base c.atom.now) (tail_at rests c.rest) c.fresh k u.2 here.0.free u.1 here.0.below tried.clause.clause)
