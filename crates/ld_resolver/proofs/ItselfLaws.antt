-- Laws of goals whose first atom is built in: how they are entered, and what an attempt at them does.
use Rattle.std.proofs.Common.{◌≡◌, ℕ, zero, suc, ◌+◌, ◌-◌, ◌<◌, ◌≤◌, true, false, ◌||◌, ℤ, inl, inr, List, [], ◌∷◌, ◌++◌, map, length, slice_get, Option, None, Some, option_map, ap, sym, ◌∙◌, subst, arith}
use Rattle.std.proofs.lemmas.Bool.{or_cases}
use Rattle.std.specs.List.{range_with_len}
use Rattle.cti_terms.specs.Tree.{Tree, Integer, instance}
use Rattle.cti_terms.specs.declared.syntax.Term.{Term}
use Rattle.cti_terms.specs.Spell.{tree_of}
use Rattle.cti_terms.specs.Arithmetic.{kind_of, passes, begins_wide}
use Rattle.cti_terms.specs.declared.atom_list.Atom.{Atom}
use Rattle.cti_terms.specs.declared.builtins.Builtin.{Builtin}
use Rattle.cti_terms.specs.declared.derivation.Goal.{Goal}
use Rattle.cti_terms.specs.Listing.{IsProgram, Listing}
use Rattle.cti_terms.specs.Answers.{answer_by}
use Rattle.cti_terms.specs.Unify.{Binding, occurs, applied}
use Rattle.cti_terms.specs.UnifyFunction.{unify}
use Rattle.cti_terms.specs.Resolve.{over, passed, resolve}
use Rattle.cti_terms.specs.Below.{ArgumentsBelow, AtomsBelow}
use Rattle.cti_terms.proofs.Bounds.{zero_alone}
use Rattle.cti_terms.proofs.UnifyLaws.{AllBelow, unify_finds}
use Rattle.ld_resolver.specs.declared.choices.Choice.{Choice}
use Rattle.ld_resolver.specs.declared.search.Entered.{Entered}
use Rattle.ld_resolver.specs.declared.search.Entered.TheVariants.{Empty, Open, Wide}
use Rattle.ld_resolver.specs.declared.search.Search.{Search}
use Rattle.ld_resolver.specs.declared.search.Taken.TheVariants.{ByItself}
use Rattle.ld_resolver.specs.BuiltinAtoms.{value_equations, IsInteger}
use Rattle.unifier.specs.Raised.{raise}
use Rattle.unifier.specs.Store.{made, full}
use Rattle.unifier.specs.Pending.{Extends, KeepsFree, IsUnified}
use Rattle.ld_resolver.specs.Tails.{tail_at}
use Rattle.unifier.specs.Below.{FreeFrom}
use Rattle.ld_resolver.specs.Walk.{entered, walk_by, walk}
use Rattle.ld_resolver.specs.Choices.{kept, goal_from, goal_of, left, value_of, args_of, GoesByItself, IsChoice, AreChoices}
use Rattle.ld_resolver.specs.Searches.{AreWithin, IsEntered, IsTaken, attempts_at, goal_with, left_of}
use Rattle.unifier.proofs.BelowLaws.{applied_below, atoms_over}
use Rattle.ld_resolver.proofs.BuiltinChoices.{left_by_itself}
use Rattle.unifier.proofs.PendingLaws.{full_integer}
use Rattle.ld_resolver.proofs.SearchLaws.{Agree, Stay, left_stays, stay_through, choices_through, met_by_none, atoms_twice, node_free}

-- ---- a goal that is entered

-- a built-in atom that fails leaves nothing to be walked
pub walk_fails : (p : Listing) (prog : IsProgram p) (q : List Atom) (d : ℕ) (bs : List Binding) (l : ℕ) (s : List Binding) (n : ℕ) (a : Atom) (rest : List Atom) (b : Builtin) → kind_of p.arithmetic a.pred.0 ≡ Some b → passes p.arithmetic (over (full s) a) ≡ None → walk p q (suc d) bs l (goal_from s n a rest) ≡ []
walk_fails p prog q d bs l s n a rest b built none =
    ap (λ k. walk_by p q (walk p q d) bs l (goal_from s n a rest) (range_with_len 0 k)) (let e : suc (length p.clauses) ≡ suc (length p.clauses) - 0 = omega arith in e)
    ∙ met_by_none p q (walk p q d) bs l (goal_from s n a rest) 0 (suc (length p.clauses)) (suc (length p.clauses)) (omega arith) (omega arith) (λ j low high. by_number j)
    ∙ ap (λ k. walk_by p q (walk p q d) bs l (goal_from s n a rest) (range_with_len (suc (length p.clauses)) k)) (let e : suc (length p.clauses) - suc (length p.clauses) ≡ 0 = omega arith in e)
  where
    by_number : (j : ℕ) → resolve p (goal_from s n a rest) j ≡ None
    by_number zero = ap (option_map (passed (map (over (full s)) rest) n)) none
    by_number (suc i) = zero_alone p (over (full s) a) (map (over (full s)) rest) n i b prog built

-- the goal of atoms and a rest that begin with an atom
pub start_is : (s : List Binding) (atoms rest : List Atom) (n : ℕ) (a : Atom) (after : List Atom) → atoms ++ rest ≡ a ∷ after → goal_with s atoms rest n ≡ goal_from s n a after
start_is s atoms rest n a after e = λ i. record { atoms = map (over (full s)) (e i); fresh = n }

-- a search with more rests enters a goal as it does
pub entered_grown : (x y new : Search) (l : ℕ) (g h : Goal) → ((q : List Atom) (n : ℕ) → left_of q n x ≡ left_of q n y) → y.program.now ≡ x.program.now → y.bindings ≡ x.bindings → g ≡ h → (e : Entered) → IsEntered y l h e new → IsEntered x l g e new
entered_grown x y new l g h lefts program bindings same Empty e = (ap (λ (k : Goal). k.atoms) same ∙ e.0, λ q n. lefts q n ∙ e.1 q n)
entered_grown x y new l g h lefts program bindings same Open e = (
  λ q bs. ap (λ (k : Goal). answer_by q bs k.atoms) same ∙ e.0 q bs,
  λ q n. (λ i. walk (sym program i) q (suc (n - l)) (made (sym bindings i)) l (same i) ++ lefts q n i) ∙ e.1 q n,
  (λ i. begins_wide (sym program i).arithmetic (same i).atoms) ∙ e.2,
)
entered_grown x y new l g h lefts program bindings same Wide e = (λ q bs. ap (λ (k : Goal). answer_by q bs k.atoms) same ∙ e.0 q bs, (λ i. begins_wide (sym program i).arithmetic (same i).atoms) ∙ e.1)

-- ---- the equation of a value

-- the first argument of a raised atom under the bindings
pub first_argument : (s : List Binding) (c : Choice) (ts : List Term) (t : Term) → map tree_of ts ≡ c.atom.now.args → Some t ≡ slice_get ts 0 → (others : List Tree) × (args_of s c ≡ full s (instance (raise c.base) (tree_of t)) ∷ others)
first_argument s c [] t e h = cc
first_argument s c (u ∷ ts) t e h = (
  map (full s) (map (instance (raise c.base)) (map tree_of ts)),
  ap (λ (l : List Tree). map (full s) (map (instance (raise c.base)) l)) (sym e)
      ∙ ap (λ (v : Term). full s (instance (raise c.base) (tree_of v)) ∷ map (full s) (map (instance (raise c.base)) (map tree_of ts))) (same u t h),
)
  where
    same : (x y : Term) → Some y ≡ Some x → x ≡ y
    same x y e = cc

-- an integer stays what it is
fixed : (s : List Binding) (v : Tree) (n : ℤ) → v ≡ Integer n → full s (instance (raise 0) v) ≡ v
fixed s v n e = ap (λ (t : Tree). full s (instance (raise 0) t)) e ∙ full_integer s n ∙ sym e

-- the equation of a first argument with a value
pub one_equation : (s : List Binding) (c : Choice) (ts : List Term) (t v : Term) → map tree_of ts ≡ c.atom.now.args → Some t ≡ slice_get ts 0 → value_of c ≡ Some (tree_of v) → IsInteger (value_of c) → (full s (instance (raise c.base) (tree_of t)), full s (instance (raise 0) (tree_of v))) ∷ [] ≡ value_equations (value_of c) (args_of s c)
one_equation s c ts t v e h is integer =
    let first = first_argument s c ts t e h in
    let n = subst IsInteger is integer in
    (λ i. (full s (instance (raise c.base) (tree_of t)), fixed s (tree_of v) n.0 n.1 i) ∷ [])
    ∙ (λ i. value_equations (sym is i) (sym first.1 i))

-- ---- an attempt

-- the equations of a value are below a counter
value_below : (n : ℕ) (v : Option Tree) (ts : List Tree) → IsInteger v → ArgumentsBelow n ts → AllBelow n (value_equations v ts)
value_below n None ts i h y o = cc
value_below n (Some v) [] i h y o = cc
value_below n (Some v) (t ∷ ts) i h y o = elim (or_cases (occurs y t || occurs y v) false o) [
  | inl l ↦ elim (or_cases (occurs y t) (occurs y v) l) [
    | inl a ↦ h.0 y a
    | inr b ↦ absurd (none i.0 (sym (ap (occurs y) i.1) ∙ b))
  ]
  | inr r ↦ absurd (off r)
]
  where
    off : false ≡ true → ⊥
    off e = cc

    none : (m : ℤ) → occurs y (Integer m) ≡ true → ⊥
    none m e = off e

-- what is to be unified at a choice whose atom is built in
module _ (p : Listing) (s taken : List Binding) (rests : List (List Atom)) (old new : List Choice) (c : Choice) (all : AreChoices p s rests old) (t : IsTaken p s old (ByItself c) taken new) where
  chosen : IsChoice p s rests c
  chosen = (subst (AreChoices p s rests) t.2 all).0

  pub itself_goes : GoesByItself p.arithmetic (kept s c.mark) c
  itself_goes = chosen.itself t.1

  pub itself_args : ArgumentsBelow c.fresh (args_of taken c)
  itself_args = subst (λ (b : List Binding). ArgumentsBelow c.fresh (args_of b c)) (sym t.3) chosen.below.0

-- the choice is tried by itself: its value binds more, and the rests are the choice's
pub record IsTriedByItself (p : Listing) (s taken now : List Binding) (rests rests_now : List (List Atom)) (old new : List Choice) (c : Choice) : Type 0 where
  pub all : AreChoices p s rests old
  pub itself : IsTaken p s old (ByItself c) taken new
  pub extended : Extends now taken
  pub agree : Agree c.rests rests rests_now
  pub enough : c.rests ≤ length rests → c.rests ≤ length rests_now

module _ {p : Listing} {s taken now : List Binding} {rests rests_now : List (List Atom)} {old new : List Choice} {c : Choice} (tried : IsTriedByItself p s taken now rests rests_now old new c) where
  here : AreChoices p s rests (c ∷ new)
  here = subst (AreChoices p s rests) tried.itself.2 tried.all

  goes : GoesByItself p.arithmetic (kept s c.mark) c
  goes = here.0.itself tried.itself.1

  e : Extends now (kept s c.mark)
  e = subst (Extends now) tried.itself.3 tried.extended

  long : c.rests ≤ length rests_now
  long = tried.enough here.0.counted

  pub itself_choices : AreChoices p now rests_now new
  itself_choices = choices_through p s now rests rests_now c.mark c.rests new here.1 here.0.mark e tried.agree long here.2

  stays : Stay s now rests rests_now new
  stays = stay_through p s now rests rests_now c.mark c.rests new here.1 here.0.mark e tried.agree here.2

  pub itself_fewer : attempts_at p new < attempts_at p old
  itself_fewer = omega (arith, ap (attempts_at p) tried.itself.2, tried.itself.1)

  pub itself_within : (d : ℕ) → AreWithin d old → AreWithin d new
  itself_within d within = (subst (AreWithin d) tried.itself.2 within).1

  pub itself_depth : (d : ℕ) → AreWithin d old → c.depth ≤ d
  itself_depth d within = (subst (AreWithin d) tried.itself.2 within).0

  resolves : (o : Option (List Binding)) → unify (value_equations (value_of c) (args_of (kept s c.mark) c)) ≡ o → resolve p (goal_of s rests c) 0 ≡ option_map (passed (map (over (full (kept s c.mark))) (tail_at rests c.rest)) c.fresh) o
  resolves o u = ap (option_map (passed (map (over (full (kept s c.mark))) (tail_at rests c.rest)) c.fresh)) (goes.passes ∙ u)

  left_by : (q : List Atom) (n : ℕ) (o : Option (List Binding × Goal)) → resolve p (goal_of s rests c) 0 ≡ o → left p q n s rests old ≡ entered p.arithmetic q (walk p q (n - c.depth)) (made (kept s c.mark)) c.depth o ++ left p q n now rests_now new
  left_by q n o r =
      ap (left p q n s rests) tried.itself.2
      ∙ left_by_itself p tried.itself.0 q n s rests c new goes.built.0 tried.itself.1 goes.built.1
      ∙ (λ i. entered p.arithmetic q (walk p q (n - c.depth)) (made (kept s c.mark)) c.depth (r i) ++ sym (left_stays p q n s now rests rests_now new stays) i)

  -- no goal is left
  pub itself_failed : unify (value_equations (value_of c) (args_of taken c)) ≡ None → (q : List Atom) (n : ℕ) → left p q n s rests old ≡ left p q n now rests_now new
  itself_failed u q n = left_by q n None (resolves None (subst (λ (b : List Binding). unify (value_equations (value_of c) (args_of b c)) ≡ None) tried.itself.3 u))

  -- a goal is left
  module _ (unified : IsUnified (made taken) (value_equations (value_of c) (args_of taken c)) (made now) true) where
    u : IsUnified (made (kept s c.mark)) (value_equations (value_of c) (args_of (kept s c.mark) c)) (made now) true
    u = subst (λ (b : List Binding). IsUnified (made b) (value_equations (value_of c) (args_of b c)) (made now) true) tried.itself.3 unified

    abbrev pub left_after : Goal
    left_after = goal_with now [] (tail_at rests_now c.rest) (c.fresh + 0)

    same_goal : record { atoms = map (over (applied u.0)) (map (over (full (kept s c.mark))) (tail_at rests c.rest)); fresh = c.fresh } ≡ left_after
    same_goal =
        let atoms = sym (atoms_twice (kept s c.mark) now u.0 u.2 (tail_at rests c.rest)) ∙ ap (map (over (full now))) (sym (tried.agree c.rest here.0.rest)) in
        let fresh : c.fresh ≡ c.fresh + 0 = omega arith in
        λ i. record { atoms = atoms i; fresh = fresh i }

    found : resolve p (goal_of s rests c) 0 ≡ Some (u.0, left_after)
    found = resolves (Some u.0) u.1 ∙ ap (λ (g : Goal). Some (u.0, g)) same_goal

    pub itself_met : (q : List Atom) (n : ℕ) → left p q n s rests old ≡ (record { steps = c.depth + 1; answer = answer_by q (made now) left_after.atoms; wide = begins_wide p.arithmetic left_after.atoms } ∷ walk p q (n - c.depth) (made now) (c.depth + 1) left_after) ++ left p q n now rests_now new
    itself_met q n =
        left_by q n (Some (u.0, left_after)) found
        ∙ (λ i. (record { steps = c.depth + 1; answer = answer_by q (sym u.2 i) left_after.atoms; wide = begins_wide p.arithmetic left_after.atoms } ∷ walk p q (n - c.depth) (sym u.2 i) (c.depth + 1) left_after) ++ left p q n now rests_now new)

    pub itself_rest : c.rest ≤ length rests_now
    itself_rest = let r = here.0.rest in omega (arith, r, long)

    bounded : AllBelow c.fresh (value_equations (value_of c) (args_of (kept s c.mark) c))
    bounded = value_below c.fresh (value_of c) (args_of (kept s c.mark) c) goes.integer here.0.below.0

    same_counter : c.fresh ≡ c.fresh + 0
    same_counter = omega arith

    pub itself_free : KeepsFree (value_equations (value_of c) (args_of taken c)) taken now → FreeFrom (c.fresh + 0) now
    itself_free keeps =
        subst (λ (k : ℕ). FreeFrom k now) same_counter
        (node_free (kept s c.mark) now (value_equations (value_of c) (args_of (kept s c.mark) c)) c.fresh c.fresh (omega arith) here.0.free bounded
        (subst (λ (b : List Binding). KeepsFree (value_equations (value_of c) (args_of b c)) b now) tried.itself.3 keeps))

    pub itself_below : AtomsBelow (c.fresh + 0) left_after.atoms
    itself_below =
        subst (λ (k : ℕ). AtomsBelow k left_after.atoms) same_counter
        (subst (λ (g : Goal). AtomsBelow c.fresh g.atoms) same_goal
        (atoms_over c.fresh (applied u.0) (map (over (full (kept s c.mark))) (tail_at rests c.rest)) (λ t h. applied_below (unify_finds (value_equations (value_of c) (args_of (kept s c.mark) c)) u.0 u.1) c.fresh bounded t h) here.0.below.1))
