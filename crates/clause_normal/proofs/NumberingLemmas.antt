-- Lemmas on predicates and variables that get their numbers.
use Rattle.std.proofs.Common.{◌≡◌, ℕ, ◌<◌, ◌≤◌, Bool, true, false, IsTrue, nat_eq, nat_lt, zero, suc, List, [], ◌∷◌, ◌++◌, length, map, slice_get, IsSomeAnd, Some, None, refl, ap, sym, ◌∙◌, subst, arith, length-append, inl, inr, eq-eqb, true≢false, Option, position, get_or, eqb-true, ◌==◌, lit≤}
use Rattle.std.specs.Prelude.{codes}
use Rattle.std.proofs.lemmas.List.Quantifiers.{position-Some}
use Rattle.std.proofs.lemmas.Option.{slice_get-get_or}
use Rattle.clause_normal.specs.Words.{is_name}
use Rattle.std.specs.List.{AllByRecursion, list_any, position_or_len}
use Rattle.std.proofs.lemmas.Bool.{and_parts, lt-ltb}
use Rattle.cti_terms.specs.Tree.{Tree as Term, Trees as Terms, Variable, Integer, Compound, End, More, all_instances, is_below, all_truths}
use Rattle.cti_terms.specs.Listing.{Listing, is_pred, with_pred, IsAtom, IsClause}
use Rattle.cti_terms.specs.declared.atom_list.Atom.{Atom}
use Rattle.cti_terms.specs.declared.predicates.Pred.{Pred}
use Rattle.prolog_reader.specs.Names.{Extends}
use Rattle.prolog_reader.proofs.NameLemmas.{Placed, placed}
use Rattle.clause_variables.specs.Terms.{variables, all_variables, list_variables, is_among, with_number, with_numbers, renumbered}
use Rattle.clause_normal.specs.declared.rule.Call.{Call as CodeCall}
use Rattle.clause_normal.specs.declared.rule.Functor.{Functor as CodeFunctor}
use Rattle.clause_normal.specs.declared.rule.Functor.TheVariants as functor
use Rattle.clause_normal.specs.declared.rule.Rule.{Rule as CodeRule}
use Rattle.clause_normal.specs.RuleViews.{FunctorIsFit, CallIsFit, RuleIsFit}
use Rattle.clause_normal.specs.Rules.{Call}
use Rattle.clause_normal.specs.Numbering.{call_variables, atoms_after, pred_of, is_equality, equality_clause, with_equality_clause, with_equality, HasArity}
use Rattle.clause_variables.proofs.ListLemmas.{all_append, all_front, all_back}

pub all_weaker : {X : Type 0} (P Q : X → Type 0) → ((x : X) → P x → Q x) → (xs : List X) → AllByRecursion P xs → AllByRecursion Q xs
all_weaker P Q f [] h = tt
all_weaker P Q f (x ∷ xs) h = (f x h.0, all_weaker P Q f xs h.1)

-- later names are at least as many
pub extends_more : (names later : List (List ℕ)) → Extends names later → length names ≤ length later
extends_more names later ext = omega (arith, ap length ext.1, length-append names ext.0)

-- a clause of known names is one of more
functor_later : (n m : ℕ) (f : CodeFunctor) → n ≤ m → FunctorIsFit n f → FunctorIsFit m f
functor_later n m (functor.Named f) le h = omega (arith, h, le)
functor_later n m (functor.Chosen k) le h = tt

call_later : (n m : ℕ) (c : CodeCall) → n ≤ m → CallIsFit n c → CallIsFit m c
call_later n m c le h = (h.0, functor_later n m c.functor le h.1)

pub rule_later : (n m : ℕ) (r : CodeRule) → n ≤ m → RuleIsFit n r → RuleIsFit m r
rule_later n m r le h = record { head = call_later n m r.head le h.head; body = all_weaker (CallIsFit n) (CallIsFit m) (λ c k. call_later n m c le k) r.body.items h.body }

-- what holds of predicates and of one more
pub all_with_pred : (P : Pred → Type 0) (preds : List Pred) (p : Pred) → AllByRecursion P preds → P p → AllByRecursion P (with_pred preds p)
all_with_pred P preds p h q = by_test (list_any (is_pred p.name.0 p.arity) preds) refl
  where
    by_test : (b : Bool) → list_any (is_pred p.name.0 p.arity) preds ≡ b → AllByRecursion P (with_pred preds p)
    by_test true e = rw e h
    by_test false e = rw e (all_append P preds (p ∷ []) h (q, tt))

-- predicates whose names are known, and one more
pub known_with_pred : (n m : ℕ) (preds new : List Pred) (p : Pred) → n ≤ m → new ≡ with_pred preds p → p.name.0 < m → AllByRecursion (λ (q : Pred). q.name.0 < n) preds → AllByRecursion (λ (q : Pred). q.name.0 < m) new
known_with_pred n m preds new p le e lt h =
    let Q : List Pred → Type 0 = λ ps. AllByRecursion (λ (q : Pred). q.name.0 < m) ps in
    subst Q (sym e) (all_with_pred (λ (q : Pred). q.name.0 < m) preds p (all_weaker (λ (q : Pred). q.name.0 < n) (λ (q : Pred). q.name.0 < m) (λ q k. omega (arith, k, le)) preds h) lt)

-- a number among these is among more, and the last of a list is among it
among_front : (xs ys : List ℕ) (x : ℕ) → is_among xs x ≡ true → is_among (xs ++ ys) x ≡ true
among_front [] ys x h = cc
among_front (z ∷ xs) ys x h = by_test (λ k. among_front xs ys x k) (nat_eq x z) refl
  where
    by_test : (is_among xs x ≡ true → is_among (xs ++ ys) x ≡ true) → (b : Bool) → nat_eq x z ≡ b → is_among ((z ∷ xs) ++ ys) x ≡ true
    by_test more true e = rw e refl
    by_test more false e = rw e (more (let k = rw e at h in k))

among_last : (xs : List ℕ) (y : ℕ) → is_among (xs ++ y ∷ []) y ≡ true
among_last [] y = rw (eq-eqb y y refl) refl
among_last (z ∷ xs) y = by_test (among_last xs y) (nat_eq y z) refl
  where
    by_test : is_among (xs ++ y ∷ []) y ≡ true → (b : Bool) → nat_eq y z ≡ b → is_among ((z ∷ xs) ++ y ∷ []) y ≡ true
    by_test more true e = rw e refl
    by_test more false e = rw e more

-- each number of a list is among the firsts of it
among_more : (xs : List ℕ) (y x : ℕ) → is_among xs x ≡ true → is_among (with_number xs y) x ≡ true
among_more xs y x h = by_test (is_among xs y) refl
  where
    by_test : (b : Bool) → is_among xs y ≡ b → is_among (with_number xs y) x ≡ true
    by_test true e = rw e h
    by_test false e = rw e (among_front xs (y ∷ []) x h)

among_itself : (xs : List ℕ) (y : ℕ) → is_among (with_number xs y) y ≡ true
among_itself xs y = by_test (is_among xs y) refl
  where
    by_test : (b : Bool) → is_among xs y ≡ b → is_among (with_number xs y) y ≡ true
    by_test true e = rw e e
    by_test false e = rw e (among_last xs y)

pub among_kept : (xs ys : List ℕ) (x : ℕ) → is_among xs x ≡ true → is_among (with_numbers xs ys) x ≡ true
among_kept xs [] x h = h
among_kept xs (y ∷ ys) x h = among_kept (with_number xs y) ys x (among_more xs y x h)

pub all_among : (xs ys : List ℕ) → AllByRecursion (λ (x : ℕ). is_among (with_numbers xs ys) x ≡ true) ys
all_among xs [] = tt
all_among xs (y ∷ ys) = (among_kept (with_number xs y) ys y (among_itself xs y), all_among (with_number xs y) ys)

-- the place of a number that is there
place_below : (order : List ℕ) (x : ℕ) → is_among order x ≡ true → position_or_len (nat_eq x) order < length order
place_below order x h = by_place (placed (nat_eq x) order)
  where
    by_place : Placed (nat_eq x) order → position_or_len (nat_eq x) order < length order
    by_place (inl there) = there.1
    by_place (inr away) = absurd (true≢false (sym h ∙ away.0))

module _ (order : List ℕ) where
  abbrev AreAmong : List ℕ → Type 0
  AreAmong xs = AllByRecursion (λ (x : ℕ). is_among order x ≡ true) xs

  mutual
    -- a term whose variables are in the order is below its length
    below_renumbered : (t : Term) → AreAmong (variables t) → IsTrue (is_below (length order) (renumbered order t))
    below_renumbered (Variable x) h = lt-ltb (position_or_len (nat_eq x) order) (length order) (place_below order x h.0)
    below_renumbered (Integer n) h = refl
    below_renumbered (Compound f ts) h = all_below_renumbered ts h

    all_below_renumbered : (ts : Terms) → AreAmong (all_variables ts) → IsTrue (all_truths (λ x. nat_lt x (length order)) (all_instances (λ x. Variable (position_or_len (nat_eq x) order)) ts))
    all_below_renumbered End h = refl
    all_below_renumbered (More t ts) h =
        let front = all_front (λ (x : ℕ). is_among order x ≡ true) (variables t) (all_variables ts) h in
        let back = all_back (λ (x : ℕ). is_among order x ≡ true) (variables t) (all_variables ts) h in
        rw (below_renumbered t front) (all_below_renumbered ts back)

  pub list_below : (ts : List Term) → AreAmong (list_variables ts) → AllByRecursion (λ (t : Term). IsTrue (is_below (length order) t)) (map (renumbered order) ts)
  list_below [] h = tt
  list_below (t ∷ ts) h =
      (below_renumbered t (all_front (λ (x : ℕ). is_among order x ≡ true) (variables t) (list_variables ts) h), list_below ts (all_back (λ (x : ℕ). is_among order x ≡ true) (variables t) (list_variables ts) h))

  -- the atoms of calls whose variables are in the order
  pub atoms_below : (names : List (List ℕ)) (preds : List Pred) (cs : List Call) → AreAmong (call_variables cs)
      → AllByRecursion (λ (a : Atom). AllByRecursion (λ (t : Term). IsTrue (is_below (length order) t)) a.args) (atoms_after names order preds cs)
  atoms_below names preds [] h = tt
  atoms_below names preds (c ∷ cs) h = (
    list_below c.args (all_front (λ (x : ℕ). is_among order x ≡ true) (list_variables c.args) (call_variables cs) h),
    atoms_below names (with_pred preds (pred_of names c)) cs (all_back (λ (x : ℕ). is_among order x ≡ true) (list_variables c.args) (call_variables cs) h),
  )

-- which stays where predicates stay at their places
pub some_within : (preds : List Pred) (i : ℕ) (P : Pred → Type 0) → IsSomeAnd (slice_get preds i) P → i < length preds
some_within [] i P h = absurd h
some_within (p ∷ ps) zero P h = omega arith
some_within (p ∷ ps) (suc i) P h = omega (arith, some_within ps i P h)

pub arity_still : (preds new : List Pred) → ((i : ℕ) → i < length preds → slice_get new i ≡ slice_get preds i) → (a : Atom) → HasArity preds a → HasArity new a
arity_still preds new still a h =
    let Q : Option Pred → Type 0 = λ o. IsSomeAnd o (λ p. p.arity ≡ length a.args) in
    subst Q (sym (still a.pred.0 (some_within preds a.pred.0 (λ p. p.arity ≡ length a.args) h))) h

pub arities_still : (preds new : List Pred) → ((i : ℕ) → i < length preds → slice_get new i ≡ slice_get preds i) → (xs : List Atom) → AllByRecursion (HasArity preds) xs → AllByRecursion (HasArity new) xs
arities_still preds new still xs h = all_weaker (HasArity preds) (HasArity new) (arity_still preds new still) xs h

-- atoms with as many arguments as their predicates, and variables below
pub are_atoms : (preds : List Pred) (n : ℕ) (xs : List Atom) → AllByRecursion (HasArity preds) xs → AllByRecursion (λ (a : Atom). AllByRecursion (λ (t : Term). IsTrue (is_below n t)) a.args) xs
    → AllByRecursion (IsAtom preds n) xs
are_atoms preds n [] h k = tt
are_atoms preds n (a ∷ xs) h k = (record { arity = h.0; below = k.0 }, are_atoms preds n xs h.1 k.1)

-- predicates keep their places where calls are added
pub still_trans : (ps qs rs : List Pred) → length ps ≤ length qs → ((i : ℕ) → i < length ps → slice_get qs i ≡ slice_get ps i) → ((i : ℕ) → i < length qs → slice_get rs i ≡ slice_get qs i)
    → (i : ℕ) → i < length ps → slice_get rs i ≡ slice_get ps i
still_trans ps qs rs le f g i h = g i (omega (arith, h, le)) ∙ f i h

-- the variables of variables
pub variables_of_variables : (xs : List ℕ) → list_variables (map Variable xs) ≡ xs
variables_of_variables [] = refl
variables_of_variables (x ∷ xs) = ap (λ (ys : List ℕ). x ∷ ys) (variables_of_variables xs)

-- the clause X = X is one of a program that has =/2
pub equality_is_clause : (names : List (List ℕ)) (preds : List Pred) (q : ℕ) → position (is_equality names) preds ≡ Some q → IsClause preds (equality_clause q)
equality_is_clause names preds q e =
    let none : Pred = record { name = record { 0 = 0 }; arity = 0 } in
    let there = position-Some (is_equality names) preds q none e in
    let p = get_or preds q none in
    let two : p.arity ≡ 2 = eqb-true p.arity 2 (and_parts (is_name names p.name.0 (codes "=")) (p.arity == 2) there.1).1 in
    let Q : Option Pred → Type 0 = λ o. IsSomeAnd o (λ (p : Pred). p.arity ≡ 2) in
    record {
      head = record { arity = subst Q (sym (slice_get-get_or preds q none there.0)) two; below = (refl, (refl, tt)) };
      body = tt;
      few = lit≤ tt;
      small = lit≤ tt;
      short = lit≤ tt;
    }

-- a program without =/2 gets no clause of it
pub room_left : (names : List (List ℕ)) (p q : Listing) → q ≡ with_equality names p → position (is_equality names) q.preds ≡ None → length p.clauses ≤ 16384 → length q.clauses < 16385
room_left names p q e none few =
    let preds : q.preds ≡ p.preds = ap (λ (r : Listing). r.preds) e in
    let same : position (is_equality names) p.preds ≡ None = ap (position (is_equality names)) (sym preds) ∙ none in
    let clauses : q.clauses ≡ p.clauses = ap (λ (r : Listing). r.clauses) e ∙ ap (λ k. with_equality_clause k p.clauses) same in
    omega (arith, few, ap length clauses)
