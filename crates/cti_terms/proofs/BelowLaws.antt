-- Laws of variables below a counter: a step of resolution keeps them below the new counter.
use Rattle.std.proofs.Common.{◌≡◌, ℕ, zero, suc, ◌+◌, ◌<◌, ◌≤◌, true, ◌||◌, nat_lt, IsTrue, List, [], ◌∷◌, ◌++◌, map, Some, IsSomeAnd, inl, inr, refl, sym, subst, arith, eqb-true}
use Rattle.std.proofs.lemmas.Bool.Decides.{nat_tests}
use Rattle.std.proofs.lemmas.Bool.{or_cases, or_left, or_right, and_parts}
use Rattle.std.specs.List.{AllByRecursion}
use Rattle.cti_terms.specs.Tree.{Tree, Trees, Variable, Integer, Compound, End, More, trees, instance, all_instances, all_truths, is_below}
use Rattle.cti_terms.specs.Unify.{Equation, Binding, occurs, occurs_among, only, Unifies, none, drop, bind, split, pairs, applied}
use Rattle.cti_terms.specs.UnifyFunction.{occurs_in}
use Rattle.cti_terms.specs.declared.atom_list.Atom.{Atom}
use Rattle.cti_terms.specs.declared.clauses.Clause.{Clause}
use Rattle.cti_terms.specs.declared.derivation.Goal.{Goal}
use Rattle.cti_terms.specs.Listing.{Listing, IsAtom, IsClause, IsProgram, numbered}
use Rattle.cti_terms.specs.Resolve.{over, raised, resolve}
use Rattle.cti_terms.specs.ResolutionStep.{Leaves, LeavesFrom}
use Rattle.cti_terms.proofs.ResolveLaws.{resolve_finds}
use Rattle.cti_terms.proofs.UnifyLaws.{comes, binds, bind_inside, replaced_inside, AllBelow}
use Rattle.cti_terms.specs.Below.{TermBelow, ArgumentsBelow, AtomsBelow}

-- the variable that is greater by n
abbrev pub raise : ℕ → ℕ → Tree
raise n x = Variable (x + n)

mutual
  -- a term of variables below k
  pub below_term : (k : ℕ) (t : Tree) → is_below k t ≡ true → TermBelow k t
  below_term k (Variable x) h y o =
      let same : y ≡ x = eqb-true y x o in
      let less : x < k = grind (arith, nat_tests) in
      omega (arith, same, less)
  below_term k (Integer i) h y o = cc
  below_term k (Compound f ts) h y o = all_below_term k ts h y o

  all_below_term : (k : ℕ) (ts : Trees) → all_truths (λ x. nat_lt x k) ts ≡ true → (y : ℕ) → occurs_among y ts ≡ true → y < k
  all_below_term k End h y o = cc
  all_below_term k (More t ts) h y o =
      elim (or_cases (occurs y t) (occurs_among y ts) o) [
        | inl l ↦ below_term k t (and_parts (is_below k t) (all_truths (λ x. nat_lt x k) ts) h).0 y l
        | inr r ↦ all_below_term k ts (and_parts (is_below k t) (all_truths (λ x. nat_lt x k) ts) h).1 y r
      ]

mutual
  -- the same, raised by n
  raised_below : (n k : ℕ) (t : Tree) → is_below k t ≡ true → TermBelow (n + k) (instance (raise n) t)
  raised_below n k (Variable x) h y o =
      let same : y ≡ x + n = eqb-true y (x + n) o in
      let less : x < k = grind (arith, nat_tests) in
      omega (arith, same, less)
  raised_below n k (Integer i) h y o = cc
  raised_below n k (Compound f ts) h y o = all_raised_below n k ts h y o

  all_raised_below : (n k : ℕ) (ts : Trees) → all_truths (λ x. nat_lt x k) ts ≡ true → (y : ℕ) → occurs_among y (all_instances (raise n) ts) ≡ true → y < n + k
  all_raised_below n k End h y o = cc
  all_raised_below n k (More t ts) h y o =
      elim (or_cases (occurs y (instance (raise n) t)) (occurs_among y (all_instances (raise n) ts)) o) [
        | inl l ↦ raised_below n k t (and_parts (is_below k t) (all_truths (λ x. nat_lt x k) ts) h).0 y l
        | inr r ↦ all_raised_below n k ts (and_parts (is_below k t) (all_truths (λ x. nat_lt x k) ts) h).1 y r
      ]

-- a term under a unifier of equations below m
applied_below : {es : List Equation} {bs : List Binding} → Unifies es bs → (m : ℕ) → AllBelow m es → (t : Tree) → TermBelow m t → TermBelow m (applied bs t)
applied_below none m below t h = h
applied_below (drop {t = l} {u = r} {es = es} e u) m below t h = applied_below u m (λ y k. below y (or_right (occurs y l || occurs y r) (occurs_in y es) k)) t h
applied_below (bind {t = l} {u = r} {v = v} {x = x} {es = es} e u) m below t h =
    let b = binds l r x v e in
    applied_below u m (λ y k. below y (bind_inside l r x v es b y k)) (instance (only x v) t) (λ y o.
    elim (comes y x v t o) [
      | inl k ↦ below y (or_left (occurs y l || occurs y r) (occurs_in y es) (b.inside y k))
      | inr k ↦ h y k.0
    ])
applied_below (split {t = l} {u = r} {qs = qs} {es = es} e u) m below t h = applied_below u m (λ y k. below y (replaced_inside l r qs es y e k)) t h

-- a greater counter
wider : (m n : ℕ) (ts : List Tree) → m ≤ n → ArgumentsBelow m ts → ArgumentsBelow n ts
wider m n [] l h = h
wider m n (t ∷ ts) l h = ((λ y o. let k = h.0 y o in omega (arith, l, k)), wider m n ts l h.1)

pub all_wider : (m n : ℕ) (xs : List Atom) → m ≤ n → AtomsBelow m xs → AtomsBelow n xs
all_wider m n [] l h = h
all_wider m n (a ∷ xs) l h = (wider m n a.args l h.0, all_wider m n xs l h.1)

-- equations of arguments below n
pairs_below : (n : ℕ) (ts us : List Tree) → ArgumentsBelow n ts → ArgumentsBelow n us → AllBelow n (pairs (trees ts) (trees us))
pairs_below n [] us h k y o = cc
pairs_below n (t ∷ ts) [] h k y o = cc
pairs_below n (t ∷ ts) (u ∷ us) h k y o =
    elim (or_cases (occurs y t || occurs y u) (occurs_in y (pairs (trees ts) (trees us))) o) [
      | inl l ↦ elim (or_cases (occurs y t) (occurs y u) l) [ inl a ↦ h.0 y a | inr b ↦ k.0 y b ]
      | inr r ↦ pairs_below n ts us h.1 k.1 y r
    ]

-- atoms of a clause, raised
arguments_raised : (n k : ℕ) (ts : List Tree) → AllByRecursion (λ t. IsTrue (is_below k t)) ts → ArgumentsBelow (n + k) (map (instance (raise n)) ts)
arguments_raised n k [] h = tt
arguments_raised n k (t ∷ ts) h = (raised_below n k t h.0, arguments_raised n k ts h.1)

atoms_raised : (p : Listing) (n k : ℕ) (xs : List Atom) → AllByRecursion (IsAtom p.preds k) xs → AtomsBelow (n + k) (map (raised n) xs)
atoms_raised p n k [] h = tt
atoms_raised p n k (a ∷ xs) h = (arguments_raised n k a.args h.0.below, atoms_raised p n k xs h.1)

-- atoms under a function that keeps terms below n
arguments_over : (n : ℕ) (f : Tree → Tree) (ts : List Tree) → ((t : Tree) → TermBelow n t → TermBelow n (f t)) → ArgumentsBelow n ts → ArgumentsBelow n (map f ts)
arguments_over n f [] k h = tt
arguments_over n f (t ∷ ts) k h = (k t h.0, arguments_over n f ts k h.1)

atoms_over : (n : ℕ) (f : Tree → Tree) (xs : List Atom) → ((t : Tree) → TermBelow n t → TermBelow n (f t)) → AtomsBelow n xs → AtomsBelow n (map (over f) xs)
atoms_over n f [] k h = tt
atoms_over n f (a ∷ xs) k h = (arguments_over n f a.args k h.0, atoms_over n f xs k h.1)

pub below_append : (n : ℕ) (xs ys : List Atom) → AtomsBelow n xs → AtomsBelow n ys → AtomsBelow n (xs ++ ys)
below_append n [] ys h k = k
below_append n (a ∷ xs) ys h k = (h.0, below_append n xs ys h.1 k)

-- ---- a step

-- a clause that is there has what all clauses have
pub at_number : {X : Type 0} (P Q : X → Type 0) (xs : List X) (k : ℕ) → AllByRecursion P xs → IsSomeAnd (numbered xs k) Q → (x : X) × (numbered xs k ≡ Some x) × P x × Q x
at_number P Q xs zero all h = absurd h
at_number P Q [] (suc k) all h = absurd h
at_number P Q (x ∷ xs) (suc zero) all h = (x, refl, all.0, h)
at_number P Q (x ∷ xs) (suc (suc k)) all h = at_number P Q xs (suc k) all.1 h

-- what a clause leaves of atoms below a counter is below the new counter
pub leaves_below : (p : Listing) (a : Atom) (rest : List Atom) (n : ℕ) (c : Clause) (bs : List Binding) (h : Goal) → IsClause p.preds c → AtomsBelow n (a ∷ rest) → Leaves a rest n c bs h → AtomsBelow h.fresh h.atoms
leaves_below p a rest n c bs h k below l =
    let m : ℕ = n + c.vars in
    let head = arguments_raised n c.vars c.head.args k.head.below in
    let first = wider n m a.args (omega arith) below.0 in
    let equations = pairs_below m a.args (raised n c.head).args first head in
    let atoms = below_append m (map (raised n) c.body) rest (atoms_raised p n c.vars c.body k.body) (all_wider n m rest (omega arith) below.1) in
    let now = atoms_over m (applied bs) (map (raised n) c.body ++ rest) (applied_below l.unifies m equations) atoms in
    subst (λ (g : List Atom × ℕ). AtomsBelow g.1 g.0) (λ i. (sym l.atoms i, sym l.fresh i)) now

-- the clause of a step that has one, and what it leaves
pub step_clause : (p : Listing) (g : Goal) (k : ℕ) (bs : List Binding) (h : Goal) → IsProgram p → 1 ≤ k → resolve p g k ≡ Some (bs, h) → (c : Clause) × (numbered p.clauses k ≡ Some c) × IsClause p.preds c × LeavesFrom g.atoms g.fresh c bs h
step_clause p g zero bs h ok first e = absurd (omega (arith, first))
step_clause p g (suc i) bs h ok first e = at_number (IsClause p.preds) (λ c. LeavesFrom g.atoms g.fresh c bs h) p.clauses (suc i) ok.clauses (resolve_finds p g (suc i) bs h e)

pub step_below : (p : Listing) (atoms : List Atom) (n : ℕ) (k : ℕ) (bs : List Binding) (h : Goal) → IsProgram p → 1 ≤ k → AtomsBelow n atoms → resolve p (record { atoms = atoms; fresh = n }) k ≡ Some (bs, h) → AtomsBelow h.fresh h.atoms
step_below p [] n k bs h ok first below e = absurd (step_clause p (record { atoms = []; fresh = n }) k bs h ok first e).3
step_below p (a ∷ rest) n k bs h ok first below e =
    let s = step_clause p (record { atoms = a ∷ rest; fresh = n }) k bs h ok first e in
    leaves_below p a rest n s.0 bs h s.2 below s.3

-- the atoms of a goal of a program are below its counter
pub goal_below : (p : Listing) (n : ℕ) (atoms : List Atom) → AllByRecursion (IsAtom p.preds n) atoms → AtomsBelow n atoms
goal_below p n [] h = tt
goal_below p n (a ∷ rest) h = (args a.args h.0.below, goal_below p n rest h.1)
  where
    args : (ts : List Tree) → AllByRecursion (λ t. IsTrue (is_below n t)) ts → ArgumentsBelow n ts
    args [] k = tt
    args (t ∷ ts) k = (below_term n t k.0, args ts k.1)
