-- Derivations lift: what clauses do to an instance they do to the more general goal.
--
-- The two steps raise the clause's variables by different counters. So the substitution that gives the instance goes on
-- from the general goal's counter by taking each raised variable of the one step to that of the other (`joined`). Under
-- the unifier of the instance it solves the general step's equations, so these have a unifier, through which it goes.
-- Then it gives the new instance of the new general goal. The instance's counter may be any.
use Rattle.std.proofs.Common.{◌≡◌, ℕ, zero, suc, ◌+◌, ◌-◌, ◌<◌, ◌≤◌, true, false, ◌==◌, if◌then◌else◌, nat_lt, List, [], ◌∷◌, ◌++◌, map, length, Option, None, Some, IsSomeAnd, option_and_then, refl, ap, sym, ◌∙◌, subst, arith}
use Rattle.std.proofs.lemmas.Bool.{or_left, or_right}
use Rattle.std.proofs.lemmas.Bool.Decides.{nat_tests}
use Rattle.std.proofs.lemmas.List.{map-append, length-map}
use Rattle.std.specs.List.{AllByRecursion}
use Rattle.cti_terms.specs.Tree.{Tree, Trees, Variable, Integer, Compound, End, More, trees, instance, all_instances}
use Rattle.cti_terms.specs.Unify.{Equation, Binding, occurs, occurs_among, pairs, applied}
use Rattle.cti_terms.specs.declared.atom_list.Atom.{Atom}
use Rattle.cti_terms.specs.declared.clauses.Clause.{Clause}
use Rattle.cti_terms.specs.declared.derivation.Goal.{Goal}
use Rattle.cti_terms.specs.Listing.{Listing, IsProgram, numbered}
use Rattle.cti_terms.specs.Resolve.{over, raised, head_equations, left_by, resolve}
use Rattle.cti_terms.specs.ResolutionStep.{Leaves, LeavesFrom}
use Rattle.cti_terms.specs.Derive.{query}
use Rattle.cti_terms.proofs.Bounds.{no_step_without_atoms}
use Rattle.cti_terms.proofs.ResolveLaws.{resolve_complete}
use Rattle.cti_terms.proofs.Unifier.{applied_instance, instance_twice, unifier_unifies}
use Rattle.cti_terms.specs.Below.{TermBelow, ArgumentsBelow, AtomsBelow}
use Rattle.cti_terms.specs.Lifts.{IsGoalOf, IsMoreGeneral, left_after}
use Rattle.cti_terms.specs.MostGeneral.{Solves}
use Rattle.cti_terms.proofs.BelowLaws.{goal_below, raise, step_below, step_clause}
use Rattle.cti_terms.proofs.MostGeneral.{found}

-- ---- substitutions that agree

mutual
  -- a term's instance depends on its own variables alone
  agree : (a b : ℕ → Tree) (t : Tree) → ((y : ℕ) → occurs y t ≡ true → a y ≡ b y) → instance a t ≡ instance b t
  agree a b (Variable x) h = h x (same x)
    where
      same : (x : ℕ) → (x == x) ≡ true
      same x = grind (arith, nat_tests)
  agree a b (Integer n) h = refl
  agree a b (Compound f ts) h = ap (Compound f) (all_agree a b ts h)

  all_agree : (a b : ℕ → Tree) (ts : Trees) → ((y : ℕ) → occurs_among y ts ≡ true → a y ≡ b y) → all_instances a ts ≡ all_instances b ts
  all_agree a b End h = refl
  all_agree a b (More t ts) h =
      let l = agree a b t (λ y o. h y (or_left (occurs y t) (occurs_among y ts) o)) in
      let r = all_agree a b ts (λ y o. h y (or_right (occurs y t) (occurs_among y ts) o)) in
      λ i. More (l i) (r i)

-- s below m, and from m on the variable that is raised by n where this one is raised by m
abbrev pub joined : (ℕ → Tree) → ℕ → ℕ → ℕ → Tree
joined s m n y = if nat_lt y m then s y else Variable ((y - m) + n)

lt_true : (y m : ℕ) → y < m → nat_lt y m ≡ true
lt_true y m l = grind (arith, nat_tests)

not_lt : (x m : ℕ) → nat_lt (x + m) m ≡ false
not_lt x m = grind (arith, nat_tests)

joined_low : (s : ℕ → Tree) (m n y : ℕ) → y < m → joined s m n y ≡ s y
joined_low s m n y l = ap (λ b. if b then s y else Variable ((y - m) + n)) (lt_true y m l)

joined_high : (s : ℕ → Tree) (m n x : ℕ) → joined s m n (x + m) ≡ Variable (x + n)
joined_high s m n x =
    let same : ((x + m) - m) + n ≡ x + n = omega arith in
    ap (λ b. if b then s (x + m) else Variable (((x + m) - m) + n)) (not_lt x m) ∙ ap Variable same

-- bindings after a substitution
under_both : (bs : List Binding) (s : ℕ → Tree) (t : Tree) → applied bs (instance s t) ≡ instance (λ x. applied bs (s x)) t
under_both bs s t =
    applied_instance bs (instance s t)
    ∙ instance_twice (λ x. applied bs (Variable x)) s t
    ∙ (λ i. instance (λ x. sym (applied_instance bs (s x)) i) t)

-- ---- one clause

module _ (bs : List Binding) (s : ℕ → Tree) (n m : ℕ) where
  -- the instance's unifier after the joined substitution
  abbrev pub lifted : ℕ → Tree
  lifted y = applied bs (joined s m n y)

  at_term : (t : Tree) → TermBelow m t → instance lifted t ≡ applied bs (instance s t)
  at_term t below = sym (under_both bs (joined s m n) t) ∙ ap (applied bs) (agree (joined s m n) s t (λ y o. joined_low s m n y (below y o)))

  at_raised : (t : Tree) → instance lifted (instance (raise m) t) ≡ applied bs (instance (raise n) t)
  at_raised t =
      sym (under_both bs (joined s m n) (instance (raise m) t))
      ∙ ap (applied bs) (instance_twice (joined s m n) (raise m) t ∙ (λ i. instance (λ x. joined_high s m n x i) t))

  -- it solves the general step's equations
  lifted_solves : (ts us : List Tree) → ArgumentsBelow m ts → AllByRecursion (λ (e : Equation). applied bs e.0 ≡ applied bs e.1) (pairs (trees (map (instance s) ts)) (trees (map (instance (raise n)) us))) → Solves lifted (pairs (trees ts) (trees (map (instance (raise m)) us)))
  lifted_solves [] us below h = tt
  lifted_solves (t ∷ ts) [] below h = tt
  lifted_solves (t ∷ ts) (u ∷ us) below h = (at_term t below.0 ∙ h.0 ∙ sym (at_raised u), lifted_solves ts us below.1 h.1)

  -- and gives what the instance's step leaves of what the general one leaves
  module _ (cs : List Binding) (under : (t : Tree) → instance lifted (applied cs t) ≡ instance lifted t) where
    arguments_left : (ts : List Tree) → ArgumentsBelow m ts → map (applied bs) (map (instance s) ts) ≡ map (instance lifted) (map (applied cs) ts)
    arguments_left [] below = refl
    arguments_left (t ∷ ts) below =
        let l = sym (under t ∙ at_term t below.0) in
        let r = arguments_left ts below.1 in
        λ i. l i ∷ r i

    arguments_raised : (ts : List Tree) → map (applied bs) (map (instance (raise n)) ts) ≡ map (instance lifted) (map (applied cs) (map (instance (raise m)) ts))
    arguments_raised [] = refl
    arguments_raised (t ∷ ts) =
        let l = sym (under (instance (raise m) t) ∙ at_raised t) in
        let r = arguments_raised ts in
        λ i. l i ∷ r i

    atoms_left : (xs : List Atom) → AtomsBelow m xs → map (over (applied bs)) (map (over (instance s)) xs) ≡ map (over (instance lifted)) (map (over (applied cs)) xs)
    atoms_left [] below = refl
    atoms_left (a ∷ xs) below =
        let l = arguments_left a.args below.0 in
        let r = atoms_left xs below.1 in
        λ i. record { pred = a.pred; args = l i } ∷ r i

    atoms_raised : (xs : List Atom) → map (over (applied bs)) (map (raised n) xs) ≡ map (over (instance lifted)) (map (over (applied cs)) (map (raised m) xs))
    atoms_raised [] = refl
    atoms_raised (a ∷ xs) =
        let l = arguments_raised a.args in
        let r = atoms_raised xs in
        λ i. record { pred = a.pred; args = l i } ∷ r i

-- atoms under a function, in parts
over_append : (f : Tree → Tree) (xs ys : List Atom) → map (over f) (xs ++ ys) ≡ map (over f) xs ++ map (over f) ys
over_append f xs ys = map-append (over f) xs ys

append_assoc : {X : Type 0} (xs ys zs : List X) → (xs ++ ys) ++ zs ≡ xs ++ (ys ++ zs)
append_assoc [] ys zs = refl
append_assoc (x ∷ xs) ys zs = ap (λ r. x ∷ r) (append_assoc xs ys zs)

append_none : {X : Type 0} (xs : List X) → xs ++ [] ≡ xs
append_none [] = refl
append_none (x ∷ xs) = ap (λ r. x ∷ r) (append_none xs)

-- ---- derivations that lead somewhere

-- the numbers lead from one goal to another
abbrev pub Leads : Listing → Goal → List ℕ → Goal → Type 0
Leads p g [] h = g ≡ h
Leads p g (k ∷ ks) h = (bs : List Binding) × (j : Goal) × (resolve p g k ≡ Some (bs, j)) × Leads p j ks h

-- the same, with at least n atoms before each step
abbrev pub Walks : Listing → ℕ → Goal → List ℕ → Goal → Type 0
Walks p n g [] h = g ≡ h
Walks p n g (k ∷ ks) h = (n ≤ length g.atoms) × (bs : List Binding) × (j : Goal) × (resolve p g k ≡ Some (bs, j)) × Walks p n j ks h

-- ---- one step

-- the first atoms of g are instances of the first atoms of k, by one substitution; r more atoms come after them in g,
-- and q in k
pub record Covers (r q : ℕ) (g k : Goal) : Type 0 where
  pub by : ℕ → Tree
  pub heads : List Atom
  pub rest : List Atom
  pub tail : List Atom
  pub general : k.atoms ≡ heads ++ rest
  pub special : g.atoms ≡ map (over (instance by)) heads ++ tail
  pub more : length tail ≡ r
  pub others : length rest ≡ q
  pub below : AtomsBelow k.fresh k.atoms

-- a clause that resolves the instance resolves the general goal, and covers what it leaves
pub record Lifted (p : Listing) (r q : ℕ) (k : Goal) (i : ℕ) (h : Goal) : Type 0 where
  pub cs : List Binding
  pub left : Goal
  pub step : resolve p k i ≡ Some (cs, left)
  pub covers : Covers r q h left

at_clause : (p : Listing) (k : Goal) (i : ℕ) (c : Clause) (cs : List Binding) (l : Goal) → 1 ≤ i → numbered p.clauses i ≡ Some c → LeavesFrom k.atoms k.fresh c cs l → resolve p k i ≡ Some (cs, l)
at_clause p k zero c cs l one e h = absurd (omega (arith, one))
at_clause p k (suc i) c cs l one e h = resolve_complete p k (suc i) cs l (subst (λ (o : Option Clause). IsSomeAnd o (λ d. LeavesFrom k.atoms k.fresh d cs l)) (sym e) h)

first_below : (m : ℕ) (xs ys : List Atom) → AtomsBelow m (xs ++ ys) → AtomsBelow m xs
first_below m [] ys h = tt
first_below m (x ∷ xs) ys h = (h.0, first_below m xs ys h.1)

module _ (p : Listing) (ok : IsProgram p) where
  -- with the first atom, the rests and the clause at hand
  lifts_at : (s : ℕ → Tree) (n m : ℕ) (z : Atom) (zs rest tail : List Atom) (i : ℕ) (c : Clause) (bs : List Binding) (h : Goal)
      → 1 ≤ i → AtomsBelow m ((z ∷ zs) ++ rest) → numbered p.clauses i ≡ Some c
      → Leaves (over (instance s) z) (map (over (instance s)) zs ++ tail) n c bs h
      → Lifted p (length tail) (length rest) (record { atoms = (z ∷ zs) ++ rest; fresh = m }) i h
  lifts_at s n m z zs rest tail i c bs h one below e l =
      let near = first_below m (z ∷ zs) rest below in
      let f = found (lifted bs s n m) (head_equations z m c) (lifted_solves bs s n m z.args c.head.args near.0 (unifier_unifies l.unifies)) in
      let left : Goal = left_by f.bs (zs ++ rest) m c in
      let leaves : Leaves z (zs ++ rest) m c f.bs left = record { pred = l.pred; unifies = f.unifies; atoms = refl; fresh = refl } in
      let step = at_clause p (record { atoms = (z ∷ zs) ++ rest; fresh = m }) i c f.bs left one e leaves in
      record {
        cs = f.bs;
        left = left;
        step = step;
        covers = record {
          by = lifted bs s n m;
          heads = map (over (applied f.bs)) (map (raised m) c.body ++ zs);
          rest = map (over (applied f.bs)) rest;
          tail = map (over (applied bs)) tail;
          general = ap (map (over (applied f.bs))) (sym (append_assoc (map (raised m) c.body) zs rest)) ∙ over_append (applied f.bs) (map (raised m) c.body ++ zs) rest;
          special = special f.bs f.under near.1;
          more = length-map tail (over (applied bs));
          others = length-map rest (over (applied f.bs));
          below = step_below p ((z ∷ zs) ++ rest) m i f.bs left ok one below step;
        };
      }
    where
      special : (cs : List Binding) → ((t : Tree) → instance (lifted bs s n m) (applied cs t) ≡ instance (lifted bs s n m) t) → AtomsBelow m zs
          → h.atoms ≡ map (over (instance (lifted bs s n m))) (map (over (applied cs)) (map (raised m) c.body ++ zs)) ++ map (over (applied bs)) tail
      special cs under near =
          let body = atoms_raised bs s n m cs under c.body in
          let others = atoms_left bs s n m cs under zs near in
          let a : Tree → Tree = instance (lifted bs s n m) in
          l.atoms
          ∙ ap (map (over (applied bs))) (sym (append_assoc (map (raised n) c.body) (map (over (instance s)) zs) tail))
          ∙ over_append (applied bs) (map (raised n) c.body ++ map (over (instance s)) zs) tail
          ∙ ap (λ xs. xs ++ map (over (applied bs)) tail)
          (over_append (applied bs) (map (raised n) c.body) (map (over (instance s)) zs)
          ∙ (λ i. body i ++ others i)
          ∙ sym (over_append a (map (over (applied cs)) (map (raised m) c.body)) (map (over (applied cs)) zs))
          ∙ ap (map (over a)) (sym (over_append (applied cs) (map (raised m) c.body) zs)))

  -- with any goals, of which the instance has more than r atoms
  pub lifts : (r q : ℕ) (g k : Goal) (i : ℕ) (bs : List Binding) (h : Goal) → Covers r q g k → r < length g.atoms → 1 ≤ i → resolve p g i ≡ Some (bs, h) → Lifted p r q k i h
  lifts r q g k i bs h c enough one e =
      let s = step_clause p g i bs h ok one e in
      from s.0 s.1 c.heads c.general c.special (subst (λ (xs : List Atom). LeavesFrom xs g.fresh s.0 bs h) c.special s.3)
    where
      from : (d : Clause) → numbered p.clauses i ≡ Some d → (heads : List Atom) → k.atoms ≡ heads ++ c.rest → g.atoms ≡ map (over (instance c.by)) heads ++ c.tail
          → LeavesFrom (map (over (instance c.by)) heads ++ c.tail) g.fresh d bs h → Lifted p r q k i h
      from d there [] general special l =
          let count : length g.atoms ≡ length c.tail = ap length special in
          absurd (omega (arith, enough, count, c.more))
      from d there (z ∷ zs) general special l =
          let lifted = lifts_at c.by g.fresh k.fresh z zs c.rest c.tail i d bs h one (subst (AtomsBelow k.fresh) general c.below) there l in
          subst (λ (x : ℕ × ℕ × Goal). Lifted p x.0 x.1 x.2 i h) (λ j. (c.more j, c.others j, record { atoms = sym general j; fresh = k.fresh })) lifted

  -- ---- derivations

  pub derivation_lifts : (r q : ℕ) (g k : Goal) (ks : List ℕ) (h : Goal) → AllByRecursion (λ (i : ℕ). 1 ≤ i) ks → Covers r q g k → Walks p (suc r) g ks h → (l : Goal) × Leads p k ks l × Covers r q h l
  derivation_lifts r q g k [] h ones c w = (k, refl, subst (λ (x : Goal). Covers r q x k) w c)
  derivation_lifts r q g k (i ∷ is) h ones c (enough, bs, j, e, w) =
      let s = lifts r q g k i bs j c enough ones.0 e in
      let d = derivation_lifts r q j s.left is h ones.1 s.covers w in
      (d.0, (s.cs, s.left, s.step, d.1), d.2)

  pub derivation_below : (g : Goal) (ks : List ℕ) (h : Goal) → AllByRecursion (λ (i : ℕ). 1 ≤ i) ks → AtomsBelow g.fresh g.atoms → Leads p g ks h → AtomsBelow h.fresh h.atoms
  derivation_below g [] h ones below l = subst (λ (x : Goal). AtomsBelow x.fresh x.atoms) l below
  derivation_below g (k ∷ ks) h ones below (bs, j, e, l) = derivation_below j ks h ones.1 (step_below p g.atoms g.fresh k bs j ok ones.0 below e) l

  -- a derivation from an atom lifts to a more general atom
  walks_one : (g : Goal) (ks : List ℕ) (h : Goal) → Leads p g ks h → Walks p 1 g ks h
  walks_one g [] h l = l
  walks_one g (k ∷ ks) h (bs, j, e, l) = (some g.atoms refl, bs, j, e, walks_one j ks h l)
    where
      some : (xs : List Atom) → g.atoms ≡ xs → 1 ≤ length g.atoms
      some [] s = absurd (no_step_without_atoms p g k bs j s e)
      some (x ∷ xs) s = let count : length g.atoms ≡ suc (length xs) = ap length s in omega (arith, count)

  pub atom_lifts : (a b : Atom) (n m : ℕ) (ks : List ℕ) (h : Goal) → AllByRecursion (λ (i : ℕ). 1 ≤ i) ks → IsMoreGeneral b a → AtomsBelow m (b ∷ []) → Leads p (query a n) ks h
      → (l : Goal) × Leads p (query b m) ks l × (s : ℕ → Tree) × (h.atoms ≡ map (over (instance s)) l.atoms)
  atom_lifts a b n m ks h ones general below leads =
      let covers : Covers 0 0 (query a n) (query b m) = record {
        by = general.0;
        heads = b ∷ [];
        rest = [];
        tail = [];
        general = refl;
        special = ap (λ x. x ∷ []) (sym general.1);
        more = refl;
        others = refl;
        below = below;
      } in
      let d = derivation_lifts 0 0 (query a n) (query b m) ks h ones covers (walks_one (query a n) ks h leads) in
      (d.0, d.1, d.2.by, whole d.2)
    where
      none : (xs : List Atom) → length xs ≡ 0 → xs ≡ []
      none [] e = refl
      none (x ∷ xs) e = absurd (omega (arith, e))

      whole : {l : Goal} (c : Covers 0 0 h l) → h.atoms ≡ map (over (instance c.by)) l.atoms
      whole c =
          c.special
          ∙ ap (λ ys. map (over (instance c.by)) c.heads ++ ys) (none c.tail c.more)
          ∙ append_none (map (over (instance c.by)) c.heads)
          ∙ ap (map (over (instance c.by))) (sym (c.general ∙ ap (λ ys. c.heads ++ ys) (none c.rest c.others) ∙ append_none c.heads))

-- ---- derivations as they are given

pub leads_of : (p : Listing) (g : Goal) (ks : List ℕ) (h : Goal) → left_after p g ks ≡ Some h → Leads p g ks h
leads_of p g [] h e = cc
leads_of p g (k ∷ ks) h e = go (resolve p g k) refl e (λ j. leads_of p j ks h)
  where
    go : (o : Option (List Binding × Goal)) → resolve p g k ≡ o → option_and_then (λ r. left_after p r.1 ks) o ≡ Some h → ((j : Goal) → left_after p j ks ≡ Some h → Leads p j ks h) → Leads p g (k ∷ ks) h
    go None s e' rec = cc
    go (Some (bs, j)) s e' rec = (bs, j, s, rec j e')

after_of : (p : Listing) (g : Goal) (ks : List ℕ) (h : Goal) → Leads p g ks h → left_after p g ks ≡ Some h
after_of p g [] h l = ap Some l
after_of p g (k ∷ ks) h (bs, j, e, l) = ap (option_and_then (λ r. left_after p r.1 ks)) e ∙ after_of p j ks h l

-- a derivation from an atom lifts to a more general one
pub query_lifts : (p : Listing) (a b : Atom) (n m : ℕ) (ks : List ℕ) (h : Goal) → IsProgram p → AllByRecursion (λ (i : ℕ). 1 ≤ i) ks → IsMoreGeneral b a → IsGoalOf p (query b m) → left_after p (query a n) ks ≡ Some h
    → (l : Goal) × (left_after p (query b m) ks ≡ Some l) × (s : ℕ → Tree) × (h.atoms ≡ map (over (instance s)) l.atoms)
query_lifts p a b n m ks h ok ones general goal e =
    let d = atom_lifts p ok a b n m ks h ones general (goal_below p m (b ∷ []) goal) (leads_of p (query a n) ks h e) in
    (d.0, after_of p (query b m) ks d.0 d.1, d.2, d.3)
