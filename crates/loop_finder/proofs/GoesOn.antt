-- A loop goes on for ever.
--
-- The cycle lifts from the goal that it starts from to each goal whose first atom is more general. There it ends with a
-- first atom that is more general again, so it can be gone through once more.
use Rattle.std.proofs.Common.{◌≡◌, ◌≢◌, ℕ, zero, suc, ◌≤◌, List, [], ◌∷◌, ◌++◌, map, length, Option, None, Some, IsSomeAnd, option_and_then, refl, ap, sym, ◌∙◌, subst, arith, length-append}
use Rattle.std.specs.List.{AllByRecursion}
use Rattle.cti_terms.specs.Tree.{Tree, Variable, instance}
use Rattle.cti_terms.specs.Unify.{Binding}
use Rattle.cti_terms.specs.declared.atom_list.Atom.{Atom}
use Rattle.cti_terms.specs.declared.derivation.Goal.{Goal}
use Rattle.cti_terms.specs.Listing.{Listing, IsProgram}
use Rattle.cti_terms.specs.Resolve.{over, resolve}
use Rattle.cti_terms.specs.Derive.{IsDerivation, Bounded}
use Rattle.cti_terms.proofs.Unifier.{instance_same, instance_twice}
use Rattle.cti_terms.specs.Below.{AtomsBelow}
use Rattle.cti_terms.specs.Lifts.{IsGoalOf, IsMoreGeneral, left_after}
use Rattle.loop_finder.specs.Loop.{FirstIs, KeepsAtoms, ComesBack, IsLoop, GoesOn, times}
use Rattle.cti_terms.proofs.BelowLaws.{goal_below}
use Rattle.cti_terms.proofs.Lifting.{Covers, Leads, Walks, derivation_below, derivation_lifts, leads_of}

-- ---- more general atoms

arguments_twice : (a b : ℕ → Tree) (ts : List Tree) → map (instance a) (map (instance b) ts) ≡ map (instance (λ x. instance a (b x))) ts
arguments_twice a b [] = refl
arguments_twice a b (t ∷ ts) =
    let l = instance_twice a b t in
    let r = arguments_twice a b ts in
    λ i. l i ∷ r i

-- what is more general than something more general
pub more_general_twice : (s : ℕ → Tree) (c a : Atom) → IsMoreGeneral (over (instance s) c) a → IsMoreGeneral c a
more_general_twice s c a (t, e) =
    let args = arguments_twice t s c.args in
    ((λ x. instance t (s x)), (λ i. record { pred = c.pred; args = sym args i }) ∙ e)

arguments_same : (ts : List Tree) → map (instance Variable) ts ≡ ts
arguments_same [] = refl
arguments_same (t ∷ ts) =
    let l = instance_same t in
    let r = arguments_same ts in
    λ i. l i ∷ r i

-- an atom is more general than itself
pub itself : (a : Atom) → IsMoreGeneral a a
itself a = let args = arguments_same a.args in (Variable, λ i. record { pred = a.pred; args = args i })

-- ---- derivations as they are given

walks_of : (p : Listing) (n : ℕ) (g : Goal) (v : List ℕ) (h : Goal) → n ≤ length g.atoms → KeepsAtoms p n g v → left_after p g v ≡ Some h → Walks p n g v h × (n ≤ length h.atoms)
walks_of p n g [] h enough keeps e =
    let same : g ≡ h = cc in
    (same, subst (λ (x : Goal). n ≤ length x.atoms) same enough)
walks_of p n g (k ∷ ks) h enough keeps e = go (resolve p g k) refl e (λ j. walks_of p n j ks h)
  where
    go : (o : Option (List Binding × Goal)) → resolve p g k ≡ o → option_and_then (λ r. left_after p r.1 ks) o ≡ Some h
        → ((j : Goal) → n ≤ length j.atoms → KeepsAtoms p n j ks → left_after p j ks ≡ Some h → Walks p n j ks h × (n ≤ length h.atoms))
        → Walks p n g (k ∷ ks) h × (n ≤ length h.atoms)
    go None s e' rec = cc
    go (Some (bs, j)) s e' rec =
        let now : n ≤ length j.atoms = subst (λ (o : Option (List Binding × Goal)). IsSomeAnd (option_and_then (λ r. left_after p r.1 []) o) (λ (x : Goal). n ≤ length x.atoms)) s (keeps (k ∷ []) ks refl (λ c. cc)) in
        let later : KeepsAtoms p n j ks = λ is ls e'' some. subst (λ (o : Option (List Binding × Goal)). IsSomeAnd (option_and_then (λ r. left_after p r.1 is) o) (λ (x : Goal). n ≤ length x.atoms)) s (keeps (k ∷ is) ls (ap (λ l. k ∷ l) e'') (λ c. cc)) in
        let w = rec j now later e' in
        ((enough, bs, j, s, w.0), w.1)

leads_append : (p : Listing) (g : Goal) (ks : List ℕ) (h : Goal) (ls : List ℕ) → Leads p g ks h → IsDerivation p h ls → IsDerivation p g (ks ++ ls)
leads_append p g [] h ls l d = subst (λ (x : Goal). IsDerivation p x ls) (sym l) d
leads_append p g (k ∷ ks) h ls (bs, j, e, l) d = (bs, j, e, leads_append p j ks h ls l d)

-- ---- the cycle, over and over

module _ (p : Listing) (ok : IsProgram p) (a : Atom) (rest : List Atom) (f : ℕ) (v : List ℕ) (ones : AllByRecursion (λ (i : ℕ). 1 ≤ i) v) (some : 1 ≤ length v) (h : Goal)
    (walks : Walks p (suc (length rest)) (record { atoms = a ∷ rest; fresh = f }) v h) (enough : suc (length rest) ≤ length h.atoms) (back : FirstIs (λ b. IsMoreGeneral b a) h.atoms) where
  goes : (n : ℕ) (k : Goal) (b : Atom) (others : List Atom) → k.atoms ≡ b ∷ others → AtomsBelow k.fresh k.atoms → IsMoreGeneral b a → IsDerivation p k (times n v)
  goes zero k b others is below general = tt
  goes (suc n) k b others is below general =
      let covers : Covers (length rest) (length others) (record { atoms = a ∷ rest; fresh = f }) k = record {
        by = general.0;
        heads = b ∷ [];
        rest = others;
        tail = rest;
        general = is;
        special = ap (λ x. x ∷ rest) (sym general.1);
        more = refl;
        others = refl;
        below = below;
      } in
      let d = derivation_lifts p ok (length rest) (length others) (record { atoms = a ∷ rest; fresh = f }) k v h ones covers walks in
      leads_append p k v d.0 (times n v) d.1 (again d.0 d.2 (goes n d.0))
    where
      again : (l : Goal) → Covers (length rest) (length others) h l → ((c : Atom) (xs : List Atom) → l.atoms ≡ c ∷ xs → AtomsBelow l.fresh l.atoms → IsMoreGeneral c a → IsDerivation p l (times n v))
          → IsDerivation p l (times n v)
      again l c rec = go c.heads c.general c.special
        where
          go : (heads : List Atom) → l.atoms ≡ heads ++ c.rest → h.atoms ≡ map (over (instance c.by)) heads ++ c.tail → IsDerivation p l (times n v)
          go [] l_is h_is =
              let count : length h.atoms ≡ length c.tail = ap length h_is in
              absurd (omega (arith, enough, count, c.more))
          go (z ∷ zs) l_is h_is =
              let first : IsMoreGeneral (over (instance c.by) z) a = subst (FirstIs (λ b. IsMoreGeneral b a)) h_is back in
              rec z (zs ++ c.rest) l_is c.below (more_general_twice c.by z a first)

-- ---- the theorem

not_empty : (v : List ℕ) → v ≢ [] → 1 ≤ length v
not_empty [] h = absurd (h refl)
not_empty (k ∷ ks) h = omega arith

in_parts : {X : Type 0} (P : X → Type 0) (xs ys : List X) → AllByRecursion P (xs ++ ys) → AllByRecursion P xs × AllByRecursion P ys
in_parts P [] ys h = (tt, h)
in_parts P (x ∷ xs) ys h = let r = in_parts P xs ys h.1 in ((h.0, r.0), r.1)

from_goal : (p : Listing) (ok : IsProgram p) (atoms : List Atom) (f : ℕ) (v : List ℕ) → AllByRecursion (λ (i : ℕ). 1 ≤ i) v → v ≢ [] → AtomsBelow f atoms
    → KeepsAtoms p (length atoms) (record { atoms = atoms; fresh = f }) v → ComesBack p (record { atoms = atoms; fresh = f }) v
    → (n : ℕ) → IsDerivation p (record { atoms = atoms; fresh = f }) (times n v)
from_goal p ok [] f v ones some below keeps back n = absurd back
from_goal p ok (a ∷ rest) f v ones some below keeps back n = go (left_after p (record { atoms = a ∷ rest; fresh = f }) v) refl back
  where
    go : (o : Option Goal) → left_after p (record { atoms = a ∷ rest; fresh = f }) v ≡ o → IsSomeAnd o (λ (h : Goal). FirstIs (λ b. IsMoreGeneral b a) h.atoms)
        → IsDerivation p (record { atoms = a ∷ rest; fresh = f }) (times n v)
    go None e b = absurd b
    go (Some h) e b =
        let w = walks_of p (suc (length rest)) (record { atoms = a ∷ rest; fresh = f }) v h (omega arith) keeps e in
        goes p ok a rest f v ones (not_empty v some) h w.0 w.1 b n (record { atoms = a ∷ rest; fresh = f }) a rest refl below (itself a)

pub loop_goes_on : (p : Listing) (g : Goal) (u v : List ℕ) → IsProgram p → IsGoalOf p g → IsLoop p g u v → GoesOn p g u v
loop_goes_on p g u v ok goal loop n =
    let both = in_parts (λ (i : ℕ). 1 ≤ i) u v loop.clauses in
    let leads = leads_of p g u loop.before loop.leads in
    let below = derivation_below p ok g u loop.before both.0 (goal_below p g.fresh g.atoms goal) leads in
    leads_append p g u loop.before (times n v) leads (from_goal p ok loop.before.atoms loop.before.fresh v both.1 loop.cycle below loop.keeps loop.back n)

times_long : (n : ℕ) (v : List ℕ) → 1 ≤ length v → n ≤ length (times n v)
times_long zero v some = omega arith
times_long (suc n) v some = let l = length-append v (times n v) in let m = times_long n v some in omega (arith, l, m, some)

pub not_bounded : (p : Listing) (g : Goal) (u v : List ℕ) → v ≢ [] → GoesOn p g u v → Bounded p g → ⊥
not_bounded p g u v some goes b =
    let less = b.1 (u ++ times b.0 v) (goes b.0) in
    let l = length-append u (times b.0 v) in
    let m = times_long b.0 v (not_empty v some) in
    omega (arith, less, l, m)
