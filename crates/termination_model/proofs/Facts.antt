-- The facts of a goal, and what a step does to them, for claims of any meaning.
use Rattle.std.proofs.Common.{◌≡◌, ℕ, zero, suc, ◌<◌, ◌≤◌, ◌==◌, if◌then◌else◌, Bool, true, false, List, [], ◌∷◌, ◌++◌, map, take, length, slice_get, Option, None, Some, IsSomeAnd, refl, ap, sym, subst, ◌∙◌, arith, eqb-true}
use Rattle.std.proofs.lemmas.List.{length-map}
use Rattle.std.proofs.lemmas.Bool.Decides.{nat_tests}
use Rattle.std.specs.List.{AllByRecursion}
use Rattle.cti_terms.specs.Tree.{Tree, Variable}
use Rattle.cti_terms.specs.declared.atom_list.Atom.{Atom}
use Rattle.cti_terms.specs.declared.clauses.Clause.{Clause}
use Rattle.cti_terms.specs.declared.predicates.Pred.{Pred}
use Rattle.cti_terms.specs.declared.derivation.Goal.{Goal}
use Rattle.cti_terms.specs.Listing.{Listing, IsAtom, IsClause, IsProgram}
use Rattle.cti_terms.specs.Unify.{Binding, applied}
use Rattle.cti_terms.specs.Resolve.{over, raised}
use Rattle.cti_terms.specs.ResolutionStep.{Leaves}
use Rattle.cti_terms.proofs.Unifier.{unifier_unifies}
use Rattle.termination_model.specs.sizes.Rows.{IsUpper}
use Rattle.termination_model.specs.grounds.Grounds.{HasArity, truth_row, IsGround, IsClosedUnder}
use Rattle.termination_model.proofs.Walk.{Follows, follows_map, all_at, some_each}
use Rattle.termination_model.proofs.Order.{Falls}
use Rattle.termination_model.proofs.Views.{step_walk, over_view}
use Rattle.termination_model.proofs.Levels.{upper_trans}
use Rattle.termination_model.proofs.Meaning.{Meaning, values, IsKnown, IsInductive, IsRanked, Descends, Admits, KeepsRule, Serves, Shows}

-- An atom of a component that the running call is outside of, or one that a call at levels below v has made
pub data Tag (M : Type 0) : Type 0 where
  Out : ℕ → Tag M
  In : ℕ → M → List ℕ → Tag M

-- a clause leaves the goal
abbrev pub ByClause : Listing → Atom → List Atom → ℕ → Goal → Type 0
ByClause p a rest n h = (i : ℕ) × (k : Clause) × (bs : List Binding) × (slice_get p.clauses i ≡ Some k) × Leaves a rest n k bs h

pub some_is : {X : Type 0} (Q : X → Type 0) (o : Option X) → IsSomeAnd o Q → (x : X) × (o ≡ Some x) × Q x
some_is Q None h = absurd h
some_is Q (Some x) h = (x, refl, h)

pub one_arity : (o : Option Pred) (n k : ℕ) → IsSomeAnd o (λ p. p.arity ≡ n) → IsSomeAnd o (λ p. p.arity ≡ k) → n ≡ k
one_arity None n k h l = absurd h
one_arity (Some p) n k h l = sym h ∙ l

pub all_take : {X : Type 0} (P : X → Type 0) (xs : List X) (j : ℕ) → AllByRecursion P xs → AllByRecursion P (take j xs)
all_take P [] zero h = tt
all_take P [] (suc j) h = tt
all_take P (x ∷ xs) zero h = tt
all_take P (x ∷ xs) (suc j) h = (h.0, all_take P xs j h.1)

pub each : {X : Type 0} (P Q : X → Type 0) → ((x : X) → P x → Q x) → (xs : List X) → AllByRecursion P xs → AllByRecursion Q xs
each P Q f [] h = tt
each P Q f (x ∷ xs) h = (f x h.0, each P Q f xs h.1)

pub both_each : {X : Type 0} (P Q R : X → Type 0) → ((x : X) → P x → Q x → R x) → (xs : List X) → AllByRecursion P xs → AllByRecursion Q xs → AllByRecursion R xs
both_each P Q R f [] h k = tt
both_each P Q R f (x ∷ xs) h k = (f x h.0 k.0, both_each P Q R f xs h.1 k.1)

lower_rank : (q r h : ℕ) → (q == r) ≡ false → q ≤ h → h ≡ r → q < r
lower_rank q r h e le same = grind (arith, nat_tests)

pub upper_row : (truth : (ℕ → Bool) → Tree → Bool) → ((v : ℕ → Bool) (t : Tree) → truth (λ _. false) t ≡ true → truth v t ≡ true)
    → (v : ℕ → Bool) (ts : List Tree) → IsUpper (map (truth v) ts) (map (truth (λ _. false)) ts)
upper_row truth law v [] = tt
upper_row truth law v (t ∷ ts) = (law v t, upper_row truth law v ts)

module _ {A M : Type 0} (p : Listing) (c : Meaning A M) where
  abbrev pub OwnRow : Tag M → ℕ → List Bool → Type 0
  OwnRow (Out r) q bs = (c.rank q ≡ r) × HasArity p.preds q (length bs) × Admits c q bs
  OwnRow (In r m v) q bs = (c.rank q ≡ r) × HasArity p.preds q (length bs) × (c.pre m q bs ≡ true)

  abbrev pub OwnValues : Tag M → ℕ → List A → Type 0
  OwnValues (Out r) q us = Unit {0}
  OwnValues (In r m v) q us = (length (c.levels m q us) ≡ length v) × Falls (c.levels m q us) v

  pub record Facts (ws : List (Tag M)) (xs : List Atom) : Type 0 where
    pub rows : (v : ℕ → Bool) → Follows (IsGround c.truth c.grounds v) (λ (w : Tag M) (x : Atom). OwnRow w x.pred.0 (truth_row c.truth v x)) ws xs
    pub known : (s : ℕ → A) → Follows (IsKnown c s) (λ (w : Tag M) (x : Atom). OwnValues w x.pred.0 (values c s x)) ws xs

  -- the first atom goes away, with what its ground rows and its values say
  abbrev pub ByItself : Atom → List Atom → Goal → Type 0
  ByItself a rest h = (bs : List Binding) × (h.atoms ≡ map (over (applied bs)) rest)
      × ((v : ℕ → Bool) → IsGround c.truth c.grounds (λ x. c.truth v (applied bs (Variable x))) a) × ((s : ℕ → A) → IsKnown c (λ x. c.value s (applied bs (Variable x))) a)

module _ {A M : Type 0} (p : Listing) (c : Meaning A M) (prog : IsProgram p) (shows : Shows c p) where
  abbrev pub tag_of : ℕ → M → List ℕ → Atom → Tag M
  tag_of r m u b = if c.rank b.pred.0 == r then In r m u else Out (c.rank b.pred.0)

  -- a call of a clause of the component r is of it, or below it
  pub tag_case : (r : ℕ) (m : M) (u : List ℕ) (b : Atom) (h : ℕ) → c.rank b.pred.0 ≤ h → h ≡ r
      → (P : Tag M → Type 0) → (c.rank b.pred.0 ≡ r → P (In r m u)) → (c.rank b.pred.0 < r → P (Out (c.rank b.pred.0))) → P (tag_of r m u b)
  tag_case r m u b h le same P inside below = go (c.rank b.pred.0 == r) refl
    where
      go : (t : Bool) → (c.rank b.pred.0 == r) ≡ t → P (if t then In r m u else Out (c.rank b.pred.0))
      go true e = inside (eqb-true (c.rank b.pred.0) r e)
      go false e = below (lower_rank (c.rank b.pred.0) r h e le same)

  body_arity : (k : Clause) → IsClause p.preds k → (j : ℕ) (b : Atom) → slice_get k.body j ≡ Some b → HasArity p.preds b.pred.0 (length b.args)
  body_arity k is j b e = (all_at (IsAtom p.preds k.vars) k.body j b is.body e).arity

  pub of_row : (v : ℕ → Bool) (a : Atom) → HasArity p.preds a.pred.0 (length (truth_row c.truth v a)) → HasArity p.preds a.pred.0 (length a.args)
  of_row v a h = subst (HasArity p.preds a.pred.0) (length-map a.args (c.truth v)) h

  pub to_row : (v : ℕ → Bool) (a : Atom) → HasArity p.preds a.pred.0 (length a.args) → HasArity p.preds a.pred.0 (length (truth_row c.truth v a))
  to_row v a h = subst (HasArity p.preds a.pred.0) (sym (length-map a.args (c.truth v))) h

  -- the front atom has rows of m whatever its variables are: what a clause leaves keeps the facts
  pub after : (r : ℕ) (m : M) → Serves c p r m → (a : Atom) (rest : List Atom) (n : ℕ) (w : Tag M) (ws : List (Tag M)) → Facts p c (w ∷ ws) (a ∷ rest)
      → c.rank a.pred.0 ≡ r → HasArity p.preds a.pred.0 (length a.args) → ((v : ℕ → Bool) → c.pre m a.pred.0 (truth_row c.truth v a) ≡ true)
      → (i : ℕ) (k : Clause) → slice_get p.clauses i ≡ Some k → (bs : List Binding) (h : Goal) → Leaves a rest n k bs h
      → Facts p c (map (tag_of r m (c.levels m a.pred.0 (values c (λ _. c.none) a))) k.body ++ ws) h.atoms
  after r m serves a rest n w ws facts rank arity pre i k is bs h l = subst (Facts p c (map tag k.body ++ ws)) (sym l.atoms) (record { rows = rows; known = known })
    where
      u : List ℕ
      u = c.levels m a.pred.0 (values c (λ _. c.none) a)

      tag : Atom → Tag M
      tag = tag_of r m u

      head_rank : c.rank k.head.pred.0 ≡ r
      head_rank = ap c.rank (sym l.pred) ∙ rank

      clause : IsClause p.preds k
      clause = all_at (IsClause p.preds) p.clauses i k prog.clauses is

      ranked : IsRanked c k
      ranked = all_at (IsRanked c) p.clauses i k shows.ranked is

      descends : Descends c m k
      descends = all_at (λ (x : Clause). c.rank x.head.pred.0 ≡ r → Descends c m x) p.clauses i k serves.descends is head_rank

      rule : KeepsRule c m k
      rule = all_at (λ (x : Clause). c.rank x.head.pred.0 ≡ r → KeepsRule c m x) p.clauses i k serves.rule is head_rank

      len : length a.args ≡ length k.head.args
      len = one_arity (slice_get p.preds k.head.pred.0) (length a.args) (length k.head.args) (subst (λ (q : ℕ). HasArity p.preds q (length a.args)) l.pred arity) clause.head.arity

      rank_of : (j : ℕ) (b : Atom) → slice_get k.body j ≡ Some b → c.rank b.pred.0 ≤ c.rank k.head.pred.0
      rank_of j b e = all_at (λ (x : Atom). c.rank x.pred.0 ≤ c.rank k.head.pred.0) k.body j b ranked e

      row_of : (v : ℕ → Bool) → c.pre m k.head.pred.0 (truth_row c.truth v k.head) ≡ true → (j : ℕ) (b : Atom) → slice_get k.body j ≡ Some b → AllByRecursion (IsGround c.truth c.grounds v) (take j k.body)
          → OwnRow p c (tag b) b.pred.0 (truth_row c.truth v b)
      row_of v head j b e all = tag_case r m u b (c.rank k.head.pred.0) (rank_of j b e) head_rank (λ (t : Tag M). OwnRow p c t b.pred.0 (truth_row c.truth v b))
          (λ q. (q, to_row v b (body_arity k clause j b e), (rule v head j b e all).0 (q ∙ sym head_rank)))
          (λ q. (refl, to_row v b (body_arity k clause j b e), (rule v head j b e all).1 (omega (arith, head_rank))))

      values_of : (s : ℕ → A) → c.levels m k.head.pred.0 (values c s k.head) ≡ u → (j : ℕ) (b : Atom) → slice_get k.body j ≡ Some b → AllByRecursion (IsKnown c s) (take j k.body)
          → OwnValues p c (tag b) b.pred.0 (values c s b)
      values_of s head j b e all = tag_case r m u b (c.rank k.head.pred.0) (rank_of j b e) head_rank (λ (t : Tag M). OwnValues p c t b.pred.0 (values c s b))
          (λ q. (serves.long b.pred.0 a.pred.0 (values c s b) (values c (λ _. c.none) a), subst (Falls (c.levels m b.pred.0 (values c s b))) head (descends s j b e (q ∙ sym head_rank) all)))
          (λ q. tt)

      rows : (v : ℕ → Bool) → Follows (IsGround c.truth c.grounds v) (λ (t : Tag M) (x : Atom). OwnRow p c t x.pred.0 (truth_row c.truth v x)) (map tag k.body ++ ws) (map (over (applied bs)) (map (raised n) k.body ++ rest))
      rows = step_walk c.truth shows.truth_of_instance (λ q us. c.grounds q us ≡ true) (OwnRow p c) tag w ws a rest n k bs l.pred len (unifier_unifies l.unifies) facts.rows
          (λ q us. c.pre m q us ≡ true) pre (all_at (IsClosedUnder c.truth c.grounds) p.clauses i k shows.closed.clauses is) row_of

      fixed : (s : ℕ → A) → c.levels m a.pred.0 (values c s a) ≡ u
      fixed s = serves.fixed s (λ _. c.none) a rank (pre (λ _. false))

      known : (s : ℕ → A) → Follows (IsKnown c s) (λ (t : Tag M) (x : Atom). OwnValues p c t x.pred.0 (values c s x)) (map tag k.body ++ ws) (map (over (applied bs)) (map (raised n) k.body ++ rest))
      known = step_walk c.value shows.value_of_instance c.Known (OwnValues p c) tag w ws a rest n k bs l.pred len (unifier_unifies l.unifies) facts.known
          (λ q us. c.levels m q us ≡ u) fixed (all_at (IsInductive c) p.clauses i k shows.inductive is) values_of

  pub wider : (q : ℕ) (us bs : List Bool) → IsUpper us bs → Admits c q bs → Admits c q us
  wider q us bs upper = some_each (λ (m : M). (vs : List Bool) → IsUpper vs bs → c.pre m q vs ≡ true) (λ (m : M). (vs : List Bool) → IsUpper vs us → c.pre m q vs ≡ true)
      (λ m h vs l. h vs (upper_trans vs us bs l upper)) (c.measures (c.rank q))

  -- what an atom leaves that goes away by itself
  pub itself : (a : Atom) (rest : List Atom) (w : Tag M) (ws : List (Tag M)) → Facts p c (w ∷ ws) (a ∷ rest) → (h : Goal) → ByItself p c a rest h → Facts p c ws h.atoms
  itself a rest w ws facts h (bs, atoms, grounded, sized) = subst (Facts p c ws) (sym atoms) (record { rows = rows; known = known })
    where
      rows : (v : ℕ → Bool) → Follows (IsGround c.truth c.grounds v) (λ (t : Tag M) (x : Atom). OwnRow p c t x.pred.0 (truth_row c.truth v x)) ws (map (over (applied bs)) rest)
      rows v =
          let v1 : ℕ → Bool = λ x. c.truth v (applied bs (Variable x)) in
          follows_map (over (applied bs)) (IsGround c.truth c.grounds v1) (IsGround c.truth c.grounds v) (λ (t : Tag M) (x : Atom). OwnRow p c t x.pred.0 (truth_row c.truth v1 x)) (λ (t : Tag M) (x : Atom). OwnRow p c t x.pred.0 (truth_row c.truth v x))
          (λ x g. subst (λ (us : List Bool). c.grounds x.pred.0 us ≡ true) (over_view c.truth shows.truth_of_instance v bs x) g)
          (λ t x o. subst (OwnRow p c t x.pred.0) (sym (over_view c.truth shows.truth_of_instance v bs x)) o) ws rest ((facts.rows v1).1 (grounded v))

      known : (s : ℕ → A) → Follows (IsKnown c s) (λ (t : Tag M) (x : Atom). OwnValues p c t x.pred.0 (values c s x)) ws (map (over (applied bs)) rest)
      known s =
          let s1 : ℕ → A = λ x. c.value s (applied bs (Variable x)) in
          follows_map (over (applied bs)) (IsKnown c s1) (IsKnown c s) (λ (t : Tag M) (x : Atom). OwnValues p c t x.pred.0 (values c s1 x)) (λ (t : Tag M) (x : Atom). OwnValues p c t x.pred.0 (values c s x))
          (λ x g. subst (c.Known x.pred.0) (over_view c.value shows.value_of_instance s bs x) g)
          (λ t x o. subst (OwnValues p c t x.pred.0) (sym (over_view c.value shows.value_of_instance s bs x)) o) ws rest ((facts.known s1).1 (sized s))
