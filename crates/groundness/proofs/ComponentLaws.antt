-- The least family, component by component.
use Rattle.std.proofs.Common.{◌≡◌, ℕ, zero, suc, ◌+◌, ◌<◌, ◌≤◌, ◌==◌, Bool, true, false, if◌then◌else◌, IsTrue, inl, inr, List, [], ◌∷◌, map, length, slice_get, slice_index_or, Option, None, Some, Contains, refl, ap, sym, subst, ◌∙◌, arith, eqb-true}
use Rattle.std.proofs.lemmas.Bool.{cases_eq}
use Rattle.call_components.proofs.Lists.{some_within}
use Rattle.call_components.specs.Numbers.{number_of as pred_number}
use Rattle.cti_terms.specs.declared.predicates.PredId.{PredId}
use Rattle.call_components.specs.Partition.{Partition, AreComponents}
use Rattle.cti_terms.specs.Listing.{Listing, IsProgram, IsAtom, IsClause}
use Rattle.cti_terms.specs.Tree.{Tree}
use Rattle.cti_terms.specs.declared.atom_list.Atom.{Atom}
use Rattle.cti_terms.specs.declared.clauses.Clause.{Clause}
use Rattle.cti_terms.specs.declared.predicates.Pred.{Pred}
use Rattle.linear_rows.specs.Members.{In}
use Rattle.termination_model.specs.chains.Chain.{component_of, is_number, is_member}
use Rattle.termination_model.specs.grounds.Grounds.{Family, IsClosed, IsClosedUnder, IsGround, IsInside, IsLeast, truth_row}
use Rattle.termination_model.proofs.ChainLeaves.{call_is, number_is, placed}
use Rattle.termination_model.proofs.ChainSieves.{of_all}
use Rattle.termination_model.proofs.Lists.{by_places, from_places, there}
use Rattle.groundness.specs.Marks.{HasUser, IsMarked}
use Rattle.groundness.specs.Components.{AddsOnlyNeededIn, HasNoRows, HaveStartRows, KeepsOthers}
use Rattle.termination_model.specs.grounds.LeastOver.{IsClosedIn, IsLeastOver, over}

pub number_of : (c : ℕ) (o : Option ℕ) → is_number c o ≡ true → o ≡ Some c
number_of c None e = cc
number_of c (Some d) e = ap Some (eqb-true d c e)

pub needed_more : (truth : (ℕ → Bool) → Tree → Bool) (p : Listing) (m : ℕ → Bool) (old now new : Family) → AddsOnlyNeededIn truth p m old now → AddsOnlyNeededIn truth p m now new → AddsOnlyNeededIn truth p m old new
needed_more truth p m old now new a b other closed inside = b other closed (a other closed inside)

-- ---- a search that ends is at the least family
module _ (truth : (ℕ → Bool) → Tree → Bool) (p : Listing) (m : ℕ → Bool) (old new : Family) where
  over_new : KeepsOthers m old new → over truth p m old new ≡ new
  over_new others = λ i q. at q (m q) refl i
    where
      at : (q : ℕ) (b : Bool) → m q ≡ b → over truth p m old new q ≡ new q
      at q true e = ap (λ (b : Bool). if b then new q else old q) e
      at q false e = ap (λ (b : Bool). if b then new q else old q) e ∙ sym (others q e)

  pub least_over : KeepsOthers m old new → HaveStartRows p.arithmetic m old → IsInside old new → AddsOnlyNeededIn truth p m old new
      → ((j : ℕ) (k : Clause) → slice_get p.clauses j ≡ Some k → m k.head.pred.0 ≡ true → IsClosedUnder truth new k) → IsLeastOver truth p m old new
  least_over others start more needed closed = record {
    closed = subst (IsClosedIn truth p m) (sym (over_new others)) (record {
      clauses = closed;
      builtins = λ q b is member. more q (true ∷ (true ∷ [])) (start.builtins q b is member);
    });
    least = λ other k q row is h.
        subst (λ (b : Bool). IsTrue ((if b then other q else old q) row)) is (needed (over truth p m old other) k (λ r x t. inside other k r x (m r) refl t) q row h);
  }
    where
      inside : (other : Family) → IsClosedIn truth p m (over truth p m old other) → (r : ℕ) (x : List Bool) (b : Bool) → m r ≡ b → IsTrue (old r x) → IsTrue ((if m r then other r else old r) x)
      inside other k r x true e t = start.alone (over truth p m old other) k.builtins r x e t
      inside other k r x false e t = subst (λ (b : Bool). IsTrue ((if b then other r else old r) x)) (sym e) t

-- ---- what was the least stays so while other sets change
module _ (truth : (ℕ → Bool) → Tree → Bool) (p : Listing) (m : ℕ → Bool) (below family new_below new_family : Family)
    (same : (q : ℕ) → m q ≡ true → new_family q ≡ family q)
    (same_below : (j : ℕ) (k : Clause) → slice_get p.clauses j ≡ Some k → m k.head.pred.0 ≡ true → (i : ℕ) (b : Atom) → slice_get k.body i ≡ Some b → m b.pred.0 ≡ false → new_below b.pred.0 ≡ below b.pred.0) where
  module _ (f g : Family) (agree : (q : ℕ) → m q ≡ true → g q ≡ f q) where
    at : (q : ℕ) → (m q ≡ false → new_below q ≡ below q) → over truth p m new_below g q ≡ over truth p m below f q
    at q low = go (m q) refl
      where
        go : (b : Bool) → m q ≡ b → (if b then g q else new_below q) ≡ (if b then f q else below q)
        go true e = agree q e
        go false e = low e

    clause_on : IsClosedIn truth p m (over truth p m below f) → (j : ℕ) (x : Clause) → slice_get p.clauses j ≡ Some x → m x.head.pred.0 ≡ true → IsClosedUnder truth (over truth p m new_below g) x
    clause_on k j x e is v body =
        subst (λ (u : List Bool → Bool). IsTrue (u (truth_row truth v x.head))) (sym (at x.head.pred.0 (λ off. absurd (cc))))
        (k.clauses j x e is v (from_places (IsGround truth (over truth p m below f) v) x.body (λ i b there.
        subst (λ (u : List Bool → Bool). IsTrue (u (truth_row truth v b))) (at b.pred.0 (same_below j x e is i b there)) (by_places (IsGround truth (over truth p m new_below g) v) x.body body i b there))))

    closed_on : IsClosedIn truth p m (over truth p m below f) → IsClosedIn truth p m (over truth p m new_below g)
    closed_on k = record {
      clauses = λ j x e is v body. clause_on k j x e is v body;
      builtins = λ q b is member. subst (λ (u : List Bool → Bool). IsTrue (u (true ∷ (true ∷ [])))) (sym (at q (λ off. absurd (cc)))) (k.builtins q b is member);
    }

    clause_back : IsClosedIn truth p m (over truth p m new_below g) → (j : ℕ) (x : Clause) → slice_get p.clauses j ≡ Some x → m x.head.pred.0 ≡ true → IsClosedUnder truth (over truth p m below f) x
    clause_back k j x e is v body =
        subst (λ (u : List Bool → Bool). IsTrue (u (truth_row truth v x.head))) (at x.head.pred.0 (λ off. absurd (cc)))
        (k.clauses j x e is v (from_places (IsGround truth (over truth p m new_below g) v) x.body (λ i b there.
        subst (λ (u : List Bool → Bool). IsTrue (u (truth_row truth v b))) (sym (at b.pred.0 (same_below j x e is i b there))) (by_places (IsGround truth (over truth p m below f) v) x.body body i b there))))

    closed_back : IsClosedIn truth p m (over truth p m new_below g) → IsClosedIn truth p m (over truth p m below f)
    closed_back k = record {
      clauses = λ j x e is v body. clause_back k j x e is v body;
      builtins = λ q b is member. subst (λ (u : List Bool → Bool). IsTrue (u (true ∷ (true ∷ [])))) (at q (λ off. absurd (cc))) (k.builtins q b is member);
    }

  pub least_stays : IsLeastOver truth p m below family → IsLeastOver truth p m new_below new_family
  least_stays l = record {
    closed = closed_on family new_family same l.closed;
    least = λ other k q row is h. l.least other (closed_back other other (λ r o. refl) k) q row is (subst (λ (u : List Bool → Bool). IsTrue (u row)) (same q is) h);
  }

-- ---- all components
module _ (truth : (ℕ → Bool) → Tree → Bool) (p : Listing) (comps : Partition) where
  -- components below c are at their least, above the others
  pub record AreLeastTo (c : ℕ) (family : Family) : Type 0 where
    pub least : (d : ℕ) → d < c → IsLeastOver truth p (is_member comps d) family family
    pub none : (q : ℕ) (row : List Bool) → component_of comps q ≡ None → IsTrue (family q row) → ⊥

module _ (truth : (ℕ → Bool) → Tree → Bool) (p : Listing) (comps : Partition) (prog : IsProgram p) (are : AreComponents p comps) where
  clause_at : (j : ℕ) (k : Clause) → slice_get p.clauses j ≡ Some k → In k p.clauses × IsClause p.preds k
  clause_at j k e = (in_at p.clauses j e, by_places (IsClause p.preds) p.clauses prog.clauses j k e)
    where
      in_at : (ks : List Clause) (i : ℕ) → slice_get ks i ≡ Some k → In k ks
      in_at [] i e = cc
      in_at (x ∷ ks) zero e = inl cc
      in_at (x ∷ ks) (suc i) e = inr (in_at ks i e)

  in_body : (k : Clause) (i : ℕ) (b : Atom) → slice_get k.body i ≡ Some b → In b k.body
  in_body k i b e = go k.body i e
    where
      go : (bs : List Atom) (i : ℕ) → slice_get bs i ≡ Some b → In b bs
      go [] i e = cc
      go (x ∷ bs) zero e = inl cc
      go (x ∷ bs) (suc i) e = inr (go bs i e)

  -- a predicate that a component's clause calls is of it or of an earlier one
  pub callee : (c j : ℕ) (k : Clause) → slice_get p.clauses j ≡ Some k → component_of comps k.head.pred.0 ≡ Some c → (i : ℕ) (b : Atom) → slice_get k.body i ≡ Some b → (d : ℕ) × (component_of comps b.pred.0 ≡ Some d) × (d ≤ c)
  callee c j k at own i b e =
      let there = clause_at j k at in
      let body = in_body k i b e in
      let d = placed p comps prog are k.vars b (of_all (IsAtom p.preds k.vars) k.body b there.1.body body) in
      (d.0, d.1, are.callees_first k.head.pred.0 b.pred.0 c d.0 own d.1 (call_is p comps prog are k b there.0 body))

  -- each predicate is in a component
  component_there : (q : ℕ) → q < length p.preds → component_of comps q ≡ Some (slice_index_or comps.of q 0)
  component_there q lt = there comps.of q 0 (omega (arith, lt, are.each))

  module _ (c : ℕ) (old new : Family) (to : AreLeastTo truth p comps c old) (others : KeepsOthers (is_member comps c) old new) (least : IsLeastOver truth p (is_member comps c) old new) where
    off_member : (d q : ℕ) → component_of comps q ≡ Some d → (d ≡ c → ⊥) → is_member comps c q ≡ false
    off_member d q e ne = ap (is_number c) e ∙ go (d == c) refl
      where
        go : (b : Bool) → (d == c) ≡ b → b ≡ false
        go true is = absurd (ne (eqb-true d c is))
        go false is = refl

    kept : (d q : ℕ) → component_of comps q ≡ Some d → (d ≡ c → ⊥) → new q ≡ old q
    kept d q e ne = others q (off_member d q e ne)

    stays : (d : ℕ) → d < c → IsLeastOver truth p (is_member comps d) new new
    stays d lt = least_stays truth p (is_member comps d) old old new new
        (λ q is. kept d q (number_of d (component_of comps q) is) (λ e. absurd (omega arith)))
        (λ j k at is i b e off.
        let low = callee d j k at (number_of d (component_of comps k.head.pred.0) is) i b e in
        kept low.0 b.pred.0 low.1 (λ f. absurd (omega (arith, low.2))))
        (to.least d lt)

    own : IsLeastOver truth p (is_member comps c) new new
    own = least_stays truth p (is_member comps c) old new new new (λ q is. refl) (λ j k at is i b e off. others b.pred.0 off) least

    pub least_more : AreLeastTo truth p comps (c + 1) new
    least_more = record {
      least = λ d lt. elim (cases_eq d c) [
        | inl same ↦ subst (λ (x : ℕ). IsLeastOver truth p (is_member comps x) new new) (sym same) own
        | inr ne ↦ stays d (omega arith)
      ];
      none = λ q row e t. to.none q row e (subst (λ (u : List Bool → Bool). IsTrue (u row)) (others q (ap (is_number c) e)) t);
    }

  pub least_start : (family : Family) → HasNoRows family → AreLeastTo truth p comps 0 family
  least_start family none = record {
    least = λ d lt. absurd (omega arith);
    none = λ q row e t. none q row t;
  }

  module _ (family : Family) (all : AreLeastTo truth p comps (length comps.members) family) where
    same_over : (m : ℕ → Bool) → over truth p m family family ≡ family
    same_over m = λ i q. go q (m q) i
      where
        go : (q : ℕ) (b : Bool) → (if b then family q else family q) ≡ family q
        go q true = refl
        go q false = refl

    own_of : (j : ℕ) (k : Clause) → slice_get p.clauses j ≡ Some k → (c : ℕ) × (component_of comps k.head.pred.0 ≡ Some c)
    own_of j k at = let there = clause_at j k at in placed p comps prog are k.vars k.head there.1.head

    whole_closed : IsClosed truth p family
    whole_closed = record {
      clauses = from_places (IsClosedUnder truth family) p.clauses (λ j k at.
          let c = own_of j k at in
          let l = all.least c.0 (are.within c.0 k.head.pred.0 c.1) in
          subst (λ (g : Family). IsClosedUnder truth g k) (same_over (is_member comps c.0)) (l.closed.clauses j k at (number_is c.0 (component_of comps k.head.pred.0) c.1)));
      builtins = λ q b is.
          let lt = some_within (λ (x : Pred). x.arity ≡ 2) p.preds q (prog.binary q b is) in
          let c = slice_index_or comps.of q 0 in
          let at = component_there q lt in
          let l = all.least c (are.within c q at) in
          subst (λ (g : Family). IsTrue (g q (true ∷ (true ∷ [])))) (same_over (is_member comps c)) (l.closed.builtins q b is (number_is c (component_of comps q) at));
    }

    module _ (other : Family) (closed : IsClosed truth p other) where
      abbrev Inside : ℕ → Type 0
      Inside c = (d q : ℕ) (row : List Bool) → d < c → component_of comps q ≡ Some d → IsTrue (family q row) → IsTrue (other q row)

      step : (c : ℕ) → c < length comps.members → Inside c → Inside (suc c)
      step c lt before d q row l e h = elim (cases_eq d c) [
        | inl same ↦ (all.least c lt).least other (record {
          clauses = λ j k at is v body.
              let own = number_of c (component_of comps k.head.pred.0) is in
              let given = by_places (IsClosedUnder truth other) p.clauses closed.clauses j k at v
              (from_places (IsGround truth other v) k.body (λ i b there.
              let low = callee c j k at own i b there in
              enter v b low.0 low.1 low.2 (is_member comps c b.pred.0) refl (by_places (IsGround truth (over truth p (is_member comps c) family other) v) k.body body i b there))) in
              subst (λ (b : Bool). IsTrue ((if b then other k.head.pred.0 else family k.head.pred.0) (truth_row truth v k.head))) (sym is) given;
          builtins = λ r b kind member. subst (λ (t : Bool). IsTrue ((if t then other r else family r) (true ∷ (true ∷ [])))) (sym member) (closed.builtins r b kind);
        })
            q row (number_is c (component_of comps q) (e ∙ ap Some same)) h
        | inr ne ↦ before d q row (omega arith) e h
      ]
        where
          enter : (v : ℕ → Bool) (b : Atom) (d : ℕ) → component_of comps b.pred.0 ≡ Some d → d ≤ c → (t : Bool) → is_member comps c b.pred.0 ≡ t → IsTrue ((if is_member comps c b.pred.0 then other b.pred.0 else family b.pred.0) (truth_row truth v b)) → IsTrue (other b.pred.0 (truth_row truth v b))
          enter v b d at le true e h = subst (λ (b' : Bool). IsTrue ((if b' then other b.pred.0 else family b.pred.0) (truth_row truth v b))) e h
          enter v b d at le false e h = elim (cases_eq d c) [
            | inl same ↦ let on_ = number_is c (component_of comps b.pred.0) (at ∙ ap Some same) in absurd (cc)
            | inr ne ↦ before d b.pred.0 (truth_row truth v b) (omega arith) at (subst (λ (b' : Bool). IsTrue ((if b' then other b.pred.0 else family b.pred.0) (truth_row truth v b))) e h)
          ]

      inside_to : (c : ℕ) → c ≤ length comps.members → Inside c
      inside_to zero le d q row l e h = absurd (omega arith)
      inside_to (suc c) le d q row l e h = step c (omega arith) (inside_to c (omega arith)) d q row l e h

    pub whole : IsLeast truth p family
    whole = record { closed = whole_closed; least = λ other closed q row h. go other closed q row h (component_of comps q) refl }
      where
        go : (other : Family) → IsClosed truth p other → (q : ℕ) (row : List Bool) → IsTrue (family q row) → (o : Option ℕ) → component_of comps q ≡ o → IsTrue (other q row)
        go other closed q row h None e = absurd (all.none q row e h)
        go other closed q row h (Some d) e = inside_to other closed (length comps.members) (omega arith) d q row (are.within d q e) e h

-- ---- members by their places
pub member_place : (members : List PredId) (q : ℕ) → Contains (map pred_number members) q → (j : ℕ) × (a : PredId) × (slice_get members j ≡ Some a) × (q ≡ a.0)
member_place [] q (k, lt, e) = absurd (omega arith)
member_place (a ∷ members) q (zero, lt, e) = (0, a, refl, sym e)
member_place (a ∷ members) q (suc k, lt, e) = let r = member_place members q (k, omega arith, e) in (suc r.0, r.1, r.2, r.3)

pub marked_member : (p : Listing) (comps : Partition) → AreComponents p comps → (c : ℕ) (members : List PredId) → slice_get comps.members c ≡ Some (map pred_number members)
    → (heads : List (List ℕ)) (marks : List Bool) → ((i j : ℕ) (a : PredId) → slice_get members i ≡ Some a → HasUser heads a.0 j → IsMarked marks j)
    → (j : ℕ) (k : Clause) → HasUser heads k.head.pred.0 j → is_member comps c k.head.pred.0 ≡ true → IsMarked marks j
marked_member p comps are c members at heads marks all j k has member =
    let own = number_of c (component_of comps k.head.pred.0) member in
    let place = member_place members k.head.pred.0 ((are.members c (map pred_number members) at k.head.pred.0).1 own) in
    all place.0 j place.1 place.2 (subst (λ (q : ℕ). HasUser heads q j) place.3 has)

pub unequal : (m n : ℕ) → (m ≡ n → ⊥) → (m == n) ≡ false
unequal m n h = go (m == n) refl
  where
    go : (b : Bool) → (m == n) ≡ b → b ≡ false
    go true e = absurd (h (eqb-true m n e))
    go false e = refl
