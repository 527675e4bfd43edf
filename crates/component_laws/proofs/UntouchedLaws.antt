-- The component of an untouched predicate stands in the new program.
use Rattle.std.proofs.Common.{◌≡◌, ◌≢◌, ℕ, ◌<◌, nat_lt, Bool, true, false, cond, inl, inr, List, [], ◌∷◌, map, slice_get, slice_index_or, Option, None, Some, refl, ap, sym, subst, ◌∙◌, arith}
use Rattle.std.specs.Prelude.{Any, filter}
use Rattle.std.specs.List.{AllPairs}
use Rattle.std.proofs.lemmas.Bool.Decides.{nat_tests}
use Rattle.call_components.specs.Calls.{Calls, Reaches, itself, onward}
use Rattle.call_components.specs.Partition.{Partition, AreComponents, IsIn}
use Rattle.call_components.proofs.Lists.{any_cases}
use Rattle.cti_terms.specs.Arithmetic.{kind_of}
use Rattle.cti_terms.specs.Listing.{Listing, IsProgram}
use Rattle.cti_terms.specs.declared.atom_list.Atom.{Atom}
use Rattle.cti_terms.specs.declared.clauses.Clause.{Clause}
use Rattle.cti_terms.specs.declared.predicates.Pred.{Pred}
use Rattle.linear_rows.specs.Members.{In}
use Rattle.linear_rows.proofs.Members.{in-filter, in-map, of-filter, of-map}
use Rattle.termination_model.specs.chains.Chain.{component_of, is_member}
use Rattle.termination_model.proofs.ChainLeaves.{call_is, number_is}
use Rattle.termination_model.proofs.Lists.{indexed, place_below, there}
use Rattle.component_laws.specs.Renaming.{IsOver, StandIn, own_clauses, renamed}
use Rattle.component_laws.specs.Untouched.{AreUntouched, FindsByName, IsKnown, KeepKinds, NamedAtom, NamedClause, UntouchedStand, clauses_in, is_in, named, named_atom}
use Rattle.component_laws.proofs.LeastLaws.{number_of}
use Rattle.component_laws.proofs.BlownLaws.{filter_map}
use Rattle.component_laws.proofs.NamedLaws.{clause_is, pred_in}

-- ---- a predicate has one number
module _ (xs : List Pred) (distinct : AllPairs (λ (q r : Pred). q ≢ r) xs) where
  not_before : (i j : ℕ) (x : Pred) → slice_get xs i ≡ Some x → slice_get xs j ≡ Some x → i < j → ⊥
  not_before i j x e f l = distinct i j x l (place_below xs j x f) (indexed xs i x x e ∙ sym (indexed xs j x x f))

  pub one_number : (i j : ℕ) (x : Pred) → slice_get xs i ≡ Some x → slice_get xs j ≡ Some x → i ≡ j
  one_number i j x e f = go (nat_lt i j) (nat_lt j i) refl refl
    where
      go : (a b : Bool) → nat_lt i j ≡ a → nat_lt j i ≡ b → i ≡ j
      go true b t u = absurd (not_before i j x e f (grind (arith, nat_tests)))
      go false true t u = absurd (not_before j i x f e (grind (arith, nat_tests)))
      go false false t u = grind (arith, nat_tests)

of_any : {X : Type 0} (P : X → Type 0) (xs : List X) → Any P xs → (x : X) × In x xs × P x
of_any P [] (k, y, l, e, p) = absurd (omega arith)
of_any P (x ∷ xs) a = elim (any_cases P x xs a) [
  | inl here ↦ (x, inl refl, here)
  | inr more ↦ let r = of_any P xs more in (r.0, inr r.1, r.2)
]

-- elements of lists that are alike
in_alike : {X Y Z : Type 0} (g : X → Z) (h : Y → Z) (xs : List X) (ys : List Y) → map g xs ≡ map h ys → (x : X) → In x xs → (y : Y) × In y ys × (g x ≡ h y)
in_alike {Z = Z} g h xs ys e x i =
    let there : In (g x) (map h ys) = subst (λ (zs : List Z). In (g x) zs) e (in-map g xs x i) in
    let r = of-map h ys (g x) there in
    (r.0, r.1, sym r.2)

module _ (p new : Listing) (comps new_comps : Partition) (f : ℕ → ℕ) (set : Pred → Bool) (prog : IsProgram p) (new_prog : IsProgram new) (are : AreComponents p comps) (new_are : AreComponents new new_comps)
    (finds : FindsByName p new f) (un : AreUntouched p new set) where
  abbrev Known : ℕ → Type 0
  Known = IsKnown p new set

  -- ---- clauses of the set
  in_set : (g : Listing) → NamedClause → Bool
  in_set g k = is_in set k.head.pred

  from_new : (l : Clause) → In l new.clauses → is_in set (slice_get new.preds l.head.pred.0) ≡ true → (k : Clause) × In k p.clauses × (named p k ≡ named new l)
  from_new l i among =
      let here : In (named new l) (clauses_in set new) = in-filter (λ (k : NamedClause). is_in set k.head.pred) (map (named new) new.clauses) (named new l) among (in-map (named new) new.clauses l i) in
      let there : In (named new l) (clauses_in set p) = subst (λ (zs : List NamedClause). In (named new l) zs) un.same here in
      let found = of-filter (λ (k : NamedClause). is_in set k.head.pred) (map (named p) p.clauses) (named new l) there in
      of-map (named p) p.clauses (named new l) found.0

  from_old : (k : Clause) → In k p.clauses → is_in set (slice_get p.preds k.head.pred.0) ≡ true → (l : Clause) × In l new.clauses × (named new l ≡ named p k)
  from_old k i among =
      let here : In (named p k) (clauses_in set p) = in-filter (λ (x : NamedClause). is_in set x.head.pred) (map (named p) p.clauses) (named p k) among (in-map (named p) p.clauses k i) in
      let there : In (named p k) (clauses_in set new) = subst (λ (zs : List NamedClause). In (named p k) zs) (sym un.same) here in
      let found = of-filter (λ (x : NamedClause). is_in set x.head.pred) (map (named new) new.clauses) (named p k) there in
      of-map (named new) new.clauses (named p k) found.0

  -- ---- what clauses alike say
  same_head : (k l : Clause) → named p k ≡ named new l → slice_get p.preds k.head.pred.0 ≡ slice_get new.preds l.head.pred.0
  same_head k l e = ap (λ (x : NamedClause). x.head.pred) e

  same_body : (k l : Clause) → named p k ≡ named new l → map (named_atom p) k.body ≡ map (named_atom new) l.body
  same_body k l e = ap (λ (x : NamedClause). x.body) e

  -- ---- calls
  abbrev Same : ℕ → ℕ → Type 0
  Same q r = (x : Pred) × (slice_get p.preds q ≡ Some x) × (slice_get new.preds r ≡ Some x) × (set x ≡ true)

  among_of : (q : ℕ) (x : Pred) → slice_get p.preds q ≡ Some x → set x ≡ true → is_in set (slice_get p.preds q) ≡ true
  among_of q x e s = ap (is_in set) e ∙ s

  among_new : (r : ℕ) (x : Pred) → slice_get new.preds r ≡ Some x → set x ≡ true → is_in set (slice_get new.preds r) ≡ true
  among_new r x e s = ap (is_in set) e ∙ s

  call_back : (q r s : ℕ) → Same q r → Calls new r s → (t : ℕ) × Same t s × Calls p q t
  call_back q r s same calls =
      let c = of_any (λ (k : Clause). (k.head.pred.0 ≡ r) × Any (λ (x : Atom). x.pred.0 ≡ s) k.body) new.clauses calls in
      let l = c.0 in
      let at_head : slice_get new.preds l.head.pred.0 ≡ Some same.0 = ap (slice_get new.preds) c.2.0 ∙ same.2 in
      let b = of_any (λ (x : Atom). x.pred.0 ≡ s) l.body c.2.1 in
      let found = from_new l c.1 (among_new l.head.pred.0 same.0 at_head same.3) in
      let k = found.0 in
      let a = in_alike (named_atom new) (named_atom p) l.body k.body (sym (same_body k l found.2)) b.0 b.1 in
      let pred = pred_in new new_prog l c.1 b.0 b.1 in
      let there : slice_get new.preds s ≡ Some pred.0 = ap (slice_get new.preds) (sym b.2) ∙ pred.1 in
      let here : slice_get p.preds a.0.pred.0 ≡ Some pred.0 = sym (ap (λ (x : NamedAtom). x.pred) a.2) ∙ pred.1 in
      let own_head : slice_get p.preds k.head.pred.0 ≡ Some same.0 = same_head k l found.2 ∙ at_head in
      let is_q : k.head.pred.0 ≡ q = one_number p.preds prog.distinct k.head.pred.0 q same.0 own_head same.1 in
      let call : Calls p q a.0.pred.0 = subst (λ (z : ℕ). Calls p z a.0.pred.0) is_q (call_is p comps prog are k a.0 found.1 a.1) in
      let closed = un.before q a.0.pred.0 call (among_of q same.0 same.1 same.3) in
      let among : set pred.0 ≡ true = sym (ap (is_in set) here) ∙ closed in
      (a.0.pred.0, (pred.0, here, there, among), call)

  call_on : (q r t : ℕ) → Same q r → Calls p q t → (s : ℕ) × Same t s × Calls new r s
  call_on q r t same calls =
      let c = of_any (λ (k : Clause). (k.head.pred.0 ≡ q) × Any (λ (x : Atom). x.pred.0 ≡ t) k.body) p.clauses calls in
      let k = c.0 in
      let at_head : slice_get p.preds k.head.pred.0 ≡ Some same.0 = ap (slice_get p.preds) c.2.0 ∙ same.1 in
      let b = of_any (λ (x : Atom). x.pred.0 ≡ t) k.body c.2.1 in
      let found = from_old k c.1 (among_of k.head.pred.0 same.0 at_head same.3) in
      let l = found.0 in
      let a = in_alike (named_atom p) (named_atom new) k.body l.body (sym (ap (λ (x : NamedClause). x.body) found.2)) b.0 b.1 in
      let pred = pred_in p prog k c.1 b.0 b.1 in
      let here : slice_get p.preds t ≡ Some pred.0 = ap (slice_get p.preds) (sym b.2) ∙ pred.1 in
      let there : slice_get new.preds a.0.pred.0 ≡ Some pred.0 = sym (ap (λ (x : NamedAtom). x.pred) a.2) ∙ pred.1 in
      let own_head : slice_get new.preds l.head.pred.0 ≡ Some same.0 = ap (λ (x : NamedClause). x.head.pred) found.2 ∙ at_head in
      let is_r : l.head.pred.0 ≡ r = one_number new.preds new_prog.distinct l.head.pred.0 r same.0 own_head same.2 in
      let call : Calls new r a.0.pred.0 = subst (λ (z : ℕ). Calls new z a.0.pred.0) is_r (call_is new new_comps new_prog new_are l a.0 found.1 a.1) in
      let closed = un.before q t calls (among_of q same.0 same.1 same.3) in
      let among : set pred.0 ≡ true = sym (ap (is_in set) here) ∙ closed in
      (a.0.pred.0, (pred.0, here, there, among), call)

  reach_back : (q r s : ℕ) → Same q r → Reaches (Calls new) r s → (t : ℕ) × Same t s × Reaches (Calls p) q t
  reach_back q r s same (itself) = (q, same, itself)
  reach_back q r s same (onward call more) =
      let c = call_back q r _ same call in
      let m = reach_back c.0 _ s c.1 more in
      (m.0, m.1, onward c.2 m.2)

  reach_on : (q r t : ℕ) → Same q r → Reaches (Calls p) q t → (s : ℕ) × Same t s × Reaches (Calls new) r s
  reach_on q r t same (itself) = (r, same, itself)
  reach_on q r t same (onward call more) =
      let c = call_on q r _ same call in
      let m = reach_on _ c.0 t c.1 more in
      (m.0, m.1, onward c.2 m.2)

  same_pred : (t r : ℕ) (s : Same t r) (x : Pred) → slice_get new.preds r ≡ Some x → s.0 ≡ x
  same_pred t r s x e = let e2 = s.2 in cc

  -- ---- clauses that are alike
  found : (q r : ℕ) → Same q r → f q ≡ r
  found q r s = finds q r s.0 s.1 s.2

  -- ---- members
  module _ (c d q0 r0 : ℕ) (same0 : Same q0 r0) (in0 : IsIn comps c q0) (new_in0 : IsIn new_comps d r0) where
    back_to : (t : ℕ) → Same t r0 → t ≡ q0
    back_to t s =
        let is : s.0 ≡ same0.0 = same_pred t r0 s same0.0 same0.2 in
        one_number p.preds prog.distinct t q0 same0.0 (s.1 ∙ ap Some is) same0.1

    on_to : (s : ℕ) → Same q0 s → s ≡ r0
    on_to s h =
        let e1 = h.1 in
        let e2 = same0.1 in
        let is : h.0 ≡ same0.0 = cc in
        one_number new.preds new_prog.distinct s r0 same0.0 (h.2 ∙ ap Some is) same0.2

    placed_here : (t : ℕ) (x : Pred) → slice_get p.preds t ≡ Some x → (e : ℕ) × IsIn comps e t
    placed_here t x at = let lt = place_below p.preds t x at in (slice_index_or comps.of t 0, there comps.of t 0 (omega (arith, are.each)))

    placed_there : (t : ℕ) (x : Pred) → slice_get new.preds t ≡ Some x → (e : ℕ) × IsIn new_comps e t
    placed_there t x at = let lt = place_below new.preds t x at in (slice_index_or new_comps.of t 0, there new_comps.of t 0 (omega (arith, new_are.each)))

    member_back : (s : ℕ) → IsIn new_comps d s → (t : ℕ) × Same t s × IsIn comps c t
    member_back s i =
        let both = (new_are.together r0 s d d new_in0 i).0 refl in
        let m = reach_back q0 r0 s same0 both.0 in
        let n = reach_back m.0 s r0 m.1 both.1 in
        let e = placed_here m.0 m.1.0 m.1.1 in
        let back : Reaches (Calls p) m.0 q0 = subst (λ (z : ℕ). Reaches (Calls p) m.0 z) (back_to n.0 n.1) n.2 in
        let is : c ≡ e.0 = (are.together q0 m.0 c e.0 in0 e.1).1 (m.2, back) in
        (m.0, m.1, subst (λ (z : ℕ). IsIn comps z m.0) (sym is) e.1)

    member_on : (t : ℕ) → IsIn comps c t → (s : ℕ) × Same t s × IsIn new_comps d s
    member_on t i =
        let both = (are.together q0 t c c in0 i).0 refl in
        let m = reach_on q0 r0 t same0 both.0 in
        let n = reach_on t m.0 q0 m.1 both.1 in
        let e = placed_there m.0 m.1.0 m.1.2 in
        let on : Reaches (Calls new) m.0 r0 = subst (λ (z : ℕ). Reaches (Calls new) m.0 z) (on_to n.0 n.1) n.2 in
        let is : d ≡ e.0 = (new_are.together r0 m.0 d e.0 new_in0 e.1).1 (m.2, on) in
        (m.0, m.1, subst (λ (z : ℕ). IsIn new_comps z m.0) (sym is) e.1)

    known_of : (t s : ℕ) → Same t s → Known t
    known_of t s h = record { pred = h.0; number = s; here = h.1; there = h.2; among = h.3 }

    same_of : (t : ℕ) (k : Known t) → Same t k.number
    same_of t k = (k.pred, k.here, k.there, k.among)

    known_member : (t : ℕ) → is_member comps c t ≡ true → Known t
    known_member t m = let on = member_on t (number_of c (component_of comps t) m) in known_of t on.0 on.1

    apart : (q r : ℕ) → Known q → Known r → f q ≡ f r → q ≡ r
    apart q r a b e =
        let number : a.number ≡ b.number = sym (found q a.number (same_of q a)) ∙ e ∙ found r b.number (same_of r b) in
        let at : slice_get new.preds a.number ≡ Some b.pred = ap (slice_get new.preds) number ∙ b.there in
        let is : a.pred ≡ b.pred = (let e1 = a.there in cc) in
        one_number p.preds prog.distinct q r b.pred (a.here ∙ ap Some is) b.here

    members_agree : (q : ℕ) → Known q → is_member new_comps d (f q) ≡ is_member comps c q
    members_agree q k = go (is_member comps c q) refl
      where
        other : (b : Bool) → is_member new_comps d (f q) ≡ b → is_member comps c q ≡ false → b ≡ false
        other false e off = refl
        other true e off =
            let m = member_back (f q) (number_of d (component_of new_comps (f q)) e) in
            let number : f q ≡ k.number = found q k.number (same_of q k) in
            let pred : m.1.0 ≡ k.pred = same_pred m.0 (f q) m.1 k.pred (ap (slice_get new.preds) number ∙ k.there) in
            let is : m.0 ≡ q = one_number p.preds prog.distinct m.0 q k.pred (m.1.1 ∙ ap Some pred) k.here in
            let on_ : is_member comps c q ≡ true = ap (is_member comps c) (sym is) ∙ number_is c (component_of comps m.0) m.2 in
            absurd (cc)

        go : (b : Bool) → is_member comps c q ≡ b → is_member new_comps d (f q) ≡ b
        go true e =
            let m = member_on q (number_of c (component_of comps q) e) in
            ap (is_member new_comps d) (found q m.0 m.1) ∙ number_is d (component_of new_comps m.0) m.2
        go false e = other (is_member new_comps d (f q)) refl e

    members_from : (r : ℕ) → is_member new_comps d r ≡ true → (q : ℕ) × Known q × (is_member comps c q ≡ true) × (f q ≡ r)
    members_from r m =
        let b = member_back r (number_of d (component_of new_comps r) m) in
        (b.0, known_of b.0 r b.1, number_is c (component_of comps b.0) b.2, found b.0 r b.1)

    -- ---- the lists of clauses
    abbrev mine : Clause → Bool
    mine k = is_member comps c k.head.pred.0

    abbrev theirs : Clause → Bool
    theirs l = is_member new_comps d l.head.pred.0

    abbrev here_in : Clause → Bool
    here_in k = is_in set (slice_get p.preds k.head.pred.0)

    abbrev there_in : Clause → Bool
    there_in l = is_in set (slice_get new.preds l.head.pred.0)

    sub_filter : (s t : Clause → Bool) (xs : List Clause) → ((x : Clause) → t x ≡ true → s x ≡ true) → filter t xs ≡ filter t (filter s xs)
    sub_filter s t [] h = refl
    sub_filter s t (x ∷ xs) h =
        let more = sub_filter s t xs h in
        (λ i. cond (t x) (x ∷ more i) (more i)) ∙ go (s x) (t x) refl refl
      where
        go : (a b : Bool) → s x ≡ a → t x ≡ b → cond b (x ∷ filter t (filter s xs)) (filter t (filter s xs)) ≡ filter t (cond a (x ∷ filter s xs) (filter s xs))
        go true b e g = λ i. cond (sym g i) (x ∷ filter t (filter s xs)) (filter t (filter s xs))
        go false false e g = refl
        go false true e g = let on_ = h x g in absurd (cc)

    among_known : (t : ℕ) (k : Known t) → is_in set (slice_get p.preds t) ≡ true
    among_known t k = ap (is_in set) k.here ∙ k.among

    mine_in : (k : Clause) → mine k ≡ true → here_in k ≡ true
    mine_in k m = among_known k.head.pred.0 (known_member k.head.pred.0 m)

    theirs_in : (l : Clause) → theirs l ≡ true → there_in l ≡ true
    theirs_in l m =
        let b = member_back l.head.pred.0 (number_of d (component_of new_comps l.head.pred.0) m) in
        ap (is_in set) b.1.2 ∙ b.1.3

    set_pred : (o : Option Pred) → is_in set o ≡ true → (x : Pred) × (o ≡ Some x) × (set x ≡ true)
    set_pred None e = cc
    set_pred (Some x) e = (x, refl, e)

    pairs_alike : (ls ks : List Clause) → map (named new) ls ≡ map (named p) ks → ((l : Clause) → In l ls → In l new.clauses × (there_in l ≡ true)) → filter theirs ls ≡ map (renamed f) (filter mine ks)
    pairs_alike [] [] e h = refl
    pairs_alike [] (k ∷ ks) e h = cc
    pairs_alike (l ∷ ls) [] e h = cc
    pairs_alike (l ∷ ls) (k ∷ ks) e h =
        let first : named new l ≡ named p k = cc in
        let rest : map (named new) ls ≡ map (named p) ks = cc in
        let is = clause_is p new f finds new_prog l k (h l (inl refl)).0 (sym first) in
        let pred = set_pred (slice_get new.preds l.head.pred.0) (h l (inl refl)).1 in
        let here : slice_get p.preds k.head.pred.0 ≡ Some pred.0 = sym (ap (λ (x : NamedClause). x.head.pred) first) ∙ pred.1 in
        let known : Known k.head.pred.0 = known_of k.head.pred.0 l.head.pred.0 (pred.0, here, pred.1, pred.2) in
        let test : theirs l ≡ mine k = ap (λ (x : Clause). is_member new_comps d x.head.pred.0) is ∙ members_agree k.head.pred.0 known in
        let more = pairs_alike ls ks rest (λ x i. h x (inr i)) in
        (λ i. cond (test i) (is i ∷ more i) (more i)) ∙ go (mine k) k (filter mine ks)
      where
        go : (b : Bool) (k : Clause) (ks : List Clause) → cond b (renamed f k ∷ map (renamed f) ks) (map (renamed f) ks) ≡ map (renamed f) (cond b (k ∷ ks) ks)
        go true k ks = refl
        go false k ks = refl

    same_lists : map (named new) (filter there_in new.clauses) ≡ map (named p) (filter here_in p.clauses)
    same_lists =
        sym (filter_map (named new) there_in (λ k. is_in set k.head.pred) new.clauses (λ x i. refl)) ∙ un.same ∙ filter_map (named p) here_in (λ k. is_in set k.head.pred) p.clauses (λ x i. refl)

    clauses_same : own_clauses new (is_member new_comps d) ≡ map (renamed f) (own_clauses p (is_member comps c))
    clauses_same =
        sub_filter there_in theirs new.clauses theirs_in
        ∙ pairs_alike (filter there_in new.clauses) (filter here_in p.clauses) same_lists (λ l i. of-filter there_in new.clauses l i)
        ∙ sym (ap (map (renamed f)) (sub_filter here_in mine p.clauses mine_in))

    own_over : (k : Clause) → In k (own_clauses p (is_member comps c)) → IsOver Known k
    own_over k i =
        let own = of-filter mine p.clauses k i in
        let head = member_on k.head.pred.0 (number_of c (component_of comps k.head.pred.0) own.1) in
        record {
          head = known_of k.head.pred.0 head.0 head.1;
          body = λ b j. let on = call_on k.head.pred.0 head.0 b.pred.0 head.1 (call_is p comps prog are k b own.0 j) in known_of b.pred.0 on.0 on.1;
        }

    stand : KeepKinds p new (is_member comps c) → StandIn Known f p new (is_member comps c) (is_member new_comps d)
    stand same_kinds = record {
      known = known_member;
      apart = apart;
      members = members_agree;
      kinds = λ q m. (let k = known_member q m in ap (kind_of new.arithmetic) (finds q k.number k.pred k.here k.there) ∙ same_kinds q k.number k.pred k.here k.there m);
      from = members_from;
      clauses = clauses_same;
      over = own_over;
    }

pub untouched_stand : UntouchedStand
untouched_stand p new comps new_comps f set c d q r x prog new_prog are new_are finds un kinds here there among i j =
    stand p new comps new_comps f set prog new_prog are new_are finds un c d q r (x, here, there, among) i j kinds
