-- The least family, component by component, and wherever its members stand.
use Rattle.std.proofs.Common.{◌≡◌, ℕ, zero, suc, ◌<◌, ◌≤◌, Bool, true, false, ◌&&◌, if◌then◌else◌, IsTrue, inl, inr, List, [], ◌∷◌, map, length, slice_index_or, Option, None, Some, refl, ap, sym, subst, ◌∙◌, arith, eqb-true}
use Rattle.std.specs.List.{AllByRecursion}
use Rattle.std.proofs.lemmas.Bool.{and_parts, cases_eq}
use Rattle.call_components.proofs.Lists.{some_within}
use Rattle.call_components.specs.Partition.{Partition, AreComponents}
use Rattle.cti_terms.specs.Arithmetic.{kind_of}
use Rattle.cti_terms.specs.Listing.{Listing, IsProgram, IsAtom, IsClause}
use Rattle.cti_terms.specs.Tree.{Tree}
use Rattle.cti_terms.specs.declared.atom_list.Atom.{Atom}
use Rattle.cti_terms.specs.declared.builtins.Builtin.{Builtin}
use Rattle.cti_terms.specs.declared.clauses.Clause.{Clause}
use Rattle.cti_terms.specs.declared.predicates.Pred.{Pred}
use Rattle.linear_rows.specs.Members.{In}
use Rattle.linear_rows.proofs.Members.{in-filter, in-map, of-filter, of-map}
use Rattle.termination_model.specs.chains.Chain.{component_of, is_number, is_member}
use Rattle.termination_model.specs.grounds.Grounds.{Family, IsClosed, IsClosedUnder, IsGround, IsLeast, truth_row}
use Rattle.termination_model.proofs.ChainLeaves.{call_is, number_is, placed}
use Rattle.termination_model.proofs.ChainSieves.{all_of, of_all}
use Rattle.termination_model.proofs.Lists.{by_places, from_places, there}
use Rattle.component_laws.specs.Least.{HasNoOthers, LeastByComponents, LeastCarriesOver}
use Rattle.termination_model.specs.grounds.LeastOver.{HasMembersBuiltins, IsClosedIn, IsLeastOver, over}
use Rattle.component_laws.specs.Renaming.{AgreeOn, StandIn, Those, own_clauses, renamed, renamed_atom}

pub number_of : (c : ℕ) (o : Option ℕ) → is_number c o ≡ true → o ≡ Some c
number_of c None e = cc
number_of c (Some d) e = ap Some (eqb-true d c e)

-- closed for the members, in the other way of saying it
record IsClosedOver (truth : (ℕ → Bool) → Tree → Bool) (p : Listing) (m : ℕ → Bool) (below family : Family) : Type 0 where
  clauses : AllByRecursion (λ (k : Clause). m k.head.pred.0 ≡ true → IsClosedUnder truth (over truth p m below family) k) p.clauses
  builtins : HasMembersBuiltins p.arithmetic m (over truth p m below family)

to_closed : (truth : (ℕ → Bool) → Tree → Bool) (p : Listing) (m : ℕ → Bool) (below family : Family) → IsClosedOver truth p m below family → IsClosedIn truth p m (over truth p m below family)
to_closed truth p m below family h = record {
  clauses = λ j k at is. by_places (λ (k : Clause). m k.head.pred.0 ≡ true → IsClosedUnder truth (over truth p m below family) k) p.clauses h.clauses j k at is;
  builtins = h.builtins;
}

of_closed : (truth : (ℕ → Bool) → Tree → Bool) (p : Listing) (m : ℕ → Bool) (below family : Family) → IsClosedIn truth p m (over truth p m below family) → IsClosedOver truth p m below family
of_closed truth p m below family h = record {
  clauses = from_places (λ (k : Clause). m k.head.pred.0 ≡ true → IsClosedUnder truth (over truth p m below family) k) p.clauses (λ j k at is. h.clauses j k at is);
  builtins = h.builtins;
}

-- over lists, a fact of atoms
all_map_in : (P Q : Atom → Type 0) (bs : List Atom) → ((b : Atom) → In b bs → P b → Q b) → AllByRecursion P bs → AllByRecursion Q bs
all_map_in P Q [] f h = tt
all_map_in P Q (b ∷ bs) f h = (f b (inl refl) h.0, all_map_in P Q bs (λ x i. f x (inr i)) h.1)

module _ (truth : (ℕ → Bool) → Tree → Bool) (p : Listing) (comps : Partition) (prog : IsProgram p) (are : AreComponents p comps) (family : Family) where
  clause_is : (k : Clause) → In k p.clauses → IsClause p.preds k
  clause_is k i = of_all (IsClause p.preds) p.clauses k prog.clauses i

  -- a family over itself is itself
  over_itself : (m : ℕ → Bool) (q : ℕ) → over truth p m family family q ≡ family q
  over_itself m q = go (m q)
    where
      go : (b : Bool) → (if b then family q else family q) ≡ family q
      go true = refl
      go false = refl

  itself_is : (m : ℕ → Bool) → over truth p m family family ≡ family
  itself_is m = λ i q. over_itself m q i

  module _ (parts : (c : ℕ) → c < length comps.members → IsLeastOver truth p (is_member comps c) family family) where
    closed : IsClosed truth p family
    closed = record {
      clauses = all_of (IsClosedUnder truth family) p.clauses (λ k i.
          let at = placed p comps prog are k.vars k.head (clause_is k i).head in
          let part = parts at.0 (are.within at.0 k.head.pred.0 at.1) in
          subst (λ (g : Family). IsClosedUnder truth g k) (itself_is (is_member comps at.0))
          (of_all (λ (x : Clause). is_member comps at.0 x.head.pred.0 ≡ true → IsClosedUnder truth (over truth p (is_member comps at.0) family family) x) p.clauses k (of_closed truth p (is_member comps at.0) family family part.closed).clauses i
          (number_is at.0 (component_of comps k.head.pred.0) at.1)));
      builtins = λ q b is.
          let lt : q < length comps.of = omega (arith, some_within (λ (x : Pred). x.arity ≡ 2) p.preds q (prog.binary q b is), are.each) in
          let c = slice_index_or comps.of q 0 in
          let at = there comps.of q 0 lt in
          let part = parts c (are.within c q at) in
          subst (λ (g : Family). IsTrue (g q (true ∷ (true ∷ [])))) (itself_is (is_member comps c)) (part.closed.builtins q b is (number_is c (component_of comps q) at));
    }

    module _ (other : Family) (other_closed : IsClosed truth p other) where
      -- rows of components below c are in the other family
      abbrev Inside : ℕ → Type 0
      Inside c = (d q : ℕ) (row : List Bool) → d < c → component_of comps q ≡ Some d → IsTrue (family q row) → IsTrue (other q row)

      module _ (c : ℕ) (before : Inside c) where
        enter : (v : ℕ → Bool) (k : Clause) → In k p.clauses → component_of comps k.head.pred.0 ≡ Some c → (b : Atom) → In b k.body
            → IsGround truth (over truth p (is_member comps c) family other) v b → IsGround truth other v b
        enter v k i at b j = go (is_member comps c b.pred.0) refl
          where
            go : (t : Bool) → is_member comps c b.pred.0 ≡ t → IsTrue ((if t then other b.pred.0 else family b.pred.0) (truth_row truth v b)) → IsTrue (other b.pred.0 (truth_row truth v b))
            go true e h = h
            go false e h =
                let own = clause_is k i in
                let there = placed p comps prog are k.vars b (of_all (IsAtom p.preds k.vars) k.body b own.body j) in
                let le = are.callees_first k.head.pred.0 b.pred.0 c there.0 at there.1 (call_is p comps prog are k b i j) in
                elim (cases_eq there.0 c) [
                  | inl same ↦ let on_ = number_is c (component_of comps b.pred.0) (there.1 ∙ ap Some same) in absurd (cc)
                  | inr ne ↦ before there.0 b.pred.0 (truth_row truth v b) (omega arith) there.1 h
                ]

        clauses_over : AllByRecursion (λ (k : Clause). is_member comps c k.head.pred.0 ≡ true → IsClosedUnder truth (over truth p (is_member comps c) family other) k) p.clauses
        clauses_over = all_of (λ (k : Clause). is_member comps c k.head.pred.0 ≡ true → IsClosedUnder truth (over truth p (is_member comps c) family other) k) p.clauses (λ k i m v body.
            let at = number_of c (component_of comps k.head.pred.0) m in
            let all = all_map_in (IsGround truth (over truth p (is_member comps c) family other) v) (IsGround truth other v) k.body (λ b j. enter v k i at b j) body in
            let given = of_all (IsClosedUnder truth other) p.clauses k other_closed.clauses i v all in
            subst (λ (b : Bool). IsTrue ((if b then other k.head.pred.0 else family k.head.pred.0) (truth_row truth v k.head))) (sym m) given)

        other_over : IsClosedOver truth p (is_member comps c) family other
        other_over = record {
          clauses = clauses_over;
          builtins = λ r b kind member. subst (λ (t : Bool). IsTrue ((if t then other r else family r) (true ∷ (true ∷ [])))) (sym member) (other_closed.builtins r b kind);
        }

        step : c < length comps.members → Inside (suc c)
        step lt d q row l at h = elim (cases_eq d c) [
          | inl same ↦ (parts c lt).least other (to_closed truth p (is_member comps c) family other other_over) q row (number_is c (component_of comps q) (at ∙ ap Some same)) h
          | inr ne ↦ before d q row (omega arith) at h
        ]

      inside_to : (c : ℕ) → c ≤ length comps.members → Inside c
      inside_to zero le d q row l at h = absurd (omega arith)
      inside_to (suc c) le d q row l at h = step c (inside_to c (omega arith)) (omega arith) d q row l at h

    whole : HasNoOthers comps family → IsLeast truth p family
    whole none = record { closed = closed; least = λ other k q row h. go other k q row h (component_of comps q) refl }
      where
        go : (other : Family) → IsClosed truth p other → (q : ℕ) (row : List Bool) → IsTrue (family q row) → (o : Option ℕ) → component_of comps q ≡ o → IsTrue (other q row)
        go other k q row h None e = absurd (none q row e h)
        go other k q row h (Some d) e = inside_to other k (length comps.members) (omega arith) d q row (are.within d q e) e h

  -- ---- and the other way round
  module _ (least : IsLeast truth p family) (m : ℕ → Bool) where
    part_closed : IsClosedOver truth p m family family
    part_closed = record {
      clauses = all_of (λ (k : Clause). m k.head.pred.0 ≡ true → IsClosedUnder truth (over truth p m family family) k) p.clauses
          (λ k i is. subst (λ (g : Family). IsClosedUnder truth g k) (sym (itself_is m)) (of_all (IsClosedUnder truth family) p.clauses k least.closed.clauses i));
      builtins = λ q b is member. subst (λ (g : Family). IsTrue (g q (true ∷ (true ∷ [])))) (sym (itself_is m)) (least.closed.builtins q b is);
    }

    module _ (other : Family) (k : IsClosedOver truth p m family other) where
      -- the family without what the other one lacks of members
      abbrev cut : Family
      cut q row = if m q then family q row && other q row else family q row

      cut_inside : (q : ℕ) (row : List Bool) → IsTrue (cut q row) → IsTrue (family q row)
      cut_inside q row = go (m q)
        where
          go : (b : Bool) → IsTrue (if b then family q row && other q row else family q row) → IsTrue (family q row)
          go true h = (and_parts (family q row) (other q row) h).0
          go false h = h

      cut_over : (q : ℕ) (row : List Bool) → IsTrue (cut q row) → IsTrue (over truth p m family other q row)
      cut_over q row = go (m q)
        where
          go : (b : Bool) → IsTrue (if b then family q row && other q row else family q row) → IsTrue ((if b then other q else family q) row)
          go true h = (and_parts (family q row) (other q row) h).1
          go false h = h

      both : (a b : Bool) → IsTrue a → IsTrue b → IsTrue (a && b)
      both true true h i = refl
      both true false h i = i
      both false b h i = h

      cut_clause : (x : Clause) → In x p.clauses → IsClosedUnder truth cut x
      cut_clause x i v body =
          let first = of_all (IsClosedUnder truth family) p.clauses x least.closed.clauses i v (all_map_in (IsGround truth cut v) (IsGround truth family v) x.body (λ b j h. cut_inside b.pred.0 (truth_row truth v b) h) body) in
          go x i v (all_map_in (IsGround truth cut v) (IsGround truth (over truth p m family other) v) x.body (λ b j h. cut_over b.pred.0 (truth_row truth v b) h) body) first (m x.head.pred.0) refl
        where
          go : (x : Clause) → In x p.clauses → (v : ℕ → Bool) → AllByRecursion (IsGround truth (over truth p m family other) v) x.body → IsGround truth family v x.head → (b : Bool) → m x.head.pred.0 ≡ b
              → IsTrue (if b then family x.head.pred.0 (truth_row truth v x.head) && other x.head.pred.0 (truth_row truth v x.head) else family x.head.pred.0 (truth_row truth v x.head))
          go x i v body first false e = first
          go x i v body first true e =
              let given = of_all (λ (y : Clause). m y.head.pred.0 ≡ true → IsClosedUnder truth (over truth p m family other) y) p.clauses x k.clauses i e v body in
              both (family x.head.pred.0 (truth_row truth v x.head)) (other x.head.pred.0 (truth_row truth v x.head)) first
              (subst (λ (b : Bool). IsTrue ((if b then other x.head.pred.0 else family x.head.pred.0) (truth_row truth v x.head))) e given)

      cut_closed : IsClosed truth p cut
      cut_closed = record {
        clauses = all_of (IsClosedUnder truth cut) p.clauses (λ x i v body. cut_clause x i v body);
        builtins = λ q b is. built q b is (m q) refl;
      }
        where
          built : (q : ℕ) (b : Builtin) → kind_of p.arithmetic q ≡ Some b → (t : Bool) → m q ≡ t → IsTrue (if t then family q (true ∷ (true ∷ [])) && other q (true ∷ (true ∷ [])) else family q (true ∷ (true ∷ [])))
          built q b is false e = least.closed.builtins q b is
          built q b is true e =
              both (family q (true ∷ (true ∷ []))) (other q (true ∷ (true ∷ []))) (least.closed.builtins q b is)
              (subst (λ (t : Bool). IsTrue ((if t then other q else family q) (true ∷ (true ∷ [])))) e (k.builtins q b is e))

      part_inside : (q : ℕ) (row : List Bool) → m q ≡ true → IsTrue (family q row) → IsTrue (other q row)
      part_inside q row is h =
          let there = least.least cut cut_closed q row h in
          let opened : IsTrue (family q row && other q row) = subst (λ (b : Bool). IsTrue (if b then family q row && other q row else family q row)) is there in
          (and_parts (family q row) (other q row) opened).1

    part : IsLeastOver truth p m family family
    part = record { closed = to_closed truth p m family family part_closed; least = λ other k q row is h. part_inside other (of_closed truth p m family other k) q row is h }

pub least_by_components : LeastByComponents
least_by_components truth p comps family prog are none = (
  λ least c lt. part truth p comps prog are family least (is_member comps c),
  λ parts. whole truth p comps prog are family parts none,
)

-- ---- elsewhere
module _ (truth : (ℕ → Bool) → Tree → Bool) (Known : ℕ → Type 0) (f : ℕ → ℕ) (p new : Listing) (m n : ℕ → Bool) (s : StandIn Known f p new m n) where
  -- a new member's clause is a member's
  pub clause_from : (l : Clause) → In l new.clauses → n l.head.pred.0 ≡ true → (k : Clause) × In k (own_clauses p m) × (renamed f k ≡ l)
  clause_from l i is =
      let there : In l (own_clauses new n) = in-filter (λ (k : Clause). n k.head.pred.0) new.clauses l is i in
      of-map (renamed f) (own_clauses p m) l (subst (λ (ks : List Clause). In l ks) s.clauses there)

  -- and a member's is a new one's
  pub clause_there : (k : Clause) → In k p.clauses → m k.head.pred.0 ≡ true → In (renamed f k) new.clauses × (n (f k.head.pred.0) ≡ true)
  clause_there k i is =
      let own : In k (own_clauses p m) = in-filter (λ (x : Clause). m x.head.pred.0) p.clauses k is i in
      let there : In (renamed f k) (own_clauses new n) = subst (λ (ks : List Clause). In (renamed f k) ks) (sym s.clauses) (in-map (renamed f) (own_clauses p m) k own) in
      of-filter (λ (x : Clause). n x.head.pred.0) new.clauses (renamed f k) there

  pub own_in : (k : Clause) → In k (own_clauses p m) → In k p.clauses × (m k.head.pred.0 ≡ true)
  own_in k i = of-filter (λ (x : Clause). m x.head.pred.0) p.clauses k i

  pub own_is : (k : Clause) → In k p.clauses → m k.head.pred.0 ≡ true → In k (own_clauses p m)
  own_is k i is = in-filter (λ (x : Clause). m x.head.pred.0) p.clauses k is i

  -- facts of a body, there and here
  pub body_there : (P Q : Atom → Type 0) (bs : List Atom) → ((b : Atom) → In b bs → P b → Q (renamed_atom f b)) → AllByRecursion P bs → AllByRecursion Q (map (renamed_atom f) bs)
  body_there P Q [] h a = tt
  body_there P Q (b ∷ bs) h a = (h b (inl refl) a.0, body_there P Q bs (λ x i. h x (inr i)) a.1)

  pub body_here : (P Q : Atom → Type 0) (bs : List Atom) → ((b : Atom) → In b bs → Q (renamed_atom f b) → P b) → AllByRecursion Q (map (renamed_atom f) bs) → AllByRecursion P bs
  body_here P Q [] h a = tt
  body_here P Q (b ∷ bs) h a = (h b (inl refl) a.0, body_here P Q bs (λ x i. h x (inr i)) a.1)

  module _ (below family new_below new_family : Family) (below_agree : AgreeOn Known f below new_below) where
    over_agree : (g h : Family) → AgreeOn Known f g h → (q : ℕ) → Known q → over truth new n new_below h (f q) ≡ over truth p m below g q
    over_agree g h agree q known = λ i. if s.members q known i then agree q known i else below_agree q known i

    clauses_there : (g h : Family) → AgreeOn Known f g h → IsClosedOver truth p m below g → AllByRecursion (λ (l : Clause). n l.head.pred.0 ≡ true → IsClosedUnder truth (over truth new n new_below h) l) new.clauses
    clauses_there g h agree k = all_of (λ (l : Clause). n l.head.pred.0 ≡ true → IsClosedUnder truth (over truth new n new_below h) l) new.clauses (λ l i is.
        let from = clause_from l i is in
        let x = from.0 in
        let own = own_in x from.1 in
        let known = s.over x from.1 in
        subst (λ (y : Clause). IsClosedUnder truth (over truth new n new_below h) y) from.2 (λ v body.
        subst (λ (t : List Bool → Bool). IsTrue (t (truth_row truth v x.head))) (sym (over_agree g h agree x.head.pred.0 known.head))
        (of_all (λ (y : Clause). m y.head.pred.0 ≡ true → IsClosedUnder truth (over truth p m below g) y) p.clauses x k.clauses own.0 own.1 v
        (body_here (IsGround truth (over truth p m below g) v) (IsGround truth (over truth new n new_below h) v) x.body
        (λ b j t. subst (λ (u : List Bool → Bool). IsTrue (u (truth_row truth v b))) (over_agree g h agree b.pred.0 (known.body b j)) t) body))))

    closed_there : (g h : Family) → AgreeOn Known f g h → IsClosedOver truth p m below g → IsClosedOver truth new n new_below h
    closed_there g h agree k = record {
      clauses = clauses_there g h agree k;
      builtins = λ r b is on.
          let from = s.from r on in
          let q = from.0 in
          let kind : kind_of p.arithmetic q ≡ Some b = sym (s.kinds q from.2) ∙ ap (kind_of new.arithmetic) from.3 ∙ is in
          subst (λ (x : ℕ). IsTrue (over truth new n new_below h x (true ∷ (true ∷ [])))) from.3
          (subst (λ (u : List Bool → Bool). IsTrue (u (true ∷ (true ∷ [])))) (sym (over_agree g h agree q from.1)) (k.builtins q b kind from.2));
    }

    clauses_here : (g h : Family) → AgreeOn Known f g h → IsClosedOver truth new n new_below h → AllByRecursion (λ (x : Clause). m x.head.pred.0 ≡ true → IsClosedUnder truth (over truth p m below g) x) p.clauses
    clauses_here g h agree k = all_of (λ (x : Clause). m x.head.pred.0 ≡ true → IsClosedUnder truth (over truth p m below g) x) p.clauses (λ x i is v body.
        let there = clause_there x i is in
        let known = s.over x (own_is x i is) in
        subst (λ (t : List Bool → Bool). IsTrue (t (truth_row truth v x.head))) (over_agree g h agree x.head.pred.0 known.head)
        (of_all (λ (y : Clause). n y.head.pred.0 ≡ true → IsClosedUnder truth (over truth new n new_below h) y) new.clauses (renamed f x) k.clauses there.0 there.1 v
        (body_there (IsGround truth (over truth p m below g) v) (IsGround truth (over truth new n new_below h) v) x.body
        (λ b j t. subst (λ (u : List Bool → Bool). IsTrue (u (truth_row truth v b))) (sym (over_agree g h agree b.pred.0 (known.body b j))) t) body)))

    closed_here : (g h : Family) → AgreeOn Known f g h → IsClosedOver truth new n new_below h → IsClosedOver truth p m below g
    closed_here g h agree k = record {
      clauses = clauses_here g h agree k;
      builtins = λ q b is on.
          let known = s.known q on in
          subst (λ (u : List Bool → Bool). IsTrue (u (true ∷ (true ∷ [])))) (over_agree g h agree q known) (k.builtins (f q) b (s.kinds q on ∙ is) (s.members q known ∙ on));
    }

    pub carried : AgreeOn Known f family new_family → IsLeastOver truth p m below family → IsLeastOver truth new n new_below new_family
    carried agree l = record {
      closed = to_closed truth new n new_below new_family (closed_there family new_family agree (of_closed truth p m below family l.closed));
      least = λ other k r row is h.
          let from = s.from r is in
          let q = from.0 in
          let back : Family = λ q. other (f q) in
          let here = closed_here back other (λ q known. refl) (of_closed truth new n new_below other k) in
          let mine : IsTrue (family q row) = subst (λ (t : List Bool → Bool). IsTrue (t row)) (ap new_family (sym from.3) ∙ agree q from.1) h in
          subst (λ (x : ℕ). IsTrue (other x row)) from.3 (l.least back (to_closed truth p m below back here) q row from.2 mine);
    }

pub least_carries_over : LeastCarriesOver
least_carries_over truth known f p new m n below family new_below new_family s b a l = carried truth (Those known) f p new m n s below family new_below new_family b a l
