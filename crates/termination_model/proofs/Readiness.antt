-- The calls and positions of a view.
use Rattle.std.proofs.Common.{◌≡◌, ℕ, zero, suc, ◌+◌, ◌≤◌, ◌==◌, Bool, true, false, ◌||◌, if◌then◌else◌, List, [], ◌∷◌, ◌++◌, map, length, slice_get, Some, None, Option, ◌⊎◌, inl, inr, refl, ap, sym, subst, ◌∙◌, arith, eqb-true, filter}
use Rattle.std.specs.Prelude.{IsSomeAnd, unwrap_or, option_map}
use Rattle.std.specs.List.{AllByRecursion, list_any}
use Rattle.cti_terms.specs.Listing.{Listing, IsProgram, IsClause, IsAtom}
use Rattle.cti_terms.specs.declared.atom_list.Atom.{Atom}
use Rattle.cti_terms.specs.declared.clauses.Clause.{Clause}
use Rattle.cti_terms.specs.declared.predicates.Pred.{Pred}
use Rattle.linear_rows.specs.Members.{In}
use Rattle.linear_rows.proofs.Members.{of-append, of-map, of-filter}
use Rattle.linear_rows.specs.Step.{columns}
use Rattle.termination_model.specs.claims.Claims.{Claims, SomeOf}
use Rattle.termination_model.specs.mappings.View.{Place, Member, Lower, Call, Rule, call_of, rule_of, view_of, upward_union}
use Rattle.termination_model.specs.mappings.Excluding.{IsOwnCall}
use Rattle.termination_model.specs.mappings.OwnCalls.{OwnCall, Position, first_rules, own_call, own_calls, own_calls_from}
use Rattle.termination_model.specs.mappings.Ready.{PositionsAreDistinct, ViewsAreReady, ViewsHaveFew, arity_in, itself, positions_by}
use Rattle.termination_model.specs.mappings.SupportLaws.{HasFew}
use Rattle.termination_model.specs.mappings.Supports.{AreDistinct}

-- ---- calls
pub record IsFrom (k : Rule) (n : ℕ) (bs : List Call) (o : OwnCall) : Type 0 where
  pub rule : o.rule ≡ k
  pub offset : ℕ
  pub place : o.place ≡ n + offset
  pub call : slice_get bs offset ≡ Some o.call
  pub member : o.call.place ≡ Member o.member

one_call : (k : Rule) (n : ℕ) (b : Call) (x : Place) (o : OwnCall) → b.place ≡ x → In o (own_call k n b x) → (o.rule ≡ k) × (o.place ≡ n) × (b ≡ o.call) × (o.call.place ≡ Member o.member)
one_call k n b (Member q) o e (inl is) = (
  ap (λ (x : OwnCall). x.rule) (sym is),
  ap (λ (x : OwnCall). x.place) (sym is),
  ap (λ (x : OwnCall). x.call) is,
  ap (λ (x : OwnCall). x.call.place) (sym is) ∙ e ∙ ap (λ (x : OwnCall). Member x.member) is,
)
one_call k n b (Member q) o e (inr h) = absurd h
one_call k n b (Lower f) o e h = absurd h

calls_from : (k : Rule) (n : ℕ) (bs : List Call) (o : OwnCall) → In o (own_calls_from k n bs) → IsFrom k n bs o
calls_from k n [] o h = absurd h
calls_from k n (b ∷ bs) o h = elim (of-append (own_call k n b b.place) (own_calls_from k (suc n) bs) o h) [
  | inl here ↦ let c = one_call k n b b.place o refl here in record { rule = c.0; offset = 0; place = c.1 ∙ omega arith; call = ap Some c.2; member = c.3 }
  | inr later ↦ let r = calls_from k (suc n) bs o later in record { rule = r.rule; offset = suc r.offset; place = r.place ∙ next n r.offset; call = r.call; member = r.member }
]
  where
    next : (n i : ℕ) → suc n + i ≡ n + suc i
    next n i = omega arith

some_later : (k : Rule) (ks : List Rule) (r : Rule) → SomeOf (λ x. x ≡ r) ks → SomeOf (λ x. x ≡ r) (k ∷ ks)
some_later k ks r h = inr h

pub own_of : (view : List Rule) (o : OwnCall) → In o (own_calls view) → IsOwnCall view o
own_of [] o h = absurd h
own_of (k ∷ ks) o h = elim (of-append (own_calls_from k 0 k.body) (own_calls ks) o h) [
  | inl here ↦
      let f = calls_from k 0 k.body o here in
      record {
        there = inl (sym f.rule);
        call = at f.offset f.place (ap (λ (x : Rule). slice_get x.body f.offset) f.rule ∙ f.call);
        member = f.member;
      }
  | inr later ↦ let r = own_of ks o later in record { there = inr r.there; call = r.call; member = r.member }
]
  where
    at : (i : ℕ) → o.place ≡ 0 + i → slice_get o.rule.body i ≡ Some o.call → slice_get o.rule.body o.place ≡ Some o.call
    at i e g = let same : o.place ≡ i = omega arith in subst (λ (j : ℕ). slice_get o.rule.body j ≡ Some o.call) (sym same) g

-- ---- members
any_in : (q : ℕ) (seen : List ℕ) → list_any (λ x. x == q) seen ≡ true → In q seen
any_in q [] h = cc
any_in q (x ∷ seen) h = go (x == q) refl (λ k. any_in q seen k) h
  where
    go : (b : Bool) → (x == q) ≡ b → (list_any (λ x. x == q) seen ≡ true → In q seen) → (b || list_any (λ x. x == q) seen) ≡ true → In q (x ∷ seen)
    go true e rec k = inl (eqb-true x q e)
    go false e rec k = inr (rec k)

pub first_there : (seen : List ℕ) (view : List Rule) (q : ℕ) → SomeOf (λ (k : Rule). k.member ≡ q) view → In q seen ⊎ In q (map (λ (k : Rule). k.member) (first_rules seen view))
first_there seen [] q h = absurd h
first_there seen (k ∷ ks) q h = go (list_any (λ x. x == k.member) seen) refl h (first_there seen ks q) (first_there (k.member ∷ seen) ks q)
  where
    go : (b : Bool) → list_any (λ x. x == k.member) seen ≡ b → (k.member ≡ q) ⊎ SomeOf (λ (k : Rule). k.member ≡ q) ks
        → (SomeOf (λ (k : Rule). k.member ≡ q) ks → In q seen ⊎ In q (map (λ (k : Rule). k.member) (first_rules seen ks)))
        → (SomeOf (λ (k : Rule). k.member ≡ q) ks → In q (k.member ∷ seen) ⊎ In q (map (λ (k : Rule). k.member) (first_rules (k.member ∷ seen) ks)))
        → In q seen ⊎ In q (map (λ (k : Rule). k.member) (if b then first_rules seen ks else k ∷ first_rules (k.member ∷ seen) ks))
    go true e (inl same) rec more = inl (subst (λ (x : ℕ). In x seen) same (any_in k.member seen e))
    go true e (inr later) rec more = rec later
    go false e (inl same) rec more = inr (inl same)
    go false e (inr later) rec more = elim (more later) [
      | inl s ↦ elim s [ inl same ↦ inr (inl same) | inr old ↦ inl old ]
      | inr new ↦ inr (inr new)
    ]

pub same_member : (view : List Rule) (r : Rule) → SomeOf (λ x. x ≡ r) view → SomeOf (λ (k : Rule). k.member ≡ r.member) view
same_member [] r h = absurd h
same_member (k ∷ ks) r (inl e) = inl (ap (λ (x : Rule). x.member) e)
same_member (k ∷ ks) r (inr h) = inr (same_member ks r h)

pub views_are_ready : ViewsAreReady
views_are_ready view = record {
  own = own_of view;
  callers = λ o h. elim (first_there [] view o.rule.member (same_member view o.rule (own_of view o h).there)) [ inl none ↦ absurd none | inr there ↦ there ];
}

-- ---- arities
pub some_there : {X : Type 0} (xs : List X) (x : X) → SomeOf (λ y. y ≡ x) xs → In x xs
some_there [] x h = h
some_there (y ∷ ys) x (inl e) = inl e
some_there (y ∷ ys) x (inr h) = inr (some_there ys x h)

pub from_in : {X : Type 0} (P : X → Type 0) (xs : List X) → AllByRecursion P xs → (x : X) → In x xs → P x
from_in P [] all x h = absurd h
from_in P (y ∷ ys) all x (inl e) = subst P e all.0
from_in P (y ∷ ys) all x (inr h) = from_in P ys all.1 x h

arity_long : (o : Option Pred) (n : ℕ) → IsSomeAnd o (λ d. d.arity ≡ n) → n ≤ unwrap_or (option_map (λ d. d.arity) o) 0
arity_long None n h = absurd h
arity_long (Some d) n h = omega arith

atom_few : (p : Listing) (vars : ℕ) (a : Atom) → IsAtom p.preds vars a → length a.args ≤ arity_in p a.pred.0
atom_few p vars a is = arity_long (slice_get p.preds a.pred.0) (length a.args) is.arity

pub at_of : {X : Type 0} (xs : List X) (i : ℕ) (x : X) → slice_get xs i ≡ Some x → In x xs
at_of [] i x e = cc
at_of (y ∷ ys) zero x e = let same : y ≡ x = cc in inl same
at_of (y ∷ ys) (suc i) x e = inr (at_of ys i x e)

module _ (p : Listing) (c : Claims) (r : ℕ) (program : IsProgram p) where
  pub member_is : (b : Bool) (q m : ℕ) (f : List Bool → Bool) → (if b then Member (itself q) else Lower f) ≡ Member m → q ≡ m
  member_is true q m f e = cc
  member_is false q m f e = cc

  few : (o : OwnCall) → In o (own_calls (view_of p c r itself)) → HasFew (arity_in p) o
  few o h =
      let own = own_of (view_of p c r itself) o h in
      let kept = of-map (rule_of c r itself) (filter (λ k. c.rank k.head.pred.0 == r) p.clauses) o.rule (some_there (view_of p c r itself) o.rule own.there) in
      let k = kept.0 in
      let clause = of-filter (λ (k : Clause). c.rank k.head.pred.0 == r) p.clauses k kept.1 in
      let is = from_in (IsClause p.preds) p.clauses program.clauses k clause.0 in
      let at : slice_get (map (call_of c r itself) k.body) o.place ≡ Some o.call = ap (λ (x : Rule). slice_get x.body o.place) kept.2 ∙ own.call in
      let called = of-map (call_of c r itself) k.body o.call (at_of (map (call_of c r itself) k.body) o.place o.call at) in
      let b = called.0 in
      let atom = from_in (IsAtom p.preds k.vars) k.body is.body b called.1 in
      let same : b.pred.0 ≡ o.member = member_is (c.rank b.pred.0 == r) b.pred.0 o.member (upward_union c b.pred.0) (ap (λ (x : Call). x.place) called.2 ∙ own.member) in (
        subst (λ (x : Rule). length x.args ≤ arity_in p x.member) kept.2 (atom_few p k.vars k.head is.head),
        subst (λ (x : Call). length x.args ≤ arity_in p o.member) called.2 (subst (λ (q : ℕ). length b.args ≤ arity_in p q) same (atom_few p k.vars b atom)),
      )

pub views_have_few : ViewsHaveFew
views_have_few p c r program o h = few p c r program o h

-- ---- positions
columns_above : (n k a : ℕ) → In a (columns k n) → k ≤ a
columns_above zero k a h = absurd h
columns_above (suc n) k a (inl e) = omega arith
columns_above (suc n) k a (inr h) = let l = columns_above n (suc k) a h in omega arith

pred_of : (arity : ℕ → ℕ) (qs : List ℕ) (q a : ℕ) → In (q, a) (positions_by arity qs) → In q qs
pred_of arity [] q a h = absurd h
pred_of arity (r ∷ qs) q a h = elim (of-append (map (λ a. (r, a)) (columns 0 (arity r))) (positions_by arity qs) (q, a) h) [
  | inl here ↦ let m = of-map (λ a. (r, a)) (columns 0 (arity r)) (q, a) here in inl (ap (λ (x : Position). x.0) m.2)
  | inr later ↦ inr (pred_of arity qs q a later)
]

row_distinct : (r : ℕ) (n k : ℕ) (rest : List Position) → ((a : ℕ) → In (r, a) rest → ⊥) → AreDistinct rest → AreDistinct (map (λ a. (r, a)) (columns k n) ++ rest)
row_distinct r zero k rest out d = d
row_distinct r (suc n) k rest out d = (
  (λ h. elim (of-append (map (λ a. (r, a)) (columns (suc k) n)) rest (r, k) h) [
    | inl here ↦
        let m = of-map (λ a. (r, a)) (columns (suc k) n) (r, k) here in
        let above = columns_above n (suc k) m.0 m.1 in
        let same : m.0 ≡ k = ap (λ (x : Position). x.1) m.2 in
        absurd (omega arith)
    | inr later ↦ out k later
  ]),
  row_distinct r n (suc k) rest out d,
)

pub positions_are_distinct : PositionsAreDistinct
positions_are_distinct arity [] h = tt
positions_are_distinct arity (q ∷ qs) h = row_distinct q (arity q) 0 (positions_by arity qs) (λ a i. h.0 (pred_of arity qs q a i)) (positions_are_distinct arity qs h.1)
