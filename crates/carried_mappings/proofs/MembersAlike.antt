-- Two components whose members have the same names and arities, each in its program: their numbers and their positions.
use Rattle.std.proofs.Common.{◌≡◌, ℕ, ◌<◌, ◌==◌, Bool, true, inl, inr, List, [], ◌∷◌, map, length, slice_get, Option, Some, refl, ap, sym, subst, ◌∙◌}
use Rattle.std.specs.Prelude.{Contains, option_map, unwrap_or}
use Rattle.call_components.specs.Partition.{Partition, AreComponents, IsIn}
use Rattle.cti_terms.specs.Listing.{Listing, IsProgram}
use Rattle.cti_terms.specs.declared.predicates.Pred.{Pred}
use Rattle.linear_rows.specs.Members.{In}
use Rattle.linear_rows.specs.Step.{columns}
use Rattle.linear_rows.proofs.Members.{in-left, in-map, in-right, of-append, of-map}
use Rattle.termination_model.specs.mappings.ComponentViews.{members_in, positions_in, rank_in}
use Rattle.termination_model.specs.mappings.OwnCalls.{Position}
use Rattle.termination_model.specs.mappings.Ready.{arity_in, positions_by}
use Rattle.termination_model.specs.mappings.Supports.{AreDistinct}
use Rattle.level_systems.specs.Subsequences.{AreOnce}
use Rattle.component_laws.specs.Mapped.{AreSamePositions}
use Rattle.component_laws.specs.Renaming.{KeepsApart}
use Rattle.component_laws.specs.Untouched.{FindsByName}
use Rattle.component_laws.proofs.UntouchedLaws.{one_number}
use Rattle.solved_program.proofs.Names.{finds_number, new_number}
use Rattle.carried_mappings.specs.Order.{HaveSameMembersIn}
use Rattle.carried_mappings.proofs.Ranked.{in_member, in_ranked, member_in, members_once, positions_distinct, pred_of, ranked_in, to_contains}
use Rattle.carried_mappings.proofs.Renamed.{position_pred, positions_renamed, renamed_position}

-- ---- positions
position_argument : (arity : ℕ → ℕ) (qs : List ℕ) (x : Position) → In x (positions_by arity qs) → In x.1 (columns 0 (arity x.0))
position_argument arity [] x h = absurd h
position_argument arity (q ∷ qs) x h = elim (of-append (map (λ a. (q, a)) (columns 0 (arity q))) (positions_by arity qs) x h) [
  | inl here ↦ let a = of-map (λ a. (q, a)) (columns 0 (arity q)) x here in subst (λ (z : Position). In z.1 (columns 0 (arity z.0))) a.2 a.1
  | inr more ↦ position_argument arity qs x more
]

position_in : (arity : ℕ → ℕ) (qs : List ℕ) (q a : ℕ) → In q qs → In a (columns 0 (arity q)) → In {X = Position} (q, a) (positions_by arity qs)
position_in arity [] q a h i = absurd h
position_in arity (r ∷ qs) q a (inl e) i =
    in-left (map (λ z. (r, z)) (columns 0 (arity r))) (positions_by arity qs) (q, a)
    (subst (λ (z : ℕ). In {X = Position} (z, a) (map (λ y. (r, y)) (columns 0 (arity r)))) e (in-map (λ y. (r, y)) (columns 0 (arity r)) a (subst (λ (z : ℕ). In a (columns 0 (arity z))) (sym e) i)))
position_in arity (r ∷ qs) q a (inr h) i = in-right (map (λ z. (r, z)) (columns 0 (arity r))) (positions_by arity qs) (q, a) (position_in arity qs q a h i)

-- ---- members
pub record AreMembersAlike (p new : Listing) (comps new_comps : Partition) (b c : ℕ) (f back : ℕ → ℕ) : Type 0 where
  pub member : (q : ℕ) → In q (members_in comps b) → (rank_in comps q == b) ≡ true
  pub new_member : (r : ℕ) → In r (members_in new_comps c) → (rank_in new_comps r == c) ≡ true
  pub to : (q : ℕ) → (rank_in comps q == b) ≡ true → (rank_in new_comps (f q) == c) ≡ true
  pub from : (r : ℕ) → (rank_in new_comps r == c) ≡ true → (q : ℕ) × ((rank_in comps q == b) ≡ true) × (f q ≡ r)
  pub listed : (q : ℕ) → (rank_in comps q == b) ≡ true → In (f q) (members_in new_comps c)
  pub back_of : (q : ℕ) → (rank_in comps q == b) ≡ true → back (f q) ≡ q
  pub apart : KeepsApart (λ q. (rank_in comps q == b) ≡ true) f
  pub arity : (q : ℕ) → (rank_in comps q == b) ≡ true → arity_in new (f q) ≡ arity_in p q
  pub named : (q r : ℕ) → (rank_in comps q == b) ≡ true → slice_get p.preds q ≡ slice_get new.preds r → f q ≡ r
  pub once : AreOnce (members_in comps b)
  pub own_positions : (x : Position) → In x (positions_in p comps b) → (rank_in comps x.0 == b) ≡ true
  pub positions : AreSamePositions f (λ q. rank_in comps q == b) (positions_in p comps b) (positions_in new new_comps c)
  pub distinct : AreDistinct (positions_in p comps b)
  pub new_distinct : AreDistinct (positions_in new new_comps c)
  pub own_call : (q : ℕ) → IsIn comps b q → (rank_in comps q == b) ≡ true
  pub new_call : (q : ℕ) → (rank_in comps q == b) ≡ true → IsIn new_comps c (f q)
  pub contained : (q : ℕ) → (rank_in comps q == b) ≡ true → Contains (members_in comps b) q

-- they stand in one order
pub record AreInOrder (p new : Listing) (comps new_comps : Partition) (b c : ℕ) (f : ℕ → ℕ) : Type 0 where
  pub members : members_in new_comps c ≡ map f (members_in comps b)
  pub positions : positions_in new new_comps c ≡ map (renamed_position f) (positions_in p comps b)

module _ (p new : Listing) (comps new_comps : Partition) (prog : IsProgram p) (new_prog : IsProgram new) (are : AreComponents p comps) (new_are : AreComponents new new_comps)
    (b c : ℕ) (inner : b < length comps.members) (new_inner : c < length new_comps.members) where
  abbrev pub f : ℕ → ℕ
  f = new_number p.preds new.preds

  abbrev pub m : ℕ → Bool
  m q = rank_in comps q == b

  finds : FindsByName p new f
  finds = finds_number p new new_prog

  -- ---- in one order
  ordered_there : (qs rs : List ℕ) → map (slice_get p.preds) qs ≡ map (slice_get new.preds) rs → ((q : ℕ) → In q qs → (x : Pred) × (slice_get p.preds q ≡ Some x)) → rs ≡ map f qs
  ordered_there [] [] e h = refl
  ordered_there [] (r ∷ rs) e h = cc
  ordered_there (q ∷ qs) [] e h = cc
  ordered_there (q ∷ qs) (r ∷ rs) e h =
      let first : slice_get p.preds q ≡ slice_get new.preds r = cc in
      let rest : map (slice_get p.preds) qs ≡ map (slice_get new.preds) rs = cc in
      let x = h q (inl refl) in
      let number : f q ≡ r = finds q r x.0 x.1 (sym first ∙ x.1) in
      let more = ordered_there qs rs rest (λ z i. h z (inr i)) in
      λ i. sym number i ∷ more i

  members_renamed : map (slice_get p.preds) (members_in comps b) ≡ map (slice_get new.preds) (members_in new_comps c) → members_in new_comps c ≡ map f (members_in comps b)
  members_renamed order = ordered_there (members_in comps b) (members_in new_comps c) order (λ q i. pred_of p comps are b inner q (in_member p comps are b inner q i))

  module _ (names : HaveSameMembersIn p new comps new_comps b c) where
    -- ---- members
    number_is : (q r : ℕ) → IsIn comps b q → slice_get p.preds q ≡ slice_get new.preds r → f q ≡ r
    number_is q r i e = let x = pred_of p comps are b inner q i in finds q r x.0 x.1 (sym e ∙ x.1)

    pub name_there : (q : ℕ) → IsIn comps b q → slice_get new.preds (f q) ≡ slice_get p.preds q
    name_there q i = let r = names.there q i in ap (slice_get new.preds) (number_is q r.0 i r.2) ∙ sym r.2

    pub member_there : (q : ℕ) → IsIn comps b q → IsIn new_comps c (f q)
    member_there q i = let r = names.there q i in subst (IsIn new_comps c) (sym (number_is q r.0 i r.2)) r.1

    member_from : (r : ℕ) → IsIn new_comps c r → (q : ℕ) × IsIn comps b q × (f q ≡ r)
    member_from r i = let q = names.before r i in (q.0, q.1, number_is q.0 r q.1 q.2)

    apart : KeepsApart (λ q. m q ≡ true) f
    apart q r a a' e =
        let i = ranked_in comps b inner q a in
        let j = ranked_in comps b inner r a' in
        let x = pred_of p comps are b inner q i in
        one_number p.preds prog.distinct q r x.0 x.1 (sym (name_there r j) ∙ ap (slice_get new.preds) (sym e) ∙ name_there q i ∙ x.1)

    arity_there : (q : ℕ) → m q ≡ true → arity_in new (f q) ≡ arity_in p q
    arity_there q a = ap (λ (o : Option Pred). unwrap_or (option_map (λ (d : Pred). d.arity) o) 0) (name_there q (ranked_in comps b inner q a))

    listed_arity : (q : ℕ) → In q (members_in comps b) → arity_in new (f q) ≡ arity_in p q
    listed_arity q i = arity_there q (in_ranked comps b inner q (in_member p comps are b inner q i))

    back_there : (q : ℕ) → m q ≡ true → new_number new.preds p.preds (f q) ≡ q
    back_there q a =
        let i = ranked_in comps b inner q a in
        let x = pred_of p comps are b inner q i in
        finds_number new p prog (f q) q x.0 (name_there q i ∙ x.1) x.1

    -- ---- positions
    positions_of_members : (x : Position) → In x (positions_in p comps b) → m x.0 ≡ true
    positions_of_members x i = in_ranked comps b inner x.0 (in_member p comps are b inner x.0 (position_pred (arity_in p) (members_in comps b) x i))

    same_positions_there : AreSamePositions f m (positions_in p comps b) (positions_in new new_comps c)
    same_positions_there = record {
      members = λ q a i. positions_of_members (q, a) i;
      there = λ q a i.
          let own = position_pred (arity_in p) (members_in comps b) (q, a) i in
          let argument = position_argument (arity_in p) (members_in comps b) (q, a) i in
          position_in (arity_in new) (members_in new_comps c) (f q) a (member_in new new_comps new_are c new_inner (f q) (member_there q (in_member p comps are b inner q own)))
          (subst (λ (n : ℕ). In a (columns 0 n)) (sym (listed_arity q own)) argument);
      from = λ r a i.
          let own = position_pred (arity_in new) (members_in new_comps c) (r, a) i in
          let argument = position_argument (arity_in new) (members_in new_comps c) (r, a) i in
          let q = member_from r (in_member new new_comps new_are c new_inner r own) in
          let listed = member_in p comps are b inner q.0 q.1 in
          let number : arity_in new r ≡ arity_in p q.0 = ap (arity_in new) (sym q.2) ∙ listed_arity q.0 listed in
          (q.0, q.2, position_in (arity_in p) (members_in comps b) q.0 a listed (subst (λ (n : ℕ). In a (columns 0 n)) number argument));
    }

    pub members_alike : AreMembersAlike p new comps new_comps b c f (new_number new.preds p.preds)
    members_alike = record {
      member = λ q i. in_ranked comps b inner q (in_member p comps are b inner q i);
      new_member = λ r i. in_ranked new_comps c new_inner r (in_member new new_comps new_are c new_inner r i);
      to = λ q a. in_ranked new_comps c new_inner (f q) (member_there q (ranked_in comps b inner q a));
      from = λ r a. let q = member_from r (ranked_in new_comps c new_inner r a) in (q.0, in_ranked comps b inner q.0 q.1, q.2);
      listed = λ q a. member_in new new_comps new_are c new_inner (f q) (member_there q (ranked_in comps b inner q a));
      back_of = back_there;
      apart = apart;
      arity = arity_there;
      named = λ q r a e. number_is q r (ranked_in comps b inner q a) e;
      once = members_once p comps are b inner;
      own_positions = positions_of_members;
      positions = same_positions_there;
      distinct = positions_distinct p comps are b inner;
      new_distinct = positions_distinct new new_comps new_are c new_inner;
      own_call = λ q i. in_ranked comps b inner q i;
      new_call = λ q a. member_there q (ranked_in comps b inner q a);
      contained = λ q a. to_contains (members_in comps b) q (member_in p comps are b inner q (ranked_in comps b inner q a));
    }

    pub in_order : map (slice_get p.preds) (members_in comps b) ≡ map (slice_get new.preds) (members_in new_comps c) → AreInOrder p new comps new_comps b c f
    in_order order = record {
      members = members_renamed order;
      positions = ap (λ (qs : List ℕ). positions_by (arity_in new) qs) (members_renamed order) ∙ positions_renamed f (arity_in p) (arity_in new) (members_in comps b) (λ q i. listed_arity q i);
    }
