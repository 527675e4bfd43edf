-- A component that stands for an old one: its members, positions, view and pairs are those of the old one, under other
-- numbers.
use Rattle.std.proofs.Common.{◌≡◌, ℕ, suc, ◌+◌, ◌-◌, ◌<◌, ◌==◌, ℤ, Bool, true, false, if◌then◌else◌, inl, inr, List, [], ◌∷◌, ◌++◌, map, length, slice_get, Option, Some, refl, ap, sym, subst, ◌∙◌, arith}
use Rattle.std.specs.Prelude.{cond, filter}
use Rattle.std.specs.List.{AllByRecursion, flat_map}
use Rattle.call_components.specs.Partition.{Partition, AreComponents, IsIn}
use Rattle.cti_terms.specs.Listing.{Listing, IsProgram}
use Rattle.cti_terms.specs.Tree.{Tree}
use Rattle.cti_terms.specs.declared.atom_list.Atom.{Atom}
use Rattle.cti_terms.specs.declared.clauses.Clause.{Clause}
use Rattle.cti_terms.specs.declared.predicates.Pred.{Pred}
use Rattle.linear_rows.specs.Members.{In}
use Rattle.linear_rows.proofs.Members.{of-filter, of-flat_map, of-map}
use Rattle.termination_model.specs.chains.Chain.{clauses_of, component_of, counted, is_number}
use Rattle.termination_model.specs.claims.Claims.{Claims}
use Rattle.termination_model.specs.mappings.ComponentViews.{component_view, rank_in, size_claims}
use Rattle.termination_model.specs.mappings.Ready.{itself}
use Rattle.termination_model.specs.mappings.View.{Call, Lower, Member, call_of, rule_of}
use Rattle.termination_model.proofs.ChainSieves.{all_of}
use Rattle.level_systems.specs.Pairs.{calls_from, pairs_from, pairs_of}
use Rattle.component_laws.specs.Mapped.{IsOfMembers, renamed_call, renamed_place, renamed_rule}
use Rattle.component_laws.specs.Renaming.{renamed, renamed_atom}
use Rattle.component_laws.specs.Untouched.{FindsByName, NamedAtom, NamedClause}
use Rattle.component_laws.proofs.BlownLaws.{filter_map}
use Rattle.solved_program.specs.Kept.{AreKept}
use Rattle.solved_program.specs.Standing.{AreSameClauses, IsSameClause, StandsFor}
use Rattle.solved_program.proofs.Pairs.{body_pair, same_named, same_renamed}
use Rattle.solved_program.proofs.Clauses.{of_program, own_at, own_clause, own_component}
use Rattle.component_laws.proofs.NamedLaws.{pred_in}
use Rattle.solved_program.proofs.Names.{finds_number, new_number}
use Rattle.carried_mappings.proofs.Members.{same_members}
use Rattle.carried_mappings.proofs.MembersAlike.{AreMembersAlike, members_alike}
use Rattle.carried_mappings.proofs.Numbers.{AreMoved, Numbered, Rises, numbers_of, rises_counted}
use Rattle.carried_mappings.proofs.Ranked.{in_ranked, out_ranked, tests_same}
use Rattle.carried_mappings.proofs.Renamed.{map_joined}

abbrev pub Rowed : Type 0
Rowed = ℕ → List (List ℤ)

-- ---- the clauses of a component, without and with their numbers
plain_counted : (n : ℕ) (ks : List Clause) → map (λ (k : Numbered). k.1) (counted n ks) ≡ ks
plain_counted n [] = refl
plain_counted n (k ∷ ks) = ap (λ z. k ∷ z) (plain_counted (suc n) ks)

module _ (p : Listing) (comps : Partition) (c : ℕ) (inner : c < length comps.members) where
  abbrev own_test : Clause → Bool
  own_test k = rank_in comps k.head.pred.0 == c

  own_plain : filter own_test p.clauses ≡ map (λ (k : Numbered). k.1) (clauses_of p comps c)
  own_plain = ap (filter own_test) (sym (plain_counted 1 p.clauses))
      ∙ filter_map (λ (k : Numbered). k.1) (λ k. is_number c (component_of comps k.1.head.pred.0)) own_test (counted 1 p.clauses) (λ k i. sym (tests_same comps c inner k.1.head.pred.0))

  abbrev pub pairs_at : Numbered → List (ℕ × ℕ)
  pairs_at k = calls_from comps c k.0 0 k.1.body

  pairs_flat : (n : ℕ) (xs : List Clause) → pairs_from comps c n xs ≡ flat_map pairs_at (filter (λ (k : Numbered). is_number c (component_of comps k.1.head.pred.0)) (counted (suc n) xs))
  pairs_flat n [] = refl
  pairs_flat n (x ∷ xs) =
      let more = pairs_flat (suc n) xs in
      let test = tests_same comps c inner x.head.pred.0 in
      let rest : List Numbered = filter (λ (k : Numbered). is_number c (component_of comps k.1.head.pred.0)) (counted (suc (suc n)) xs) in
      (λ i. (if sym test i then calls_from comps c (suc n) 0 x.body else []) ++ more i) ∙ go (is_number c (component_of comps x.head.pred.0)) rest
    where
      go : (t : Bool) (rest : List Numbered) → (if t then calls_from comps c (suc n) 0 x.body else []) ++ flat_map pairs_at rest ≡ flat_map pairs_at (cond t ((suc n, x) ∷ rest) rest)
      go true rest = refl
      go false rest = refl

  -- the pairs of the component, by its clauses
  pub pairs_by_clauses : pairs_of p comps c ≡ flat_map pairs_at (clauses_of p comps c)
  pairs_by_clauses = pairs_flat 0 p.clauses

  -- a call of the component in a body, whose numbers count on from j
  pub record IsOwnCallAt (bs : List Atom) (k j : ℕ) (x : ℕ × ℕ) : Type 0 where
    pub atom : Atom
    pub first : x.0 ≡ k
    pub after : j < x.1
    pub at : slice_get bs (x.1 - suc j) ≡ Some atom
    pub own : (rank_in comps atom.pred.0 == c) ≡ true

  call_numbers : (k j : ℕ) (bs : List Atom) (x : ℕ × ℕ) → In x (calls_from comps c k j bs) → IsOwnCallAt bs k j x
  call_numbers k j [] x h = absurd h
  call_numbers k j (a ∷ bs) x h = go (rank_in comps a.pred.0 == c) refl (λ i. call_numbers k (suc j) bs x i) h
    where
      later : IsOwnCallAt bs k (suc j) x → IsOwnCallAt (a ∷ bs) k j x
      later o =
          let after = o.after in
          let place : x.1 - suc j ≡ suc (x.1 - suc (suc j)) = omega arith in
          record { atom = o.atom; first = o.first; after = omega arith; at = ap (slice_get (a ∷ bs)) place ∙ o.at; own = o.own }

      here : (rank_in comps a.pred.0 == c) ≡ true → (k, suc j) ≡ x → IsOwnCallAt (a ∷ bs) k j x
      here own e =
          let second : suc j ≡ x.1 = ap (λ (z : ℕ × ℕ). z.1) e in
          let place : x.1 - suc j ≡ 0 = omega arith in
          record { atom = a; first = ap (λ (z : ℕ × ℕ). z.0) (sym e); after = omega arith; at = ap (slice_get (a ∷ bs)) place; own = own }

      go : (t : Bool) → (rank_in comps a.pred.0 == c) ≡ t → (In x (calls_from comps c k (suc j) bs) → IsOwnCallAt bs k (suc j) x)
          → In x ((if t then (k, suc j) ∷ [] else []) ++ calls_from comps c k (suc j) bs) → IsOwnCallAt (a ∷ bs) k j x
      go true own more (inl e) = here own e
      go true own more (inr i) = later (more i)
      go false own more i = later (more i)

  -- the clause of a pair, and its call
  pub pair_clause : (x : ℕ × ℕ) → In x (pairs_of p comps c) → (k : Numbered) × In k (clauses_of p comps c) × IsOwnCallAt k.1.body k.0 0 x
  pair_clause x h =
      let from = of-flat_map pairs_at (clauses_of p comps c) x (subst (In x) pairs_by_clauses h) in
      (from.0, from.1, call_numbers from.0.0 0 from.0.1.body x from.2)

  -- the rules of the view are of members
  pub view_of_members : (expression : ℕ → Tree → List ℤ) (rows : Rowed) → AllByRecursion (IsOfMembers (λ q. rank_in comps q == c)) (component_view expression p comps rows c)
  view_of_members expression rows = all_of (IsOfMembers (λ q. rank_in comps q == c)) (component_view expression p comps rows c) (λ k i.
      let from = of-map (rule_of claims c itself) (filter own_test p.clauses) k i in
      let own = of-filter own_test p.clauses from.0 from.1 in
      subst (IsOfMembers (λ q. rank_in comps q == c)) from.2 (record { head = own.1; body = λ b q j is. call_member from.0.body b q j is }))
    where
      claims : Claims
      claims = size_claims expression p comps rows

      place_member : (t : Bool) (q r : ℕ) → (rank_in comps q == c) ≡ t → (if t then Member q else Lower (λ bs. false)) ≡ Member r → (rank_in comps r == c) ≡ true
      place_member true q r e is = let same : q ≡ r = cc in ap (λ (z : ℕ). rank_in comps z == c) (sym same) ∙ e
      place_member false q r e is = cc

      call_member : (bs : List Atom) (b : Call) (q : ℕ) → In b (map (call_of claims c itself) bs) → b.place ≡ Member q → (rank_in comps q == c) ≡ true
      call_member bs b q j is =
          let a = of-map (call_of claims c itself) bs b j in
          place_member (rank_in comps a.0.pred.0 == c) a.0.pred.0 q refl (ap (λ (z : Call). z.place) a.2 ∙ is)

-- ---- two components that are alike, but for numbers
pub record AreAlike (p new : Listing) (comps new_comps : Partition) (b c : ℕ) (rows new_rows : Rowed) (f back : ℕ → ℕ) : Type 0 where
  pub all : AreMembersAlike p new comps new_comps b c f back
  pub rules : (expression : ℕ → Tree → List ℤ) → AllByRecursion (IsOfMembers (λ q. rank_in comps q == b)) (component_view expression p comps rows b)
  pub view : (expression : ℕ → Tree → List ℤ) → component_view expression new new_comps new_rows c ≡ map (renamed_rule f) (component_view expression p comps rows b)
  -- where g gives clauses their new numbers, so it gives pairs theirs
  pub pairs : (g : ℕ → ℕ) → AreMoved g (numbers_of (clauses_of p comps b)) (numbers_of (clauses_of new new_comps c)) → pairs_of new new_comps c ≡ map (λ (x : ℕ × ℕ). (g x.0, x.1)) (pairs_of p comps b)
  pub pair_clause : (x : ℕ × ℕ) → In x (pairs_of p comps b)
      → (k : Numbered) × In k (clauses_of p comps b) × (x.0 ≡ k.0) × (a : Atom) × (slice_get k.1.body (x.1 - 1) ≡ Some a) × ((rank_in comps a.pred.0 == b) ≡ true) × (0 < x.1)
  pub partner : (g : ℕ → ℕ) → AreMoved g (numbers_of (clauses_of p comps b)) (numbers_of (clauses_of new new_comps c)) → (k : Numbered) → In k (clauses_of p comps b)
      → (l : Numbered) × In l (clauses_of new new_comps c) × (g k.0 ≡ l.0) × (l.1 ≡ renamed f k.1)
  pub body_rows : (k : Numbered) → In k (clauses_of p comps b) → (a : Atom) → In a k.1.body → new_rows (f a.pred.0) ≡ rows a.pred.0
  pub here : (k : Numbered) → In k (clauses_of p comps b) → (slice_get p.clauses (k.0 - 1) ≡ Some k.1) × ((rank_in comps k.1.head.pred.0 == b) ≡ true)
  pub there : (l : Numbered) → In l (clauses_of new new_comps c) → (slice_get new.clauses (l.0 - 1) ≡ Some l.1) × IsIn new_comps c l.1.head.pred.0
  pub own_clause : (j : ℕ) (k : Clause) → slice_get p.clauses j ≡ Some k → IsIn comps b k.head.pred.0 → In (1 + j, k) (clauses_of p comps b)
  pub rises : Rises 1 (numbers_of (clauses_of p comps b))
  pub new_rises : Rises 1 (numbers_of (clauses_of new new_comps c))

-- ---- two components
module _ (p new : Listing) (comps new_comps : Partition) (prog : IsProgram p) (new_prog : IsProgram new) (are : AreComponents p comps) (new_are : AreComponents new new_comps)
    (kept : List (Option ℕ)) (are_kept : AreKept p new kept) (b c : ℕ) (inner : b < length comps.members) (new_inner : c < length new_comps.members) (rows new_rows : Rowed)
    (stands : StandsFor comps new_comps b c rows new_rows p new kept)
    (keeps : (q r : ℕ) (x : Pred) → slice_get p.preds q ≡ Some x → slice_get new.preds r ≡ Some x → IsIn new_comps c r → new_rows r ≡ rows q) where
  abbrev pub f : ℕ → ℕ
  f = new_number p.preds new.preds

  abbrev pub m : ℕ → Bool
  m q = rank_in comps q == b

  abbrev pub nm : ℕ → Bool
  nm q = rank_in new_comps q == c

  finds : FindsByName p new f
  finds = finds_number p new new_prog

  all_named : AreMembersAlike p new comps new_comps b c f (new_number new.preds p.preds)
  all_named = members_alike p new comps new_comps prog new_prog are new_are b c inner new_inner (same_members p new comps new_comps prog new_prog are new_are kept are_kept b c rows new_rows stands)

  -- ---- clauses
  abbrev pub ks : List Numbered
  ks = clauses_of p comps b

  abbrev pub ls : List Numbered
  ls = clauses_of new new_comps c

  abbrev SameClause : Numbered → Numbered → Type 0
  SameClause = IsSameClause comps new_comps b c rows new_rows kept

  abbrev SameClauses : List Numbered → List Numbered → Type 0
  SameClauses = AreSameClauses comps new_comps b c rows new_rows kept

  -- an atom of a body there: it is of the component alike, and its predicate has the same rows
  pub record IsAlike (a : Atom) : Type 0 where
    pub rank : nm (f a.pred.0) ≡ m a.pred.0
    pub rows_same : new_rows (f a.pred.0) ≡ rows a.pred.0

  -- a clause there: the same under other numbers
  pub record IsMovedTo (k l : Numbered) : Type 0 where
    pub clause : l.1 ≡ renamed f k.1
    pub body : (a : Atom) → In a k.1.body → IsAlike a

  body_alike : (k l : Numbered) → In k ks → In l ls → SameClause k l → (a : Atom) → In a k.1.body → IsAlike a
  body_alike k l i j s a at =
      let names = same_named p new comps new_comps prog new_prog are new_are kept are_kept b c rows new_rows k l i j s in
      let pair = body_pair p new comps new_comps prog new_prog are new_are kept are_kept b c rows new_rows k.1.body l.1.body (ap (λ (n : NamedClause). n.body) names) s.calls a at in
      let x = pred_in p prog k.1 (of_program p comps prog are b k i) a at in
      let e = pair.0 in
      let e_there : slice_get new.preds e.pred.0 ≡ Some x.0 = ap (λ (n : NamedAtom). n.pred) (sym pair.2) ∙ x.1 in
      let number : f a.pred.0 ≡ e.pred.0 = finds a.pred.0 e.pred.0 x.0 x.1 e_there in
      elim pair.3 [
        | inl in_both ↦ record {
          rank = ap nm number ∙ in_ranked new_comps c new_inner e.pred.0 in_both.1 ∙ sym (in_ranked comps b inner a.pred.0 in_both.0);
          rows_same = ap new_rows number ∙ keeps a.pred.0 e.pred.0 x.0 x.1 e_there in_both.1;
        }
        | inr out ↦ record {
          rank = ap nm number ∙ out_ranked new_comps c new_inner e.pred.0 out.1 ∙ sym (out_ranked comps b inner a.pred.0 out.0);
          rows_same = ap new_rows number ∙ out.2;
        }
      ]

  moved_to : (k l : Numbered) → In k ks → In l ls → SameClause k l → IsMovedTo k l
  moved_to k l i j s = record {
    clause = same_renamed p new comps new_comps prog new_prog are new_are kept are_kept b c rows new_rows k l i j s;
    body = body_alike k l i j s;
  }

  -- the clauses of both, in order
  abbrev pub AreMovedTo : List Numbered → List Numbered → Type 0
  AreMovedTo [] [] = Unit {0}
  AreMovedTo [] (y ∷ ys) = ⊥
  AreMovedTo (x ∷ xs) [] = ⊥
  AreMovedTo (x ∷ xs) (y ∷ ys) = IsMovedTo x y × AreMovedTo xs ys

  all_moved_to : (xs ys : List Numbered) → ((k : Numbered) → In k xs → In k ks) → ((l : Numbered) → In l ys → In l ls) → SameClauses xs ys → AreMovedTo xs ys
  all_moved_to [] [] i j h = tt
  all_moved_to [] (y ∷ ys) i j h = absurd h
  all_moved_to (x ∷ xs) [] i j h = absurd h
  all_moved_to (x ∷ xs) (y ∷ ys) i j h = (moved_to x y (i x (inl refl)) (j y (inl refl)) h.0, all_moved_to xs ys (λ k n. i k (inr n)) (λ l n. j l (inr n)) h.1)

  pub clauses_moved : AreMovedTo ks ls
  clauses_moved = all_moved_to ks ls (λ k i. i) (λ l i. i) stands.clauses

  pub as_many : (xs ys : List Numbered) → AreMovedTo xs ys → length (numbers_of xs) ≡ length (numbers_of ys)
  as_many [] [] h = refl
  as_many [] (y ∷ ys) h = absurd h
  as_many (x ∷ xs) [] h = absurd h
  as_many (x ∷ xs) (y ∷ ys) h = ap suc (as_many xs ys h.1)

  -- ---- the view
  module _ (expression : ℕ → Tree → List ℤ) where
    abbrev here : Claims
    here = size_claims expression p comps rows

    abbrev there_claims : Claims
    there_claims = size_claims expression new new_comps new_rows

    call_alike : (a : Atom) → IsAlike a → call_of there_claims c itself (renamed_atom f a) ≡ renamed_call f (call_of here b itself a)
    call_alike a h = λ i. record { args = a.args; rows = h.rows_same i; grounds = λ bs. true; place = place i }
      where
        go : (t : Bool) → (if t then Member (f a.pred.0) else Lower (λ bs. false)) ≡ renamed_place f (if t then Member a.pred.0 else Lower (λ bs. false))
        go true = refl
        go false = refl

        place : (if nm (f a.pred.0) then Member (f a.pred.0) else Lower (λ bs. false)) ≡ renamed_place f (if m a.pred.0 then Member a.pred.0 else Lower (λ bs. false))
        place = (λ i. if h.rank i then Member (f a.pred.0) else Lower (λ bs. false)) ∙ go (m a.pred.0)

    calls_alike : (bs : List Atom) → ((a : Atom) → In a bs → IsAlike a) → map (call_of there_claims c itself) (map (renamed_atom f) bs) ≡ map (renamed_call f) (map (call_of here b itself) bs)
    calls_alike [] h = refl
    calls_alike (a ∷ bs) h =
        let first = call_alike a (h a (inl refl)) in
        let more = calls_alike bs (λ x i. h x (inr i)) in
        λ i. first i ∷ more i

    rule_alike : (k l : Numbered) → IsMovedTo k l → rule_of there_claims c itself l.1 ≡ renamed_rule f (rule_of here b itself k.1)
    rule_alike k l h =
        let body = calls_alike k.1.body h.body in
        ap (rule_of there_claims c itself) h.clause ∙ (λ i. record { member = f k.1.head.pred.0; args = k.1.head.args; vars = k.1.vars; body = body i })

    rules_alike : (xs ys : List Numbered) → AreMovedTo xs ys
        → map (rule_of there_claims c itself) (map (λ (k : Numbered). k.1) ys) ≡ map (renamed_rule f) (map (rule_of here b itself) (map (λ (k : Numbered). k.1) xs))
    rules_alike [] [] h = refl
    rules_alike [] (y ∷ ys) h = absurd h
    rules_alike (x ∷ xs) [] h = absurd h
    rules_alike (x ∷ xs) (y ∷ ys) h =
        let first = rule_alike x y h.0 in
        let more = rules_alike xs ys h.1 in
        λ i. first i ∷ more i

    pub view_there : component_view expression new new_comps new_rows c ≡ map (renamed_rule f) (component_view expression p comps rows b)
    view_there =
        ap (map (rule_of there_claims c itself)) (own_plain new new_comps c new_inner)
        ∙ rules_alike ks ls clauses_moved
        ∙ sym (ap (λ (xs : List Clause). map (renamed_rule f) (map (rule_of here b itself) xs)) (own_plain p comps b inner))

  -- ---- pairs
  abbrev pub moved_numbers : (ℕ → ℕ) → ℕ × ℕ → ℕ × ℕ
  moved_numbers g x = (g x.0, x.1)

  pair_calls : (g : ℕ → ℕ) (k l j : ℕ) (bs : List Atom) → g k ≡ l → ((a : Atom) → In a bs → IsAlike a) → calls_from new_comps c l j (map (renamed_atom f) bs) ≡ map (moved_numbers g) (calls_from comps b k j bs)
  pair_calls g k l j [] e h = refl
  pair_calls g k l j (a ∷ bs) e h =
      let more = pair_calls g k l (suc j) bs e (λ x i. h x (inr i)) in
      let rank = (h a (inl refl)).rank in
      (λ i. (if rank i then (sym e i, suc j) ∷ [] else []) ++ more i) ∙ go (m a.pred.0) (calls_from comps b k (suc j) bs)
    where
      go : (t : Bool) (rest : List (ℕ × ℕ)) → (if t then (g k, suc j) ∷ [] else []) ++ map (moved_numbers g) rest ≡ map (moved_numbers g) ((if t then (k, suc j) ∷ [] else []) ++ rest)
      go true rest = refl
      go false rest = refl

  pairs_alike : (g : ℕ → ℕ) (xs ys : List Numbered) → AreMovedTo xs ys → AreMoved g (numbers_of xs) (numbers_of ys)
      → flat_map (pairs_at new new_comps c new_inner) ys ≡ map (moved_numbers g) (flat_map (pairs_at p comps b inner) xs)
  pairs_alike g [] [] h n = refl
  pairs_alike g [] (y ∷ ys) h n = absurd h
  pairs_alike g (x ∷ xs) [] h n = absurd h
  pairs_alike g (x ∷ xs) (y ∷ ys) h n =
      let body : calls_from new_comps c y.0 0 y.1.body ≡ calls_from new_comps c y.0 0 (map (renamed_atom f) x.1.body) = ap (λ (k : Clause). calls_from new_comps c y.0 0 k.body) h.0.clause in
      let first = body ∙ pair_calls g x.0 y.0 0 x.1.body n.0 h.0.body in
      let more = pairs_alike g xs ys h.1 n.1 in
      (λ i. first i ++ more i) ∙ sym (map_joined (moved_numbers g) (calls_from comps b x.0 0 x.1.body) (flat_map (pairs_at p comps b inner) xs))

  pub pairs_there : (g : ℕ → ℕ) → AreMoved g (numbers_of ks) (numbers_of ls) → pairs_of new new_comps c ≡ map (moved_numbers g) (pairs_of p comps b)
  pairs_there g n =
      pairs_by_clauses new new_comps c new_inner ∙ pairs_alike g ks ls clauses_moved n ∙ ap (map (moved_numbers g)) (sym (pairs_by_clauses p comps b inner))

  -- a clause and its partner
  moved_partner : (g : ℕ → ℕ) (xs ys : List Numbered) → AreMovedTo xs ys → AreMoved g (numbers_of xs) (numbers_of ys) → (k : Numbered) → In k xs
      → (l : Numbered) × In l ys × IsMovedTo k l × (g k.0 ≡ l.0)
  moved_partner g [] ys h n k i = absurd i
  moved_partner g (x ∷ xs) [] h n k i = absurd h
  moved_partner g (x ∷ xs) (y ∷ ys) h n k (inl e) = (y, inl refl, subst (λ (z : Numbered). IsMovedTo z y) e h.0, ap (λ (z : Numbered). g z.0) (sym e) ∙ n.0)
  moved_partner g (x ∷ xs) (y ∷ ys) h n k (inr i) = let more = moved_partner g xs ys h.1 n.1 k i in (more.0, inr more.1, more.2, more.3)

  partner_of : (g : ℕ → ℕ) → AreMoved g (numbers_of ks) (numbers_of ls) → (k : Numbered) → In k ks → (l : Numbered) × In l ls × (g k.0 ≡ l.0) × (l.1 ≡ renamed f k.1)
  partner_of g n k i = let l = moved_partner g ks ls clauses_moved n k i in (l.0, l.1, l.3, l.2.clause)

  bodies : (xs ys : List Numbered) → AreMovedTo xs ys → (k : Numbered) → In k xs → (a : Atom) → In a k.1.body → new_rows (f a.pred.0) ≡ rows a.pred.0
  bodies [] ys h k i a j = absurd i
  bodies (x ∷ xs) [] h k i a j = absurd h
  bodies (x ∷ xs) (y ∷ ys) h k (inl e) a j = (h.0.body a (subst (λ (z : Numbered). In a z.1.body) (sym e) j)).rows_same
  bodies (x ∷ xs) (y ∷ ys) h k (inr i) a j = bodies xs ys h.1 k i a j

  pub alike : AreAlike p new comps new_comps b c rows new_rows f (new_number new.preds p.preds)
  alike = record {
    all = all_named;
    rules = λ expression. view_of_members p comps b inner expression rows;
    view = view_there;
    pairs = pairs_there;
    pair_clause = λ x i. let k = pair_clause p comps b inner x i in let o = k.2 in (k.0, k.1, o.first, o.atom, o.at, o.own, o.after);
    partner = partner_of;
    body_rows = λ k i a j. bodies ks ls clauses_moved k i a j;
    here = λ k i. (own_at p comps prog are b k i, in_ranked comps b inner k.1.head.pred.0 (own_component p comps prog are b k i));
    there = λ l i. (own_at new new_comps new_prog new_are c l i, own_component new new_comps new_prog new_are c l i);
    own_clause = λ j k at own. own_clause p comps prog are b j k at own;
    rises = rises_counted (λ k. is_number b (component_of comps k.1.head.pred.0)) 1 p.clauses;
    new_rises = rises_counted (λ k. is_number c (component_of new_comps k.1.head.pred.0)) 1 new.clauses;
  }
