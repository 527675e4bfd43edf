-- Refutations, where members and clauses have other numbers and stand in the same order.
use Rattle.std.proofs.Common.{◌≡◌, ℕ, zero, suc, ◌+◌, ◌-◌, ◌<◌, ◌≤◌, ◌==◌, ℤ, pos, Bool, true, false, if◌then◌else◌, inl, inr, List, [], ◌∷◌, map, take, length, slice_get, Option, None, Some, refl, ap, sym, subst, ◌∙◌, arith, eqb-true}
use Rattle.std.specs.Prelude.{IfSome, ◌≤ℤ◌}
use Rattle.std.specs.List.{AllByRecursion}
use Rattle.exact128.specs.Sums.{entry}
use Rattle.call_components.specs.Partition.{Partition}
use Rattle.cti_terms.specs.Listing.{Listing}
use Rattle.cti_terms.specs.Tree.{Tree}
use Rattle.cti_terms.specs.declared.atom_list.Atom.{Atom}
use Rattle.cti_terms.specs.declared.clauses.Clause.{Clause}
use Rattle.linear_rows.specs.Members.{In}
use Rattle.linear_rows.specs.declared.point.Point.{Point}
use Rattle.linear_rows.proofs.Members.{in-map, of-map}
use Rattle.number_tests.specs.Refuting.{PairFits, PointHolds, RowHolds, RowsHold, SumsFit, SumsRefute, ValueFits, atom_or_none, call_loads, call_of, clause_of, clause_or_none, head_loads, load_at, sizes_at}
use Rattle.number_tests.specs.Shape.{IsBefore, IsPairOf, PairsAscend, place_of_pair}
use Rattle.number_tests.specs.declared.pair_point.PairPoint.{PairPoint}
use Rattle.number_tests.specs.declared.refutation.Refutation.{Refutation}
use Rattle.termination_model.specs.chains.Chain.{clauses_of}
use Rattle.termination_model.specs.claims.Claims.{SomeOf}
use Rattle.termination_model.specs.mappings.ComponentViews.{members_in, rank_in}
use Rattle.termination_model.specs.mappings.Refutation.{Load, gather}
use Rattle.termination_model.specs.sizes.Rows.{added}
use Rattle.termination_model.specs.sizes.Systems.{row_fits, system}
use Rattle.termination_model.proofs.ChainSieves.{all_of, of_all}
use Rattle.level_systems.specs.Found.{IsOwnPair, IsRefutationOf}
use Rattle.component_laws.specs.Renaming.{KeepsApart, renamed, renamed_atom}
use Rattle.component_laws.proofs.RunLaws.{renamed_system}
use Rattle.carried_mappings.specs.Moved.{moved_pair, moved_refutation}
use Rattle.carried_mappings.proofs.Alike.{AreAlike, Rowed}
use Rattle.carried_mappings.proofs.Numbers.{AreMoved, Numbered, moved_after, moved_in, numbers_of, rises_over}
use Rattle.carried_mappings.proofs.Parts.{in_taken, take_mapped}
use Rattle.carried_mappings.proofs.Ranked.{of_contains}
use Rattle.carried_mappings.proofs.Renamed.{map_alike, map_twice, tests_alike}

-- ---- loads of members
abbrev pub renamed_load : (ℕ → ℕ) → Load → Load
renamed_load f x = (f x.0, x.1)

module _ (f : ℕ → ℕ) (m : ℕ → Bool) (apart : KeepsApart (λ q. m q ≡ true) f) where
  abbrev AreOf : List Load → Type 0
  AreOf hs = (x : Load) → In x hs → m x.0 ≡ true

  gather_renamed : (hs : List Load) → AreOf hs → (q : ℕ) → m q ≡ true → gather (f q) (map (renamed_load f) hs) ≡ gather q hs
  gather_renamed [] of q is = refl
  gather_renamed (x ∷ hs) of q is =
      let here = tests_alike f m apart x.0 q (of x (inl refl)) is in
      let more = gather_renamed hs (λ y j. of y (inr j)) q is in
      λ i. if here i then added x.1 (more i) else more i

  gather_other : (hs : List Load) → AreOf hs → (r : ℕ) → ((q : ℕ) → m q ≡ true → f q ≡ r → ⊥) → gather r (map (renamed_load f) hs) ≡ []
  gather_other [] of r out = refl
  gather_other (x ∷ hs) of r out = go (f x.0 == r) refl (gather_other hs (λ y j. of y (inr j)) r out)
    where
      go : (t : Bool) → (f x.0 == r) ≡ t → gather r (map (renamed_load f) hs) ≡ [] → (if t then added x.1 (gather r (map (renamed_load f) hs)) else gather r (map (renamed_load f) hs)) ≡ []
      go true e more = absurd (out x.0 (of x (inl refl)) (eqb-true (f x.0) r e))
      go false e more = more

  taken_of : (hs : List Load) → AreOf hs → (k : ℕ) → AreOf (take k hs)
  taken_of hs of k x i = of x (in_taken k hs x i)

  sums_fit : (nm : ℕ → Bool) → ((r : ℕ) → nm r ≡ true → (q : ℕ) × (m q ≡ true) × (f q ≡ r)) → ((q : ℕ) → m q ≡ true → nm (f q) ≡ true)
      → (hs : List Load) → AreOf hs → SumsFit hs → SumsFit (map (renamed_load f) hs)
  sums_fit nm from to hs of fit k r = go (nm r) refl
    where
      first : map (renamed_load f) (take k hs) ≡ take k (map (renamed_load f) hs)
      first = sym (take_mapped (renamed_load f) k hs)

      go : (t : Bool) → nm r ≡ t → row_fits (gather r (take k (map (renamed_load f) hs))) ≡ true
      go true e =
          let q = from r e in
          let same : gather r (take k (map (renamed_load f) hs)) ≡ gather q.0 (take k hs) =
          ap (gather r) (sym first) ∙ ap (λ (z : ℕ). gather z (map (renamed_load f) (take k hs))) (sym q.2) ∙ gather_renamed (take k hs) (taken_of hs of k) q.0 q.1 in
          ap row_fits same ∙ fit k q.0
      go false e =
          let none : gather r (take k (map (renamed_load f) hs)) ≡ [] = ap (gather r) (sym first)
          ∙ gather_other (take k hs) (taken_of hs of k) r (λ q is at. let yes : nm r ≡ true = ap nm (sym at) ∙ to q is in let no_one : true ≡ false = sym yes ∙ e in cc) in
          ap row_fits none

module _ (p new : Listing) (comps new_comps : Partition) (b c : ℕ) (rows new_rows : Rowed) (f back : ℕ → ℕ) (h : AreAlike p new comps new_comps b c rows new_rows f back)
    (g : ℕ → ℕ) (moves : AreMoved g (numbers_of (clauses_of p comps b)) (numbers_of (clauses_of new new_comps c))) (expression : ℕ → Tree → List ℤ) where
  abbrev m : ℕ → Bool
  m q = rank_in comps q == b

  -- ---- one point
  pub record IsMovedPair (x : PairPoint) : Type 0 where
    pub there : slice_get new.clauses (g x.clause - 1) ≡ Some (renamed f (clause_of p x))
    pub clause : clause_of new (moved_pair g x) ≡ renamed f (clause_of p x)
    pub call : call_of new (moved_pair g x) ≡ renamed_atom f (call_of p x)
    pub number : In x.clause (numbers_of (clauses_of p comps b))
    pub body : (a : Atom) → In a (clause_of p x).body → new_rows (f a.pred.0) ≡ rows a.pred.0
    pub head_member : m (clause_of p x).head.pred.0 ≡ true
    pub call_member : m (call_of p x).pred.0 ≡ true

  renamed_at : (bs : List Atom) (n : ℕ) → n < length bs → atom_or_none (slice_get (map (renamed_atom f) bs) n) ≡ renamed_atom f (atom_or_none (slice_get bs n))
  renamed_at [] n l = absurd (omega arith)
  renamed_at (a ∷ bs) zero l = refl
  renamed_at (a ∷ bs) (suc n) l = renamed_at bs n (omega arith)

  moved_one : (x : PairPoint) → IsPairOf p x → IsOwnPair expression p comps rows b x → IsMovedPair x
  moved_one x pair own =
      let k = pair.clause in
      let is : clause_of p x ≡ k = ap clause_or_none pair.there in
      let first = pair.first in
      let number : 1 + (x.clause - 1) ≡ x.clause = omega arith in
      let among : In (x.clause, k) (clauses_of p comps b) = subst (λ (n : ℕ). In (n, k) (clauses_of p comps b)) number
      (h.own_clause (x.clause - 1) k pair.there (subst (λ (z : Clause). slice_get comps.of z.head.pred.0 ≡ Some b) is own.head)) in
      let l = h.partner g moves (x.clause, k) among in
      let at : slice_get new.clauses (g x.clause - 1) ≡ Some (renamed f (clause_of p x)) =
      ap (λ (n : ℕ). slice_get new.clauses (n - 1)) l.2 ∙ (h.there l.0 l.1).0 ∙ ap Some (l.3 ∙ ap (renamed f) (sym is)) in
      let clause : clause_of new (moved_pair g x) ≡ renamed f (clause_of p x) = ap clause_or_none at in
      let last : x.call ≤ length (clause_of p x).body = subst (λ (z : Clause). x.call ≤ length z.body) (sym is) pair.last in
      let call_first = pair.call in
      record {
        there = at;
        clause = clause;
        call = ap (λ (z : Clause). atom_or_none (slice_get z.body (x.call - 1))) clause ∙ renamed_at (clause_of p x).body (x.call - 1) (omega arith);
        number = in-map (λ (z : Numbered). z.0) (clauses_of p comps b) (x.clause, k) among;
        body = λ a j. h.body_rows (x.clause, k) among a (subst (λ (z : Clause). In a z.body) is j);
        head_member = h.all.own_call (clause_of p x).head.pred.0 own.head;
        call_member = h.all.own_call (call_of p x).pred.0 own.call;
      }

  -- ---- all points
  module _ (xs : List PairPoint) (moved_all : (x : PairPoint) → In x xs → IsMovedPair x) where
    abbrev new_xs : List PairPoint
    new_xs = map (moved_pair g) xs

    each_there : (P Q : PairPoint → Type 0) → ((x : PairPoint) → In x xs → P x → Q (moved_pair g x)) → AllByRecursion P xs → AllByRecursion Q new_xs
    each_there P Q to all = all_of Q new_xs (λ y i.
        let z = of-map (moved_pair g) xs y i in
        subst Q z.2 (to z.0 z.1 (of_all P xs z.0 all z.1)))

    head_load_there : (x : PairPoint) → In x xs → load_at expression (clause_of new (moved_pair g x)).head x.point ≡ renamed_load f (load_at expression (clause_of p x).head x.point)
    head_load_there x i = ap (λ (z : Clause). load_at expression z.head x.point) (moved_all x i).clause

    call_load_there : (x : PairPoint) → In x xs → load_at expression (call_of new (moved_pair g x)) x.point ≡ renamed_load f (load_at expression (call_of p x) x.point)
    call_load_there x i = ap (λ (z : Atom). load_at expression z x.point) (moved_all x i).call

    abbrev heads : List Load
    heads = head_loads expression p xs

    abbrev calls : List Load
    calls = call_loads expression p xs

    heads_there : head_loads expression new new_xs ≡ map (renamed_load f) heads
    heads_there = map_twice (λ (x : PairPoint). load_at expression (clause_of new x).head x.point) (moved_pair g) xs
        ∙ map_alike (λ (x : PairPoint). load_at expression (clause_of new (moved_pair g x)).head x.point) (λ (x : PairPoint). renamed_load f (load_at expression (clause_of p x).head x.point)) xs head_load_there
        ∙ sym (map_twice (renamed_load f) (λ (x : PairPoint). load_at expression (clause_of p x).head x.point) xs)

    calls_there : call_loads expression new new_xs ≡ map (renamed_load f) calls
    calls_there = map_twice (λ (x : PairPoint). load_at expression (call_of new x) x.point) (moved_pair g) xs
        ∙ map_alike (λ (x : PairPoint). load_at expression (call_of new (moved_pair g x)) x.point) (λ (x : PairPoint). renamed_load f (load_at expression (call_of p x) x.point)) xs call_load_there
        ∙ sym (map_twice (renamed_load f) (λ (x : PairPoint). load_at expression (call_of p x) x.point) xs)

    heads_of : (x : Load) → In x heads → m x.0 ≡ true
    heads_of x i = let y = of-map (λ (z : PairPoint). load_at expression (clause_of p z).head z.point) xs x i in ap (λ (z : Load). m z.0) (sym y.2) ∙ (moved_all y.0 y.1).head_member

    calls_of : (x : Load) → In x calls → m x.0 ≡ true
    calls_of x i = let y = of-map (λ (z : PairPoint). load_at expression (call_of p z) z.point) xs x i in ap (λ (z : Load). m z.0) (sym y.2) ∙ (moved_all y.0 y.1).call_member

    pair_there : (x : PairPoint) → In x xs → IsPairOf p x → IsPairOf new (moved_pair g x)
    pair_there x i pair =
        let is : clause_of p x ≡ pair.clause = ap clause_or_none pair.there in
        let at = (moved_all x i).there in
        record {
          clause = renamed f pair.clause;
          there = at ∙ ap (λ (z : Clause). Some (renamed f z)) is;
          first = number_above x i;
          call = pair.call;
          last = subst (λ (n : ℕ). x.call ≤ n) (sym (as_long pair.clause.body)) pair.last;
          point = pair.point;
          at = pair.at;
        }
      where
        as_long : (bs : List Atom) → length (map (renamed_atom f) bs) ≡ length bs
        as_long [] = refl
        as_long (a ∷ bs) = ap suc (as_long bs)

        number_above : (x : PairPoint) → In x xs → 1 ≤ g x.clause
        number_above x i = rises_new (g x.clause) (moved_in g (numbers_of (clauses_of p comps b)) (numbers_of (clauses_of new new_comps c)) moves x.clause (moved_all x i).number)
          where
            rises_new : (n : ℕ) → In n (numbers_of (clauses_of new new_comps c)) → 1 ≤ n
            rises_new n j = rises_over 1 (numbers_of (clauses_of new new_comps c)) n h.new_rises j

    own_there : (x : PairPoint) → In x xs → IsOwnPair expression p comps rows b x → IsOwnPair expression new new_comps new_rows c (moved_pair g x)
    own_there x i own =
        let moved = moved_all x i in
        record {
          head = ap (λ (z : Clause). slice_get new_comps.of z.head.pred.0) moved.clause ∙ h.all.new_call (clause_of p x).head.pred.0 moved.head_member;
          call = ap (λ (z : Atom). slice_get new_comps.of z.pred.0) moved.call ∙ h.all.new_call (call_of p x).pred.0 moved.call_member;
          natural = own.natural;
          second = own.second;
        }

    fits_there : (x : PairPoint) → In x xs → PairFits expression p x → PairFits expression new (moved_pair g x)
    fits_there x i fit = (
      subst (λ (z : Clause). AllByRecursion (ValueFits x.point) (sizes_at expression z.head x.point)) (sym (moved_all x i).clause) fit.0,
      subst (λ (z : Atom). AllByRecursion (ValueFits x.point) (sizes_at expression z x.point)) (sym (moved_all x i).call) fit.1,
    )

    rows_there : (x : PairPoint) → In x xs → (at : Point) → RowsHold expression rows (clause_of p x) (x.call - 1) at → RowsHold expression new_rows (clause_of new (moved_pair g x)) (x.call - 1) at
    rows_there x i at holds =
        let k = clause_of p x in
        let n = x.call - 1 in
        let moved = moved_all x i in
        let same : system expression new_rows k.vars (take n (map (renamed_atom f) k.body)) ≡ system expression rows k.vars (take n k.body) =
        ap (system expression new_rows k.vars) (take_mapped (renamed_atom f) n k.body) ∙ renamed_system f expression rows new_rows k.vars (take n k.body) (λ a j. moved.body a (in_taken n k.body a j)) in
        subst (λ (z : Clause). RowsHold expression new_rows z n at) (sym moved.clause) (subst (AllByRecursion (RowHolds at)) (sym same) holds)

    point_there : (x : PairPoint) → In x xs → PointHolds expression p rows x → PointHolds expression new new_rows (moved_pair g x)
    point_there x i holds = (rows_there x i x.point holds.0, second x.at holds.1)
      where
        second : (o : Option Point) → IfSome o (RowsHold expression rows (clause_of p x) (x.call - 1)) → IfSome o (RowsHold expression new_rows (clause_of new (moved_pair g x)) (x.call - 1))
        second None all = tt
        second (Some at) all = rows_there x i at all

    sums_there : SumsRefute expression p (members_in comps b) xs → SumsRefute expression new (members_in new_comps c) new_xs
    sums_there sums = record {
      positive = some_there xs sums.positive;
      fit = record {
        values = each_there (PairFits expression p) (PairFits expression new) fits_there sums.fit.values;
        heads = subst SumsFit (sym heads_there) (sums_fit f m h.all.apart (λ r. rank_in new_comps r == c) h.all.from h.all.to heads heads_of sums.fit.heads);
        calls = subst SumsFit (sym calls_there) (sums_fit f m h.all.apart (λ r. rank_in new_comps r == c) h.all.from h.all.to calls calls_of sums.fit.calls);
      };
      columns = λ r has i.
          let q = h.all.from r (h.all.new_member r (of_contains (members_in new_comps c) r has)) in
          let head : gather r (head_loads expression new new_xs) ≡ gather q.0 heads =
          ap (gather r) heads_there ∙ ap (λ (z : ℕ). gather z (map (renamed_load f) heads)) (sym q.2) ∙ gather_renamed f m h.all.apart heads heads_of q.0 q.1 in
          let call : gather r (call_loads expression new new_xs) ≡ gather q.0 calls =
          ap (gather r) calls_there ∙ ap (λ (z : ℕ). gather z (map (renamed_load f) calls)) (sym q.2) ∙ gather_renamed f m h.all.apart calls calls_of q.0 q.1 in
          subst (λ (z : List ℤ). entry z i ≤ℤ entry (gather r (call_loads expression new new_xs)) i) (sym head)
          (subst (λ (z : List ℤ). entry (gather q.0 heads) i ≤ℤ entry z i) (sym call) (sums.columns q.0 (h.all.contained q.0 q.1) i));
    }
      where
        some_there : (ys : List PairPoint) → SomeOf (λ (x : PairPoint). pos 1 ≤ℤ x.point.t) ys → SomeOf (λ (x : PairPoint). pos 1 ≤ℤ x.point.t) (map (moved_pair g) ys)
        some_there [] s = absurd s
        some_there (y ∷ ys) (inl s) = inl s
        some_there (y ∷ ys) (inr s) = inr (some_there ys s)

  before_there : (x y : PairPoint) → In x.clause (numbers_of (clauses_of p comps b)) → In y.clause (numbers_of (clauses_of p comps b)) → IsBefore (place_of_pair x) (place_of_pair y)
      → IsBefore (place_of_pair (moved_pair g x)) (place_of_pair (moved_pair g y))
  before_there x y i j (inl earlier) = inl (moved_after g 1 1 (numbers_of (clauses_of p comps b)) (numbers_of (clauses_of new new_comps c)) h.rises h.new_rises moves x.clause y.clause i j earlier)
  before_there x y i j (inr same) = inr (ap g same.0, same.1)

  ascend_after : (x : PairPoint) (ys : List PairPoint) → In x.clause (numbers_of (clauses_of p comps b)) → ((y : PairPoint) → In y ys → In y.clause (numbers_of (clauses_of p comps b))) → PairsAscend (place_of_pair x) ys
      → PairsAscend (place_of_pair (moved_pair g x)) (map (moved_pair g) ys)
  ascend_after x [] i all r = tt
  ascend_after x (y ∷ ys) i all r = (before_there x y i (all y (inl refl)) r.0, ascend_after y ys (all y (inl refl)) (λ z j. all z (inr j)) r.1)

  ascend_there : (ys : List PairPoint) → ((y : PairPoint) → In y ys → In y.clause (numbers_of (clauses_of p comps b))) → PairsAscend (0, 0) ys → PairsAscend (0, 0) (map (moved_pair g) ys)
  ascend_there [] all r = tt
  ascend_there (y ∷ ys) all r =
      let above = rises_over 1 (numbers_of (clauses_of new new_comps c)) (g y.clause) h.new_rises (moved_in g (numbers_of (clauses_of p comps b)) (numbers_of (clauses_of new new_comps c)) moves y.clause (all y (inl refl))) in
      (inl (omega arith), ascend_after y ys (all y (inl refl)) (λ z j. all z (inr j)) r.1)

  pub refutation_there : (r : Refutation) → IsRefutationOf expression p comps rows b r → IsRefutationOf expression new new_comps new_rows c (moved_refutation g r)
  refutation_there r old =
      let xs = r.points in
      let all : (x : PairPoint) → In x xs → IsMovedPair x = λ x i. moved_one x (of_all (IsPairOf p) xs x old.pairs i) (of_all (IsOwnPair expression p comps rows b) xs x old.own i) in
      record {
        pairs = each_there xs all (IsPairOf p) (IsPairOf new) (pair_there xs all) old.pairs;
        ascend = ascend_there xs (λ x i. (all x i).number) old.ascend;
        own = each_there xs all (IsOwnPair expression p comps rows b) (IsOwnPair expression new new_comps new_rows c) (own_there xs all) old.own;
        sums = sums_there xs all old.sums;
        points = each_there xs all (PointHolds expression p rows) (PointHolds expression new new_rows) (point_there xs all) old.points;
      }
