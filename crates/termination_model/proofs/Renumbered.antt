-- Claims of a program with other numbers.
use Rattle.std.proofs.Common.{◌≡◌, ℕ, zero, suc, ◌<◌, ◌≤◌, ℤ, pos, negsuc, Bool, true, List, [], ◌∷◌, ◌++◌, map, take, slice_get, Some, inl, inr, refl, ap, sym, subst, ◌∙◌, arith}
use Rattle.std.specs.List.{AllByRecursion}
use Rattle.cti_terms.specs.Tree.{Tree}
use Rattle.cti_terms.specs.declared.atom_list.Atom.{Atom}
use Rattle.cti_terms.specs.declared.clauses.Clause.{Clause}
use Rattle.cti_terms.specs.Listing.{Listing}
use Rattle.linear_rows.specs.Rows.{Holds, HoldsOn}
use Rattle.termination_model.specs.sizes.Rows.{scaled, added, substituted, IsUpper, Covers}
use Rattle.termination_model.specs.sizes.Systems.{system}
use Rattle.termination_model.specs.grounds.Grounds.{truth_row, IsGround, IsClosedUnder}
use Rattle.termination_model.specs.claims.Claims.{SomeOf, Mapping, Measure, Claims, IsSized, IsInductive, IsRanked, level_row, fall_row, FallsOn, Descends, Admits, KeepsRule, Serves, Shows}
use Rattle.termination_model.specs.claims.Renumbered.{atom_to, clause_to, mapping_to, measure_to, claims_to, Renumbers, RenumberedShow, RenumberedAdmit, RenumberedTake}
use Rattle.termination_model.specs.claims.StatedFacts.{IsAllowed}
use Rattle.termination_model.proofs.Walk.{all_map, all_onto}
use Rattle.termination_model.proofs.Views.{map_over}

some_onto : {X Y : Type 0} (f : X → Y) (P : X → Type 0) (Q : Y → Type 0) → ((x : X) → P x → Q (f x)) → (xs : List X) → SomeOf P xs → SomeOf Q (map f xs)
some_onto f P Q h [] s = absurd s
some_onto f P Q h (x ∷ xs) (inl a) = inl (h x a)
some_onto f P Q h (x ∷ xs) (inr s) = inr (some_onto f P Q h xs s)

take_map : {X Y : Type 0} (f : X → Y) (j : ℕ) (xs : List X) → take j (map f xs) ≡ map f (take j xs)
take_map f zero [] = refl
take_map f (suc j) [] = refl
take_map f zero (x ∷ xs) = refl
take_map f (suc j) (x ∷ xs) = λ i. f x ∷ take_map f j xs i

got_map : {X Y : Type 0} (f : X → Y) (xs : List X) (j : ℕ) (y : Y) → slice_get (map f xs) j ≡ Some y → (x : X) × (slice_get xs j ≡ Some x) × (f x ≡ y)
got_map f [] j y e = absurd (cc)
got_map f (x ∷ xs) zero y e = let same : f x ≡ y = cc in (x, refl, same)
got_map f (x ∷ xs) (suc j) y e = got_map f xs j y e

module _ (from : ℕ → ℕ) (size : (ℕ → ℕ) → Tree → ℕ) (truth : (ℕ → Bool) → Tree → Bool) (expression : ℕ → Tree → List ℤ) (c : Claims) where
  abbrev e : Claims
  e = claims_to from size truth expression c

  pub admits_at : (i : ℕ) (bs : List Bool) → Admits c (from i) bs → Admits e i bs
  admits_at i bs = some_onto (measure_to from) (λ (m : Measure). (us : List Bool) → IsUpper us bs → m.pre (from i) us ≡ true) (λ (m : Measure). (us : List Bool) → IsUpper us bs → m.pre i us ≡ true) (λ m h. h) (c.measures (c.rank (from i)))

  module _ (to : ℕ → ℕ) (renamed : Tree → Tree) (p q : Listing) (new : Renumbers to from renamed size truth expression p q c) (shows : Shows p c) where
    abbrev at : Atom → Atom
    at = atom_to to renamed

    abbrev kl : Clause → Clause
    kl = clause_to to renamed

    sizes_at : (s : ℕ → ℕ) (a : Atom) → map (size s) (at a).args ≡ map (c.size s) a.args
    sizes_at s a = map_over (size s) (c.size s) renamed (new.size_to s) a.args

    row_at : (v : ℕ → Bool) (a : Atom) → truth_row truth v (at a) ≡ truth_row c.truth v a
    row_at v a = map_over (truth v) (c.truth v) renamed (new.truth_to v) a.args

    exprs_at : (n : ℕ) (a : Atom) → map (expression n) (at a).args ≡ map (c.expression n) a.args
    exprs_at n a = map_over (expression n) (c.expression n) renamed (new.expression_to n) a.args

    abbrev SizedBy : List ℕ × List (List ℤ) → Type 0
    SizedBy z = AllByRecursion (λ (r : List ℤ). Holds r 1 z.0) z.1

    sized_to : (s : ℕ → ℕ) (a : Atom) → IsSized c s a → IsSized e s (at a)
    sized_to s a = subst SizedBy (sym (λ i. (sizes_at s a i, c.rows (new.inverse a.pred.0 i))))

    sized_from : (s : ℕ → ℕ) (a : Atom) → IsSized e s (at a) → IsSized c s a
    sized_from s a = subst SizedBy (λ i. (sizes_at s a i, c.rows (new.inverse a.pred.0 i)))

    -- a set of rows for each predicate, at an atom
    set_to : (set : ℕ → List Bool → Bool) (v : ℕ → Bool) (a : Atom) → set a.pred.0 (truth_row c.truth v a) ≡ true → set (from (to a.pred.0)) (truth_row truth v (at a)) ≡ true
    set_to set v a h = (λ i. set (new.inverse a.pred.0 i) (row_at v a i)) ∙ h

    set_from : (set : ℕ → List Bool → Bool) (v : ℕ → Bool) (a : Atom) → set (from (to a.pred.0)) (truth_row truth v (at a)) ≡ true → set a.pred.0 (truth_row c.truth v a) ≡ true
    set_from set v a h = sym (λ i. set (new.inverse a.pred.0 i) (row_at v a i)) ∙ h

    grounds_from : (v : ℕ → Bool) (bs : List Atom) → AllByRecursion (IsGround truth e.grounds v) (map at bs) → AllByRecursion (IsGround c.truth c.grounds v) bs
    grounds_from v bs = all_map at (IsGround c.truth c.grounds v) (IsGround truth e.grounds v) (set_from c.grounds v) bs

    inductive_to : (k : Clause) → IsInductive c k → IsInductive e (kl k)
    inductive_to k h s all = sized_to s k.head (h s (all_map at (IsSized c s) (IsSized e s) (sized_from s) k.body all))

    closed_to : (k : Clause) → IsClosedUnder c.truth c.grounds k → IsClosedUnder truth e.grounds (kl k)
    closed_to k h v all = set_to c.grounds v k.head (h v (grounds_from v k.body all))

    rank_at : (a : Atom) → e.rank (at a).pred.0 ≡ c.rank a.pred.0
    rank_at a = ap c.rank (new.inverse a.pred.0)

    ranked_to : (k : Clause) → IsRanked c k → IsRanked e (kl k)
    ranked_to k = all_onto at (λ (b : Atom). c.rank b.pred.0 ≤ c.rank k.head.pred.0) (λ (b : Atom). e.rank b.pred.0 ≤ e.rank (at k.head).pred.0)
        (λ b le. omega (arith, le, rank_at b, rank_at k.head)) k.body

    system_at : (n : ℕ) (bs : List Atom) → system expression e.rows n (map at bs) ≡ system c.expression c.rows n bs
    system_at n [] = refl
    system_at n (b ∷ bs) =
        let rest = system_at n bs in
        let here = exprs_at n b in
        λ i. map (substituted n (here i)) (c.rows (new.inverse b.pred.0 i)) ++ rest i

    level_at : (n : ℕ) (l : Mapping) (a : Atom) → level_row e n (mapping_to from l) (at a) ≡ level_row c n l a
    level_at n l a =
        let here = exprs_at n a in
        λ i. substituted n (here i) (pos (l.offset (new.inverse a.pred.0 i)) ∷ map pos (l.coefficients (new.inverse a.pred.0 i)))

    fall_at : (k : Clause) (b : Atom) (d : ℕ) (l : Mapping) → fall_row e (kl k) (at b) d (mapping_to from l) ≡ fall_row c k b d l
    fall_at k b d l =
        let head = level_at k.vars l k.head in
        let call = level_at k.vars l b in
        λ i. added (head i) (scaled (negsuc 0) (added (call i) (pos d ∷ [])))

    holds_to : (k : Clause) (rows : List (List ℤ)) (b : Atom) (d : ℕ) (l : Mapping) → HoldsOn (suc k.vars) rows (fall_row c k b d l) → HoldsOn (suc k.vars) rows (fall_row e (kl k) (at b) d (mapping_to from l))
    holds_to k rows b d l = subst (HoldsOn (suc k.vars) rows) (sym (fall_at k b d l))

    falls_to : (k : Clause) (rows : List (List ℤ)) (b : Atom) (i : ℕ) (ls : List Mapping) → FallsOn c k rows b i ls → FallsOn e (kl k) rows (at b) i (map (mapping_to from) ls)
    falls_to k rows b i [] h = h
    falls_to k rows b zero (l ∷ ls) h = holds_to k rows b 1 l h
    falls_to k rows b (suc i) (l ∷ ls) h = (holds_to k rows b 0 l h.0, falls_to k rows b i ls h.1)

    abbrev FallsThere : Measure → Clause → ℕ → Atom → Type 0
    FallsThere m k j x = (i : ℕ) × FallsOn e (kl k) (system expression e.rows k.vars (take j (map at k.body))) x i (map (mapping_to from) m.mappings)

    descends_to : (m : Measure) (k : Clause) → Descends c m k → Descends e (measure_to from m) (kl k)
    descends_to m k h j b' got same = subst (FallsThere m k j) found.2 proved
      where
        found : (b : Atom) × (slice_get k.body j ≡ Some b) × (at b ≡ b')
        found = got_map at k.body j b' got

        proved : FallsThere m k j (at found.0)
        proved =
            let same' : c.rank found.0.pred.0 ≡ c.rank k.head.pred.0 = sym (rank_at found.0) ∙ ap (λ (x : Atom). e.rank x.pred.0) found.2 ∙ same ∙ rank_at k.head in
            let falls = h j found.0 found.1 same' in
            let rows = ap (system expression e.rows k.vars) (take_map at j k.body) ∙ system_at k.vars (take j k.body) in
            (falls.0, subst (λ (r : List (List ℤ)). FallsOn e (kl k) r (at found.0) falls.0 (map (mapping_to from) m.mappings)) (sym rows) (falls_to k (system c.expression c.rows k.vars (take j k.body)) found.0 falls.0 m.mappings falls.1))

    abbrev RuleThere : Measure → Clause → (ℕ → Bool) → Atom → Type 0
    RuleThere m k v x = (e.rank x.pred.0 ≡ e.rank (at k.head).pred.0 → (measure_to from m).pre x.pred.0 (truth_row truth v x) ≡ true)
        × (e.rank x.pred.0 < e.rank (at k.head).pred.0 → Admits e x.pred.0 (truth_row truth v x))

    rule_to : (m : Measure) (k : Clause) → KeepsRule c m k → KeepsRule e (measure_to from m) (kl k)
    rule_to m k h v head j b' got all = subst (RuleThere m k v) found.2 proved
      where
        found : (b : Atom) × (slice_get k.body j ≡ Some b) × (at b ≡ b')
        found = got_map at k.body j b' got

        before : AllByRecursion (IsGround c.truth c.grounds v) (take j k.body)
        before = grounds_from v (take j k.body) (subst (AllByRecursion (IsGround truth e.grounds v)) (take_map at j k.body) all)

        own : (c.rank found.0.pred.0 ≡ c.rank k.head.pred.0 → m.pre found.0.pred.0 (truth_row c.truth v found.0) ≡ true)
            × (c.rank found.0.pred.0 < c.rank k.head.pred.0 → Admits c found.0.pred.0 (truth_row c.truth v found.0))
        own = h v (set_from m.pre v k.head head) j found.0 found.1 before

        proved : RuleThere m k v (at found.0)
        proved = (
          λ same. set_to m.pre v found.0 (own.0 (sym (rank_at found.0) ∙ same ∙ rank_at k.head)),
          λ less. admits_at (at found.0).pred.0 (truth_row truth v (at found.0))
              (subst (λ (z : ℕ × List Bool). Admits c z.0 z.1) (sym (λ i. (new.inverse found.0.pred.0 i, row_at v found.0 i))) (own.1 (omega (arith, less, rank_at found.0, rank_at k.head)))),
        )

    abbrev AllNew : (Clause → Type 0) → Type 0
    AllNew P = AllByRecursion P q.clauses

    onto : (P Q : Clause → Type 0) → ((k : Clause) → P k → Q (kl k)) → AllByRecursion P p.clauses → AllNew Q
    onto P Q f all = subst (AllByRecursion Q) (sym new.clauses) (all_onto kl P Q f p.clauses all)

    serves_to : (r : ℕ) (m : Measure) → Serves p c r m → Serves q e r (measure_to from m)
    serves_to r m s = record {
      covered = λ i bs same pre. all_onto (mapping_to from) (λ (l : Mapping). Covers (l.coefficients (from i)) bs) (λ (l : Mapping). Covers (l.coefficients i) bs) (λ l h. h) m.mappings (s.covered (from i) bs same pre);
      descends = onto (λ (k : Clause). c.rank k.head.pred.0 ≡ r → Descends c m k) (λ (k : Clause). e.rank k.head.pred.0 ≡ r → Descends e (measure_to from m) k) (λ k h same. descends_to m k (h (sym (rank_at k.head) ∙ same))) s.descends;
      rule = onto (λ (k : Clause). c.rank k.head.pred.0 ≡ r → KeepsRule c m k) (λ (k : Clause). e.rank k.head.pred.0 ≡ r → KeepsRule e (measure_to from m) k) (λ k h same. rule_to m k (h (sym (rank_at k.head) ∙ same))) s.rule;
    }

    pub shows_to : Shows q e
    shows_to = record {
      norm = new.norm;
      ranked = onto (IsRanked c) (IsRanked e) ranked_to shows.ranked;
      inductive = onto (IsInductive c) (IsInductive e) inductive_to shows.inductive;
      closed = record {
        clauses = onto (IsClosedUnder c.truth c.grounds) (IsClosedUnder truth e.grounds) closed_to shows.closed.clauses;
        builtins = λ i b kind. shows.closed.builtins (from i) b (new.builtins i b kind);
      };
      stated = λ i b kind. shows.stated (from i) b (new.builtins i b kind);
      measures = λ r. all_onto (measure_to from) (Serves p c r) (Serves q e r) (serves_to r) (c.measures r) (shows.measures r);
    }

pub renumbered_show : RenumberedShow
renumbered_show to from renamed size truth expression p q c new shows = shows_to from size truth expression c to renamed p q new shows

pub renumbered_admit : RenumberedAdmit
renumbered_admit from size truth expression c = admits_at from size truth expression c

pub renumbered_take : RenumberedTake
renumbered_take from size truth expression c f takes = record {
  rows = λ i o. takes.rows (from i) o;
  grounds = λ i o. takes.grounds (from i) o;
  modes = λ r. all_onto (measure_to from) (λ (m : Measure). (i : ℕ) (bs : List Bool) → c.rank i ≡ r → f.is_open i ≡ true → m.pre i bs ≡ true → IsAllowed f i bs)
      (λ (m : Measure). (i : ℕ) (bs : List Bool) → c.rank (from i) ≡ r → f.is_open (from i) ≡ true → m.pre i bs ≡ true → IsAllowed f (from i) bs) (λ m lets i bs same o pre. lets (from i) bs same o pre) (c.measures r) (takes.modes r);
}
