-- Reading a refutation: what is read is listed so, and what is listed so is read.
use Rattle.std.proofs.Common.{◌≡◌, ◌≢◌, ℕ, ◌⊎◌, inl, inr, Bool, true, false, ◌&&◌, ◌||◌, ◌==◌, if◌then◌else◌, nat_lt, List, ◌++◌, length, Option, Some, None, Ok, refl, ap, sym, ◌∙◌, subst, eqb-true, eq-eqb, lt-ltb, ltb-true}
use Rattle.std.proofs.lemmas.Bool.{false≢true, and_parts}
use Rattle.std.proofs.lemmas.Bool.Decides.{Decides-int_eq}
use Rattle.std.proofs.lemmas.Option.{none-some}
use Rattle.std.specs.Prelude.{ℤ, pos, IsTrue}
use Rattle.std.specs.Ordering.{int_eq}
use Rattle.std.specs.List.{AllByRecursion}
use Rattle.call_components.specs.Partition.{Partition}
use Rattle.certificate.specs.declared.fact.Fact.{Fact}
use Rattle.certificate.specs.declared.fact.Fact.TheVariants as fact
use Rattle.cti_terms.specs.Listing.{Listing, numbered}
use Rattle.number_tests.specs.declared.level_part.LevelPart.{LevelPart}
use Rattle.linear_rows.specs.declared.point.Point.{Point}
use Rattle.number_tests.specs.declared.pair_point.PairPoint.{PairPoint}
use Rattle.number_tests.specs.declared.refutation.Refutation.{Refutation}
use Rattle.cert_structure.specs.declared.points.FirstPoint.{FirstPoint}
use Rattle.cert_structure.specs.Order.{pred_text, at_facts, point_facts, refutation_facts}
use Rattle.cert_structure.specs.Shape.{vars_of, is_pair, IsBefore, place_of_pair, IsPoint, HasSecond, IsPairPoint, IsRefutation}
use Rattle.cert_structure.specs.Walk.{is_amount, are_amounts, is_before, pair_end, paired, point_read, pair_point, take_point, take_second, take_refuted, read_second, read_point, read_refutation}
use Rattle.fact_reading.specs.Walk.{Taken, result_map, read_next}
use Rattle.cert_structure.proofs.KindLemmas.{split_point, split_second, IsPoint as IsPointFact, IsAt}
use Rattle.fact_reading.proofs.SectionLemmas.{same_some, same_ok, bound, mapped, IsTaken, IsBack, next_sound, next_back}
use Rattle.cert_structure.proofs.GroupLemmas as laws
use Rattle.cert_structure.proofs.ContentLemmas.{other_taken, placed, kept_is, amount_is, amount_back, amounts_are, amounts_back}
use Rattle.cert_structure.proofs.TakeLemmas.{refuted_taken, refuted_given}
use Rattle.cert_structure.specs.SharedFacts.{shared}

-- pairs in order
pub before_is : (q r : ℕ × ℕ) → is_before q r ≡ true → IsBefore q r
before_is q r e = go (nat_lt q.0 r.0) refl e
  where
    go : (b : Bool) → nat_lt q.0 r.0 ≡ b → (b || ((q.0 == r.0) && nat_lt q.1 r.1)) ≡ true → IsBefore q r
    go true less h = inl (ltb-true q.0 r.0 less)
    go false less h = let (same, call) = and_parts (q.0 == r.0) (nat_lt q.1 r.1) h in inr (eqb-true q.0 r.0 same, ltb-true q.1 r.1 call)

pub before_back : (q r : ℕ × ℕ) → IsBefore q r → is_before q r ≡ true
before_back q r (inl h) = rw (lt-ltb q.0 r.0 h) refl
before_back q r (inr h) = go (nat_lt q.0 r.0)
  where
    go : (b : Bool) → (b || ((q.0 == r.0) && nat_lt q.1 r.1)) ≡ true
    go true = refl
    go false = rw (eq-eqb q.0 r.0 h.0, lt-ltb q.1 r.1 h.1) refl

-- points
pub point_is : (vars : ℕ) (t : ℤ) (w : List ℤ) (x : Point) → point_read vars t w ≡ Some (Some x) → (record { t = t; w = w } ≡ x) × IsPoint vars x
point_is vars t w x e =
    let (right, same) = kept_is ((length w == vars) && (is_amount t && are_amounts w)) (record { t = t; w = w }) x e in
    let (wide, more) = and_parts (length w == vars) (is_amount t && are_amounts w) right in
    let (one, others) = and_parts (is_amount t) (are_amounts w) more in
    rw (← same) (refl, (eqb-true (length w) vars wide, amount_is t one, amounts_are w others))

pub point_back : (vars : ℕ) (x : Point) → IsPoint vars x → point_read vars x.t x.w ≡ Some (Some x)
point_back vars x h = rw (eq-eqb (length x.w) vars h.0, amount_back x.t h.1, amounts_back x.w h.2) refl

abbrev first_point : ℕ → ℕ → Point → FirstPoint
first_point clause call x = record { pair = record { clause = clause; call = call }; point = x }

paired_is : (clause call : ℕ) (o : Taken Point) (y : FirstPoint) → paired clause call o ≡ Some (Some y) → (x : Point) × (o ≡ Some (Some x)) × (first_point clause call x ≡ y)
paired_is clause call None y e = absurd (none-some _ e)
paired_is clause call (Some None) y e = other_taken (Some None) y refl e
paired_is clause call (Some (Some x)) y e = (x, refl, same_some _ _ (same_some _ _ e))

module _ (p : Listing) (comps : Partition) (a : ℕ) where
  -- what is asked of a pair and its first point
  pub record IsFirst (last : ℕ × ℕ) (y : FirstPoint) : Type 0 where
    pub pair : IsTrue (is_pair p comps a y.pair.clause y.pair.call)
    pub before : IsBefore last (pair_end y.pair)
    pub point : IsPoint (vars_of (numbered p.clauses y.pair.clause)) y.point

  pub first_taken : (last : ℕ × ℕ) → IsTaken (take_point p comps a last) (λ _ y. fact.Point y.pair.clause y.pair.call y.point.t y.point.w) (IsFirst last)
  unfolding take_point
  first_taken last i f y e = go (split_point f)
    where
      go : ((p : Listing) (comps : Partition) (a : ℕ) (last : ℕ × ℕ) (i : ℕ) → take_point p comps a last i f ≡ Some None) ⊎ IsPointFact f
          → (f ≡ fact.Point y.pair.clause y.pair.call y.point.t y.point.w) × IsFirst last y
      go (inl none) = other_taken (take_point p comps a last i f) y (none p comps a last i) e
      go (inr (clause, call, t, w, is)) =
          let (here, some) = placed (is_pair p comps a clause call && is_before last (clause, call))
          (paired clause call (point_read (vars_of (numbered p.clauses clause)) t w)) y (rw is at e) in
          let (own, later) = and_parts (is_pair p comps a clause call) (is_before last (clause, call)) here in
          let (x, read, same) = paired_is clause call (point_read (vars_of (numbered p.clauses clause)) t w) y some in
          let (whole, right) = point_is (vars_of (numbered p.clauses clause)) t w x read in
          rw (← same) (rw (is, ← whole) refl, record { pair = own; before = before_is last (clause, call) later; point = right })

  first_given : (last : ℕ × ℕ) → IsBack (take_point p comps a last) (λ _ y. fact.Point y.pair.clause y.pair.call y.point.t y.point.w) (IsFirst last)
  unfolding take_point
  first_given last i y h =
      rw (h.pair, before_back last (pair_end y.pair) h.before, point_back (vars_of (numbered p.clauses y.pair.clause)) y.point h.point) refl

pub second_taken : (pair : ℕ × ℕ) (vars : ℕ) → IsTaken (take_second pair vars) (λ _ y. fact.At pair.0 pair.1 y.t y.w) (λ y. IsPoint vars y × (y.t ≢ pos 0))
unfolding take_second
second_taken pair vars i f y e = go (split_second f)
  where
    inner : (t : ℤ) (w : List ℤ) (b : Bool) → int_eq t (pos 0) ≡ b → (if b then None else point_read vars t w) ≡ Some (Some y)
        → (record { t = t; w = w } ≡ y) × IsPoint vars y × (t ≢ pos 0)
    inner t w true test some = absurd (none-some _ some)
    inner t w false test some =
        let (whole, right) = point_is vars t w y some in
        (whole, right, λ null. false≢true (sym test ∙ (Decides-int_eq t (pos 0)).1 null))

    go : ((pair : ℕ × ℕ) (vars i : ℕ) → take_second pair vars i f ≡ Some None) ⊎ IsAt f → (f ≡ fact.At pair.0 pair.1 y.t y.w) × (IsPoint vars y × (y.t ≢ pos 0))
    go (inl none) = other_taken (take_second pair vars i f) y (none pair vars i) e
    go (inr (clause, call, t, w, is)) =
        let (here, some) = placed ((clause == pair.0) && (call == pair.1)) (if int_eq t (pos 0) then None else point_read vars t w) y (rw is at e) in
        let (one, two) = and_parts (clause == pair.0) (call == pair.1) here in
        let (whole, right, not_zero) = inner t w (int_eq t (pos 0)) refl some in
        let own : t ≡ y.t = ap (λ z. z.t) whole in
        (rw (is, eqb-true clause pair.0 one, eqb-true call pair.1 two, ← whole) refl, (right, λ null. not_zero (own ∙ null)))

pub not_null : (t : ℤ) → t ≢ pos 0 → int_eq t (pos 0) ≡ false
not_null t h = go (int_eq t (pos 0)) refl
  where
    go : (b : Bool) → int_eq t (pos 0) ≡ b → b ≡ false
    go true e = absurd (h ((Decides-int_eq t (pos 0)).0 e))
    go false e = refl

second_given : (pair : ℕ × ℕ) (vars : ℕ) → IsBack (take_second pair vars) (λ _ y. fact.At pair.0 pair.1 y.t y.w) (λ y. IsPoint vars y × (y.t ≢ pos 0))
unfolding take_second
second_given pair vars i y h = rw (eq-eqb pair.0 pair.0 refl, eq-eqb pair.1 pair.1 refl, not_null y.t h.1, point_back vars y h.0) refl

-- the second point
abbrev vars_at : Listing → FirstPoint → ℕ
vars_at p x = vars_of (numbered p.clauses x.pair.clause)

abbrev with_second : FirstPoint → Point × List Fact → PairPoint × List Fact
with_second x y = (pair_point x (Some y.0), y.1)

second_sound : (p : Listing) (x : FirstPoint) (s t : List Fact) (y : PairPoint) → read_second p x s ≡ Ok (y, t)
    → (s ≡ at_facts x.pair.clause x.pair.call y.at ++ t) × HasSecond (vars_at p x) x.point.t y.at × (pair_point x y.at ≡ y)
unfolding read_second
second_sound p x s t y e = go (int_eq x.point.t (pos 0)) refl e
  where
    go : (b : Bool) → int_eq x.point.t (pos 0) ≡ b
        → (if b
        then result_map (with_second x) (read_next (take_second (pair_end x.pair) (vars_at p x)) 0 s)
        else Ok (pair_point x None, s)) ≡ Ok (y, t)
        → (s ≡ at_facts x.pair.clause x.pair.call y.at ++ t) × HasSecond (vars_at p x) x.point.t y.at × (pair_point x y.at ≡ y)
    go true test read =
        mapped (with_second x) (read_next (take_second (pair_end x.pair) (vars_at p x)) 0 s) (y, t) read λ q here both.
        let (one, right) = next_sound (take_second (pair_end x.pair) (vars_at p x)) (λ _ y. fact.At x.pair.clause x.pair.call y.t y.w) _ (second_taken (pair_end x.pair) (vars_at p x)) 0 s q.1 q.0 here in
        let first : pair_point x (Some q.0) ≡ y = ap (λ r. r.0) both in
        let rest : q.1 ≡ t = ap (λ r. r.1) both in
        rw (← first, ← rest) (one, ((Decides-int_eq x.point.t (pos 0)).0 test, right.0, right.1), refl)
    go false test read =
        let both : (pair_point x None, s) ≡ (y, t) = same_ok _ _ read in
        let first : pair_point x None ≡ y = ap (λ r. r.0) both in
        let rest : s ≡ t = ap (λ r. r.1) both in
        rw (← first, ← rest) (refl, (λ null. false≢true (sym test ∙ (Decides-int_eq x.point.t (pos 0)).1 null)), refl)

second_back : (p : Listing) (x : FirstPoint) (at : Option Point) (t : List Fact) → HasSecond (vars_at p x) x.point.t at
    → read_second p x (at_facts x.pair.clause x.pair.call at ++ t) ≡ Ok (pair_point x at, t)
unfolding read_second
second_back p x None t h = rw (not_null x.point.t h) refl
second_back p x (Some y) t h =
    rw (
      (Decides-int_eq x.point.t (pos 0)).1 h.0,
      next_back (take_second (pair_end x.pair) (vars_at p x)) (λ _ y. fact.At x.pair.clause x.pair.call y.t y.w) _ (second_given (pair_end x.pair) (vars_at p x)) 0 y t (h.1, h.2),
    ) refl

module _ (p : Listing) (comps : Partition) (a : ℕ) where
  pub point_sound : (last : ℕ × ℕ) (s t : List Fact) (y : PairPoint) → read_point p comps a last s ≡ Ok (y, t)
      → (s ≡ point_facts y ++ t) × IsBefore last (place_of_pair y) × IsPairPoint p comps a y
  unfolding read_point
  point_sound last s t y e =
      bound (λ x. read_second p x.0 x.1) (read_next (take_point p comps a last) 0 s) (y, t) e λ q here more.
      let (one, right) = next_sound (take_point p comps a last) (λ _ y. fact.Point y.pair.clause y.pair.call y.point.t y.point.w) _ (first_taken p comps a last) 0 s q.1 q.0 here in
      let (others, second, same) = second_sound p q.0 q.1 t y more in
      let back : pair_point q.0 y.at ≡ y = same in
      subst (λ z. (s ≡ point_facts z ++ t) × IsBefore last (place_of_pair z) × IsPairPoint p comps a z) back
      (rw (one, others) refl, right.before, record { pair = right.pair; point = right.point; second = second })

  pub point_given : (last : ℕ × ℕ) (y : PairPoint) (t : List Fact) → IsBefore last (place_of_pair y) → IsPairPoint p comps a y
      → read_point p comps a last (point_facts y ++ t) ≡ Ok (y, t)
  unfolding read_point
  point_given last y t before h =
      let x : FirstPoint = first_point y.clause y.call y.point in
      let first : IsFirst p comps a last (first_point y.clause y.call y.point) = record { pair = h.pair; before = before; point = h.point } in
      rw (
        next_back (take_point p comps a last) (λ _ y. fact.Point y.pair.clause y.pair.call y.point.t y.point.w) _ (first_given p comps a last) 0 (first_point y.clause y.call y.point) (at_facts y.clause y.call y.at ++ t) first,
        second_back p (first_point y.clause y.call y.point) y.at t h.second,
      ) refl

module _ (p : Listing) (names : List (List ℕ)) (comps : Partition) (levels : List (List LevelPart)) (a : ℕ) where
  pub refutation_sound : (s t : List Fact) (o : Option Refutation) → read_refutation p names comps levels a s ≡ Ok (o, t)
      → (s ≡ refutation_facts (pred_text p names a) o ++ t) × IsRefutation p comps levels a o
  refutation_sound = laws.refutation_sound shared (λ pred n. fact.Refuted pred n) point_facts (IsPairPoint p comps a) (read_point p comps a) refuted_taken (point_sound p comps a) p names comps levels a

  pub refutation_given : (t : List Fact) (o : Option Refutation) → IsRefutation p comps levels a o
      → AllByRecursion (λ f. take_refuted (pred_text p names a) 0 f ≡ Some None) t
      → read_refutation p names comps levels a (refutation_facts (pred_text p names a) o ++ t) ≡ Ok (o, t)
  refutation_given = laws.refutation_given shared (λ pred n. fact.Refuted pred n) point_facts (IsPairPoint p comps a) (read_point p comps a) refuted_given (point_given p comps a) p names comps levels a
