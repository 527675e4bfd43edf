-- What the components of a program say does not depend on their numbers, and predicates are distinguished by their
-- texts.
use Rattle.std.proofs.Common.{◌≡◌, ◌≢◌, ℕ, zero, suc, ◌+◌, ◌<◌, ◌≤◌, Bool, true, false, List, [], ◌∷◌, length, slice_get, slice_index, slice_index_or, Option, Some, None, option_and_then, unwrap_or, refl, ap, ap₂, sym, ◌∙◌, subst, arith, eqb-true, eq-eqb, nat_lt, ltb-true, ltb-false, add-one}
use Rattle.std.proofs.lemmas.Bool.{false≢true}
use Rattle.std.proofs.lemmas.Option.{none-some}
use Rattle.std.specs.Prelude.{AllPairs}
use Rattle.std.specs.List.{AllByRecursion}
use Rattle.std.specs.List.Sorted.{IsStrictlyIncreasing}
use Rattle.call_components.specs.Partition.{Partition, IsIn, AreComponents}
use Rattle.cti_terms.specs.declared.atom_list.Atom.{Atom}
use Rattle.cti_terms.specs.declared.clauses.Clause.{Clause}
use Rattle.cti_terms.specs.declared.predicates.Pred.{Pred}
use Rattle.cti_terms.specs.Listing.{Listing, numbered, IsProgram}
use Rattle.certificate.specs.declared.fact.Fact.{Fact}
use Rattle.number_tests.specs.declared.level_part.LevelPart.{LevelPart}
use Rattle.number_tests.specs.declared.pair_point.PairPoint.{PairPoint}
use Rattle.number_tests.specs.declared.refutation.Refutation.{Refutation}
use Rattle.cert_structure.specs.declared.parts.Parts.{Parts}
use Rattle.cert_structure.specs.Order.{text_or_none, pred_text}
use Rattle.cert_structure.specs.Shape.{head_of, body_of, is_same, is_together, is_recursive, first_of, mappings_of, proofs_of_call, is_own_call, is_own_clause, is_pair, IsPairPoint, IsRefutation, HaveShape}
use Rattle.cert_structure.specs.Structure.{AreNamed, IsStructured}
use Rattle.fact_reading.proofs.SectionLemmas.{same_some, all_weaker, each_weaker}

-- places of lists
found : {A : Type 0} (xs : List A) (i : ℕ) → i < length xs → (x : A) × (slice_get xs i ≡ Some x)
found [] i h = absurd (omega (arith, h))
found (x ∷ xs) zero h = (x, refl)
found (x ∷ xs) (suc i) h = found xs i (omega (arith, h))

within : {A : Type 0} (xs : List A) (i : ℕ) (x : A) → slice_get xs i ≡ Some x → i < length xs
within [] i x e = absurd (none-some _ e)
within (y ∷ ys) zero x e = omega arith
within (y ∷ ys) (suc i) x e = let h = within ys i x e in omega (arith, h)

past : {A : Type 0} (xs : List A) (i : ℕ) → length xs ≤ i → slice_get xs i ≡ None
past [] i h = refl
past (x ∷ xs) zero h = absurd (omega (arith, h))
past (x ∷ xs) (suc i) h = past xs i (omega (arith, h))

at_index : {A : Type 0} (xs : List A) (i : ℕ) (x d : A) → slice_get xs i ≡ Some x → slice_index_or xs i d ≡ x
at_index [] i x d e = absurd (none-some _ e)
at_index (y ∷ ys) zero x d e = same_some y x e
at_index (y ∷ ys) (suc i) x d e = at_index ys i x d e

all_at : {A : Type 0} (P : A → Type 0) (xs : List A) (i : ℕ) (x : A) → AllByRecursion P xs → slice_get xs i ≡ Some x → P x
all_at P [] i x h e = absurd (none-some _ e)
all_at P (y ∷ ys) zero x h e = subst P (same_some y x e) h.0
all_at P (y ∷ ys) (suc i) x h e = all_at P ys i x h.1 e

least : (ms : List ℕ) → IsStrictlyIncreasing ms → (k : ℕ) → k < length ms → slice_index ms 0 ≤ slice_index ms k
least ms h zero below = omega arith
least ms h (suc k) below =
    let before = least ms h k (omega (arith, below)) in
    let step : slice_index ms k < slice_index ms (k + 1) = h k (omega (arith, below)) in
    let here : slice_index ms k < slice_index ms (suc k) = rw add-one at step in
    omega (arith, before, here)

-- the first predicate of a component
record IsLeast (comps : Partition) (a c m : ℕ) : Type 0 where
  here : IsIn comps c a
  member : IsIn comps c m
  below : (b : ℕ) → IsIn comps c b → m ≤ b
  first : first_of comps a ≡ m

module _ (p : Listing) (comps : Partition) (h : AreComponents p comps) where
  first_is : (a : ℕ) → a < length p.preds → (c : ℕ) × (m : ℕ) × IsLeast comps a c m
  first_is a inside =
      let (c, here) = found comps.of a (rw (h.each) inside) in
      let (ms, row) = found comps.members c (h.within c a here) in
      let (ascending, some) = h.ascending c ms row in
      let (m, front) = found ms 0 some in
      let at : (d : ℕ) → slice_index_or ms 0 d ≡ m = λ d. at_index ms 0 m d front in (
        c,
        m,
        record {
          here = here;
          member = (h.members c ms row m).0 (0, some, at m);
          below = λ b is.
              let (k, fits, same) = (h.members c ms row b).1 is in
              let low = least ms ascending k fits in
              let own : slice_index ms k ≡ b = at_index ms k b 0 (whole ms k b fits same) in
              let start = at 0 in
              omega (arith, low, own, start);
          first = rw (here, row, front) refl;
        },
      )
    where
      whole : (ms : List ℕ) (k b : ℕ) → k < length ms → slice_index_or ms k b ≡ b → slice_get ms k ≡ Some b
      whole [] k b fits same = absurd (omega (arith, fits))
      whole (x ∷ xs) zero b fits same = ap Some same
      whole (x ∷ xs) (suc k) b fits same = whole xs k b (omega (arith, fits)) same

  pub first_le : (a : ℕ) → a < length p.preds → first_of comps a ≤ a
  first_le a inside =
      let (c, m, is) = first_is a inside in
      let low = is.below a is.here in
      let same = is.first in
      omega (arith, low, same)

is_true : (b c : Bool) → (b ≡ true → c ≡ true) → (c ≡ true → b ≡ true) → b ≡ c
is_true true c h k = sym (h refl)
is_true false true h k = k refl
is_true false false h k = refl

same_is : (o q : Option ℕ) → is_same o q ≡ true → (c : ℕ) × (o ≡ Some c) × (q ≡ Some c)
same_is None q e = absurd (false≢true e)
same_is (Some c) None e = absurd (false≢true e)
same_is (Some c) (Some d) e = (c, refl, ap Some (sym (eqb-true c d e)))

same_back : (c d : ℕ) → c ≡ d → is_same (Some c) (Some d) ≡ true
same_back c d e = eq-eqb c d e

module _ (p : Listing) (one other : Partition) (h : AreComponents p one) (k : AreComponents p other) where
  same_length : length one.of ≡ length other.of
  same_length = h.each ∙ sym k.each

  there : (c a : ℕ) → IsIn one c a → (d : ℕ) × IsIn other d a
  there c a here = found other.of a (rw (← same_length) (within one.of a c here))

  -- predicates that are together in one are together in the other
  moved : (c d a b : ℕ) → IsIn one c a → IsIn one c b → IsIn other d a → IsIn other d b
  moved c d a b here beside place =
      let (e, found) = there c b beside in
      let reach = (h.together a b c c here beside).0 refl in
      let same : d ≡ e = (k.together a b d e place found).1 reach in
      rw same found

  together_moved : (a b : ℕ) → is_together one a b ≡ true → is_together other a b ≡ true
  together_moved a b e =
      let (c, here, beside) = same_is (slice_get one.of a) (slice_get one.of b) e in
      let (d, place) = there c a here in
      let also = moved c d a b here beside place in
      rw (place, also) (same_back d d refl)

  recursive_moved : (a : ℕ) → is_recursive one a ≡ true → is_recursive other a ≡ true
  recursive_moved a e = go (slice_get one.of a) refl e
    where
      inner : (c : ℕ) (o : Option Bool) → slice_get one.of a ≡ Some c → slice_get one.recursive c ≡ o → unwrap_or o false ≡ true → is_recursive other a ≡ true
      inner c None here row e = absurd (false≢true e)
      inner c (Some answer) here row e =
          let (x, y, left, right, calls) = (h.recursive c answer row).0 e in
          let (d, place) = there c a here in
          let first = moved c d a x here left place in
          let second = moved c d a y here right place in
          let (reply, told) = found other.recursive d (rw k.answers (k.within d a place)) in
          let yes : reply ≡ true = (k.recursive d reply told).1 (x, y, first, second, calls) in
          rw (place, told) yes

      go : (o : Option ℕ) → slice_get one.of a ≡ o → unwrap_or (option_and_then (slice_get one.recursive) o) false ≡ true → is_recursive other a ≡ true
      go None here e = absurd (false≢true e)
      go (Some c) here e = inner c (slice_get one.recursive c) here refl e

  first_below : (a : ℕ) → a < length p.preds → first_of other a ≤ first_of one a
  first_below a inside =
      let (c, m, is) = first_is p one h a inside in
      let (d, n, are) = first_is p other k a inside in
      let also = moved c d a m is.here is.member are.here in
      let low = are.below m also in
      let left = is.first in
      let right = are.first in
      omega (arith, low, left, right)

module _ (p : Listing) (one other : Partition) (h : AreComponents p one) (k : AreComponents p other) where
  same_together : (a b : ℕ) → is_together one a b ≡ is_together other a b
  same_together a b = is_true (is_together one a b) (is_together other a b) (together_moved p one other h k a b) (together_moved p other one k h a b)

  pub same_recursive : (a : ℕ) → is_recursive one a ≡ is_recursive other a
  same_recursive a = is_true (is_recursive one a) (is_recursive other a) (recursive_moved p one other h k a) (recursive_moved p other one k h a)

  pub same_first : (a : ℕ) → first_of one a ≡ first_of other a
  same_first a = go (nat_lt a (length p.preds)) refl
    where
      go : (b : Bool) → nat_lt a (length p.preds) ≡ b → first_of one a ≡ first_of other a
      go true e =
          let inside = ltb-true a (length p.preds) e in
          let low = first_below p one other h k a inside in
          let high = first_below p other one k h a inside in
          omega (arith, low, high)
      go false e =
          let outside = ltb-false a (length p.preds) e in
          rw (past one.of a (rw h.each outside), past other.of a (rw k.each outside)) refl

  same_mappings : (levels : List (List LevelPart)) (a : ℕ) → mappings_of one levels a ≡ mappings_of other levels a
  same_mappings levels a = rw (same_recursive a, same_first a) refl

  pub same_own : (a : ℕ) (o : Option Atom) → is_own_call one a o ≡ is_own_call other a o
  same_own a None = refl
  same_own a (Some b) = same_together a b.pred.0

  same_proofs : (levels : List (List LevelPart)) (a : ℕ) (o : Option Atom) → proofs_of_call one levels a o ≡ proofs_of_call other levels a o
  same_proofs levels a o = rw (same_own a o) refl

  same_clause : (a call : ℕ) (o : Option Clause) → is_own_clause one a call o ≡ is_own_clause other a call o
  same_clause a call None = refl
  same_clause a call (Some c) = rw (same_together a c.head.pred.0, same_own a (numbered c.body call)) refl

  pub same_pair : (a clause call : ℕ) → is_pair p one a clause call ≡ is_pair p other a clause call
  same_pair a clause call = same_clause a call (numbered p.clauses clause)

  pair_point : (a : ℕ) (x : PairPoint) → IsPairPoint p one a x → IsPairPoint p other a x
  pair_point a x is = record { pair = rw (same_pair a x.clause x.call) at is.pair; point = is.point; second = is.second }

  refutation : (levels : List (List LevelPart)) (a : ℕ) (o : Option Refutation) → IsRefutation p one levels a o → IsRefutation p other levels a o
  refutation levels a None is = tt
  refutation levels a (Some r) is = (
    record { recursive = rw (same_recursive a) at is.0.recursive; first = sym (same_first a) ∙ is.0.first; none = is.0.none },
    is.1,
    is.2,
    all_weaker (IsPairPoint p one a) (IsPairPoint p other a) (pair_point a) r.points is.3,
  )

  pub shape : (parts : Parts) → HaveShape p one parts → HaveShape p other parts
  shape parts is = record {
    modes = is.modes;
    rows = is.rows;
    row_proofs = is.row_proofs;
    grounds = is.grounds;
    levels = record {
      count = is.levels.count;
      each = each_weaker _ _ (length parts.levels) (λ a ls below right. (right.0 ∙ same_mappings parts.levels a, right.1)) 0 parts.levels (omega arith) is.levels.each;
    };
    falls = record {
      count = is.falls.count;
      each = each_weaker _ _ (length parts.falls)
          (λ k calls below right. record {
            count = right.count;
            each = each_weaker _ _ (length calls)
                (λ j ms less good. record { count = good.count ∙ same_proofs parts.levels (head_of p k) (slice_get (body_of p k) j); each = good.each })
                0 calls (omega arith) right.each;
          })
          0 parts.falls (omega arith) is.falls.each;
    };
    preconditions = is.preconditions;
    refutations = record {
      count = is.refutations.count;
      each = each_weaker _ _ (length parts.refutations) (λ a o below right. refutation parts.levels a o right) 0 parts.refutations (omega arith) is.refutations.each;
    };
  }

  pub structure : (names : List (List ℕ)) (parts : Parts) (facts : List Fact) → IsStructured p names one parts facts → IsStructured p names other parts facts
  structure names parts facts is = record { notes = is.notes; are_notes = is.are_notes; shape = shape parts is.shape; is = is.is }

-- predicates are distinguished by their texts
module _ (p : Listing) (names : List (List ℕ)) (program : IsProgram p) (distinct : AllPairs (λ a b. a ≢ b) names) (named : AreNamed names p.preds) where
  one_name : (i j : ℕ) (x y : List ℕ) → slice_get names i ≡ Some x → slice_get names j ≡ Some y → x ≡ y → i < j → ⊥
  one_name i j x y here beside same less =
      distinct i j [] less (within names j y beside) (at_index names i x [] here ∙ same ∙ sym (at_index names j y [] beside))

  same_name : (i j : ℕ) → i < length names → j < length names → unwrap_or (slice_get names i) [] ≡ unwrap_or (slice_get names j) [] → i ≡ j
  same_name i j left right same =
      let (x, here) = found names i left in
      let (y, beside) = found names j right in
      let equal : x ≡ y = rw (here, beside) at same in
      let not_less = one_name i j x y here beside equal in
      let not_more = one_name j i y x beside here (sym equal) in
      omega (arith, not_less, not_more)

  pub texts_differ : (a b : ℕ) → a < b → b < length p.preds → pred_text p names b ≢ pred_text p names a
  texts_differ a b less inside same =
      let (q, here) = found p.preds a (omega (arith, less, inside)) in
      let (r, beside) = found p.preds b inside in
      let texts : text_or_none names (Some r) ≡ text_or_none names (Some q) = rw (here, beside) at same in
      let left = all_at (λ (q : Pred). q.name.0 < length names) p.preds a q named here in
      let right = all_at (λ (q : Pred). q.name.0 < length names) p.preds b r named beside in
      let name : r.name.0 ≡ q.name.0 = same_name r.name.0 q.name.0 right left (ap (λ t. t.name) texts) in
      let arity : r.arity ≡ q.arity = ap (λ t. t.arity) texts in
      let equal : r ≡ q = ap₂ (λ n m. record { name = record { 0 = n }; arity = m }) name arity in
      program.distinct a b q less inside (at_index p.preds a q q here ∙ sym equal ∙ sym (at_index p.preds b r q beside))
