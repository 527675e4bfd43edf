-- Where a certificate's drops hold, the lists of its claims descend.
use Rattle.std.proofs.Common.{◌≡◌, ℕ, zero, suc, ◌+◌, ◌<◌, ◌≤◌, ◌==◌, ℤ, pos, negsuc, Bool, true, false, List, [], ◌∷◌, map, take, length, slice_get, unsigned_abs, Option, Some, refl, sym, ap, subst, ◌∙◌, arith}
use Rattle.std.specs.List.{AllByRecursion}
use Rattle.std.proofs.lemmas.Bool.Decides.{nat_tests}
use Rattle.std.proofs.lemmas.List.{length-map}
use Rattle.cti_terms.specs.Tree.{Tree}
use Rattle.cti_terms.specs.Listing.{Listing, IsAtom, IsClause, IsProgram}
use Rattle.cti_terms.specs.declared.atom_list.Atom.{Atom}
use Rattle.cti_terms.specs.declared.clauses.Clause.{Clause}
use Rattle.cti_terms.specs.declared.predicates.Pred.{Pred}
use Rattle.call_components.specs.Partition.{Partition, AreComponents, IsIn}
use Rattle.call_components.proofs.Lists.{has_contains}
use Rattle.cert_checker.specs.Shape.{AreTogether}
use Rattle.cert_checker.proofs.Claims.{natural_is, naturals_are}
use Rattle.number_tests.specs.Drops.{drop_of}
use Rattle.linear_rows.specs.Proves.{Proves}
use Rattle.linear_rows.specs.Showing.{AreMultipliers, IsShown}
use Rattle.linear_rows.specs.declared.multipliers.Multipliers.{Multipliers}
use Rattle.number_tests.proofs.ColumnLengths.{an_element}
use Rattle.number_tests.proofs.Sized.{some_below}
use Rattle.number_tests.specs.Levels.{natural_coefficients, natural_offset}
use Rattle.number_tests.specs.Proved.{level_of}
use Rattle.number_tests.specs.Shape.{IsLevelPart, list_at, row_count}
use Rattle.number_tests.specs.declared.level_part.LevelPart.{LevelPart}
use Rattle.termination_model.specs.claims.Claims.{Claims, Measure, fall_row}
use Rattle.termination_model.specs.grounds.Grounds.{Family}
use Rattle.termination_model.specs.sizes.Rows.{scaled, added}
use Rattle.termination_model.specs.sizes.Short.{Provable, FallsProved, DescendsProved}
use Rattle.termination_model.specs.sizes.Sizes.{rows_of}
use Rattle.termination_model.specs.sizes.Systems.{row_over}
use Rattle.termination_model.specs.sizes.ShortSystems.{short_system}
use Rattle.termination_model.proofs.Lists.{by_places, from_places, place_below, there}
use Rattle.lex_checker.specs.Claimed.{claims_of, lengths_by, list_mapping, mappings_from, measure_of, measures_from}
use Rattle.lex_checker.specs.Proved.{DropsHold, drop_at}
use Rattle.lex_checker.specs.Shape.{HaveDrops, HaveLists, HavePlace}
use Rattle.lex_certificate.specs.declared.parts.LexParts.{LexParts}
use Rattle.termination_model.specs.mappings.ComponentViews.{rank_in}

provable : (n : ℕ) (rows : List (List ℤ)) (target : List ℤ) (by : Multipliers) → AreMultipliers n by → IsShown rows target by → Provable rows target
provable n rows target by are shown = (by.list, unsigned_abs by.scale, are.naturals, subst (Proves rows by.list target) (sym (natural_is by.scale are.scale)) shown.proves)

some_and : {X : Type 0} → (P : X → Type 0) (xs : List X) (i : ℕ) (x : X) → AllByRecursion P xs → slice_get xs i ≡ Some x → P x
some_and P [] i x a e = cc
some_and P (y ∷ xs) zero x a e = let same : y ≡ x = cc in subst P same a.0
some_and P (y ∷ xs) (suc i) x a e = some_and P xs i x a.1 e

-- the list at a place of a list of lists, by the lengths of these
pub long_at : {X : Type 0} → (xss : List (List X)) (m n : ℕ) → slice_get (map length xss) m ≡ Some n → length (list_at xss m) ≡ n
long_at [] m n e = cc
long_at (xs ∷ xss) zero n e = cc
long_at (xs ∷ xss) (suc m) n e = long_at xss m n e

pub all_at : {X : Type 0} → (P : X → Type 0) (xss : List (List X)) (m : ℕ) → AllByRecursion (AllByRecursion P) xss → AllByRecursion P (list_at xss m)
all_at P [] m a = tt
all_at P (xs ∷ xss) zero a = a.0
all_at P (xs ∷ xss) (suc m) a = all_at P xss m a.1

all_lists : (parts : LexParts) (pre : ℕ → Family) (Q : Measure → Type 0) (m : ℕ) (ns : List ℕ) → ((i n k : ℕ) → k ≡ m + i → slice_get ns i ≡ Some n → Q (measure_of parts pre k n)) → AllByRecursion Q (measures_from parts pre m ns)
all_lists parts pre Q m [] h = tt
all_lists parts pre Q m (n ∷ ns) h = (h 0 n m (omega arith) refl, all_lists parts pre Q (suc m) ns (λ i x k e at. h (suc i) x k (omega (arith, e)) at))

pub lengths_are : (parts : LexParts) (ms : List ℕ) (ns : List ℕ) → 0 < length ms → ((q : ℕ) → slice_get ms 0 ≡ Some q → map length (list_at parts.lists q) ≡ ns) → lengths_by parts ms ≡ ns
lengths_are parts [] ns some each = absurd (omega (arith, some))
lengths_are parts (q ∷ ms) ns some each = each q refl

last_drop : (i n : ℕ) → i + 1 ≡ n → drop_at i n ≡ 1
last_drop i n e = let t : (suc i == n) ≡ true = grind (arith, nat_tests) in rw t refl

other_drop : (i d n : ℕ) → i + suc (suc d) ≡ n → drop_at i n ≡ 0
other_drop i d n e = let t : (suc i == n) ≡ false = grind (arith, nat_tests) in rw t refl

module _ (size : (ℕ → ℕ) → Tree → ℕ) (truth : (ℕ → Bool) → Tree → Bool) (expression : ℕ → Tree → List ℤ)
    (p : Listing) (comps : Partition) (parts : LexParts) (grounds : Family) (pre : ℕ → Family) where
  abbrev claims : Claims
  claims = claims_of size truth expression comps parts grounds pre

  level_is : (n vars : ℕ) (a : Atom) (l : LevelPart) (m i : ℕ) → IsLevelPart n l → slice_get (list_at (list_at parts.lists a.pred.0) m) i ≡ Some l
      → row_over expression vars a.args (pos (natural_offset (slice_get (list_at (list_at parts.lists a.pred.0) m) i)) ∷ map pos (natural_coefficients (slice_get (list_at (list_at parts.lists a.pred.0) m) i))) ≡ level_of expression vars a l
  level_is n vars a l m i is at =
      ap (λ (o : Option LevelPart). row_over expression vars a.args (pos (natural_offset o) ∷ map pos (natural_coefficients o))) at
      ∙ ap (row_over expression vars a.args) (λ k. natural_is l.offset is.offset k ∷ naturals_are l.coeffs is.naturals k)

  drop_is : (d n k : ℕ) (c : Clause) (b : Atom) (head call : LevelPart) (m i : ℕ) → IsLevelPart n head → IsLevelPart k call
      → slice_get (list_at (list_at parts.lists c.head.pred.0) m) i ≡ Some head → slice_get (list_at (list_at parts.lists b.pred.0) m) i ≡ Some call
      → fall_row claims c b d (list_mapping parts m i) ≡ drop_of expression d c b head call
  drop_is d n k c b head call m i hn kn eh ec =
      let first = level_is n c.vars c.head head m i hn eh in
      let second = level_is k c.vars b call m i kn ec in
      λ x. added (first x) (scaled (negsuc 0) (added (second x) (pos d ∷ [])))

  module _ (prog : IsProgram p) (are : AreComponents p comps) (lists : HaveLists p comps parts) (have : HaveDrops p comps parts) (hold : DropsHold expression p comps parts) where
    clause_is : (k : ℕ) (c : Clause) → slice_get p.clauses k ≡ Some c → IsClause p.preds c
    clause_is = by_places (IsClause p.preds) p.clauses prog.clauses

    in_rank : (vars : ℕ) (a : Atom) → IsAtom p.preds vars a → IsIn comps (rank_in comps a.pred.0) a.pred.0
    in_rank vars a is = there comps.of a.pred.0 (length comps.members) (omega (arith, are.each, some_below (λ (d : Pred). d.arity ≡ length a.args) p.preds a.pred.0 is.arity))

    -- a component's lists are those of each member
    list_lengths : (vars : ℕ) (a : Atom) → IsAtom p.preds vars a → lengths_by parts (list_at comps.members (rank_in comps a.pred.0)) ≡ map length (list_at parts.lists a.pred.0)
    list_lengths vars a is =
        let r = rank_in comps a.pred.0 in
        let inside = in_rank vars a is in
        let at : slice_get comps.members r ≡ Some (list_at comps.members r) = there comps.members r [] (are.within r a.pred.0 inside) in
        lengths_are parts (list_at comps.members r) (map length (list_at parts.lists a.pred.0)) (are.ascending r (list_at comps.members r) at).1
        (λ q e. lists.members q a.pred.0 ((are.members r (list_at comps.members r) at q).0 (has_contains (list_at comps.members r) q (0, e)) ∙ sym inside))

    -- the parts of an atom's predicate
    level_parts : (vars : ℕ) (a : Atom) → IsAtom p.preds vars a → (m i : ℕ) (l : LevelPart) → slice_get (list_at (list_at parts.lists a.pred.0) m) i ≡ Some l → (n : ℕ) × IsLevelPart n l
    level_parts vars a is m i l e =
        let (d, at) = an_element p.preds a.pred.0 (some_below (λ (d : Pred). d.arity ≡ length a.args) p.preds a.pred.0 is.arity) in
        (d.arity, some_and (IsLevelPart d.arity) (list_at (list_at parts.lists a.pred.0) m) i l (all_at (IsLevelPart d.arity) (list_at parts.lists a.pred.0) m (lists.naturals a.pred.0 d at)) e)

    module _ (k : ℕ) (c : Clause) (at : slice_get p.clauses k ≡ Some c) (m n : ℕ) (lm : slice_get (map length (list_at parts.lists c.head.pred.0)) m ≡ Some n) where
      module _ (j : ℕ) (b : Atom) (ej : slice_get c.body j ≡ Some b) (same : rank_in comps b.pred.0 ≡ rank_in comps c.head.pred.0) where
        abbrev rows : List (List ℤ)
        rows = short_system expression (rows_of parts.rows) c.vars (take j c.body)

        abbrev ms : List Multipliers
        ms = list_at (list_at (list_at parts.drops k) j) m

        atom : IsAtom p.preds c.vars b
        atom = by_places (IsAtom p.preds c.vars) c.body (clause_is k c at).body j b ej

        together : AreTogether comps c.head.pred.0 b.pred.0
        together = in_rank c.vars c.head (clause_is k c at).head ∙ ap Some (sym same) ∙ sym (in_rank c.vars b atom)

        head_long : length (list_at (list_at parts.lists c.head.pred.0) m) ≡ n
        head_long = long_at (list_at parts.lists c.head.pred.0) m n lm

        place : HavePlace (row_count (rows_of parts.rows) (take j c.body)) n ms
        place =
            subst (λ (x : ℕ). HavePlace (row_count (rows_of parts.rows) (take j c.body)) x ms) head_long
            (have.places k j m c b at ej together (omega (arith, place_below (map length (list_at parts.lists c.head.pred.0)) m n lm, length-map (list_at parts.lists c.head.pred.0) length)))

        call_long : length (list_at (list_at parts.lists b.pred.0) m) ≡ n
        call_long = long_at (list_at parts.lists b.pred.0) m n (subst (λ (xs : List ℕ). slice_get xs m ≡ Some n) (lists.members c.head.pred.0 b.pred.0 together) lm)

        proved_at : (i : ℕ) → i < length ms → Provable rows (fall_row claims c b (drop_at i (length ms)) (list_mapping parts m i))
        proved_at i lt =
            let few = place.few in
            let (head, eh) = an_element (list_at (list_at parts.lists c.head.pred.0) m) i (omega (arith, lt, few, head_long)) in
            let (call, ec) = an_element (list_at (list_at parts.lists b.pred.0) m) i (omega (arith, lt, few, call_long)) in
            let (by, eb) = an_element ms i lt in
            let (hn, head_is) = level_parts c.vars c.head (clause_is k c at).head m i head eh in
            let (kn, call_is) = level_parts c.vars b atom m i call ec in
            let multipliers = some_and (AreMultipliers (row_count (rows_of parts.rows) (take j c.body))) ms i by place.multipliers eb in
            subst (Provable rows) (sym (drop_is (drop_at i (length ms)) hn kn c b head call m i head_is call_is eh ec))
            (provable (row_count (rows_of parts.rows) (take j c.body)) rows (drop_of expression (drop_at i (length ms)) c b head call) by multipliers (hold k c at j b ej together m i head call by eh ec eb))

        from : (d i rest : ℕ) → i + suc d ≡ length ms → i + rest ≡ n → FallsProved claims c rows b d (mappings_from parts m i rest)
        from d i zero e f = absurd (let few = place.few in omega (arith, e, f, few))
        from zero i (suc rest) e f = subst (λ (z : ℕ). Provable rows (fall_row claims c b z (list_mapping parts m i))) (last_drop i (length ms) e) (proved_at i (omega (arith, e)))
        from (suc d) i (suc rest) e f = (
          subst (λ (z : ℕ). Provable rows (fall_row claims c b z (list_mapping parts m i))) (other_drop i d (length ms) e) (proved_at i (omega (arith, e))),
          from d (suc i) rest (omega (arith, e)) (omega (arith, f)),
        )

        last_place : (x : ℕ) → x ≡ length ms → 1 ≤ x → (i : ℕ) × FallsProved claims c rows b i (mappings_from parts m 0 n)
        last_place zero e some = absurd (omega (arith, some))
        last_place (suc d) e some = (d, from d 0 n (omega (arith, e)) (omega arith))

      descends : DescendsProved claims (measure_of parts pre m n) c
      descends j b ej same = last_place j b ej same (length (ms j b ej same)) refl (place j b ej same).some

    pub lists_descend : (r : ℕ) → AllByRecursion (λ (m : Measure). AllByRecursion (λ (k : Clause). rank_in comps k.head.pred.0 ≡ r → DescendsProved claims m k) p.clauses) (claims.measures r)
    lists_descend r =
        all_lists parts pre (λ (m : Measure). AllByRecursion (λ (k : Clause). rank_in comps k.head.pred.0 ≡ r → DescendsProved claims m k) p.clauses) 0 (lengths_by parts (list_at comps.members r))
        (λ i n m e lm. from_places (λ (k : Clause). rank_in comps k.head.pred.0 ≡ r → DescendsProved claims (measure_of parts pre m n) k) p.clauses (λ k c at same.
        let is = clause_is k c at in
        let here : i ≡ m = omega (arith, e) in
        descends k c at m n (subst (λ (x : ℕ). slice_get (map length (list_at parts.lists c.head.pred.0)) x ≡ Some n) here
        (subst (λ (xs : List ℕ). slice_get xs i ≡ Some n) (ap (λ (x : ℕ). lengths_by parts (list_at comps.members x)) (sym same) ∙ list_lengths c.vars c.head is.head) lm))))
