-- Over columns: what is shown over some facts is shown over stronger ones.
use Rattle.std.proofs.Common.{◌≡◌, ℕ, zero, suc, ℤ, Bool, true, List, [], ◌∷◌, map, take, sym, subst}
use Rattle.std.specs.Prelude.{Option, None, Some}
use Rattle.std.specs.List.{AllByRecursion}
use Rattle.cti_terms.specs.declared.atom_list.Atom.{Atom}
use Rattle.cti_terms.specs.declared.clauses.Clause.{Clause}
use Rattle.cti_terms.specs.Listing.{Listing}
use Rattle.termination_model.specs.columns.Columns.{Valuation, columns_of}
use Rattle.termination_model.specs.columns.ColumnRows.{or_zeros}
use Rattle.termination_model.proofs.Stronger.{from_all, fewer_rows}
use Rattle.linear_rows.specs.Rows.{Holds, HoldsOn}
use Rattle.termination_model.specs.grounds.Grounds.{Family, truth_row, IsGround, IsClosedUnder}
use Rattle.termination_model.specs.columns.ColumnClaims.{system, numbers_of, atom_row, RowHoldsOn, level_row, Mapping, Measure, Claims, IsSized, IsInductive, fall_row, FallsOn, Descends, KeepsRule, Serves, Shows}
use Rattle.termination_model.specs.columns.ColumnStronger.{with_facts, IsStronger, StrongerShow}
use Rattle.termination_model.proofs.Facts.{each}
use Rattle.termination_model.proofs.Linking.{each_two}
use Rattle.termination_model.proofs.Answered.{all_parts, all_append}
use Rattle.termination_model.proofs.SystemPoints.{to_all}
use Rattle.termination_model.proofs.Walk.{all_map, all_onto}

module _ (p : Listing) (c : Claims) (rows : ℕ → List (List ℤ)) (grounds : Family) (new : IsStronger p c rows grounds) (shows : Shows p c) where
  abbrev e : Claims
  e = with_facts rows grounds c

  sized : (s : Valuation) (a : Atom) → IsSized e s a → IsSized c s a
  sized s a = fewer_rows (λ (r : List ℤ). Holds r 1 (columns_of (c.kinds a.pred.0) (map (c.columns.measure s) a.args))) (c.rows a.pred.0) (rows a.pred.0) (new.more a.pred.0)

  grounded : (v : ℕ → Bool) (bs : List Atom) → AllByRecursion (IsGround c.truth grounds v) bs → AllByRecursion (IsGround c.truth c.grounds v) bs
  grounded v = each (IsGround c.truth grounds v) (IsGround c.truth c.grounds v) (λ b. new.fewer b.pred.0 (truth_row c.truth v b))

  system_rows : (n : ℕ) (P : List ℤ → Type 0) (bs : List Atom) → AllByRecursion P (system e n bs) → AllByRecursion P (system c n bs)
  system_rows n P [] h = tt
  system_rows n P (b ∷ bs) h =
      let f : List ℤ → List ℤ = λ r. or_zeros (numbers_of c n) (atom_row c n b r) in
      let parts = all_parts P (map f (rows b.pred.0)) (system e n bs) h in
      let here = fewer_rows (λ (r : List ℤ). P (f r)) (c.rows b.pred.0) (rows b.pred.0) (new.more b.pred.0) (all_map f (λ (r : List ℤ). P (f r)) P (λ r g. g) (rows b.pred.0) parts.0) in
      all_append P (map f (c.rows b.pred.0)) (system c n bs) (all_onto f (λ (r : List ℤ). P (f r)) P (λ r g. g) (c.rows b.pred.0) here) (system_rows n P bs parts.1)

  holds : (n vars : ℕ) (bs : List Atom) (row : List ℤ) → HoldsOn n (system c vars bs) row → HoldsOn n (system e vars bs) row
  holds n vars bs row h t w some long all = h t w some long
      (to_all (λ (r : List ℤ). Holds r t w) (system c vars bs) (system_rows vars (λ (r : List ℤ). Holds r t w) bs (from_all (λ (r : List ℤ). Holds r t w) (system e vars bs) all)))

  row_holds : (n vars : ℕ) (bs : List Atom) (row : Option (List ℤ)) → RowHoldsOn n (system c vars bs) row → RowHoldsOn n (system e vars bs) row
  row_holds n vars bs None h = λ t w some long all. h t w some long
      (to_all (λ (r : List ℤ). Holds r t w) (system c vars bs) (system_rows vars (λ (r : List ℤ). Holds r t w) bs (from_all (λ (r : List ℤ). Holds r t w) (system e vars bs) all)))
  row_holds n vars bs (Some row) h = holds n vars bs row h

  falls : (k : Clause) (bs : List Atom) (b : Atom) (i : ℕ) (ls : List Mapping) → FallsOn c k (system c k.vars bs) b i ls → FallsOn e k (system e k.vars bs) b i ls
  falls k bs b i [] h = h
  falls k bs b zero (l ∷ ls) h = (row_holds (suc (numbers_of c k.vars)) k.vars bs (fall_row c k b 1 l) h.0, row_holds (suc (numbers_of c k.vars)) k.vars bs (level_row c k.vars l k.head) h.1)
  falls k bs b (suc i) (l ∷ ls) h = (row_holds (suc (numbers_of c k.vars)) k.vars bs (fall_row c k b 0 l) h.0, falls k bs b i ls h.1)

  descends : (m : Measure) (k : Clause) → Descends c m k → Descends e m k
  descends m k h j b at same = let f = h j b at same in (f.0, falls k (take j k.body) b f.0 m.mappings f.1)

  rule : (m : Measure) (k : Clause) → KeepsRule c m k → KeepsRule e m k
  rule m k h v head j b at all = h v head j b at (grounded v (take j k.body) all)

  serves : (r : ℕ) (m : Measure) → Serves p c r m → Serves p e r m
  serves r m s = record {
    covered = s.covered;
    descends = each (λ (k : Clause). c.rank k.head.pred.0 ≡ r → Descends c m k) (λ (k : Clause). c.rank k.head.pred.0 ≡ r → Descends e m k) (λ k h same. descends m k (h same)) p.clauses s.descends;
    rule = each (λ (k : Clause). c.rank k.head.pred.0 ≡ r → KeepsRule c m k) (λ (k : Clause). c.rank k.head.pred.0 ≡ r → KeepsRule e m k) (λ k h same. rule m k (h same)) p.clauses s.rule;
  }

  abbrev SameHead : Clause → Type 0
  SameHead k = (rows k.head.pred.0 ≡ c.rows k.head.pred.0) × (grounds k.head.pred.0 ≡ c.grounds k.head.pred.0)

  inductive : (k : Clause) → SameHead k → IsInductive c k → IsInductive e k
  inductive k same h s all = subst (λ (z : List (List ℤ)). AllByRecursion (λ (r : List ℤ). Holds r 1 (columns_of (c.kinds k.head.pred.0) (map (c.columns.measure s) k.head.args))) z) (sym same.0) (h s (each (IsSized e s) (IsSized c s) (sized s) k.body all))

  closed : (k : Clause) → SameHead k → IsClosedUnder c.truth c.grounds k → IsClosedUnder c.truth grounds k
  closed k same h v all = subst (λ (set : List Bool → Bool). set (truth_row c.truth v k.head) ≡ true) (sym same.1) (h v (grounded v k.body all))

  pub stronger : Shows p e
  stronger = record {
    columns = shows.columns;
    ranked = shows.ranked;
    inductive = each_two SameHead (IsInductive c) (IsInductive e) inductive p.clauses new.heads shows.inductive;
    closed = record {
      clauses = each_two SameHead (IsClosedUnder c.truth c.grounds) (IsClosedUnder c.truth grounds) closed p.clauses new.heads shows.closed.clauses;
      builtins = new.builtins;
    };
    stated = λ i b kind. record { kinds = (shows.stated i b kind).kinds; rows = new.stated i b kind };
    measures = λ r. each (Serves p c r) (Serves p e r) (serves r) (c.measures r) (shows.measures r);
  }

pub stronger_show : StrongerShow
stronger_show p c rows grounds new shows = stronger p c rows grounds new shows
