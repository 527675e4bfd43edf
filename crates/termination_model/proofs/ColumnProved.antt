-- What multipliers show holds, over columns.
use Rattle.std.proofs.Common.{◌≡◌, ℕ, zero, suc, ◌≤◌, ℤ, pos, negsuc, ◌*ℤ◌, ◌+ℤ◌, ◌≤ℤ◌, Bool, true, false, if◌then◌else◌, List, [], ◌∷◌, ◌++◌, map, take, length, replicate, Option, None, Some, refl, ap, sym, subst, ◌∙◌, arith}
use Rattle.std.specs.List.{AllByRecursion}
use Rattle.std.proofs.lemmas.Int.{ints}
use Rattle.std.proofs.lemmas.List.{length-map}
use Rattle.linear_rows.specs.Replacing.{combined, substituted}
use Rattle.linear_rows.specs.RowSums.{scaled, added}
use Rattle.linear_rows.specs.Rows.{Holds, HoldsOn, AllHold, AreEmpty}
use Rattle.exact128.specs.Sums.{dot}
use Rattle.exact128.proofs.Rings.{rings, mul_nonneg}
use Rattle.cti_terms.specs.Tree.{Tree}
use Rattle.cti_terms.specs.declared.atom_list.Atom.{Atom}
use Rattle.cti_terms.specs.declared.builtins.Arith.{Arith}
use Rattle.cti_terms.specs.declared.clauses.Clause.{Clause}
use Rattle.cti_terms.specs.Listing.{IsAtom, IsClause}
use Rattle.termination_model.specs.sizes.Short.{Provable}
use Rattle.termination_model.specs.sizes.ShortSystems.{short_row}
use Rattle.termination_model.specs.columns.Columns.{Valuation, counted, columns_of, numbers, AreColumns}
use Rattle.termination_model.specs.columns.ColumnClaims.{Mapping, Measure, Claims, IsInductive, numbers_of, atom_row, system, level_row, difference, fall_row, RowHoldsOn, FallsOn, Descends, Serves}
use Rattle.termination_model.specs.columns.ColumnRows.{lacks, or_empty, row_over, negative, least, least_over}
use Rattle.termination_model.specs.columns.ColumnShort.{short_system, TargetProvable, head_row, SizesProved, FallsProved, DescendsProved, ServesProved, ProofsShow}
use Rattle.termination_model.proofs.ColumnPoints.{point_length, atom_value, system_holds}
use Rattle.termination_model.proofs.Facts.{each, both_each}
use Rattle.termination_model.proofs.Proved.{provable_holds, length-added, length-added-le, length-replicate'}
use Rattle.termination_model.proofs.SystemPoints.{Below, to_all}
use Rattle.linear_rows.proofs.Refutes.{length-zeros}
use Rattle.termination_model.proofs.Entries.{dot_zeros}
use Rattle.linear_rows.specs.Showing.{bottom_row}
use Rattle.linear_rows.specs.Solving.{zeros}

-- each expression that is there is of this length
abbrev AreThere : ℕ → List (Option (List ℤ)) → Type 0
AreThere n [] = Unit {0}
AreThere n (None ∷ es) = AreThere n es
AreThere n (Some e ∷ es) = (length e ≡ n) × AreThere n es

there_append : (n : ℕ) (es fs : List (Option (List ℤ))) → AreThere n es → AreThere n fs → AreThere n (es ++ fs)
there_append n [] fs h k = k
there_append n (None ∷ es) fs h k = there_append n es fs h k
there_append n (Some e ∷ es) fs h k = (h.0, there_append n es fs h.1 k)

length-combined : (n : ℕ) (ms : List ℤ) (es : List (Option (List ℤ))) → AreThere n es → length (combined ms (map or_empty es)) ≤ n
length-combined n [] es h = omega arith
length-combined n (m ∷ ms) [] h = omega arith
length-combined n (m ∷ ms) (None ∷ es) h = length-added-le n [] (combined ms (map or_empty es)) (omega arith) (length-combined n ms es h)
length-combined n (m ∷ ms) (Some e ∷ es) h =
    length-added-le n (scaled m e) (combined ms (map or_empty es)) (omega (arith, length-map e (λ x. m *ℤ x), h.0)) (length-combined n ms es h.1)

length-over : (n : ℕ) (es : List (Option (List ℤ))) (row r : List ℤ) → AreThere (suc n) es → row_over n es row ≡ Some r → length r ≡ suc n
length-over n es [] r h e = let same : replicate (suc n) (pos 0) ≡ r = cc in ap length (sym same) ∙ length-replicate' (suc n)
length-over n es (b ∷ row) r h e = go (lacks row es) e
  where
    go : (t : Bool) → (if t then None else Some (substituted n (map or_empty es) (b ∷ row))) ≡ Some r → length r ≡ suc n
    go true q = absurd (cc)
    go false q =
        let same : substituted n (map or_empty es) (b ∷ row) ≡ r = cc in
        ap length (sym same) ∙ length-added (suc n) (b ∷ replicate n (pos 0)) (combined row (map or_empty es)) (ap suc (length-replicate' n)) (length-combined (suc n) row es h)

-- what is shown to hold nowhere
never_holds : (n t : ℕ) (ps : List ℤ) → 1 ≤ t → pos 0 ≤ℤ dot (bottom_row n) (pos t ∷ ps) → ⊥
unfolding dot
never_holds n t ps some h = go (dot (zeros n) ps) (dot_zeros n ps) h
  where
    go : (z : ℤ) → z ≡ pos 0 → pos 0 ≤ℤ ((negsuc 0 *ℤ pos t) +ℤ z) → ⊥
    go z e l = omega (arith, ints)

shown_empty : (n : ℕ) (rows : List (List ℤ)) → Provable (map short_row rows) (bottom_row n) → AreEmpty (suc n) rows
shown_empty n rows h t w some long all =
    never_holds n t (map pos w) some (provable_holds (suc n) rows (bottom_row n) (ap suc (length-zeros n)) h t w some long all)

-- over naturals the least row is at most the row
plain_least : (a b c d : ℤ) → a ≤ℤ b → c ≤ℤ d → (a +ℤ c) ≤ℤ (b +ℤ d)
plain_least a b c d l m = omega (arith, ints)

negative_least : (z : ℤ) (u : ℕ) → (negative z *ℤ pos u) ≤ℤ (z *ℤ pos u)
negative_least (pos n) u = let m = mul_nonneg (pos n) (pos u) (omega (arith, ints)) (omega (arith, ints)) in let none : pos 0 *ℤ pos u ≡ pos 0 = omega (arith, ints) in rw none m
negative_least (negsuc n) u = omega (arith, ints)

dot_least : (zs : List ℤ) (es : List (Option (List ℤ))) (us : List ℕ) → dot (least zs es) (map pos us) ≤ℤ dot zs (map pos us)
unfolding dot
dot_least [] es us = omega (arith, ints)
dot_least (z ∷ zs) [] us = omega (arith, ints)
dot_least (z ∷ zs) (None ∷ es) [] = omega (arith, ints)
dot_least (z ∷ zs) (None ∷ es) (u ∷ us) = plain_least (negative z *ℤ pos u) (z *ℤ pos u) (dot (least zs es) (map pos us)) (dot zs (map pos us)) (negative_least z u) (dot_least zs es us)
dot_least (z ∷ zs) (Some e ∷ es) [] = omega (arith, ints)
dot_least (z ∷ zs) (Some e ∷ es) (u ∷ us) = plain_least (z *ℤ pos u) (z *ℤ pos u) (dot (least zs es) (map pos us)) (dot zs (map pos us)) (omega (arith, ints)) (dot_least zs es us)

least_holds : (b : ℤ) (row : List ℤ) (es : List (Option (List ℤ))) (us : List ℕ) → Holds (b ∷ least row es) 1 us → Holds (b ∷ row) 1 us
unfolding dot
least_holds b row es us h = let l = dot_least row es us in omega (arith, ints)

module _ (o : Option Arith) (c : Claims) (are : AreColumns o c.truth c.columns) where
  one_there : (n : ℕ) (t : Tree) (i k : ℕ) → AreThere (suc (numbers_of c n)) (counted i k (c.columns.expression n t))
  one_there n t i zero = tt
  one_there n t i (suc k) = go (c.columns.expression n t i) refl (one_there n t (suc i) k)
    where
      go : (e : Option (List ℤ)) → c.columns.expression n t i ≡ e → AreThere (suc (numbers_of c n)) (counted (suc i) k (c.columns.expression n t))
          → AreThere (suc (numbers_of c n)) (e ∷ counted (suc i) k (c.columns.expression n t))
      go None e rest = rest
      go (Some row) e rest = ((are.expressions n t i row e).0, rest)

  are_there : (n : ℕ) (ks : List ℕ) (ts : List Tree) → AreThere (suc (numbers_of c n)) (columns_of ks (map (c.columns.expression n) ts))
  are_there n [] ts = tt
  are_there n (k ∷ ks) [] = tt
  are_there n (k ∷ ks) (t ∷ ts) = there_append (suc (numbers_of c n)) (counted 0 k (c.columns.expression n t)) (columns_of ks (map (c.columns.expression n) ts)) (one_there n t 0 k) (are_there n ks ts)

  atom_width : (n : ℕ) (a : Atom) (row r : List ℤ) → atom_row c n a row ≡ Some r → length r ≡ suc (numbers_of c n)
  atom_width n a row r e = length-over (numbers_of c n) (columns_of (c.kinds a.pred.0) (map (c.columns.expression n) a.args)) row r (are_there n (c.kinds a.pred.0) a.args) e

  abbrev HasWidth : ℕ → Option (List ℤ) → Type 0
  HasWidth n None = Unit {0}
  HasWidth n (Some r) = length r ≡ n

  level_width : (n : ℕ) (l : Mapping) (a : Atom) → HasWidth (suc (numbers_of c n)) (level_row c n l a)
  level_width n l a = go (level_row c n l a) refl
    where
      go : (r : Option (List ℤ)) → level_row c n l a ≡ r → HasWidth (suc (numbers_of c n)) r
      go None e = tt
      go (Some r) e = atom_width n a (l.offset a.pred.0 ∷ l.coefficients a.pred.0) r e

  difference_width : (n d : ℕ) (x y : Option (List ℤ)) → HasWidth (suc n) x → HasWidth (suc n) y → HasWidth (suc n) (difference d x y)
  difference_width n d None y h k = tt
  difference_width n d (Some x) None h k = tt
  difference_width n d (Some x) (Some y) h k =
      length-added (suc n) x (scaled (negsuc 0) (added y (pos d ∷ []))) h (omega (arith, length-map (added y (pos d ∷ [])) (λ z. negsuc 0 *ℤ z), length-added (suc n) y (pos d ∷ []) k (omega arith)))

  target_holds : (n : ℕ) (rows : List (List ℤ)) (target : Option (List ℤ)) → HasWidth (suc n) target → TargetProvable n (map short_row rows) target → RowHoldsOn (suc n) rows target
  target_holds n rows None w h = shown_empty n rows h
  target_holds n rows (Some target) w h = provable_holds (suc n) rows target w h

  abbrev measures : Valuation → Clause → List ℕ
  measures s k = columns_of (c.kinds k.head.pred.0) (map (c.columns.measure s) k.head.args)

  abbrev expressions : Clause → List (Option (List ℤ))
  expressions k = columns_of (c.kinds k.head.pred.0) (map (c.columns.expression k.vars) k.head.args)

  inductive : (k : Clause) → Below k.vars k.head → AllByRecursion (Below k.vars) k.body → SizesProved c k → IsInductive c k
  inductive k hk hb proved s sized = go (c.rows k.head.pred.0) proved
    where
      point : List ℕ
      point = numbers c.columns.width k.vars s

      here : AllHold (system c k.vars k.body) 1 point
      here = to_all (λ (r : List ℤ). Holds r 1 point) (system c k.vars k.body) (system_holds o c are k.vars s k.body hb sized)

      over : (r : List ℤ) (target : Option (List ℤ)) → atom_row c k.vars k.head r ≡ target → TargetProvable (numbers_of c k.vars) (short_system c k.vars k.body) target → Holds r 1 (measures s k)
      over r None e h = absurd (shown_empty (numbers_of c k.vars) (system c k.vars k.body) h 1 point (omega arith) (point_length o c are k.vars s) here)
      over r (Some row) e h =
          let on = provable_holds (suc (numbers_of c k.vars)) (system c k.vars k.body) row (atom_width k.vars k.head r row e) h 1 point (omega arith) (point_length o c are k.vars s) here in
          subst (λ (z : ℤ). pos 0 ≤ℤ z) (atom_value o c are k.vars s k.head hk r row e) on

      one : (r : List ℤ) → TargetProvable (numbers_of c k.vars) (short_system c k.vars k.body) (head_row c k r) → Holds r 1 (measures s k)
      one [] h = over [] (atom_row c k.vars k.head []) refl h
      one (b ∷ row) h = least_holds b row (expressions k) (measures s k) (over (b ∷ least row (expressions k)) (atom_row c k.vars k.head (b ∷ least row (expressions k))) refl h)

      go : (rs : List (List ℤ)) → AllByRecursion (λ (r : List ℤ). TargetProvable (numbers_of c k.vars) (short_system c k.vars k.body) (head_row c k r)) rs
          → AllByRecursion (λ (r : List ℤ). Holds r 1 (columns_of (c.kinds k.head.pred.0) (map (c.columns.measure s) k.head.args))) rs
      go [] h = tt
      go (r ∷ rs) h = (one r h.0, go rs h.1)

  falls : (k : Clause) (rows : List (List ℤ)) (b : Atom) (i : ℕ) (ls : List Mapping) → FallsProved c k (map short_row rows) b i ls → FallsOn c k rows b i ls
  falls k rows b i [] h = absurd h
  falls k rows b zero (l ∷ ls) h = (
    target_holds (numbers_of c k.vars) rows (fall_row c k b 1 l) (difference_width (numbers_of c k.vars) 1 (level_row c k.vars l k.head) (level_row c k.vars l b) (level_width k.vars l k.head) (level_width k.vars l b)) h.0,
    target_holds (numbers_of c k.vars) rows (level_row c k.vars l k.head) (level_width k.vars l k.head) h.1,
  )
  falls k rows b (suc i) (l ∷ ls) h = (
    target_holds (numbers_of c k.vars) rows (fall_row c k b 0 l) (difference_width (numbers_of c k.vars) 0 (level_row c k.vars l k.head) (level_row c k.vars l b) (level_width k.vars l k.head) (level_width k.vars l b)) h.0,
    falls k rows b i ls h.1,
  )

  descends : (m : Measure) (k : Clause) → DescendsProved c m k → Descends c m k
  descends m k h j b e same = let d = h j b e same in (d.0, falls k (system c k.vars (take j k.body)) b d.0 m.mappings d.1)

pub shown : ProofsShow
shown p c prog h = record {
  columns = h.columns;
  ranked = h.ranked;
  inductive = both_each (IsClause p.preds) (SizesProved c) (IsInductive c)
      (λ k is proved. inductive p.arithmetic.names c h.columns k is.head.below (each (IsAtom p.preds k.vars) (Below k.vars) (λ x g. g.below) k.body is.body) proved) p.clauses prog.clauses h.sizes;
  closed = h.closed;
  stated = h.stated;
  measures = λ r. each (ServesProved p c r) (Serves p c r) (λ m s. record {
    covered = s.covered;
    descends = each (λ (k : Clause). c.rank k.head.pred.0 ≡ r → DescendsProved c m k) (λ (k : Clause). c.rank k.head.pred.0 ≡ r → Descends c m k) (λ k d same. descends p.arithmetic.names c h.columns m k (d same)) p.clauses s.descends;
    rule = s.rule;
  }) (c.measures r) (h.measures r);
}
