-- What multipliers show holds.
use Rattle.std.proofs.Common.{◌≡◌, ℕ, zero, suc, ◌≤◌, ℤ, pos, negsuc, ◌*ℤ◌, ◌≤ℤ◌, Bool, true, false, if◌then◌else◌, List, [], ◌∷◌, map, take, length, replicate, refl, ap, sym, subst, ◌∙◌, arith}
use Rattle.std.specs.List.{AllByRecursion}
use Rattle.std.proofs.lemmas.Int.{ints}
use Rattle.std.proofs.lemmas.List.{length-map}
use Rattle.exact128.specs.Sums.{dot}
use Rattle.linear_rows.specs.Rows.{Holds, AllHold, HoldsOn}
use Rattle.linear_rows.proofs.Soundness.{law_holds, law_empty}
use Rattle.cti_terms.specs.Tree.{Tree}
use Rattle.cti_terms.specs.declared.atom_list.Atom.{Atom}
use Rattle.cti_terms.specs.declared.clauses.Clause.{Clause}
use Rattle.cti_terms.specs.Listing.{IsAtom, IsClause}
use Rattle.term_size.specs.Norm.{IsNorm}
use Rattle.termination_model.proofs.Values.{values}
use Rattle.termination_model.specs.sizes.Rows.{scaled, added, combined, substituted}
use Rattle.termination_model.specs.claims.Claims.{Mapping, Measure, Claims, sizes, IsInductive, level_row, fall_row, FallsOn, Descends, Serves}
use Rattle.termination_model.specs.sizes.Systems.{row_over, system, row_fits}
use Rattle.termination_model.specs.sizes.ShortSystems.{short_row, short_system}
use Rattle.termination_model.specs.sizes.Short.{Provable, SizesProved, FallsProved, DescendsProved, ServesProved, ProofsShow}
use Rattle.termination_model.proofs.SystemPoints.{Below, to_all, row_value, point_length, system_holds}

pub dot_none : (r : List ℤ) (ps : List ℤ) → dot (map (λ _. pos 0) r) ps ≡ pos 0
unfolding dot
dot_none [] ps = refl
dot_none (x ∷ r) [] = refl
dot_none (x ∷ r) (p ∷ ps) = rw (dot_none r ps) (omega (arith, ints))

pub short_holds : (t : ℕ) (w : List ℕ) (r : List ℤ) → Holds r t w → Holds (short_row r) t w
short_holds t w r h = go (row_fits r)
  where
    go : (b : Bool) → Holds (if b then r else map (λ _. pos 0) r) t w
    go true = h
    go false = rw (dot_none r (pos t ∷ map pos w)) (omega (arith, ints))

pub short_all : (t : ℕ) (w : List ℕ) (rows : List (List ℤ)) → AllHold rows t w → AllHold (map short_row rows) t w
short_all t w [] h k d l = absurd (omega arith)
short_all t w (r ∷ rows) h zero d l = short_holds t w r (h 0 r (omega arith))
short_all t w (r ∷ rows) h (suc k) d l = short_all t w rows (λ j e m. h (suc j) e (omega arith)) k d (omega arith)

-- what is provable from short rows holds on the rows
pub provable_holds : (n : ℕ) (rows : List (List ℤ)) (target : List ℤ) → length target ≡ n → Provable (map short_row rows) target → HoldsOn n rows target
provable_holds n rows target len (ms, zero, nonneg, h) t w ht hw hr =
    absurd (law_empty (map short_row rows) ms target nonneg h t w ht (hw ∙ sym len) (short_all t w rows hr))
provable_holds n rows target len (ms, suc d, nonneg, h) t w ht hw hr =
    law_holds (map short_row rows) ms target d nonneg h t w ht (hw ∙ sym len) (short_all t w rows hr)

pub length-replicate' : (n : ℕ) → length (replicate n (pos 0)) ≡ n
length-replicate' zero = refl
length-replicate' (suc n) = ap suc (length-replicate' n)

pub length-added : (n : ℕ) (xs ys : List ℤ) → length xs ≡ n → length ys ≤ n → length (added xs ys) ≡ n
length-added n [] [] h k = h
length-added n [] (y ∷ ys) h k = absurd (omega arith)
length-added n (x ∷ xs) [] h k = h
length-added zero (x ∷ xs) (y ∷ ys) h k = absurd (omega arith)
length-added (suc n) (x ∷ xs) (y ∷ ys) h k = ap suc (length-added n xs ys (omega arith) (omega arith))

pub length-added-le : (n : ℕ) (xs ys : List ℤ) → length xs ≤ n → length ys ≤ n → length (added xs ys) ≤ n
length-added-le n [] ys h k = k
length-added-le n (x ∷ xs) [] h k = h
length-added-le zero (x ∷ xs) (y ∷ ys) h k = absurd (omega arith)
length-added-le (suc n) (x ∷ xs) (y ∷ ys) h k = let r = length-added-le n xs ys (omega arith) (omega arith) in omega arith

length-combined : (n : ℕ) (ms : List ℤ) (rows : List (List ℤ)) → AllByRecursion (λ (r : List ℤ). length r ≡ n) rows → length (combined ms rows) ≤ n
length-combined n [] rows h = omega arith
length-combined n (m ∷ ms) [] h = omega arith
length-combined n (m ∷ ms) (r ∷ rows) h = length-added-le n (scaled m r) (combined ms rows) (omega (arith, length-map r (λ x. m *ℤ x), h.0)) (length-combined n ms rows h.1)

pub length-substituted : (n : ℕ) (es : List (List ℤ)) (row : List ℤ) → AllByRecursion (λ (r : List ℤ). length r ≡ suc n) es → length (substituted n es row) ≡ suc n
length-substituted n es [] h = length-replicate' (suc n)
length-substituted n es (b ∷ row) h = length-added (suc n) (b ∷ replicate n (pos 0)) (combined row es) (ap suc (length-replicate' n)) (length-combined (suc n) row es h)

module _ (c : Claims) (norm : IsNorm c.size c.truth c.expression) where
  widths : (n : ℕ) (ts : List Tree) → AllByRecursion (λ (r : List ℤ). length r ≡ suc n) (map (c.expression n) ts)
  widths n [] = tt
  widths n (t ∷ ts) = (norm.width n t, widths n ts)

  row_width : (n : ℕ) (a : Atom) (row : List ℤ) → length (row_over c.expression n a.args row) ≡ suc n
  row_width n a row = length-substituted n (map (c.expression n) a.args) row (widths n a.args)

  fall_width : (k : Clause) (b : Atom) (d : ℕ) (l : Mapping) → length (fall_row c k b d l) ≡ suc k.vars
  fall_width k b d l =
      length-added (suc k.vars) (level_row c k.vars l k.head) (scaled (negsuc 0) (added (level_row c k.vars l b) (pos d ∷ [])))
      (row_width k.vars k.head (pos (l.offset k.head.pred.0) ∷ map pos (l.coefficients k.head.pred.0)))
      (omega (
        arith,
        length-map (added (level_row c k.vars l b) (pos d ∷ [])) (λ x. negsuc 0 *ℤ x),
        length-added (suc k.vars) (level_row c k.vars l b) (pos d ∷ []) (row_width k.vars b (pos (l.offset b.pred.0) ∷ map pos (l.coefficients b.pred.0))) (omega arith),
      ))

  inductive : (k : Clause) → Below k.vars k.head → AllByRecursion (Below k.vars) k.body → SizesProved c k → IsInductive c k
  inductive k hk hb proved s sized = go (c.rows k.head.pred.0) proved
    where
      here : AllHold (system c.expression c.rows k.vars k.body) 1 (values k.vars s)
      here = to_all (λ (r : List ℤ). Holds r 1 (values k.vars s)) (system c.expression c.rows k.vars k.body) (system_holds c norm k.vars s k.body hb sized)

      go : (rs : List (List ℤ)) → AllByRecursion (λ (r : List ℤ). Provable (short_system c.expression c.rows k.vars k.body) (row_over c.expression k.vars k.head.args r)) rs → AllByRecursion (λ (r : List ℤ). Holds r 1 (sizes c s k.head)) rs
      go [] h = tt
      go (r ∷ rs) h =
          let on = provable_holds (suc k.vars) (system c.expression c.rows k.vars k.body) (row_over c.expression k.vars k.head.args r) (row_width k.vars k.head r) h.0 1 (values k.vars s) (omega arith) (point_length c norm k.vars s) here in
          (subst (λ (z : ℤ). pos 0 ≤ℤ z) (row_value c norm k.vars s k.head hk r) on, go rs h.1)

  falls : (k : Clause) (rows : List (List ℤ)) (b : Atom) (i : ℕ) (ls : List Mapping) → FallsProved c k (map short_row rows) b i ls → FallsOn c k rows b i ls
  falls k rows b i [] h = absurd h
  falls k rows b zero (l ∷ ls) h = provable_holds (suc k.vars) rows (fall_row c k b 1 l) (fall_width k b 1 l) h
  falls k rows b (suc i) (l ∷ ls) h = (provable_holds (suc k.vars) rows (fall_row c k b 0 l) (fall_width k b 0 l) h.0, falls k rows b i ls h.1)

  descends : (m : Measure) (k : Clause) → DescendsProved c m k → Descends c m k
  descends m k h j b e same = let d = h j b e same in (d.0, falls k (system c.expression c.rows k.vars (take j k.body)) b d.0 m.mappings d.1)

each : {X : Type 0} (P Q : X → Type 0) → ((x : X) → P x → Q x) → (xs : List X) → AllByRecursion P xs → AllByRecursion Q xs
each P Q f [] h = tt
each P Q f (x ∷ xs) h = (f x h.0, each P Q f xs h.1)

both : {X : Type 0} (P Q R : X → Type 0) → ((x : X) → P x → Q x → R x) → (xs : List X) → AllByRecursion P xs → AllByRecursion Q xs → AllByRecursion R xs
both P Q R f [] h k = tt
both P Q R f (x ∷ xs) h k = (f x h.0 k.0, both P Q R f xs h.1 k.1)

pub shown : ProofsShow
shown p c prog h = record {
  norm = h.norm;
  ranked = h.ranked;
  inductive = both (IsClause p.preds) (SizesProved c) (IsInductive c)
      (λ k is proved. inductive c h.norm k is.head.below (each (IsAtom p.preds k.vars) (Below k.vars) (λ x g. g.below) k.body is.body) proved) p.clauses prog.clauses h.sizes;
  closed = h.closed;
  stated = h.stated;
  measures = λ r. each (ServesProved p c r) (Serves p c r) (λ m s. record {
    covered = s.covered;
    descends = each (λ (k : Clause). c.rank k.head.pred.0 ≡ r → DescendsProved c m k) (λ (k : Clause). c.rank k.head.pred.0 ≡ r → Descends c m k) (λ k d same. descends c h.norm m k (d same)) p.clauses s.descends;
    rule = s.rule;
  }) (c.measures r) (h.measures r);
}
