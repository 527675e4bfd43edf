-- Rows over the variables of a clause, at the columns of its atoms.
use Rattle.std.proofs.Common.{◌≡◌, ℕ, zero, suc, ◌+◌, ◌*◌, ℤ, pos, negsuc, ◌+ℤ◌, ◌*ℤ◌, ◌≤ℤ◌, Bool, true, false, ◌||◌, not, if◌then◌else◌, List, [], ◌∷◌, ◌++◌, map, length, replicate, Option, None, Some, IsTrue, refl, ap, sym, subst, ◌∙◌, arith, inl, inr, length-append}
use Rattle.std.specs.List.{AllByRecursion}
use Rattle.std.proofs.lemmas.Int.{ints}
use Rattle.exact128.specs.Sums.{dot}
use Rattle.linear_rows.specs.Rows.{Holds, HoldsOn, AreEmpty}
use Rattle.linear_rows.specs.Replacing.{substituted}
use Rattle.linear_rows.specs.RowSums.{scaled, added}
use Rattle.cti_terms.specs.Tree.{Tree, is_below}
use Rattle.cti_terms.specs.declared.atom_list.Atom.{Atom}
use Rattle.cti_terms.specs.declared.builtins.Arith.{Arith}
use Rattle.cti_terms.specs.declared.clauses.Clause.{Clause}
use Rattle.termination_model.specs.columns.Columns.{Valuation, counted, columns_of, numbers_from, numbers, AreColumns}
use Rattle.termination_model.specs.columns.ColumnRows.{is_zero, lacks, or_empty, row_over, or_zeros}
use Rattle.termination_model.specs.columns.ColumnClaims.{Mapping, Claims, IsSized, numbers_of, atom_row, system, level_row, difference, fall_row, RowHoldsOn, FallsOn}
use Rattle.termination_model.proofs.SystemPoints.{Below, dot_scaled, dot_added, dot_zeros, dot_substituted, dot_one, to_all, all_append, all_over}
use Rattle.termination_model.proofs.ColumnLevels.{level, length-counted}
use Rattle.termination_model.proofs.Cuts.{cut, cut_rises, cut_falls}
use Rattle.termination_model.proofs.Order.{Falls}

pub length-numbers_from : {X : Type 0} (w x n : ℕ) (s : ℕ → ℕ → X) → length (numbers_from w x n s) ≡ n * w
length-numbers_from w x zero s = omega arith
length-numbers_from w x (suc n) s =
    let here = length-append (counted 0 w (s x)) (numbers_from w (suc x) n s) in
    let own = length-counted 0 w (s x) in
    let rest = length-numbers_from w (suc x) n s in
    omega (arith, here, own, rest)

-- each expression that is there has its value at the point
abbrev pub HaveValues : List ℤ → List (Option (List ℤ)) → List ℤ → Type 0
HaveValues vs [] [] = Unit {0}
HaveValues vs [] (x ∷ xs) = ⊥
HaveValues vs (e ∷ es) [] = ⊥
HaveValues vs (None ∷ es) (x ∷ xs) = HaveValues vs es xs
HaveValues vs (Some e ∷ es) (x ∷ xs) = (dot e vs ≡ x) × HaveValues vs es xs

have_append : (vs : List ℤ) (es fs : List (Option (List ℤ))) (xs ys : List ℤ) → HaveValues vs es xs → HaveValues vs fs ys → HaveValues vs (es ++ fs) (xs ++ ys)
have_append vs [] fs [] ys h k = k
have_append vs [] fs (x ∷ xs) ys h k = absurd h
have_append vs (e ∷ es) fs [] ys h k = absurd h
have_append vs (None ∷ es) fs (x ∷ xs) ys h k = have_append vs es fs xs ys h k
have_append vs (Some e ∷ es) fs (x ∷ xs) ys h k = (h.0, have_append vs es fs xs ys h.1 k)

zero_not : (z : ℤ) (b : Bool) → (not (is_zero z) || b) ≡ false → (z ≡ pos 0) × (b ≡ false)
zero_not (pos zero) b e = (refl, e)
zero_not (pos (suc n)) b e = absurd (cc)
zero_not (negsuc n) b e = absurd (cc)

-- a row that lacks nothing has the value of what stands for its columns
lacks_none : (vs row : List ℤ) (es : List (Option (List ℤ))) (xs : List ℤ) → lacks row es ≡ false → HaveValues vs es xs
    → dot row (map (λ e. dot e vs) (map or_empty es)) ≡ dot row xs
unfolding dot
lacks_none vs [] es xs l h = refl
lacks_none vs (z ∷ row) [] [] l h = refl
lacks_none vs (z ∷ row) [] (x ∷ xs) l h = absurd h
lacks_none vs (z ∷ row) (e ∷ es) [] l h = absurd h
lacks_none vs (z ∷ row) (None ∷ es) (x ∷ xs) l h =
    let parts = zero_not z (lacks row es) l in
    let rest = lacks_none vs row es xs parts.1 h in
    let none = parts.0 in
    rw none (omega (arith, ints, rest))
lacks_none vs (z ∷ row) (Some e ∷ es) (x ∷ xs) l h =
    let rest = lacks_none vs row es xs l h.1 in
    λ i. (z *ℤ h.0 i) +ℤ rest i

pub row_over_value : (n : ℕ) (es : List (Option (List ℤ))) (row r vs xs : List ℤ) → HaveValues (pos 1 ∷ vs) es xs → row_over n es row ≡ Some r → dot r (pos 1 ∷ vs) ≡ dot row (pos 1 ∷ xs)
unfolding dot
row_over_value n es [] r vs xs h e =
    let same : replicate (suc n) (pos 0) ≡ r = cc in
    subst (λ (z : List ℤ). dot z (pos 1 ∷ vs) ≡ pos 0) same (dot_zeros (suc n) (pos 1 ∷ vs))
row_over_value n es (b ∷ row) r vs xs h e = go (lacks row es) refl e
  where
    go : (t : Bool) → lacks row es ≡ t → (if t then None else Some (substituted n (map or_empty es) (b ∷ row))) ≡ Some r → dot r (pos 1 ∷ vs) ≡ dot (b ∷ row) (pos 1 ∷ xs)
    go true l q = absurd (cc)
    go false l q =
        let same : substituted n (map or_empty es) (b ∷ row) ≡ r = cc in
        let rest = lacks_none (pos 1 ∷ vs) row es xs l h in
        let value : dot (substituted n (map or_empty es) (b ∷ row)) (pos 1 ∷ vs) ≡ dot (b ∷ row) (pos 1 ∷ xs) =
        dot_substituted n (map or_empty es) (b ∷ row) vs (map (λ e. dot e (pos 1 ∷ vs)) (map or_empty es)) refl ∙ (λ i. (b *ℤ pos 1) +ℤ rest i) in
        subst (λ (z : List ℤ). dot z (pos 1 ∷ vs) ≡ dot (b ∷ row) (pos 1 ∷ xs)) same value

module _ (o : Option Arith) (c : Claims) (are : AreColumns o c.truth c.columns) (n : ℕ) (s : Valuation) where
  abbrev pub point : List ℕ
  point = numbers c.columns.width n s

  pub point_length : length point + 1 ≡ suc (numbers_of c n)
  point_length = omega (arith, length-numbers_from c.columns.width 0 n s)

  one_argument : (i k : ℕ) (t : Tree) → IsTrue (is_below n t) → HaveValues (pos 1 ∷ map pos point) (counted i k (c.columns.expression n t)) (map pos (counted i k (c.columns.measure s t)))
  one_argument i zero t h = tt
  one_argument i (suc k) t h = go (c.columns.expression n t i) refl (one_argument (suc i) k t h)
    where
      go : (e : Option (List ℤ)) → c.columns.expression n t i ≡ e → HaveValues (pos 1 ∷ map pos point) (counted (suc i) k (c.columns.expression n t)) (map pos (counted (suc i) k (c.columns.measure s t)))
          → HaveValues (pos 1 ∷ map pos point) (e ∷ counted (suc i) k (c.columns.expression n t)) (pos (c.columns.measure s t i) ∷ map pos (counted (suc i) k (c.columns.measure s t)))
      go None e rest = rest
      go (Some row) e rest = ((are.expressions n t i row e).1 h s, rest)

  map_together : (us vs : List ℕ) → map pos (us ++ vs) ≡ map pos us ++ map pos vs
  map_together [] vs = refl
  map_together (u ∷ us) vs = ap (λ (z : List ℤ). pos u ∷ z) (map_together us vs)

  arguments : (ks : List ℕ) (ts : List Tree) → AllByRecursion (λ (t : Tree). IsTrue (is_below n t)) ts
      → HaveValues (pos 1 ∷ map pos point) (columns_of ks (map (c.columns.expression n) ts)) (map pos (columns_of ks (map (c.columns.measure s) ts)))
  arguments [] ts h = tt
  arguments (k ∷ ks) [] h = tt
  arguments (k ∷ ks) (t ∷ ts) h =
      subst (HaveValues (pos 1 ∷ map pos point) (columns_of (k ∷ ks) (map (c.columns.expression n) (t ∷ ts)))) (sym (map_together (counted 0 k (c.columns.measure s t)) (columns_of ks (map (c.columns.measure s) ts))))
      (have_append (pos 1 ∷ map pos point) (counted 0 k (c.columns.expression n t)) (columns_of ks (map (c.columns.expression n) ts)) (map pos (counted 0 k (c.columns.measure s t)))
      (map pos (columns_of ks (map (c.columns.measure s) ts))) (one_argument 0 k t h.0) (arguments ks ts h.1))

  abbrev pub columns_at : Atom → List ℕ
  columns_at a = columns_of (c.kinds a.pred.0) (map (c.columns.measure s) a.args)

  pub atom_value : (a : Atom) → Below n a → (row r : List ℤ) → atom_row c n a row ≡ Some r → dot r (pos 1 ∷ map pos point) ≡ dot row (pos 1 ∷ map pos (columns_at a))
  atom_value a h row r e = row_over_value (numbers_of c n) (columns_of (c.kinds a.pred.0) (map (c.columns.expression n) a.args)) row r (map pos point) (map pos (columns_at a)) (arguments (c.kinds a.pred.0) a.args h) e

  one_row : (a : Atom) → Below n a → (row : List ℤ) → Holds row 1 (columns_at a) → Holds (or_zeros (numbers_of c n) (atom_row c n a row)) 1 point
  one_row a h row l = go (atom_row c n a row) refl
    where
      go : (r : Option (List ℤ)) → atom_row c n a row ≡ r → Holds (or_zeros (numbers_of c n) r) 1 point
      go None e = subst (λ (z : ℤ). pos 0 ≤ℤ z) (sym (dot_zeros (suc (numbers_of c n)) (pos 1 ∷ map pos point))) (omega (arith, ints))
      go (Some r) e = subst (λ (z : ℤ). pos 0 ≤ℤ z) (sym (atom_value a h row r e)) l

  pub system_holds : (bs : List Atom) → AllByRecursion (Below n) bs → AllByRecursion (IsSized c s) bs → AllByRecursion (λ (r : List ℤ). Holds r 1 point) (system c n bs)
  system_holds [] h k = tt
  system_holds (b ∷ bs) h k =
      all_append (λ (r : List ℤ). Holds r 1 point) (map (λ r. or_zeros (numbers_of c n) (atom_row c n b r)) (c.rows b.pred.0)) (system c n bs)
      (all_over (λ r. or_zeros (numbers_of c n) (atom_row c n b r)) (λ (r : List ℤ). Holds r 1 (columns_at b)) (λ (r : List ℤ). Holds r 1 point) (one_row b h.0) (c.rows b.pred.0) k.0)
      (system_holds bs h.1 k.1)

  pub level_value : (a : Atom) → Below n a → (l : Mapping) (r : List ℤ) → level_row c n l a ≡ Some r → dot r (pos 1 ∷ map pos point) ≡ level c a.pred.0 (map (c.columns.measure s) a.args) l
  unfolding dot
  level_value a h l r e = let v = atom_value a h (l.offset a.pred.0 ∷ l.coefficients a.pred.0) r e in v ∙ omega (arith, ints)

plain_fall : (x h y z b e : ℤ) (d : ℕ) → pos 0 ≤ℤ x → x ≡ h +ℤ y → y ≡ negsuc 0 *ℤ z → z ≡ b +ℤ e → e ≡ pos d → (b +ℤ pos d) ≤ℤ h
plain_fall x h y z b e d l p q r ev = omega (arith, ints)

module _ (o : Option Arith) (c : Claims) (are : AreColumns o c.truth c.columns) (s : Valuation) (k : Clause) (b : Atom) (hk : Below k.vars k.head) (hb : Below k.vars b)
    (rows : List (List ℤ)) (all : AllByRecursion (λ (r : List ℤ). Holds r 1 (numbers c.columns.width k.vars s)) rows) where
  abbrev here : List ℕ
  here = numbers c.columns.width k.vars s

  abbrev at_call : Mapping → ℤ
  at_call l = level c b.pred.0 (map (c.columns.measure s) b.args) l

  abbrev at_head : Mapping → ℤ
  at_head l = level c k.head.pred.0 (map (c.columns.measure s) k.head.args) l

  at_point : (row : List ℤ) → HoldsOn (suc (numbers_of c k.vars)) rows row → Holds row 1 here
  at_point row h = h 1 here (omega arith) (point_length o c are k.vars s) (to_all (λ (r : List ℤ). Holds r 1 here) rows all)

  not_empty : AreEmpty (suc (numbers_of c k.vars)) rows → ⊥
  not_empty h = h 1 here (omega arith) (point_length o c are k.vars s) (to_all (λ (r : List ℤ). Holds r 1 here) rows all)

  head_positive : (l : Mapping) → RowHoldsOn (suc (numbers_of c k.vars)) rows (level_row c k.vars l k.head) → pos 0 ≤ℤ at_head l
  head_positive l h = go (level_row c k.vars l k.head) refl h
    where
      go : (r : Option (List ℤ)) → level_row c k.vars l k.head ≡ r → RowHoldsOn (suc (numbers_of c k.vars)) rows r → pos 0 ≤ℤ at_head l
      go None e n = absurd (not_empty n)
      go (Some r) e n = subst (λ (z : ℤ). pos 0 ≤ℤ z) (level_value o c are k.vars s k.head hk l r e) (at_point r n)

  fall_value : (d : ℕ) (l : Mapping) → RowHoldsOn (suc (numbers_of c k.vars)) rows (fall_row c k b d l) → (at_call l +ℤ pos d) ≤ℤ at_head l
  fall_value d l h = go (level_row c k.vars l k.head) (level_row c k.vars l b) refl refl h
    where
      go : (x y : Option (List ℤ)) → level_row c k.vars l k.head ≡ x → level_row c k.vars l b ≡ y → RowHoldsOn (suc (numbers_of c k.vars)) rows (difference d x y) → (at_call l +ℤ pos d) ≤ℤ at_head l
      go None y ex ey n = absurd (not_empty n)
      go (Some x) None ex ey n = absurd (not_empty n)
      go (Some x) (Some y) ex ey n =
          let ps = pos 1 ∷ map pos here in
          let f = plain_fall _ _ _ _ _ _ d (at_point (added x (scaled (negsuc 0) (added y (pos d ∷ [])))) n)
          (dot_added x (scaled (negsuc 0) (added y (pos d ∷ []))) ps)
          (dot_scaled (negsuc 0) (added y (pos d ∷ [])) ps)
          (dot_added y (pos d ∷ []) ps)
          (dot_one d (map pos here)) in
          subst (λ (z : ℤ). (z +ℤ pos d) ≤ℤ at_head l) (level_value o c are k.vars s b hb l y ey) (subst (λ (z : ℤ). (dot y ps +ℤ pos d) ≤ℤ z) (level_value o c are k.vars s k.head hk l x ex) f)

  plain_zero : (x y : ℤ) → (x +ℤ pos 0) ≤ℤ y → x ≤ℤ y
  plain_zero x y l = omega (arith, ints)

  pub falls_on : (i : ℕ) (ls : List Mapping) → FallsOn c k rows b i ls → Falls (map (λ l. cut (at_call l)) ls) (map (λ l. cut (at_head l)) ls)
  falls_on i [] h = absurd h
  falls_on zero (l ∷ ls) h = inl (cut_falls (at_call l) (at_head l) (fall_value 1 l h.0) (head_positive l h.1))
  falls_on (suc i) (l ∷ ls) h = inr (cut_rises (at_call l) (at_head l) (plain_zero (at_call l) (at_head l) (fall_value 0 l h.0)), falls_on i ls h.1)
