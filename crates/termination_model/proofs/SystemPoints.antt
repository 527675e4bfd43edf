-- Rows over the variables of a clause, at the sizes of its atoms.
use Rattle.std.proofs.Common.{◌≡◌, ℕ, zero, suc, ◌+◌, ◌<◌, ◌≤◌, ℤ, pos, negsuc, ◌+ℤ◌, ◌*ℤ◌, ◌≤ℤ◌, List, [], ◌∷◌, ◌++◌, map, length, replicate, get_or, IsTrue, refl, ap, sym, subst, ◌∙◌, arith, inl, inr}
use Rattle.std.specs.List.{AllByRecursion}
use Rattle.std.proofs.lemmas.Int.{ints}
use Rattle.exact128.proofs.Rings.{rings}
use Rattle.exact128.specs.Sums.{dot}
use Rattle.linear_rows.specs.Rows.{Holds}
use Rattle.cti_terms.specs.Tree.{Tree, is_below}
use Rattle.cti_terms.specs.declared.atom_list.Atom.{Atom}
use Rattle.cti_terms.specs.declared.clauses.Clause.{Clause}
use Rattle.term_size.specs.Norm.{IsNorm}
use Rattle.termination_model.proofs.Values.{values_from, values, expression_value}
use Rattle.termination_model.specs.sizes.Rows.{scaled, added, combined, substituted}
use Rattle.termination_model.specs.claims.Claims.{Mapping, Claims, sizes, IsSized, level_row, fall_row, FallsOn}
use Rattle.termination_model.specs.sizes.Systems.{row_over, system}
use Rattle.termination_model.proofs.Levels.{total, level}
use Rattle.termination_model.proofs.Order.{Falls}

pub dot_scaled : (m : ℤ) (xs ps : List ℤ) → dot (scaled m xs) ps ≡ m *ℤ dot xs ps
unfolding dot
dot_scaled m [] ps = omega (arith, ints)
dot_scaled m (x ∷ xs) [] = omega (arith, ints)
dot_scaled m (x ∷ xs) (p ∷ ps) = rw (dot_scaled m xs ps) (simp rings (omega (arith, ints)))

pub dot_added : (xs ys ps : List ℤ) → dot (added xs ys) ps ≡ dot xs ps +ℤ dot ys ps
unfolding dot
dot_added [] ys ps = omega (arith, ints)
dot_added (x ∷ xs) [] ps = omega (arith, ints)
dot_added (x ∷ xs) (y ∷ ys) [] = refl
dot_added (x ∷ xs) (y ∷ ys) (p ∷ ps) = rw (dot_added xs ys ps) (simp rings (omega (arith, ints)))

pub dot_zeros : (n : ℕ) (ps : List ℤ) → dot (replicate n (pos 0)) ps ≡ pos 0
unfolding dot
dot_zeros zero ps = refl
dot_zeros (suc n) [] = refl
dot_zeros (suc n) (p ∷ ps) = rw (dot_zeros n ps) (omega (arith, ints))

pub dot_combined : (ms : List ℤ) (rows : List (List ℤ)) (ps : List ℤ) → dot (combined ms rows) ps ≡ dot ms (map (λ r. dot r ps) rows)
unfolding dot
dot_combined [] rows ps = refl
dot_combined (m ∷ ms) [] ps = refl
dot_combined (m ∷ ms) (r ∷ rs) ps = rw (dot_added (scaled m r) (combined ms rs) ps, dot_scaled m r ps, dot_combined ms rs ps)

pub dot_substituted : (n : ℕ) (es : List (List ℤ)) (row vs xs : List ℤ) → map (λ e. dot e (pos 1 ∷ vs)) es ≡ xs → dot (substituted n es row) (pos 1 ∷ vs) ≡ dot row (pos 1 ∷ xs)
unfolding dot
dot_substituted n es [] vs xs h = dot_zeros (suc n) (pos 1 ∷ vs)
dot_substituted n es (b ∷ row) vs xs h =
    let zeros = dot_zeros n vs in
    let rest : dot (combined row es) (pos 1 ∷ vs) ≡ dot row xs = dot_combined row es (pos 1 ∷ vs) ∙ ap (dot row) h in
    rw (dot_added (b ∷ replicate n (pos 0)) (combined row es) (pos 1 ∷ vs)) (omega (arith, ints, zeros, rest))

pub dot_total : (cs ws : List ℕ) → dot (map pos cs) (map pos ws) ≡ pos (total cs ws)
unfolding dot
dot_total [] ws = refl
dot_total (a ∷ cs) [] = refl
dot_total (a ∷ cs) (w ∷ ws) = omega (arith, ints, dot_total cs ws)

length-values_from : (k n : ℕ) (s : ℕ → ℕ) → length (values_from k n s) ≡ n
length-values_from k zero s = refl
length-values_from k (suc n) s = ap suc (length-values_from (suc k) n s)

abbrev pub to_all : {X : Type 0} (P : X → Type 0) (xs : List X) → AllByRecursion P xs → (k : ℕ) (d : X) → k < length xs → P (get_or xs k d)
to_all P [] h k d l = absurd (omega arith)
to_all P (x ∷ xs) h zero d l = h.0
to_all P (x ∷ xs) h (suc k) d l = to_all P xs h.1 k d (omega arith)

pub all_append : {X : Type 0} (P : X → Type 0) (xs ys : List X) → AllByRecursion P xs → AllByRecursion P ys → AllByRecursion P (xs ++ ys)
all_append P [] ys h k = k
all_append P (x ∷ xs) ys h k = (h.0, all_append P xs ys h.1 k)

pub all_over : {X Y : Type 0} (f : X → Y) (P : X → Type 0) (Q : Y → Type 0) → ((x : X) → P x → Q (f x)) → (xs : List X) → AllByRecursion P xs → AllByRecursion Q (map f xs)
all_over f P Q h [] k = tt
all_over f P Q h (x ∷ xs) k = (h x k.0, all_over f P Q h xs k.1)

abbrev pub Below : ℕ → Atom → Type 0
Below n a = AllByRecursion (λ (t : Tree). IsTrue (is_below n t)) a.args

module _ (c : Claims) (norm : IsNorm c.size c.truth c.expression) (n : ℕ) (s : ℕ → ℕ) where
  abbrev pub point : List ℕ
  point = values n s

  pub point_length : length point + 1 ≡ suc n
  point_length = omega (arith, length-values_from 0 n s)

  expressions : (ts : List Tree) → AllByRecursion (λ (t : Tree). IsTrue (is_below n t)) ts
      → map (λ e. dot e (pos 1 ∷ map pos point)) (map (c.expression n) ts) ≡ map pos (map (c.size s) ts)
  expressions [] h = refl
  expressions (t ∷ ts) h =
      let here = expression_value c.size c.truth c.expression norm n s t h.0 in
      let rest = expressions ts h.1 in
      λ i. here i ∷ rest i

  pub row_value : (a : Atom) → Below n a → (row : List ℤ) → dot (row_over c.expression n a.args row) (pos 1 ∷ map pos point) ≡ dot row (pos 1 ∷ map pos (sizes c s a))
  row_value a h row = dot_substituted n (map (c.expression n) a.args) row (map pos point) (map pos (sizes c s a)) (expressions a.args h)

  pub system_holds : (bs : List Atom) → AllByRecursion (Below n) bs → AllByRecursion (IsSized c s) bs → AllByRecursion (λ (r : List ℤ). Holds r 1 point) (system c.expression c.rows n bs)
  system_holds [] h k = tt
  system_holds (b ∷ bs) h k =
      all_append (λ (r : List ℤ). Holds r 1 point) (map (row_over c.expression n b.args) (c.rows b.pred.0)) (system c.expression c.rows n bs)
      (all_over (row_over c.expression n b.args) (λ (r : List ℤ). Holds r 1 (sizes c s b)) (λ (r : List ℤ). Holds r 1 point) (λ r l. subst (λ (z : ℤ). pos 0 ≤ℤ z) (sym (row_value b h.0 r)) l) (c.rows b.pred.0) k.0)
      (system_holds bs h.1 k.1)

  level_value : (a : Atom) → Below n a → (l : Mapping) → dot (level_row c n l a) (pos 1 ∷ map pos point) ≡ pos (level a.pred.0 (sizes c s a) l)
  unfolding dot
  level_value a h l =
      let e = row_value a h (pos (l.offset a.pred.0) ∷ map pos (l.coefficients a.pred.0)) in
      let t = dot_total (l.coefficients a.pred.0) (sizes c s a) in
      e ∙ omega (arith, ints, t)

pub dot_one : (d : ℕ) (ps : List ℤ) → dot (pos d ∷ []) (pos 1 ∷ ps) ≡ pos d
unfolding dot
dot_one d ps = omega (arith, ints)

plain_fall : (x h y z b e : ℤ) (u v d : ℕ) → pos 0 ≤ℤ x → x ≡ h +ℤ y → y ≡ negsuc 0 *ℤ z → z ≡ b +ℤ e → h ≡ pos v → b ≡ pos u → e ≡ pos d → u + d ≤ v
plain_fall x h y z b e u v d l p q r hv bv ev = omega (arith, ints)

module _ (c : Claims) (norm : IsNorm c.size c.truth c.expression) (s : ℕ → ℕ) (k : Clause) (b : Atom) (hk : Below k.vars k.head) (hb : Below k.vars b) where
  fall_value : (d : ℕ) (l : Mapping) → Holds (fall_row c k b d l) 1 (values k.vars s) → level b.pred.0 (sizes c s b) l + d ≤ level k.head.pred.0 (sizes c s k.head) l
  fall_value d l h =
      let ps = pos 1 ∷ map pos (values k.vars s) in
      plain_fall _ _ _ _ _ _ _ _ d h
      (dot_added (level_row c k.vars l k.head) (scaled (negsuc 0) (added (level_row c k.vars l b) (pos d ∷ []))) ps)
      (dot_scaled (negsuc 0) (added (level_row c k.vars l b) (pos d ∷ [])) ps)
      (dot_added (level_row c k.vars l b) (pos d ∷ []) ps)
      (level_value c norm k.vars s k.head hk l)
      (level_value c norm k.vars s b hb l)
      (dot_one d (map pos (values k.vars s)))

  pub falls_on : (rows : List (List ℤ)) → AllByRecursion (λ (r : List ℤ). Holds r 1 (values k.vars s)) rows → (i : ℕ) (ls : List Mapping) → FallsOn c k rows b i ls
      → Falls (map (level b.pred.0 (sizes c s b)) ls) (map (level k.head.pred.0 (sizes c s k.head)) ls)
  falls_on rows all i [] h = absurd h
  falls_on rows all zero (l ∷ ls) h =
      let f = fall_value 1 l (h 1 (values k.vars s) (omega arith) (point_length c norm k.vars s) (to_all (λ (r : List ℤ). Holds r 1 (values k.vars s)) rows all)) in
      inl (omega arith)
  falls_on rows all (suc i) (l ∷ ls) h =
      let f = fall_value 0 l (h.0 1 (values k.vars s) (omega arith) (point_length c norm k.vars s) (to_all (λ (r : List ℤ). Holds r 1 (values k.vars s)) rows all)) in
      inr (omega arith, falls_on rows all i ls h.1)
