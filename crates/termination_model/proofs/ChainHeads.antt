-- Rows over a head's arguments, at points of the clause's variables.
use Rattle.std.proofs.Common.{◌≡◌, ℕ, zero, suc, ◌+◌, ◌*◌, ◌≤◌, ℤ, pos, negsuc, ◌+ℤ◌, ◌*ℤ◌, ◌≤ℤ◌, Bool, List, [], ◌∷◌, map, length, replicate, IsTrue, refl, ap, sym, ◌∙◌, arith}
use Rattle.std.specs.List.{AllByRecursion}
use Rattle.std.specs.Prelude.{unsigned_abs}
use Rattle.std.proofs.lemmas.Int.{ints}
use Rattle.exact128.proofs.Rings.{rings, mul_nonneg}
use Rattle.exact128.specs.Sums.{dot}
use Rattle.cti_terms.specs.Tree.{Tree, is_below}
use Rattle.linear_rows.specs.Rows.{Holds}
use Rattle.linear_rows.proofs.Starts.{dot-zeros}
use Rattle.term_size.specs.Norm.{IsNorm}
use Rattle.termination_model.specs.sizes.Rows.{combined, substituted}
use Rattle.termination_model.specs.sizes.Systems.{row_over}
use Rattle.termination_model.proofs.Values.{values_from, expression_value}
use Rattle.termination_model.proofs.SystemPoints.{dot_added, dot_zeros, dot_combined}
use Rattle.termination_model.specs.chains.ChainRows.{bottom_row}
use Rattle.termination_model.proofs.Naturals.{never_below}

-- the value of a row with expressions in its arguments' places is its value at those of the expressions
pub dot_substituted : (n : ℕ) (es : List (List ℤ)) (row vs : List ℤ) (t : ℤ) → dot (substituted n es row) (t ∷ vs) ≡ dot row (t ∷ map (λ e. dot e (t ∷ vs)) es)
unfolding dot
dot_substituted n es [] vs t = dot_zeros (suc n) (t ∷ vs)
dot_substituted n es (b ∷ row) vs t =
    let zeros = dot_zeros n vs in
    let rest : dot (combined row es) (t ∷ vs) ≡ dot row (map (λ e. dot e (t ∷ vs)) es) = dot_combined row es (t ∷ vs) in
    rw (dot_added (b ∷ replicate n (pos 0)) (combined row es) (t ∷ vs)) (omega (arith, ints, zeros, rest))

-- ---- expressions are natural at each point
-- the valuation of a list of values
abbrev listed : List ℕ → ℕ → ℕ
listed [] x = 0
listed (v ∷ vs) zero = v
listed (v ∷ vs) (suc x) = listed vs x

values_listed : (n : ℕ) (w : List ℕ) → length w ≡ n → (s : ℕ → ℕ) (k : ℕ) → ((x : ℕ) → s (k + x) ≡ listed w x) → values_from k n s ≡ w
values_listed zero [] e s k h = refl
values_listed zero (v ∷ w) e s k h = absurd (omega arith)
values_listed (suc n) [] e s k h = absurd (omega arith)
values_listed (suc n) (v ∷ w) e s k h =
    let here : s k ≡ v = ap s (omega arith) ∙ h 0 in
    let more = values_listed n w (omega arith) s (suc k) (λ x. let at : suc k + x ≡ k + suc x = omega arith in ap s at ∙ h (suc x)) in
    λ i. here i ∷ more i

abbrev times : ℕ → List ℕ → List ℕ
times k [] = []
times k (v ∷ vs) = (k * v) ∷ times k vs

length-times : (k : ℕ) (vs : List ℕ) → length (times k vs) ≡ length vs
length-times k [] = refl
length-times k (v ∷ vs) = ap suc (length-times k vs)

dot_times : (cs : List ℤ) (k : ℕ) (vs : List ℕ) → dot cs (map pos (times k vs)) ≡ pos k *ℤ dot cs (map pos vs)
unfolding dot
dot_times [] k vs = omega (arith, ints)
dot_times (a ∷ cs) k [] = omega (arith, ints)
dot_times (a ∷ cs) k (v ∷ vs) =
    let p : pos (k * v) ≡ pos k *ℤ pos v = omega (arith, ints) in
    rw (dot_times cs k vs, p) (simp rings (omega (arith, ints)))

all_points : (e : List ℤ) (t : ℕ) (w : List ℕ) → ((v : List ℕ) → length v ≡ length w → pos 0 ≤ℤ dot e (pos 1 ∷ map pos v)) → pos 0 ≤ℤ dot e (pos t ∷ map pos w)
unfolding dot
all_points [] t w h = omega (arith, ints)
all_points (b ∷ cs) t w h =
    let lines : (k : ℕ) → pos 0 ≤ℤ (b +ℤ pos k *ℤ dot cs (map pos w)) = λ k.
    let here = h (times k w) (length-times k w) in let e = dot_times cs k w in omega (arith, ints) in
    let slope = never_below b (dot cs (map pos w)) lines in
    let low = lines 0 in
    let base : pos 0 ≤ℤ b = omega (arith, ints) in
    let part : pos 0 ≤ℤ (b *ℤ pos t) = mul_nonneg b (pos t) base (omega (arith, ints)) in
    omega (arith, ints)

module _ (size : (ℕ → ℕ) → Tree → ℕ) (truth : (ℕ → Bool) → Tree → Bool) (expression : ℕ → Tree → List ℤ) (norm : IsNorm size truth expression) (n : ℕ) where
  pub natural : (x : Tree) → IsTrue (is_below n x) → (t : ℕ) (w : List ℕ) → length w ≡ n → pos 0 ≤ℤ dot (expression n x) (pos t ∷ map pos w)
  natural x below t w long =
      all_points (expression n x) t w (λ v same.
      let v_is = values_listed n v (same ∙ long) (listed v) 0 (λ y. ap (listed v) (omega arith)) in
      let at = expression_value size truth expression norm n (listed v) x below in
      let here : dot (expression n x) (pos 1 ∷ map pos v) ≡ pos (size (listed v) x) = ap (λ (z : List ℕ). dot (expression n x) (pos 1 ∷ map pos z)) (sym v_is) ∙ at in
      omega (arith, ints, here))

  -- the values of arguments at a point, as naturals
  abbrev pub sizes_at : ℕ → List ℕ → List Tree → List ℕ
  sizes_at t w ts = map (λ x. unsigned_abs (dot (expression n x) (pos t ∷ map pos w))) ts

  of_abs : (z : ℤ) → pos 0 ≤ℤ z → z ≡ pos (unsigned_abs z)
  of_abs z h = omega (arith, ints)

  sizes_are : (ts : List Tree) → AllByRecursion (λ (x : Tree). IsTrue (is_below n x)) ts → (t : ℕ) (w : List ℕ) → length w ≡ n
      → map (λ e. dot e (pos t ∷ map pos w)) (map (expression n) ts) ≡ map pos (sizes_at t w ts)
  sizes_are [] below t w long = refl
  sizes_are (x ∷ ts) below t w long =
      let here = of_abs (dot (expression n x) (pos t ∷ map pos w)) (natural x below.0 t w long) in
      let more = sizes_are ts below.1 t w long in
      λ i. here i ∷ more i

  -- a row over the head's arguments, at a point of the clause and at the arguments' sizes there
  pub at_sizes : (ts : List Tree) → AllByRecursion (λ (x : Tree). IsTrue (is_below n x)) ts → (row : List ℤ) (t : ℕ) (w : List ℕ) → length w ≡ n
      → dot (row_over expression n ts row) (pos t ∷ map pos w) ≡ dot row (pos t ∷ map pos (sizes_at t w ts))
  at_sizes ts below row t w long =
      dot_substituted n (map (expression n) ts) row (map pos w) (pos t) ∙ ap (λ (xs : List ℤ). dot row (pos t ∷ xs)) (sizes_are ts below t w long)

-- the row of constant -1 fails at each point
dot_bottom : (a : ℕ) (t : ℕ) (xs : List ℤ) → dot (bottom_row a) (pos t ∷ xs) ≡ negsuc 0 *ℤ pos t
unfolding dot
dot_bottom a t xs = let z = dot-zeros a xs in omega (arith, ints)

pub bottom_fails : (a t : ℕ) (w : List ℕ) → 1 ≤ t → Holds (bottom_row a) t w → ⊥
bottom_fails a t w some h = let e = dot_bottom a t (map pos w) in omega (arith, ints)

pub bottom_fails_over : (n : ℕ) (es : List (List ℤ)) (a t : ℕ) (w : List ℕ) → 1 ≤ t → Holds (substituted n es (bottom_row a)) t w → ⊥
bottom_fails_over n es a t w some h =
    let e = dot_substituted n es (bottom_row a) (map pos w) (pos t) ∙ dot_bottom a t (map (λ e. dot e (pos t ∷ map pos w)) es) in
    omega (arith, ints)
