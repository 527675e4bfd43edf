-- Where a refutation stands, no mapping decreases.
use Rattle.std.proofs.Common.{◌≡◌, ℕ, zero, suc, ◌+◌, ◌*◌, ◌<◌, ◌≤◌, ◌==◌, ℤ, pos, negsuc, ◌+ℤ◌, ◌*ℤ◌, ◌≤ℤ◌, Bool, true, false, if◌then◌else◌, List, [], ◌∷◌, map, take, length, replicate, get_or, slice_get, Some, ◌⊎◌, inl, inr, refl, ap, sym, subst, ◌∙◌, arith, eqb-true}
use Rattle.std.specs.List.{AllByRecursion}
use Rattle.std.proofs.lemmas.Int.{ints}
use Rattle.std.proofs.lemmas.Bool.Decides.{nat_tests}
use lib.IntN.{*ℤ_comm}
use Rattle.exact128.proofs.Rings.{rings, mul_nonneg, mul_mono}
use Rattle.exact128.specs.Sums.{dot, entry}
use Rattle.linear_rows.specs.Rows.{AllHold, HoldsOn}
use Rattle.cti_terms.specs.Tree.{Tree}
use Rattle.termination_model.specs.sizes.Rows.{scaled, added, combined, substituted}
use Rattle.termination_model.specs.mappings.Coefficients.{coefficient}
use Rattle.termination_model.specs.claims.Claims.{Mapping, SomeOf}
use Rattle.termination_model.specs.mappings.View.{Member, Call, Rule, system_of, level_over, fall_over}
use Rattle.termination_model.specs.mappings.Refutation.{Pair, Load, gather, Decreases, head_load, call_load, IsPair, NoneDecreases}
use Rattle.termination_model.proofs.SystemPoints.{dot_scaled, dot_added, dot_zeros, dot_combined}
use Rattle.termination_model.proofs.Naturals.{never_below}
use Rattle.termination_model.proofs.Entries.{dot_nil}

-- the second list of a product of lists
pub dot_sum : (cs xs ys : List ℤ) → dot cs (added xs ys) ≡ dot cs xs +ℤ dot cs ys
unfolding dot
dot_sum [] xs ys = omega (arith, ints)
dot_sum (a ∷ cs) [] ys = omega (arith, ints)
dot_sum (a ∷ cs) (x ∷ xs) [] = omega (arith, ints)
dot_sum (a ∷ cs) (x ∷ xs) (y ∷ ys) = rw (dot_sum cs xs ys) (simp rings (omega (arith, ints)))

-- a natural multiple keeps the order, and one by 0 asks for none
scaled_order : (a : ℕ) (x y : ℤ) → (0 < a → x ≤ℤ y) → (pos a *ℤ x) ≤ℤ (pos a *ℤ y)
scaled_order zero x y h = omega (arith, ints)
scaled_order (suc a) x y h = let m = mul_mono x y (suc a) (h (omega arith)) in omega (arith, ints, m, *ℤ_comm x (pos (suc a)), *ℤ_comm y (pos (suc a)))

-- natural coefficients keep the order of values, where only those at positive ones are in order
dot_order : (cs : List ℕ) (xs ys : List ℤ) → ((i : ℕ) → 0 < coefficient cs i → entry xs i ≤ℤ entry ys i) → dot (map pos cs) xs ≤ℤ dot (map pos cs) ys
unfolding dot
dot_order [] xs ys h = omega (arith, ints)
dot_order (a ∷ cs) [] [] h = omega (arith, ints)
dot_order (a ∷ cs) [] (y ∷ ys) h =
    let here = scaled_order a (pos 0) y (h 0) in
    let rest : dot (map pos cs) [] ≤ℤ dot (map pos cs) ys = dot_order cs [] ys (λ i. h (suc i)) in
    omega (arith, ints, dot_nil (map pos cs), here)
dot_order (a ∷ cs) (x ∷ xs) [] h =
    let here = scaled_order a x (pos 0) (h 0) in
    let rest : dot (map pos cs) xs ≤ℤ dot (map pos cs) [] = dot_order cs xs [] (λ i. h (suc i)) in
    omega (arith, ints, dot_nil (map pos cs), here)
dot_order (a ∷ cs) (x ∷ xs) (y ∷ ys) h =
    let here = scaled_order a x y (h 0) in
    let rest = dot_order cs xs ys (λ i. h (suc i)) in
    omega (arith, ints, here, rest)

-- the sum of levels
abbrev pub summed : (ℕ → List ℕ) → List Load → ℤ
summed f [] = pos 0
summed f (h ∷ hs) = dot (map pos (f h.0)) h.1 +ℤ summed f hs

-- the sum over the members below n
abbrev by_member : (ℕ → List ℕ) → List Load → ℕ → ℤ
by_member f hs zero = pos 0
by_member f hs (suc n) = by_member f hs n +ℤ dot (map pos (f n)) (gather n hs)

past : (f : ℕ → List ℕ) (h : Load) (hs : List Load) (n : ℕ) → n ≤ h.0 → by_member f (h ∷ hs) n ≡ by_member f hs n
past f h hs zero l = refl
past f h hs (suc n) l =
    let rest = past f h hs n (omega arith) in
    let apart : (h.0 == n) ≡ false = grind (arith, nat_tests) in
    rw (rest, apart) refl

one_more : (f : ℕ → List ℕ) (h : Load) (hs : List Load) (n : ℕ) → h.0 < n → by_member f (h ∷ hs) n ≡ dot (map pos (f h.0)) h.1 +ℤ by_member f hs n
one_more f h hs zero l = absurd (omega arith)
one_more f h hs (suc n) l = go (h.0 == n) refl (one_more f h hs n)
  where
    go : (b : Bool) → (h.0 == n) ≡ b → (h.0 < n → by_member f (h ∷ hs) n ≡ dot (map pos (f h.0)) h.1 +ℤ by_member f hs n)
        → (by_member f (h ∷ hs) n +ℤ dot (map pos (f n)) (if b then added h.1 (gather n hs) else gather n hs)) ≡ (dot (map pos (f h.0)) h.1 +ℤ (by_member f hs n +ℤ dot (map pos (f n)) (gather n hs)))
    go true e rec =
        let same : h.0 ≡ n = eqb-true h.0 n e in
        let before = past f h hs n (omega arith) in
        let both = dot_sum (map pos (f n)) h.1 (gather n hs) in
        let here : dot (map pos (f h.0)) h.1 ≡ dot (map pos (f n)) h.1 = ap (λ m. dot (map pos (f m)) h.1) same in
        omega (arith, ints, before, both, here)
    go false e rec =
        let apart : h.0 < n = grind (arith, nat_tests) in
        let before = rec apart in
        omega (arith, ints, before)

no_loads : (f : ℕ → List ℕ) (n : ℕ) → by_member f [] n ≡ pos 0
no_loads f zero = refl
no_loads f (suc n) = omega (arith, ints, no_loads f n, dot_nil (map pos (f n)))

all_members : (f : ℕ → List ℕ) (hs : List Load) (n : ℕ) → AllByRecursion (λ (h : Load). h.0 < n) hs → by_member f hs n ≡ summed f hs
all_members f [] n l = no_loads f n
all_members f (h ∷ hs) n l = omega (arith, ints, one_more f h hs n l.0, all_members f hs n l.1)

order : (f : ℕ → List ℕ) (hs gs : List Load) (n : ℕ) → ((q i : ℕ) → 0 < coefficient (f q) i → entry (gather q hs) i ≤ℤ entry (gather q gs) i) → by_member f hs n ≤ℤ by_member f gs n
order f hs gs zero h = omega (arith, ints)
order f hs gs (suc n) h = let rest = order f hs gs n h in let here = dot_order (f n) (gather n hs) (gather n gs) (h n) in omega (arith, ints)

abbrev above : List Load → ℕ
above [] = 0
above (h ∷ hs) = suc (h.0 + above hs)

all_below : (hs : List Load) (n : ℕ) → above hs ≤ n → AllByRecursion (λ (h : Load). h.0 < n) hs
all_below [] n l = tt
all_below (h ∷ hs) n l = (omega arith, all_below hs n (omega arith))

pub lighter : (f : ℕ → List ℕ) (hs gs : List Load) → ((q i : ℕ) → 0 < coefficient (f q) i → entry (gather q hs) i ≤ℤ entry (gather q gs) i) → summed f hs ≤ℤ summed f gs
lighter f hs gs h =
    let n = above hs + above gs in
    let o = order f hs gs n h in
    let l = all_members f hs n (all_below hs n (omega arith)) in
    let r = all_members f gs n (all_below gs n (omega arith)) in
    subst (λ (z : ℤ). z ≤ℤ summed f gs) l (subst (λ (z : ℤ). by_member f hs n ≤ℤ z) r o)

-- k times vs, and us
abbrev along : List ℕ → ℕ → List ℕ → List ℕ
along [] k vs = []
along (u ∷ us) k [] = u ∷ us
along (u ∷ us) k (v ∷ vs) = (u + k * v) ∷ along us k vs

length-along : (us : List ℕ) (k : ℕ) (vs : List ℕ) → length (along us k vs) ≡ length us
length-along [] k vs = refl
length-along (u ∷ us) k [] = refl
length-along (u ∷ us) k (v ∷ vs) = ap suc (length-along us k vs)

step_along : (x : ℤ) (u k v : ℕ) → x *ℤ pos (u + k * v) ≡ x *ℤ pos u +ℤ pos k *ℤ (x *ℤ pos v)
step_along x u k v =
    let e : pos (u + k * v) ≡ pos u +ℤ pos k *ℤ pos v = omega (arith, ints) in
    rw e (simp rings (omega (arith, ints)))

dot_along : (xs : List ℤ) (us : List ℕ) (k : ℕ) (vs : List ℕ) → length us ≡ length vs → dot xs (map pos (along us k vs)) ≡ dot xs (map pos us) +ℤ pos k *ℤ dot xs (map pos vs)
unfolding dot
dot_along [] us k vs l = omega (arith, ints)
dot_along (x ∷ xs) [] k [] l = omega (arith, ints)
dot_along (x ∷ xs) [] k (v ∷ vs) l = cc
dot_along (x ∷ xs) (u ∷ us) k [] l = cc
dot_along (x ∷ xs) (u ∷ us) k (v ∷ vs) l =
    let rest = dot_along xs us k vs (omega arith) in
    let here = step_along x u k v in
    rw (rest, here) (simp rings (omega (arith, ints)))

rows_along : (rows : List (List ℤ)) (t : ℕ) (w u : List ℕ) (k : ℕ) → length w ≡ length u → AllHold rows t w → AllHold rows 0 u → AllHold rows (t + k * 0) (along w k u)
rows_along rows t w u k len h g i d l =
    let row = get_or rows i d in
    let e = dot_along row (t ∷ w) k (0 ∷ u) (ap suc len) in
    let m = mul_nonneg (pos k) (dot row (pos 0 ∷ map pos u)) (omega (arith, ints)) (g i d l) in
    let o = h i d l in
    subst (λ (z : ℤ). pos 0 ≤ℤ z) (sym e) (omega (arith, ints))

-- a row that holds where the rows do holds at points at infinity too
pub at_infinity : (n : ℕ) (rows : List (List ℤ)) (row : List ℤ) → HoldsOn n rows row → (t : ℕ) (w u : List ℕ) → 1 ≤ t → length w + 1 ≡ n → length u ≡ length w → AllHold rows t w → AllHold rows 0 u
    → pos 0 ≤ℤ dot row (pos 0 ∷ map pos u)
at_infinity n rows row on t w u ht lw lu hw hu =
    never_below (dot row (pos t ∷ map pos w)) (dot row (pos 0 ∷ map pos u))
    (λ k. subst (λ (z : ℤ). pos 0 ≤ℤ z) (dot_along row (t ∷ w) k (0 ∷ u) (ap suc (sym lu)))
    (on (t + k * 0) (along w k u) (omega arith) (omega (arith, length-along w k u)) (rows_along rows t w u k (sym lu) hw hu)))

pub dot_over : (n : ℕ) (es : List (List ℤ)) (b : ℤ) (row : List ℤ) (x : ℤ) (vs : List ℤ) → dot (substituted n es (b ∷ row)) (x ∷ vs) ≡ dot (b ∷ row) (x ∷ map (λ e. dot e (x ∷ vs)) es)
unfolding dot
dot_over n es b row x vs =
    let zeros = dot_zeros n vs in
    let rest = dot_combined row es (x ∷ vs) in
    rw (dot_added (b ∷ replicate n (pos 0)) (combined row es) (x ∷ vs)) (omega (arith, ints, zeros, rest))

dot_unit : (t : ℕ) (ps : List ℤ) → dot (pos 1 ∷ []) (pos t ∷ ps) ≡ pos t
unfolding dot
dot_unit t ps = omega (arith, ints)

plain_fall : (x h y z b e : ℤ) (t : ℕ) → pos 0 ≤ℤ x → x ≡ h +ℤ y → y ≡ negsuc 0 *ℤ z → z ≡ b +ℤ e → e ≡ pos t → (b +ℤ pos t) ≤ℤ h
plain_fall x h y z b e t l p q r s = omega (arith, ints)

sum_step : (h b hs bs : ℤ) (t s : ℕ) → (b +ℤ pos t) ≤ℤ h → (bs +ℤ pos s) ≤ℤ hs → ((b +ℤ bs) +ℤ pos (t + s)) ≤ℤ (h +ℤ hs)
sum_step h b hs bs t s l r = omega (arith, ints)

abbrev times : List Pair → ℕ
times [] = 0
times (p ∷ ps) = p.t + times ps

some_time : (ps : List Pair) → SomeOf (λ (p : Pair). 1 ≤ p.t) ps → 1 ≤ times ps
some_time [] h = absurd h
some_time (p ∷ ps) (inl h) = omega arith
some_time (p ∷ ps) (inr h) = omega (arith, some_time ps h)

abbrev pub weights : Mapping → ℕ → List ℕ
weights l q = l.offset q ∷ l.coefficients q

pub from_in : {X : Type 0} (P : X → Type 0) (xs : List X) (x : X) → AllByRecursion P xs → SomeOf (λ y. y ≡ x) xs → P x
from_in P [] x all i = absurd i
from_in P (y ∷ xs) x all (inl e) = subst P e all.0
from_in P (y ∷ xs) x all (inr i) = from_in P xs x all.1 i

module _ (expression : ℕ → Tree → List ℤ) (view : List Rule) (l : Mapping) (decreases : Decreases expression view l) where
  abbrev Weighed : ℕ → List ℤ → ℤ
  Weighed q xs = dot (map pos (weights l q)) xs

  row_here : (p : Pair) → IsPair expression view p → HoldsOn (suc p.rule.vars) (system_of expression p.rule.vars (take p.place p.rule.body)) (fall_over expression p.rule p.member p.call.args 1 l)
  row_here p is = from_in (λ (k : Rule). (j : ℕ) (b : Call) (q : ℕ) → slice_get k.body j ≡ Some b → b.place ≡ Member q
      → HoldsOn (suc k.vars) (system_of expression k.vars (take j k.body)) (fall_over expression k q b.args 1 l)) view p.rule decreases is.there p.place p.call p.member is.call is.member

  at_point : (p : Pair) → IsPair expression view p → (t : ℕ) → t ≡ p.t → pos 0 ≤ℤ dot (fall_over expression p.rule p.member p.call.args 1 l) (pos t ∷ map pos p.w)
  at_point p is t e = go t (subst (λ (x : ℕ). AllHold (system_of expression p.rule.vars (take p.place p.rule.body)) x p.w) (sym e) is.holds)
      (subst (λ (x : ℕ). (1 ≤ x) ⊎ ((w : List ℕ) × (t : ℕ) × (1 ≤ t) × (length w ≡ p.rule.vars) × AllHold (system_of expression p.rule.vars (take p.place p.rule.body)) t w)) (sym e) is.point)
    where
      wide : length p.w + 1 ≡ suc p.rule.vars
      wide = let h = is.width in omega arith

      go : (x : ℕ) → AllHold (system_of expression p.rule.vars (take p.place p.rule.body)) x p.w
          → (1 ≤ x) ⊎ ((w : List ℕ) × (t : ℕ) × (1 ≤ t) × (length w ≡ p.rule.vars) × AllHold (system_of expression p.rule.vars (take p.place p.rule.body)) t w)
          → pos 0 ≤ℤ dot (fall_over expression p.rule p.member p.call.args 1 l) (pos x ∷ map pos p.w)
      go (suc x) h point = row_here p is (suc x) p.w (omega arith) wide h
      go zero h (inl le) = absurd (omega arith)
      go zero h (inr (w, s, ht, lw, hw)) = at_infinity (suc p.rule.vars) (system_of expression p.rule.vars (take p.place p.rule.body)) (fall_over expression p.rule p.member p.call.args 1 l) (row_here p is)
          s w p.w ht (omega arith) (is.width ∙ sym lw) hw h

  falls : (p : Pair) → IsPair expression view p → (Weighed p.member (call_load expression p).1 +ℤ pos p.t) ≤ℤ Weighed p.rule.member (head_load expression p).1
  falls p is =
      let ps = pos p.t ∷ map pos p.w in
      let n = p.rule.vars in
      let head = level_over expression n p.rule.member p.rule.args l in
      let call = level_over expression n p.member p.call.args l in
      let hv = dot_over n (map (expression n) p.rule.args) (pos (l.offset p.rule.member)) (map pos (l.coefficients p.rule.member)) (pos p.t) (map pos p.w) in
      let cv = dot_over n (map (expression n) p.call.args) (pos (l.offset p.member)) (map pos (l.coefficients p.member)) (pos p.t) (map pos p.w) in
      let f : (dot call ps +ℤ pos p.t) ≤ℤ dot head ps = plain_fall _ _ _ _ _ _ p.t (at_point p is p.t refl)
      (dot_added head (scaled (negsuc 0) (added call (pos 1 ∷ []))) ps) (dot_scaled (negsuc 0) (added call (pos 1 ∷ [])) ps) (dot_added call (pos 1 ∷ []) ps) (dot_unit p.t (map pos p.w)) in
      subst (λ (z : ℤ). (Weighed p.member (call_load expression p).1 +ℤ pos p.t) ≤ℤ z) hv (subst (λ (z : ℤ). (z +ℤ pos p.t) ≤ℤ dot head ps) cv f)

  all_fall : (ps : List Pair) → AllByRecursion (IsPair expression view) ps
      → (summed (weights l) (map (call_load expression) ps) +ℤ pos (times ps)) ≤ℤ summed (weights l) (map (head_load expression) ps)
  all_fall [] h = omega (arith, ints)
  all_fall (p ∷ ps) h =
      sum_step _ _ _ _ p.t (times ps) (falls p h.0) (all_fall ps h.1)

-- only the coefficients and offsets that are positive have to be in order
pub none_at : (expression : ℕ → Tree → List ℤ) (view : List Rule) (ps : List Pair) (l : Mapping)
    → AllByRecursion (IsPair expression view) ps → SomeOf (λ (p : Pair). 1 ≤ p.t) ps
    → ((q i : ℕ) → 0 < coefficient (weights l q) i → entry (gather q (map (head_load expression) ps)) i ≤ℤ entry (gather q (map (call_load expression) ps)) i)
    → Decreases expression view l → ⊥
none_at expression view ps l pairs positive columns d =
    let f = all_fall expression view l d ps pairs in
    let o = lighter (weights l) (map (head_load expression) ps) (map (call_load expression) ps) columns in
    let one = some_time ps positive in
    omega (arith, ints)

pub none_decreases : NoneDecreases
none_decreases expression view ps l r d = none_at expression view ps l r.pairs r.positive (λ q i k. r.columns q i) d
