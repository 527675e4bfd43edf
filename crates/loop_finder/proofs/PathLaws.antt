-- The end of a derivation is a cycle exactly where its goals say so.
use Rattle.std.proofs.Common.{◌≡◌, ◌≢◌, ◌↔◌, Bool, IsTrue, get_or, ℕ, zero, suc, ◌+◌, ◌-◌, ◌<◌, ◌≤◌, List, [], ◌∷◌, ◌++◌, take, drop, length, slice_get, Option, None, Some, IsSomeAnd, option_and_then, refl, ap, sym, ◌∙◌, subst, arith, length-append}
use Rattle.std.specs.List.{AllByRecursion}
use Rattle.cti_terms.specs.declared.atom_list.Atom.{Atom}
use Rattle.cti_terms.specs.declared.derivation.Goal.{Goal}
use Rattle.cti_terms.specs.Listing.{Listing}
use Rattle.cti_terms.specs.Unify.{Binding}
use Rattle.cti_terms.specs.Resolve.{resolve}
use Rattle.cti_terms.specs.Lifts.{IsMoreGeneral, left_after}
use Rattle.loop_finder.specs.Loop.{FirstIs, IsLoop}
use Rattle.loop_finder.specs.Looked.{HasNoLoop}
use Rattle.loop_finder.specs.Paths.{IsPath, IsCycleAt}
use Rattle.loop_finder.proofs.LookLaws.{take_past}

-- ---- lists

take_drop : {X : Type 0} (i : ℕ) (xs : List X) → take i xs ++ drop i xs ≡ xs
take_drop zero xs = refl
take_drop (suc i) [] = refl
take_drop (suc i) (x ∷ xs) = ap (λ r. x ∷ r) (take_drop i xs)

pub take_whole : {X : Type 0} (xs : List X) → take (length xs) xs ≡ xs
take_whole [] = refl
take_whole (x ∷ xs) = ap (λ r. x ∷ r) (take_whole xs)

take_front : {X : Type 0} (xs ys : List X) → take (length xs) (xs ++ ys) ≡ xs
take_front [] ys = refl
take_front (x ∷ xs) ys = ap (λ r. x ∷ r) (take_front xs ys)

drop_front : {X : Type 0} (xs ys : List X) → drop (length xs) (xs ++ ys) ≡ ys
drop_front [] ys = refl
drop_front (x ∷ xs) ys = drop_front xs ys

take_more : {X : Type 0} (i m : ℕ) (xs ys zs : List X) → m ≡ i + length ys → i ≤ length xs → drop i xs ≡ ys ++ zs → take m xs ≡ take i xs ++ ys
take_more zero m xs ys zs c l e =
    let same : m ≡ length ys = omega (arith, c) in
    (λ j. take (same j) (e j)) ∙ take_front ys zs
take_more (suc i) m [] ys zs c l e = absurd (omega (arith, l))
take_more (suc i) zero (x ∷ xs) ys zs c l e = absurd (omega (arith, c))
take_more (suc i) (suc m) (x ∷ xs) ys zs c l e = ap (λ r. x ∷ r) (take_more i m xs ys zs (omega (arith, c)) (omega (arith, l)) e)

pub there_at : {X : Type 0} (xs : List X) (i : ℕ) → i < length xs → (x : X) × (slice_get xs i ≡ Some x)
there_at [] i l = absurd (omega (arith, l))
there_at (x ∷ xs) zero l = (x, refl)
there_at (x ∷ xs) (suc i) l = there_at xs i (omega (arith, l))

all_take : {X : Type 0} (P : X → Type 0) (i : ℕ) (xs : List X) → AllByRecursion P xs → AllByRecursion P (take i xs ++ drop i xs)
all_take P i xs h = subst (AllByRecursion P) (sym (take_drop i xs)) h

take_some : {X : Type 0} (i : ℕ) (xs : List X) → 1 ≤ i → 1 ≤ length xs → take i xs ≢ []
take_some zero xs h l e = omega (arith, h)
take_some (suc i) [] h l e = omega (arith, l)
take_some (suc i) (x ∷ xs) h l e = cc

drop_some : {X : Type 0} (i : ℕ) (xs : List X) → i < length xs → drop i xs ≢ []
drop_some i [] l e = omega (arith, l)
drop_some zero (x ∷ xs) l e = cc
drop_some (suc i) (x ∷ xs) l e = drop_some i xs (omega (arith, l)) e

-- ---- goals along a derivation

left_append : (p : Listing) (g : Goal) (ks ls : List ℕ) → left_after p g (ks ++ ls) ≡ option_and_then (λ h. left_after p h ls) (left_after p g ks)
left_append p g [] ls = refl
left_append p g (k ∷ ks) ls = go (resolve p g k) (λ j. left_append p j ks ls)
  where
    go : (o : Option (List Binding × Goal)) → ((j : Goal) → left_after p j (ks ++ ls) ≡ option_and_then (λ h. left_after p h ls) (left_after p j ks))
        → option_and_then (λ r. left_after p r.1 (ks ++ ls)) o ≡ option_and_then (λ h. left_after p h ls) (option_and_then (λ r. left_after p r.1 ks) o)
    go None rec = refl
    go (Some r) rec = rec r.1

pub after_first : (p : Listing) (g b : Goal) (ks ls : List ℕ) → left_after p g ks ≡ Some b → left_after p b ls ≡ left_after p g (ks ++ ls)
after_first p g b ks ls e = sym (left_append p g ks ls ∙ ap (option_and_then (λ h. left_after p h ls)) e)

some_here : (P : Goal → Type 0) (o : Option Goal) (h : Goal) → o ≡ Some h → P h → IsSomeAnd o P
some_here P o h e k = subst (λ (x : Option Goal). IsSomeAnd x P) (sym e) k

module _ (p : Listing) (g : Goal) (ns : List ℕ) (gs : List Goal) (path : IsPath p g ns gs) where
  whole : (h : Goal) → slice_get gs (length ns) ≡ Some h → left_after p g ns ≡ Some h
  whole h e = ap (left_after p g) (sym (take_whole ns)) ∙ path.each (length ns) h e

  -- where the goals say so, the end of the derivation is a cycle
  pub cycle_is_loop : (i : ℕ) → IsCycleAt gs i → IsLoop p g (take i ns) (drop i ns)
  cycle_is_loop i c =
      let end : c.end ≡ length ns = omega (arith, c.count, path.count) in
      let inner : i < length ns = omega (arith, c.inner, end) in
      let leads = path.each i c.before c.at in
      let last = whole c.last (ap (slice_get gs) (sym end) ∙ c.ends) in
      let round : left_after p c.before (drop i ns) ≡ Some c.last = after_first p g c.before (take i ns) (drop i ns) leads ∙ ap (left_after p g) (take_drop i ns) ∙ last in
      record {
        clauses = all_take (λ (k : ℕ). 1 ≤ k) i ns path.clauses;
        cycle = drop_some i ns inner;
        before = c.before;
        leads = leads;
        keeps = λ ks ls e some. keeps inner leads ks ls e some;
        back = back c.before.atoms c.back round;
      }
    where
      keeps : i < length ns → left_after p g (take i ns) ≡ Some c.before → (ks ls : List ℕ) → drop i ns ≡ ks ++ ls → ks ≢ [] → IsSomeAnd (left_after p c.before ks) (λ (h : Goal). length c.before.atoms ≤ length h.atoms)
      keeps inner leads [] ls e some = absurd (some refl)
      keeps inner leads (k ∷ ks) ls e some =
          let j : ℕ = i + length (k ∷ ks) in
          let parts = ap length (sym (take_drop i ns) ∙ ap (λ l. take i ns ++ l) e) in
          let near = take_more i j ns (k ∷ ks) ls refl (omega (arith, inner)) e in
          let within = shorter i ns ((k ∷ ks) ++ ls) e inner in
          let count = length-append (k ∷ ks) ls in
          let at = there_at gs j (omega (arith, path.count, within, count)) in
          let left = after_first p g c.before (take i ns) (k ∷ ks) leads ∙ ap (left_after p g) (sym near) ∙ path.each j at.0 at.1 in
          some_here (λ (h : Goal). length c.before.atoms ≤ length h.atoms) (left_after p c.before (k ∷ ks)) at.0 left (c.kept j at.0 (omega arith) at.1)
        where
          shorter : (i : ℕ) (xs ys : List ℕ) → drop i xs ≡ ys → i < length xs → i + length ys ≡ length xs
          shorter i [] ys e l = absurd (omega (arith, l))
          shorter zero (x ∷ xs) ys e l = let same : length ys ≡ length (x ∷ xs) = ap length (sym e) in omega (arith, same)
          shorter (suc i) (x ∷ []) ys e l = absurd (omega (arith, l))
          shorter (suc i) (x ∷ y ∷ xs) ys e l = let h = shorter i (y ∷ xs) ys e (omega (arith, l)) in omega (arith, h)

      back : (atoms : List Atom) → FirstIs (λ a. FirstIs (λ b. IsMoreGeneral b a) c.last.atoms) atoms → left_after p c.before (drop i ns) ≡ Some c.last
          → FirstIs (λ a. IsSomeAnd (left_after p c.before (drop i ns)) (λ (h : Goal). FirstIs (λ b. IsMoreGeneral b a) h.atoms)) atoms
      back [] h e = h
      back (a ∷ atoms) h e = some_here (λ (x : Goal). FirstIs (λ b. IsMoreGeneral b a) x.atoms) (left_after p c.before (drop i ns)) c.last e h

  -- and a loop is seen in the goals
  pub loop_is_cycle : (u v : List ℕ) → u ++ v ≡ ns → IsLoop p g u v → IsCycleAt gs (length u)
  loop_is_cycle u v e l =
      let count : length u + length v ≡ length ns = sym (length-append u v) ∙ ap length e in
      let some = not_empty v l.cycle in
      let first = there_at gs (length u) (omega (arith, path.count, count)) in
      let last = there_at gs (length ns) (omega (arith, path.count)) in
      let front : take (length u) ns ≡ u = ap (take (length u)) (sym e) ∙ take_front u v in
      let before : Some first.0 ≡ Some l.before = sym (path.each (length u) first.0 first.1) ∙ ap (left_after p g) front ∙ l.leads in
      let same : first.0 ≡ l.before = cc in
      let at = first.1 ∙ before in
      let end : left_after p l.before v ≡ Some last.0 = after_first p g l.before u v l.leads ∙ ap (left_after p g) e ∙ whole last.0 last.1 in
      record {
        before = l.before;
        end = length ns;
        last = last.0;
        at = at;
        count = path.count;
        ends = last.1;
        inner = omega (arith, count, some);
        kept = λ j h less there. kept j h less there;
        back = back last.0 l.before.atoms l.back end;
      }
    where
      not_empty : (v : List ℕ) → v ≢ [] → 1 ≤ length v
      not_empty [] h = absurd (h refl)
      not_empty (k ∷ ks) h = omega arith

      of_some : (P : Goal → Type 0) (o : Option Goal) (h : Goal) → o ≡ Some h → IsSomeAnd o P → P h
      of_some P o h e k = subst (λ (x : Option Goal). IsSomeAnd x P) e k

      kept : (j : ℕ) (h : Goal) → length u < j → slice_get gs j ≡ Some h → length l.before.atoms ≤ length h.atoms
      kept j h less there =
          let m : ℕ = j - length u in
          let now : left_after p l.before (take m v) ≡ Some h =
          after_first p g l.before u (take m v) l.leads
          ∙ ap (left_after p g) (sym (take_past j u v (omega (arith, less))) ∙ ap (take j) e)
          ∙ path.each j h there in
          let keeps = l.keeps (take m v) (drop m v) (sym (take_drop m v)) (take_some m v (omega (arith, less)) (not_empty v l.cycle)) in
          of_some (λ (x : Goal). length l.before.atoms ≤ length x.atoms) (left_after p l.before (take m v)) h now keeps

      back : (last : Goal) (atoms : List Atom) → FirstIs (λ a. IsSomeAnd (left_after p l.before v) (λ (h : Goal). FirstIs (λ b. IsMoreGeneral b a) h.atoms)) atoms → left_after p l.before v ≡ Some last
          → FirstIs (λ a. FirstIs (λ b. IsMoreGeneral b a) last.atoms) atoms
      back last [] h e' = h
      back last (a ∷ atoms) h e' = of_some (λ (x : Goal). FirstIs (λ b. IsMoreGeneral b a) x.atoms) (left_after p l.before v) last e' h

  -- without a cycle there is no loop
  pub no_cycle_no_loop : ((i : ℕ) → IsCycleAt gs i → ⊥) → HasNoLoop p g ns
  no_cycle_no_loop none u v e l = none (length u) (loop_is_cycle u v e l)

-- ---- the test

pub at_get : {X : Type 0} (xs : List X) (i : ℕ) (x : X) → i < length xs → x ≡ get_or xs i x → slice_get xs i ≡ Some x
at_get [] i x l e = absurd (omega (arith, l))
at_get (y ∷ xs) zero x l e = ap Some (sym e)
at_get (y ∷ xs) (suc i) x l e = at_get xs i x (omega (arith, l)) e

after_drop : {X : Type 0} (xs : List X) (i j : ℕ) (x : X) → i < j → slice_get xs j ≡ Some x → slice_get (drop (i + 1) xs) (j - (i + 1)) ≡ Some x
after_drop [] i j x l e = cc
after_drop (y ∷ xs) i zero x l e = absurd (omega (arith, l))
after_drop (y ∷ xs) zero (suc j) x l e =
    let less : suc j - (0 + 1) ≡ j = omega arith in
    let one : 0 + 1 ≡ suc 0 = omega arith in
    (λ k. slice_get (drop (one k) (y ∷ xs)) (less k)) ∙ e
after_drop (y ∷ xs) (suc i) (suc j) x l e =
    let less : suc j - (suc i + 1) ≡ j - (i + 1) = omega arith in
    let one : suc i + 1 ≡ suc (i + 1) = omega arith in
    (λ k. slice_get (drop (one k) (y ∷ xs)) (less k)) ∙ after_drop xs i j x (omega (arith, l)) e

abbrev nothing : (X : Type 0) → List X
nothing X = []

drop_nothing : (X : Type 0) (n : ℕ) → drop n (nothing X) ≡ nothing X
drop_nothing X zero = refl
drop_nothing X (suc n) = refl

before_drop : {X : Type 0} (xs : List X) (i j : ℕ) (x : X) → slice_get (drop (i + 1) xs) j ≡ Some x → slice_get xs (j + (i + 1)) ≡ Some x
before_drop {X = X} [] i j x e =
    let f : slice_get (nothing X) j ≡ Some x = ap (λ xs. slice_get xs j) (sym (drop_nothing X (i + 1))) ∙ e in
    cc
before_drop (y ∷ xs) zero j x e =
    let more : j + (0 + 1) ≡ suc j = omega arith in
    let one : suc 0 ≡ 0 + 1 = omega arith in
    ap (slice_get (y ∷ xs)) more ∙ ap (λ k. slice_get (drop k (y ∷ xs)) j) one ∙ e
before_drop (y ∷ xs) (suc i) j x e =
    let more : j + (suc i + 1) ≡ suc (j + (i + 1)) = omega arith in
    let one : suc (i + 1) ≡ suc i + 1 = omega arith in
    ap (slice_get (y ∷ xs)) more ∙ before_drop xs i j x (ap (λ k. slice_get (drop k (y ∷ xs)) j) one ∙ e)

pub one_there : {X : Type 0} (xs : List X) (i : ℕ) (x y : X) → slice_get xs i ≡ Some x → slice_get xs i ≡ Some y → x ≡ y
one_there xs i x y p q = let e : Some x ≡ Some y = sym p ∙ q in cc

-- all later goals have as many atoms as the one at the start
abbrev pub AllHave : List Goal → ℕ → Type 0
AllHave gs n = (j : ℕ) (h : Goal) → slice_get gs j ≡ Some h → n ≤ length h.atoms

pub cycle_when : (gs : List Goal) (i : ℕ) (before last : Goal) → i + 1 < length gs → slice_get gs i ≡ Some before → slice_get gs (length gs - 1) ≡ Some last → AllHave (drop (i + 1) gs) (length before.atoms)
    → FirstIs (λ a. FirstIs (λ b. IsMoreGeneral b a) last.atoms) before.atoms → IsCycleAt gs i
cycle_when gs i before last l at ends kept back = record {
  before = before;
  end = length gs - 1;
  last = last;
  at = at;
  count = omega (arith, l);
  ends = ends;
  inner = omega (arith, l);
  kept = λ j h less e. kept (j - (i + 1)) h (after_drop gs i j h less e);
  back = back;
}

when_cycle : (gs : List Goal) (i : ℕ) (before last : Goal) → slice_get gs i ≡ Some before → slice_get gs (length gs - 1) ≡ Some last → IsCycleAt gs i → AllHave (drop (i + 1) gs) (length before.atoms) × FirstIs (λ a. FirstIs (λ b. IsMoreGeneral b a) last.atoms) before.atoms
when_cycle gs i before last at ends c =
    let first = one_there gs i c.before before c.at at in
    let end : c.end ≡ length gs - 1 = omega (arith, c.count) in
    let final = one_there gs (length gs - 1) c.last last (ap (slice_get gs) (sym end) ∙ c.ends) ends in (
      (λ j h e. subst (λ (b : Goal). length b.atoms ≤ length h.atoms) first (c.kept (j + (i + 1)) h (omega arith) (before_drop gs i j h e))),
      subst (λ (x : Goal × Goal). FirstIs (λ a. FirstIs (λ b. IsMoreGeneral b a) x.1.atoms) x.0.atoms) (λ k. (first k, final k)) c.back,
    )

pub cycle_decided : (gs : List Goal) (i : ℕ) (before last : Goal) (r : Bool) → i + 1 < length gs → before ≡ get_or gs i before → last ≡ get_or gs (length gs - 1) last → AllHave (drop (i + 1) gs) (length before.atoms)
    → IsTrue r ↔ FirstIs (λ a. FirstIs (λ b. IsMoreGeneral b a) last.atoms) before.atoms → IsTrue r ↔ IsCycleAt gs i
cycle_decided gs i before last r l at ends kept (f, g) =
    let here = at_get gs i before (omega (arith, l)) at in
    let there = at_get gs (length gs - 1) last (omega (arith, l)) ends in
    ((λ t. cycle_when gs i before last l here there kept (f t)), (λ c. g (when_cycle gs i before last here there c).1))

pub no_cycle : (gs : List Goal) (i : ℕ) (before : Goal) → i + 1 < length gs → before ≡ get_or gs i before → (AllHave (drop (i + 1) gs) (length before.atoms) → ⊥) → IsCycleAt gs i → ⊥
no_cycle gs i before l at short c =
    let here = at_get gs i before (omega (arith, l)) at in
    let last = there_at gs (length gs - 1) (omega (arith, l)) in
    short (when_cycle gs i before last.0 here last.1 c).0

drop_length : {X : Type 0} (i : ℕ) (xs : List X) → length (drop i xs) ≡ length xs - i
drop_length zero xs = omega arith
drop_length (suc i) [] = omega arith
drop_length (suc i) (x ∷ xs) = let h = drop_length i xs in omega (arith, h)

-- a slice to the end
pub rest_all : {X : Type 0} (i : ℕ) (xs : List X) → take (length xs - i) (drop i xs) ≡ drop i xs
rest_all i xs = ap (λ n. take n (drop i xs)) (sym (drop_length i xs)) ∙ take_whole (drop i xs)
