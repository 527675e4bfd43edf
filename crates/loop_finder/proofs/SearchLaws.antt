-- Laws of the walk that looks for a loop.
use Rattle.std.proofs.Common.{◌≡◌, ℕ, zero, suc, ◌+◌, ◌-◌, ◌<◌, ◌≤◌, List, [], ◌∷◌, ◌++◌, map, flat_map, take, drop, length, slice_get, Option, None, Some, option_map, option_and_then, ◌⊎◌, inl, inr, refl, ap, sym, ◌∙◌, subst, arith, length-append, append_assoc}
use Rattle.std.proofs.lemmas.Bool.{cases_lt}
use Rattle.std.proofs.lemmas.List.{map-append}
use Rattle.std.proofs.lemmas.Option.{slice_get_within}
use Rattle.std.specs.List.{range_with_len}
use Rattle.cti_terms.specs.declared.derivation.Goal.{Goal}
use Rattle.cti_terms.specs.Listing.{Listing, IsProgram}
use Rattle.cti_terms.specs.Nodes.{under}
use Rattle.loop_finder.specs.ClauseNodes.{clause_nodes}
use Rattle.cti_terms.specs.Unify.{Binding}
use Rattle.cti_terms.specs.Resolve.{resolve}
use Rattle.cti_terms.specs.Below.{AtomsBelow}
use Rattle.cti_terms.specs.Lifts.{IsGoalOf, left_after}
use Rattle.loop_finder.specs.Loop.{IsLoop}
use Rattle.loop_finder.specs.Looked.{IsFirstLoop, IsWithoutLoop, IsStopped}
use Rattle.loop_finder.specs.Looking.{going_on}
use Rattle.loop_finder.specs.Paths.{IsPath, IsCycleAt}
use Rattle.cti_terms.proofs.BelowLaws.{goal_below}
use Rattle.cti_terms.proofs.Lifting.{derivation_below, leads_of}
use Rattle.loop_finder.proofs.LookLaws.{all_both, take_within, first_in, stopped_in, first_after, stopped_after, without_after}
use Rattle.loop_finder.proofs.PathLaws.{after_first, cycle_is_loop, loop_is_cycle, no_cycle_no_loop, take_whole, there_at}

-- ---- a path with one more step

last_place : {X Y : Type 0} (xs : List X) (ys : List Y) → length xs ≡ suc (length ys) → length xs - 1 ≡ length ys
last_place xs ys e = omega (arith, e)

-- the last goal of a path
pub path_last : (p : Listing) (g : Goal) (ns : List ℕ) (gs : List Goal) (h x : Goal) → IsPath p g ns gs → left_after p g ns ≡ Some h → slice_get gs (length gs - 1) ≡ Some x → x ≡ h
path_last p g ns gs h x path e at =
    let place = last_place gs ns path.count in
    let f : Some x ≡ Some h = sym (ap (left_after p g) (sym (take_whole ns)) ∙ path.each (length ns) x (ap (slice_get gs) (sym place) ∙ at)) ∙ e in
    cc

pub last_below : (p : Listing) (g : Goal) (ns : List ℕ) (gs : List Goal) (x : Goal) → IsProgram p → IsGoalOf p g → IsPath p g ns gs → slice_get gs (length gs - 1) ≡ Some x → AtomsBelow x.fresh x.atoms
last_below p g ns gs x ok goal path at =
    let place = last_place gs ns path.count in
    let left = ap (left_after p g) (sym (take_whole ns)) ∙ path.each (length ns) x (ap (slice_get gs) (sym place) ∙ at) in
    derivation_below p ok g ns x path.clauses (goal_below p g.fresh g.atoms goal) (leads_of p g ns x left)

pub left_push : (p : Listing) (g h j : Goal) (ns : List ℕ) (k : ℕ) (bs : List Binding) → left_after p g ns ≡ Some h → resolve p h k ≡ Some (bs, j) → left_after p g (ns ++ k ∷ []) ≡ Some j
left_push p g h j ns k bs e r = sym (after_first p g h ns (k ∷ []) e) ∙ ap (option_and_then (λ r. left_after p r.1 [])) r

push_get : {X : Type 0} (xs : List X) (y x : X) (i : ℕ) → slice_get (xs ++ y ∷ []) i ≡ Some x → (slice_get xs i ≡ Some x) ⊎ ((i ≡ length xs) × (y ≡ x))
push_get [] y x zero e = inr (refl, cc)
push_get [] y x (suc i) e = cc
push_get (z ∷ xs) y x zero e = inl e
push_get (z ∷ xs) y x (suc i) e = elim (push_get xs y x i e) [ inl f ↦ inl f | inr f ↦ inr (ap suc f.0, f.1) ]

pub path_push : (p : Listing) (g h j : Goal) (ns : List ℕ) (gs : List Goal) (k : ℕ) (bs : List Binding) → IsPath p g ns gs → left_after p g ns ≡ Some h → resolve p h k ≡ Some (bs, j) → 1 ≤ k → IsPath p g (ns ++ k ∷ []) (gs ++ j ∷ [])
path_push p g h j ns gs k bs path e r one = record {
  clauses = all_both (λ (i : ℕ). 1 ≤ i) ns (k ∷ []) path.clauses (one, tt);
  count = let a = length-append gs (j ∷ []) in let b = length-append ns (k ∷ []) in let c = path.count in omega (arith, a, b, c);
  each = λ i x f. at i x (push_get gs j x i f);
}
  where
    at : (i : ℕ) (x : Goal) → (slice_get gs i ≡ Some x) ⊎ ((i ≡ length gs) × (j ≡ x)) → left_after p g (take i (ns ++ k ∷ [])) ≡ Some x
    at i x (inl f) =
        let within = slice_get_within gs i x f in
        let near = take_within i ns (k ∷ []) (omega (arith, within, path.count)) in
        ap (left_after p g) near ∙ path.each i x f
    at i x (inr f) =
        let a = length-append ns (k ∷ []) in
        let all : i ≡ length (ns ++ k ∷ []) = omega (arith, f.0, path.count, a) in
        ap (λ m. left_after p g (take m (ns ++ k ∷ []))) all
        ∙ ap (left_after p g) (take_whole (ns ++ k ∷ []))
        ∙ left_push p g h j ns k bs e r
        ∙ ap Some f.1

-- ---- derivations under a path

pub going_on_more : (ks : List ℕ) (k : ℕ) (js : List (List ℕ)) → going_on ks (map (λ is. k ∷ is) js) ≡ going_on (ks ++ k ∷ []) js
going_on_more ks k [] = refl
going_on_more ks k (j ∷ js) =
    let first : ks ++ (k ∷ j) ≡ (ks ++ k ∷ []) ++ j = sym (append_assoc ks (k ∷ []) j) in
    let others = going_on_more ks k js in
    λ i. first i ∷ others i

-- those that a clause gives: its step and what comes under it
pub given_some : (p : Listing) (ns : List ℕ) (h j : Goal) (k d : ℕ) (bs : List Binding) → resolve p h k ≡ Some (bs, j) → going_on ns (under k (clause_nodes p d) (resolve p h k)) ≡ (ns ++ k ∷ []) ∷ going_on (ns ++ k ∷ []) (clause_nodes p d j)
given_some p ns h j k d bs e = ap (λ o. going_on ns (under k (clause_nodes p d) o)) e ∙ ap (λ l. (ns ++ k ∷ []) ∷ l) (going_on_more ns k (clause_nodes p d j))

-- the step of the code
pub step_some : (o : Option (List Binding × Goal)) (j : Goal) → Some j ≡ option_map (λ r. r.1) o → (bs : List Binding) × (o ≡ Some (bs, j))
step_some None j e = let f : Some j ≡ None = e in cc
step_some (Some r) j e =
    let f : j ≡ r.1 = of_some j r.1 e in
    (r.0, λ i. Some (r.0, sym f i))
  where
    of_some : (x y : Goal) → Some x ≡ Some y → x ≡ y
    of_some x y g = cc

-- ---- what is found at a node

-- a node whose goals have no cycle
node_without : (p : Listing) (g : Goal) (ns : List ℕ) (gs : List Goal) (n : ℕ) → IsPath p g ns gs → ((i : ℕ) → IsCycleAt gs i → ⊥) → 1 ≤ n → IsWithoutLoop p g n (ns ∷ []) 1
node_without p g ns gs n path none l = record { count = refl; within = l; none = (no_cycle_no_loop p g ns gs path none, tt) }

pub found_here : (p : Listing) (g : Goal) (ns : List ℕ) (gs : List Goal) (n i : ℕ) (ys : List (List ℕ)) → IsPath p g ns gs → IsCycleAt gs i → ((j : ℕ) → i < j → IsCycleAt gs j → ⊥) → 1 ≤ n → IsFirstLoop p g n (ns ∷ ys) (take i ns) (drop i ns)
found_here p g ns gs n i ys path c last l =
    let parts = take_drop_whole i ns in
    record {
      before = [];
      after = ys;
      place = ap (λ m. m ∷ ys) (sym parts);
      within = omega (arith, l);
      none_before = tt;
      loop = cycle_is_loop p g ns gs path i c;
      shortest = λ w x e loop. shorter w x (e ∙ parts) loop;
    }
  where
    take_drop_whole : (i : ℕ) (xs : List ℕ) → take i xs ++ drop i xs ≡ xs
    take_drop_whole zero xs = refl
    take_drop_whole (suc i) [] = refl
    take_drop_whole (suc i) (x ∷ xs) = ap (λ r. x ∷ r) (take_drop_whole i xs)

    drop_length : (i : ℕ) (xs : List ℕ) → length (drop i xs) ≡ length xs - i
    drop_length zero xs = omega arith
    drop_length (suc i) [] = omega arith
    drop_length (suc i) (x ∷ xs) = let h = drop_length i xs in omega (arith, h)

    shorter : (w x : List ℕ) → w ++ x ≡ ns → IsLoop p g w x → length (drop i ns) ≤ length x
    shorter w x e loop =
        let a : length w + length x ≡ length ns = sym (length-append w x) ∙ ap length e in
        let d = drop_length i ns in
        go (cases_lt i (length w)) a d
      where
        go : (i < length w) ⊎ (length w ≤ i) → length w + length x ≡ length ns → length (drop i ns) ≡ length ns - i → length (drop i ns) ≤ length x
        go (inl l) a d = absurd (last (length w) l (loop_is_cycle p g ns gs path w x e loop))
        go (inr l) a d = omega (arith, a, d, l)

-- what is found under a node without a cycle
pub first_under : (p : Listing) (g : Goal) (ns : List ℕ) (gs : List Goal) (n m : ℕ) (ys : List (List ℕ)) (u v : List ℕ) → IsPath p g ns gs → ((i : ℕ) → IsCycleAt gs i → ⊥) → n ≡ suc m → IsFirstLoop p g m ys u v → IsFirstLoop p g n (ns ∷ ys) u v
first_under p g ns gs n m ys u v path none e f =
    let less : m ≡ n - 1 = omega (arith, e) in
    first_after p g n (ns ∷ []) ys 1 (node_without p g ns gs n path none (omega (arith, e))) u v (subst (λ (k : ℕ). IsFirstLoop p g k ys u v) less f)

pub stopped_under : (p : Listing) (g : Goal) (ns : List ℕ) (gs : List Goal) (n m : ℕ) (ys : List (List ℕ)) → IsPath p g ns gs → ((i : ℕ) → IsCycleAt gs i → ⊥) → n ≡ suc m → IsStopped p g m ys → IsStopped p g n (ns ∷ ys)
stopped_under p g ns gs n m ys path none e f =
    let less : m ≡ n - 1 = omega (arith, e) in
    stopped_after p g n (ns ∷ []) ys 1 (node_without p g ns gs n path none (omega (arith, e))) (subst (λ (k : ℕ). IsStopped p g k ys) less f)

pub nothing_under : (p : Listing) (g : Goal) (ns : List ℕ) (gs : List Goal) (n m k : ℕ) (ys : List (List ℕ)) → IsPath p g ns gs → ((i : ℕ) → IsCycleAt gs i → ⊥) → n ≡ suc m → IsWithoutLoop p g m ys k → IsWithoutLoop p g n (ns ∷ ys) (1 + k)
nothing_under p g ns gs n m k ys path none e f =
    let less : m ≡ n - 1 = omega (arith, e) in
    without_after p g n (ns ∷ []) ys 1 (node_without p g ns gs n path none (omega (arith, e))) k (subst (λ (j : ℕ). IsWithoutLoop p g j ys k) less f)

-- ---- clause after clause

flat_map-append : (f : ℕ → List (List ℕ)) (xs ys : List ℕ) → flat_map f (xs ++ ys) ≡ flat_map f xs ++ flat_map f ys
flat_map-append f [] ys = refl
flat_map-append f (x ∷ xs) ys = ap (λ l. f x ++ l) (flat_map-append f xs ys) ∙ sym (append_assoc (f x) (flat_map f xs) (flat_map f ys))

range_split : (a i n : ℕ) → i < n → range_with_len a n ≡ range_with_len a i ++ (i + a) ∷ range_with_len (i + a + 1) (n - (i + 1))
range_split a i zero l = absurd (omega (arith, l))
range_split a zero (suc n) l =
    let first : a ≡ 0 + a = omega arith in
    let next : a + 1 ≡ 0 + a + 1 = omega arith in
    let left : n ≡ suc n - (0 + 1) = omega arith in
    λ j. first j ∷ range_with_len (next j) (left j)
range_split a (suc i) (suc n) l =
    let first : i + (a + 1) ≡ suc i + a = omega arith in
    let next : i + (a + 1) + 1 ≡ suc i + a + 1 = omega arith in
    let left : n - (i + 1) ≡ suc n - (suc i + 1) = omega arith in
    ap (λ l. a ∷ l) (range_split (a + 1) i n (omega (arith, l)))
    ∙ (λ j. a ∷ (range_with_len (a + 1) i ++ first j ∷ range_with_len (next j) (left j)))

range_more : (a i : ℕ) → range_with_len a (i + 1) ≡ range_with_len a i ++ (i + a) ∷ []
range_more a i =
    let none : (i + 1) - (i + 1) ≡ 0 = omega arith in
    range_split a i (i + 1) (omega arith) ∙ ap (λ n. range_with_len a i ++ (i + a) ∷ range_with_len (i + a + 1) n) none

-- what the first i clauses give
abbrev pub given_by : Listing → List ℕ → ℕ → Goal → ℕ → List (List ℕ)
given_by p ns d h i = going_on ns (flat_map (λ k. under k (clause_nodes p d) (resolve p h k)) (range_with_len 1 i))

-- and what clause k gives
abbrev pub given_at : Listing → List ℕ → ℕ → Goal → ℕ → List (List ℕ)
given_at p ns d h k = going_on ns (under k (clause_nodes p d) (resolve p h k))

append_none : {X : Type 0} (xs : List X) → xs ++ [] ≡ xs
append_none [] = refl
append_none (x ∷ xs) = ap (λ r. x ∷ r) (append_none xs)

pub given_more : (p : Listing) (ns : List ℕ) (d : ℕ) (h : Goal) (i : ℕ) → given_by p ns d h (i + 1) ≡ given_by p ns d h i ++ given_at p ns d h (i + 1)
given_more p ns d h i =
    let f : ℕ → List (List ℕ) = λ k. under k (clause_nodes p d) (resolve p h k) in
    ap (λ l. going_on ns (flat_map f l)) (range_more 1 i)
    ∙ ap (going_on ns) (flat_map-append f (range_with_len 1 i) ((i + 1) ∷ []))
    ∙ map-append (λ js. ns ++ js) (flat_map f (range_with_len 1 i)) (f (i + 1) ++ [])
    ∙ ap (λ l. given_by p ns d h i ++ going_on ns l) (append_none (f (i + 1)))

pub given_all : (p : Listing) (ns : List ℕ) (d steps : ℕ) (h : Goal) (i : ℕ) → suc d ≡ steps → i < length p.clauses → (later : List (List ℕ)) × (going_on ns (clause_nodes p steps h) ≡ given_by p ns d h i ++ (given_at p ns d h (i + 1) ++ later))
given_all p ns d steps h i all l =
    let f : ℕ → List (List ℕ) = λ k. under k (clause_nodes p d) (resolve p h k) in
    let rest = range_with_len (i + 1 + 1) (length p.clauses - (i + 1)) in (
      going_on ns (flat_map f rest),
      ap (λ n. going_on ns (clause_nodes p n h)) (sym all)
          ∙ ap (λ l. going_on ns (flat_map f l)) (range_split 1 i (length p.clauses) l)
          ∙ ap (going_on ns) (flat_map-append f (range_with_len 1 i) ((i + 1) ∷ rest))
          ∙ map-append (λ js. ns ++ js) (flat_map f (range_with_len 1 i)) (f (i + 1) ++ flat_map f rest)
          ∙ ap (λ l. given_by p ns d h i ++ l) (map-append (λ js. ns ++ js) (f (i + 1)) (flat_map f rest)),
    )

-- found at clause i + 1, after clauses without a loop
module _ (p : Listing) (g : Goal) (ns : List ℕ) (d steps : ℕ) (h : Goal) (i n m k : ℕ) (all : suc d ≡ steps) (within : i < length p.clauses) (without : IsWithoutLoop p g n (given_by p ns d h i) m) (e : k ≡ n - m) where
  pub first_at : (u v : List ℕ) → IsFirstLoop p g k (given_at p ns d h (i + 1)) u v → IsFirstLoop p g n (going_on ns (clause_nodes p steps h)) u v
  first_at u v f =
      let a = given_all p ns d steps h i all within in
      let here = first_in p g (n - m) (given_at p ns d h (i + 1)) a.0 u v (subst (λ (j : ℕ). IsFirstLoop p g j (given_at p ns d h (i + 1)) u v) e f) in
      subst (λ (xs : List (List ℕ)). IsFirstLoop p g n xs u v) (sym a.1) (first_after p g n (given_by p ns d h i) (given_at p ns d h (i + 1) ++ a.0) m without u v here)

  pub stopped_at : IsStopped p g k (given_at p ns d h (i + 1)) → IsStopped p g n (going_on ns (clause_nodes p steps h))
  stopped_at f =
      let a = given_all p ns d steps h i all within in
      let here = stopped_in p g (n - m) (given_at p ns d h (i + 1)) a.0 (subst (λ (j : ℕ). IsStopped p g j (given_at p ns d h (i + 1))) e f) in
      subst (IsStopped p g n) (sym a.1) (stopped_after p g n (given_by p ns d h i) (given_at p ns d h (i + 1) ++ a.0) m without here)

pub nothing_at : (p : Listing) (g : Goal) (ns : List ℕ) (d : ℕ) (h : Goal) (i n m k j : ℕ) → IsWithoutLoop p g n (given_by p ns d h i) m → k ≡ n - m → IsWithoutLoop p g k (given_at p ns d h (i + 1)) j → IsWithoutLoop p g n (given_by p ns d h (i + 1)) (m + j)
nothing_at p g ns d h i n m k j w e f =
    let here = without_after p g n (given_by p ns d h i) (given_at p ns d h (i + 1)) m w j (subst (λ (l : ℕ). IsWithoutLoop p g l (given_at p ns d h (i + 1)) j) e f) in
    subst (λ (xs : List (List ℕ)). IsWithoutLoop p g n xs (m + j)) (sym (given_more p ns d h i)) here

-- ---- what is found at a clause, with the path as it is pushed

-- the goal that a path leaves
pub path_left : (p : Listing) (g : Goal) (ns : List ℕ) (gs : List Goal) (x : Goal) → IsPath p g ns gs → slice_get gs (length gs - 1) ≡ Some x → left_after p g ns ≡ Some x
path_left p g ns gs x path at =
    let place = last_place gs ns path.count in
    ap (left_after p g) (sym (take_whole ns)) ∙ path.each (length ns) x (ap (slice_get gs) (sym place) ∙ at)

-- a step from the last goal x of a path to a goal j, which is put on the path
pub record IsPushed (p : Listing) (ns : List ℕ) (gs : List Goal) (x j : Goal) (k : ℕ) (ms : List ℕ) (hs : List Goal) : Type 0 where
  pub last : slice_get gs (length gs - 1) ≡ Some x
  pub step : Some j ≡ option_map (λ r. r.1) (resolve p x k)
  pub first : 1 ≤ k
  pub numbers : ms ≡ ns ++ k ∷ []
  pub goals : hs ≡ gs ++ j ∷ []

module _ {p : Listing} {ns : List ℕ} {gs : List Goal} {x j : Goal} {k : ℕ} {ms : List ℕ} {hs : List Goal} (pushed : IsPushed p ns gs x j k ms hs) {g h : Goal} (path : IsPath p g ns gs) (left : left_after p g ns ≡ Some h) where
  of_step : (bs : List Binding) × (resolve p h k ≡ Some (bs, j))
  of_step =
      let same = path_last p g ns gs h x path left pushed.last in
      step_some (resolve p h k) j (pushed.step ∙ ap (λ (y : Goal). option_map (λ r. r.1) (resolve p y k)) same)

  pub pushed_path : IsPath p g ms hs
  pushed_path = rw (pushed.numbers, pushed.goals) (path_push p g h j ns gs k of_step.0 path left of_step.1 pushed.first)

  pub pushed_left : left_after p g ms ≡ Some j
  pushed_left = rw pushed.numbers (left_push p g h j ns k of_step.0 left of_step.1)

  -- where a derivations were looked at
  module _ (d a : ℕ) (less : a < 100000) where
    given : given_at p ns d h k ≡ ms ∷ going_on ms (clause_nodes p d j)
    given = rw pushed.numbers (given_some p ns h j k d of_step.0 of_step.1)

    pub at_cycle : (s : ℕ) → IsCycleAt hs s → ((i : ℕ) → s < i → IsCycleAt hs i → ⊥) → IsFirstLoop p g (100000 - a) (given_at p ns d h k) (take s ms) (drop s ms)
    at_cycle s c last = subst (λ (xs : List (List ℕ)). IsFirstLoop p g (100000 - a) xs (take s ms) (drop s ms)) (sym given) (found_here p g ms hs (100000 - a) s (going_on ms (clause_nodes p d j)) pushed_path c last (omega (arith, less)))

    module _ (none : (i : ℕ) → IsCycleAt hs i → ⊥) where
      pub at_found : (u v : List ℕ) → IsFirstLoop p g (100000 - (a + 1)) (going_on ms (clause_nodes p d j)) u v → IsFirstLoop p g (100000 - a) (given_at p ns d h k) u v
      at_found u v f = subst (λ (xs : List (List ℕ)). IsFirstLoop p g (100000 - a) xs u v) (sym given) (first_under p g ms hs (100000 - a) (100000 - (a + 1)) (going_on ms (clause_nodes p d j)) u v pushed_path none (omega (arith, less)) f)

      pub at_stopped : IsStopped p g (100000 - (a + 1)) (going_on ms (clause_nodes p d j)) → IsStopped p g (100000 - a) (given_at p ns d h k)
      at_stopped f = subst (IsStopped p g (100000 - a)) (sym given) (stopped_under p g ms hs (100000 - a) (100000 - (a + 1)) (going_on ms (clause_nodes p d j)) pushed_path none (omega (arith, less)) f)

      pub at_nothing : (b : ℕ) → a + 1 ≤ b → IsWithoutLoop p g (100000 - (a + 1)) (going_on ms (clause_nodes p d j)) (b - (a + 1)) → IsWithoutLoop p g (100000 - a) (given_at p ns d h k) (b - a)
      at_nothing b m f =
          let count : 1 + (b - (a + 1)) ≡ b - a = omega (arith, m) in
          subst (λ (y : List (List ℕ) × ℕ). IsWithoutLoop p g (100000 - a) y.0 y.1) (λ i. (sym given i, count i)) (nothing_under p g ms hs (100000 - a) (100000 - (a + 1)) (b - (a + 1)) (going_on ms (clause_nodes p d j)) pushed_path none (omega (arith, less)) f)

-- all clauses
pub all_given : (p : Listing) (ns : List ℕ) (d steps : ℕ) (h : Goal) (i : ℕ) → suc d ≡ steps → i ≡ length p.clauses → given_by p ns d h i ≡ going_on ns (clause_nodes p steps h)
all_given p ns d steps h i all e = ap (given_by p ns d h) e ∙ ap (λ (n : ℕ). going_on ns (clause_nodes p n h)) all

-- a path leaves some goal
pub leaves_some : (p : Listing) (g : Goal) (ns : List ℕ) (gs : List Goal) → IsPath p g ns gs → (h : Goal) × (left_after p g ns ≡ Some h)
leaves_some p g ns gs path =
    let last = there_at gs (length gs - 1) (omega (arith, path.count)) in
    (last.0, path_left p g ns gs last.0 path last.1)

-- the path of the empty derivation
pub start_is_path : (p : Listing) (g : Goal) (ns : List ℕ) (gs : List Goal) → ns ≡ [] → gs ≡ g ∷ [] → IsPath p g ns gs
start_is_path p g ns gs e f = subst (λ (y : List ℕ × List Goal). IsPath p g y.0 y.1) (λ i. (sym e i, sym f i)) (record { clauses = tt; count = refl; each = each })
  where
    each : (i : ℕ) (h : Goal) → slice_get (g ∷ []) i ≡ Some h → left_after p g (take i []) ≡ Some h
    each zero h k = k
    each (suc i) h k = cc

-- derivations after no numbers
pub going_on_none : (ns : List ℕ) (xs : List (List ℕ)) → ns ≡ [] → going_on ns xs ≡ xs
going_on_none ns xs e = ap (λ l. going_on l xs) e ∙ same xs
  where
    same : (xs : List (List ℕ)) → going_on [] xs ≡ xs
    same [] = refl
    same (x ∷ xs) = ap (λ l. x ∷ l) (same xs)
