-- The function gives the unifier of the relation, and only that.
use Rattle.std.proofs.Common.{◌≡◌, ℕ, zero, suc, ◌+◌, ◌<◌, ◌≤◌, max, Bool, true, false, ◌&&◌, ◌||◌, ◌==◌, cond, if◌then◌else◌, List, [], ◌∷◌, ◌++◌, Option, None, Some, option_map, true≢false, ◌⊎◌, inl, inr, refl, ap, sym, ◌∙◌, subst, arith}
use Rattle.std.proofs.lemmas.Bool.{cases_lt, or_cases, or_left, or_right}
use Rattle.std.proofs.lemmas.Bool.Decides.{nat_tests}
use Rattle.std.specs.Ordering.{int_eq}
use Rattle.cti_terms.specs.Tree.{Tree, Trees, Variable, Integer, Compound, End, More, instance, all_instances, arity, nodes_of, all_nodes}
use Rattle.cti_terms.specs.Unify.{Equation, Binding, Step, Dropped, Bound, Split, Failed, occurs, occurs_among, only, first_step, replaced, Unifies, none, drop, bind, split, pairs}
use Rattle.cti_terms.specs.UnifyFunction.{work, occurs_in, above, above_all, above_equations, occurring, after, unify_to, unify_with, unify}

after_finds : (again bound_on : List Equation → Option (List Binding)) → ((es : List Equation) (bs : List Binding) → again es ≡ Some bs → Unifies es bs) → ((es : List Equation) (bs : List Binding) → bound_on es ≡ Some bs → Unifies es bs) → (t u : Tree) (s : Step) (es : List Equation) (bs : List Binding) → first_step t u ≡ s → after again bound_on s es ≡ Some bs → Unifies ((t, u) ∷ es) bs
after_finds again bound_on f g t u Dropped es bs e h = drop e (f es bs h)
after_finds again bound_on f g t u (Bound x v) es bs e h = go (bound_on (replaced x v es)) refl h
  where
    go : (o : Option (List Binding)) → bound_on (replaced x v es) ≡ o → option_map (λ cs. (x, v) ∷ cs) o ≡ Some bs → Unifies ((t, u) ∷ es) bs
    go None p q = cc
    go (Some cs) p q =
        let same : (x, v) ∷ cs ≡ bs = cc in
        subst (λ (b : List Binding). Unifies ((t, u) ∷ es) b) same (bind e (g (replaced x v es) cs p))
after_finds again bound_on f g t u (Split qs) es bs e h = split e (f (qs ++ es) bs h)
after_finds again bound_on f g t u Failed es bs e h = cc

to_finds : (bound_on : List Equation → Option (List Binding)) → ((es : List Equation) (bs : List Binding) → bound_on es ≡ Some bs → Unifies es bs) → (n : ℕ) (es : List Equation) (bs : List Binding) → unify_to bound_on n es ≡ Some bs → Unifies es bs
to_finds bound_on g n [] bs h =
    let same : [] ≡ bs = cc in
    subst (λ (b : List Binding). Unifies [] b) same none
to_finds bound_on g zero (e ∷ es) bs h = cc
to_finds bound_on g (suc n) (e ∷ es) bs h = after_finds (unify_to bound_on n) bound_on (to_finds bound_on g n) g e.0 e.1 (first_step e.0 e.1) es bs refl h

with_finds : (v : ℕ) (es : List Equation) (bs : List Binding) → unify_with v es ≡ Some bs → Unifies es bs
with_finds zero es bs h = to_finds (λ _. None) (λ fs cs k. cc) (work es) es bs h
with_finds (suc v) es bs h = to_finds (unify_with v) (with_finds v) (work es) es bs h

-- what the function gives is a unifier
pub unify_finds : (es : List Equation) (bs : List Binding) → unify es ≡ Some bs → Unifies es bs
unify_finds es bs h = with_finds (occurring (above_equations es) es) es bs h

-- y occurs in v, or in t and is not x
abbrev pub Comes : ℕ → ℕ → Tree → Bool → Type 0
Comes y x v b = (occurs y v ≡ true) ⊎ ((b ≡ true) × (y ≡ x → ⊥))

comes_wider : (y x : ℕ) (v : Tree) (b c : Bool) → (b ≡ true → c ≡ true) → Comes y x v b → Comes y x v c
comes_wider y x v b c f (inl h) = inl h
comes_wider y x v b c f (inr h) = inr (f h.0, h.1)

comes_variable : (y x z : ℕ) (v : Tree) (b : Bool) → (x == z) ≡ b → occurs y (if b then v else Variable z) ≡ true → Comes y x v (y == z)
comes_variable y x z v true e h = inl h
comes_variable y x z v false e h = inr (h, λ p. grind (arith, nat_tests))

come_either : (y x : ℕ) (v : Tree) (b c d e : Bool) → (d || e) ≡ true → (d ≡ true → Comes y x v b) → (e ≡ true → Comes y x v c) → Comes y x v (b || c)
come_either y x v b c true e h f g = comes_wider y x v b (b || c) (or_left b c) (f refl)
come_either y x v b c false e h f g = comes_wider y x v c (b || c) (or_right b c) (g h)

mutual
  pub comes : (y x : ℕ) (v t : Tree) → occurs y (instance (only x v) t) ≡ true → Comes y x v (occurs y t)
  comes y x v (Variable z) h = comes_variable y x z v (x == z) refl h
  comes y x v (Integer n) h = cc
  comes y x v (Compound f ts) h = all_come y x v ts h

  all_come : (y x : ℕ) (v : Tree) (ts : Trees) → occurs_among y (all_instances (only x v) ts) ≡ true → Comes y x v (occurs_among y ts)
  all_come y x v End h = cc
  all_come y x v (More t ts) h =
      come_either y x v (occurs y t) (occurs_among y ts) (occurs y (instance (only x v) t)) (occurs_among y (all_instances (only x v) ts)) h (comes y x v t) (all_come y x v ts)

pub all_equations_come : (y x : ℕ) (v : Tree) (es : List Equation) → occurs_in y (replaced x v es) ≡ true → Comes y x v (occurs_in y es)
all_equations_come y x v [] h = cc
all_equations_come y x v (e ∷ es) h =
    come_either y x v (occurs y e.0 || occurs y e.1) (occurs_in y es)
    (occurs y (instance (only x v) e.0) || occurs y (instance (only x v) e.1)) (occurs_in y (replaced x v es)) h
    (λ k. come_either y x v (occurs y e.0) (occurs y e.1) (occurs y (instance (only x v) e.0)) (occurs y (instance (only x v) e.1)) k (comes y x v e.0) (comes y x v e.1))
    (all_equations_come y x v es)

-- fewer variables are counted
pub occurring_le : (n : ℕ) (es fs : List Equation) → ((y : ℕ) → occurs_in y es ≡ true → occurs_in y fs ≡ true) → occurring n es ≤ occurring n fs
occurring_le zero es fs f = omega arith
occurring_le (suc n) es fs f = go (occurs_in n es) (occurs_in n fs) (f n) (occurring_le n es fs f)
  where
    go : (b c : Bool) → (b ≡ true → c ≡ true) → occurring n es ≤ occurring n fs → cond b 1 0 + occurring n es ≤ cond c 1 0 + occurring n fs
    go true true g h = omega arith
    go true false g h = let k = g refl in cc
    go false true g h = omega arith
    go false false g h = omega arith

more : (b c : Bool) (m n : ℕ) → (b ≡ true → c ≡ true) → m < n → cond b 1 0 + m < cond c 1 0 + n
more true true m n g h = omega arith
more true false m n g h = let k = g refl in cc
more false true m n g h = omega arith
more false false m n g h = omega arith

pub occurring_lt : (n x : ℕ) (es fs : List Equation) → ((y : ℕ) → occurs_in y es ≡ true → occurs_in y fs ≡ true) → x < n → occurs_in x es ≡ false → occurs_in x fs ≡ true → occurring n es < occurring n fs
occurring_lt zero x es fs f lt gone there = absurd (omega (arith, lt))
occurring_lt (suc n) x es fs f lt gone there = go (cases_lt x n) (λ l. occurring_lt n x es fs f l gone there) (occurring_le n es fs f)
  where
    go : (x < n) ⊎ (n ≤ x) → (x < n → occurring n es < occurring n fs) → occurring n es ≤ occurring n fs → cond (occurs_in n es) 1 0 + occurring n es < cond (occurs_in n fs) 1 0 + occurring n fs
    go (inl l) ih le = more (occurs_in n es) (occurs_in n fs) (occurring n es) (occurring n fs) (f n) (ih l)
    go (inr g) ih le =
        let same : x ≡ n = omega arith in
        let e : occurs_in n es ≡ false = subst (λ (z : ℕ). occurs_in z es ≡ false) same gone in
        let d : occurs_in n fs ≡ true = subst (λ (z : ℕ). occurs_in z fs ≡ true) same there in
        rw (e, d) (omega (arith, le))

pub nodes_positive : (t : Tree) → 1 ≤ nodes_of t
nodes_positive (Variable x) = omega arith
nodes_positive (Integer n) = omega arith
nodes_positive (Compound f ts) = omega arith

pub work-append : (es fs : List Equation) → work (es ++ fs) ≡ work es + work fs
work-append [] fs = omega arith
work-append (e ∷ es) fs = omega (arith, work-append es fs)

pub work-pairs : (ts us : Trees) → work (pairs ts us) ≤ all_nodes ts + all_nodes us
work-pairs End us = omega arith
work-pairs (More t ts) End = omega arith
work-pairs (More t ts) (More u us) = omega (arith, work-pairs ts us)

-- a step that splits takes nodes out
pub work_split : (t u : Tree) (qs : List Equation) → first_step t u ≡ Split qs → work qs + 2 ≤ nodes_of t + nodes_of u
work_split (Variable y) (Variable z) qs e = go (y == z) e
  where
    go : {A : Type 0} (b : Bool) → (if b then Dropped else Bound y (Variable z)) ≡ Split qs → A
    go true e = cc
    go false e = cc
work_split (Variable y) (Integer n) qs e = cc
work_split (Variable y) (Compound f ts) qs e = go (occurs y (Compound f ts)) e
  where
    go : {A : Type 0} (b : Bool) → (if b then Failed else Bound y (Compound f ts)) ≡ Split qs → A
    go true e = cc
    go false e = cc
work_split (Integer m) (Variable z) qs e = cc
work_split (Integer m) (Integer n) qs e = go (int_eq m n) e
  where
    go : {A : Type 0} (b : Bool) → (if b then Dropped else Failed) ≡ Split qs → A
    go true e = cc
    go false e = cc
work_split (Integer m) (Compound f ts) qs e = cc
work_split (Compound f ts) (Variable z) qs e = go (occurs z (Compound f ts)) e
  where
    go : {A : Type 0} (b : Bool) → (if b then Failed else Bound z (Compound f ts)) ≡ Split qs → A
    go true e = cc
    go false e = cc
work_split (Compound f ts) (Integer n) qs e = cc
work_split (Compound f ts) (Compound g us) qs e = go ((f == g) && (arity ts == arity us)) e
  where
    go : (b : Bool) → (if b then Split (pairs ts us) else Failed) ≡ Split qs → work qs + 2 ≤ nodes_of (Compound f ts) + nodes_of (Compound g us)
    go true e =
        let these : pairs ts us ≡ qs = cc in
        subst (λ (q : List Equation). work q + 2 ≤ nodes_of (Compound f ts) + nodes_of (Compound g us)) these (omega (arith, work-pairs ts us))
    go false e = cc

-- a binding is of a variable that occurs, to a term of variables that occur and without it
pub record Binds (t u : Tree) (x : ℕ) (v : Tree) : Type 0 where
  pub gone : occurs x v ≡ false
  pub there : (occurs x t || occurs x u) ≡ true
  pub inside : (y : ℕ) → occurs y v ≡ true → (occurs y t || occurs y u) ≡ true

pub eqb_same : (x : ℕ) → (x == x) ≡ true
eqb_same x = grind (arith, nat_tests)

binds_left : (y : ℕ) (u : Tree) → occurs y u ≡ false → Binds (Variable y) u y u
binds_left y u h = record { gone = h; there = ap (λ b. b || occurs y u) (eqb_same y); inside = λ z k. or_right (z == y) (occurs z u) k }

binds_right : (y : ℕ) (t : Tree) → occurs y t ≡ false → Binds t (Variable y) y t
binds_right y t h = record { gone = h; there = or_right (occurs y t) (y == y) (eqb_same y); inside = λ z k. or_left (occurs z t) (z == y) k }

binds_moved : (t u : Tree) (y x : ℕ) (w v : Tree) → Bound y w ≡ Bound x v → Binds t u y w → Binds t u x v
binds_moved t u y x w v e h =
    let p : y ≡ x = cc in
    let q : w ≡ v = cc in
    subst (λ (b : Binding). Binds t u b.0 b.1) (λ i. (p i, q i)) h

pub binds : (t u : Tree) (x : ℕ) (v : Tree) → first_step t u ≡ Bound x v → Binds t u x v
binds (Variable y) (Variable z) x v e = go (y == z) refl e
  where
    go : (b : Bool) → (y == z) ≡ b → (if b then Dropped else Bound y (Variable z)) ≡ Bound x v → Binds (Variable y) (Variable z) x v
    go true h k = cc
    go false h k = binds_moved (Variable y) (Variable z) y x (Variable z) v k (binds_left y (Variable z) h)
binds (Variable y) (Integer n) x v e = binds_moved (Variable y) (Integer n) y x (Integer n) v e (binds_left y (Integer n) refl)
binds (Variable y) (Compound f ts) x v e = go (occurs y (Compound f ts)) refl e
  where
    go : (b : Bool) → occurs y (Compound f ts) ≡ b → (if b then Failed else Bound y (Compound f ts)) ≡ Bound x v → Binds (Variable y) (Compound f ts) x v
    go true h k = cc
    go false h k = binds_moved (Variable y) (Compound f ts) y x (Compound f ts) v k (binds_left y (Compound f ts) h)
binds (Integer m) (Variable z) x v e = binds_moved (Integer m) (Variable z) z x (Integer m) v e (binds_right z (Integer m) refl)
binds (Integer m) (Integer n) x v e = go (int_eq m n) e
  where
    go : {A : Type 0} (b : Bool) → (if b then Dropped else Failed) ≡ Bound x v → A
    go true k = cc
    go false k = cc
binds (Integer m) (Compound f ts) x v e = cc
binds (Compound f ts) (Variable z) x v e = go (occurs z (Compound f ts)) refl e
  where
    go : (b : Bool) → occurs z (Compound f ts) ≡ b → (if b then Failed else Bound z (Compound f ts)) ≡ Bound x v → Binds (Compound f ts) (Variable z) x v
    go true h k = cc
    go false h k = binds_moved (Compound f ts) (Variable z) z x (Compound f ts) v k (binds_right z (Compound f ts) h)
binds (Compound f ts) (Integer n) x v e = cc
binds (Compound f ts) (Compound g us) x v e = go ((f == g) && (arity ts == arity us)) e
  where
    go : {A : Type 0} (b : Bool) → (if b then Split (pairs ts us) else Failed) ≡ Bound x v → A
    go true k = cc
    go false k = cc

abbrev rest : ℕ → List Equation → Option (List Binding)
rest zero = λ _. None
rest (suc v) = unify_with v

with_is : (v : ℕ) (es : List Equation) → unify_with v es ≡ unify_to (rest v) (work es) es
with_is zero es = refl
with_is (suc v) es = refl

or_assoc : (b c d : Bool) → (b || (c || d)) ≡ ((b || c) || d)
or_assoc true c d = refl
or_assoc false c d = refl

pub occurs_append : (y : ℕ) (es fs : List Equation) → occurs_in y (es ++ fs) ≡ (occurs_in y es || occurs_in y fs)
occurs_append y [] fs = refl
occurs_append y (e ∷ es) fs = ap (λ b. (occurs y e.0 || occurs y e.1) || b) (occurs_append y es fs) ∙ or_assoc (occurs y e.0 || occurs y e.1) (occurs_in y es) (occurs_in y fs)

-- what occurs after a binding occurred before
pub bind_inside : (t u : Tree) (x : ℕ) (v : Tree) (es : List Equation) → Binds t u x v → (y : ℕ) → occurs_in y (replaced x v es) ≡ true → occurs_in y ((t, u) ∷ es) ≡ true
bind_inside t u x v es b y h = go (all_equations_come y x v es h)
  where
    go : Comes y x v (occurs_in y es) → occurs_in y ((t, u) ∷ es) ≡ true
    go (inl k) = or_left (occurs y t || occurs y u) (occurs_in y es) (b.inside y k)
    go (inr k) = or_right (occurs y t || occurs y u) (occurs_in y es) k.0

-- and the variable does not
pub bind_gone : (t u : Tree) (x : ℕ) (v : Tree) (es : List Equation) → Binds t u x v → occurs_in x (replaced x v es) ≡ false
bind_gone t u x v es b = go (occurs_in x (replaced x v es)) refl
  where
    no_way : Comes x x v (occurs_in x es) → ⊥
    no_way (inl k) = true≢false (sym k ∙ b.gone)
    no_way (inr k) = k.1 refl

    go : (c : Bool) → occurs_in x (replaced x v es) ≡ c → c ≡ false
    go true k = absurd (no_way (all_equations_come x x v es k))
    go false k = refl

mixed : (a b c d e : Bool) → (e ≡ true → (c || d) ≡ true) → ((a || b) || e) ≡ true → ((a || c) || (b || d)) ≡ true
mixed true b c d e f h = refl
mixed false true c d e f h = or_right c true refl
mixed false false c d e f h = f h

pairs_inside : (y : ℕ) (ts us : Trees) → occurs_in y (pairs ts us) ≡ true → (occurs_among y ts || occurs_among y us) ≡ true
pairs_inside y End us h = cc
pairs_inside y (More t ts) End h = cc
pairs_inside y (More t ts) (More u us) h = mixed (occurs y t) (occurs y u) (occurs_among y ts) (occurs_among y us) (occurs_in y (pairs ts us)) (pairs_inside y ts us) h

split_inside : (t u : Tree) (qs : List Equation) (y : ℕ) → first_step t u ≡ Split qs → occurs_in y qs ≡ true → (occurs y t || occurs y u) ≡ true
split_inside (Variable z) (Variable w) qs y e h = go (z == w) e
  where
    go : {A : Type 0} (b : Bool) → (if b then Dropped else Bound z (Variable w)) ≡ Split qs → A
    go true k = cc
    go false k = cc
split_inside (Variable z) (Integer n) qs y e h = cc
split_inside (Variable z) (Compound f ts) qs y e h = go (occurs z (Compound f ts)) e
  where
    go : {A : Type 0} (b : Bool) → (if b then Failed else Bound z (Compound f ts)) ≡ Split qs → A
    go true k = cc
    go false k = cc
split_inside (Integer m) (Variable z) qs y e h = cc
split_inside (Integer m) (Integer n) qs y e h = go (int_eq m n) e
  where
    go : {A : Type 0} (b : Bool) → (if b then Dropped else Failed) ≡ Split qs → A
    go true k = cc
    go false k = cc
split_inside (Integer m) (Compound f ts) qs y e h = cc
split_inside (Compound f ts) (Variable z) qs y e h = go (occurs z (Compound f ts)) e
  where
    go : {A : Type 0} (b : Bool) → (if b then Failed else Bound z (Compound f ts)) ≡ Split qs → A
    go true k = cc
    go false k = cc
split_inside (Compound f ts) (Integer n) qs y e h = cc
split_inside (Compound f ts) (Compound g us) qs y e h = go ((f == g) && (arity ts == arity us)) e
  where
    go : (b : Bool) → (if b then Split (pairs ts us) else Failed) ≡ Split qs → (occurs_among y ts || occurs_among y us) ≡ true
    go true k =
        let these : qs ≡ pairs ts us = cc in
        pairs_inside y ts us (subst (λ (q : List Equation). occurs_in y q ≡ true) these h)
    go false k = cc

pub replaced_inside : (t u : Tree) (qs es : List Equation) (y : ℕ) → first_step t u ≡ Split qs → occurs_in y (qs ++ es) ≡ true → occurs_in y ((t, u) ∷ es) ≡ true
replaced_inside t u qs es y e h = go (or_cases (occurs_in y qs) (occurs_in y es) (sym (occurs_append y qs es) ∙ h))
  where
    go : (occurs_in y qs ≡ true) ⊎ (occurs_in y es ≡ true) → occurs_in y ((t, u) ∷ es) ≡ true
    go (inl k) = or_left (occurs y t || occurs y u) (occurs_in y es) (split_inside t u qs y e k)
    go (inr k) = or_right (occurs y t || occurs y u) (occurs_in y es) k

-- every variable is below a number
abbrev pub AllBelow : ℕ → List Equation → Type 0
AllBelow m es = (y : ℕ) → occurs_in y es ≡ true → y < m

complete : {es : List Equation} {bs : List Binding} → Unifies es bs → (m : ℕ) → AllBelow m es → (v n : ℕ) → occurring m es ≤ v → work es ≤ n → unify_to (rest v) n es ≡ Some bs
complete none m below v n few short = refl
complete (drop {t = t} {u = u} {es = es} {bs = bs} e r) m below v zero few short = absurd (omega (arith, short, nodes_positive t))
complete (drop {t = t} {u = u} {es = es} {bs = bs} e r) m below v (suc n) few short =
    let wider : (y : ℕ) → occurs_in y es ≡ true → occurs_in y ((t, u) ∷ es) ≡ true = λ y h. or_right (occurs y t || occurs y u) (occurs_in y es) h in
    let fewer = occurring_le m es ((t, u) ∷ es) wider in
    ap (λ s. after (unify_to (rest v) n) (rest v) s es) e
    ∙ complete r m (λ y h. below y (wider y h)) v n (omega (arith, few, fewer)) (omega (arith, short, nodes_positive t))
complete (bind {t = t} {u = u} {v = w} {x = x} {es = es} {bs = bs} e r) m below v zero few short = absurd (omega (arith, short, nodes_positive t))
complete (bind {t = t} {u = u} {v = w} {x = x} {es = es} {bs = bs} e r) m below zero (suc n) few short =
    let b = binds t u x w e in
    let there = or_left (occurs x t || occurs x u) (occurs_in x es) b.there in
    let fewer = occurring_lt m x (replaced x w es) ((t, u) ∷ es) (bind_inside t u x w es b) (below x there) (bind_gone t u x w es b) there in
    absurd (omega (arith, few, fewer))
complete (bind {t = t} {u = u} {v = w} {x = x} {es = es} {bs = bs} e r) m below (suc v) (suc n) few short =
    let b = binds t u x w e in
    let wider = bind_inside t u x w es b in
    let there = or_left (occurs x t || occurs x u) (occurs_in x es) b.there in
    let fewer = occurring_lt m x (replaced x w es) ((t, u) ∷ es) wider (below x there) (bind_gone t u x w es b) there in
    let found = with_is v (replaced x w es) ∙ complete r m (λ y h. below y (wider y h)) v (work (replaced x w es)) (omega (arith, few, fewer)) (omega arith) in
    ap (λ s. after (unify_to (rest (suc v)) n) (rest (suc v)) s es) e ∙ ap (option_map (λ cs. (x, w) ∷ cs)) found
complete (split {t = t} {u = u} {qs = qs} {es = es} {bs = bs} e r) m below v zero few short = absurd (omega (arith, short, nodes_positive t))
complete (split {t = t} {u = u} {qs = qs} {es = es} {bs = bs} e r) m below v (suc n) few short =
    let wider : (y : ℕ) → occurs_in y (qs ++ es) ≡ true → occurs_in y ((t, u) ∷ es) ≡ true = λ y h. replaced_inside t u qs es y e h in
    let fewer = occurring_le m (qs ++ es) ((t, u) ∷ es) wider in
    ap (λ s. after (unify_to (rest v) n) (rest v) s es) e
    ∙ complete r m (λ y h. below y (wider y h)) v n (omega (arith, few, fewer)) (omega (arith, short, work_split t u qs e, work-append qs es))

below_either : (m n y : ℕ) (b c : Bool) → (b || c) ≡ true → (b ≡ true → y < m) → (c ≡ true → y < n) → y < max m n
below_either m n y true c h f g = let k = f refl in omega (arith, k)
below_either m n y false c h f g = let k = g h in omega (arith, k)

mutual
  below_term : (y : ℕ) (t : Tree) → occurs y t ≡ true → y < above t
  below_term y (Variable z) h = grind (arith, nat_tests)
  below_term y (Integer n) h = cc
  below_term y (Compound f ts) h = below_all y ts h

  below_all : (y : ℕ) (ts : Trees) → occurs_among y ts ≡ true → y < above_all ts
  below_all y End h = cc
  below_all y (More t ts) h = below_either (above t) (above_all ts) y (occurs y t) (occurs_among y ts) h (below_term y t) (below_all y ts)

pub below_equations : (y : ℕ) (es : List Equation) → occurs_in y es ≡ true → y < above_equations es
below_equations y [] h = cc
below_equations y (e ∷ es) h =
    below_either (max (above e.0) (above e.1)) (above_equations es) y (occurs y e.0 || occurs y e.1) (occurs_in y es) h
    (λ k. below_either (above e.0) (above e.1) y (occurs y e.0) (occurs y e.1) k (below_term y e.0) (below_term y e.1))
    (below_equations y es)

-- each unifier is the function's answer
pub unify_complete : (es : List Equation) (bs : List Binding) → Unifies es bs → unify es ≡ Some bs
unify_complete es bs h =
    with_is (occurring (above_equations es) es) es
    ∙ complete h (above_equations es) (λ y k. below_equations y es k) (occurring (above_equations es) es) (work es) (omega arith) (omega arith)

-- where the function has no answer there is no unifier
pub unify_none : (es : List Equation) (bs : List Binding) → unify es ≡ None → Unifies es bs → ⊥
unify_none es bs e h = let f = unify_complete es bs h in let never : None ≡ Some bs = sym e ∙ f in cc
