-- A pass, one step more at the end, and the passes of a component, one pass more.
use Rattle.std.proofs.Common.{◌≡◌, ◌≢◌, ℕ, suc, ◌+◌, ◌-◌, ◌*◌, ◌<◌, ◌≤◌, ◌==◌, ℤ, Bool, true, false, ◌||◌, inl, inr, ◌⊎◌, List, [], ◌∷◌, ◌++◌, append_assoc, map, length, slice_get, slice_set, Option, None, Some, refl, ap, sym, subst, ◌∙◌, arith, eqb-true}
use Rattle.std.specs.List.{flat_map}
use Rattle.std.proofs.lemmas.Bool.Decides.{nat_tests}
use Rattle.call_components.proofs.Lists.{slice_get-set_same, slice_get-set_other}
use Rattle.cti_terms.specs.declared.clauses.Clause.{Clause}
use Rattle.linear_rows.specs.Members.{In}
use Rattle.linear_rows.proofs.Members.{of-append, of-flat_map}
use Rattle.linear_rows.specs.declared.multipliers.Multipliers.{Multipliers}
use Rattle.termination_model.specs.chains.Chain.{after, after_pass, after_passes, AreUnchanged}
use Rattle.termination_model.specs.chains.ChainSteps.{Step as PlainStep}
use Rattle.termination_model.proofs.ChainLeaves.{after_same, pass_same}
use Rattle.termination_model.proofs.Lists.{map_push, place_below}
use Rattle.component_clauses.specs.Numbered.{paired, with_clause, with_clauses}
use Rattle.size_chains.specs.declared.state.State.{State}
use Rattle.size_chains.specs.declared.step.Step.{Step}
use Rattle.size_chains.specs.Proved.{IsProved}
use Rattle.size_chains.specs.Running.{HaveProofs, IsPassed, IsRun, IsTaken, KeepsOthers, rows_in}
use Rattle.size_chains.specs.States.{plain_step, weights}
use Rattle.size_chains.proofs.Passing.{steps_more, after_more, late_steps, SoFar, so_far_start, so_far_on, so_far_end, after_passes_more}
use Rattle.size_chains.proofs.Taking.{same_or_other}
use Rattle.size_chains.specs.Chains.{AreSteps}
use Rattle.size_chains.specs.Steps.{IsLegalStep}
use Rattle.size_chains.specs.Systems.{Systems}

-- ---- a pass that changes nothing
unchanged_more : (rows : ℕ → List (List ℤ)) (ks : List (ℕ × Clause)) (ss : List PlainStep) (k : ℕ × Clause) (s : PlainStep) → length ks ≡ length ss
    → AreUnchanged rows ks ss → s.rows ≡ rows k.1.head.pred.0 → AreUnchanged rows (ks ++ k ∷ []) (ss ++ s ∷ [])
unchanged_more rows [] [] k s l u e = (e, tt)
unchanged_more rows [] (x ∷ ss) k s l u e = absurd (omega arith)
unchanged_more rows (x ∷ ks) [] k s l u e = absurd (omega arith)
unchanged_more rows (x ∷ ks) (y ∷ ss) k s l u e = (u.0, unchanged_more rows ks ss k s (omega arith) u.1 e)

of_unchanged : (rows : ℕ → List (List ℤ)) (ks : List (ℕ × Clause)) (ss : List PlainStep) (k : ℕ × Clause) (s : PlainStep) → length ks ≡ length ss
    → AreUnchanged rows (ks ++ k ∷ []) (ss ++ s ∷ []) → AreUnchanged rows ks ss × (s.rows ≡ rows k.1.head.pred.0)
of_unchanged rows [] [] k s l u = (tt, u.0)
of_unchanged rows [] (x ∷ ss) k s l u = absurd (omega arith)
of_unchanged rows (x ∷ ks) [] k s l u = absurd (omega arith)
of_unchanged rows (x ∷ ks) (y ∷ ss) k s l u = let more = of_unchanged rows ks ss k s (omega arith) u.1 in ((u.0, more.0), more.1)

steps_length : (speaks : List ℤ → Bool) (systems : Systems) (pass : ℕ) (rows : ℕ → List (List ℤ)) (ks : List (ℕ × Clause)) (ss : List PlainStep) → AreSteps speaks systems pass rows ks ss → length ks ≡ length ss
steps_length speaks systems pass rows [] [] a = refl
steps_length speaks systems pass rows [] (x ∷ ss) a = absurd a
steps_length speaks systems pass rows (x ∷ ks) [] a = absurd a
steps_length speaks systems pass rows (x ∷ ks) (y ∷ ss) a = ap suc (steps_length speaks systems pass (after x.1 y rows) ks ss a.2)

or_false : (a b : Bool) → (a || b) ≡ false → (a ≡ false) × (b ≡ false)
or_false true b e = cc
or_false false b e = (refl, e)

-- pairs of a number and its clause
abbrev pub AreNumbered : List Clause → List (ℕ × Clause) → Type 0
AreNumbered clauses ks = (k : ℕ × Clause) → In k ks → slice_get clauses (k.0 - 1) ≡ Some k.1

pub numbered_with : (clauses : List Clause) (own : List ℕ) → AreNumbered clauses (with_clauses clauses own)
numbered_with clauses own x i =
    let f = of-flat_map (with_clause clauses) own x i in
    go f.0 (slice_get clauses (f.0 - 1)) refl f.2
  where
    go : (k : ℕ) (o : Option Clause) → slice_get clauses (k - 1) ≡ o → In x (paired k o) → slice_get clauses (x.0 - 1) ≡ Some x.1
    go k None e i = absurd i
    go k (Some c) e (inl is) = subst (λ (y : ℕ × Clause). slice_get clauses (y.0 - 1) ≡ Some y.1) is e
    go k (Some c) e (inr i) = absurd i

module _ {D : Type 0} (width : D → ℕ) (listed : D → List (List ℤ)) (speaks : List ℤ → Bool) (systems : Systems) where
  none_more : (xs : List Step) → xs ≡ xs ++ []
  none_more [] = refl
  none_more (x ∷ xs) = ap (λ ys. x ∷ ys) (none_more xs)

  pub passed_none : (pass : ℕ) (s : State D) → IsPassed width listed speaks systems pass [] s s false
  passed_none pass s = record {
    steps = [];
    steps_are = none_more s.steps;
    legal = tt;
    rows = refl;
    unchanged = λ e. tt;
    changes = λ e u. cc;
    less = λ late e. cc;
    same = λ e. refl;
    others = λ j apart. refl;
    proved = λ e k i by at. absurd i;
  }

  module _ (pass : ℕ) (ks : List (ℕ × Clause)) (k : ℕ × Clause) (old now new : State D) (changed more : Bool)
      (m : IsPassed width listed speaks systems pass ks old now changed) (t : IsTaken width listed speaks systems pass k now new more) where
    abbrev plain : List PlainStep
    plain = map plain_step m.steps

    abbrev s : PlainStep
    s = plain_step t.step

    counts : length ks ≡ length plain
    counts = steps_length speaks systems pass (rows_in old) ks plain m.legal

    pushed : map plain_step (m.steps ++ t.step ∷ []) ≡ plain ++ s ∷ []
    pushed = map_push plain_step m.steps t.step

    legal_here : IsLegalStep speaks systems pass (after_pass (rows_in old) ks plain) k.1 s
    legal_here = subst (λ (f : ℕ → List (List ℤ)). IsLegalStep speaks systems pass f k.1 s) m.rows t.legal

    rows_new : rows_in new ≡ after_pass (rows_in old) (ks ++ k ∷ []) (plain ++ s ∷ [])
    rows_new = t.rows ∙ ap (after k.1 s) m.rows ∙ sym (after_more speaks systems pass (rows_in old) ks plain k s m.legal)

    -- where the steps so far changed nothing, the rows now are the old ones
    still : AreUnchanged (rows_in old) ks plain → rows_in now ≡ rows_in old
    still u = m.rows ∙ pass_same (rows_in old) ks plain u

    own_unchanged : changed ≡ false → more ≡ false → AreUnchanged (rows_in old) (ks ++ k ∷ []) (plain ++ s ∷ [])
    own_unchanged a b =
        let u = m.unchanged a in
        unchanged_more (rows_in old) ks plain k s counts u (t.unchanged b ∙ ap (λ (f : ℕ → List (List ℤ)). f k.1.head.pred.0) (still u))

    own_changes : (changed more : Bool) → (changed ≡ true → AreUnchanged (rows_in old) ks plain → ⊥) → (more ≡ true → s.rows ≢ rows_in now k.1.head.pred.0) → (changed || more) ≡ true
        → AreUnchanged (rows_in old) ks plain → s.rows ≡ rows_in old k.1.head.pred.0 → ⊥
    own_changes true b f h e u same = f refl u
    own_changes false true f h e u same = h refl (same ∙ sym (ap (λ (f : ℕ → List (List ℤ)). f k.1.head.pred.0) (still u)))
    own_changes false false f h e u same = cc

    own_less : (changed more : Bool) → (a b c : ℕ) → (changed ≡ true → b < a) → (changed ≡ false → b ≡ a) → (more ≡ true → c < b) → (more ≡ false → c ≡ b) → (changed || more) ≡ true → c < a
    own_less true true a b c f x h y e = let p = f refl in let q = h refl in omega arith
    own_less true false a b c f x h y e = let p = f refl in let q = y refl in omega arith
    own_less false true a b c f x h y e = let p = x refl in let q = h refl in omega arith
    own_less false false a b c f x h y e = cc

    others : KeepsOthers width listed speaks systems (ks ++ k ∷ []) old new
    others j apart =
        let here : j ≡ k.0 - 1 → ⊥ = λ e. apart k (last ks) (sym e) in
        ap (λ (xs : List (List Multipliers)). slice_get xs j) t.proofs ∙ slice_get-set_other now.proofs.items (k.0 - 1) j t.by here ∙ m.others j (λ x i. apart x (front ks x i))
      where
        last : (xs : List (ℕ × Clause)) → In k (xs ++ k ∷ [])
        last [] = inl refl
        last (x ∷ xs) = inr (last xs)

        front : (xs : List (ℕ × Clause)) (x : ℕ × Clause) → In x xs → In x (xs ++ k ∷ [])
        front [] x i = absurd i
        front (y ∷ xs) x (inl is) = inl is
        front (y ∷ xs) x (inr i) = inr (front xs x i)

    proved : (clauses : List Clause) → AreNumbered clauses (ks ++ k ∷ []) → length now.proofs.items ≡ length clauses → changed ≡ false → more ≡ false → HaveProofs width listed speaks systems (ks ++ k ∷ []) new
    proved clauses numbered long a b x i by at = go (same_or_other (x.0 - 1) (k.0 - 1))
      where
        last : (xs : List (ℕ × Clause)) → In k (xs ++ k ∷ [])
        last [] = inl refl
        last (y ∷ xs) = inr (last xs)

        rows_same : rows_in now ≡ rows_in new
        rows_same = sym (t.rows ∙ after_same k.1 s (rows_in now) (t.unchanged b))

        put : slice_get (slice_set now.proofs.items (k.0 - 1) t.by) (x.0 - 1) ≡ Some by
        put = sym (ap (λ (xs : List (List Multipliers)). slice_get xs (x.0 - 1)) t.proofs) ∙ at

        below : k.0 - 1 < length now.proofs.items
        below = let l = place_below clauses (k.0 - 1) k.1 (numbered k (last ks)) in omega arith

        go : (x.0 - 1 ≡ k.0 - 1) ⊎ (x.0 - 1 ≡ k.0 - 1 → ⊥) → IsProved systems (rows_in new) x.1 by
        go (inl e) =
            let here : slice_get (slice_set now.proofs.items (k.0 - 1) t.by) (x.0 - 1) ≡ Some t.by =
            ap (slice_get (slice_set now.proofs.items (k.0 - 1) t.by)) e ∙ slice_get-set_same now.proofs.items (k.0 - 1) t.by below in
            let same : t.by ≡ by = cc in
            let one : slice_get clauses (x.0 - 1) ≡ Some k.1 = ap (slice_get clauses) e ∙ numbered k (last ks) in
            let two = numbered x i in
            let clause : k.1 ≡ x.1 = cc in
            subst (λ (f : ℕ → List (List ℤ)). IsProved systems f x.1 by) rows_same (subst (λ (y : Clause). IsProved systems (rows_in now) y by) clause (subst (IsProved systems (rows_in now) k.1) same (t.proved b)))
        go (inr apart) = subst (λ (f : ℕ → List (List ℤ)). IsProved systems f x.1 by) rows_same
            (m.proved a x (front (of-append ks (k ∷ []) x i)) by (sym (slice_get-set_other now.proofs.items (k.0 - 1) (x.0 - 1) t.by apart) ∙ put))
          where
            front : In x ks ⊎ In x (k ∷ []) → In x ks
            front (inl j) = j
            front (inr (inl is)) = absurd (apart (ap (λ (y : ℕ × Clause). y.0 - 1) (sym is)))
            front (inr (inr j)) = absurd j

    pub passed_more : (clauses : List Clause) → AreNumbered clauses (ks ++ k ∷ []) → length now.proofs.items ≡ length clauses → IsPassed width listed speaks systems pass (ks ++ k ∷ []) old new (changed || more)
    passed_more clauses numbered long = record {
      steps = m.steps ++ t.step ∷ [];
      steps_are = t.steps ∙ ap (λ (xs : List Step). xs ++ t.step ∷ []) m.steps_are ∙ append_assoc old.steps m.steps (t.step ∷ []);
      legal = subst (AreSteps speaks systems pass (rows_in old) (ks ++ k ∷ [])) (sym pushed) (steps_more speaks systems pass (rows_in old) ks plain k s m.legal t.clause legal_here);
      rows = rows_new ∙ ap (after_pass (rows_in old) (ks ++ k ∷ [])) (sym pushed);
      unchanged = λ e. let f = or_false changed more e in subst (AreUnchanged (rows_in old) (ks ++ k ∷ [])) (sym pushed) (own_unchanged f.0 f.1);
      changes = λ e u. let f = of_unchanged (rows_in old) ks plain k s counts (subst (AreUnchanged (rows_in old) (ks ++ k ∷ [])) pushed u) in own_changes changed more m.changes t.changes e f.0 f.1;
      less = λ late. own_less changed more (weights width listed old.values.items) (weights width listed now.values.items) (weights width listed new.values.items) (m.less late) m.same (t.less late) t.same;
      same = λ e. let f = or_false changed more e in t.same f.1 ∙ m.same f.0;
      others = others;
      proved = λ e. let f = or_false changed more e in proved clauses numbered long f.0 f.1;
    }

  -- ---- the passes of a component
  -- passes over these clauses so far, each of which changed something; the next one is as one of this number
  pub record IsRunning (ks : List (ℕ × Clause)) (number : ℕ) (old now : State D) : Type 0 where
    pub next : ℕ
    pub done : List (List PlainStep)
    pub steps : List Step
    pub steps_are : now.steps ≡ old.steps ++ steps
    pub by_pass : map plain_step steps ≡ flat_map (λ ss. ss) done
    pub so_far : SoFar speaks systems ks 1 (rows_in old) done next (rows_in now)
    pub rows : rows_in now ≡ after_passes (rows_in old) ks done
    pub others : KeepsOthers width listed speaks systems ks old now
    pub count : ((number ≡ next) × (next ≤ 3)) ⊎ ((number ≡ 4) × (3 < next))

  pub running_none : (ks : List (ℕ × Clause)) (s : State D) → IsRunning ks 1 s s
  running_none ks s = record {
    next = 1;
    done = [];
    steps = [];
    steps_are = none_more s.steps;
    by_pass = refl;
    so_far = so_far_start speaks systems ks 1 (rows_in s);
    rows = refl;
    others = λ j apart. refl;
    count = inl (refl, omega arith);
  }

  flat_more : (xss : List (List PlainStep)) (ys : List PlainStep) → flat_map (λ ss. ss) (xss ++ ys ∷ []) ≡ flat_map (λ ss. ss) xss ++ ys
  flat_more [] ys = right ys
    where
      right : (xs : List PlainStep) → xs ++ [] ≡ xs
      right [] = refl
      right (x ∷ xs) = ap (λ zs. x ∷ zs) (right xs)
  flat_more (xs ∷ xss) ys = ap (λ zs. xs ++ zs) (flat_more xss ys) ∙ sym (append_assoc xs (flat_map (λ ss. ss) xss) ys)

  map_append : (xs ys : List Step) → map plain_step (xs ++ ys) ≡ map plain_step xs ++ map plain_step ys
  map_append [] ys = refl
  map_append (x ∷ xs) ys = ap (λ zs. plain_step x ∷ zs) (map_append xs ys)

  module _ (ks : List (ℕ × Clause)) (number : ℕ) (old now new : State D) (r : IsRunning ks number old now) (changed : Bool) (m : IsPassed width listed speaks systems number ks now new changed) where
    abbrev ss : List PlainStep
    ss = map plain_step m.steps

    steps_here : AreSteps speaks systems r.next (rows_in now) ks ss
    steps_here = go r.count
      where
        go : ((number ≡ r.next) × (r.next ≤ 3)) ⊎ ((number ≡ 4) × (3 < r.next)) → AreSteps speaks systems r.next (rows_in now) ks ss
        go (inl (e, l)) = subst (λ (n : ℕ). AreSteps speaks systems n (rows_in now) ks ss) e m.legal
        go (inr (e, l)) = late_steps speaks systems number r.next (omega arith) l (rows_in now) ks ss m.legal

    all_steps : new.steps ≡ old.steps ++ (r.steps ++ m.steps)
    all_steps = m.steps_are ∙ ap (λ (xs : List Step). xs ++ m.steps) r.steps_are ∙ append_assoc old.steps r.steps m.steps

    all_by_pass : map plain_step (r.steps ++ m.steps) ≡ flat_map (λ ss. ss) (r.done ++ ss ∷ [])
    all_by_pass = map_append r.steps m.steps ∙ ap (λ (xs : List PlainStep). xs ++ ss) r.by_pass ∙ sym (flat_more r.done ss)

    all_rows : rows_in new ≡ after_passes (rows_in old) ks (r.done ++ ss ∷ [])
    all_rows = m.rows ∙ ap (λ (f : ℕ → List (List ℤ)). after_pass f ks ss) r.rows ∙ sym (after_passes_more speaks systems ks (rows_in old) r.done ss)

    all_others : KeepsOthers width listed speaks systems ks old new
    all_others j apart = m.others j apart ∙ r.others j apart

    pub run_end : changed ≡ false → IsRun width listed speaks systems ks old new
    run_end e = record {
      passes = r.done ++ ss ∷ [];
      steps = r.steps ++ m.steps;
      steps_are = all_steps;
      by_pass = all_by_pass;
      legal = so_far_end speaks systems ks 1 r.next (rows_in old) (rows_in now) r.done ss r.so_far steps_here (m.unchanged e);
      rows = all_rows;
      others = all_others;
      proved = m.proved e;
    }

    pub running_more : changed ≡ true → (later : ℕ) → ((number ≤ 3) × (later ≡ number + 1)) ⊎ ((3 < number) × (later ≡ number)) → IsRunning ks later old new
    running_more e later count = record {
      next = suc r.next;
      done = r.done ++ ss ∷ [];
      steps = r.steps ++ m.steps;
      steps_are = all_steps;
      by_pass = all_by_pass;
      so_far = subst (SoFar speaks systems ks 1 (rows_in old) (r.done ++ ss ∷ []) (suc r.next)) (sym m.rows) (so_far_on speaks systems ks 1 r.next (rows_in old) (rows_in now) r.done ss r.so_far steps_here (m.changes e));
      rows = all_rows;
      others = all_others;
      count = counted r.count count;
    }
      where
        counted : ((number ≡ r.next) × (r.next ≤ 3)) ⊎ ((number ≡ 4) × (3 < r.next)) → ((number ≤ 3) × (later ≡ number + 1)) ⊎ ((3 < number) × (later ≡ number))
            → ((later ≡ suc r.next) × (suc r.next ≤ 3)) ⊎ ((later ≡ 4) × (3 < suc r.next))
        counted (inl (is, l)) (inl (small, later_is)) = early (r.next == 3) refl
          where
            early : (b : Bool) → (r.next == 3) ≡ b → ((later ≡ suc r.next) × (suc r.next ≤ 3)) ⊎ ((later ≡ 4) × (3 < suc r.next))
            early true t = let q = eqb-true r.next 3 t in inr (omega arith, omega arith)
            early false t = let q : r.next ≢ 3 = λ s. (let u : false ≡ true = grind (arith, nat_tests) in cc) in inl (omega arith, omega arith)
        counted (inl (is, l)) (inr (large, later_is)) = absurd (omega arith)
        counted (inr (is, l)) (inl (small, later_is)) = absurd (omega arith)
        counted (inr (is, l)) (inr (large, later_is)) = inr (omega arith, omega arith)

-- ---- how passes end
falls : (a l v w : ℕ) → v ≤ l → a * suc l + v < suc a * suc l + w
falls a l v w h = omega arith

pub smaller : (n l v w : ℕ) → n ≤ 3 → v ≤ l → (4 - (n + 1)) * suc l + v < (4 - n) * suc l + w
smaller n l v w early h =
    let e : suc (4 - (n + 1)) ≡ 4 - n = omega arith in
    subst (λ (m : ℕ). (4 - (n + 1)) * suc l + v < m * suc l + w) e (falls (4 - (n + 1)) l v w h)
