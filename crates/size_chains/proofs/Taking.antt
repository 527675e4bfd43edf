-- What a step that is noted and accepted does to the state of a chain.
use Rattle.std.proofs.Common.{◌≡◌, ◌≢◌, ℕ, zero, suc, ◌-◌, ◌*◌, ◌^◌, ◌<◌, ◌≤◌, ◌==◌, ℤ, Bool, true, false, if◌then◌else◌, List, [], ◌∷◌, length, slice_get, slice_set, Option, None, Some, refl, ap, sym, subst, ◌∙◌, arith, eqb-true, ◌⊎◌, inl, inr}
use Rattle.std.proofs.lemmas.Bool.Decides.{nat_tests}
use Rattle.call_components.proofs.Lists.{slice_get-set_same, slice_get-set_other, some_within}
use Rattle.cti_terms.specs.Arithmetic.{kind_of}
use Rattle.cti_terms.specs.Listing.{Listing, IsClause, IsOrdinary}
use Rattle.cti_terms.specs.declared.builtins.Builtin.{Builtin}
use Rattle.cti_terms.specs.declared.clauses.Clause.{Clause}
use Rattle.cti_terms.specs.declared.predicates.Pred.{Pred}
use Rattle.linear_rows.specs.Plain.{plain_rows, HaveWidth}
use Rattle.linear_rows.specs.declared.row.Rows.{Rows}
use Rattle.termination_model.specs.chains.ChainSteps.{Step as PlainStep}
use Rattle.termination_model.specs.sizes.Sizes.{rows_of, plain_or_none}
use Rattle.size_chains.specs.declared.filled.Filled.{Filled}
use Rattle.size_chains.specs.declared.filled.Filled.TheVariants.{Bottom, Unknown, Inhabited}
use Rattle.size_chains.specs.declared.noting.Noted.{Noted}
use Rattle.size_chains.specs.declared.state.State.{State}
use Rattle.size_chains.specs.declared.value.Value.{Value}
use Rattle.size_chains.specs.Filling.{IsFilled, weight}
use Rattle.size_chains.specs.Noting.{IsNoted, HasRowsOf, note}
use Rattle.size_chains.specs.Proved.{IsProved}
use Rattle.size_chains.specs.Running.{IsTaken, rows_in}
use Rattle.size_chains.specs.States.{plain_step, value_weight, weights, IsValueOf, IsState, IfReplaced, IsAccepted}
use Rattle.size_chains.specs.Stepping.{rows_after, IfNew, IfNone}
use Rattle.size_chains.specs.Steps.{IsLegalStep}
use Rattle.size_chains.specs.Systems.{AreColumnsOf, AreSizes, Systems}

pub same_or_other : (a b : ℕ) → (a ≡ b) ⊎ (a ≡ b → ⊥)
same_or_other a b = go (a == b) refl
  where
    go : (x : Bool) → (a == b) ≡ x → (a ≡ b) ⊎ (a ≡ b → ⊥)
    go true e = inl (eqb-true a b e)
    go false e = inr (λ s. let t : false ≡ true = grind (arith, nat_tests) in cc)

-- ---- rows of which one list is set
pub length-set : {X : Type 0} (xs : List X) (i : ℕ) (x : X) → length (slice_set xs i x) ≡ length xs
length-set [] i x = refl
length-set (y ∷ xs) zero x = refl
length-set (y ∷ xs) (suc i) x = ap suc (length-set xs i x)

pub rows_set : (rows : List Rows) (q : ℕ) (r : Rows) → q < length rows → (x : ℕ) → rows_of (slice_set rows q r) x ≡ (if q == x then plain_rows r.list else rows_of rows x)
rows_set rows q r lt x = go (q == x) refl
  where
    go : (b : Bool) → (q == x) ≡ b → rows_of (slice_set rows q r) x ≡ (if b then plain_rows r.list else rows_of rows x)
    go true e = ap (rows_of (slice_set rows q r)) (sym (eqb-true q x e)) ∙ ap plain_or_none (slice_get-set_same rows q r lt)
    go false e = ap plain_or_none (slice_get-set_other rows q x r (λ s. let t : false ≡ true = grind (arith, nat_tests) in cc))

module _ {D : Type 0} (width : D → ℕ) (listed : D → List (List ℤ)) where
  weights_set : (vs : List (Value D)) (q : ℕ) (v w : Value D) → slice_get vs q ≡ Some v → value_weight width listed w < value_weight width listed v → weights width listed (slice_set vs q w) < weights width listed vs
  weights_set [] q v w e l = cc
  weights_set (x ∷ vs) zero v w e l = let same : x ≡ v = cc in let s : value_weight width listed x ≡ value_weight width listed v = ap (value_weight width listed) same in omega arith
  weights_set (x ∷ vs) (suc q) v w e l = let more = weights_set vs q v w e l in omega arith

  pub weights_few : (vs : List (Value D)) → ((q : ℕ) (v : Value D) → slice_get vs q ≡ Some v → value_weight width listed v ≤ 2 ^ 65) → weights width listed vs ≤ length vs * 2 ^ 65
  weights_few [] h = omega arith
  weights_few (x ∷ vs) h = let here = h zero x refl in let more = weights_few vs (λ q v e. h (suc q) v e) in omega arith

  -- ---- a clause's head in a state
  module _ (systems : Systems) (own : ℕ → Bool) (p : Listing) (s : State D) (state : IsState width listed systems own p s) (k : Clause) (is : IsClause p.preds k) (plain : IsOrdinary p.arithmetic k) where
    head_within : k.head.pred.0 < length p.preds
    head_within = some_within (λ (x : Pred). x.arity ≡ length k.head.args) p.preds k.head.pred.0 is.head.arity

    pub head_placed : k.head.pred.0 < length s.sizes.rows
    head_placed = let e = state.sizes.each in let l = head_within in omega arith

    pub head_valued : k.head.pred.0 < length s.values.items
    head_valued = let e = state.each in let l = head_within in omega arith

    pub head_rows : (of : AreColumnsOf systems k) → own k.head.pred.0 ≡ true → (v : Value D) → slice_get s.values.items k.head.pred.0 ≡ Some v → HasRowsOf (length (systems.heads k)) (rows_in s) k v.filled (width v.of) (listed v.of)
    head_rows of mine v at =
        let value = state.values k.head.pred.0 v at in
        let wide : width v.of ≡ length (systems.heads k) = sym value.columns ∙ of.each in
        record {
          rows_are = value.rows_are mine plain;
          width_is = wide;
          known = subst (λ (n : ℕ). IsFilled n v.filled (listed v.of)) wide value.known;
        }

  module _ (speaks : List ℤ → Bool) (systems : Systems) (own : ℕ → Bool) (p : Listing) (pass : ℕ) (old new : State D) (number : ℕ) (k : Clause) (is : IsClause p.preds k) (plain : IsOrdinary p.arithmetic k) (of : AreColumnsOf systems k) (state : IsState width listed systems own p old) (mine : own k.head.pred.0 ≡ true)
      (noted : Noted D) (v : Value D) (at : slice_get old.values.items k.head.pred.0 ≡ Some v)
      (noting : IsNoted width listed speaks systems pass (rows_in old) k number v.filled noted) (changed : Bool) (accepted : IsAccepted width listed k.head.pred.0 number noted old new changed) where
    abbrev q : ℕ
    q = k.head.pred.0

    abbrev rows : ℕ → List (List ℤ)
    rows = rows_in old

    abbrev next : Option D
    next = noted.stepped.next

    abbrev now : List (List ℤ)
    now = rows_after listed (rows q) next

    placed : q < length old.sizes.rows
    placed = head_placed systems own p old state k is plain

    valued : q < length old.values.items
    valued = head_valued systems own p old state k is plain

    -- the rows of each predicate after the step
    rows_new : (x : ℕ) → rows_in new x ≡ (if q == x then now else rows x)
    rows_new x = go next accepted.replaced
      where
        go : (next : Option D) → IfReplaced width listed q next noted.stepped.filled old new changed → rows_in new x ≡ (if q == x then rows_after listed (rows q) next else rows x)
        go None h = ap (λ (rs : List Rows). rows_of rs x) h.1 ∙ same (q == x) refl
          where
            same : (b : Bool) → (q == x) ≡ b → rows x ≡ (if b then rows q else rows x)
            same true e = ap rows (sym (eqb-true q x e))
            same false e = refl
        go (Some d) h =
            ap (λ (rs : List Rows). rows_of rs x) h.1.sizes ∙ rows_set old.sizes.rows q h.1.rows placed x
            ∙ ap (λ (rs : List (List ℤ)). if q == x then rs else rows x) h.1.rows_are

    own_rows : rows_in new q ≡ now
    own_rows = rows_new q ∙ (let t : (q == q) ≡ true = grind (arith, nat_tests) in ap (λ (b : Bool). if b then now else rows q) t)

    same_step : plain_step accepted.step ≡ note width listed speaks systems pass rows k number noted
    same_step = λ i. record {
      clause = accepted.clause i;
      image = plain_rows (accepted.image i);
      image_weak = accepted.image_weak i;
      how = accepted.how i;
      rows = (accepted.rows ∙ own_rows) i;
      weak = accepted.weak i;
    }

    unchanged : (next : Option D) → IfReplaced width listed q next noted.stepped.filled old new changed → changed ≡ false → rows_after listed (rows q) next ≡ rows q
    unchanged None h e = refl
    unchanged (Some d) h e = cc

    changes : (next : Option D) → IfReplaced width listed q next noted.stepped.filled old new changed → IfNew (λ d. listed d ≢ rows q) next → changed ≡ true → rows_after listed (rows q) next ≡ rows q → ⊥
    changes None h apart e = cc
    changes (Some d) h apart e = apart

    none_of : (P : Type 0) (next : Option D) → IfReplaced width listed q next noted.stepped.filled old new changed → IfNone P next → changed ≡ false → P
    none_of P None h none e = none
    none_of P (Some d) h none e = cc

    own_listed : listed v.of ≡ rows q
    own_listed = (state.values q v at).rows_are mine plain

    less : (next : Option D) → IfReplaced width listed q next noted.stepped.filled old new changed → IfNew (λ d. weight noted.stepped.filled (listed d) < weight v.filled (rows q)) next → changed ≡ true
        → weights width listed new.values.items < weights width listed old.values.items
    less None h falls e = cc
    less (Some d) h falls e =
        subst (λ (vs : List (Value D)). weights width listed vs < weights width listed old.values.items) (sym h.1.values)
        (weights_set old.values.items q v (record { of = d; filled = noted.stepped.filled }) at (subst (λ (rs : List (List ℤ)). weight noted.stepped.filled (listed d) < weight v.filled rs) (sym own_listed) falls))

    same_weights : (next : Option D) → IfReplaced width listed q next noted.stepped.filled old new changed → changed ≡ false → weights width listed new.values.items ≡ weights width listed old.values.items
    same_weights None h e = ap (weights width listed) h.2
    same_weights (Some d) h e = cc

    pub taken : IsTaken width listed speaks systems pass (number, k) old new changed
    taken = record {
      step = accepted.step;
      by = noted.stepped.by;
      steps = accepted.steps;
      clause = accepted.clause;
      legal = subst (IsLegalStep speaks systems pass rows k) (sym same_step) noting.legal;
      rows = λ i x. (rows_new x ∙ ap (λ (s : PlainStep). if q == x then s.rows else rows x) (sym same_step)) i;
      unchanged = λ e. ap (λ (s : PlainStep). s.rows) same_step ∙ unchanged next accepted.replaced e;
      changes = λ e h. changes next accepted.replaced noting.new e (sym (ap (λ (s : PlainStep). s.rows) same_step) ∙ h);
      less = λ late e. less next accepted.replaced (noting.less late) e;
      same = same_weights next accepted.replaced;
      proofs = accepted.proofs;
      proved = none_of (IsProved systems rows k noted.stepped.by) next accepted.replaced noting.shown;
    }

    -- ---- the state after it
    light : (filled : Filled) (rs : List (List ℤ)) → length rs < 2 ^ 64 → weight filled rs ≤ 2 ^ 65
    light Bottom rs l = omega arith
    light Unknown rs l = omega arith
    light Inhabited rs l = omega arith

    sizes_new : (next : Option D) → IfReplaced width listed q next noted.stepped.filled old new changed → IfNew (λ d. width d ≡ length (systems.heads k)) next → AreSizes systems p.preds new.sizes.rows
    sizes_new None h sized = subst (AreSizes systems p.preds) (sym h.1) state.sizes
    sizes_new (Some d) h sized = subst (AreSizes systems p.preds) (sym h.1.sizes) (record {
      each = length-set old.sizes.rows q h.1.rows ∙ state.sizes.each;
      width = λ x r e. go x r e (same_or_other x q);
    })
      where
        arity_is : (systems.width q ≡ h.1.rows.width) × HaveWidth h.1.rows.width h.1.rows.list
        arity_is = (of.each ∙ sym (h.1.width_is ∙ sized), subst (λ (n : ℕ). HaveWidth n h.1.rows.list) (sym h.1.width_is) h.1.long)

        go : (x : ℕ) (r : Rows) → slice_get (slice_set old.sizes.rows q h.1.rows) x ≡ Some r → (x ≡ q) ⊎ (x ≡ q → ⊥) → (systems.width x ≡ r.width) × HaveWidth r.width r.list
        go x r e (inl s) =
            let here : slice_get (slice_set old.sizes.rows q h.1.rows) x ≡ Some h.1.rows = ap (slice_get (slice_set old.sizes.rows q h.1.rows)) s ∙ slice_get-set_same old.sizes.rows q h.1.rows placed in
            let same : h.1.rows ≡ r = cc in
            subst (λ (y : Rows). (systems.width x ≡ y.width) × HaveWidth y.width y.list) same (subst (λ (y : ℕ). (systems.width y ≡ h.1.rows.width) × HaveWidth h.1.rows.width h.1.rows.list) (sym s) arity_is)
        go x r e (inr apart) = state.sizes.width x r (sym (slice_get-set_other old.sizes.rows q x h.1.rows apart) ∙ e)

    values_new : (next : Option D) → IfReplaced width listed q next noted.stepped.filled old new changed → IfNew (λ d. width d ≡ length (systems.heads k)) next
        → IsFilled (length (systems.heads k)) noted.stepped.filled (rows_after listed (rows q) next) → rows_in new q ≡ rows_after listed (rows q) next
        → (x : ℕ) (w : Value D) → slice_get new.values.items x ≡ Some w → IsValueOf width listed systems own (kind_of p.arithmetic x) (rows_in new) x w
    values_new None h sized known now_are x w e =
        subst (λ (f : ℕ → List (List ℤ)). IsValueOf width listed systems own (kind_of p.arithmetic x) f x w) (sym (ap rows_of h.1)) (state.values x w (sym (ap (λ (vs : List (Value D)). slice_get vs x) h.2) ∙ e))
    values_new (Some d) h sized known now_are x w e = go (same_or_other x q)
      where
        there : slice_get (slice_set old.values.items q (record { of = d; filled = noted.stepped.filled })) x ≡ Some w
        there = sym (ap (λ (vs : List (Value D)). slice_get vs x) h.1.values) ∙ e

        go : (x ≡ q) ⊎ (x ≡ q → ⊥) → IsValueOf width listed systems own (kind_of p.arithmetic x) (rows_in new) x w
        go (inl s) =
            let here : slice_get (slice_set old.values.items q (record { of = d; filled = noted.stepped.filled })) x ≡ Some (record { of = d; filled = noted.stepped.filled }) =
            ap (slice_get (slice_set old.values.items q (record { of = d; filled = noted.stepped.filled }))) s ∙ slice_get-set_same old.values.items q (record { of = d; filled = noted.stepped.filled }) valued in
            let same : record { of = d; filled = noted.stepped.filled } ≡ w = cc in
            subst (IsValueOf width listed systems own (kind_of p.arithmetic x) (rows_in new) x) same (subst (λ (y : ℕ). IsValueOf width listed systems own (kind_of p.arithmetic y) (rows_in new) y (record { of = d; filled = noted.stepped.filled })) (sym s) (record {
              rows_are = λ o none. sym now_are;
              columns = of.each ∙ sym sized;
              known = subst (λ (n : ℕ). IsFilled n noted.stepped.filled (listed d)) (sym sized) known;
              light = light noted.stepped.filled (listed d) h.1.few;
            }))
        go (inr apart) =
            let before = state.values x w (sym (slice_get-set_other old.values.items q x (record { of = d; filled = noted.stepped.filled }) apart) ∙ there) in
            let t : (q == x) ≡ false = grind (arith, nat_tests) in
            let rows_same : rows_in new x ≡ rows x = rows_new x ∙ ap (λ (b : Bool). if b then now else rows x) t in
            record { rows_are = λ o none. before.rows_are o none ∙ sym rows_same; columns = before.columns; known = before.known; light = before.light }

    pub state_new : IsState width listed systems own p new
    state_new = record {
      sizes = sizes_new next accepted.replaced noting.sized;
      each = counts next accepted.replaced ∙ state.each;
      values = values_new next accepted.replaced noting.sized noting.known own_rows;
      stated = stated_new;
      proofs = ap length accepted.proofs ∙ length-set old.proofs.items (number - 1) noted.stepped.by ∙ state.proofs;
    }
      where
        stated_new : (x : ℕ) (b : Builtin) → own x ≡ true → kind_of p.arithmetic x ≡ Some b → rows_in new x ≡ systems.stated b
        stated_new x b o is =
            let apart : (q == x) ≡ false = go (q == x) refl in
            rows_new x ∙ ap (λ (t : Bool). if t then now else rows x) apart ∙ state.stated x b o is
          where
            go : (o : Bool) → (q == x) ≡ o → o ≡ false
            go true e = let same = eqb-true q x e in let f = sym plain ∙ ap (kind_of p.arithmetic) same ∙ is in cc
            go false e = refl

        counts : (next : Option D) → IfReplaced width listed q next noted.stepped.filled old new changed → length new.values.items ≡ length old.values.items
        counts None h = ap length h.2
        counts (Some d) h = ap length h.1.values ∙ length-set old.values.items q (record { of = d; filled = noted.stepped.filled })
