-- A chain's state at the start.
use Rattle.std.proofs.Common.{◌≡◌, ℕ, zero, suc, ◌+◌, ◌^◌, ◌<◌, ◌≤◌, ℤ, ◌⊎◌, inl, inr, List, [], ◌∷◌, ◌++◌, length, slice_get, slice_set, Option, None, Some, refl, ap, sym, subst, ◌∙◌, arith}
use Rattle.call_components.proofs.Lists.{slice_get-set_same, slice_get-set_other, some_within}
use Rattle.cti_terms.specs.Arithmetic.{kind_of}
use Rattle.cti_terms.specs.Listing.{IsProgram, Listing}
use Rattle.cti_terms.specs.declared.builtins.Builtin.{Builtin}
use Rattle.cti_terms.specs.declared.predicates.Pred.{Pred}
use Rattle.linear_rows.specs.Plain.{plain_rows, HaveWidth}
use Rattle.linear_rows.specs.declared.row.Rows.{Rows}
use Rattle.termination_model.specs.chains.ChainRows.{bottom_row}
use Rattle.termination_model.specs.sizes.Sizes.{plain_or_none, rows_of}
use Rattle.size_chains.specs.declared.filled.Filled.{Filled}
use Rattle.size_chains.specs.declared.filled.Filled.TheVariants.{Bottom}
use Rattle.size_chains.specs.declared.state.State.{State}
use Rattle.size_chains.specs.declared.value.Value.{Value}
use Rattle.size_chains.specs.Filling.{IsFilled, weight}
use Rattle.size_chains.specs.States.{AreStarts, AreStatedTo, IsAdded, IsFresh, IsStart, IsState, IsStatedAt, IsValueOf, every, value_weight}
use Rattle.size_chains.proofs.Taking.{same_or_other, length-set}
use Rattle.size_chains.specs.Chains.{start_as, start_or_none, start_rows}
use Rattle.size_chains.specs.Systems.{AreSizes, Systems}
use Rattle.component_clauses.proofs.OwnClauses.{some_at}
use Rattle.termination_model.proofs.Lists.{place_below}
use Rattle.size_chains.proofs.Repeats.{got_last}

module _ {D : Type 0} (width : D → ℕ) (listed : D → List (List ℤ)) where
  pub start_of : (n : ℕ) (from rows : Rows) (d : D) → rows ≡ from → from.width ≡ width d → HaveWidth from.width from.list → plain_rows from.list ≡ listed d → width d ≡ n → listed d ≡ bottom_row n ∷ []
      → IsStart width listed n rows (record { of = d; filled = Bottom })
  start_of n from rows d copied wide long list arity bottom = subst (λ (r : Rows). IsStart width listed n r (record { of = d; filled = Bottom })) (sym copied) (record {
    width_is = wide ∙ arity;
    long = subst (λ (k : ℕ). HaveWidth k from.list) (wide ∙ arity) long;
    rows_are = sym list;
    value_width = arity;
    bottom = bottom;
    filled = refl;
  })

  first_value : (n : ℕ) (rows : Rows) (v : Value D) → IsStart width listed n rows v → IsFilled (width v.of) v.filled (listed v.of) × (value_weight width listed v ≤ 2 ^ 65)
  first_value n rows v s =
      let bottom : IsFilled (width v.of) Bottom (listed v.of) = subst (λ (k : ℕ). IsFilled k Bottom (listed v.of)) (sym s.value_width) s.bottom in
      let heavy : value_weight width listed v ≡ 2 ^ 65 = ap (λ (f : Filled). weight f (listed v.of)) s.filled in
      (subst (λ (f : Filled). IsFilled (width v.of) f (listed v.of)) (sym s.filled) bottom, omega arith)

  module _ (systems : Systems) where
    pub starts_none : (rows : List Rows) (vs : List (Value D)) → rows ≡ [] → vs ≡ [] → AreStarts width listed systems 0 rows vs
    starts_none rows vs er ev = record {
      rows_count = ap length er;
      values_count = ap length ev;
      starts = λ q r v at there. absurd (nothing q r (sym (ap (λ (xs : List Rows). slice_get xs q) er) ∙ at));
    }
      where
        nothing : (q : ℕ) (r : Rows) → slice_get [] q ≡ Some r → ⊥
        nothing zero r e = cc
        nothing (suc q) r e = cc

    pub starts_more : (n : ℕ) (rs : List Rows) (vs : List (Value D)) (r : Rows) (v : Value D) → AreStarts width listed systems n rs vs → IsStart width listed (systems.width n) r v
        → AreStarts width listed systems (n + 1) (rs ++ r ∷ []) (vs ++ v ∷ [])
    starts_more n rs vs r v a s = record {
      rows_count = longer rs r ∙ ap (λ (k : ℕ). k + 1) a.rows_count;
      values_count = longer vs v ∙ ap (λ (k : ℕ). k + 1) a.values_count;
      starts = λ q x w at there. go q x w (got_last rs r x q at) (got_last vs v w q there);
    }
      where
        longer : {X : Type 0} (xs : List X) (x : X) → length (xs ++ x ∷ []) ≡ length xs + 1
        longer [] x = omega arith
        longer (y ∷ xs) x = let more = longer xs x in omega arith

        go : (q : ℕ) (x : Rows) (w : Value D) → ((q < length rs) × (slice_get rs q ≡ Some x)) ⊎ ((q ≡ length rs) × (r ≡ x)) → ((q < length vs) × (slice_get vs q ≡ Some w)) ⊎ ((q ≡ length vs) × (v ≡ w)) → IsStart width listed (systems.width q) x w
        go q x w (inl at) (inl there) = a.starts q x w at.1 there.1
        go q x w (inl at) (inr there) = absurd (omega (arith, at.0, there.0, a.rows_count, a.values_count))
        go q x w (inr at) (inl there) = absurd (omega (arith, at.0, there.0, a.rows_count, a.values_count))
        go q x w (inr at) (inr there) =
            let e : n ≡ q = sym (at.0 ∙ a.rows_count) in
            subst (λ (k : ℕ). IsStart width listed (systems.width k) x w) e (subst (IsStart width listed (systems.width n) x) there.1 (subst (λ (y : Rows). IsStart width listed (systems.width n) y v) at.1 s))

    module _ (preds : List Pred) (rs : List Rows) (vs : List (Value D)) (a : AreStarts width listed systems (length preds) rs vs) where
      value_there : (q : ℕ) (r : Rows) → slice_get rs q ≡ Some r → (v : Value D) × (slice_get vs q ≡ Some v)
      value_there q r at = some_at vs q (omega (arith, place_below rs q r at, a.rows_count, a.values_count))

      starts_rows : (q : ℕ) → rows_of rs q ≡ start_or_none systems q (slice_get preds q)
      starts_rows q = go (slice_get rs q) refl (slice_get preds q) refl
        where
          go : (o : Option Rows) → slice_get rs q ≡ o → (x : Option Pred) → slice_get preds q ≡ x → rows_of rs q ≡ start_or_none systems q (slice_get preds q)
          go None e None f = ap plain_or_none e ∙ ap (start_or_none systems q) (sym f)
          go None e (Some p) f =
              let lt = place_below preds q p f in
              let found = some_at rs q (omega (arith, lt, a.rows_count)) in
              let other = found.1 in
              absurd (cc)
          go (Some r) e None f =
              let lt = place_below rs q r e in
              let found = some_at preds q (omega (arith, lt, a.rows_count)) in
              let other = found.1 in
              absurd (cc)
          go (Some r) e (Some p) f =
              let v = value_there q r e in
              let s = a.starts q r v.0 e v.1 in
              ap plain_or_none e ∙ sym s.rows_are ∙ s.bottom ∙ ap (start_or_none systems q) (sym f)

      starts_widths : (q : ℕ) (r : Rows) → slice_get rs q ≡ Some r → (systems.width q ≡ r.width) × HaveWidth r.width r.list
      starts_widths q r at =
          let v = value_there q r at in
          let s = a.starts q r v.0 at v.1 in
          (sym s.width_is, subst (λ (n : ℕ). HaveWidth n r.list) (sym s.width_is) s.long)

      starts_values : (q : ℕ) (v : Value D) → slice_get vs q ≡ Some v → IsValueOf width listed systems every None (rows_of rs) q v
      starts_values q v at =
          let r = some_at rs q (omega (arith, place_below vs q v at, a.rows_count, a.values_count)) in
          let s = a.starts q r.0 v r.1 at in
          let first = first_value (systems.width q) r.0 v s in
          record { rows_are = λ o none. s.rows_are ∙ sym (ap plain_or_none r.1); columns = sym s.value_width; known = first.0; light = first.1 }

    -- no stated rows are put in yet
    pub stated_none : (p : Listing) (s : State D) → AreStarts width listed systems (length p.preds) s.sizes.rows s.values.items → AreStatedTo width listed systems p 0 s
    stated_none p s a =
        record {
          sizes = record { each = a.rows_count; width = starts_widths p.preds s.sizes.rows s.values.items a };
          each = a.values_count;
          values = λ q v at. let h = starts_values p.preds s.sizes.rows s.values.items a q v at in record { rows_are = λ o none. h.rows_are o refl; columns = h.columns; known = h.known; light = h.light };
          stated = λ q b lt is. absurd (omega (arith, lt));
          others = λ q is. starts_rows p.preds s.sizes.rows s.values.items a q;
        }

    -- a predicate that is not built in stays
    pub stated_past : (p : Listing) (n : ℕ) (s : State D) → kind_of p.arithmetic n ≡ None → AreStatedTo width listed systems p n s → AreStatedTo width listed systems p (n + 1) s
    stated_past p n s none h = record {
      sizes = h.sizes;
      each = h.each;
      values = h.values;
      stated = λ q b lt is. elim (same_or_other q n) [
        | inl same ↦ let f = sym none ∙ sym (ap (kind_of p.arithmetic) same) ∙ is in cc
        | inr apart ↦ h.stated q b (omega (arith, lt, apart)) is
      ];
      others = h.others;
    }

    -- and one that is has its stated rows
    pub stated_more : (p : Listing) (prog : IsProgram p) (n : ℕ) (kind : Builtin) (s t : State D) → kind_of p.arithmetic n ≡ Some kind → n < length p.preds → AreStatedTo width listed systems p n s → IsStatedAt width listed systems n kind s t → AreStatedTo width listed systems p (n + 1) t
    stated_more p prog n kind s t is lt h put = record {
      sizes = subst (AreSizes systems p.preds) (sym put.sizes) (record { each = length-set s.sizes.rows n put.rows ∙ h.sizes.each; width = λ q r at. sized q r at (same_or_other q n) });
      each = ap length put.values ∙ h.each;
      values = λ q v at.
          let before = h.values q v (sym (ap (λ (vs : List (Value D)). slice_get vs q) put.values) ∙ at) in
          record { rows_are = λ o none. before.rows_are o none ∙ sym (rows_other q (λ same. let f = sym none ∙ ap (kind_of p.arithmetic) same ∙ is in cc)); columns = before.columns; known = before.known; light = before.light };
      stated = λ q b below built. elim (same_or_other q n) [
        | inl same ↦
            let kinds : kind ≡ b = let e = sym is ∙ ap (kind_of p.arithmetic) (sym same) ∙ built in cc in
            ap (rows_of t.sizes.rows) same ∙ rows_here ∙ ap systems.stated kinds
        | inr apart ↦ rows_other q apart ∙ h.stated q b (omega (arith, below, apart)) built
      ];
      others = λ q none. rows_other q (λ same. let f = sym none ∙ ap (kind_of p.arithmetic) same ∙ is in cc) ∙ h.others q none;
    }
      where
        placed : n < length s.sizes.rows
        placed = omega (arith, lt, h.sizes.each)

        rows_here : rows_of t.sizes.rows n ≡ systems.stated kind
        rows_here = ap (λ (rs : List Rows). rows_of rs n) put.sizes ∙ ap plain_or_none (slice_get-set_same s.sizes.rows n put.rows placed) ∙ put.rows_are

        rows_other : (q : ℕ) → (q ≡ n → ⊥) → rows_of t.sizes.rows q ≡ rows_of s.sizes.rows q
        rows_other q apart = ap (λ (rs : List Rows). rows_of rs q) put.sizes ∙ ap plain_or_none (slice_get-set_other s.sizes.rows n q put.rows apart)

        own : (systems.width n ≡ put.rows.width) × HaveWidth put.rows.width put.rows.list
        own = (sym put.width_is, put.long)

        sized : (q : ℕ) (r : Rows) → slice_get (slice_set s.sizes.rows n put.rows) q ≡ Some r → (q ≡ n) ⊎ (q ≡ n → ⊥) → (systems.width q ≡ r.width) × HaveWidth r.width r.list
        sized q r at (inl same) =
            let here : slice_get (slice_set s.sizes.rows n put.rows) q ≡ Some put.rows = ap (slice_get (slice_set s.sizes.rows n put.rows)) same ∙ slice_get-set_same s.sizes.rows n put.rows placed in
            let is_rows : put.rows ≡ r = cc in
            subst (λ (y : Rows). (systems.width q ≡ y.width) × HaveWidth y.width y.list) is_rows (subst (λ (y : ℕ). (systems.width y ≡ put.rows.width) × HaveWidth put.rows.width put.rows.list) (sym same) own)
        sized q r at (inr apart) = h.sizes.width q r (sym (slice_get-set_other s.sizes.rows n q put.rows apart) ∙ at)

    module _ (p : Listing) (s : State D) (h : AreStatedTo width listed systems p (length p.preds) s) (prog : IsProgram p) where
      below : (q : ℕ) (b : Builtin) → kind_of p.arithmetic q ≡ Some b → q < length p.preds
      below q b is = some_within (λ (d : Pred). d.arity ≡ 2) p.preds q (prog.binary q b is)

      pub start_state : length s.proofs.items ≡ length p.clauses → IsState width listed systems every p s
      start_state proofs = record { sizes = h.sizes; each = h.each; values = h.values; stated = λ q b o is. h.stated q b (below q b is) is; proofs = proofs }

      pub rows_start : rows_of s.sizes.rows ≡ start_rows systems p
      rows_start = λ i q. at q (kind_of p.arithmetic q) refl i
        where
          at : (q : ℕ) (o : Option Builtin) → kind_of p.arithmetic q ≡ o → rows_of s.sizes.rows q ≡ start_as systems q (kind_of p.arithmetic q) (slice_get p.preds q)
          at q None is = h.others q is ∙ ap (λ (o : Option Builtin). start_as systems q o (slice_get p.preds q)) (sym is)
          at q (Some b) is = h.stated q b (below q b is) is ∙ ap (λ (o : Option Builtin). start_as systems q o (slice_get p.preds q)) (sym is)

    pub stated_later : (p : Listing) (n : ℕ) (s t : State D) → AreStatedTo width listed systems p n s → t.sizes ≡ s.sizes → t.values ≡ s.values → AreStatedTo width listed systems p n t
    stated_later p n s t h sizes values =
        let rows : t.sizes.rows ≡ s.sizes.rows = λ i. (sizes i).rows in
        let own : t.values.items ≡ s.values.items = λ i. (values i).items in
        record {
          sizes = subst (AreSizes systems p.preds) (sym rows) h.sizes;
          each = ap length own ∙ h.each;
          values = λ q v at. subst (λ (rs : List Rows). IsValueOf width listed systems every (kind_of p.arithmetic q) (rows_of rs) q v) (sym rows) (h.values q v (sym (ap (λ (vs : List (Value D)). slice_get vs q) own) ∙ at));
          stated = λ q b lt is. ap (λ (rs : List Rows). rows_of rs q) rows ∙ h.stated q b lt is;
          others = λ q is. ap (λ (rs : List Rows). rows_of rs q) rows ∙ h.others q is;
        }

    pub fresh_later : (preds : List Pred) (s t : State D) → IsFresh width listed systems preds s → t.sizes ≡ s.sizes → t.values ≡ s.values → IsFresh width listed systems preds t
    fresh_later preds s t fresh sizes values =
        let rows : t.sizes.rows ≡ s.sizes.rows = λ i. (sizes i).rows in
        let own : t.values.items ≡ s.values.items = λ i. (values i).items in
        subst (λ (rs : List Rows). AreStarts width listed systems (length preds) rs t.values.items) (sym rows) (subst (λ (vs : List (Value D)). AreStarts width listed systems (length preds) s.sizes.rows vs) (sym own) fresh)

    pub added_more : (n : ℕ) (old new : State D) → AreStarts width listed systems n old.sizes.rows old.values.items → IsAdded width listed (systems.width n) old new
        → AreStarts width listed systems (n + 1) new.sizes.rows new.values.items
    added_more n old new starts a =
        subst (λ (rs : List Rows). AreStarts width listed systems (n + 1) rs new.values.items) (sym a.sizes)
        (subst (λ (vs : List (Value D)). AreStarts width listed systems (n + 1) (old.sizes.rows ++ a.rows ∷ []) vs) (sym a.values)
        (starts_more n old.sizes.rows old.values.items a.rows a.value starts a.start))
