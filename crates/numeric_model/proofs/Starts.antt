-- A chain's state at the start.
use Rattle.std.proofs.Common.{◌≡◌, ℕ, zero, suc, ◌+◌, ◌^◌, ◌<◌, ◌≤◌, ℤ, ◌⊎◌, inl, inr, List, [], ◌∷◌, ◌++◌, length, slice_get, slice_set, Option, None, Some, refl, ap, sym, subst, ◌∙◌, arith}
use Rattle.call_components.proofs.Lists.{slice_get-set_same, slice_get-set_other, some_within}
use Rattle.cti_terms.specs.Arithmetic.{kind_of}
use Rattle.cti_terms.specs.Listing.{IsProgram, Listing}
use Rattle.cti_terms.specs.declared.builtins.Builtin.{Builtin}
use Rattle.cti_terms.specs.declared.predicates.Pred.{Pred}
use Rattle.linear_rows.specs.Plain.{plain_rows, HaveWidth}
use Rattle.linear_rows.specs.declared.row.Rows.{Rows}
use Rattle.termination_model.specs.chains.Chain.{start_as, start_rows, start_or_none}
use Rattle.termination_model.specs.chains.ChainRows.{bottom_row}
use Rattle.termination_model.specs.grounds.Grounds.{HasArity}
use Rattle.termination_model.specs.sizes.Sizes.{AreSizes, plain_or_none, rows_of}
use Rattle.termination_model.specs.sizes.Stated.{stated_rows}
use Rattle.numeric_model.specs.declared.filled.Filled.{Filled}
use Rattle.numeric_model.specs.declared.filled.Filled.TheVariants.{Bottom}
use Rattle.numeric_model.specs.declared.state.State.{State}
use Rattle.numeric_model.specs.declared.value.Value.{Value}
use Rattle.numeric_model.specs.Filling.{IsFilled, weight}
use Rattle.numeric_model.specs.States.{AreStarts, AreStatedTo, IsAdded, IsFresh, IsStart, IsState, IsStatedAt, IsValueOf, every, value_weight}
use Rattle.numeric_model.proofs.Taking.{same_or_other, length-set}

module _ {D : Type 0} (width : D → ℕ) (listed : D → List (List ℤ)) where
  pub start_of : (n : ℕ) (from rows : Rows) (d : D) → rows ≡ from → from.width ≡ width d → HaveWidth from.width from.list → plain_rows from.list ≡ listed d → width d ≡ n → listed d ≡ bottom_row n ∷ []
      → IsStart width listed n rows (record { of = d; filled = Bottom })
  start_of n from rows d copied wide long list arity bottom = subst (λ (r : Rows). IsStart width listed n r (record { of = d; filled = Bottom })) (sym copied) (record {
    width_is = wide ∙ arity;
    long = subst (λ (k : ℕ). HaveWidth k from.list) (wide ∙ arity) long;
    rows_are = sym list;
    value_width = arity;
    bottom = bottom;
    filled = refl;
  })

  pub starts_more : (ps : List Pred) (rs : List Rows) (vs : List (Value D)) (p : Pred) (r : Rows) (v : Value D)
      → AreStarts width listed ps rs vs → IsStart width listed p.arity r v → AreStarts width listed (ps ++ p ∷ []) (rs ++ r ∷ []) (vs ++ v ∷ [])
  starts_more [] [] [] p r v a s = (s, tt)
  starts_more [] [] (w ∷ vs) p r v a s = absurd a
  starts_more [] (x ∷ rs) vs p r v a s = absurd a
  starts_more (q ∷ ps) [] vs p r v a s = absurd a
  starts_more (q ∷ ps) (x ∷ rs) [] p r v a s = absurd a
  starts_more (q ∷ ps) (x ∷ rs) (w ∷ vs) p r v a s = (a.0, starts_more ps rs vs p r v a.1 s)

  starts_rows : (ps : List Pred) (rs : List Rows) (vs : List (Value D)) → AreStarts width listed ps rs vs → (q : ℕ) → rows_of rs q ≡ start_or_none (slice_get ps q)
  starts_rows [] [] [] a q = refl
  starts_rows [] [] (w ∷ vs) a q = absurd a
  starts_rows [] (x ∷ rs) vs a q = absurd a
  starts_rows (p ∷ ps) [] vs a q = absurd a
  starts_rows (p ∷ ps) (x ∷ rs) [] a q = absurd a
  starts_rows (p ∷ ps) (x ∷ rs) (w ∷ vs) a zero = sym a.0.rows_are ∙ a.0.bottom
  starts_rows (p ∷ ps) (x ∷ rs) (w ∷ vs) a (suc q) = starts_rows ps rs vs a.1 q

  starts_counts : (ps : List Pred) (rs : List Rows) (vs : List (Value D)) → AreStarts width listed ps rs vs → (length rs ≡ length ps) × (length vs ≡ length ps)
  starts_counts [] [] [] a = (refl, refl)
  starts_counts [] [] (w ∷ vs) a = absurd a
  starts_counts [] (x ∷ rs) vs a = absurd a
  starts_counts (p ∷ ps) [] vs a = absurd a
  starts_counts (p ∷ ps) (x ∷ rs) [] a = absurd a
  starts_counts (p ∷ ps) (x ∷ rs) (w ∷ vs) a = let more = starts_counts ps rs vs a.1 in (ap suc more.0, ap suc more.1)

  starts_widths : (ps : List Pred) (rs : List Rows) (vs : List (Value D)) → AreStarts width listed ps rs vs → (q : ℕ) (r : Rows) → slice_get rs q ≡ Some r → HasArity ps q r.width × HaveWidth r.width r.list
  starts_widths [] [] [] a q r e = cc
  starts_widths [] [] (w ∷ vs) a q r e = absurd a
  starts_widths [] (x ∷ rs) vs a q r e = absurd a
  starts_widths (p ∷ ps) [] vs a q r e = absurd a
  starts_widths (p ∷ ps) (x ∷ rs) [] a q r e = absurd a
  starts_widths (p ∷ ps) (x ∷ rs) (w ∷ vs) a zero r e =
      let same : x ≡ r = cc in
      subst (λ (y : Rows). (p.arity ≡ y.width) × HaveWidth y.width y.list) same (sym a.0.width_is, subst (λ (n : ℕ). HaveWidth n x.list) (sym a.0.width_is) a.0.long)
  starts_widths (p ∷ ps) (x ∷ rs) (w ∷ vs) a (suc q) r e = starts_widths ps rs vs a.1 q r e

  abbrev IsFirst : List Pred → List Rows → ℕ → Value D → Type 0
  IsFirst ps rs q v = IsValueOf width listed every ps None (rows_of rs) q v

  first_value : (n : ℕ) (rows : Rows) (v : Value D) → IsStart width listed n rows v → IsFilled (width v.of) v.filled (listed v.of) × (value_weight width listed v ≤ 2 ^ 65)
  first_value n rows v s =
      let bottom : IsFilled (width v.of) Bottom (listed v.of) = subst (λ (k : ℕ). IsFilled k Bottom (listed v.of)) (sym s.value_width) s.bottom in
      let heavy : value_weight width listed v ≡ 2 ^ 65 = ap (λ (f : Filled). weight f (listed v.of)) s.filled in
      (subst (λ (f : Filled). IsFilled (width v.of) f (listed v.of)) (sym s.filled) bottom, omega arith)

  starts_values : (ps : List Pred) (rs : List Rows) (vs : List (Value D)) → AreStarts width listed ps rs vs → (q : ℕ) (v : Value D) → slice_get vs q ≡ Some v → IsFirst ps rs q v
  starts_values [] [] [] a q v e = cc
  starts_values [] [] (w ∷ vs) a q v e = absurd a
  starts_values [] (x ∷ rs) vs a q v e = absurd a
  starts_values (p ∷ ps) [] vs a q v e = absurd a
  starts_values (p ∷ ps) (x ∷ rs) [] a q v e = absurd a
  starts_values (p ∷ ps) (x ∷ rs) (w ∷ vs) a zero v e =
      let same : w ≡ v = cc in
      let first = first_value p.arity x w a.0 in
      subst (IsFirst (p ∷ ps) (x ∷ rs) zero) same (record { rows_are = λ o none. a.0.rows_are; arity = sym a.0.value_width; known = first.0; light = first.1 })
  starts_values (p ∷ ps) (x ∷ rs) (w ∷ vs) a (suc q) v e =
      let h = starts_values ps rs vs a.1 q v e in
      record { rows_are = h.rows_are; arity = h.arity; known = h.known; light = h.light }

  -- no stated rows are put in yet
  pub stated_none : (p : Listing) (s : State D) → AreStarts width listed p.preds s.sizes.rows s.values.items → AreStatedTo width listed p 0 s
  stated_none p s a =
      let counts = starts_counts p.preds s.sizes.rows s.values.items a in
      record {
        sizes = record { each = counts.0; width = starts_widths p.preds s.sizes.rows s.values.items a };
        each = counts.1;
        values = λ q v at. let h = starts_values p.preds s.sizes.rows s.values.items a q v at in record { rows_are = λ o none. h.rows_are o refl; arity = h.arity; known = h.known; light = h.light };
        stated = λ q b lt is. absurd (omega (arith, lt));
        others = λ q is. starts_rows p.preds s.sizes.rows s.values.items a q;
      }

  -- a predicate that is not built in stays
  pub stated_past : (p : Listing) (n : ℕ) (s : State D) → kind_of p.arithmetic n ≡ None → AreStatedTo width listed p n s → AreStatedTo width listed p (n + 1) s
  stated_past p n s none h = record {
    sizes = h.sizes;
    each = h.each;
    values = h.values;
    stated = λ q b lt is. elim (same_or_other q n) [
      | inl same ↦ let f = sym none ∙ sym (ap (kind_of p.arithmetic) same) ∙ is in cc
      | inr apart ↦ h.stated q b (omega (arith, lt, apart)) is
    ];
    others = h.others;
  }

  -- and one that is has its stated rows
  pub stated_more : (p : Listing) (prog : IsProgram p) (n : ℕ) (kind : Builtin) (s t : State D) → kind_of p.arithmetic n ≡ Some kind → n < length p.preds → AreStatedTo width listed p n s → IsStatedAt width listed n kind s t → AreStatedTo width listed p (n + 1) t
  stated_more p prog n kind s t is lt h put = record {
    sizes = subst (AreSizes p.preds) (sym put.sizes) (record { each = length-set s.sizes.rows n put.rows ∙ h.sizes.each; width = λ q r at. sized q r at (same_or_other q n) });
    each = ap length put.values ∙ h.each;
    values = λ q v at.
        let before = h.values q v (sym (ap (λ (vs : List (Value D)). slice_get vs q) put.values) ∙ at) in
        record { rows_are = λ o none. before.rows_are o none ∙ sym (rows_other q (λ same. let f = sym none ∙ ap (kind_of p.arithmetic) same ∙ is in cc)); arity = before.arity; known = before.known; light = before.light };
    stated = λ q b below built. elim (same_or_other q n) [
      | inl same ↦
          let kinds : kind ≡ b = let e = sym is ∙ ap (kind_of p.arithmetic) (sym same) ∙ built in cc in
          ap (rows_of t.sizes.rows) same ∙ rows_here ∙ ap stated_rows kinds
      | inr apart ↦ rows_other q apart ∙ h.stated q b (omega (arith, below, apart)) built
    ];
    others = λ q none. rows_other q (λ same. let f = sym none ∙ ap (kind_of p.arithmetic) same ∙ is in cc) ∙ h.others q none;
  }
    where
      placed : n < length s.sizes.rows
      placed = omega (arith, lt, h.sizes.each)

      rows_here : rows_of t.sizes.rows n ≡ stated_rows kind
      rows_here = ap (λ (rs : List Rows). rows_of rs n) put.sizes ∙ ap plain_or_none (slice_get-set_same s.sizes.rows n put.rows placed) ∙ put.rows_are

      rows_other : (q : ℕ) → (q ≡ n → ⊥) → rows_of t.sizes.rows q ≡ rows_of s.sizes.rows q
      rows_other q apart = ap (λ (rs : List Rows). rows_of rs q) put.sizes ∙ ap plain_or_none (slice_get-set_other s.sizes.rows n q put.rows apart)

      own : HasArity p.preds n put.rows.width × HaveWidth put.rows.width put.rows.list
      own = (subst (HasArity p.preds n) (sym put.width_is) (prog.binary n kind is), subst (λ (k : ℕ). HaveWidth k put.rows.list) (sym put.width_is) put.long)

      sized : (q : ℕ) (r : Rows) → slice_get (slice_set s.sizes.rows n put.rows) q ≡ Some r → (q ≡ n) ⊎ (q ≡ n → ⊥) → HasArity p.preds q r.width × HaveWidth r.width r.list
      sized q r at (inl same) =
          let here : slice_get (slice_set s.sizes.rows n put.rows) q ≡ Some put.rows = ap (slice_get (slice_set s.sizes.rows n put.rows)) same ∙ slice_get-set_same s.sizes.rows n put.rows placed in
          let is_rows : put.rows ≡ r = cc in
          subst (λ (y : Rows). HasArity p.preds q y.width × HaveWidth y.width y.list) is_rows (subst (λ (y : ℕ). HasArity p.preds y put.rows.width × HaveWidth put.rows.width put.rows.list) (sym same) own)
      sized q r at (inr apart) = h.sizes.width q r (sym (slice_get-set_other s.sizes.rows n q put.rows apart) ∙ at)

  module _ (p : Listing) (s : State D) (h : AreStatedTo width listed p (length p.preds) s) (prog : IsProgram p) where
    below : (q : ℕ) (b : Builtin) → kind_of p.arithmetic q ≡ Some b → q < length p.preds
    below q b is = some_within (λ (d : Pred). d.arity ≡ 2) p.preds q (prog.binary q b is)

    pub start_state : length s.proofs.items ≡ length p.clauses → IsState width listed every p s
    start_state proofs = record { sizes = h.sizes; each = h.each; values = h.values; stated = λ q b o is. h.stated q b (below q b is) is; proofs = proofs }

    pub rows_start : rows_of s.sizes.rows ≡ start_rows p
    rows_start = λ i q. at q (kind_of p.arithmetic q) refl i
      where
        at : (q : ℕ) (o : Option Builtin) → kind_of p.arithmetic q ≡ o → rows_of s.sizes.rows q ≡ start_as (kind_of p.arithmetic q) (slice_get p.preds q)
        at q None is = h.others q is ∙ ap (λ (o : Option Builtin). start_as o (slice_get p.preds q)) (sym is)
        at q (Some b) is = h.stated q b (below q b is) is ∙ ap (λ (o : Option Builtin). start_as o (slice_get p.preds q)) (sym is)

  pub stated_later : (p : Listing) (n : ℕ) (s t : State D) → AreStatedTo width listed p n s → t.sizes ≡ s.sizes → t.values ≡ s.values → AreStatedTo width listed p n t
  stated_later p n s t h sizes values =
      let rows : t.sizes.rows ≡ s.sizes.rows = λ i. (sizes i).rows in
      let own : t.values.items ≡ s.values.items = λ i. (values i).items in
      record {
        sizes = subst (AreSizes p.preds) (sym rows) h.sizes;
        each = ap length own ∙ h.each;
        values = λ q v at. subst (λ (rs : List Rows). IsValueOf width listed every p.preds (kind_of p.arithmetic q) (rows_of rs) q v) (sym rows) (h.values q v (sym (ap (λ (vs : List (Value D)). slice_get vs q) own) ∙ at));
        stated = λ q b lt is. ap (λ (rs : List Rows). rows_of rs q) rows ∙ h.stated q b lt is;
        others = λ q is. ap (λ (rs : List Rows). rows_of rs q) rows ∙ h.others q is;
      }

  pub fresh_later : (preds : List Pred) (s t : State D) → IsFresh width listed preds s → t.sizes ≡ s.sizes → t.values ≡ s.values → IsFresh width listed preds t
  fresh_later preds s t fresh sizes values =
      let rows : t.sizes.rows ≡ s.sizes.rows = λ i. (sizes i).rows in
      let own : t.values.items ≡ s.values.items = λ i. (values i).items in
      subst (λ (rs : List Rows). AreStarts width listed preds rs t.values.items) (sym rows) (subst (λ (vs : List (Value D)). AreStarts width listed preds s.sizes.rows vs) (sym own) fresh)

  pub added_more : (ps : List Pred) (p : Pred) (old new : State D) → AreStarts width listed ps old.sizes.rows old.values.items → IsAdded width listed p.arity old new
      → AreStarts width listed (ps ++ p ∷ []) new.sizes.rows new.values.items
  added_more ps p old new starts a =
      subst (λ (rs : List Rows). AreStarts width listed (ps ++ p ∷ []) rs new.values.items) (sym a.sizes)
      (subst (λ (vs : List (Value D)). AreStarts width listed (ps ++ p ∷ []) (old.sizes.rows ++ a.rows ∷ []) vs) (sym a.values)
      (starts_more ps old.sizes.rows old.values.items p a.rows a.value starts a.start))
