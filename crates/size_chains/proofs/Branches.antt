-- Each way that a step ends is legal.
use Rattle.std.proofs.Common.{◌≡◌, ◌≢◌, ℕ, zero, suc, ◌<◌, ◌≤◌, ◌^◌, ℤ, Bool, true, false, ◌⊎◌, inl, inr, List, [], ◌∷◌, length, slice_get, Option, None, Some, refl, ap, sym, subst, ◌∙◌, arith}
use Rattle.std.specs.List.{AllByRecursion}
use Rattle.linear_rows.specs.Rows.{Holds, HoldsOn, AreEmpty}
use Rattle.linear_rows.specs.Plain.{plain_rows}
use Rattle.linear_rows.specs.Members.{In}
use Rattle.linear_rows.specs.declared.multipliers.Multipliers.{Multipliers}
use Rattle.linear_rows.specs.declared.system.System.{System}
use Rattle.termination_model.specs.claims.Claims.{SomeOf}
use Rattle.termination_model.specs.chains.ChainRows.{bottom_row, HasPoint, Sieved, IsBlown, IsJoin}
use Rattle.linear_rows.specs.Systems.{join_blown}
use Rattle.linear_rows.specs.Irredundant.{TestIsBlown}
use Rattle.linear_rows.specs.Showing.{Shows}
use Rattle.polyhedra.specs.Telling.{IsSystem, at_head, IsBlownOn}
use Rattle.termination_model.proofs.ChainHeads.{bottom_fails}
use Rattle.polyhedra.specs.Making.{SaysImage, arity_of, HoldsFor, Fails, AreShown, IsLost, SaysKept, SaysJoin, IsJoinOf}
use Rattle.linear_rows.proofs.Members.{from_All, to_All}
use Rattle.termination_model.proofs.ChainSieves.{of_all, sieved_length, sieved_all, sieved_lost, sieved_in}
use Rattle.size_chains.specs.declared.filled.Filled.{Filled}
use Rattle.size_chains.specs.declared.filled.Filled.TheVariants.{Bottom, Unknown, Inhabited}
use Rattle.termination_model.specs.declared.how.How.TheVariants.{None as Nought, First, Join, Keep, Same}
use Rattle.size_chains.specs.declared.stepped.Stepped.{Stepped}
use Rattle.size_chains.specs.Filling.{IsFilled, weight}
use Rattle.linear_rows.specs.Solving.{zeros}
use Rattle.size_chains.specs.Stepping.{IsStep, IfNew, MayBeWeak}
use Rattle.size_chains.proofs.Kept.{not_bottom, filled_part, lighter, each_of, some_lost, fewer, kept_as, kept_hold, kept_all, only_fail, only_blown, point_part, nothing_fails, shown_hold, shows_hold}

module _ {D : Type 0} (width : D → ℕ) (listed : D → List (List ℤ)) (speaks : List ℤ → Bool) (s : System) (sys : IsSystem s) (pass : ℕ) (old image : List (List ℤ)) where
  abbrev n : ℕ
  n = arity_of s

  abbrev Step : Filled → Stepped D → Type 0
  Step = IsStep width listed speaks s pass old image

  module _ (filled : Filled) (is : IsFilled n filled old) (begun : filled ≢ Bottom) (rows : List (List ℤ)) (failed weak : Bool) (by : List Multipliers) (kept : SaysKept s old rows failed weak by) where
    sieve : Sieved (HoldsFor s) (λ (r : List ℤ). Fails s r ⊎ IsBlownOn s r) old rows
    sieve = kept_hold s sys old rows failed weak by kept

    -- a weak step that keeps all old rows
    pub weakly_all : MayBeWeak s pass old image → length old ≡ length rows → Step filled (record { how = Keep; weak = true; next = None; filled = filled; by = by })
    weakly_all licence all =
        let same = sieved_all (HoldsFor s) (λ (r : List ℤ). Fails s r ⊎ IsBlownOn s r) old rows sieve all in
        record {
          legal = (licence, not_bottom n filled old is begun, subst (Sieved (HoldsFor s) (λ (r : List ℤ). Fails s r ⊎ IsBlownOn s r) old) same sieve);
          sized = tt;
          new = tt;
          known = is;
          less = λ _. tt;
          shown = subst (λ (rs : List (List ℤ)). AreShown s rs by) same kept.shown;
        }

    -- a weak step that keeps some
    pub weakly_some : (d : D) → rows ≡ listed d → width d ≡ n → MayBeWeak s pass old image → length old ≢ length rows → Step filled (record { how = Keep; weak = true; next = Some d; filled = filled; by = by })
    weakly_some d e wide licence some =
        let part : Sieved (HoldsFor s) (λ (r : List ℤ). Fails s r ⊎ IsBlownOn s r) old (listed d) = subst (Sieved (HoldsFor s) (λ (r : List ℤ). Fails s r ⊎ IsBlownOn s r) old) e sieve in
        let apart : length old ≢ length (listed d) = λ same. some (same ∙ ap length (sym e)) in
        let shorter : length (listed d) < length old = omega (arith, sieved_length (HoldsFor s) (λ (r : List ℤ). Fails s r ⊎ IsBlownOn s r) old (listed d) part) in
        record {
          legal = (licence, not_bottom n filled old is begun, part);
          sized = wide;
          new = λ same. apart (ap length (sym same));
          known = filled_part n filled old (listed d) is begun (sieved_in (HoldsFor s) (λ (r : List ℤ). Fails s r ⊎ IsBlownOn s r) old (listed d) part);
          less = λ _. lighter filled old (listed d) begun shorter;
          shown = tt;
        }

  -- ---- an empty image
  module _ (is_empty : AreEmpty (suc n) image) where
    -- the old rows are the one row of constant -1
    pub nought_bottom : old ≡ bottom_row n ∷ [] → (by : Multipliers) → Shows (plain_rows s.rows.list) (at_head s (bottom_row n)) by → Step Bottom (record { how = Nought; weak = false; next = None; filled = Bottom; by = by ∷ [] })
    nought_bottom is by shows = record {
      legal = (is_empty, refl);
      sized = tt;
      new = tt;
      known = is;
      less = λ _. tt;
      shown = subst (λ (rs : List (List ℤ)). AreShown s rs (by ∷ [])) (sym is) (shows, tt);
    }

    pub nought_all : (filled : Filled) → IsFilled n filled old → (rows : List (List ℤ)) (failed weak : Bool) (by : List Multipliers) → SaysKept s old rows failed weak by → length old ≡ length rows
        → Step filled (record { how = Nought; weak = false; next = None; filled = filled; by = by })
    nought_all filled is rows failed weak by kept all =
        let same = sieved_all (HoldsFor s) (λ (r : List ℤ). Fails s r ⊎ IsBlownOn s r) old rows (kept_hold s sys old rows failed weak by kept) all in
        record {
          legal = (is_empty, refl);
          sized = tt;
          new = tt;
          known = is;
          less = λ _. tt;
          shown = subst (λ (rs : List (List ℤ)). AreShown s rs by) same kept.shown;
        }

  -- where the system is empty no row fails, so that each row that is lost has a blown test
  pub nought_licence : (by : Multipliers) → Shows (plain_rows s.rows.list) (at_head s (bottom_row n)) by → (rows : List (List ℤ)) (failed weak : Bool) (bys : List Multipliers) → SaysKept s old rows failed weak bys → length old ≢ length rows
      → MayBeWeak s pass old image
  nought_licence by shows rows failed weak bys kept some =
      let sieve = kept_as s sys (IsBlownOn s) old rows failed weak bys blown kept in
      inr (inl (sieved_lost (HoldsFor s) (IsBlownOn s) old rows sieve some, inr (each_of (HoldsFor s) (IsBlownOn s) old rows sieve)))
    where
      blown : (r : List ℤ) → IsLost s failed weak r → IsBlownOn s r
      blown r (inl h) = absurd (nothing_fails s sys by shows r h.1)
      blown r (inr h) = h.1

  -- where some test is blown, and the passes of joins are over or no row is known to fail
  pub blown_licence : (rows : List (List ℤ)) (failed weak : Bool) (by : List Multipliers) → SaysKept s old rows failed weak by → weak ≡ true → (3 < pass) ⊎ (failed ≡ false) → MayBeWeak s pass old image
  blown_licence rows failed weak by kept e (inl late) = inr (inl (some_lost (IsBlownOn s) old rows kept.lost kept.split (kept.blown e), inl late))
  blown_licence rows failed weak by kept e (inr none) =
      inr (inl (some_lost (IsBlownOn s) old rows kept.lost kept.split (kept.blown e), inr (each_of (HoldsFor s) (IsBlownOn s) old rows (kept_as s sys (IsBlownOn s) old rows failed weak by (only_blown s sys failed weak none) kept))))

  -- where some row is known to fail, and the join is weak
  pub join_licence : (rows new : List (List ℤ)) (failed weak : Bool) (by : List Multipliers) → SaysKept s old rows failed weak by → failed ≡ true → pass ≤ 3 → SaysJoin speaks n old image new true → MayBeWeak s pass old image
  join_licence rows new failed weak by kept e early says = go says.1
    where
      go : IsBlown (join_blown n old image) ⊎ (TestIsBlown n old (bottom_row n) ⊎ TestIsBlown n image (bottom_row n)) → MayBeWeak s pass old image
      go (inl b) = inl (early, some_lost (Fails s) old rows kept.lost kept.split (kept.fails e), b)
      go (inr t) = inr (inr (inr t))

  -- ---- both have points
  module _ (image_point : HasPoint n image) (old_point : HasPoint n old) (rows : List (List ℤ)) (by : List Multipliers) where
    pub same_all : SaysKept s old rows false false by → Step Inhabited (record { how = Same; weak = false; next = None; filled = Inhabited; by = by })
    same_all kept =
        let same = kept_all s sys old rows by kept in
        record {
          legal = ((image_point, old_point), subst (AllByRecursion (HoldsFor s)) same (shown_hold s sys rows by kept.shown), refl);
          sized = tt;
          new = tt;
          known = old_point;
          less = λ _. tt;
          shown = subst (λ (rs : List (List ℤ)). AreShown s rs by) same kept.shown;
        }

    pub keep_some : SaysKept s old rows true false by → 3 < pass → (d : D) → rows ≡ listed d → width d ≡ n → Step Inhabited (record { how = Keep; weak = false; next = Some d; filled = Inhabited; by = by })
    keep_some kept late d e wide =
        let part : Sieved (HoldsFor s) (Fails s) old (listed d) = subst (Sieved (HoldsFor s) (Fails s) old) e (kept_as s sys (Fails s) old rows true false by (only_fail s sys true) kept) in
        let less : length rows < length old = fewer (Fails s) old rows kept.lost kept.split (kept.fails refl) in
        let shorter : length (listed d) < length old = subst (λ (rs : List (List ℤ)). length rs < length old) e less in
        record {
          legal = (late, (image_point, old_point), some_lost (Fails s) old rows kept.lost kept.split (kept.fails refl), part);
          sized = wide;
          new = λ same. let l : length (listed d) ≡ length old = ap length same in absurd (omega (arith, l, shorter));
          known = point_part n old (listed d) (sieved_in (HoldsFor s) (Fails s) old (listed d) part) old_point;
          less = λ _. shorter;
          shown = tt;
        }

    -- a row of the join holds on the old rows, so the old rows' point is one of the join
    join_point : (new : List (List ℤ)) → IsJoin speaks n old image new → HasPoint n new
    join_point new join = record {
      t = old_point.t;
      w = old_point.w;
      some = old_point.some;
      long = old_point.long;
      hold = to_All (λ (row : List ℤ). Holds row old_point.t old_point.w) new (λ r i.
          let spoken = of_all (λ (r : List ℤ). (length r ≡ suc n) × (speaks r ≡ true)) new r join.spoken i in
          let on : HoldsOn (suc n) new r = λ t w some long all. from_All (λ (row : List ℤ). Holds row t w) new r all i in
          ((join.same r spoken.0 spoken.1).0 on).0 old_point.t old_point.w old_point.some (omega (arith, old_point.long)) old_point.hold);
    }

    -- a row that fails here is not one of the join, which holds on the image and so here
    pub join_some : (failed weak : Bool) → SaysKept s old rows failed weak by → failed ≡ true → pass ≤ 3 → (d : D) → (new : List (List ℤ)) → new ≡ listed d → width d ≡ n → IsJoinOf speaks n old image new
        → ((r : List ℤ) → length r ≡ suc n → speaks r ≡ true → HoldsOn (suc n) image r → HoldsFor s r)
        → Step Inhabited (record { how = Join; weak = false; next = Some d; filled = Inhabited; by = [] })
    join_some failed weak kept fails early d new e wide join on_image =
        let is : IsJoin speaks n old image (listed d) = subst (IsJoin speaks n old image) e (join.listed old_point image_point) in
        let lost = some_lost (Fails s) old rows kept.lost kept.split (kept.fails fails) in
        record {
          legal = (early, (image_point, old_point), lost, is);
          sized = wide;
          new = λ same. differs (listed d) is same old lost (λ r i. i);
          known = join_point (listed d) is;
          less = λ late. absurd (omega arith);
          shown = tt;
        }
      where
        differs : (new : List (List ℤ)) → IsJoin speaks n old image new → new ≡ old → (xs : List (List ℤ)) → SomeOf (Fails s) xs → ((r : List ℤ) → In r xs → In r old) → ⊥
        differs new is same [] h part = h
        differs new is same (x ∷ xs) (inl (p, f)) part =
            let i : In x new = subst (In x) (sym same) (part x (inl refl)) in
            let spoken = of_all (λ (r : List ℤ). (length r ≡ suc n) × (speaks r ≡ true)) new x is.spoken i in
            let on : HoldsOn (suc n) new x = λ t w some long all. from_All (λ (row : List ℤ). Holds row t w) new x all i in
            let here = on_image x spoken.0 spoken.1 ((is.same x spoken.0 spoken.1).0 on).1 in
            let at = f.point in
            at.fails (here at.t at.w at.some (omega (arith, at.long)) at.hold)
        differs new is same (x ∷ xs) (inr h) part = differs new is same xs h (λ r i. part r (inr i))

  -- ---- the old rows are empty
  pub bottom_empty : old ≡ bottom_row n ∷ [] → AreEmpty (suc n) old
  bottom_empty is t w some long all = bottom_fails n t w some (from_All (λ (row : List ℤ). Holds row t w) old (bottom_row n) all (subst (In (bottom_row n)) (sym is) (inl refl)))

  -- what starts with such a row cannot be inhabited
  pub begins : (filled : Filled) → IsFilled n filled old → AreEmpty (suc n) old → HasPoint n image → (d : D) → image ≡ listed d → width d ≡ n → length (listed d) < 2 ^ 64
      → Step filled (record { how = First; weak = false; next = Some d; filled = Inhabited; by = [] })
  begins filled is empty point d e wide few = record {
    legal = (point, empty, sym e);
    sized = wide;
    new = λ same. let p : HasPoint n old = subst (HasPoint n) (e ∙ same) point in empty p.t p.w p.some (omega (arith, p.long)) p.hold;
    known = subst (HasPoint n) e point;
    less = λ _. less filled is;
    shown = tt;
  }
    where
      less : (filled : Filled) → IsFilled n filled old → weight Inhabited (listed d) < weight filled old
      less Bottom is = omega arith
      less Unknown is = omega arith
      less Inhabited is = absurd (empty is.t is.w is.some (omega (arith, is.long)) is.hold)

  -- a weak first step
  pub begins_weakly : old ≡ bottom_row n ∷ [] → IsBlownOn s (bottom_row n) → (rows : List (List ℤ)) (failed weak : Bool) (by : List Multipliers) → SaysKept s image rows failed weak by
      → (In (bottom_row n) rows → ⊥) → (d : D) → rows ≡ listed d → width d ≡ n → length rows < 2 ^ 64
      → Step Bottom (record { how = First; weak = true; next = Some d; filled = Unknown; by = by })
  begins_weakly is blown rows failed weak by kept none d e wide few =
      let part = kept_hold s sys image rows failed weak by kept in
      let here : Sieved (HoldsFor s) (λ (r : List ℤ). Fails s r ⊎ IsBlownOn s r) image (listed d) = subst (Sieved (HoldsFor s) (λ (r : List ℤ). Fails s r ⊎ IsBlownOn s r) image) e part in
      let absent : In (bottom_row n) (listed d) → ⊥ = λ i. none (subst (In (bottom_row n)) (sym e) i) in
      let size : length (listed d) < 2 ^ 64 = subst (λ (rs : List (List ℤ)). length rs < 2 ^ 64) e few in
      record {
        legal = (inr (inr (inl blown)), is, here);
        sized = wide;
        new = λ same. absent (subst (In (bottom_row n)) (sym (same ∙ is)) (inl refl));
        known = absent;
        less = λ _. omega arith;
        shown = tt;
      }

  -- a row of constant -1 that is kept of the image shows that the image is empty
  shown_at : (rows : List (List ℤ)) (by : List Multipliers) → AreShown s rows by → (i : ℕ) (r : List ℤ) (m : Multipliers) → slice_get rows i ≡ Some r → slice_get by i ≡ Some m → Shows (plain_rows s.rows.list) (at_head s r) m
  shown_at [] by h i r m p q = cc
  shown_at (x ∷ rows) [] h i r m p q = absurd h
  shown_at (x ∷ rows) (y ∷ by) h zero r m p q =
      let same : x ≡ r = cc in let also : y ≡ m = cc in
      subst (λ (z : Multipliers). Shows (plain_rows s.rows.list) (at_head s r) z) also (subst (λ (z : List ℤ). Shows (plain_rows s.rows.list) (at_head s z) y) same h.0)
  shown_at (x ∷ rows) (y ∷ by) h (suc i) r m p q = shown_at rows by h.1 i r m p q

  pub shown_length : (rows : List (List ℤ)) (by : List Multipliers) → AreShown s rows by → length by ≡ length rows
  shown_length [] [] h = refl
  shown_length [] (y ∷ by) h = absurd h
  shown_length (x ∷ rows) [] h = absurd h
  shown_length (x ∷ rows) (y ∷ by) h = ap suc (shown_length rows by h.1)

  place_in : (rows : List (List ℤ)) (i : ℕ) (r : List ℤ) → slice_get rows i ≡ Some r → In r rows
  place_in [] i r e = cc
  place_in (x ∷ rows) zero r e = inl cc
  place_in (x ∷ rows) (suc i) r e = inr (place_in rows i r e)

  length-zeros : (m : ℕ) → length (zeros m) ≡ m
  length-zeros zero = refl
  length-zeros (suc m) = ap suc (length-zeros m)

  pub nought_kept : ((m : ℕ) → speaks (bottom_row m) ≡ true) → (image_weak : Bool) → SaysImage speaks s image image_weak → old ≡ bottom_row n ∷ [] → (rows : List (List ℤ)) (failed weak : Bool) (by : List Multipliers) → SaysKept s image rows failed weak by
      → (i m : ℕ) → slice_get rows i ≡ Some (bottom_row m) → (proof : Multipliers) → slice_get by i ≡ Some proof
      → Step Bottom (record { how = Nought; weak = false; next = None; filled = Bottom; by = proof ∷ [] })
  nought_kept bottoms true says is rows failed weak by kept i m at proof proof_at =
      absurd (subst (In (bottom_row m)) says.1 (sieved_in (HoldsFor s) (λ (r : List ℤ). Fails s r ⊎ IsBlownOn s r) image rows (kept_hold s sys image rows failed weak by kept) (bottom_row m) (place_in rows i (bottom_row m) at)))
  nought_kept bottoms false says is rows failed weak by kept i m at proof proof_at =
      let there = sieved_in (HoldsFor s) (λ (r : List ℤ). Fails s r ⊎ IsBlownOn s r) image rows (kept_hold s sys image rows failed weak by kept) (bottom_row m) (place_in rows i (bottom_row m) at) in
      let spoken = of_all (λ (r : List ℤ). (length r ≡ suc n) × (speaks r ≡ true)) image (bottom_row m) says.spoken there in
      let same : m ≡ n = omega (arith, spoken.0, length-zeros m) in
      let shows : Shows (plain_rows s.rows.list) (at_head s (bottom_row n)) proof = subst (λ (k : ℕ). Shows (plain_rows s.rows.list) (at_head s (bottom_row k)) proof) same (shown_at rows by kept.shown i (bottom_row m) proof at proof_at) in
      let on : HoldsOn (suc n) image (bottom_row n) = (says.same (bottom_row n) (ap suc (length-zeros n)) (bottoms n)).1 (shows_hold s sys (bottom_row n) proof shows) in
      nought_bottom (λ t w some long all. bottom_fails n t w some (on t w some long all)) is proof shows

  -- a step from rows that are inhabited is one from rows of which this was not known
  pub known_less : (r : Stepped D) → Step Inhabited r → Step Unknown r
  known_less r h = record {
    legal = h.legal;
    sized = h.sized;
    new = h.new;
    known = h.known;
    less = λ late. more r.next (h.less late);
    shown = h.shown;
  }
    where
      more : (o : Option D) → IfNew (λ d. weight r.filled (listed d) < weight Inhabited old) o → IfNew (λ d. weight r.filled (listed d) < weight Unknown old) o
      more None h = tt
      more (Some d) h = omega arith
