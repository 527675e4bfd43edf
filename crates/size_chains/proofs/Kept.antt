-- What keeping rows gives: facts of sublists, and what multipliers show.
use Rattle.std.proofs.Common.{◌≡◌, ◌≢◌, ℕ, suc, ◌+◌, ◌<◌, ℤ, Bool, true, false, ◌⊎◌, inl, inr, List, [], ◌∷◌, length, refl, ap, sym, subst, ◌∙◌, arith}
use Rattle.std.specs.Prelude.{All}
use Rattle.std.specs.List.{AllByRecursion}
use Rattle.termination_model.proofs.ChainHeads.{bottom_fails_over}
use Rattle.linear_rows.specs.Rows.{Holds, HoldsOn, AreEmpty}
use Rattle.linear_rows.specs.Plain.{plain_rows}
use Rattle.linear_rows.specs.Members.{In}
use Rattle.linear_rows.specs.declared.multipliers.Multipliers.{Multipliers}
use Rattle.linear_rows.specs.declared.system.System.{System}
use Rattle.linear_rows.proofs.Members.{from_All, to_All}
use Rattle.termination_model.proofs.Proved.{length-substituted}
use Rattle.termination_model.specs.chains.ChainRows.{bottom_row, HasPoint, Sieved}
use Rattle.termination_model.proofs.ChainSieves.{all_of, goes_map, resieved}
use Rattle.termination_model.proofs.ChainHeads.{bottom_fails}
use Rattle.linear_rows.specs.Showing.{Shows}
use Rattle.polyhedra.specs.Telling.{IsSystem, at_head, IsBlownOn}
use Rattle.polyhedra.specs.Making.{arity_of, HoldsFor, Fails, AreShown, IsLost, SaysKept, Splits}
use Rattle.polyhedra.proofs.Keeps.{sieved_of}
use Rattle.termination_model.specs.claims.Claims.{SomeOf}
use Rattle.size_chains.specs.declared.filled.Filled.{Filled}
use Rattle.size_chains.specs.declared.filled.Filled.TheVariants.{Bottom, Unknown, Inhabited}
use Rattle.size_chains.specs.Filling.{IsFilled, weight}
use Rattle.simplex.proofs.Holding.{scaled_holds}
use Rattle.simplex.proofs.RowLists.{length-zeros}

-- ---- points
pub point_part : (n : ℕ) (xs ys : List (List ℤ)) → ((x : List ℤ) → In x ys → In x xs) → HasPoint n xs → HasPoint n ys
point_part n xs ys h p = record {
  t = p.t;
  w = p.w;
  some = p.some;
  long = p.long;
  hold = to_All (λ (row : List ℤ). Holds row p.t p.w) ys (λ x i. from_All (λ (row : List ℤ). Holds row p.t p.w) xs x p.hold (h x i));
}

pub no_bottom : (n : ℕ) (rows : List (List ℤ)) → HasPoint n rows → In (bottom_row n) rows → ⊥
no_bottom n rows p i = bottom_fails n p.t p.w p.some (from_All (λ (row : List ℤ). Holds row p.t p.w) rows (bottom_row n) p.hold i)

-- ---- what is known of rows
pub not_bottom : (n : ℕ) (filled : Filled) (old : List (List ℤ)) → IsFilled n filled old → filled ≢ Bottom → old ≡ bottom_row n ∷ [] → ⊥
not_bottom n Bottom old h b e = b refl
not_bottom n Unknown old h b e = h (subst (In (bottom_row n)) (sym e) (inl refl))
not_bottom n Inhabited old h b e = no_bottom n old h (subst (In (bottom_row n)) (sym e) (inl refl))

pub filled_part : (n : ℕ) (filled : Filled) (old rows : List (List ℤ)) → IsFilled n filled old → filled ≢ Bottom → ((x : List ℤ) → In x rows → In x old) → IsFilled n filled rows
filled_part n Bottom old rows h b part = absurd (b refl)
filled_part n Unknown old rows h b part = λ i. h (part (bottom_row n) i)
filled_part n Inhabited old rows h b part = point_part n old rows part h

pub lighter : (filled : Filled) (old rows : List (List ℤ)) → filled ≢ Bottom → length rows < length old → weight filled rows < weight filled old
lighter Bottom old rows b l = absurd (b refl)
lighter Unknown old rows b l = omega arith
lighter Inhabited old rows b l = l

-- ---- what multipliers show
by_recursion : {X : Type 0} (P : X → Type 0) (xs : List X) → All P xs → AllByRecursion P xs
by_recursion P xs a = all_of P xs (λ x i. from_All P xs x a i)

pub shows_empty : (n : ℕ) (rows : List (List ℤ)) (by : Multipliers) → Shows rows (bottom_row n) by → AreEmpty (suc n) rows
shows_empty n rows by h t w some long all =
    let on = scaled_holds rows by.list (bottom_row n) by.scale h.multipliers.scale h.multipliers.naturals h.shown.proves in
    bottom_fails n t w some (on t w some (omega (arith, length-zeros n)) all)

-- ---- rows that are lost
pub each_of : (P Q : List ℤ → Type 0) (xs ys : List (List ℤ)) → Sieved P Q xs ys → AllByRecursion (λ (r : List ℤ). P r ⊎ Q r) xs
each_of P Q [] ys s = tt
each_of P Q (x ∷ xs) ys (inl (p, zs, e, s)) = (inl p, each_of P Q xs zs s)
each_of P Q (x ∷ xs) ys (inr (q, s)) = (inr q, each_of P Q xs ys s)

none_goes : (P : List ℤ → Type 0) (xs ys : List (List ℤ)) → Sieved P (λ (r : List ℤ). ⊥) xs ys → ys ≡ xs
none_goes P [] ys s = s
none_goes P (x ∷ xs) ys (inl (p, zs, e, s)) = e ∙ ap (λ (rs : List (List ℤ)). x ∷ rs) (none_goes P xs zs s)
none_goes P (x ∷ xs) ys (inr (q, s)) = absurd q

pub some_lost : (P : List ℤ → Type 0) (xs ks ls : List (List ℤ)) → Splits xs ks ls → SomeOf P ls → SomeOf P xs
some_lost P [] ks ls s h = absurd (subst (SomeOf P) s.1 h)
some_lost P (x ∷ xs) ks ls (inl (rs, e, s)) h = inr (some_lost P xs rs ls s h)
some_lost P (x ∷ xs) ks ls (inr (rs, e, s)) h =
    elim (subst (SomeOf P) e h) [ inl p ↦ inl p | inr t ↦ inr (some_lost P xs ks rs s t) ]

split_length : (xs ks ls : List (List ℤ)) → Splits xs ks ls → length ks + length ls ≡ length xs
split_length [] ks ls s = let k : length ks ≡ 0 = ap length s.0 in let l : length ls ≡ 0 = ap length s.1 in omega arith
split_length (x ∷ xs) ks ls (inl (rs, e, s)) = let k : length ks ≡ suc (length rs) = ap length e in omega (arith, split_length xs rs ls s)
split_length (x ∷ xs) ks ls (inr (rs, e, s)) = let l : length ls ≡ suc (length rs) = ap length e in omega (arith, split_length xs ks rs s)

some_long : (P : List ℤ → Type 0) (ls : List (List ℤ)) → SomeOf P ls → 0 < length ls
some_long P [] h = absurd h
some_long P (x ∷ ls) h = omega arith

pub fewer : (P : List ℤ → Type 0) (xs ks ls : List (List ℤ)) → Splits xs ks ls → SomeOf P ls → length ks < length xs
fewer P xs ks ls s h = omega (arith, split_length xs ks ls s, some_long P ls h)

module _ (s : System) (sys : IsSystem s) where
  long : (row : List ℤ) → length (at_head s row) ≡ suc s.variables
  long row = length-substituted s.variables (plain_rows s.head.list) row (by_recursion (λ (r : List ℤ). length r ≡ suc s.variables) (plain_rows s.head.list) sys.head)

  pub shows_hold : (row : List ℤ) (by : Multipliers) → Shows (plain_rows s.rows.list) (at_head s row) by → HoldsFor s row
  shows_hold row by h =
      subst (λ (n : ℕ). HoldsOn n (plain_rows s.rows.list) (at_head s row)) (long row) (scaled_holds (plain_rows s.rows.list) by.list (at_head s row) by.scale h.multipliers.scale h.multipliers.naturals h.shown.proves)

  pub shown_hold : (rows : List (List ℤ)) (by : List Multipliers) → AreShown s rows by → AllByRecursion (HoldsFor s) rows
  shown_hold [] by h = tt
  shown_hold (r ∷ rs) [] h = absurd h
  shown_hold (r ∷ rs) (m ∷ ms) h = (shows_hold r m h.0, shown_hold rs ms h.1)

  pub kept_as : (Goes : List ℤ → Type 0) (old rows : List (List ℤ)) (failed weak : Bool) (by : List Multipliers) → ((r : List ℤ) → IsLost s failed weak r → Goes r) → SaysKept s old rows failed weak by → Sieved (HoldsFor s) Goes old rows
  kept_as Goes old rows failed weak by goes k =
      goes_map (HoldsFor s) (IsLost s failed weak) Goes goes old rows
      (resieved (HoldsFor s) (IsLost s failed weak) (λ _. Unit {0}) old rows (sieved_of (IsLost s failed weak) old rows k.lost k.split k.why) (shown_hold rows by k.shown))

  lost_cases : (failed weak : Bool) (r : List ℤ) → IsLost s failed weak r → Fails s r ⊎ IsBlownOn s r
  lost_cases failed weak r (inl h) = inl h.1
  lost_cases failed weak r (inr h) = inr h.1

  pub kept_hold : (old rows : List (List ℤ)) (failed weak : Bool) (by : List Multipliers) → SaysKept s old rows failed weak by → Sieved (HoldsFor s) (λ (r : List ℤ). Fails s r ⊎ IsBlownOn s r) old rows
  kept_hold old rows failed weak by = kept_as (λ (r : List ℤ). Fails s r ⊎ IsBlownOn s r) old rows failed weak by (lost_cases failed weak)

  -- where no test is blown, each row that is lost fails
  pub only_fail : (failed : Bool) (r : List ℤ) → IsLost s failed false r → Fails s r
  only_fail failed r (inl h) = h.1
  only_fail failed r (inr h) = let never : false ≡ true = h.0 in cc

  -- where no row is known to fail, each row that is lost has a blown test
  pub only_blown : (failed weak : Bool) → failed ≡ false → (r : List ℤ) → IsLost s failed weak r → IsBlownOn s r
  only_blown failed weak e r (inl h) = let never : false ≡ true = sym e ∙ h.0 in cc
  only_blown failed weak e r (inr h) = h.1

  none_lost : (r : List ℤ) → IsLost s false false r → ⊥
  none_lost r (inl h) = let never : false ≡ true = h.0 in cc
  none_lost r (inr h) = let never : false ≡ true = h.0 in cc

  pub kept_all : (old rows : List (List ℤ)) (by : List Multipliers) → SaysKept s old rows false false by → rows ≡ old
  kept_all old rows by k = none_goes (HoldsFor s) old rows (kept_as (λ (r : List ℤ). ⊥) old rows false false by none_lost k)

  -- multipliers that show the row of constant -1 leave no point
  pub nothing_fails : (by : Multipliers) → Shows (plain_rows s.rows.list) (at_head s (bottom_row (arity_of s))) by → (row : List ℤ) → Fails s row → ⊥
  nothing_fails by h row (p, f) =
      let at = f.point in
      bottom_fails_over s.variables (plain_rows s.head.list) (arity_of s) at.t at.w at.some
      (shows_hold (bottom_row (arity_of s)) by h at.t at.w at.some (omega (arith, at.long)) at.hold)
