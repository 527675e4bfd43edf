-- A step on a clause's system is a step of the clause.
use Rattle.std.proofs.Common.{◌≡◌, ℕ, suc, ◌+◌, ℤ, pos, negsuc, Bool, true, false, ◌&&◌, if◌then◌else◌, ◌⊎◌, inl, inr, List, [], ◌∷◌, ◌++◌, map, length, not, None, refl, ap, sym, subst, ◌∙◌}
use Rattle.std.specs.Prelude.{◌↔◌, ◌||◌}
use Rattle.std.specs.List.{AllByRecursion}
use Rattle.exact128.specs.Fits.{fits}
use Rattle.exact128.specs.Sums.{entry}
use Rattle.cti_terms.specs.declared.clauses.Clause.{Clause}
use Rattle.linear_rows.specs.Rows.{HoldsOn}
use Rattle.linear_rows.specs.Plain.{plain_rows}
use Rattle.linear_rows.specs.Members.{In}
use Rattle.linear_rows.specs.Blown.{all_of}
use Rattle.linear_rows.specs.Solving.{zeros, coefficients}
use Rattle.linear_rows.specs.Systems.{at_last, test_rows, opposite, over_variables, image_rows, image_blown, image_left, naturals, equalities}
use Rattle.linear_rows.specs.Irredundant.{Fails, TestIsBlown, EndsBlown}
use Rattle.linear_rows.specs.Step.{columns}
use Rattle.linear_rows.specs.declared.system.System.{System}
use Rattle.termination_model.proofs.ChainSieves.{some_map}
use Rattle.termination_model.specs.claims.Claims.{SomeOf}
use Rattle.linear_rows.specs.Replacing.{substituted}
use Rattle.termination_model.specs.sizes.Sizes.{wide_rows}
use Rattle.termination_model.specs.sizes.Systems.{row_fits}
use Rattle.termination_model.specs.sizes.ShortSystems.{short_row}
use Rattle.termination_model.specs.chains.ChainRows.{Sieved, IsBlown, bottom_row, HasSublist, AreSpoken}
use Rattle.termination_model.specs.chains.ChainSteps.{HasLegalRows}
use Rattle.termination_model.specs.chains.ChainLicences.{IsLicensed}
use Rattle.termination_model.specs.declared.how.How.{How}
use Rattle.termination_model.specs.declared.how.How.TheVariants.{None as Nothing, First, Same, Join, Keep}
use Rattle.linear_rows.specs.Irredundant.{IsIrredundant}
use Rattle.polyhedra.specs.Telling.{IsBlownOn}
use Rattle.polyhedra.specs.Making.{arity_of, HoldsFor, SaysImage}
use Rattle.polyhedra.specs.Making.{Fails as FailsFor}
use Rattle.size_chains.specs.Making.{IsSystemOf}
use Rattle.size_chains.proofs.Makes.{columns_of}
use Rattle.simplex.proofs.WideTests.{and_false, all_append, wide_all, moved, not_all, in_left, in_right, in_map, wide_blown, wide_solution}
use Rattle.termination_model.proofs.Proved.{short_all}
use Rattle.size_chains.specs.Steps.{FailsHere, HoldsHere, IsBlownHere, IsLegalImage, IsLegalStep}
use Rattle.size_chains.specs.Systems.{Systems, body_of, head_of, naturals_of}

-- ---- rules for other facts of rows
sieve_map : (P Q R S : List ℤ → Type 0) → ((x : List ℤ) → P x → R x) → ((x : List ℤ) → Q x → S x) → (xs ys : List (List ℤ)) → Sieved P Q xs ys → Sieved R S xs ys
sieve_map P Q R S f g [] ys s = s
sieve_map P Q R S f g (x ∷ xs) ys (inl (p, zs, e, s)) = inl (f x p, zs, e, sieve_map P Q R S f g xs zs s)
sieve_map P Q R S f g (x ∷ xs) ys (inr (q, s)) = inr (g x q, sieve_map P Q R S f g xs ys s)

all_map : (P Q : List ℤ → Type 0) → ((x : List ℤ) → P x → Q x) → (xs : List (List ℤ)) → AllByRecursion P xs → AllByRecursion Q xs
all_map P Q f [] h = tt
all_map P Q f (x ∷ xs) h = (f x h.0, all_map P Q f xs h.1)

module _ (speaks : List ℤ → Bool) (n : ℕ) (H F B H' F' B' : List ℤ → Type 0) (h : (r : List ℤ) → H r → H' r) (f : (r : List ℤ) → F r → F' r) (b : (r : List ℤ) → B r → B' r) (pass : ℕ) (old image : List (List ℤ)) where
  or_map : (r : List ℤ) → H r ⊎ B r → H' r ⊎ B' r
  or_map r (inl x) = inl (h r x)
  or_map r (inr x) = inr (b r x)

  licence_map : IsLicensed n H F B pass old image → IsLicensed n H' F' B' pass old image
  licence_map (inl (early, some, l)) = inl (early, some_map F F' f old some, l)
  licence_map (inr (inl (some, inl late))) = inr (inl (some_map B B' b old some, inl late))
  licence_map (inr (inl (some, inr all))) = inr (inl (some_map B B' b old some, inr (all_map (λ r. H r ⊎ B r) (λ r. H' r ⊎ B' r) or_map old all)))
  licence_map (inr (inr (inl l))) = inr (inr (inl (b (bottom_row n) l)))
  licence_map (inr (inr (inr l))) = inr (inr (inr l))

  lost_map : (r : List ℤ) → F r ⊎ B r → F' r ⊎ B' r
  lost_map r (inl x) = inl (f r x)
  lost_map r (inr x) = inr (b r x)

  pub legal_map : (weak : Bool) (how : How) (new : List (List ℤ)) → HasLegalRows speaks n H F B pass old image weak how new → HasLegalRows speaks n H' F' B' pass old image weak how new
  legal_map false Nothing new l = l
  legal_map false First new l = l
  legal_map false Same new (points, all, e) = (points, all_map H H' h old all, e)
  legal_map false Join new (early, points, some, join) = (early, points, some_map F F' f old some, join)
  legal_map false Keep new (late, points, some, sieve) = (late, points, some_map F F' f old some, sieve_map H F H' F' h f old new sieve)
  legal_map true First new (licence, bottom, sieve) = (licence_map licence, bottom, sieve_map H (λ r. F r ⊎ B r) H' (λ r. F' r ⊎ B' r) h lost_map image new sieve)
  legal_map true Keep new (licence, begun, sieve) = (licence_map licence, begun, sieve_map H (λ r. F r ⊎ B r) H' (λ r. F' r ⊎ B' r) h lost_map old new sieve)
  legal_map true Nothing new l = l
  legal_map true Same new l = l
  legal_map true Join new l = l

-- where each row fits, the short rows are the rows
narrow_same : (rows : List (List ℤ)) → wide_rows rows ≡ false → map short_row rows ≡ rows
narrow_same [] e = refl
narrow_same (r ∷ rows) e = go (row_fits r) refl (narrow_same rows)
  where
    go : (b : Bool) → row_fits r ≡ b → (wide_rows rows ≡ false → map short_row rows ≡ rows) → map short_row (r ∷ rows) ≡ r ∷ rows
    go true is more =
        let rest : wide_rows rows ≡ false = (λ i. not (sym is i) || wide_rows rows) ∙ e in
        let here : short_row r ≡ r = ap (λ (b : Bool). if b then r else map (λ _. pos 0) r) is in
        λ i. here i ∷ more rest i
    go false is more = let never : true ≡ false = (λ i. not (sym is i) || wide_rows rows) ∙ e in cc

-- ---- numbers that do not fit
-- a row that does not fit
WideIn : List (List ℤ) → Type 0
WideIn rows = SomeOf (λ (r : List ℤ). row_fits r ≡ false) rows

wide_in : (rows : List (List ℤ)) → wide_rows rows ≡ true → (r : List ℤ) × In r rows × (row_fits r ≡ false)
wide_in [] e = cc
wide_in (x ∷ rows) e = go (row_fits x) refl (wide_in rows)
  where
    go : (b : Bool) → row_fits x ≡ b → (wide_rows rows ≡ true → (r : List ℤ) × In r rows × (row_fits r ≡ false)) → (r : List ℤ) × In r (x ∷ rows) × (row_fits r ≡ false)
    go true is more =
        let rest : wide_rows rows ≡ true = (λ i. not (sym is i) || wide_rows rows) ∙ e in
        let m = more rest in
        (m.0, inr m.1, m.2)
    go false is more = (x, inl refl, is)

-- the row moved after its coefficients does not fit either
last_wide : (r : List ℤ) → row_fits r ≡ false → row_fits (at_last r (pos 0)) ≡ false
last_wide r e = of_all (at_last r (pos 0)) (and_false (fits (pos 0)) (all_of fits (coefficients r ++ entry r 0 ∷ [])) (moved [] [] r e))
  where
    of_all : (xs : List ℤ) → all_of fits xs ≡ false → row_fits xs ≡ false
    of_all xs h = same xs ∙ h
      where
        same : (xs : List ℤ) → row_fits xs ≡ all_of fits xs
        same [] = refl
        same (x ∷ xs) = ap (λ (b : Bool). fits x && b) (same xs)

wide_test : (n : ℕ) (rows : List (List ℤ)) (target : List ℤ) → wide_rows rows ≡ true → TestIsBlown n rows target
wide_test n rows target e =
    let w = wide_in rows e in
    let q : List ℤ = at_last w.0 (pos 0) in
    let there : In q (test_rows n rows target) = in_left (map (λ (x : List ℤ). at_last x (pos 0)) rows) ((negsuc 0 ∷ (zeros n ++ pos 1 ∷ [])) ∷ at_last (opposite target) (negsuc 0) ∷ []) q (in_map (λ (x : List ℤ). at_last x (pos 0)) rows w.0 w.1) in
    subst (EndsBlown rows target) (sym (wide_solution (n + 1) (test_rows n rows target) q there (last_wide w.0 w.2))) tt

-- and so is the image's system
wide_image : (v : ℕ) (head body : List (List ℤ)) → wide_rows body ≡ true → IsBlown (image_blown v head body)
wide_image v head body e =
    let w = wide_in body e in
    let q : List ℤ = over_variables (length head) w.0 in
    let there : In q (image_rows v head body) = in_right (naturals v (length head) (length head + v) ++ equalities (length head) 0 head) (map (over_variables (length head)) body) q (in_map (over_variables (length head)) body w.0 w.1) in
    ((0, true), wide_blown (length head + v) (columns (suc (length head)) v) (image_rows v head body) (not_all (image_rows v head body) q there (over_wide (length head) w.0 w.2)))
  where
    over_wide : (a : ℕ) (r : List ℤ) → row_fits r ≡ false → all_of fits (over_variables a r) ≡ false
    over_wide a [] h = cc
    over_wide a (b ∷ cs) h = go (fits b) refl h
      where
        go : (x : Bool) → fits b ≡ x → (fits b && row_fits cs) ≡ false → (fits b && all_of fits (zeros a ++ cs)) ≡ false
        go true is h = and_false (fits b) (all_of fits (zeros a ++ cs)) (all_append (zeros a) cs (wide_all cs (sym (ap (λ (y : Bool). y && row_fits cs) is) ∙ h)))
        go false is h = ap (λ (y : Bool). y && all_of fits (zeros a ++ cs)) is

-- ---- a clause and its system
module _ (speaks : List ℤ → Bool) (systems : Systems) (rows : ℕ → List (List ℤ)) (k : Clause) (s : System) (is : IsSystemOf systems rows k s) where
  abbrev whole : List (List ℤ)
  whole = body_of systems rows k

  abbrev heads : List (List ℤ)
  heads = head_of systems k

  -- a row on some system, by its parts
  abbrev On : ℕ → List (List ℤ) → List (List ℤ) → List ℤ → Type 0
  On v body head r = HoldsOn (suc v) body (substituted v head r)

  parts : (P : ℕ → List (List ℤ) → List (List ℤ) → Type 0) → P s.variables (plain_rows s.rows.list) (plain_rows s.head.list) → P (naturals_of systems k) (map short_row whole) heads
  parts P h = subst (λ (x : List (List ℤ)). P (naturals_of systems k) (map short_row whole) x) is.head (subst (λ (x : List (List ℤ)). P (naturals_of systems k) x (plain_rows s.head.list)) is.body (subst (λ (x : ℕ). P x (plain_rows s.rows.list) (plain_rows s.head.list)) is.variables h))

  holds : (r : List ℤ) → HoldsFor s r → HoldsHere speaks systems rows k r
  holds r h t w some long all = parts (λ v body head. On v body head r) h t w some long (short_all t w whole all)

  narrow : s.wide ≡ false → map short_row whole ≡ whole
  narrow e = narrow_same whole (sym is.wide ∙ e)

  fails : (r : List ℤ) → FailsFor s r → FailsHere speaks systems rows k r
  fails r (p, f) =
      subst (λ (x : List (List ℤ)). Fails (naturals_of systems k) x (substituted (naturals_of systems k) heads r)) (narrow f.narrow)
      (parts (λ v body head. Fails v body (substituted v head r)) (record { t = f.point.t; w = f.point.w; some = f.point.some; long = f.point.long; hold = f.point.hold; fails = f.point.fails }))

  blown : (r : List ℤ) → IsBlownOn s r → IsBlownHere speaks systems rows k r
  blown r (inl w) = wide_test (naturals_of systems k) whole (substituted (naturals_of systems k) heads r) (sym is.wide ∙ w)
  blown r (inr t) = go s.wide refl
    where
      go : (b : Bool) → s.wide ≡ b → IsBlownHere speaks systems rows k r
      go true w = wide_test (naturals_of systems k) whole (substituted (naturals_of systems k) heads r) (sym is.wide ∙ w)
      go false w = subst (λ (x : List (List ℤ)). TestIsBlown (naturals_of systems k) x (substituted (naturals_of systems k) heads r)) (narrow w) (parts (λ v body head. TestIsBlown v body (substituted v head r)) t)

  arity_is : arity_of s ≡ length (systems.heads k)
  arity_is = columns_of systems rows k s is

  whole_parts : (P : ℕ → List (List ℤ) → List (List ℤ) → Type 0) → s.wide ≡ false → P s.variables (plain_rows s.rows.list) (plain_rows s.head.list) → P (naturals_of systems k) whole heads
  whole_parts P e h = subst (λ (x : List (List ℤ)). P (naturals_of systems k) x heads) (narrow e) (parts P h)

  pub image_is : (image : List (List ℤ)) (weak : Bool) → SaysImage speaks s image weak → IsLegalImage speaks systems rows k weak image
  image_is image true (inl w, e) = (wide_image (naturals_of systems k) heads whole (sym is.wide ∙ w), e)
  image_is image true (inr b, e) = (go s.wide refl, e)
    where
      go : (w : Bool) → s.wide ≡ w → IsBlown (image_blown (naturals_of systems k) heads whole)
      go true w = wide_image (naturals_of systems k) heads whole (sym is.wide ∙ w)
      go false w = whole_parts (λ v body head. IsBlown (image_blown v head body)) w b
  image_is image false i = record {
    decided = whole_parts (λ v body head. image_blown v head body ≡ None) i.narrow i.decided;
    part = whole_parts (λ v body head. HasSublist (image_left v head body) image) i.narrow i.part;
    irredundant = subst (λ (n : ℕ). IsIrredundant n image) arity_is i.irredundant;
    spoken = subst (λ (n : ℕ). AreSpoken speaks n image) arity_is i.spoken;
    same = λ r long spoken.
        let both : HoldsOn (suc (arity_of s)) image r ↔ HoldsHere speaks systems rows k r =
        whole_parts (λ v body head. HoldsOn (suc (arity_of s)) image r ↔ On v body head r) i.narrow (i.same r (long ∙ ap suc (sym arity_is)) spoken) in
        subst (λ (n : ℕ). HoldsOn (suc n) image r ↔ HoldsHere speaks systems rows k r) arity_is both;
  }

  -- the step is legal for the clause
  pub step_from : (pass : ℕ) (image : List (List ℤ)) (image_weak : Bool) → IsLegalImage speaks systems rows k image_weak image → (old new : List (List ℤ)) (weak : Bool) (how : How)
      → HasLegalRows speaks (arity_of s) (HoldsFor s) (FailsFor s) (IsBlownOn s) pass old image weak how new → old ≡ rows k.head.pred.0
      → (number : ℕ) → IsLegalStep speaks systems pass rows k (record { clause = number; image = image; image_weak = image_weak; how = how; rows = new; weak = weak })
  step_from pass image image_weak legal_image old new weak how legal old_is number = record {
    image = legal_image;
    legal =
        let mapped = legal_map speaks (arity_of s) (HoldsFor s) (FailsFor s) (IsBlownOn s) (HoldsHere speaks systems rows k) (FailsHere speaks systems rows k) (IsBlownHere speaks systems rows k) holds fails blown pass old image weak how new legal in
        let Rules : ℕ → List (List ℤ) → Type 0 = λ n o. HasLegalRows speaks n (HoldsHere speaks systems rows k) (FailsHere speaks systems rows k) (IsBlownHere speaks systems rows k) pass o image weak how new in
        subst (λ (o : List (List ℤ)). Rules (length (systems.heads k)) o) old_is (subst (λ (n : ℕ). Rules n old) arity_is mapped);
  }

  pub step_is : (pass : ℕ) (image : List (List ℤ)) (image_weak : Bool) → SaysImage speaks s image image_weak → (old new : List (List ℤ)) (weak : Bool) (how : How)
      → HasLegalRows speaks (arity_of s) (HoldsFor s) (FailsFor s) (IsBlownOn s) pass old image weak how new → old ≡ rows k.head.pred.0
      → (number : ℕ) → IsLegalStep speaks systems pass rows k (record { clause = number; image = image; image_weak = image_weak; how = how; rows = new; weak = weak })
  step_is pass image image_weak says = step_from pass image image_weak (image_is image image_weak says)
