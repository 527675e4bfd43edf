-- Steps that are repeated.
use Rattle.std.proofs.Common.{◌≡◌, ◌≢◌, ℕ, zero, suc, ◌-◌, ◌<◌, ◌≤◌, ◌==◌, ℤ, Bool, true, false, if◌then◌else◌, List, [], ◌∷◌, ◌++◌, length, slice_get, slice_set, Some, None as Nought, refl, ap, sym, subst, ◌∙◌, ◌⊎◌, inl, inr, eqb-true, arith}
use Rattle.std.specs.Prelude.{◌↔◌}
use Rattle.std.specs.List.{AllByRecursion}
use Rattle.call_components.proofs.Lists.{slice_get-set_same, slice_get-set_other}
use Rattle.cti_terms.specs.Listing.{Listing}
use Rattle.cti_terms.specs.declared.atom_list.Atom.{Atom}
use Rattle.cti_terms.specs.declared.clauses.Clause.{Clause}
use Rattle.linear_rows.specs.Plain.{plain_rows}
use Rattle.linear_rows.specs.Rows.{HoldsOn}
use Rattle.linear_rows.specs.Systems.{image_blown, image_left}
use Rattle.linear_rows.specs.declared.multipliers.Multipliers.{Multipliers}
use Rattle.linear_rows.specs.declared.system.System.{System}
use Rattle.termination_model.specs.chains.ChainRows.{HasSublist, HasPoint, IsBlown}
use Rattle.termination_model.specs.chains.ChainSteps.{Step as PlainStep, IsStrong, HasLegalRows}
use Rattle.termination_model.specs.declared.how.How.{How}
use Rattle.termination_model.specs.declared.how.How.TheVariants.{None, First, Join, Keep, Same}
use Rattle.polyhedra.specs.Making.{SaysKept, arity_of}
use Rattle.size_chains.specs.declared.filled.Filled.TheVariants.{Inhabited}
use Rattle.size_chains.specs.declared.noting.Noted.{Noted}
use Rattle.size_chains.specs.declared.state.State.{State}
use Rattle.size_chains.specs.declared.step.Step.{Step}
use Rattle.size_chains.specs.Noting.{IsNoted}
use Rattle.size_chains.specs.Repeating.{IsMarked, IsRepeatable, WasLegal, WereLegal}
use Rattle.size_chains.specs.Running.{IsTaken, rows_in}
use Rattle.size_chains.specs.States.{plain_step}
use Rattle.size_chains.specs.Stepping.{IsStep}
use Rattle.size_chains.proofs.Branches.{same_all}
use Rattle.size_chains.proofs.Makes.{columns_of}
use Rattle.size_chains.proofs.Notes.{noted_from}
use Rattle.size_chains.proofs.Taking.{length-set, same_or_other}
use Rattle.size_chains.proofs.Same.{same_body}
use Rattle.size_chains.specs.Making.{IsMade}
use Rattle.linear_rows.specs.Members.{In}
use Rattle.size_chains.specs.Steps.{FailsHere, HoldsHere, IsBlownHere, IsLegalImage}
use Rattle.size_chains.specs.Systems.{AreColumnsOf, Systems, at_head, body_of, head_of, naturals_of}

-- ---- over rows that are the same for the body's predicates a clause has the same image
module _ (speaks : List ℤ → Bool) (systems : Systems) (one other : ℕ → List (List ℤ)) (k : Clause) (same_rows : AllByRecursion (λ (a : Atom). one a.pred.0 ≡ other a.pred.0) k.body) where
  same_there : (bs : List Atom) → AllByRecursion (λ (a : Atom). one a.pred.0 ≡ other a.pred.0) bs → (b : Atom) → In b bs → one b.pred.0 ≡ other b.pred.0
  same_there [] h b i = absurd i
  same_there (x ∷ bs) h b (inl e) = subst (λ (a : Atom). one a.pred.0 ≡ other a.pred.0) e h.0
  same_there (x ∷ bs) h b (inr i) = same_there bs h.1 b i

  same : body_of systems one k ≡ body_of systems other k
  same = same_body systems other one k (same_there k.body same_rows)

  pub image_stays : (weak : Bool) (image : List (List ℤ)) → IsLegalImage speaks systems one k weak image → IsLegalImage speaks systems other k weak image
  image_stays true image i = (subst (λ (body : List (List ℤ)). IsBlown (image_blown (naturals_of systems k) (head_of systems k) body)) same i.0, i.1)
  image_stays false image i = record {
    decided = subst (λ (body : List (List ℤ)). image_blown (naturals_of systems k) (head_of systems k) body ≡ Nought) same i.decided;
    part = subst (λ (body : List (List ℤ)). HasSublist (image_left (naturals_of systems k) (head_of systems k) body) image) same i.part;
    irredundant = i.irredundant;
    spoken = i.spoken;
    same = λ r long spoken. subst (λ (body : List (List ℤ)). HoldsOn (suc (length (systems.heads k))) image r ↔ HoldsOn (suc (naturals_of systems k)) body (at_head systems k r)) same (i.same r long spoken);
  }

-- ---- a step that was not weak and saw no empty image shows a point of it
module _ (speaks : List ℤ → Bool) (n : ℕ) (H F B : List ℤ → Type 0) (pass : ℕ) (old image new : List (List ℤ)) where
  strong_point : (how : How) → how ≢ None → IsStrong speaks n H F B pass old image how new → HasPoint n image
  strong_point None some l = absurd (some refl)
  strong_point First some l = l.0
  strong_point Same some (points, all, e) = points.0
  strong_point Join some (early, points, fails, join) = points.0
  strong_point Keep some (late, points, fails, sieve) = points.0

pub point_of : (speaks : List ℤ → Bool) (systems : Systems) (k : Clause) (step : PlainStep) → WasLegal speaks systems k step → step.weak ≡ false → step.how ≢ None → HasPoint (length (systems.heads k)) step.image
point_of speaks systems k step was strong some =
    let legal = was.legal.legal in
    let n = length (systems.heads k) in
    let as_strong = subst (λ (w : Bool). HasLegalRows speaks n (HoldsHere speaks systems was.rows k) (FailsHere speaks systems was.rows k) (IsBlownHere speaks systems was.rows k) was.pass (was.rows k.head.pred.0) step.image w step.how step.rows) strong legal in
    strong_point speaks n (HoldsHere speaks systems was.rows k) (FailsHere speaks systems was.rows k) (IsBlownHere speaks systems was.rows k) was.pass (was.rows k.head.pred.0) step.image step.rows step.how some as_strong

some_same : {X : Type 0} {x y : X} → Some x ≡ Some y → x ≡ y
some_same e = cc

some_place : {X : Type 0} (xs : List X) (i : ℕ) (x : X) → slice_get xs i ≡ Some x → i < length xs
some_place [] zero x e = cc
some_place [] (suc i) x e = cc
some_place (y ∷ xs) zero x e = omega arith
some_place (y ∷ xs) (suc i) x e = let more = some_place xs i x e in omega (arith, more)

-- ---- no steps
pub none_legal : {D : Type 0} (speaks : List ℤ → Bool) (systems : Systems) (p : Listing) (s : State D) → s.steps ≡ [] → WereLegal speaks systems p s
none_legal speaks systems p s none = λ i step there. absurd (nothing i step (sym (ap (λ (xs : List Step). slice_get xs i) none) ∙ there))
  where
    nothing : (i : ℕ) (step : Step) → slice_get [] i ≡ Some step → ⊥
    nothing zero step e = cc
    nothing (suc i) step e = cc

-- ---- a list with one more
pub got_last : {X : Type 0} (xs : List X) (t x : X) (i : ℕ) → slice_get (xs ++ t ∷ []) i ≡ Some x → ((i < length xs) × (slice_get xs i ≡ Some x)) ⊎ ((i ≡ length xs) × (t ≡ x))
got_last [] t x zero e = inr (refl, cc)
got_last [] t x (suc i) e = cc
got_last (y ∷ xs) t x zero e = inl (omega arith, e)
got_last (y ∷ xs) t x (suc i) e = later (got_last xs t x i e)
  where
    later : ((i < length xs) × (slice_get xs i ≡ Some x)) ⊎ ((i ≡ length xs) × (t ≡ x)) → ((suc i < suc (length xs)) × (slice_get xs i ≡ Some x)) ⊎ ((suc i ≡ suc (length xs)) × (t ≡ x))
    later (inl h) = inl (omega (arith, h.0), h.1)
    later (inr h) = inr (ap suc h.0, h.1)

-- ---- the step again
module _ {D : Type 0} (width : D → ℕ) (listed : D → List (List ℤ)) (speaks : List ℤ → Bool) (systems : Systems) where
  pub again : (rows : ℕ → List (List ℤ)) (k : Clause) (s : System) (made : IsMade systems rows k s) (of : AreColumnsOf systems k) (d : D) (earlier : Step) → IsRepeatable speaks systems rows k (width d) (listed d) earlier
      → earlier.step_weak ≡ false → earlier.how ≢ None → (kept : List (List ℤ)) (by : List Multipliers) → SaysKept s (listed d) kept false false by
      → (x : Noted D) → x.image.value.list ≡ earlier.image.value.list → x.image_weak ≡ earlier.image_weak → x.stepped ≡ record { how = Same; weak = false; next = Nought; filled = Inhabited; by = by } → (pass number : ℕ)
      → IsNoted width listed speaks systems pass rows k number Inhabited x
  again rows k s made of d earlier repeatable strong some kept by says x image weak stepped pass number =
      let was = repeatable.was_legal in
      let own = repeatable.head in
      let arity = columns_of systems rows k s made.of in
      let plain : plain_rows earlier.image.value.list ≡ plain_rows x.image.value.list = ap plain_rows (sym image) in
      let legal : IsLegalImage speaks systems rows k x.image_weak (plain_rows x.image.value.list) =
      subst (λ (w : Bool). IsLegalImage speaks systems rows k w (plain_rows x.image.value.list)) (sym weak)
      (subst (IsLegalImage speaks systems rows k earlier.image_weak) plain (image_stays speaks systems was.rows rows k repeatable.same earlier.image_weak (plain_rows earlier.image.value.list) was.legal.image)) in
      let point : HasPoint (length (systems.heads k)) (plain_rows x.image.value.list) = subst (HasPoint (length (systems.heads k))) plain (point_of speaks systems k (plain_step earlier) was strong some) in
      let image_point : HasPoint (arity_of s) (plain_rows x.image.value.list) = subst (λ (n : ℕ). HasPoint n (plain_rows x.image.value.list)) (sym arity) point in
      let old_point : HasPoint (arity_of s) (listed d) = subst (λ (n : ℕ). HasPoint n (listed d)) (sym arity) own.known in
      let step = same_all width listed speaks s made.system pass (listed d) (plain_rows x.image.value.list) image_point old_point kept by says in
      noted_from width listed speaks systems pass rows k number s made of Inhabited d own x legal (subst (IsStep width listed speaks s pass (listed d) (plain_rows x.image.value.list) Inhabited) (sym stepped) step)

  -- ---- steps that were legal, with one more
  module _ (p : Listing) (pass : ℕ) (k : ℕ × Clause) (old new : State D) (changed : Bool) (taken : IsTaken width listed speaks systems pass k old new changed) (marked : IsMarked k.1.head.pred.0 old new changed) where
    abbrev h : ℕ
    h = k.1.head.pred.0

    rows_at : (q : ℕ) → rows_in new q ≡ (if h == q then (plain_step taken.step).rows else rows_in old q)
    rows_at q = ap (λ (f : ℕ → List (List ℤ)). f q) taken.rows

    -- rows that did not change since an earlier step are what they were before this one
    stays : (q n i : ℕ) → slice_get new.latest.changes.items q ≡ Some n → n ≤ i → i ≤ length old.steps → (rows_in new q ≡ rows_in old q) × (slice_get old.latest.changes.items q ≡ Some n)
    stays q n i e l m = go changed refl
      where
        unchanged : changed ≡ false → rows_in new q ≡ rows_in old q
        unchanged is = rows_at q ∙ here (h == q) refl
          where
            here : (b : Bool) → (h == q) ≡ b → (if b then (plain_step taken.step).rows else rows_in old q) ≡ rows_in old q
            here true same = taken.unchanged is ∙ ap (rows_in old) (eqb-true h q same)
            here false same = refl

        apart : changed ≡ true → (q ≡ h) ⊎ (q ≡ h → ⊥) → (rows_in new q ≡ rows_in old q) × (slice_get old.latest.changes.items q ≡ Some n)
        apart is (inl same) =
            let set : slice_get (slice_set old.latest.changes.items h (suc (length old.steps))) h ≡ Some n = ap (slice_get (slice_set old.latest.changes.items h (suc (length old.steps)))) (sym same) ∙ sym (ap (λ (xs : List ℕ). slice_get xs q) (marked.set is)) ∙ e in
            let within : h < length (slice_set old.latest.changes.items h (suc (length old.steps))) = some_place (slice_set old.latest.changes.items h (suc (length old.steps))) h n set in
            let short : h < length old.latest.changes.items = omega (arith, within, length-set old.latest.changes.items h (suc (length old.steps))) in
            let late : suc (length old.steps) ≡ n = some_same (sym (slice_get-set_same old.latest.changes.items h (suc (length old.steps)) short) ∙ set) in
            absurd (omega (arith, late, l, m))
        apart is (inr other) =
            let off : (h == q) ≡ false = differs (h == q) refl in (
              rows_at q ∙ ap (λ (b : Bool). if b then (plain_step taken.step).rows else rows_in old q) off,
              sym (slice_get-set_other old.latest.changes.items h q (suc (length old.steps)) other) ∙ sym (ap (λ (xs : List ℕ). slice_get xs q) (marked.set is)) ∙ e,
            )
          where
            differs : (b : Bool) → (h == q) ≡ b → b ≡ false
            differs true same = absurd (other (sym (eqb-true h q same)))
            differs false same = refl

        go : (b : Bool) → changed ≡ b → (rows_in new q ≡ rows_in old q) × (slice_get old.latest.changes.items q ≡ Some n)
        go false is = (unchanged is, sym (ap (λ (xs : List ℕ). slice_get xs q) (marked.same is)) ∙ e)
        go true is = apart is (same_or_other q h)

    pub legal_more : slice_get p.clauses (k.0 - 1) ≡ Some k.1 → WereLegal speaks systems p old → WereLegal speaks systems p new
    legal_more at were = λ i step there c here. go i step (got_last old.steps taken.step step i (sym (ap (λ (xs : List Step). slice_get xs i) taken.steps) ∙ there)) c here
      where
        Was : ℕ → Step → Clause → Type 0
        Was i step c = (was : WasLegal speaks systems c (plain_step step)) × ((q n : ℕ) → slice_get new.latest.changes.items q ≡ Some n → n ≤ i → was.rows q ≡ rows_in new q)

        go : (i : ℕ) (step : Step) → ((i < length old.steps) × (slice_get old.steps i ≡ Some step)) ⊎ ((i ≡ length old.steps) × (taken.step ≡ step)) → (c : Clause) → slice_get p.clauses (step.clause - 1) ≡ Some c → Was i step c
        go i step (inl before) c here =
            let w = were i step before.1 c here in
            (w.0, λ q n e l. let s = stays q n i e l (omega (arith, before.0)) in w.1 q n s.1 l ∙ sym s.0)
        go i step (inr last) c here =
            let place : slice_get p.clauses (k.0 - 1) ≡ Some c = ap (λ (i : ℕ). slice_get p.clauses (i - 1)) (sym taken.clause) ∙ ap (λ (t : Step). slice_get p.clauses (t.clause - 1)) last.1 ∙ here in
            let clause : k.1 ≡ c = some_same (sym at ∙ place) in
            let this : Was i taken.step k.1 = (record { pass = pass; rows = rows_in old; legal = taken.legal }, λ q n e l. sym (stays q n i e l (omega (arith, last.0))).0) in
            subst (Was i step) clause (subst (λ (t : Step). Was i t k.1) last.1 this)
