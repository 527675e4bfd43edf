-- One more component, done in the state in which the next one is solved.
use Rattle.std.proofs.Common.{◌≡◌, ℕ, ◌+◌, ◌<◌, nat_le, nat_lt, ℤ, Bool, true, false, inl, inr, List, length, slice_get, Option, None, Some, refl, ap, sym, ◌∙◌, arith}
use Rattle.std.proofs.lemmas.Bool.{cases_eq}
use Rattle.std.proofs.lemmas.Bool.Decides.{nat_tests}
use Rattle.call_components.specs.Partition.{Partition, AreComponents, IsIn}
use Rattle.call_components.proofs.Lists.{contains_has, has_contains}
use Rattle.cti_terms.specs.Listing.{Listing, IsProgram}
use Rattle.cti_terms.specs.Tree.{Tree}
use Rattle.linear_rows.specs.Plain.{HaveWidth}
use Rattle.linear_rows.specs.declared.row.Rows.{Rows}
use Rattle.numeric_model.specs.Parts.{IsPartOf}
use Rattle.numeric_model.specs.Ready.{IsReady}
use Rattle.numeric_model.specs.Running.{rows_in}
use Rattle.numeric_model.specs.States.{own_from, is_from}
use Rattle.numeric_model.specs.declared.chain.Chain.{Chain}
use Rattle.numeric_model.specs.declared.state.State.{State}
use Rattle.numeric_model.proofs.Chaining.{from_more}
use Rattle.numeric_model.proofs.Readies.{not_before, not_in}
use Rattle.termination_model.specs.chains.Chain.{component_of}
use Rattle.termination_model.specs.chains.Runs.{is_before}
use Rattle.termination_model.specs.grounds.Grounds.{HasArity}
use Rattle.termination_model.specs.sizes.Sizes.{AreSizes, plain_or_none, rows_of}
use Rattle.solved_program.specs.Resolving.{AreResolvedTo, AreSources, IsDone, IsProgress}
use Rattle.solved_program.specs.Taken.{AreTaken, is_among}
use Rattle.solved_program.specs.declared.progress.Progress.{Progress}
use Rattle.solved_program.specs.declared.resolving.Sources.{Sources}
use Rattle.solved_program.proofs.Parts.{part_moved}
use Rattle.solved_program.proofs.Tables.{among_of, at_other, at_taken, of_among}

-- ---- a component whose members' rows are put in
module _ {D : Type 0} (width : D → ℕ) (listed : D → List (List ℤ)) (s : Sources) (sources : AreSources s) (c : ℕ) (members : List ℕ) (at : slice_get s.edit.now.components.now.members c ≡ Some members) (rows : List Rows) (old new : State D)
    (tables : AreSizes s.edit.now.after.now.preds rows) (ready : IsReady width listed s.edit.now.after.now s.edit.now.components.now c old) (taken : AreTaken members rows old.sizes.rows new.sizes.rows)
    (each : length new.sizes.rows ≡ length old.sizes.rows) (values : new.values ≡ old.values) (proofs : new.proofs ≡ old.proofs) (steps : new.steps ≡ old.steps) where
  abbrev p : Listing
  p = s.edit.now.after.now

  abbrev comps : Partition
  comps = s.edit.now.components.now

  among : (q : ℕ) → IsIn comps c q → is_among members q ≡ true
  among q i = let place = contains_has members q ((sources.edit.components.members c members at q).1 i) in among_of members place.0 q place.1

  not_among : (q : ℕ) → (IsIn comps c q → ⊥) → is_among members q ≡ false
  not_among q never = go (is_among members q) refl
    where
      go : (b : Bool) → is_among members q ≡ b → b ≡ false
      go false e = refl
      go true e = let place = of_among members q e in absurd (never ((sources.edit.components.members c members at q).0 (has_contains members q place)))

  put_in : (q : ℕ) → IsIn comps c q → rows_in new q ≡ rows_of rows q
  put_in q i = ap plain_or_none (at_taken members rows old.sizes.rows new.sizes.rows q taken (among q i))

  kept : (q : ℕ) → (IsIn comps c q → ⊥) → rows_in new q ≡ rows_in old q
  kept q never = ap plain_or_none (at_other members rows old.sizes.rows new.sizes.rows q taken (not_among q never))

  sizes : AreSizes p.preds new.sizes.rows
  sizes = record { each = each ∙ ready.state.sizes.each; width = λ q r there. go q r there (is_among members q) refl }
    where
      go : (q : ℕ) (r : Rows) → slice_get new.sizes.rows q ≡ Some r → (b : Bool) → is_among members q ≡ b → HasArity p.preds q r.width × HaveWidth r.width r.list
      go q r there true e = tables.width q r (sym (at_taken members rows old.sizes.rows new.sizes.rows q taken e) ∙ there)
      go q r there false e = ready.state.sizes.width q r (sym (at_other members rows old.sizes.rows new.sizes.rows q taken e) ∙ there)

  -- a predicate of a later component is none of this one
  later_only : (q : ℕ) → own_from comps (c + 1) q ≡ true → IsIn comps c q → ⊥
  later_only q from i = absurd (no c (sym (ap (is_from (c + 1)) i) ∙ from))
    where
      no : (n : ℕ) → nat_le (n + 1) n ≡ true → ⊥
      no n e = grind (arith, nat_tests)

  pub rows_put : IsDone width listed s c rows old new
  rows_put = record {
    ready = record {
      state = record {
        sizes = sizes;
        each = ap (λ vs. length vs.items) values ∙ ready.state.each;
        values = λ q v there.
            let before = ready.state.values q v (sym (ap (λ vs. slice_get vs.items q) values) ∙ there) in
            record {
              rows_are = λ from none. before.rows_are (from_more comps c q from) none ∙ sym (kept q (later_only q from));
              arity = before.arity;
              known = before.known;
              light = before.light;
            };
        stated = λ q b from is. kept q (later_only q from) ∙ ready.state.stated q b (from_more comps c q from) is;
        proofs = ap (λ ps. length ps.items) proofs ∙ ready.state.proofs;
      };
      others = λ q e. kept q (not_in comps c q e) ∙ ready.others q (not_before c (component_of comps q) e);
      none = steps ∙ ready.none;
    };
    members = put_in;
    others = kept;
  }

-- ---- a part above other rows that agree with those below it
pub part_above : (speaks : List ℤ → Bool) (expression : ℕ → Tree → List ℤ) (p : Listing) (comps : Partition) → IsProgram p → AreComponents p comps → (c : ℕ) (below new : ℕ → List (List ℤ)) (part : Chain)
    → ((q : ℕ) → is_before c (component_of comps q) ≡ true → below q ≡ new q) → IsPartOf speaks expression p comps c below part → IsPartOf speaks expression p comps c new part
part_above speaks expression p comps prog are c below new part same is =
    part_moved speaks expression p comps prog are c below part is new part.sizes is.sizes is.count (λ q e. is.others q e ∙ same q e) (λ q e. sym (same q e)) (λ q e at le. refl) (λ k i. refl)

-- ---- one more component
module _ {D : Type 0} (width : D → ℕ) (listed : D → List (List ℤ)) (s : Sources) (speaks : List ℤ → Bool) (expression : ℕ → Tree → List ℤ) (c : ℕ) (old : Progress D) (marks : List Bool) (before : IsProgress width listed s speaks expression c old marks) where
  abbrev those : Partition
  those = s.edit.now.components.now

  -- the rows of earlier components
  pub same_before : (q : ℕ) → is_before c (component_of those q) ≡ true → rows_in old.state q ≡ rows_of old.solved.sizes.rows q
  same_before q e = go (component_of those q) refl e
    where
      go : (o : Option ℕ) → component_of those q ≡ o → is_before c o ≡ true → rows_in old.state q ≡ rows_of old.solved.sizes.rows q
      go None at e = cc
      go (Some d) at e = before.same q d at (less d c e)
        where
          less : (n m : ℕ) → nat_lt n m ≡ true → n < m
          less n m t = grind (arith, nat_tests)

  pub progress_more : (new : Progress D) (more : List Bool) → AreResolvedTo speaks expression s (c + 1) new.solved more → IsDone width listed s c new.solved.sizes.rows old.state new.state
      → ((q : ℕ) → (IsIn those c q → ⊥) → rows_of new.solved.sizes.rows q ≡ rows_of old.solved.sizes.rows q) → IsProgress width listed s speaks expression (c + 1) new more
  progress_more new more resolved done kept = record {
    resolved = resolved;
    ready = done.ready;
    same = λ q d i lt. elim (cases_eq d c) [
      | inl is ↦ done.members q (i ∙ ap Some is)
      | inr ne ↦
          let out : IsIn those c q → ⊥ = outside q d i ne in
          done.others q out ∙ before.same q d i (omega arith) ∙ sym (kept q out)
    ];
  }
    where
      outside : (q d : ℕ) → IsIn those d q → (d ≡ c → ⊥) → IsIn those c q → ⊥
      outside q d i ne j = let same : d ≡ c = cc in ne same
