-- A component's part over other tables that agree where it looks.
use Rattle.std.proofs.Common.{◌≡◌, ℕ, suc, ◌-◌, ◌≤◌, ℤ, Bool, true, false, if◌then◌else◌, List, map, length, slice_get, Some, refl, ap, sym, subst, ◌∙◌, arith}
use Rattle.std.specs.Prelude.{All}
use Rattle.call_components.specs.Partition.{Partition, AreComponents}
use Rattle.cti_terms.specs.Listing.{Listing, IsProgram}
use Rattle.cti_terms.specs.Tree.{Tree}
use Rattle.cti_terms.specs.declared.atom_list.Atom.{Atom}
use Rattle.cti_terms.specs.declared.clauses.Clause.{Clause}
use Rattle.linear_rows.specs.Members.{In}
use Rattle.linear_rows.specs.Replacing.{row_fits}
use Rattle.linear_rows.specs.declared.multipliers.Multipliers.{Multipliers}
use Rattle.termination_model.specs.chains.Chain.{after_passes, clauses_of, component_of, start_rows, ArePasses}
use Rattle.termination_model.specs.sizes.Sizes.{AreSizes, rows_of}
use Rattle.termination_model.specs.sizes.Systems.{row_over, system}
use Rattle.termination_model.specs.sizes.ShortSystems.{short_row}
use Rattle.termination_model.specs.declared.sizes.Sizes.{Sizes}
use Rattle.termination_model.proofs.ChainLeaves.{body_before, head_before, IsBefore}
use Rattle.numeric_model.specs.Parts.{IsPartOf}
use Rattle.termination_model.specs.chains.Runs.{is_before, starting}
use Rattle.numeric_model.specs.Proved.{AreShownOver, IsProved}
use Rattle.numeric_model.specs.declared.chain.Chain.{Chain}
use Rattle.numeric_model.proofs.Chaining.{proved_same}
use Rattle.component_laws.specs.Renaming.{renamed}
use Rattle.component_laws.proofs.RunLaws.{renamed_system}
use Rattle.solved_program.proofs.Clauses.{Numbered}

abbrev pub Rowed : Type 0
Rowed = ℕ → List (List ℤ)

-- ---- proofs where rows agree, under other numbers
pub proved_renamed : (f : ℕ → ℕ) (expression : ℕ → Tree → List ℤ) (rows new : Rowed) (k : Clause) (by : List Multipliers) → new (f k.head.pred.0) ≡ rows k.head.pred.0 → ((b : Atom) → In b k.body → new (f b.pred.0) ≡ rows b.pred.0)
    → IsProved expression rows k by → IsProved expression new (renamed f k) by
proved_renamed f expression rows new k by head body h =
    let same = renamed_system f expression rows new k.vars k.body body in
    subst (λ (s : List (List ℤ)). AreShownOver (map short_row s) (row_over expression k.vars k.head.args) (new (f k.head.pred.0)) by) (sym same)
    (subst (λ (o : List (List ℤ)). AreShownOver (map short_row (system expression rows k.vars k.body)) (row_over expression k.vars k.head.args) o by) (sym head) h)

-- ---- rows to begin with
pub start_same : (p : Listing) (comps : Partition) (c : ℕ) (below new : Rowed) → ((q : ℕ) → is_before c (component_of comps q) ≡ true → new q ≡ below q) → starting p comps c new ≡ starting p comps c below
start_same p comps c below new h = λ i q. at q i
  where
    at : (q : ℕ) → starting p comps c new q ≡ starting p comps c below q
    at q = go (is_before c (component_of comps q)) refl
      where
        go : (b : Bool) → is_before c (component_of comps q) ≡ b → (if b then new q else start_rows p q) ≡ (if b then below q else start_rows p q)
        go true e = h q e
        go false e = refl

module _ (speaks : List ℤ → Bool) (expression : ℕ → Tree → List ℤ) (p : Listing) (comps : Partition) (prog : IsProgram p) (are : AreComponents p comps) (c : ℕ) (below : Rowed) (part : Chain) (is : IsPartOf speaks expression p comps c below part)
    (new_below : Rowed) (sizes : Sizes) (tables : AreSizes p.preds sizes.rows) (count : length sizes.proofs ≡ length p.clauses)
    (others : (q : ℕ) → is_before c (component_of comps q) ≡ true → rows_of sizes.rows q ≡ new_below q) (same_below : (q : ℕ) → is_before c (component_of comps q) ≡ true → new_below q ≡ below q)
    (same : (q e : ℕ) → component_of comps q ≡ Some e → e ≤ c → rows_of sizes.rows q ≡ rows_of part.sizes.rows q)
    (same_proofs : (k : Numbered) → In k (clauses_of p comps c) → slice_get sizes.proofs (k.0 - 1) ≡ slice_get part.sizes.proofs (k.0 - 1)) where
  leave : (q : ℕ) → IsBefore p comps prog are (suc c) q → rows_of sizes.rows q ≡ rows_of part.sizes.rows q
  leave q (e, lt, at) = same q e at (omega arith)

  begin : starting p comps c new_below ≡ starting p comps c below
  begin = start_same p comps c below new_below same_below

  -- the part serves over these tables too
  pub part_moved : IsPartOf speaks expression p comps c new_below (record { steps = part.steps; sizes = sizes })
  part_moved = record {
    sizes = tables;
    count = count;
    others = others;
    passes = is.passes;
    steps_are = is.steps_are;
    run = record {
      legal = subst (λ (f : Rowed). ArePasses speaks expression 1 f (clauses_of p comps c) is.passes) (sym begin) is.run.legal;
      last_are = λ q i. same q c i (omega arith) ∙ is.run.last_are q i ∙ ap (λ (f : Rowed). after_passes f (clauses_of p comps c) is.passes q) (sym begin);
    };
    proved = λ k i by at.
        proved_same expression (rows_of part.sizes.rows) (rows_of sizes.rows) k.1 by (leave k.1.head.pred.0 (head_before p comps prog are c k i)) (λ b j. leave b.pred.0 (body_before p comps prog are c k i b j))
        (is.proved k i by (sym (same_proofs k i) ∙ at));
    fits = λ q i. subst (All (λ (r : List ℤ). row_fits r ≡ true)) (sym (same q c i (omega arith))) (is.fits q i);
  }
