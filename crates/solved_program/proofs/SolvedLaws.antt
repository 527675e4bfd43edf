-- The parts of all components are a legal chain whose rows are proved.
use Rattle.std.proofs.Common.{◌≡◌, ℕ, zero, suc, ◌+◌, ◌-◌, ◌<◌, ℤ, Bool, true, List, [], ◌∷◌, ◌++◌, length, map, slice_get, IsSomeAnd, Option, None, Some, refl, ap, sym, subst, ◌∙◌, arith}
use Rattle.std.specs.Prelude.{All}
use Rattle.std.specs.List.{flat_map}
use Rattle.std.proofs.lemmas.List.Elements.{All-nil}
use Rattle.call_components.specs.Partition.{Partition, AreComponents}
use Rattle.cti_terms.specs.Arithmetic.{kind_of}
use Rattle.cti_terms.specs.Listing.{Listing, IsProgram, IsClause}
use Rattle.cti_terms.specs.Tree.{Tree}
use Rattle.cti_terms.specs.declared.builtins.Builtin.{Builtin}
use Rattle.cti_terms.specs.declared.clauses.Clause.{Clause}
use Rattle.cti_terms.specs.declared.predicates.Pred.{Pred}
use Rattle.linear_rows.specs.Replacing.{row_fits}
use Rattle.linear_rows.specs.declared.multipliers.Multipliers.{Multipliers}
use Rattle.linear_rows.specs.declared.row.Rows.{Rows}
use Rattle.termination_model.specs.chains.Runs.{IsRunOf}
use Rattle.numeric_model.specs.Proved.{AreProved, IsProved}
use Rattle.numeric_model.specs.States.{plain_step}
use Rattle.numeric_model.specs.declared.step.Step.{Step}
use Rattle.termination_model.specs.chains.Chain.{component_of, start_as, start_rows, IsLegalChain}
use Rattle.termination_model.specs.chains.ChainSteps.{Step as PlainStep}
use Rattle.termination_model.specs.sizes.Sizes.{plain_or_none, rows_of}
use Rattle.termination_model.proofs.ChainLeaves.{placed}
use Rattle.termination_model.proofs.ChainSieves.{of_all}
use Rattle.termination_model.proofs.Lists.{place_below, there}
use Rattle.numeric_model.proofs.Chaining.{proved_all}
use Rattle.component_laws.proofs.ChainLaws.{chains_are_runs}
use Rattle.solved_program.specs.Solved.{AreSolved, IsPartAt, SolvedSizesAreProved}
use Rattle.solved_program.specs.declared.solved_sizes.SolvedSizes.{SolvedSizes}
use Rattle.solved_program.proofs.Clauses.{in_at, own_clause}

map_append : (xs ys : List Step) → map plain_step (xs ++ ys) ≡ map plain_step xs ++ map plain_step ys
map_append [] ys = refl
map_append (x ∷ xs) ys = ap (λ zs. plain_step x ∷ zs) (map_append xs ys)

module _ (speaks : List ℤ → Bool) (expression : ℕ → Tree → List ℤ) (p : Listing) (comps : Partition) (s : SolvedSizes) (prog : IsProgram p) (are : AreComponents p comps) (solved : AreSolved speaks expression p comps s) where
  abbrev last : ℕ → List (List ℤ)
  last = rows_of s.sizes.rows

  -- the runs of parts, in order
  record AreRunsFrom (n : ℕ) (own : List (List Step)) : Type 0 where
    runs : List (List (List PlainStep))
    each : length runs ≡ length own
    are_runs : (i : ℕ) (r : List (List PlainStep)) → slice_get runs i ≡ Some r → IsRunOf speaks expression p comps (n + i) last r last
    steps_are : map plain_step (flat_map (λ ss. ss) own) ≡ flat_map (flat_map (λ ss. ss)) runs

  gathered : (n : ℕ) (own : List (List Step)) → ((i : ℕ) (x : List Step) → slice_get own i ≡ Some x → IsPartAt speaks expression p comps s (n + i) x) → AreRunsFrom n own
  gathered n [] h = record { runs = []; each = refl; are_runs = λ i r e. none i r e; steps_are = refl }
    where
      none : (i : ℕ) (r : List (List PlainStep)) → slice_get [] i ≡ Some r → IsRunOf speaks expression p comps (n + i) last r last
      none i r e = cc
  gathered n (x ∷ own) h =
      let part = h 0 x refl in
      let more = gathered (suc n) own (λ i y e. let z : n + suc i ≡ suc n + i = omega arith in subst (λ (m : ℕ). IsPartAt speaks expression p comps s m y) z (h (suc i) y e)) in
      record {
        runs = part.passes ∷ more.runs;
        each = ap suc more.each;
        are_runs = λ i r e. at part.passes part.run more.runs more.are_runs i r e;
        steps_are = map_append x (flat_map (λ ss. ss) own) ∙ (λ i. part.steps_are i ++ more.steps_are i);
      }
    where
      at : (passes : List (List PlainStep)) → IsRunOf speaks expression p comps (n + 0) last passes last → (runs : List (List (List PlainStep)))
          → ((i : ℕ) (r : List (List PlainStep)) → slice_get runs i ≡ Some r → IsRunOf speaks expression p comps (suc n + i) last r last)
          → (i : ℕ) (r : List (List PlainStep)) → slice_get (passes ∷ runs) i ≡ Some r → IsRunOf speaks expression p comps (n + i) last r last
      at passes first runs rest zero r e = let is : passes ≡ r = cc in subst (λ (x : List (List PlainStep)). IsRunOf speaks expression p comps (n + 0) last x last) is first
      at passes first runs rest (suc i) r e = let z : suc n + i ≡ n + suc i = omega arith in subst (λ (m : ℕ). IsRunOf speaks expression p comps m last r last) z (rest i r e)

  -- a predicate of no component is not there
  no_rows : (q : ℕ) → component_of comps q ≡ None → last q ≡ start_rows p q
  no_rows q none = ap plain_or_none (past (slice_get s.sizes.rows q) refl) ∙ sym (ap (λ (o : Option Builtin). start_as o (slice_get p.preds q)) kind ∙ ap (start_as None) no_pred)
    where
      absent : (n : ℕ) → n < length p.preds → q ≡ n → ⊥
      absent n lt same =
          let each = are.each in
          let at : slice_get comps.of q ≡ Some _ = there comps.of q 0 (omega arith) in
          cc

      no_pred : slice_get p.preds q ≡ None
      no_pred = go (slice_get p.preds q) refl
        where
          go : (o : Option Pred) → slice_get p.preds q ≡ o → o ≡ None
          go None e = refl
          go (Some x) e = absurd (absent q (place_below p.preds q x e) refl)

      past : (o : Option Rows) → slice_get s.sizes.rows q ≡ o → o ≡ None
      past None e = refl
      past (Some r) e = let lt = place_below s.sizes.rows q r e in let each = solved.rows.each in absurd (absent q (omega arith) refl)

      kind : kind_of p.arithmetic q ≡ None
      kind = go (kind_of p.arithmetic q) refl
        where
          go : (o : Option Builtin) → kind_of p.arithmetic q ≡ o → o ≡ None
          go None e = refl
          go (Some b) e = absurd (subst (λ (o : Option Pred). IsSomeAnd o (λ x. x.arity ≡ 2)) no_pred (prog.binary q b e))

  chain : IsLegalChain speaks expression p comps (map plain_step (flat_map (λ ss. ss) s.steps)) last
  chain =
      let g = gathered 0 s.steps (λ i x e. let z : i ≡ 0 + i = omega arith in subst (λ (m : ℕ). IsPartAt speaks expression p comps s m x) z (solved.parts i x e)) in
      subst (λ (ss : List PlainStep). IsLegalChain speaks expression p comps ss last) (sym g.steps_are)
      (chains_are_runs speaks expression p comps g.runs last prog are (g.each ∙ solved.each)
      (λ c r e. let z : 0 + c ≡ c = omega arith in subst (λ (m : ℕ). IsRunOf speaks expression p comps m last r last) z (g.are_runs c r e)) no_rows)

  part_of : (c : ℕ) → c < length comps.members → (x : List Step) × IsPartAt speaks expression p comps s c x
  part_of c lt =
      let each = solved.each in
      let at = there s.steps c [] (omega arith) in
      (_, solved.parts c _ at)

  proved : AreProved expression last p.clauses s.sizes.proofs
  proved = proved_all expression last p.clauses s.sizes.proofs solved.proofs one
    where
      one : (j : ℕ) (k : Clause) (by : List Multipliers) → slice_get p.clauses j ≡ Some k → slice_get s.sizes.proofs j ≡ Some by → IsProved expression last k by
      one j k by at proof =
          let clause = of_all (IsClause p.preds) p.clauses k prog.clauses (in_at p.clauses j k at) in
          let found = placed p comps prog are k.vars k.head clause.head in
          let own = part_of found.0 (are.within found.0 k.head.pred.0 found.1) in
          let e : (1 + j) - 1 ≡ j = omega arith in
          own.1.proved (1 + j, k) (own_clause p comps prog are found.0 j k at found.1) by (ap (slice_get s.sizes.proofs) e ∙ proof)

  fits : (q : ℕ) → All (λ r. row_fits r ≡ true) (last q)
  fits q = go (component_of comps q) refl
    where
      none : (o : Option Rows) → slice_get s.sizes.rows q ≡ o → component_of comps q ≡ None → All (λ r. row_fits r ≡ true) (last q)
      none None e n = subst (All (λ (r : List ℤ). row_fits r ≡ true)) (sym (ap plain_or_none e)) (All-nil (λ (r : List ℤ). row_fits r ≡ true))
      none (Some rows) e n =
          let lt = place_below s.sizes.rows q rows e in
          let each = solved.rows.each in
          let other = are.each in
          let at : slice_get comps.of q ≡ Some _ = there comps.of q 0 (omega arith) in
          absurd (cc)

      go : (o : Option ℕ) → component_of comps q ≡ o → All (λ r. row_fits r ≡ true) (last q)
      go None e = none (slice_get s.sizes.rows q) refl e
      go (Some d) e = let own = part_of d (are.within d q e) in own.1.fits q e

pub solved_sizes_are_proved : SolvedSizesAreProved
solved_sizes_are_proved speaks expression p comps s prog are solved =
    (chain speaks expression p comps s prog are solved, proved speaks expression p comps s prog are solved, fits speaks expression p comps s prog are solved)
