-- A component that stands for an old one has its part.
use Rattle.std.proofs.Common.{◌≡◌, ℕ, suc, ◌-◌, ◌<◌, nat_lt, ℤ, Bool, true, false, if◌then◌else◌, inl, inr, List, [], ◌∷◌, map, length, slice_get, slice_index_or, Option, None, Some, refl, ap, sym, subst, ◌∙◌, arith}
use Rattle.std.specs.Prelude.{All}
use Rattle.std.proofs.lemmas.Bool.Decides.{nat_tests}
use Rattle.std.proofs.lemmas.Bool.{cases_eq}
use Rattle.call_components.specs.Partition.{Partition, AreComponents, IsIn}
use Rattle.cti_terms.specs.Arithmetic.{kind_of}
use Rattle.cti_terms.specs.Listing.{Listing, IsProgram}
use Rattle.cti_terms.specs.Tree.{Tree}
use Rattle.cti_terms.specs.declared.atom_list.Atom.{Atom}
use Rattle.cti_terms.specs.declared.builtins.Builtin.{Builtin}
use Rattle.cti_terms.specs.declared.clauses.Clause.{Clause}
use Rattle.cti_terms.specs.declared.predicates.Pred.{Pred}
use Rattle.linear_rows.specs.Members.{In}
use Rattle.linear_rows.specs.Replacing.{row_fits}
use Rattle.linear_rows.specs.declared.multipliers.Multipliers.{Multipliers}
use Rattle.termination_model.specs.chains.Chain.{after_passes, clauses_of, component_of, start_as, start_rows, ArePasses}
use Rattle.termination_model.specs.chains.ChainSteps.{Step as PlainStep}
use Rattle.termination_model.specs.sizes.Sizes.{AreSizes, rows_of}
use Rattle.termination_model.specs.declared.sizes.Sizes.{Sizes}
use Rattle.termination_model.proofs.ChainLeaves.{body_before}
use Rattle.numeric_model.specs.Parts.{IsPartOf}
use Rattle.termination_model.specs.chains.Runs.{is_before, starting}
use Rattle.numeric_model.specs.Proved.{IsProved}
use Rattle.numeric_model.specs.States.{plain_step}
use Rattle.numeric_model.specs.declared.step.Step.{Step}
use Rattle.component_laws.specs.Renaming.{AgreeOn, IsOver, KeepsApart}
use Rattle.component_laws.specs.Runs.{AreRenamed, renumbered}
use Rattle.component_laws.specs.Untouched.{NamedAtom, NamedClause, named}
use Rattle.component_laws.proofs.RunLaws.{passes_agree, passes_carry}
use Rattle.component_laws.proofs.NamedLaws.{head_in, pred_in}
use Rattle.component_laws.proofs.UntouchedLaws.{one_number}
use Rattle.solved_program.specs.Kept.{AreKept}
use Rattle.solved_program.specs.Renumbered.{in_turn}
use Rattle.solved_program.specs.Standing.{AreSameClauses, IsSameClause, StandsFor}
use Rattle.solved_program.proofs.Clauses.{Numbered, head_kind, member_clause, of_program, own_component}
use Rattle.solved_program.proofs.Names.{finds_number, new_number}
use Rattle.solved_program.proofs.Pairs.{all_renamed, body_pair, pair_back, pair_on, same_named, same_renamed}
use Rattle.solved_program.proofs.Parts.{Rowed, proved_renamed}
use Rattle.solved_program.proofs.Turns.{passes_length, run_in_turn}

-- ---- rows to begin with
start_member : (p : Listing) (comps : Partition) (c q : ℕ) (below : Rowed) → component_of comps q ≡ Some c → starting p comps c below q ≡ start_rows p q
start_member p comps c q below e = ap (λ (b : Bool). if b then below q else start_rows p q) (ap (is_before c) e ∙ itself c)
  where
    itself : (n : ℕ) → nat_lt n n ≡ false
    itself n = grind (arith, nat_tests)

start_other : (p : Listing) (comps : Partition) (c d q : ℕ) (below : Rowed) → component_of comps q ≡ Some d → d < c → starting p comps c below q ≡ below q
start_other p comps c d q below e lt = ap (λ (b : Bool). if b then below q else start_rows p q) (ap (is_before c) e ∙ less d c lt)
  where
    less : (n k : ℕ) → n < k → nat_lt n k ≡ true
    less n k l = grind (arith, nat_tests)

module _ (p new : Listing) (comps new_comps : Partition) (prog : IsProgram p) (new_prog : IsProgram new) (are : AreComponents p comps) (new_are : AreComponents new new_comps)
    (kept : List (Option ℕ)) (are_kept : AreKept p new kept) (c d : ℕ) (old now : Rowed) where
  abbrev ks : List Numbered
  ks = clauses_of p comps c

  abbrev ls : List Numbered
  ls = clauses_of new new_comps d

  abbrev f : ℕ → ℕ
  f = new_number p.preds new.preds

  abbrev SameClause : Numbered → Numbered → Type 0
  SameClause = IsSameClause comps new_comps c d old now kept

  abbrev SameClauses : List Numbered → List Numbered → Type 0
  SameClauses = AreSameClauses comps new_comps c d old now kept

  module _ (stands : StandsFor comps new_comps c d old now p new kept)
      (members : (q r : ℕ) (x : Pred) → slice_get p.preds q ≡ Some x → slice_get new.preds r ≡ Some x → IsIn new_comps d r → now r ≡ old q) where
    pair_of : (k : Numbered) → In k ks → (l : Numbered) × In l ls × SameClause k l
    pair_of = pair_on p new comps new_comps prog new_prog are new_are kept are_kept c d old now ks ls stands.clauses

    pair_from : (l : Numbered) → In l ls → (k : Numbered) × In k ks × SameClause k l
    pair_from = pair_back p new comps new_comps prog new_prog are new_are kept are_kept c d old now ks ls stands.clauses

    names_same : (k l : Numbered) → In k ks → In l ls → SameClause k l → named p k.1 ≡ named new l.1
    names_same = same_named p new comps new_comps prog new_prog are new_are kept are_kept c d old now

    abbrev start : Rowed
    start = starting p comps c old

    abbrev new_start : Rowed
    new_start = starting new new_comps d now

    -- a predicate of both programs, for which what is below and what comes out agree
    pub record IsShared (q : ℕ) : Type 0 where
      pub pred : Pred
      pub here : slice_get p.preds q ≡ Some pred
      pub there : slice_get new.preds (f q) ≡ Some pred
      pub start_same : new_start (f q) ≡ start q
      pub last_same : now (f q) ≡ old q

    moves : (q r : ℕ) (x : Pred) → slice_get p.preds q ≡ Some x → slice_get new.preds r ≡ Some x → f q ≡ r
    moves = finds_number p new new_prog

    shared : (q r : ℕ) (x : Pred) → slice_get p.preds q ≡ Some x → slice_get new.preds r ≡ Some x → new_start r ≡ start q → now r ≡ old q → IsShared q
    shared q r x here there s t =
        let is = moves q r x here there in
        record { pred = x; here = here; there = ap (slice_get new.preds) is ∙ there; start_same = ap new_start is ∙ s; last_same = ap now is ∙ t }

    -- members that are not built in begin alike
    starts_alike : (q r : ℕ) (x : Pred) → slice_get p.preds q ≡ Some x → slice_get new.preds r ≡ Some x → IsIn comps c q → IsIn new_comps d r → kind_of p.arithmetic q ≡ None → kind_of new.arithmetic r ≡ None → new_start r ≡ start q
    starts_alike q r x here there i j none new_none =
        start_member new new_comps d r now j
        ∙ ap (λ (o : Option Builtin). start_as o (slice_get new.preds r)) new_none
        ∙ ap (start_as None) (there ∙ sym here)
        ∙ sym (ap (λ (o : Option Builtin). start_as o (slice_get p.preds q)) none)
        ∙ sym (start_member p comps c q old i)

    member_kind : (k : Numbered) → In k ks → (q : ℕ) → IsIn comps c q → kind_of p.arithmetic q ≡ None
    member_kind k i q m =
        let h = member_clause p comps prog are c q k i m in
        ap (kind_of p.arithmetic) (sym h.2) ∙ head_kind p comps prog are h.0.1 (of_program p comps prog are c h.0 h.1)

    new_kind : (l : Numbered) → In l ls → (r : ℕ) → IsIn new_comps d r → kind_of new.arithmetic r ≡ None
    new_kind l i r m =
        let h = member_clause new new_comps new_prog new_are d r l i m in
        ap (kind_of new.arithmetic) (sym h.2) ∙ head_kind new new_comps new_prog new_are h.0.1 (of_program new new_comps new_prog new_are d h.0 h.1)

    shared_member : (k l : Numbered) → In k ks → In l ls → (q r : ℕ) (x : Pred) → slice_get p.preds q ≡ Some x → slice_get new.preds r ≡ Some x → IsIn comps c q → IsIn new_comps d r → IsShared q
    shared_member k l i j q r x here there m n =
        shared q r x here there (starts_alike q r x here there m n (member_kind k i q m) (new_kind l j r n)) (members q r x here there n)

    shared_head : (k l : Numbered) → In k ks → In l ls → SameClause k l → IsShared k.1.head.pred.0
    shared_head k l i j s =
        let at = head_in p prog k.1 (of_program p comps prog are c k i) in
        let there = ap (λ (n : NamedClause). n.head.pred) (sym (names_same k l i j s)) ∙ at.1 in
        shared_member k l i j k.1.head.pred.0 l.1.head.pred.0 at.0 at.1 there (own_component p comps prog are c k i) (own_component new new_comps new_prog new_are d l j)

    shared_body : (k l : Numbered) → In k ks → In l ls → SameClause k l → (b : Atom) → In b k.1.body → IsShared b.pred.0
    shared_body k l i j s b m =
        let pair = body_pair p new comps new_comps prog new_prog are new_are kept are_kept c d old now k.1.body l.1.body (ap (λ (n : NamedClause). n.body) (names_same k l i j s)) s.calls b m in
        let e = pair.0 in
        let at = pred_in p prog k.1 (of_program p comps prog are c k i) b m in
        let there = ap (λ (n : NamedAtom). n.pred) (sym pair.2) ∙ at.1 in
        let below = body_before p comps prog are c k i b m in
        let new_below = body_before new new_comps new_prog new_are d l j e pair.1 in
        elim pair.3 [
          | inl both ↦ shared_member k l i j b.pred.0 e.pred.0 at.0 at.1 there both.0 both.1
          | inr other ↦
              let lt : below.0 < c = less c below.0 below.1 b.pred.0 comps below.2 other.0 in
              let new_lt : new_below.0 < d = less d new_below.0 new_below.1 e.pred.0 new_comps new_below.2 other.1 in
              shared b.pred.0 e.pred.0 at.0 at.1 there
              (start_other new new_comps d new_below.0 e.pred.0 now new_below.2 new_lt ∙ other.2 ∙ sym (start_other p comps c below.0 b.pred.0 old below.2 lt)) other.2
        ]
      where
        less : (n m : ℕ) → m < suc n → (q : ℕ) (parts : Partition) → component_of parts q ≡ Some m → (IsIn parts n q → ⊥) → m < n
        less n m lt q parts at not = elim (cases_eq m n) [
          | inl same ↦ absurd (not (at ∙ ap Some same))
          | inr ne ↦ omega arith
        ]

    over : (k : Numbered) → In k ks → IsOver IsShared k.1
    over k i =
        let pair = pair_of k i in
        record { head = shared_head k pair.0 i pair.1 pair.2; body = λ b m. shared_body k pair.0 i pair.1 pair.2 b m }

    apart : KeepsApart IsShared f
    apart q r a b e =
        let at : slice_get new.preds (f q) ≡ Some b.pred = ap (slice_get new.preds) e ∙ b.there in
        let there = a.there in
        let is : a.pred ≡ b.pred = cc in
        one_number p.preds prog.distinct q r b.pred (a.here ∙ ap Some is) b.here

    agree : AgreeOn IsShared f start new_start
    agree q s = s.start_same

    renames : AreRenamed f ks ls
    renames = all_renamed p new comps new_comps prog new_prog are new_are kept are_kept c d old now ks ls stands.clauses (λ k i. i) (λ l i. i)

    -- each member is a head, and so an old member under its new number
    from_old : (l : Numbered) → In l ls → (r : ℕ) → IsIn new_comps d r → (q : ℕ) × IsShared q × IsIn comps c q × (f q ≡ r)
    from_old l i r m =
        let h = member_clause new new_comps new_prog new_are d r l i m in
        let pair = pair_from h.0 h.1 in
        let k = pair.0 in
        let at = head_in p prog k.1 (of_program p comps prog are c k pair.1) in
        let there : slice_get new.preds h.0.1.head.pred.0 ≡ Some at.0 = ap (λ (n : NamedClause). n.head.pred) (sym (names_same k h.0 pair.1 h.1 pair.2)) ∙ at.1 in
        (k.1.head.pred.0, shared_head k h.0 pair.1 h.1 pair.2, own_component p comps prog are c k pair.1, moves k.1.head.pred.0 h.0.1.head.pred.0 at.0 at.1 there ∙ h.2)

    module _ (speaks : List ℤ → Bool) (expression : ℕ → Tree → List ℤ) (old_steps : List Step) (old_sizes : Sizes) (rows_are : old ≡ rows_of old_sizes.rows)
        (part : IsPartOf speaks expression p comps c old (record { steps = old_steps; sizes = old_sizes }))
        (own : List ℕ) (steps : List Step) (sizes : Sizes) (tables : AreSizes new.preds sizes.rows) (each : length sizes.proofs ≡ length new.clauses) (new_rows_are : now ≡ rows_of sizes.rows) (first : Numbered) (has : In first ls)
        (count : length ls ≡ length own) (numbers : (i : ℕ) (l : Numbered) → slice_get ls i ≡ Some l → slice_index_or own i 0 ≡ l.0)
        (steps_are : map plain_step steps ≡ in_turn own 0 (map plain_step old_steps))
        (proofs : (k l : Numbered) (by : List Multipliers) → In k ks → In l ls → slice_get kept (l.0 - 1) ≡ Some (Some k.0) → slice_get sizes.proofs (l.0 - 1) ≡ Some by → slice_get old_sizes.proofs (k.0 - 1) ≡ Some by) where
      abbrev passes : List (List PlainStep)
      passes = map (renumbered ls) part.passes

      legal : ArePasses speaks expression 1 new_start ls passes
      legal = passes_carry speaks expression f IsShared apart 1 start new_start ks ls part.passes renames over agree part.run.legal

      after_agree : AgreeOn IsShared f (after_passes start ks part.passes) (after_passes new_start ls passes)
      after_agree = passes_agree speaks expression f IsShared apart start new_start ks ls part.passes renames over agree

      rows_old : rows_of old_sizes.rows ≡ old
      rows_old = sym rows_are

      -- the rows of a member, here and there
      member_rows : (r : ℕ) → IsIn new_comps d r → (q : ℕ) × IsShared q × IsIn comps c q × (f q ≡ r) × (now r ≡ old q)
      member_rows r m = let b = from_old first has r m in (b.0, b.1, b.2, b.3, ap now (sym b.3) ∙ b.1.last_same)

      same_length : (xs ys : List Numbered) → SameClauses xs ys → length xs ≡ length ys
      same_length [] [] h = refl
      same_length [] (y ∷ ys) h = absurd h
      same_length (x ∷ xs) [] h = absurd h
      same_length (x ∷ xs) (y ∷ ys) h = ap suc (same_length xs ys h.1)

      one_proved : (l : Numbered) → In l ls → (by : List Multipliers) → slice_get sizes.proofs (l.0 - 1) ≡ Some by → IsProved expression now l.1 by
      one_proved l j by at =
          let pair = pair_from l j in
          let k = pair.0 in
          let here = part.proved k pair.1 by (proofs k l by pair.1 j pair.2.kept_as at) in
          let before : IsProved expression old k.1 by = subst (λ (g : Rowed). IsProved expression g k.1 by) rows_old here in
          let known = over k pair.1 in
          subst (λ (x : Clause). IsProved expression now x by) (sym (same_renamed p new comps new_comps prog new_prog are new_are kept are_kept c d old now k l pair.1 j pair.2))
          (proved_renamed f expression old now k.1 by known.head.last_same (λ b m. (known.body b m).last_same) before)

      pub part_carried : IsPartOf speaks expression new new_comps d now (record { steps = steps; sizes = sizes })
      part_carried = record {
        sizes = tables;
        count = each;
        others = λ r before. ap (λ (g : Rowed). g r) (sym new_rows_are);
        passes = passes;
        steps_are = steps_are ∙ ap (in_turn own 0) part.steps_are
            ∙ run_in_turn own ls (length ks) part.passes (same_length ks ls stands.clauses) count numbers (passes_length speaks expression 1 start ks part.passes part.run.legal);
        run = record {
          legal = legal;
          last_are = λ r m.
              let b = member_rows r m in
              ap (λ (g : Rowed). g r) (sym new_rows_are) ∙ b.4 ∙ ap (λ (g : Rowed). g b.0) (sym rows_old) ∙ part.run.last_are b.0 b.2 ∙ sym (after_agree b.0 b.1) ∙ ap (after_passes new_start ls passes) b.3;
        };
        proved = λ l j by at. subst (λ (g : Rowed). IsProved expression g l.1 by) new_rows_are (one_proved l j by at);
        fits = λ r m.
            let b = member_rows r m in
            let e : rows_of sizes.rows r ≡ rows_of old_sizes.rows b.0 = ap (λ (g : Rowed). g r) (sym new_rows_are) ∙ b.4 ∙ ap (λ (g : Rowed). g b.0) (sym rows_old) in
            subst (All (λ (x : List ℤ). row_fits x ≡ true)) (sym e) (part.fits b.0 b.2);
      }
