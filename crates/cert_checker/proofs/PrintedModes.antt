-- The modes that facts print are those of the parts, and what is known of these is known of the facts.
use Rattle.std.proofs.Common.{◌≡◌, ◌≢◌, ℕ, suc, ◌+◌, ◌<◌, ◌==◌, ◌||◌, Bool, true, false, IsTrue, List, [], ◌∷◌, ◌++◌, map, length, slice_get, unwrap_or, Option, None, Some, refl, sym, ap, subst, ◌∙◌, arith, eqb-true}
use Rattle.std.specs.List.{AllByRecursion, AllPairs, list_any}
use Rattle.std.proofs.lemmas.Option.{slice_get_within}
use Rattle.cti_terms.specs.Listing.{IsProgram, Listing}
use Rattle.cti_terms.specs.Tree.{Tree}
use Rattle.cti_terms.specs.declared.predicates.Pred.{Pred}
use Rattle.call_components.proofs.Lists.{all_append, all_map, has_contains}
use Rattle.call_components.specs.Table.{Has}
use Rattle.certificate.specs.declared.fact.Fact.{Fact}
use Rattle.certificate.specs.declared.fact.Fact.TheVariants as fact
use Rattle.certificate.specs.declared.norm.CertNorm.{CertNorm}
use Rattle.certificate.specs.declared.norm.CertNorm.TheVariants as norm
use Rattle.certificate.specs.declared.pred_text.PredText.{PredText}
use Rattle.cert_structure.specs.Numbered.{facts_from, lines_from}
use Rattle.cert_structure.specs.Order as order
use Rattle.cert_structure.specs.Structure.{AreNamed, AreNotes}
use Rattle.cert_structure.specs.declared.parts.Parts.{Parts}
use Rattle.number_tests.specs.declared.refutation.Refutation.{Refutation}
use Rattle.linear_rows.specs.declared.point.Point.{Point}
use Rattle.term_size.specs.AnyNorm.{any_truth}
use Rattle.termination_model.proofs.Lists.{by_places, indexed}
use Rattle.termination_model.specs.claims.Descent.{mode_row}
use Rattle.termination_model.specs.sizes.Rows.{IsUpper}
use Rattle.cert_checker.specs.Bounding.{FactIsBounded, ModeIsBounded, NamedAreRigid, rigid_in}
use Rattle.cert_checker.specs.Norms.{norm_in}
use Rattle.number_tests.proofs.ColumnLengths.{an_element}

-- what holds of each fact of each item holds of all facts
each_facts : {A : Type 0} → (Q : Fact → Type 0) (facts : ℕ → A → List Fact) (i : ℕ) (xs : List A)
    → ((k n : ℕ) (x : A) → n ≡ i + k → slice_get xs k ≡ Some x → AllByRecursion Q (facts n x)) → AllByRecursion Q (facts_from i facts xs)
each_facts Q facts i [] h = tt
each_facts Q facts i (x ∷ xs) h = all_append Q (facts i x) (facts_from (suc i) facts xs) (h 0 i x (omega arith) refl) (each_facts Q facts (suc i) xs (λ k n y at e. h (suc k) n y (omega (arith, at)) e))

all_facts : {A : Type 0} → (Q : Fact → Type 0) (facts : ℕ → A → List Fact) (i : ℕ) (xs : List A) → ((n : ℕ) (x : A) → AllByRecursion Q (facts n x)) → AllByRecursion Q (facts_from i facts xs)
all_facts Q facts i xs h = each_facts Q facts i xs (λ k n x at e. h n x)

all_lines : {A : Type 0} → (Q : Fact → Type 0) (line : ℕ → A → Fact) (i : ℕ) (xs : List A) → ((n : ℕ) (x : A) → Q (line n x)) → AllByRecursion Q (lines_from i line xs)
all_lines Q line i xs h = all_facts Q (λ k x. line k x ∷ []) i xs (λ n x. (h n x, tt))

-- no two places of a list without repetition have the same element
pub one_place : {X : Type 0} → (xs : List X) → AllPairs (λ a b. a ≢ b) xs → (i j : ℕ) (x : X) → slice_get xs i ≡ Some x → slice_get xs j ≡ Some x → i ≡ j
one_place xs distinct i j x ei ej = omega (arith, apart i j ei ej, apart j i ej ei)
  where
    apart : (m n : ℕ) → slice_get xs m ≡ Some x → slice_get xs n ≡ Some x → m < n → ⊥
    apart m n em en lt = distinct m n x lt (slice_get_within xs n x en) (indexed xs m x x em ∙ sym (indexed xs n x x en))

-- a mode has a number where some number of it is that one
has_number : (mode : List ℕ) (i : ℕ) → list_any (λ j. j == i) mode ≡ true → Has mode i
has_number [] i e = cc
has_number (x ∷ xs) i e = go (has_number xs i) (x == i) refl e
  where
    go : (list_any (λ j. j == i) xs ≡ true → Has xs i) → (b : Bool) → (x == i) ≡ b → (b || list_any (λ j. j == i) xs) ≡ true → Has (x ∷ xs) i
    go later true same e = (0, ap Some (eqb-true x i same))
    go later false other e = let (k, at) = later e in (suc k, at)

-- arguments that are rigid where the mode names them meet the mode's row
pub meets_row : (rigid : Tree → Bool) (mode : List ℕ) (i : ℕ) (ts : List Tree) → NamedAreRigid rigid mode i ts → IsUpper (map rigid ts) (mode_row mode i (length ts))
meets_row rigid mode i [] h = tt
meets_row rigid mode i (t ∷ ts) h = (λ e. h.0 (has_contains mode i (has_number mode i e)), meets_row rigid mode (suc i) ts h.1)

-- a fact is none of the version, of the norm or of modes
abbrev IsLater : Fact → Type 0
IsLater (fact.Cti version) = ⊥
IsLater (fact.Norm named) = ⊥
IsLater (fact.Terminates pred modes) = ⊥
IsLater _ = Unit {0}

-- so is a note
note_is_later : (f : Fact) → IsTrue (order.is_note f) → IsLater f
note_is_later (fact.Cti version) h = cc
note_is_later (fact.Norm named) h = cc
note_is_later (fact.Terminates pred modes) h = cc
note_is_later _ h = tt

-- a later fact prints no mode
later_is_bounded : (p : Listing) (names : List (List ℕ)) (rigid : Tree → Bool) (f : Fact) → IsLater f → FactIsBounded p names rigid f
later_is_bounded p names rigid (fact.Terminates pred modes) h = absurd h
later_is_bounded p names rigid _ h = tt

-- the first fact, if there is one, names no norm
abbrev NamesNone : List Fact → Type 0
NamesNone (fact.Norm named ∷ facts) = ⊥
NamesNone _ = Unit {0}

later_names_none : (facts : List Fact) → AllByRecursion IsLater facts → NamesNone facts
later_names_none [] later = tt
later_names_none (fact.Norm named ∷ facts) later = later.0
later_names_none (f ∷ facts) later = tt

-- rigid terms are those of the norm that the head names
rigid_head : (names : List (List ℕ)) (o : Option CertNorm) (facts : List Fact) → NamesNone facts → rigid_in names (order.head_facts o ++ facts) ≡ any_truth (norm_in names o) (λ _. false)
rigid_head names None [] none = refl
rigid_head names None (fact.Norm named ∷ facts) none = absurd none
rigid_head names None (f ∷ facts) none = refl
rigid_head names (Some norm.Term) facts none = refl
rigid_head names (Some norm.List) facts none = refl

module _ (p : Listing) (names : List (List ℕ)) where
  at_later : (clause call : ℕ) (o : Option Point) → AllByRecursion IsLater (order.at_facts clause call o)
  at_later clause call None = tt
  at_later clause call (Some x) = (tt, tt)

  refutation_later : (pred : PredText) (o : Option Refutation) → AllByRecursion IsLater (order.refutation_facts pred o)
  refutation_later pred None = tt
  refutation_later pred (Some r) = (tt, all_facts IsLater (λ _ x. order.point_facts x) 0 r.points (λ n x. (tt, at_later x.clause x.call x.at)))

  module _ (parts : Parts) (notes : List Fact) (are : AreNotes notes) where
    abbrev later : List Fact
    later =
        order.size_facts p names parts.rows
        ++ (order.proof_facts parts.row_proofs
        ++ (order.ground_facts p names parts.grounds
        ++ (order.level_facts p names parts.levels
        ++ (order.fall_facts parts.falls ++ (order.pre_facts p names parts.preconditions ++ (order.refuted_facts p names parts.refutations ++ notes))))))

    all_later : AllByRecursion IsLater later
    all_later =
        all_append IsLater (order.size_facts p names parts.rows) _ (all_facts IsLater (λ a r. lines_from 0 (order.size_line (order.pred_text p names a)) r.list) 0 parts.rows (λ a r. all_lines IsLater (order.size_line (order.pred_text p names a)) 0 r.list (λ n x. tt)))
        (all_append IsLater (order.proof_facts parts.row_proofs) _ (all_facts IsLater (λ k ms. lines_from 0 (order.by_line k) ms) 0 parts.row_proofs (λ k ms. all_lines IsLater (order.by_line k) 0 ms (λ n x. tt)))
        (all_append IsLater (order.ground_facts p names parts.grounds) _ (all_facts IsLater (λ a cs. lines_from 0 (order.grounds_line (order.pred_text p names a)) cs) 0 parts.grounds (λ a cs. all_lines IsLater (order.grounds_line (order.pred_text p names a)) 0 cs (λ n x. tt)))
        (all_append IsLater (order.level_facts p names parts.levels) _ (all_facts IsLater (λ a ls. lines_from 0 (order.measure_line (order.pred_text p names a)) ls) 0 parts.levels (λ a ls. all_lines IsLater (order.measure_line (order.pred_text p names a)) 0 ls (λ n x. tt)))
        (all_append IsLater (order.fall_facts parts.falls) _ (all_facts IsLater (λ k calls. facts_from 0 (λ j ms. lines_from 0 (order.falls_line k j) ms) calls) 0 parts.falls (λ k calls. all_facts IsLater (λ j ms. lines_from 0 (order.falls_line k j) ms) 0 calls (λ j ms. all_lines IsLater (order.falls_line k j) 0 ms (λ n x. tt))))
        (all_append IsLater (order.pre_facts p names parts.preconditions) _ (all_facts IsLater (λ a ms. facts_from 0 (λ m cs. lines_from 0 (order.pre_line (order.pred_text p names a) m) cs) ms) 0 parts.preconditions (λ a ms. all_facts IsLater (λ m cs. lines_from 0 (order.pre_line (order.pred_text p names a) m) cs) 0 ms (λ m cs. all_lines IsLater (order.pre_line (order.pred_text p names a) m) 0 cs (λ n x. tt))))
        (all_append IsLater (order.refuted_facts p names parts.refutations) notes (all_facts IsLater (λ a r. order.refutation_facts (order.pred_text p names a) r) 0 parts.refutations (λ a r. refutation_later (order.pred_text p names a) r))
        (all_map (λ f. IsTrue (order.is_note f)) IsLater note_is_later notes are)))))))

    modes_name_none : (modes : List (List (List ℕ))) → NamesNone (order.mode_facts p names modes ++ later)
    modes_name_none [] = later_names_none later all_later
    modes_name_none (ms ∷ modes) = tt

    -- rigid terms are those of the norm of the parts
    pub rigid_is : rigid_in names (order.listed p names parts notes) ≡ any_truth (norm_in names parts.norm) (λ _. false)
    rigid_is = rigid_head names parts.norm (order.mode_facts p names parts.modes ++ later) (modes_name_none parts.modes)

    module _ (rigid : Tree → Bool) where
      abbrev Q : Fact → Type 0
      Q = FactIsBounded p names rigid

      head_bounded : (o : Option CertNorm) → AllByRecursion (FactIsBounded p names rigid) (order.head_facts o)
      head_bounded None = (tt, tt)
      head_bounded (Some named) = (tt, (tt, tt))

      -- so all that has to be known is what the modes of the parts say
      pub listed_bounded : ((q : ℕ) (modes : List (List ℕ)) → slice_get parts.modes q ≡ Some modes → AllByRecursion (ModeIsBounded p names rigid (order.pred_text p names q)) modes)
          → AllByRecursion (FactIsBounded p names rigid) (order.listed p names parts notes)
      listed_bounded h =
          all_append Q (order.head_facts parts.norm) _ (head_bounded parts.norm)
          (all_append Q (order.mode_facts p names parts.modes) _ (each_facts Q (λ a ms. fact.Terminates (order.pred_text p names a) ms ∷ []) 0 parts.modes (λ k n ms at e. (subst (λ (q : ℕ). AllByRecursion (ModeIsBounded p names rigid (order.pred_text p names q)) ms) (let same : k ≡ n = omega (arith, at) in same) (h k ms e), tt)))
          (all_map IsLater Q (later_is_bounded p names rigid) later all_later))

  -- a predicate is known by its text
  pub same_pred : IsProgram p → AreNamed names p.preds → AllPairs (λ a b. a ≢ b) names → (q r : ℕ) (d e : Pred) → slice_get p.preds q ≡ Some d → slice_get p.preds r ≡ Some e
      → slice_get names d.name.0 ≡ Some (order.pred_text p names r).name → d.arity ≡ (order.pred_text p names r).arity → r ≡ q
  same_pred prog named distinct q r d e ed ee name arity =
      let (text, at) = an_element names e.name.0 (by_places (λ (x : Pred). x.name.0 < length names) p.preds named r e ee) in
      let spelled : (order.pred_text p names r).name ≡ text = ap (λ (o : Option Pred). (order.text_or_none names o).name) ee ∙ ap (λ (o : Option (List ℕ)). unwrap_or o []) at in
      let long : (order.pred_text p names r).arity ≡ e.arity = ap (λ (o : Option Pred). (order.text_or_none names o).arity) ee in
      let number : d.name.0 ≡ e.name.0 = one_place names distinct d.name.0 e.name.0 text (name ∙ ap Some spelled) at in
      let arities : d.arity ≡ e.arity = arity ∙ long in
      let same : d ≡ e = λ i. record { name = record { 0 = number i }; arity = arities i } in
      one_place p.preds prog.distinct r q e ee (ed ∙ ap Some same)
