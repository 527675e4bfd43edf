-- A predicate without clauses is alone in its component, and has the rows that it starts with.
use Rattle.std.proofs.Common.{◌≡◌, ℕ, nat_lt, ℤ, Bool, true, false, cond, if◌then◌else◌, IsTrue, inl, inr, List, [], ◌∷◌, map, slice_get, Option, None, Some, option_and_then, unwrap_or, refl, ap, sym, subst, ◌∙◌, arith}
use Rattle.std.specs.Prelude.{Any, filter}
use Rattle.std.proofs.lemmas.Bool.{ne_eqb}
use Rattle.std.proofs.lemmas.Bool.Decides.{nat_tests}
use Rattle.call_components.specs.Calls.{Calls, Reaches, itself, onward}
use Rattle.call_components.specs.Partition.{Partition, AreComponents, IsIn}
use Rattle.call_components.proofs.Lists.{any_cases}
use Rattle.cert_structure.specs.Shape.{is_recursive}
use Rattle.cti_terms.specs.Arithmetic.{kind_of}
use Rattle.cti_terms.specs.Listing.{Listing, IsProgram}
use Rattle.cti_terms.specs.Tree.{Tree}
use Rattle.cti_terms.specs.declared.atom_list.Atom.{Atom}
use Rattle.cti_terms.specs.declared.builtins.Builtin.{Builtin}
use Rattle.cti_terms.specs.declared.clauses.Clause.{Clause}
use Rattle.linear_rows.specs.Members.{In}
use Rattle.termination_model.specs.chains.Chain.{clauses_of, component_of, start_rows, is_member}
use Rattle.termination_model.specs.chains.ChainSteps.{Step}
use Rattle.termination_model.specs.grounds.Grounds.{Family}
use Rattle.termination_model.proofs.ChainLeaves.{number_is, passes_leave}
use Rattle.termination_model.specs.grounds.LeastOver.{IsLeastOver}
use Rattle.groundness.proofs.ComponentLaws.{number_of}
use Rattle.termination_model.specs.chains.Runs.{IsRunOf, is_before, starting}
use Rattle.truth_rows.proofs.RowLaws.{same_bool}
use Rattle.component_laws.specs.Renaming.{StandIn, own_clauses, renamed}
use Rattle.solved_program.proofs.Clauses.{in_at, of_program}
use Rattle.kept_clauses.specs.AllKept.{IsWithoutClause}

-- ---- small laws
of_any : {X : Type 0} (P : X → Type 0) (xs : List X) → Any P xs → (x : X) × In x xs × P x
of_any P [] (k, y, l, e, p) = absurd (omega arith)
of_any P (x ∷ xs) a = elim (any_cases P x xs a) [
  | inl here ↦ (x, inl refl, here)
  | inr more ↦ let r = of_any P xs more in (r.0, inr r.1, r.2)
]

none_left : (test : Clause → Bool) (ks : List Clause) → ((k : Clause) → In k ks → test k ≡ true → ⊥) → filter test ks ≡ []
none_left test [] h = refl
none_left test (k ∷ ks) h = go (test k) refl (none_left test ks (λ x i. h x (inr i)))
  where
    go : (t : Bool) → test k ≡ t → filter test ks ≡ [] → cond (test k) (k ∷ filter test ks) (filter test ks) ≡ []
    go true e more = absurd (h k (inl refl) e)
    go false e more = (λ i. cond (e i) (k ∷ filter test ks) (filter test ks)) ∙ more

not_below : (n : ℕ) → nat_lt n n ≡ false
not_below n = grind (arith, nat_tests)

module _ (p : Listing) (comps : Partition) (prog : IsProgram p) (are : AreComponents p comps) (b q : ℕ) (in_b : IsIn comps b q) (none : IsWithoutClause p q) where
  no_call : (t : ℕ) → Calls p q t → ⊥
  no_call t call = let a = of_any (λ (k : Clause). (k.head.pred.0 ≡ q) × Any (λ (x : Atom). x.pred.0 ≡ t) k.body) p.clauses call in none a.0 a.1 a.2.0

  reached : (t : ℕ) → Reaches (Calls p) q t → q ≡ t
  reached t (itself) = refl
  reached t (onward call more) = absurd (no_call _ call)

  pub alone : (t : ℕ) → IsIn comps b t → q ≡ t
  alone t i = reached t ((are.together q t b b in_b i).0 refl).0

  pub no_clause : (k : Clause) → In k p.clauses → is_member comps b k.head.pred.0 ≡ true → ⊥
  no_clause k i m = none k i (sym (alone k.head.pred.0 (number_of b (component_of comps k.head.pred.0) m)))

  pub no_own : own_clauses p (is_member comps b) ≡ []
  no_own = none_left (λ (k : Clause). is_member comps b k.head.pred.0) p.clauses no_clause

  pub not_recursive : is_recursive comps q ≡ false
  not_recursive = ap (λ (o : Option ℕ). unwrap_or (option_and_then (slice_get comps.recursive) o) false) in_b ∙ go (slice_get comps.recursive b) refl
    where
      go : (o : Option Bool) → slice_get comps.recursive b ≡ o → unwrap_or o false ≡ false
      go None e = refl
      go (Some false) e = refl
      go (Some true) e =
          let c = (are.recursive b true e).0 refl in
          absurd (no_call c.1 (subst (λ (t : ℕ). Calls p t c.1) (sym (alone c.0 c.2)) c.4))

  -- ---- size rows
  pub starts : (speaks : List ℤ → Bool) (expression : ℕ → Tree → List ℤ) (below : ℕ → List (List ℤ)) (passes : List (List Step)) (last : ℕ → List (List ℤ)) → IsRunOf speaks expression p comps b below passes last
      → last q ≡ start_rows p q
  starts speaks expression below passes last run =
      run.last_are q in_b
      ∙ passes_leave q (starting p comps b below) (clauses_of p comps b) passes (λ k i. ne_eqb k.1.head.pred.0 q (λ is. none k.1 (of_program p comps prog are b k i) is))
      ∙ ap (λ (o : Option ℕ). if is_before b o then below q else start_rows p q) in_b
      ∙ ap (λ (t : Bool). if t then below q else start_rows p q) (not_below b)

  -- ---- ground rows
  module _ (truth : (ℕ → Bool) → Tree → Bool) (family : Family) (least : IsLeastOver truth p (is_member comps b) family family) where
    on : is_member comps b q ≡ true
    on = number_is b (component_of comps q) in_b

    pub built_there : (k : Builtin) → kind_of p.arithmetic q ≡ Some k → IsTrue (family q (true ∷ (true ∷ [])))
    built_there k is = subst (λ (t : Bool). IsTrue ((if t then family q else family q) (true ∷ (true ∷ [])))) on (least.closed.builtins q k is on)

    pub only_built : (rows : List Bool → Bool) → ((k : Builtin) → kind_of p.arithmetic q ≡ Some k → IsTrue (rows (true ∷ (true ∷ [])))) → (row : List Bool) → IsTrue (family q row) → IsTrue (rows row)
    only_built rows has row h =
        least.least (λ s. rows) (record {
          clauses = λ j k at is. absurd (no_clause k (in_at p.clauses j k at) is);
          builtins = λ s k kind is.
              let same = alone s (number_of b (component_of comps s) is) in
              subst (λ (t : Bool). IsTrue ((if t then rows else family s) (true ∷ (true ∷ [])))) (sym is) (has k (ap (kind_of p.arithmetic) same ∙ kind));
        }) q row on h

-- ---- a predicate of two programs without clauses in either
module _ (p new : Listing) (comps new_comps : Partition) (prog : IsProgram p) (new_prog : IsProgram new) (are : AreComponents p comps) (new_are : AreComponents new new_comps) (b c q r : ℕ)
    (in_b : IsIn comps b q) (in_c : IsIn new_comps c r) (none : IsWithoutClause p q) (new_none : IsWithoutClause new r) (kind : kind_of new.arithmetic r ≡ kind_of p.arithmetic q) where
  abbrev pub Itself : ℕ → Type 0
  Itself t = t ≡ q

  pub stand_alone : StandIn Itself (λ t. r) p new (is_member comps b) (is_member new_comps c)
  stand_alone = record {
    known = λ t on. sym (alone p comps prog are b q in_b none t (number_of b (component_of comps t) on));
    apart = λ s t e f g. e ∙ sym f;
    members = λ t e. number_is c (component_of new_comps r) in_c ∙ sym (ap (is_member comps b) e ∙ number_is b (component_of comps q) in_b);
    kinds = λ t on. kind ∙ ap (kind_of p.arithmetic) (alone p comps prog are b q in_b none t (number_of b (component_of comps t) on));
    from = λ s on. (q, refl, number_is b (component_of comps q) in_b, alone new new_comps new_prog new_are c r in_c new_none s (number_of c (component_of new_comps s) on));
    clauses = no_own new new_comps new_prog new_are c r in_c new_none ∙ sym (ap (map (renamed (λ t. r))) (no_own p comps prog are b q in_b none));
    over = λ k i. absurd (subst (λ (ks : List Clause). In k ks) (no_own p comps prog are b q in_b none) i);
  }

  -- ground rows are those of what is built in
  pub same_ground_rows : (truth : (ℕ → Bool) → Tree → Bool) (f g : Family) → IsLeastOver truth p (is_member comps b) f f → IsLeastOver truth new (is_member new_comps c) g g → g r ≡ f q
  same_ground_rows truth f g old now = λ i row. at row i
    where
      at : (row : List Bool) → g r row ≡ f q row
      at row = same_bool (g r row) (f q row)
          (only_built new new_comps new_prog new_are c r in_c new_none truth g now (f q) (λ k is. built_there p comps prog are b q in_b none truth f old k (sym kind ∙ is)) row)
          (only_built p comps prog are b q in_b none truth f old (g r) (λ k is. built_there new new_comps new_prog new_are c r in_c new_none truth g now k (kind ∙ is)) row)
