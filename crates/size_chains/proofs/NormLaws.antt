-- The systems over a norm.
use Rattle.std.proofs.Common.{◌≡◌, ℕ, zero, suc, ◌≤◌, ℤ, Bool, true, List, [], ◌∷◌, ◌++◌, map, take, length, slice_get, Option, None, Some, IsSomeAnd, IsTrue, refl, ap, sym, subst, ◌∙◌, arith}
use Rattle.std.specs.List.{AllByRecursion}
use Rattle.std.proofs.lemmas.List.{length-map}
use Rattle.cti_terms.specs.Listing.{IsClause, IsProgram, Listing}
use Rattle.cti_terms.specs.Tree.{Tree, is_below}
use Rattle.cti_terms.specs.declared.atom_list.Atom.{Atom}
use Rattle.cti_terms.specs.declared.builtins.Builtin.{Builtin}
use Rattle.cti_terms.specs.declared.builtins.Builtin.TheVariants.{Is, Equal, NotEqual, Less, AtMost, Greater, AtLeast}
use Rattle.cti_terms.specs.declared.clauses.Clause.{Clause}
use Rattle.cti_terms.specs.declared.predicates.Pred.{Pred}
use Rattle.linear_rows.specs.Plain.{plain_rows, HaveWidth}
use Rattle.linear_rows.specs.Replacing.{row_fits}
use Rattle.linear_rows.specs.declared.system.System.{System}
use Rattle.redundant_rows.proofs.Appends.{append_none}
use Rattle.term_size.specs.Norm.{IsNorm}
use Rattle.termination_model.proofs.ChainHeads.{natural}
use Rattle.termination_model.proofs.ChainSieves.{all_of, of_all}
use Rattle.termination_model.proofs.Lists.{by_places}
use Rattle.termination_model.specs.sizes.ShortSystems.{short_row, short_system}
use Rattle.termination_model.specs.sizes.Sizes.{wide_rows, wide_system}
use Rattle.termination_model.specs.sizes.Stated.{stated_rows}
use Rattle.termination_model.specs.sizes.Systems.{row_over, system as norm_system}
use Rattle.size_chains.specs.declared.clause_system.ClauseSystem.{ClauseSystem}
use Rattle.size_chains.specs.Making.{IsClauseSystem, plain_or_none}
use Rattle.size_chains.specs.Norms.{all_some, arity_or_none, norm_systems}
use Rattle.size_chains.specs.Systems.{AreColumnsOf, AreSystems, IsHeadColumn, body_of, head_of, missing, naturals_of, system, tied, widened}
use Rattle.size_chains.proofs.Naturals.{whole_natural}

arity_there : (o : Option Pred) (n : ℕ) → IsSomeAnd o (λ p. p.arity ≡ n) → arity_or_none o ≡ n
arity_there None n h = absurd h
arity_there (Some p) n h = h

arity_few : (preds : List Pred) → AllByRecursion (λ (q : Pred). q.arity ≤ 12) preds → (q : ℕ) → arity_or_none (slice_get preds q) ≤ 12
arity_few preds h q = go (slice_get preds q) refl
  where
    go : (o : Option Pred) → slice_get preds q ≡ o → arity_or_none o ≤ 12
    go None e = omega arith
    go (Some p) e = by_places (λ (x : Pred). x.arity ≤ 12) preds h q p e

module _ (size : (ℕ → ℕ) → Tree → ℕ) (truth : (ℕ → Bool) → Tree → Bool) (expression : ℕ → Tree → List ℤ) (norm : IsNorm size truth expression) (p : Listing) (prog : IsProgram p) where
  columns_are : (n : ℕ) (ts : List Tree) → AllByRecursion (λ (x : Tree). IsTrue (is_below n x)) ts → AllByRecursion (IsHeadColumn n) (all_some (map (expression n) ts))
  columns_are n [] h = tt
  columns_are n (t ∷ ts) h = ((norm.width n t, whole_natural (expression n t) n (norm.width n t) (λ w e. natural size truth expression norm n t h.0 1 w e)), columns_are n ts h.1)

  long : (k : Clause) → length (all_some (map (expression k.vars) k.head.args)) ≡ length k.head.args
  long k = length-map (map (expression k.vars) k.head.args) (λ (e : List ℤ). Some e) ∙ length-map k.head.args (expression k.vars)

  clause_columns : (k : Clause) → IsClause p.preds k → AreColumnsOf (norm_systems p expression) k
  clause_columns k is =
      let arity = arity_there (slice_get p.preds k.head.pred.0) (length k.head.args) is.head.arity in
      let same = long k in
      let most = arity_few p.preds prog.arities k.head.pred.0 in
      let vars = is.few in
      record {
        each = arity ∙ sym same;
        expressions = columns_are k.vars k.head.args is.head.below;
        few = omega (arith, same, most, arity, vars);
      }

  stated_long : (b : Builtin) (n : ℕ) → n ≡ 2 → AllByRecursion (λ (r : List ℤ). (length r ≡ suc n) × (row_fits r ≡ true)) (stated_rows b)
  stated_long Is n e = ((omega (arith, e), refl), tt)
  stated_long Equal n e = tt
  stated_long NotEqual n e = tt
  stated_long Less n e = tt
  stated_long AtMost n e = tt
  stated_long Greater n e = tt
  stated_long AtLeast n e = tt

  pub norms_are_systems : AreSystems p (norm_systems p expression)
  norms_are_systems = record {
    clauses = all_of (AreColumnsOf (norm_systems p expression)) p.clauses (λ k i. clause_columns k (of_all (IsClause p.preds) p.clauses k prog.clauses i));
    stated = λ q b is. stated_long b (arity_or_none (slice_get p.preds q)) (arity_there (slice_get p.preds q) 2 (prog.binary q b is));
  }

-- ---- a clause's system
all_taken : {X : Type 0} → (n : ℕ) (xs : List X) → length xs ≡ n → take n xs ≡ xs
all_taken zero [] l = refl
all_taken (suc n) [] l = refl
all_taken zero (x ∷ xs) l = absurd (omega arith)
all_taken (suc n) (x ∷ xs) l = ap (λ s. x ∷ s) (all_taken n xs (omega arith))

none_wider : (rows : List (List ℤ)) → map (widened 0) rows ≡ rows
none_wider [] = refl
none_wider (r ∷ rows) = let here = append_none r in let more = none_wider rows in λ i. here i ∷ more i

none_missing : (es : List (List ℤ)) → missing (all_some es) ≡ 0
none_missing [] = refl
none_missing (e ∷ es) = none_missing es

none_tied : (n i : ℕ) (es : List (List ℤ)) → tied n 0 i (all_some es) ≡ es
none_tied n i [] = refl
none_tied n i (e ∷ es) = let here = append_none e in let more = none_tied n i es in λ t. here t ∷ more t

module _ (p : Listing) (expression : ℕ → Tree → List ℤ) (rows : ℕ → List (List ℤ)) (k : Clause) where
  abbrev columns : List (List ℤ)
  columns = map (expression k.vars) k.head.args

  same_system : (bs : List Atom) → system (norm_systems p expression) rows k bs ≡ norm_system expression rows k.vars bs
  same_system [] = refl
  same_system (b ∷ bs) = ap (λ (xs : List (List ℤ)). map (row_over expression k.vars b.args) (rows b.pred.0) ++ xs) (same_system bs)

  pub naturals_same : naturals_of (norm_systems p expression) k ≡ k.vars
  naturals_same = let none = none_missing columns in omega (arith, none)

  pub body_same : body_of (norm_systems p expression) rows k ≡ norm_system expression rows k.vars k.body
  body_same =
      ap (λ (m : ℕ). map (widened m) (system (norm_systems p expression) rows k k.body)) (none_missing columns)
      ∙ none_wider (system (norm_systems p expression) rows k k.body) ∙ same_system k.body

  pub head_same : head_of (norm_systems p expression) k ≡ columns
  head_same = ap (λ (m : ℕ). tied k.vars m 0 (all_some columns)) (none_missing columns) ∙ none_tied k.vars 0 columns

  pub columns_same : length (all_some columns) ≡ length k.head.args
  columns_same = length-map columns (λ (e : List ℤ). Some e) ∙ length-map k.head.args (expression k.vars)

  pub norm_made : (s : System) (j : ℕ) → j ≡ length k.body → s.variables ≡ k.vars
      → (s.rows.width ≡ s.variables) × (s.head.width ≡ s.variables) × HaveWidth s.variables s.rows.list × HaveWidth s.variables s.head.list
      → plain_rows s.rows.list ≡ short_system expression rows k.vars (take j k.body) → s.wide ≡ wide_system expression rows k.vars (take j k.body) → plain_rows s.head.list ≡ columns
      → (x : ClauseSystem) → x.naturals ≡ s.variables → x.rows ≡ s.rows → x.wide ≡ s.wide → map plain_or_none x.head ≡ all_some (plain_rows s.head.list)
      → IsClauseSystem (norm_systems p expression) rows k x
  norm_made s j je ve w re we he x n r b h =
      let whole : take j k.body ≡ k.body = all_taken j k.body (sym je) in
      record {
        naturals = n ∙ ve;
        width = ap (λ rs. rs.width) r ∙ w.0 ∙ sym n;
        widths = subst (λ (m : ℕ). HaveWidth m x.rows.list) (sym n) (subst (λ rs. HaveWidth s.variables rs.list) (sym r) w.2);
        body = ap (λ rs. plain_rows rs.list) r ∙ re ∙ ap (λ (bs : List Atom). short_system expression rows k.vars bs) whole ∙ ap (map short_row) (sym (same_system k.body));
        wide = b ∙ we ∙ ap (λ (bs : List Atom). wide_system expression rows k.vars bs) whole ∙ ap wide_rows (sym (same_system k.body));
        heads = h ∙ ap all_some he;
      }
