-- Lemmas on what the clauses of a text of edits ask for.
use Rattle.std.proofs.Common.{◌≡◌, ◌∙◌, ℕ, ℤ, suc, ◌+◌, ◌<◌, ◌≤◌, IsTrue, nat_lt, true, List, [], ◌∷◌, length, map, Some, None, refl, ap, sym, subst, arith, Vec, Global}
use Rattle.std.specs.Prelude.{◌≢◌}
use Rattle.std.proofs.lemmas.Bool.{and_parts, ltb-true}
use Rattle.cti_terms.specs.declared.naming.Name.{Name}
use Rattle.prolog_grammar.specs.Placed.{Tree, tree, Fun, no_trees, more_trees}
use Rattle.prolog_reader.specs.Directive.{parts_of}
use Rattle.prolog_reader.specs.Fit.{IsFit}
use Rattle.prolog_reader.specs.Names.{name_text}
use Rattle.prolog_reader.proofs.ViewLemmas.{list_of_row, tree_of_fun, tree_of_int, tree_of_var}
use Rattle.prolog_terms.specs.Clauses.{all_known, is_below, is_known, nodes, row}
use Rattle.prolog_terms.specs.Terms.{tree_of}
use Rattle.prolog_terms.specs.declared.term.ReadTerm.{ReadTerm}
use Rattle.prolog_terms.specs.declared.term.ReadShape.TheVariants as shape
use Rattle.edit_texts.specs.Edits.{Edit, nothing, add, remove, tell, no_edit, asked_by, asked_of, integer_of}
use Rattle.edit_texts.specs.EditViews.{EditIsFit}

-- ---- the parts of a term

pub var_parts : (t : ReadTerm) (x : ℕ) → t.shape ≡ shape.Var x → parts_of (tree_of t) ≡ None
var_parts t x is = ap parts_of (tree_of_var t x is)

pub int_parts : (t : ReadTerm) (i : ℤ) → t.shape ≡ shape.Int i → parts_of (tree_of t) ≡ None
int_parts t i is = ap parts_of (tree_of_int t i is)

pub fun_parts : (t : ReadTerm) (f : Name) (args : Vec ReadTerm Global) → t.shape ≡ shape.Fun f args → parts_of (tree_of t) ≡ Some (f.0, map tree_of args.items)
fun_parts t f args is = ap parts_of (tree_of_fun t f args is) ∙ ap (λ (ts : List Tree). Some (f.0, ts)) (list_of_row (map tree_of args.items))

pub var_integer : (t : ReadTerm) (x : ℕ) → t.shape ≡ shape.Var x → integer_of (tree_of t) ≡ None
var_integer t x is = ap integer_of (tree_of_var t x is)

pub int_integer : (t : ReadTerm) (i : ℤ) → t.shape ≡ shape.Int i → integer_of (tree_of t) ≡ Some i
int_integer t i is = ap integer_of (tree_of_int t i is)

pub fun_integer : (t : ReadTerm) (f : Name) (args : Vec ReadTerm Global) → t.shape ≡ shape.Fun f args → integer_of (tree_of t) ≡ None
fun_integer t f args is = ap integer_of (tree_of_fun t f args is)

-- ---- what terms ask for

module _ (names : List (List ℕ)) (vars : ℕ) where
  -- a term with other than one argument is no edit
  other_parts : (f : ℕ) (ts : List Tree) → (length ts ≡ 1 → ⊥) → asked_of names vars (Some (f, ts)) ≡ no_edit
  other_parts f [] many = refl
  other_parts f (t ∷ []) many = absurd (many refl)
  other_parts f (t ∷ u ∷ ts) many = refl

  pub none_asked : (t : ReadTerm) → parts_of (tree_of t) ≡ None → asked_of names vars (parts_of (tree_of t)) ≡ no_edit
  none_asked t none = ap (asked_of names vars) none

  length_map : (ts : List ReadTerm) → length (map tree_of ts) ≡ length ts
  length_map [] = refl
  length_map (t ∷ ts) = omega (arith, length_map ts)

  pub many_asked : (t : ReadTerm) (f : Name) (args : Vec ReadTerm Global) → t.shape ≡ shape.Fun f args → length args.items ≢ 1 → asked_of names vars (parts_of (tree_of t)) ≡ no_edit
  many_asked t f args is many = ap (asked_of names vars) (fun_parts t f args is) ∙ other_parts f.0 (map tree_of args.items) (λ e. many (sym (length_map args.items) ∙ e))

  pub one_asked : (t u : ReadTerm) (f : Name) (args : Vec ReadTerm Global) → t.shape ≡ shape.Fun f args → args.items ≡ u ∷ [] → asked_of names vars (parts_of (tree_of t)) ≡ asked_by names vars (name_text names f.0) (tree_of u)
  one_asked t u f args is one = ap (asked_of names vars) (fun_parts t f args is ∙ ap (λ (ts : List ReadTerm). Some (f.0, map tree_of ts)) one)

-- ---- a term with one argument

record HasOne (t u : ReadTerm) (f : Name) : Type 0 where
  pub is : tree_of t ≡ tree t.at (Fun f.0 (more_trees (tree_of u) no_trees))

has_one : (t u : ReadTerm) (f : Name) (args : Vec ReadTerm Global) → t.shape ≡ shape.Fun f args → args.items ≡ u ∷ [] → HasOne t u f
has_one t u f args is one = record { is = tree_of_fun t f args is ∙ ap (λ (ts : List ReadTerm). tree t.at (Fun f.0 (row (map tree_of ts)))) one }

-- what holds of a clause with such a term
pub record IsOneFit (names vars most : ℕ) (u : ReadTerm) (f : Name) : Type 0 where
  pub named : f.0 < names
  pub below : IsTrue (is_below vars (tree_of u))
  pub known : IsTrue (is_known names (tree_of u))
  pub fewer : nodes (tree_of u) ≤ most

pub one_fit : (names vars : ℕ) (t u : ReadTerm) (f : Name) (args : Vec ReadTerm Global) → t.shape ≡ shape.Fun f args → args.items ≡ u ∷ []
    → IsFit names (record { term = tree_of t; vars = vars }) → IsOneFit names vars (nodes (tree_of t)) u f
one_fit names vars t u f args is one fit =
    let h = (has_one t u f args is one).is in
    let below = subst (λ (x : Tree). IsTrue (is_below vars x)) h fit.below in
    let known = subst (λ (x : Tree). IsTrue (is_known names x)) h fit.known in
    let parts = and_parts (nat_lt f.0 names) (all_known names (more_trees (tree_of u) no_trees)) known in
    let count : nodes (tree_of t) ≡ suc (nodes (tree_of u) + 0) = ap nodes h in
    record {
      named = ltb-true f.0 names parts.0;
      below = (and_parts (is_below vars (tree_of u)) true below).0;
      known = (and_parts (is_known names (tree_of u)) true parts.1).0;
      fewer = omega (arith, count);
    }

-- the name of a term is one of these
pub name_known : (names : ℕ) (t : ReadTerm) (f : Name) (args : Vec ReadTerm Global) → t.shape ≡ shape.Fun f args → IsTrue (is_known names (tree_of t)) → f.0 < names
name_known names t f args is known =
    let h = subst (λ (x : Tree). IsTrue (is_known names x)) (tree_of_fun t f args is) known in
    ltb-true f.0 names (and_parts (nat_lt f.0 names) (all_known names (row (map tree_of args.items))) h).0

-- an edit that is fit by fewer nodes is so by more
pub fit_by_more : (names few most : ℕ) (e : Edit) → few ≤ most → EditIsFit names few e → EditIsFit names most e
fit_by_more names few most nothing le h = tt
fit_by_more names few most (add c) le h = (h.0, omega (arith, le, h.1))
fit_by_more names few most (remove n) le h = tt
fit_by_more names few most (tell n a) le h = tt
fit_by_more names few most no_edit le h = tt
