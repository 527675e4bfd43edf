-- Lemmas on the code's terms.
use Rattle.std.proofs.Common.{◌≡◌, ℕ, ℤ, List, [], ◌∷◌, ◌++◌, length, refl, map, ap, sym, ◌∙◌, arith, Vec, Global}
use Rattle.prolog_terms.specs.declared.term.ReadTerm.{ReadTerm, fold_out-ReadTerm}
use Rattle.prolog_terms.specs.declared.term.ReadShape.{ReadShape, fold-roll-ReadShape}
use Rattle.prolog_terms.specs.declared.term.ReadShape.TheVariants.{Var, Int, Fun, rolls-Var, rolls-Int, rolls-Fun}
use Rattle.prolog_terms.specs.declared.term.ReadShape.TheOpen as layer
use Rattle.prolog_grammar.specs.Placed.{Tree, tree, Shape, Var as PlainVar, Int as PlainInt, Fun as PlainFun, Trees, no_trees, more_trees}
use Rattle.cti_terms.specs.declared.naming.Name.{Name}
use Rattle.prolog_terms.specs.Clauses.{row, list_of, arity}
use Rattle.prolog_terms.specs.Terms.{shape_step, term_step, tree_of, shape_of}

-- one argument more
pub trees_push : (ts : List ReadTerm) (t : ReadTerm) → map tree_of (ts ++ t ∷ []) ≡ map tree_of ts ++ tree_of t ∷ []
trees_push [] t = refl
trees_push (s ∷ ts) t = ap (λ (xs : List Tree). tree_of s ∷ xs) (trees_push ts t)

-- the arguments of a list are as many as the list has, and are that list
pub arity_row : (ts : List Tree) → arity (row ts) ≡ length ts
arity_row [] = refl
arity_row (t ∷ ts) = omega (arith, arity_row ts)

pub list_of_row : (ts : List Tree) → list_of (row ts) ≡ ts
list_of_row [] = refl
list_of_row (t ∷ ts) = ap (λ (xs : List Tree). t ∷ xs) (list_of_row ts)

pub row_list_of : (ts : Trees) → row (list_of ts) ≡ ts
row_list_of no_trees = refl
row_list_of (more_trees t ts) = ap (more_trees t) (row_list_of ts)

-- as many as the code's list has
pub arity_terms : (ts : List ReadTerm) → arity (row (map tree_of ts)) ≡ length ts
arity_terms [] = refl
arity_terms (t ∷ ts) = omega (arith, arity_terms ts)

-- each shape of the code as a plain one
shape_of_var : (v : ℕ) → shape_of (Var v) ≡ PlainVar v
shape_of_var v = ap shape_of (sym (rolls-Var v)) ∙ fold-roll-ReadShape Shape Tree shape_step term_step (layer.Var v)

shape_of_int : (i : ℤ) → shape_of (Int i) ≡ PlainInt i
shape_of_int i = ap shape_of (sym (rolls-Int i)) ∙ fold-roll-ReadShape Shape Tree shape_step term_step (layer.Int i)

shape_of_fun : (n : Name) (ts : Vec ReadTerm Global) → shape_of (Fun n ts) ≡ PlainFun n.0 (row (map tree_of ts.items))
shape_of_fun n ts = ap shape_of (sym (rolls-Fun n ts)) ∙ fold-roll-ReadShape Shape Tree shape_step term_step (layer.Fun n ts)

-- each term of the code as a plain one
pub tree_of_var : (t : ReadTerm) (v : ℕ) → t.shape ≡ Var v → tree_of t ≡ tree t.at (PlainVar v)
tree_of_var t v h = fold_out-ReadTerm Shape Tree shape_step term_step t ∙ ap (λ (s : ReadShape). tree t.at (shape_of s)) h ∙ ap (tree t.at) (shape_of_var v)

pub tree_of_int : (t : ReadTerm) (i : ℤ) → t.shape ≡ Int i → tree_of t ≡ tree t.at (PlainInt i)
tree_of_int t i h = fold_out-ReadTerm Shape Tree shape_step term_step t ∙ ap (λ (s : ReadShape). tree t.at (shape_of s)) h ∙ ap (tree t.at) (shape_of_int i)

pub tree_of_fun : (t : ReadTerm) (n : Name) (ts : Vec ReadTerm Global) → t.shape ≡ Fun n ts → tree_of t ≡ tree t.at (PlainFun n.0 (row (map tree_of ts.items)))
tree_of_fun t n ts h = fold_out-ReadTerm Shape Tree shape_step term_step t ∙ ap (λ (s : ReadShape). tree t.at (shape_of s)) h ∙ ap (tree t.at) (shape_of_fun n ts)

-- a term's place and its shape
pub tree_of_parts : (t : ReadTerm) → tree_of t ≡ tree t.at (shape_of t.shape)
tree_of_parts t = fold_out-ReadTerm Shape Tree shape_step term_step t
