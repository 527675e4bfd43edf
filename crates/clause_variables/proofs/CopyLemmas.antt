-- Lemmas on terms with their variables numbered anew.
use Rattle.std.proofs.Common.{◌≡◌, ℕ, ◌+◌, ◌<◌, List, [], ◌∷◌, ◌++◌, length, map, drop, get_or, nat_eq, refl, ap, sym, ◌∙◌, append_assoc, arith, zero, suc, sum_by, Vec, Global}
use Rattle.std.proofs.lemmas.List.Sums.{sum_by-cons, sum_by-append}
use Rattle.std.specs.List.{position_or_len}
use Rattle.std.proofs.lemmas.List.{at_drop_more}
use Rattle.cti_terms.specs.Tree.{Tree as Term, Variable, Compound, More, instance, all_instances, trees, nodes_of, all_nodes}
use Rattle.cti_terms.specs.Spell.{tree_of as cti_tree}
use Rattle.cti_terms.specs.declared.naming.Name.{Name}
use Rattle.cti_terms.specs.declared.syntax.Term.{Term as CodeTerm}
use Rattle.cti_terms.specs.declared.syntax.Term.TheVariants.{Fun as CodeFun}
use Rattle.cti_terms.proofs.Spelled.{tree_of_fun as cti_tree_of_fun}
use Rattle.prolog_terms.specs.declared.term.ReadTerm.{ReadTerm}
use Rattle.prolog_terms.specs.declared.term.ReadShape.TheVariants as shape
use Rattle.prolog_terms.specs.Clauses.{row}
use Rattle.prolog_terms.specs.Terms.{tree_of}
use Rattle.prolog_reader.proofs.ViewLemmas.{tree_of_fun}
use Rattle.clause_variables.specs.Terms.{plain, plain_terms, renumbered}
use Rattle.clause_variables.specs.TermViews.{plain_of}

-- a list of arguments, each replaced
instances_row : (a : ℕ → Term) (ts : List ReadTerm) → trees (map (λ (t : ReadTerm). instance a (plain_of t)) ts) ≡ all_instances a (plain_terms (row (map tree_of ts)))
instances_row a [] = refl
instances_row a (t ∷ ts) = ap (More (instance a (plain_of t))) (instances_row a ts)

-- a name whose arguments are copied
pub copied_fun : (order : List ℕ) (t : ReadTerm) (f : Name) (args : Vec ReadTerm Global) (copies : Vec CodeTerm Global) → t.shape ≡ shape.Fun f args
    → map cti_tree copies.items ≡ map (λ (t : ReadTerm). renumbered order (plain_of t)) args.items → cti_tree (CodeFun f copies) ≡ renumbered order (plain_of t)
copied_fun order t f args copies is e =
    let a : ℕ → Term = λ x. Variable (position_or_len (nat_eq x) order) in
    cti_tree_of_fun f copies ∙ ap (λ (ts : List Term). Compound f.0 (trees ts)) e ∙ ap (Compound f.0) (instances_row a args.items)
    ∙ sym (ap (λ t. instance a (plain t)) (tree_of_fun t f args is))

-- the nodes of one argument more
pub all_nodes_push : (ts : List Term) (t : Term) → all_nodes (trees (ts ++ t ∷ [])) ≡ all_nodes (trees ts) + nodes_of t
all_nodes_push [] t = omega arith
all_nodes_push (u ∷ ts) t = omega (arith, all_nodes_push ts t)

-- one element more of a list that is copied
pub copy_step : {X Y : Type 0} (f : X → Y) (xs : List X) (i : ℕ) (x : X) (done new : List Y) (y : Y) → i < length xs → x ≡ get_or xs i x → new ≡ done ++ y ∷ [] → y ≡ f x
    → new ++ map f (drop (i + 1) xs) ≡ done ++ map f (drop i xs)
copy_step f xs i x done new y lt at e same =
    ap (λ ys. ys ++ map f (drop (i + 1) xs)) e ∙ append_assoc done (y ∷ []) (map f (drop (i + 1) xs))
    ∙ ap (λ z. done ++ z ∷ map f (drop (i + 1) xs)) same
    ∙ ap (λ ys. done ++ ys) (sym (at_drop_more (map f) xs i x lt ∙ ap (λ z. f z ∷ map f (drop (i + 1) xs)) (sym at)))

-- one function after another
pub map_map : {X Y Z : Type 0} (f : X → Y) (g : Y → Z) (xs : List X) → map g (map f xs) ≡ map (λ (x : X). g (f x)) xs
map_map f g [] = refl
map_map f g (x ∷ xs) = ap (λ ys. g (f x) ∷ ys) (map_map f g xs)

-- the nodes of one term more in a list
pub sum_by_push : (ts : List Term) (t : Term) → sum_by nodes_of (ts ++ t ∷ []) ≡ sum_by nodes_of ts + nodes_of t
sum_by_push ts t = sum_by-append nodes_of ts (t ∷ []) ∙ omega (arith, sum_by-cons nodes_of t [])

-- an element is at its own place, whatever stands past the end
pub default_is : (xs : List ℕ) (i d : ℕ) → get_or xs i d ≡ get_or xs i (get_or xs i d)
default_is [] i d = refl
default_is (x ∷ xs) zero d = refl
default_is (x ∷ xs) (suc i) d = default_is xs i d
