-- Lemmas on terms under way.
use Rattle.std.proofs.Common.{◌≡◌, ℕ, suc, ◌+◌, length, List, [], ◌∷◌, ◌++◌, refl, map, ap, arith, ◌∙◌, reverse}
use Rattle.std.proofs.lemmas.List.{reverse-append}
use Rattle.term_parser.specs.declared.part.Part.{Part as CodePart}
use Rattle.prolog_terms.specs.declared.term.ReadTerm.{ReadTerm}
use Rattle.prolog_grammar.specs.Placed.{Trees, no_trees, more_trees, Part, part_tree, row_of, depth_of, Known, named_at, chain}
use Rattle.prolog_grammar.specs.Syntax.{greater}
use Rattle.prolog_terms.specs.Clauses.{row}
use Rattle.prolog_terms.specs.Terms.{tree_of}
use Rattle.term_parser.specs.Views.{part_view}

-- one term more
pub parts_push : (ts : List CodePart) (t : CodePart) → map part_view (ts ++ t ∷ []) ≡ map part_view ts ++ part_view t ∷ []
parts_push [] t = refl
parts_push (s ∷ ts) t = ap (λ (xs : List Part). part_view s ∷ xs) (parts_push ts t)

-- a chain is built from its end
pub chain_push : (names : Known) (at : ℕ) (ps : List Part) (p tail : Part) → chain 1000 names at (ps ++ p ∷ []) tail ≡ chain 1000 names at ps (named_at 1000 at names.cell (p ∷ tail ∷ []))
chain_push names at [] p tail = refl
chain_push names at (q ∷ ps) p tail = ap (λ (r : Part). named_at 1000 at names.cell (q ∷ r ∷ [])) (chain_push names at ps p tail)

-- the arguments in front of others, from the end
abbrev pub onto : List Part → Trees → Trees
onto [] k = k
onto (p ∷ ps) k = more_trees (part_tree p) (onto ps k)

pub onto_push : (ps : List Part) (p : Part) (k : Trees) → onto (ps ++ p ∷ []) k ≡ onto ps (more_trees (part_tree p) k)
onto_push [] p k = refl
onto_push (q ∷ ps) p k = ap (more_trees (part_tree q)) (onto_push ps p k)

pub row_is_onto : (ps : List Part) → row_of ps ≡ onto ps no_trees
row_is_onto [] = refl
row_is_onto (p ∷ ps) = ap (more_trees (part_tree p)) (row_is_onto ps)

abbrev pub depth_onto : List Part → ℕ → ℕ
depth_onto [] d = d
depth_onto (p ∷ ps) d = greater p.depth (depth_onto ps d)

pub depth_push : (ps : List Part) (p : Part) (d : ℕ) → depth_onto (ps ++ p ∷ []) d ≡ depth_onto ps (greater p.depth d)
depth_push [] p d = refl
depth_push (q ∷ ps) p d = ap (greater q.depth) (depth_push ps p d)

pub depth_is_onto : (ps : List Part) → depth_of ps ≡ depth_onto ps 0
depth_is_onto [] = refl
depth_is_onto (p ∷ ps) = ap (greater p.depth) (depth_is_onto ps)

-- terms that were pushed from the end
abbrev pub back : Trees → List ReadTerm → Trees
back k [] = k
back k (t ∷ ts) = back (more_trees (tree_of t) k) ts

pub back_push : (k : Trees) (ts : List ReadTerm) (t : ReadTerm) → back k (ts ++ t ∷ []) ≡ more_trees (tree_of t) (back k ts)
back_push k [] t = refl
back_push k (u ∷ ts) t = back_push (more_trees (tree_of u) k) ts t

ahead : List ReadTerm → Trees → Trees
ahead [] k = k
ahead (t ∷ ts) k = more_trees (tree_of t) (ahead ts k)

ahead_push : (ts : List ReadTerm) (t : ReadTerm) (k : Trees) → ahead (ts ++ t ∷ []) k ≡ ahead ts (more_trees (tree_of t) k)
unfolding ahead
ahead_push [] t k = refl
ahead_push (u ∷ ts) t k = ap (more_trees (tree_of u)) (ahead_push ts t k)

trees_ahead : (ts : List ReadTerm) → row (map tree_of ts) ≡ ahead ts no_trees
unfolding ahead
trees_ahead [] = refl
trees_ahead (t ∷ ts) = ap (more_trees (tree_of t)) (trees_ahead ts)

ahead_reverse : (ts : List ReadTerm) (k : Trees) → ahead (reverse ts) k ≡ back k ts
unfolding ahead
ahead_reverse [] k = refl
ahead_reverse (t ∷ ts) k = ap (λ (us : List ReadTerm). ahead us k) (reverse-append (t ∷ []) ts) ∙ ahead_push (reverse ts) t k ∙ ahead_reverse ts (more_trees (tree_of t) k)

pub trees_reverse : (ts : List ReadTerm) → row (map tree_of (reverse ts)) ≡ back no_trees ts
trees_reverse ts = trees_ahead (reverse ts) ∙ ahead_reverse ts no_trees
