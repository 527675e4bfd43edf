-- Laws of variables that are numbered by first occurrence.
use Rattle.std.proofs.Common.{◌≡◌, ℕ, ◌+◌, ◌<◌, ◌≤◌, Bool, true, false, not, cond, ◌||◌, nat_eq, if◌then◌else◌, List, [], ◌∷◌, ◌++◌, map, length, drop, get_or, append_assoc, append-nil, length-append, refl, ap, sym, ◌∙◌, arith}
use Rattle.std.specs.List.{list_any, position_or_len}
use Rattle.std.proofs.lemmas.Bool.Decides.{nat_tests}
use Rattle.std.proofs.lemmas.List.{at_drop_more}
use Rattle.cti_terms.specs.Tree.{Tree, Trees, Variable, Integer, Compound, End, More, trees, instance, all_instances, nodes_of, all_nodes}
use Rattle.cti_terms.specs.declared.syntax.Term.{Term, fold-roll-Term}
use Rattle.cti_terms.specs.declared.syntax.Term.TheVariants.{Var, rolls-Var}
use Rattle.cti_terms.specs.declared.syntax.Term.TheOpen.Term-F.{Var as VarLayer}
use Rattle.cti_terms.specs.Spell.{tree_of, tree_step}
use Rattle.cti_terms.specs.declared.atom_list.Atom.{Atom}
use Rattle.cti_terms.specs.Unify.{Binding}
use Rattle.cti_terms.specs.Resolve.{over}
use Rattle.cti_terms.specs.Answers.{with_variable, met, all_met, numbered_by}
use Rattle.cti_terms.proofs.Unifier.{applied_instance}
use Rattle.cti_terms.proofs.Spelled.{trees_of_left}
use Rattle.unifier.specs.Raised.{raise}
use Rattle.unifier.specs.Store.{made, full, all_full}
use Rattle.unifier.specs.Pending.{args_full}
use Rattle.ld_resolver.specs.Measured.{all_numbered_by, answered_terms, args_numbered, atoms_numbered}
use Rattle.unifier.proofs.BelowLaws.{raised_zero}

-- variables are added at the end
met_variable : (xs : List ℕ) (x : ℕ) → (more : List ℕ) × (with_variable xs x ≡ xs ++ more)
met_variable xs x = go (list_any (nat_eq x) xs)
  where
    go : (b : Bool) → (more : List ℕ) × ((if b then xs else xs ++ x ∷ []) ≡ xs ++ more)
    go true = ([], sym (append-nil xs))
    go false = (x ∷ [], refl)

mutual
  pub met_more : (xs : List ℕ) (t : Tree) → (more : List ℕ) × (met xs t ≡ xs ++ more)
  met_more xs (Variable x) = met_variable xs x
  met_more xs (Integer n) = ([], sym (append-nil xs))
  met_more xs (Compound f ts) = all_met_more xs ts

  pub all_met_more : (xs : List ℕ) (ts : Trees) → (more : List ℕ) × (all_met xs ts ≡ xs ++ more)
  all_met_more xs End = ([], sym (append-nil xs))
  all_met_more xs (More t ts) =
      let a = met_more xs t in
      let b = all_met_more (met xs t) ts in
      (a.0 ++ b.0, b.1 ∙ ap (λ (l : List ℕ). l ++ b.0) a.1 ∙ append_assoc xs a.0 b.0)

variable_length : (xs : List ℕ) (x : ℕ) → length (with_variable xs x) ≤ length xs + 1
variable_length xs x = go (list_any (nat_eq x) xs)
  where
    go : (b : Bool) → length (if b then xs else xs ++ x ∷ []) ≤ length xs + 1
    go true = omega arith
    go false = omega (arith, length-append xs (x ∷ []))

mutual
  -- no more variables than nodes
  pub met_length : (xs : List ℕ) (t : Tree) → length (met xs t) ≤ length xs + nodes_of t
  met_length xs (Variable x) = variable_length xs x
  met_length xs (Integer n) = omega arith
  met_length xs (Compound f ts) = let h = all_met_length xs ts in omega (arith, h)

  pub all_met_length : (xs : List ℕ) (ts : Trees) → length (all_met xs ts) ≤ length xs + all_nodes ts
  all_met_length xs End = omega arith
  all_met_length xs (More t ts) = let a = met_length xs t in let b = all_met_length (met xs t) ts in omega (arith, a, b)

-- a variable keeps its place
module _ (x : ℕ) where
  found_stays : (xs more : List ℕ) → list_any (nat_eq x) xs ≡ true → position_or_len (nat_eq x) (xs ++ more) ≡ position_or_len (nat_eq x) xs
  found_stays [] more h = cc
  found_stays (y ∷ xs) more h = go (nat_eq x y) h (found_stays xs more)
    where
      go : (b : Bool) → (b || list_any (nat_eq x) xs) ≡ true → (list_any (nat_eq x) xs ≡ true → position_or_len (nat_eq x) (xs ++ more) ≡ position_or_len (nat_eq x) xs) → cond (not b) (1 + position_or_len (nat_eq x) (xs ++ more)) 0 ≡ cond (not b) (1 + position_or_len (nat_eq x) xs) 0
      go true h f = refl
      go false h f = ap (λ n. 1 + n) (f h)

  new_stays : (xs more : List ℕ) → list_any (nat_eq x) xs ≡ false → position_or_len (nat_eq x) ((xs ++ x ∷ []) ++ more) ≡ position_or_len (nat_eq x) xs
  new_stays [] more h = ap (λ b. cond (not b) (1 + position_or_len (nat_eq x) more) 0) (same x)
    where
      same : (y : ℕ) → nat_eq y y ≡ true
      same y = grind (arith, nat_tests)
  new_stays (y ∷ xs) more h = go (nat_eq x y) h (new_stays xs more)
    where
      go : (b : Bool) → (b || list_any (nat_eq x) xs) ≡ false → (list_any (nat_eq x) xs ≡ false → position_or_len (nat_eq x) ((xs ++ x ∷ []) ++ more) ≡ position_or_len (nat_eq x) xs) → cond (not b) (1 + position_or_len (nat_eq x) ((xs ++ x ∷ []) ++ more)) 0 ≡ cond (not b) (1 + position_or_len (nat_eq x) xs) 0
      go true h f = cc
      go false h f = ap (λ n. 1 + n) (f h)

  pub place_stays : (xs more : List ℕ) → position_or_len (nat_eq x) (with_variable xs x ++ more) ≡ position_or_len (nat_eq x) xs
  place_stays xs more = go (list_any (nat_eq x) xs) refl
    where
      go : (b : Bool) → list_any (nat_eq x) xs ≡ b → position_or_len (nat_eq x) ((if b then xs else xs ++ x ∷ []) ++ more) ≡ position_or_len (nat_eq x) xs
      go true e = found_stays xs more e
      go false e = new_stays xs more e

-- the arguments that are left
pub args_first : (s : List Binding) (n : ℕ) (ts : List Term) (i : ℕ) (t : Term) → i < length ts → t ≡ get_or ts i t → args_full s n (drop i ts) ≡ More (full s (instance (raise n) (tree_of t))) (args_full s n (drop (i + 1) ts))
args_first s n ts i t h e =
    (λ j. all_full s (all_instances (raise n) (trees_of_left ts i t h e j)))
    ∙ ap (λ u. More u (args_full s n (drop (i + 1) ts))) (sym (applied_instance (made s) (instance (raise n) (tree_of t))))

pub numbered_first : (xs : List ℕ) (s : List Binding) (n : ℕ) (ts : List Term) (i : ℕ) (t : Term) → i < length ts → t ≡ get_or ts i t → args_numbered xs s n (drop i ts) ≡ numbered_by xs (full s (instance (raise n) (tree_of t))) ∷ args_numbered xs s n (drop (i + 1) ts)
numbered_first xs s n ts i t h e = at_drop_more (args_numbered xs s n) ts i t h ∙ ap (λ (u : Term). args_numbered xs s n (u ∷ drop (i + 1) ts)) (sym e)

pub numbered_trees : (xs : List ℕ) (s : List Binding) (n : ℕ) (ts : List Term) → trees (args_numbered xs s n ts) ≡ all_numbered_by xs (args_full s n ts)
numbered_trees xs s n [] = refl
numbered_trees xs s n (t ∷ ts) = λ i. More (numbered_by xs (applied_instance (made s) (instance (raise n) (tree_of t)) i)) (numbered_trees xs s n ts i)

-- the term of one more argument, by all variables in the end
pub told_first : (keys new final rest : List ℕ) (t : Tree) (u : Tree) (left : Trees) → new ≡ met keys t → all_met keys (More t left) ≡ final → ((more : List ℕ) → u ≡ numbered_by (new ++ more) t) → (more : List ℕ) → u ≡ numbered_by (final ++ more) t
told_first keys new final rest t u left e h f more =
    let m = all_met_more (met keys t) left in
    let all : final ≡ new ++ m.0 = sym h ∙ m.1 ∙ ap (λ (l : List ℕ). l ++ m.0) (sym e) in
    f (m.0 ++ more) ∙ ap (λ (l : List ℕ). numbered_by l t) (sym (append_assoc new m.0 more) ∙ ap (λ (l : List ℕ). l ++ more) (sym all))

-- arguments of a query's atom
pub query_args : (s : List Binding) (ts : List Tree) → all_full s (all_instances (raise 0) (trees ts)) ≡ trees (map (full s) ts)
query_args s [] = refl
query_args s (t ∷ ts) = λ i. More ((sym (applied_instance (made s) (instance (raise 0) t)) ∙ ap (full s) (raised_zero t)) i) (query_args s ts i)

pub all_numbered_trees : (xs : List ℕ) (ts : List Tree) → all_numbered_by xs (trees ts) ≡ trees (map (numbered_by xs) ts)
all_numbered_trees xs [] = refl
all_numbered_trees xs (t ∷ ts) = λ i. More (numbered_by xs t) (all_numbered_trees xs ts i)

-- the atoms that are left
pub terms_first : (s : List Binding) (atoms : List Atom) (i : ℕ) (a : Atom) → i < length atoms → a ≡ get_or atoms i a → answered_terms s (drop i atoms) ≡ More (Compound a.pred.0 (trees (map (full s) a.args))) (answered_terms s (drop (i + 1) atoms))
terms_first s atoms i a h e = at_drop_more (answered_terms s) atoms i a h ∙ ap (λ (b : Atom). answered_terms s (b ∷ drop (i + 1) atoms)) (sym e)

pub atoms_first : (xs : List ℕ) (s : List Binding) (atoms : List Atom) (i : ℕ) (a : Atom) → i < length atoms → a ≡ get_or atoms i a → atoms_numbered xs s (drop i atoms) ≡ over (numbered_by xs) (over (full s) a) ∷ atoms_numbered xs s (drop (i + 1) atoms)
atoms_first xs s atoms i a h e = at_drop_more (atoms_numbered xs s) atoms i a h ∙ ap (λ (b : Atom). atoms_numbered xs s (b ∷ drop (i + 1) atoms)) (sym e)

-- one more atom, by all variables in the end
pub told_atom_first : (keys new final : List ℕ) (a b : Atom) (left : Trees) → new ≡ all_met keys (trees a.args) → all_met (all_met keys (trees a.args)) left ≡ final → ((more : List ℕ) → b ≡ over (numbered_by (new ++ more)) a) → b ≡ over (numbered_by final) a
told_atom_first keys new final a b left e h f =
    let m = all_met_more (all_met keys (trees a.args)) left in
    let all : final ≡ new ++ m.0 = sym h ∙ m.1 ∙ ap (λ (l : List ℕ). l ++ m.0) (sym e) in
    f m.0 ∙ ap (λ (l : List ℕ). over (numbered_by l) a) (sym all)

-- what a variable spells
pub tree_of_var : (x : ℕ) → tree_of (Var x) ≡ Variable x
tree_of_var x = ap tree_of (sym (rolls-Var x)) ∙ fold-roll-Term Tree tree_step (VarLayer x)
