-- A step on goals as they are is the definition's step.
use Rattle.std.proofs.Common.{◌≡◌, ℕ, ◌+◌, Bool, true, false, ◌==◌, if◌then◌else◌, List, [], ◌∷◌, ◌++◌, map, Option, None, Some, option_map, refl, ap, sym, ◌∙◌, subst, arith}
use Rattle.std.proofs.lemmas.Bool.Decides.{nat_tests}
use Rattle.std.proofs.lemmas.List.{map-append}
use Rattle.cti_terms.specs.Tree.{Tree, instance}
use Rattle.cti_terms.specs.declared.atom_list.Atom.{Atom}
use Rattle.cti_terms.specs.declared.clauses.Clause.{Clause}
use Rattle.cti_terms.specs.Unify.{Binding, applied}
use Rattle.cti_terms.specs.UnifyFunction.{unify}
use Rattle.cti_terms.specs.Resolve.{over, raised, head_equations, answered, left_by, resolve_by}
use Rattle.unifier.specs.Pending.{IsUnified}
use Rattle.unifier.specs.Raised.{raise}
use Rattle.unifier.specs.Store.{made, full}
use Rattle.unifier.proofs.BelowLaws.{raised_zero}
use Rattle.cti_terms.specs.Below.{ArgumentsBelow}
use Rattle.loop_finder.specs.Copies.{atom_copies}

-- what is not raised and not bound is as it is
raised_arguments : (ts : List Tree) → map (instance (raise 0)) ts ≡ ts
raised_arguments [] = refl
raised_arguments (t ∷ ts) = λ i. raised_zero t i ∷ raised_arguments ts i

raised_atoms : (xs : List Atom) → map (raised 0) xs ≡ xs
raised_atoms [] = refl
raised_atoms (a ∷ xs) = λ i. record { pred = a.pred; args = raised_arguments a.args i } ∷ raised_atoms xs i

free_arguments : (ts : List Tree) → map (full []) ts ≡ ts
free_arguments [] = refl
free_arguments (t ∷ ts) = ap (λ us. t ∷ us) (free_arguments ts)

as_it_is : (s : List Binding) (a : Atom) → s ≡ [] → over (full s) (raised 0 a) ≡ a
as_it_is s a e =
    let args = (λ i. map (full (e i)) (raised_arguments a.args i)) ∙ free_arguments a.args in
    λ i. record { pred = a.pred; args = args i }

pub first_below : (s : List Binding) (n : ℕ) (a : Atom) → s ≡ [] → ArgumentsBelow n a.args → ArgumentsBelow n (over (full s) (raised 0 a)).args
first_below s n a e h = subst (λ (b : Atom). ArgumentsBelow n b.args) (sym (as_it_is s a e)) h

-- the equations are those of the definition
the_equations : (s now : List Binding) (a : Atom) (n : ℕ) (c : Clause) (b : Bool) → s ≡ [] → IsUnified (made s) (head_equations (over (full s) (raised 0 a)) n c) (made now) b → IsUnified [] (head_equations a n c) (made now) b
the_equations s now a n c b e h = subst (λ (x : List Binding × Atom). IsUnified x.0 (head_equations x.1 n c) (made now) b) (λ i. (made (e i), as_it_is s a e i)) h

pub failed : (s now : List Binding) (a : Atom) (rest : List Atom) (n : ℕ) (c : Clause) (b : Bool) → s ≡ [] → b ≡ false → IsUnified (made s) (head_equations (over (full s) (raised 0 a)) n c) (made now) b
    → None ≡ option_map (λ r. r.1) (resolve_by (a ∷ rest) n c)
failed s now a rest n c b e f h = go (a.pred.0 == c.head.pred.0) (subst (λ (d : Bool). IsUnified [] (head_equations a n c) (made now) d) f (the_equations s now a n c b e h))
  where
    go : (d : Bool) → unify (head_equations a n c) ≡ None → None ≡ option_map (λ r. r.1) (if d then option_map (answered rest n c) (unify (head_equations a n c)) else None)
    go true k = ap (λ (o : Option (List Binding)). option_map (λ r. r.1) (option_map (answered rest n c) o)) (sym k)
    go false k = refl

pub other_pred : (a : Atom) (rest : List Atom) (n : ℕ) (c : Clause) → (a.pred.0 == c.head.pred.0) ≡ false → None ≡ option_map (λ r. r.1) (resolve_by (a ∷ rest) n c)
other_pred a rest n c e = ap (λ b. option_map (λ r. r.1) (if b then option_map (answered rest n c) (unify (head_equations a n c)) else None)) (sym e)

copied_left : (now bs : List Binding) (rest : List Atom) (n : ℕ) (c : Clause) → made now ≡ bs → atom_copies now n c.body ++ atom_copies now 0 rest ≡ (left_by bs rest n c).atoms
copied_left now bs rest n c e =
    ap (λ xs. atom_copies now n c.body ++ map (over (full now)) xs) (raised_atoms rest)
    ∙ sym (map-append (over (full now)) (map (raised n) c.body) rest)
    ∙ (λ i. map (over (applied (e i))) (map (raised n) c.body ++ rest))

pub resolved : (s now : List Binding) (a : Atom) (rest : List Atom) (n : ℕ) (c : Clause) (b : Bool) (atoms : List Atom) (fresh : ℕ) → s ≡ [] → a.pred.0 ≡ c.head.pred.0 → b ≡ true
    → IsUnified (made s) (head_equations (over (full s) (raised 0 a)) n c) (made now) b → atoms ≡ atom_copies now n c.body ++ atom_copies now 0 rest → fresh ≡ n + c.vars
    → Some (record { atoms = atoms; fresh = fresh }) ≡ option_map (λ r. r.1) (resolve_by (a ∷ rest) n c)
resolved s now a rest n c b atoms fresh e p f h copies count =
    let u = subst (λ (d : Bool). IsUnified [] (head_equations a n c) (made now) d) f (the_equations s now a n c b e h) in
    let left = copies ∙ copied_left now u.0 rest n c u.2 in
    (λ i. Some (record { atoms = left i; fresh = count i }))
    ∙ ap (λ (o : Option (List Binding)). option_map (λ r. r.1) (option_map (answered rest n c) o)) (sym u.1)
    ∙ ap (λ d. option_map (λ r. r.1) (if d then option_map (answered rest n c) (unify (head_equations a n c)) else None)) (sym same)
  where
    same : (a.pred.0 == c.head.pred.0) ≡ true
    same = grind (arith, nat_tests)

free_atoms : (xs : List Atom) → map (over (full [])) xs ≡ xs
free_atoms [] = refl
free_atoms (a ∷ xs) = λ i. record { pred = a.pred; args = free_arguments a.args i } ∷ free_atoms xs i

-- copies without bindings
pub copied_atoms : (s : List Binding) (xs : List Atom) → s ≡ [] → atom_copies s 0 xs ≡ xs
copied_atoms s xs e = (λ i. map (over (full (e i))) (raised_atoms xs i)) ∙ free_atoms xs
