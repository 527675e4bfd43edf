-- Steps of whole passes, renumbered in turn, are those of each pass under the numbers of its clauses.
use Rattle.std.proofs.Common.{◌≡◌, ℕ, zero, suc, ◌+◌, ◌<◌, ◌≤◌, ◌==◌, ℤ, Bool, false, if◌then◌else◌, List, [], ◌∷◌, ◌++◌, append_assoc, drop, length, map, slice_get, slice_index_or, Some, refl, ap, sym, subst, ◌∙◌, arith, eq-eqb}
use Rattle.std.specs.List.{flat_map, AllByRecursion}
use Rattle.std.proofs.lemmas.Bool.Decides.{nat_tests}
use Rattle.cti_terms.specs.Tree.{Tree}
use Rattle.termination_model.specs.chains.Chain.{after, after_pass, AreSteps, ArePasses}
use Rattle.termination_model.specs.chains.ChainSteps.{Step}
use Rattle.termination_model.proofs.Lists.{map_push}
use Rattle.numeric_model.specs.States.{plain_step}
use Rattle.numeric_model.specs.declared.step.Step.{Step as Noted}
use Rattle.component_laws.specs.Runs.{renumbered, with_number}
use Rattle.solved_program.specs.Renumbered.{in_turn, next_place}
use Rattle.solved_program.proofs.Clauses.{Numbered}
use Rattle.solved_program.proofs.Parts.{Rowed}

pub last_place : (n place : ℕ) → suc place ≡ n → next_place n place ≡ 0
last_place n place e = ap (λ (b : Bool). if b then 0 else suc place) (eq-eqb (suc place) n e)

pub inner_place : (n place : ℕ) → suc place < n → next_place n place ≡ suc place
inner_place n place lt = ap (λ (b : Bool). if b then 0 else suc place) off
  where
    off : (suc place == n) ≡ false
    off = grind (arith, nat_tests)

-- these clauses have the numbers from a place on, and there are no others
abbrev pub AreFrom : List ℕ → ℕ → List Numbered → Type 0
AreFrom own place ls = (place + length ls ≡ length own) × ((i : ℕ) (l : Numbered) → slice_get ls i ≡ Some l → slice_index_or own (place + i) 0 ≡ l.0)

from_next : (own : List ℕ) (place : ℕ) (l : Numbered) (ls : List Numbered) → AreFrom own place (l ∷ ls) → AreFrom own (suc place) ls
from_next own place l ls h = ((let e = h.0 in omega arith), λ i x at. let s : suc place + i ≡ place + suc i = omega arith in ap (λ (n : ℕ). slice_index_or own n 0) s ∙ h.1 (suc i) x at)

first_number : (own : List ℕ) (place : ℕ) (l : Numbered) (ls : List Numbered) → AreFrom own place (l ∷ ls) → slice_index_or own place 0 ≡ l.0
first_number own place l ls h = let s : place ≡ place + 0 = omega arith in ap (λ (n : ℕ). slice_index_or own n 0) s ∙ h.1 0 l refl

one_pass : (own : List ℕ) (place : ℕ) (l : Numbered) (ls : List Numbered) (s : Step) (ss rest : List Step) → AreFrom own place (l ∷ ls) → length ls ≡ length ss
    → in_turn own place ((s ∷ ss) ++ rest) ≡ renumbered (l ∷ ls) (s ∷ ss) ++ in_turn own 0 rest
one_pass own place l [] s [] rest h e =
    let number = first_number own place l [] h in
    let next = last_place (length own) place (let n = h.0 in omega arith) in
    λ i. with_number (number i) s ∷ in_turn own (next i) rest
one_pass own place l [] s (t ∷ ss) rest h e = absurd (omega arith)
one_pass own place l (m ∷ ls) s [] rest h e = absurd (omega arith)
one_pass own place l (m ∷ ls) s (t ∷ ss) rest h e =
    let number = first_number own place l (m ∷ ls) h in
    let next = inner_place (length own) place (let n = h.0 in omega arith) in
    let more = one_pass own (suc place) m ls t ss rest (from_next own place l (m ∷ ls) h) (omega arith) in
    λ i. with_number (number i) s ∷ (ap (λ (n : ℕ). in_turn own n ((t ∷ ss) ++ rest)) next ∙ more) i

pass_in_turn : (own : List ℕ) (ls : List Numbered) (ss rest : List Step) → AreFrom own 0 ls → length ls ≡ length ss → in_turn own 0 (ss ++ rest) ≡ renumbered ls ss ++ in_turn own 0 rest
pass_in_turn own [] [] rest h e = refl
pass_in_turn own [] (s ∷ ss) rest h e = absurd (omega arith)
pass_in_turn own (l ∷ ls) [] rest h e = absurd (omega arith)
pass_in_turn own (l ∷ ls) (s ∷ ss) rest h e = one_pass own 0 l ls s ss rest h (omega arith)

passes_in_turn : (own : List ℕ) (ls : List Numbered) (sss : List (List Step)) → AreFrom own 0 ls → AllByRecursion (λ ss. length ls ≡ length ss) sss
    → in_turn own 0 (flat_map (λ ss. ss) sss) ≡ flat_map (λ ss. ss) (map (renumbered ls) sss)
passes_in_turn own ls [] h a = refl
passes_in_turn own ls (ss ∷ sss) h a = pass_in_turn own ls ss (flat_map (λ xs. xs) sss) h a.0 ∙ ap (λ (xs : List Step). renumbered ls ss ++ xs) (passes_in_turn own ls sss h a.1)

-- each pass has a step for each clause
steps_length : (speaks : List ℤ → Bool) (expression : ℕ → Tree → List ℤ) (pass : ℕ) (rows : Rowed) (ks : List Numbered) (ss : List Step) → AreSteps speaks expression pass rows ks ss → length ks ≡ length ss
steps_length speaks expression pass rows [] [] a = refl
steps_length speaks expression pass rows [] (x ∷ ss) a = absurd a
steps_length speaks expression pass rows (x ∷ ks) [] a = absurd a
steps_length speaks expression pass rows (x ∷ ks) (y ∷ ss) a = ap suc (steps_length speaks expression pass (after x.1 y rows) ks ss a.2)

pub passes_length : (speaks : List ℤ → Bool) (expression : ℕ → Tree → List ℤ) (pass : ℕ) (rows : Rowed) (ks : List Numbered) (sss : List (List Step)) → ArePasses speaks expression pass rows ks sss → AllByRecursion (λ ss. length ks ≡ length ss) sss
passes_length speaks expression pass rows ks [] a = absurd a
passes_length speaks expression pass rows ks (ss ∷ []) a = (steps_length speaks expression pass rows ks ss a.0, tt)
passes_length speaks expression pass rows ks (ss ∷ (ts ∷ tss)) a = (steps_length speaks expression pass rows ks ss a.0, passes_length speaks expression (suc pass) (after_pass rows ks ss) ks (ts ∷ tss) a.2)

same_lengths : (n m : ℕ) (sss : List (List Step)) → n ≡ m → AllByRecursion (λ ss. n ≡ length ss) sss → AllByRecursion (λ ss. m ≡ length ss) sss
same_lengths n m sss e a = subst (λ (x : ℕ). AllByRecursion (λ (ss : List Step). x ≡ length ss) sss) e a

-- the numbers of clauses are those of the list
pub run_in_turn : (own : List ℕ) (ls : List Numbered) (n : ℕ) (sss : List (List Step)) → n ≡ length ls → length ls ≡ length own → ((i : ℕ) (l : Numbered) → slice_get ls i ≡ Some l → slice_index_or own i 0 ≡ l.0)
    → AllByRecursion (λ ss. n ≡ length ss) sss → in_turn own 0 (flat_map (λ ss. ss) sss) ≡ flat_map (λ ss. ss) (map (renumbered ls) sss)
run_in_turn own ls n sss e count numbers a =
    passes_in_turn own ls sss ((let z : 0 + length ls ≡ length own = omega arith in z), λ i l at. let z : 0 + i ≡ i = omega arith in ap (λ (m : ℕ). slice_index_or own m 0) z ∙ numbers i l at) (same_lengths n (length ls) sss e a)

-- ---- one step more
drop_at : {X : Type 0} (xs : List X) (i : ℕ) (x : X) → slice_get xs i ≡ Some x → drop i xs ≡ x ∷ drop (suc i) xs
drop_at [] i x e = cc
drop_at (y ∷ xs) zero x e = let is : y ≡ x = cc in λ i. is i ∷ xs
drop_at (y ∷ xs) (suc i) x e = drop_at xs i x e

pub turn_more : (own : List ℕ) (place : ℕ) (copy : List Noted) (next : Noted) (steps : List Noted) (i : ℕ) (x : Noted) (whole : List Step) → slice_get steps i ≡ Some x
    → plain_step next ≡ with_number (slice_index_or own place 0) (plain_step x) → map plain_step copy ++ in_turn own place (map plain_step (drop i steps)) ≡ whole
    → map plain_step (copy ++ next ∷ []) ++ in_turn own (next_place (length own) place) (map plain_step (drop (i + 1) steps)) ≡ whole
turn_more own place copy next steps i x whole at is so_far =
    let after_it : i + 1 ≡ suc i = omega arith in
    let rest = in_turn own (next_place (length own) place) (map plain_step (drop (i + 1) steps)) in
    let back : in_turn own place (map plain_step (drop i steps)) ≡ plain_step next ∷ rest =
    ap (λ (xs : List Noted). in_turn own place (map plain_step xs)) (drop_at steps i x at)
    ∙ (λ j. sym is j ∷ in_turn own (next_place (length own) place) (map plain_step (drop (sym after_it j) steps))) in
    ap (λ (xs : List Step). xs ++ rest) (map_push plain_step copy next) ∙ append_assoc (map plain_step copy) (plain_step next ∷ []) rest ∙ ap (λ (xs : List Step). map plain_step copy ++ xs) (sym back) ∙ so_far

drop_all : {X : Type 0} (xs : List X) (i : ℕ) → length xs ≤ i → drop i xs ≡ []
drop_all [] zero l = refl
drop_all [] (suc i) l = refl
drop_all (x ∷ xs) zero l = absurd (omega arith)
drop_all (x ∷ xs) (suc i) l = drop_all xs i (omega arith)

no_more : (xs : List Step) → xs ++ [] ≡ xs
no_more [] = refl
no_more (x ∷ xs) = ap (λ ys. x ∷ ys) (no_more xs)

pub turn_done : (own : List ℕ) (place : ℕ) (copy steps : List Noted) (i : ℕ) (whole : List Step) → length steps ≤ i → map plain_step copy ++ in_turn own place (map plain_step (drop i steps)) ≡ whole → map plain_step copy ≡ whole
turn_done own place copy steps i whole l so_far = sym (no_more (map plain_step copy)) ∙ ap (λ (xs : List Noted). map plain_step copy ++ in_turn own place (map plain_step xs)) (sym (drop_all steps i l)) ∙ so_far
