-- Lists of notes, item by item.
use Rattle.std.proofs.Common.{◌≡◌, ℕ, suc, ◌+◌, ◌-◌, ◌<◌, ◌≤◌, List, [], ◌∷◌, ◌++◌, drop, length, map, slice_get, Some, refl, ap, sym, ◌∙◌, arith}
use Rattle.std.specs.List.{flat_map}
use Rattle.std.proofs.lemmas.List.{length-map, map-append}
use Rattle.certificate.specs.declared.fact.Fact.{Fact}
use Rattle.cert_structure.specs.Numbered.{facts_from}
use Rattle.cert_assembly.specs.ChainNotes.{step_notes}
use Rattle.cti_terms.specs.Listing.{Listing}
use Rattle.level_systems.proofs.PairLists.{drop_at}
use Rattle.linear_rows.specs.Step.{columns}
use Rattle.termination_model.proofs.Lists.{append_assoc}
use Rattle.termination_model.specs.chains.ChainSteps.{Step}

pub append_none : {X : Type 0} (xs : List X) → xs ++ [] ≡ xs
append_none [] = refl
append_none (x ∷ xs) = ap (λ s. x ∷ s) (append_none xs)

-- what is added stands in front of what is still to come
pub added : {X : Type 0} (old new add rest ahead all : List X) → new ≡ old ++ add → ahead ≡ add ++ rest → old ++ ahead ≡ all → new ++ rest ≡ all
added old new add rest ahead all is next before = ap (λ s. s ++ rest) is ∙ append_assoc old add rest ∙ ap (λ s. old ++ s) (sym next) ∙ before

-- at the end nothing is to come
pub ended : {X : Type 0} (old ahead all : List X) → ahead ≡ [] → old ++ ahead ≡ all → old ≡ all
ended old ahead all none before = sym (append_none old) ∙ ap (λ s. old ++ s) (sym none) ∙ before

pub columns_step : {X : Type 0} (f : ℕ → List X) (q n : ℕ) → q < n → flat_map f (columns q (n - q)) ≡ f q ++ flat_map f (columns (q + 1) (n - (q + 1)))
columns_step f q n less =
    let rest : n - q ≡ suc (n - (q + 1)) = omega arith in
    let next : suc q ≡ q + 1 = omega arith in
    ap (λ k. flat_map f (columns q k)) rest ∙ ap (λ k. f q ++ flat_map f (columns k (n - (q + 1)))) next

pub columns_end : {X : Type 0} (f : ℕ → List X) (q n : ℕ) → n ≤ q → flat_map f (columns q (n - q)) ≡ []
columns_end f q n le = let none : n - q ≡ 0 = omega arith in ap (λ k. flat_map f (columns q k)) none

-- the facts of items from a place on, the first of which has the number n
pub facts_next : {A B : Type 0} (f : ℕ → B → List Fact) (g : A → B) (xs : List A) (n i : ℕ) (x : A) → slice_get xs i ≡ Some x
    → facts_from n f (map g (drop i xs)) ≡ f n (g x) ++ facts_from (n + 1) f (map g (drop (i + 1) xs))
facts_next f g xs n i x at =
    let next : suc n ≡ n + 1 = omega arith in
    ap (λ ys. facts_from n f (map g ys)) (drop_at xs i x at) ∙ ap (λ k. f n (g x) ++ facts_from k f (map g (drop (i + 1) xs))) next

-- the facts of some items and of others after them
pub facts_append : {A : Type 0} (f : ℕ → A → List Fact) (xs ys : List A) (n : ℕ) → facts_from n f (xs ++ ys) ≡ facts_from n f xs ++ facts_from (n + length xs) f ys
facts_append f [] ys n = let none : n ≡ n + 0 = omega arith in ap (λ k. facts_from k f ys) none
facts_append f (x ∷ xs) ys n =
    let next : suc n + length xs ≡ n + suc (length xs) = omega arith in
    ap (λ s. f n x ++ s) (facts_append f xs ys (suc n) ∙ ap (λ k. facts_from (suc n) f xs ++ facts_from k f ys) next)
    ∙ sym (append_assoc (f n x) (facts_from (suc n) f xs) (facts_from (n + suc (length xs)) f ys))

-- the facts of the items of all lists from a place on, after n items
pub facts_over : {A B : Type 0} (f : ℕ → B → List Fact) (g : A → B) (xss : List (List A)) (n i : ℕ) (xs : List A) → slice_get xss i ≡ Some xs
    → facts_from (n + 1) f (map g (flat_map (λ own. own) (drop i xss)))
    ≡ facts_from (n + 1) f (map g xs) ++ facts_from ((n + length xs) + 1) f (map g (flat_map (λ own. own) (drop (i + 1) xss)))
facts_over f g xss n i xs at =
    let rest = flat_map (λ (own : List _). own) (drop (i + 1) xss) in
    let count = length-map xs g in
    let next : (n + 1) + length (map g xs) ≡ (n + length xs) + 1 = omega arith in
    ap (λ yss. facts_from (n + 1) f (map g (flat_map (λ own. own) yss))) (drop_at xss i xs at)
    ∙ ap (facts_from (n + 1) f) (map-append g xs rest)
    ∙ facts_append f (map g xs) (map g rest) (n + 1)
    ∙ ap (λ k. facts_from (n + 1) f (map g xs) ++ facts_from k f (map g rest)) next

-- each step has two notes at least
pub two_notes : (p : Listing) (names : List (List ℕ)) (n : ℕ) (s : Step) → 2 ≤ length (step_notes p names n s)
two_notes p names n s = omega arith
