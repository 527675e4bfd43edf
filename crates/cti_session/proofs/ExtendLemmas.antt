-- Lemmas on clauses that are added all in one edit.
use Rattle.std.proofs.Common.{◌≡◌, ◌∙◌, ℕ, zero, suc, ◌+◌, ◌<◌, ◌≤◌, List, [], ◌∷◌, ◌++◌, length, map, replicate, slice_get, Option, None, Some, refl, ap, sym, subst, arith}
use Rattle.std.proofs.lemmas.List.{length_push}
use Rattle.std.specs.List.{AllByRecursion}
use Rattle.clause_normal.specs.Definite.{AreDefinite, added_fault}
use Rattle.clause_normal.specs.NormalForm.{Fault, first_of}
use Rattle.clause_normal.proofs.DefiniteLemmas.{definite_added}
use Rattle.kept_clauses.proofs.KeptListLaws.{from_at, length_from}
use Rattle.kept_clauses.specs.KeptLists.{AreKeptList, IsIncreasing, IsOnto, kept_from}
use Rattle.prolog_reader.specs.Fit.{AreFit, IsFit}
use Rattle.prolog_terms.specs.Clauses.{Clause, nodes}
use Rattle.prolog_terms.specs.Terms.{clause_of}
use Rattle.prolog_terms.specs.declared.clause.ReadClause.{ReadClause}
use Rattle.termination_model.proofs.Lists.{place_below}
use Rattle.cti_session.specs.Extending.{ArePushed, first_fault}
use Rattle.edit_texts.specs.Snapshot.{nodes_in}
use Rattle.edit_texts.proofs.Clauses.{kept_push}
use Rattle.edit_texts.proofs.Lists.{get_front}
use Rattle.edit_texts.proofs.PlayLemmas.{append_none, nodes_both, nodes_more}

append_assoc : {X : Type 0} (xs ys zs : List X) → (xs ++ ys) ++ zs ≡ xs ++ (ys ++ zs)
append_assoc [] ys zs = refl
append_assoc (x ∷ xs) ys zs = ap (λ (l : List _). x ∷ l) (append_assoc xs ys zs)

pub map_both : {X Y : Type 0} (f : X → Y) (xs ys : List X) → map f (xs ++ ys) ≡ map f xs ++ map f ys
map_both f [] ys = refl
map_both f (x ∷ xs) ys = ap (λ l. f x ∷ l) (map_both f xs ys)

-- ---- one more is put last
pub pushed_next : (names : List (List ℕ)) (old more : List ReadClause) (x : ReadClause) (rest now later : List ReadClause) (n m : ℕ) → ArePushed names old more (x ∷ rest) now n
    → added_fault names (length now) (clause_of x) ≡ None → m ≡ n + nodes (clause_of x).term → later ≡ now ++ x ∷ [] → ArePushed names old more rest later m
pushed_next names old more x rest now later n m h none count is = record {
  done = h.done ++ x ∷ [];
  is = is ∙ ap (λ (l : List ReadClause). l ++ x ∷ []) h.is ∙ append_assoc old h.done (x ∷ []);
  split = h.split ∙ sym (append_assoc h.done (x ∷ []) rest);
  fit = h.fit.1;
  counted = omega (arith, h.counted, count, nodes_more (clause_of x) (map clause_of rest));
  so_far =
      let longer : suc (length now) ≡ length later = omega (arith, ap length is, length_push now x) in
      h.so_far ∙ ap (λ (o : Option Fault). first_of o (first_fault names (suc (length now)) (map clause_of rest))) none ∙ ap (λ (k : ℕ). first_fault names k (map clause_of rest)) longer;
}

-- ---- clauses without a fault
both_none : (f g : Option Fault) → first_of f g ≡ None → (f ≡ None) × (g ≡ None)
both_none None g e = (refl, e)
both_none (Some f) g e = cc

pub definite_more : (names : List (List ℕ)) (cs ds : List Clause) → AreDefinite names cs → first_fault names (length cs) ds ≡ None → AreDefinite names (cs ++ ds)
definite_more names cs [] h none = subst (AreDefinite names) (sym (append_none cs)) h
definite_more names cs (d ∷ ds) h none =
    let both = both_none (added_fault names (length cs) d) (first_fault names (suc (length cs)) ds) none in
    let longer : suc (length cs) ≡ length (cs ++ d ∷ []) = omega (arith, length_push cs d) in
    let next = ap (λ (k : ℕ). first_fault names k ds) (sym longer) ∙ both.1 in
    subst (AreDefinite names) (append_assoc cs (d ∷ []) ds) (definite_more names (cs ++ d ∷ []) ds (definite_added names cs d h both.0) next)

all_both : (P : Clause → Type 0) (cs ds : List Clause) → AllByRecursion P cs → AllByRecursion P ds → AllByRecursion P (cs ++ ds)
all_both P [] ds h k = k
all_both P (c ∷ cs) ds h k = (h.0, all_both P cs ds h.1 k)

pub fit_both : (n : ℕ) (cs ds : List Clause) → AreFit n cs → AllByRecursion (IsFit n) ds → nodes_in cs + nodes_in ds ≤ 2097152 → AreFit n (cs ++ ds)
fit_both n cs ds h k few = record { each = all_both (IsFit n) cs ds h.each k; small = (let both = nodes_both cs ds in omega (arith, both, few)) }

-- ---- what is kept
abbrev pub nothing : Option ℕ
nothing = None

-- all of a list, and nothing of those after it
pub all_more : {X : Type 0} (old xs ds : List X) (since : List (Option ℕ)) → AreKeptList old xs since → AreKeptList old (xs ++ ds) (since ++ replicate (length ds) nothing)
all_more old xs [] since h = subst (λ ks. AreKeptList old (xs ++ []) ks) (sym (append_none since)) (subst (λ ys. AreKeptList old ys since) (sym (append_none xs)) h)
all_more old xs (d ∷ ds) since h =
    subst (λ ks. AreKeptList old (xs ++ d ∷ ds) ks) (append_assoc since (None ∷ []) (replicate (length ds) nothing))
    (subst (λ ys. AreKeptList old ys ((since ++ None ∷ []) ++ replicate (length ds) nothing)) (append_assoc xs (d ∷ []) ds) (all_more old (xs ++ d ∷ []) ds (since ++ None ∷ []) (kept_push old xs d since h)))

-- what stands where None was put last
before_last : (since : List (Option ℕ)) (i j : ℕ) → slice_get (since ++ None ∷ []) i ≡ Some (Some j) → slice_get since i ≡ Some (Some j)
before_last [] zero j e = cc
before_last [] (suc i) j e = cc
before_last (o ∷ since) zero j e = e
before_last (o ∷ since) (suc i) j e = before_last since i j e

pub increasing_push : (since : List (Option ℕ)) → IsIncreasing since → IsIncreasing (since ++ None ∷ [])
increasing_push since h i k j l lt e f = h i k j l lt (before_last since i j e) (before_last since k l f)

pub onto_push : (n : ℕ) (since : List (Option ℕ)) → IsOnto n since → IsOnto n (since ++ None ∷ [])
onto_push n since h j lt = (let at = h j lt in (at.0, get_front since (None ∷ []) at.0 (Some (suc j)) at.1))

number_at : (n i j : ℕ) → slice_get (kept_from 1 n) i ≡ Some (Some j) → j ≡ suc i
number_at n i j e =
    let lt : i < n = omega (arith, place_below (kept_from 1 n) i (Some j) e, length_from 1 n) in
    let both : Some (Some j) ≡ Some (Some (1 + i)) = sym e ∙ from_at 1 n i lt in
    let same : j ≡ 1 + i = cc in
    omega (arith, same)

pub from_increasing : (n : ℕ) → IsIncreasing (kept_from 1 n)
from_increasing n i k j l lt e f = omega (arith, lt, number_at n i j e, number_at n k l f)

pub from_onto : (n : ℕ) → IsOnto n (kept_from 1 n)
from_onto n j lt = (j, from_at 1 n j lt ∙ ap (λ (k : ℕ). Some (Some k)) (omega arith))

replicate_last : (n : ℕ) → replicate n nothing ++ None ∷ [] ≡ replicate (suc n) nothing
replicate_last zero = refl
replicate_last (suc n) = ap (λ (ks : List (Option ℕ)). None ∷ ks) (replicate_last n)

pub replicate_push : (xs : List (Option ℕ)) (n : ℕ) → (xs ++ replicate n nothing) ++ None ∷ [] ≡ xs ++ replicate (n + 1) nothing
replicate_push xs n =
    let next : suc n ≡ n + 1 = omega arith in
    append_assoc xs (replicate n nothing) (None ∷ []) ∙ ap (λ ks. xs ++ ks) (replicate_last n ∙ ap (λ (k : ℕ). replicate k nothing) next)
