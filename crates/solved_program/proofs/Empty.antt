-- The empty program has no components, and whatever was found of it is nothing.
use Rattle.std.proofs.Common.{◌≡◌, ℕ, zero, suc, ◌<◌, ℤ, Bool, List, [], ◌∷◌, length, replicate, slice_get, Option, None, Some, refl, ap, sym, ◌∙◌, arith}
use Rattle.call_components.specs.Partition.{Partition, AreComponents}
use Rattle.call_components.proofs.Lists.{has_contains}
use Rattle.cti_terms.specs.Listing.{Listing}
use Rattle.cti_terms.specs.Tree.{Tree}
use Rattle.linear_rows.specs.declared.row.Rows.{Rows}
use Rattle.numeric_model.specs.declared.step.Step.{Step}
use Rattle.termination_model.proofs.Lists.{place_below}
use Rattle.solved_program.specs.Kept.{AreKept}
use Rattle.solved_program.specs.Solved.{AreSolved}
use Rattle.solved_program.specs.declared.solved_sizes.SolvedSizes.{SolvedSizes}

-- ---- no clause is kept
abbrev nothing : Option ℕ
nothing = None

-- what no number meets is met by nothing alone
pub is_nothing : (P : Option ℕ → Type 0) → ((x : ℕ) → P (Some x) → ⊥) → (o : Option ℕ) → P o → o ≡ None
is_nothing P h None i = refl
is_nothing P h (Some x) i = absurd (h x i)

as_many : (n : ℕ) → length (replicate n nothing) ≡ n
as_many zero = refl
as_many (suc n) = ap suc (as_many n)

none_there : (n i j : ℕ) → slice_get (replicate n None) i ≡ Some (Some j) → ⊥
none_there zero i j e = cc
none_there (suc n) zero j e = cc
none_there (suc n) (suc i) j e = none_there n i j e

pub none_kept : (p new : Listing) (kept : List (Option ℕ)) → kept ≡ replicate (length new.clauses) None → AreKept p new kept
none_kept p new kept is = record {
  each = ap length is ∙ as_many (length new.clauses);
  same = λ i j y at there'. absurd (none_there (length new.clauses) i j (ap (λ (xs : List (Option ℕ)). slice_get xs i) (sym is) ∙ at));
}

-- ---- no components
no_members : (members : List (List ℕ)) (of : List ℕ) → length of ≡ 0 → ((c : ℕ) (ms : List ℕ) → slice_get members c ≡ Some ms → (0 < length ms) × ((a : ℕ) → slice_get ms 0 ≡ Some a → slice_get of a ≡ Some c)) → length members ≡ 0
no_members [] of e h = refl
no_members ([] ∷ more) of e h = absurd (let l = (h 0 [] refl).0 in omega arith)
no_members ((a ∷ ms) ∷ more) of e h = absurd (let l = place_below of a 0 ((h 0 (a ∷ ms) refl).1 a refl) in omega arith)

pub no_components : (p : Listing) (comps : Partition) → AreComponents p comps → p.preds ≡ [] → length comps.members ≡ 0
no_components p comps are none = no_members comps.members comps.of (are.each ∙ ap length none) (λ c ms at. ((are.ascending c ms at).1, λ a first. (are.members c ms at a).0 (has_contains ms a (0, first))))

-- ---- nothing is found
pub none_solved : (speaks : List ℤ → Bool) (expression : ℕ → Tree → List ℤ) (p : Listing) (comps : Partition) (s : SolvedSizes) → AreComponents p comps → p.preds ≡ [] → p.clauses ≡ []
    → s.steps ≡ [] → s.sizes.rows ≡ [] → s.sizes.proofs ≡ [] → AreSolved speaks expression p comps s
none_solved speaks expression p comps s are preds clauses steps rows proofs = record {
  rows = record { each = ap length rows ∙ sym (ap length preds); width = λ q r at. absurd (no_rows q r (ap (λ (xs : List Rows). slice_get xs q) (sym rows) ∙ at)) };
  proofs = ap length proofs ∙ sym (ap length clauses);
  each = ap length steps ∙ sym (no_components p comps are preds);
  parts = λ c own at. absurd (no_steps c own (ap (λ (xs : List (List Step)). slice_get xs c) (sym steps) ∙ at));
}
  where
    no_rows : (q : ℕ) (r : Rows) → slice_get [] q ≡ Some r → ⊥
    no_rows q r e = cc

    no_steps : (c : ℕ) (own : List Step) → slice_get [] c ≡ Some own → ⊥
    no_steps c own e = cc
