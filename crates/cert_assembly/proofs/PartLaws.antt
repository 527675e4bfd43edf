-- Lists of parts, one after the other.
use Rattle.std.proofs.Common.{◌≡◌, ℕ, suc, ◌+◌, ◌-◌, ◌<◌, ◌≤◌, ◌==◌, true, false, if◌then◌else◌, List, [], ◌∷◌, ◌++◌, drop, map, slice_get, Some, ap, ◌∙◌, arith}
use Rattle.level_systems.proofs.PairLists.{drop_at}
use Rattle.level_systems.specs.Mappings.{level_in}
use Rattle.level_systems.specs.declared.measure.Measure.{Measure}
use Rattle.linear_rows.specs.Step.{columns}

pub mapped_step : {X : Type 0} (f : ℕ → X) (q n : ℕ) → q < n → map f (columns q (n - q)) ≡ (f q ∷ []) ++ map f (columns (q + 1) (n - (q + 1)))
mapped_step f q n less =
    let rest : n - q ≡ suc (n - (q + 1)) = omega arith in
    let next : suc q ≡ q + 1 = omega arith in
    ap (λ k. map f (columns q k)) rest ∙ ap (λ k. f q ∷ map f (columns k (n - (q + 1)))) next

pub mapped_end : {X : Type 0} (f : ℕ → X) (q n : ℕ) → n ≤ q → map f (columns q (n - q)) ≡ []
mapped_end f q n le = let none : n - q ≡ 0 = omega arith in ap (λ k. map f (columns q k)) none

-- the first measure of the predicate, from a place on
pub level_here : (ms : List Measure) (i q : ℕ) (m : Measure) → slice_get ms i ≡ Some m → (m.pred.0 == q) ≡ true → level_in (drop i ms) q ≡ Some m.part
level_here ms i q m at e = ap (λ xs. level_in xs q) (drop_at ms i m at) ∙ (λ j. if e j then Some m.part else level_in (drop (i + 1) ms) q)

pub level_later : (ms : List Measure) (i q : ℕ) (m : Measure) → slice_get ms i ≡ Some m → (m.pred.0 == q) ≡ false → level_in (drop i ms) q ≡ level_in (drop (i + 1) ms) q
level_later ms i q m at e = ap (λ xs. level_in xs q) (drop_at ms i m at) ∙ (λ j. if e j then Some m.part else level_in (drop (i + 1) ms) q)
