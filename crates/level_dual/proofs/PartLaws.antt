-- Parts of mappings that natural values give.
use Rattle.std.proofs.Common.{◌≡◌, ℕ, zero, suc, ℤ, pos, negsuc, ◌≤ℤ◌, List, [], ◌∷◌, map, take, drop, length, refl, ap, sym, subst, ◌∙◌, arith}
use Rattle.std.specs.Prelude.{All, unsigned_abs}
use Rattle.std.proofs.lemmas.Int.{ints}
use Rattle.std.proofs.lemmas.List.{length-map}
use Rattle.linear_rows.specs.Step.{columns}
use Rattle.number_tests.specs.Shape.{IsLevelPart}
use Rattle.number_tests.specs.declared.level_part.LevelPart.{LevelPart}
use Rattle.termination_model.specs.mappings.OwnCalls.{Position}
use Rattle.termination_model.specs.mappings.SupportSystem.{mapping_at, value_of_position}
use Rattle.level_systems.specs.Valued.{IsPartOf}

length_columns : (k n : ℕ) → length (columns k n) ≡ n
length_columns k zero = refl
length_columns k (suc n) = ap suc (length_columns (suc k) n)

pub all_natural : (ns : List ℕ) → All (λ x. pos 0 ≤ℤ x) (map pos ns)
all_natural [] k d lt = absurd (omega arith)
all_natural (n ∷ ns) zero d lt = omega (arith, ints)
all_natural (n ∷ ns) (suc k) d lt = all_natural ns k d (omega (arith, lt))

-- natural numbers are the images of some
one_natural : (x : ℤ) → pos 0 ≤ℤ x → x ≡ pos (unsigned_abs x)
one_natural (pos n) h = refl
one_natural (negsuc n) h = absurd (omega (arith, ints, h))

pub are_naturals : (xs : List ℤ) → All (λ x. pos 0 ≤ℤ x) xs → xs ≡ map pos (map unsigned_abs xs)
are_naturals [] h = refl
are_naturals (x ∷ xs) h =
    let here = one_natural x (h 0 x (omega arith)) in
    let rest = are_naturals xs (λ k d lt. h (suc k) d (omega (arith, lt))) in
    λ i. here i ∷ rest i

pub all_taken : (n : ℕ) (xs : List ℤ) → All (λ x. pos 0 ≤ℤ x) xs → All (λ x. pos 0 ≤ℤ x) (take n xs)
all_taken zero xs h k d lt = absurd (omega arith)
all_taken (suc n) [] h k d lt = absurd (omega arith)
all_taken (suc n) (x ∷ xs) h zero d lt = h 0 d (omega arith)
all_taken (suc n) (x ∷ xs) h (suc k) d lt = all_taken n xs (λ j e l. h (suc j) e (omega (arith, l))) k d (omega (arith, lt))

pub all_dropped : (n : ℕ) (xs : List ℤ) → All (λ x. pos 0 ≤ℤ x) xs → All (λ x. pos 0 ≤ℤ x) (drop n xs)
all_dropped zero xs h k d lt = h k d lt
all_dropped (suc n) [] h k d lt = absurd (omega arith)
all_dropped (suc n) (x ∷ xs) h k d lt = all_dropped n xs (λ j e l. h (suc j) e (omega (arith, l))) k d lt

-- a part has a natural number for each argument
pub part_shape : (arity : ℕ → ℕ) (ps : List Position) (ms cs os : List ℕ) (q : ℕ) (part : LevelPart) → IsPartOf (mapping_at arity ps ms cs os) q part → IsLevelPart (arity q) part
part_shape arity ps ms cs os q part h =
    let coefficients = map (value_of_position ps cs q) (columns 0 (arity q)) in
    record {
      each = ap length h.coefficients ∙ length-map coefficients (λ n. pos n) ∙ length-map (columns 0 (arity q)) (value_of_position ps cs q) ∙ length_columns 0 (arity q);
      naturals = subst (λ (xs : List ℤ). All (λ x. pos 0 ≤ℤ x) xs) (sym h.coefficients) (all_natural coefficients);
      offset = subst (λ (z : ℤ). pos 0 ≤ℤ z) (sym h.offset) (omega (arith, ints));
    }
