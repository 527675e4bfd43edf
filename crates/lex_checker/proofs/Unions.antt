-- The union of a list's measures is positive where one of them is.
use Rattle.std.proofs.Common.{◌≡◌, ℕ, zero, suc, ◌<◌, ℤ, pos, Bool, true, false, ◌||◌, if◌then◌else◌, nat_lt, List, [], ◌∷◌, map, slice_get, refl, sym, subst, arith}
use Rattle.std.specs.List.{AllByRecursion}
use Rattle.std.proofs.lemmas.Bool.Decides.{nat_tests}
use Rattle.cert_checker.proofs.Bounded.{naturals_are}
use Rattle.cert_structure.specs.Shape.{items_of}
use Rattle.number_tests.specs.Levels.{coefficients_of, is_positive, natural, natural_coefficients, naturals}
use Rattle.number_tests.specs.Shape.{IsLevelPart, list_at}
use Rattle.number_tests.specs.declared.level_part.LevelPart.{LevelPart}
use Rattle.termination_model.specs.claims.Claims.{Mapping}
use Rattle.termination_model.specs.sizes.Rows.{Covers}
use Rattle.lex_checker.specs.Claimed.{mappings_from}
use Rattle.lex_certificate.specs.Flat.{flat, union_part, united, united_coefficients}
use Rattle.lex_certificate.specs.declared.parts.LexParts.{LexParts}

positive_one : (x y : Bool) → 0 < natural (if x || y then pos 1 else pos 0) → (x ≡ true → ⊥) → (y ≡ true → ⊥) → ⊥
positive_one true y h nx ny = nx refl
positive_one false true h nx ny = ny refl
positive_one false false h nx ny = absurd (omega (arith, h))

left_one : (x y : ℤ) → 0 < natural x → 0 < natural (if is_positive x || is_positive y then pos 1 else pos 0)
left_one x y h = go (is_positive x) (is_positive y) (positive (natural x) h)
  where
    positive : (n : ℕ) → 0 < n → nat_lt 0 n ≡ true
    positive n l = grind (arith, nat_tests)

    go : (a b : Bool) → a ≡ true → 0 < natural (if a || b then pos 1 else pos 0)
    go true b e = omega arith
    go false b e = cc

right_one : (x y : ℤ) → 0 < natural y → 0 < natural (if is_positive x || is_positive y then pos 1 else pos 0)
right_one x y h = go (is_positive x) (is_positive y) (positive (natural y) h)
  where
    positive : (n : ℕ) → 0 < n → nat_lt 0 n ≡ true
    positive n l = grind (arith, nat_tests)

    go : (a b : Bool) → b ≡ true → 0 < natural (if a || b then pos 1 else pos 0)
    go true b e = omega arith
    go false true e = omega arith
    go false false e = cc

covers_both : (xs ys : List ℤ) (bs : List Bool) → Covers (map natural (united xs ys)) bs → Covers (map natural xs) bs × Covers (map natural ys) bs
covers_both [] ys bs h = (tt, h)
covers_both (x ∷ xs) [] bs h = (h, tt)
covers_both (x ∷ xs) (y ∷ ys) [] h = (tt, tt)
covers_both (x ∷ xs) (y ∷ ys) (b ∷ bs) h =
    let rest = covers_both xs ys bs h.1 in
    ((λ l. h.0 (left_one x y l), rest.0), (λ l. h.0 (right_one x y l), rest.1))

covers_each : (ls : List LevelPart) (bs : List Bool) → Covers (map natural (united_coefficients ls)) bs → AllByRecursion (λ (l : LevelPart). Covers (map natural l.coeffs) bs) ls
covers_each [] bs h = tt
covers_each (l ∷ ls) bs h = let both = covers_both l.coeffs (united_coefficients ls) bs h in (both.0, covers_each ls bs both.1)

-- the measures of a list of this number
union_at : (own : List (List LevelPart)) (m : ℕ) (bs : List Bool) → Covers (naturals (slice_get (map union_part own) m)) bs → AllByRecursion (λ (l : LevelPart). Covers (map natural l.coeffs) bs) (list_at own m)
union_at [] m bs h = tt
union_at (ls ∷ own) zero bs h = covers_each ls bs h
union_at (ls ∷ own) (suc m) bs h = union_at own m bs h

items_map : (xss : List (List (List LevelPart))) (q : ℕ) → items_of (map (map union_part) xss) q ≡ map union_part (list_at xss q)
items_map [] q = refl
items_map (xs ∷ xss) zero = refl
items_map (xs ∷ xss) (suc q) = items_map xss q

cover_at : (n : ℕ) (ls : List LevelPart) (i : ℕ) (bs : List Bool) → AllByRecursion (IsLevelPart n) ls → AllByRecursion (λ (l : LevelPart). Covers (map natural l.coeffs) bs) ls → Covers (natural_coefficients (slice_get ls i)) bs
cover_at n [] i bs are h = tt
cover_at n (l ∷ ls) zero bs are h = subst (λ cs. Covers cs bs) (sym (naturals_are l.coeffs are.0.naturals)) h.0
cover_at n (l ∷ ls) (suc i) bs are h = cover_at n ls i bs are.1 h.1

pub covers_list : (parts : LexParts) (m q n i rest : ℕ) (bs : List Bool) → AllByRecursion (IsLevelPart n) (list_at (list_at parts.lists q) m) → Covers (coefficients_of (flat parts).levels m q) bs
    → AllByRecursion (λ (l : Mapping). Covers (l.coefficients q) bs) (mappings_from parts m i rest)
covers_list parts m q n i zero bs are h = tt
covers_list parts m q n i (suc rest) bs are h = (
  cover_at n (list_at (list_at parts.lists q) m) i bs are (union_at (list_at parts.lists q) m bs (subst (λ (ls : List LevelPart). Covers (naturals (slice_get ls m)) bs) (items_map parts.lists q) h)),
  covers_list parts m q n (suc i) rest bs are h,
)
