-- Rows that are at least a multiple of another row hold where that row does.
use Rattle.std.proofs.Common.{◌≡◌, ◌≢◌, ℕ, zero, suc, ◌<◌, ℤ, pos, negsuc, ◌*ℤ◌, List, [], ◌∷◌, length, refl, ap, sym, subst, ◌∙◌, inl, inr, arith, get_or}
use Rattle.std.specs.Prelude.{All, ◌≤ℤ◌, slice_index_or}
use Rattle.std.proofs.lemmas.Int.{ints}
use Rattle.std.proofs.lemmas.List.{get_or-map, length-map}
use Rattle.linear_rows.specs.Plain.{plain_row, plain_rows, HaveWidth}
use Rattle.linear_rows.specs.declared.row.Row.{Row}
use Rattle.exact128.specs.Sums.{entry, dot}
use Rattle.linear_rows.specs.Rows.{Holds, HoldsOn}
use Rattle.linear_rows.specs.Members.{In}
use Rattle.linear_rows.specs.Proves.{Proves}
use Rattle.linear_rows.specs.Irredundant.{without_place}
use Rattle.linear_rows.proofs.Members.{from_All, to_All}
use Rattle.linear_rows.proofs.Soundness.{law_holds}
use Rattle.redundant_rows.specs.Multiples.{IsNatural, IsMultiple}
use Rattle.redundant_rows.specs.Sweeping.{IsImplied}

natural_proves : (rows : List (List ℤ)) (row : List ℤ) → IsNatural row → Proves rows [] row (pos 1)
unfolding dot
natural_proves rows row natural k l = let h = natural k l in omega (arith, ints)

pub natural_holds : (n : ℕ) (rows : List (List ℤ)) (row : List ℤ) → length row ≡ suc n → IsNatural row → HoldsOn (suc n) rows row
natural_holds n rows row long natural =
    subst (λ (k : ℕ). HoldsOn k rows row) long (law_holds rows [] row 0 (λ k d l. absurd (omega arith)) (natural_proves rows row natural))

one_proves : (row other : List ℤ) (times : ℤ) (d : ℕ) → IsMultiple row other times (pos (suc d)) → Proves (other ∷ []) (times ∷ []) row (pos (suc d))
unfolding dot
one_proves row other times d m k l = let h = m.columns k l in omega (arith, ints)

pub multiple_holds : (n : ℕ) (row other : List ℤ) (times scale : ℤ) → length row ≡ suc n → IsMultiple row other times scale → HoldsOn (suc n) (other ∷ []) row
multiple_holds n row other times (pos zero) long m = absurd (let s = m.some in omega (arith, ints))
multiple_holds n row other times (negsuc d) long m = absurd (let s = m.some in omega (arith, ints))
multiple_holds n row other times (pos (suc d)) long m =
    subst (λ (k : ℕ). HoldsOn k (other ∷ []) row) long (law_holds (other ∷ []) (times ∷ []) row d (one_natural m.natural) (one_proves row other times d m))
  where
    one_natural : pos 0 ≤ℤ times → All (λ x. pos 0 ≤ℤ x) (times ∷ [])
    one_natural h zero e l = h
    one_natural h (suc k) e l = absurd (omega arith)

-- a row at another place is one of the others
pub other_in : (i k : ℕ) (rows : List (List ℤ)) → k < length rows → k ≢ i → In (slice_index_or rows k []) (without_place i rows)
other_in i k [] l ne = absurd (omega arith)
other_in zero zero (r ∷ rows) l ne = absurd (ne refl)
other_in zero (suc k) (r ∷ rows) l ne = at k rows (omega arith)
  where
    at : (k : ℕ) (rows : List (List ℤ)) → k < length rows → In (slice_index_or rows k []) rows
    at k [] l = absurd (omega arith)
    at zero (r ∷ rows) l = inl refl
    at (suc k) (r ∷ rows) l = inr (at k rows (omega arith))
other_in (suc i) zero (r ∷ rows) l ne = inl refl
other_in (suc i) (suc k) (r ∷ rows) l ne = inr (other_in i k rows (omega arith) (λ e. ne (ap suc e)))

-- what holds on one of the rows holds on all
pub holds_by_one : (n : ℕ) (rows : List (List ℤ)) (row other : List ℤ) → In other rows → HoldsOn (suc n) (other ∷ []) row → HoldsOn (suc n) rows row
holds_by_one n rows row other i h t w some long hold =
    h t w some long (to_All (λ (r : List ℤ). Holds r t w) (other ∷ []) (λ r j. elim j [ inl is ↦ subst (λ (r : List ℤ). Holds r t w) is (from_All (λ (r : List ℤ). Holds r t w) rows other hold i) | inr none ↦ absurd none ]))

-- ---- at places
pub row_at : (rows : List Row) (i : ℕ) (r : Row) → i < length rows → r ≡ get_or rows i r → slice_index_or (plain_rows rows) i [] ≡ plain_row r
row_at rows i r l e = get_or-map plain_row rows i r [] l ∙ ap plain_row (sym e)

long_at : (n : ℕ) (rows : List Row) (i : ℕ) (r : Row) → HaveWidth n rows → i < length rows → r ≡ get_or rows i r → length (plain_row r) ≡ suc n
long_at n rows i r w l e = ap suc (ap (λ (q : Row). length q.coeffs) e ∙ w i r l)

pub natural_implied : (n i : ℕ) (rows : List Row) (r : Row) → HaveWidth n rows → i < length rows → r ≡ get_or rows i r → IsNatural (plain_row r) → IsImplied n (plain_rows rows) i
natural_implied n i rows r w l e natural =
    subst (HoldsOn (suc n) (without_place i (plain_rows rows))) (sym (row_at rows i r l e)) (natural_holds n (without_place i (plain_rows rows)) (plain_row r) (long_at n rows i r w l e) natural)

pub multiple_implied : (n i k : ℕ) (rows : List Row) (r q : Row) (times scale : ℤ) → HaveWidth n rows → i < length rows → k < length rows → k ≢ i → r ≡ get_or rows i r → q ≡ get_or rows k q → IsMultiple (plain_row r) (plain_row q) times scale
    → IsImplied n (plain_rows rows) i
multiple_implied n i k rows r q times scale w li lk ne er eq m =
    subst (HoldsOn (suc n) (without_place i (plain_rows rows))) (sym (row_at rows i r li er))
    (holds_by_one n (without_place i (plain_rows rows)) (plain_row r) (plain_row q)
    (subst (λ (x : List ℤ). In x (without_place i (plain_rows rows))) (row_at rows k q lk eq) (other_in i k (plain_rows rows) (omega (arith, lk, length-map rows plain_row)) ne))
    (multiple_holds n (plain_row r) (plain_row q) times scale (long_at n rows i r w li er) m))

-- ---- column by column
pub natural_row : (b : ℤ) (cs : List ℤ) → pos 0 ≤ℤ b → ((k : ℕ) → k < length cs → pos 0 ≤ℤ entry cs k) → IsNatural (b ∷ cs)
natural_row b cs first more zero l = first
natural_row b cs first more (suc k) l = more k (omega arith)

pub multiple_row : (b c : ℤ) (cs ds : List ℤ) (times scale : ℤ) → pos 0 ≤ℤ times → pos 1 ≤ℤ scale → (times *ℤ c) ≤ℤ (scale *ℤ b) → ((k : ℕ) → k < length cs → (times *ℤ entry ds k) ≤ℤ (scale *ℤ entry cs k)) → IsMultiple (b ∷ cs) (c ∷ ds) times scale
multiple_row b c cs ds times scale natural some first more = record { natural = natural; some = some; columns = each }
  where
    each : (k : ℕ) → k < suc (length cs) → (times *ℤ entry (c ∷ ds) k) ≤ℤ (scale *ℤ entry (b ∷ cs) k)
    each zero l = first
    each (suc k) l = more k (omega arith)
