-- What is printed is read back.
use Rattle.std.proofs.Common.{◌≡◌, ℕ, suc, ◌<◌, ◌≤◌, ◌^◌, List, [], ◌∷◌, ◌++◌, Some, None, refl, ap, ◌∙◌, ◌⊎◌, arith, lit≤, le-leb, append_assoc, drop_at, inl, inr, ne_eqb}
use Rattle.std.proofs.lemmas.Int.{ints}
use Rattle.std.proofs.lemmas.Fmt.{decimal_is_IsNumeral_wide}
use Rattle.std.proofs.NetLemmas.Numbers.{NoDigit, read_number_some}
use Rattle.std.specs.Str.Parse.{IsNumeral}
use Rattle.std.specs.Prelude.{ℤ, pos, negsuc, codes, decimal, flat_map}
use Rattle.std.specs.Fmt.{signed_decimal}
use Rattle.std.specs.Char.{digit_value}
use Rattle.std.specs.List.{AllByRecursion}
use Rattle.certificate.specs.Range.{most_32, most_64, most_127, IsPlace, IsIndex, IsEntry}
use Rattle.certificate.specs.Text.{list_text, cell_text, how_text, norm_text}
use Rattle.certificate.specs.Parse.{Read, after, read_natural, read_place, read_index, read_integer, read_cell, read_how, read_norm, read_until, next_item, read_list}
use Rattle.certificate.specs.Shortening.{Shortens, until_step, until_stop, next_shortens}
use Rattle.certificate.specs.declared.cell.CertCell.{CertCell}
use Rattle.certificate.specs.declared.cell.CertCell.TheVariants as cell
use Rattle.certificate.specs.declared.how.CertHow.TheVariants as how
use Rattle.certificate.specs.declared.norm.CertNorm.TheVariants as norm

-- a comma or a closing parenthesis or bracket: what stands after a part of a fact
abbrev pub IsMark : ℕ → Type 0
IsMark b = (b ≡ 44) ⊎ (b ≡ 41) ⊎ (b ≡ 93)

-- what is printed of values in range is read back, whatever stands after a mark
abbrev pub IsReadBack : {A : Type 0} → (A → List ℕ) → (List ℕ → Read A) → (A → Type 0) → Type 0
IsReadBack {A} shown reads fits = (x : A) (b : ℕ) (s : List ℕ) → fits x → IsMark b → reads (shown x ++ b ∷ s) ≡ Some (x, b ∷ s)

no_digit : (b : ℕ) (s : List ℕ) → IsMark b → NoDigit 10 (b ∷ s)
no_digit b s (inl e) = rw e (lit≤ tt)
no_digit b s (inr (inl e)) = rw e (lit≤ tt)
no_digit b s (inr (inr e)) = rw e (lit≤ tt)

pub natural_back : (most n b : ℕ) (s : List ℕ) → most < 10 ^ 64 → n ≤ most → IsMark b → read_natural most (decimal n ++ b ∷ s) ≡ Some (n, b ∷ s)
natural_back most n b s wide fits mark =
    let (numeral, value) = decimal_is_IsNumeral_wide n (omega (arith, wide, fits)) in
    let read = read_number_some 10 most (decimal n) (b ∷ s) numeral (rw value fits) (no_digit b s mark) in
    rw (read, drop_at (decimal n) (b ∷ s) _ refl, value) refl

pub place_back : IsReadBack decimal read_place IsPlace
unfolding read_place
place_back n b s h mark = rw (natural_back most_32 n b s (lit≤ tt) h.1 mark, le-leb 1 n h.0) refl

pub index_back : IsReadBack decimal read_index IsIndex
unfolding read_index
index_back n b s h mark = rw (natural_back most_64 n b s (lit≤ tt) h.1 mark, le-leb 1 n h.0) refl

-- digits begin with no sign
no_sign : (ds rest : List ℕ) → IsNumeral 10 ds → after (codes "-") (ds ++ rest) ≡ None
no_sign [] rest h = absurd (omega (arith, h.0))
no_sign (d ∷ ds) rest h = rw (ne_eqb d 45 (λ e. let small : digit_value 45 < 10 = rw e at h.1.0 in let none : 36 < 10 = small in omega (arith, none))) refl

pub entry_back : IsReadBack signed_decimal read_integer IsEntry
unfolding read_integer
entry_back (pos n) b s h mark =
    let fits : n ≤ most_127 = omega (arith, ints, h.1) in
    let (numeral, value) = decimal_is_IsNumeral_wide n (omega (arith, fits)) in
    rw (no_sign (decimal n) (b ∷ s) numeral, natural_back most_127 n b s (lit≤ tt) fits mark) refl
entry_back (negsuc n) b s h mark =
    let fits : suc n ≤ most_127 = omega (arith, ints, h.0) in
    rw (natural_back most_127 (suc n) b s (lit≤ tt) fits mark) refl

pub cell_back : IsReadBack cell_text read_cell (λ c. Unit {0})
unfolding read_cell
cell_back cell.Zero b s h mark = refl
cell_back cell.One b s h mark = refl
cell_back cell.Any b s h mark = refl

pub how_back : IsReadBack how_text read_how (λ c. Unit {0})
unfolding read_how
how_back how.None b s h mark = refl
how_back how.First b s h mark = refl
how_back how.Join b s h mark = refl
how_back how.Keep b s h mark = refl
how_back how.Same b s h mark = refl

pub norm_back : IsReadBack norm_text read_norm (λ n. Unit {0})
unfolding read_norm
norm_back norm.Term b s h mark = refl
norm_back norm.List b s h mark = refl

-- no item begins with a bracket that closes
digit_not_closed : (ds rest : List ℕ) → IsNumeral 10 ds → after (codes "]") (ds ++ rest) ≡ None
digit_not_closed [] rest h = absurd (omega (arith, h.0))
digit_not_closed (d ∷ ds) rest h = rw (ne_eqb d 93 (λ e. let small : digit_value 93 < 10 = rw e at h.1.0 in let none : 36 < 10 = small in omega (arith, none))) refl

pub place_not_closed : (n : ℕ) (s : List ℕ) → IsPlace n → after (codes "]") (decimal n ++ s) ≡ None
place_not_closed n s h = digit_not_closed (decimal n) s (decimal_is_IsNumeral_wide n (omega (arith, h.1))).0

pub entry_not_closed : (z : ℤ) (s : List ℕ) → IsEntry z → after (codes "]") (signed_decimal z ++ s) ≡ None
entry_not_closed (pos n) s h = digit_not_closed (decimal n) s (decimal_is_IsNumeral_wide n (omega (arith, ints, h.1))).0
entry_not_closed (negsuc n) s h = refl

pub cell_not_closed : (c : CertCell) (s : List ℕ) → Unit {0} → after (codes "]") (cell_text c ++ s) ≡ None
cell_not_closed cell.Zero s h = refl
cell_not_closed cell.One s h = refl
cell_not_closed cell.Any s h = refl

pub list_not_closed : {A : Type 0} (shown : A → List ℕ) (xs : List A) (s : List ℕ) → after (codes "]") (list_text shown xs ++ s) ≡ None
list_not_closed shown [] s = refl
list_not_closed shown (x ∷ xs) s = refl

-- after an item stands a mark again
mark_after : {A : Type 0} (shown : A → List ℕ) (xs : List A) (s : List ℕ) → (b : ℕ) × (t : List ℕ) × IsMark b × (flat_map (λ y. codes "," ++ shown y) xs ++ 93 ∷ s ≡ b ∷ t)
mark_after shown [] s = (93, s, inr (inr refl), refl)
mark_after shown (x ∷ xs) s = (44, shown x ++ flat_map (λ y. codes "," ++ shown y) xs ++ 93 ∷ s, inl refl, simp append_assoc)

module _ {A : Type 0} (shown : A → List ℕ) (reads : List ℕ → Read A) (fits : A → Type 0) (shortens : Shortens reads) (back : IsReadBack shown reads fits)
    (not_closed : (x : A) (s : List ℕ) → fits x → after (codes "]") (shown x ++ s) ≡ None) where
  -- an item before others
  item_back : (x : A) (xs : List A) (s : List ℕ) → fits x
      → reads (shown x ++ (flat_map (λ y. codes "," ++ shown y) xs ++ 93 ∷ s)) ≡ Some (x, flat_map (λ y. codes "," ++ shown y) xs ++ 93 ∷ s)
  item_back x xs s h =
      let (b, t, mark, e) = mark_after shown xs s in
      rw e (back x b t h mark)

  more_back : (xs : List A) (s : List ℕ) → AllByRecursion fits xs → read_until 93 (next_item reads) (flat_map (λ y. codes "," ++ shown y) xs ++ 93 ∷ s) ≡ Some (xs, s)
  more_back [] s h = until_stop 93 (next_item reads) 93 s refl
  more_back (x ∷ xs) s h =
      ap (λ u. read_until 93 (next_item reads) (44 ∷ u)) (append_assoc (shown x) (flat_map (λ y. codes "," ++ shown y) xs) (93 ∷ s))
      ∙ until_step 93 (next_item reads) (next_shortens reads shortens) 44 _ refl
      ∙ rw (item_back x xs s h.0, more_back xs s h.1) refl

  pub list_back : IsReadBack (list_text shown) (read_list reads) (AllByRecursion fits)
  unfolding read_list
  list_back [] b s h mark = refl
  list_back (x ∷ xs) b s h mark =
      let others = flat_map (λ y. codes "," ++ shown y) xs in
      let whole : shown x ++ others ++ 93 ∷ [] ++ b ∷ s ≡ shown x ++ (others ++ 93 ∷ b ∷ s) = simp append_assoc in
      rw (whole, not_closed x (others ++ 93 ∷ b ∷ s) h.0, item_back x xs (b ∷ s) h.0, more_back xs (b ∷ s) h.1) refl
