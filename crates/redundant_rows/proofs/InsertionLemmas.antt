-- Rows that are inserted one after the other.
use Rattle.std.proofs.Common.{◌≡◌, ◌≢◌, ℕ, zero, suc, ◌+◌, ◌<◌, ◌≤◌, ℤ, ◌⊎◌, inl, inr, List, [], ◌∷◌, ◌++◌, drop, replicate, set, length, Some, refl, ap, sym, subst, ◌∙◌, arith, append_assoc}
use Rattle.std.specs.Prelude.{slice_get}
use Rattle.linear_rows.specs.Members.{In}
use Rattle.linear_rows.specs.Plain.{plain_row, plain_rows, HaveWidth}
use Rattle.linear_rows.specs.Rows.{Holds, HoldsOn}
use Rattle.linear_rows.specs.declared.row.Row.{Row}
use Rattle.linear_rows.specs.declared.row.Rows.{Rows}
use Rattle.linear_rows.proofs.Members.{from_All, to_All, in-left, in-right, of-append}
use Rattle.termination_model.specs.chains.ChainRows.{HasSublist}
use Rattle.redundant_rows.specs.declared.mark.Mark.{Mark}
use Rattle.redundant_rows.specs.declared.mark.Mark.TheVariants.{Waiting, Kept, Implied}
use Rattle.redundant_rows.specs.Inserting.{kept_of, AreKnown, IsKeptAt, IsInsertion}
use Rattle.redundant_rows.specs.Sweeping.{IsLess}
use Rattle.redundant_rows.proofs.Appends.{drop_all}
use Rattle.simplex.proofs.RowLists.{map_push}

-- ---- marks
length_set : {X : Type 0} (xs : List X) (p : ℕ) (x : X) → length (set xs p x) ≡ length xs
length_set [] p x = refl
length_set (y ∷ xs) zero x = refl
length_set (y ∷ xs) (suc p) x = ap suc (length_set xs p x)

get_other : {X : Type 0} (xs : List X) (p i : ℕ) (x : X) → i ≢ p → slice_get (set xs p x) i ≡ slice_get xs i
get_other [] p i x ne = refl
get_other (y ∷ xs) zero zero x ne = absurd (ne refl)
get_other (y ∷ xs) zero (suc i) x ne = refl
get_other (y ∷ xs) (suc p) zero x ne = refl
get_other (y ∷ xs) (suc p) (suc i) x ne = get_other xs p i x (λ e. ne (ap suc e))

get_same : {X : Type 0} (xs : List X) (p : ℕ) (x y : X) → slice_get xs p ≡ Some y → slice_get (set xs p x) p ≡ Some x
get_same [] p x y e = cc
get_same (z ∷ xs) zero x y e = refl
get_same (z ∷ xs) (suc p) x y e = get_same xs p x y e

same_or_not : (i p : ℕ) → (i ≡ p) ⊎ (i ≢ p)
same_or_not zero zero = inl refl
same_or_not zero (suc p) = inr (λ e. absurd (omega arith))
same_or_not (suc i) zero = inr (λ e. absurd (omega arith))
same_or_not (suc i) (suc p) = elim (same_or_not i p) [ inl e ↦ inl (ap suc e) | inr ne ↦ inr (λ e. ne (omega arith)) ]

kept_elsewhere : (marks : List Mark) (p i : ℕ) → slice_get marks p ≡ Some Waiting → slice_get marks i ≡ Some Kept → i ≢ p
kept_elsewhere marks p i w k e = two (sym (subst (λ (n : ℕ). slice_get marks n ≡ Some Kept) e k) ∙ w)
  where
    two : Some Kept ≡ Some Waiting → ⊥
    two e = cc

pub known_more : (marks : List Mark) (p : ℕ) (m : Mark) → slice_get marks p ≡ Some Waiting → m ≢ Waiting → AreKnown marks p → AreKnown (set marks p m) (p + 1)
known_more marks p m w ne known i l = elim (same_or_not i p) [
  | inl e ↦ λ h. ne (some (sym (get_same marks p m Waiting w) ∙ subst (λ (n : ℕ). slice_get (set marks p m) n ≡ Some Waiting) e h))
  | inr other ↦ λ h. known i (omega arith) (sym (get_other marks p i m other) ∙ h)
]
  where
    some : Some m ≡ Some Waiting → m ≡ Waiting
    some e = cc

-- a place whose row does not wait is known
pub known_here : (marks : List Mark) (p : ℕ) → slice_get marks p ≢ Some Waiting → AreKnown marks p → AreKnown marks (p + 1)
known_here marks p ne known i l = elim (same_or_not i p) [
  | inl e ↦ λ h. ne (subst (λ (n : ℕ). slice_get marks n ≡ Some Waiting) e h)
  | inr other ↦ known i (omega arith)
]

-- a place where a mark is written stays known, and so do the others
pub known_still : (marks : List Mark) (p k : ℕ) (m : Mark) → slice_get marks p ≡ Some Waiting → m ≢ Waiting → AreKnown marks k → AreKnown (set marks p m) k
known_still marks p k m w ne known i l = elim (same_or_not i p) [
  | inl e ↦ λ h. ne (some (sym (get_same marks p m Waiting w) ∙ subst (λ (n : ℕ). slice_get (set marks p m) n ≡ Some Waiting) e h))
  | inr other ↦ λ h. known i l (sym (get_other marks p i m other) ∙ h)
]
  where
    some : Some m ≡ Some Waiting → m ≡ Waiting
    some e = cc

pub known_on : (marks : List Mark) (p : ℕ) (m : Mark) → slice_get marks p ≡ Some m → m ≢ Waiting → AreKnown marks p → AreKnown marks (p + 1)
known_on marks p m at ne known i l = elim (same_or_not i p) [
  | inl e ↦ λ h. ne (some (sym at ∙ subst (λ (n : ℕ). slice_get marks n ≡ Some Waiting) e h))
  | inr other ↦ known i (omega arith)
]
  where
    some : Some m ≡ Some Waiting → m ≡ Waiting
    some e = cc

-- ---- rows that hold
pub holds_on_more : (n : ℕ) (rows more : List (List ℤ)) (r : List ℤ) → ((x : List ℤ) → In x rows → In x more) → HoldsOn (suc n) rows r → HoldsOn (suc n) more r
holds_on_more n rows more r inside h t w some long hold = h t w some long (to_All (λ (x : List ℤ). Holds x t w) rows (λ x i. from_All (λ (x : List ℤ). Holds x t w) more x hold (inside x i)))

pub holds_in : (n : ℕ) (rows : List (List ℤ)) (r : List ℤ) → In r rows → HoldsOn (suc n) rows r
holds_in n rows r i t w some long hold = from_All (λ (x : List ℤ). Holds x t w) rows r hold i

one_row : (all : List Row) (i p : ℕ) (r s : Row) → i ≡ p → slice_get all i ≡ Some r → slice_get all p ≡ Some s → s ≡ r
one_row all i p r s e a b = let c : Some s ≡ Some r = sym b ∙ sym (ap (slice_get all) e) ∙ a in cc

-- ---- one more row
still_kept : (all : List Row) (marks : List Mark) (p : ℕ) (m : Mark) (row : List ℤ) → slice_get marks p ≡ Some Waiting → IsKeptAt all marks row → IsKeptAt all (set marks p m) row
still_kept all marks p m row w k = record {
  place = k.place;
  marked = get_other marks p k.place m (kept_elsewhere marks p k.place w k.marked) ∙ k.marked;
  it = k.it;
  here = k.here;
  row_is = k.row_is;
}

pub row_implied : (n : ℕ) (all : List Row) (marks : List Mark) (kept : Rows) (p : ℕ) (row : Row) → slice_get all p ≡ Some row → slice_get marks p ≡ Some Waiting → HoldsOn (suc n) (plain_rows kept.list) (plain_row row)
    → IsInsertion n all marks kept → IsInsertion n all (set marks p Implied) kept
row_implied n all marks kept p row at w holds h = record {
  width = h.width;
  widths = h.widths;
  count = length_set marks p Implied ∙ h.count;
  hold = λ i r here known. elim (same_or_not i p) [
    | inl e ↦ subst (λ (q : Row). HoldsOn (suc n) (plain_rows kept.list) (plain_row q)) (one_row all i p r row e here at) holds
    | inr other ↦ h.hold i r here (λ m. known (get_other marks p i Implied other ∙ m))
  ];
  kept_at = λ r i. still_kept all marks p Implied r w (h.kept_at r i);
}

pub row_kept : (n : ℕ) (all : List Row) (marks : List Mark) (kept new : Rows) (p : ℕ) (row it : Row) → slice_get all p ≡ Some row → slice_get marks p ≡ Some Waiting → new.width ≡ kept.width → HaveWidth n new.list → new.list ≡ kept.list ++ it ∷ [] → plain_row it ≡ plain_row row
    → IsInsertion n all marks kept → IsInsertion n all (set marks p Kept) new
row_kept n all marks kept new p row it at w width widths list same h =
    let plain : plain_rows new.list ≡ plain_rows kept.list ++ plain_row row ∷ [] = ap plain_rows list ∙ map_push plain_row kept.list it ∙ ap (λ (r : List ℤ). plain_rows kept.list ++ r ∷ []) same in
    let inside : (x : List ℤ) → In x (plain_rows kept.list) → In x (plain_rows new.list) = λ x i. subst (In x) (sym plain) (in-left (plain_rows kept.list) (plain_row row ∷ []) x i) in
    let last : In (plain_row row) (plain_rows new.list) = subst (In (plain_row row)) (sym plain) (in-right (plain_rows kept.list) (plain_row row ∷ []) (plain_row row) (inl refl)) in
    record {
      width = width ∙ h.width;
      widths = widths;
      count = length_set marks p Kept ∙ h.count;
      hold = λ i r here known. elim (same_or_not i p) [
        | inl e ↦ subst (λ (q : Row). HoldsOn (suc n) (plain_rows new.list) (plain_row q)) (one_row all i p r row e here at) (holds_in n (plain_rows new.list) (plain_row row) last)
        | inr other ↦ holds_on_more n (plain_rows kept.list) (plain_rows new.list) (plain_row r) inside (h.hold i r here (λ m. known (get_other marks p i Kept other ∙ m)))
      ];
      kept_at = λ r i. elim (of-append (plain_rows kept.list) (plain_row row ∷ []) r (subst (In r) plain i)) [
        | inl old ↦ still_kept all marks p Kept r w (h.kept_at r old)
        | inr last ↦ elim last [ inl is ↦ record { place = p; marked = get_same marks p Kept Waiting w; it = row; here = at; row_is = is } | inr none ↦ absurd none ]
      ];
    }

-- ---- the beginning and the end
pub starts : (n : ℕ) (all : List Row) (kept : Rows) → kept.width ≡ n → kept.list ≡ [] → (marks : List Mark) → marks ≡ replicate (length all) Waiting → IsInsertion n all marks kept
starts n all kept width list marks is = record {
  width = width;
  widths = subst (HaveWidth n) (sym list) (λ k d l. absurd (omega arith));
  count = ap length is ∙ long (length all);
  hold = λ i r here known. absurd (known (ap (λ (ms : List Mark). slice_get ms i) is ∙ waiting all i r here));
  kept_at = λ r i. absurd (subst (λ (rs : List Row). In r (plain_rows rs)) list i);
}
  where
    long : (k : ℕ) → length (replicate k Waiting) ≡ k
    long zero = refl
    long (suc k) = ap suc (long k)

    waiting : (all : List Row) (i : ℕ) (r : Row) → slice_get all i ≡ Some r → slice_get (replicate (length all) Waiting) i ≡ Some Waiting
    waiting [] i r e = cc
    waiting (x ∷ all) zero r e = refl
    waiting (x ∷ all) (suc i) r e = waiting all i r e

part_kept : (marks : List Mark) (xs : List (List ℤ)) → HasSublist xs (kept_of marks xs)
part_kept [] [] = refl
part_kept [] (x ∷ xs) = inr (tt, part_kept [] xs)
part_kept (m ∷ marks) [] = refl
part_kept (Kept ∷ marks) (x ∷ xs) = inl (tt, kept_of marks xs, refl, part_kept marks xs)
part_kept (Waiting ∷ marks) (x ∷ xs) = inr (tt, part_kept marks xs)
part_kept (Implied ∷ marks) (x ∷ xs) = inr (tt, part_kept marks xs)

in_kept : (marks : List Mark) (all : List Row) (i : ℕ) (r : Row) → slice_get marks i ≡ Some Kept → slice_get all i ≡ Some r → In (plain_row r) (kept_of marks (plain_rows all))
in_kept [] all i r m e = absurd (let no : ⊥ = cc in no)
in_kept (m ∷ marks) [] i r k e = absurd (let no : ⊥ = cc in no)
in_kept (Kept ∷ marks) (x ∷ all) zero r m e = inl (let same : x ≡ r = cc in ap plain_row same)
in_kept (Waiting ∷ marks) (x ∷ all) zero r m e = absurd (let no : ⊥ = cc in no)
in_kept (Implied ∷ marks) (x ∷ all) zero r m e = absurd (let no : ⊥ = cc in no)
in_kept (Kept ∷ marks) (x ∷ all) (suc i) r m e = inr (in_kept marks all i r m e)
in_kept (Waiting ∷ marks) (x ∷ all) (suc i) r m e = in_kept marks all i r m e
in_kept (Implied ∷ marks) (x ∷ all) (suc i) r m e = in_kept marks all i r m e

in_plain : (all : List Row) (r : List ℤ) → In r (plain_rows all) → (i : ℕ) × (it : Row) × (slice_get all i ≡ Some it) × (plain_row it ≡ r) × (i < length all)
in_plain [] r h = absurd h
in_plain (x ∷ all) r (inl is) = (0, x, refl, is, omega arith)
in_plain (x ∷ all) r (inr h) = let m = in_plain all r h in (suc m.0, m.1, m.2, m.3, (let l = m.4 in omega arith))

pub less_of : (n : ℕ) (all : List Row) (marks : List Mark) (kept : Rows) → IsInsertion n all marks kept → AreKnown marks (length all) → IsLess n (plain_rows all) (kept_of marks (plain_rows all))
less_of n all marks kept h known = record {
  part = part_kept marks (plain_rows all);
  covers = λ r i.
      let m = in_plain all r i in
      subst (HoldsOn (suc n) (kept_of marks (plain_rows all))) m.3
      (holds_on_more n (plain_rows kept.list) (kept_of marks (plain_rows all)) (plain_row m.1)
      (λ x j. let k = h.kept_at x j in subst (λ (y : List ℤ). In y (kept_of marks (plain_rows all))) k.row_is (in_kept marks all k.place k.it k.marked k.here))
      (h.hold m.0 m.1 m.2 (known m.0 m.4)));
}

-- ---- the kept rows that are left
pub kept_one : {X : Type 0} (m : Mark) (ms : List Mark) (x : X) (xs : List X) → kept_of (m ∷ ms) (x ∷ xs) ≡ kept_of (m ∷ []) (x ∷ []) ++ kept_of ms xs
kept_one Kept ms x xs = refl
kept_one Waiting ms x xs = refl
kept_one Implied ms x xs = refl

kept_left : (marks : List Mark) (rows : List Row) (p : ℕ) (m : Mark) (r : Row) → slice_get marks p ≡ Some m → slice_get rows p ≡ Some r → kept_of (drop p marks) (plain_rows (drop p rows)) ≡ kept_of (m ∷ []) (plain_row r ∷ []) ++ kept_of (drop (p + 1) marks) (plain_rows (drop (p + 1) rows))
kept_left [] rows p m r a b = absurd (let none : ⊥ = cc in none)
kept_left (x ∷ marks) [] p m r a b = absurd (let none : ⊥ = cc in none)
kept_left (x ∷ marks) (y ∷ rows) zero m r a b =
    let e : x ≡ m = cc in
    let f : y ≡ r = cc in
    kept_one x marks (plain_row y) (plain_rows rows) ∙ (λ i. kept_of (e i ∷ []) (plain_row (f i) ∷ []) ++ kept_of marks (plain_rows rows))
kept_left (x ∷ marks) (y ∷ rows) (suc p) m r a b =
    let e : suc p + 1 ≡ suc (p + 1) = omega arith in
    kept_left marks rows p m r a b ∙ ap (λ n. kept_of (m ∷ []) (plain_row r ∷ []) ++ kept_of (drop n (x ∷ marks)) (plain_rows (drop n (y ∷ rows)))) (sym e)

pub kept_moved : (now next all : List (List ℤ)) (marks : List Mark) (rows : List Row) (p : ℕ) (m : Mark) (r : Row) → slice_get marks p ≡ Some m → slice_get rows p ≡ Some r → next ≡ now ++ kept_of (m ∷ []) (plain_row r ∷ [])
    → now ++ kept_of (drop p marks) (plain_rows (drop p rows)) ≡ all → next ++ kept_of (drop (p + 1) marks) (plain_rows (drop (p + 1) rows)) ≡ all
kept_moved now next all marks rows p m r a b en e =
    let rest = kept_of (drop (p + 1) marks) (plain_rows (drop (p + 1) rows)) in
    ap (λ (l : List (List ℤ)). l ++ rest) en ∙ append_assoc now (kept_of (m ∷ []) (plain_row r ∷ [])) rest ∙ ap (λ (l : List (List ℤ)). now ++ l) (sym (kept_left marks rows p m r a b)) ∙ e

pub kept_ends : (marks : List Mark) (rows : List Row) (p : ℕ) → length rows ≤ p → kept_of (drop p marks) (plain_rows (drop p rows)) ≡ []
kept_ends marks rows p l = ap (λ (rs : List Row). kept_of (drop p marks) (plain_rows rs)) (drop_all rows p l) ∙ none (drop p marks)
  where
    none : {X : Type 0} (ms : List Mark) → kept_of ms (let xs : List X = [] in xs) ≡ []
    none [] = refl
    none (m ∷ ms) = refl
