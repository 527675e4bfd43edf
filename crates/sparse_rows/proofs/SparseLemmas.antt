-- Lists of numbers after zeros, a part at a time.
use Rattle.std.proofs.Common.{◌≡◌, ℕ, zero, suc, ℤ, pos, List, [], ◌∷◌, ◌++◌, ◌+◌, ◌-◌, ◌<◌, ◌≤◌, ◌+ℤ◌, ◌*ℤ◌, Bool, true, false, map, drop, length, get_or, refl, sym, ap, ◌∙◌, arith, append_assoc, length-append}
use Rattle.std.specs.Prelude.{◌&&◌, unsigned_abs}
use Rattle.std.specs.Cmp.Derive.{both_true}
use Rattle.std.proofs.Math.Seq.{drop-cons}
use Rattle.std.proofs.lemmas.Int.{ints}
use Rattle.std.proofs.lemmas.List.{append-nil, get_or_default}
use Rattle.std.proofs.lemmas.Nat.Gcd.{same_from_IsGcd, dvd-zero, dvd_refl}
use Rattle.exact128.specs.Fits.{Fits, fits}
use Rattle.exact128.specs.Gcd.{gcd}
use Rattle.exact128.specs.Sums.{entry}
use Rattle.exact128.proofs.FitsLemmas.{to_fits, of_fits, both, either_bool}
use Rattle.exact128.proofs.Gcds.{gcd_is}
use Rattle.linear_rows.specs.Cleaning.{row_gcd}
use Rattle.linear_rows.specs.Blown.{all_of, blend_fits}
use Rattle.linear_rows.specs.Solving.{zeros}
use Rattle.sparse_rows.specs.Blending.{blended}
use Rattle.sparse_rows.specs.Sparse.{spread, first_zeros, from_number, rest_at}
use Rattle.sparse_rows.specs.declared.part.Part.{Part}
use Rattle.sparse_rows.specs.declared.part.Place.{Place}
use Rattle.linear_rows.proofs.Refutes.{length-zeros}

pub drop-all : {A : Type 0} (i : ℕ) (xs : List A) → length xs ≤ i → drop i xs ≡ []
drop-all zero [] h = refl
drop-all zero (x ∷ xs) h = absurd (omega arith)
drop-all (suc i) [] h = refl
drop-all (suc i) (x ∷ xs) h = drop-all i xs (omega arith)

-- ---- reading
abbrev pub nothing : Part
nothing = record { zeros = 0; number = pos 0 }

pub part_at : (parts : List Part) (i : ℕ) → i < length parts → get_or parts i nothing ≡ get_or parts i (get_or parts i nothing)
part_at parts i h = get_or_default parts i nothing (get_or parts i nothing) h

pub zeros-append : (a b : ℕ) → zeros (a + b) ≡ zeros a ++ zeros b
zeros-append zero b = let e : 0 + b ≡ b = omega arith in ap zeros e
zeros-append (suc a) b = let e : suc a + b ≡ suc (a + b) = omega arith in ap zeros e ∙ ap (λ l. pos 0 ∷ l) (zeros-append a b)

-- ---- appending
pub spread-zeros : (xs : List Part) (tail count : ℕ) → spread xs (tail + count) ≡ spread xs tail ++ zeros count
spread-zeros [] tail count = zeros-append tail count
spread-zeros (x ∷ xs) tail count =
    ap (λ l. zeros x.zeros ++ x.number ∷ l) (spread-zeros xs tail count) ∙ sym (append_assoc (zeros x.zeros) (x.number ∷ spread xs tail) (zeros count))

pub spread-part : (xs : List Part) (tail : ℕ) (number : ℤ) → spread (xs ++ (record { zeros = tail; number = number }) ∷ []) 0 ≡ spread xs tail ++ number ∷ []
spread-part [] tail number = refl
spread-part (x ∷ xs) tail number =
    ap (λ l. zeros x.zeros ++ x.number ∷ l) (spread-part xs tail number) ∙ sym (append_assoc (zeros x.zeros) (x.number ∷ spread xs tail) (number ∷ []))

pub tail_within : (xs : List Part) (tail : ℕ) → tail ≤ length (spread xs tail)
tail_within [] tail = omega (arith, length-zeros tail)
tail_within (x ∷ xs) tail = let l = tail_within xs tail in omega (arith, length-append (zeros x.zeros) (x.number ∷ spread xs tail), l)

-- ---- walking
pub split_first : (xs : List Part) (tail : ℕ) → zeros (first_zeros xs tail) ++ from_number xs tail ≡ spread xs tail
split_first [] tail = append-nil (zeros tail)
split_first (x ∷ xs) tail = refl

pub begins : (parts : List Part) (tail index : ℕ) (p : Place) → p.index ≡ index → p.before ≡ first_zeros (drop index parts) tail → rest_at parts tail p ≡ spread (drop index parts) tail
begins parts tail index p ei eb =
    ap (λ k. zeros k ++ from_number (drop p.index parts) tail) eb ∙ ap (λ k. zeros (first_zeros (drop index parts) tail) ++ from_number (drop k parts) tail) ei ∙ split_first (drop index parts) tail

zeros_split : (over before : ℕ) (rest : List ℤ) → over < before → zeros before ++ rest ≡ zeros over ++ pos 0 ∷ (zeros (before - over - 1) ++ rest)
zeros_split over zero rest h = absurd (omega arith)
zeros_split zero (suc b) rest h = let e : suc b - 0 - 1 ≡ b = omega arith in rw e refl
zeros_split (suc o) (suc b) rest h =
    let e : suc b - suc o - 1 ≡ b - o - 1 = omega arith in
    ap (λ l. pos 0 ∷ l) (zeros_split o b rest (omega arith)) ∙ ap (λ k. pos 0 ∷ (zeros o ++ pos 0 ∷ (zeros k ++ rest))) (sym e)

-- a walk within the zeros
pub walk_zeros : (parts : List Part) (tail over : ℕ) (p : Place) (before : ℕ) → over < p.before → before ≡ p.before - over - 1 → rest_at parts tail p ≡ zeros over ++ pos 0 ∷ rest_at parts tail (record { index = p.index; before = before })
walk_zeros parts tail over p before h e =
    zeros_split over p.before (from_number (drop p.index parts) tail) h ∙ ap (λ k. zeros over ++ pos 0 ∷ (zeros k ++ from_number (drop p.index parts) tail)) (sym e)

-- a number is left where there is more than zeros
pub index_within : (parts : List Part) (tail over : ℕ) (p : Place) → p.before ≤ over → over < length (rest_at parts tail p) → p.index < length parts
index_within parts tail over p h more = look (length parts) refl
  where
    none : length parts ≤ p.index → length (rest_at parts tail p) ≡ p.before
    none l = ap (λ xs. length (zeros p.before ++ from_number xs tail)) (drop-all p.index parts l) ∙ ap length (append-nil (zeros p.before)) ∙ length-zeros p.before

    look : (n : ℕ) → n ≡ length parts → p.index < length parts
    look n e = grind (arith, none)

pub walk_number : (parts : List Part) (tail over : ℕ) (p q : Place) (x : Part) → p.before ≡ over → p.index < length parts → x ≡ get_or parts p.index x → q.index ≡ p.index + 1 → q.before ≡ first_zeros (drop (p.index + 1) parts) tail →
    rest_at parts tail p ≡ zeros over ++ x.number ∷ rest_at parts tail q
walk_number parts tail over p q x e h ex ei eb =
    let one : p.index + 1 ≡ suc p.index = omega arith in
    let here : from_number (drop p.index parts) tail ≡ x.number ∷ spread (drop (suc p.index) parts) tail = rw (drop-cons parts p.index x h, ← ex) refl in
    ap (λ k. zeros k ++ from_number (drop p.index parts) tail) e ∙ ap (λ l. zeros over ++ l) here
    ∙ ap (λ l. zeros over ++ x.number ∷ l) (ap (λ k. spread (drop k parts) tail) (sym one) ∙ sym (begins parts tail (p.index + 1) q ei eb))

pub more_left : (parts : List Part) (tail : ℕ) (p : Place) → p.index < length parts → p.before < length (rest_at parts tail p)
more_left parts tail p h = look (drop p.index parts) (drop-cons parts p.index (record { zeros = 0; number = pos 0 }) h)
  where
    look : (xs : List Part) → xs ≡ get_or parts p.index (record { zeros = 0; number = pos 0 }) ∷ drop (suc p.index) parts → p.before < length (zeros p.before ++ from_number xs tail)
    look [] e = cc
    look (x ∷ xs) e = omega (arith, length-append (zeros p.before) (x.number ∷ spread xs tail), length-zeros p.before)

pub nothing_left : (parts : List Part) (tail : ℕ) (p : Place) → length parts ≤ p.index → rest_at parts tail p ≡ zeros p.before
nothing_left parts tail p h = ap (λ xs. zeros p.before ++ from_number xs tail) (drop-all p.index parts h) ∙ append-nil (zeros p.before)

-- ---- entries
pub entry-zeros : (n k : ℕ) → entry (zeros n) k ≡ pos 0
entry-zeros zero k = refl
entry-zeros (suc n) zero = refl
entry-zeros (suc n) (suc k) = entry-zeros n k

entry_before : (n k : ℕ) (rest : List ℤ) → k < n → entry (zeros n ++ rest) k ≡ pos 0
entry_before zero k rest h = absurd (omega arith)
entry_before (suc n) zero rest h = refl
entry_before (suc n) (suc k) rest h = entry_before n k rest (omega arith)

entry_from : (n k : ℕ) (rest : List ℤ) → n ≤ k → entry (zeros n ++ rest) k ≡ entry rest (k - n)
entry_from zero k rest h = let e : k - 0 ≡ k = omega arith in rw e refl
entry_from (suc n) zero rest h = absurd (omega arith)
entry_from (suc n) (suc k) rest h = let e : suc k - suc n ≡ k - n = omega arith in entry_from n k rest (omega arith) ∙ ap (entry rest) (sym e)

here_is : (parts : List Part) (tail i : ℕ) (x : Part) → i < length parts → x ≡ get_or parts i x → spread (drop i parts) tail ≡ zeros x.zeros ++ x.number ∷ spread (drop (suc i) parts) tail
here_is parts tail i x h e = rw (drop-cons parts i x h, ← e) refl

pub entry_in_zeros : (parts : List Part) (tail i left : ℕ) (x : Part) (all : ℤ) → i < length parts → x ≡ get_or parts i x → entry (spread (drop i parts) tail) left ≡ all → left < x.zeros → pos 0 ≡ all
entry_in_zeros parts tail i left x all h e is lt = sym (ap (λ l. entry l left) (here_is parts tail i x h e) ∙ entry_before x.zeros left (x.number ∷ spread (drop (suc i) parts) tail) lt) ∙ is

pub entry_at_number : (parts : List Part) (tail i left : ℕ) (x : Part) (all : ℤ) → i < length parts → x ≡ get_or parts i x → entry (spread (drop i parts) tail) left ≡ all → left ≡ x.zeros → x.number ≡ all
entry_at_number parts tail i left x all h e is eq =
    let z : left - x.zeros ≡ 0 = omega arith in
    sym (ap (λ l. entry l left) (here_is parts tail i x h e) ∙ entry_from x.zeros left (x.number ∷ spread (drop (suc i) parts) tail) (omega arith) ∙ ap (entry (x.number ∷ spread (drop (suc i) parts) tail)) z) ∙ is

pub entry_later : (parts : List Part) (tail i left : ℕ) (x : Part) (all : ℤ) → i < length parts → x ≡ get_or parts i x → entry (spread (drop i parts) tail) left ≡ all → x.zeros < left → entry (spread (drop (i + 1) parts) tail) (left - (x.zeros + 1)) ≡ all
entry_later parts tail i left x all h e is lt =
    let one : i + 1 ≡ suc i = omega arith in
    let z : left - x.zeros ≡ suc (left - (x.zeros + 1)) = omega arith in
    rw one (sym (ap (λ l. entry l left) (here_is parts tail i x h e) ∙ entry_from x.zeros left (x.number ∷ spread (drop (suc i) parts) tail) (omega arith) ∙ ap (entry (x.number ∷ spread (drop (suc i) parts) tail)) z) ∙ is)

pub entry_past : (parts : List Part) (tail i left : ℕ) (all : ℤ) → length parts ≤ i → entry (spread (drop i parts) tail) left ≡ all → pos 0 ≡ all
entry_past parts tail i left all h is = sym (ap (λ xs. entry (spread xs tail) left) (drop-all i parts h) ∙ entry-zeros tail left) ∙ is

-- ---- tests of all numbers
all_zeros : (t : ℤ → Bool) (n : ℕ) → t (pos 0) ≡ true → all_of t (zeros n) ≡ true
all_zeros t zero z = refl
all_zeros t (suc n) z = both_true z (all_zeros t n z)

all_behind : (t : ℤ → Bool) (n : ℕ) (rest : List ℤ) → t (pos 0) ≡ true → all_of t (zeros n ++ rest) ≡ all_of t rest
all_behind t zero rest z = refl
all_behind t (suc n) rest z = ap (λ b. b && all_of t (zeros n ++ rest)) z ∙ all_behind t n rest z

passes_here : (t : ℤ → Bool) (parts : List Part) (tail i : ℕ) (x : Part) → t (pos 0) ≡ true → i < length parts → x ≡ get_or parts i x → all_of t (spread (drop i parts) tail) ≡ (t x.number && all_of t (spread (drop (suc i) parts) tail))
passes_here t parts tail i x z h e = ap (all_of t) (here_is parts tail i x h e) ∙ all_behind t x.zeros (x.number ∷ spread (drop (suc i) parts) tail) z

pub test_goes_on : (t : ℤ → Bool) (parts : List Part) (tail i : ℕ) (x : Part) (all : Bool) → t (pos 0) ≡ true → i < length parts → x ≡ get_or parts i x → all_of t (spread (drop i parts) tail) ≡ all → t x.number ≡ true → all_of t (spread (drop (i + 1) parts) tail) ≡ all
test_goes_on t parts tail i x all z h e is passes =
    let one : i + 1 ≡ suc i = omega arith in
    rw one (sym (passes_here t parts tail i x z h e ∙ ap (λ b. b && all_of t (spread (drop (suc i) parts) tail)) passes) ∙ is)

pub test_stops : (t : ℤ → Bool) (parts : List Part) (tail i : ℕ) (x : Part) (all : Bool) → t (pos 0) ≡ true → i < length parts → x ≡ get_or parts i x → all_of t (spread (drop i parts) tail) ≡ all → t x.number ≡ false → false ≡ all
test_stops t parts tail i x all z h e is fails = sym (passes_here t parts tail i x z h e ∙ ap (λ b. b && all_of t (spread (drop (suc i) parts) tail)) fails) ∙ is

pub test_ends : (t : ℤ → Bool) (parts : List Part) (tail i : ℕ) (all : Bool) → t (pos 0) ≡ true → length parts ≤ i → all_of t (spread (drop i parts) tail) ≡ all → true ≡ all
test_ends t parts tail i all z h is = sym (ap (λ xs. all_of t (spread xs tail)) (drop-all i parts h) ∙ all_zeros t tail z) ∙ is

-- ---- what the numbers share
gcd-nothing : (g : ℕ) → gcd 0 g ≡ g
gcd-nothing g = same_from_IsGcd 0 g (gcd 0 g) g (gcd_is 0 g) (dvd-zero g, dvd_refl g, λ d x y. y)

gcd_zeros : (n : ℕ) → row_gcd (zeros n) ≡ 0
unfolding row_gcd
gcd_zeros zero = refl
gcd_zeros (suc n) = gcd-nothing (row_gcd (zeros n)) ∙ gcd_zeros n

gcd_behind : (n : ℕ) (rest : List ℤ) → row_gcd (zeros n ++ rest) ≡ row_gcd rest
unfolding row_gcd
gcd_behind zero rest = refl
gcd_behind (suc n) rest = gcd-nothing (row_gcd (zeros n ++ rest)) ∙ gcd_behind n rest

pub gcd_starts : (parts : List Part) (tail i : ℕ) → i ≡ length parts → 0 ≡ row_gcd (spread (drop i parts) tail)
gcd_starts parts tail i e = sym (ap (λ xs. row_gcd (spread xs tail)) (drop-all i parts (omega arith)) ∙ gcd_zeros tail)

pub gcd_goes_on : (parts : List Part) (tail i : ℕ) (x : Part) (shared : ℕ) → i < length parts → x ≡ get_or parts i x → shared ≡ row_gcd (spread (drop (suc i) parts) tail) → gcd (unsigned_abs x.number) shared ≡ row_gcd (spread (drop i parts) tail)
unfolding row_gcd
gcd_goes_on parts tail i x shared h e is =
    ap (gcd (unsigned_abs x.number)) is ∙ sym (ap row_gcd (here_is parts tail i x h e) ∙ gcd_behind x.zeros (x.number ∷ spread (drop (suc i) parts) tail))

-- ---- dividing
map_behind : (f : ℤ → ℤ) (n : ℕ) (rest : List ℤ) → f (pos 0) ≡ pos 0 → map f (zeros n ++ rest) ≡ zeros n ++ map f rest
map_behind f zero rest e = refl
map_behind f (suc n) rest e = cons_same (f (pos 0)) (pos 0) (map f (zeros n ++ rest)) (zeros n ++ map f rest) e (map_behind f n rest e)
  where
    cons_same : (x y : ℤ) (xs ys : List ℤ) → x ≡ y → xs ≡ ys → x ∷ xs ≡ y ∷ ys
    cons_same x y xs ys e f = cc

map_zeros : (f : ℤ → ℤ) (n : ℕ) → f (pos 0) ≡ pos 0 → map f (zeros n) ≡ zeros n
map_zeros f n e = ap (map f) (sym (append-nil (zeros n))) ∙ map_behind f n [] e ∙ append-nil (zeros n)

pub map_goes_on : (f : ℤ → ℤ) (parts : List Part) (tail i : ℕ) (x : Part) (out padded next all : List ℤ) → f (pos 0) ≡ pos 0 → i < length parts → x ≡ get_or parts i x → out ++ map f (spread (drop i parts) tail) ≡ all →
    padded ≡ out ++ zeros x.zeros → next ≡ padded ++ f x.number ∷ [] → next ++ map f (spread (drop (i + 1) parts) tail) ≡ all
map_goes_on f parts tail i x out padded next all z h e is ep en =
    let one : i + 1 ≡ suc i = omega arith in
    let later = map f (spread (drop (suc i) parts) tail) in
    let here : map f (spread (drop i parts) tail) ≡ zeros x.zeros ++ f x.number ∷ later = ap (map f) (here_is parts tail i x h e) ∙ map_behind f x.zeros (x.number ∷ spread (drop (suc i) parts) tail) z in
    rw one (ap (λ l. l ++ later) (en ∙ ap (λ l. l ++ f x.number ∷ []) ep) ∙ append_assoc (out ++ zeros x.zeros) (f x.number ∷ []) later ∙ append_assoc out (zeros x.zeros) (f x.number ∷ later) ∙ ap (λ l. out ++ l) (sym here) ∙ is)

pub map_ends : (f : ℤ → ℤ) (parts : List Part) (tail i : ℕ) (out padded all : List ℤ) → f (pos 0) ≡ pos 0 → length parts ≤ i → out ++ map f (spread (drop i parts) tail) ≡ all → padded ≡ out ++ zeros tail → padded ≡ all
map_ends f parts tail i out padded all z h is ep =
    ep ∙ ap (λ l. out ++ l) (sym (ap (λ xs. map f (spread xs tail)) (drop-all i parts h) ∙ map_zeros f tail z)) ∙ is

-- ---- blending
times_nothing : (a : ℤ) → a *ℤ pos 0 ≡ pos 0
times_nothing a = omega (arith, ints)

nothing_twice : (a b : ℤ) → a *ℤ pos 0 +ℤ b *ℤ pos 0 ≡ pos 0
nothing_twice a b = omega (arith, ints)

blended_walk : (a b : ℤ) (n : ℕ) (R S : List ℤ) → blended a b (zeros n ++ R) (zeros n ++ S) ≡ zeros n ++ blended a b R S
blended_walk a b zero R S = refl
blended_walk a b (suc n) R S = cons_same (a *ℤ pos 0 +ℤ b *ℤ pos 0) (pos 0) (blended a b (zeros n ++ R) (zeros n ++ S)) (zeros n ++ blended a b R S) (nothing_twice a b) (blended_walk a b n R S)
  where
    cons_same : (x y : ℤ) (xs ys : List ℤ) → x ≡ y → xs ≡ ys → x ∷ xs ≡ y ∷ ys
    cons_same x y xs ys e f = cc

nothing_fits : (a b : ℤ) → (fits (a *ℤ pos 0) && (fits (b *ℤ pos 0) && fits (a *ℤ pos 0 +ℤ b *ℤ pos 0))) ≡ true
nothing_fits a b = rw (nothing_twice a b, times_nothing a, times_nothing b) refl

fits_walk : (a b : ℤ) (n : ℕ) (R S : List ℤ) → blend_fits a b (zeros n ++ R) (zeros n ++ S) ≡ blend_fits a b R S
fits_walk a b zero R S = refl
fits_walk a b (suc n) R S = ap (λ t. t && blend_fits a b (zeros n ++ R) (zeros n ++ S)) (nothing_fits a b) ∙ fits_walk a b n R S

pub blend_goes_on : (a b x y : ℤ) (n : ℕ) (r s R S out padded next all : List ℤ) → r ≡ zeros n ++ x ∷ R → s ≡ zeros n ++ y ∷ S → out ++ blended a b r s ≡ all → padded ≡ out ++ zeros n → next ≡ padded ++ (a *ℤ x +ℤ b *ℤ y) ∷ [] → next ++ blended a b R S ≡ all
blend_goes_on a b x y n r s R S out padded next all er es is ep en =
    let later = blended a b R S in
    let here : blended a b r s ≡ zeros n ++ (a *ℤ x +ℤ b *ℤ y) ∷ later = ap (λ l. blended a b l s) er ∙ ap (blended a b (zeros n ++ x ∷ R)) es ∙ blended_walk a b n (x ∷ R) (y ∷ S) in
    ap (λ l. l ++ later) (en ∙ ap (λ l. l ++ (a *ℤ x +ℤ b *ℤ y) ∷ []) ep) ∙ append_assoc (out ++ zeros n) ((a *ℤ x +ℤ b *ℤ y) ∷ []) later ∙ append_assoc out (zeros n) ((a *ℤ x +ℤ b *ℤ y) ∷ later) ∙ ap (λ l. out ++ l) (sym here) ∙ is

pub blend_here : (a b x y : ℤ) (n : ℕ) (r s R S : List ℤ) → r ≡ zeros n ++ x ∷ R → s ≡ zeros n ++ y ∷ S → blend_fits a b r s ≡ ((fits (a *ℤ x) && (fits (b *ℤ y) && fits (a *ℤ x +ℤ b *ℤ y))) && blend_fits a b R S)
blend_here a b x y n r s R S er es = ap (λ l. blend_fits a b l s) er ∙ ap (blend_fits a b (zeros n ++ x ∷ R)) es ∙ fits_walk a b n (x ∷ R) (y ∷ S)

pub not_all : (x y z : ℤ) → (Fits x × Fits y × Fits z → ⊥) → (fits x && (fits y && fits z)) ≡ false
not_all x y z none =
    either_bool (fits x && (fits y && fits z)) (λ e.
    let p = both (fits x) (fits y && fits z) e in
    let q = both (fits y) (fits z) p.1 in
    none (of_fits x p.0, of_fits y q.0, of_fits z q.1))

pub all_three : (x y z : ℤ) → Fits x × Fits y × Fits z → (fits x && (fits y && fits z)) ≡ true
all_three x y z h = rw (to_fits x h.0, to_fits y h.1, to_fits z h.2) refl

pub same_length : (x y : ℤ) (n : ℕ) (r s R S : List ℤ) → r ≡ zeros n ++ x ∷ R → s ≡ zeros n ++ y ∷ S → length r ≡ length s → length R ≡ length S
same_length x y n r s R S er es e =
    omega (arith, e, ap length er, ap length es, length-append (zeros n) (x ∷ R), length-append (zeros n) (y ∷ S))

pub shorter : (x : ℤ) (n : ℕ) (r R : List ℤ) → r ≡ zeros n ++ x ∷ R → length R < length r
shorter x n r R er = omega (arith, ap length er, length-append (zeros n) (x ∷ R))

pub blend_ends : (a b : ℤ) (n : ℕ) (r s out padded all : List ℤ) → r ≡ zeros n → s ≡ zeros n → out ++ blended a b r s ≡ all → padded ≡ out ++ zeros n → padded ≡ all
blend_ends a b n r s out padded all er es is ep =
    let here : blended a b r s ≡ zeros n = ap (λ l. blended a b l s) (er ∙ sym (append-nil (zeros n))) ∙ ap (blended a b (zeros n ++ [])) (es ∙ sym (append-nil (zeros n))) ∙ blended_walk a b n [] [] ∙ append-nil (zeros n) in
    ep ∙ ap (λ l. out ++ l) (sym here) ∙ is

pub fits_end : (a b : ℤ) (n : ℕ) (r s : List ℤ) (all : Bool) → r ≡ zeros n → s ≡ zeros n → blend_fits a b r s ≡ all → all ≡ true
fits_end a b n r s all er es is =
    sym is ∙ ap (λ l. blend_fits a b l s) (er ∙ sym (append-nil (zeros n))) ∙ ap (blend_fits a b (zeros n ++ [])) (es ∙ sym (append-nil (zeros n))) ∙ fits_walk a b n [] []
