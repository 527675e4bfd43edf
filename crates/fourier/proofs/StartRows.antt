-- The rows that are solved, row by row.
use Rattle.std.proofs.Common.{◌≡◌, ℕ, zero, suc, ℤ, pos, negsuc, List, [], ◌∷◌, ◌++◌, ◌+◌, ◌-◌, ◌<◌, take, length, get_or, refl, sym, ap, ◌∙◌, arith, append_assoc}
use Rattle.std.proofs.lemmas.List.{get_or-map, length-map}
use Rattle.exact128.specs.Sums.{entry}
use Rattle.linear_rows.specs.Plain.{plain_row, plain_rows}
use Rattle.linear_rows.specs.Solving.{zeros, units, floors, coefficients, carried, start_rows}
use Rattle.linear_rows.specs.declared.row.Row.{Row}
use Rattle.sparse_rows.proofs.SparseLemmas.{zeros-append}

-- one more element after what a loop has appended
pub one_more : {A : Type 0} (old before after cur next : List A) (x : A) → cur ≡ old ++ before → next ≡ cur ++ x ∷ [] → after ≡ before ++ x ∷ [] → next ≡ old ++ after
one_more old before after cur next x ec en ea = en ∙ ap (λ l. l ++ x ∷ []) ec ∙ append_assoc old before (x ∷ []) ∙ ap (λ l. old ++ l) (sym ea)

-- a unit row is zeros, 1, and zeros
pub units_parts : (long place : ℕ) → place < long → units long place ≡ zeros place ++ pos 1 ∷ zeros (long - place - 1)
units_parts zero place h = absurd (omega arith)
units_parts (suc n) zero h = let e : suc n - 0 - 1 ≡ n = omega arith in rw e refl
units_parts (suc n) (suc p) h =
    let e : suc n - suc p - 1 ≡ n - p - 1 = omega arith in
    ap (λ l. pos 0 ∷ l) (units_parts n p (omega arith) ∙ ap (λ k. zeros p ++ pos 1 ∷ zeros k) (sym e))

pub units_pushed : (long place : ℕ) (old first second third : List ℤ) → place < long → first ≡ old ++ zeros place → second ≡ first ++ pos 1 ∷ [] → third ≡ second ++ zeros (long - place - 1) → third ≡ old ++ units long place
units_pushed long place old first second third h ea eb ec =
    let rest = zeros (long - place - 1) in
    ec ∙ ap (λ l. l ++ rest) (eb ∙ ap (λ l. l ++ pos 1 ∷ []) ea) ∙ append_assoc (old ++ zeros place) (pos 1 ∷ []) rest ∙ append_assoc old (zeros place) (pos 1 ∷ rest) ∙ ap (λ l. old ++ l) (sym (units_parts long place h))

-- one more variable
floors-more : (n i long : ℕ) → floors (suc n) i long ≡ floors n i long ++ (pos 0 ∷ units long (i + n)) ∷ []
floors-more zero i long = let e : i + 0 ≡ i = omega arith in rw e refl
floors-more (suc n) i long =
    let e : suc i + n ≡ i + suc n = omega arith in
    ap (λ l. (pos 0 ∷ units long i) ∷ l) (floors-more n (suc i) long ∙ ap (λ k. floors n (suc i) long ++ (pos 0 ∷ units long k) ∷ []) e)

pub floors_on : (n long : ℕ) → floors (n + 1) 0 long ≡ floors n 0 long ++ (pos 0 ∷ units long n) ∷ []
floors_on n long =
    let one : n + 1 ≡ suc n = omega arith in
    let z : 0 + n ≡ n = omega arith in
    ap (λ k. floors k 0 long) one ∙ floors-more n 0 long ∙ ap (λ k. floors n 0 long ++ (pos 0 ∷ units long k) ∷ []) z

-- one more given row
carried-more : (many p i : ℕ) (given : List (List ℤ)) (r : List ℤ) → i < length given → r ≡ get_or given i [] →
    carried many p (take (i + 1) given) ≡ carried many p (take i given) ++ (pos 0 ∷ (coefficients r ++ entry r 0 ∷ units many (p + i))) ∷ []
carried-more many p i [] r h e = absurd (omega arith)
carried-more many p zero (g ∷ gs) r h e = let z : p + 0 ≡ p = omega arith in rw (z, e) refl
carried-more many p (suc i) (g ∷ gs) r h e =
    let one : suc i + 1 ≡ suc (i + 1) = omega arith in
    let z : suc p + i ≡ p + suc i = omega arith in
    let more = carried-more many (suc p) i gs r (omega arith) e in
    ap (λ k. carried many p (take k (g ∷ gs))) one
    ∙ ap (λ l. (pos 0 ∷ (coefficients g ++ entry g 0 ∷ units many p)) ∷ l) (more ∙ ap (λ k. carried many (suc p) (take i gs) ++ (pos 0 ∷ (coefficients r ++ entry r 0 ∷ units many k)) ∷ []) z)

pub given_on : (many i : ℕ) (rows : List Row) (r : Row) (line : List ℤ) → i < length rows → r ≡ get_or rows i r → line ≡ pos 0 ∷ (r.coeffs ++ r.constant ∷ units many i) →
    carried many 0 (take (i + 1) (plain_rows rows)) ≡ carried many 0 (take i (plain_rows rows)) ++ line ∷ []
given_on many i rows r line h e el =
    let lt : i < length (plain_rows rows) = omega (arith, length-map rows plain_row) in
    let at : plain_row r ≡ get_or (plain_rows rows) i [] = ap plain_row e ∙ sym (get_or-map plain_row rows i r [] h) in
    let z : 0 + i ≡ i = omega arith in
    carried-more many 0 i (plain_rows rows) (plain_row r) lt at ∙ rw (z, el) refl

-- a unit row and numbers 0 after it
pub units-append : (a b p : ℕ) → p < a → units (a + b) p ≡ units a p ++ zeros b
units-append zero b p h = absurd (omega arith)
units-append (suc a) b zero h =
    let e : suc a + b ≡ suc (a + b) = omega arith in
    ap (λ k. units k 0) e ∙ ap (λ l. pos 1 ∷ l) (zeros-append a b)
units-append (suc a) b (suc p) h =
    let e : suc a + b ≡ suc (a + b) = omega arith in
    ap (λ k. units k (suc p)) e ∙ ap (λ l. pos 0 ∷ l) (units-append a b p (omega arith))

pub unit_line_is : (b : ℤ) (count many place : ℕ) (first second third : List ℤ) → place < count → first ≡ [] ++ b ∷ [] → second ≡ first ++ units count place → third ≡ second ++ zeros many → third ≡ b ∷ units (count + many) place
unit_line_is b count many place first second third h ea eb ec =
    ec ∙ ap (λ l. l ++ zeros many) (eb ∙ ap (λ l. l ++ units count place) ea) ∙ ap (λ l. b ∷ l) (sym (units-append count many place h))

pub given_line_is : (cs : List ℤ) (b : ℤ) (us first second third : List ℤ) → first ≡ pos 0 ∷ cs → second ≡ first ++ b ∷ [] → third ≡ second ++ us → third ≡ pos 0 ∷ (cs ++ b ∷ us)
given_line_is cs b us first second third ea eb ec =
    ec ∙ ap (λ l. l ++ us) (eb ∙ ap (λ l. l ++ b ∷ []) ea) ∙ ap (λ l. pos 0 ∷ l) (append_assoc cs (b ∷ []) us)

-- all parts of the rows that are solved
pub start_is : (n : ℕ) (given floors_first with_t all : List (List ℤ)) (t : List ℤ) → floors_first ≡ [] ++ floors n 0 (n + 1 + length given) → with_t ≡ floors_first ++ t ∷ [] → t ≡ negsuc 0 ∷ units (n + 1 + length given) n →
    all ≡ with_t ++ carried (length given) 0 given → all ≡ start_rows n given
unfolding start_rows
start_is n given floors_first with_t all t ef ew et ea =
    ea ∙ ap (λ l. l ++ carried (length given) 0 given) (ew ∙ rw (ef, et) refl)
    ∙ append_assoc (floors n 0 (n + 1 + length given)) ((negsuc 0 ∷ units (n + 1 + length given) n) ∷ []) (carried (length given) 0 given)
