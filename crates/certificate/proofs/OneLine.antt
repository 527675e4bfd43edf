-- A fact's text is one line.
use Rattle.std.proofs.Common.{◌≡◌, ℕ, suc, ◌+◌, ◌/◌, ◌%◌, ◌<◌, ◌==◌, nat_lt, Bool, true, false, not, ◌||◌, if◌then◌else◌, List, [], ◌∷◌, ◌++◌, length, refl, ap, sym, ◌∙◌, arith, append_assoc, eqb-true, ne_eqb}
use Rattle.std.proofs.lemmas.Int.{ints}
use Rattle.std.proofs.lemmas.Bool.{and_parts, false≢true}
use Rattle.std.proofs.lemmas.Bool.Decides.{nat_tests}
use Rattle.std.proofs.lemmas.Bool.{ltb-true}
use Rattle.std.proofs.lemmas.Fmt.{decimal_is_IsNumeral_wide}
use Rattle.std.proofs.lemmas.Str.{digit_value-digit_char}
use Rattle.std.specs.Prelude.{ℤ, pos, negsuc, codes, decimal, flat_map}
use Rattle.std.specs.Fmt.{signed_decimal}
use Rattle.std.specs.Char.{digit_value, digit_char}
use Rattle.std.specs.Str.Parse.{AllDigits}
use Rattle.std.specs.List.{AllByRecursion, list_all, prefix_len}
use Rattle.prolog_tokens.specs.Bytes.{is_small, is_word}
use Rattle.prolog_tokens.specs.Spelling.{is_plain_word, is_empty_list, hexadecimal, spelled_byte, spelling}
use Rattle.certificate.specs.declared.pred_text.PredText.{PredText}
use Rattle.certificate.specs.declared.cell.CertCell.{CertCell}
use Rattle.certificate.specs.declared.cell.CertCell.TheVariants as cell
use Rattle.certificate.specs.declared.how.CertHow.{CertHow}
use Rattle.certificate.specs.declared.how.CertHow.TheVariants as how
use Rattle.certificate.specs.declared.norm.CertNorm.{CertNorm}
use Rattle.certificate.specs.declared.norm.CertNorm.TheVariants as norm
use Rattle.certificate.specs.declared.fact.Fact.{Fact}
use Rattle.certificate.specs.declared.fact.Fact.TheVariants as fact
use Rattle.certificate.specs.Range.{IsPlace, IsIndex, IsEntry, IsPred, ArePlaces, AreEntries, InRange}
use Rattle.certificate.specs.Text.{indicator, list_text, numbers_text, positions_text, cell_text, cube_text, how_text, norm_text, fact_text}
use Rattle.certificate.specs.Lines.{lines}
use Rattle.certificate.specs.Parse.{HasParts}
use Rattle.certificate.proofs.RangeLemmas.{has_parts}

abbrev is_clean : List ℕ → Bool
is_clean bs = list_all (λ b. not (b == 10)) bs

-- no byte ends a line
abbrev IsClean : List ℕ → Type 0
IsClean bs = is_clean bs ≡ true

both : (xs ys : List ℕ) → IsClean xs → IsClean ys → IsClean (xs ++ ys)
both [] ys h k = k
both (x ∷ xs) ys h k = let (one, more) = and_parts (not (x == 10)) (is_clean xs) h in rw (one, both xs ys more k) refl

digits_clean : (ds : List ℕ) → AllDigits 10 ds → IsClean ds
digits_clean [] h = refl
digits_clean (d ∷ ds) h =
    rw (ne_eqb d 10 (λ e. let small : digit_value 10 < 10 = rw e at h.0 in let none : 36 < 10 = small in omega (arith, none)), digits_clean ds h.1) refl

place_clean : (n : ℕ) → IsPlace n → IsClean (decimal n)
place_clean n h = digits_clean (decimal n) (decimal_is_IsNumeral_wide n (omega (arith, h.1))).0.1

index_clean : (n : ℕ) → IsIndex n → IsClean (decimal n)
index_clean n h = digits_clean (decimal n) (decimal_is_IsNumeral_wide n (omega (arith, h.1))).0.1

entry_clean : (z : ℤ) → IsEntry z → IsClean (signed_decimal z)
entry_clean (pos n) h = digits_clean (decimal n) (decimal_is_IsNumeral_wide n (omega (arith, ints, h.1))).0.1
entry_clean (negsuc n) h = digits_clean (decimal (suc n)) (decimal_is_IsNumeral_wide (suc n) (omega (arith, ints, h.0))).0.1

others_clean : {A : Type 0} (shown : A → List ℕ) (F : A → Type 0) (xs : List A) → ((x : A) → F x → IsClean (shown x)) → AllByRecursion F xs → IsClean (flat_map (λ y. codes "," ++ shown y) xs)
others_clean shown F [] h k = refl
others_clean shown F (x ∷ xs) h k = both (shown x) (flat_map (λ y. codes "," ++ shown y) xs) (h x k.0) (others_clean shown F xs h k.1)

list_clean : {A : Type 0} (shown : A → List ℕ) (F : A → Type 0) (xs : List A) → ((x : A) → F x → IsClean (shown x)) → AllByRecursion F xs → IsClean (list_text shown xs)
list_clean shown F [] h k = refl
list_clean shown F (x ∷ xs) h k =
    both (shown x ++ flat_map (λ y. codes "," ++ shown y) xs) (codes "]") (both (shown x) _ (h x k.0) (others_clean shown F xs h k.1)) refl

entries_clean : (zs : List ℤ) → AreEntries zs → IsClean (numbers_text zs)
entries_clean zs h = list_clean signed_decimal IsEntry zs entry_clean h

rows_clean : (rows : List (List ℤ)) → AllByRecursion AreEntries rows → IsClean (list_text numbers_text rows)
rows_clean rows h = list_clean numbers_text AreEntries rows entries_clean h

places_clean : (ns : List ℕ) → ArePlaces ns → IsClean (positions_text ns)
places_clean ns h = list_clean decimal IsPlace ns place_clean h

places_lists_clean : (lists : List (List ℕ)) → AllByRecursion ArePlaces lists → IsClean (list_text positions_text lists)
places_lists_clean lists h = list_clean positions_text ArePlaces lists places_clean h

cell_clean : (c : CertCell) → Unit {0} → IsClean (cell_text c)
cell_clean cell.Zero h = refl
cell_clean cell.One h = refl
cell_clean cell.Any h = refl

each_cell : (cells : List CertCell) → AllByRecursion (λ (c : CertCell). Unit {0}) cells
each_cell [] = tt
each_cell (c ∷ cells) = (tt, each_cell cells)

cube_clean : (cells : List CertCell) → Unit {0} → IsClean (cube_text cells)
cube_clean cells h = list_clean cell_text (λ c. Unit {0}) cells cell_clean (each_cell cells)

how_clean : (h : CertHow) → Unit {0} → IsClean (how_text h)
how_clean how.None u = refl
how_clean how.First u = refl
how_clean how.Join u = refl
how_clean how.Keep u = refl
how_clean how.Same u = refl

norm_clean : (n : CertNorm) → IsClean (norm_text n)
norm_clean norm.Term = refl
norm_clean norm.List = refl

small_clean : (b : ℕ) → is_small b ≡ true → (b == 10) ≡ false
small_clean b h = grind (arith, nat_tests)

word_byte_clean : (b : ℕ) → is_word b ≡ true → (b == 10) ≡ false
word_byte_clean b h = grind (arith, nat_tests)

word_clean : (bs : List ℕ) → prefix_len is_word bs ≡ length bs → IsClean bs
word_clean [] h = refl
word_clean (b ∷ bs) h = go (is_word b) refl h (word_clean bs)
  where
    go : (c : Bool) → is_word b ≡ c → (if c then 1 + prefix_len is_word bs else 0) ≡ suc (length bs) → (prefix_len is_word bs ≡ length bs → IsClean bs) → IsClean (b ∷ bs)
    go true e f more = rw (word_byte_clean b e, more (omega (arith, f))) refl
    go false e f more = absurd (omega (arith, f))

digit_clean : (d : ℕ) → d < 16 → (digit_char d == 10) ≡ false
digit_clean d small = ne_eqb (digit_char d) 10 λ e. let value : digit_value 10 ≡ d = rw e at (digit_value-digit_char d (omega (arith, small))) in let large : 36 ≡ d = value in omega (arith, large, small)

code_clean : (b : ℕ) → b < 128 → IsClean (hexadecimal b)
code_clean b small = go (nat_lt b 16) refl
  where
    go : (c : Bool) → nat_lt b 16 ≡ c → IsClean (if c then digit_char b ∷ [] else digit_char (b / 16) ∷ digit_char (b % 16) ∷ [])
    go true e = let less = ltb-true b 16 e in rw (digit_clean b less) refl
    go false e = rw (digit_clean (b / 16) (omega (arith, small)), digit_clean (b % 16) (omega arith)) refl

byte_clean : (b : ℕ) → IsClean (spelled_byte b)
unfolding spelled_byte
byte_clean b = go (b == 39) (b == 92) (b == 10) (nat_lt b 32) (b == 127) refl refl refl refl refl
  where
    shown : Bool → Bool → Bool → Bool → Bool → List ℕ
    shown c d e f g = if c || d then 92 ∷ b ∷ [] else if e then 92 ∷ 110 ∷ [] else if f || g then 92 ∷ 120 ∷ hexadecimal b ++ 92 ∷ [] else b ∷ []

    go : (c d e f g : Bool) → (b == 39) ≡ c → (b == 92) ≡ d → (b == 10) ≡ e → nat_lt b 32 ≡ f → (b == 127) ≡ g → IsClean (shown c d e f g)
    go true d e f g q r n l m = rw (eqb-true b 39 q) refl
    go false true e f g q r n l m = rw (eqb-true b 92 r) refl
    go false false true f g q r n l m = refl
    go false false false true g q r n l m = both (hexadecimal b) (92 ∷ []) (code_clean b (let less = ltb-true b 32 l in omega (arith, less))) refl
    go false false false false true q r n l m = both (hexadecimal b) (92 ∷ []) (code_clean b (let same = eqb-true b 127 m in omega (arith, same))) refl
    go false false false false false q r n l m = rw n refl

bytes_clean : (bs : List ℕ) → IsClean (flat_map spelled_byte bs)
bytes_clean [] = refl
bytes_clean (b ∷ bs) = both (spelled_byte b) (flat_map spelled_byte bs) (byte_clean b) (bytes_clean bs)

plain_clean : (name : List ℕ) → is_plain_word name ≡ true → IsClean name
plain_clean [] h = absurd (false≢true h)
plain_clean (b ∷ bs) h =
    let (first, others) = and_parts (is_small b) (prefix_len is_word bs == length bs) h in
    rw (small_clean b first, word_clean bs (eqb-true (prefix_len is_word bs) (length bs) others)) refl

brackets_clean : (name : List ℕ) → is_empty_list name ≡ true → IsClean name
brackets_clean [] h = absurd (false≢true h)
brackets_clean (b ∷ []) h = absurd (false≢true h)
brackets_clean (b ∷ c ∷ []) h = let (first, second) = and_parts (b == 91) (c == 93) h in rw (eqb-true b 91 first, eqb-true c 93 second) refl
brackets_clean (b ∷ c ∷ d ∷ bs) h = absurd (false≢true h)

name_clean : (name : List ℕ) → IsClean (spelling name)
unfolding spelling
name_clean name = go (is_plain_word name) (is_empty_list name) refl refl
  where
    go : (c d : Bool) → is_plain_word name ≡ c → is_empty_list name ≡ d → IsClean (if c || d then name else 39 ∷ flat_map spelled_byte name ++ 39 ∷ [])
    go true d e f = plain_clean name e
    go false true e f = brackets_clean name f
    go false false e f = both (flat_map spelled_byte name) (39 ∷ []) (bytes_clean name) refl

pred_clean : (p : PredText) → IsPred p → IsClean (indicator p)
pred_clean p h =
    both (spelling p.name ++ codes "/") (decimal p.arity) (both (spelling p.name) (codes "/") (name_clean p.name) refl)
    (digits_clean (decimal p.arity) (decimal_is_IsNumeral_wide p.arity (omega (arith, h.1))).0.1)

-- a text that no byte ends but the last
abbrev IsLine : List ℕ → Type 0
IsLine t = (u : List ℕ) × (t ≡ u ++ 10 ∷ []) × IsClean u

closed : (x end : List ℕ) → IsClean x → IsClean end → IsLine (x ++ (end ++ 10 ∷ []))
closed x end h k = (x ++ end, sym (append_assoc x end (10 ∷ [])), both x end h k)

-- one more part, with a comma before it
next_clean : (before x : List ℕ) → IsClean before → IsClean x → IsClean (before ++ codes "," ++ x)
next_clean before x h k = both (before ++ codes ",") x (both before (codes ",") h refl) k

fact_line : (f : Fact) → HasParts f → IsLine (fact_text f)
fact_line (fact.Cti version) h =
    closed (codes "cti(" ++ signed_decimal version) (codes ").")
    (both (codes "cti(") (signed_decimal version) refl (entry_clean version h)) refl
fact_line (fact.Norm named) h =
    closed (codes "norm(" ++ norm_text named) (codes ").")
    (both (codes "norm(") (norm_text named) refl (norm_clean named)) refl
fact_line (fact.Terminates pred modes) h =
    closed (codes "terminates(" ++ indicator pred ++ codes "," ++ list_text positions_text modes) (codes ").")
    (next_clean (codes "terminates(" ++ indicator pred) (list_text positions_text modes) (both (codes "terminates(") (indicator pred) refl (pred_clean pred h.0)) (places_lists_clean modes h.1)) refl
fact_line (fact.Size pred index row) h =
    closed (codes "size(" ++ indicator pred ++ codes "," ++ decimal index ++ codes "," ++ numbers_text row) (codes ").")
    (next_clean (codes "size(" ++ indicator pred ++ codes "," ++ decimal index) (numbers_text row) (next_clean (codes "size(" ++ indicator pred) (decimal index) (both (codes "size(") (indicator pred) refl (pred_clean pred h.0)) (index_clean index h.1)) (entries_clean row h.2)) refl
fact_line (fact.By clause index scale multipliers) h =
    closed (codes "by(" ++ decimal clause ++ codes "," ++ decimal index ++ codes "," ++ signed_decimal scale ++ codes "," ++ numbers_text multipliers) (codes ").")
    (next_clean (codes "by(" ++ decimal clause ++ codes "," ++ decimal index ++ codes "," ++ signed_decimal scale) (numbers_text multipliers) (next_clean (codes "by(" ++ decimal clause ++ codes "," ++ decimal index) (signed_decimal scale) (next_clean (codes "by(" ++ decimal clause) (decimal index) (both (codes "by(") (decimal clause) refl (place_clean clause h.0)) (index_clean index h.1)) (entry_clean scale h.2)) (entries_clean multipliers h.3)) refl
fact_line (fact.Grounds pred index cube) h =
    closed (codes "grounds(" ++ indicator pred ++ codes "," ++ decimal index ++ codes "," ++ cube_text cube) (codes ").")
    (next_clean (codes "grounds(" ++ indicator pred ++ codes "," ++ decimal index) (cube_text cube) (next_clean (codes "grounds(" ++ indicator pred) (decimal index) (both (codes "grounds(") (indicator pred) refl (pred_clean pred h.0)) (index_clean index h.1)) (cube_clean cube tt)) refl
fact_line (fact.Measure pred mapping coeffs offset) h =
    closed (codes "measure(" ++ indicator pred ++ codes "," ++ decimal mapping ++ codes "," ++ numbers_text coeffs ++ codes "," ++ signed_decimal offset) (codes ").")
    (next_clean (codes "measure(" ++ indicator pred ++ codes "," ++ decimal mapping ++ codes "," ++ numbers_text coeffs) (signed_decimal offset) (next_clean (codes "measure(" ++ indicator pred ++ codes "," ++ decimal mapping) (numbers_text coeffs) (next_clean (codes "measure(" ++ indicator pred) (decimal mapping) (both (codes "measure(") (indicator pred) refl (pred_clean pred h.0)) (place_clean mapping h.1)) (entries_clean coeffs h.2)) (entry_clean offset h.3)) refl
fact_line (fact.Falls clause call mapping scale multipliers) h =
    closed (codes "falls(" ++ decimal clause ++ codes "," ++ decimal call ++ codes "," ++ decimal mapping ++ codes "," ++ signed_decimal scale ++ codes "," ++ numbers_text multipliers) (codes ").")
    (next_clean (codes "falls(" ++ decimal clause ++ codes "," ++ decimal call ++ codes "," ++ decimal mapping ++ codes "," ++ signed_decimal scale) (numbers_text multipliers) (next_clean (codes "falls(" ++ decimal clause ++ codes "," ++ decimal call ++ codes "," ++ decimal mapping) (signed_decimal scale) (next_clean (codes "falls(" ++ decimal clause ++ codes "," ++ decimal call) (decimal mapping) (next_clean (codes "falls(" ++ decimal clause) (decimal call) (both (codes "falls(") (decimal clause) refl (place_clean clause h.0)) (place_clean call h.1)) (place_clean mapping h.2)) (entry_clean scale h.3)) (entries_clean multipliers h.4)) refl
fact_line (fact.Pre pred mapping index cube) h =
    closed (codes "pre(" ++ indicator pred ++ codes "," ++ decimal mapping ++ codes "," ++ decimal index ++ codes "," ++ cube_text cube) (codes ").")
    (next_clean (codes "pre(" ++ indicator pred ++ codes "," ++ decimal mapping ++ codes "," ++ decimal index) (cube_text cube) (next_clean (codes "pre(" ++ indicator pred ++ codes "," ++ decimal mapping) (decimal index) (next_clean (codes "pre(" ++ indicator pred) (decimal mapping) (both (codes "pre(") (indicator pred) refl (pred_clean pred h.0)) (place_clean mapping h.1)) (index_clean index h.2)) (cube_clean cube tt)) refl
fact_line (fact.Refuted pred points) h =
    closed (codes "none(" ++ indicator pred ++ codes "," ++ decimal points) (codes ").")
    (next_clean (codes "none(" ++ indicator pred) (decimal points) (both (codes "none(") (indicator pred) refl (pred_clean pred h.0)) (index_clean points h.1)) refl
fact_line (fact.Point clause call t w) h =
    closed (codes "point(" ++ decimal clause ++ codes "," ++ decimal call ++ codes "," ++ signed_decimal t ++ codes "," ++ numbers_text w) (codes ").")
    (next_clean (codes "point(" ++ decimal clause ++ codes "," ++ decimal call ++ codes "," ++ signed_decimal t) (numbers_text w) (next_clean (codes "point(" ++ decimal clause ++ codes "," ++ decimal call) (signed_decimal t) (next_clean (codes "point(" ++ decimal clause) (decimal call) (both (codes "point(") (decimal clause) refl (place_clean clause h.0)) (place_clean call h.1)) (entry_clean t h.2)) (entries_clean w h.3)) refl
fact_line (fact.At clause call t w) h =
    closed (codes "at(" ++ decimal clause ++ codes "," ++ decimal call ++ codes "," ++ signed_decimal t ++ codes "," ++ numbers_text w) (codes ").")
    (next_clean (codes "at(" ++ decimal clause ++ codes "," ++ decimal call ++ codes "," ++ signed_decimal t) (numbers_text w) (next_clean (codes "at(" ++ decimal clause ++ codes "," ++ decimal call) (signed_decimal t) (next_clean (codes "at(" ++ decimal clause) (decimal call) (both (codes "at(") (decimal clause) refl (place_clean clause h.0)) (place_clean call h.1)) (entry_clean t h.2)) (entries_clean w h.3)) refl
fact_line (fact.Image step clause pred rows) h =
    closed (codes "image(" ++ decimal step ++ codes "," ++ decimal clause ++ codes "," ++ indicator pred ++ codes "," ++ list_text numbers_text rows) (codes ").")
    (next_clean (codes "image(" ++ decimal step ++ codes "," ++ decimal clause ++ codes "," ++ indicator pred) (list_text numbers_text rows) (next_clean (codes "image(" ++ decimal step ++ codes "," ++ decimal clause) (indicator pred) (next_clean (codes "image(" ++ decimal step) (decimal clause) (both (codes "image(") (decimal step) refl (index_clean step h.0)) (place_clean clause h.1)) (pred_clean pred h.2)) (rows_clean rows h.3)) refl
fact_line (fact.Step step pred how rows) h =
    closed (codes "step(" ++ decimal step ++ codes "," ++ indicator pred ++ codes "," ++ how_text how ++ codes "," ++ list_text numbers_text rows) (codes ").")
    (next_clean (codes "step(" ++ decimal step ++ codes "," ++ indicator pred ++ codes "," ++ how_text how) (list_text numbers_text rows) (next_clean (codes "step(" ++ decimal step ++ codes "," ++ indicator pred) (how_text how) (next_clean (codes "step(" ++ decimal step) (indicator pred) (both (codes "step(") (decimal step) refl (index_clean step h.0)) (pred_clean pred h.1)) (how_clean how tt)) (rows_clean rows h.2)) refl
fact_line (fact.Blown pred support) h =
    closed (codes "blown(" ++ indicator pred ++ codes "," ++ list_text positions_text support) (codes ").")
    (next_clean (codes "blown(" ++ indicator pred) (list_text positions_text support) (both (codes "blown(") (indicator pred) refl (pred_clean pred h.0)) (places_lists_clean support h.1)) refl
fact_line (fact.Large pred positions) h =
    closed (codes "large(" ++ indicator pred ++ codes "," ++ decimal positions) (codes ").")
    (next_clean (codes "large(" ++ indicator pred) (decimal positions) (both (codes "large(") (indicator pred) refl (pred_clean pred h.0)) (index_clean positions h.1)) refl
fact_line (fact.WeakImage step) h = closed (codes "weak(image(" ++ decimal step) (codes ")).") (both (codes "weak(image(") (decimal step) refl (index_clean step h)) refl
fact_line (fact.WeakStep step) h = closed (codes "weak(step(" ++ decimal step) (codes ")).") (both (codes "weak(step(") (decimal step) refl (index_clean step h)) refl

-- a line and what follows it
line_first : (u s : List ℕ) → IsClean u → lines (u ++ 10 ∷ s) ≡ (u ++ 10 ∷ []) ∷ lines s
line_first [] s h = refl
line_first (b ∷ u) s h =
    let (other, more) = and_parts (not (b == 10)) (is_clean u) h in
    go (b == 10) refl other (line_first u s more)
  where
    go : (c : Bool) → (b == 10) ≡ c → not c ≡ true → lines (u ++ 10 ∷ s) ≡ (u ++ 10 ∷ []) ∷ lines s → lines (b ∷ u ++ 10 ∷ s) ≡ (b ∷ u ++ 10 ∷ []) ∷ lines s
    go true e f rest = absurd (false≢true f)
    go false e f rest = rw (e, rest) refl

-- the text of a fact is the first line of a text that begins with it
pub one_line : (f : Fact) (s : List ℕ) → InRange f → lines (fact_text f ++ s) ≡ fact_text f ∷ lines s
one_line f s h =
    let (u, e, clean) = fact_line f (has_parts f h) in
    rw e (ap lines (append_assoc u (10 ∷ []) s) ∙ line_first u s clean)
