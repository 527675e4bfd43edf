-- Private.
-- Parts of facts have no line ends, and are read back after each other. Nothing here has to be believed.
use Rattle.std.proofs.Common.{◌≡◌, ◌≢◌, ℕ, suc, ◌==◌, ◌<◌, if◌then◌else◌, Bool, true, false, not, List, [], ◌∷◌, ◌++◌, length, Some, None, refl, ap, sym, ◌∙◌, ◌⊎◌, inl, inr, arith, lit≤, append_assoc, append-nil, eqb-true, ne_eqb}
use Rattle.std.proofs.lemmas.Int.{ints}
use Rattle.std.proofs.lemmas.Bool.{and_parts, false≢true}
use Rattle.std.proofs.lemmas.Fmt.{decimal_is_IsNumeral_wide}
use Rattle.std.specs.Prelude.{ℤ, pos, negsuc, codes, decimal, flat_map}
use Rattle.std.specs.Fmt.{signed_decimal}
use Rattle.std.specs.Char.{digit_value}
use Rattle.std.specs.Str.Parse.{AllDigits}
use Rattle.std.specs.List.{AllByRecursion, list_all}
use Rattle.certificate.specs.declared.pred_text.PredText.{PredText}
use Rattle.certificate.specs.declared.cell.CertCell.{CertCell}
use Rattle.certificate.specs.declared.cell.CertCell.TheVariants as cell
use Rattle.certificate.specs.declared.how.CertHow.{CertHow}
use Rattle.certificate.specs.declared.how.CertHow.TheVariants as how
use Rattle.certificate.specs.declared.fact.Fact.TheVariants as cti
use Rattle.certificate.specs.Range.{IsPlace, IsIndex, IsEntry, IsPred, ArePlaces, AreEntries}
use Rattle.certificate.specs.Text.{indicator, list_text, numbers_text, positions_text, cell_text, cube_text, how_text, fact_text}
use Rattle.certificate.specs.Lines.{in_front, lines}
use Rattle.certificate.specs.Parse.{Read, after, read_place, read_index, read_integer, read_cell, read_how, read_pred, read_list, read_last, read_mark, read_next}
use Rattle.certificate.specs.Shortening.{place_shortens, integer_shortens, cell_shortens, list_shortens}
use Rattle.certificate.proofs.BackLemmas.{IsReadBack, place_back, index_back, entry_back, cell_back, how_back, list_back, place_not_closed, entry_not_closed, cell_not_closed, list_not_closed}
use Rattle.certificate.proofs.NameBackLemmas.{pred_back}
use Rattle.certificate.proofs.OneLine.{one_line}
use Rattle.prove_certificate.specs.KindLaws.{kind_shortens}
use Rattle.prove_certificate.specs.Parse.{read_kind}
use Rattle.prove_certificate.specs.Text.{kind_text, kinds_text}
use Rattle.prove_certificate.specs.declared.kind.CertKind.{CertKind}
use Rattle.prove_certificate.specs.declared.kind.CertKind.TheVariants as kind

abbrev is_clean : List ℕ → Bool
is_clean bs = list_all (λ b. not (b == 10)) bs

-- no byte ends a line
abbrev pub IsClean : List ℕ → Type 0
IsClean bs = is_clean bs ≡ true

both : (xs ys : List ℕ) → IsClean xs → IsClean ys → IsClean (xs ++ ys)
both [] ys h k = k
both (x ∷ xs) ys h k = let (one, more) = and_parts (not (x == 10)) (is_clean xs) h in rw (one, both xs ys more k) refl

digits_clean : (ds : List ℕ) → AllDigits 10 ds → IsClean ds
digits_clean [] h = refl
digits_clean (d ∷ ds) h =
    rw (ne_eqb d 10 (λ e. let small : digit_value 10 < 10 = rw e at h.0 in let none : 36 < 10 = small in omega (arith, none)), digits_clean ds h.1) refl

pub place_clean : (n : ℕ) → IsPlace n → IsClean (decimal n)
place_clean n h = digits_clean (decimal n) (decimal_is_IsNumeral_wide n (omega (arith, h.1))).0.1

pub index_clean : (n : ℕ) → IsIndex n → IsClean (decimal n)
index_clean n h = digits_clean (decimal n) (decimal_is_IsNumeral_wide n (omega (arith, h.1))).0.1

pub entry_clean : (z : ℤ) → IsEntry z → IsClean (signed_decimal z)
entry_clean (pos n) h = digits_clean (decimal n) (decimal_is_IsNumeral_wide n (omega (arith, ints, h.1))).0.1
entry_clean (negsuc n) h = digits_clean (decimal (suc n)) (decimal_is_IsNumeral_wide (suc n) (omega (arith, ints, h.0))).0.1

others_clean : {A : Type 0} (shown : A → List ℕ) (F : A → Type 0) (xs : List A) → ((x : A) → F x → IsClean (shown x)) → AllByRecursion F xs
    → IsClean (flat_map (λ y. codes "," ++ shown y) xs)
others_clean shown F [] h k = refl
others_clean shown F (x ∷ xs) h k = both (shown x) (flat_map (λ y. codes "," ++ shown y) xs) (h x k.0) (others_clean shown F xs h k.1)

list_clean : {A : Type 0} (shown : A → List ℕ) (F : A → Type 0) (xs : List A) → ((x : A) → F x → IsClean (shown x)) → AllByRecursion F xs → IsClean (list_text shown xs)
list_clean shown F [] h k = refl
list_clean shown F (x ∷ xs) h k =
    both (shown x ++ flat_map (λ y. codes "," ++ shown y) xs) (codes "]") (both (shown x) _ (h x k.0) (others_clean shown F xs h k.1)) refl

pub entries_clean : (zs : List ℤ) → AreEntries zs → IsClean (numbers_text zs)
entries_clean zs h = list_clean signed_decimal IsEntry zs entry_clean h

pub rows_clean : (rows : List (List ℤ)) → AllByRecursion AreEntries rows → IsClean (list_text numbers_text rows)
rows_clean rows h = list_clean numbers_text AreEntries rows entries_clean h

places_clean : (ns : List ℕ) → ArePlaces ns → IsClean (positions_text ns)
places_clean ns h = list_clean decimal IsPlace ns place_clean h

pub places_lists_clean : (lists : List (List ℕ)) → AllByRecursion ArePlaces lists → IsClean (list_text positions_text lists)
places_lists_clean lists h = list_clean positions_text ArePlaces lists places_clean h

-- nothing is asked of any item
each : {A : Type 0} (xs : List A) → AllByRecursion (λ (x : A). Unit {0}) xs
each [] = tt
each (x ∷ xs) = (tt, each xs)

cell_clean : (c : CertCell) → Unit {0} → IsClean (cell_text c)
cell_clean cell.Zero h = refl
cell_clean cell.One h = refl
cell_clean cell.Any h = refl

pub cube_clean : (cells : List CertCell) → IsClean (cube_text cells)
cube_clean cells = list_clean cell_text (λ c. Unit {0}) cells cell_clean (each cells)

kind_clean : (k : CertKind) → Unit {0} → IsClean (kind_text k)
kind_clean kind.Size h = refl
kind_clean kind.Number h = refl

pub kinds_clean : (kinds : List CertKind) → IsClean (kinds_text kinds)
kinds_clean kinds = list_clean kind_text (λ k. Unit {0}) kinds kind_clean (each kinds)

pub how_clean : (h : CertHow) → IsClean (how_text h)
how_clean how.None = refl
how_clean how.First = refl
how_clean how.Join = refl
how_clean how.Keep = refl
how_clean how.Same = refl

-- the byte in front of the first line of a text is in that line
same_line : (b : ℕ) (ls : List (List ℕ)) (t : List ℕ) → t ≢ [] → in_front b ls ≡ (b ∷ t) ∷ [] → ls ≡ t ∷ []
same_line b [] t some e = let short : b ∷ [] ≡ b ∷ t = cc in let none : [] ≡ t = cc in absurd (some (sym none))
same_line b (l ∷ ls) t some e =
    let first : b ∷ l ≡ b ∷ t = cc in
    let same : l ≡ t = cc in
    let none : ls ≡ [] = cc in
    rw (same, none) refl

some_left : (u v : List ℕ) → v ≢ [] → u ++ v ≢ []
some_left [] v some e = some e
some_left (b ∷ u) v some e = cc

-- where a text is one line, no byte of it ends a line before its last part
front_clean : (u v : List ℕ) → v ≢ [] → lines (u ++ v) ≡ (u ++ v) ∷ [] → IsClean u
front_clean [] v some e = refl
front_clean (b ∷ u) v some e = go (front_clean u v some) (b == 10) refl e
  where
    go : (lines (u ++ v) ≡ (u ++ v) ∷ [] → IsClean u) → (c : Bool) → (b == 10) ≡ c → (if c then (b ∷ []) ∷ lines (u ++ v) else in_front b (lines (u ++ v))) ≡ (b ∷ u ++ v) ∷ [] → IsClean (b ∷ u)
    go rest true q f = let none : [] ≡ u ++ v = cc in absurd (some_left u v some (sym none))
    go rest false q f = rw (q, rest (same_line b (lines (u ++ v)) (u ++ v) (some_left u v some) f)) refl

-- the line of a predicate and a number is one, so its indicator has no line end
pub pred_clean : (p : PredText) → IsPred p → IsClean (indicator p)
pred_clean p h =
    let rest = codes "," ++ decimal 1 ++ codes ").\n" in
    let front = codes "large(" ++ indicator p in
    let some : rest ≢ [] = λ e. cc in
    let whole : fact_text (cti.Large p 1) ++ [] ≡ front ++ rest = simp (append_assoc, append-nil) in
    let line : lines (fact_text (cti.Large p 1) ++ []) ≡ fact_text (cti.Large p 1) ∷ [] = one_line (cti.Large p 1) [] (h, (lit≤ tt, lit≤ tt)) in
    let same : fact_text (cti.Large p 1) ≡ front ++ rest = sym (append-nil (fact_text (cti.Large p 1))) ∙ whole in
    front_clean front rest some (ap lines (sym whole) ∙ line ∙ ap (λ t. t ∷ []) same)

-- a text that is one line, whatever follows it
abbrev pub IsLine : List ℕ → Type 0
IsLine t = (s : List ℕ) → lines (t ++ s) ≡ t ∷ lines s

-- a line and what follows it
line_first : (u s : List ℕ) → IsClean u → lines (u ++ 10 ∷ s) ≡ (u ++ 10 ∷ []) ∷ lines s
line_first [] s h = refl
line_first (b ∷ u) s h =
    let (other, more) = and_parts (not (b == 10)) (is_clean u) h in
    go (b == 10) refl other (line_first u s more)
  where
    go : (c : Bool) → (b == 10) ≡ c → not c ≡ true → lines (u ++ 10 ∷ s) ≡ (u ++ 10 ∷ []) ∷ lines s → lines (b ∷ u ++ 10 ∷ s) ≡ (b ∷ u ++ 10 ∷ []) ∷ lines s
    go true e f rest = absurd (false≢true f)
    go false e f rest = rw (e, rest) refl

closed : (x end : List ℕ) → IsClean x → IsClean end → IsLine (x ++ (end ++ 10 ∷ []))
closed x end h k s =
    let same : x ++ (end ++ 10 ∷ []) ≡ x ++ end ++ 10 ∷ [] = sym (append_assoc x end (10 ∷ [])) in
    rw same (ap lines (append_assoc (x ++ end) (10 ∷ []) s) ∙ line_first (x ++ end) s (both x end h k))

-- one more part, with a comma before it
next_clean : (before x : List ℕ) → IsClean before → IsClean x → IsClean (before ++ codes "," ++ x)
next_clean before x h k = both (before ++ codes ",") x (both before (codes ",") h refl) k

pub line_of_one : (word a : List ℕ) → IsClean word → IsClean a
    → IsLine (word ++ a ++ codes ").\n")
line_of_one word a w ha = closed (word ++ a) (codes ").") (both word a w ha) refl

pub line_of_two : (word a b : List ℕ) → IsClean word → IsClean a → IsClean b
    → IsLine (word ++ a ++ codes "," ++ b ++ codes ").\n")
line_of_two word a b w ha hb = closed (word ++ a ++ codes "," ++ b) (codes ").") (next_clean (word ++ a) b (both word a w ha) hb) refl

pub line_of_three : (word a b c : List ℕ) → IsClean word → IsClean a → IsClean b → IsClean c
    → IsLine (word ++ a ++ codes "," ++ b ++ codes "," ++ c ++ codes ").\n")
line_of_three word a b c w ha hb hc = closed (word ++ a ++ codes "," ++ b ++ codes "," ++ c) (codes ").") (next_clean (word ++ a ++ codes "," ++ b) c (next_clean (word ++ a) b (both word a w ha) hb) hc) refl

pub line_of_four : (word a b c d : List ℕ) → IsClean word → IsClean a → IsClean b → IsClean c → IsClean d
    → IsLine (word ++ a ++ codes "," ++ b ++ codes "," ++ c ++ codes "," ++ d ++ codes ").\n")
line_of_four word a b c d w ha hb hc hd = closed (word ++ a ++ codes "," ++ b ++ codes "," ++ c ++ codes "," ++ d) (codes ").") (next_clean (word ++ a ++ codes "," ++ b ++ codes "," ++ c) d (next_clean (word ++ a ++ codes "," ++ b) c (next_clean (word ++ a) b (both word a w ha) hb) hc) hd) refl

pub line_of_five : (word a b c d e : List ℕ) → IsClean word → IsClean a → IsClean b → IsClean c → IsClean d → IsClean e
    → IsLine (word ++ a ++ codes "," ++ b ++ codes "," ++ c ++ codes "," ++ d ++ codes "," ++ e ++ codes ").\n")
line_of_five word a b c d e w ha hb hc hd he = closed (word ++ a ++ codes "," ++ b ++ codes "," ++ c ++ codes "," ++ d ++ codes "," ++ e) (codes ").") (next_clean (word ++ a ++ codes "," ++ b ++ codes "," ++ c ++ codes "," ++ d) e (next_clean (word ++ a ++ codes "," ++ b ++ codes "," ++ c) d (next_clean (word ++ a ++ codes "," ++ b) c (next_clean (word ++ a) b (both word a w ha) hb) hc) hd) he) refl

pub line_of_six : (word a b c d e f : List ℕ) → IsClean word → IsClean a → IsClean b → IsClean c → IsClean d → IsClean e → IsClean f
    → IsLine (word ++ a ++ codes "," ++ b ++ codes "," ++ c ++ codes "," ++ d ++ codes "," ++ e ++ codes "," ++ f ++ codes ").\n")
line_of_six word a b c d e f w ha hb hc hd he hf = closed (word ++ a ++ codes "," ++ b ++ codes "," ++ c ++ codes "," ++ d ++ codes "," ++ e ++ codes "," ++ f) (codes ").") (next_clean (word ++ a ++ codes "," ++ b ++ codes "," ++ c ++ codes "," ++ d ++ codes "," ++ e) f (next_clean (word ++ a ++ codes "," ++ b ++ codes "," ++ c ++ codes "," ++ d) e (next_clean (word ++ a ++ codes "," ++ b ++ codes "," ++ c) d (next_clean (word ++ a ++ codes "," ++ b) c (next_clean (word ++ a) b (both word a w ha) hb) hc) hd) he) hf) refl

pub line_of_mark : (word a : List ℕ) → IsClean word → IsClean a → IsLine (word ++ a ++ codes ")).\n")
line_of_mark word a w ha = closed (word ++ a) (codes ")).") (both word a w ha) refl

-- the text of a fact and what follows it, from the front
pub one_part : (word a s : List ℕ) → word ++ a ++ codes ").\n" ++ s
    ≡ word ++ (a ++ 41 ∷ 46 ∷ 10 ∷ s)
one_part word a s = simp append_assoc

pub two_parts : (word a b s : List ℕ) → word ++ a ++ codes "," ++ b ++ codes ").\n" ++ s
    ≡ word ++ (a ++ 44 ∷ (b ++ 41 ∷ 46 ∷ 10 ∷ s))
two_parts word a b s = simp append_assoc

pub three_parts : (word a b c s : List ℕ) → word ++ a ++ codes "," ++ b ++ codes "," ++ c ++ codes ").\n" ++ s
    ≡ word ++ (a ++ 44 ∷ (b ++ 44 ∷ (c ++ 41 ∷ 46 ∷ 10 ∷ s)))
three_parts word a b c s = simp append_assoc

pub four_parts : (word a b c d s : List ℕ) → word ++ a ++ codes "," ++ b ++ codes "," ++ c ++ codes "," ++ d ++ codes ").\n" ++ s
    ≡ word ++ (a ++ 44 ∷ (b ++ 44 ∷ (c ++ 44 ∷ (d ++ 41 ∷ 46 ∷ 10 ∷ s))))
four_parts word a b c d s = simp append_assoc

pub five_parts : (word a b c d e s : List ℕ) → word ++ a ++ codes "," ++ b ++ codes "," ++ c ++ codes "," ++ d ++ codes "," ++ e ++ codes ").\n" ++ s
    ≡ word ++ (a ++ 44 ∷ (b ++ 44 ∷ (c ++ 44 ∷ (d ++ 44 ∷ (e ++ 41 ∷ 46 ∷ 10 ∷ s)))))
five_parts word a b c d e s = simp append_assoc

pub six_parts : (word a b c d e f s : List ℕ) → word ++ a ++ codes "," ++ b ++ codes "," ++ c ++ codes "," ++ d ++ codes "," ++ e ++ codes "," ++ f ++ codes ").\n" ++ s
    ≡ word ++ (a ++ 44 ∷ (b ++ 44 ∷ (c ++ 44 ∷ (d ++ 44 ∷ (e ++ 44 ∷ (f ++ 41 ∷ 46 ∷ 10 ∷ s))))))
six_parts word a b c d e f s = simp append_assoc

pub mark_part : (word a s : List ℕ) → word ++ a ++ codes ")).\n" ++ s ≡ word ++ (a ++ 41 ∷ 41 ∷ 46 ∷ 10 ∷ s)
mark_part word a s = simp append_assoc

kind_back : IsReadBack kind_text read_kind (λ k. Unit {0})
unfolding read_kind
kind_back kind.Size b s h mark = refl
kind_back kind.Number b s h mark = refl

kind_not_closed : (k : CertKind) (s : List ℕ) → Unit {0} → after (codes "]") (kind_text k ++ s) ≡ None
kind_not_closed kind.Size s h = refl
kind_not_closed kind.Number s h = refl

entries_back : IsReadBack numbers_text (read_list read_integer) AreEntries
entries_back = list_back signed_decimal read_integer IsEntry integer_shortens entry_back entry_not_closed

rows_back : IsReadBack (list_text numbers_text) (read_list (read_list read_integer)) (AllByRecursion AreEntries)
rows_back = list_back numbers_text (read_list read_integer) AreEntries (list_shortens read_integer integer_shortens) entries_back (λ zs s h. list_not_closed signed_decimal zs s)

places_back : IsReadBack positions_text (read_list read_place) ArePlaces
places_back = list_back decimal read_place IsPlace place_shortens place_back place_not_closed

places_lists_back : IsReadBack (list_text positions_text) (read_list (read_list read_place)) (AllByRecursion ArePlaces)
places_lists_back = list_back positions_text (read_list read_place) ArePlaces (list_shortens read_place place_shortens) places_back (λ ns s h. list_not_closed decimal ns s)

next_back : {A : Type 0} (shown : A → List ℕ) (reads : List ℕ → Read A) (fits : A → Type 0) → IsReadBack shown reads fits → (x : A) (s : List ℕ) → fits x
    → read_next reads (shown x ++ 44 ∷ s) ≡ Some (x, s)
next_back shown reads fits back x s h = rw (back x 44 s h (inl refl)) refl

last_back : {A : Type 0} (shown : A → List ℕ) (reads : List ℕ → Read A) (fits : A → Type 0) → IsReadBack shown reads fits → (x : A) (s : List ℕ) → fits x
    → read_last reads (shown x ++ 41 ∷ 46 ∷ 10 ∷ s) ≡ Some (x, s)
last_back shown reads fits back x s h = rw (back x 41 (46 ∷ 10 ∷ s) h (inr (inl refl))) refl

-- a part with a comma after it
pub next_place : (n : ℕ) (s : List ℕ) → IsPlace n → read_next read_place (decimal n ++ 44 ∷ s) ≡ Some (n, s)
next_place = next_back decimal read_place IsPlace place_back

pub next_index : (n : ℕ) (s : List ℕ) → IsIndex n → read_next read_index (decimal n ++ 44 ∷ s) ≡ Some (n, s)
next_index = next_back decimal read_index IsIndex index_back

pub next_entry : (z : ℤ) (s : List ℕ) → IsEntry z → read_next read_integer (signed_decimal z ++ 44 ∷ s) ≡ Some (z, s)
next_entry = next_back signed_decimal read_integer IsEntry entry_back

pub next_entries : (zs : List ℤ) (s : List ℕ) → AreEntries zs → read_next (read_list read_integer) (numbers_text zs ++ 44 ∷ s) ≡ Some (zs, s)
next_entries = next_back numbers_text (read_list read_integer) AreEntries entries_back

pub next_pred : (p : PredText) (s : List ℕ) → IsPred p → read_next read_pred (indicator p ++ 44 ∷ s) ≡ Some (p, s)
next_pred = next_back indicator read_pred IsPred pred_back

pub next_how : (h : CertHow) (s : List ℕ) → read_next read_how (how_text h ++ 44 ∷ s) ≡ Some (h, s)
next_how h s = next_back how_text read_how (λ c. Unit {0}) how_back h s tt

-- the last part
pub last_place : (n : ℕ) (s : List ℕ) → IsPlace n → read_last read_place (decimal n ++ 41 ∷ 46 ∷ 10 ∷ s) ≡ Some (n, s)
last_place = last_back decimal read_place IsPlace place_back

pub last_index : (n : ℕ) (s : List ℕ) → IsIndex n → read_last read_index (decimal n ++ 41 ∷ 46 ∷ 10 ∷ s) ≡ Some (n, s)
last_index = last_back decimal read_index IsIndex index_back

pub last_entry : (z : ℤ) (s : List ℕ) → IsEntry z → read_last read_integer (signed_decimal z ++ 41 ∷ 46 ∷ 10 ∷ s) ≡ Some (z, s)
last_entry = last_back signed_decimal read_integer IsEntry entry_back

pub last_entries : (zs : List ℤ) (s : List ℕ) → AreEntries zs → read_last (read_list read_integer) (numbers_text zs ++ 41 ∷ 46 ∷ 10 ∷ s) ≡ Some (zs, s)
last_entries = last_back numbers_text (read_list read_integer) AreEntries entries_back

pub last_rows : (rows : List (List ℤ)) (s : List ℕ) → AllByRecursion AreEntries rows
    → read_last (read_list (read_list read_integer)) (list_text numbers_text rows ++ 41 ∷ 46 ∷ 10 ∷ s) ≡ Some (rows, s)
last_rows = last_back (list_text numbers_text) (read_list (read_list read_integer)) (AllByRecursion AreEntries) rows_back

pub last_places_lists : (lists : List (List ℕ)) (s : List ℕ) → AllByRecursion ArePlaces lists
    → read_last (read_list (read_list read_place)) (list_text positions_text lists ++ 41 ∷ 46 ∷ 10 ∷ s) ≡ Some (lists, s)
last_places_lists = last_back (list_text positions_text) (read_list (read_list read_place)) (AllByRecursion ArePlaces) places_lists_back

pub last_pred : (p : PredText) (s : List ℕ) → IsPred p → read_last read_pred (indicator p ++ 41 ∷ 46 ∷ 10 ∷ s) ≡ Some (p, s)
last_pred = last_back indicator read_pred IsPred pred_back

pub last_cube : (cells : List CertCell) (s : List ℕ) → read_last (read_list read_cell) (cube_text cells ++ 41 ∷ 46 ∷ 10 ∷ s) ≡ Some (cells, s)
last_cube cells s =
    last_back cube_text (read_list read_cell) (AllByRecursion (λ c. Unit {0}))
    (list_back cell_text read_cell (λ c. Unit {0}) cell_shortens cell_back cell_not_closed) cells s (each cells)

pub last_kinds : (kinds : List CertKind) (s : List ℕ) → read_last (read_list read_kind) (kinds_text kinds ++ 41 ∷ 46 ∷ 10 ∷ s) ≡ Some (kinds, s)
last_kinds kinds s =
    last_back kinds_text (read_list read_kind) (AllByRecursion (λ k. Unit {0}))
    (list_back kind_text read_kind (λ k. Unit {0}) kind_shortens kind_back kind_not_closed) kinds s (each kinds)

pub last_mark : (n : ℕ) (s : List ℕ) → IsIndex n → read_mark (decimal n ++ 41 ∷ 41 ∷ 46 ∷ 10 ∷ s) ≡ Some (n, s)
last_mark n s h = rw (index_back n 41 (41 ∷ 46 ∷ 10 ∷ s) h (inr (inl refl))) refl
