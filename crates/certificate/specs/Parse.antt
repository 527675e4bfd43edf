-- Private.
-- What the code reads at the front of a text: a value and the text after it. It may read more than a fact's text, so
-- each fact that is read is compared with its own text. Nothing here has to be believed.
use Rattle.std.specs.Prelude.{◌≡◌, ℕ, zero, suc, ◌+◌, ◌*◌, ℤ, pos, neg_ℤ, Bool, true, false, not, ◌&&◌, ◌==◌, nat_eq, nat_lt, nat_le, List, [], ◌∷◌, ◌++◌, length, take, drop, codes, Option, Some, None, option_map, option_and_then, Result, Ok, Err, if◌then◌else◌}
use Rattle.std.specs.Borrow.{Bor}
use Rattle.std.specs.Char.{digit_value}
use Rattle.std.specs.Str.{is_utf8}
use Rattle.std.specs.List.{prefix_len, list_all, AllByRecursion}
use Rattle.std.specs.Cmp.Lexicographic.{pointwise}
use Rattle.std.specs.Net.Reader.{read_number}
use Rattle.certificate.specs.declared.line_fault.LineFault.{LineFault}
use Rattle.certificate.specs.declared.line_fault.LineFault.TheVariants as fault
use Rattle.certificate.specs.declared.pred_text.PredText.{PredText}
use Rattle.certificate.specs.declared.cell.CertCell.{CertCell}
use Rattle.certificate.specs.declared.cell.CertCell.TheVariants as cell
use Rattle.certificate.specs.declared.how.CertHow.{CertHow}
use Rattle.certificate.specs.declared.how.CertHow.TheVariants as how
use Rattle.certificate.specs.declared.norm.CertNorm.{CertNorm}
use Rattle.certificate.specs.declared.norm.CertNorm.TheVariants as norm
use Rattle.certificate.specs.declared.fact.Fact.{Fact}
use Rattle.certificate.specs.declared.fact.Fact.TheVariants as fact
use Rattle.certificate.specs.Text.{fact_text}
use Rattle.certificate.specs.Range.{most_32, most_64, most_127, IsPlace, IsIndex, IsEntry, IsPred, AreEntries, ArePlaces}

-- a value and the text after it, if there is one
abbrev pub Read : Type 0 → Type 0
Read A = Option (A × List ℕ)

-- the code read what it should; running out of memory is free
abbrev pub Agrees : {A : Type 0} → Result (A × Bor (List ℕ)) LineFault → Read A → Type 0
Agrees (Ok p) o = o ≡ Some (p.0, p.1.now)
Agrees (Err fault.NotAFact) o = o ≡ None
Agrees (Err fault.Memory) o = Unit {0}

-- the same of a text alone
abbrev pub AgreesText : Result (Bor (List ℕ)) LineFault → Option (List ℕ) → Type 0
AgreesText (Ok s) o = o ≡ Some s.now
AgreesText (Err fault.NotAFact) o = o ≡ None
AgreesText (Err fault.Memory) o = Unit {0}

infixl 10 ◌>>=◌
abbrev ◌>>=◌ : {A B : Type 0} → Option A → (A → Option B) → Option B
o >>= f = option_and_then f o

-- the first that gives something
infixr 9 ◌or_else◌
abbrev pub ◌or_else◌ : {A : Type 0} → Option A → Option A → Option A
None or_else p = p
Some x or_else p = Some x

-- what is read, where the test allows it
abbrev pub kept : {A : Type 0} → (A → Bool) → Read A → Read A
kept test None = None
kept test (Some p) = if test p.0 then Some p else None

-- what follows this text at the front
abbrev pub after : List ℕ → List ℕ → Option (List ℕ)
after literal s = if pointwise nat_eq (take (length literal) s) literal then Some (drop (length literal) s) else None

-- a number from 0 to the greatest
abbrev pub read_natural : ℕ → List ℕ → Read ℕ
read_natural most s = option_map (λ n. (n.0, drop n.1 s)) (read_number 10 most s)

unfoldable pub read_place : List ℕ → Read ℕ
read_place s = kept (λ n. nat_le 1 n) (read_natural most_32 s)

unfoldable pub read_index : List ℕ → Read ℕ
read_index s = kept (λ n. nat_le 1 n) (read_natural most_64 s)

abbrev pub negated : ℕ × List ℕ → ℤ × List ℕ
negated p = (neg_ℤ (pos p.0), p.1)

abbrev pub unsigned : ℕ × List ℕ → ℤ × List ℕ
unsigned p = (pos p.0, p.1)

-- a number with its sign, if it is below 0
abbrev pub read_signed : Option (List ℕ) → List ℕ → Read ℤ
read_signed None s = option_map unsigned (read_natural most_127 s)
read_signed (Some t) s = option_map negated (read_natural most_127 t)

unfoldable pub read_integer : List ℕ → Read ℤ
read_integer s = read_signed (after (codes "-") s) s

abbrev pub is_amount : ℤ → Bool
is_amount (pos n) = true
is_amount _ = false

-- one more in front
abbrev pub with_first : {A : Type 0} → A → List A × List ℕ → List A × List ℕ
with_first x p = (x ∷ p.0, p.1)

-- items up to a byte that stops them, with at most the given number of bytes
unfoldable pub repeated : {A : Type 0} → ℕ → ℕ → (List ℕ → Read A) → List ℕ → Read (List A)
repeated zero stop item s = None
repeated (suc n) stop item [] = None
repeated (suc n) stop item (b ∷ s) =
    if b == stop then Some ([], s) else (item (b ∷ s) >>= λ p. option_map (with_first p.0) (repeated n stop item p.1))

unfoldable pub read_until : {A : Type 0} → ℕ → (List ℕ → Read A) → List ℕ → Read (List A)
read_until stop item s = repeated (length s) stop item s

-- these items in front of those that are read
abbrev pub with_all : {A : Type 0} → List A → Read (List A) → Read (List A)
with_all xs o = option_map (λ p. (xs ++ p.0, p.1)) o

-- the code read the items that follow, and put them after those that it had
abbrev pub AgreesMore : {A : Type 0} → List A → Result (Bor (List ℕ)) LineFault → Read (List A) → Type 0
AgreesMore items (Ok s) o = o ≡ Some (items, s.now)
AgreesMore items (Err fault.NotAFact) o = o ≡ None
AgreesMore items (Err fault.Memory) o = Unit {0}

-- an item with a comma before it
abbrev pub next_item : {A : Type 0} → (List ℕ → Read A) → List ℕ → Read A
next_item item s = after (codes ",") s >>= item

-- what follows the opening bracket
abbrev pub read_items : {A : Type 0} → (List ℕ → Read A) → Option (List ℕ) → List ℕ → Read (List A)
read_items item (Some t) s = Some ([], t)
read_items item None s = item s >>= λ p. option_map (with_first p.0) (read_until 93 (next_item item) p.1)

unfoldable pub read_list : {A : Type 0} → (List ℕ → Read A) → List ℕ → Read (List A)
read_list item s = after (codes "[") s >>= λ t. read_items item (after (codes "]") t) t

-- a hexadecimal digit
abbrev pub read_hexadecimal : List ℕ → Read ℕ
read_hexadecimal [] = None
read_hexadecimal (b ∷ s) = if nat_lt (digit_value b) 16 then Some (digit_value b, s) else None

-- one or two of them, and a backslash
abbrev pub read_second : ℕ → Option (List ℕ) → List ℕ → Read ℕ
read_second d (Some t) s = Some (d, t)
read_second d None s = read_hexadecimal s >>= λ e. option_map (λ t. (d * 16 + e.0, t)) (after (92 ∷ []) e.1)

abbrev pub read_code : List ℕ → Read ℕ
read_code s = read_hexadecimal s >>= λ d. read_second d.0 (after (92 ∷ []) d.1) d.1

-- a byte after a backslash: a line end, two digits, or itself
abbrev pub read_escape : List ℕ → Read ℕ
read_escape [] = None
read_escape (b ∷ s) = if b == 110 then Some (10, s) else if b == 120 then read_code s else Some (b, s)

-- a byte between single quotes
unfoldable pub read_byte : List ℕ → Read ℕ
read_byte [] = None
read_byte (b ∷ s) = if b == 92 then read_escape s else Some (b, s)

-- a name without quotes ends before the slash
abbrev pub word_len : List ℕ → ℕ
word_len s = prefix_len (λ b. not (b == 47)) s

abbrev pub read_plain : List ℕ → Read (List ℕ)
read_plain s = Some (take (word_len s) s, drop (word_len s) s)

abbrev pub read_quoted : Option (List ℕ) → List ℕ → Read (List ℕ)
read_quoted None s = read_plain s
read_quoted (Some t) s = read_until 39 read_byte t

unfoldable pub read_name : List ℕ → Read (List ℕ)
read_name s = kept is_utf8 (read_quoted (after (codes "'") s) s)

unfoldable pub read_pred : List ℕ → Read PredText
read_pred s = do
  name ← read_name s
  slash ← after (codes "/") name.1
  arity ← read_natural 12 slash
  Some (record { name = name.0; arity = arity.0 }, arity.1)

unfoldable pub read_cell : List ℕ → Read CertCell
read_cell [] = None
read_cell (b ∷ s) = if b == 48 then Some (cell.Zero, s) else if b == 49 then Some (cell.One, s) else if b == 120 then Some (cell.Any, s) else None

-- how a step made its rows
unfoldable pub read_how : List ℕ → Read CertHow
read_how s =
    option_map (λ t. (how.None, t)) (after (codes "none") s)
    or_else option_map (λ t. (how.First, t)) (after (codes "first") s)
    or_else option_map (λ t. (how.Join, t)) (after (codes "join") s)
    or_else option_map (λ t. (how.Keep, t)) (after (codes "keep") s)
    or_else option_map (λ t. (how.Same, t)) (after (codes "same") s)

unfoldable pub read_norm : List ℕ → Read CertNorm
read_norm s =
    option_map (λ t. (norm.Term, t)) (after (codes "term") s)
    or_else option_map (λ t. (norm.List, t)) (after (codes "list") s)

-- a part and the comma after it
abbrev pub read_next : {A : Type 0} → (List ℕ → Read A) → List ℕ → Read A
read_next part s = part s >>= λ p. option_map (λ t. (p.0, t)) (after (codes ",") p.1)

-- the last part of a fact, and what ends the line
abbrev pub read_last : {A : Type 0} → (List ℕ → Read A) → List ℕ → Read A
read_last part s = part s >>= λ p. option_map (λ t. (p.0, t)) (after (codes ").\n") p.1)

-- the facts, each after its word
unfoldable pub read_cti_fact : List ℕ → Read Fact
read_cti_fact s = do
  version ← read_last read_integer s
  Some (fact.Cti version.0, version.1)

unfoldable pub read_norm_fact : List ℕ → Read Fact
read_norm_fact s = do
  named ← read_last read_norm s
  Some (fact.Norm named.0, named.1)

unfoldable pub read_terminates_fact : List ℕ → Read Fact
read_terminates_fact s = do
  pred ← read_next read_pred s
  modes ← read_last (read_list (read_list read_place)) pred.1
  Some (fact.Terminates pred.0 modes.0, modes.1)

unfoldable pub read_size_fact : List ℕ → Read Fact
read_size_fact s = do
  pred ← read_next read_pred s
  index ← read_next read_index pred.1
  row ← read_last (read_list read_integer) index.1
  Some (fact.Size pred.0 index.0 row.0, row.1)

unfoldable pub read_by_fact : List ℕ → Read Fact
read_by_fact s = do
  clause ← read_next read_place s
  index ← read_next read_index clause.1
  scale ← read_next read_integer index.1
  multipliers ← read_last (read_list read_integer) scale.1
  Some (fact.By clause.0 index.0 scale.0 multipliers.0, multipliers.1)

unfoldable pub read_grounds_fact : List ℕ → Read Fact
read_grounds_fact s = do
  pred ← read_next read_pred s
  index ← read_next read_index pred.1
  cube ← read_last (read_list read_cell) index.1
  Some (fact.Grounds pred.0 index.0 cube.0, cube.1)

unfoldable pub read_measure_fact : List ℕ → Read Fact
read_measure_fact s = do
  pred ← read_next read_pred s
  mapping ← read_next read_place pred.1
  coeffs ← read_next (read_list read_integer) mapping.1
  offset ← read_last read_integer coeffs.1
  Some (fact.Measure pred.0 mapping.0 coeffs.0 offset.0, offset.1)

unfoldable pub read_falls_fact : List ℕ → Read Fact
read_falls_fact s = do
  clause ← read_next read_place s
  call ← read_next read_place clause.1
  mapping ← read_next read_place call.1
  scale ← read_next read_integer mapping.1
  multipliers ← read_last (read_list read_integer) scale.1
  Some (fact.Falls clause.0 call.0 mapping.0 scale.0 multipliers.0, multipliers.1)

unfoldable pub read_pre_fact : List ℕ → Read Fact
read_pre_fact s = do
  pred ← read_next read_pred s
  mapping ← read_next read_place pred.1
  index ← read_next read_index mapping.1
  cube ← read_last (read_list read_cell) index.1
  Some (fact.Pre pred.0 mapping.0 index.0 cube.0, cube.1)

unfoldable pub read_refuted_fact : List ℕ → Read Fact
read_refuted_fact s = do
  pred ← read_next read_pred s
  points ← read_last read_index pred.1
  Some (fact.Refuted pred.0 points.0, points.1)

unfoldable pub read_point_fact : List ℕ → Read Fact
read_point_fact s = do
  clause ← read_next read_place s
  call ← read_next read_place clause.1
  multiple ← read_next read_integer call.1
  values ← read_last (read_list read_integer) multiple.1
  Some (fact.Point clause.0 call.0 multiple.0 values.0, values.1)

unfoldable pub read_at_fact : List ℕ → Read Fact
read_at_fact s = do
  clause ← read_next read_place s
  call ← read_next read_place clause.1
  multiple ← read_next read_integer call.1
  values ← read_last (read_list read_integer) multiple.1
  Some (fact.At clause.0 call.0 multiple.0 values.0, values.1)

unfoldable pub read_image_fact : List ℕ → Read Fact
read_image_fact s = do
  step ← read_next read_index s
  clause ← read_next read_place step.1
  pred ← read_next read_pred clause.1
  rows ← read_last (read_list (read_list read_integer)) pred.1
  Some (fact.Image step.0 clause.0 pred.0 rows.0, rows.1)

unfoldable pub read_step_fact : List ℕ → Read Fact
read_step_fact s = do
  step ← read_next read_index s
  pred ← read_next read_pred step.1
  how ← read_next read_how pred.1
  rows ← read_last (read_list (read_list read_integer)) how.1
  Some (fact.Step step.0 pred.0 how.0 rows.0, rows.1)

unfoldable pub read_blown_fact : List ℕ → Read Fact
read_blown_fact s = do
  pred ← read_next read_pred s
  support ← read_last (read_list (read_list read_place)) pred.1
  Some (fact.Blown pred.0 support.0, support.1)

unfoldable pub read_large_fact : List ℕ → Read Fact
read_large_fact s = do
  pred ← read_next read_pred s
  positions ← read_last read_index pred.1
  Some (fact.Large pred.0 positions.0, positions.1)

-- a mark of a step, which has one parenthesis more
abbrev pub read_mark : List ℕ → Read ℕ
read_mark s = read_index s >>= λ p. option_map (λ t. (p.0, t)) (after (codes ")).\n") p.1)

unfoldable pub read_weak_image_fact : List ℕ → Read Fact
read_weak_image_fact s = read_mark s >>= λ p. Some (fact.WeakImage p.0, p.1)

unfoldable pub read_weak_step_fact : List ℕ → Read Fact
read_weak_step_fact s = read_mark s >>= λ p. Some (fact.WeakStep p.0, p.1)

-- what follows a word, or what is read without it
abbrev pub branch : Option (List ℕ) → (List ℕ → Read Fact) → Read Fact → Read Fact
branch None part other = other
branch (Some t) part other = part t

-- the facts that follow those of the modes: refutations and notes
unfoldable pub read_other : List ℕ → Read Fact
read_other s =
    branch (after (codes "none(") s) read_refuted_fact (
    branch (after (codes "point(") s) read_point_fact (
    branch (after (codes "at(") s) read_at_fact (
    branch (after (codes "image(") s) read_image_fact (
    branch (after (codes "step(") s) read_step_fact (
    branch (after (codes "weak(image(") s) read_weak_image_fact (
    branch (after (codes "weak(step(") s) read_weak_step_fact (
    branch (after (codes "blown(") s) read_blown_fact (
    branch (after (codes "large(") s) read_large_fact (
    None)))))))))

-- the facts that show the modes, or others
unfoldable pub read_any : List ℕ → Read Fact
read_any s =
    branch (after (codes "cti(") s) read_cti_fact (
    branch (after (codes "norm(") s) read_norm_fact (
    branch (after (codes "terminates(") s) read_terminates_fact (
    branch (after (codes "size(") s) read_size_fact (
    branch (after (codes "by(") s) read_by_fact (
    branch (after (codes "grounds(") s) read_grounds_fact (
    branch (after (codes "measure(") s) read_measure_fact (
    branch (after (codes "falls(") s) read_falls_fact (
    branch (after (codes "pre(") s) read_pre_fact (
    read_other s)))))))))

-- the amounts of the fact are not below 0
abbrev pub has_amounts : Fact → Bool
has_amounts (fact.Cti version) = is_amount version
has_amounts (fact.By clause index scale multipliers) = is_amount scale && list_all is_amount multipliers
has_amounts (fact.Measure pred mapping coeffs offset) = list_all is_amount coeffs && is_amount offset
has_amounts (fact.Falls clause call mapping scale multipliers) = is_amount scale && list_all is_amount multipliers
has_amounts (fact.Point clause call t w) = is_amount t && list_all is_amount w
has_amounts (fact.At clause call t w) = is_amount t && list_all is_amount w
has_amounts _ = true

-- a fact in range
unfoldable pub read_fact : List ℕ → Read Fact
read_fact s = kept has_amounts (read_any s)

-- the parts of the fact are in range, but amounts may be below 0
abbrev pub HasParts : Fact → Type 0
HasParts (fact.Cti version) = IsEntry version
HasParts (fact.Norm norm) = Unit {0}
HasParts (fact.Terminates pred modes) = IsPred pred × AllByRecursion ArePlaces modes
HasParts (fact.Size pred index row) = IsPred pred × IsIndex index × AreEntries row
HasParts (fact.By clause index scale multipliers) = IsPlace clause × IsIndex index × IsEntry scale × AreEntries multipliers
HasParts (fact.Grounds pred index cube) = IsPred pred × IsIndex index
HasParts (fact.Measure pred mapping coeffs offset) = IsPred pred × IsPlace mapping × AreEntries coeffs × IsEntry offset
HasParts (fact.Falls clause call mapping scale multipliers) = IsPlace clause × IsPlace call × IsPlace mapping × IsEntry scale × AreEntries multipliers
HasParts (fact.Pre pred mapping index cube) = IsPred pred × IsPlace mapping × IsIndex index
HasParts (fact.Refuted pred points) = IsPred pred × IsIndex points
HasParts (fact.Point clause call t w) = IsPlace clause × IsPlace call × IsEntry t × AreEntries w
HasParts (fact.At clause call t w) = IsPlace clause × IsPlace call × IsEntry t × AreEntries w
HasParts (fact.Image step clause pred rows) = IsIndex step × IsPlace clause × IsPred pred × AllByRecursion AreEntries rows
HasParts (fact.Step step pred how rows) = IsIndex step × IsPred pred × AllByRecursion AreEntries rows
HasParts (fact.WeakImage step) = IsIndex step
HasParts (fact.WeakStep step) = IsIndex step
HasParts (fact.Blown pred support) = IsPred pred × AllByRecursion ArePlaces support
HasParts (fact.Large pred positions) = IsPred pred × IsIndex positions

-- the text of a refutation's fact or of a note
abbrev pub other_text : Fact → List ℕ
other_text (fact.Cti version) = []
other_text (fact.Norm norm) = []
other_text (fact.Terminates pred modes) = []
other_text (fact.Size pred index row) = []
other_text (fact.By clause index scale multipliers) = []
other_text (fact.Grounds pred index cube) = []
other_text (fact.Measure pred mapping coeffs offset) = []
other_text (fact.Falls clause call mapping scale multipliers) = []
other_text (fact.Pre pred mapping index cube) = []
other_text f = fact_text f
