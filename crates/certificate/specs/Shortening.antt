-- Private.
-- What is read takes some bytes. Nothing here has to be believed.
use Rattle.std.proofs.Common.{◌≡◌, ℕ, zero, suc, ◌<◌, ◌≤◌, ◌==◌, if◌then◌else◌, Bool, true, false, List, [], ◌∷◌, length, take, drop, Option, Some, None, option_map, option_and_then, refl, ap, arith, lit≤}
use Rattle.std.proofs.lemmas.Option.{none-some, same_Some}
use Rattle.std.proofs.lemmas.List.{length-drop, length-take}
use Rattle.std.proofs.NetLemmas.Numbers.{read_number_sound}
use Rattle.std.proofs.NetLemmas.Options.{cond_some, and_then_some, map_some}
use Rattle.std.specs.Prelude.{ℤ, codes, nat_eq}
use Rattle.std.specs.Net.Reader.{read_number}
use Rattle.std.specs.Cmp.Lexicographic.{as_long}
use Rattle.certificate.specs.Parse.{Read, kept, after, read_natural, read_place, read_index, read_integer, read_signed, negated, unsigned, read_cell, repeated, read_until, next_item, read_items, read_list, with_first, read_hexadecimal, read_second, read_code, read_escape, read_byte, word_len, read_plain, read_quoted, read_name, read_pred, read_how, read_norm, ◌or_else◌}
use Rattle.std.specs.Char.{digit_value}
use Rattle.std.specs.Str.{is_utf8}
use Rattle.certificate.specs.declared.how.CertHow.TheVariants as how
use Rattle.certificate.specs.declared.norm.CertNorm.TheVariants as norm
use Rattle.certificate.specs.declared.cell.CertCell.{CertCell}
use Rattle.certificate.specs.declared.cell.CertCell.TheVariants as cell
use Rattle.certificate.specs.Range.{most_32, most_64, most_127}

-- what is read takes some bytes; what is taken off takes none or some
abbrev pub Shortens : {A : Type 0} → (List ℕ → Read A) → Type 0
Shortens {A = A} read = (s t : List ℕ) (x : A) → read s ≡ Some (x, t) → length t < length s

pub natural_shortens : (most : ℕ) → Shortens (read_natural most)
natural_shortens most s t x e =
    map_some _ (read_number 10 most s) _ e λ n read same.
    let (number, fits, len, stop) = read_number_sound 10 most s n.0 n.1 (lit≤ tt) read in
    let rest : drop n.1 s ≡ t = ap (λ p. p.1) same in
    let some = number.0.0 in
    let left = length-drop n.1 s in
    let short = length-take n.1 s in
    rw (← rest) (omega (arith, some, len, left, short))

pub kept_some : {A : Type 0} (test : A → Bool) (o : Read A) (p : A × List ℕ) → kept test o ≡ Some p → (o ≡ Some p) × (test p.0 ≡ true)
kept_some test None p e = absurd (none-some p e)
kept_some test (Some q) p e =
    let (holds, same) = cond_some (test q.0) q p e in
    (ap Some same, rw (← same) holds)

kept_shortens : {A : Type 0} (test : A → Bool) (read : List ℕ → Read A) → Shortens read → Shortens (λ s. kept test (read s))
kept_shortens test read h s t x e = h s t x (kept_some test (read s) (x, t) e).0

pub place_shortens : Shortens read_place
unfolding read_place
place_shortens s t x e = kept_shortens _ (read_natural most_32) (natural_shortens most_32) s t x e

pub index_shortens : Shortens read_index
unfolding read_index
index_shortens s t x e = kept_shortens _ (read_natural most_64) (natural_shortens most_64) s t x e

-- what follows a text is no longer than all
pub after_le : (literal s t : List ℕ) → after literal s ≡ Some t → length t ≤ length s
after_le literal s t e =
    let (same, rest) = cond_some _ (drop (length literal) s) t e in
    rw (← rest) (omega (arith, length-drop (length literal) s))

signed_shortens : (o : Option (List ℕ)) (s t : List ℕ) (x : ℤ) → ((u : List ℕ) → o ≡ Some u → length u ≤ length s) → read_signed o s ≡ Some (x, t) → length t < length s
signed_shortens None s t x h e =
    map_some unsigned (read_natural most_127 s) _ e λ p read same.
    let short = natural_shortens most_127 s p.1 p.0 read in
    rw (← ap (λ q. q.1) same) short
signed_shortens (Some u) s t x h e =
    map_some negated (read_natural most_127 u) _ e λ p read same.
    let short = natural_shortens most_127 u p.1 p.0 read in
    let le = h u refl in
    rw (← ap (λ q. q.1) same) (omega (arith, short, le))

pub integer_shortens : Shortens read_integer
unfolding read_integer
integer_shortens s t x e = signed_shortens (after (codes "-") s) s t x (λ u f. after_le (codes "-") s u f) e

same_rest : {A : Type 0} (x y : A) (s t : List ℕ) → ◌≡◌ {A = Read A} (Some (x, s)) (Some (y, t)) → s ≡ t
same_rest x y s t e = ap (λ p. p.1) (same_Some _ _ e)

pub cell_shortens : Shortens read_cell
unfolding read_cell
cell_shortens [] t x e = absurd (none-some _ e)
cell_shortens (b ∷ s) t x e = go (b == 48) (b == 49) (b == 120) e
  where
    choice : Bool → Bool → Bool → Read CertCell
    choice c d f = if c then Some (cell.Zero, s) else if d then Some (cell.One, s) else if f then Some (cell.Any, s) else None

    go : (c d f : Bool) → choice c d f ≡ Some (x, t) → length t < suc (length s)
    go true c d f = rw (same_rest _ _ s t f) (omega arith)
    go false true d f = rw (same_rest _ _ s t f) (omega arith)
    go false false true f = rw (same_rest _ _ s t f) (omega arith)
    go false false false f = absurd (none-some _ f)

-- with enough bytes it does not matter how many are allowed
enough : {A : Type 0} (stop : ℕ) (item : List ℕ → Read A) → Shortens item → (n m : ℕ) (s : List ℕ) → length s ≤ n → length s ≤ m → repeated n stop item s ≡ repeated m stop item s
unfolding repeated
enough stop item h zero zero s a b = refl
enough stop item h zero (suc m) [] a b = refl
enough stop item h zero (suc m) (c ∷ s) a b = absurd (omega (arith, a))
enough stop item h (suc n) zero [] a b = refl
enough stop item h (suc n) zero (c ∷ s) a b = absurd (omega (arith, b))
enough stop item h (suc n) (suc m) [] a b = refl
enough {A} stop item h (suc n) (suc m) (c ∷ s) a b = ap (λ o. if c == stop then Some ([], s) else o) (go (λ u. enough stop item h n m u) (item (c ∷ s)) refl)
  where
    rest : ℕ → A × List ℕ → Read (List A)
    rest k p = option_map (with_first p.0) (repeated k stop item p.1)

    go : ((u : List ℕ) → length u ≤ n → length u ≤ m → repeated n stop item u ≡ repeated m stop item u) → (o : Read A) → item (c ∷ s) ≡ o
        → option_and_then (rest n) o ≡ option_and_then (rest m) o
    go same None e = refl
    go same (Some p) e =
        let short = h (c ∷ s) p.1 p.0 e in
        ap (option_map (with_first p.0)) (same p.1 (omega (arith, a, short)) (omega (arith, b, short)))

-- an item and what follows it
pub until_step : {A : Type 0} (stop : ℕ) (item : List ℕ → Read A) → Shortens item → (b : ℕ) (s : List ℕ) → (b == stop) ≡ false
    → read_until stop item (b ∷ s) ≡ option_and_then (λ p. option_map (with_first p.0) (read_until stop item p.1)) (item (b ∷ s))
unfolding repeated read_until
until_step {A} stop item h b s other = rw other (go (item (b ∷ s)) refl)
  where
    go : (o : Read A) → item (b ∷ s) ≡ o
        → option_and_then (λ p. option_map (with_first p.0) (repeated (length s) stop item p.1)) o ≡ option_and_then (λ p. option_map (with_first p.0) (repeated (length p.1) stop item p.1)) o
    go None e = refl
    go (Some p) e =
        let short = h (b ∷ s) p.1 p.0 e in
        ap (option_map (with_first p.0)) (enough stop item h (length s) (length p.1) p.1 (omega (arith, short)) (omega arith))

-- the byte that stops
pub until_stop : {A : Type 0} (stop : ℕ) (item : List ℕ → Read A) (b : ℕ) (s : List ℕ) → (b == stop) ≡ true → read_until stop item (b ∷ s) ≡ Some ([], s)
unfolding repeated read_until
until_stop stop item b s same = rw same refl

-- nothing is read at the end of the text
pub until_end : {A : Type 0} (stop : ℕ) (item : List ℕ → Read A) → read_until stop item [] ≡ None
unfolding repeated read_until
until_end stop item = refl

-- what follows the byte that stops is shorter
repeated_shortens : {A : Type 0} (n stop : ℕ) (item : List ℕ → Read A) → Shortens item → Shortens (repeated n stop item)
unfolding repeated
repeated_shortens zero stop item h s t xs e = absurd (none-some _ e)
repeated_shortens (suc n) stop item h [] t xs e = absurd (none-some _ e)
repeated_shortens {A} (suc n) stop item h (c ∷ s) t xs e = go (repeated_shortens n stop item h) (c == stop) e
  where
    rest : A × List ℕ → Read (List A)
    rest p = option_map (with_first p.0) (repeated n stop item p.1)

    choice : Bool → Read (List A)
    choice b = if b then Some ([], s) else option_and_then rest (item (c ∷ s))

    go : Shortens (repeated n stop item) → (b : Bool) → choice b ≡ Some (xs, t) → length t < suc (length s)
    go less true f = rw (same_rest _ _ s t f) (omega arith)
    go less false f =
        and_then_some rest (item (c ∷ s)) _ f λ p read some.
        map_some (with_first p.0) (repeated n stop item p.1) _ some λ q more same.
        let first = h (c ∷ s) p.1 p.0 read in
        let short = less p.1 q.1 q.0 more in
        rw (← same_rest _ _ q.1 t (ap Some same)) (omega (arith, first, short))

pub until_shortens : {A : Type 0} (stop : ℕ) (item : List ℕ → Read A) → Shortens item → Shortens (read_until stop item)
unfolding read_until
until_shortens stop item h s t xs e = repeated_shortens (length s) stop item h s t xs e

pub next_shortens : {A : Type 0} (item : List ℕ → Read A) → Shortens item → Shortens (next_item item)
next_shortens item h s t x e =
    and_then_some item (after (codes ",") s) _ e λ u comma read.
    let le = after_le (codes ",") s u comma in
    let short = h u t x read in
    omega (arith, le, short)

items_shorten : {A : Type 0} (item : List ℕ → Read A) → Shortens item → (o : Option (List ℕ)) (s t : List ℕ) (xs : List A)
    → ((u : List ℕ) → o ≡ Some u → length u < length s) → read_items item o s ≡ Some (xs, t) → length t < length s
items_shorten item h (Some u) s t xs closed e = rw (← same_rest _ _ u t e) (closed u refl)
items_shorten item h None s t xs closed e =
    and_then_some _ (item s) _ e λ p read some.
    map_some (with_first p.0) (read_until 93 (next_item item) p.1) _ some λ q more same.
    let first = h s p.1 p.0 read in
    let short = until_shortens 93 (next_item item) (next_shortens item h) p.1 q.1 q.0 more in
    rw (← same_rest _ _ q.1 t (ap Some same)) (omega (arith, first, short))

-- what follows a byte is shorter
byte_shortens : (b : ℕ) (s t : List ℕ) → after (b ∷ []) s ≡ Some t → length t < length s
byte_shortens b [] t e = absurd (none-some _ e)
byte_shortens b (c ∷ s) t e =
    let (same, rest) = cond_some _ s t e in
    rw rest (omega arith)

pub list_shortens : {A : Type 0} (item : List ℕ → Read A) → Shortens item → Shortens (read_list item)
unfolding read_list
list_shortens item h s t xs e =
    and_then_some _ (after (codes "[") s) _ e λ u opened some.
    let short = byte_shortens 91 s u opened in
    let less = items_shorten item h (after (codes "]") u) u t xs (λ v closed. byte_shortens 93 u v closed) some in
    omega (arith, short, less)

-- what follows a name is no longer than all
plain_le : (s t xs : List ℕ) → read_plain s ≡ Some (xs, t) → length t ≤ length s
plain_le s t xs e = rw (← same_rest _ _ _ t e) (omega (arith, length-drop (word_len s) s))

hexadecimal_shortens : Shortens read_hexadecimal
hexadecimal_shortens [] t x e = absurd (none-some _ e)
hexadecimal_shortens (b ∷ s) t x e =
    let (digit, same) = cond_some _ (digit_value b, s) (x, t) e in
    rw (← ap (λ p. p.1) same) (omega arith)

second_le : (d : ℕ) (o : Option (List ℕ)) (s t : List ℕ) (x : ℕ) → ((u : List ℕ) → o ≡ Some u → length u ≤ length s) → read_second d o s ≡ Some (x, t) → length t ≤ length s
second_le d (Some u) s t x h e = rw (← same_rest _ _ u t e) (h u refl)
second_le d None s t x h e =
    and_then_some _ (read_hexadecimal s) _ e λ p read some.
    map_some _ (after (92 ∷ []) p.1) _ some λ u slash same.
    let short = hexadecimal_shortens s p.1 p.0 read in
    let le = after_le (92 ∷ []) p.1 u slash in
    rw (← ap (λ q. q.1) same) (omega (arith, short, le))

code_shortens : Shortens read_code
code_shortens s t x e =
    and_then_some _ (read_hexadecimal s) _ e λ p read some.
    let short = hexadecimal_shortens s p.1 p.0 read in
    let le = second_le p.0 (after (92 ∷ []) p.1) p.1 t x (λ u f. after_le (92 ∷ []) p.1 u f) some in
    omega (arith, short, le)

escape_shortens : Shortens read_escape
escape_shortens [] t x e = absurd (none-some _ e)
escape_shortens (b ∷ s) t x e = go (b == 110) (b == 120) e
  where
    choice : Bool → Bool → Read ℕ
    choice c d = if c then Some (10, s) else if d then read_code s else Some (b, s)

    go : (c d : Bool) → choice c d ≡ Some (x, t) → length t < suc (length s)
    go true d f = rw (same_rest _ _ s t f) (omega arith)
    go false true f = let short = code_shortens s t x f in omega (arith, short)
    go false false f = rw (same_rest _ _ s t f) (omega arith)

pub byte_shortens_in_quotes : Shortens read_byte
unfolding read_byte
byte_shortens_in_quotes [] t x e = absurd (none-some _ e)
byte_shortens_in_quotes (b ∷ s) t x e = go (b == 92) e
  where
    choice : Bool → Read ℕ
    choice c = if c then read_escape s else Some (b, s)

    go : (c : Bool) → choice c ≡ Some (x, t) → length t < suc (length s)
    go true f = let short = escape_shortens s t x f in omega (arith, short)
    go false f = rw (same_rest _ _ s t f) (omega arith)

quoted_le : (o : Option (List ℕ)) (s t xs : List ℕ) → ((u : List ℕ) → o ≡ Some u → length u ≤ length s) → read_quoted o s ≡ Some (xs, t) → length t ≤ length s
quoted_le None s t xs h e = plain_le s t xs e
quoted_le (Some u) s t xs h e =
    let short = until_shortens 39 read_byte byte_shortens_in_quotes u t xs e in
    let le = h u refl in
    omega (arith, short, le)

name_le : (s t xs : List ℕ) → read_name s ≡ Some (xs, t) → length t ≤ length s
unfolding read_name
name_le s t xs e = quoted_le (after (codes "'") s) s t xs (λ u f. after_le (codes "'") s u f) (kept_some is_utf8 (read_quoted (after (codes "'") s) s) (xs, t) e).0

pub pred_shortens : Shortens read_pred
unfolding read_pred
pred_shortens s t x e =
    and_then_some _ (read_name s) _ e λ n name some.
    and_then_some _ (after (codes "/") n.1) _ some λ u slash more.
    and_then_some _ (read_natural 12 u) _ more λ a arity same.
    let one = name_le s n.1 n.0 name in
    let two = after_le (codes "/") n.1 u slash in
    let three = natural_shortens 12 u a.1 a.0 arity in
    rw (← ap (λ p. p.1) (same_Some _ _ same)) (omega (arith, one, two, three))

-- what follows a text of some bytes is shorter
word_shortens : (literal s t : List ℕ) → 0 < length literal → after literal s ≡ Some t → length t < length s
word_shortens literal s t some e =
    let (same, rest) = cond_some _ (drop (length literal) s) t e in
    let long = as_long nat_eq (take (length literal) s) literal same in
    let front = length-take (length literal) s in
    let left = length-drop (length literal) s in
    rw (← rest) (omega (arith, long, front, left, some))

abbrev worded : {A : Type 0} → A → List ℕ → List ℕ → Read A
worded x literal s = option_map (λ t. (x, t)) (after literal s)

worded_shortens : {A : Type 0} (y : A) (literal : List ℕ) → 0 < length literal → Shortens (worded y literal)
worded_shortens {A} y literal some s t x e = map_some pair (after literal s) (x, t) e λ u at same. rw (← ap (λ p. p.1) same) (word_shortens literal s u some at)
  where
    pair : List ℕ → A × List ℕ
    pair u = (y, u)

either_shortens : {A : Type 0} (s t : List ℕ) (x : A) (o p : Read A) → (o ≡ Some (x, t) → length t < length s) → (p ≡ Some (x, t) → length t < length s) → (o or_else p) ≡ Some (x, t) → length t < length s
either_shortens s t x None p h k e = k e
either_shortens s t x (Some q) p h k e = h e

pub how_shortens : Shortens read_how
unfolding read_how
how_shortens s t x e =
    either_shortens s t x (worded how.None (codes "none") s) _ (worded_shortens how.None (codes "none") (lit≤ tt) s t x)
    (either_shortens s t x (worded how.First (codes "first") s) _ (worded_shortens how.First (codes "first") (lit≤ tt) s t x)
    (either_shortens s t x (worded how.Join (codes "join") s) _ (worded_shortens how.Join (codes "join") (lit≤ tt) s t x)
    (either_shortens s t x (worded how.Keep (codes "keep") s) _ (worded_shortens how.Keep (codes "keep") (lit≤ tt) s t x)
    (worded_shortens how.Same (codes "same") (lit≤ tt) s t x)))) e

pub norm_shortens : Shortens read_norm
unfolding read_norm
norm_shortens s t x e =
    either_shortens s t x (worded norm.Term (codes "term") s) _ (worded_shortens norm.Term (codes "term") (lit≤ tt) s t x)
    (worded_shortens norm.List (codes "list") (lit≤ tt) s t x) e
