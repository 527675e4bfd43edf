-- Where a stuck set stands, no list descends: a transition with the least place has a group that says so.
use Rattle.std.proofs.Common.{◌≡◌, ℕ, zero, suc, ◌+◌, ◌<◌, ◌≤◌, ◌==◌, ℤ, pos, negsuc, neg_ℤ, ◌+ℤ◌, ◌*ℤ◌, ◌≤ℤ◌, Bool, true, false, ◌||◌, not, if◌then◌else◌, List, [], ◌∷◌, ◌++◌, map, length, slice_get, Option, None, Some, ◌⊎◌, inl, inr, refl, ap, sym, subst, ◌∙◌, arith, eqb-true}
use Rattle.std.specs.List.{AllByRecursion}
use Rattle.std.proofs.lemmas.Int.{ints}
use Rattle.std.proofs.lemmas.Bool.Decides.{nat_tests}
use Rattle.exact128.proofs.Rings.{rings, mul_nonneg}
use Rattle.exact128.specs.Sums.{dot, entry}
use Rattle.linear_rows.specs.Members.{In}
use Rattle.linear_rows.specs.Replacing.{substituted}
use Rattle.linear_rows.specs.RowSums.{scaled, added}
use Rattle.linear_rows.specs.Rows.{HoldsOn, AreEmpty}
use Rattle.termination_model.specs.claims.Claims.{SomeOf}
use Rattle.termination_model.specs.mappings.Refutation.{Load, gather}
use Rattle.termination_model.specs.columns.ColumnRows.{is_zero, lacks, or_empty, row_over}
use Rattle.termination_model.specs.columns.ColumnClaims.{Mapping, difference}
use Rattle.transitions.specs.Transitions.{Transition, level_of, head_level, call_level, fall, HoldsThere, FallsAt, Descends}
use Rattle.transitions.specs.StuckSets.{Feature, number_of, values_at, Point, Group, gains, floor_share, group_sum, IsAt, IsFloor, Lacks, IsGroup, IsWithin, NoneDescends, HasPoint}
use Rattle.termination_model.proofs.Entries.{dot_nil, entry_added}
use Rattle.termination_model.proofs.Refuted.{at_infinity, dot_over, dot_sum}
use Rattle.termination_model.proofs.Stuck.{first_of, dot_drop, plain_drop}
use Rattle.termination_model.proofs.SystemPoints.{dot_scaled, dot_added}
use Rattle.termination_model.proofs.Walk.{picked}

-- ---- sums of levels by members
abbrev pub summed : (ℕ → List ℤ) → List Load → ℤ
summed f [] = pos 0
summed f (h ∷ hs) = dot (f h.0) h.1 +ℤ summed f hs

abbrev by_member : (ℕ → List ℤ) → List Load → ℕ → ℤ
by_member f hs zero = pos 0
by_member f hs (suc n) = by_member f hs n +ℤ dot (f n) (gather n hs)

past : (f : ℕ → List ℤ) (h : Load) (hs : List Load) (n : ℕ) → n ≤ h.0 → by_member f (h ∷ hs) n ≡ by_member f hs n
past f h hs zero l = refl
past f h hs (suc n) l =
    let rest = past f h hs n (omega arith) in
    let apart : (h.0 == n) ≡ false = grind (arith, nat_tests) in
    rw (rest, apart) refl

one_more : (f : ℕ → List ℤ) (h : Load) (hs : List Load) (n : ℕ) → h.0 < n → by_member f (h ∷ hs) n ≡ dot (f h.0) h.1 +ℤ by_member f hs n
one_more f h hs zero l = absurd (omega arith)
one_more f h hs (suc n) l = go (h.0 == n) refl (one_more f h hs n)
  where
    go : (b : Bool) → (h.0 == n) ≡ b → (h.0 < n → by_member f (h ∷ hs) n ≡ dot (f h.0) h.1 +ℤ by_member f hs n)
        → (by_member f (h ∷ hs) n +ℤ dot (f n) (if b then added h.1 (gather n hs) else gather n hs)) ≡ (dot (f h.0) h.1 +ℤ (by_member f hs n +ℤ dot (f n) (gather n hs)))
    go true e rec =
        let same : h.0 ≡ n = eqb-true h.0 n e in
        let before = past f h hs n (omega arith) in
        let both = dot_sum (f n) h.1 (gather n hs) in
        let here : dot (f h.0) h.1 ≡ dot (f n) h.1 = ap (λ m. dot (f m) h.1) same in
        omega (arith, ints, before, both, here)
    go false e rec =
        let apart : h.0 < n = grind (arith, nat_tests) in
        let before = rec apart in
        omega (arith, ints, before)

no_loads : (f : ℕ → List ℤ) (n : ℕ) → by_member f [] n ≡ pos 0
no_loads f zero = refl
no_loads f (suc n) = omega (arith, ints, no_loads f n, dot_nil (f n))

all_members : (f : ℕ → List ℤ) (hs : List Load) (n : ℕ) → AllByRecursion (λ (h : Load). h.0 < n) hs → by_member f hs n ≡ summed f hs
all_members f [] n l = no_loads f n
all_members f (h ∷ hs) n l = omega (arith, ints, one_more f h hs n l.0, all_members f hs n l.1)

none_of_all : (f : ℕ → List ℤ) (hs : List Load) (n : ℕ) → ((q : ℕ) → dot (f q) (gather q hs) ≡ pos 0) → by_member f hs n ≡ pos 0
none_of_all f hs zero h = refl
none_of_all f hs (suc n) h = let rest = none_of_all f hs n h in let here = h n in omega (arith, ints, rest, here)

abbrev above : List Load → ℕ
above [] = 0
above (h ∷ hs) = suc (h.0 + above hs)

all_below : (hs : List Load) (n : ℕ) → above hs ≤ n → AllByRecursion (λ (h : Load). h.0 < n) hs
all_below [] n l = tt
all_below (h ∷ hs) n l = (omega arith, all_below hs n (omega arith))

pub balanced_sum : (f : ℕ → List ℤ) (hs : List Load) → ((q : ℕ) → dot (f q) (gather q hs) ≡ pos 0) → summed f hs ≡ pos 0
balanced_sum f hs h = sym (all_members f hs (above hs) (all_below hs (above hs) (omega arith))) ∙ none_of_all f hs (above hs) h

summed_append : (f : ℕ → List ℤ) (hs gs : List Load) → summed f (hs ++ gs) ≡ summed f hs +ℤ summed f gs
summed_append f [] gs = omega (arith, ints)
summed_append f (h ∷ hs) gs = let rest = summed_append f hs gs in omega (arith, ints, rest)

-- of each two numbers one is 0
pub dot_apart : (cs vs : List ℤ) → ((i : ℕ) → (entry cs i ≡ pos 0) ⊎ (entry vs i ≡ pos 0)) → dot cs vs ≡ pos 0
unfolding dot
dot_apart [] vs h = refl
dot_apart (a ∷ cs) [] h = refl
dot_apart (a ∷ cs) (v ∷ vs) h =
    let rest = dot_apart cs vs (λ i. h (suc i)) in
    let here = product (h 0) in
    omega (arith, ints, rest, here)
  where
    product : (a ≡ pos 0) ⊎ (v ≡ pos 0) → a *ℤ v ≡ pos 0
    product (inl e) = rw e (omega (arith, ints))
    product (inr e) = rw e (omega (arith, ints))

-- ---- loads and shares
abbrev load_at : ℕ → ℕ → Load → ℤ
load_at q j h = if h.0 == q then entry h.1 j else pos 0

abbrev pub entries : ℕ → ℕ → List Load → ℤ
entries q j [] = pos 0
entries q j (h ∷ hs) = load_at q j h +ℤ entries q j hs

pub gather_entry : (q j : ℕ) (hs : List Load) → entry (gather q hs) j ≡ entries q j hs
gather_entry q j [] = refl
gather_entry q j (h ∷ hs) = go (h.0 == q) (gather_entry q j hs)
  where
    go : (b : Bool) → entry (gather q hs) j ≡ entries q j hs → entry (if b then added h.1 (gather q hs) else gather q hs) j ≡ (if b then entry h.1 j else pos 0) +ℤ entries q j hs
    go true rest = let e = entry_added h.1 (gather q hs) j in omega (arith, ints, e, rest)
    go false rest = omega (arith, ints, rest)

entries_append : (q j : ℕ) (hs gs : List Load) → entries q j (hs ++ gs) ≡ entries q j hs +ℤ entries q j gs
entries_append q j [] gs = omega (arith, ints)
entries_append q j (h ∷ hs) gs = let rest = entries_append q j hs gs in omega (arith, ints, rest)

pub entry_negated : (xs : List ℤ) (j : ℕ) → entry (map neg_ℤ xs) j ≡ neg_ℤ (entry xs j)
entry_negated [] j = refl
entry_negated (x ∷ xs) zero = refl
entry_negated (x ∷ xs) (suc j) = entry_negated xs j

abbrev pub head_load : Point → Load
head_load p = (p.of.head, values_at p.of.head_columns p.t p.w)

abbrev pub call_load : Point → Load
call_load p = (p.of.call, map neg_ℤ (values_at p.of.call_columns p.t p.w))

abbrev floor_load : Transition → Option (ℕ × List ℕ) → List Load
floor_load τ None = []
floor_load τ (Some p) = (τ.head, values_at τ.head_columns p.0 p.1) ∷ []

abbrev loads : Group → List Load
loads g = map head_load (g.first ∷ g.others) ++ (map call_load (g.first ∷ g.others) ++ floor_load g.first.of g.floor)

pub negated_if : (b : Bool) (xs : List ℤ) (j : ℕ) → (if b then entry (map neg_ℤ xs) j else pos 0) ≡ neg_ℤ (if b then entry xs j else pos 0)
negated_if true xs j = entry_negated xs j
negated_if false xs j = refl

gains_are : (q j : ℕ) (ps : List Point) → gains (q, j) ps ≡ entries q j (map head_load ps) +ℤ entries q j (map call_load ps)
gains_are q j [] = refl
gains_are q j (p ∷ ps) =
    let rest = gains_are q j ps in
    let turned = negated_if (p.of.call == q) (values_at p.of.call_columns p.t p.w) j in
    omega (arith, ints, rest, turned)

floor_is : (q j : ℕ) (τ : Transition) (o : Option (ℕ × List ℕ)) → floor_share τ o (q, j) ≡ entries q j (floor_load τ o)
floor_is q j τ None = refl
floor_is q j τ (Some p) = omega (arith, ints)

group_sum_is : (q j : ℕ) (g : Group) → group_sum g (q, j) ≡ entry (gather q (loads g)) j
group_sum_is q j g =
    let ps = g.first ∷ g.others in
    let e = gather_entry q j (loads g) in
    let a = entries_append q j (map head_load ps) (map call_load ps ++ floor_load g.first.of g.floor) in
    let b = entries_append q j (map call_load ps) (floor_load g.first.of g.floor) in
    let s = gains_are q j ps in
    let f = floor_is q j g.first.of g.floor in
    omega (arith, ints, e, a, b, s, f)

-- ---- a row that lacks nothing
zero_not : (z : ℤ) (b : Bool) → (not (is_zero z) || b) ≡ false → (z ≡ pos 0) × (b ≡ false)
zero_not (pos zero) b e = (refl, e)
zero_not (pos (suc n)) b e = absurd (cc)
zero_not (negsuc n) b e = absurd (cc)

none_lacking : (row : List ℤ) (es : List (Option (List ℤ))) (i : ℕ) → lacks row es ≡ false → slice_get es i ≡ Some None → entry row i ≡ pos 0
none_lacking [] es i l e = refl
none_lacking (z ∷ row) [] i l e = absurd (cc)
none_lacking (z ∷ row) (None ∷ es) zero l e = (zero_not z (lacks row es) l).0
none_lacking (z ∷ row) (None ∷ es) (suc i) l e = none_lacking row es i (zero_not z (lacks row es) l).1 e
none_lacking (z ∷ row) (Some r ∷ es) zero l e = absurd (cc)
none_lacking (z ∷ row) (Some r ∷ es) (suc i) l e = none_lacking row es i l e

pub row_there : (n : ℕ) (es : List (Option (List ℤ))) (b : ℤ) (row r : List ℤ) → row_over n es (b ∷ row) ≡ Some r → (lacks row es ≡ false) × (substituted n (map or_empty es) (b ∷ row) ≡ r)
row_there n es b row r e = go (lacks row es) refl e
  where
    go : (t : Bool) → lacks row es ≡ t → (if t then None else Some (substituted n (map or_empty es) (b ∷ row))) ≡ Some r → (lacks row es ≡ false) × (substituted n (map or_empty es) (b ∷ row) ≡ r)
    go true l q = absurd (cc)
    go false l q = (l, cc)

abbrev pub weights : Mapping → ℕ → List ℤ
weights l q = l.offset q ∷ l.coefficients q

-- ---- levels at points
abbrev pub level_at : Mapping → ℕ → List (Option (List ℤ)) → ℕ → List ℕ → ℤ
level_at l q es t w = dot (weights l q) (values_at es t w)

at_any : (τ : Transition) → HasPoint τ → (row : List ℤ) → HoldsOn (suc τ.vars) τ.rows row → (t : ℕ) (w : List ℕ) → IsAt τ t w → pos 0 ≤ℤ dot row (pos t ∷ map pos w)
at_any τ (s, u, some, (lu, hu)) row on (suc t) w (lw, hw) = on (suc t) w (omega arith) (omega (arith, lw)) hw
at_any τ (s, u, some, (lu, hu)) row on zero w (lw, hw) = at_infinity (suc τ.vars) τ.rows row on s u w some (omega (arith, lu)) (lw ∙ sym lu) hu hw

not_empty : (τ : Transition) → HasPoint τ → AreEmpty (suc τ.vars) τ.rows → ⊥
not_empty τ (s, u, some, (lu, hu)) empty = empty s u some (omega (arith, lu)) hu

level_value : (n q : ℕ) (es : List (Option (List ℤ))) (l : Mapping) (r : List ℤ) (t : ℕ) (w : List ℕ) → level_of n q es l ≡ Some r → dot r (pos t ∷ map pos w) ≡ level_at l q es t w
level_value n q es l r t w e =
    let is = row_there n es (l.offset q) (l.coefficients q) r e in
    ap (λ (z : List ℤ). dot z (pos t ∷ map pos w)) (sym is.1) ∙ dot_over n (map or_empty es) (l.offset q) (l.coefficients q) (pos t) (map pos w)

-- both rows of a fall are there
abbrev BothThere : Transition → ℕ → Mapping → Type 0
BothThere τ d l = (x : List ℤ) × (y : List ℤ) × (head_level τ l ≡ Some x) × (call_level τ l ≡ Some y) × HoldsOn (suc τ.vars) τ.rows (added x (scaled (negsuc 0) (added y (pos d ∷ []))))

both_there : (τ : Transition) → HasPoint τ → (d : ℕ) (l : Mapping) → HoldsThere τ (fall τ d l) → BothThere τ d l
both_there τ point d l h = go (head_level τ l) (call_level τ l) refl refl h
  where
    go : (x y : Option (List ℤ)) → head_level τ l ≡ x → call_level τ l ≡ y → HoldsThere τ (difference d x y) → BothThere τ d l
    go None y ex ey n = absurd (not_empty τ point n)
    go (Some x) None ex ey n = absurd (not_empty τ point n)
    go (Some x) (Some y) ex ey n = (x, y, ex, ey, n)

abbrev pub head_at : Mapping → Transition → ℕ → List ℕ → ℤ
head_at l τ t w = level_at l τ.head τ.head_columns t w

abbrev pub call_at : Mapping → Transition → ℕ → List ℕ → ℤ
call_at l τ t w = level_at l τ.call τ.call_columns t w

pub fall_value : (τ : Transition) → HasPoint τ → (d : ℕ) (l : Mapping) → HoldsThere τ (fall τ d l) → (t : ℕ) (w : List ℕ) → IsAt τ t w → (call_at l τ t w +ℤ pos d *ℤ pos t) ≤ℤ head_at l τ t w
fall_value τ point d l h t w at =
    let b = both_there τ point d l h in
    let x = b.0 in
    let y = b.1 in
    let ps = pos t ∷ map pos w in
    let f : (dot y ps +ℤ pos d *ℤ pos t) ≤ℤ dot x ps = plain_drop _ _ _ _ _ _ (pos d *ℤ pos t) (at_any τ point (added x (scaled (negsuc 0) (added y (pos d ∷ [])))) b.4 t w at)
    (dot_added x (scaled (negsuc 0) (added y (pos d ∷ []))) ps) (dot_scaled (negsuc 0) (added y (pos d ∷ [])) ps) (dot_added y (pos d ∷ []) ps) (dot_drop d t (map pos w)) in
    subst (λ (z : ℤ). (call_at l τ t w +ℤ pos d *ℤ pos t) ≤ℤ z) (level_value τ.vars τ.head τ.head_columns l x t w b.2)
    (subst (λ (z : ℤ). (z +ℤ pos d *ℤ pos t) ≤ℤ dot x ps) (level_value τ.vars τ.call τ.call_columns l y t w b.3) f)

pub head_value : (τ : Transition) → HasPoint τ → (l : Mapping) → HoldsThere τ (head_level τ l) → (t : ℕ) (w : List ℕ) → IsAt τ t w → pos 0 ≤ℤ head_at l τ t w
head_value τ point l h t w at = go (head_level τ l) refl h
  where
    go : (x : Option (List ℤ)) → head_level τ l ≡ x → HoldsThere τ x → pos 0 ≤ℤ head_at l τ t w
    go None e n = absurd (not_empty τ point n)
    go (Some x) e n = subst (λ (z : ℤ). pos 0 ≤ℤ z) (level_value τ.vars τ.head τ.head_columns l x t w e) (at_any τ point x n t w at)

-- the mapping does not rise; it falls and is at least 0 on the head
abbrev pub Stays : Mapping → Transition → Type 0
Stays l τ = (d : ℕ) × HoldsThere τ (fall τ d l)

abbrev Falls : Mapping → Transition → Type 0
Falls l τ = HoldsThere τ (fall τ 1 l) × HoldsThere τ (head_level τ l)

abbrev HasPlace : List Mapping → Transition → Type 0
HasPlace ls τ = (i : ℕ) × FallsAt τ i ls

-- a column that the transition lacks has the number 0
pub lacking : (l : Mapping) (τ : Transition) (f : Feature) → HasPoint τ → Stays l τ → Lacks τ f → number_of l f ≡ pos 0
lacking l τ (q, zero) point stays (inl none) = absurd none
lacking l τ (q, zero) point stays (inr none) = absurd none
lacking l τ (q, suc i) point (d, h) (inl (e, none)) =
    let b = both_there τ point d l h in
    let is = row_there τ.vars τ.head_columns (l.offset τ.head) (l.coefficients τ.head) b.0 b.2 in
    subst (λ (m : ℕ). entry (l.coefficients m) i ≡ pos 0) e (none_lacking (l.coefficients τ.head) τ.head_columns i is.0 none)
lacking l τ (q, suc i) point (d, h) (inr (e, none)) =
    let b = both_there τ point d l h in
    let is = row_there τ.vars τ.call_columns (l.offset τ.call) (l.coefficients τ.call) b.1 b.3 in
    subst (λ (m : ℕ). entry (l.coefficients m) i ≡ pos 0) e (none_lacking (l.coefficients τ.call) τ.call_columns i is.0 none)

-- ---- what a group says
abbrev heads : List Point → List Load
heads ps = map head_load ps

abbrev calls : List Point → List Load
calls ps = map call_load ps

abbrev Standing : Mapping → Point → Type 0
Standing l p = IsAt p.of p.t p.w × (HasPoint p.of × Stays l p.of)

pub dot_turned : (cs vs : List ℤ) → dot cs (map neg_ℤ vs) ≡ neg_ℤ (dot cs vs)
unfolding dot
dot_turned [] vs = refl
dot_turned (a ∷ cs) [] = refl
dot_turned (a ∷ cs) (v ∷ vs) =
    let rest = dot_turned cs vs in
    let here : a *ℤ neg_ℤ v ≡ neg_ℤ (a *ℤ v) = simp rings (omega (arith, ints)) in
    omega (arith, ints, rest, here)

never_negative : (d t : ℕ) → pos 0 ≤ℤ (pos d *ℤ pos t)
never_negative d t = mul_nonneg (pos d) (pos t) (omega (arith, ints)) (omega (arith, ints))

all_stay : (l : Mapping) (ps : List Point) → AllByRecursion (Standing l) ps → pos 0 ≤ℤ (summed (weights l) (heads ps) +ℤ summed (weights l) (calls ps))
all_stay l [] h = omega (arith, ints)
all_stay l (p ∷ ps) ((at, (point, (d, on))), rest) =
    let here = fall_value p.of point d l on p.t p.w at in
    let later = all_stay l ps rest in
    let turned = dot_turned (weights l p.of.call) (values_at p.of.call_columns p.t p.w) in
    let more = never_negative d p.t in
    omega (arith, ints, here, later, turned, more)

floor_value : (l : Mapping) (τ : Transition) (f : Option (ℕ × List ℕ)) → HasPoint τ → HoldsThere τ (head_level τ l) → IsFloor τ f → pos 0 ≤ℤ summed (weights l) (floor_load τ f)
floor_value l τ None point on is = omega (arith, ints)
floor_value l τ (Some f) point on is = let h = head_value τ point l on f.0 f.1 is in omega (arith, ints, h)

module _ (test : Feature → Bool) (gs : List Group) (groups : AllByRecursion (IsGroup test gs) gs) where
  abbrev StaysAt : Mapping → Group → Type 0
  StaysAt l g = Stays l g.first.of

  point_of : (g : Group) → IsGroup test gs g → HasPoint g.first.of
  point_of g is = (g.first.t, g.first.w, is.some, is.here)

  -- what is known of a transition of the set
  standing : (l : Mapping) (hs : List Group) → AllByRecursion (IsGroup test gs) hs → AllByRecursion (StaysAt l) hs → (τ : Transition) → SomeOf (λ (h : Group). h.first.of ≡ τ) hs → HasPoint τ × Stays l τ
  standing l [] is stay τ s = absurd s
  standing l (h ∷ hs) is stay τ (inl e) = (subst HasPoint e (point_of h is.0), subst (Stays l) e stay.0)
  standing l (h ∷ hs) is stay τ (inr s) = standing l hs is.1 stay.1 τ s

  others_stand : (l : Mapping) → AllByRecursion (StaysAt l) gs → (ps : List Point) → AllByRecursion (λ (p : Point). IsAt p.of p.t p.w × SomeOf (λ (h : Group). h.first.of ≡ p.of) gs) ps → AllByRecursion (Standing l) ps
  others_stand l stay [] h = tt
  others_stand l stay (p ∷ ps) h = ((h.0.0, standing l gs groups stay p.of h.0.1), others_stand l stay ps h.1)

  lacked : (l : Mapping) (hs : List Group) → AllByRecursion (IsGroup test gs) hs → AllByRecursion (StaysAt l) hs → (f : Feature) → SomeOf (λ (h : Group). Lacks h.first.of f) hs → number_of l f ≡ pos 0
  lacked l [] is stay f s = absurd s
  lacked l (h ∷ hs) is stay f (inl s) = lacking l h.first.of f (point_of h is.0) stay.0 s
  lacked l (h ∷ hs) is stay f (inr s) = lacked l hs is.1 stay.1 f s

  -- of a number and its sum one is 0
  apart : (l : Mapping) → IsWithin test l → AllByRecursion (StaysAt l) gs → (g : Group) → IsGroup test gs g → (q j : ℕ) → (entry (weights l q) j ≡ pos 0) ⊎ (entry (gather q (loads g)) j ≡ pos 0)
  apart l within stay g is q j = go (test (q, j)) refl
    where
      one : SomeOf (λ (h : Group). Lacks h.first.of (q, j)) gs ⊎ (group_sum g (q, j) ≡ pos 0) → (entry (weights l q) j ≡ pos 0) ⊎ (entry (gather q (loads g)) j ≡ pos 0)
      one (inl s) = inl (lacked l gs groups stay (q, j) s)
      one (inr e) = inr (sym (group_sum_is q j g) ∙ e)

      go : (b : Bool) → test (q, j) ≡ b → (entry (weights l q) j ≡ pos 0) ⊎ (entry (gather q (loads g)) j ≡ pos 0)
      go false e = inl (within (q, j) e)
      go true e = one (is.balanced (q, j) e)

  -- no mapping that rises nowhere in the set falls at the transition of a group
  no_fall : (l : Mapping) → IsWithin test l → AllByRecursion (StaysAt l) gs → (g : Group) → IsGroup test gs g → Falls l g.first.of → ⊥
  no_fall l within stay g is (down, floor) =
      let f = weights l in
      let τ = g.first.of in
      let t = g.first.t in
      let w = g.first.w in
      let point = point_of g is in
      let own = fall_value τ point 1 l down t w is.here in
      let turned = dot_turned (f τ.call) (values_at τ.call_columns t w) in
      let rest = all_stay l g.others (others_stand l stay g.others is.others) in
      let last = floor_value l τ g.floor point floor is.floor in
      let whole = summed_append f (heads (g.first ∷ g.others)) (calls (g.first ∷ g.others) ++ floor_load τ g.floor) in
      let second = summed_append f (calls (g.first ∷ g.others)) (floor_load τ g.floor) in
      let none = balanced_sum f (loads g) (λ q. dot_apart (f q) (gather q (loads g)) (apart l within stay g is q)) in
      let some = is.some in
      omega (arith, ints, own, turned, rest, last, whole, second, none, some)

  -- ---- the least place
  first_mapping : (l : Mapping) (ls : List Mapping) (τ : Transition) → HasPlace (l ∷ ls) τ → Stays l τ × (Falls l τ ⊎ HasPlace ls τ)
  first_mapping l ls τ (zero, on) = ((1, on.0), inl on)
  first_mapping l ls τ (suc i, (on, rest)) = ((0, on), inr (i, rest))

  abbrev Split : Mapping → List Mapping → List Group → Type 0
  Split l ls hs = AllByRecursion (StaysAt l) hs × (SomeOf (λ (h : Group). Falls l h.first.of) hs ⊎ AllByRecursion (λ (h : Group). HasPlace ls h.first.of) hs)

  add_group : (l : Mapping) (ls : List Mapping) (h : Group) (hs : List Group) → Stays l h.first.of × (Falls l h.first.of ⊎ HasPlace ls h.first.of) → Split l ls hs → Split l ls (h ∷ hs)
  add_group l ls h hs (s, inl f) (stay, rest) = ((s, stay), inl (inl f))
  add_group l ls h hs (s, inr place) (stay, inl f) = ((s, stay), inl (inr f))
  add_group l ls h hs (s, inr place) (stay, inr places) = ((s, stay), inr (place, places))

  split_first : (l : Mapping) (ls : List Mapping) (hs : List Group) → AllByRecursion (λ (h : Group). HasPlace (l ∷ ls) h.first.of) hs → Split l ls hs
  split_first l ls [] places = (tt, inr tt)
  split_first l ls (h ∷ hs) places = add_group l ls h hs (first_mapping l ls h.first.of places.0) (split_first l ls hs places.1)

  split_end : (l : Mapping) (ls : List Mapping) → IsWithin test l → (AllByRecursion (λ (h : Group). HasPlace ls h.first.of) gs → ⊥) → Split l ls gs → ⊥
  split_end l ls within later (stay, inl s) =
      let found = picked (IsGroup test gs) (λ (h : Group). Falls l h.first.of) gs groups s in
      no_fall l within stay found.0 found.1 found.2
  split_end l ls within later (stay, inr rest) = later rest

  no_places : (hs : List Group) → SomeOf (λ (h : Group). HasPlace [] h.first.of) hs → ⊥
  no_places [] s = absurd s
  no_places (h ∷ hs) (inl (i, f)) = absurd f
  no_places (h ∷ hs) (inr s) = no_places hs s

  no_list : 1 ≤ length gs → (ls : List Mapping) → AllByRecursion (IsWithin test) ls → AllByRecursion (λ (h : Group). HasPlace ls h.first.of) gs → ⊥
  no_list some [] within places = no_places gs (first_of (λ (h : Group). HasPlace [] h.first.of) gs some places)
  no_list some (l ∷ ls) within places = split_end l ls within.0 (λ rest. no_list some ls within.1 rest) (split_first l ls gs places)

place_in : (τs : List Transition) (ls : List Mapping) → Descends τs ls → (τ : Transition) → In τ τs → HasPlace ls τ
place_in [] ls d τ i = absurd i
place_in (x ∷ τs) ls d τ (inl e) = subst (HasPlace ls) e d.0
place_in (x ∷ τs) ls d τ (inr i) = place_in τs ls d.1 τ i

places_of : (τs : List Transition) (ls : List Mapping) → Descends τs ls → (hs : List Group) → AllByRecursion (λ (h : Group). In h.first.of τs) hs → AllByRecursion (λ (h : Group). HasPlace ls h.first.of) hs
places_of τs ls d [] of = tt
places_of τs ls d (h ∷ hs) of = (place_in τs ls d h.first.of of.0, places_of τs ls d hs of.1)

pub none_descends : NoneDescends
none_descends test τs gs ls stuck within d = no_list test gs stuck.groups stuck.some ls within (places_of τs ls d gs stuck.of)
