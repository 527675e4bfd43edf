-- Where a stuck set over columns stands, no list descends: a call with the least place has a group that says so.
use Rattle.std.proofs.Common.{◌≡◌, ℕ, zero, suc, ◌+◌, ◌*◌, ◌<◌, ◌≤◌, ◌==◌, ℤ, pos, negsuc, neg_ℤ, ◌+ℤ◌, ◌*ℤ◌, ◌≤ℤ◌, Bool, true, false, ◌||◌, not, if◌then◌else◌, List, [], ◌∷◌, ◌++◌, map, take, length, slice_get, Option, None, Some, ◌⊎◌, inl, inr, refl, ap, sym, subst, ◌∙◌, arith, eqb-true}
use Rattle.std.specs.List.{AllByRecursion}
use Rattle.std.proofs.lemmas.Int.{ints}
use Rattle.std.proofs.lemmas.Bool.Decides.{nat_tests}
use Rattle.exact128.proofs.Rings.{rings, mul_nonneg}
use Rattle.exact128.specs.Sums.{dot, entry}
use Rattle.linear_rows.specs.Replacing.{substituted}
use Rattle.linear_rows.specs.RowSums.{scaled, added}
use Rattle.linear_rows.specs.Rows.{HoldsOn, AreEmpty}
use Rattle.cti_terms.specs.Tree.{Tree}
use Rattle.termination_model.specs.claims.Claims.{SomeOf}
use Rattle.termination_model.specs.mappings.Refutation.{Load, gather}
use Rattle.termination_model.specs.mappings.View.{Member}
use Rattle.termination_model.specs.columns.ColumnRows.{is_zero, lacks, or_empty, row_over}
use Rattle.termination_model.specs.columns.ColumnClaims.{Mapping, difference, RowHoldsOn}
use Rattle.termination_model.specs.columns.ColumnView.{Call, Rule, columns_in, system_of, level_over, head_over, fall_over, FallsOver}
use Rattle.termination_model.specs.columns.ColumnStuck.{Own, Point, Group, IsNatural, ListDescends, rows_before, IsAt, IsOwn, values_at, head_at, call_at, floor_at, loads, Lacks, IsBalancedAt, IsFloor, IsGroup, NoneDescends}
use Rattle.termination_model.proofs.Entries.{dot_nil}
use Rattle.termination_model.proofs.Refuted.{at_infinity, dot_over, from_in, dot_sum}
use Rattle.termination_model.proofs.Stuck.{first_of, dot_drop, plain_drop}
use Rattle.termination_model.proofs.SystemPoints.{dot_scaled, dot_added}
use Rattle.termination_model.proofs.Walk.{picked}

-- ---- sums of levels by members
abbrev summed : (ℕ → List ℤ) → List Load → ℤ
summed f [] = pos 0
summed f (h ∷ hs) = dot (f h.0) h.1 +ℤ summed f hs

abbrev by_member : (ℕ → List ℤ) → List Load → ℕ → ℤ
by_member f hs zero = pos 0
by_member f hs (suc n) = by_member f hs n +ℤ dot (f n) (gather n hs)

past : (f : ℕ → List ℤ) (h : Load) (hs : List Load) (n : ℕ) → n ≤ h.0 → by_member f (h ∷ hs) n ≡ by_member f hs n
past f h hs zero l = refl
past f h hs (suc n) l =
    let rest = past f h hs n (omega arith) in
    let apart : (h.0 == n) ≡ false = grind (arith, nat_tests) in
    rw (rest, apart) refl

one_more : (f : ℕ → List ℤ) (h : Load) (hs : List Load) (n : ℕ) → h.0 < n → by_member f (h ∷ hs) n ≡ dot (f h.0) h.1 +ℤ by_member f hs n
one_more f h hs zero l = absurd (omega arith)
one_more f h hs (suc n) l = go (h.0 == n) refl (one_more f h hs n)
  where
    go : (b : Bool) → (h.0 == n) ≡ b → (h.0 < n → by_member f (h ∷ hs) n ≡ dot (f h.0) h.1 +ℤ by_member f hs n)
        → (by_member f (h ∷ hs) n +ℤ dot (f n) (if b then added h.1 (gather n hs) else gather n hs)) ≡ (dot (f h.0) h.1 +ℤ (by_member f hs n +ℤ dot (f n) (gather n hs)))
    go true e rec =
        let same : h.0 ≡ n = eqb-true h.0 n e in
        let before = past f h hs n (omega arith) in
        let both = dot_sum (f n) h.1 (gather n hs) in
        let here : dot (f h.0) h.1 ≡ dot (f n) h.1 = ap (λ m. dot (f m) h.1) same in
        omega (arith, ints, before, both, here)
    go false e rec =
        let apart : h.0 < n = grind (arith, nat_tests) in
        let before = rec apart in
        omega (arith, ints, before)

no_loads : (f : ℕ → List ℤ) (n : ℕ) → by_member f [] n ≡ pos 0
no_loads f zero = refl
no_loads f (suc n) = omega (arith, ints, no_loads f n, dot_nil (f n))

all_members : (f : ℕ → List ℤ) (hs : List Load) (n : ℕ) → AllByRecursion (λ (h : Load). h.0 < n) hs → by_member f hs n ≡ summed f hs
all_members f [] n l = no_loads f n
all_members f (h ∷ hs) n l = omega (arith, ints, one_more f h hs n l.0, all_members f hs n l.1)

no_more : (f : ℕ → List ℤ) (hs : List Load) (n : ℕ) → ((q : ℕ) → dot (f q) (gather q hs) ≤ℤ pos 0) → by_member f hs n ≤ℤ pos 0
no_more f hs zero h = omega (arith, ints)
no_more f hs (suc n) h = let rest = no_more f hs n h in let here = h n in omega (arith, ints)

abbrev above : List Load → ℕ
above [] = 0
above (h ∷ hs) = suc (h.0 + above hs)

all_below : (hs : List Load) (n : ℕ) → above hs ≤ n → AllByRecursion (λ (h : Load). h.0 < n) hs
all_below [] n l = tt
all_below (h ∷ hs) n l = (omega arith, all_below hs n (omega arith))

not_positive : (f : ℕ → List ℤ) (hs : List Load) → ((q : ℕ) → dot (f q) (gather q hs) ≤ℤ pos 0) → summed f hs ≤ℤ pos 0
not_positive f hs h = subst (λ (z : ℤ). z ≤ℤ pos 0) (all_members f hs (above hs) (all_below hs (above hs) (omega arith))) (no_more f hs (above hs) h)

summed_append : (f : ℕ → List ℤ) (hs gs : List Load) → summed f (hs ++ gs) ≡ summed f hs +ℤ summed f gs
summed_append f [] gs = omega (arith, ints)
summed_append f (h ∷ hs) gs = let rest = summed_append f hs gs in omega (arith, ints, rest)

-- each product is at most 0
abbrev Opposed : ℤ → ℤ → Type 0
Opposed a v = (a ≡ pos 0) ⊎ ((v ≡ pos 0) ⊎ ((pos 0 ≤ℤ a) × (v ≤ℤ pos 0)))

product_opposed : (a v : ℤ) → Opposed a v → (a *ℤ v) ≤ℤ pos 0
product_opposed a v (inl e) = rw e (omega (arith, ints))
product_opposed a v (inr (inl e)) = rw e (omega (arith, ints))
product_opposed a v (inr (inr (h, k))) =
    let m = mul_nonneg a (neg_ℤ v) h (omega (arith, ints)) in
    let e : a *ℤ neg_ℤ v ≡ neg_ℤ (a *ℤ v) = simp rings (omega (arith, ints)) in
    omega (arith, ints, m, e)

dot_opposed : (cs vs : List ℤ) → ((i : ℕ) → Opposed (entry cs i) (entry vs i)) → dot cs vs ≤ℤ pos 0
unfolding dot
dot_opposed [] vs h = omega (arith, ints)
dot_opposed (a ∷ cs) [] h = omega (arith, ints)
dot_opposed (a ∷ cs) (v ∷ vs) h =
    let here = product_opposed a v (h 0) in
    let rest = dot_opposed cs vs (λ i. h (suc i)) in
    omega (arith, ints, here, rest)

dot_negated : (cs vs : List ℤ) → dot cs (map neg_ℤ vs) ≡ neg_ℤ (dot cs vs)
unfolding dot
dot_negated [] vs = refl
dot_negated (a ∷ cs) [] = refl
dot_negated (a ∷ cs) (v ∷ vs) =
    let rest = dot_negated cs vs in
    let here : a *ℤ neg_ℤ v ≡ neg_ℤ (a *ℤ v) = simp rings (omega (arith, ints)) in
    omega (arith, ints, rest, here)

-- ---- a row that lacks nothing
zero_not : (z : ℤ) (b : Bool) → (not (is_zero z) || b) ≡ false → (z ≡ pos 0) × (b ≡ false)
zero_not (pos zero) b e = (refl, e)
zero_not (pos (suc n)) b e = absurd (cc)
zero_not (negsuc n) b e = absurd (cc)

none_lacking : (row : List ℤ) (es : List (Option (List ℤ))) (i : ℕ) → lacks row es ≡ false → slice_get es i ≡ Some None → entry row i ≡ pos 0
none_lacking [] es i l e = refl
none_lacking (z ∷ row) [] i l e = absurd (cc)
none_lacking (z ∷ row) (None ∷ es) zero l e = (zero_not z (lacks row es) l).0
none_lacking (z ∷ row) (None ∷ es) (suc i) l e = none_lacking row es i (zero_not z (lacks row es) l).1 e
none_lacking (z ∷ row) (Some r ∷ es) zero l e = absurd (cc)
none_lacking (z ∷ row) (Some r ∷ es) (suc i) l e = none_lacking row es i l e

row_there : (n : ℕ) (es : List (Option (List ℤ))) (b : ℤ) (row r : List ℤ) → row_over n es (b ∷ row) ≡ Some r → (lacks row es ≡ false) × (substituted n (map or_empty es) (b ∷ row) ≡ r)
row_there n es b row r e = go (lacks row es) refl e
  where
    go : (t : Bool) → lacks row es ≡ t → (if t then None else Some (substituted n (map or_empty es) (b ∷ row))) ≡ Some r → (lacks row es ≡ false) × (substituted n (map or_empty es) (b ∷ row) ≡ r)
    go true l q = absurd (cc)
    go false l q = (l, cc)

abbrev weights : Mapping → ℕ → List ℤ
weights l q = l.offset q ∷ l.coefficients q

module _ (width : ℕ) (expression : ℕ → Tree → ℕ → Option (List ℤ)) (view : List Rule) where
  abbrev numbers : Own → ℕ
  numbers o = suc (o.rule.vars * width)

  abbrev Holding : Own → Option (List ℤ) → Type 0
  Holding o r = RowHoldsOn (numbers o) (rows_before width expression o) r

  abbrev head_level : Mapping → Own → ℕ → List ℕ → ℤ
  head_level l o t w = dot (weights l o.rule.member) (head_at width expression o t w).1

  abbrev call_level : Mapping → Own → ℕ → List ℕ → ℤ
  call_level l o t w = dot (weights l o.member) (values_at width expression o.rule.vars o.call.kinds o.call.args t w)

  abbrev fall_of : Own → ℕ → Mapping → Option (List ℤ)
  fall_of o d l = fall_over width expression o.rule o.member o.call d l

  -- a point of the call with t at least 1
  abbrev HasPoint : Own → Type 0
  HasPoint o = (t : ℕ) × (w : List ℕ) × (1 ≤ t) × IsAt width expression o t w

  at_any : (o : Own) → HasPoint o → (row : List ℤ) → HoldsOn (numbers o) (rows_before width expression o) row → (t : ℕ) (w : List ℕ) → IsAt width expression o t w → pos 0 ≤ℤ dot row (pos t ∷ map pos w)
  at_any o (s, u, some, (lu, hu)) row on (suc t) w (lw, hw) = on (suc t) w (omega arith) (omega (arith, lw)) hw
  at_any o (s, u, some, (lu, hu)) row on zero w (lw, hw) = at_infinity (numbers o) (rows_before width expression o) row on s u w some (omega (arith, lu)) (lw ∙ sym lu) hu hw

  not_empty : (o : Own) → HasPoint o → AreEmpty (numbers o) (rows_before width expression o) → ⊥
  not_empty o (s, u, some, (lu, hu)) empty = empty s u some (omega (arith, lu)) hu

  level_value : (n q : ℕ) (ks : List ℕ) (ts : List Tree) (l : Mapping) (r : List ℤ) (t : ℕ) (w : List ℕ) → level_over width expression n q ks ts l ≡ Some r
      → dot r (pos t ∷ map pos w) ≡ dot (weights l q) (values_at width expression n ks ts t w)
  level_value n q ks ts l r t w e =
      let is = row_there (n * width) (columns_in width expression n ks ts) (l.offset q) (l.coefficients q) r e in
      ap (λ (z : List ℤ). dot z (pos t ∷ map pos w)) (sym is.1) ∙ dot_over (n * width) (map or_empty (columns_in width expression n ks ts)) (l.offset q) (l.coefficients q) (pos t) (map pos w)

  -- both rows of a fall are there
  abbrev BothThere : Own → ℕ → Mapping → Type 0
  BothThere o d l = (x : List ℤ) × (y : List ℤ) × (head_over width expression o.rule l ≡ Some x) × (level_over width expression o.rule.vars o.member o.call.kinds o.call.args l ≡ Some y)
      × HoldsOn (numbers o) (rows_before width expression o) (added x (scaled (negsuc 0) (added y (pos d ∷ []))))

  both_there : (o : Own) → HasPoint o → (d : ℕ) (l : Mapping) → Holding o (fall_of o d l) → BothThere o d l
  both_there o point d l h = go (head_over width expression o.rule l) (level_over width expression o.rule.vars o.member o.call.kinds o.call.args l) refl refl h
    where
      go : (x y : Option (List ℤ)) → head_over width expression o.rule l ≡ x → level_over width expression o.rule.vars o.member o.call.kinds o.call.args l ≡ y → Holding o (difference d x y) → BothThere o d l
      go None y ex ey n = absurd (not_empty o point n)
      go (Some x) None ex ey n = absurd (not_empty o point n)
      go (Some x) (Some y) ex ey n = (x, y, ex, ey, n)

  fall_value : (o : Own) → HasPoint o → (d : ℕ) (l : Mapping) → Holding o (fall_of o d l) → (t : ℕ) (w : List ℕ) → IsAt width expression o t w → (call_level l o t w +ℤ pos d *ℤ pos t) ≤ℤ head_level l o t w
  fall_value o point d l h t w at =
      let b = both_there o point d l h in
      let x = b.0 in
      let y = b.1 in
      let ps = pos t ∷ map pos w in
      let f : (dot y ps +ℤ pos d *ℤ pos t) ≤ℤ dot x ps = plain_drop _ _ _ _ _ _ (pos d *ℤ pos t) (at_any o point (added x (scaled (negsuc 0) (added y (pos d ∷ [])))) b.4 t w at)
      (dot_added x (scaled (negsuc 0) (added y (pos d ∷ []))) ps) (dot_scaled (negsuc 0) (added y (pos d ∷ [])) ps) (dot_added y (pos d ∷ []) ps) (dot_drop d t (map pos w)) in
      subst (λ (z : ℤ). (call_level l o t w +ℤ pos d *ℤ pos t) ≤ℤ z) (level_value o.rule.vars o.rule.member o.rule.kinds o.rule.args l x t w b.2)
      (subst (λ (z : ℤ). (z +ℤ pos d *ℤ pos t) ≤ℤ dot x ps) (level_value o.rule.vars o.member o.call.kinds o.call.args l y t w b.3) f)

  head_value : (o : Own) → HasPoint o → (l : Mapping) → Holding o (head_over width expression o.rule l) → (t : ℕ) (w : List ℕ) → IsAt width expression o t w → pos 0 ≤ℤ head_level l o t w
  head_value o point l h t w at = go (head_over width expression o.rule l) refl h
    where
      go : (x : Option (List ℤ)) → head_over width expression o.rule l ≡ x → Holding o x → pos 0 ≤ℤ head_level l o t w
      go None e n = absurd (not_empty o point n)
      go (Some x) e n = subst (λ (z : ℤ). pos 0 ≤ℤ z) (level_value o.rule.vars o.rule.member o.rule.kinds o.rule.args l x t w e) (at_any o point x n t w at)

  -- the mapping does not rise at the call; it falls there and is at least 0 on the head
  abbrev Stays : Mapping → Own → Type 0
  Stays l o = (d : ℕ) × Holding o (fall_of o d l)

  abbrev Falls : Mapping → Own → Type 0
  Falls l o = Holding o (fall_of o 1 l) × Holding o (head_over width expression o.rule l)

  abbrev HasPlace : List Mapping → Own → Type 0
  HasPlace ls o = (i : ℕ) × FallsOver width expression o.rule (rows_before width expression o) o.member o.call i ls

  -- a column that the call lacks has the number 0
  lacking : (l : Mapping) (o : Own) (q i : ℕ) → HasPoint o → Stays l o → Lacks width expression o q i → entry (l.coefficients q) i ≡ pos 0
  lacking l o q i point (d, h) (inl (e, none)) =
      let b = both_there o point d l h in
      let is = row_there (o.rule.vars * width) (columns_in width expression o.rule.vars o.rule.kinds o.rule.args) (l.offset o.rule.member) (l.coefficients o.rule.member) b.0 b.2 in
      subst (λ (m : ℕ). entry (l.coefficients m) i ≡ pos 0) e (none_lacking (l.coefficients o.rule.member) (columns_in width expression o.rule.vars o.rule.kinds o.rule.args) i is.0 none)
  lacking l o q i point (d, h) (inr (e, none)) =
      let b = both_there o point d l h in
      let is = row_there (o.rule.vars * width) (columns_in width expression o.rule.vars o.call.kinds o.call.args) (l.offset o.member) (l.coefficients o.member) b.1 b.3 in
      subst (λ (m : ℕ). entry (l.coefficients m) i ≡ pos 0) e (none_lacking (l.coefficients o.member) (columns_in width expression o.rule.vars o.call.kinds o.call.args) i is.0 none)

  -- ---- what a group says
  abbrev heads : List Point → List Load
  heads ps = map (λ (p : Point). head_at width expression p.own p.t p.w) ps

  abbrev calls : List Point → List Load
  calls ps = map (λ (p : Point). call_at width expression p.own p.t p.w) ps

  abbrev Standing : Mapping → Point → Type 0
  Standing l p = IsAt width expression p.own p.t p.w × (HasPoint p.own × Stays l p.own)

  call_negated : (l : Mapping) (o : Own) (t : ℕ) (w : List ℕ) → dot (weights l o.member) (call_at width expression o t w).1 ≡ neg_ℤ (call_level l o t w)
  call_negated l o t w = dot_negated (weights l o.member) (values_at width expression o.rule.vars o.call.kinds o.call.args t w)

  never_negative : (d t : ℕ) → pos 0 ≤ℤ (pos d *ℤ pos t)
  never_negative d t = mul_nonneg (pos d) (pos t) (omega (arith, ints)) (omega (arith, ints))

  all_stay : (l : Mapping) (ps : List Point) → AllByRecursion (Standing l) ps → pos 0 ≤ℤ (summed (weights l) (heads ps) +ℤ summed (weights l) (calls ps))
  all_stay l [] h = omega (arith, ints)
  all_stay l (p ∷ ps) ((at, (point, (d, on))), rest) =
      let here = fall_value p.own point d l on p.t p.w at in
      let later = all_stay l ps rest in
      let turned = call_negated l p.own p.t p.w in
      let more = never_negative d p.t in
      omega (arith, ints, here, later, turned, more)

  floor_value : (l : Mapping) (o : Own) (f : Option (ℕ × List ℕ)) → HasPoint o → Holding o (head_over width expression o.rule l) → IsFloor width expression o f → pos 0 ≤ℤ summed (weights l) (floor_at width expression o f)
  floor_value l o None point on is = omega (arith, ints)
  floor_value l o (Some f) point on is = let h = head_value o point l on f.0 f.1 is in omega (arith, ints, h)

  module _ (sizes : ℕ → ℕ → Bool) (gs : List Group) (groups : AllByRecursion (IsGroup width expression view sizes gs) gs) where
    abbrev StaysAt : Mapping → Group → Type 0
    StaysAt l g = Stays l g.first.own

    point_of : (g : Group) → IsGroup width expression view sizes gs g → HasPoint g.first.own
    point_of g is = (g.first.t, g.first.w, is.some, is.here)

    -- what is known of a call of the set
    standing : (l : Mapping) (hs : List Group) → AllByRecursion (IsGroup width expression view sizes gs) hs → AllByRecursion (StaysAt l) hs → (o : Own) → SomeOf (λ (h : Group). h.first.own ≡ o) hs → HasPoint o × Stays l o
    standing l [] is stay o s = absurd s
    standing l (h ∷ hs) is stay o (inl e) = (subst HasPoint e (point_of h is.0), subst (Stays l) e stay.0)
    standing l (h ∷ hs) is stay o (inr s) = standing l hs is.1 stay.1 o s

    others_stand : (l : Mapping) → AllByRecursion (StaysAt l) gs → (ps : List Point) → AllByRecursion (λ (p : Point). IsAt width expression p.own p.t p.w × SomeOf (λ (h : Group). h.first.own ≡ p.own) gs) ps → AllByRecursion (Standing l) ps
    others_stand l stay [] h = tt
    others_stand l stay (p ∷ ps) h = ((h.0.0, standing l gs groups stay p.own h.0.1), others_stand l stay ps h.1)

    lacked : (l : Mapping) (hs : List Group) → AllByRecursion (IsGroup width expression view sizes gs) hs → AllByRecursion (StaysAt l) hs → (q i : ℕ) → SomeOf (λ (h : Group). Lacks width expression h.first.own q i) hs → entry (l.coefficients q) i ≡ pos 0
    lacked l [] are stay q i s = absurd s
    lacked l (h ∷ hs) are stay q i (inl s) = lacking l h.first.own q i (point_of h are.0) stay.0 s
    lacked l (h ∷ hs) are stay q i (inr s) = lacked l hs are.1 stay.1 q i s

    opposed : (l : Mapping) → IsNatural sizes l → AllByRecursion (StaysAt l) gs → (g : Group) → IsGroup width expression view sizes gs g → (q i : ℕ) → Opposed (entry (weights l q) i) (entry (gather q (loads width expression g)) i)
    opposed l natural stay g is q zero = inr (inl (is.offsets q))
    opposed l natural stay g is q (suc i) = go (is.columns q i)
      where
        go : IsBalancedAt width expression sizes gs g q i → Opposed (entry (l.coefficients q) i) (entry (gather q (loads width expression g)) (suc i))
        go (inl s) = inl (lacked l gs groups stay q i s)
        go (inr (inl e)) = inr (inl e)
        go (inr (inr (size, le))) = inr (inr (natural q i size, le))

    -- no mapping that rises at no call of the set falls at the call of a group
    no_fall : (l : Mapping) → IsNatural sizes l → AllByRecursion (StaysAt l) gs → (g : Group) → IsGroup width expression view sizes gs g → Falls l g.first.own → ⊥
    no_fall l natural stay g is (fall, floor) =
        let f = weights l in
        let o = g.first.own in
        let t = g.first.t in
        let w = g.first.w in
        let point = point_of g is in
        let own = fall_value o point 1 l fall t w is.here in
        let turned = call_negated l o t w in
        let rest = all_stay l g.others (others_stand l stay g.others is.others) in
        let last = floor_value l o g.floor point floor is.floor in
        let whole = summed_append f (heads (g.first ∷ g.others)) (calls (g.first ∷ g.others) ++ floor_at width expression o g.floor) in
        let second = summed_append f (calls (g.first ∷ g.others)) (floor_at width expression o g.floor) in
        let low = not_positive f (loads width expression g) (λ q. dot_opposed (f q) (gather q (loads width expression g)) (opposed l natural stay g is q)) in
        let some = is.some in
        omega (arith, ints, own, turned, rest, last, whole, second, low, some)

    -- ---- the least place
    first_mapping : (l : Mapping) (ls : List Mapping) (o : Own) → HasPlace (l ∷ ls) o → Stays l o × (Falls l o ⊎ HasPlace ls o)
    first_mapping l ls o (zero, on) = ((1, on.0), inl on)
    first_mapping l ls o (suc i, (on, rest)) = ((0, on), inr (i, rest))

    abbrev Split : Mapping → List Mapping → List Group → Type 0
    Split l ls hs = AllByRecursion (StaysAt l) hs × (SomeOf (λ (h : Group). Falls l h.first.own) hs ⊎ AllByRecursion (λ (h : Group). HasPlace ls h.first.own) hs)

    add_group : (l : Mapping) (ls : List Mapping) (h : Group) (hs : List Group) → Stays l h.first.own × (Falls l h.first.own ⊎ HasPlace ls h.first.own) → Split l ls hs → Split l ls (h ∷ hs)
    add_group l ls h hs (s, inl f) (stay, rest) = ((s, stay), inl (inl f))
    add_group l ls h hs (s, inr place) (stay, inl f) = ((s, stay), inl (inr f))
    add_group l ls h hs (s, inr place) (stay, inr places) = ((s, stay), inr (place, places))

    split_first : (l : Mapping) (ls : List Mapping) (hs : List Group) → AllByRecursion (λ (h : Group). HasPlace (l ∷ ls) h.first.own) hs → Split l ls hs
    split_first l ls [] places = (tt, inr tt)
    split_first l ls (h ∷ hs) places = add_group l ls h hs (first_mapping l ls h.first.own places.0) (split_first l ls hs places.1)

    split_end : (l : Mapping) (ls : List Mapping) → IsNatural sizes l → (AllByRecursion (λ (h : Group). HasPlace ls h.first.own) gs → ⊥) → Split l ls gs → ⊥
    split_end l ls natural later (stay, inl s) =
        let found = picked (IsGroup width expression view sizes gs) (λ (h : Group). Falls l h.first.own) gs groups s in
        no_fall l natural stay found.0 found.1 found.2
    split_end l ls natural later (stay, inr rest) = later rest

    no_places : (hs : List Group) → SomeOf (λ (h : Group). HasPlace [] h.first.own) hs → ⊥
    no_places [] s = absurd s
    no_places (h ∷ hs) (inl (i, f)) = absurd f
    no_places (h ∷ hs) (inr s) = no_places hs s

    no_list : 1 ≤ length gs → (ls : List Mapping) → AllByRecursion (IsNatural sizes) ls → AllByRecursion (λ (h : Group). HasPlace ls h.first.own) gs → ⊥
    no_list some [] natural places = no_places gs (first_of (λ (h : Group). HasPlace [] h.first.own) gs some places)
    no_list some (l ∷ ls) natural places = split_end l ls natural.0 (λ rest. no_list some ls natural.1 rest) (split_first l ls gs places)

    place_of : (ls : List Mapping) → ListDescends width expression view ls → (o : Own) → IsOwn width expression view o → HasPlace ls o
    place_of ls d o is = from_in (λ (k : Rule). (j : ℕ) (b : Call) (q : ℕ) → slice_get k.body j ≡ Some b → b.place ≡ Member q
        → (i : ℕ) × FallsOver width expression k (system_of width expression k.vars (take j k.body)) q b i ls) view o.rule d is.there o.place o.call o.member is.call is.member

    places_of : (ls : List Mapping) → ListDescends width expression view ls → (hs : List Group) → AllByRecursion (IsGroup width expression view sizes gs) hs → AllByRecursion (λ (h : Group). HasPlace ls h.first.own) hs
    places_of ls d [] is = tt
    places_of ls d (h ∷ hs) is = (place_of ls d h.first.own is.0.own, places_of ls d hs is.1)

pub none_descends : NoneDescends
none_descends width expression view sizes gs ls stuck natural d =
    no_list width expression view sizes gs stuck.groups stuck.some ls natural (places_of width expression view sizes gs stuck.groups ls d gs stuck.groups)
