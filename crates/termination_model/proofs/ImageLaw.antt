-- The rows that elimination leaves of an image's system say what the clause's system says of the head's sizes.
use Rattle.std.proofs.Common.{◌≡◌, ◌≢◌, ℕ, zero, suc, ◌+◌, ◌<◌, ◌≤◌, ℤ, pos, neg_ℤ, ◌+ℤ◌, ◌*ℤ◌, ◌⊎◌, inl, inr, List, [], ◌∷◌, ◌++◌, map, take, drop, length, refl, ap, sym, subst, ◌∙◌, arith}
use Rattle.std.specs.Prelude.{All, ◌≤ℤ◌, ◌↔◌, unsigned_abs}
use Rattle.std.proofs.lemmas.Int.{ints}
use Rattle.std.proofs.lemmas.List.{length-map}
use Rattle.exact128.proofs.Rings.{rings, mul_nonneg}
use Rattle.exact128.specs.Sums.{dot, entry}
use Rattle.linear_rows.specs.Rows.{Holds, AllHold, HoldsOn}
use Rattle.linear_rows.specs.Members.{In, Distinct}
use Rattle.linear_rows.specs.Step.{all_eliminated, columns, HasFloor, Within, Floors}
use Rattle.linear_rows.specs.Solving.{zeros, units}
use Rattle.linear_rows.specs.Systems.{opposite, over_variables, naturals, difference, equalities, image_rows, image_left}
use Rattle.linear_rows.proofs.Members.{from_All, to_All, in-left, in-right, in-map, of-append, of-map}
use Rattle.linear_rows.proofs.Sequence.{all_kept_on, all_back_on}
use Rattle.linear_rows.proofs.Origins.{all_gone}
use Rattle.linear_rows.proofs.Starts.{dot-zeros, entry-zeros, entry-units, entry-units-other}
use Rattle.termination_model.specs.sizes.Rows.{substituted}
use Rattle.termination_model.proofs.ChainHeads.{dot_substituted}

-- ---- sums over one list after another
pub dot_append : (xs ys us vs : List ℤ) → length xs ≡ length us → dot (xs ++ ys) (us ++ vs) ≡ dot xs us +ℤ dot ys vs
unfolding dot
dot_append [] ys [] vs e = omega (arith, ints)
dot_append [] ys (u ∷ us) vs e = absurd (omega arith)
dot_append (x ∷ xs) ys [] vs e = absurd (omega arith)
dot_append (x ∷ xs) ys (u ∷ us) vs e = rw (dot_append xs ys us vs (omega arith)) (omega (arith, ints))

pub map-append : (u v : List ℕ) → map pos (u ++ v) ≡ map pos u ++ map pos v
map-append [] v = refl
map-append (x ∷ u) v = ap (λ l. pos x ∷ l) (map-append u v)

pub length-zeros : (m : ℕ) → length (zeros m) ≡ m
length-zeros zero = refl
length-zeros (suc m) = ap suc (length-zeros m)

pub length-units : (m i : ℕ) → length (units m i) ≡ m
length-units zero i = refl
length-units (suc m) zero = ap suc (length-zeros m)
length-units (suc m) (suc i) = ap suc (length-units m i)

pub dot_opposite : (xs ps : List ℤ) → dot (opposite xs) ps ≡ neg_ℤ (dot xs ps)
unfolding dot
dot_opposite [] ps = refl
dot_opposite (x ∷ xs) [] = refl
dot_opposite (x ∷ xs) (p ∷ ps) = rw (dot_opposite xs ps) (simp rings (omega (arith, ints)))

pub dot_units : (m i : ℕ) (ps : List ℤ) → length ps ≡ m → dot (units m i) ps ≡ entry ps i
unfolding dot
dot_units zero i [] e = refl
dot_units zero i (p ∷ ps) e = absurd (omega arith)
dot_units (suc m) i [] e = absurd (omega arith)
dot_units (suc m) zero (p ∷ ps) e = let z = dot-zeros m ps in omega (arith, ints)
dot_units (suc m) (suc i) (p ∷ ps) e = let r = dot_units m i ps (omega arith) in omega (arith, ints)

-- ---- the system's rows at a point of arguments and variables
module _ (t : ℕ) (x w : List ℕ) where
  abbrev both : List ℤ
  both = pos t ∷ map pos (x ++ w)

  abbrev clause : List ℤ
  clause = pos t ∷ map pos w

  -- a row over the variables does not see the arguments
  over_value : (a : ℕ) (r : List ℤ) → length x ≡ a → dot (over_variables a r) both ≡ dot r clause
  unfolding dot
  over_value a [] e =
      let s = dot_append (zeros a) [] (map pos x) (map pos w) (length-zeros a ∙ sym e ∙ sym (length-map x pos)) in
      let z = dot-zeros a (map pos x) in
      rw (map-append x w) (omega (arith, ints, s, z))
  over_value a (b ∷ cs) e =
      let s = dot_append (zeros a) cs (map pos x) (map pos w) (length-zeros a ∙ sym e ∙ sym (length-map x pos)) in
      let z = dot-zeros a (map pos x) in
      rw (map-append x w) (omega (arith, ints, s, z))

  -- an argument less its expression
  difference_value : (a i : ℕ) (e : List ℤ) → length x ≡ a → dot (difference a i e) both ≡ entry (map pos x) i +ℤ neg_ℤ (dot e clause)
  unfolding dot
  difference_value a i [] l =
      let s = dot_append (units a i) [] (map pos x) (map pos w) (length-units a i ∙ sym l ∙ sym (length-map x pos)) in
      let u = dot_units a i (map pos x) (length-map x pos ∙ l) in
      rw (map-append x w) (omega (arith, ints, s, u))
  difference_value a i (b ∷ cs) l =
      let s = dot_append (units a i) (opposite cs) (map pos x) (map pos w) (length-units a i ∙ sym l ∙ sym (length-map x pos)) in
      let u = dot_units a i (map pos x) (length-map x pos ∙ l) in
      let o = dot_opposite cs (map pos w) in
      let n : neg_ℤ b *ℤ pos t ≡ neg_ℤ (b *ℤ pos t) = simp rings (omega (arith, ints)) in
      rw (map-append x w) (omega (arith, ints, s, u, o, n))

  -- each argument has the value of its expression, from place i on
  abbrev Equal : ℕ → List (List ℤ) → Type 0
  Equal i [] = Unit {0}
  Equal i (e ∷ es) = (entry (map pos x) i ≡ dot e clause) × Equal (suc i) es

  equal_zero : (a b : ℤ) → pos 0 ≤ℤ (a +ℤ neg_ℤ b) → pos 0 ≤ℤ neg_ℤ (a +ℤ neg_ℤ b) → a ≡ b
  equal_zero a b h k = omega (arith, ints)

  to_equal : (a i : ℕ) (es : List (List ℤ)) → length x ≡ a → ((r : List ℤ) → In r (equalities a i es) → pos 0 ≤ℤ dot r both) → Equal i es
  to_equal a i [] l h = tt
  to_equal a i (e ∷ es) l h =
      let d = difference_value a i e l in
      let one = h (difference a i e) (inl refl) in
      let two = h (opposite (difference a i e)) (inr (inl refl)) in
      let o = dot_opposite (difference a i e) both in
      (equal_zero (entry (map pos x) i) (dot e clause) (omega (arith, ints, d)) (omega (arith, ints, d, o)), to_equal a (suc i) es l (λ r j. h r (inr (inr j))))

  of_equal : (a i : ℕ) (es : List (List ℤ)) → length x ≡ a → Equal i es → (r : List ℤ) → In r (equalities a i es) → pos 0 ≤ℤ dot r both
  of_equal a i [] l h r j = absurd j
  of_equal a i (e ∷ es) l h r (inl is) =
      let d = difference_value a i e l in let q = h.0 in
      subst (λ (y : List ℤ). pos 0 ≤ℤ dot y both) is (omega (arith, ints, d, q))
  of_equal a i (e ∷ es) l h r (inr (inl is)) =
      let d = difference_value a i e l in let q = h.0 in let o = dot_opposite (difference a i e) both in
      subst (λ (y : List ℤ). pos 0 ≤ℤ dot y both) is (omega (arith, ints, d, q, o))
  of_equal a i (e ∷ es) l h r (inr (inr j)) = of_equal a (suc i) es l h.1 r j

  -- so the arguments' values are those of the expressions
  equal_list : (i : ℕ) (es : List (List ℤ)) (ys : List ℤ) → length ys ≡ length es → ((j : ℕ) → entry ys j ≡ entry (map pos x) (i + j)) → Equal i es → map (λ e. dot e clause) es ≡ ys
  equal_list i [] [] l h q = refl
  equal_list i [] (y ∷ ys) l h q = absurd (omega arith)
  equal_list i (e ∷ es) [] l h q = absurd (omega arith)
  equal_list i (e ∷ es) (y ∷ ys) l h q =
      let at : i + 0 ≡ i = omega arith in
      let here : dot e clause ≡ y = sym q.0 ∙ ap (entry (map pos x)) (sym at) ∙ sym (h 0) in
      let more = equal_list (suc i) es ys (omega arith) (λ j. let up : i + suc j ≡ suc i + j = omega arith in h (suc j) ∙ ap (entry (map pos x)) up) q.1 in
      λ k. here k ∷ more k

  list_equal : (i : ℕ) (es : List (List ℤ)) (ys : List ℤ) → ((j : ℕ) → entry ys j ≡ entry (map pos x) (i + j)) → map (λ e. dot e clause) es ≡ ys → Equal i es
  list_equal i [] ys h q = tt
  list_equal i (e ∷ es) [] h q = absurd (let l : suc (length (map (λ e. dot e clause) es)) ≡ 0 = ap length q in omega arith)
  list_equal i (e ∷ es) (y ∷ ys) h q =
      let at : i + 0 ≡ i = omega arith in
      let here : dot e clause ≡ y = ap (λ (l : List ℤ). entry l 0) q in
      let rest : map (λ e. dot e clause) es ≡ ys = ap (drop 1) q in
      (sym (here ∙ h 0 ∙ ap (entry (map pos x)) at), list_equal (suc i) es ys (λ j. let up : i + suc j ≡ suc i + j = omega arith in h (suc j) ∙ ap (entry (map pos x)) up) rest)

  -- where the values are those of the expressions, a row over the head is the replaced row
  head_value : (v : ℕ) (head : List (List ℤ)) (r more : List ℤ) → length r ≡ suc (length x) → map (λ e. dot e clause) head ≡ map pos x → ((ps : List ℤ) → dot more ps ≡ pos 0) → dot (r ++ more) both ≡ dot (substituted v head r) clause
  unfolding dot
  head_value v head [] more l q z = absurd (omega arith)
  head_value v head (b ∷ cs) more l q z =
      let s = dot_append cs more (map pos x) (map pos w) (omega (arith, l, length-map x pos)) in
      let e = dot_substituted v head (b ∷ cs) (map pos w) (pos t) ∙ ap (λ (xs : List ℤ). dot (b ∷ cs) (pos t ∷ xs)) q in
      let zz = z (map pos w) in
      rw (map-append x w) (omega (arith, ints, s, e, zz))

-- ---- naturals
pub natural_rows : (v i long t : ℕ) (ps : List ℕ) → length ps ≡ long → (r : List ℤ) → In r (naturals v i long) → Holds r t ps
unfolding dot
natural_rows zero i long t ps l r j = absurd j
natural_rows (suc v) i long t ps l r (inl is) =
    let u = dot_units long i (map pos ps) (length-map ps pos ∙ l) in
    let n = natural_entry ps i in
    subst (λ (y : List ℤ). Holds y t ps) is (omega (arith, ints, u, n))
  where
    natural_entry : (ps : List ℕ) (i : ℕ) → pos 0 ≤ℤ entry (map pos ps) i
    natural_entry [] i = omega (arith, ints)
    natural_entry (p ∷ ps) zero = omega (arith, ints)
    natural_entry (p ∷ ps) (suc i) = natural_entry ps i
natural_rows (suc v) i long t ps l r (inr j) = natural_rows v (suc i) long t ps l r j

-- ---- the columns that are eliminated
pub in_columns : (k n j : ℕ) → In j (columns k n) → (k ≤ j) × (j < k + n)
in_columns k zero j h = absurd h
in_columns k (suc n) j (inl is) = (omega arith, omega arith)
in_columns k (suc n) j (inr h) = let r = in_columns (suc k) n j h in (omega (arith, r.0), omega (arith, r.1))

pub of_columns : (k n j : ℕ) → k ≤ j → j < k + n → In j (columns k n)
of_columns k zero j a b = absurd (omega arith)
of_columns k (suc n) j a b = elim (same_or_more k j a) [ inl is ↦ inl is | inr lt ↦ inr (of_columns (suc k) n j lt (omega arith)) ]
  where
    same_or_more : (k j : ℕ) → k ≤ j → (k ≡ j) ⊎ (suc k ≤ j)
    same_or_more k j a = search arith

pub distinct_columns : (k n : ℕ) → Distinct (columns k n)
distinct_columns k zero = tt
distinct_columns k (suc n) = (λ x i e. let r = in_columns (suc k) n x i in let l = r.0 in omega arith, distinct_columns (suc k) n)

pub floor_row : (m long i : ℕ) → i < long → Floors m (suc i) (pos 0 ∷ units long i)
floor_row m long i l = record {
  rises = let e = entry-units long i l in omega (arith, ints, e);
  others = λ j a b ne. other j a ne;
  low = omega (arith, ints);
}
  where
    other : (j : ℕ) → 1 ≤ j → j ≢ suc i → entry (pos 0 ∷ units long i) j ≡ pos 0
    other zero a ne = absurd (omega arith)
    other (suc j) a ne = entry-units-other long i j (λ e. ne (ap suc e))

pub in_naturals : (v i long j : ℕ) → i ≤ j → j < i + v → In (pos 0 ∷ units long j) (naturals v i long)
in_naturals zero i long j a b = absurd (omega arith)
in_naturals (suc v) i long j a b = elim (same_or_more i j a) [ inl is ↦ inl (ap (λ k. pos 0 ∷ units long k) is) | inr lt ↦ inr (in_naturals v (suc i) long j lt (omega arith)) ]
  where
    same_or_more : (k j : ℕ) → k ≤ j → (k ≡ j) ⊎ (suc k ≤ j)
    same_or_more k j a = search arith

-- ---- rows without the columns past a
past : List ℤ → ℕ → ℕ → Type 0
past r a m = (j : ℕ) → suc a ≤ j → j ≤ m → entry r j ≡ pos 0

dot_gone : (r : List ℤ) (ps : List ℤ) → ((j : ℕ) → j < length ps → entry r j ≡ pos 0) → dot r ps ≡ pos 0
unfolding dot
dot_gone [] ps h = refl
dot_gone (x ∷ r) [] h = refl
dot_gone (x ∷ r) (p ∷ ps) h =
    let here = h 0 (omega arith) in
    let more = dot_gone r ps (λ j l. h (suc j) (omega arith)) in
    rw (here, more) (omega (arith, ints))

-- the first numbers of such a row say it all
pub short_value : (k : ℕ) (r us vs : List ℤ) → length us ≡ k → ((j : ℕ) → k ≤ j → j < k + length vs → entry r j ≡ pos 0) → dot r (us ++ vs) ≡ dot (take k r) us
unfolding dot
short_value zero r [] vs e h = dot_gone r vs (λ j l. h j (omega arith) (omega arith)) ∙ none r
  where
    none : (r : List ℤ) → pos 0 ≡ dot (take 0 r) []
    none r = refl
short_value zero r (u ∷ us) vs e h = absurd (omega arith)
short_value (suc k) [] us vs e h = refl
short_value (suc k) (x ∷ r) [] vs e h = absurd (omega arith)
short_value (suc k) (x ∷ r) (u ∷ us) vs e h = ap (λ z. x *ℤ u +ℤ z) (short_value k r us vs (omega arith) (λ j a b. h (suc j) (omega arith) (omega arith)))

pub split_at : (k m : ℕ) (ps : List ℕ) → length ps ≡ k + m → (u : List ℕ) × (v : List ℕ) × (ps ≡ u ++ v) × (length u ≡ k) × (length v ≡ m)
split_at zero m ps e = ([], ps, refl, refl, omega arith)
split_at (suc k) m [] e = absurd (omega arith)
split_at (suc k) m (p ∷ ps) e =
    let r = split_at k m ps (omega arith) in
    (p ∷ r.0, r.1, ap (λ l. p ∷ l) r.2, ap suc r.3, r.4)

abbrev pub naught : ℕ → List ℕ
naught zero = []
naught (suc n) = 0 ∷ naught n

pub length-naught : (n : ℕ) → length (naught n) ≡ n
length-naught zero = refl
length-naught (suc n) = ap suc (length-naught n)

pub length_append : {X : Type 0} (xs ys : List X) → length (xs ++ ys) ≡ length xs + length ys
length_append [] ys = omega arith
length_append (x ∷ xs) ys = let r = length_append xs ys in omega (arith, r)

pub of_abs : (z : ℤ) → pos 0 ≤ℤ z → z ≡ pos (unsigned_abs z)
of_abs z h = omega (arith, ints)

pub dot_natural : (xs : List ℤ) (ps : List ℕ) → All (λ x. pos 0 ≤ℤ x) xs → pos 0 ≤ℤ dot xs (map pos ps)
unfolding dot
dot_natural [] ps h = omega (arith, ints)
dot_natural (x ∷ xs) [] h = omega (arith, ints)
dot_natural (x ∷ xs) (p ∷ ps) h =
    let here = mul_nonneg x (pos p) (h 0 x (omega arith)) (omega (arith, ints)) in
    let more = dot_natural xs ps (λ k d l. h (suc k) d (omega arith)) in
    omega (arith, ints)

sizes_are : (es : List (List ℤ)) → All (λ r. All (λ x. pos 0 ≤ℤ x) r) es → (t : ℕ) (w : List ℕ) → map (λ e. dot e (pos t ∷ map pos w)) es ≡ map pos (map (λ e. unsigned_abs (dot e (pos t ∷ map pos w))) es)
sizes_are [] h t w = refl
sizes_are (e ∷ es) h t w =
    let here = of_abs (dot e (pos t ∷ map pos w)) (dot_natural e (t ∷ w) (h 0 e (omega arith))) in
    let more = sizes_are es (λ k d l. h (suc k) d (omega arith)) t w in
    λ i. here i ∷ more i

module _ (v : ℕ) (head body : List (List ℤ)) (natural : All (λ r. All (λ x. pos 0 ≤ℤ x) r) head) (r : List ℤ) (long : length r ≡ suc (length head)) where
  abbrev a : ℕ
  a = length head

  abbrev rows : List (List ℤ)
  rows = image_rows v head body

  abbrev ks : List ℕ
  ks = columns (suc a) v

  abbrev q : List ℤ
  q = r ++ zeros v

  within : Within (a + v) ks
  within k i = let c = in_columns (suc a) v k i in (omega (arith, c.0), omega (arith, c.1))

  floors : (k : ℕ) → In k ks → HasFloor (a + v) k rows
  floors k i = go k (in_columns (suc a) v k i)
    where
      go : (k : ℕ) → (suc a ≤ k) × (k < suc a + v) → HasFloor (a + v) k rows
      go zero c = absurd (let l = c.0 in omega arith)
      go (suc k) c = record {
        row = pos 0 ∷ units (a + v) k;
        here = in-left (naturals v a (a + v) ++ equalities a 0 head) (map (over_variables a) body) (pos 0 ∷ units (a + v) k)
            (in-left (naturals v a (a + v)) (equalities a 0 head) (pos 0 ∷ units (a + v) k) (in_naturals v a (a + v) k (let l = c.0 in omega arith) (let l = c.1 in omega arith)));
        floors = floor_row (a + v) (a + v) k (let l = c.1 in omega arith);
      }

  entry_past : (r : List ℤ) (n j : ℕ) → length r ≤ j → entry (r ++ zeros n) j ≡ pos 0
  entry_past [] n j l = entry-zeros n j
  entry_past (x ∷ r) n zero l = absurd (omega arith)
  entry_past (x ∷ r) n (suc j) l = entry_past r n j (omega arith)

  q_gone : (k : ℕ) → In k ks → entry q k ≡ pos 0
  q_gone k i = let c = in_columns (suc a) v k i in let l = c.0 in entry_past r v k (omega arith)

  q_value : (t : ℕ) (x w : List ℕ) → length x ≡ a → dot q (pos t ∷ map pos (x ++ w)) ≡ dot r (pos t ∷ map pos x)
  q_value t x w l = ap (λ (ps : List ℤ). dot q (pos t ∷ ps)) (map-append x w) ∙ dot_append r (zeros v) (pos t ∷ map pos x) (map pos w) (omega (arith, long, length-map x pos)) ∙ rest
    where
      rest : dot r (pos t ∷ map pos x) +ℤ dot (zeros v) (map pos w) ≡ dot r (pos t ∷ map pos x)
      rest = let z = dot-zeros v (map pos w) in omega (arith, ints, z)

  -- the rows hold where the arguments have the sizes of the head and the body's rows hold
  rows_hold : (t : ℕ) (x w : List ℕ) → length x ≡ a → length w ≡ v → map (λ e. dot e (pos t ∷ map pos w)) head ≡ map pos x → AllHold body t w → AllHold rows t (x ++ w)
  rows_hold t x w lx lw same hold =
      to_All (λ (y : List ℤ). Holds y t (x ++ w)) rows (λ y i. elim (of-append (naturals v a (a + v) ++ equalities a 0 head) (map (over_variables a) body) y i) [
        | inl j ↦ elim (of-append (naturals v a (a + v)) (equalities a 0 head) y j) [
          | inl n ↦ natural_rows v a (a + v) t (x ++ w) (length_append x w ∙ omega arith) y n
          | inr e ↦ of_equal t x w a 0 head lx (list_equal t x w 0 head (map pos x) (λ j. ap (entry (map pos x)) (omega arith)) same) y e
        ]
        | inr b ↦
            let m = of-map (over_variables a) body y b in
            let o = over_value t x w a m.0 lx in
            let h = from_All (λ (z : List ℤ). Holds z t w) body m.0 hold m.1 in
            subst (λ (z : List ℤ). Holds z t (x ++ w)) m.2 (omega (arith, ints, o, h))
      ])

  -- and where they hold, so it is
  rows_tell : (t : ℕ) (x w : List ℕ) → length x ≡ a → AllHold rows t (x ++ w) → (map (λ e. dot e (pos t ∷ map pos w)) head ≡ map pos x) × AllHold body t w
  rows_tell t x w lx hold =
      let Here : List ℤ → Type 0 = λ y. Holds y t (x ++ w) in
      let equal = to_equal t x w a 0 head lx (λ y i. from_All Here rows y hold (in-left (naturals v a (a + v) ++ equalities a 0 head) (map (over_variables a) body) y (in-right (naturals v a (a + v)) (equalities a 0 head) y i))) in (
        equal_list t x w 0 head (map pos x) (length-map x pos ∙ lx) (λ j. ap (entry (map pos x)) (omega arith)) equal,
        to_All (λ (z : List ℤ). Holds z t w) body (λ z i.
            let o = over_value t x w a z lx in
            let h = from_All Here rows (over_variables a z) hold (in-right (naturals v a (a + v) ++ equalities a 0 head) (map (over_variables a) body) (over_variables a z) (in-map (over_variables a) body z i)) in
            omega (arith, ints, o, h)),
      )

  -- on the system: exactly where the replaced row holds on the body
  on_system : HoldsOn (suc (a + v)) rows q ↔ HoldsOn (suc v) body (substituted v head r)
  on_system = (there, back)
    where
      there : HoldsOn (suc (a + v)) rows q → HoldsOn (suc v) body (substituted v head r)
      there h t w some lw hold =
          let x : List ℕ = map (λ e. unsigned_abs (dot e (pos t ∷ map pos w))) head in
          let lx : length x ≡ a = length-map head (λ e. unsigned_abs (dot e (pos t ∷ map pos w))) in
          let same = sizes_are head natural t w in
          let is = h t (x ++ w) some (let l = length_append x w in omega (arith, l, lx)) (rows_hold t x w lx (omega arith) same hold) in
          let e = head_value t x w v head r (zeros v) (omega (arith, long, lx)) same (λ ps. dot-zeros v ps) in
          subst (λ (z : ℤ). pos 0 ≤ℤ z) e is

      back : HoldsOn (suc v) body (substituted v head r) → HoldsOn (suc (a + v)) rows q
      back h t ps some lp hold =
          let s = split_at a v ps (omega arith) in
          let x = s.0 in
          let w = s.1 in
          let there : AllHold rows t (x ++ w) = subst (λ (l : List ℕ). AllHold rows t l) s.2 hold in
          let told = rows_tell t x w s.3 there in
          let e = head_value t x w v head r (zeros v) (let l = s.3 in omega (arith, long, l)) told.0 (λ ps. dot-zeros v ps) in
          let is = h t w some (let l = s.4 in omega arith) told.1 in
          subst (λ (l : List ℕ). pos 0 ≤ℤ dot q (pos t ∷ map pos l)) (sym s.2) (subst (λ (z : ℤ). pos 0 ≤ℤ z) (sym e) is)

  -- on the rows left, cut to the arguments: exactly where the longer row holds on them
  on_left : HoldsOn (suc a) (image_left v head body) r ↔ HoldsOn (suc (a + v)) (all_eliminated (a + v) ks rows) q
  on_left = (there, back)
    where
      left : List (List ℤ)
      left = all_eliminated (a + v) ks rows

      gone : (y : List ℤ) → In y left → (j : ℕ) → suc a ≤ j → j < suc a + v → entry y j ≡ pos 0
      gone y i j l m = all_gone (a + v) ks j rows (λ k c. (within k c).1) (of_columns (suc a) v j l m) y i

      cut_value : (y : List ℤ) → In y left → (t : ℕ) (x w : List ℕ) → length x ≡ a → length w ≡ v → dot y (pos t ∷ map pos (x ++ w)) ≡ dot (take (suc a) y) (pos t ∷ map pos x)
      cut_value y i t x w lx lw = ap (λ (ps : List ℤ). dot y (pos t ∷ ps)) (map-append x w)
          ∙ short_value (suc a) y (pos t ∷ map pos x) (map pos w) (ap suc (length-map x pos ∙ lx)) (λ j l m. gone y i j l (let k = length-map w pos in omega arith))

      there : HoldsOn (suc a) (image_left v head body) r → HoldsOn (suc (a + v)) left q
      there h t ps some lp hold =
          let s = split_at a v ps (omega arith) in
          let x = s.0 in
          let w = s.1 in
          let whole : AllHold left t (x ++ w) = subst (λ (l : List ℕ). AllHold left t l) s.2 hold in
          let cut : AllHold (image_left v head body) t x = to_All (λ (z : List ℤ). Holds z t x) (image_left v head body) (λ z i.
          let m = of-map (take (suc a)) left z i in
          let e = cut_value m.0 m.1 t x w s.3 s.4 in
          subst (λ (y : List ℤ). Holds y t x) m.2 (subst (λ (n : ℤ). pos 0 ≤ℤ n) e (from_All (λ (y : List ℤ). Holds y t (x ++ w)) left m.0 whole m.1))) in
          let is = h t x some (let l = s.3 in omega arith) cut in
          subst (λ (l : List ℕ). pos 0 ≤ℤ dot q (pos t ∷ map pos l)) (sym s.2) (subst (λ (n : ℤ). pos 0 ≤ℤ n) (sym (q_value t x w s.3)) is)

      back : HoldsOn (suc (a + v)) left q → HoldsOn (suc a) (image_left v head body) r
      back h t x some lx cut =
          let w = naught v in
          let lw = length-naught v in
          let l : length x ≡ a = omega arith in
          let whole : AllHold left t (x ++ w) = to_All (λ (y : List ℤ). Holds y t (x ++ w)) left (λ y i.
          let e = cut_value y i t x w l lw in
          subst (λ (n : ℤ). pos 0 ≤ℤ n) (sym e) (from_All (λ (z : List ℤ). Holds z t x) (image_left v head body) (take (suc a) y) cut (in-map (take (suc a)) left y i))) in
          let is = h t (x ++ w) some (let k = length_append x w in omega (arith, k, l, lw)) whole in
          subst (λ (n : ℤ). pos 0 ≤ℤ n) (q_value t x w l) is

  -- the rows left say what the clause's system says of the head's sizes
  pub image_same : HoldsOn (suc a) (image_left v head body) r ↔ HoldsOn (suc v) body (substituted v head r)
  image_same =
      let up : a + v + 1 ≡ suc (a + v) = omega arith in
      let Two : ℕ → Type 0 = λ n. HoldsOn n (all_eliminated (a + v) ks rows) q ↔ HoldsOn n rows q in
      let same : Two (suc (a + v)) = subst Two up (all_back_on (a + v) ks rows q within, all_kept_on (a + v) ks rows q (distinct_columns (suc a) v) within floors q_gone) in
      (λ h. on_system.0 (same.0 (on_left.0 h)), λ h. on_left.1 (same.1 (on_system.1 h)))
