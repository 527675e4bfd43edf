-- Pairs that ascend: which are among them, and how they are found in front.
use Rattle.std.proofs.Common.{◌≡◌, ℕ, zero, suc, ◌<◌, ◌≤◌, ◌⊎◌, inl, inr, Bool, true, false, ◌||◌, List, [], ◌∷◌, ◌++◌, map, length, take, drop, Some, None, refl, ap, sym, ◌∙◌, subst, arith, eq-eqb, ne_eqb, slice_index_or, append-nil, append_assoc}
use Rattle.std.proofs.lemmas.Bool.{false≢true}
use Rattle.cert_structure.specs.Shape.{IsBefore}
use Rattle.cert_structure.specs.Walk.{is_before, pair_end}
use Rattle.cert_structure.specs.declared.pair.Pair.{Pair}
use Rattle.cert_structure.proofs.PointLemmas.{before_is, before_back}
use Rattle.prove_certificate.specs.declared.fact.ProveFact.{ProveFact}
use Rattle.prove_parts.specs.Shape.{Ascend, is_among, same_pair}
use Rattle.prove_structure.specs.Walk.{group_of, next_pairs, scan}

before_trans : (q r s : ℕ × ℕ) → IsBefore q r → IsBefore r s → IsBefore q s
before_trans q r s (inl h) (inl k) = inl (omega (arith, h, k))
before_trans q r s (inl h) (inr k) = let e = k.0 in inl (omega (arith, h, e))
before_trans q r s (inr h) (inl k) = let e = h.0 in inl (omega (arith, e, k))
before_trans q r s (inr h) (inr k) = let e = h.0 in let d = k.0 in let x = h.1 in let y = k.1 in inr (omega (arith, e, d), omega (arith, x, y))

-- a pair before another is not the same, on either side
apart : (q r : ℕ × ℕ) → IsBefore q r → (same_pair q r ≡ false) × (same_pair r q ≡ false)
apart q r (inl h) = (rw (ne_eqb q.0 r.0 (λ e. absurd (omega (arith, e, h)))) refl, rw (ne_eqb r.0 q.0 (λ e. absurd (omega (arith, e, h)))) refl)
apart q r (inr h) = let e = h.0 in let less = h.1 in (
  rw (eq-eqb q.0 r.0 e, ne_eqb q.1 r.1 (λ e. absurd (omega (arith, e, less)))) refl,
  rw (eq-eqb r.0 q.0 (sym e), ne_eqb r.1 q.1 (λ e. absurd (omega (arith, e, less)))) refl,
)

-- of two pairs that are not the same one is before the other
pub total : (q r : ℕ × ℕ) → is_before r q ≡ false → same_pair q r ≡ false → IsBefore q r
total q r late other = go (nat_cases q.0 r.0)
  where
    nat_cases : (m n : ℕ) → (m < n) ⊎ ((m ≡ n) ⊎ (n < m))
    nat_cases zero zero = inr (inl refl)
    nat_cases zero (suc n) = inl (omega arith)
    nat_cases (suc m) zero = inr (inr (omega arith))
    nat_cases (suc m) (suc n) = up (nat_cases m n)
      where
        up : (m < n) ⊎ ((m ≡ n) ⊎ (n < m)) → (suc m < suc n) ⊎ ((suc m ≡ suc n) ⊎ (suc n < suc m))
        up (inl h) = inl (omega (arith, h))
        up (inr (inl h)) = inr (inl (ap suc h))
        up (inr (inr h)) = inr (inr (omega (arith, h)))

    not_later : IsBefore r q → IsBefore q r
    not_later h = absurd (false≢true (sym late ∙ before_back r q h))

    inner : q.0 ≡ r.0 → (q.1 < r.1) ⊎ ((q.1 ≡ r.1) ⊎ (r.1 < q.1)) → IsBefore q r
    inner e (inl h) = inr (e, h)
    inner e (inr (inl h)) = absurd (false≢true (sym other ∙ rw (eq-eqb q.0 r.0 e, eq-eqb q.1 r.1 h) refl))
    inner e (inr (inr h)) = not_later (inr (sym e, h))

    go : (q.0 < r.0) ⊎ ((q.0 ≡ r.0) ⊎ (r.0 < q.0)) → IsBefore q r
    go (inl h) = inl h
    go (inr (inl e)) = inner e (nat_cases q.1 r.1)
    go (inr (inr h)) = not_later (inl h)

-- pairs that ascend, in two parts around one of them
module _ {A : Type 0} (pair : A → ℕ × ℕ) where
  -- the first pair that ascends is enough
  earlier : (first last : ℕ × ℕ) (xs : List A) → IsBefore first last → Ascend pair last xs → Ascend pair first xs
  earlier first last [] h k = tt
  earlier first last (x ∷ xs) h k = (before_trans first last (pair x) h k.0, k.1)

  pub upper : (last : ℕ × ℕ) (xs : List A) (x : A) (ys : List A) → Ascend pair last (xs ++ x ∷ ys) → IsBefore last (pair x) × Ascend pair (pair x) ys
  upper last [] x ys h = h
  upper last (y ∷ xs) x ys h = let (less, more) = upper (pair y) xs x ys h.1 in (before_trans last (pair y) (pair x) h.0 less, more)

  pub lower : (last : ℕ × ℕ) (xs ys : List A) → Ascend pair last (xs ++ ys) → Ascend pair last xs
  lower last [] ys h = tt
  lower last (x ∷ xs) ys h = (h.0, lower (pair x) xs ys h.1)

  -- none of the pairs after a pair is that one or one before it
  pub none_after : (last q : ℕ × ℕ) (xs : List A) → (q ≡ last) ⊎ IsBefore q last → Ascend pair last xs → is_among (map pair xs) q ≡ false
  none_after last q [] h k = refl
  none_after last q (x ∷ xs) h k =
      let less : IsBefore q (pair x) = through h in
      let (one, other) = apart q (pair x) less in
      rw (one, none_after (pair x) q xs (inr less) k.1) refl
    where
      through : (q ≡ last) ⊎ IsBefore q last → IsBefore q (pair x)
      through (inl e) = subst (λ z. IsBefore z (pair x)) (sym e) k.0
      through (inr less) = before_trans q last (pair x) less k.0

  -- none of the pairs before a pair is that one
  pub none_before : (last q : ℕ × ℕ) (xs : List A) (x : A) (ys : List A) → (q ≡ pair x) ⊎ IsBefore (pair x) q → Ascend pair last (xs ++ x ∷ ys) → is_among (map pair xs) q ≡ false
  none_before last q [] x ys h k = refl
  none_before last q (y ∷ xs) x ys h k =
      let (less, more) = upper (pair y) xs x ys k.1 in
      let far : IsBefore (pair y) q = through less h in
      let (one, other) = apart (pair y) q far in
      rw (other, none_before (pair y) q xs x ys h k.1) refl
    where
      through : IsBefore (pair y) (pair x) → (q ≡ pair x) ⊎ IsBefore (pair x) q → IsBefore (pair y) q
      through less (inl e) = subst (λ z. IsBefore (pair y) z) (sym e) less
      through less (inr far) = before_trans (pair y) (pair x) q less far

or_assoc : (a b c : Bool) → (a || (b || c)) ≡ ((a || b) || c)
or_assoc true b c = refl
or_assoc false b c = refl

among_both : (xs ys : List (ℕ × ℕ)) (q : ℕ × ℕ) → is_among (xs ++ ys) q ≡ (is_among xs q || is_among ys q)
among_both [] ys q = refl
among_both (x ∷ xs) ys q = ap (λ b. same_pair q x || b) (among_both xs ys q) ∙ or_assoc (same_pair q x) (is_among xs q) (is_among ys q)

pub mapped_both : {A B : Type 0} (f : A → B) (xs ys : List A) → map f (xs ++ ys) ≡ map f xs ++ map f ys
mapped_both f [] ys = refl
mapped_both f (x ∷ xs) ys = ap (λ z. f x ∷ z) (mapped_both f xs ys)

-- a pair is among some, where it is one of them
module _ (last : ℕ × ℕ) (rest before after : List Pair) (other : Pair) (q : ℕ × ℕ) (whole : rest ≡ before ++ other ∷ after) (ascend : Ascend pair_end last rest) where
  split_here : Ascend pair_end last (before ++ other ∷ after)
  split_here = subst (λ z. Ascend pair_end last z) whole ascend

  among_parts : is_among (map pair_end rest) q ≡ (is_among (map pair_end before) q || (same_pair q (pair_end other) || is_among (map pair_end after) q))
  among_parts = rw (whole, mapped_both pair_end before (other ∷ after)) (among_both (map pair_end before) (pair_end other ∷ map pair_end after) q)

  pub found : same_pair q (pair_end other) ≡ true → is_among (map pair_end rest) q ≡ true
  found same = among_parts ∙ rw same (go (is_among (map pair_end before) q))
    where
      go : (b : Bool) → (b || true) ≡ true
      go true = refl
      go false = refl

  -- the pairs after a smaller one, and those before a greater one
  pub after_it : same_pair q (pair_end other) ≡ false → is_before (pair_end other) q ≡ true → is_among (map pair_end after) q ≡ is_among (map pair_end rest) q
  after_it same less =
      sym (among_parts ∙ rw (none_before pair_end last q before other after (inr (before_is (pair_end other) q less)) split_here, same) refl)

  pub before_it : same_pair q (pair_end other) ≡ false → is_before (pair_end other) q ≡ false → is_among (map pair_end before) q ≡ is_among (map pair_end rest) q
  before_it same late =
      let (start, more) = upper pair_end last before other after split_here in
      sym (among_parts ∙ rw (same, none_after pair_end (pair_end other) q after (inr (total q (pair_end other) late same)) more) (go (is_among (map pair_end before) q)))
    where
      go : (b : Bool) → (b || false) ≡ b
      go true = refl
      go false = refl

  pub ascend_after : Ascend pair_end last after
  ascend_after = let (start, more) = upper pair_end last before other after split_here in earlier pair_end last (pair_end other) after start more

  pub ascend_before : Ascend pair_end last before
  ascend_before = lower pair_end last before (other ∷ after) split_here

both_halves : {A : Type 0} (n : ℕ) (xs : List A) → take n xs ++ drop n xs ≡ xs
both_halves zero xs = refl
both_halves (suc n) [] = refl
both_halves (suc n) (x ∷ xs) = ap (λ ys. x ∷ ys) (both_halves n xs)

-- the two halves of pairs
pub halves : {A : Type 0} (n : ℕ) (rest before from after : List A) (other : A) → before ≡ take n rest → from ≡ drop n rest → from ≡ other ∷ after → rest ≡ before ++ other ∷ after
halves n rest before from after other front back first = sym (rw (front, ← first, back) (both_halves n rest))

-- the last of some pairs, or a pair before them
abbrev pub last_of : ℕ × ℕ → List Pair → ℕ × ℕ
last_of first [] = first
last_of first (x ∷ xs) = last_of (pair_end x) xs

pub last_more : (first : ℕ × ℕ) (xs : List Pair) (x : Pair) → last_of first (xs ++ x ∷ []) ≡ pair_end x
last_more first [] x = refl
last_more first (y ∷ xs) x = last_more (pair_end y) xs x

pub ascend_more : (first last : ℕ × ℕ) (xs : List Pair) (x : Pair) → last_of first xs ≡ last → is_before last (pair_end x) ≡ true → Ascend pair_end first xs → Ascend pair_end first (xs ++ x ∷ [])
ascend_more first last [] x e less h = (subst (λ q. IsBefore q (pair_end x)) (sym e) (before_is last (pair_end x) less), tt)
ascend_more first last (y ∷ xs) x e less h = (h.0, ascend_more (pair_end y) last xs x e less h.1)

-- the pairs of the groups in front, from one fact on
pub here_drop : {A : Type 0} (i : ℕ) (xs : List A) (x : A) → i < length xs → x ≡ slice_index_or xs i x → drop i xs ≡ x ∷ drop (suc i) xs
here_drop i [] x h e = absurd (omega (arith, h))
here_drop zero (y ∷ xs) x h e = ap (λ z. z ∷ xs) (sym e)
here_drop (suc i) (y ∷ xs) x h e = here_drop i xs x (omega (arith, h)) e

pub scan_end : (last : ℕ × ℕ) (n i : ℕ) (facts : List ProveFact) (qs all : List (ℕ × ℕ)) → length facts ≤ i → qs ++ scan last n (drop i facts) ≡ all → qs ≡ all
unfolding scan
scan_end last n i facts qs all h e = sym (append-nil qs) ∙ ap (λ z. qs ++ scan last n z) (sym (none i facts h)) ∙ e
  where
    none : (i : ℕ) (bs : List ProveFact) → length bs ≤ i → drop i bs ≡ []
    none zero [] h = refl
    none (suc i) [] h = refl
    none zero (c ∷ bs) h = absurd (omega (arith, h))
    none (suc i) (c ∷ bs) h = none i bs (omega (arith, h))

module _ (last : ℕ × ℕ) (n i : ℕ) (facts : List ProveFact) (f : ProveFact) (within : i < length facts) (here : f ≡ slice_index_or facts i f) (qs all : List (ℕ × ℕ))
    (e : qs ++ scan last n (drop i facts) ≡ all) where
  stops : scan last n (f ∷ drop (suc i) facts) ≡ [] → qs ≡ all
  stops none = sym (append-nil qs) ∙ ap (λ z. qs ++ z) (sym none) ∙ ap (λ z. qs ++ scan last n z) (sym (here_drop i facts f within here)) ∙ e

  pub scan_other : group_of f ≡ None → qs ≡ all
  unfolding scan
  scan_other none = stops (rw none refl)

  pub scan_full : (q : ℕ × ℕ) → group_of f ≡ Some (Some q) → n ≡ 0 → qs ≡ all
  unfolding scan
  scan_full q is full = stops (rw (is, full) refl)

  pub scan_late : (q : ℕ × ℕ) → group_of f ≡ Some (Some q) → is_before last q ≡ false → qs ≡ all
  unfolding scan
  scan_late q is late = stops (rw is (go n))
    where
      go : (m : ℕ) → next_pairs (λ q m. scan q m (drop (suc i) facts)) last m (Some (Some q)) ≡ []
      go zero = refl
      go (suc m) = rw late refl

  pub scan_skip : (j : ℕ) → j ≡ suc i → group_of f ≡ Some None → qs ++ scan last n (drop j facts) ≡ all
  unfolding scan
  scan_skip j next is =
      let step : scan last n (f ∷ drop (suc i) facts) ≡ scan last n (drop (suc i) facts) = rw is refl in
      rw next (ap (λ z. qs ++ z) (sym step) ∙ ap (λ z. qs ++ scan last n z) (sym (here_drop i facts f within here)) ∙ e)

  pub scan_more : (j m : ℕ) (q : ℕ × ℕ) → j ≡ suc i → n ≡ suc m → group_of f ≡ Some (Some q) → is_before last q ≡ true → (qs ++ q ∷ []) ++ scan q m (drop j facts) ≡ all
  unfolding scan
  scan_more j m q next some is less =
      let step : scan last n (f ∷ drop (suc i) facts) ≡ q ∷ scan q m (drop (suc i) facts) = rw (is, some, less) refl in
      rw next (append_assoc qs (q ∷ []) (scan q m (drop (suc i) facts)) ∙ ap (λ z. qs ++ z) (sym step) ∙ ap (λ z. qs ++ scan last n z) (sym (here_drop i facts f within here)) ∙ e)
