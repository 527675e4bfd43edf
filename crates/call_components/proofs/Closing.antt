-- The last segment, all of whose calls were followed, is closed as a component.
use Rattle.std.proofs.Common.{◌≡◌, ℕ, ◌+◌, ◌<◌, ◌≤◌, ◌⊎◌, ◌↔◌, inl, inr, Bool, true, false, nat_le, if◌then◌else◌, List, ◌∷◌, length, take, slice_get, Some, refl, ap, sym, subst, ◌∙◌, arith, length-take-le, leb-true, leb-false, le-leb, le_of_lt}
use Rattle.std.proofs.lemmas.Bool.{cases_lt, lt-leb}
use Rattle.std.proofs.lemmas.Option.{slice_get_within}
use Rattle.call_components.specs.Calls.{Reaches}
use Rattle.call_components.specs.Marked.{IsSettled, closed_from}
use Rattle.call_components.specs.Search.{IsSegment, AreSegments, IsFollowed, IsState}
use Rattle.call_components.specs.declared.marks.Mark.{Mark}
use Rattle.call_components.specs.declared.marks.Mark.TheVariants.{Unseen, Open, Closed}
use Rattle.call_components.specs.declared.search.Segment.{Segment}
use Rattle.call_components.proofs.Lists.{slice_get-take, taken_at, all_map}
use Rattle.call_components.proofs.Steps.{same_place, same_number, segments_stay, reaches_last}

-- what a closed mark was
pub was_open_below : (f n : ℕ) (m : Mark) (i : ℕ) → closed_from f n m ≡ Open i → (m ≡ Open i) × (i < f)
was_open_below f n Unseen i e = cc
was_open_below f n (Closed k) i e = cc
was_open_below f n (Open j) i e = go (nat_le f j) refl e
  where
    go : (t : Bool) → nat_le f j ≡ t → (if t then Closed n else Open j) ≡ Open i → (Open j ≡ Open i) × (i < f)
    go true l e = cc
    go false l e = let below : j < f = leb-false f j l in (e, subst (λ (k : ℕ). k < f) (same_place j i e) below)

pub was_closed_or_open : (f n : ℕ) (m : Mark) (k : ℕ) → closed_from f n m ≡ Closed k → (m ≡ Closed k) ⊎ ((k ≡ n) × ((i : ℕ) × (m ≡ Open i) × (f ≤ i)))
was_closed_or_open f n Unseen k e = cc
was_closed_or_open f n (Closed j) k e = inl e
was_closed_or_open f n (Open j) k e = go (nat_le f j) refl e
  where
    go : (t : Bool) → nat_le f j ≡ t → (if t then Closed n else Open j) ≡ Closed k → (Open j ≡ Closed k) ⊎ ((k ≡ n) × ((i : ℕ) × (Open j ≡ Open i) × (f ≤ i)))
    go true l e = inr (sym (same_number n k e), (j, refl, leb-true f j l))
    go false l e = cc

pub closes : (f n i : ℕ) → f ≤ i → closed_from f n (Open i) ≡ Closed n
closes f n i l = ap (λ (t : Bool). if t then Closed n else Open i) (le-leb f i l)

pub stays_open : (f n i : ℕ) → i < f → closed_from f n (Open i) ≡ Open i
stays_open f n i l = ap (λ (t : Bool). if t then Closed n else Open i) (lt-leb f i l)

-- what is settled stays so
pub settled_closed : (g f n : ℕ) (m : Mark) → IsSettled g m → IsSettled g (closed_from f n m)
settled_closed g f n Unseen h = h
settled_closed g f n (Closed k) h = h
settled_closed g f n (Open i) h = go (nat_le f i)
  where
    go : (t : Bool) → IsSettled g (if t then Closed n else Open i)
    go true = tt
    go false = h

module _ (calls : ℕ → ℕ → Type 0) (mark new : ℕ → Mark) (row w : List ℕ) (s : Segment) (ss : List Segment) (n : ℕ)
    (st : IsState calls mark (λ _. ⊥) row w (s ∷ ss) n) (done : length w ≤ s.waiting)
    (changed : (a : ℕ) → new a ≡ closed_from s.first n (mark a)) where
  seg : IsSegment calls mark w s (length row) (length w)
  seg = st.cut.0

  now_closed : (a i : ℕ) → mark a ≡ Open i → s.first ≤ i → new a ≡ Closed n
  now_closed a i e l = changed a ∙ ap (closed_from s.first n) e ∙ closes s.first n i l

  open_stays : (a i : ℕ) → i < s.first → mark a ≡ Open i → new a ≡ Open i
  open_stays a i l e = changed a ∙ ap (closed_from s.first n) e ∙ stays_open s.first n i l

  closed_stays : (a k : ℕ) → mark a ≡ Closed k → new a ≡ Closed k
  closed_stays a k e = changed a ∙ ap (closed_from s.first n) e

  was_open : (a i : ℕ) → new a ≡ Open i → (mark a ≡ Open i) × (i < s.first)
  was_open a i e = was_open_below s.first n (mark a) i (sym (changed a) ∙ e)

  was_closed : (a k : ℕ) → new a ≡ Closed k → (mark a ≡ Closed k) ⊎ ((k ≡ n) × ((i : ℕ) × (mark a ≡ Open i) × (s.first ≤ i)))
  was_closed a k e = was_closed_or_open s.first n (mark a) k (sym (changed a) ∙ e)

  shorter : length (take s.first row) ≡ s.first
  shorter = length-take-le s.first row (let first : s.first < length row = seg.first in le_of_lt first)

  ended : s.waiting ≡ length w
  ended = let start : s.waiting ≤ length w = seg.start in omega arith

  row_places : (a i : ℕ) → (new a ≡ Open i) ↔ (slice_get (take s.first row) i ≡ Some a)
  row_places a i = (to, from)
    where
      to : new a ≡ Open i → slice_get (take s.first row) i ≡ Some a
      to e = let was = was_open a i e in slice_get-take s.first row i was.1 ∙ (st.places a i).0 was.0

      from : slice_get (take s.first row) i ≡ Some a → new a ≡ Open i
      from e = let was = taken_at s.first row i a e in open_stays a i was.0 ((st.places a i).1 was.1)

  -- a call of what is closed now leads to what is closed
  new_callee : (a c i : ℕ) → mark a ≡ Open i → s.first ≤ i → calls a c → (j : ℕ) × (new c ≡ Closed j) × (j ≤ n)
  new_callee a c i e low call = go (st.followed.0 a c i e low call)
    where
      at : (m : Mark) → mark c ≡ m → IsSettled s.first m → (j : ℕ) × (new c ≡ Closed j) × (j ≤ n)
      at Unseen is h = absurd h
      at (Open j) is h = (n, now_closed c j is h, omega arith)
      at (Closed j) is h = (j, closed_stays c j is, le_of_lt (st.closed.below c j is))

      go : ⊥ ⊎ (((x : ℕ) × (s.waiting ≤ x) × (slice_get w x ≡ Some c)) ⊎ IsSettled s.first (mark c)) → (j : ℕ) × (new c ≡ Closed j) × (j ≤ n)
      go (inl none) = absurd none
      go (inr (inl (x, l, e))) = absurd (let inside : x < length w = slice_get_within w x c e in omega arith)
      go (inr (inr h)) = at (mark c) refl h

  pub closing : IsState calls new (λ _. ⊥) (take s.first row) w ss (n + 1)
  closing = record {
    places = row_places;
    earlier = λ a x i j ea ex l. st.earlier a x i j (was_open a i ea).0 (was_open x j ex).0 l;
    cut = subst (λ (u : ℕ). AreSegments calls new w u (length w) ss) (sym shorter) (subst (λ (v : ℕ). AreSegments calls new w s.first v ss) ended
        (segments_stay calls mark new w w s.first s.waiting ss (λ a i l e. open_stays a i l e) (λ a i _ e. (was_open a i e).0) (λ x _. refl) st.cut.1));
    followed = all_map (IsFollowed calls mark (λ _. ⊥) w) (IsFollowed calls new (λ _. ⊥) w) follow ss st.followed.1;
    closed = record {
      callees = λ a c i e call. callee a c i (was_closed a i e) call;
      together = λ a c i ea ec. same a c i (was_closed a i ea) (was_closed c i ec);
      below = λ a i e. bound a i (was_closed a i e);
      used = λ i l. user i (cases_lt i n) l;
    };
  }
    where
      follow : (t : Segment) → IsFollowed calls mark (λ _. ⊥) w t → IsFollowed calls new (λ _. ⊥) w t
      follow t f a c i e low call =
          elim (f a c i (was_open a i e).0 low call) [
            | inl none ↦ absurd none
            | inr (inl k) ↦ inr (inl k)
            | inr (inr h) ↦ inr (inr (subst (IsSettled t.first) (sym (changed c)) (settled_closed t.first s.first n (mark c) h)))
          ]

      callee : (a c k : ℕ) → (mark a ≡ Closed k) ⊎ ((k ≡ n) × ((i : ℕ) × (mark a ≡ Open i) × (s.first ≤ i))) → calls a c → (j : ℕ) × (new c ≡ Closed j) × (j ≤ k)
      callee a c k (inl old) call = let d = st.closed.callees a c k old call in (d.0, closed_stays c d.0 d.1, d.2)
      callee a c k (inr (it, (i, e, low))) call = let d = new_callee a c i e low call in (d.0, d.1, subst (λ (x : ℕ). d.0 ≤ x) (sym it) d.2)

      same : (a c k : ℕ) → (mark a ≡ Closed k) ⊎ ((k ≡ n) × ((i : ℕ) × (mark a ≡ Open i) × (s.first ≤ i))) → (mark c ≡ Closed k) ⊎ ((k ≡ n) × ((i : ℕ) × (mark c ≡ Open i) × (s.first ≤ i))) → Reaches calls a c
      same a c k (inl ea) (inl ec) = st.closed.together a c k ea ec
      same a c k (inl ea) (inr (it, _)) = absurd (let below : k < n = st.closed.below a k ea in omega arith)
      same a c k (inr (it, _)) (inl ec) = absurd (let below : k < n = st.closed.below c k ec in omega arith)
      same a c k (inr (_, (i, ea, _))) (inr (_, (j, ec, low))) = reaches_last calls mark (λ _. ⊥) row w s ss n st a c i j ea ec low

      bound : (a k : ℕ) → (mark a ≡ Closed k) ⊎ ((k ≡ n) × ((i : ℕ) × (mark a ≡ Open i) × (s.first ≤ i))) → k < n + 1
      bound a k (inl old) = let below : k < n = st.closed.below a k old in omega arith
      bound a k (inr (it, _)) = omega arith

      user : (k : ℕ) → (k < n) ⊎ (n ≤ k) → k < n + 1 → (a : ℕ) × (new a ≡ Closed k)
      user k (inl l) h = let d = st.closed.used k l in (d.0, closed_stays d.0 k d.1)
      user k (inr l) h =
          let it : n ≡ k = omega arith in
          (seg.root, now_closed seg.root s.first seg.at (omega arith) ∙ ap Closed it)
