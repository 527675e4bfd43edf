-- What each step of the search keeps.
use Rattle.std.proofs.Common.{◌≡◌, ℕ, zero, suc, ◌+◌, ◌<◌, ◌≤◌, ◌^◌, Bool, true, false, nat_lt, if◌then◌else◌, List, [], ◌∷◌, ◌++◌, length, reverse, take, drop, replicate, set, get_or, slice_get, Some, refl, ap, sym, subst, ◌∙◌, arith, length-append, length-set, get_or-set_same, get_or-set_other, ◌-◌, map, All, option_map, nat_le}
use Rattle.std.specs.List.{AllByRecursion}
use Rattle.std.proofs.lemmas.List.{reverse-append, length-replicate}
use Rattle.std.proofs.lemmas.Option.{slice_get_within, slice_get-map, slice_get-get_or, get_or_from_slice_get}
use Rattle.cti_terms.specs.declared.predicates.PredId.{PredId}
use Rattle.call_components.specs.Numbers.{number_of}
use Rattle.call_components.specs.Marked.{mark_of, IsSeen, unseen, closed_by, closed_from}
use Rattle.call_components.specs.Search.{IsSegment, joined, IsSearch, Lead, KeepsSeen, steps}
use Rattle.call_components.specs.Table.{HasCall, AreWithin}
use Rattle.call_components.specs.declared.marks.Mark.{Mark}
use Rattle.call_components.specs.declared.marks.Mark.TheVariants.{Unseen, Open, Closed}
use Rattle.call_components.specs.declared.search.Segment.{Segment}
use Rattle.call_components.proofs.Closing.{closing}
use Rattle.call_components.proofs.Lists.{slice_get-append_right, slice_get-drop}
use Rattle.call_components.proofs.MarkLaws.{open_within, unseen-set, unseen-closed, length-closed_by, closed_by-from, mark_of-replicate, unseen-replicate}
use Rattle.call_components.proofs.Steps.{popped, joining, passing, opened}

-- each callee of a table is one of its predicates
pub callee_within : (n : ℕ) (rows : List (List ℕ)) → AreWithin n rows → (a b : ℕ) → HasCall rows a b → b < n
callee_within n [] all a b (k, e) = cc
callee_within n (row ∷ rows) all zero b (k, e) = in_row row k all.0 e
  where
    in_row : (xs : List ℕ) (k : ℕ) → AllByRecursion (λ b. b < n) xs → slice_get xs k ≡ Some b → b < n
    in_row [] k all e = cc
    in_row (x ∷ xs) zero all e = let it : x ≡ b = cc in subst (λ y. y < n) it all.0
    in_row (x ∷ xs) (suc k) all e = in_row xs k all.1 e
callee_within n (row ∷ rows) all (suc a) b h = callee_within n rows all.1 a b h

-- the first step
pub starts : (rows : List (List ℕ)) → AreWithin (length rows) rows → length rows < 2 ^ 32 → IsSearch rows (λ _. ⊥) (replicate (length rows) Unseen) [] [] [] 0
starts rows within few = record {
  each = length-replicate (length rows) Unseen;
  within = within;
  few = few;
  room = omega (arith, unseen-replicate rows);
  state = record {
    places = λ a i. (λ e. none a (Open i) e (λ k. cc), λ e. cc);
    earlier = λ a b i j e _ _. none a (Open i) e (λ k. cc);
    cut = (refl, refl);
    followed = tt;
    closed = record {
      callees = λ a b i e _. none a (Closed i) e (λ k. cc);
      together = λ a b i e _. none a (Closed i) e (λ k. cc);
      below = λ a i e. none a (Closed i) e (λ k. cc);
      used = λ i l. absurd (omega arith);
    };
  };
}
  where
    none : {P : Type 0} (a : ℕ) (m : Mark) → mark_of (replicate (length rows) Unseen) a ≡ m → (Unseen ≡ m → P) → P
    none a m e f = f (sym (mark_of-replicate (length rows) a) ∙ e)

module _ (rows : List (List ℕ)) (marks : List Mark) (row w : List ℕ) (n : ℕ) where
  -- the next call of the last segment
  pub pops : (w' : List ℕ) (b : ℕ) (s : Segment) (ss : List Segment) → IsSearch rows (λ _. ⊥) marks row w (s ∷ ss) n
      → w ≡ w' ++ b ∷ [] → s.waiting ≤ length w'
      → IsSearch rows (λ a. a ≡ b) marks row w' (s ∷ ss) n × Lead rows marks b × (b < length rows) × (steps rows marks w' (s ∷ ss) + 1 ≡ steps rows marks w (s ∷ ss))
  pops w' b s ss h e low =
      let next = popped (HasCall rows) (mark_of marks) row w w' b s ss n h.state e low in
      let longer : length w ≡ length w' + 1 = ap length e ∙ length-append w' (b ∷ []) in
      let seg : IsSegment (HasCall rows) (mark_of marks) w s (length row) (length w) = h.state.cut.0 in
      let last : slice_get w (length w') ≡ Some b = ap (λ (v : List ℕ). slice_get v (length w')) e ∙ slice_get-append_right w' (b ∷ []) (length w') 0 (omega arith) in
      let caller = seg.called (length w') b low (omega arith) last in
      (record { each = h.each; within = h.within; few = h.few; room = h.room; state = next.0 }, next.1, callee_within (length rows) rows h.within caller.0 b caller.5, omega arith)

  module _ (b : ℕ) (ss : List Segment) (h : IsSearch rows (λ a. a ≡ b) marks row w ss n) (lead : Lead rows marks b) where
    fewer : (j : ℕ) (ts : List Segment) → length (joined j ts) ≤ length ts
    fewer j [] = omega arith
    fewer j (t ∷ ts) = go (nat_lt j t.first) (fewer j ts)
      where
        go : (x : Bool) → length (joined j ts) ≤ length ts → length (if x then joined j ts else t ∷ ts) ≤ length (t ∷ ts)
        go true l = omega arith
        go false l = omega arith

    pub joins : (j : ℕ) → mark_of marks b ≡ Open j → IsSearch rows (λ _. ⊥) marks row w (joined j ss) n × (steps rows marks w (joined j ss) ≤ steps rows marks w ss)
    joins j e =
        let less = fewer j ss in
        let room : n + length ss + unseen (λ _. 1) marks rows ≤ length rows = h.room in
        (record { each = h.each; within = h.within; few = h.few; room = omega arith; state = joining (HasCall rows) (mark_of marks) row w b j ss n h.state lead e }, omega arith)

    pub passes : (k : ℕ) → mark_of marks b ≡ Closed k → IsSearch rows (λ _. ⊥) marks row w ss n
    passes k e = record { each = h.each; within = h.within; few = h.few; room = h.room; state = passing (HasCall rows) (mark_of marks) row w b k ss n h.state e }

    pub opens : mark_of marks b ≡ Unseen → b < length rows
        → IsSearch rows (λ _. ⊥) (set marks b (Open (length row))) (row ++ b ∷ []) (w ++ get_or rows b []) (record { first = length row; waiting = length w } ∷ ss) n
        × (steps rows (set marks b (Open (length row))) (w ++ get_or rows b []) (record { first = length row; waiting = length w } ∷ ss) ≤ steps rows marks w ss)
    opens fresh known =
        let each : length marks ≡ length rows = h.each in
        let room : n + length ss + unseen (λ _. 1) marks rows ≤ length rows = h.room in
        let one = unseen-set (λ _. 1) marks rows b (length row) fresh (omega arith) each in
        let all = unseen-set (λ r. 1 + length r) marks rows b (length row) fresh (omega arith) each in (
          record {
            each = length-set marks b (Open (length row)) ∙ each;
            within = h.within;
            few = h.few;
            room = omega arith;
            state = opened (HasCall rows) (mark_of marks) (mark_of (set marks b (Open (length row)))) row w b ss n (get_or rows b []) h.state lead fresh
                (get_or-set_same marks b (Open (length row)) Unseen (omega arith)) (λ a ne. get_or-set_other marks b a (Open (length row)) Unseen ne) (λ x. (λ k. k, λ k. k));
          },
          omega (arith, length-append w (get_or rows b [])),
        )

  -- the last segment is closed
  pub ends : (s : Segment) (ss : List Segment) → IsSearch rows (λ _. ⊥) marks row w (s ∷ ss) n → length w ≤ s.waiting
      → IsSearch rows (λ _. ⊥) (closed_by (drop s.first row) n marks) (take s.first row) w ss (n + 1)
      × (steps rows (closed_by (drop s.first row) n marks) w ss < steps rows marks w (s ∷ ss))
      × KeepsSeen marks (closed_by (drop s.first row) n marks)
  ends s ss h done =
      let changed = closed_by-from row s.first n marks h.state.places in
      let each : length marks ≡ length rows = h.each in
      let room : n + length (s ∷ ss) + unseen (λ _. 1) marks rows ≤ length rows = h.room in
      let new = length-closed_by (drop s.first row) n marks in
      let one = unseen-closed (λ _. 1) s.first n (closed_by (drop s.first row) n marks) marks rows new changed in
      let all = unseen-closed (λ r. 1 + length r) s.first n (closed_by (drop s.first row) n marks) marks rows new changed in (
        record {
          each = new ∙ each;
          within = h.within;
          few = h.few;
          room = omega arith;
          state = closing (HasCall rows) (mark_of marks) (mark_of (closed_by (drop s.first row) n marks)) row w s ss n h.state done changed;
        },
        omega arith,
        λ a seen. subst IsSeen (sym (changed a)) (seen_closed s.first (mark_of marks a) seen),
      )
    where
      seen_closed : (f : ℕ) (m : Mark) → IsSeen m → IsSeen (closed_from f n m)
      seen_closed f Unseen seen = seen
      seen_closed f (Closed k) seen = seen
      seen_closed f (Open i) seen = go (nat_le f i)
        where
          go : (t : Bool) → IsSeen (if t then Closed n else Open i)
          go true = tt
          go false = tt

-- a list by its last element
pub last_is : {X : Type 0} (xs : List X) (n : ℕ) (x : X) → length xs ≡ n + 1 → slice_get xs n ≡ Some x → reverse xs ≡ x ∷ reverse (take n xs)
last_is xs n x l e = ap reverse (split xs n x l e) ∙ reverse-append (take n xs) (x ∷ [])
  where
    split : {X : Type 0} (xs : List X) (n : ℕ) (x : X) → length xs ≡ n + 1 → slice_get xs n ≡ Some x → xs ≡ take n xs ++ x ∷ []
    split [] n x l e = cc
    split (y ∷ []) zero x l e = let it : y ≡ x = cc in ap (λ z. z ∷ []) it
    split (y ∷ z ∷ ys) zero x l e = absurd (omega (arith, l))
    split (y ∷ ys) (suc n) x l e = λ i. y ∷ split ys n x (omega (arith, l)) e i

module _ (rows : List (List ℕ)) (marks : List Mark) (row w : List ℕ) (n : ℕ) (segments : List Segment) (last : Segment)
    (h : IsSearch rows (λ _. ⊥) marks row w (reverse segments) n) (e : slice_get segments (length segments - 1) ≡ Some last) where
  reversed : reverse segments ≡ last ∷ reverse (take (length segments - 1) segments)
  reversed =
      let within : length segments - 1 < length segments = slice_get_within segments (length segments - 1) last e in
      last_is segments (length segments - 1) last (omega arith) e

  split : IsSearch rows (λ _. ⊥) marks row w (last ∷ reverse (take (length segments - 1) segments)) n
  split = subst (λ (ss : List Segment). IsSearch rows (λ _. ⊥) marks row w ss n) reversed h

  -- the last segment begins within the row
  pub last_within : last.first < length row
  last_within =
      let seg : IsSegment (HasCall rows) (mark_of marks) w last (length row) (length w) = split.state.cut.0 in
      seg.first

  pub call_pops : (w' : List ℕ) (b : ℕ) → w ≡ w' ++ b ∷ [] → last.waiting ≤ length w'
      → IsSearch rows (λ a. a ≡ b) marks row w' (reverse segments) n × Lead rows marks b × (b < length rows) × (steps rows marks w' (reverse segments) + 1 ≡ steps rows marks w (reverse segments))
  call_pops w' b p low =
      subst (λ (ss : List Segment). IsSearch rows (λ a. a ≡ b) marks row w' ss n × Lead rows marks b × (b < length rows) × (steps rows marks w' ss + 1 ≡ steps rows marks w ss))
      (sym reversed) (pops rows marks row w n w' b last (reverse (take (length segments - 1) segments)) split p low)

  pub segment_ends : length w ≤ last.waiting
      → IsSearch rows (λ _. ⊥) (closed_by (drop last.first row) n marks) (take last.first row) w (reverse (take (length segments - 1) segments)) (n + 1)
      × (steps rows (closed_by (drop last.first row) n marks) w (reverse (take (length segments - 1) segments)) < steps rows marks w (reverse segments))
      × KeepsSeen marks (closed_by (drop last.first row) n marks)
  segment_ends done =
      subst (λ (ss : List Segment). IsSearch rows (λ _. ⊥) (closed_by (drop last.first row) n marks) (take last.first row) w (reverse (take (length segments - 1) segments)) (n + 1)
      × (steps rows (closed_by (drop last.first row) n marks) w (reverse (take (length segments - 1) segments)) < steps rows marks w ss)
      × KeepsSeen marks (closed_by (drop last.first row) n marks))
      (sym reversed) (ends rows marks row w n last (reverse (take (length segments - 1) segments)) split done)

-- the predicates of the row are those of the table
pub row_within : (rows : List (List ℕ)) (todo : ℕ → Type 0) (marks : List Mark) (row w : List ℕ) (segments : List Segment) (n : ℕ) → IsSearch rows todo marks row w segments n
    → (f : ℕ) (preds : List PredId) → map number_of preds ≡ drop f row → All (λ (p : PredId). p.0 < length marks) preds
row_within rows todo marks row w segments n h f preds e k d l =
    let p = get_or preds k d in
    let at : slice_get (map number_of preds) k ≡ Some p.0 = slice_get-map number_of preds k ∙ ap (option_map number_of) (slice_get-get_or preds k d l) in
    let there : slice_get row (f + k) ≡ Some p.0 = sym (slice_get-drop f row k (f + k) refl) ∙ ap (λ (xs : List ℕ). slice_get xs k) (sym e) ∙ at in
    open_within marks p.0 (f + k) ((h.state.places p.0 (f + k)).1 there)

-- the parts of the state after a predicate was opened
pub opens_to : (rows : List (List ℕ)) (marks : List Mark) (row w : List ℕ) (n b : ℕ) (segments : List Segment) → IsSearch rows (λ a. a ≡ b) marks row w (reverse segments) n
    → Lead rows marks b → mark_of marks b ≡ Unseen → b < length rows → (f v : ℕ) → f ≡ length row → v ≡ length w → (callees : List ℕ) → slice_get rows b ≡ Some callees
    → (marks' : List Mark) (row' w' : List ℕ) (segments' : List Segment) → marks' ≡ set marks b (Open f) → row' ≡ row ++ b ∷ [] → w' ≡ w ++ callees
    → segments' ≡ segments ++ record { first = f; waiting = v } ∷ []
    → IsSearch rows (λ _. ⊥) marks' row' w' (reverse segments') n × (steps rows marks' w' (reverse segments') ≤ steps rows marks w (reverse segments))
opens_to rows marks row w n b segments h lead fresh known f v ef ev callees er marks' row' w' segments' e1 e2 e3 e4 =
    let s : Segment = record { first = length row; waiting = length w } in
    let row_is : get_or rows b [] ≡ callees = get_or_from_slice_get rows b callees [] er in
    let f1 : marks' ≡ set marks b (Open (length row)) = e1 ∙ ap (λ (i : ℕ). set marks b (Open i)) ef in
    let f3 : w' ≡ w ++ get_or rows b [] = e3 ∙ ap (λ (xs : List ℕ). w ++ xs) (sym row_is) in
    let f4 : reverse segments' ≡ s ∷ reverse segments = ap reverse e4 ∙ reverse-append segments (record { first = f; waiting = v } ∷ [])
    ∙ (λ i. record { first = ef i; waiting = ev i } ∷ reverse segments) in
    let done = opens rows marks row w n b (reverse segments) h lead fresh known in
    (λ (P : List Mark → List ℕ → List ℕ → List Segment → Type 0) (p : P (set marks b (Open (length row))) (row ++ b ∷ []) (w ++ get_or rows b []) (s ∷ reverse segments)).
    subst (λ (x : List Mark). P x row' w' (reverse segments')) (sym f1) (subst (λ (x : List ℕ). P (set marks b (Open (length row))) x w' (reverse segments')) (sym e2)
    (subst (λ (x : List ℕ). P (set marks b (Open (length row))) (row ++ b ∷ []) x (reverse segments')) (sym f3) (subst (P (set marks b (Open (length row))) (row ++ b ∷ []) (w ++ get_or rows b [])) (sym f4) p))))
    (λ x y z ts. IsSearch rows (λ _. ⊥) x y z ts n × (steps rows x z ts ≤ steps rows marks w (reverse segments))) done

-- the parts of the state after the last segment was closed
pub ends_to : (rows : List (List ℕ)) (marks : List Mark) (row w : List ℕ) (n : ℕ) (segments : List Segment) (last : Segment) → IsSearch rows (λ _. ⊥) marks row w (reverse segments) n
    → slice_get segments (length segments - 1) ≡ Some last → length w ≤ last.waiting
    → (marks' : List Mark) (row' : List ℕ) (segments' : List Segment) (preds : List PredId) (k : ℕ) → map number_of preds ≡ drop last.first row → marks' ≡ closed_by (map number_of preds) n marks
    → row' ≡ take last.first row → k ≡ length segments → segments' ≡ take (k - 1) segments
    → IsSearch rows (λ _. ⊥) marks' row' w (reverse segments') (n + 1) × (steps rows marks' w (reverse segments') < steps rows marks w (reverse segments)) × KeepsSeen marks marks'
ends_to rows marks row w n segments last h e done marks' row' segments' preds k e0 e1 e2 ek e3 =
    let f1 : marks' ≡ closed_by (drop last.first row) n marks = e1 ∙ ap (λ (xs : List ℕ). closed_by xs n marks) e0 in
    let f3 : segments' ≡ take (length segments - 1) segments = e3 ∙ ap (λ (x : ℕ). take (x - 1) segments) ek in
    let over : (x : List Mark) → x ≡ closed_by (drop last.first row) n marks → (y : List ℕ) → y ≡ take last.first row → (ts : List Segment) → ts ≡ take (length segments - 1) segments
    → IsSearch rows (λ _. ⊥) x y w (reverse ts) (n + 1) × (steps rows x w (reverse ts) < steps rows marks w (reverse segments)) × KeepsSeen marks x =
    λ x ex y ey ts et. rw (ex, ey, et) (segment_ends rows marks row w n segments last h e done) in
    over marks' f1 row' e2 segments' f3
