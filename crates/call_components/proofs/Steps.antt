-- Each step of the search leaves a state of it.
use Rattle.std.proofs.Common.{◌≡◌, ℕ, ◌+◌, ◌<◌, ◌≤◌, ◌⊎◌, inl, inr, Bool, true, false, nat_lt, if◌then◌else◌, List, [], ◌∷◌, ◌++◌, length, slice_get, Some, refl, ap, sym, subst, ◌∙◌, arith, length-append, ltb-true, ltb-false, le_of_lt, le_trans, ◌-◌, ◌↔◌}
use Rattle.std.specs.List.{AllByRecursion}
use Rattle.std.proofs.lemmas.Bool.{cases_lt, cases_eq}
use Rattle.std.proofs.lemmas.Option.{slice_get_within}
use Rattle.call_components.specs.Calls.{Reaches, itself}
use Rattle.call_components.specs.Marked.{IsSettled}
use Rattle.call_components.specs.Table.{Has}
use Rattle.call_components.specs.Search.{HasCaller, IsSegment, AreSegments, IsFollowed, IsState, joined}
use Rattle.call_components.specs.declared.marks.Mark.{Mark}
use Rattle.call_components.specs.declared.marks.Mark.TheVariants.{Unseen, Open, Closed}
use Rattle.call_components.specs.declared.search.Segment.{Segment}
use Rattle.call_components.proofs.Lists.{slice_get-append_right, all_map, all_both}
use Rattle.cti_terms.proofs.Places.{slice_get-append}
use Rattle.call_components.proofs.Paths.{along, one_call}

-- one mark is no other
pub same_place : (i j : ℕ) → Open i ≡ Open j → i ≡ j
same_place i j e = cc

pub same_number : (i j : ℕ) → Closed i ≡ Closed j → i ≡ j
same_number i j e = cc

module _ (calls : ℕ → ℕ → Type 0) where
  -- a caller is one under other marks and wider bounds
  caller_stays : (mark new : ℕ → Mark) (f u v g b : ℕ) → g ≤ f → u ≤ v
      → ((a i : ℕ) → i < u → mark a ≡ Open i → new a ≡ Open i) → HasCaller calls mark f u b → HasCaller calls new g v b
  caller_stays mark new f u v g b low high to (a, i, e, lo, hi, call) = (a, i, to a i hi e, omega arith, omega arith, call)

  -- segments speak of the places below them alone
  pub segments_stay : (mark new : ℕ → Mark) (w w' : List ℕ) (u v : ℕ) (ss : List Segment)
      → ((a i : ℕ) → i < u → mark a ≡ Open i → new a ≡ Open i) → ((a i : ℕ) → i < u → new a ≡ Open i → mark a ≡ Open i)
      → ((x : ℕ) → x < v → slice_get w' x ≡ slice_get w x) → AreSegments calls mark w u v ss → AreSegments calls new w' u v ss
  segments_stay mark new w w' u v [] to from same h = h
  segments_stay mark new w w' u v (s ∷ ss) to from same h =
      let seg : IsSegment calls mark w s u v = h.0 in
      let first : s.first < u = seg.first in
      let start : s.waiting ≤ v = seg.start in (
        record {
          first = first;
          start = start;
          root = seg.root;
          at = to seg.root s.first first seg.at;
          strong = λ i a low high e. seg.strong i a low high (from a i high e);
          called = λ x b low high e. caller_stays mark new s.first u u s.first b (omega arith) (omega arith) to (seg.called x b low high (sym (same x high) ∙ e));
        },
        segments_stay mark new w w' s.first s.waiting ss (λ a i l. to a i (omega arith)) (λ a i l. from a i (omega arith)) (λ x l. same x (omega arith)) h.1,
      )

  -- they begin below
  pub firsts_below : (mark : ℕ → Mark) (w : List ℕ) (u v : ℕ) (ss : List Segment) → AreSegments calls mark w u v ss → AllByRecursion (λ (s : Segment). s.first < u) ss
  firsts_below mark w u v [] h = tt
  firsts_below mark w u v (s ∷ ss) h =
      let first : s.first < u = h.0.first in
      (first, all_map (λ (t : Segment). t.first < s.first) (λ (t : Segment). t.first < u) (λ t l. omega arith) ss (firsts_below mark w s.first s.waiting ss h.1))

  -- and their calls wait below
  pub starts_below : (mark : ℕ → Mark) (w : List ℕ) (u v : ℕ) (ss : List Segment) → AreSegments calls mark w u v ss → AllByRecursion (λ (s : Segment). s.waiting ≤ v) ss
  starts_below mark w u v [] h = tt
  starts_below mark w u v (s ∷ ss) h =
      let start : s.waiting ≤ v = h.0.start in
      (start, all_map (λ (t : Segment). t.waiting ≤ s.waiting) (λ (t : Segment). t.waiting ≤ v) (λ t l. omega arith) ss (starts_below mark w s.first s.waiting ss h.1))

  module _ (mark : ℕ → Mark) where
    -- every open predicate reaches all of the last segment
    pub reaches_last : (todo : ℕ → Type 0) (row w : List ℕ) (s : Segment) (ss : List Segment) (n : ℕ) → IsState calls mark todo row w (s ∷ ss) n
        → (a x i j : ℕ) → mark a ≡ Open i → mark x ≡ Open j → s.first ≤ j → Reaches calls a x
    reaches_last todo row w s ss n st a x i j ea ex h =
        let seg : IsSegment calls mark w s (length row) (length w) = st.cut.0 in
        let within : i < length row = slice_get_within row i a ((st.places a i).0 ea) in
        elim (cases_lt i s.first) [
          | inl l ↦ st.earlier a x i j ea ex (omega arith)
          | inr l ↦ along (seg.strong i a l within ea) (st.earlier seg.root x s.first j seg.at ex h)
        ]

    -- the last call that waits is followed, and it is a call of the last segment
    pub popped : (row w w' : List ℕ) (b : ℕ) (s : Segment) (ss : List Segment) (n : ℕ) → IsState calls mark (λ _. ⊥) row w (s ∷ ss) n
        → w ≡ w' ++ b ∷ [] → s.waiting ≤ length w'
        → IsState calls mark (λ x. x ≡ b) row w' (s ∷ ss) n × ((a i : ℕ) → mark a ≡ Open i → Reaches calls a b)
    popped row w w' b s ss n st e low = (
      record {
        places = st.places;
        earlier = st.earlier;
        cut = (
          record {
            first = seg.first;
            start = low;
            root = seg.root;
            at = seg.at;
            strong = seg.strong;
            called = λ x c l h at. seg.called x c l (omega (arith, longer)) (same x h ∙ at);
          },
          segments_stay mark mark w w' s.first s.waiting ss (λ a i _ k. k) (λ a i _ k. k) (λ x l. sym (same x (omega arith))) st.cut.1,
        );
        followed = all_both (IsFollowed calls mark (λ _. ⊥) w) (λ (t : Segment). t.waiting ≤ length w') (IsFollowed calls mark (λ x. x ≡ b) w') follow (s ∷ ss) st.followed
            (low, all_map (λ (t : Segment). t.waiting ≤ s.waiting) (λ (t : Segment). t.waiting ≤ length w') (λ t l. omega arith) ss (starts_below mark w s.first s.waiting ss st.cut.1));
        closed = st.closed;
      },
      leads,
    )
      where
        seg : IsSegment calls mark w s (length row) (length w)
        seg = st.cut.0

        longer : length w ≡ length w' + 1
        longer = ap length e ∙ length-append w' (b ∷ [])

        same : (x : ℕ) → x < length w' → slice_get w x ≡ slice_get w' x
        same x l = ap (λ (v : List ℕ). slice_get v x) e ∙ slice_get-append w' (b ∷ []) x l

        last : slice_get w (length w') ≡ Some b
        last = ap (λ (v : List ℕ). slice_get v (length w')) e ∙ slice_get-append_right w' (b ∷ []) (length w') 0 (omega arith)

        follow : (t : Segment) → IsFollowed calls mark (λ _. ⊥) w t → t.waiting ≤ length w' → IsFollowed calls mark (λ x. x ≡ b) w' t
        follow t f l a c i ea lo call =
            elim (f a c i ea lo call) [
              | inl none ↦ absurd none
              | inr (inr settled) ↦ inr (inr settled)
              | inr (inl (x, k, at)) ↦ here x k at (cases_lt x (length w'))
            ]
          where
            here : (x : ℕ) → t.waiting ≤ x → slice_get w x ≡ Some c → (x < length w') ⊎ (length w' ≤ x)
                → (c ≡ b) ⊎ (((x : ℕ) × (t.waiting ≤ x) × (slice_get w' x ≡ Some c)) ⊎ IsSettled t.first (mark c))
            here x k at (inl l) = inr (inl (x, k, sym (same x l) ∙ at))
            here x k at (inr l) =
                let within : x < length w = slice_get_within w x c at in
                let it : x ≡ length w' = omega (arith, longer) in
                inl (let both = sym at ∙ ap (slice_get w) it ∙ last in cc)

        leads : (a i : ℕ) → mark a ≡ Open i → Reaches calls a b
        leads a i ea =
            let c = seg.called (length w') b low (omega (arith, longer)) last in
            along (reaches_last (λ _. ⊥) row w s ss n st a c.0 i c.1 ea c.2 c.3) (one_call c.5)

    -- a call whose callee is settled for each segment was followed
    pub settled : (row w : List ℕ) (b : ℕ) (ss : List Segment) (n : ℕ) → IsState calls mark (λ x. x ≡ b) row w ss n
        → AllByRecursion (λ (s : Segment). IsSettled s.first (mark b)) ss → IsState calls mark (λ _. ⊥) row w ss n
    settled row w b ss n st all = record {
      places = st.places;
      earlier = st.earlier;
      cut = st.cut;
      followed = all_both (IsFollowed calls mark (λ x. x ≡ b) w) (λ (s : Segment). IsSettled s.first (mark b)) (IsFollowed calls mark (λ _. ⊥) w) follow ss st.followed all;
      closed = st.closed;
    }
      where
        follow : (t : Segment) → IsFollowed calls mark (λ x. x ≡ b) w t → IsSettled t.first (mark b) → IsFollowed calls mark (λ _. ⊥) w t
        follow t f h a c i ea lo call =
            elim (f a c i ea lo call) [
              | inl it ↦ inr (inr (subst (λ (x : ℕ). IsSettled t.first (mark x)) (sym it) h))
              | inr (inr k) ↦ inr (inr k)
              | inr (inl k) ↦ inr (inl k)
            ]

    -- the segments that are left when those after a place are joined
    pub segments_joined : (w : List ℕ) (b j : ℕ) → mark b ≡ Open j → (u v : ℕ) (ss : List Segment) → j < u
        → ((a i : ℕ) → mark a ≡ Open i → Reaches calls a b) → AreSegments calls mark w u v ss
        → AreSegments calls mark w u v (joined j ss) × AllByRecursion (λ (s : Segment). s.first ≤ j) (joined j ss)
    segments_joined w b j eb u v [] l leads h = (h, tt)
    segments_joined w b j eb u v (s ∷ ss) l leads h = go (nat_lt j s.first) refl (λ less. segments_joined w b j eb s.first s.waiting ss less leads h.1)
      where
        seg : IsSegment calls mark w s u v
        seg = h.0

        widen : (ts : List Segment) → j < s.first → AllByRecursion (λ (t : Segment). t.first ≤ j) ts → AreSegments calls mark w s.first s.waiting ts → AreSegments calls mark w u v ts
        widen [] less low (e, _) = absurd (omega arith)
        widen (t ∷ ts) less low k =
            let lower : IsSegment calls mark w t s.first s.waiting = k.0 in
            let first : t.first < s.first = lower.first in
            let start : t.waiting ≤ s.waiting = lower.start in
            let first' : s.first < u = seg.first in
            let start' : s.waiting ≤ v = seg.start in
            let place : t.first ≤ j = low.0 in
            let wide : (x c : ℕ) → t.waiting ≤ x → x < v → slice_get w x ≡ Some c → (x < s.waiting) ⊎ (s.waiting ≤ x) → HasCaller calls mark t.first u c =
            λ x c lo hi at cases. elim cases [
              | inl k ↦ caller_stays mark mark t.first s.first u t.first c (omega arith) (omega arith) (λ a i _ e. e) (lower.called x c lo k at)
              | inr k ↦ caller_stays mark mark s.first u u t.first c (omega arith) (omega arith) (λ a i _ e. e) (seg.called x c k hi at)
            ] in (
              record {
                first = omega arith;
                start = omega arith;
                root = lower.root;
                at = lower.at;
                strong = λ i a lo hi e. along (leads a i e) (lower.strong j b place less eb);
                called = λ x c lo hi at. wide x c lo hi at (cases_lt x s.waiting);
              },
              k.1,
            )

        go : (t : Bool) → nat_lt j s.first ≡ t
            → (j < s.first → AreSegments calls mark w s.first s.waiting (joined j ss) × AllByRecursion (λ (t : Segment). t.first ≤ j) (joined j ss))
            → AreSegments calls mark w u v (if t then joined j ss else s ∷ ss) × AllByRecursion (λ (t : Segment). t.first ≤ j) (if t then joined j ss else s ∷ ss)
        go true e rest =
            let less : j < s.first = ltb-true j s.first e in
            let done = rest less in
            (widen (joined j ss) less done.1 done.0, done.1)
        go false e rest =
            let here : s.first ≤ j = ltb-false j s.first e in
            (h, (here, all_map (λ (t : Segment). t.first < s.first) (λ (t : Segment). t.first ≤ j) (λ t l. omega arith) ss (firsts_below mark w s.first s.waiting ss h.1)))

    -- what holds of each segment holds of those that are left
    pub all_joined : (P : Segment → Type 0) (j : ℕ) (ss : List Segment) → AllByRecursion P ss → AllByRecursion P (joined j ss)
    all_joined P j [] h = h
    all_joined P j (s ∷ ss) h = go (nat_lt j s.first) (all_joined P j ss h.1)
      where
        go : (t : Bool) → AllByRecursion P (joined j ss) → AllByRecursion P (if t then joined j ss else s ∷ ss)
        go true k = k
        go false k = h

    -- a call to an open predicate joins the segments from that one's on
    pub joining : (row w : List ℕ) (b j : ℕ) (ss : List Segment) (n : ℕ) → IsState calls mark (λ x. x ≡ b) row w ss n
        → ((a i : ℕ) → mark a ≡ Open i → Reaches calls a b) → mark b ≡ Open j → IsState calls mark (λ _. ⊥) row w (joined j ss) n
    joining row w b j ss n st leads eb =
        let within : j < length row = slice_get_within row j b ((st.places b j).0 eb) in
        let done = segments_joined w b j eb (length row) (length w) ss within leads st.cut in
        settled row w b (joined j ss) n (record {
          places = st.places;
          earlier = st.earlier;
          cut = done.0;
          followed = all_joined (IsFollowed calls mark (λ x. x ≡ b) w) j ss st.followed;
          closed = st.closed;
        }) (all_map (λ (s : Segment). s.first ≤ j) (λ (s : Segment). IsSettled s.first (mark b)) (λ s l. subst (IsSettled s.first) (sym eb) l) (joined j ss) done.1)

    -- a call to a closed predicate asks for nothing
    pub passing : (row w : List ℕ) (b k : ℕ) (ss : List Segment) (n : ℕ) → IsState calls mark (λ x. x ≡ b) row w ss n
        → mark b ≡ Closed k → IsState calls mark (λ _. ⊥) row w ss n
    passing row w b k ss n st eb = settled row w b ss n st (each ss)
      where
        each : (ts : List Segment) → AllByRecursion (λ (s : Segment). IsSettled s.first (mark b)) ts
        each [] = tt
        each (t ∷ ts) = (subst (IsSettled t.first) (sym eb) tt, each ts)

    -- what is opened is a segment of its own, and all its calls wait
    module _ (new : ℕ → Mark) (row w : List ℕ) (b : ℕ) (ss : List Segment) (n : ℕ) (more : List ℕ)
        (st : IsState calls mark (λ x. x ≡ b) row w ss n) (leads : (a i : ℕ) → mark a ≡ Open i → Reaches calls a b)
        (fresh : mark b ≡ Unseen) (own : new b ≡ Open (length row)) (others : (a : ℕ) → (a ≡ b → ⊥) → new a ≡ mark a)
        (called : (x : ℕ) → Has more x ↔ calls b x) where
      within : (a i : ℕ) → mark a ≡ Open i → i < length row
      within a i e = slice_get_within row i a ((st.places a i).0 e)

      open_stays : (a i : ℕ) → mark a ≡ Open i → new a ≡ Open i
      open_stays a i e =
          elim (cases_eq a b) [
            | inl it ↦ absurd (let none = sym e ∙ ap mark it ∙ fresh in cc)
            | inr ne ↦ others a ne ∙ e
          ]

      closed_stays : (a k : ℕ) → mark a ≡ Closed k → new a ≡ Closed k
      closed_stays a k e =
          elim (cases_eq a b) [
            | inl it ↦ absurd (let none = sym e ∙ ap mark it ∙ fresh in cc)
            | inr ne ↦ others a ne ∙ e
          ]

      was_open : (a i : ℕ) → new a ≡ Open i → ((a ≡ b) × (i ≡ length row)) ⊎ (mark a ≡ Open i)
      was_open a i e =
          elim (cases_eq a b) [
            | inl it ↦ inl (it, same_place i (length row) (sym e ∙ ap new it ∙ own))
            | inr ne ↦ inr (sym (others a ne) ∙ e)
          ]

      was_closed : (a k : ℕ) → new a ≡ Closed k → mark a ≡ Closed k
      was_closed a k e =
          elim (cases_eq a b) [
            | inl it ↦ absurd (let none = sym e ∙ ap new it ∙ own in cc)
            | inr ne ↦ sym (others a ne) ∙ e
          ]

      longer : length (row ++ b ∷ []) ≡ length row + 1
      longer = length-append row (b ∷ [])

      waits : (c : ℕ) → calls b c → (x : ℕ) × (length w ≤ x) × (slice_get (w ++ more) x ≡ Some c)
      waits c call =
          let there = (called c).1 call in
          (length w + there.0, omega arith, slice_get-append_right w more (length w + there.0) there.0 refl ∙ there.1)

      at_end : slice_get (row ++ b ∷ []) (length row) ≡ Some b
      at_end = slice_get-append_right row (b ∷ []) (length row) 0 (omega arith)

      row_places : (a i : ℕ) → (new a ≡ Open i) ↔ (slice_get (row ++ b ∷ []) i ≡ Some a)
      row_places a i = (to, from)
        where
          to : new a ≡ Open i → slice_get (row ++ b ∷ []) i ≡ Some a
          to e =
              elim (was_open a i e) [
                | inl (it, at) ↦ ap (slice_get (row ++ b ∷ [])) at ∙ at_end ∙ ap Some (sym it)
                | inr old ↦ slice_get-append row (b ∷ []) i (within a i old) ∙ (st.places a i).0 old
              ]

          from : slice_get (row ++ b ∷ []) i ≡ Some a → new a ≡ Open i
          from e =
              elim (cases_lt i (length row)) [
                | inl l ↦ open_stays a i ((st.places a i).1 (sym (slice_get-append row (b ∷ []) i l) ∙ e))
                | inr l ↦
                    let inside : i < length (row ++ b ∷ []) = slice_get_within (row ++ b ∷ []) i a e in
                    let at : i ≡ length row = omega (arith, longer) in
                    let it : a ≡ b = (let both = sym e ∙ ap (slice_get (row ++ b ∷ [])) at ∙ at_end in cc) in
                    ap new it ∙ own ∙ ap Open (sym at)
              ]

      way : (a x i j : ℕ) → new a ≡ Open i → new x ≡ Open j → i ≤ j → Reaches calls a x
      way a x i j ea ex l = go (was_open a i ea) (was_open x j ex)
        where
          go : ((a ≡ b) × (i ≡ length row)) ⊎ (mark a ≡ Open i) → ((x ≡ b) × (j ≡ length row)) ⊎ (mark x ≡ Open j) → Reaches calls a x
          go (inl (ia, _)) (inl (ix, _)) = subst (Reaches calls a) (ia ∙ sym ix) itself
          go (inl (ia, at)) (inr old) = absurd (let inside : j < length row = within x j old in omega arith)
          go (inr old) (inl (ix, _)) = subst (Reaches calls a) (sym ix) (leads a i old)
          go (inr old) (inr old') = st.earlier a x i j old old' l

      pub opened : IsState calls new (λ _. ⊥) (row ++ b ∷ []) (w ++ more) (record { first = length row; waiting = length w } ∷ ss) n
      opened = record {
        places = row_places;
        earlier = way;
        cut = (
          record {
            first = omega (arith, longer);
            start = omega (arith, length-append w more);
            root = b;
            at = own;
            strong = λ i a low high e. only_b i a low (was_open a i e);
            called = λ x c low high e. (b, length row, own, omega arith, omega (arith, longer), (called c).0 (there x c low e));
          },
          segments_stay mark new w (w ++ more) (length row) (length w) ss (λ a i _ e. open_stays a i e) (λ a i l e. still a i l (was_open a i e)) (λ x l. slice_get-append w more x l) st.cut,
        );
        followed = (
          own_calls,
          all_both (IsFollowed calls mark (λ x. x ≡ b) w) (λ (t : Segment). (t.first < length row) × (t.waiting ≤ length w)) (IsFollowed calls new (λ _. ⊥) (w ++ more)) follow ss st.followed
              (all_both (λ (t : Segment). t.first < length row) (λ (t : Segment). t.waiting ≤ length w) (λ (t : Segment). (t.first < length row) × (t.waiting ≤ length w)) (λ t l k. (l, k)) ss (firsts_below mark w (length row) (length w) ss st.cut) (starts_below mark w (length row) (length w) ss st.cut)),
        );
        closed = record {
          callees = λ a c i e call. (λ (d : (j : ℕ) × (mark c ≡ Closed j) × (j ≤ i)). closed_callee c i d) (st.closed.callees a c i (was_closed a i e) call);
          together = λ a c i ea ec. st.closed.together a c i (was_closed a i ea) (was_closed c i ec);
          below = λ a i e. st.closed.below a i (was_closed a i e);
          used = λ i l. closed_user i (st.closed.used i l);
        };
      }
        where
          closed_callee : (c i : ℕ) → (j : ℕ) × (mark c ≡ Closed j) × (j ≤ i) → (j : ℕ) × (new c ≡ Closed j) × (j ≤ i)
          closed_callee c i (j, e, l) = (j, closed_stays c j e, l)

          closed_user : (i : ℕ) → (a : ℕ) × (mark a ≡ Closed i) → (a : ℕ) × (new a ≡ Closed i)
          closed_user i (a, e) = (a, closed_stays a i e)

          only_b : (i a : ℕ) → length row ≤ i → ((a ≡ b) × (i ≡ length row)) ⊎ (mark a ≡ Open i) → Reaches calls a b
          only_b i a low (inl (it, _)) = subst (Reaches calls a) it itself
          only_b i a low (inr old) = absurd (let inside : i < length row = within a i old in omega arith)

          there : (x c : ℕ) → length w ≤ x → slice_get (w ++ more) x ≡ Some c → Has more c
          there x c low e = (x - length w, sym (slice_get-append_right w more x (x - length w) (omega arith)) ∙ e)

          still : (a i : ℕ) → i < length row → ((a ≡ b) × (i ≡ length row)) ⊎ (mark a ≡ Open i) → mark a ≡ Open i
          still a i l (inl (_, at)) = absurd (omega arith)
          still a i l (inr old) = old

          of_b : (a c i : ℕ) → length row ≤ i → ((a ≡ b) × (i ≡ length row)) ⊎ (mark a ≡ Open i) → calls a c → calls b c
          of_b a c i low (inl (it, _)) call = subst (λ (x : ℕ). calls x c) it call
          of_b a c i low (inr old) call = absurd (let inside : i < length row = within a i old in omega arith)

          own_calls : IsFollowed calls new (λ _. ⊥) (w ++ more) (record { first = length row; waiting = length w })
          own_calls a c i e low call = inr (inl (waits c (of_b a c i low (was_open a i e) call)))

          settled_still : (t : Segment) (c : ℕ) → IsSettled t.first (mark c) → IsSettled t.first (new c)
          settled_still t c h =
              elim (cases_eq c b) [
                | inl it ↦ absurd (subst (IsSettled t.first) (ap mark it ∙ fresh) h)
                | inr ne ↦ subst (IsSettled t.first) (sym (others c ne)) h
              ]

          follow : (t : Segment) → IsFollowed calls mark (λ x. x ≡ b) w t → (t.first < length row) × (t.waiting ≤ length w) → IsFollowed calls new (λ _. ⊥) (w ++ more) t
          follow t f (first, start) a c i e low call = go (was_open a i e)
            where
              old_call : (c ≡ b) ⊎ (((x : ℕ) × (t.waiting ≤ x) × (slice_get w x ≡ Some c)) ⊎ IsSettled t.first (mark c))
                  → ⊥ ⊎ (((x : ℕ) × (t.waiting ≤ x) × (slice_get (w ++ more) x ≡ Some c)) ⊎ IsSettled t.first (new c))
              old_call (inl it) = inr (inr (subst (IsSettled t.first) (sym (ap new it ∙ own)) (le_of_lt first)))
              old_call (inr (inl (x, l, at))) = inr (inl (x, l, slice_get-append w more x (slice_get_within w x c at) ∙ at))
              old_call (inr (inr h)) = inr (inr (settled_still t c h))

              go : ((a ≡ b) × (i ≡ length row)) ⊎ (mark a ≡ Open i) → ⊥ ⊎ (((x : ℕ) × (t.waiting ≤ x) × (slice_get (w ++ more) x ≡ Some c)) ⊎ IsSettled t.first (new c))
              go (inl (it, _)) = inr (inl (let k = waits c (subst (λ (x : ℕ). calls x c) it call) in (k.0, le_trans start k.1, k.2)))
              go (inr old) = old_call (f a c i old low call)
