-- What happens to the marks when one is opened, and when a segment is closed.
use Rattle.std.proofs.Common.{◌≡◌, ℕ, zero, suc, ◌+◌, ◌<◌, ◌≤◌, ◌↔◌, inl, inr, Bool, true, false, nat_le, if◌then◌else◌, List, [], ◌∷◌, length, drop, replicate, set, get_or, slice_get, Some, refl, ap, sym, subst, ◌∙◌, arith, length-set, get_or-set_same, get_or-set_other, ◌-◌}
use Rattle.std.proofs.lemmas.Bool.{cases_lt, cases_eq}
use Rattle.std.proofs.lemmas.List.{get_or_past}
use Rattle.call_components.specs.Marked.{mark_of, IsSeen, weight, unseen, closed_by, closed_from}
use Rattle.call_components.specs.Table.{Has}
use Rattle.call_components.specs.declared.marks.Mark.{Mark}
use Rattle.call_components.specs.declared.marks.Mark.TheVariants.{Unseen, Open, Closed}
use Rattle.call_components.proofs.Lists.{slice_get-drop}
use Rattle.call_components.proofs.Closing.{closes, stays_open}
use Rattle.call_components.proofs.Steps.{same_place}

-- a predicate without a mark in the list was not seen
pub marked_within : (ms : List Mark) (a : ℕ) → IsSeen (mark_of ms a) → a < length ms
marked_within ms a h =
    elim (cases_lt a (length ms)) [
      | inl l ↦ l
      | inr l ↦ absurd (subst IsSeen (get_or_past ms a Unseen l) h)
    ]

pub open_within : (ms : List Mark) (a i : ℕ) → mark_of ms a ≡ Open i → a < length ms
open_within ms a i e = marked_within ms a (subst IsSeen (sym e) tt)

-- one that is opened was not seen before, and leaves the sum
pub unseen-set : (f : List ℕ → ℕ) (ms : List Mark) (rows : List (List ℕ)) (b i : ℕ) → mark_of ms b ≡ Unseen → b < length ms → length ms ≡ length rows
    → unseen f (set ms b (Open i)) rows + f (get_or rows b []) ≡ unseen f ms rows
unseen-set f [] rows b i e l same = absurd (omega (arith, l))
unseen-set f (m ∷ ms) [] b i e l same = absurd (omega (arith, same))
unseen-set f (m ∷ ms) (row ∷ rows) zero i e l same =
    let was : weight f m row ≡ f row = ap (λ (x : Mark). weight f x row) e in
    omega (arith, was)
unseen-set f (m ∷ ms) (row ∷ rows) (suc b) i e l same = omega (arith, unseen-set f ms rows b i e (omega (arith, l)) (omega (arith, same)))

-- closing does not change what was not seen
weight-closed : (f : List ℕ → ℕ) (g n : ℕ) (m : Mark) (row : List ℕ) → weight f (closed_from g n m) row ≡ weight f m row
weight-closed f g n Unseen row = refl
weight-closed f g n (Closed k) row = refl
weight-closed f g n (Open i) row = go (nat_le g i)
  where
    go : (t : Bool) → weight f (if t then Closed n else Open i) row ≡ 0
    go true = refl
    go false = refl

pub unseen-closed : (f : List ℕ → ℕ) (g n : ℕ) (new ms : List Mark) (rows : List (List ℕ)) → length new ≡ length ms
    → ((a : ℕ) → mark_of new a ≡ closed_from g n (mark_of ms a)) → unseen f new rows ≡ unseen f ms rows
unseen-closed f g n [] [] rows same e = refl
unseen-closed f g n [] (m ∷ ms) rows same e = absurd (omega (arith, same))
unseen-closed f g n (k ∷ new) [] rows same e = absurd (omega (arith, same))
unseen-closed f g n (k ∷ new) (m ∷ ms) [] same e = refl
unseen-closed f g n (k ∷ new) (m ∷ ms) (row ∷ rows) same e =
    let here : weight f k row ≡ weight f m row = ap (λ (x : Mark). weight f x row) (e zero) ∙ weight-closed f g n m row in
    let rest = unseen-closed f g n new ms rows (omega (arith, same)) (λ a. e (suc a)) in
    omega (arith, here, rest)

pub length-closed_by : (xs : List ℕ) (n : ℕ) (ms : List Mark) → length (closed_by xs n ms) ≡ length ms
length-closed_by [] n ms = refl
length-closed_by (x ∷ xs) n ms = length-closed_by xs n (set ms x (Closed n)) ∙ length-set ms x (Closed n)

-- what is closed with a number stays so while others are closed with it
closed_stays : (xs : List ℕ) (n : ℕ) (ms : List Mark) (a : ℕ) → a < length ms → mark_of ms a ≡ Closed n → mark_of (closed_by xs n ms) a ≡ Closed n
closed_stays [] n ms a l e = e
closed_stays (x ∷ xs) n ms a l e =
    closed_stays xs n (set ms x (Closed n)) a (omega (arith, l, length-set ms x (Closed n)))
    (elim (cases_eq a x) [
      | inl it ↦ ap (λ (y : ℕ). mark_of (set ms y (Closed n)) a) (sym it) ∙ get_or-set_same ms a (Closed n) Unseen l
      | inr ne ↦ get_or-set_other ms x a (Closed n) Unseen ne ∙ e
    ])

closed_among : (xs : List ℕ) (n : ℕ) (ms : List Mark) (a : ℕ) → a < length ms → Has xs a → mark_of (closed_by xs n ms) a ≡ Closed n
closed_among [] n ms a l (k, e) = cc
closed_among (x ∷ xs) n ms a l (zero, e) =
    let it : x ≡ a = cc in
    closed_stays xs n (set ms x (Closed n)) a (omega (arith, l, length-set ms x (Closed n)))
    (ap (λ (y : ℕ). mark_of (set ms y (Closed n)) a) it ∙ get_or-set_same ms a (Closed n) Unseen l)
closed_among (x ∷ xs) n ms a l (suc k, e) = closed_among xs n (set ms x (Closed n)) a (omega (arith, l, length-set ms x (Closed n))) (k, e)

not_closed : (xs : List ℕ) (n : ℕ) (ms : List Mark) (a : ℕ) → (Has xs a → ⊥) → mark_of (closed_by xs n ms) a ≡ mark_of ms a
not_closed [] n ms a out = refl
not_closed (x ∷ xs) n ms a out =
    not_closed xs n (set ms x (Closed n)) a (λ h. out (suc h.0, h.1))
    ∙ get_or-set_other ms x a (Closed n) Unseen (λ it. out (zero, ap Some (sym it)))

-- closing the last predicates of the row closes those that are open from their place on
pub closed_by-from : (row : List ℕ) (f n : ℕ) (ms : List Mark) → ((a i : ℕ) → (mark_of ms a ≡ Open i) ↔ (slice_get row i ≡ Some a))
    → (a : ℕ) → mark_of (closed_by (drop f row) n ms) a ≡ closed_from f n (mark_of ms a)
closed_by-from row f n ms places a = go (mark_of ms a) refl
  where
    placed : Has (drop f row) a → (i : ℕ) × (f ≤ i) × (mark_of ms a ≡ Open i)
    placed (k, e) = (f + k, omega arith, (places a (f + k)).1 (sym (slice_get-drop f row k (f + k) refl) ∙ e))

    go : (m : Mark) → mark_of ms a ≡ m → mark_of (closed_by (drop f row) n ms) a ≡ closed_from f n m
    go Unseen is = not_closed (drop f row) n ms a (λ h. let p = placed h in let none = sym is ∙ p.2 in cc) ∙ is
    go (Closed k) is = not_closed (drop f row) n ms a (λ h. let p = placed h in let none = sym is ∙ p.2 in cc) ∙ is
    go (Open i) is =
        elim (cases_lt i f) [
          | inl l ↦ not_closed (drop f row) n ms a (λ h. let p = placed h in absurd (let at = same_place i p.0 (sym is ∙ p.2) in let le : f ≤ p.0 = p.1 in omega arith)) ∙ is ∙ sym (stays_open f n i l)
          | inr l ↦ closed_among (drop f row) n ms a (open_within ms a i is) (there i l is) ∙ sym (closes f n i l)
        ]
      where
        there : (i : ℕ) → f ≤ i → mark_of ms a ≡ Open i → Has (drop f row) a
        there i l is = (i - f, slice_get-drop f row (i - f) i (omega arith) ∙ (places a i).0 is)

-- at the start nothing was seen
pub mark_of-replicate : (n a : ℕ) → mark_of (replicate n Unseen) a ≡ Unseen
mark_of-replicate zero a = refl
mark_of-replicate (suc n) zero = refl
mark_of-replicate (suc n) (suc a) = mark_of-replicate n a

pub unseen-replicate : (rows : List (List ℕ)) → unseen (λ _. 1) (replicate (length rows) Unseen) rows ≡ length rows
unseen-replicate [] = refl
unseen-replicate (row ∷ rows) = omega (arith, unseen-replicate rows)
