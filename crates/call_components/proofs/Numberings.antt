-- What the search leaves once nothing is open.
use Rattle.std.proofs.Common.{◌≡◌, ℕ, zero, suc, ◌+◌, ◌<◌, ◌≤◌, ◌^◌, List, [], ◌∷◌, map, All, length, slice_get, Some, refl, ap, sym, subst, ◌∙◌, arith}
use Rattle.std.proofs.lemmas.List.{length-map, get_or_default}
use Rattle.std.proofs.lemmas.Option.{slice_get_within}
use Rattle.call_components.specs.Marked.{mark_of, IsSeen, IsClosed, unseen}
use Rattle.call_components.specs.Search.{IsSearch, AreNumbers}
use Rattle.call_components.specs.declared.marks.Mark.{Mark}
use Rattle.call_components.specs.declared.marks.Mark.TheVariants.{Unseen, Open, Closed}
use Rattle.call_components.proofs.Steps.{same_number}

mark_at : (ns : List ℕ) (a i : ℕ) → slice_get ns a ≡ Some i → mark_of (map Closed ns) a ≡ Closed i
mark_at [] a i e = cc
mark_at (n ∷ ns) zero i e = ap Closed cc
mark_at (n ∷ ns) (suc a) i e = mark_at ns a i e

number_at : (ns : List ℕ) (a i : ℕ) → mark_of (map Closed ns) a ≡ Closed i → slice_get ns a ≡ Some i
number_at [] a i e = cc
number_at (n ∷ ns) zero i e = ap Some (same_number n i e)
number_at (n ∷ ns) (suc a) i e = number_at ns a i e

module _ (rows : List (List ℕ)) (marks : List Mark) (row w : List ℕ) (n : ℕ) (h : IsSearch rows (λ _. ⊥) marks row w [] n) where
  pub none_open : (a i : ℕ) → mark_of marks a ≡ Open i → ⊥
  none_open a i e =
      let within : i < length row = slice_get_within row i a ((h.state.places a i).0 e) in
      let none : length row ≡ 0 = h.state.cut.0 in
      omega arith

  -- a call of no caller may be followed
  pub from_nothing : (b : ℕ) → IsSearch rows (λ a. a ≡ b) marks row w [] n
  from_nothing b = record {
    each = h.each;
    within = h.within;
    few = h.few;
    room = h.room;
    state = record { places = h.state.places; earlier = h.state.earlier; cut = h.state.cut; followed = tt; closed = h.state.closed };
  }

  pub all_closed : (k : ℕ) → ((a : ℕ) → a < k → IsSeen (mark_of marks a)) → length marks ≤ k → All IsClosed marks
  all_closed k seen long a d l = subst IsClosed (get_or_default marks a Unseen d l) (go (mark_of marks a) refl (seen a (omega arith)))
    where
      go : (m : Mark) → mark_of marks a ≡ m → IsSeen m → IsClosed m
      go Unseen is s = s
      go (Open i) is s = none_open a i is
      go (Closed i) is s = tt

  pub numbered : (ns : List ℕ) → marks ≡ map Closed ns → AreNumbers rows ns n
  numbered ns e = record {
    each = sym (length-map ns Closed) ∙ ap length (sym e) ∙ h.each;
    few = (let few : length rows < 2 ^ 32 = h.few in let room : n + 0 + unseen (λ _. 1) marks rows ≤ length rows = h.room in omega arith);
    below = λ a i at. h.state.closed.below a i (to a i at);
    used = λ i l. (λ (d : (a : ℕ) × (mark_of marks a ≡ Closed i)). user i d) (h.state.closed.used i l);
    order = λ a b i at call. callee b i (h.state.closed.callees a b i (to a i at) call);
    together = λ a b i ea eb. h.state.closed.together a b i (to a i ea) (to b i eb);
  }
    where
      to : (a i : ℕ) → slice_get ns a ≡ Some i → mark_of marks a ≡ Closed i
      to a i at = ap (λ (ms : List Mark). mark_of ms a) e ∙ mark_at ns a i at

      from : (a i : ℕ) → mark_of marks a ≡ Closed i → slice_get ns a ≡ Some i
      from a i at = number_at ns a i (ap (λ (ms : List Mark). mark_of ms a) (sym e) ∙ at)

      user : (i : ℕ) → (a : ℕ) × (mark_of marks a ≡ Closed i) → (a : ℕ) × (slice_get ns a ≡ Some i)
      user i (a, at) = (a, from a i at)

      callee : (b i : ℕ) → (j : ℕ) × (mark_of marks b ≡ Closed j) × (j ≤ i) → (j : ℕ) × (slice_get ns b ≡ Some j) × (j ≤ i)
      callee b i (j, at, l) = (j, from b j at, l)
