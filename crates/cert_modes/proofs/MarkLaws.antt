-- Marks of predicates, a test at a time.
use Rattle.std.proofs.Common.{◌≡◌, ◌↔◌, inl, inr, ℕ, zero, suc, ◌+◌, ◌<◌, Bool, true, false, IsTrue, List, [], ◌∷◌, length, ◌++◌, slice_get, slice_set, Option, None, Some, refl, sym, subst, ap, ◌∙◌, arith}
use Rattle.std.proofs.lemmas.Bool.{cases_eq}
use Rattle.cert_modes.specs.Marks.{IsMarked, kept, mark_at, marked, noted}
use Rattle.cert_modes.specs.declared.fault.ModeReason.{ModeReason}
use Rattle.cert_modes.specs.declared.fault.ModeReason.TheVariants as reason
use Rattle.cert_modes.proofs.PlaceLaws.{below_more}

-- no mark more
pub one_more : (marks : List (Option ModeReason)) → ((q : ℕ) → mark_at marks q ≡ None) → (q : ℕ) → mark_at (marks ++ None ∷ []) q ≡ None
one_more [] h zero = refl
one_more [] h (suc q) = refl
one_more (m ∷ marks) h zero = h 0
one_more (m ∷ marks) h (suc q) = one_more marks (λ i. h (suc i)) q

pub set_same : (marks : List (Option ModeReason)) (q : ℕ) (m : Option ModeReason) → q < length marks → mark_at (slice_set marks q m) q ≡ m
set_same [] q m lt = absurd (omega arith)
set_same (x ∷ marks) zero m lt = refl
set_same (x ∷ marks) (suc q) m lt = set_same marks q m (omega arith)

pub set_other : (marks : List (Option ModeReason)) (i q : ℕ) (m : Option ModeReason) → (q ≡ i → ⊥) → mark_at (slice_set marks i m) q ≡ mark_at marks q
set_other [] i q m other = refl
set_other (x ∷ marks) zero zero m other = absurd (other refl)
set_other (x ∷ marks) zero (suc q) m other = refl
set_other (x ∷ marks) (suc i) zero m other = refl
set_other (x ∷ marks) (suc i) (suc q) m other = set_other marks i q m (λ e. other (ap suc e))

-- a mark has a place
pub mark_within : (marks : List (Option ModeReason)) (q : ℕ) (r : ModeReason) → mark_at marks q ≡ Some r → q < length marks
mark_within [] q r e = cc
mark_within (x ∷ marks) zero r e = omega arith
mark_within (x ∷ marks) (suc q) r e = omega (arith, mark_within marks q r e)

twice : (mark : Option ModeReason) (r : ModeReason) → noted (noted mark false r) false r ≡ noted mark false r
twice None r = refl
twice (Some first) r = refl

-- the same tests in other words
pub marked_same : {H K : Type 0} → {r : ModeReason} → {old new : Option ModeReason} → IsMarked H r old new → H ↔ K → IsMarked K r old new
marked_same (kept h e) iff = kept (iff.0 h) e
marked_same (marked never e) iff = marked (λ h. never (iff.1 h)) e

-- two tests for one reason, one after the other
pub marked_both : {H K : Type 0} → {r : ModeReason} → {old mid new : Option ModeReason} → IsMarked H r old mid → IsMarked K r mid new → IsMarked (H × K) r old new
marked_both (kept h e) (kept k f) = kept (h, k) (f ∙ e)
marked_both {H = H} {K = K} {r = r} (kept h e) (marked never f) = marked (λ (both : H × K). never both.1) (f ∙ ap (λ (m : Option ModeReason). noted m false r) e)
marked_both {H = H} {K = K} (marked never e) (kept k f) = marked (λ (both : H × K). never both.0) (f ∙ e)
marked_both {H = H} {K = K} {r = r} {old = old} (marked never e) (marked other f) = marked (λ (both : H × K). never both.0) (f ∙ ap (λ (m : Option ModeReason). noted m false r) e ∙ twice old r)

module _ (Q : ℕ → ℕ → Type 0) (n pred : ℕ) (r : ModeReason) (old mid new : List (Option ModeReason)) where
  -- one more of the tests, where it holds
  holds_more : (q : ℕ) → Q n q → mark_at new q ≡ mark_at mid q → IsMarked ((j : ℕ) → j < n → Q j q) r (mark_at old q) (mark_at mid q)
      → IsMarked ((j : ℕ) → j < n + 1 → Q j q) r (mark_at old q) (mark_at new q)
  holds_more q one same (kept h e) = kept (below_more (λ j. Q j q) n h one) (same ∙ e)
  holds_more q one same (marked never e) = marked (λ all. never (λ j lt. all j (omega arith))) (same ∙ e)

  -- and where it does not
  fails_more : (q : ℕ) → ¬ Q n q → mark_at new q ≡ noted (mark_at mid q) false r → IsMarked ((j : ℕ) → j < n → Q j q) r (mark_at old q) (mark_at mid q)
      → IsMarked ((j : ℕ) → j < n + 1 → Q j q) r (mark_at old q) (mark_at new q)
  fails_more q wrong same (kept h e) = marked (λ all. wrong (all n (omega arith))) (same ∙ ap (λ (m : Option ModeReason). noted m false r) e)
  fails_more q wrong same (marked never e) = marked (λ all. wrong (all n (omega arith))) (same ∙ ap (λ (m : Option ModeReason). noted m false r) e ∙ twice (mark_at old q) r)

  -- a test of one predicate is added to the tests of all
  pub note_more : (holds : Bool) → ((q : ℕ) → IsMarked ((j : ℕ) → j < n → Q j q) r (mark_at old q) (mark_at mid q)) → IsTrue holds ↔ Q n pred → ((q : ℕ) → (q ≡ pred → ⊥) → Q n q)
      → mark_at new pred ≡ noted (mark_at mid pred) holds r → ((q : ℕ) → (q ≡ pred → ⊥) → mark_at new q ≡ mark_at mid q)
      → (q : ℕ) → IsMarked ((j : ℕ) → j < n + 1 → Q j q) r (mark_at old q) (mark_at new q)
  note_more holds before test others at rest q = elim (cases_eq q pred) [
    | inl same ↦ subst (λ (i : ℕ). IsMarked ((j : ℕ) → j < n + 1 → Q j i) r (mark_at old i) (mark_at new i)) (sym same) (here holds test at)
    | inr other ↦ holds_more q (others q (λ e. absurd (other e))) (rest q (λ e. absurd (other e))) (before q)
  ]
    where
      here : (b : Bool) → IsTrue b ↔ Q n pred → mark_at new pred ≡ noted (mark_at mid pred) b r → IsMarked ((j : ℕ) → j < n + 1 → Q j pred) r (mark_at old pred) (mark_at new pred)
      here true t e = holds_more pred (t.0 refl) e (before pred)
      here false t e = fails_more pred (λ one. let no : false ≡ true = t.1 one in cc) e (before pred)

-- what the marks of a predicate say after all tests
abbrev pub MarkSays : Type 0 → Type 0 → Type 0 → Option ModeReason → Type 0
MarkSays C K M None = C × K × M
MarkSays C K M (Some reason.Ground) = ¬ C
MarkSays C K M (Some reason.Precondition) = C × ¬ K
MarkSays C K M (Some reason.Mode) = C × K × ¬ M

-- a mark stays
stays : {H : Type 0} → {r : ModeReason} → {old new : Option ModeReason} → (first : ModeReason) → old ≡ Some first → IsMarked H r old new → new ≡ Some first
stays first is (kept h e) = e ∙ is
stays {r = r} first is (marked never e) = e ∙ ap (λ (m : Option ModeReason). noted m false r) is

-- a mark where there was none
open_now : {H : Type 0} → {r : ModeReason} → {old new : Option ModeReason} → old ≡ None → ¬ H → new ≡ noted old false r → new ≡ Some r
open_now {r = r} is never e = e ∙ ap (λ (m : Option ModeReason). noted m false r) is

module _ {C U R M : Type 0} {m0 m1 m2 m3 m4 : Option ModeReason} (none : m0 ≡ None) where
  -- the four tests, in order
  pub mark_says : IsMarked C reason.Ground m0 m1 → IsMarked U reason.Precondition m1 m2 → IsMarked R reason.Precondition m2 m3 → IsMarked M reason.Mode m3 m4 → MarkSays C (U × R) M m4
  mark_says (marked never e) u r m = subst (MarkSays C (U × R) M) (sym (stays reason.Ground (stays reason.Ground (stays reason.Ground (open_now {H = C} none never e) u) r) m)) never
  mark_says (kept c e) (marked never f) r m =
      subst (MarkSays C (U × R) M) (sym (stays reason.Precondition (stays reason.Precondition (open_now {H = U} (e ∙ none) never f) r) m)) (c, λ (h : U × R). never h.0)
  mark_says (kept c e) (kept u f) (marked never g) m =
      subst (MarkSays C (U × R) M) (sym (stays reason.Precondition (open_now {H = R} (f ∙ e ∙ none) never g) m)) (c, λ (h : U × R). never h.1)
  mark_says (kept c e) (kept u f) (kept r g) (marked never h) = subst (MarkSays C (U × R) M) (sym (open_now {H = M} (g ∙ f ∙ e ∙ none) never h)) (c, (u, r), never)
  mark_says (kept c e) (kept u f) (kept r g) (kept m h) = subst (MarkSays C (U × R) M) (sym (h ∙ g ∙ f ∙ e ∙ none)) (c, (u, r), m)

-- what holds of the one element at a place
pub at_one : {X : Type 0} → (o : Option X) (x : X) → o ≡ Some x → (holds : Bool) (R : X → Type 0) → ((y : X) → o ≡ Some y → IsTrue holds ↔ R y) → IsTrue holds ↔ ((y : X) → o ≡ Some y → R y)
at_one o x at holds R h = (λ t y e. (h y e).0 t, λ all. (h x at).1 (all x at))
