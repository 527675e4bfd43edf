-- Loads that are left out because all their values are 0.
use Rattle.std.proofs.Common.{◌≡◌, ◌⊎◌, ℕ, zero, suc, ◌==◌, ℤ, pos, Bool, true, false, if◌then◌else◌, List, [], ◌∷◌, take, inl, inr, refl, ap, ◌∙◌, arith}
use Rattle.std.proofs.lemmas.Int.{ints}
use Rattle.exact128.specs.Fits.{fits}
use Rattle.exact128.specs.Sums.{dot, entry}
use Rattle.linear_rows.specs.Replacing.{row_fits}
use Rattle.number_tests.proofs.SumLists.{entry_sum}
use Rattle.number_tests.specs.Refuting.{SumsFit}
use Rattle.termination_model.specs.mappings.Refutation.{Load, gather}
use Rattle.termination_model.specs.sizes.Rows.{added}
use Rattle.level_systems.specs.Refuted.{IsNought}
use Rattle.std.proofs.lemmas.Bool.{and_from, and_parts}

pub nought_head : (z : ℤ) (zs : List ℤ) → IsNought (z ∷ zs) → z ≡ pos 0
nought_head z zs h = h 0 z (omega arith)

pub nought_tail : (z : ℤ) (zs : List ℤ) → IsNought (z ∷ zs) → IsNought zs
nought_tail z zs h k d lt = h (suc k) d (omega (arith, lt))

pub dot_nought : (e zs : List ℤ) → IsNought zs → dot e zs ≡ pos 0
unfolding dot
dot_nought [] zs h = refl
dot_nought (a ∷ e) [] h = refl
dot_nought (a ∷ e) (z ∷ zs) h =
    let here = nought_head z zs h in
    let rest = dot_nought e zs (nought_tail z zs h) in
    rw here (omega (arith, ints, rest))

entry_nought : (zs : List ℤ) (k : ℕ) → IsNought zs → entry zs k ≡ pos 0
entry_nought [] k h = refl
entry_nought (z ∷ zs) zero h = nought_head z zs h
entry_nought (z ∷ zs) (suc k) h = entry_nought zs k (nought_tail z zs h)

-- the second list is the first without loads whose values are all 0
abbrev pub AreLeft : List Load → List Load → Type 0
AreLeft [] gs = gs ≡ []
AreLeft (h ∷ hs) gs = (IsNought h.1 × AreLeft hs gs) ⊎ ((ks : List Load) × (gs ≡ h ∷ ks) × AreLeft hs ks)

-- they gather the same
gather_left : (b : Bool) (xs ys zs : List ℤ) (i : ℕ) → IsNought xs → entry zs i ≡ entry ys i → entry zs i ≡ entry (if b then added xs ys else ys) i
gather_left true xs ys zs i h e = let s = entry_sum xs ys i in let z = entry_nought xs i h in omega (arith, ints, s, z, e)
gather_left false xs ys zs i h e = e

gather_both : (b : Bool) (xs ys zs : List ℤ) (i : ℕ) → entry zs i ≡ entry ys i → entry (if b then added xs zs else zs) i ≡ entry (if b then added xs ys else ys) i
gather_both true xs ys zs i e = let s = entry_sum xs ys i in let t = entry_sum xs zs i in omega (arith, ints, s, t, e)
gather_both false xs ys zs i e = e

pub gathers_same : (hs gs : List Load) → AreLeft hs gs → (q i : ℕ) → entry (gather q gs) i ≡ entry (gather q hs) i
gathers_same [] gs e q i = ap (λ (ks : List Load). entry (gather q ks) i) e
gathers_same (h ∷ hs) gs (inl l) q i = gather_left (h.0 == q) h.1 (gather q hs) (gather q gs) i l.0 (gathers_same hs gs l.1 q i)
gathers_same (h ∷ hs) gs (inr l) q i =
    ap (λ (ks : List Load). entry (gather q ks) i) l.1 ∙ gather_both (h.0 == q) h.1 (gather q hs) (gather q l.0) i (gathers_same hs l.0 l.2 q i)

taken_none : {X : Type 0} (k : ℕ) → take {A = X} k [] ≡ []
taken_none zero = refl
taken_none (suc k) = refl

-- so do their first loads
firsts_left : (hs gs : List Load) → AreLeft hs gs → (k : ℕ) → (j : ℕ) × AreLeft (take j hs) (take k gs)
firsts_left [] gs e k = (0, ap (take k) e ∙ taken_none k)
firsts_left (h ∷ hs) gs (inl l) k = let r = firsts_left hs gs l.1 k in (suc r.0, inl (l.0, r.1))
firsts_left (h ∷ hs) gs (inr l) zero = (0, refl)
firsts_left (h ∷ hs) gs (inr l) (suc k) = let r = firsts_left hs l.0 l.2 k in (suc r.0, inr (take k l.0, ap (take (suc k)) l.1, r.1))

entries_fit : (r : List ℤ) → row_fits r ≡ true → (k : ℕ) → fits (entry r k) ≡ true
entries_fit [] h k = refl
entries_fit (z ∷ zs) h zero = (and_parts (fits z) (row_fits zs) h).0
entries_fit (z ∷ zs) h (suc k) = entries_fit zs (and_parts (fits z) (row_fits zs) h).1 k

fit_entries : (r : List ℤ) → ((k : ℕ) → fits (entry r k) ≡ true) → row_fits r ≡ true
fit_entries [] h = refl
fit_entries (z ∷ zs) h = and_from (fits z) (row_fits zs) (h 0) (fit_entries zs (λ k. h (suc k)))

pub sums_fit : (hs gs : List Load) → AreLeft hs gs → ((k q : ℕ) → row_fits (gather q (take k hs)) ≡ true) → SumsFit gs
sums_fit hs gs l h k q =
    let (j, first) = firsts_left hs gs l k in
    fit_entries (gather q (take k gs)) (λ i. ap fits (gathers_same (take j hs) (take k gs) first q i) ∙ entries_fit (gather q (take j hs)) (h j q) i)
