-- Laws of shared rests of goals.
use Rattle.std.proofs.Common.{◌≡◌, ℕ, zero, suc, ◌+◌, ◌<◌, ◌≤◌, List, [], ◌∷◌, ◌++◌, map, length, take, slice_get, Some, ◌⊎◌, inl, inr, length-append, refl, ap, sym, ◌∙◌, subst, arith}
use Rattle.std.proofs.lemmas.List.{get_or_append_left}
use Rattle.std.proofs.Math.Seq.{get_or-append_seam}
use Rattle.cti_terms.specs.declared.atom_list.Atom.{Atom}
use Rattle.cti_terms.specs.Resolve.{raised}
use Rattle.ld_resolver.specs.declared.tails.Tail.{Tail}
use Rattle.ld_resolver.specs.Tails.{tail_at, atoms_of, rests_from, rests_of, IsTail, AreTails}

-- earlier rests stay
pub tail_kept : (rests more : List (List Atom)) (n : ℕ) → n ≤ length rests → tail_at (rests ++ more) n ≡ tail_at rests n
tail_kept rests more zero h = refl
tail_kept rests more (suc i) h = get_or_append_left rests more [] i (omega (arith, h))

longer : (rests : List (List Atom)) (v : List Atom) → length (rests ++ v ∷ []) ≡ length rests + 1
longer rests v = length-append rests (v ∷ [])

rest_stays : (rests : List (List Atom)) (ts : List Tail) (n : ℕ) → n ≤ length rests → tail_at (rests_from rests ts) n ≡ tail_at rests n
rest_stays rests [] n h = refl
rest_stays rests (t ∷ ts) n h =
    rest_stays (rests ++ atoms_of rests t ∷ []) ts n (omega (arith, h, longer rests (atoms_of rests t)))
    ∙ tail_kept rests (atoms_of rests t ∷ []) n h

pub rests_more : (rests : List (List Atom)) (ts : List Tail) (t : Tail) → rests_from rests (ts ++ t ∷ []) ≡ rests_from rests ts ++ atoms_of (rests_from rests ts) t ∷ []
rests_more rests [] t = refl
rests_more rests (u ∷ ts) t = rests_more (rests ++ atoms_of rests u ∷ []) ts t

pub length-rests_from : (rests : List (List Atom)) (ts : List Tail) → length (rests_from rests ts) ≡ length rests + length ts
length-rests_from rests [] = omega arith
length-rests_from rests (t ∷ ts) = omega (arith, length-rests_from (rests ++ atoms_of rests t ∷ []) ts, longer rests (atoms_of rests t))

pub length-rests_of : (ts : List Tail) → length (rests_of ts) ≡ length ts
length-rests_of ts = omega (arith, length-rests_from [] ts)

rest_there : (rests : List (List Atom)) (ts : List Tail) (i : ℕ) (t : Tail) → slice_get ts i ≡ Some t → t.next ≤ length rests + i → tail_at (rests_from rests ts) (suc (length rests + i)) ≡ map (raised t.base) t.atoms.now ++ tail_at (rests_from rests ts) t.next
rest_there rests [] i t h l = cc
rest_there rests (u ∷ ts) zero t h l =
    let same : u ≡ t = cc in
    let end : length rests + 0 ≡ length rests = omega arith in
    ap (λ n. tail_at (rests_from rests (u ∷ ts)) (suc n)) end
    ∙ rest_stays (rests ++ atoms_of rests u ∷ []) ts (suc (length rests)) (omega (arith, longer rests (atoms_of rests u)))
    ∙ get_or-append_seam rests (atoms_of rests u) [] []
    ∙ ap (atoms_of rests) same
    ∙ ap (λ (x : List Atom). map (raised t.base) t.atoms.now ++ x) (sym (rest_stays rests (u ∷ ts) t.next (omega (arith, l))))
rest_there rests (u ∷ ts) (suc i) t h l =
    let next = rests ++ atoms_of rests u ∷ [] in
    let count = longer rests (atoms_of rests u) in
    let at : length next + i ≡ length rests + suc i = omega (arith, count) in
    ap (λ n. tail_at (rests_from rests (u ∷ ts)) (suc n)) (sym at)
    ∙ rest_there next ts i t h (omega (arith, l, at))

-- the first rests stay where the later ones are given back
pub rests_kept : (rests : List (List Atom)) (ts : List Tail) (count n : ℕ) → n ≤ length rests + count → tail_at (rests_from rests (take count ts)) n ≡ tail_at (rests_from rests ts) n
rests_kept rests [] zero n h = refl
rests_kept rests [] (suc count) n h = refl
rests_kept rests (t ∷ ts) zero n h = sym (rest_stays rests (t ∷ ts) n (omega (arith, h)))
rests_kept rests (t ∷ ts) (suc count) n h =
    rests_kept (rests ++ atoms_of rests t ∷ []) ts count n (omega (arith, h, longer rests (atoms_of rests t)))

taken_there : (ts : List Tail) (count i : ℕ) (t : Tail) → slice_get (take count ts) i ≡ Some t → slice_get ts i ≡ Some t
taken_there [] zero i t h = h
taken_there [] (suc count) i t h = h
taken_there (u ∷ ts) zero i t h = cc
taken_there (u ∷ ts) (suc count) zero t h = h
taken_there (u ∷ ts) (suc count) (suc i) t h = taken_there ts count i t h

-- fewer
pub tails_fewer : (ts : List Tail) (count : ℕ) → AreTails ts → AreTails (take count ts)
tails_fewer ts count all i t h = all i t (taken_there ts count i t h)

-- what a rest is
pub rest_is : (ts : List Tail) (i : ℕ) (t : Tail) → slice_get ts i ≡ Some t → AreTails ts → tail_at (rests_of ts) (suc i) ≡ map (raised t.base) t.atoms.now ++ tail_at (rests_of ts) t.next
rest_is ts i t h all =
    let at : 0 + i ≡ i = omega arith in
    ap (λ n. tail_at (rests_of ts) (suc n)) (sym at) ∙ rest_there [] ts i t h (let e = (all i t h).earlier in omega (arith, e))

-- an element of a list with one more at the end
pub old_or_last : (ts : List Tail) (t u : Tail) (i : ℕ) → slice_get (ts ++ t ∷ []) i ≡ Some u → (slice_get ts i ≡ Some u) ⊎ ((i ≡ length ts) × (t ≡ u))
old_or_last [] t u zero h = inr (refl, cc)
old_or_last [] t u (suc i) h = cc
old_or_last (v ∷ ts) t u zero h = inl h
old_or_last (v ∷ ts) t u (suc i) h = elim (old_or_last ts t u i h) [ inl l ↦ inl l | inr r ↦ inr (ap suc r.0, r.1) ]

-- one more
pub tails_more : (ts : List Tail) (t : Tail) → AreTails ts → t.next ≤ length ts → 0 < length t.atoms.now → AreTails (ts ++ t ∷ [])
tails_more ts t all e a i u h = elim (old_or_last ts t u i h) [
  | inl l ↦ all i u l
  | inr r ↦ subst (IsTail i) r.1 (record { earlier = subst (λ (n : ℕ). t.next ≤ n) (sym r.0) e; atoms = a })
]
