-- Lemmas on what is left to be written.
use Rattle.std.proofs.Common.{◌≡◌, ℕ, ◌+◌, List, [], ◌∷◌, ◌++◌, sym, ap, ◌∙◌, append_assoc, append-nil, arith}
use Rattle.term_text.specs.declared.part.Part.{Part}
use Rattle.term_text.specs.Left.{part_text, left_text, part_work, left_work}

-- the part that was put there last is written first
pub left_text-append : (names : List (List ℕ)) (ps qs : List Part) → left_text names (ps ++ qs) ≡ left_text names qs ++ left_text names ps
left_text-append names [] qs = sym (append-nil (left_text names qs))
left_text-append names (p ∷ ps) qs = ap (λ t. t ++ part_text names p) (left_text-append names ps qs) ∙ append_assoc (left_text names qs) (left_text names ps) (part_text names p)

pub left_work-append : (ps qs : List Part) → left_work (ps ++ qs) ≡ left_work ps + left_work qs
left_work-append [] qs = omega arith
left_work-append (p ∷ ps) qs = let rest = left_work-append ps qs in omega (arith, rest)

-- what is begun and what is left of it are the whole
pub begun : (before front rest after written left : List ℕ) → written ≡ before ++ front → left ≡ rest ++ after → written ++ left ≡ before ++ (front ++ rest) ++ after
begun before front rest after written left w l = rw (w, l) (sym (append_assoc (before ++ front) rest after) ∙ ap (λ t. t ++ after) (append_assoc before front rest))

-- two parts that were put there are written before the rest
pub placed : (names : List (List ℕ)) (first second : Part) (old mid new : List Part) → mid ≡ old ++ second ∷ [] → new ≡ mid ++ first ∷ []
    → left_text names new ≡ part_text names first ++ part_text names second ++ left_text names old
placed names first second old mid new one two = rw (two, one)
    (left_text-append names (old ++ second ∷ []) (first ∷ []) ∙ ap (λ t. part_text names first ++ t) (left_text-append names old (second ∷ []))
    ∙ sym (append_assoc (part_text names first) (part_text names second) (left_text names old)))

pub work_placed : (first second : Part) (old mid new : List Part) → mid ≡ old ++ second ∷ [] → new ≡ mid ++ first ∷ [] → left_work new ≡ part_work first + part_work second + left_work old
work_placed first second old mid new one two =
    let a = left_work-append (old ++ second ∷ []) (first ∷ []) in
    let b = left_work-append old (second ∷ []) in
    rw (two, one) (omega (arith, a, b))

-- the part that is taken from the stack, and those that stay
pub taken_text : (names : List (List ℕ)) (all rest : List Part) (p : Part) → all ≡ rest ++ p ∷ [] → left_text names all ≡ part_text names p ++ left_text names rest
taken_text names all rest p e = rw e (left_text-append names rest (p ∷ []))

pub taken_work : (all rest : List Part) (p : Part) → all ≡ rest ++ p ∷ [] → left_work all ≡ part_work p + left_work rest
taken_work all rest p e = let a = left_work-append rest (p ∷ []) in rw e (omega (arith, a))
