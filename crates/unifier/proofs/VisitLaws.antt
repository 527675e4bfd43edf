-- Laws of visited variables and their flags.
use Rattle.std.proofs.Common.{◌≡◌, ◌≢◌, ℕ, zero, suc, ◌+◌, ◌<◌, Bool, true, false, ◌||◌, ◌==◌, List, [], ◌∷◌, ◌++◌, length, drop, set, get_or, refl, ap, sym, ◌∙◌, arith, eqb-true}
use Rattle.std.proofs.lemmas.List.{at_drop_more}
use Rattle.unifier.specs.Visits.{is_among, flag, AreFlags}
use Rattle.unifier.proofs.StoreLaws.{eqb_same}
use Rattle.unifier.proofs.PendingLaws.{or_second_true, or_second_false}

pub off : false ≡ true → ⊥
off h = cc

set_same : (fs : List Bool) (i : ℕ) (v : Bool) → i < length fs → flag (set fs i v) i ≡ v
set_same [] i v h = absurd (omega (arith, h))
set_same (f ∷ fs) zero v h = refl
set_same (f ∷ fs) (suc i) v h = set_same fs i v (omega (arith, h))

set_other : (fs : List Bool) (i j : ℕ) (v : Bool) → i ≢ j → flag (set fs i v) j ≡ flag fs j
set_other [] i j v h = refl
set_other (f ∷ fs) zero zero v h = absurd (h refl)
set_other (f ∷ fs) zero (suc j) v h = refl
set_other (f ∷ fs) (suc i) zero v h = refl
set_other (f ∷ fs) (suc i) (suc j) v h = set_other fs i j v (λ e. h (ap suc e))

flag_within : (fs : List Bool) (i : ℕ) → flag fs i ≡ true → i < length fs
flag_within [] i h = cc
flag_within (f ∷ fs) zero h = omega arith
flag_within (f ∷ fs) (suc i) h = let k = flag_within fs i h in omega (arith, k)

differs : (y x : ℕ) → (y == x) ≡ false → y ≢ x
differs y x h = λ e. off (sym h ∙ ap (λ z. y == z) (sym e) ∙ eqb_same y)

among_more : (ys : List ℕ) (y x : ℕ) → is_among (ys ++ y ∷ []) x ≡ (is_among ys x || (y == x))
among_more [] y x = go (y == x)
  where
    go : (b : Bool) → (b || false) ≡ b
    go true = refl
    go false = refl
among_more (z ∷ ys) y x = ap (λ b. (z == x) || b) (among_more ys y x) ∙ go (z == x)
  where
    go : (b : Bool) → (b || (is_among ys x || (y == x))) ≡ ((b || is_among ys x) || (y == x))
    go true = refl
    go false = refl

-- one more variable
pub flags_more : (fs : List Bool) (ys : List ℕ) (y : ℕ) → AreFlags fs ys → y < length fs → AreFlags (set fs y true) (ys ++ y ∷ [])
flags_more fs ys y h within x = go (y == x) refl
  where
    go : (b : Bool) → (y == x) ≡ b → flag (set fs y true) x ≡ is_among (ys ++ y ∷ []) x
    go true e = ap (flag (set fs y true)) (sym (eqb-true y x e)) ∙ set_same fs y true within ∙ sym (among_more ys y x ∙ or_second_true (is_among ys x) (y == x) e)
    go false e = set_other fs y x true (differs y x e) ∙ h x ∙ sym (among_more ys y x ∙ or_second_false (is_among ys x) (y == x) e)

among_at : (ys : List ℕ) (i y : ℕ) → i < length ys → y ≡ get_or ys i y → is_among ys y ≡ true
among_at [] i y h e = absurd (omega (arith, h))
among_at (z ∷ ys) zero y h e = ap (λ b. b || is_among ys y) (ap (λ w. w == y) (sym e) ∙ eqb_same y)
among_at (z ∷ ys) (suc i) y h e = or_second_true (z == y) (is_among ys y) (among_at ys i y (omega (arith, h)) e)

-- each of the variables has a flag
pub among_within : (fs : List Bool) (ys : List ℕ) (i y : ℕ) → AreFlags fs ys → i < length ys → y ≡ get_or ys i y → y < length fs
among_within fs ys i y h within e = flag_within fs y (h y ∙ among_at ys i y within e)

among_left : (ys : List ℕ) (i y x : ℕ) → i < length ys → y ≡ get_or ys i y → is_among (drop i ys) x ≡ ((y == x) || is_among (drop (i + 1) ys) x)
among_left ys i y x h e = at_drop_more (λ (l : List ℕ). is_among l x) ys i y h ∙ ap (λ z. (z == x) || is_among (drop (i + 1) ys) x) (sym e)

-- one flag is lowered
pub flags_less : (fs : List Bool) (ys : List ℕ) (i y : ℕ) → ((x : ℕ) → flag fs x ≡ true → is_among (drop i ys) x ≡ true) → i < length ys → y ≡ get_or ys i y → y < length fs → (x : ℕ) → flag (set fs y false) x ≡ true → is_among (drop (i + 1) ys) x ≡ true
flags_less fs ys i y h within e small x up = go (y == x) refl
  where
    go : (b : Bool) → (y == x) ≡ b → is_among (drop (i + 1) ys) x ≡ true
    go true d =
        let down = set_same fs y false small in
        let at = ap (flag (set fs y false)) (eqb-true y x d) in
        absurd (off (sym down ∙ at ∙ up))
    go false d =
        let was = h x (sym (set_other fs y x false (differs y x d)) ∙ up) in
        sym (among_left ys i y x within e ∙ ap (λ b. b || is_among (drop (i + 1) ys) x) d) ∙ was

-- no flag is up
pub flags_down : (b : Bool) → (b ≡ true → false ≡ true) → b ≡ false
flags_down true h = sym (h refl)
flags_down false h = refl
