-- The rows of cells, by places, and of lists of cubes.
use Rattle.std.proofs.Common.{◌≡◌, ◌↔◌, ℕ, zero, suc, ◌+◌, ◌<◌, Bool, true, false, ◌&&◌, ◌||◌, IsTrue, List, [], ◌∷◌, length, take, slice_get, Some, refl, ap, sym, subst, ◌∙◌, arith}
use Rattle.std.specs.List.{list_any}
use Rattle.std.proofs.lemmas.Bool.{and_parts}
use Rattle.bool_diagrams.specs.declared.cube.Cell.{Cell}
use Rattle.bool_diagrams.specs.Cubes.{allows, covers, values_of}
use Rattle.truth_rows.specs.Ready.{HasCells}
use Rattle.truth_rows.proofs.RowLaws.{both, same_bool}

pub cells_cover : (cells : List Cell) (row : List Bool) → length row ≡ length cells → HasCells (values_of row) cells (length cells) → IsTrue (covers cells row)
cells_cover [] [] l h = refl
cells_cover [] (b ∷ row) l h = absurd (omega arith)
cells_cover (c ∷ cells) [] l h = absurd (omega arith)
cells_cover (c ∷ cells) (b ∷ row) l h = both (allows c b) (covers cells row) (h 0 c (omega arith) refl) (cells_cover cells row (omega arith) (λ j x lt e. h (suc j) x (omega arith) e))

pub cover_cells : (cells : List Cell) (row : List Bool) → IsTrue (covers cells row) → HasCells (values_of row) cells (length cells)
cover_cells [] row t j x lt e = absurd (omega arith)
cover_cells (c ∷ cells) [] t j x lt e = cc
cover_cells (c ∷ cells) (b ∷ row) t zero x lt e = let same : c ≡ x = cc in subst (λ (y : Cell). IsTrue (allows y b)) same (and_parts (allows c b) (covers cells row) t).0
cover_cells (c ∷ cells) (b ∷ row) t (suc j) x lt e = cover_cells cells row (and_parts (allows c b) (covers cells row) t).1 j x (omega arith) e

pub covers_is : (cells : List Cell) (row : List Bool) (now : Bool) → length row ≡ length cells → IsTrue now ↔ HasCells (values_of row) cells (length cells) → now ≡ covers cells row
covers_is cells row now l h = same_bool now (covers cells row) (λ t. cells_cover cells row l (h.0 t)) (λ t. h.1 (cover_cells cells row t))

-- a cube of another width covers no such row
pub covers_none : (cells : List Cell) (row : List Bool) → ((length cells ≡ length row) → ⊥) → covers cells row ≡ false
covers_none [] [] ne = absurd (ne refl)
covers_none [] (b ∷ row) ne = refl
covers_none (c ∷ cells) [] ne = refl
covers_none (c ∷ cells) (b ∷ row) ne = let rest = covers_none cells row (λ e. ne (ap suc e)) in go (allows c b) rest
  where
    go : (a : Bool) → covers cells row ≡ false → (a && covers cells row) ≡ false
    go true r = r
    go false r = refl

pub cells_agree : (cells : List Cell) (n : ℕ) (row other : ℕ → Bool) → ((v : ℕ) → v < n → row v ≡ other v) → HasCells row cells n → HasCells other cells n
cells_agree cells n row other agree h j x lt e = subst (λ (b : Bool). IsTrue (allows x b)) (agree j lt) (h j x lt e)

pub cells_read : (cells : List Cell) (n : ℕ) (set : (ℕ → Bool) → Bool) → ((row : ℕ → Bool) → IsTrue (set row) ↔ HasCells row cells n)
    → (row other : ℕ → Bool) → ((v : ℕ) → v < n → row v ≡ other v) → set row ≡ set other
cells_read cells n set h row other agree =
    same_bool (set row) (set other)
    (λ t. (h other).1 (cells_agree cells n row other agree ((h row).0 t)))
    (λ t. (h row).1 (cells_agree cells n other row (λ v lt. sym (agree v lt)) ((h other).0 t)))

or_none : (a : Bool) → (false || a) ≡ (a || false)
or_none true = refl
or_none false = refl

or_assoc : (a b c : Bool) → (a || (b || c)) ≡ ((a || b) || c)
or_assoc true b c = refl
or_assoc false b c = refl

-- one element more
pub any_more : {X : Type 0} → (f : X → Bool) (xs : List X) (n : ℕ) (x : X) → slice_get xs n ≡ Some x → (list_any f (take n xs) || f x) ≡ list_any f (take (suc n) xs)
any_more f [] n x e = cc
any_more f (y ∷ ys) zero x e = let same : y ≡ x = cc in or_none (f x) ∙ ap (λ (z : _). f z || false) (sym same)
any_more f (y ∷ ys) (suc n) x e = sym (or_assoc (f y) (list_any f (take n ys)) (f x)) ∙ ap (λ (b : Bool). f y || b) (any_more f ys n x e)

pub any_next : {X : Type 0} → (f : X → Bool) (xs : List X) (n : ℕ) (x : X) → slice_get xs n ≡ Some x → (list_any f (take n xs) || f x) ≡ list_any f (take (n + 1) xs)
any_next f xs n x e = let next : suc n ≡ n + 1 = omega arith in any_more f xs n x e ∙ ap (λ k. list_any f (take k xs)) next

-- an element that fails the test changes nothing
pub any_skipped : {X : Type 0} → (f : X → Bool) (xs : List X) (n : ℕ) (x : X) → slice_get xs n ≡ Some x → f x ≡ false → list_any f (take n xs) ≡ list_any f (take (n + 1) xs)
any_skipped f xs n x e fails = sym (or_end (list_any f (take n xs))) ∙ (λ i. list_any f (take n xs) || sym fails i) ∙ any_next f xs n x e
  where
    or_end : (a : Bool) → (a || false) ≡ a
    or_end true = refl
    or_end false = refl
