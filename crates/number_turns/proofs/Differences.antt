-- Differences of naturals, one by one.
use Rattle.std.proofs.Common.{◌≡◌, ℕ, ◌+◌, ◌<◌, ℤ, pos, true, false, Bool, List, [], ◌∷◌, ◌++◌, map, drop, length, get_or, refl, ap, sym, ◌∙◌, arith}
use Rattle.std.specs.Prelude.{◌-ℤ◌, ◌&&◌}
use Rattle.std.proofs.lemmas.List.{get_or-drop, get_or-map}
use Rattle.exact128.specs.Fits.{fits}
use Rattle.linear_rows.specs.Replacing.{row_fits}
use Rattle.transitions.specs.Templates.{differences}

-- the numbers of a list of naturals, by their places
pub natural_at : (ws : List ℤ) (vs : List ℕ) (i : ℕ) → ws ≡ map pos vs → i < length vs → get_or ws i (pos 0) ≡ pos (get_or vs i 0)
natural_at ws vs i e lt = ap (λ s. get_or s i (pos 0)) e ∙ get_or-map pos vs i 0 (pos 0) lt

pub later_at : (ws : List ℤ) (vs : List ℕ) (n i : ℕ) → ws ≡ map pos vs → n + i < length vs → get_or ws (n + i) (pos 0) ≡ pos (get_or (drop n vs) i 0)
later_at ws vs n i e lt = natural_at ws vs (n + i) e lt ∙ ap pos (sym (get_or-drop n vs i 0))

pub differences_more : (cs ds : List ℕ) (c d : ℕ) → length cs ≡ length ds → differences (cs ++ c ∷ []) (ds ++ d ∷ []) ≡ differences cs ds ++ (pos c -ℤ pos d) ∷ []
differences_more [] [] c d l = refl
differences_more [] (e ∷ ds) c d l = absurd (omega arith)
differences_more (b ∷ cs) [] c d l = absurd (omega arith)
differences_more (b ∷ cs) (e ∷ ds) c d l = ap (λ s. (pos b -ℤ pos e) ∷ s) (differences_more cs ds c d (omega arith))

pub fits_more : (zs : List ℤ) (z : ℤ) → row_fits zs ≡ true → fits z ≡ true → row_fits (zs ++ z ∷ []) ≡ true
fits_more [] z h e = ap (λ b. b && true) e
fits_more (y ∷ zs) z h e = go (fits y) (fits_more zs z) h
  where
    go : (b : Bool) → (row_fits zs ≡ true → fits z ≡ true → row_fits (zs ++ z ∷ []) ≡ true) → (b && row_fits zs) ≡ true → (b && row_fits (zs ++ z ∷ [])) ≡ true
    go true rest h = rest h e
    go false rest h = cc
