-- Texts as a set of the code keeps them.
use Rattle.std.proofs.Common.{◌≡◌, ◌≢◌, ℕ, ◌+◌, ◌<◌, Bool, true, false, not, cond, nat_eq, ◌||◌, List, [], ◌∷◌, ◌++◌, length, map, slice_get, get_or, Some, position, if◌then◌else◌, refl, ap, sym, ◌∙◌, subst, true≢false, Vec, Global, arith}
use Rattle.std.specs.List.{AllPairs, IsDistinct, list_any, position_or_len}
use Rattle.std.specs.Cmp.Lexicographic.{pointwise, bytes_decides}
use Rattle.std.proofs.lemmas.List.{map-append, get_or-map, length-map}
use Rattle.std.proofs.lemmas.Map.Keys.{apart_from_distinct}
use Rattle.cti_terms.specs.Numbers.{number_of, with_text}
use Rattle.cti_terms.proofs.Places.{position-found, at_place, others_stay}

module _ {X Y : Type 0} (f : X → Y) (p : Y → Bool) where
  -- a test of images is a test of the elements
  list_any-map : (xs : List X) → list_any p (map f xs) ≡ list_any (λ x. p (f x)) xs
  list_any-map [] = refl
  list_any-map (x ∷ xs) = ap (λ b. p (f x) || b) (list_any-map xs)

  -- and finds the same place
  position_or_len-map : (xs : List X) → position_or_len p (map f xs) ≡ position_or_len (λ x. p (f x)) xs
  position_or_len-map [] = refl
  position_or_len-map (x ∷ xs) = ap (λ n. cond (not (p (f x))) (1 + n) 0) (position_or_len-map xs)

-- the test of texts finds that text alone
one_text : (text y : List ℕ) → pointwise nat_eq text y ≡ true → y ≡ text
one_text text y h = sym ((bytes_decides text y).0 h)

-- a text is at its number
pub text_at_number : (texts : List (List ℕ)) (text : List ℕ) → slice_get (with_text texts text) (number_of texts text) ≡ Some text
text_at_number texts text = at_place (pointwise nat_eq text) text (one_text text) texts

-- and earlier texts keep theirs
pub texts_stay : (texts : List (List ℕ)) (text : List ℕ) (i : ℕ) → i < length texts → slice_get (with_text texts text) i ≡ slice_get texts i
texts_stay texts text = others_stay (pointwise nat_eq text) text (one_text text) texts

module _ (keys : List (Vec ℕ Global)) where
  -- the texts of the set
  abbrev pub texts : List (Vec ℕ Global) → List (List ℕ)
  texts ks = map (λ k. k.items) ks

  abbrev test : List ℕ → Vec ℕ Global → Bool
  test t k = pointwise nat_eq t k.items

  -- no text is there twice
  pub texts_distinct : IsDistinct (λ (a b : Vec ℕ Global). pointwise nat_eq a.items b.items) keys → AllPairs (λ a b. a ≢ b) (texts keys)
  texts_distinct d i j t l m e = go keys d (subst (λ (n : ℕ). j < n) (length-map keys (λ (k : Vec ℕ Global). k.items)) m) e
    where
      go : (ks : List (Vec ℕ Global)) → IsDistinct (λ (a b : Vec ℕ Global). pointwise nat_eq a.items b.items) ks → j < length ks → get_or (texts ks) i t ≡ get_or (texts ks) j t → ⊥
      go [] d m e = omega (arith, m)
      go (k ∷ ks) d m e =
          let apart = apart_from_distinct (λ (a b : Vec ℕ Global). pointwise nat_eq a.items b.items) (k ∷ ks) i j k d l m in
          let first : get_or (texts (k ∷ ks)) i t ≡ (get_or (k ∷ ks) i k).items = get_or-map (λ (k : Vec ℕ Global). k.items) (k ∷ ks) i k t (omega (arith, l, m)) in
          let second : get_or (texts (k ∷ ks)) j t ≡ (get_or (k ∷ ks) j k).items = get_or-map (λ (k : Vec ℕ Global). k.items) (k ∷ ks) j k t m in
          true≢false (sym ((bytes_decides _ _).1 (sym first ∙ e ∙ second)) ∙ apart)

  module _ (text : List ℕ) where
    pub number_found : (i : ℕ) → Some i ≡ position (test text) keys → i ≡ number_of (texts keys) text
    number_found i h = (position-found (test text) keys i h).0 ∙ sym (position_or_len-map (λ (k : Vec ℕ Global). k.items) (pointwise nat_eq text) keys)

    pub same_texts : true ≡ list_any (test text) keys → texts keys ≡ with_text (texts keys) text
    same_texts h =
        let found : list_any (pointwise nat_eq text) (texts keys) ≡ true = list_any-map (λ (k : Vec ℕ Global). k.items) (pointwise nat_eq text) keys ∙ sym h in
        sym (ap (λ b. if b then texts keys else texts keys ++ text ∷ []) found)

    pub number_inserted : (copy : Vec ℕ Global) (i : ℕ) → copy.items ≡ text → i ≡ position_or_len (test copy.items) keys → i ≡ number_of (texts keys) text
    number_inserted copy i e h = h ∙ ap (λ t. position_or_len (test t) keys) e ∙ sym (position_or_len-map (λ (k : Vec ℕ Global). k.items) (pointwise nat_eq text) keys)

    pub texts_inserted : (copy : Vec ℕ Global) (new : List (Vec ℕ Global)) → copy.items ≡ text → new ≡ (if list_any (test copy.items) keys then keys else keys ++ copy ∷ []) → texts new ≡ with_text (texts keys) text
    texts_inserted copy new e h =
        ap texts h
        ∙ go (list_any (test copy.items) keys)
        ∙ ap (λ t. if list_any (test t) keys then texts keys else texts keys ++ t ∷ []) e
        ∙ sym (ap (λ b. if b then texts keys else texts keys ++ text ∷ []) (list_any-map (λ (k : Vec ℕ Global). k.items) (pointwise nat_eq text) keys))
      where
        go : (b : Bool) → texts (if b then keys else keys ++ copy ∷ []) ≡ (if b then texts keys else texts keys ++ copy.items ∷ [])
        go true = refl
        go false = map-append (λ (k : Vec ℕ Global). k.items) keys (copy ∷ [])
