-- Runs of bytes that pass a test.
use Rattle.std.proofs.Common.{◌≡◌, ℕ, ◌+◌, ◌<◌, ◌≤◌, Bool, true, false, cond, List, [], ◌∷◌, ◌++◌, length, take, drop, refl, arith}
use Rattle.std.proofs.Math.Numerals.{one-add}
use Rattle.std.specs.List.{prefix_len}
use Rattle.prolog_tokens.specs.Forms.{Each, IsRun}

-- the first of the bytes passes
abbrev pub begins : (ℕ → Bool) → List ℕ → Bool
begins p [] = false
begins p (b ∷ bs) = p b

module _ (p : ℕ → Bool) where
  -- what is in front of the first byte that fails passes
  pub Each-prefix : (bs : List ℕ) → Each p (take (prefix_len p bs) bs)
  Each-prefix [] = tt
  Each-prefix (b ∷ bs) = by_test (p b) refl (Each-prefix bs)
    where
      by_test : (c : Bool) → p b ≡ c → Each p (take (prefix_len p bs) bs) → Each p (take (cond (p b) (1 + prefix_len p bs) 0) (b ∷ bs))
      by_test true e h = rw (e, one-add) (e, h)
      by_test false e h = rw e tt

  -- if any byte is in front of it, those are a run
  pub IsRun-prefix : (bs : List ℕ) → 0 < prefix_len p bs → IsRun p p (take (prefix_len p bs) bs)
  IsRun-prefix [] h = absurd (omega arith)
  IsRun-prefix (b ∷ bs) h = by_test (p b) refl h
    where
      by_test : (c : Bool) → p b ≡ c → 0 < cond (p b) (1 + prefix_len p bs) 0 → IsRun p p (take (cond (p b) (1 + prefix_len p bs) 0) (b ∷ bs))
      by_test true e h = rw (e, one-add) (e, Each-prefix bs)
      by_test false e h = let none = rw e at h in absurd (omega (arith, none))

  -- what passes from the front on is no longer than that
  pub Each-le : (text after : List ℕ) → Each p text → length text ≤ prefix_len p (text ++ after)
  Each-le [] after h = omega arith
  Each-le (b ∷ bs) after h = rw h.0 (omega (arith, Each-le bs after h.1))

  -- and as long as that, if the next byte fails
  pub prefix_len-Each : (text after : List ℕ) → Each p text → begins p after ≡ false → prefix_len p (text ++ after) ≡ length text
  prefix_len-Each [] [] h stops = refl
  prefix_len-Each [] (b ∷ bs) h stops = rw stops refl
  prefix_len-Each (b ∷ bs) after h stops = rw h.0 (omega (arith, prefix_len-Each bs after h.1 stops))

  -- a byte fails after it
  pub begins-prefix : (bs : List ℕ) → begins p (drop (prefix_len p bs) bs) ≡ false
  begins-prefix [] = refl
  begins-prefix (b ∷ bs) = by_test (p b) refl (begins-prefix bs)
    where
      by_test : (c : Bool) → p b ≡ c → begins p (drop (prefix_len p bs) bs) ≡ false → begins p (drop (cond (p b) (1 + prefix_len p bs) 0) (b ∷ bs)) ≡ false
      by_test true e h = rw (e, one-add) h
      by_test false e h = rw e e

  pub Each-run : (text : List ℕ) → IsRun p p text → Each p text
  Each-run [] h = absurd h
  Each-run (b ∷ bs) h = h

  pub Each-append : (xs ys : List ℕ) → Each p xs → Each p ys → Each p (xs ++ ys)
  Each-append [] ys h k = k
  Each-append (x ∷ xs) ys h k = (h.0, Each-append xs ys h.1 k)

  pub length-run : (q : ℕ → Bool) (text : List ℕ) → IsRun p q text → 0 < length text
  length-run q [] h = absurd h
  length-run q (b ∷ bs) h = omega arith
