-- The machine over the code's terms gives the terms of the readings.
use Rattle.std.proofs.Common.{◌≡◌, ℕ, suc, List, [], ◌∷◌, length, map, Option, Bool, true, false, nat_le, ◌≤◌, ◌<◌, arith, refl, ap, sym, ◌∙◌}
use Rattle.std.proofs.lemmas.Bool.{leb-true, leb-false, le-leb}
use Rattle.prolog_grammar.specs.Token.{variable, integer, text, Token}
use Rattle.prolog_grammar.specs.Rules.{Infix, Prefix}
use Rattle.prolog_grammar.specs.Syntax.{Syntax, Syntaxes, leaf, negative, atom, call, prefixed, infixed, listed, listed_to, curled, grouped, nothing, more, row, depth, depth_among, depth_chain, greater, syntax_rules}
use Rattle.prolog_grammar.specs.Machine.{start}
use Rattle.prolog_grammar.specs.Run.{run}
use Rattle.prolog_grammar.specs.Walk.{walk, verdict_map}
use Rattle.prolog_grammar.specs.Placed.{Part, Known, part_of, parts_of, nil_at, chain, value_at, depth_of, capped, deeper, placed_rules}
use Rattle.prolog_grammar.proofs.Walks.{walks}
use Rattle.prolog_grammar.proofs.Maps.{Maps, maps_walk}

-- one term alone is the deepest
pub greater_zero : (d : ℕ) → greater d 0 ≡ d
greater_zero d = by_over (nat_le d 0) refl
  where
    by_over : (over : Bool) → nat_le d 0 ≡ over → greater d 0 ≡ d
    by_over true h = rw h (omega (arith, leb-true d 0 h))
    by_over false h = rw h refl

-- a cell is deeper than the character in it
greater_one : (n : ℕ) → greater 1 (suc n) ≡ suc n
greater_one n = rw (le-leb 1 (suc n) (omega arith)) refl

module _ (limit : ℕ) where
  capped_limit : nat_le limit limit ≡ true
  capped_limit = le-leb limit limit (omega arith)

  capped_over : (d : ℕ) → nat_le limit d ≡ true → capped limit d ≡ limit
  capped_over d h = rw h refl

  capped_under : (d : ℕ) → nat_le limit d ≡ false → capped limit d ≡ d
  capped_under d h = rw h refl

  capped_same : (d : ℕ) → nat_le limit (capped limit d) ≡ nat_le limit d
  capped_same d = by_over (nat_le limit d) refl
    where
      by_over : (over : Bool) → nat_le limit d ≡ over → nat_le limit (capped limit d) ≡ nat_le limit d
      by_over true h = rw h capped_limit
      by_over false h = ap (nat_le limit) (capped_under d h)

  reaches : (d : ℕ) → d < limit → limit ≤ suc d → limit ≡ suc d
  reaches d x y = omega (arith, x, y)

  deeper_capped : (d : ℕ) → deeper limit (capped limit d) ≡ capped limit (suc d)
  deeper_capped d = by_over (nat_le limit d) refl (nat_le limit (suc d)) refl
    where
      by_over : (over : Bool) → nat_le limit d ≡ over → (next : Bool) → nat_le limit (suc d) ≡ next
          → deeper limit (capped limit d) ≡ capped limit (suc d)
      by_over true h next h' = rw (h, capped_limit, le-leb limit (suc d) (omega (arith, leb-true limit d h))) refl
      by_over false h true h' = rw (h, h', h) (sym (reaches d (leb-false limit d h) (leb-true limit (suc d) h')))
      by_over false h false h' = rw (h, h', h) refl

  greater_capped : (a b : ℕ) → greater (capped limit a) (capped limit b) ≡ capped limit (greater a b)
  greater_capped a b = by_over (nat_le limit a) refl (nat_le limit b) refl (nat_le a b) refl
    where
      by_over : (x : Bool) → nat_le limit a ≡ x → (y : Bool) → nat_le limit b ≡ y → (z : Bool) → nat_le a b ≡ z
          → greater (capped limit a) (capped limit b) ≡ capped limit (greater a b)
      by_over true x true y true z = rw (z, x, y, capped_limit) refl
      by_over true x true y false z = rw (z, x, y, capped_limit) refl
      by_over true x false y true z = absurd (omega (arith, leb-true limit a x, leb-false limit b y, leb-true a b z))
      by_over true x false y false z = rw (z, x, y, y) refl
      by_over false x true y true z = rw (z, x, y, le-leb a limit (omega (arith, leb-false limit a x))) refl
      by_over false x true y false z = absurd (omega (arith, leb-false limit a x, leb-true limit b y, leb-false a b z))
      by_over false x false y true z = rw (x, y, z, y) refl
      by_over false x false y false z = rw (x, y, z, x) refl

  parts_row : (names : Known) (ts : List Syntax) → parts_of limit names (row ts) ≡ map (part_of limit names) ts
  parts_row names [] = refl
  parts_row names (t ∷ ts) = ap (λ ps. part_of limit names t ∷ ps) (parts_row names ts)

  zero_capped : 0 ≡ capped limit 0
  zero_capped = by_over (nat_le limit 0) refl
    where
      by_over : (over : Bool) → nat_le limit 0 ≡ over → 0 ≡ capped limit 0
      by_over true h = rw h (omega (arith, leb-true limit 0 h))
      by_over false h = rw h refl

  one_capped : deeper limit 0 ≡ capped limit 1
  one_capped = ap (deeper limit) zero_capped ∙ deeper_capped 0

  -- one level above one term, and above two
  above_one : (a d : ℕ) → a ≡ capped limit d → deeper limit (greater a 0) ≡ capped limit (suc d)
  above_one a d h = ap (deeper limit) (greater_zero a ∙ h) ∙ deeper_capped d

  above_two : (a b d e : ℕ) → a ≡ capped limit d → b ≡ capped limit e → deeper limit (greater a (greater b 0)) ≡ capped limit (suc (greater d e))
  above_two a b d e h h' = ap (deeper limit) (rw (greater_zero b, h, h') (greater_capped d e)) ∙ deeper_capped (greater d e)

  codes_depth : (names : Known) (at : ℕ) (codes : List ℕ) → (value_at limit names at (text codes)).depth ≡ capped limit (suc (length codes))
  codes_depth names at [] = one_capped
  codes_depth names at (c ∷ codes) =
      above_two (deeper limit 0) (value_at limit names at (text codes)).depth 1 (suc (length codes)) one_capped (codes_depth names at codes)
      ∙ ap (λ d. capped limit (suc d)) (greater_one (length codes))

  mutual
    part_depth : (names : Known) (t : Syntax) → (part_of limit names t).depth ≡ capped limit (depth t)
    part_depth names (leaf at (variable v)) = one_capped
    part_depth names (leaf at (integer i)) = one_capped
    part_depth names (leaf at (text codes)) = codes_depth names at codes
    part_depth names (negative at i) = one_capped
    part_depth names (atom h) = one_capped
    part_depth names (call h ts) = ap (deeper limit) (parts_depth names ts) ∙ deeper_capped (depth_among ts)
    part_depth names (prefixed at n t) = above_one (part_of limit names t).depth (depth t) (part_depth names t)
    part_depth names (infixed n t u) =
        above_two (part_of limit names t).depth (part_of limit names u).depth (depth t) (depth u) (part_depth names t) (part_depth names u)
    part_depth names (listed at ts) = chain_depth names at ts (nil_at limit names at) 1 one_capped
    part_depth names (listed_to at ts t) = chain_depth names at ts (part_of limit names t) (depth t) (part_depth names t)
    part_depth names (curled at t) = above_one (part_of limit names t).depth (depth t) (part_depth names t)
    part_depth names (grouped at t) = part_depth names t

    parts_depth : (names : Known) (ts : Syntaxes) → depth_of (parts_of limit names ts) ≡ capped limit (depth_among ts)
    parts_depth names nothing = zero_capped
    parts_depth names (more t ts) = rw (part_depth names t, parts_depth names ts) (greater_capped (depth t) (depth_among ts))

    chain_depth : (names : Known) (at : ℕ) (ts : Syntaxes) (tail : Part) (d : ℕ) → tail.depth ≡ capped limit d
        → (chain limit names at (parts_of limit names ts) tail).depth ≡ capped limit (depth_chain ts d)
    chain_depth names at nothing tail d h = h
    chain_depth names at (more t ts) tail d h =
        above_two (part_of limit names t).depth (chain limit names at (parts_of limit names ts) tail).depth (depth t) (depth_chain ts d) (part_depth names t) (chain_depth names at ts tail d h)

  pub placed : (infixes : ℕ → Option Infix) (prefixes : ℕ → Option Prefix) (names : Known)
      → Maps limit (part_of limit names) (syntax_rules infixes prefixes names.comma) (placed_rules limit infixes prefixes names)
  placed infixes prefixes names = record {
    infixes = refl;
    prefixes = refl;
    comma = refl;
    leaf = λ at v. refl;
    negative = λ at i. refl;
    atom = λ h. refl;
    call = λ h ts. rw (parts_row names ts) refl;
    prefixed = λ at n t. refl;
    infixed = λ n t u. refl;
    listed = λ at ts. rw (parts_row names ts) refl;
    listed_to = λ at ts t. rw (parts_row names ts) refl;
    curled = λ at t. refl;
    grouped = λ at t. refl;
    depth = λ t. ap (nat_le limit) (part_depth names t) ∙ capped_same (depth t);
  }

  -- what the code computes, by what the laws speak of
  pub walks_placed : (infixes : ℕ → Option Infix) (prefixes : ℕ → Option Prefix) (names : Known) (us : List Token)
      → walk limit (placed_rules limit infixes prefixes names) start us ≡ verdict_map (part_of limit names)
      (run limit (syntax_rules infixes prefixes names.comma) start us)
  walks_placed infixes prefixes names us =
      maps_walk (part_of limit names) limit (syntax_rules infixes prefixes names.comma) (placed_rules limit infixes prefixes names) (placed infixes prefixes names) us start
      ∙ ap (verdict_map (part_of limit names)) (sym (walks limit (syntax_rules infixes prefixes names.comma) us start))
