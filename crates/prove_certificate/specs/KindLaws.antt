-- Private.
-- The word of a kind takes some bytes. Nothing here has to be believed.
use Rattle.std.proofs.Common.{◌≡◌, ℕ, ◌<◌, List, length, take, drop, Some, None, option_map, ap, arith, lit≤}
use Rattle.std.proofs.lemmas.List.{length-drop, length-take}
use Rattle.std.proofs.NetLemmas.Options.{cond_some, map_some}
use Rattle.std.specs.Prelude.{codes, nat_eq}
use Rattle.std.specs.Cmp.Lexicographic.{as_long}
use Rattle.certificate.specs.Parse.{Read, after, ◌or_else◌}
use Rattle.certificate.specs.Shortening.{Shortens}
use Rattle.prove_certificate.specs.Parse.{read_kind}
use Rattle.prove_certificate.specs.declared.kind.CertKind.{CertKind}
use Rattle.prove_certificate.specs.declared.kind.CertKind.TheVariants as kind

abbrev worded : CertKind → List ℕ → List ℕ → Read CertKind
worded k literal s = option_map (λ t. (k, t)) (after literal s)

-- what follows a text of some bytes is shorter
word_shortens : (literal s t : List ℕ) → 0 < length literal → after literal s ≡ Some t → length t < length s
word_shortens literal s t some e =
    let (same, rest) = cond_some _ (drop (length literal) s) t e in
    let long = as_long nat_eq (take (length literal) s) literal same in
    let front = length-take (length literal) s in
    let left = length-drop (length literal) s in
    rw (← rest) (omega (arith, long, front, left, some))

worded_shortens : (k : CertKind) (literal : List ℕ) → 0 < length literal → Shortens (worded k literal)
worded_shortens k literal some s t x e =
    map_some pair (after literal s) (x, t) e λ u at same. rw (← ap (λ p. p.1) same) (word_shortens literal s u some at)
  where
    pair : List ℕ → CertKind × List ℕ
    pair u = (k, u)

either_shortens : (s t : List ℕ) (x : CertKind) (o p : Read CertKind) → (o ≡ Some (x, t) → length t < length s) → (p ≡ Some (x, t) → length t < length s)
    → (o or_else p) ≡ Some (x, t) → length t < length s
either_shortens s t x None p h k e = k e
either_shortens s t x (Some q) p h k e = h e

pub kind_shortens : Shortens read_kind
unfolding read_kind
kind_shortens s t x e =
    either_shortens s t x (worded kind.Size (codes "size") s) _ (worded_shortens kind.Size (codes "size") (lit≤ tt) s t x)
    (worded_shortens kind.Number (codes "number") (lit≤ tt) s t x) e
