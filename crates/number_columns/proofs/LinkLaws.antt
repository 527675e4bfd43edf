-- Linked nodes: what the steps of finding and linking keep.
use Rattle.std.proofs.Common.{◌≡◌, ◌∙◌, ℕ, zero, suc, ◌+◌, ◌<◌, ◌≤◌, List, length, get_or, set, inl, inr, refl, ap, sym, subst, arith, length-set, get_or-set_same, get_or-set_other}
use Rattle.std.proofs.lemmas.Bool.{cases_eq}
use Rattle.number_columns.specs.Links.{AreFalling, AreLinked, LinksMore, NoPair, Respects, ThisPair, parent}

pub links_none : (ps : List ℕ) → AreFalling ps → LinksMore NoPair ps ps
links_none ps h = record { count = refl; falling = h; keeps = λ f k. k; only = λ f no k. k }

-- one after the other
pub links_then : (pairs before after : ℕ → ℕ → Type 0) (a b c : List ℕ) → ((n m : ℕ) → before n m → pairs n m) → ((n m : ℕ) → after n m → pairs n m)
    → LinksMore before a b → LinksMore after b c → LinksMore pairs a c
links_then pairs before after a b c first second h k = record {
  count = k.count ∙ h.count;
  falling = k.falling;
  keeps = λ f r. h.keeps f (k.keeps f r);
  only = λ f all r. k.only f (λ n m p. all n m (second n m p)) (h.only f (λ n m p. all n m (first n m p)) r);
}

pub links_wider : (pairs fewer : ℕ → ℕ → Type 0) (a b : List ℕ) → ((n m : ℕ) → fewer n m → pairs n m) → LinksMore fewer a b → LinksMore pairs a b
links_wider pairs fewer a b more h = record {
  count = h.count;
  falling = h.falling;
  keeps = h.keeps;
  only = λ f all r. h.only f (λ n m p. all n m (more n m p)) r;
}

module _ (ps : List ℕ) (at next : ℕ) (falling : AreFalling ps) (known : at < length ps) where
  same_at : parent (set ps at next) at ≡ next
  same_at = get_or-set_same ps at next 0 known

  other_at : (i : ℕ) → (i ≡ at → ⊥) → parent (set ps at next) i ≡ parent ps i
  other_at i h = get_or-set_other ps at i next 0 h

  set_falling : next ≤ at → AreFalling (set ps at next)
  set_falling le i lt = elim (cases_eq i at) [
    | inl e ↦ omega (arith, e, ap (parent (set ps at next)) e, same_at)
    | inr ne ↦ omega (arith, other_at i ne, falling i (omega (arith, lt, length-set ps at next)))
  ]

  -- a node's parent gives way to its parent's parent
  pub halved : (above : ℕ) → parent ps at ≡ above → parent ps above ≡ next → LinksMore NoPair ps (set ps at next)
  halved above up higher = record {
    count = length-set ps at next;
    falling = set_falling (omega (arith, low, falling above lower, higher));
    keeps = kept;
    only = λ f no r. kept_on f r;
  }
    where
      low : above ≤ at
      low = omega (arith, falling at known, up)

      lower : above < length ps
      lower = omega (arith, low, known)

      kept : (f : ℕ → ℕ) → Respects f (set ps at next) → Respects f ps
      kept f r i lt = elim (cases_eq i at) [
        | inl e ↦ ap (λ (k : ℕ). f (parent ps k)) e ∙ ap f up ∙ here ∙ ap f (sym e)
        | inr ne ↦ ap f (sym (other_at i ne)) ∙ r i (omega (arith, lt, length-set ps at next))
      ]
        where
          at_next : f next ≡ f at
          at_next = ap f (sym same_at) ∙ r at (omega (arith, known, length-set ps at next))

          here : f above ≡ f at
          here = elim (cases_eq above at) [
            | inl e ↦ ap f e
            | inr ne ↦ sym (r above (omega (arith, lower, length-set ps at next))) ∙ ap f (other_at above ne ∙ higher) ∙ at_next
          ]

      kept_on : (f : ℕ → ℕ) → Respects f ps → Respects f (set ps at next)
      kept_on f r i lt = elim (cases_eq i at) [
        | inl e ↦ ap (λ (k : ℕ). f (parent (set ps at next) k)) e ∙ ap f same_at ∙ ap f (sym higher) ∙ r above lower ∙ ap f (sym up) ∙ r at known ∙ ap f (sym e)
        | inr ne ↦ ap f (other_at i ne) ∙ r i (omega (arith, lt, length-set ps at next))
      ]

  -- a node that stands for its set gets a parent
  pub set_root : (pairs : ℕ → ℕ → Type 0) → next ≤ at → parent ps at ≡ at → ((f : ℕ → ℕ) → ((n m : ℕ) → pairs n m → f n ≡ f m) → Respects f ps → f next ≡ f at) → LinksMore pairs ps (set ps at next)
  set_root pairs le root linked = record {
    count = length-set ps at next;
    falling = set_falling le;
    keeps = λ f r i lt. elim (cases_eq i at) [
      | inl e ↦ ap f (ap (parent ps) e ∙ root ∙ sym e)
      | inr ne ↦ ap f (sym (other_at i ne)) ∙ r i (omega (arith, lt, length-set ps at next))
    ];
    only = λ f all r i lt. elim (cases_eq i at) [
      | inl e ↦ ap (λ (k : ℕ). f (parent (set ps at next) k)) e ∙ ap f same_at ∙ linked f all r ∙ ap f (sym e)
      | inr ne ↦ ap f (other_at i ne) ∙ r i (omega (arith, lt, length-set ps at next))
    ];
  }

  pub set_linked : (f : ℕ → ℕ) → Respects f (set ps at next) → f next ≡ f at
  set_linked f r = ap f (sym same_at) ∙ r at (omega (arith, known, length-set ps at next))

  -- a node that does not stand for its set leaves those that do
  pub roots_kept : (parent ps at ≡ at → ⊥) → (i : ℕ) → parent ps i ≡ i → parent (set ps at next) i ≡ i
  roots_kept stays i e = elim (cases_eq i at) [
    | inl same ↦ absurd (stays (ap (parent ps) (sym same) ∙ e ∙ same))
    | inr ne ↦ other_at i ne ∙ e
  ]
